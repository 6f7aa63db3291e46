use Rattle.std.proofs.Common.{◌≡◌, ℕ, ◌+◌, ◌<◌, ◌++◌, ◌∷◌, [], length, List, sym, subst, ◌∙◌, ap, refl, map, inl, inr, arith, eq-eqb, None, Some}
use Rattle.std.proofs.lemmas.Bool.{false≢true, eqb-true}
use Rattle.std.proofs.lemmas.Bool.Decides.{Decides-eqb}
use Rattle.std.proofs.lemmas.List.{map-append}
use Rattle.std.proofs.lemmas.Slice.Eq.{strip_prefix_is}
use Rattle.npp_frac.specs.Rational.{Rational}
use Rattle.npp_frac.specs.Wide.{value_of_wide}
use Rattle.npp_net.specs.Network.{toll_count}
use Rattle.npp_toll_text.specs.declared.refusal.TollsRefusal.TheVariants.{Line}
use Rattle.npp_toll_text.specs.Refused.{IsRefusedLine}
use Rattle.npp_toll_text.specs.TollsText.{header}
use Rattle.npp_toll_text.proofs.LineLaws.{one_refused_line, text_or_refused}
use Rattle.npp_toll_text.proofs.ReadingLemmas.{HasRead, no_text, read_none, read_more, refused_first, refused_next, whole_text}
use Rattle.npp_toll_text.proofs.reading.read_tolls.Goals as goal

nil_of_length : (xs : List ℕ) → length xs ≡ 0 → xs ≡ []
nil_of_length [] e = refl
nil_of_length (x ∷ xs) e = absurd (omega arith)

pub returns-in_default-clause-named : goal.returns-in_default-clause-named
returns-in_default-clause-named c number r =
    let begins = strip_prefix_is Decides-eqb c.args.bytes.now header None c.in_default.ensures.cases in
    let first = refused_first c.args.instance.now.arcs c.args.bytes.now begins in
    inl (ap Line (one_refused_line c.args.instance.now.arcs c.tolls-count.ensures.limits.tolls c.args.bytes.now 1 number first r))

pub loop-number-init : goal.loop-number-init
loop-number-init c =
    let begins = strip_prefix_is Decides-eqb c.args.bytes.now header (Some c.in-Some.rest) c.in-Some.ensures.cases in
    let P : List Rational → Type 0 = λ tolls. HasRead c.args.instance.now.arcs c.args.bytes.now 0 tolls c.in-Some.rest.now in
    subst P (sym (ap (map value_of_wide) c.new-tolls.ensures.items)) (read_none c.args.instance.now.arcs c.args.bytes.now c.in-Some.rest.now begins)

pub returns-in_default-next_toll-clause-each : goal.returns-in_default-next_toll-clause-each
returns-in_default-next_toll-clause-each c ts t =
    absurd (no_text c.args.instance.now.arcs c.args.bytes.now c.loop-number.number _ _ c.loop-number.invariant (omega arith) c.in_default-next_toll.ensures.each ts t)

pub returns-in_default-next_toll-clause-refused : goal.returns-in_default-next_toll-clause-refused
returns-in_default-next_toll-clause-refused c number e =
    let within : c.loop-number.number < toll_count c.args.instance.now.arcs = omega arith in
    let same : c.loop-number.number + 2 ≡ number = cc in
    let P : ℕ → Type 0 = λ n. IsRefusedLine c.args.instance.now.arcs c.args.bytes.now n in
    subst P same
    (refused_next c.args.instance.now.arcs c.args.bytes.now c.loop-number.number _ _ c.loop-number.invariant (omega arith)
    (λ value after l. c.in_default-next_toll.ensures.each value after) (inr within))

pub returns-in_default-next_toll-clause-named : goal.returns-in_default-next_toll-clause-named
returns-in_default-next_toll-clause-named c number r =
    let here = returns-in_default-next_toll-clause-refused c (c.loop-number.number + 2) refl in
    inl (ap Line (one_refused_line c.args.instance.now.arcs c.tolls-count.ensures.limits.tolls c.args.bytes.now (c.loop-number.number + 2) number here r))

pub returns-then-is_empty-clause-named : goal.returns-then-is_empty-clause-named
returns-then-is_empty-clause-named c number r =
    let all : c.loop-number.number ≡ toll_count c.args.instance.now.arcs = omega arith in
    let none = nil_of_length c.loop-number.rest.now (eqb-true _ _ (sym c.is_empty.ensures ∙ c.if-is_empty.true)) in
    let text = whole_text c.args.instance.now.arcs c.args.bytes.now c.loop-number.number _ _ c.loop-number.invariant all none in
    text_or_refused c.args.instance.now.arcs c.tolls-count.ensures.limits.tolls c.args.bytes.now _ number text r

pub loop-number-preserved : goal.loop-number-preserved
loop-number-preserved c =
    let arcs = c.args.instance.now.arcs in
    let items : map value_of_wide c.push.new.self.items ≡ map value_of_wide c.loop-number.tolls.items ++ value_of_wide c.in-Some-next_toll.toll ∷ [] =
    ap (map value_of_wide) c.in_ok-push.ensures.items ∙ map-append value_of_wide c.loop-number.tolls.items (c.in-Some-next_toll.toll ∷ []) in
    let P : List Rational → Type 0 = λ tolls. HasRead c.args.instance.now.arcs c.args.bytes.now (c.loop-number.number + 1) tolls c.in-Some-next_toll.after.now in
    subst P (sym items)
    (read_more c.args.instance.now.arcs c.args.bytes.now c.loop-number.number _ _ _ _ c.loop-number.invariant (omega arith)
    c.in-Some-next_toll.ensures.allowed c.in-Some-next_toll.ensures.text c.in-Some-next_toll.ensures.each)

pub returns-else-is_empty-clause-refused : goal.returns-else-is_empty-clause-refused
returns-else-is_empty-clause-refused c number e =
    let all : c.loop-number.number ≡ toll_count c.args.instance.now.arcs = omega arith in
    let line : c.tolls-count.result + 2 ≡ number = cc in
    let same : c.loop-number.number + 2 ≡ number = omega arith in
    let P : ℕ → Type 0 = λ n. IsRefusedLine c.args.instance.now.arcs c.args.bytes.now n in
    subst P same
    (refused_next c.args.instance.now.arcs c.args.bytes.now c.loop-number.number _ _ c.loop-number.invariant (omega arith)
    (λ value after l. absurd (omega arith))
    (inl (λ empty. let none : length c.loop-number.rest.now ≡ 0 = ap length empty in false≢true (sym c.if-is_empty.false ∙ (c.is_empty.ensures ∙ eq-eqb _ _ none)))))

pub returns-else-is_empty-clause-named : goal.returns-else-is_empty-clause-named
returns-else-is_empty-clause-named c number r =
    let here = returns-else-is_empty-clause-refused c (c.tolls-count.result + 2) refl in
    inl (ap Line (one_refused_line c.args.instance.now.arcs c.tolls-count.ensures.limits.tolls c.args.bytes.now (c.tolls-count.result + 2) number here r))
