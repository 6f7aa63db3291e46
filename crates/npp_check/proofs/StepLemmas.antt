-- A line at a stage goes on to the next stage, or breaks its rule.
use Rattle.std.specs.Prelude.{◌≡◌, ℕ, suc, ◌+◌, ◌-◌, ◌<◌, List, [], ◌∷◌, ◌++◌, length, map, true, not, ◌==◌, Option, Some, None, Result, Ok, Err, IfOk, IfErr, refl}
use Rattle.std.specs.Result.{IsErrAnd}
use Rattle.std.specs.List.{range_with_len}
use Rattle.std.proofs.Common.{arith, ap, sym, ◌∙◌, subst, eqb-true}
use Rattle.std.proofs.lemmas.List.{map-append, length-append, length-map}
use Rattle.std.proofs.lemmas.List.FromFn.{map-range_with_len_more, length-map-range_with_len}
use Rattle.npp_frac.specs.Rational.{Rational}
use Rattle.npp_net.specs.Network.{Network, toll_count, ceiling_of}
use Rattle.npp_tree.specs.declared.item.Item.{Item}
use Rattle.npp_tree.specs.declared.item.Item.TheVariants as item
use Rattle.npp_tree.specs.declared.outcome.PathLine.{PathLine}
use Rattle.npp_tree.specs.Outcome.{path_line_value}
use Rattle.npp_check.specs.declared.refusal.Rule.{Rule}
use Rattle.npp_check.specs.declared.refusal.Rule.TheVariants as rule
use Rattle.npp_check.specs.declared.refusal.CheckRefusal.TheVariants.{Broken}
use Rattle.npp_check.specs.declared.stage.Stage.{Stage as CodeStage}
use Rattle.npp_check.specs.declared.stop.Stop.{Stop}
use Rattle.npp_check.specs.declared.stop.Stop.TheVariants as stop
use Rattle.npp_check.specs.EndLine.{Head}
use Rattle.npp_check.specs.Rules.{broken_if}
use Rattle.npp_check.specs.HeadLines.{same_ceiling, limit_line}
use Rattle.npp_check.specs.TollLines.{toll_line}
use Rattle.npp_check.specs.PathLines.{path_line}
use Rattle.npp_check.specs.Verdict.{PairValue, whole}
use Rattle.npp_check.specs.Stages.{Case, Stage, AtLimits, AtTolls, AtPaths, from_limits, from_tolls, from_paths, from_covers}
use Rattle.npp_check.specs.StageValue.{stage_value, step_value}
use Rattle.npp_check.specs.Steps.{Steps, Stands, Breaks, IsPart}
use Rattle.npp_check.proofs.RuleLemmas.{true_of, same_ok, unbroken}
use Rattle.npp_check.specs.Reads.{Reads, at_line, read_behind, line, more, ◌>>=◌}

-- an answer that is this rule
pub refused_so : {N : Type 0} (value : N → Rational) (limit : ℕ) (c : Case) (old : Stage) (i : Item Rational) (broken : Rule) (r : Result (CodeStage N) Stop)
    → IsErrAnd r (λ f. f ≡ stop.Broken broken) → Breaks limit c old i broken → Steps limit c old i (step_value value c.net r)
refused_so value limit c old i broken (Ok x) is h = absurd is
refused_so value limit c old i broken (Err f) is h = subst (λ (s : Stop). Steps limit c old i (Err s)) (sym is) h

-- an answer that is a stage from which the lines are read on, or want of memory
pub stage_or_memory : {N : Type 0} (value : N → Rational) (limit : ℕ) (c : Case) (old new : Stage) (i : Item Rational) (r : Result (CodeStage N) Stop)
    → IfOk r (λ s. Stands limit c new (stage_value value c.net s)) → IfErr r (λ e. e ≡ stop.Memory)
    → ((s : Stage) → Stands limit c new s → Steps limit c old i (Ok s)) → Steps limit c old i (step_value value c.net r)
stage_or_memory value limit c old new i (Ok s) stands none goes = goes (stage_value value c.net s) stands
stage_or_memory value limit c old new i (Err e) stands none goes = subst (λ (f : Stop). Steps limit c old i (Err f)) (sym none) tt

-- ---- one line more of a kind

module _ {X : Type 0} (judge : List X → Item Rational → Result X Rule) (next : List X → Reads PairValue) (left : ℕ) (above : List X) (i : Item Rational) where
  pub more_goes : (x : X) → judge above i ≡ Ok x → (number : ℕ) (items : List (Item Rational))
      → (more (λ a. line (judge a)) (suc left) above >>= next) (record { number = number; items = i ∷ items })
      ≡ (more (λ a. line (judge a)) left (above ++ x ∷ []) >>= next) (record { number = number + 1; items = items })
  more_goes x e number items =
      ap (λ r. read_behind (read_behind (at_line number r (record { number = number + 1; items = items })) (λ y. more (λ a. line (judge a)) left (above ++ y ∷ []))) next) e

  pub more_breaks : (broken : Rule) → judge above i ≡ Err broken → (number : ℕ) (items : List (Item Rational))
      → whole ((more (λ a. line (judge a)) (suc left) above >>= next) (record { number = number; items = i ∷ items })) ≡ Err (Broken number broken)
  more_breaks broken e number items =
      ap (λ r. whole (read_behind (read_behind (at_line number r (record { number = number + 1; items = items })) (λ y. more (λ a. line (judge a)) left (above ++ y ∷ []))) next)) e

pub one_less : (n k : ℕ) → k < n → n - k ≡ suc (n - (k + 1))
one_less n k h = omega (arith, h)

-- ---- ceilings

-- the ceilings of the first tolls
abbrev pub ceilings : Case → ℕ → List (Option ℕ)
ceilings c k = map (ceiling_of c.net.arcs) (range_with_len 0 k)

same_ceiling_is : (x y : Option ℕ) → same_ceiling x y ≡ true → x ≡ y
same_ceiling_is None None e = refl
same_ceiling_is None (Some v) e = cc
same_ceiling_is (Some u) None e = cc
same_ceiling_is (Some u) (Some v) e = ap Some (eqb-true u v e)

named_here : (net : Network) (a : ℕ) (i : Item Rational) (o : Option ℕ) → Ok o ≡ limit_line net a i → o ≡ ceiling_of net.arcs a
named_here net a (item.Limit b ceiling) o e =
    let named = unbroken (not (b == a)) rule.Order (broken_if (not (same_ceiling ceiling (ceiling_of net.arcs a))) rule.Instance (Ok ceiling)) o (sym e) in
    let equal = unbroken (not (same_ceiling ceiling (ceiling_of net.arcs a))) rule.Instance (Ok ceiling) o named.1 in
    sym (same_ok ceiling o equal.1) ∙ same_ceiling_is ceiling (ceiling_of net.arcs a) (true_of (same_ceiling ceiling (ceiling_of net.arcs a)) equal.0)
named_here net a other o e = cc

module _ (limit : ℕ) (c : Case) (head : Head) (taken : ℕ) (i : Item Rational) (below : taken < toll_count c.net.arcs) where
  pub limit_goes : (o : Option ℕ) (stage : Stage) → Ok o ≡ limit_line c.net taken i
      → Stands limit c (AtLimits head (toll_count c.net.arcs - (taken + 1)) (ceilings c (taken + 1))) stage
      → Steps limit c (AtLimits head (toll_count c.net.arcs - taken) (ceilings c taken)) i (Ok stage)
  limit_goes o stage judged stands = (
    λ number items.
        let count : toll_count c.net.arcs - taken ≡ suc (toll_count c.net.arcs - (taken + 1)) = one_less (toll_count c.net.arcs) taken below in
        let size : length (ceilings c taken) ≡ taken = length-map-range_with_len (ceiling_of c.net.arcs) 0 taken in
        let judged_here : limit_line c.net (length (ceilings c taken)) i ≡ Ok o = ap (λ n. limit_line c.net n i) size ∙ sym judged in
        let more_ceilings : ceilings c taken ++ o ∷ [] ≡ ceilings c (taken + 1) = ap (λ z. ceilings c taken ++ z ∷ []) (named_here c.net taken i o judged) ∙ sym (map-range_with_len_more (ceiling_of c.net.arcs) 0 taken taken (omega arith)) in
        ap (λ n. from_limits limit c head n (ceilings c taken) (record { number = number; items = i ∷ items })) count
        ∙ more_goes (λ above. limit_line c.net (length above)) (λ all. from_tolls limit c head (toll_count c.net.arcs) []) (toll_count c.net.arcs - (taken + 1)) (ceilings c taken) i o judged_here number items
        ∙ ap (λ z. from_limits limit c head (toll_count c.net.arcs - (taken + 1)) z (record { number = number + 1; items = items })) more_ceilings
        ∙ stands.same (record { number = number + 1; items = items }),
    stands.stage,
  )

  pub limit_breaks : (broken : Rule) → Err broken ≡ limit_line c.net taken i → Breaks limit c (AtLimits head (toll_count c.net.arcs - taken) (ceilings c taken)) i broken
  limit_breaks broken judged number items =
      let count : toll_count c.net.arcs - taken ≡ suc (toll_count c.net.arcs - (taken + 1)) = one_less (toll_count c.net.arcs) taken below in
      let judged_here : limit_line c.net (length (ceilings c taken)) i ≡ Err broken = ap (λ n. limit_line c.net n i) (length-map-range_with_len (ceiling_of c.net.arcs) 0 taken) ∙ sym judged in
      ap (λ n. whole (from_limits limit c head n (ceilings c taken) (record { number = number; items = i ∷ items }))) count
      ∙ more_breaks (λ above. limit_line c.net (length above)) (λ all. from_tolls limit c head (toll_count c.net.arcs) []) (toll_count c.net.arcs - (taken + 1)) (ceilings c taken) i broken judged_here number items

-- so many ceilings are a part of them
pub limits_left : (c : Case) (taken : ℕ) → taken < toll_count c.net.arcs → IsPart (toll_count c.net.arcs) (toll_count c.net.arcs - taken) (length (ceilings c taken))
limits_left c taken below =
    let size : length (ceilings c taken) ≡ taken = length-map-range_with_len (ceiling_of c.net.arcs) 0 taken in
    record { some = omega (arith, below); whole = omega (arith, below, size) }

-- behind the last ceiling come the tolls
pub limits_end : (limit : ℕ) (c : Case) (head : Head) (taken : ℕ) (stage : Stage) → taken ≡ toll_count c.net.arcs → Stands limit c (AtTolls head (toll_count c.net.arcs) []) stage
    → Stands limit c (AtLimits head (toll_count c.net.arcs - taken) (ceilings c taken)) stage
limits_end limit c head taken stage e stands = record {
  same = λ lines.
      let none : toll_count c.net.arcs - taken ≡ 0 = omega (arith, e) in
      ap (λ n. from_limits limit c head n (ceilings c taken) lines) none ∙ stands.same lines;
  stage = stands.stage;
}

-- ---- tolls

module _ {N : Type 0} (value : N → Rational) (limit : ℕ) (c : Case) (head : Head) (tolls : List N) (i : Item Rational) (below : length tolls < toll_count c.net.arcs) where
  pub toll_goes : (new : List N) (v : N) (stage : Stage) → new ≡ tolls ++ v ∷ [] → Ok (value v) ≡ toll_line c.net (length tolls) i
      → Stands limit c (AtTolls head (toll_count c.net.arcs - length new) (map value new)) stage
      → Steps limit c (AtTolls head (toll_count c.net.arcs - length tolls) (map value tolls)) i (Ok stage)
  toll_goes new v stage is judged stands = (
    λ number items.
        let left : ℕ = toll_count c.net.arcs - (length tolls + 1) in
        let count : toll_count c.net.arcs - length tolls ≡ suc (toll_count c.net.arcs - (length tolls + 1)) = one_less (toll_count c.net.arcs) (length tolls) below in
        let size : length (map value tolls) ≡ length tolls = length-map tolls value in
        let judged_here : toll_line c.net (length (map value tolls)) i ≡ Ok (value v) = ap (λ n. toll_line c.net n i) size ∙ sym judged in
        let new_size : length tolls + 1 ≡ length new = omega (arith, ap length is, length-append tolls (v ∷ [])) in
        let new_tolls : map value tolls ++ value v ∷ [] ≡ map value new = sym (map-append value tolls (v ∷ [])) ∙ ap (map value) (sym is) in
        ap (λ n. from_tolls limit c head n (map value tolls) (record { number = number; items = i ∷ items })) count
        ∙ more_goes (λ above. toll_line c.net (length above)) (λ all. from_paths limit c head all (length c.net.commodities) []) (toll_count c.net.arcs - (length tolls + 1)) (map value tolls) i (value v) judged_here number items
        ∙ (λ j. from_tolls limit c head (toll_count c.net.arcs - new_size j) (new_tolls j) (record { number = number + 1; items = items }))
        ∙ stands.same (record { number = number + 1; items = items }),
    stands.stage,
  )

  pub toll_breaks : (broken : Rule) → Err broken ≡ toll_line c.net (length tolls) i → Breaks limit c (AtTolls head (toll_count c.net.arcs - length tolls) (map value tolls)) i broken
  toll_breaks broken judged number items =
      let count : toll_count c.net.arcs - length tolls ≡ suc (toll_count c.net.arcs - (length tolls + 1)) = one_less (toll_count c.net.arcs) (length tolls) below in
      let judged_here : toll_line c.net (length (map value tolls)) i ≡ Err broken = ap (λ n. toll_line c.net n i) (length-map tolls value) ∙ sym judged in
      ap (λ n. whole (from_tolls limit c head n (map value tolls) (record { number = number; items = i ∷ items }))) count
      ∙ more_breaks (λ above. toll_line c.net (length above)) (λ all. from_paths limit c head all (length c.net.commodities) []) (toll_count c.net.arcs - (length tolls + 1)) (map value tolls) i broken judged_here number items

-- ---- walks

module _ {N : Type 0} (value : N → Rational) (limit : ℕ) (c : Case) (head : Head) (tolls : List Rational) (paths : List (PathLine N)) (i : Item Rational) (below : length paths < length c.net.commodities) where
  pub path_goes : (new : List (PathLine N)) (p : PathLine N) (stage : Stage) → new ≡ paths ++ p ∷ [] → Ok (path_line_value value p) ≡ path_line limit c.net tolls (length paths) i
      → Stands limit c (AtPaths head tolls (length c.net.commodities - length new) (map (path_line_value value) new)) stage
      → Steps limit c (AtPaths head tolls (length c.net.commodities - length paths) (map (path_line_value value) paths)) i (Ok stage)
  path_goes new p stage is judged stands = (
    λ number items.
        let count : length c.net.commodities - length paths ≡ suc (length c.net.commodities - (length paths + 1)) = one_less (length c.net.commodities) (length paths) below in
        let judged_here : path_line limit c.net tolls (length (map (path_line_value value) paths)) i ≡ Ok (path_line_value value p) = ap (λ n. path_line limit c.net tolls n i) (length-map paths (path_line_value value)) ∙ sym judged in
        let new_size : length paths + 1 ≡ length new = omega (arith, ap length is, length-append paths (p ∷ [])) in
        let new_paths : map (path_line_value value) paths ++ path_line_value value p ∷ [] ≡ map (path_line_value value) new = sym (map-append (path_line_value value) paths (p ∷ [])) ∙ ap (map (path_line_value value)) (sym is) in
        ap (λ n. from_paths limit c head tolls n (map (path_line_value value) paths) (record { number = number; items = i ∷ items })) count
        ∙ more_goes (λ above. path_line limit c.net tolls (length above)) (λ all. from_covers limit c head tolls all (length c.net.commodities) []) (length c.net.commodities - (length paths + 1)) (map (path_line_value value) paths) i (path_line_value value p) judged_here number items
        ∙ (λ j. from_paths limit c head tolls (length c.net.commodities - new_size j) (new_paths j) (record { number = number + 1; items = items }))
        ∙ stands.same (record { number = number + 1; items = items }),
    stands.stage,
  )

  pub path_breaks : (broken : Rule) → Err broken ≡ path_line limit c.net tolls (length paths) i
      → Breaks limit c (AtPaths head tolls (length c.net.commodities - length paths) (map (path_line_value value) paths)) i broken
  path_breaks broken judged number items =
      let count : length c.net.commodities - length paths ≡ suc (length c.net.commodities - (length paths + 1)) = one_less (length c.net.commodities) (length paths) below in
      let judged_here : path_line limit c.net tolls (length (map (path_line_value value) paths)) i ≡ Err broken = ap (λ n. path_line limit c.net tolls n i) (length-map paths (path_line_value value)) ∙ sym judged in
      ap (λ n. whole (from_paths limit c head tolls n (map (path_line_value value) paths) (record { number = number; items = i ∷ items }))) count
      ∙ more_breaks (λ above. path_line limit c.net tolls (length above)) (λ all. from_covers limit c head tolls all (length c.net.commodities) []) (length c.net.commodities - (length paths + 1)) (map (path_line_value value) paths) i broken judged_here number items
