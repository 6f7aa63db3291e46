-- Sums of counted numbers are formed step by step.
use Rattle.std.specs.Prelude.{◌≡◌, ℕ, zero, suc, ◌+◌, ◌<◌, pos, Bool, true, false, not, ◌&&◌, cond, nat_lt, List, [], ◌∷◌, ◌++◌, length, map, slice_index_or, Result, Ok, Err, refl}
use Rattle.std.specs.Result.{IsErrAnd}
use Rattle.std.specs.List.{list_all, range_with_len}
use Rattle.std.proofs.Common.{arith, ap, sym, ◌∙◌, inl, inr, eq-or-lt_of_le, le_of_suc-le-suc}
use Rattle.std.proofs.lemmas.Bool.{cases_Bool}
use Rattle.std.proofs.lemmas.List.Folds.{list_all-append}
use Rattle.npp_frac.specs.Rational.{Rational, whole, zero_ℚ}
use Rattle.npp_lp.specs.Programs.{at}
use Rattle.npp_lp.specs.Sums.{checked_sum, joined_sum}
use Rattle.npp_lp.specs.SumLaws.{checked_sum_none, checked_sum_more, checked_sum_stops}
use Rattle.npp_check.specs.declared.refusal.Rule.{Rule}
use Rattle.npp_check.specs.declared.refusal.Rule.TheVariants as rule
use Rattle.npp_tree.specs.declared.outcome.PathLine.{PathLine}
use Rattle.npp_tree.specs.Outcome.{path_line_value}
use Rattle.npp_check.specs.Prices.{no_path_line}
use Rattle.npp_check.specs.Rules.{judged_as, broken_if, formed, and_then, counted_sum, with_counted}
use Rattle.npp_check.proofs.RuleLemmas.{true_of, both, same_ok, unbroken}

formed_says : {X O : Type 0} (r : Result X O) (x : X) → formed r ≡ Ok x → r ≡ Ok x
formed_says (Ok y) x e = ap Ok (same_ok y x e)
formed_says (Err o) x e = cc

formed_stops : {X O : Type 0} (r : Result X O) (broken : Rule) → formed r ≡ Err broken → (o : O) × (r ≡ Err o) × (rule.Overflow ≡ broken)
formed_stops (Ok y) broken e = cc
formed_stops (Err o) broken e = (o, refl, cc)

range_more : (a n : ℕ) → range_with_len a (suc n) ≡ range_with_len a n ++ (a + n) ∷ []
range_more a zero = let e : a ≡ a + 0 = omega arith in ap (λ z. z ∷ []) e
range_more a (suc n) =
    let e : a + 1 + n ≡ a + suc n = omega arith in
    ap (λ z. a ∷ z) (range_more (a + 1) n ∙ ap (λ z. range_with_len (a + 1) n ++ z ∷ []) e)

both_hold : (a b : Bool) → a ≡ true → b ≡ true → (a && b) ≡ true
both_hold true b e f = f
both_hold false b e f = e

passed : {X : Type 0} (test : Bool) (broken : Rule) (r : Result X Rule) → test ≡ false → broken_if test broken r ≡ r
passed true broken r e = cc
passed false broken r e = refl

stopped : {X : Type 0} (test : Bool) (broken : Rule) (r : Result X Rule) → test ≡ true → broken_if test broken r ≡ Err broken
stopped true broken r e = refl
stopped false broken r e = cc

not_true : (b : Bool) → b ≡ true → not b ≡ false
not_true true e = refl
not_true false e = cc

not_false : (b : Bool) → b ≡ false → not b ≡ true
not_false true e = cc
not_false false e = refl

module _ (limit : ℕ) (s : Rational) (count : ℕ) (value : Rational) where
  fits : nat_lt count limit ≡ true → with_counted limit s count value ≡ formed (joined_sum limit s (whole (pos count)) value)
  fits e = ap (λ b. and_then (cond b (Ok (whole (pos count))) (Err rule.Overflow)) (λ times. formed (joined_sum limit s times value))) e

  too_many : nat_lt count limit ≡ false → with_counted limit s count value ≡ Err rule.Overflow
  too_many e = ap (λ b. and_then (cond b (Ok (whole (pos count))) (Err rule.Overflow)) (λ times. formed (joined_sum limit s times value))) e

module _ (limit : ℕ) (counts : ℕ → ℕ) (values : ℕ → Rational) where
  abbrev passes : ℕ → Bool
  passes i = nat_lt (counts i) limit

  abbrev all_pass : ℕ → Bool
  all_pass n = list_all (λ i. nat_lt (counts i) limit) (range_with_len 0 n)

  all_split : (n : ℕ) → all_pass (suc n) ≡ (all_pass n && (passes (0 + n) && true))
  all_split n = ap (list_all (λ i. nat_lt (counts i) limit)) (range_more 0 n) ∙ list_all-append (λ i. nat_lt (counts i) limit) (range_with_len 0 n) ((0 + n) ∷ [])

  all_more : (n : ℕ) → all_pass n ≡ true → passes n ≡ true → all_pass (n + 1) ≡ true
  all_more n e f =
      let one : n + 1 ≡ suc n = omega arith in
      let same : 0 + n ≡ n = omega arith in
      ap all_pass one ∙ all_split n ∙ both_hold (all_pass n) (passes (0 + n) && true) e (both_hold (passes (0 + n)) true (ap passes same ∙ f) refl)

  each_passes : (n i : ℕ) → i < n → all_pass n ≡ true → passes i ≡ true
  each_passes zero i lt e = absurd (omega (arith, lt))
  each_passes (suc n) i lt e =
      let parts = both (all_pass n) (passes (0 + n) && true) (sym (all_split n) ∙ e) in
      elim (eq-or-lt_of_le (le_of_suc-le-suc lt)) [
        | inl same ↦ (let here : i ≡ 0 + n = omega (arith, same) in ap passes here ∙ (both (passes (0 + n)) true parts.1).0)
        | inr less ↦ each_passes n i less parts.0
      ]

  abbrev terms : ℕ → Rational
  terms i = whole (pos (counts i))

  formed_from : (n : ℕ) (s : Rational) → all_pass n ≡ true → checked_sum limit n terms values ≡ Ok s → counted_sum limit n counts values ≡ Ok s
  formed_from n s e f = passed (not (all_pass n)) rule.Overflow (formed (checked_sum limit n terms values)) (not_true (all_pass n) e) ∙ ap formed f

  formed_parts : (n : ℕ) (s : Rational) → counted_sum limit n counts values ≡ Ok s → (all_pass n ≡ true) × (checked_sum limit n terms values ≡ Ok s)
  formed_parts n s e =
      let parts = unbroken (not (all_pass n)) rule.Overflow (formed (checked_sum limit n terms values)) s e in
      (true_of (all_pass n) parts.0, formed_says (checked_sum limit n terms values) s parts.1)

  pub counted_none : counted_sum limit 0 counts values ≡ Ok zero_ℚ
  counted_none = formed_from 0 zero_ℚ refl (checked_sum_none limit terms values)

  -- one more number
  pub counted_more : (i : ℕ) (s t : Rational) → counted_sum limit i counts values ≡ Ok s → with_counted limit s (counts i) (values i) ≡ Ok t → counted_sum limit (i + 1) counts values ≡ Ok t
  counted_more i s t e j = elim (cases_Bool (passes i)) [
    | inl under ↦
        let before = formed_parts i s e in
        let joined = formed_says (joined_sum limit s (terms i) (values i)) t (sym (fits limit s (counts i) (values i) under) ∙ j) in
        formed_from (i + 1) t (all_more i before.0 under) (checked_sum_more limit terms values i s t before.1 joined)
    | inr over ↦ let none : Err rule.Overflow ≡ Ok t = sym (too_many limit s (counts i) (values i) over) ∙ j in cc
  ]

  -- the first number that cannot be added
  pub counted_stops : (n i : ℕ) (s : Rational) (broken : Rule) → i < n → counted_sum limit i counts values ≡ Ok s → with_counted limit s (counts i) (values i) ≡ Err broken
      → counted_sum limit n counts values ≡ Err broken
  counted_stops n i s broken lt e j = elim (cases_Bool (all_pass n)) [
    | inl all ↦
        let under = each_passes n i lt all in
        let before = formed_parts i s e in
        let stop = formed_stops (joined_sum limit s (terms i) (values i)) broken (sym (fits limit s (counts i) (values i) under) ∙ j) in
        passed (not (all_pass n)) rule.Overflow (formed (checked_sum limit n terms values)) (not_true (all_pass n) all)
        ∙ ap formed (checked_sum_stops limit terms values n i s stop.0 lt before.1 stop.1) ∙ ap (λ z. Err z) stop.2
    | inr none ↦ stopped (not (all_pass n)) rule.Overflow (formed (checked_sum limit n terms values)) (not_false (all_pass n) none) ∙ ap (λ z. Err z) (only_overflow (passes i) refl)
  ]
    where
      only_overflow : (b : Bool) → passes i ≡ b → rule.Overflow ≡ broken
      only_overflow true under = (formed_stops (joined_sum limit s (terms i) (values i)) broken (sym (fits limit s (counts i) (values i) under) ∙ j)).2
      only_overflow false over = let same_rule : Err rule.Overflow ≡ Err broken = sym (too_many limit s (counts i) (values i) over) ∙ j in cc

-- ---- a step of the code

refused : {N : Type 0} (value : N → Rational) (r : Result N Rule) (e : Rule) (v : Result Rational Rule) → IsErrAnd r (λ f. f ≡ e) → Err e ≡ v → judged_as value r ≡ v
refused value (Ok x) e v is same = absurd is
refused value (Err f) e v is same = ap (λ z. Err z) is ∙ same

module _ {N : Type 0} (value : N → Rational) (limit n : ℕ) (counts : ℕ → ℕ) (values : ℕ → Rational) (i : ℕ) (sum number : N) (count : ℕ)
    (below : i < n) (so_far : counted_sum limit i counts values ≡ Ok (value sum)) (counted : count ≡ counts i) (is : value number ≡ values i) where
  here : with_counted limit (value sum) count (value number) ≡ with_counted limit (value sum) (counts i) (values i)
  here = λ j. with_counted limit (value sum) (counted j) (is j)

  pub step_refused : (r : Result N Rule) (e : Rule) → IsErrAnd r (λ f. f ≡ e) → Err e ≡ with_counted limit (value sum) count (value number) → judged_as value r ≡ counted_sum limit n counts values
  step_refused r e err same = refused value r e (counted_sum limit n counts values) err (sym (counted_stops limit counts values n i (value sum) e below so_far (sym (same ∙ here))))

  pub step_taken : (next : N) → Ok (value next) ≡ with_counted limit (value sum) count (value number) → counted_sum limit (i + 1) counts values ≡ Ok (value next)
  step_taken next same = counted_more limit counts values i (value sum) (value next) so_far (sym (same ∙ here))

pub starts_at : {N : Type 0} (value : N → Rational) (limit : ℕ) (counts : ℕ → ℕ) (values : ℕ → Rational) (sum : N) → value sum ≡ whole (pos 0) → counted_sum limit 0 counts values ≡ Ok (value sum)
starts_at value limit counts values sum e = counted_none limit counts values ∙ ap (λ z. Ok z) (sym e)

pub at_map : {N : Type 0} (value : N → Rational) (xs : List N) (i : ℕ) (x : N) → i < length xs → x ≡ slice_index_or xs i x → value x ≡ at (map value xs) i
at_map value [] i x lt e = absurd (omega (arith, lt))
at_map value (y ∷ ys) zero x lt e = ap value e
at_map value (y ∷ ys) (suc i) x lt e = at_map value ys i x (omega (arith, lt)) e

-- what a walk pays among those that are printed
pub paid_at : {N : Type 0} (value : N → Rational) (lines : List (PathLine N)) (i : ℕ) (p : PathLine N) → i < length lines → p ≡ slice_index_or lines i p
    → value p.paid ≡ (slice_index_or (map (path_line_value value) lines) i no_path_line).paid
paid_at value [] i p lt e = absurd (omega (arith, lt))
paid_at value (x ∷ lines) zero p lt e = ap (λ y. value y.paid) e
paid_at value (x ∷ lines) (suc i) p lt e = paid_at value lines i p (omega (arith, lt)) e
