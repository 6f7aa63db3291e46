-- The price of a useful path is formed toll by toll, and the paths of a commodity are compared one by one.
use Rattle.std.specs.Prelude.{◌≡◌, ℕ, zero, suc, ◌+◌, ◌-◌, ◌<◌, ◌≤◌, Bool, true, false, cond, ◌==◌, List, [], ◌∷◌, length, map, filter, drop, slice_index_or, IsTrue, All, Result, Ok, Err}
use Rattle.std.specs.Result.{IsErrAnd}
use Rattle.std.specs.Int.{bit_at}
use Rattle.std.specs.List.{range_with_len}
use Rattle.std.proofs.Common.{arith, ap, sym, ◌∙◌, inl, inr, eqb-true, eq-eqb, add-one}
use Rattle.std.proofs.lemmas.Bool.{cases_Bool, false≢true}
use Rattle.std.proofs.lemmas.List.{drop_all}
use Rattle.std.proofs.Math.Seq.{drop-cons}
use Rattle.npp_frac.specs.Rational.{Rational, zero_ℚ, is_less}
use Rattle.npp_lp.specs.Programs.{at}
use Rattle.npp_net.specs.TollSets.{Has}
use Rattle.npp_cover.specs.declared.path.UsefulPath.{UsefulPath}
use Rattle.npp_cover.specs.PathValue.{path_value}
use Rattle.npp_cover.specs.Replaces.{CoverValue}
use Rattle.npp_tree.specs.declared.outcome.PathLine.{PathLine}
use Rattle.npp_tree.specs.Outcome.{path_line_value}
use Rattle.npp_check.specs.declared.refusal.Rule.{Rule}
use Rattle.npp_check.specs.declared.refusal.Rule.TheVariants as rule
use Rattle.npp_check.specs.Rules.{judged_as, and_then, broken_if, sum_of}
use Rattle.npp_check.specs.PathPrices.{sum_all, tolls_in, priced, none_below, walk_below, walks_below}

pub refused_as : {N : Type 0} (value : N → Rational) (r : Result N Rule) (e : Rule) (v : Result Rational Rule) → IsErrAnd r (λ f. f ≡ e) → Err e ≡ v → judged_as value r ≡ v
refused_as value (Ok x) e v is same = absurd is
refused_as value (Err f) e v is same = ap (λ z. Err z) is ∙ same

-- ---- the tolls of a set

module _ (limit : ℕ) (tolls : List Rational) (set : ℕ) where
  -- those from toll i on
  abbrev pub tolls_from : ℕ → List Rational
  tolls_from i = map (at tolls) (filter (λ a. bit_at set a == 1) (range_with_len i (length tolls - i)))

  tolls_step : (i : ℕ) → i < length tolls → tolls_from i ≡ map (at tolls) (cond (bit_at set i == 1) (i ∷ filter (λ a. bit_at set a == 1) (range_with_len (i + 1) (length tolls - (i + 1)))) (filter (λ a. bit_at set a == 1) (range_with_len (i + 1) (length tolls - (i + 1)))))
  tolls_step i lt =
      let more : length tolls - i ≡ suc (length tolls - (i + 1)) = omega (arith, lt) in
      ap (λ n. map (at tolls) (filter (λ a. bit_at set a == 1) (range_with_len i n))) more

  in_set : (i : ℕ) → i < length tolls → (bit_at set i == 1) ≡ true → tolls_from i ≡ at tolls i ∷ tolls_from (i + 1)
  in_set i lt e = tolls_step i lt ∙ ap (λ b. map (at tolls) (cond b (i ∷ filter (λ a. bit_at set a == 1) (range_with_len (i + 1) (length tolls - (i + 1)))) (filter (λ a. bit_at set a == 1) (range_with_len (i + 1) (length tolls - (i + 1)))))) e

  not_in_set : (i : ℕ) → i < length tolls → (bit_at set i == 1) ≡ false → tolls_from i ≡ tolls_from (i + 1)
  not_in_set i lt e = tolls_step i lt ∙ ap (λ b. map (at tolls) (cond b (i ∷ filter (λ a. bit_at set a == 1) (range_with_len (i + 1) (length tolls - (i + 1)))) (filter (λ a. bit_at set a == 1) (range_with_len (i + 1) (length tolls - (i + 1)))))) e

  test_no : (i : ℕ) (r : Bool) → (Has set i → IsTrue r) → r ≡ false → (bit_at set i == 1) ≡ false
  test_no i r h e = elim (cases_Bool (bit_at set i == 1)) [
    | inl one ↦ absurd (false≢true (sym e ∙ h (eqb-true (bit_at set i) 1 one)))
    | inr other ↦ other
  ]

  -- the whole sum, where those from toll i on are still to be added
  abbrev pub SumsFrom : ℕ → Rational → Type 0
  SumsFrom i sum = sum_all limit zero_ℚ (tolls_in tolls set) ≡ sum_all limit sum (tolls_from i)

  pub sums_begin : SumsFrom 0 zero_ℚ
  sums_begin =
      let whole : length tolls ≡ length tolls - 0 = omega arith in
      ap (λ n. sum_all limit zero_ℚ (map (at tolls) (filter (λ a. bit_at set a == 1) (range_with_len 0 n)))) whole

  pub sums_skip : (i : ℕ) (sum : Rational) (r : Bool) → i < length tolls → (Has set i → IsTrue r) → r ≡ false → SumsFrom i sum → SumsFrom (i + 1) sum
  sums_skip i sum r lt h e so_far = so_far ∙ ap (sum_all limit sum) (not_in_set i lt (test_no i r h e))

  pub sums_more : (i : ℕ) (sum next : Rational) → i < length tolls → Has set i → Ok next ≡ sum_of limit sum (at tolls i) → SumsFrom i sum → SumsFrom (i + 1) next
  sums_more i sum next lt has e so_far =
      so_far ∙ ap (sum_all limit sum) (in_set i lt (eq-eqb (bit_at set i) 1 has)) ∙ ap (λ r. and_then r (λ more. sum_all limit more (tolls_from (i + 1)))) (sym e)

  pub sums_stop : (i : ℕ) (sum : Rational) (e : Rule) → i < length tolls → Has set i → Err e ≡ sum_of limit sum (at tolls i) → SumsFrom i sum → Err e ≡ sum_all limit zero_ℚ (tolls_in tolls set)
  sums_stop i sum e lt has refused so_far =
      sym (so_far ∙ ap (sum_all limit sum) (in_set i lt (eq-eqb (bit_at set i) 1 has)) ∙ ap (λ r. and_then r (λ more. sum_all limit more (tolls_from (i + 1)))) (sym refused))

  pub sums_end : (i : ℕ) (sum : Rational) → length tolls ≤ i → SumsFrom i sum → sum_all limit zero_ℚ (tolls_in tolls set) ≡ Ok sum
  sums_end i sum le so_far =
      let none : length tolls - i ≡ 0 = omega (arith, le) in
      so_far ∙ ap (λ n. sum_all limit sum (map (at tolls) (filter (λ a. bit_at set a == 1) (range_with_len i n)))) none

-- ---- the paths of a commodity

module _ (limit : ℕ) (tolls : List Rational) (printed : Rational) (paths : List UsefulPath) where
  -- the whole judgement, where the paths from number i on are still to be compared
  abbrev pub NoneFrom : ℕ → Type 0
  NoneFrom i = none_below limit tolls printed (map path_value paths) ≡ none_below limit tolls printed (map path_value (drop i paths))

  next_path : (i : ℕ) (p : UsefulPath) → i < length paths → p ≡ slice_index_or paths i p → drop i paths ≡ p ∷ drop (i + 1) paths
  next_path i p lt is = drop-cons paths i p lt ∙ ap (λ x. x ∷ drop (suc i) paths) (sym is) ∙ ap (λ n. p ∷ drop n paths) (sym (add-one i))

  pub paths_stop : (i : ℕ) (p : UsefulPath) (e : Rule) → i < length paths → p ≡ slice_index_or paths i p → Err e ≡ priced limit tolls (path_value p) → NoneFrom i
      → Err e ≡ none_below limit tolls printed (map path_value paths)
  paths_stop i p e lt is refused so_far =
      sym (so_far ∙ ap (λ ps. none_below limit tolls printed (map path_value ps)) (next_path i p lt is)
      ∙ ap (λ r. and_then r (λ price. broken_if (is_less price printed) rule.Path (none_below limit tolls printed (map path_value (drop (i + 1) paths))))) (sym refused))

  pub paths_step : (i : ℕ) (p : UsefulPath) (price : Rational) (b : Bool) → i < length paths → p ≡ slice_index_or paths i p → Ok price ≡ priced limit tolls (path_value p) → b ≡ is_less price printed → NoneFrom i
      → none_below limit tolls printed (map path_value paths) ≡ broken_if b rule.Path (none_below limit tolls printed (map path_value (drop (i + 1) paths)))
  paths_step i p price b lt is judged test so_far =
      so_far ∙ ap (λ ps. none_below limit tolls printed (map path_value ps)) (next_path i p lt is)
      ∙ ap (λ r. and_then r (λ price. broken_if (is_less price printed) rule.Path (none_below limit tolls printed (map path_value (drop (i + 1) paths))))) (sym judged)
      ∙ ap (λ t. broken_if t rule.Path (none_below limit tolls printed (map path_value (drop (i + 1) paths)))) (sym test)

  pub paths_end : (i : ℕ) → length paths ≤ i → NoneFrom i → Ok tt ≡ none_below limit tolls printed (map path_value paths)
  paths_end i le so_far = sym (so_far ∙ ap (λ ps. none_below limit tolls printed (map path_value ps)) (drop_all i paths le))

pub unit_refused : (r : Result (Unit {0}) Rule) (e : Rule) (v : Result (Unit {0}) Rule) → IsErrAnd r (λ f. f ≡ e) → Err e ≡ v → r ≡ v
unit_refused (Ok x) e v is same = absurd is
unit_refused (Err f) e v is same = ap (λ z. Err z) is ∙ same

-- ---- the walks of all commodities

module _ {N : Type 0} (value : N → Rational) (limit : ℕ) (tolls : List Rational) (covers : List CoverValue) (lines : List (PathLine N)) where
  -- the whole judgement, where the walks from commodity k on are still to be judged
  abbrev pub WalksFrom : ℕ → Type 0
  WalksFrom k = walks_below limit tolls covers (map (path_line_value value) lines) ≡ walks_below limit tolls (drop k covers) (map (path_line_value value) (drop k lines))

  next_walk : length covers ≡ length lines → (k : ℕ) (p : PathLine N) (c : CoverValue) → k < length lines → p ≡ slice_index_or lines k p → c ≡ slice_index_or covers k c
      → walks_below limit tolls (drop k covers) (map (path_line_value value) (drop k lines)) ≡ walks_below limit tolls (c ∷ drop (k + 1) covers) (map (path_line_value value) (p ∷ drop (k + 1) lines))
  next_walk size k p c lt is same =
      let below : k < length covers = omega (arith, lt, size) in
      let line_next : drop k lines ≡ p ∷ drop (k + 1) lines = drop-cons lines k p lt ∙ ap (λ x. x ∷ drop (suc k) lines) (sym is) ∙ ap (λ n. p ∷ drop n lines) (sym (add-one k)) in
      let cover_next : drop k covers ≡ c ∷ drop (k + 1) covers = drop-cons covers k c below ∙ ap (λ x. x ∷ drop (suc k) covers) (sym same) ∙ ap (λ n. c ∷ drop n covers) (sym (add-one k)) in
      λ j. walks_below limit tolls (cover_next j) (map (path_line_value value) (line_next j))

  pub walks_stop : length covers ≡ length lines → (k : ℕ) (p : PathLine N) (c : CoverValue) (e : Rule) → k < length lines → p ≡ slice_index_or lines k p → c ≡ slice_index_or covers k c
      → Err e ≡ walk_below limit tolls c (path_line_value value p) → WalksFrom k → Err e ≡ walks_below limit tolls covers (map (path_line_value value) lines)
  walks_stop size k p c e lt is same refused so_far =
      sym (so_far ∙ next_walk size k p c lt is same ∙ ap (λ r. and_then r (λ _. walks_below limit tolls (drop (k + 1) covers) (map (path_line_value value) (drop (k + 1) lines)))) (sym refused))

  pub walks_step : length covers ≡ length lines → (k : ℕ) (p : PathLine N) (c : CoverValue) (u : Unit {0}) → k < length lines → p ≡ slice_index_or lines k p → c ≡ slice_index_or covers k c
      → Ok u ≡ walk_below limit tolls c (path_line_value value p) → WalksFrom k → WalksFrom (k + 1)
  walks_step size k p c u lt is same judged so_far =
      so_far ∙ next_walk size k p c lt is same ∙ ap (λ r. and_then r (λ _. walks_below limit tolls (drop (k + 1) covers) (map (path_line_value value) (drop (k + 1) lines)))) (sym judged)

  pub walks_end : (k : ℕ) → length lines ≤ k → WalksFrom k → Ok tt ≡ walks_below limit tolls covers (map (path_line_value value) lines)
  walks_end k le so_far = sym (so_far ∙ ap (λ ls. walks_below limit tolls (drop k covers) (map (path_line_value value) ls)) (drop_all k lines le))

-- what is below a limit in the paths of a cover is so in the paths of the code
pub costs_below : (limit : ℕ) (paths : List UsefulPath) → All (λ p. p.cost < limit) (map path_value paths) → All (λ p. p.cost < limit) paths
costs_below limit [] h k d lt = absurd (omega (arith, lt))
costs_below limit (p ∷ paths) h zero d lt = h 0 (path_value p) (omega arith)
costs_below limit (p ∷ paths) h (suc k) d lt = costs_below limit paths (λ j e l. h (suc j) e (omega (arith, l))) k d (omega (arith, lt))
