-- A combination of rows of the relaxation that is rounded down is a valid cut (after Chvátal and Gomory).
use Rattle.std.specs.Prelude.{◌≡◌, ℕ, suc, ◌+◌, ◌<◌, ℤ, pos, ◌+ℤ◌, List, [], ◌∷◌, ◌++◌, length, map, slice_index_or, Bool, true, false, not, cond, ◌==◌, None, All, refl}
use Rattle.std.proofs.Common.{arith, sym, ap, ap₂, ◌∙◌, subst, inl, inr}
use Rattle.std.proofs.lemmas.Bool.Decides.{eqb_tells}
use Rattle.std.proofs.lemmas.List.Elements.{All-append, All-map, All-head, All-tail, All-cons}
use Rattle.npp_frac.specs.Rational.{Rational, zero_ℚ, whole, is_less, ◌+ℚ◌, ◌*ℚ◌, ◌≤ℚ◌}
use Rattle.npp_frac.specs.Floor.{floor, floor_not_above, floor_greatest}
use Rattle.npp_frac.specs.Order.{≤ℚ_refl, ≤ℚ_trans, +ℚ_mono, whole_mono, is_less_yes, ≤ℚ_of_<ℚ}
use Rattle.npp_frac.specs.Ring.{+ℚ-zero, zero-+ℚ, zero-*ℚ, *ℚ-zero, *ℚ-one, whole-+ℤ}
use Rattle.npp_frac.specs.Sums.{sum_by, sum_by-append, sum_to, sum_to_same}
use Rattle.npp_lp.specs.Programs.{LinearProgram, at, row_of, product_sum}
use Rattle.npp_lp.specs.Duals.{coefficient, column_sum, right_value}
use Rattle.npp_lp.specs.DualLaws.{columns_at_most}
use Rattle.npp_lp.specs.Checked.{checked_column, checked_right}
use Rattle.npp_lp.specs.Verdict.{or_else, first_below, sum_fault}
use Rattle.npp_lp.specs.VerdictLaws.{first_below_none, sum_fault_none, unless_ok}
use Rattle.npp_lp.specs.SumLaws.{checked_sum_parts}
use Rattle.npp_net.specs.Network.{Network}
use Rattle.npp_net.specs.Toll.{TollVector}
use Rattle.npp_rows.specs.declared.names.RowName.{RowName}
use Rattle.npp_rows.specs.declared.names.ColumnName.{ColumnName}
use Rattle.npp_rows.specs.declared.names.ColumnName.TheVariants.{Toll, Share, Paid}
use Rattle.npp_rows.specs.declared.names.Multiplier.{Multiplier}
use Rattle.npp_rows.specs.declared.cut.CutTerm.{CutTerm}
use Rattle.npp_rows.specs.declared.cut.CutFault.TheVariants.{BadName, BadOrder, NotPositive, TollColumn, Overflow}
use Rattle.npp_rows.specs.PathModel.{PathModel, tolls, commodities}
use Rattle.npp_rows.specs.Parts.{chosen, all_paths, part_at}
use Rattle.npp_frac.specs.Sign.{is_zero}
use Rattle.npp_rows.specs.Named.{NamedProgram, numbered, vector}
use Rattle.npp_rows.proofs.NamedLaws.{zero_of_test}
use Rattle.npp_rows.specs.RowOrder.{multipliers_of, multiplier_of, is_same_row, are_rows, are_in_order, are_positive}
use Rattle.npp_rows.specs.Cuts.{Cut}
use Rattle.npp_rows.specs.Relax.{relaxation_columns, allowed_tolls}
use Rattle.npp_rows.specs.declared.cut.Derivation.TheVariants.{Conflict, Pair, Round}
use Rattle.npp_rows.specs.Derivations.{Derived, derivation_fault, derived_cut, whole_relaxation, round_fault, round_cut, rounded_terms, rounded, is_share, column_at, toll_column_fault, share_column_fault, combination_fault, multipliers_fault, fault_if}
use Rattle.npp_rows.specs.Piece.{outcome_number, IsValidCut, AreValidCuts}
use Rattle.npp_rows.specs.Promises.{IsModelOf, DerivationHolds}
use Rattle.npp_rows.proofs.RowLaws.{same_test, other_test}
use Rattle.npp_rows.proofs.GoalLaws.{sum_first}
use Rattle.npp_rows.proofs.RelaxationLaws.{all_range, all_flat, relaxation_point}
use Rattle.npp_rows.proofs.CutLaws.{all_allowed, cut_value_is, term_value}
use Rattle.npp_rows.proofs.DerivationLaws.{no_fault, passes, both, rows_in_order, multipliers_size, conflict_valid, pair_valid}

-- ---- multipliers

positive_by : (y : Multiplier Rational) (rest : List (Multiplier Rational)) (r : RowName) (b : Bool) → is_less zero_ℚ y.value ≡ true → zero_ℚ ≤ℚ multiplier_of rest r → zero_ℚ ≤ℚ cond b y.value (multiplier_of rest r)
positive_by y rest r true h k = ≤ℚ_of_<ℚ (is_less_yes zero_ℚ y.value h)
positive_by y rest r false h k = k

not_negative : (y : List (Multiplier Rational)) (r : RowName) → are_positive y ≡ true → zero_ℚ ≤ℚ multiplier_of y r
not_negative [] r h = ≤ℚ_refl zero_ℚ
not_negative (y ∷ rest) r h =
    let parts = both (is_less zero_ℚ y.value) (are_positive rest) h in
    positive_by y rest r (is_same_row y.row r) parts.0 (not_negative rest r parts.1)

-- ---- columns

abbrev pub IsWithin : ℕ → ColumnName → Type 0
IsWithin n (Toll a) = Unit {0}
IsWithin n (Share k p) = k < n
IsWithin n (Paid a k) = Unit {0}

columns_within : (m : PathModel) (parts : List (List ℕ)) → All (IsWithin (length m.covers)) (relaxation_columns m parts)
columns_within m parts =
    All-append (IsWithin (length m.covers)) _ _
    (All-append (IsWithin (length m.covers)) _ _
    (All-map (IsWithin (length m.covers)) Toll (tolls m) (λ i d l. tt))
    (all_flat (IsWithin (length m.covers)) (λ k. map (Share k) (part_at parts k)) (commodities m) (all_range (λ k. All (IsWithin (length m.covers)) (map (Share k) (part_at parts k))) (length m.covers) (λ k u. All-map (IsWithin (length m.covers)) (Share k) (part_at parts k) (λ i d l. u)))))
    (all_flat (IsWithin (length m.covers)) (λ k. map (λ a. Paid a k) (allowed_tolls m parts k)) (commodities m) (λ i k l. All-map (IsWithin (length m.covers)) (λ a. Paid a (slice_index_or (commodities m) i k)) (allowed_tolls m parts (slice_index_or (commodities m) i k)) (λ i d l. tt)))

share_by : (n k p : ℕ) (v : Rational) (rest : List (CutTerm Rational)) (b : Bool) → k < n → All (λ t. t.commodity < n) rest
    → All (λ t. t.commodity < n) (cond b [] (record { commodity = k; path = p; value = v } ∷ []) ++ rest)
share_by n k p v rest true h all = all
share_by n k p v rest false h all = All-cons (λ t. t.commodity < n) (record { commodity = k; path = p; value = v }) rest h all

terms_within : (n : ℕ) (p : LinearProgram) (y : List Rational) (j : ℕ) (cs : List ColumnName) → All (IsWithin n) cs → All (λ t. t.commodity < n) (rounded_terms p y j cs)
terms_within n p y j [] h = λ i d l. absurd (omega (arith, l))
terms_within n p y j (Toll a ∷ cs) h = terms_within n p y (j + 1) cs (All-tail (IsWithin n) (Toll a) cs h)
terms_within n p y j (Paid a k ∷ cs) h = terms_within n p y (j + 1) cs (All-tail (IsWithin n) (Paid a k) cs h)
terms_within n p y j (Share k q ∷ cs) h =
    share_by n k q (rounded (column_sum p y j)) (rounded_terms p y (j + 1) cs) (is_zero (rounded (column_sum p y j))) (All-head (IsWithin n) (Share k q) cs h)
    (terms_within n p y (j + 1) cs (All-tail (IsWithin n) (Share k q) cs h))

-- ---- the rounded sum

zero_either : (b : Bool) (v : Rational) → v ≡ zero_ℚ → zero_ℚ ≡ cond b v zero_ℚ
zero_either true v e = sym e
zero_either false v e = refl

module _ (m : PathModel) (t : TollVector) (choice : List ℕ) (p : LinearProgram) (y : List Rational) where
  -- the columns from number j on, each sum times the number of the outcome
  weighted : ℕ → List ColumnName → Rational
  weighted j [] = zero_ℚ
  weighted j (c ∷ cs) = column_sum p y j *ℚ outcome_number m t choice c +ℚ weighted (j + 1) cs

  weighted_is : (j : ℕ) (cs : List ColumnName) → weighted j cs ≡ sum_to (length cs) (λ i. column_sum p y (j + i) *ℚ at (map (outcome_number m t choice) cs) i)
  unfolding weighted sum_to
  weighted_is j [] = refl
  weighted_is j (c ∷ cs) =
      let e : j + 0 ≡ j = omega arith in
      ap₂ ◌+ℚ◌ (ap (λ z. column_sum p y z *ℚ outcome_number m t choice c) (sym e))
      (weighted_is (j + 1) cs ∙ sum_to_same (length cs) (λ i. column_sum p y (j + 1 + i) *ℚ at (map (outcome_number m t choice) cs) i) (λ i. column_sum p y (j + suc i) *ℚ at (map (outcome_number m t choice) cs) i)
      (λ i l. let e : j + 1 + i ≡ j + suc i = omega arith in rw e refl))
      ∙ sym (sum_first (length cs) (λ i. column_sum p y (j + i) *ℚ at (outcome_number m t choice c ∷ map (outcome_number m t choice) cs) i))

  share_value_by : (k q : ℕ) (v : Rational) (b : Bool) → is_zero v ≡ b → sum_by (term_value choice) (cond b [] (record { commodity = k; path = q; value = v } ∷ [])) ≡ cond (q == chosen choice k) v zero_ℚ
  unfolding sum_by
  share_value_by k q v true h = let e : v ≡ zero_ℚ = zero_of_test v h in zero_either (q == chosen choice k) v e
  share_value_by k q v false h = +ℚ-zero (cond (q == chosen choice k) v zero_ℚ)

  -- the rounded terms are together a whole number, which is not above the weighted columns
  record IsRounded (j : ℕ) (cs : List ColumnName) (w : ℤ) : Type 0 where
    is : sum_by (term_value choice) (rounded_terms p y j cs) ≡ whole w
    below : whole w ≤ℚ weighted j cs

  skipped : (j : ℕ) (c : ColumnName) (cs : List ColumnName) (w : ℤ) → column_sum p y j ≡ zero_ℚ → whole w ≤ℚ weighted (j + 1) cs → whole w ≤ℚ weighted j (c ∷ cs)
  unfolding weighted
  skipped j c cs w e h = rw (e, zero-*ℚ (outcome_number m t choice c), zero-+ℚ (weighted (j + 1) cs)) h

  rounded_all : (j : ℕ) (cs : List ColumnName) → ((i : ℕ) → i < length cs → is_share (column_at cs i) ≡ false → column_sum p y (j + i) ≡ zero_ℚ) → (w : ℤ) × IsRounded j cs w
  unfolding sum_by weighted
  rounded_all j [] h = (pos 0, record { is = refl; below = ≤ℚ_refl zero_ℚ })
  rounded_all j (Toll a ∷ cs) h =
      let e : j + 0 ≡ j = omega arith in
      let rest = rounded_all (j + 1) cs (λ i l no. let e : j + 1 + i ≡ j + suc i = omega arith in rw e (h (suc i) (omega (arith, l)) no)) in
      (rest.0, record { is = rest.1.is; below = skipped j (Toll a) cs rest.0 (rw e at (h 0 (omega arith) refl)) rest.1.below })
  rounded_all j (Paid a k ∷ cs) h =
      let e : j + 0 ≡ j = omega arith in
      let rest = rounded_all (j + 1) cs (λ i l no. let e : j + 1 + i ≡ j + suc i = omega arith in rw e (h (suc i) (omega (arith, l)) no)) in
      (rest.0, record { is = rest.1.is; below = skipped j (Paid a k) cs rest.0 (rw e at (h 0 (omega arith) refl)) rest.1.below })
  rounded_all j (Share k q ∷ cs) h =
      let rest = rounded_all (j + 1) cs (λ i l no. let e : j + 1 + i ≡ j + suc i = omega arith in rw e (h (suc i) (omega (arith, l)) no)) in
      let v : Rational = rounded (column_sum p y j) in
      let split = sum_by-append (term_value choice) (cond (is_zero (rounded (column_sum p y j))) [] (record { commodity = k; path = q; value = rounded (column_sum p y j) } ∷ [])) (rounded_terms p y (j + 1) cs)
      ∙ ap₂ ◌+ℚ◌ (share_value_by k q (rounded (column_sum p y j)) (is_zero (rounded (column_sum p y j))) refl) rest.1.is in
      elim (eqb_tells q (chosen choice k)) [
        | inl e ↦
            let same : (chosen choice k == q) ≡ true = rw e.1 (same_test (chosen choice k)) in (
              floor (column_sum p y j) +ℤ rest.0,
              record {
                is = split ∙ (let on = e.0 in rw on (sym (whole-+ℤ (floor (column_sum p y j)) rest.0)));
                below = rw (whole-+ℤ (floor (column_sum p y j)) rest.0, same, *ℚ-one (column_sum p y j)) (+ℚ_mono (floor_not_above (column_sum p y j)) rest.1.below);
              },
            )
        | inr e ↦
            let same : (chosen choice k == q) ≡ false = other_test (chosen choice k) q e.1 in (
              rest.0,
              record {
                is = split ∙ (let off = e.0 in rw off (zero-+ℚ (whole rest.0)));
                below = rw (same, *ℚ-zero (column_sum p y j), zero-+ℚ (weighted (j + 1) cs)) rest.1.below;
              },
            )
      ]

-- ---- the cut

to_none : (s : Rational) → fault_if (not (is_zero s)) TollColumn ≡ None → is_zero s ≡ true
to_none s e = passes (is_zero s) TollColumn e

column_by : (limit : ℕ) (p : NamedProgram) (y : List Rational) (j : ℕ) (b : Bool) → is_share (column_at p.columns j) ≡ b → b ≡ false
    → cond b None (sum_fault Overflow (λ s. fault_if (not (is_zero s)) TollColumn) (checked_column limit (numbered p) y j)) ≡ None → column_sum (numbered p) y j ≡ zero_ℚ
column_by limit p y j true e f none = cc
column_by limit p y j false e f none =
    let found = sum_fault_none Overflow (λ s. fault_if (not (is_zero s)) TollColumn) (checked_column limit (numbered p) y j) none in
    (checked_sum_parts limit (λ i. coefficient (row_of (numbered p) i).terms j) (at y) (length (numbered p).rows) found.0 found.1).1 ∙ zero_of_test found.0 (to_none found.0 found.2)

pub round_valid : (net : Network) (m : PathModel) (limit : ℕ) (earlier : List Cut) (y : List (Multiplier Rational)) → IsModelOf net m → AreValidCuts net m earlier
    → round_fault limit (whole_relaxation m earlier) y ≡ None → IsValidCut net m (round_cut (whole_relaxation m earlier) (multipliers_of (whole_relaxation m earlier).rows y))
unfolding weighted
round_valid net m limit earlier y model valid none t choice piece =
    let P : NamedProgram = whole_relaxation m earlier in
    let ys : List Rational = multipliers_of (whole_relaxation m earlier).rows y in
    let first = no_fault (multipliers_fault (whole_relaxation m earlier) y) (combination_fault limit (whole_relaxation m earlier) (multipliers_of (whole_relaxation m earlier).rows y)) none in
    let names = no_fault (fault_if (not (are_rows (whole_relaxation m earlier).rows y)) BadName) (or_else (fault_if (not (are_in_order y)) BadOrder) (fault_if (not (are_positive y)) NotPositive)) first.0 in
    let order = no_fault (fault_if (not (are_in_order y)) BadOrder) (fault_if (not (are_positive y)) NotPositive) names.1 in
    let positive : are_positive y ≡ true = passes (are_positive y) NotPositive order.1 in
    let columns = no_fault (first_below (length (whole_relaxation m earlier).columns) (toll_column_fault limit (whole_relaxation m earlier) (multipliers_of (whole_relaxation m earlier).rows y))) (or_else (first_below (length (whole_relaxation m earlier).columns) (share_column_fault limit (whole_relaxation m earlier) (multipliers_of (whole_relaxation m earlier).rows y))) (sum_fault Overflow (λ s. None) (checked_right limit (numbered (whole_relaxation m earlier)) (multipliers_of (whole_relaxation m earlier).rows y)))) first.1 in
    let sum = rounded_all m t choice (numbered (whole_relaxation m earlier)) (multipliers_of (whole_relaxation m earlier).rows y) 0 (whole_relaxation m earlier).columns (λ i l no.
    let e : 0 + i ≡ i = omega arith in
    rw e (column_by limit (whole_relaxation m earlier) (multipliers_of (whole_relaxation m earlier).rows y) i (is_share (column_at (whole_relaxation m earlier).columns i)) refl no
    (first_below_none (toll_column_fault limit (whole_relaxation m earlier) (multipliers_of (whole_relaxation m earlier).rows y)) (length (whole_relaxation m earlier).columns) i columns.0 l))) in
    let point = relaxation_point net m (all_paths m) earlier t choice model (all_allowed net m t choice piece) piece valid in
    let most : product_sum (length (whole_relaxation m earlier).columns) (column_sum (numbered (whole_relaxation m earlier)) (multipliers_of (whole_relaxation m earlier).rows y)) (at (map (outcome_number m t choice) (whole_relaxation m earlier).columns)) ≤ℚ right_value (numbered (whole_relaxation m earlier)) (multipliers_of (whole_relaxation m earlier).rows y) =
    columns_at_most (numbered (whole_relaxation m earlier)) (multipliers_of (whole_relaxation m earlier).rows y) (vector (whole_relaxation m earlier) (outcome_number m t choice)) (rows_in_order (whole_relaxation m earlier)) (multipliers_size (whole_relaxation m earlier) y)
    (All-map (λ q. zero_ℚ ≤ℚ q) (multiplier_of y) (whole_relaxation m earlier).rows (λ i d l. not_negative y (slice_index_or (whole_relaxation m earlier).rows i d) positive)) point in
    let same : weighted m t choice (numbered (whole_relaxation m earlier)) (multipliers_of (whole_relaxation m earlier).rows y) 0 (whole_relaxation m earlier).columns ≡ product_sum (length (whole_relaxation m earlier).columns) (column_sum (numbered (whole_relaxation m earlier)) (multipliers_of (whole_relaxation m earlier).rows y)) (at (map (outcome_number m t choice) (whole_relaxation m earlier).columns)) =
    weighted_is m t choice (numbered (whole_relaxation m earlier)) (multipliers_of (whole_relaxation m earlier).rows y) 0 (whole_relaxation m earlier).columns
    ∙ sum_to_same (length (whole_relaxation m earlier).columns) (λ i. column_sum (numbered (whole_relaxation m earlier)) (multipliers_of (whole_relaxation m earlier).rows y) (0 + i) *ℚ at (map (outcome_number m t choice) (whole_relaxation m earlier).columns) i) (λ i. column_sum (numbered (whole_relaxation m earlier)) (multipliers_of (whole_relaxation m earlier).rows y) i *ℚ at (map (outcome_number m t choice) (whole_relaxation m earlier).columns) i) (λ i l. let e : 0 + i ≡ i = omega arith in rw e refl) in
    let below : whole sum.0 ≤ℚ right_value (numbered (whole_relaxation m earlier)) (multipliers_of (whole_relaxation m earlier).rows y) = ≤ℚ_trans (rw same at sum.1.below) most in
    rw (cut_value_is net m t choice piece (round_cut (whole_relaxation m earlier) (multipliers_of (whole_relaxation m earlier).rows y)) (terms_within (length m.covers) (numbered (whole_relaxation m earlier)) (multipliers_of (whole_relaxation m earlier).rows y) 0 (whole_relaxation m earlier).columns (columns_within m (all_paths m))), sum.1.is)
    (whole_mono ((floor_greatest (right_value (numbered (whole_relaxation m earlier)) (multipliers_of (whole_relaxation m earlier).rows y))).greatest sum.0 below))

-- ---- all derivations

valid_by : (net : Network) (m : PathModel) (limit : ℕ) (earlier : List Cut) → IsModelOf net m → AreValidCuts net m earlier → (d : Derived) → derivation_fault limit m earlier d ≡ None → IsValidCut net m (derived_cut m earlier d)
valid_by net m limit earlier model valid (Conflict k p l q y) none = conflict_valid net m limit k p l q y model none
valid_by net m limit earlier model valid (Pair k p l cuts) none = pair_valid net m earlier k p l cuts valid none
valid_by net m limit earlier model valid (Round y) none = round_valid net m limit earlier y model valid none

-- what is derived from valid cuts is a valid cut
pub derivation_holds : (net : Network) (m : PathModel) → DerivationHolds net m
derivation_holds net m model limit earlier d c valid e =
    let parts = unless_ok (derivation_fault limit m earlier d) (derived_cut m earlier d) c e in
    let Valid : Cut → Type 0 = λ c. IsValidCut net m c in
    subst Valid parts.1 (valid_by net m limit earlier model valid d parts.0)
