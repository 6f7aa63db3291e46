-- The rounded sums of columns are the rounded combination of rows, and a cut row.
use Rattle.std.proofs.Common.{◌≡◌, ◌≢◌, ℕ, suc, ◌+◌, ◌<◌, Bool, true, false, cond, List, [], ◌∷◌, ◌++◌, length, get_or, Option, Some, None, Result, Ok, Err, All, refl, sym, ap, ap₂, ◌∙◌, arith, inl, inr}
use Rattle.std.specs.Prelude.{not, IsTrue}
use Rattle.std.specs.List.{AllPairs}
use Rattle.std.proofs.lemmas.Bool.{lt-ltb, eq-eqb, or_left, or_right, and_from}
use Rattle.std.proofs.lemmas.List.Elements.{All-append, All-cons, All-nil, All-head, All-tail}
use Rattle.std.proofs.lemmas.List.Kept.{AllPairs-cons}
use Rattle.npp_frac.specs.Rational.{Rational, zero_ℚ}
use Rattle.npp_frac.specs.Sign.{is_zero, is_zero_of}
use Rattle.npp_frac.specs.Fits.{IsWidth, limit_of}
use Rattle.npp_frac.specs.declared.refusal.Overflow.{Overflow as Stop}
use Rattle.npp_lp.specs.Programs.{product_sum, row_of, at}
use Rattle.npp_lp.specs.Duals.{coefficient, column_sum}
use Rattle.npp_lp.specs.Sums.{checked_sum}
use Rattle.npp_lp.specs.SumLaws.{checked_sum_parts}
use Rattle.npp_lp.specs.Verdict.{or_else, first_below, sum_fault, unless}
use Rattle.npp_lp.specs.VerdictLaws.{first_below_same, first_below_none}
use Rattle.npp_lp.specs.RunningSums.{Sums, AreSumsOf, column_of}
use Rattle.npp_rows.specs.declared.names.ColumnName.{ColumnName}
use Rattle.npp_rows.specs.declared.names.ColumnName.TheVariants.{Toll, Share, Paid}
use Rattle.npp_rows.specs.declared.names.Multiplier.{Multiplier}
use Rattle.npp_rows.specs.declared.cut.CutTerm.{CutTerm}
use Rattle.npp_rows.specs.declared.cut.CutFault.{CutFault}
use Rattle.npp_rows.specs.declared.cut.CutFault.TheVariants.{TollColumn, Overflow}
use Rattle.npp_rows.specs.PathModel.{PathModel, path_count}
use Rattle.npp_rows.specs.Parts.{IsAllowed}
use Rattle.npp_rows.specs.RowOrder.{is_key_less, are_rows, are_in_order, multipliers_of, DoRise}
use Rattle.npp_rows.specs.Places.{column_key}
use Rattle.npp_rows.specs.Named.{NamedProgram, numbered}
use Rattle.npp_rows.specs.Cuts.{Cut, IsCut, is_share_before}
use Rattle.npp_rows.specs.Relax.{relaxation_columns}
use Rattle.npp_rows.specs.Rows.{HasColumn}
use Rattle.npp_rows.specs.Derivations.{fault_if, is_share, column_at, toll_column_fault, share_column_fault, combination_fault, rounded, share_term, rounded_terms, round_cut}
use Rattle.npp_rows.specs.Taken.{placed}
use Rattle.npp_rows.specs.Rounding.{toll_fault_at, share_fault_at, rounding_fault, sum_or_zero, rounded_sums, rounded_cut}
use Rattle.npp_rows.proofs.TakenLaws.{column_named, right_named}
use Rattle.npp_rows.proofs.KeyLaws.{RiseBy, less_tells, IsLess}
use Rattle.npp_rows.proofs.RowPlaces.{relaxation_columns_rise, all_its_columns}

-- ---- the sums of the columns are those of the dense multipliers

-- a sum that fits is the sum
sum_is : (m n : ℕ) (a b : ℕ → Rational) (r : Result Rational (Stop Rational)) → ◌≡◌ {A = Option (CutFault Rational)} (sum_fault Overflow (λ x. None) r) None → r ≡ checked_sum m n a b → sum_or_zero r ≡ product_sum n a b
sum_is m n a b (Ok t) fits e = sym (checked_sum_parts m a b n t (sym e)).1
sum_is m n a b (Err o) fits e = cc

-- the answer where there is no fault
same_unless : {T F : Type 0} (f : Option F) (a b : T) → (f ≡ None → a ≡ b) → ◌≡◌ {A = Result T F} (unless f (Ok a)) (unless f (Ok b))
same_unless None a b h = ap Ok (h refl)
same_unless (Some x) a b h = refl

module _ (w : ℕ) (wide : IsWidth w) (p : NamedProgram) (rises : DoRise p.rows) (ys : List (Multiplier Rational)) (are : are_rows p.rows ys ≡ true) (order : are_in_order ys ≡ true) (s : Sums Rational) (sums : AreSumsOf (limit_of w) (numbered p) (placed p.rows ys) s) where
  pub tolls_named : first_below (length p.columns) (toll_fault_at p.columns s) ≡ first_below (length p.columns) (toll_column_fault (limit_of w) p (multipliers_of p.rows ys))
  tolls_named = first_below_same (length p.columns) (toll_fault_at p.columns s) (toll_column_fault (limit_of w) p (multipliers_of p.rows ys)) (λ j l.
      ap (λ r. cond (is_share (column_at p.columns j)) None (sum_fault Overflow (λ x. fault_if (not (is_zero x)) TollColumn) r)) (column_named w wide p rises ys are order s sums j l))

  shares_named : first_below (length p.columns) (share_fault_at p.columns s) ≡ first_below (length p.columns) (share_column_fault (limit_of w) p (multipliers_of p.rows ys))
  shares_named = first_below_same (length p.columns) (share_fault_at p.columns s) (share_column_fault (limit_of w) p (multipliers_of p.rows ys)) (λ j l.
      ap (λ r. cond (is_share (column_at p.columns j)) (sum_fault Overflow (λ x. None) r) None) (column_named w wide p rises ys are order s sums j l))

  pub faults_named : or_else (first_below (length p.columns) (toll_fault_at p.columns s)) (rounding_fault p.columns s) ≡ combination_fault (limit_of w) p (multipliers_of p.rows ys)
  faults_named =
      ap₂ or_else tolls_named (ap₂ or_else shares_named (ap (sum_fault Overflow (λ x. None)) (right_named w wide p rises ys are order s sums)))

  module _ (fits : rounding_fault p.columns s ≡ None) where
    first_fits : first_below (length p.columns) (share_fault_at p.columns s) ≡ None
    first_fits = first_of (first_below (length p.columns) (share_fault_at p.columns s)) (sum_fault Overflow (λ x. None) s.right) fits
      where
        first_of : {F : Type 0} (a b : Option F) → or_else a b ≡ None → a ≡ None
        first_of None b e = refl
        first_of (Some x) b e = cc

    right_fits : ◌≡◌ {A = Option (CutFault Rational)} (sum_fault Overflow (λ x. None) s.right) None
    right_fits = second_of (first_below (length p.columns) (share_fault_at p.columns s)) (sum_fault Overflow (λ x. None) s.right) fits
      where
        second_of : {F : Type 0} (a b : Option F) → or_else a b ≡ None → b ≡ None
        second_of None b e = e
        second_of (Some x) b e = cc

    share_fits : (j : ℕ) → j < length p.columns → is_share (column_at p.columns j) ≡ true → sum_or_zero (column_of s j) ≡ column_sum (numbered p) (multipliers_of p.rows ys) j
    share_fits j l share =
        let none : share_fault_at p.columns s j ≡ None = first_below_none (share_fault_at p.columns s) (length p.columns) j first_fits l in
        let one : ◌≡◌ {A = Option (CutFault Rational)} (sum_fault Overflow (λ x. None) (column_of s j)) None = rw share at none in
        sum_is (limit_of w) (length (numbered p).rows) (λ i. coefficient (row_of (numbered p) i).terms j) (at (multipliers_of p.rows ys)) (column_of s j) one (column_named w wide p rises ys are order s sums j l)

    term_same : (c : ColumnName) (x y : Rational) → (is_share c ≡ true → x ≡ y) → share_term c (rounded x) ≡ share_term c (rounded y)
    term_same (Toll a) x y h = refl
    term_same (Share k q) x y h = ap (λ z. share_term (Share k q) (rounded z)) (h refl)
    term_same (Paid a k) x y h = refl

    terms_same : (j : ℕ) (cs : List ColumnName) → ((i : ℕ) → i < length cs → is_share (column_at cs i) ≡ true → sum_or_zero (column_of s (j + i)) ≡ column_sum (numbered p) (multipliers_of p.rows ys) (j + i))
        → rounded_sums s j cs ≡ rounded_terms (numbered p) (multipliers_of p.rows ys) j cs
    terms_same j [] h = refl
    terms_same j (c ∷ rest) h =
        let zero_on : j + 0 ≡ j = omega arith in
        ap₂ ◌++◌ (term_same c (sum_or_zero (column_of s j)) (column_sum (numbered p) (multipliers_of p.rows ys) j) (λ e. rw zero_on at (h 0 (omega arith) e)))
        (terms_same (j + 1) rest (λ i l e. let next : j + suc i ≡ j + 1 + i = omega arith in rw next at (h (suc i) (omega (arith, l)) e)))

    pub cut_named : rounded_cut p.columns s ≡ round_cut p (multipliers_of p.rows ys)
    cut_named =
        let terms = terms_same 0 p.columns (λ i l e. let none : 0 + i ≡ i = omega arith in rw none (share_fits i l e)) in
        let right = sum_is (limit_of w) (length (numbered p).rows) (λ i. (row_of (numbered p) i).right) (at (multipliers_of p.rows ys)) s.right right_fits (right_named w wide p rises ys are order s sums) in
        λ i. record { terms = terms i; right = rounded (right i) }

  pub rounding_named : first_below (length p.columns) (toll_fault_at p.columns s) ≡ None
      → ◌≡◌ {A = Result Cut (CutFault Rational)} (unless (rounding_fault p.columns s) (Ok (rounded_cut p.columns s)))
      (unless (combination_fault (limit_of w) p (multipliers_of p.rows ys)) (Ok (round_cut p (multipliers_of p.rows ys))))
  rounding_named none =
      same_unless (rounding_fault p.columns s) (rounded_cut p.columns s) (round_cut p (multipliers_of p.rows ys)) cut_named
      ∙ ap (λ f. unless f (Ok (round_cut p (multipliers_of p.rows ys)))) (sym (ap (λ f. or_else f (rounding_fault p.columns s)) none) ∙ faults_named)

-- ---- a rounded combination is a cut row

-- what holds of the columns holds of the terms
terms_of_columns : (P : ColumnName → Type 0) (s : Sums Rational) (j : ℕ) (cs : List ColumnName) → All P cs → All (λ (t : CutTerm Rational). P (Share t.commodity t.path)) (rounded_sums s j cs)
terms_of_columns P s j [] h = All-nil (λ (t : CutTerm Rational). P (Share t.commodity t.path))
terms_of_columns P s j (c ∷ rest) h =
    All-append (λ (t : CutTerm Rational). P (Share t.commodity t.path)) (share_term c (rounded (sum_or_zero (column_of s j)))) (rounded_sums s (j + 1) rest)
    (one c (rounded (sum_or_zero (column_of s j))) (All-head P c rest h)) (terms_of_columns P s (j + 1) rest (All-tail P c rest h))
  where
    by : (k q : ℕ) (x : Rational) (b : Bool) → P (Share k q) → All (λ (t : CutTerm Rational). P (Share t.commodity t.path)) (cond b [] (record { commodity = k; path = q; value = x } ∷ []))
    by k q x true p = All-nil (λ (t : CutTerm Rational). P (Share t.commodity t.path))
    by k q x false p = All-cons (λ (t : CutTerm Rational). P (Share t.commodity t.path)) (record { commodity = k; path = q; value = x }) [] p (All-nil (λ (t : CutTerm Rational). P (Share t.commodity t.path)))

    one : (c : ColumnName) (x : Rational) → P c → All (λ (t : CutTerm Rational). P (Share t.commodity t.path)) (share_term c x)
    one (Toll a) x p = All-nil (λ (t : CutTerm Rational). P (Share t.commodity t.path))
    one (Share k q) x p = by k q x (is_zero x) p
    one (Paid a k) x p = All-nil (λ (t : CutTerm Rational). P (Share t.commodity t.path))

-- no term is 0
terms_nonzero : (s : Sums Rational) (j : ℕ) (cs : List ColumnName) → All (λ (t : CutTerm Rational). t.value ≢ zero_ℚ) (rounded_sums s j cs)
terms_nonzero s j [] = All-nil (λ (t : CutTerm Rational). t.value ≢ zero_ℚ)
terms_nonzero s j (c ∷ rest) =
    All-append (λ (t : CutTerm Rational). t.value ≢ zero_ℚ) (share_term c (rounded (sum_or_zero (column_of s j)))) (rounded_sums s (j + 1) rest)
    (one c (rounded (sum_or_zero (column_of s j)))) (terms_nonzero s (j + 1) rest)
  where
    by : (k q : ℕ) (x : Rational) (b : Bool) → is_zero x ≡ b → All (λ (t : CutTerm Rational). t.value ≢ zero_ℚ) (cond b [] (record { commodity = k; path = q; value = x } ∷ []))
    by k q x true e = All-nil (λ (t : CutTerm Rational). t.value ≢ zero_ℚ)
    by k q x false e = All-cons (λ (t : CutTerm Rational). t.value ≢ zero_ℚ) (record { commodity = k; path = q; value = x }) [] (λ z. let yes : is_zero x ≡ true = is_zero_of x z in cc) (All-nil (λ (t : CutTerm Rational). t.value ≢ zero_ℚ))

    one : (c : ColumnName) (x : Rational) → All (λ (t : CutTerm Rational). t.value ≢ zero_ℚ) (share_term c x)
    one (Toll a) x = All-nil (λ (t : CutTerm Rational). t.value ≢ zero_ℚ)
    one (Share k q) x = by k q x (is_zero x) refl
    one (Paid a k) x = All-nil (λ (t : CutTerm Rational). t.value ≢ zero_ℚ)

-- a share before another by its key
share_before : (s t : CutTerm Rational) → is_key_less (column_key (Share s.commodity s.path)) (column_key (Share t.commodity t.path)) ≡ true → is_share_before s t ≡ true
share_before s t h = by (less_tells (column_key (Share s.commodity s.path)) (column_key (Share t.commodity t.path)) h)
  where
    by : IsLess (column_key (Share s.commodity s.path)) (column_key (Share t.commodity t.path)) → is_share_before s t ≡ true
    by (inl kind) = absurd (omega (arith, kind))
    by (inr (same, inl commodity)) = or_left _ _ (lt-ltb s.commodity t.commodity commodity)
    by (inr (same, inr (e, path))) = or_right _ _ (and_from _ _ (eq-eqb s.commodity t.commodity e) (lt-ltb s.path t.path path))

terms_rise : (s : Sums Rational) (j : ℕ) (cs : List ColumnName) → RiseBy column_key cs → AllPairs (λ t u. IsTrue (is_share_before t u)) (rounded_sums s j cs)
terms_rise s j [] h = λ a b d l k. absurd (omega (arith, k))
terms_rise s j (c ∷ rest) h =
    one c (rounded (sum_or_zero (column_of s j))) (rounded_sums s (j + 1) rest) (terms_of_columns (λ d. is_key_less (column_key c) (column_key d) ≡ true) s (j + 1) rest (λ k d l. h 0 (suc k) d (omega arith) (omega (arith, l))))
    (terms_rise s (j + 1) rest (λ a b d l k. h (suc a) (suc b) d (omega (arith, l)) (omega (arith, k))))
  where
    by : (k q : ℕ) (x : Rational) (b : Bool) (ts : List (CutTerm Rational)) → All (λ (t : CutTerm Rational). is_key_less (column_key (Share k q)) (column_key (Share t.commodity t.path)) ≡ true) ts → AllPairs (λ t u. IsTrue (is_share_before t u)) ts
        → AllPairs (λ t u. IsTrue (is_share_before t u)) (cond b [] (record { commodity = k; path = q; value = x } ∷ []) ++ ts)
    by k q x true ts less rise = rise
    by k q x false ts less rise = AllPairs-cons (λ t u. IsTrue (is_share_before t u)) (record { commodity = k; path = q; value = x }) ts (λ i d l. share_before (record { commodity = k; path = q; value = x }) (get_or ts i d) (less i d l)) rise

    one : (c : ColumnName) (x : Rational) (ts : List (CutTerm Rational)) → All (λ (t : CutTerm Rational). is_key_less (column_key c) (column_key (Share t.commodity t.path)) ≡ true) ts → AllPairs (λ t u. IsTrue (is_share_before t u)) ts
        → AllPairs (λ t u. IsTrue (is_share_before t u)) (share_term c x ++ ts)
    one (Toll a) x ts less rise = rise
    one (Share k q) x ts less rise = by k q x (is_zero x) ts less rise
    one (Paid a k) x ts less rise = rise

-- the columns of a family name useful paths
pub rounded_is_cut : (m : PathModel) (parts : List (List ℕ)) (s : Sums Rational) → IsAllowed m parts → IsCut m (rounded_cut (relaxation_columns m parts) s)
rounded_is_cut m parts s allowed = record {
  rising = terms_rise s 0 (relaxation_columns m parts) (relaxation_columns_rise m parts allowed);
  shares = terms_of_columns ShareIn s 0 (relaxation_columns m parts) (λ k d l. share_in (get_or (relaxation_columns m parts) k d) (all_its_columns m parts k d l));
  nonzero = terms_nonzero s 0 (relaxation_columns m parts);
}
  where
    ShareIn : ColumnName → Type 0
    ShareIn (Toll a) = Unit {0}
    ShareIn (Share k q) = (k < length m.covers) × (q < path_count m k)
    ShareIn (Paid a k) = Unit {0}

    share_in : (c : ColumnName) → HasColumn m parts c → ShareIn c
    share_in (Toll a) h = tt
    share_in (Share k q) h = (h.0, part_inside k q h)
      where
        part_inside : (k q : ℕ) → HasColumn m parts (Share k q) → q < path_count m k
        part_inside k q h =
            let part = allowed.each k (omega (arith, h.0, allowed.size)) in
            let here = part.in_range h.1.0 q h.1.1 in
            omega (arith, here, h.1.2)
    share_in (Paid a k) h = tt
