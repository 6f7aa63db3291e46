-- A cut row, term by term.
use Rattle.std.proofs.Common.{◌≡◌, ◌≢◌, ◌⊎◌, inl, inr, ℕ, suc, ◌+◌, ◌<◌, ◌≤◌, Bool, true, false, cond, ◌==◌, ◌&&◌, List, [], ◌∷◌, ◌++◌, length, map, take, get_or, All, refl, sym, ap, ap₂, subst, ◌∙◌, arith, ne_eqb, eq-eqb, IsTrue}
use Rattle.std.specs.Prelude.{Contains}
use Rattle.std.specs.List.{AllPairs}
use Rattle.std.proofs.lemmas.Bool.{cases_eq}
use Rattle.std.proofs.lemmas.Bool.Decides.{nat_tests}
use Rattle.std.proofs.lemmas.List.{append_assoc, append-nil, length-map, get_or-map, get_or-take, get_or_default, take_more, take_all, length-take}
use Rattle.std.proofs.lemmas.List.FromFn.{length-range_with_len}
use Rattle.npp_frac.specs.Rational.{Rational, zero_ℚ, ◌+ℚ◌}
use Rattle.npp_frac.specs.Ring.{zero-+ℚ, +ℚ-zero}
use Rattle.npp_frac.specs.Sums.{sum_by, sum_by-append}
use Rattle.npp_lp.specs.Building.{term_at}
use Rattle.npp_lp.specs.Programs.{Term}
use Rattle.npp_rows.specs.declared.names.ColumnName.{ColumnName}
use Rattle.npp_rows.specs.declared.names.ColumnName.TheVariants.{Toll, Share, Paid}
use Rattle.npp_rows.specs.declared.cut.CutTerm.{CutTerm}
use Rattle.npp_rows.specs.PathModel.{PathModel, tolls, path_count}
use Rattle.npp_rows.specs.Parts.{IsPart, part_at}
use Rattle.npp_rows.specs.Named.{terms_from}
use Rattle.npp_rows.specs.Cuts.{Cut, IsShareOf, is_at_share, share_coefficient, is_share_before}
use Rattle.npp_rows.specs.Meaning.{cut_term_value}
use Rattle.npp_rows.specs.Relax.{cut_entry, relaxation_columns, shares, on_allowed_tolls, allowed_tolls}
use Rattle.npp_rows.specs.Family.{share_count}
use Rattle.npp_rows.specs.Rows.{shares_from, IsShareWritten}
use Rattle.npp_rows.proofs.StartLaws.{sum_below_same}
use Rattle.npp_rows.proofs.TermLaws.{terms_append, terms_none, flat_none}
use Rattle.npp_rows.proofs.NumberLaws.{term_of_nonzero}
use Rattle.npp_rows.proofs.CutTerms.{IsFrom, shares_put, shares_same}

-- the row of some terms
abbrev pub row_of_terms : List (CutTerm Rational) → Cut
row_of_terms ts = record { terms = ts; right = zero_ℚ }

-- ---- coefficients

apart : (a b x y : ℕ) → (x ≢ a) ⊎ (y ≢ b) → ((a == x) && (b == y)) ≡ false
apart a b x y (inl h) = let e : (a == x) ≡ false = ne_eqb a x (λ q. h (sym q)) in rw e refl
apart a b x y (inr h) = let e : (b == y) ≡ false = ne_eqb b y (λ q. h (sym q)) in rw e (by (a == x))
  where
    by : (c : Bool) → (c && false) ≡ false
    by true = refl
    by false = refl

-- the coefficient with one more term
coefficient_push : (ts : List (CutTerm Rational)) (t : CutTerm Rational) (l q : ℕ) → share_coefficient (ts ++ t ∷ []) l q ≡ share_coefficient ts l q +ℚ cond (is_at_share l q t) t.value zero_ℚ
unfolding sum_by
coefficient_push ts t l q =
    sum_by-append (λ s. cond (is_at_share l q s) s.value zero_ℚ) ts (t ∷ [])
    ∙ ap (λ z. share_coefficient ts l q +ℚ z) (+ℚ-zero (cond (is_at_share l q t) t.value zero_ℚ))

same_elsewhere : (ts : List (CutTerm Rational)) (t : CutTerm Rational) (l q : ℕ) → (l ≢ t.commodity) ⊎ (q ≢ t.path) → share_coefficient (ts ++ t ∷ []) l q ≡ share_coefficient ts l q
same_elsewhere ts t l q h =
    let e : is_at_share l q t ≡ false = apart t.commodity t.path l q h in
    coefficient_push ts t l q ∙ rw e (+ℚ-zero (share_coefficient ts l q))

before_apart : (s t : CutTerm Rational) (l q : ℕ) → IsTrue (is_share_before s t) → IsFrom t.commodity t.path l q → (l ≢ s.commodity) ⊎ (q ≢ s.path)
before_apart s t l q before from = elim (cases_eq l s.commodity) [
  | inr other ↦ inl other
  | inl here ↦ inr (λ e. grind (arith, nat_tests))
]

none_behind : (ts : List (CutTerm Rational)) (t : CutTerm Rational) (l q : ℕ) → All (λ s. IsTrue (is_share_before s t)) ts → IsFrom t.commodity t.path l q → share_coefficient ts l q ≡ zero_ℚ
unfolding sum_by
none_behind [] t l q all from = refl
none_behind (s ∷ ts) t l q all from =
    let e : is_at_share l q s ≡ false = apart s.commodity s.path l q (before_apart s t l q (all 0 s (omega arith)) from) in
    rw e (zero-+ℚ (share_coefficient ts l q) ∙ none_behind ts t l q (λ k d i. all (suc k) d (omega (arith, i))) from)

value_here : (ts : List (CutTerm Rational)) (t : CutTerm Rational) → All (λ s. IsTrue (is_share_before s t)) ts → share_coefficient (ts ++ t ∷ []) t.commodity t.path ≡ t.value
value_here ts t all =
    let e : (t.commodity == t.commodity) ≡ true = eq-eqb t.commodity t.commodity refl in
    let f : (t.path == t.path) ≡ true = eq-eqb t.path t.path refl in
    coefficient_push ts t t.commodity t.path
    ∙ rw (e, f) (ap (λ z. z +ℚ t.value) (none_behind ts t t.commodity t.path all (inr (refl, omega arith))) ∙ zero-+ℚ t.value)

-- ---- rows

module _ (m : PathModel) (parts : List (List ℕ)) where
  -- a row over the shares alone
  shares_only : (c : Cut) → terms_from 0 (cut_entry c) (relaxation_columns m parts) ≡ terms_from (length m.caps) (cut_entry c) (shares m parts)
  shares_only c =
      let size : length (map Toll (tolls m)) ≡ length m.caps = rw length-map (length-range_with_len 0 (length m.caps)) in
      terms_append (cut_entry c) 0 (map Toll (tolls m) ++ shares m parts) (on_allowed_tolls m parts Paid)
      ∙ ap₂ ◌++◌
      (terms_append (cut_entry c) 0 (map Toll (tolls m)) (shares m parts)
      ∙ ap₂ ◌++◌ (terms_none (cut_entry c) Toll 0 (tolls m) (λ b. refl)) (ap (λ j. terms_from j (cut_entry c) (shares m parts)) (omega (arith, size))))
      (flat_none (cut_entry c) (λ k. map (λ a. Paid a k) (allowed_tolls m parts k)) _ (length m.covers) (λ l j u. terms_none (cut_entry c) (λ a. Paid a l) j (allowed_tolls m parts l) (λ b. refl)))
      ∙ append-nil (terms_from (length m.caps) (cut_entry c) (shares m parts))

  module _ (ts : List (CutTerm Rational)) (t : CutTerm Rational) (all : All (λ s. IsTrue (is_share_before s t)) ts) where
    -- a term whose path is allowed
    pub term_put : (i : ℕ) → t.commodity < length m.covers → AllPairs (λ x y. x < y) (part_at parts t.commodity) → i < length (part_at parts t.commodity) → get_or (part_at parts t.commodity) i t.path ≡ t.path
        → terms_from 0 (cut_entry (row_of_terms (ts ++ t ∷ []))) (relaxation_columns m parts)
        ≡ terms_from 0 (cut_entry (row_of_terms ts)) (relaxation_columns m parts) ++ term_at (shares_from m parts t.commodity + i) t.value
    term_put i within rising inside is =
        shares_only (row_of_terms (ts ++ t ∷ []))
        ∙ shares_put (cut_entry (row_of_terms ts)) (cut_entry (row_of_terms (ts ++ t ∷ []))) t.commodity t.path (λ l q h. same_elsewhere ts t l q h) (λ l q h. none_behind ts t l q all h) parts (length m.caps) i rising inside is (length m.covers) within
        ∙ ap₂ ◌++◌ (sym (shares_only (row_of_terms ts)))
        (ap₂ (λ j v. term_at (length m.caps + j + i) v) (sum_below_same (λ l. length (map (Share l) (part_at parts l))) (share_count parts) t.commodity (λ l w. rw length-map refl)) (value_here ts t all))

    -- a term whose path is not allowed
    pub term_left : (Contains (part_at parts t.commodity) t.path → ⊥)
        → terms_from 0 (cut_entry (row_of_terms (ts ++ t ∷ []))) (relaxation_columns m parts) ≡ terms_from 0 (cut_entry (row_of_terms ts)) (relaxation_columns m parts)
    term_left out =
        shares_only (row_of_terms (ts ++ t ∷ []))
        ∙ shares_same (cut_entry (row_of_terms ts)) (cut_entry (row_of_terms (ts ++ t ∷ []))) t.commodity t.path (λ l q h. same_elsewhere ts t l q h) (λ l q h. none_behind ts t l q all h) parts (length m.caps) (length m.covers) (λ u c. out c)
        ∙ sym (shares_only (row_of_terms ts))

-- the terms so far, and one more
module _ (m : PathModel) (parts : List (List ℕ)) (ts : List (CutTerm Rational)) (rising : AllPairs (λ s t. IsTrue (is_share_before s t)) ts) (shares_in : All (IsShareOf m) ts) (nonzero : All (λ t. t.value ≢ zero_ℚ) ts) where
  before_all : (i : ℕ) (t : CutTerm Rational) → i < length ts → t ≡ get_or ts i t → All (λ s. IsTrue (is_share_before s t)) (take i ts)
  before_all i t inside is k d l =
      let low : k < i = omega (arith, l, length-take i ts) in
      rw (get_or-take i ts k d low, is) (let P : CutTerm Rational → Type 0 = λ u. IsTrue (is_share_before (get_or ts k d) u) in subst P (get_or_default ts i d t inside) (rising k i d low inside))

  pub written_step : (i : ℕ) (t : CutTerm Rational) (old now next : List Term) → i < length ts → t ≡ get_or ts i t → IsPart (path_count m t.commodity) (part_at parts t.commodity)
      → now ≡ old ++ terms_from 0 (cut_entry (row_of_terms (take i ts))) (relaxation_columns m parts) → IsShareWritten m parts t now next
      → next ≡ old ++ terms_from 0 (cut_entry (row_of_terms (take (i + 1) ts))) (relaxation_columns m parts)
  written_step i t old now next inside is part before written =
      let more : take (i + 1) ts ≡ take i ts ++ t ∷ [] = take_more ts i t inside ∙ ap (λ u. take i ts ++ u ∷ []) (sym is) in
      let all = before_all i t inside is in
      rw more (elim written [
        | inl (j, l, e, w) ↦
            (let value : t.value ≢ zero_ℚ = rw (← is) at (nonzero i t inside) in
            let within : t.commodity < length m.covers = (rw (← is) at (shares_in i t inside)).0 in
            w ∙ ap₂ ◌++◌ before (sym (term_of_nonzero (shares_from m parts t.commodity + j) t.value value))
            ∙ append_assoc old (terms_from 0 (cut_entry (row_of_terms (take i ts))) (relaxation_columns m parts)) (term_at (shares_from m parts t.commodity + j) t.value)
            ∙ ap (λ u. old ++ u) (sym (term_put m parts (take i ts) t all j within part.rising l e)))
        | inr (out, w) ↦ w ∙ before ∙ ap (λ u. old ++ u) (sym (term_left m parts (take i ts) t all out))
      ])

pub written_none : (m : PathModel) (parts : List (List ℕ)) → terms_from 0 (cut_entry (row_of_terms [])) (relaxation_columns m parts) ≡ []
unfolding sum_by
written_none m parts =
    shares_only m parts (row_of_terms [])
    ∙ flat_none (cut_entry (row_of_terms [])) (λ k. map (Share k) (part_at parts k)) (length m.caps) (length m.covers) (λ l j u. terms_none (cut_entry (row_of_terms [])) (Share l) j (part_at parts l) (λ p. refl))

-- the right side plays no part
same_entry : (c : Cut) (column : ColumnName) → cut_entry (row_of_terms c.terms) column ≡ cut_entry c column
same_entry c (Toll a) = refl
same_entry c (Share k p) = refl
same_entry c (Paid a k) = refl

pub terms_same : (e e' : ColumnName → Rational) (n : ℕ) (cs : List ColumnName) → ((c : ColumnName) → e c ≡ e' c) → terms_from n e cs ≡ terms_from n e' cs
terms_same e e' n [] h = refl
terms_same e e' n (c ∷ cs) h = ap₂ ◌++◌ (ap (term_at n) (h c)) (terms_same e e' (n + 1) cs h)

pub written_all : (m : PathModel) (parts : List (List ℕ)) (c : Cut) (i : ℕ) → length c.terms ≤ i
    → terms_from 0 (cut_entry (row_of_terms (take i c.terms))) (relaxation_columns m parts) ≡ terms_from 0 (cut_entry c) (relaxation_columns m parts)
written_all m parts c i all =
    ap (λ ts. terms_from 0 (cut_entry (row_of_terms ts)) (relaxation_columns m parts)) (take_all i c.terms all)
    ∙ terms_same (cut_entry (row_of_terms c.terms)) (cut_entry c) 0 (relaxation_columns m parts) (same_entry c)

-- a term as it is read
pub term_read : {N : Type 0} (value : N → Rational) (terms items : List (CutTerm N)) (i : ℕ) (t : CutTerm N) → items ≡ terms → i < length items → t ≡ get_or items i t
    → (i < length (map (cut_term_value value) terms)) × (cut_term_value value t ≡ get_or (map (cut_term_value value) terms) i (cut_term_value value t))
term_read value terms items i t same inside is =
    let within : i < length terms = rw (← same) inside in (
      rw length-map within,
      ap (cut_term_value value) (is ∙ ap (λ (l : List (CutTerm _)). get_or l i t) same) ∙ sym (get_or-map (cut_term_value value) terms i t (cut_term_value value t) within),
    )
