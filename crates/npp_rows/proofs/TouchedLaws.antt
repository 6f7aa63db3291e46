-- The columns in which the rows of a combination stand, and a combination by its sums there.
use Rattle.std.proofs.Common.{◌≡◌, ◌⊎◌, ℕ, zero, suc, ◌+◌, ◌<◌, ◌≤◌, true, false, List, [], ◌∷◌, ◌++◌, length, map, get_or, take, drop, Option, Some, None, Result, Ok, All, refl, sym, ap, ap₂, subst, ◌∙◌, arith, inl, inr, add-one, eqb, pos}
use Rattle.std.specs.Prelude.{Contains, not}
use Rattle.std.specs.List.{AllPairs, dedup, flat_map}
use Rattle.std.specs.List.Sorted.{IsPermutation, IsSorted}
use Rattle.std.specs.Ordering.{nat_cmp}
use Rattle.std.proofs.lemmas.Bool.{cases_eq}
use Rattle.std.proofs.lemmas.Grind.{flat_map-append}
use Rattle.std.proofs.lemmas.List.{get_or_default, get_or-map, length-map, get_or-drop, length-drop, take_more, append-nil}
use Rattle.std.proofs.Math.Seq.{drop-cons}
use Rattle.std.proofs.lemmas.List.Elements.{All-append, All-map, All-nil, All-cons, All-head, All-tail, Contains-append_left, Contains-append_right}
use Rattle.std.proofs.lemmas.List.Filters.{All-dedup}
use Rattle.std.proofs.lemmas.List.Kept.{AllPairs-from_increasing, Contains-dedup_nat}
use Rattle.std.proofs.lemmas.List.Sorted.{All-permutation, Contains-permutation}
use Rattle.std.proofs.lemmas.Map.Keys.{IsStrictlyIncreasing-dedup}
use Rattle.npp_frac.specs.Rational.{Rational, zero_ℚ, whole}
use Rattle.npp_frac.specs.Floor.{floor_whole}
use Rattle.npp_frac.specs.Sign.{is_zero, is_zero_of}
use Rattle.npp_frac.specs.declared.refusal.Overflow.{Overflow as Stop}
use Rattle.npp_lp.specs.declared.program.Entry.{Entry}
use Rattle.npp_lp.specs.Programs.{Term}
use Rattle.npp_lp.specs.Meaning.{term_of, terms_of}
use Rattle.npp_lp.specs.Verdict.{first_below}
use Rattle.npp_lp.specs.VerdictLaws.{first_below_clear, first_below_found}
use Rattle.npp_lp.specs.RunningSums.{Sums, column_of}
use Rattle.npp_rows.specs.declared.names.ColumnName.{ColumnName}
use Rattle.npp_rows.specs.declared.names.ColumnName.TheVariants.{Toll, Share, Paid}
use Rattle.npp_rows.specs.declared.names.Multiplier.{Multiplier}
use Rattle.npp_rows.specs.declared.names.RowName.{RowName}
use Rattle.npp_rows.specs.declared.cut.CutTerm.{CutTerm}
use Rattle.npp_rows.specs.declared.cut.CutFault.TheVariants.{TollColumn}
use Rattle.npp_rows.specs.Meaning.{multiplier_value}
use Rattle.npp_rows.specs.RowOrder.{has_row}
use Rattle.npp_rows.specs.Places.{row_place}
use Rattle.npp_rows.specs.Named.{NamedProgram, terms_from}
use Rattle.npp_rows.specs.Derivations.{fault_if, column_at, rounded, share_term}
use Rattle.npp_rows.specs.Rounding.{toll_fault, toll_fault_at, share_fault, share_fault_at, sum_or_zero, rounded_sums, term_in, StandOnlyIn, HoldSums}
use Rattle.npp_rows.proofs.ListLaws.{rising_ordered}
use Rattle.npp_rows.proofs.SpreadLaws.{rising_tail}
use Rattle.npp_rows.proofs.RowPlaces.{place_has, no_place_has}
use Rattle.npp_rows.proofs.TakenLaws.{entries_inside}

-- ---- the columns of rows

pub no_row_stands : (p : NamedProgram) → StandOnlyIn p [] []
no_row_stands p = All-nil (λ y. All (λ t. Contains [] t.column) (terms_from 0 (p.entry y.row) p.columns))

-- one more row
module _ {N : Type 0} (value : N → Rational) (p : NamedProgram) (y : Multiplier Rational) (es : List (Entry N)) (is : terms_of value es ≡ terms_from 0 (p.entry y.row) p.columns) where
  pub row_stands : (ys : List (Multiplier Rational)) (columns : List ℕ) → StandOnlyIn p ys columns → StandOnlyIn p (ys ++ y ∷ []) (columns ++ map (λ e. e.column) es)
  row_stands ys columns h =
      let both : List ℕ = columns ++ map (λ e. e.column) es in
      let Stands : Term → Type 0 = λ t. Contains both t.column in
      let Stand : Multiplier Rational → Type 0 = λ y. All Stands (terms_from 0 (p.entry y.row) p.columns) in
      let here : All Stands (terms_of value es) = All-map Stands (term_of value) es (λ k d l. Contains-append_right columns (map (λ e. e.column) es) (get_or es k d).column
      (k, omega (arith, l, length-map es (λ (e : Entry N). e.column)), get_or-map (λ (e : Entry N). e.column) es k d (get_or es k d).column l)) in
      All-append Stand ys (y ∷ [])
      (λ k d l. λ i e m. Contains-append_left columns (map (λ e. e.column) es) (get_or (terms_from 0 (p.entry (get_or ys k d).row) p.columns) i e).column (h k d l i e m))
      (All-cons Stand y [] (rw is at here) (All-nil Stand))

  pub row_inside : (columns : List ℕ) → All (λ j. j < length p.columns) columns → All (λ j. j < length p.columns) (columns ++ map (λ e. e.column) es)
  row_inside columns h =
      All-append (λ j. j < length p.columns) columns (map (λ e. e.column) es) h
      (All-map (λ j. j < length p.columns) (λ e. e.column) es (entries_inside value (p.entry y.row) p.columns es (length p.columns) refl is))

-- one of some rows is what they all are
pub row_is : (P : RowName → Type 0) (rows : List RowName) (r : RowName) (o : Option ℕ) → All P rows → o ≡ row_place rows r → has_row rows r ≡ true → P r
row_is P rows r None all e h = let none : has_row rows r ≡ false = no_place_has rows r (sym e) in cc
row_is P rows r (Some i) all e h = let at = (place_has rows r i (sym e)).0 in subst P at.is (all i r at.within)

-- put in order, each once
module _ (xs ys : List ℕ) (order : IsPermutation xs ys) where
  pub sorted_rise : IsSorted nat_cmp ys → AllPairs (λ i j. i < j) (dedup eqb ys)
  sorted_rise sorted = AllPairs-from_increasing (dedup eqb ys) (IsStrictlyIncreasing-dedup ys sorted)

  pub sorted_inside : (n : ℕ) → All (λ j. j < n) xs → All (λ j. j < n) (dedup eqb ys)
  sorted_inside n h = All-dedup eqb (λ j. j < n) ys (All-permutation (λ j. j < n) xs ys order h)

  pub sorted_stand : (p : NamedProgram) (rows : List (Multiplier Rational)) → StandOnlyIn p rows xs → StandOnlyIn p rows (dedup eqb ys)
  sorted_stand p rows h k d l = λ i e m.
      let j : ℕ = (get_or (terms_from 0 (p.entry (get_or rows k d).row) p.columns) i e).column in
      Contains-dedup_nat ys j (Contains-permutation xs ys j order (h k d l i e m))

-- the entries of a row that is named stand in these columns
pub entries_stand : {N : Type 0} (value : N → Rational) (p : NamedProgram) (ms : List (Multiplier N)) (columns : List ℕ) (i : ℕ) (m : Multiplier N) (es : List (Entry N)) → StandOnlyIn p (map (multiplier_value value) ms) columns
    → i < length ms → m ≡ get_or ms i m → terms_of value es ≡ terms_from 0 (p.entry m.row) p.columns → All (λ e. Contains columns e.column) es
entries_stand value p ms columns i m es stand l here is k d inside =
    let Stands : Term → Type 0 = λ t. Contains columns t.column in
    let same : get_or (map (multiplier_value value) ms) i (multiplier_value value m) ≡ multiplier_value value m = get_or-map (multiplier_value value) ms i m (multiplier_value value m) l ∙ ap (multiplier_value value) (sym here) in
    let terms : All Stands (terms_from 0 (p.entry m.row) p.columns) =
    subst (λ (z : Multiplier Rational). All Stands (terms_from 0 (p.entry z.row) p.columns)) same (stand i (multiplier_value value m) (omega (arith, l, length-map ms (multiplier_value value)))) in
    let entries : All Stands (terms_of value es) = rw (sym is) at terms in
    rw (get_or-map (term_of value) es k d (term_of value d) inside) at (entries k (term_of value d) (omega (arith, inside, length-map es (term_of value))))

-- ---- faults that are left

first_or_later : (x y : ℕ) (ys : List ℕ) → Contains (y ∷ ys) x → (x ≡ y) ⊎ (Contains ys x)
first_or_later x y ys (zero, l, e) = inl (sym e)
first_or_later x y ys (suc k, l, e) = inr (k, omega (arith, l), e)

module _ {F : Type 0} (f : ℕ → Option F) (n : ℕ) where
  -- only among these numbers a judgement has a fault
  abbrev pub Left : List ℕ → Type 0
  Left rest = (j : ℕ) → j < n → (Contains rest j) ⊎ (f j ≡ None)

  pub left_next : (xs : List ℕ) (i j : ℕ) → i < length xs → j ≡ get_or xs i j → f j ≡ None → Left (drop i xs) → Left (drop (i + 1) xs)
  left_next xs i j l is none h k m =
      let here : drop i xs ≡ j ∷ drop (i + 1) xs = drop-cons xs i j l ∙ ap₂ (λ x (a : ℕ). x ∷ drop a xs) (sym is) (sym (add-one i)) in
      elim (h k m) [
        | inr fine ↦ inr fine
        | inl c ↦ elim (first_or_later k j (drop (i + 1) xs) (subst (λ (ys : List ℕ). Contains ys k) here c)) [
          | inl same ↦ inr (ap f same ∙ none)
          | inr later ↦ inl later
        ]
      ]

  pub left_found : (xs : List ℕ) (i j : ℕ) (x : F) → AllPairs (λ p q. p < q) xs → i < length xs → j ≡ get_or xs i j → j < n → Left (drop i xs) → f j ≡ Some x → first_below n f ≡ Some x
  left_found xs i j x rising l is m h found =
      first_below_found f n j x m (first_below_clear f j (λ k below. elim (h k (omega (arith, below, m))) [
        | inr fine ↦ fine
        | inl c ↦ absurd (not_below k c below)
      ])) found
    where
      not_below : (k : ℕ) → Contains (drop i xs) k → k < j → ⊥
      not_below k (a, inside, e) below =
          let within : i + a < length xs = omega (arith, inside, length-drop i xs, l) in
          let low : get_or xs i 0 ≤ get_or xs (i + a) 0 = rising_ordered xs rising i (i + a) (omega arith) within in
          let there : get_or xs (i + a) 0 ≡ k = get_or_default xs (i + a) 0 k within ∙ sym (get_or-drop i xs a k) ∙ e in
          let here : get_or xs i 0 ≡ j = get_or_default xs i 0 j l ∙ sym is in
          omega (arith, low, there, here, below)

  pub left_none : (xs : List ℕ) (i : ℕ) → length xs ≤ i → Left (drop i xs) → first_below n f ≡ None
  left_none xs i all h = first_below_clear f n (λ j l. elim (h j l) [
    | inr fine ↦ fine
    | inl c ↦ absurd (omega (arith, c.1, length-drop i xs, all))
  ])

-- a column that sums to 0 has no fault
toll_zero : (c : ColumnName) → toll_fault c (Ok zero_ℚ) ≡ None
toll_zero (Toll a) = ap (λ b. fault_if (not b) TollColumn) (is_zero_of zero_ℚ refl)
toll_zero (Share k p) = refl
toll_zero (Paid a k) = ap (λ b. fault_if (not b) TollColumn) (is_zero_of zero_ℚ refl)

share_zero : (c : ColumnName) → share_fault c (Ok zero_ℚ) ≡ None
share_zero (Toll a) = refl
share_zero (Share k p) = refl
share_zero (Paid a k) = refl

module _ (names : List ColumnName) (n : ℕ) (s : Sums Rational) (columns : List ℕ) (hold : HoldSums n s columns) where
  pub tolls_left : Left (toll_fault_at names s) n columns
  tolls_left j l = elim (hold.others j l) [
    | inl here ↦ inl here
    | inr e ↦ inr (ap (λ (r : Result Rational (Stop Rational)). toll_fault (column_at names j) r) e ∙ toll_zero (column_at names j))
  ]

  pub shares_left : Left (share_fault_at names s) n columns
  shares_left j l = elim (hold.others j l) [
    | inl here ↦ inl here
    | inr e ↦ inr (ap (λ (r : Result Rational (Stop Rational)). share_fault (column_at names j) r) e ∙ share_zero (column_at names j))
  ]

-- ---- the terms of the columns

zero_rounded : rounded zero_ℚ ≡ zero_ℚ
zero_rounded = ap whole (floor_whole (pos 0))

zero_term : (c : ColumnName) (r : Result Rational (Stop Rational)) → r ≡ Ok zero_ℚ → share_term c (rounded (sum_or_zero r)) ≡ []
zero_term (Toll a) r e = refl
zero_term (Share k p) r e =
    let none : is_zero (rounded (sum_or_zero r)) ≡ true = ap (λ (t : Result Rational (Stop Rational)). is_zero (rounded (sum_or_zero t))) e ∙ is_zero_of (rounded zero_ℚ) zero_rounded in
    rw none refl
zero_term (Paid a k) r e = refl

low_tail : (a x : ℕ) (xs : List ℕ) → AllPairs (λ p q. p < q) (x ∷ xs) → a ≤ x → All (λ y. a + 1 ≤ y) xs
low_tail a x xs rising low k d l =
    let up : x < get_or xs k d = rising 0 (suc k) d (omega arith) (omega (arith, l)) in
    omega (arith, up, low)

module _ (names : List ColumnName) (s : Sums Rational) where
  -- columns from number j on
  gathered : (j : ℕ) (rest : List ColumnName) (columns : List ℕ) → j + length rest ≡ length names → ((i : ℕ) → i < length rest → column_at names (j + i) ≡ column_at rest i)
      → AllPairs (λ p q. p < q) columns → All (λ i. j ≤ i) columns → All (λ i. i < length names) columns
      → ((i : ℕ) → j ≤ i → i < length names → (Contains columns i) ⊎ (column_of s i ≡ Ok zero_ℚ))
      → rounded_sums s j rest ≡ flat_map (term_in names s) columns
  gathered j [] [] size same rising low high others = refl
  gathered j [] (x ∷ columns) size same rising low high others =
      let a : j ≤ x = All-head (λ i. j ≤ i) x columns low in
      let b : x < length names = All-head (λ i. i < length names) x columns high in
      absurd (omega (arith, a, b, size))
  gathered j (c ∷ rest) [] size same rising low high others =
      let nothing : column_of s j ≡ Ok zero_ℚ = elim (others j (omega arith) (omega (arith, size))) [
        | inl here ↦ absurd (omega (arith, here.1))
        | inr e ↦ e
      ] in
      ap₂ ◌++◌ (zero_term c (column_of s j) nothing)
      (gathered (j + 1) rest [] (omega (arith, size)) (λ i l. let e : j + 1 + i ≡ j + suc i = omega arith in rw e (same (suc i) (omega (arith, l)))) rising
      (All-nil (λ i. j + 1 ≤ i)) high (λ i a b. others i (omega (arith, a)) b))
  gathered j (c ∷ rest) (x ∷ columns) size same rising low high others =
      let head : j ≤ x = All-head (λ i. j ≤ i) x columns low in
      let next : (i : ℕ) → i < length rest → column_at names (j + 1 + i) ≡ column_at rest i = λ i l. let e : j + 1 + i ≡ j + suc i = omega arith in rw e (same (suc i) (omega (arith, l))) in
      elim (cases_eq x j) [
        | inl here ↦ (
            let none : j + 0 ≡ j = omega arith in
            let named : column_at names j ≡ c = rw none at (same 0 (omega arith)) in
            let first : share_term c (rounded (sum_or_zero (column_of s j))) ≡ term_in names s x =
            ap (λ (d : ColumnName). share_term d (rounded (sum_or_zero (column_of s j)))) (sym named) ∙ ap (term_in names s) (sym here) in
            ap₂ ◌++◌ first
            (gathered (j + 1) rest columns (omega (arith, size)) next (rising_tail x columns rising)
            (low_tail j x columns rising head) (All-tail (λ i. i < length names) x columns high)
            (λ i a b. elim (others i (omega (arith, a)) b) [
              | inr e ↦ inr e
              | inl has ↦ elim (first_or_later i x columns has) [
                | inl e ↦ absurd (omega (arith, e, here, a))
                | inr later ↦ inl later
              ]
            ])))
        | inr apart ↦ (
            let above : j + 1 ≤ x = omega (arith, head, apart) in
            let nothing : column_of s j ≡ Ok zero_ℚ = elim (others j (omega arith) (omega (arith, size))) [
              | inr e ↦ e
              | inl has ↦ elim (first_or_later j x columns has) [
                | inl e ↦ absurd (apart (sym e))
                | inr (k, l, e) ↦ (
                    let up : j + 1 ≤ get_or columns k j = low_tail j x columns rising head k j l in
                    absurd (omega (arith, up, e)))
              ]
            ] in
            ap₂ ◌++◌ (zero_term c (column_of s j) nothing)
            (gathered (j + 1) rest (x ∷ columns) (omega (arith, size)) next rising
            (All-cons (λ i. j + 1 ≤ i) x columns above (low_tail j x columns rising head)) high (λ i a b. others i (omega (arith, a)) b)))
      ]

  -- the rounded sums are the terms of the columns that hold the sums
  pub terms_gathered : (columns : List ℕ) → HoldSums (length names) s columns → flat_map (term_in names s) columns ≡ rounded_sums s 0 names
  terms_gathered columns hold =
      sym (gathered 0 names columns (omega arith) (λ i l. let e : 0 + i ≡ i = omega arith in rw e refl) hold.rising (λ k d l. omega arith) hold.inside (λ i a b. hold.others i b))

-- one more column
pub terms_next : (names : List ColumnName) (s : Sums Rational) (xs : List ℕ) (i j : ℕ) → i < length xs → j ≡ get_or xs i j → (now next : List (CutTerm Rational)) → now ≡ flat_map (term_in names s) (take i xs)
    → next ≡ now ++ term_in names s j → next ≡ flat_map (term_in names s) (take (i + 1) xs)
terms_next names s xs i j l is now next before e =
    let more : take (i + 1) xs ≡ take i xs ++ j ∷ [] = take_more xs i j l ∙ ap (λ (k : ℕ). take i xs ++ k ∷ []) (sym is) in
    e ∙ ap (λ ts. ts ++ term_in names s j) before
    ∙ sym (ap (flat_map (term_in names s)) more ∙ flat_map-append (term_in names s) (take i xs) (j ∷ []) ∙ ap (λ ts. flat_map (term_in names s) (take i xs) ++ ts) (append-nil (term_in names s j)))
