-- Rows that are added to the sums of some columns are added to those of all columns, where they stand in no others.
use Rattle.std.proofs.Common.{◌≡◌, ◌≢◌, ◌⊎◌, ℕ, zero, suc, ◌+◌, ◌<◌, ◌≤◌, true, false, List, [], ◌∷◌, ◌++◌, length, map, get_or, take, Option, Some, None, Result, Ok, All, refl, sym, ap, ap₂, subst, ◌∙◌, arith, inl, inr, eqb}
use Rattle.std.specs.Prelude.{Contains, IsSome}
use Rattle.std.specs.List.{AllPairs}
use Rattle.std.proofs.lemmas.Bool.{cases_eq, cases_lt, eq-eqb, ne_eqb}
use Rattle.std.proofs.lemmas.List.{get_or-map, get_or_default, length-map, take_more, map_push}
use Rattle.std.proofs.lemmas.List.Elements.{All-nil, All-cons, All-head, All-tail, All-map, All-append}
use Rattle.std.proofs.lemmas.List.FromFn.{length-map-range_with_len, get_or-map-range_with_len}
use Rattle.npp_frac.specs.Rational.{Rational, zero_ℚ, ◌+ℚ◌}
use Rattle.npp_frac.specs.Ring.{zero-+ℚ}
use Rattle.npp_frac.specs.Fits.{IsWidth, limit_of}
use Rattle.npp_frac.specs.Sums.{sum_by, unit, unit_other, unit_same}
use Rattle.npp_frac.specs.ZeroLaws.{FitsBelow-zero}
use Rattle.npp_frac.specs.declared.refusal.Overflow.{Overflow}
use Rattle.npp_lp.specs.declared.program.Entry.{Entry}
use Rattle.npp_lp.specs.Programs.{Term}
use Rattle.npp_lp.specs.Duals.{coefficient}
use Rattle.npp_lp.specs.Meaning.{term_of, terms_of}
use Rattle.npp_lp.specs.ReadingLaws.{rise_of_terms, rise_meant}
use Rattle.npp_lp.specs.ZeroSums.{joined_sum-zero_left}
use Rattle.npp_lp.specs.RunningSums.{Sums, column_of, joined, AreEmpty, TakesRow}
use Rattle.npp_rows.specs.Rounding.{HoldSums}
use Rattle.npp_rows.specs.Spread.{sum_among, spread, in_column}
use Rattle.npp_rows.proofs.ListLaws.{rising_ordered, IsPlaceOf}

-- ---- lists of columns

-- a column is one of some, or another than each of them
among_or_not : (columns : List ℕ) (j : ℕ) → (Contains columns j) ⊎ (All (λ c. c ≢ j) columns)
among_or_not [] j = inr (All-nil (λ c. c ≢ j))
among_or_not (c ∷ columns) j = elim (cases_eq c j) [
  | inl same ↦ inl (0, omega arith, same)
  | inr other ↦ elim (among_or_not columns j) [
    | inl (i, l, e) ↦ inl (suc i, omega (arith, l), e)
    | inr none ↦ inr (All-cons (λ x. x ≢ j) c columns other none)
  ]
]

pub rising_tail : (x : ℕ) (xs : List ℕ) → AllPairs (λ p q. p < q) (x ∷ xs) → AllPairs (λ p q. p < q) xs
rising_tail x xs rising a b d l k = rising (suc a) (suc b) d (omega (arith, l)) (omega (arith, k))

module _ (columns : List ℕ) (rising : AllPairs (λ i j. i < j) columns) where
  -- a column is not below its place
  above_place : (i : ℕ) → i < length columns → i ≤ get_or columns i 0
  above_place zero l = omega arith
  above_place (suc i) l =
      let before : i ≤ get_or columns i 0 = above_place i (omega (arith, l)) in
      let up : get_or columns i 0 < get_or columns (suc i) 0 = rising i (suc i) 0 (omega arith) l in
      omega (arith, before, up)

  -- columns stand at two places in the order of the places
  places_rise : (a b : ℕ) → a < length columns → get_or columns a 0 < get_or columns b 0 → a < b
  places_rise a b l less = elim (cases_lt a b) [
    | inl below ↦ below
    | inr above ↦ absurd (let le : get_or columns b 0 ≤ get_or columns a 0 = rising_ordered columns rising b a above l in omega (arith, le, less))
  ]

  places_apart : (a b : ℕ) → a < length columns → b < length columns → get_or columns a 0 ≡ get_or columns b 0 → a ≡ b
  places_apart a b l m e = elim (cases_eq a b) [
    | inl same ↦ same
    | inr apart ↦ elim (cases_lt a b) [
      | inl below ↦ absurd (let up : get_or columns a 0 < get_or columns b 0 = rising a b 0 below m in omega (arith, up, e))
      | inr above ↦ absurd (let up : get_or columns b 0 < get_or columns a 0 = rising b a 0 (omega (arith, above, apart)) l in omega (arith, up, e))
    ]
  ]

-- no more than n columns rise below n
pub few_below : (n : ℕ) (columns : List ℕ) → AllPairs (λ i j. i < j) columns → All (λ j. j < n) columns → length columns ≤ n
few_below n [] rising inside = omega arith
few_below n (c ∷ rest) rising inside =
    let last : length rest ≤ get_or (c ∷ rest) (length rest) 0 = above_place (c ∷ rest) rising (length rest) (omega arith) in
    let low : get_or (c ∷ rest) (length rest) 0 < n = inside (length rest) 0 (omega arith) in
    omega (arith, last, low)

-- ---- the sum of a column

sum_absent : (columns : List ℕ) (sums : List (Result Rational (Overflow Rational))) (j : ℕ) → All (λ c. c ≢ j) columns → sum_among columns sums j ≡ Ok zero_ℚ
sum_absent [] sums j none = refl
sum_absent (c ∷ columns) [] j none = refl
sum_absent (c ∷ columns) (s ∷ sums) j none =
    let no : eqb c j ≡ false = ne_eqb c j (All-head (λ x. x ≢ j) c columns none) in
    rw no (sum_absent columns sums j (All-tail (λ x. x ≢ j) c columns none))

sum_present : (columns : List ℕ) (sums : List (Result Rational (Overflow Rational))) (i j : ℕ) → AllPairs (λ p q. p < q) columns → length sums ≡ length columns → i < length columns → get_or columns i 0 ≡ j
    → sum_among columns sums j ≡ get_or sums i (Ok zero_ℚ)
sum_present [] sums i j rising size l e = absurd (omega (arith, l))
sum_present (c ∷ columns) [] i j rising size l e = absurd (omega (arith, size))
sum_present (c ∷ columns) (s ∷ sums) zero j rising size l e = let yes : eqb c j ≡ true = eq-eqb c j e in rw yes refl
sum_present (c ∷ columns) (s ∷ sums) (suc i) j rising size l e =
    let up : c < get_or columns i 0 = rising 0 (suc i) 0 (omega arith) l in
    let no : eqb c j ≡ false = ne_eqb c j (λ same. omega (arith, up, e, same)) in
    rw no (sum_present columns sums i j (rising_tail c columns rising) (omega (arith, size)) (omega (arith, l)) e)

module _ (n : ℕ) (columns : List ℕ) (rising : AllPairs (λ i j. i < j) columns) where
  pub spread_size : (s : Sums Rational) → length (spread n columns s).columns ≡ n
  spread_size s = length-map-range_with_len (sum_among columns s.columns) 0 n

  spread_at : (s : Sums Rational) (j : ℕ) → j < n → column_of (spread n columns s) j ≡ sum_among columns s.columns j
  spread_at s j l = get_or-map-range_with_len (sum_among columns s.columns) 0 n j j (Ok zero_ℚ) l (omega arith)

  pub spread_present : (s : Sums Rational) (i j : ℕ) → j < n → length s.columns ≡ length columns → i < length columns → get_or columns i 0 ≡ j → column_of (spread n columns s) j ≡ column_of s i
  spread_present s i j l size m e = spread_at s j l ∙ sum_present columns s.columns i j rising size m e

  spread_absent : (s : Sums Rational) (j : ℕ) → j < n → All (λ c. c ≢ j) columns → column_of (spread n columns s) j ≡ Ok zero_ℚ
  spread_absent s j l none = spread_at s j l ∙ sum_absent columns s.columns j none

  -- the columns hold the sums
  pub spread_held : (s : Sums Rational) → All (λ j. j < n) columns → HoldSums n (spread n columns s) columns
  spread_held s inside = record {
    rising = rising;
    inside = inside;
    others = λ j l. elim (among_or_not columns j) [
      | inl here ↦ inl here
      | inr none ↦ inr (spread_absent s j l none)
    ];
  }

  -- no row, no sum
  pub spread_empty : (s : Sums Rational) → AreEmpty (length columns) s → AreEmpty n (spread n columns s)
  spread_empty s h = record {
    size = spread_size s;
    negative = h.negative;
    columns = λ j l. elim (among_or_not columns j) [
      | inl (i, m, e) ↦ spread_present s i j l h.size m (get_or_default columns i 0 j m ∙ e) ∙ h.columns i m
      | inr none ↦ spread_absent s j l none
    ];
    right = h.right;
  }

-- ---- the coefficients of a row

module _ (columns : List ℕ) (j : ℕ) where
  absent_coefficient : (ts : List Term) → All (λ c. c ≢ j) columns → All (λ t. t.column < length columns) ts → coefficient (map (in_column columns) ts) j ≡ zero_ℚ
  unfolding sum_by
  absent_coefficient [] none inside = refl
  absent_coefficient (t ∷ ts) none inside =
      ap₂ ◌+ℚ◌ (unit_other (get_or columns t.column 0) j t.value (none t.column 0 (All-head (λ x. x.column < length columns) t ts inside)))
      (absent_coefficient ts none (All-tail (λ x. x.column < length columns) t ts inside))
      ∙ zero-+ℚ zero_ℚ

  module _ (rising : AllPairs (λ p q. p < q) columns) (i : ℕ) (l : i < length columns) (e : get_or columns i 0 ≡ j) where
    one_coefficient : (k : ℕ) (x : Rational) → k < length columns → unit (get_or columns k 0) x j ≡ unit k x i
    one_coefficient k x m = elim (cases_eq k i) [
      | inl same ↦ ap (λ a. unit (get_or columns a 0) x j) same ∙ ap (unit (get_or columns i 0) x) (sym e) ∙ unit_same (get_or columns i 0) x ∙ sym (ap (λ a. unit a x i) same ∙ unit_same i x)
      | inr apart ↦ unit_other (get_or columns k 0) j x (λ f. apart (places_apart columns rising k i m l (f ∙ sym e))) ∙ sym (unit_other k i x apart)
    ]

    present_coefficient : (ts : List Term) → All (λ t. t.column < length columns) ts → coefficient (map (in_column columns) ts) j ≡ coefficient ts i
    unfolding sum_by
    present_coefficient [] inside = refl
    present_coefficient (t ∷ ts) inside =
        ap₂ ◌+ℚ◌ (one_coefficient t.column t.value (All-head (λ x. x.column < length columns) t ts inside))
        (present_coefficient ts (All-tail (λ x. x.column < length columns) t ts inside))

-- ---- one more row

module _ (w : ℕ) (wide : IsWidth w) (n : ℕ) (columns : List ℕ) (rising : AllPairs (λ i j. i < j) columns) (s t : Sums Rational) (size : length s.columns ≡ length columns) where
  -- a row that the sums of the columns take is taken by those of all columns
  pub spread_takes : (row : ℕ) (ts : List Term) (b y : Rational) → All (λ e. e.column < length columns) ts → TakesRow (limit_of w) s t row ts b y
      → TakesRow (limit_of w) (spread n columns s) (spread n columns t) row (map (in_column columns) ts) b y
  spread_takes row ts b y inside h = record {
    size = spread_size n columns rising t ∙ sym (spread_size n columns rising s);
    negative = h.negative;
    columns = λ j k. (
        let l : j < n = omega (arith, k, spread_size n columns rising s) in
        elim (among_or_not columns j) [
          | inl (i, m, e) ↦ (
              let at : get_or columns i 0 ≡ j = get_or_default columns i 0 j m ∙ e in
              spread_present n columns rising t i j l (h.size ∙ size) m at
              ∙ h.columns i (omega (arith, m, size))
              ∙ ap₂ (λ r a. joined (limit_of w) r a y) (sym (spread_present n columns rising s i j l size m at)) (sym (present_coefficient columns j rising i m at ts inside)))
          | inr none ↦ (
              let zero_there : coefficient (map (in_column columns) ts) j ≡ zero_ℚ = absent_coefficient columns j ts none inside in
              spread_absent n columns rising t j l none
              ∙ sym (ap (λ r. joined (limit_of w) r (coefficient (map (in_column columns) ts) j) y) (spread_absent n columns rising s j l none)
              ∙ joined_sum-zero_left w zero_ℚ (coefficient (map (in_column columns) ts) j) y wide (FitsBelow-zero w wide) zero_there))
        ]);
    right = h.right;
  }

pub terms_inside : {N : Type 0} (value : N → Rational) (columns : List ℕ) (ps : List (Entry N)) → All (λ e. e.column < length columns) ps → All (λ t. t.column < length columns) (terms_of value ps)
terms_inside value columns ps inside = All-map (λ t. t.column < length columns) (term_of value) ps inside

-- entries by the places of their columns rise as the entries do
pub places_of_rising : {N : Type 0} (value : N → Rational) (columns : List ℕ) (es ps : List (Entry N)) → AllPairs (λ i j. i < j) columns → terms_of value es ≡ map (in_column columns) (terms_of value ps)
    → All (λ e. e.column < length columns) ps → AllPairs (λ a b. a.column < b.column) es → AllPairs (λ a b. a.column < b.column) ps
places_of_rising value columns es ps rising same inside up =
    rise_of_terms value ps (λ a b d l k.
    let low : a < length (terms_of value ps) = omega (arith, l, k) in
    let terms : AllPairs (λ x y. x.column < y.column) (map (in_column columns) (terms_of value ps)) = rw same at (rise_meant value es up) in
    let first : get_or (map (in_column columns) (terms_of value ps)) a (in_column columns d) ≡ in_column columns (get_or (terms_of value ps) a d) = get_or-map (in_column columns) (terms_of value ps) a d (in_column columns d) low in
    let second : get_or (map (in_column columns) (terms_of value ps)) b (in_column columns d) ≡ in_column columns (get_or (terms_of value ps) b d) = get_or-map (in_column columns) (terms_of value ps) b d (in_column columns d) k in
    places_rise columns rising (get_or (terms_of value ps) a d).column (get_or (terms_of value ps) b d).column (terms_inside value columns ps inside a d low)
    (rw (first, second) at (terms a b (in_column columns d) l (omega (arith, k, length-map (terms_of value ps) (in_column columns))))))

-- a column that is one of some has a place
pub place_found : (columns : List ℕ) (j : ℕ) (o : Option ℕ) → IsPlaceOf columns j o → Contains columns j → IsSome o
place_found columns j None h here = absurd (h here)
place_found columns j (Some i) h here = refl

-- the entry at hand stands in one of the columns
pub entry_stands : {N : Type 0} (columns : List ℕ) (es : List (Entry N)) (i : ℕ) (e : Entry N) → All (λ x. Contains columns x.column) es → i < length es → e ≡ get_or es i e → Contains columns e.column
entry_stands {N} columns es i e stand l is = let P : Entry N → Type 0 = λ x. Contains columns x.column in subst P (sym is) (stand i e l)

-- one more entry at the place of its column
pub placed_more : {N : Type 0} (value : N → Rational) (columns : List ℕ) (es ps : List (Entry N)) (i place : ℕ) (e : Entry N) → i < length es → e ≡ get_or es i e → place < length columns → get_or columns place e.column ≡ e.column
    → (All (λ x. x.column < length columns) ps) × (terms_of value (take i es) ≡ map (in_column columns) (terms_of value ps))
    → (All (λ x. x.column < length columns) (ps ++ record { column = place; value = e.value } ∷ []))
    × (terms_of value (take (i + 1) es) ≡ map (in_column columns) (terms_of value (ps ++ record { column = place; value = e.value } ∷ [])))
placed_more {N} value columns es ps i place e l is inside at before =
    let p : Entry N = record { column = place; value = e.value } in
    let Inside : Entry N → Type 0 = λ x. x.column < length columns in
    let there : e.column ≡ get_or columns place 0 = sym at ∙ get_or_default columns place e.column 0 inside in
    let term : ◌≡◌ {A = Term} (term_of value e) (in_column columns (term_of value p)) = λ k. record { column = there k; value = value e.value } in (
      All-append Inside ps (p ∷ []) before.0 (All-cons Inside p [] inside (All-nil Inside)),
      ap (terms_of value) (take_more es i e l ∙ ap (λ x. take i es ++ x ∷ []) (sym is)) ∙ map_push (term_of value) (take i es) e
          ∙ ap₂ (λ (ts : List Term) t. ts ++ t ∷ []) before.1 term
          ∙ sym (ap (map (in_column columns)) (map_push (term_of value) ps p) ∙ map_push (in_column columns) (terms_of value ps) (term_of value p)),
    )
