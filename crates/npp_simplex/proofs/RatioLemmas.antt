-- What the ratio test chooses: one of the rows, and none of them is lexicographically below it at the keys.
use Rattle.std.proofs.Common.{◌≡◌, ◌≢◌, ℕ, zero, suc, ◌+◌, ◌<◌, List, [], ◌∷◌, map, length, get_or, slice_index, Bool, true, false, cond, not, ◌⊎◌, inl, inr, arith, ap, sym, ◌∙◌, refl, subst}
use Rattle.std.specs.List.{filter, list_all, range_with_len, Contains}
use Rattle.std.proofs.lemmas.List.Elements.{All-contains, All-contains_itself, All-filter, filter_passes, Contains-get_or}
use Rattle.std.proofs.lemmas.List.Sums.{AllPass-from_list_all, list_all-from_AllPass}
use Rattle.std.proofs.lemmas.List.FromFn.{get_or-range_with_len, length-range_with_len}
use Rattle.npp_frac.specs.Rational.{Rational, zero_ℚ, is_less, ◌≤ℚ◌, ◌<ℚ◌}
use Rattle.npp_frac.specs.Order.{≤ℚ_refl, ≤ℚ_trans, ≤ℚ_of_≡, ≤ℚ_total, is_less_no, is_less_yes, is_less_of_≤ℚ, is_less_of_<ℚ, not-≤ℚ_of_<ℚ}
use Rattle.npp_simplex.specs.declared.stage.Stage.{Stage}
use Rattle.npp_simplex.specs.Tableau.{Tableau, cell}
use Rattle.npp_simplex.specs.Ratio.{positive_rows, candidates, compared, keys, least_rows, refined, leaving}
use Rattle.npp_simplex.proofs.Invariant.{IsLexBelow}
use Rattle.npp_simplex.proofs.LexLemmas.{IsLexBelow_irrefl}

-- one of the rows, and none of them is lexicographically below it at the keys
pub record IsLeastRow (number : ℕ → ℕ → Rational) (keys rows : List ℕ) (r : ℕ) : Type 0 where
  pub member : Contains rows r
  pub least : (i : ℕ) → Contains rows i → IsLexBelow (map (λ k. number k i) keys) (map (λ k. number k r) keys) → ⊥

-- ---- members of lists

first_member : (x : ℕ) (xs : List ℕ) → Contains (x ∷ xs) x
first_member x xs = (0, omega arith, refl)

later_member : (x y : ℕ) (xs : List ℕ) → Contains xs y → Contains (x ∷ xs) y
later_member x y xs h = (suc h.0, omega (arith, h.1), h.2)

member_cases : (x y : ℕ) (xs : List ℕ) → Contains (x ∷ xs) y → (x ≡ y) ⊎ Contains xs y
member_cases x y xs (zero, l, e) = inl e
member_cases x y xs (suc k, l, e) = inr (k, omega (arith, l), e)

-- what a filter keeps is a member that passes
pub kept_member : (test : ℕ → Bool) (xs : List ℕ) (y : ℕ) → Contains (filter test xs) y → Contains xs y × (test y ≡ true)
kept_member test xs y h = (
  All-contains (Contains xs) (filter test xs) y (All-filter test (Contains xs) xs (All-contains_itself xs)) h,
  All-contains (λ x. test x ≡ true) (filter test xs) y (filter_passes test xs) h,
)

keep_by : (b : Bool) (x y : ℕ) (xs : List ℕ) → (b ≡ true) × (x ≡ y) ⊎ Contains xs y → Contains (cond b (x ∷ xs) xs) y
keep_by true x y xs (inl h) = subst (Contains (x ∷ xs)) h.1 (first_member x xs)
keep_by true x y xs (inr h) = later_member x y xs h
keep_by false x y xs (inl h) = let clash : false ≡ true = h.0 in cc
keep_by false x y xs (inr h) = h

-- a member that passes is kept
pub member_kept : (test : ℕ → Bool) (xs : List ℕ) (y : ℕ) → Contains xs y → test y ≡ true → Contains (filter test xs) y
member_kept test [] y h e = absurd (omega (arith, h.1))
member_kept test (x ∷ xs) y h e = elim (member_cases x y xs h) [
  | inl same ↦ keep_by (test x) x y (filter test xs) (inl (ap test same ∙ e, same))
  | inr rest ↦ keep_by (test x) x y (filter test xs) (inr (member_kept test xs y rest e))
]

-- ---- the least rows at one key

-- none of the rows has a lower number
abbrev IsLowest : (ℕ → Rational) → List ℕ → ℕ → Type 0
IsLowest number rows i = (j : ℕ) → Contains rows j → number i ≤ℚ number j

abbrev lowest_test : (ℕ → Rational) → List ℕ → ℕ → Bool
lowest_test number rows i = list_all (λ k. not (is_less (number k) (number i))) rows

not_yes : (b : Bool) → not b ≡ true → b ≡ false
not_yes true e = cc
not_yes false e = refl

pub lowest_of_test : (number : ℕ → Rational) (rows : List ℕ) (i : ℕ) → lowest_test number rows i ≡ true → IsLowest number rows i
lowest_of_test number rows i e j h =
    let passes = All-contains (λ k. not (is_less (number k) (number i)) ≡ true) rows j (λ k d l. AllPass-from_list_all (λ k. not (is_less (number k) (number i))) rows e k d l) h in
    is_less_no (number j) (number i) (not_yes (is_less (number j) (number i)) passes)

pub test_of_lowest : (number : ℕ → Rational) (rows : List ℕ) (i : ℕ) → IsLowest number rows i → lowest_test number rows i ≡ true
test_of_lowest number rows i h =
    list_all-from_AllPass (λ k. not (is_less (number k) (number i))) rows (λ k d l. ap not (is_less_of_≤ℚ (number (get_or rows k d)) (number i) (h (get_or rows k d) (Contains-get_or rows k d l))))

only_member : (number : ℕ → Rational) (x : ℕ) → IsLowest number (x ∷ []) x
only_member number x j h = elim (member_cases x j [] h) [
  | inl same ↦ ≤ℚ_of_≡ (ap number same)
  | inr none ↦ absurd (omega (arith, none.1))
]

lower_joins : (number : ℕ → Rational) (x i : ℕ) (xs : List ℕ) → number i ≤ℚ number x → IsLowest number xs i → IsLowest number (x ∷ xs) i
lower_joins number x i xs low h j k = elim (member_cases x j xs k) [
  | inl same ↦ subst (λ y. number i ≤ℚ number y) same low
  | inr rest ↦ h j rest
]

-- one of the rows has the lowest number
some_lowest : (number : ℕ → Rational) (x : ℕ) (xs : List ℕ) → (i : ℕ) × Contains (x ∷ xs) i × IsLowest number (x ∷ xs) i
some_lowest number x [] = (x, first_member x [], only_member number x)
some_lowest number x (y ∷ xs) =
    let k = some_lowest number y xs in
    elim (≤ℚ_total (number x) (number k.0)) [
      | inl low ↦ (x, first_member x (y ∷ xs), lower_joins number x x (y ∷ xs) (≤ℚ_refl (number x)) (λ j l. ≤ℚ_trans low (k.2 j l)))
      | inr low ↦ (k.0, later_member x k.0 (y ∷ xs) k.1, lower_joins number x k.0 (y ∷ xs) low k.2)
    ]

some_row : (xs : List ℕ) (i : ℕ) → Contains xs i → 0 < length xs
some_row xs i h = omega (arith, h.1)

pub some_least_row : (number : ℕ → Rational) (rows : List ℕ) → 0 < length rows → 0 < length (least_rows number rows)
some_least_row number [] l = absurd (omega (arith, l))
some_least_row number (x ∷ xs) l =
    let k = some_lowest number x xs in
    some_row (least_rows number (x ∷ xs)) k.0 (member_kept (lowest_test number (x ∷ xs)) (x ∷ xs) k.0 k.1 (test_of_lowest number (x ∷ xs) k.0 k.2))

-- ---- key by key

module _ (number : ℕ → ℕ → Rational) where
  least_alone : (ks : List ℕ) (i : ℕ) → IsLeastRow number ks (i ∷ []) i
  least_alone ks i = record {
    member = first_member i [];
    least = λ j h below. elim (member_cases i j [] h) [
      | inl same ↦ IsLexBelow_irrefl (map (λ k. number k i) ks) (subst (λ x. IsLexBelow (map (λ k. number k x) ks) (map (λ k. number k i) ks)) (sym same) below)
      | inr none ↦ absurd (omega (arith, none.1))
    ];
  }

  least_before : (k : ℕ) (ks rows : List ℕ) (r : ℕ) → IsLeastRow number ks (least_rows (number k) rows) r → IsLeastRow number (k ∷ ks) rows r
  least_before k ks rows r h =
      let kept = kept_member (lowest_test (number k) rows) rows r h.member in
      let lowest : IsLowest (number k) rows r = lowest_of_test (number k) rows r kept.1 in
      record {
        member = kept.0;
        least = λ i here below. elim below [
          | inl less ↦ not-≤ℚ_of_<ℚ less (lowest i here)
          | inr rest ↦ h.least i (member_kept (lowest_test (number k) rows) rows i here (test_of_lowest (number k) rows i (λ j there. ≤ℚ_trans (≤ℚ_of_≡ rest.0) (lowest j there)))) rest.1
        ];
      }

  pub refined_is : (ks rows : List ℕ) → 0 < length rows → IsLeastRow number ks rows (slice_index (refined number ks rows) 0)
  refined_is ks [] l = absurd (omega arith)
  refined_is ks (i ∷ []) l = least_alone ks i
  refined_is [] (i ∷ j ∷ rows) l = record { member = first_member i (j ∷ rows); least = λ x here below. below }
  refined_is (k ∷ ks) (i ∷ j ∷ rows) l =
      least_before k ks (i ∷ j ∷ rows) (slice_index (refined number ks (least_rows (number k) (i ∷ j ∷ rows))) 0)
      (refined_is ks (least_rows (number k) (i ∷ j ∷ rows)) (some_least_row (number k) (i ∷ j ∷ rows) (omega arith)))

not_empty : (xs : List ℕ) → xs ≢ [] → 0 < length xs
not_empty [] h = absurd (h refl)
not_empty (x ∷ xs) h = omega arith

-- the row that leaves is a candidate, and no candidate is lexicographically below it
pub leaving_is : (s : Stage) (t : Tableau) (c : ℕ) → candidates s t c ≢ [] → IsLeastRow (compared s t c) (keys t) (candidates s t c) (leaving s t c)
leaving_is s t c some = refined_is (compared s t c) (keys t) (candidates s t c) (not_empty (candidates s t c) some)

-- ---- the candidates

pub range_has : (n i : ℕ) → i < n → Contains (range_with_len 0 n) i
range_has n i l = (i, rw (length-range_with_len 0 n) l, get_or-range_with_len 0 n i i l ∙ omega arith)

pub range_bound : (n i : ℕ) → Contains (range_with_len 0 n) i → i < n
range_bound n i h =
    let l : h.0 < n = rw (length-range_with_len 0 n) at h.1 in
    let e : 0 + h.0 ≡ i = sym (get_or-range_with_len 0 n h.0 i l) ∙ h.2 in
    omega arith

pub positive_row : (t : Tableau) (c i : ℕ) → i < t.rows → zero_ℚ <ℚ cell t i c → Contains (positive_rows t c) i
positive_row t c i l h = member_kept (λ i. is_less zero_ℚ (cell t i c)) (range_with_len 0 t.rows) i (range_has t.rows i l) (is_less_of_<ℚ zero_ℚ (cell t i c) h)

pub positive_row_is : (t : Tableau) (c i : ℕ) → Contains (positive_rows t c) i → (i < t.rows) × (zero_ℚ <ℚ cell t i c)
positive_row_is t c i h =
    let k = kept_member (λ i. is_less zero_ℚ (cell t i c)) (range_with_len 0 t.rows) i h in
    (range_bound t.rows i k.0, is_less_yes zero_ℚ (cell t i c) k.1)
