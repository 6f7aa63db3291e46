-- Rows compared in pairs: one that comes before each earlier row, and after none of the later ones, is the one that remains.
use Rattle.std.proofs.Common.{◌≡◌, ◌≢◌, ℕ, zero, suc, ◌+◌, ◌-◌, ◌<◌, ◌≤◌, List, [], ◌∷◌, ◌++◌, length, get_or, take, slice_index, Bool, true, false, cond, not, ◌&&◌, ◌||◌, Option, None, Ok, ◌⊎◌, inl, inr, arith, ap, ap₂, sym, ◌∙◌, refl, subst, eq-or-lt_of_le}
use Rattle.std.specs.List.{range_with_len, filter, list_all, All}
use Rattle.std.proofs.lemmas.List.{length-append, append_assoc, take_more, get_or_default}
use Rattle.std.proofs.Math.Seq.{take-length}
use Rattle.std.proofs.lemmas.Bool.{cases_eq, cases_lt}
use Rattle.std.proofs.lemmas.List.Elements.{All-nil, All-cons, All-append, All-push, All-same, All-contains, All-filter, Contains-append_right, filter-append, filter_passes}
use Rattle.std.proofs.lemmas.List.Sums.{AllPass-from_list_all, list_all-from_AllPass}
use Rattle.npp_frac.specs.Rational.{Rational, is_less, ◌≤ℚ◌}
use Rattle.npp_frac.specs.Order.{≤ℚ_refl, ≤ℚ_trans, ≤ℚ_of_<ℚ, <ℚ_of_<ℚ-≤ℚ, <ℚ_of_≤ℚ-<ℚ, is_less_no, is_less_yes, is_less_of_≤ℚ, is_less_of_<ℚ}
use Rattle.npp_lp.specs.VerdictLaws.{first_below_clear, unless_none}
use Rattle.npp_simplex.specs.declared.stage.Stage.{Stage}
use Rattle.npp_simplex.specs.declared.place.Step.TheVariants.{Ratio}
use Rattle.npp_simplex.specs.Tableau.{Tableau}
use Rattle.npp_simplex.specs.Ratio.{compared, refined, least_rows}
use Rattle.npp_simplex.specs.Places.{place_unless, quotient_fits, quotient_stop, quotients_stop, ratio_stop, remaining}
use Rattle.npp_simplex.specs.RowOrder.{comes_before}
use Rattle.npp_simplex.proofs.Refining.{range_next, or_else_none}

-- ---- tests at one key, and at the keys after it

step_true : (a b r : Bool) → a || (not b && r) ≡ true → (a ≡ true) ⊎ ((b ≡ false) × (r ≡ true))
step_true true b r e = inl refl
step_true false true r e = cc
step_true false false r e = inr (refl, e)

step_false : (a b r : Bool) → a || (not b && r) ≡ false → (a ≡ false) × ((b ≡ true) ⊎ (r ≡ false))
step_false true b r e = cc
step_false false true r e = (refl, inl refl)
step_false false false r e = (refl, inr e)

here_true : (a b r : Bool) → a ≡ true → a || (not b && r) ≡ true
here_true true b r e = refl
here_true false b r e = cc

later_true : (a b r : Bool) → b ≡ false → r ≡ true → a || (not b && r) ≡ true
later_true true b r e f = refl
later_true false true r e f = cc
later_true false false r e f = f

here_false : (a b r : Bool) → a ≡ false → b ≡ true → a || (not b && r) ≡ false
here_false true b r e f = cc
here_false false true r e f = refl
here_false false false r e f = cc

later_false : (a b r : Bool) → a ≡ false → r ≡ false → a || (not b && r) ≡ false
later_false true b r e f = cc
later_false false true r e f = refl
later_false false false r e f = f

not_true : (b : Bool) → not b ≡ true → b ≡ false
not_true true e = cc
not_true false e = refl

not_both : (b : Bool) {A : Type 0} → b ≡ true → b ≡ false → A
not_both true e f = cc
not_both false e f = cc

module _ (f g : ℕ → Rational) (k : ℕ) (keys : List ℕ) where
  -- the first key decides
  pub key_lower : is_less (f k) (g k) ≡ true → true ≡ comes_before f g (k ∷ keys)
  key_lower e = sym (here_true (is_less (f k) (g k)) (is_less (g k) (f k)) (comes_before f g keys) e)

  pub key_higher : is_less (f k) (g k) ≡ false → is_less (g k) (f k) ≡ true → false ≡ comes_before f g (k ∷ keys)
  key_higher e d = sym (here_false (is_less (f k) (g k)) (is_less (g k) (f k)) (comes_before f g keys) e d)

  -- or the later ones do
  pub key_level : is_less (f k) (g k) ≡ false → is_less (g k) (f k) ≡ false → comes_before f g (k ∷ keys) ≡ comes_before f g keys
  key_level e d = ap₂ (λ a b. a || (not b && comes_before f g keys)) e d

module _ (f g : ℕ → Rational) (a k e : ℕ) (l : k < e) (same : comes_before f g (range_with_len a (e - a)) ≡ comes_before f g (range_with_len k (e - k))) where
  at_key : comes_before f g (range_with_len a (e - a)) ≡ comes_before f g (k ∷ range_with_len (k + 1) (e - (k + 1)))
  at_key = same ∙ ap (comes_before f g) (range_next k e l)

  pub column_lower : is_less (f k) (g k) ≡ true → true ≡ comes_before f g (range_with_len a (e - a))
  column_lower less = key_lower f g k (range_with_len (k + 1) (e - (k + 1))) less ∙ sym at_key

  pub column_higher : is_less (f k) (g k) ≡ false → is_less (g k) (f k) ≡ true → false ≡ comes_before f g (range_with_len a (e - a))
  column_higher above less = key_higher f g k (range_with_len (k + 1) (e - (k + 1))) above less ∙ sym at_key

  pub column_level : is_less (f k) (g k) ≡ false → is_less (g k) (f k) ≡ false → comes_before f g (range_with_len a (e - a)) ≡ comes_before f g (range_with_len (k + 1) (e - (k + 1)))
  column_level above below = at_key ∙ key_level f g k (range_with_len (k + 1) (e - (k + 1))) above below

module _ (f g : ℕ → Rational) (a e : ℕ) where
  -- the n keys from k on, at which the rows are level, are passed over
  pub columns_level : (n k : ℕ) → k + n ≤ e → ((j : ℕ) → k ≤ j → j < k + n → (is_less (f j) (g j) ≡ false) × (is_less (g j) (f j) ≡ false))
      → comes_before f g (range_with_len a (e - a)) ≡ comes_before f g (range_with_len k (e - k))
      → comes_before f g (range_with_len a (e - a)) ≡ comes_before f g (range_with_len (k + n) (e - (k + n)))
  columns_level zero k within level same = same ∙ ap (λ b. comes_before f g (range_with_len b (e - b))) (let equal : k ≡ k + 0 = omega arith in equal)
  columns_level (suc n) k within level same =
      let here = level k (omega arith) (omega arith) in
      let more = column_level f g a k e (omega arith) same here.0 here.1 in
      columns_level n (k + 1) (omega arith) (λ j from below. level j (omega arith) (omega arith)) more
      ∙ ap (λ b. comes_before f g (range_with_len b (e - b))) (let equal : k + 1 + n ≡ k + suc n = omega arith in equal)

pub before_not_after : (f g : ℕ → Rational) (keys : List ℕ) → comes_before f g keys ≡ true → comes_before g f keys ≡ false
before_not_after f g [] e = cc
before_not_after f g (k ∷ keys) e = elim (step_true (is_less (f k) (g k)) (is_less (g k) (f k)) (comes_before f g keys) e) [
  | inl less ↦ here_false (is_less (g k) (f k)) (is_less (f k) (g k)) (comes_before g f keys) (is_less_of_≤ℚ (g k) (f k) (≤ℚ_of_<ℚ (is_less_yes (f k) (g k) less))) less
  | inr rest ↦ later_false (is_less (g k) (f k)) (is_less (f k) (g k)) (comes_before g f keys) rest.0 (before_not_after f g keys rest.1)
]

-- what comes before a row comes before those that do not come before it
pub before_others : (f g h : ℕ → Rational) (keys : List ℕ) → comes_before f g keys ≡ true → comes_before h g keys ≡ false → comes_before f h keys ≡ true
before_others f g h [] e d = cc
before_others f g h (k ∷ keys) e d =
    let other = step_false (is_less (h k) (g k)) (is_less (g k) (h k)) (comes_before h g keys) d in
    let low : g k ≤ℚ h k = is_less_no (h k) (g k) other.0 in
    elim (step_true (is_less (f k) (g k)) (is_less (g k) (f k)) (comes_before f g keys) e) [
      | inl less ↦ here_true (is_less (f k) (h k)) (is_less (h k) (f k)) (comes_before f h keys) (is_less_of_<ℚ (f k) (h k) (<ℚ_of_<ℚ-≤ℚ (is_less_yes (f k) (g k) less) low))
      | inr rest ↦
          let same : f k ≤ℚ g k = is_less_no (g k) (f k) rest.0 in
          elim other.1 [
            | inl less ↦ here_true (is_less (f k) (h k)) (is_less (h k) (f k)) (comes_before f h keys) (is_less_of_<ℚ (f k) (h k) (<ℚ_of_≤ℚ-<ℚ same (is_less_yes (g k) (h k) less)))
            | inr more ↦ later_true (is_less (f k) (h k)) (is_less (h k) (f k)) (comes_before f h keys) (is_less_of_≤ℚ (h k) (f k) (≤ℚ_trans same low)) (before_others f g h keys rest.1 more)
          ]
    ]

nat_below : (i s : ℕ) → i < s + 1 → i ≢ s → i < s
nat_below i s l apart = elim (eq-or-lt_of_le (let le : i ≤ s = omega arith in le)) [
  | inl same ↦ absurd (apart same)
  | inr below ↦ below
]

same_below : (i j s : ℕ) → i < s → j < s → s ≤ 1 → i ≡ j
same_below i j s l m one = omega (arith, l, m, one)

pub before_same : (f g h k : ℕ → Rational) → ((j : ℕ) → f j ≡ h j) → ((j : ℕ) → g j ≡ k j) → (keys : List ℕ) → comes_before f g keys ≡ comes_before h k keys
before_same f g h k e d [] = refl
before_same f g h k e d (j ∷ keys) = rw (e j) (rw (d j) (ap (λ r. is_less (h j) (k j) || (not (is_less (k j) (h j)) && r)) (before_same f g h k e d keys)))

module _ (number : ℕ → ℕ → Rational) where
  -- whether row i comes before row j
  abbrev pub before : List ℕ → ℕ → ℕ → Bool
  before keys i j = comes_before (λ k. number k i) (λ k. number k j) keys

  -- ---- one key takes away only other rows

  module _ (k : ℕ) (keys front : List ℕ) (b : ℕ) (back : List ℕ) (above : All (λ x. before (k ∷ keys) b x ≡ true) front) (rest : All (λ x. before (k ∷ keys) x b ≡ false) back) where
    abbrev is_lowest : ℕ → Bool
    is_lowest i = list_all (λ j. not (is_less (number k j) (number k i))) (front ++ b ∷ back)

    front_step : (x : ℕ) → before (k ∷ keys) b x ≡ true → (is_less (number k b) (number k x) ≡ true) ⊎ ((is_less (number k x) (number k b) ≡ false) × (before keys b x ≡ true))
    front_step x e = step_true (is_less (number k b) (number k x)) (is_less (number k x) (number k b)) (before keys b x) e

    back_step : (x : ℕ) → before (k ∷ keys) x b ≡ false → (is_less (number k x) (number k b) ≡ false) × ((is_less (number k b) (number k x) ≡ true) ⊎ (before keys x b ≡ false))
    back_step x e = step_false (is_less (number k x) (number k b)) (is_less (number k b) (number k x)) (before keys x b) e

    front_not_lower : (x : ℕ) → before (k ∷ keys) b x ≡ true → not (is_less (number k x) (number k b)) ≡ true
    front_not_lower x e = elim (front_step x e) [
      | inl less ↦ ap not (is_less_of_≤ℚ (number k x) (number k b) (≤ℚ_of_<ℚ (is_less_yes (number k b) (number k x) less)))
      | inr later ↦ ap not later.0
    ]

    first_is_lowest : is_lowest b ≡ true
    first_is_lowest =
        let P : ℕ → Type 0 = λ x. not (is_less (number k x) (number k b)) ≡ true in
        list_all-from_AllPass (λ j. not (is_less (number k j) (number k b))) (front ++ b ∷ back)
        (All-append P front (b ∷ back) (λ i d l. front_not_lower (get_or front i d) (above i d l))
        (All-cons P b back (ap not (is_less_of_≤ℚ (number k b) (number k b) (≤ℚ_refl (number k b)))) (λ i d l. ap not (back_step (get_or back i d) (rest i d l)).0)))

    lowest_not_higher : (x : ℕ) → is_lowest x ≡ true → is_less (number k b) (number k x) ≡ false
    lowest_not_higher x e =
        let P : ℕ → Type 0 = λ j. not (is_less (number k j) (number k x)) ≡ true in
        not_true (is_less (number k b) (number k x)) (All-contains P (front ++ b ∷ back) b (AllPass-from_list_all (λ j. not (is_less (number k j) (number k x))) (front ++ b ∷ back) e) (Contains-append_right front (b ∷ back) b (0, omega arith, refl)))

    pub lowest_rows : least_rows (number k) (front ++ b ∷ back) ≡ filter is_lowest front ++ b ∷ filter is_lowest back
    lowest_rows =
        filter-append is_lowest front (b ∷ back)
        ∙ ap (λ t. filter is_lowest front ++ cond t (b ∷ filter is_lowest back) (filter is_lowest back)) first_is_lowest

    front_later : (x : ℕ) → is_lowest x ≡ true → before (k ∷ keys) b x ≡ true → before keys b x ≡ true
    front_later x low e = elim (front_step x e) [
      | inl less ↦ not_both (is_less (number k b) (number k x)) less (lowest_not_higher x low)
      | inr later ↦ later.1
    ]

    back_later : (x : ℕ) → is_lowest x ≡ true → before (k ∷ keys) x b ≡ false → before keys x b ≡ false
    back_later x low e = elim (back_step x e).1 [
      | inl less ↦ not_both (is_less (number k b) (number k x)) less (lowest_not_higher x low)
      | inr later ↦ later
    ]

    pub lowest_above : All (λ x. before keys b x ≡ true) (filter is_lowest front)
    lowest_above = λ i d l. front_later (get_or (filter is_lowest front) i d) (filter_passes is_lowest front i d l) (All-filter is_lowest (λ x. before (k ∷ keys) b x ≡ true) front above i d l)

    pub lowest_rest : All (λ x. before keys x b ≡ false) (filter is_lowest back)
    lowest_rest = λ i d l. back_later (get_or (filter is_lowest back) i d) (filter_passes is_lowest back i d l) (All-filter is_lowest (λ x. before (k ∷ keys) x b ≡ false) back rest i d l)

  refined_more : (k : ℕ) (keys rows : List ℕ) → 2 ≤ length rows → refined number (k ∷ keys) rows ≡ refined number keys (least_rows (number k) rows)
  refined_more k keys [] l = absurd (omega arith)
  refined_more k keys (i ∷ []) l = absurd (omega arith)
  refined_more k keys (i ∷ j ∷ rows) l = refl

  refined_alone : (keys : List ℕ) (b : ℕ) → slice_index (refined number keys (b ∷ [])) 0 ≡ b
  refined_alone keys b = refl

  refined_none : (b : ℕ) (back : List ℕ) → slice_index (refined number [] (b ∷ back)) 0 ≡ b
  refined_none b [] = refl
  refined_none b (j ∷ rows) = refl

  two_or_one : (front : List ℕ) (b : ℕ) (back : List ℕ) → (2 ≤ length (front ++ b ∷ back)) ⊎ ((front ≡ []) × (back ≡ []))
  two_or_one [] b [] = inr (refl, refl)
  two_or_one [] b (y ∷ back) = inl (omega arith)
  two_or_one (x ∷ front) b back = inl (omega (arith, length-append front (b ∷ back)))

  pub refined_first : (keys front : List ℕ) (b : ℕ) (back : List ℕ) → All (λ x. before keys b x ≡ true) front → All (λ x. before keys x b ≡ false) back → slice_index (refined number keys (front ++ b ∷ back)) 0 ≡ b
  refined_first [] [] b back above rest = refined_none b back
  refined_first [] (x ∷ front) b back above rest = let clash : false ≡ true = above 0 x (omega arith) in cc
  refined_first (k ∷ keys) front b back above rest = elim (two_or_one front b back) [
    | inl two ↦
        let low = is_lowest k keys front b back above rest in
        ap (λ l. slice_index l 0) (refined_more k keys (front ++ b ∷ back) two ∙ ap (refined number keys) (lowest_rows k keys front b back above rest))
        ∙ refined_first keys (filter low front) b (filter low back) (lowest_above k keys front b back above rest) (lowest_rest k keys front b back above rest)
    | inr one ↦ ap (λ l. slice_index (refined number (k ∷ keys) (l ++ b ∷ back)) 0) one.0 ∙ ap (λ l. slice_index (refined number (k ∷ keys) (b ∷ l)) 0) one.1 ∙ refined_alone (k ∷ keys) b
  ]

  -- ---- the first of the rows so far

  -- the row that comes before each earlier one, and no later one before it
  pub record IsFirst (keys rows : List ℕ) (b : ℕ) : Type 0 where
    pub front : List ℕ
    pub back : List ℕ
    pub split : rows ≡ front ++ b ∷ back
    pub above : All (λ x. before keys b x ≡ true) front
    pub rest : All (λ x. before keys x b ≡ false) back

  pub first_alone : (keys : List ℕ) (b : ℕ) → IsFirst keys (b ∷ []) b
  first_alone keys b = record {
    front = [];
    back = [];
    split = refl;
    above = All-nil (λ x. before keys b x ≡ true);
    rest = All-nil (λ x. before keys x b ≡ false);
  }

  pub first_stays : (keys rows more : List ℕ) (b y : ℕ) → IsFirst keys rows b → before keys y b ≡ false → more ≡ rows ++ y ∷ [] → IsFirst keys more b
  first_stays keys rows more b y h e is = record {
    front = h.front;
    back = h.back ++ y ∷ [];
    split = is ∙ ap (λ l. l ++ y ∷ []) h.split ∙ append_assoc h.front (b ∷ h.back) (y ∷ []);
    above = h.above;
    rest = All-push (λ x. before keys x b ≡ false) h.back y h.rest e;
  }

  pub first_changes : (keys rows more : List ℕ) (b y : ℕ) → IsFirst keys rows b → before keys y b ≡ true → more ≡ rows ++ y ∷ [] → IsFirst keys more y
  first_changes keys rows more b y h e is =
      let P : ℕ → Type 0 = λ x. before keys y x ≡ true in
      let past : (x : ℕ) → before keys x b ≡ false → before keys y x ≡ true = λ x d. before_others (λ k. number k y) (λ k. number k b) (λ k. number k x) keys e d in
      record {
        front = rows;
        back = [];
        split = is;
        above = All-same P rows (h.front ++ b ∷ h.back) h.split
            (All-append P h.front (b ∷ h.back) (λ i d l. past (get_or h.front i d) (before_not_after (λ k. number k b) (λ k. number k (get_or h.front i d)) keys (h.above i d l)))
            (All-cons P b h.back e (λ i d l. past (get_or h.back i d) (h.rest i d l))));
        rest = All-nil (λ x. before keys x y ≡ false);
      }

  -- ---- in a list that is walked

  pub first_at : (keys xs : List ℕ) (b : ℕ) → 0 < length xs → b ≡ slice_index xs 0 → IsFirst keys (take 1 xs) b
  first_at keys xs b l is = subst (λ rows. IsFirst keys rows b) (sym (take_more xs 0 0 l ∙ ap (λ z. z ∷ []) (sym is))) (first_alone keys b)

  pub stays_at : (keys xs : List ℕ) (s b y : ℕ) → s < length xs → y ≡ slice_index xs s → IsFirst keys (take s xs) b → before keys y b ≡ false → IsFirst keys (take (s + 1) xs) b
  stays_at keys xs s b y l is h e = first_stays keys (take s xs) (take (s + 1) xs) b y h e (take_more xs s 0 l ∙ ap (λ z. take s xs ++ z ∷ []) (sym is))

  pub changes_at : (keys xs : List ℕ) (s b y : ℕ) → s < length xs → y ≡ slice_index xs s → IsFirst keys (take s xs) b → before keys y b ≡ true → IsFirst keys (take (s + 1) xs) y
  changes_at keys xs s b y l is h e = first_changes keys (take s xs) (take (s + 1) xs) b y h e (take_more xs s 0 l ∙ ap (λ z. take s xs ++ z ∷ []) (sym is))

-- what holds of a new element, and of one before it, holds of all
pub each_more : (P : ℕ → Type 0) (xs : List ℕ) (s b : ℕ) → (2 ≤ s → (i : ℕ) → i < s → P (slice_index xs i)) → (place : (i : ℕ) × (i < s) × (slice_index xs i ≡ b)) → P b → P (slice_index xs s) → (i : ℕ) → i < s + 1 → P (slice_index xs i)
each_more P xs s b old place other own i l = elim (cases_eq i s) [
  | inl same ↦ subst (λ k. P (slice_index xs k)) (sym same) own
  | inr apart ↦ elim (cases_lt 1 s) [
    | inl two ↦ old (omega (arith, two)) i (nat_below i s l apart)
    | inr one ↦
        let alone : i ≡ place.0 = same_below i place.0 s (nat_below i s l apart) place.1 (omega (arith, one)) in
        subst P (sym (ap (slice_index xs) alone ∙ place.2)) other
  ]
]

-- ---- the row that remains

module _ (limit : Option ℕ) (s : Stage) (t : Tableau) (c : ℕ) where
  -- every quotient of a row fits
  abbrev pub AllFit : ℕ → Type 0
  AllFit i = (k : ℕ) → quotient_fits limit s t c k i ≡ true

  ratio_clear : (keys rows : List ℕ) → All AllFit rows → ratio_stop limit s t c keys rows ≡ None
  ratio_clear keys [] h = refl
  ratio_clear keys (i ∷ []) h = refl
  ratio_clear [] (i ∷ j ∷ rows) h = refl
  ratio_clear (k ∷ keys) (i ∷ j ∷ rows) h =
      or_else_none (quotients_stop limit s t c k (i ∷ j ∷ rows)) (ratio_stop limit s t c keys (least_rows (compared s t c k) (i ∷ j ∷ rows)))
      (first_below_clear (λ n. quotient_stop limit s t c k (slice_index (i ∷ j ∷ rows) n)) (length (i ∷ j ∷ rows)) (λ n l.
      ap (λ b. place_unless b (record { step = Ratio; row = slice_index (i ∷ j ∷ rows) n; column = k })) (h n 0 l k)))
      ∙ ratio_clear keys (least_rows (compared s t c k) (i ∷ j ∷ rows)) (All-filter (λ x. list_all (λ y. not (is_less (compared s t c k y) (compared s t c k x))) (i ∷ j ∷ rows)) AllFit (i ∷ j ∷ rows) h)

  pub first_remains : (keys rows : List ℕ) (b : ℕ) → IsFirst (compared s t c) keys rows b → All AllFit rows → remaining limit s t c keys rows ≡ Ok b
  first_remains keys rows b h fits =
      unless_none (ratio_stop limit s t c keys rows) (Ok (slice_index (refined (compared s t c) keys rows) 0)) (ratio_clear keys rows fits)
      ∙ ap Ok (ap (λ l. slice_index (refined (compared s t c) keys l) 0) h.split ∙ refined_first (compared s t c) keys h.front b h.back h.above h.rest)

  -- the same where the list has been walked to its end
  pub walked_remains : (keys rows : List ℕ) (n b : ℕ) → n ≡ length rows → 2 ≤ length rows → IsFirst (compared s t c) keys (take n rows) b → (2 ≤ n → (i : ℕ) → i < n → AllFit (slice_index rows i)) → remaining limit s t c keys rows ≡ Ok b
  walked_remains keys rows n b all two h fits =
      first_remains keys rows b (subst (λ l. IsFirst (compared s t c) keys l b) (ap (λ m. take m rows) all ∙ take-length rows) h)
      (λ k d l. subst AllFit (sym (get_or_default rows k d 0 l)) (fits (omega (arith, two, all)) k (omega (arith, l, all))))
