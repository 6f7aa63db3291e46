-- The multipliers above 0 of a vector: they name rows that there are, in their order, and with 0 at every other row they
-- are the vector again.
use Rattle.std.proofs.Common.{◌≡◌, ℕ, zero, suc, ◌+◌, ◌<◌, Bool, true, false, cond, List, [], ◌∷◌, ◌++◌, length, map, take, get_or, All, inl, inr, refl, sym, ap, ap₂, ◌∙◌, arith}
use Rattle.std.specs.Prelude.{◌⊎◌, ◌==◌, nat_lt, ◌&&◌, ◌||◌}
use Rattle.std.specs.List.{list_all}
use Rattle.std.proofs.lemmas.Bool.{ltb-true, eqb-true, eq-eqb, or_left, or_right, or_cases, and_from, and_parts, false_from_ne_true}
use Rattle.std.proofs.lemmas.List.{get_or-map, length-map, map-append, append-nil}
use Rattle.std.proofs.lemmas.List.Elements.{All-head, All-tail}
use Rattle.npp_frac.specs.Rational.{Rational, zero_ℚ, is_less, ◌≤ℚ◌}
use Rattle.npp_frac.specs.Order.{≤ℚ_antisymm, is_less_no}
use Rattle.npp_rows.specs.declared.names.RowName.{RowName}
use Rattle.npp_rows.specs.declared.names.Multiplier.{Multiplier}
use Rattle.npp_rows.specs.Meaning.{multiplier_value}
use Rattle.npp_rows.specs.RowOrder.{row_key, is_key_less, is_key_same, is_before, is_same_row, has_row, is_before_first, multiplier_of, multipliers_of, are_rows, are_in_order, are_positive}
use Rattle.npp_leaf.specs.PositiveMultipliers.{positive_multipliers}
use Rattle.std.specs.List.{AllPairs}

abbrev entry : RowName → Rational → Multiplier Rational
entry r y = record { row = r; value = y }

-- the multiplier of one row, where it is above 0
abbrev one : RowName → Rational → List (Multiplier Rational)
one r y = cond (is_less zero_ℚ y) (entry r y ∷ []) []

-- ---- one row after the other

next_row : (rows : List RowName) (ys : List Rational) (i : ℕ) (r : RowName) → i < length rows → i < length ys
    → positive_multipliers (take (i + 1) rows) (take (i + 1) ys) ≡ positive_multipliers (take i rows) (take i ys) ++ one (get_or rows i r) (get_or ys i zero_ℚ)
next_row [] ys i r h l = absurd (omega (arith, h))
next_row (s ∷ rows) [] i r h l = absurd (omega (arith, l))
next_row (s ∷ rows) (y ∷ ys) zero r h l = append-nil (one s y)
next_row (s ∷ rows) (y ∷ ys) (suc i) r h l =
    let e : suc i + 1 ≡ suc (i + 1) = omega arith in
    rw e (ap (λ zs. one s y ++ zs) (next_row rows ys i r (omega (arith, h)) (omega (arith, l))) ∙ by (is_less zero_ℚ y))
  where
    by : (b : Bool) → cond b (entry s y ∷ []) [] ++ (positive_multipliers (take i rows) (take i ys) ++ one (get_or rows i r) (get_or ys i zero_ℚ))
        ≡ (cond b (entry s y ∷ []) [] ++ positive_multipliers (take i rows) (take i ys)) ++ one (get_or rows i r) (get_or ys i zero_ℚ)
    by true = refl
    by false = refl

module _ {N : Type 0} (value : N → Rational) (rows : List RowName) (values : List N) (i : ℕ) (x : N) (h : i < length rows) (l : i < length values) (is : x ≡ get_or values i x) where
  value_here : get_or (map value values) i zero_ℚ ≡ value x
  value_here = get_or-map value values i x zero_ℚ l ∙ ap value (sym is)

  more : (r : RowName) → positive_multipliers (take (i + 1) rows) (take (i + 1) (map value values)) ≡ positive_multipliers (take i rows) (take i (map value values)) ++ one (get_or rows i r) (value x)
  more r = next_row rows (map value values) i r h (omega (arith, l, length-map values value)) ∙ ap (λ y. positive_multipliers (take i rows) (take i (map value values)) ++ one (get_or rows i r) y) value_here

  -- a number above 0 is taken with its row
  pub row_taken : (r : RowName) (now next : List (Multiplier N)) → r ≡ get_or rows i r → true ≡ is_less zero_ℚ (value x)
      → map (multiplier_value value) now ≡ positive_multipliers (take i rows) (take i (map value values)) → next ≡ now ++ record { row = r; value = x } ∷ []
      → map (multiplier_value value) next ≡ positive_multipliers (take (i + 1) rows) (take (i + 1) (map value values))
  row_taken r now next row above e push =
      ap (map (multiplier_value value)) push
      ∙ map-append (multiplier_value value) now (record { row = r; value = x } ∷ [])
      ∙ ap₂ ◌++◌ e (ap (λ (s : RowName). entry s (value x) ∷ []) row
      ∙ ap (λ b. cond b (entry (get_or rows i r) (value x) ∷ []) []) above)
      ∙ sym (more r)

  -- another one is passed over
  pub row_passed : (r : RowName) (now next : List (Multiplier N)) → false ≡ is_less zero_ℚ (value x)
      → map (multiplier_value value) now ≡ positive_multipliers (take i rows) (take i (map value values)) → next ≡ now
      → map (multiplier_value value) next ≡ positive_multipliers (take (i + 1) rows) (take (i + 1) (map value values))
  row_passed r now next low e same =
      ap (map (multiplier_value value)) same ∙ e
      ∙ sym (append-nil (positive_multipliers (take i rows) (take i (map value values))))
      ∙ ap (λ b. positive_multipliers (take i rows) (take i (map value values)) ++ cond b (entry (get_or rows i r) (value x) ∷ []) []) low
      ∙ sym (more r)

-- ---- the rows that they name

itself : (r : RowName) → is_same_row r r ≡ true
itself r =
    let k : ℕ × ℕ × ℕ = row_key r in
    and_from ((k.0 == k.0) && (k.1 == k.1)) (k.2 == k.2) (and_from (k.0 == k.0) (k.1 == k.1) (eq-eqb k.0 k.0 refl) (eq-eqb k.1 k.1 refl)) (eq-eqb k.2 k.2 refl)

has_itself : (rows : List RowName) → All (λ r. has_row rows r ≡ true) rows
has_itself [] i d l = absurd (omega (arith, l))
has_itself (r ∷ rows) zero d l = or_left (is_same_row r r) (has_row rows r) (itself r)
has_itself (r ∷ rows) (suc i) d l = or_right (is_same_row (get_or rows i d) r) (has_row rows (get_or rows i d)) (has_itself rows i d (omega (arith, l)))

all_pass : (P : RowName → Bool) (rows : List RowName) (ys : List Rational) → All (λ r. P r ≡ true) rows → list_all (λ z. P z.row) (positive_multipliers rows ys) ≡ true
all_pass P [] ys h = refl
all_pass P (r ∷ rows) [] h = refl
all_pass P (r ∷ rows) (y ∷ ys) h = by (is_less zero_ℚ y) (All-head (λ r. P r ≡ true) r rows h) (all_pass P rows ys (All-tail (λ r. P r ≡ true) r rows h))
  where
    by : (b : Bool) → P r ≡ true → list_all (λ z. P z.row) (positive_multipliers rows ys) ≡ true → list_all (λ z. P z.row) (cond b (entry r y ∷ []) [] ++ positive_multipliers rows ys) ≡ true
    by true here rest = and_from (P r) (list_all (λ z. P z.row) (positive_multipliers rows ys)) here rest
    by false here rest = rest

-- they name rows that there are
pub positive_rows : (rows : List RowName) (ys : List Rational) → are_rows rows (positive_multipliers rows ys) ≡ true
positive_rows rows ys = all_pass (has_row rows) rows ys (has_itself rows)

-- ---- their order

first_behind : (s : RowName) (rows : List RowName) (ys : List Rational) → All (λ r. is_before s r ≡ true) rows → is_before_first is_before s (map (λ z. z.row) (positive_multipliers rows ys)) ≡ true
first_behind s [] ys h = refl
first_behind s (r ∷ rows) [] h = refl
first_behind s (r ∷ rows) (y ∷ ys) h = by (is_less zero_ℚ y) (All-head (λ r. is_before s r ≡ true) r rows h) (first_behind s rows ys (All-tail (λ r. is_before s r ≡ true) r rows h))
  where
    by : (b : Bool) → is_before s r ≡ true → is_before_first is_before s (map (λ z. z.row) (positive_multipliers rows ys)) ≡ true
        → is_before_first is_before s (map (λ z. z.row) (cond b (entry r y ∷ []) [] ++ positive_multipliers rows ys)) ≡ true
    by true here rest = here
    by false here rest = rest

-- the rows behind the first
behind : (r : RowName) (rows : List RowName) → AllPairs (λ s t. is_before s t ≡ true) (r ∷ rows) → All (λ t. is_before r t ≡ true) rows
behind r rows rise i d l = rise 0 (suc i) d (omega arith) (omega (arith, l))

others : (r : RowName) (rows : List RowName) → AllPairs (λ s t. is_before s t ≡ true) (r ∷ rows) → AllPairs (λ s t. is_before s t ≡ true) rows
others r rows rise i j d u l = rise (suc i) (suc j) d (omega (arith, u)) (omega (arith, l))

-- their rows rise where those of the program do
pub positive_rise : (rows : List RowName) (ys : List Rational) → AllPairs (λ s t. is_before s t ≡ true) rows → are_in_order (positive_multipliers rows ys) ≡ true
positive_rise [] ys rise = refl
positive_rise (r ∷ rows) [] rise = refl
positive_rise (r ∷ rows) (y ∷ ys) rise = by (is_less zero_ℚ y) (first_behind r rows ys (behind r rows rise)) (positive_rise rows ys (others r rows rise))
  where
    by : (b : Bool) → is_before_first is_before r (map (λ z. z.row) (positive_multipliers rows ys)) ≡ true → are_in_order (positive_multipliers rows ys) ≡ true
        → are_in_order (cond b (entry r y ∷ []) [] ++ positive_multipliers rows ys) ≡ true
    by true first rest = and_from (is_before_first is_before r (map (λ z. z.row) (positive_multipliers rows ys))) (are_in_order (positive_multipliers rows ys)) first rest
    by false first rest = rest

-- ---- their sign

sign_by : (r : RowName) (y : Rational) (rest : List (Multiplier Rational)) (b : Bool) → is_less zero_ℚ y ≡ b → are_positive rest ≡ true → are_positive (cond b (entry r y ∷ []) [] ++ rest) ≡ true
sign_by r y rest true e h = and_from (is_less zero_ℚ y) (are_positive rest) e h
sign_by r y rest false e h = h

pub positive_signs : (rows : List RowName) (ys : List Rational) → are_positive (positive_multipliers rows ys) ≡ true
positive_signs [] ys = refl
positive_signs (r ∷ rows) [] = refl
positive_signs (r ∷ rows) (y ∷ ys) = sign_by r y (positive_multipliers rows ys) (is_less zero_ℚ y) refl (positive_signs rows ys)

-- ---- the vector again

-- what the test of keys tells
abbrev IsLess : ℕ × ℕ × ℕ → ℕ × ℕ × ℕ → Type 0
IsLess x y = (x.0 < y.0) ⊎ ((x.0 ≡ y.0) × ((x.1 < y.1) ⊎ ((x.1 ≡ y.1) × (x.2 < y.2))))

less_tells : (x y : ℕ × ℕ × ℕ) → is_key_less x y ≡ true → IsLess x y
less_tells x y h = elim (or_cases (nat_lt x.0 y.0) ((x.0 == y.0) && (nat_lt x.1 y.1 || ((x.1 == y.1) && nat_lt x.2 y.2))) h) [
  | inl kind ↦ inl (ltb-true x.0 y.0 kind)
  | inr rest ↦
      let parts = and_parts (x.0 == y.0) (nat_lt x.1 y.1 || ((x.1 == y.1) && nat_lt x.2 y.2)) rest in
      inr (
        eqb-true x.0 y.0 parts.0,
        elim (or_cases (nat_lt x.1 y.1) ((x.1 == y.1) && nat_lt x.2 y.2) parts.1) [
          | inl commodity ↦ inl (ltb-true x.1 y.1 commodity)
          | inr last ↦ let ends = and_parts (x.1 == y.1) (nat_lt x.2 y.2) last in inr (eqb-true x.1 y.1 ends.0, ltb-true x.2 y.2 ends.1)
        ],
      )
]

never_less : (x y : ℕ × ℕ × ℕ) → x.0 ≡ y.0 → x.1 ≡ y.1 → x.2 ≡ y.2 → IsLess x y → ⊥
never_less x y e f g (inl h) = omega (arith, h, e)
never_less x y e f g (inr (same, inl h)) = omega (arith, h, f)
never_less x y e f g (inr (same, inr (there, h))) = omega (arith, h, g)

same_tells : (x y : ℕ × ℕ × ℕ) → is_key_same x y ≡ true → (x.0 ≡ y.0) × (x.1 ≡ y.1) × (x.2 ≡ y.2)
same_tells x y h =
    let outer = and_parts ((x.0 == y.0) && (x.1 == y.1)) (x.2 == y.2) h in
    let inner = and_parts (x.0 == y.0) (x.1 == y.1) outer.0 in
    (eqb-true x.0 y.0 inner.0, eqb-true x.1 y.1 inner.1, eqb-true x.2 y.2 outer.1)

-- a row is not the same as one behind it, on either side
differs : (r s : RowName) → is_before r s ≡ true → is_same_row r s ≡ false
differs r s h =
    false_from_ne_true (is_same_row r s) (λ e. let same = same_tells (row_key r) (row_key s) e in never_less (row_key r) (row_key s) same.0 same.1 same.2 (less_tells (row_key r) (row_key s) h))

differs_from : (r s : RowName) → is_before r s ≡ true → is_same_row s r ≡ false
differs_from r s h =
    false_from_ne_true (is_same_row s r) (λ e. let same = same_tells (row_key s) (row_key r) e in never_less (row_key r) (row_key s) (sym same.0) (sym same.1) (sym same.2) (less_tells (row_key r) (row_key s) h))

-- a row before all of these is not named
not_named : (r : RowName) (rows : List RowName) (ys : List Rational) → All (λ s. is_before r s ≡ true) rows → multiplier_of (positive_multipliers rows ys) r ≡ zero_ℚ
not_named r [] ys h = refl
not_named r (s ∷ rows) [] h = refl
not_named r (s ∷ rows) (y ∷ ys) h = by (is_less zero_ℚ y) (differs_from r s (All-head (λ t. is_before r t ≡ true) s rows h)) (not_named r rows ys (All-tail (λ t. is_before r t ≡ true) s rows h))
  where
    by : (b : Bool) → is_same_row s r ≡ false → multiplier_of (positive_multipliers rows ys) r ≡ zero_ℚ → multiplier_of (cond b (entry s y ∷ []) [] ++ positive_multipliers rows ys) r ≡ zero_ℚ
    by true other rest = ap (λ b. cond b y (multiplier_of (positive_multipliers rows ys) r)) other ∙ rest
    by false other rest = rest

first_given : (r : RowName) (y : Rational) (rest : List (Multiplier Rational)) (b : Bool) → is_less zero_ℚ y ≡ b → zero_ℚ ≤ℚ y → multiplier_of rest r ≡ zero_ℚ
    → multiplier_of (cond b (entry r y ∷ []) [] ++ rest) r ≡ y
first_given r y rest true e h none = ap (λ b. cond b y (multiplier_of rest r)) (itself r)
first_given r y rest false e h none = none ∙ ≤ℚ_antisymm h (is_less_no zero_ℚ y e)

later_given : (r s : RowName) (y : Rational) (rest : List (Multiplier Rational)) (b : Bool) → is_same_row r s ≡ false
    → multiplier_of (cond b (entry r y ∷ []) [] ++ rest) s ≡ multiplier_of rest s
later_given r s y rest true other = ap (λ b. cond b y (multiplier_of rest s)) other
later_given r s y rest false other = refl

map_along : {X Y : Type 0} (f g : X → Y) (xs : List X) → All (λ x. f x ≡ g x) xs → map f xs ≡ map g xs
map_along f g [] h = refl
map_along f g (x ∷ xs) h = ap₂ (λ y ys. y ∷ ys) (All-head (λ x. f x ≡ g x) x xs h) (map_along f g xs (All-tail (λ x. f x ≡ g x) x xs h))

-- with 0 at every other row they are the vector
pub positive_again : (rows : List RowName) (ys : List Rational) → length ys ≡ length rows → AllPairs (λ s t. is_before s t ≡ true) rows → All (λ y. zero_ℚ ≤ℚ y) ys
    → multipliers_of rows (positive_multipliers rows ys) ≡ ys
positive_again [] [] size rise low = refl
positive_again [] (y ∷ ys) size rise low = absurd (omega (arith, size))
positive_again (r ∷ rows) [] size rise low = absurd (omega (arith, size))
positive_again (r ∷ rows) (y ∷ ys) size rise low =
    ap₂ (λ z zs. z ∷ zs)
    (first_given r y (positive_multipliers rows ys) (is_less zero_ℚ y) refl (All-head (λ y. zero_ℚ ≤ℚ y) y ys low) (not_named r rows ys (behind r rows rise)))
    (map_along (multiplier_of (one r y ++ positive_multipliers rows ys)) (multiplier_of (positive_multipliers rows ys)) rows
    (λ i d l. later_given r (get_or rows i d) y (positive_multipliers rows ys) (is_less zero_ℚ y) (differs r (get_or rows i d) (behind r rows rise i d l)))
    ∙ positive_again rows ys (omega (arith, size)) (others r rows rise) (All-tail (λ y. zero_ℚ ≤ℚ y) y ys low))
