-- What a pivot makes of rows that are lexicographically positive, and of the goal row.
use Rattle.std.proofs.Common.{◌≡◌, ◌≢◌, ℕ, ◌+◌, ◌<◌, ◌≤◌, List, [], ◌∷◌, map, length, inl, inr, arith, ap, ap₂, sym, ◌∙◌, refl, subst}
use Rattle.std.proofs.lemmas.Bool.{cases_eq}
use Rattle.std.specs.Prelude.{pos}
use Rattle.std.specs.List.{range_with_len}
use Rattle.npp_frac.specs.Rational.{Rational, zero_ℚ, one_ℚ, negative, reciprocal, Is-self, Is-le, le-Is, Is-lt, lt-Is, Is-negative, Is-whole, ◌+ℚ◌, ◌-ℚ◌, ◌*ℚ◌, ◌/ℚ◌, ◌≤ℚ◌, ◌<ℚ◌}
use Rattle.npp_frac.specs.Ring.{negative-negative, negative-*ℚ, *ℚ-negative, *ℚ-one, one-*ℚ, *ℚ-zero, *ℚ_comm, *ℚ_assoc, *ℚ--ℚ}
use Rattle.npp_frac.specs.Order.{≤ℚ_or_>, <ℚ_of_≤ℚ-<ℚ}
use Rattle.npp_frac.specs.Division.{/ℚ-*ℚ, /ℚ_unique, not-zero_of_pos}
use Rattle.npp_frac.specs.Sums.{sum_to_same, sum_to-*ℚ, unit, unit_same, unit_other}
use Rattle.npp_simplex.specs.declared.stage.Stage.{Stage}
use Rattle.npp_simplex.specs.declared.stage.Stage.TheVariants.{Entry, PhaseOne, PhaseTwo}
use Rattle.npp_simplex.specs.Tableau.{Tableau, cell}
use Rattle.npp_simplex.specs.Ratio.{positive_rows, compared, keys, leaving}
use Rattle.npp_simplex.proofs.Invariant.{AreRows, combined, turned_cell, IsLexPositive, IsLexBelow, key_numbers, ArePositive}
use Rattle.npp_simplex.proofs.Starting.{one_apart}
use Rattle.npp_simplex.proofs.NumberLaws.{one_nonzero}
use Rattle.npp_simplex.proofs.RowTurns.{turned_here, turned_other}
use Rattle.npp_simplex.proofs.LexLemmas.{positive_same, positive_times, positive_over, positive_with, positive_unless, below_same, below_of_positive, key_numbers_besides, slacks_of_keys}
use Rattle.npp_simplex.proofs.RatioLemmas.{IsLeastRow, leaving_is, positive_row, positive_row_is, range_has, range_bound}

-- the columns at which rows are compared
abbrev key_columns : ℕ → ℕ → List ℕ
key_columns m n = (n + m + 1) ∷ range_with_len n m

-- ---- rows with the same cells

pub key_numbers_same : (m n : ℕ) (f g : ℕ → Rational) → ((j : ℕ) → j < n + m + 2 → f j ≡ g j) → key_numbers m n f ≡ key_numbers m n g
key_numbers_same m n f g same = key_numbers_besides m n f g (λ j l apart. same j l)

pub ArePositive-same : (m n : ℕ) (e d : ℕ → ℕ → Rational) → ((i j : ℕ) → i < m → j < n + m + 2 → e i j ≡ d i j) → ArePositive m n e → ArePositive m n d
ArePositive-same m n e d same h i l = subst IsLexPositive (key_numbers_same m n (e i) (d i) (λ j k. same i j l k)) (h i l)

-- ---- no row is a multiple of another

pub not_multiple : (m n : ℕ) (first e : ℕ → ℕ → Rational) (basis : ℕ → ℕ) → AreRows m n first e basis → (i r : ℕ) → i < m → r < m → i ≢ r → (q : Rational) → ((k : ℕ) → k < m → e i (n + k) ≡ q *ℚ e r (n + k)) → ⊥
not_multiple m n first e basis rows i r il rl apart q same =
    let inside : basis i < n + m + 2 = omega (arith, rows.in_range i il) in
    let multiple : combined m n first (e i) (basis i) ≡ q *ℚ combined m n first (e r) (basis i) =
    sum_to_same m (λ k. e i (n + k) *ℚ first k (basis i)) (λ k. q *ℚ (e r (n + k) *ℚ first k (basis i))) (λ k l. ap (λ z. z *ℚ first k (basis i)) (same k l) ∙ *ℚ_assoc q (e r (n + k)) (first k (basis i)))
    ∙ sum_to-*ℚ m q (λ k. e r (n + k) *ℚ first k (basis i)) in
    let here : e i (basis i) ≡ one_ℚ = rows.units i i il il ∙ unit_same i one_ℚ in
    let there : e r (basis i) ≡ zero_ℚ = rows.units r i rl il ∙ unit_other i r one_ℚ apart in
    one_nonzero (sym here ∙ rows.combined i (basis i) il inside ∙ multiple ∙ ap (λ z. q *ℚ z) (sym (rows.combined r (basis i) rl inside) ∙ there) ∙ *ℚ-zero q)

-- ---- a pivot on the row that is least by the ratios

negative_nonneg : (q : Rational) → q ≤ℚ zero_ℚ → zero_ℚ ≤ℚ negative q
negative_nonneg q h = Is-le (Is-whole (pos 0)) (Is-negative (Is-self q)) (omega (arith, le-Is (Is-self q) (Is-whole (pos 0)) h))

less_product : (q y d : Rational) → q +ℚ negative y *ℚ d ≡ q -ℚ y *ℚ d
unfolding ◌-ℚ◌
less_product q y d = ap (λ z. q +ℚ z) (negative-*ℚ y d)

times_ratio : (a y d : Rational) → zero_ℚ <ℚ y → y *ℚ (a /ℚ y -ℚ d) ≡ a -ℚ y *ℚ d
times_ratio a y d h = *ℚ--ℚ y (a /ℚ y) d ∙ ap (λ z. z -ℚ y *ℚ d) (*ℚ_comm y (a /ℚ y) ∙ /ℚ-*ℚ a y (not-zero_of_pos h))

-- a / y is x / p where a is (y / p) times x
multiple_of_ratio : (a y x p : Rational) → zero_ℚ <ℚ y → a /ℚ y ≡ x /ℚ p → a ≡ (y /ℚ p) *ℚ x
unfolding ◌/ℚ◌
multiple_of_ratio a y x p h e = sym (/ℚ-*ℚ a y (not-zero_of_pos h)) ∙ ap (λ z. z *ℚ y) e ∙ *ℚ_comm (x *ℚ reciprocal p) y ∙ ap (λ z. y *ℚ z) (*ℚ_comm x (reciprocal p)) ∙ sym (*ℚ_assoc y (reciprocal p) x)

-- no row with a positive entry in column c is lexicographically below row r, each over its entry
abbrev pub IsLeastRatio : ℕ → ℕ → (ℕ → ℕ → Rational) → ℕ → ℕ → Type 0
IsLeastRatio m n e r c = (i : ℕ) → i < m → zero_ℚ <ℚ e i c → IsLexBelow (key_numbers m n (λ k. e i k /ℚ e i c)) (key_numbers m n (λ k. e r k /ℚ e r c)) → ⊥

module _ (m n : ℕ) (first e : ℕ → ℕ → Rational) (basis : ℕ → ℕ) (r c : ℕ) (rows : AreRows m n first e basis) (positive : ArePositive m n e) (rl : r < m) (entry : zero_ℚ <ℚ e r c) (least : IsLeastRatio m n e r c) where
  divided_positive : IsLexPositive (map (λ k. e r k /ℚ e r c) (key_columns m n))
  divided_positive = positive_over (e r c) (e r) (key_columns m n) entry (positive r rl)

  low_row : (i : ℕ) → i < m → e i c ≤ℚ zero_ℚ → IsLexPositive (map (λ k. e i k -ℚ e i c *ℚ (e r k /ℚ e r c)) (key_columns m n))
  low_row i il low =
      positive_same (λ k. e i k +ℚ negative (e i c) *ℚ (e r k /ℚ e r c)) (λ k. e i k -ℚ e i c *ℚ (e r k /ℚ e r c)) (key_columns m n) (λ k. less_product (e i k) (e i c) (e r k /ℚ e r c))
      (positive_with (negative (e i c)) (e i) (λ k. e r k /ℚ e r c) (key_columns m n) (negative_nonneg (e i c) low) (positive i il) divided_positive)

  high_row : (i : ℕ) → i < m → i ≢ r → zero_ℚ <ℚ e i c → IsLexPositive (map (λ k. e i k -ℚ e i c *ℚ (e r k /ℚ e r c)) (key_columns m n))
  high_row i il apart high =
      positive_same (λ k. e i c *ℚ (e i k /ℚ e i c -ℚ e r k /ℚ e r c)) (λ k. e i k -ℚ e i c *ℚ (e r k /ℚ e r c)) (key_columns m n) (λ k. times_ratio (e i k) (e i c) (e r k /ℚ e r c) high)
      (positive_times (e i c) (λ k. e i k /ℚ e i c -ℚ e r k /ℚ e r c) (key_columns m n) high
      (positive_unless (λ k. e i k /ℚ e i c) (λ k. e r k /ℚ e r c) (key_columns m n) (least i il high)
      (λ same. not_multiple m n first e basis rows i r il rl apart (e i c /ℚ e r c) (λ k l.
      multiple_of_ratio (e i (n + k)) (e i c) (e r (n + k)) (e r c) high (slacks_of_keys m n (λ k. e i k /ℚ e i c) (λ k. e r k /ℚ e r c) same k l)))))

  turned_positive : ArePositive m n (turned_cell e r c)
  turned_positive i il = elim (cases_eq i r) [
    | inl same ↦ subst (λ x. IsLexPositive (key_numbers m n (turned_cell e r c x))) (sym same)
        (positive_same (λ k. e r k /ℚ e r c) (turned_cell e r c r) (key_columns m n) (λ k. sym (turned_here e r c k)) divided_positive)
    | inr apart ↦ positive_same (λ k. e i k -ℚ e i c *ℚ (e r k /ℚ e r c)) (turned_cell e r c i) (key_columns m n) (λ k. sym (turned_other e r c i k apart))
        (elim (≤ℚ_or_> (e i c) zero_ℚ) [ inl low ↦ low_row i il low | inr high ↦ high_row i il apart high ])
  ]

pub ArePositive-turned : (m n : ℕ) (first e : ℕ → ℕ → Rational) (basis : ℕ → ℕ) (r c : ℕ) → AreRows m n first e basis → ArePositive m n e → r < m → c < n + m → zero_ℚ <ℚ e r c → IsLeastRatio m n e r c → ArePositive m n (turned_cell e r c)
ArePositive-turned m n first e basis r c rows positive rl cl entry least = turned_positive m n first e basis r c rows positive rl entry least

-- ---- the first pivot of phase one

over_minus_one : (q : Rational) → q /ℚ negative one_ℚ ≡ negative q
over_minus_one q = sym (/ℚ_unique one_apart (*ℚ-negative (negative q) one_ℚ ∙ ap negative (*ℚ-one (negative q)) ∙ negative-negative q))

negative_pos : (q : Rational) → q <ℚ zero_ℚ → zero_ℚ <ℚ negative q
negative_pos q h = Is-lt (Is-whole (pos 0)) (Is-negative (Is-self q)) (omega (arith, lt-Is (Is-self q) (Is-whole (pos 0)) h))

less_minus_one_ratio : (a x y p : Rational) → y ≡ negative one_ℚ → p ≡ negative one_ℚ → a -ℚ x ≡ a -ℚ y *ℚ (x /ℚ p)
less_minus_one_ratio a x y p e d =
    ap (λ z. a -ℚ z) (sym (ap₂ (λ u v. u *ℚ (x /ℚ v)) e d ∙ ap (λ z. negative one_ℚ *ℚ z) (over_minus_one x) ∙ negative-*ℚ one_ℚ (negative x) ∙ ap negative (one-*ℚ (negative x)) ∙ negative-negative x))

-- no row is lexicographically below row r
abbrev pub IsLeastFirst : ℕ → ℕ → (ℕ → ℕ → Rational) → ℕ → Type 0
IsLeastFirst m n first r = (i : ℕ) → i < m → IsLexBelow (key_numbers m n (first i)) (key_numbers m n (first r)) → ⊥

module _ (m n : ℕ) (first : ℕ → ℕ → Rational) (r : ℕ) (slacks : (i k : ℕ) → i < m → k < m → first i (n + k) ≡ unit k one_ℚ i) (extra : (i : ℕ) → i < m → first i (n + m) ≡ negative one_ℚ) (rl : r < m) (least : IsLeastFirst m n first r) where
  right_negative : (h : ℕ) → h < m → first h (n + m + 1) <ℚ zero_ℚ → first r (n + m + 1) <ℚ zero_ℚ
  right_negative h hl below = elim (≤ℚ_or_> (first r (n + m + 1)) (first h (n + m + 1))) [
    | inl low ↦ <ℚ_of_≤ℚ-<ℚ low below
    | inr less ↦ absurd (least h hl (inl less))
  ]

  no_tie : (i : ℕ) → i < m → i ≢ r → key_numbers m n (first i) ≡ key_numbers m n (first r) → ⊥
  no_tie i il apart same =
      one_nonzero (sym (unit_same i one_ℚ) ∙ sym (slacks i i il il) ∙ slacks_of_keys m n (first i) (first r) same i il ∙ slacks r i rl il ∙ unit_other i r one_ℚ apart)

  row_entered : (i : ℕ) → i < m → i ≢ r → IsLexPositive (key_numbers m n (turned_cell first r (n + m) i))
  row_entered i il apart =
      positive_same (λ k. first i k -ℚ first r k) (turned_cell first r (n + m) i) (key_columns m n)
      (λ k. less_minus_one_ratio (first i k) (first r k) (first i (n + m)) (first r (n + m)) (extra i il) (extra r rl) ∙ sym (turned_other first r (n + m) i k apart))
      (positive_unless (first i) (first r) (key_columns m n) (least i il) (no_tie i il apart))

  least_entered : (h : ℕ) → h < m → first h (n + m + 1) <ℚ zero_ℚ → IsLexPositive (key_numbers m n (turned_cell first r (n + m) r))
  least_entered h hl below =
      let right : turned_cell first r (n + m) r (n + m + 1) ≡ negative (first r (n + m + 1)) = turned_here first r (n + m) (n + m + 1) ∙ ap (λ z. first r (n + m + 1) /ℚ z) (extra r rl) ∙ over_minus_one (first r (n + m + 1)) in
      inl (subst (λ z. zero_ℚ <ℚ z) (sym right) (negative_pos (first r (n + m + 1)) (right_negative h hl below)))

-- phase one's first pivot, on the row that is least by right side and slacks, where the right side of some row h is negative
pub ArePositive-entered : (m n : ℕ) (first : ℕ → ℕ → Rational) (r h : ℕ) → ((i k : ℕ) → i < m → k < m → first i (n + k) ≡ unit k one_ℚ i) → ((i : ℕ) → i < m → first i (n + m) ≡ negative one_ℚ) → r < m → IsLeastFirst m n first r → h < m → first h (n + m + 1) <ℚ zero_ℚ → ArePositive m n (turned_cell first r (n + m))
ArePositive-entered m n first r h slacks extra rl least hl below i il = elim (cases_eq i r) [
  | inl same ↦ subst (λ x. IsLexPositive (key_numbers m n (turned_cell first r (n + m) x))) (sym same) (least_entered m n first r slacks extra rl least h hl below)
  | inr apart ↦ row_entered m n first r slacks extra rl least i il apart
]

-- ---- the pivots of a tableau

keys_are : (t : Tableau) (m n : ℕ) → t.rows ≡ m → t.columns ≡ n → keys t ≡ key_columns m n
keys_are t m n high wide = ap₂ (λ a b. (b + a + 1) ∷ range_with_len b a) high wide

later_least : (s : Stage) (t : Tableau) (c : ℕ) → s ≢ Entry → positive_rows t c ≢ [] → IsLeastRow (compared PhaseTwo t c) (keys t) (positive_rows t c) (leaving s t c)
later_least Entry t c later some = absurd (later refl)
later_least PhaseOne t c later some = leaving_is PhaseOne t c some
later_least PhaseTwo t c later some = leaving_is PhaseTwo t c some

-- the row that leaves after phase one's first pivot is a row of the program with a positive entry
pub leaving_entry : (s : Stage) (t : Tableau) (c : ℕ) → s ≢ Entry → positive_rows t c ≢ [] → (leaving s t c < t.rows) × (zero_ℚ <ℚ cell t (leaving s t c) c)
leaving_entry s t c later some = positive_row_is t c (leaving s t c) (later_least s t c later some).member

pub ArePositive-turned_leaving : (m n : ℕ) (first : ℕ → ℕ → Rational) (basis : ℕ → ℕ) (s : Stage) (t : Tableau) (c : ℕ) → t.rows ≡ m → t.columns ≡ n → s ≢ Entry → AreRows m n first (cell t) basis → ArePositive m n (cell t) → c < n + m → positive_rows t c ≢ [] → ArePositive m n (turned_cell (cell t) (leaving s t c) c)
ArePositive-turned_leaving m n first basis s t c high wide later rows positive cl some =
    let chosen = leaving_entry s t c later some in
    ArePositive-turned m n first (cell t) basis (leaving s t c) c rows positive (subst (λ k. leaving s t c < k) high chosen.0) cl chosen.1
    (λ i il entry below. (later_least s t c later some).least i (positive_row t c i (subst (λ k. i < k) (sym high) il) entry)
    (subst (λ ks. IsLexBelow (map (λ k. compared PhaseTwo t c k i) ks) (map (λ k. compared PhaseTwo t c k (leaving s t c)) ks)) (sym (keys_are t m n high wide)) below))

range_some : (n h : ℕ) → h < n → range_with_len 0 n ≢ []
range_some n h l e = let k = range_has n h l in let size : length (range_with_len 0 n) ≡ 0 = ap length e in omega (arith, k.1)

-- the row that leaves at phase one's first pivot is a row of the program
pub leaving_first : (t : Tableau) (c h : ℕ) → h < t.rows → leaving Entry t c < t.rows
leaving_first t c h l = range_bound t.rows (leaving Entry t c) (leaving_is Entry t c (range_some t.rows h l)).member

pub ArePositive-entered_leaving : (m n : ℕ) (t : Tableau) (h : ℕ) → t.rows ≡ m → t.columns ≡ n → ((i k : ℕ) → i < m → k < m → cell t i (n + k) ≡ unit k one_ℚ i) → ((i : ℕ) → i < m → cell t i (n + m) ≡ negative one_ℚ) → h < m → cell t h (n + m + 1) <ℚ zero_ℚ → ArePositive m n (turned_cell (cell t) (leaving Entry t (n + m)) (n + m))
ArePositive-entered_leaving m n t h high wide slacks extra hl below =
    let inside : h < t.rows = subst (λ k. h < k) (sym high) hl in
    ArePositive-entered m n (cell t) (leaving Entry t (n + m)) h slacks extra (subst (λ k. leaving Entry t (n + m) < k) high (leaving_first t (n + m) h inside))
    (λ i il under. (leaving_is Entry t (n + m) (range_some t.rows h inside)).least i (range_has t.rows i (subst (λ k. i < k) (sym high) il))
    (subst (λ ks. IsLexBelow (map (cell t i) ks) (map (cell t (leaving Entry t (n + m))) ks)) (sym (keys_are t m n high wide)) under)) hl below

-- ---- the goal row

-- the goal row falls where a column with a positive reduced cost enters
pub goal_falls : (m n : ℕ) (e : ℕ → ℕ → Rational) (r c g : ℕ) → m ≤ g → r < m → zero_ℚ <ℚ e g c → zero_ℚ <ℚ e r c → IsLexPositive (key_numbers m n (e r)) → IsLexBelow (key_numbers m n (turned_cell e r c g)) (key_numbers m n (e g))
goal_falls m n e r c g gl rl rising entry positive =
    below_same (λ k. e g k -ℚ e g c *ℚ (e r k /ℚ e r c)) (turned_cell e r c g) (e g) (e g) (key_columns m n) (λ k. sym (turned_other e r c g k (λ same. omega arith))) (λ k. refl)
    (below_of_positive (e g) (λ k. e g c *ℚ (e r k /ℚ e r c)) (key_columns m n) (positive_times (e g c) (λ k. e r k /ℚ e r c) (key_columns m n) rising (positive_over (e r c) (e r) (key_columns m n) entry positive)))
