-- What is kept of the rows at a pivot.
use Rattle.std.proofs.Common.{◌≡◌, ◌≢◌, ℕ, ◌+◌, ◌<◌, ◌≤◌, inl, inr, true, false, nat_eq, refl, arith, ap, ap₂, sym, ◌∙◌, eq-eqb, ne_eqb}
use Rattle.std.proofs.lemmas.Bool.{cases_eq}
use Rattle.npp_frac.specs.Rational.{Rational, zero_ℚ, one_ℚ, ◌+ℚ◌, ◌-ℚ◌, ◌*ℚ◌, ◌/ℚ◌}
use Rattle.npp_frac.specs.Ring.{*ℚ-zero, -ℚ_self, -ℚ-zero, *ℚ-one, one-*ℚ, zero-*ℚ}
use Rattle.npp_frac.specs.Division.{/ℚ-*ℚ, /ℚ_unique}
use Rattle.npp_frac.specs.Sums.{unit, unit_other, unit_same}
use Rattle.npp_lp.specs.Programs.{product_sum}
use Rattle.npp_frac.specs.ZeroLaws.{zero-/ℚ}
use Rattle.npp_simplex.proofs.Invariant.{combined, Solves, AreRows, IsGoalRow, IsExtraRow, turned_cell, turned_basis}
use Rattle.npp_simplex.proofs.Sums.{+ℚ--ℚ_assoc, product_sum_same, product_sum-/ℚ, product_sum_reduced}
use Rattle.npp_simplex.proofs.KeptRows.{combined_same}

pub turned_here : (e : ℕ → ℕ → Rational) (r c j : ℕ) → turned_cell e r c r j ≡ e r j /ℚ e r c
turned_here e r c j = let yes : nat_eq r r ≡ true = eq-eqb r r refl in rw yes refl

pub turned_other : (e : ℕ → ℕ → Rational) (r c i j : ℕ) → i ≢ r → turned_cell e r c i j ≡ e i j -ℚ e i c *ℚ (e r j /ℚ e r c)
turned_other e r c i j h = let no : nat_eq i r ≡ false = ne_eqb i r h in rw no refl

pub basis_here : (basis : ℕ → ℕ) (r c : ℕ) → turned_basis basis r c r ≡ c
basis_here basis r c = let yes : nat_eq r r ≡ true = eq-eqb r r refl in rw yes refl

pub basis_other : (basis : ℕ → ℕ) (r c k : ℕ) → k ≢ r → turned_basis basis r c k ≡ basis k
basis_other basis r c k h = let no : nat_eq k r ≡ false = ne_eqb k r h in rw no refl

pub one_quotient : (p : Rational) → p ≢ zero_ℚ → p /ℚ p ≡ one_ℚ
one_quotient p h = sym (/ℚ_unique h (one-*ℚ p))

-- a row loses nothing where the row of the pivot has 0
pub loses_none : (a y q p : Rational) → q ≡ zero_ℚ → a -ℚ y *ℚ (q /ℚ p) ≡ a
loses_none a y q p e = ap (λ t. a -ℚ y *ℚ t) (ap (λ t. t /ℚ p) e ∙ zero-/ℚ p) ∙ ap (λ t. a -ℚ t) (*ℚ-zero y) ∙ -ℚ-zero a

-- the column of the pivot is cleared
pub loses_all : (a p : Rational) → p ≢ zero_ℚ → a -ℚ a *ℚ (p /ℚ p) ≡ zero_ℚ
loses_all a p h = ap (λ t. a -ℚ a *ℚ t) (one_quotient p h) ∙ ap (λ t. a -ℚ t) (*ℚ-one a) ∙ -ℚ_self a

zero_of_quotient : (q p : Rational) → p ≢ zero_ℚ → q /ℚ p ≡ zero_ℚ → q ≡ zero_ℚ
zero_of_quotient q p h e = sym (/ℚ-*ℚ q p h) ∙ ap (λ t. t *ℚ p) e ∙ zero-*ℚ p

module _ (m n : ℕ) (first e : ℕ → ℕ → Rational) (basis : ℕ → ℕ) (r c : ℕ) (inside : r < m) (nonzero : e r c ≢ zero_ℚ) where
  -- the combination of the turned rows
  combined_here : (j : ℕ) → combined m n first (turned_cell e r c r) j ≡ combined m n first (e r) j /ℚ e r c
  combined_here j =
      combined_same m n first first (turned_cell e r c r) (λ q. e r q /ℚ e r c) j (λ k l. refl) (λ k l. turned_here e r c (n + k))
      ∙ product_sum-/ℚ m (e r c) (λ k. e r (n + k)) (λ k. first k j)

  combined_other : (i j : ℕ) → i ≢ r → combined m n first (turned_cell e r c i) j ≡ combined m n first (e i) j -ℚ e i c *ℚ (combined m n first (e r) j /ℚ e r c)
  combined_other i j h =
      combined_same m n first first (turned_cell e r c i) (λ q. e i q -ℚ e i c *ℚ (e r q /ℚ e r c)) j (λ k l. refl) (λ k l. turned_other e r c i (n + k) h)
      ∙ product_sum_reduced m (e i c) (λ k. e i (n + k)) (λ k. e r (n + k) /ℚ e r c) (λ k. first k j)
      ∙ ap (λ t. combined m n first (e i) j -ℚ e i c *ℚ t) (product_sum-/ℚ m (e r c) (λ k. e r (n + k)) (λ k. first k j))

  -- what solves the turned rows solves the rows
  solves_here : (w : ℕ → Rational) → Solves m n (turned_cell e r c) w → product_sum (n + m + 2) (e r) w ≡ zero_ℚ
  solves_here w s =
      zero_of_quotient (product_sum (n + m + 2) (e r) w) (e r c) nonzero
      (sym (product_sum-/ℚ (n + m + 2) (e r c) (e r) w)
      ∙ product_sum_same (n + m + 2) (λ j. e r j /ℚ e r c) (turned_cell e r c r) w w (λ j l. sym (turned_here e r c j)) (λ j l. refl)
      ∙ s r inside)

  solves_before : (w : ℕ → Rational) → Solves m n (turned_cell e r c) w → Solves m n e w
  solves_before w s i l = elim (cases_eq i r) [
    | inl is ↦ rw is (solves_here w s)
    | inr h ↦
        sym (loses_none (product_sum (n + m + 2) (e i) w) (e i c) (product_sum (n + m + 2) (e r) w) (e r c) (solves_here w s))
        ∙ ap (λ t. product_sum (n + m + 2) (e i) w -ℚ e i c *ℚ t) (sym (product_sum-/ℚ (n + m + 2) (e r c) (e r) w))
        ∙ sym (product_sum_reduced (n + m + 2) (e i c) (e i) (λ j. e r j /ℚ e r c) w)
        ∙ product_sum_same (n + m + 2) (λ j. e i j -ℚ e i c *ℚ (e r j /ℚ e r c)) (turned_cell e r c i) w w (λ j jl. sym (turned_other e r c i j h)) (λ j jl. refl)
        ∙ s i l
  ]

  -- the entries at a column that is 0 in row r stay
  stays_other : (i j : ℕ) → i ≢ r → e r j ≡ zero_ℚ → turned_cell e r c i j ≡ e i j
  stays_other i j h is = turned_other e r c i j h ∙ loses_none (e i j) (e i c) (e r j) (e r c) is

  stays_zero : (i j : ℕ) → e r j ≡ zero_ℚ → e i j ≡ zero_ℚ → turned_cell e r c i j ≡ zero_ℚ
  stays_zero i j is here = elim (cases_eq i r) [
    | inl same ↦ rw same (turned_here e r c j ∙ ap (λ t. t /ℚ e r c) is ∙ zero-/ℚ (e r c))
    | inr h ↦ stays_other i j h is ∙ here
  ]

  -- the column of the pivot becomes a unit
  pivot_column : (i : ℕ) → turned_cell e r c i c ≡ unit r one_ℚ i
  pivot_column i = elim (cases_eq i r) [
    | inl is ↦ rw is (turned_here e r c c ∙ one_quotient (e r c) nonzero ∙ sym (unit_same r one_ℚ))
    | inr h ↦ turned_other e r c i c h ∙ loses_all (e i c) (e r c) nonzero ∙ sym (unit_other r i one_ℚ (λ is. h (sym is)))
  ]

  -- and the other basic columns stay units
  turned_units : ((i k : ℕ) → i < m → k < m → e i (basis k) ≡ unit k one_ℚ i) → (i k : ℕ) → i < m → k < m → turned_cell e r c i (turned_basis basis r c k) ≡ unit k one_ℚ i
  turned_units units i k l kl = elim (cases_eq k r) [
    | inl is ↦ rw is (ap (turned_cell e r c i) (basis_here basis r c) ∙ pivot_column i)
    | inr h ↦
        let none : e r (basis k) ≡ zero_ℚ = units r k inside kl ∙ unit_other k r one_ℚ h in
        ap (turned_cell e r c i) (basis_other basis r c k h) ∙ elim (cases_eq i r) [
          | inl same ↦ rw same (stays_zero r (basis k) none none ∙ sym (unit_other k r one_ℚ h))
          | inr other ↦ stays_other i (basis k) other none ∙ units i k l kl
        ]
  ]

  turned_range : c < n + m + 1 → ((k : ℕ) → k < m → basis k < n + m + 1) → (k : ℕ) → k < m → turned_basis basis r c k < n + m + 1
  turned_range cl range k kl = elim (cases_eq k r) [
    | inl is ↦ rw (is, basis_here basis r c) cl
    | inr h ↦ rw (basis_other basis r c k h) (range k kl)
  ]

pub AreRows-turned : (m n : ℕ) (first e : ℕ → ℕ → Rational) (basis : ℕ → ℕ) (r c : ℕ) → r < m → c < n + m + 1 → e r c ≢ zero_ℚ → AreRows m n first e basis → AreRows m n first (turned_cell e r c) (turned_basis basis r c)
AreRows-turned m n first e basis r c rl cl nonzero rows = record {
  combined = λ i j l jl. elim (cases_eq i r) [
    | inl is ↦ rw is (turned_here e r c j ∙ ap (λ t. t /ℚ e r c) (rows.combined r j rl jl) ∙ sym (combined_here m n first e basis r c rl nonzero j))
    | inr h ↦
        turned_other e r c i j h
        ∙ ap₂ (λ s t. s -ℚ e i c *ℚ (t /ℚ e r c)) (rows.combined i j l jl) (rows.combined r j rl jl)
        ∙ sym (combined_other m n first e basis r c rl nonzero i j h)
  ];
  solves = λ w s. rows.solves w (solves_before m n first e basis r c rl nonzero w s);
  units = turned_units m n first e basis r c rl nonzero rows.units;
  in_range = turned_range m n first e basis r c rl nonzero cl rows.in_range;
}

pub IsGoalRow-turned : (m n : ℕ) (first e : ℕ → ℕ → Rational) (basis : ℕ → ℕ) (r c g : ℕ) → r < m → c < n + m + 1 → m ≤ g → e r c ≢ zero_ℚ → AreRows m n first e basis → IsGoalRow m n first e basis g → IsGoalRow m n first (turned_cell e r c) (turned_basis basis r c) g
IsGoalRow-turned m n first e basis r c g rl cl gl nonzero rows goal =
    let apart : g ≢ r = λ is. omega (arith, is, rl, gl) in
    record {
      combined = λ j jl.
          turned_other e r c g j apart
          ∙ ap₂ (λ s t. s -ℚ e g c *ℚ (t /ℚ e r c)) (goal.combined j jl) (rows.combined r j rl jl)
          ∙ +ℚ--ℚ_assoc (first g j) (combined m n first (e g) j) (e g c *ℚ (combined m n first (e r) j /ℚ e r c))
          ∙ ap (λ t. first g j +ℚ t) (sym (combined_other m n first e basis r c rl nonzero g j apart));
      basic = λ k kl. elim (cases_eq k r) [
        | inl is ↦ rw is (ap (turned_cell e r c g) (basis_here basis r c) ∙ turned_other e r c g c apart ∙ loses_all (e g c) (e r c) nonzero)
        | inr h ↦
            let none : e r (basis k) ≡ zero_ℚ = rows.units r k rl kl ∙ unit_other k r one_ℚ h in
            ap (turned_cell e r c g) (basis_other basis r c k h) ∙ stays_other m n first e basis r c rl nonzero g (basis k) apart none ∙ goal.basic k kl
      ];
    }

pub IsExtraRow-turned : (m n : ℕ) (first e : ℕ → ℕ → Rational) (basis : ℕ → ℕ) (h r c : ℕ) → r < m → c < n + m → r ≢ h → e r c ≢ zero_ℚ → AreRows m n first e basis → IsExtraRow m n e basis h → IsExtraRow m n (turned_cell e r c) (turned_basis basis r c) h
IsExtraRow-turned m n first e basis h r c rl cl apart nonzero rows extra =
    let other : h ≢ r = λ is. apart (sym is) in
    let goal : m ≢ r = λ is. omega (arith, is, rl) in
    let before : e m c ≡ e h c = extra.same c (omega arith) (λ is. omega (arith, is, cl)) in
    record {
      row = extra.row;
      basic = basis_other basis r c h other ∙ extra.basic;
      same = λ j jl column.
          turned_other e r c m j goal
          ∙ ap₂ (λ s t. s -ℚ t *ℚ (e r j /ℚ e r c)) (extra.same j jl column) before
          ∙ sym (turned_other e r c h j other);
    }
