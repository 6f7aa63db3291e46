-- The weights of the columns that solve the rows of a table, and what a goal row gives there.
use Rattle.std.proofs.Common.{◌≡◌, ◌≢◌, ℕ, ◌+◌, ◌<◌, arith, ap, ap₂, sym, ◌∙◌, inl, inr}
use Rattle.std.proofs.lemmas.Bool.{cases_order}
use Rattle.npp_frac.specs.Rational.{Rational, zero_ℚ, one_ℚ, ◌+ℚ◌, ◌-ℚ◌, ◌*ℚ◌}
use Rattle.npp_frac.specs.Ring.{*ℚ_comm, *ℚ_assoc, *ℚ-zero, one-*ℚ, *ℚ--ℚ, +ℚ-*ℚ, +ℚ-zero, -ℚ_self, -ℚ-zero}
use Rattle.npp_frac.specs.Sums.{sum_to, sum_to_same, sum_to-+ℚ, sum_to--ℚ, sum_to-*ℚ, unit, unit_same, unit_other, sum_to-unit}
use Rattle.npp_lp.specs.Programs.{product_sum}
use Rattle.npp_simplex.proofs.Invariant.{combined, Solves, AreRows, IsGoalRow}
use Rattle.npp_simplex.proofs.Sums.{unit_swap, sum_to_none}
use Rattle.npp_simplex.proofs.NumberLaws.{one_nonzero}
use Rattle.npp_simplex.proofs.DoubleSums.{sum_to-factor, sum_swap, basic_weights, basic_sum}

-- the weights along column c: 1 there, and at each basic column the negative of its row's entry in column c
abbrev pub direction : ℕ → (ℕ → ℕ) → (ℕ → ℕ → Rational) → ℕ → ℕ → Rational
direction m basis e c j = unit c one_ℚ j -ℚ sum_to m (λ i. unit (basis i) (e i c) j)

-- what a row gives there
pub direction_sum : (w m : ℕ) (basis : ℕ → ℕ) (e : ℕ → ℕ → Rational) (c : ℕ) (f : ℕ → Rational) → c < w → ((k : ℕ) → k < m → basis k < w) → product_sum w f (direction m basis e c) ≡ f c -ℚ sum_to m (λ i. e i c *ℚ f (basis i))
direction_sum w m basis e c f l inside =
    let s : ℕ → Rational = basic_weights m basis (λ i. e i c) in
    sum_to_same w (λ j. f j *ℚ (unit c one_ℚ j -ℚ s j)) (λ j. unit c one_ℚ j *ℚ f j -ℚ f j *ℚ s j) (λ j h. *ℚ--ℚ (f j) (unit c one_ℚ j) (s j) ∙ ap (λ t. t -ℚ f j *ℚ s j) (*ℚ_comm (f j) (unit c one_ℚ j)))
    ∙ sum_to--ℚ w (λ j. unit c one_ℚ j *ℚ f j) (λ j. f j *ℚ s j)
    ∙ ap₂ ◌-ℚ◌ (sum_to-unit w c one_ℚ f l ∙ one-*ℚ (f c)) (basic_sum w m basis (λ i. e i c) f (λ k h g. absurd (omega (arith, inside k h))))

-- and a row that is 0 at the basic columns
pub direction_goal : (w m : ℕ) (basis : ℕ → ℕ) (e : ℕ → ℕ → Rational) (c : ℕ) (f : ℕ → Rational) → c < w → ((k : ℕ) → k < m → basis k < w) → ((k : ℕ) → k < m → f (basis k) ≡ zero_ℚ) → product_sum w f (direction m basis e c) ≡ f c
direction_goal w m basis e c f l inside none =
    direction_sum w m basis e c f l inside
    ∙ ap (λ t. f c -ℚ t) (sum_to_none m (λ i. e i c *ℚ f (basis i)) (λ i h. ap (λ t. e i c *ℚ t) (none i h) ∙ *ℚ-zero (e i c)))
    ∙ -ℚ-zero (f c)

module _ (m n : ℕ) (first e : ℕ → ℕ → Rational) (basis : ℕ → ℕ) where
  -- the basic columns are columns of the table
  pub basis_inside : AreRows m n first e basis → (k : ℕ) → k < m → basis k < n + m + 2
  basis_inside rows k l = omega (arith, rows.in_range k l)

  -- it solves the rows of its own table
  pub direction_solves_own : AreRows m n first e basis → (c : ℕ) → c < n + m + 2 → Solves m n e (direction m basis e c)
  direction_solves_own rows c l i il =
      let own : sum_to m (λ k. e k c *ℚ e i (basis k)) ≡ e i c =
      sum_to_same m (λ k. e k c *ℚ e i (basis k)) (λ k. unit i one_ℚ k *ℚ e k c) (λ k h. ap (λ t. e k c *ℚ t) (rows.units i k il h ∙ unit_swap k i one_ℚ) ∙ *ℚ_comm (e k c) (unit i one_ℚ k))
      ∙ sum_to-unit m i one_ℚ (λ k. e k c) il
      ∙ one-*ℚ (e i c) in
      direction_sum (n + m + 2) m basis e c (e i) l (basis_inside rows) ∙ ap (λ t. e i c -ℚ t) own ∙ -ℚ_self (e i c)

  -- so it solves the first rows
  pub direction_solves : AreRows m n first e basis → (c : ℕ) → c < n + m + 2 → Solves m n first (direction m basis e c)
  direction_solves rows c l = rows.solves (direction m basis e c) (direction_solves_own rows c l)

-- no column is basic in two rows
pub basis_different : (m n : ℕ) (first e : ℕ → ℕ → Rational) (basis : ℕ → ℕ) → AreRows m n first e basis → (i k : ℕ) → i < m → k < m → basis i ≡ basis k → i ≡ k
basis_different m n first e basis rows i k il kl same =
    let one : unit k one_ℚ i ≡ one_ℚ = sym (rows.units i k il kl) ∙ ap (e i) (sym same) ∙ rows.units i i il il ∙ unit_same i one_ℚ in
    let apart : k ≢ i → ⊥ = λ d. one_nonzero (sym one ∙ unit_other k i one_ℚ d) in
    elim (cases_order i k) [
      | inl e ↦ e
      | inr d ↦ absurd (apart (λ e. elim d [ inl x ↦ omega arith | inr x ↦ omega arith ]))
    ]

-- a combination of the first rows is 0 where each of them is
pub combined_solved : (m n : ℕ) (first : ℕ → ℕ → Rational) (row w : ℕ → Rational) → Solves m n first w → product_sum (n + m + 2) (combined m n first row) w ≡ zero_ℚ
combined_solved m n first row w solved =
    sum_to_same (n + m + 2) (λ j. combined m n first row j *ℚ w j) (λ j. sum_to m (λ k. row (n + k) *ℚ (first k j *ℚ w j))) (λ j l.
    sum_to-factor m (λ k. row (n + k) *ℚ first k j) (w j)
    ∙ sum_to_same m (λ k. (row (n + k) *ℚ first k j) *ℚ w j) (λ k. row (n + k) *ℚ (first k j *ℚ w j)) (λ k h. *ℚ_assoc (row (n + k)) (first k j) (w j)))
    ∙ sum_swap m (n + m + 2) (λ k j. row (n + k) *ℚ (first k j *ℚ w j))
    ∙ sum_to_none m (λ k. sum_to (n + m + 2) (λ j. row (n + k) *ℚ (first k j *ℚ w j))) (λ k h.
    sum_to-*ℚ (n + m + 2) (row (n + k)) (λ j. first k j *ℚ w j) ∙ ap (λ t. row (n + k) *ℚ t) (solved k h) ∙ *ℚ-zero (row (n + k)))

-- a goal row gives what its first row does, where the first rows are 0
pub goal_sum : (m n : ℕ) (first e : ℕ → ℕ → Rational) (basis : ℕ → ℕ) (g : ℕ) (w : ℕ → Rational) → IsGoalRow m n first e basis g → Solves m n first w → product_sum (n + m + 2) (e g) w ≡ product_sum (n + m + 2) (first g) w
goal_sum m n first e basis g w goal solved =
    sum_to_same (n + m + 2) (λ j. e g j *ℚ w j) (λ j. first g j *ℚ w j +ℚ combined m n first (e g) j *ℚ w j) (λ j l. ap (λ t. t *ℚ w j) (goal.combined j l) ∙ +ℚ-*ℚ (first g j) (combined m n first (e g) j) (w j))
    ∙ sum_to-+ℚ (n + m + 2) (λ j. first g j *ℚ w j) (λ j. combined m n first (e g) j *ℚ w j)
    ∙ ap (λ t. product_sum (n + m + 2) (first g) w +ℚ t) (combined_solved m n first (e g) w solved)
    ∙ +ℚ-zero (product_sum (n + m + 2) (first g) w)

module _ (m n : ℕ) (first e : ℕ → ℕ → Rational) (basis : ℕ → ℕ) (rows : AreRows m n first e basis) (c : ℕ) (l : c < n + m + 2) where
  -- a first row at a column: its basic entries, each times its row's entry in that column
  pub first_row_at : (i : ℕ) → i < m → first i c -ℚ sum_to m (λ k. e k c *ℚ first i (basis k)) ≡ zero_ℚ
  first_row_at i il = sym (direction_sum (n + m + 2) m basis e c (first i) l (basis_inside m n first e basis rows)) ∙ direction_solves m n first e basis rows c l i il

  -- a goal row there: its first row, less these
  pub goal_row_at : (g : ℕ) → IsGoalRow m n first e basis g → e g c ≡ first g c -ℚ sum_to m (λ k. e k c *ℚ first g (basis k))
  goal_row_at g goal =
      sym (direction_goal (n + m + 2) m basis e c (e g) l (basis_inside m n first e basis rows) goal.basic)
      ∙ goal_sum m n first e basis g (direction m basis e c) goal (direction_solves m n first e basis rows c l)
      ∙ direction_sum (n + m + 2) m basis e c (first g) l (basis_inside m n first e basis rows)
