-- What is kept of the rows where cells stay the same: all of them, or all but those of the extra column.
use Rattle.std.proofs.Common.{◌≡◌, ◌≢◌, ℕ, ◌+◌, ◌<◌, inl, inr, Bool, true, false, cond, nat_eq, refl, arith, ap, ap₂, sym, ◌∙◌, eq-eqb, ne_eqb}
use Rattle.std.proofs.lemmas.Bool.{cases_eq}
use Rattle.npp_frac.specs.Rational.{Rational, zero_ℚ, ◌+ℚ◌, ◌*ℚ◌}
use Rattle.npp_frac.specs.Ring.{*ℚ-zero, zero-*ℚ, zero-+ℚ}
use Rattle.npp_frac.specs.Sums.{sum_to_same}
use Rattle.npp_lp.specs.Programs.{product_sum}
use Rattle.npp_simplex.proofs.Invariant.{combined, Solves, AreRows, IsGoalRow, IsExtraRow, without}
use Rattle.npp_simplex.proofs.Sums.{product_sum_same, product_sum_comm, product_sum_zero}

-- ---- the same cells

pub combined_same : (m n : ℕ) (first f : ℕ → ℕ → Rational) (a b : ℕ → Rational) (j : ℕ) → ((k : ℕ) → k < m → first k j ≡ f k j) → ((k : ℕ) → k < m → a (n + k) ≡ b (n + k)) → combined m n first a j ≡ combined m n f b j
combined_same m n first f a b j h g = product_sum_same m (λ k. a (n + k)) (λ k. b (n + k)) (λ k. first k j) (λ k. f k j) g h

pub Solves-same : (m n : ℕ) (e d : ℕ → ℕ → Rational) (w : ℕ → Rational) → ((i j : ℕ) → i < m → j < n + m + 2 → d i j ≡ e i j) → Solves m n e w → Solves m n d w
Solves-same m n e d w h s i l = product_sum_same (n + m + 2) (d i) (e i) w w (λ j jl. h i j l jl) (λ j jl. refl) ∙ s i l

-- the rows of the program alone
pub AreRows-agree : (m n : ℕ) (first f e d : ℕ → ℕ → Rational) (basis b : ℕ → ℕ) → ((i j : ℕ) → i < m → j < n + m + 2 → first i j ≡ f i j) → ((i j : ℕ) → i < m → j < n + m + 2 → e i j ≡ d i j) → ((k : ℕ) → k < m → basis k ≡ b k) → AreRows m n first e basis → AreRows m n f d b
AreRows-agree m n first f e d basis b of_first of_cells of_basis rows = record {
  combined = λ i j l jl. sym (of_cells i j l jl) ∙ rows.combined i j l jl ∙ combined_same m n first f (e i) (d i) j (λ k kl. of_first k j kl jl) (λ k kl. of_cells i (n + k) l (omega arith));
  solves = λ w s.
      let before : Solves m n e w = Solves-same m n d e w (λ i j l jl. of_cells i j l jl) s in
      Solves-same m n first f w (λ i j l jl. sym (of_first i j l jl)) (rows.solves w before);
  units = λ i k l kl.
      let within : basis k < n + m + 1 = rows.in_range k kl in
      ap (d i) (sym (of_basis k kl)) ∙ sym (of_cells i (basis k) l (omega arith)) ∙ rows.units i k l kl;
  in_range = λ k kl. rw (of_basis k kl) at (rows.in_range k kl);
}

pub AreRows-same : (m n : ℕ) (first f e d : ℕ → ℕ → Rational) (basis b : ℕ → ℕ) → ((i j : ℕ) → i < m + 2 → j < n + m + 2 → first i j ≡ f i j) → ((i j : ℕ) → i < m + 2 → j < n + m + 2 → e i j ≡ d i j) → ((k : ℕ) → k < m → basis k ≡ b k) → AreRows m n first e basis → AreRows m n f d b
AreRows-same m n first f e d basis b of_first of_cells of_basis rows =
    AreRows-agree m n first f e d basis b (λ i j l jl. of_first i j (omega arith) jl) (λ i j l jl. of_cells i j (omega arith) jl) of_basis rows

-- the goal row, beside the first rows of the program
pub IsGoalRow-agree : (m n : ℕ) (first f e d : ℕ → ℕ → Rational) (basis b : ℕ → ℕ) (g : ℕ) → ((i j : ℕ) → i < m → j < n + m + 2 → first i j ≡ f i j) → ((j : ℕ) → j < n + m + 2 → first g j ≡ f g j) → ((j : ℕ) → j < n + m + 2 → e g j ≡ d g j) → ((k : ℕ) → k < m → basis k ≡ b k) → AreRows m n first e basis → IsGoalRow m n first e basis g → IsGoalRow m n f d b g
IsGoalRow-agree m n first f e d basis b g of_first of_goal of_cells of_basis rows goal = record {
  combined = λ j jl. sym (of_cells j jl) ∙ goal.combined j jl ∙ ap₂ ◌+ℚ◌ (of_goal j jl) (combined_same m n first f (e g) (d g) j (λ k kl. of_first k j kl jl) (λ k kl. of_cells (n + k) (omega arith)));
  basic = λ k kl.
      let within : basis k < n + m + 1 = rows.in_range k kl in
      ap (d g) (sym (of_basis k kl)) ∙ sym (of_cells (basis k) (omega arith)) ∙ goal.basic k kl;
}

pub IsGoalRow-same : (m n : ℕ) (first f e d : ℕ → ℕ → Rational) (basis b : ℕ → ℕ) (g : ℕ) → g < m + 2 → ((i j : ℕ) → i < m + 2 → j < n + m + 2 → first i j ≡ f i j) → ((i j : ℕ) → i < m + 2 → j < n + m + 2 → e i j ≡ d i j) → ((k : ℕ) → k < m → basis k ≡ b k) → AreRows m n first e basis → IsGoalRow m n first e basis g → IsGoalRow m n f d b g
IsGoalRow-same m n first f e d basis b g gl of_first of_cells of_basis rows goal =
    IsGoalRow-agree m n first f e d basis b g (λ i j l jl. of_first i j (omega arith) jl) (λ j jl. of_first g j gl jl) (λ j jl. of_cells g j gl jl) of_basis rows goal

pub IsExtraRow-same : (m n : ℕ) (e d : ℕ → ℕ → Rational) (basis b : ℕ → ℕ) (h : ℕ) → ((i j : ℕ) → i < m + 2 → j < n + m + 2 → e i j ≡ d i j) → ((k : ℕ) → k < m → basis k ≡ b k) → IsExtraRow m n e basis h → IsExtraRow m n d b h
IsExtraRow-same m n e d basis b h of_cells of_basis extra =
    let inside : h < m = extra.row in
    record {
      row = inside;
      basic = sym (of_basis h inside) ∙ extra.basic;
      same = λ j jl apart. sym (of_cells m j (omega arith) jl) ∙ extra.same j jl apart ∙ of_cells h j (omega arith) jl;
    }

-- ---- without the extra column

pub without_here : (extra : ℕ) (e : ℕ → ℕ → Rational) (i : ℕ) → without extra e i extra ≡ zero_ℚ
without_here extra e i = let yes : nat_eq extra extra ≡ true = eq-eqb extra extra refl in rw yes refl

pub without_other : (extra : ℕ) (e : ℕ → ℕ → Rational) (i j : ℕ) → j ≢ extra → without extra e i j ≡ e i j
without_other extra e i j h = let no : nat_eq j extra ≡ false = ne_eqb j extra h in rw no refl

by_column : (b : Bool) (q w : Rational) → cond b zero_ℚ q *ℚ w ≡ q *ℚ cond b zero_ℚ w
by_column true q w = zero-*ℚ w ∙ sym (*ℚ-zero q)
by_column false q w = refl

-- weights without that of the extra column
weights_without : ℕ → (ℕ → Rational) → ℕ → Rational
weights_without extra w j = cond (nat_eq j extra) zero_ℚ (w j)

without_sum : (size extra : ℕ) (e : ℕ → ℕ → Rational) (w : ℕ → Rational) (i : ℕ) → product_sum size (without extra e i) w ≡ product_sum size (e i) (weights_without extra w)
unfolding weights_without
without_sum size extra e w i = sum_to_same size (λ j. without extra e i j *ℚ w j) (λ j. e i j *ℚ weights_without extra w j) (λ j l. by_column (nat_eq j extra) (e i j) (w j))

combined_without : (m n : ℕ) (first e : ℕ → ℕ → Rational) (i j : ℕ) → j ≢ n + m → combined m n (without (n + m) first) (without (n + m) e i) j ≡ combined m n first (e i) j
combined_without m n first e i j h =
    combined_same m n (without (n + m) first) first (without (n + m) e i) (e i) j
    (λ k l. without_other (n + m) first k j h) (λ k l. without_other (n + m) e i (n + k) (λ is. omega (arith, is, l)))

combined_dropped : (m n : ℕ) (first : ℕ → ℕ → Rational) (a : ℕ → Rational) → combined m n (without (n + m) first) a (n + m) ≡ zero_ℚ
combined_dropped m n first a = product_sum_comm m (λ k. a (n + k)) (λ k. without (n + m) first k (n + m)) ∙ product_sum_zero m (λ k. without (n + m) first k (n + m)) (λ k. a (n + k)) (λ k l. without_here (n + m) first k)

pub AreRows-without : (m n : ℕ) (first e : ℕ → ℕ → Rational) (basis : ℕ → ℕ) → ((k : ℕ) → k < m → basis k ≢ n + m) → AreRows m n first e basis → AreRows m n (without (n + m) first) (without (n + m) e) basis
AreRows-without m n first e basis apart rows = record {
  combined = λ i j l jl. elim (cases_eq j (n + m)) [
    | inl is ↦ rw is (without_here (n + m) e i ∙ sym (combined_dropped m n first (without (n + m) e i)))
    | inr h ↦ without_other (n + m) e i j h ∙ rows.combined i j l jl ∙ sym (combined_without m n first e i j h)
  ];
  solves = λ w s i l.
      let before : Solves m n e (weights_without (n + m) w) = λ k kl. sym (without_sum (n + m + 2) (n + m) e w k) ∙ s k kl in
      without_sum (n + m + 2) (n + m) first w i ∙ rows.solves (weights_without (n + m) w) before i l;
  units = λ i k l kl. without_other (n + m) e i (basis k) (apart k kl) ∙ rows.units i k l kl;
  in_range = rows.in_range;
}

pub IsGoalRow-without : (m n : ℕ) (first e : ℕ → ℕ → Rational) (basis : ℕ → ℕ) (g : ℕ) → ((k : ℕ) → k < m → basis k ≢ n + m) → IsGoalRow m n first e basis g → IsGoalRow m n (without (n + m) first) (without (n + m) e) basis g
IsGoalRow-without m n first e basis g apart goal = record {
  combined = λ j jl. elim (cases_eq j (n + m)) [
    | inl is ↦
        rw is (without_here (n + m) e g ∙ sym (zero-+ℚ zero_ℚ) ∙ ap₂ ◌+ℚ◌ (sym (without_here (n + m) first g)) (sym (combined_dropped m n first (without (n + m) e g))))
    | inr h ↦
        without_other (n + m) e g j h ∙ goal.combined j jl
        ∙ ap₂ ◌+ℚ◌ (sym (without_other (n + m) first g j h)) (sym (combined_without m n first e g j h))
  ];
  basic = λ k kl. without_other (n + m) e g (basis k) (apart k kl) ∙ goal.basic k kl;
}
