-- No basis comes twice in a run.
use Rattle.std.proofs.Common.{◌≡◌, ℕ, ◌+◌, ◌<◌, ◌≤◌, List, length, slice_index, Bool, true, false, cond, nat_eq, Contains, arith, sym, ◌∙◌, subst}
use Rattle.std.specs.Prelude.{⊤}
use Rattle.std.specs.List.{range_with_len}
use Rattle.std.proofs.lemmas.List.{get_or_default}
use Rattle.std.proofs.lemmas.List.FromFn.{length-range_with_len, get_or-range_with_len}
use Rattle.npp_frac.specs.Rational.{Rational, zero_ℚ, ◌<ℚ◌}
use Rattle.npp_lp.specs.Programs.{LinearProgram}
use Rattle.npp_simplex.specs.declared.stage.Stage.{Stage}
use Rattle.npp_simplex.specs.declared.stage.Stage.TheVariants.{Entry, PhaseOne, PhaseTwo}
use Rattle.npp_simplex.specs.Tableau.{Tableau, cell, extra_column, pivoted}
use Rattle.npp_simplex.specs.Run.{State, PivotOn, next, stage_after, handed_on, state_after, first_cell}
use Rattle.npp_simplex.specs.Bases.{AreSameColumns}
use Rattle.npp_simplex.proofs.Choices.{IsChosen, pivot_chosen}
use Rattle.npp_simplex.proofs.CellLaws.{cell_of_pivoted}
use Rattle.npp_simplex.proofs.Invariant.{AreRows, IsGoalRow, turned_cell, IsLexBelow, key_numbers, ArePositive}
use Rattle.npp_simplex.proofs.LexLemmas.{IsLexBelow_trans, IsLexBelow_irrefl}
use Rattle.npp_simplex.proofs.LexStarts.{some_right_negative}
use Rattle.npp_simplex.proofs.LexTurns.{key_numbers_same, goal_falls}
use Rattle.npp_simplex.proofs.RowStarts.{first_slacks}
use Rattle.npp_simplex.proofs.KeptRows.{without_other}
use Rattle.npp_simplex.proofs.SameBasis.{same_goal_rows, slacks_not_again}
use Rattle.npp_simplex.proofs.Reached.{IsReachedAt, IsReached, first_cell_without}
use Rattle.npp_simplex.proofs.ReachedNext.{IsPivot, pivot_one, pivot_two}

-- ---- what comes later in a run

-- row g of a table is lexicographically below that of another
abbrev pub IsRowBelow : ℕ → ℕ → ℕ → Tableau → Tableau → Type 0
IsRowBelow m n g t u = IsLexBelow (key_numbers m n (cell t g)) (key_numbers m n (cell u g))

-- a tableau u of stage s comes after t: of a later stage, or of the same with a lower goal row
abbrev pub IsAfter : ℕ → ℕ → Stage → Tableau → Stage → Tableau → Type 0
IsAfter m n Entry t Entry u = ⊥
IsAfter m n Entry t PhaseOne u = ⊤
IsAfter m n Entry t PhaseTwo u = ⊤
IsAfter m n PhaseOne t Entry u = ⊥
IsAfter m n PhaseOne t PhaseOne u = IsRowBelow m n m u t
IsAfter m n PhaseOne t PhaseTwo u = ⊤
IsAfter m n PhaseTwo t Entry u = ⊥
IsAfter m n PhaseTwo t PhaseOne u = ⊥
IsAfter m n PhaseTwo t PhaseTwo u = IsRowBelow m n (m + 1) u t

below_trans : (m n g : ℕ) (t u v : Tableau) → IsRowBelow m n g u t → IsRowBelow m n g v u → IsRowBelow m n g v t
below_trans m n g t u v h k = IsLexBelow_trans (key_numbers m n (cell v g)) (key_numbers m n (cell u g)) (key_numbers m n (cell t g)) k h

after_trans : (m n : ℕ) (r : Stage) (t : Tableau) (s : Stage) (u : Tableau) (q : Stage) (v : Tableau) → IsAfter m n r t s u → IsAfter m n s u q v → IsAfter m n r t q v
after_trans m n Entry t Entry u q v h k = absurd h
after_trans m n Entry t PhaseOne u Entry v h k = absurd k
after_trans m n Entry t PhaseOne u PhaseOne v h k = tt
after_trans m n Entry t PhaseOne u PhaseTwo v h k = tt
after_trans m n Entry t PhaseTwo u Entry v h k = absurd k
after_trans m n Entry t PhaseTwo u PhaseOne v h k = absurd k
after_trans m n Entry t PhaseTwo u PhaseTwo v h k = tt
after_trans m n PhaseOne t Entry u q v h k = absurd h
after_trans m n PhaseOne t PhaseOne u Entry v h k = absurd k
after_trans m n PhaseOne t PhaseOne u PhaseOne v h k = below_trans m n m t u v h k
after_trans m n PhaseOne t PhaseOne u PhaseTwo v h k = tt
after_trans m n PhaseOne t PhaseTwo u Entry v h k = absurd k
after_trans m n PhaseOne t PhaseTwo u PhaseOne v h k = absurd k
after_trans m n PhaseOne t PhaseTwo u PhaseTwo v h k = tt
after_trans m n PhaseTwo t Entry u q v h k = absurd h
after_trans m n PhaseTwo t PhaseOne u q v h k = absurd h
after_trans m n PhaseTwo t PhaseTwo u Entry v h k = absurd k
after_trans m n PhaseTwo t PhaseTwo u PhaseOne v h k = absurd k
after_trans m n PhaseTwo t PhaseTwo u PhaseTwo v h k = below_trans m n (m + 1) t u v h k

-- ---- a state and the next

row_falls : (m n g : ℕ) (t : Tableau) (r c : ℕ) → t.rows ≡ m → t.columns ≡ n → m ≤ g → g < m + 2 → ArePositive m n (cell t) → IsPivot m n g t r c → IsRowBelow m n g (pivoted t r c) t
row_falls m n g t r c rows columns low high positive pivot =
    subst (λ ks. IsLexBelow ks (key_numbers m n (cell t g))) (key_numbers_same m n (turned_cell (cell t) r c g) (cell (pivoted t r c) g) (λ j l. sym (cell_of_pivoted t m n rows columns r c g j high l)))
    (goal_falls m n (cell t) r c g low pivot.row pivot.rises pivot.entry (positive r pivot.row))

falls_one_by : (b : Bool) (m n : ℕ) (t : Tableau) (r c : ℕ) → IsRowBelow m n m (pivoted t r c) t → IsAfter m n PhaseOne t (cond b PhaseTwo PhaseOne) (handed_on PhaseOne (cond b PhaseTwo PhaseOne) (pivoted t r c))
falls_one_by true m n t r c h = tt
falls_one_by false m n t r c h = h

module _ (p : LinearProgram) where
  after_at : (s : Stage) (t : Tableau) (basis : List ℕ) (r c : ℕ) → IsReachedAt p s t basis → IsChosen s t r c → IsAfter (length p.rows) p.columns s t (stage_after s t basis r) (handed_on s (stage_after s t basis r) (pivoted t r c))
  after_at Entry t basis r c x chosen = tt
  after_at PhaseOne t basis r c x chosen =
      falls_one_by (nat_eq (slice_index basis r) (extra_column t)) (length p.rows) p.columns t r c
      (row_falls (length p.rows) p.columns (length p.rows) t r c x.sizes.rows x.sizes.columns (omega arith) (omega arith) x.positive (pivot_one (length p.rows) p.columns t r c x.sizes.rows x.sizes.columns chosen))
  after_at PhaseTwo t basis r c x chosen =
      row_falls (length p.rows) p.columns (length p.rows + 1) t r c x.sizes.rows x.sizes.columns (omega arith) (omega arith) x.positive (pivot_two (length p.rows) p.columns t r c x.sizes.rows x.sizes.columns chosen)

-- ---- a state and a later one have other bases

-- the place of a column of the basis
place_of : (basis : List ℕ) (m : ℕ) (c : ℕ) → length basis ≡ m → Contains basis c → (k : ℕ) × (k < m) × (slice_index basis k ≡ c)
place_of basis m c size (k, l, e) = (k, omega arith, get_or_default basis k 0 c l ∙ e)

contains_at : (basis : List ℕ) (m k : ℕ) → length basis ≡ m → k < m → Contains basis (slice_index basis k)
contains_at basis m k size l = (k, omega arith, get_or_default basis k (slice_index basis k) 0 (omega arith))

same_places : (m : ℕ) (xs ys : List ℕ) → length xs ≡ m → length ys ≡ m → AreSameColumns xs ys → (k : ℕ) → k < m → (i : ℕ) × (i < m) × (slice_index ys i ≡ slice_index xs k)
same_places m xs ys of_xs of_ys same k l = place_of ys m (slice_index xs k) of_ys ((same (slice_index xs k)).0 (contains_at xs m k of_xs l))

module _ (m n : ℕ) (first : ℕ → ℕ → Rational) (t u : Tableau) (xs ys : List ℕ) where
  -- two tables with a goal row that differs
  other_goal : (g : ℕ) → length xs ≡ m → length ys ≡ m → AreRows m n first (cell t) (slice_index xs) → AreRows m n first (cell u) (slice_index ys) → IsGoalRow m n first (cell t) (slice_index xs) g → IsGoalRow m n first (cell u) (slice_index ys) g → IsRowBelow m n g u t → AreSameColumns xs ys → ⊥
  other_goal g of_xs of_ys rows others goal other below same =
      let e : key_numbers m n (cell t g) ≡ key_numbers m n (cell u g) =
      key_numbers_same m n (cell t g) (cell u g) (same_goal_rows m n first (cell t) (cell u) (slice_index xs) (slice_index ys) g rows others goal other (same_places m xs ys of_xs of_ys same)) in
      IsLexBelow_irrefl (key_numbers m n (cell u g)) (subst (λ ks. IsLexBelow (key_numbers m n (cell u g)) ks) e below)

slack_place : (n m c : ℕ) → Contains (range_with_len n m) c → (q : ℕ) × (q < m) × (c ≡ n + q)
slack_place n m c (k, l, e) =
    let size : length (range_with_len n m) ≡ m = length-range_with_len n m in
    (k, omega arith, sym e ∙ get_or-range_with_len n m k c (omega arith))

-- the extra column is no slack
no_extra_slack : (n m : ℕ) → Contains (range_with_len n m) (n + m) → ⊥
no_extra_slack n m h = let (q, l, e) = slack_place n m (n + m) h in omega arith

module _ (p : LinearProgram) where
  differ_at : (s : Stage) (t : Tableau) (xs : List ℕ) (q : Stage) (u : Tableau) (ys : List ℕ) → IsReachedAt p s t xs → IsReachedAt p q u ys → IsAfter (length p.rows) p.columns s t q u → AreSameColumns xs ys → ⊥
  differ_at Entry t xs Entry u ys x y after same = after
  differ_at Entry t xs PhaseOne u ys x y after same =
      let extra : Contains ys (p.columns + length p.rows) = subst (Contains ys) y.extra.basic (contains_at ys (length p.rows) y.extra_row y.sizes.basic y.extra.row) in
      no_extra_slack p.columns (length p.rows) (subst (λ b. Contains b (p.columns + length p.rows)) x.slacks ((same (p.columns + length p.rows)).1 extra))
  differ_at Entry t xs PhaseTwo u ys x y after same =
      let (h, l, below) = some_right_negative p x.stands in
      slacks_not_again (length p.rows) p.columns (first_cell_without p) (cell u) (slice_index ys) y.rows y.positive
      (λ i k il kl. without_other (p.columns + length p.rows) (first_cell p) i (p.columns + k) (λ e. omega arith) ∙ first_slacks p i k il kl)
      h l (subst (λ q. q <ℚ zero_ℚ) (sym (without_other (p.columns + length p.rows) (first_cell p) h (p.columns + length p.rows + 1) (λ e. omega arith))) below)
      (λ i il. slack_place p.columns (length p.rows) (slice_index ys i) (subst (λ b. Contains b (slice_index ys i)) x.slacks ((same (slice_index ys i)).1 (contains_at ys (length p.rows) i y.sizes.basic il))))
  differ_at PhaseOne t xs Entry u ys x y after same = after
  differ_at PhaseOne t xs PhaseOne u ys x y after same =
      other_goal (length p.rows) p.columns (first_cell p) t u xs ys (length p.rows) x.sizes.basic y.sizes.basic x.rows y.rows x.first_goal y.first_goal after same
  differ_at PhaseOne t xs PhaseTwo u ys x y after same =
      let extra : Contains xs (p.columns + length p.rows) = subst (Contains xs) x.extra.basic (contains_at xs (length p.rows) x.extra_row x.sizes.basic x.extra.row) in
      let (k, l, e) = place_of ys (length p.rows) (p.columns + length p.rows) y.sizes.basic ((same (p.columns + length p.rows)).0 extra) in
      let low : slice_index ys k < p.columns + length p.rows = y.basic k l in
      omega arith
  differ_at PhaseTwo t xs Entry u ys x y after same = after
  differ_at PhaseTwo t xs PhaseOne u ys x y after same = after
  differ_at PhaseTwo t xs PhaseTwo u ys x y after same =
      other_goal (length p.rows) p.columns (first_cell_without p) t u xs ys (length p.rows + 1) x.sizes.basic y.sizes.basic x.rows y.rows x.goal y.goal after same

  -- one state comes after another
  abbrev pub IsLater : State → State → Type 0
  IsLater x y = IsAfter (length p.rows) p.columns x.stage x.tableau y.stage y.tableau

  pub next_is_later : (x : State) (r c : ℕ) → IsReached p x → next x ≡ PivotOn r c → IsLater x (state_after x r c)
  next_is_later x r c reached e = after_at p x.stage x.tableau x.basis r c reached (pivot_chosen x r c e)

  pub later_trans : (x y z : State) → IsLater x y → IsLater y z → IsLater x z
  later_trans x y z h k = after_trans (length p.rows) p.columns x.stage x.tableau y.stage y.tableau z.stage z.tableau h k

  pub later_differ : (x y : State) → IsReached p x → IsReached p y → IsLater x y → AreSameColumns x.basis y.basis → ⊥
  later_differ x y of_x of_y later = differ_at x.stage x.tableau x.basis y.stage y.tableau y.basis of_x of_y later
