-- In phase two no part of the run reads the goal row of phase one or the extra column.
use Rattle.std.proofs.Common.{◌≡◌, ◌≢◌, ℕ, zero, suc, ◌+◌, ◌<◌, ◌≤◌, List, [], ◌∷◌, map, length, get_or, set, slice_index, Bool, true, cond, not, ◌&&◌, nat_eq, Option, Some, None, arith, ap, ap₂, sym, ◌∙◌, refl, inl, inr, eq-eqb}
use Rattle.std.proofs.lemmas.Bool.{cases_eq, cases_lt}
use Rattle.std.proofs.lemmas.List.{get_or_past, length-set}
use Rattle.std.proofs.lemmas.List.FromFn.{length-map-range_with_len, get_or-map-range_with_len}
use Rattle.std.specs.List.{range_with_len}
use Rattle.npp_frac.specs.Rational.{Rational, zero_ℚ, negative, one_ℚ, is_less, ◌-ℚ◌, ◌*ℚ◌, ◌/ℚ◌}
use Rattle.npp_frac.specs.Fits.{fits_div}
use Rattle.npp_lp.specs.Programs.{at}
use Rattle.npp_lp.specs.Verdict.{or_else}
use Rattle.npp_simplex.specs.declared.place.Step.TheVariants.{Ratio}
use Rattle.npp_simplex.specs.declared.stage.Stage.TheVariants.{PhaseTwo}
use Rattle.npp_simplex.specs.Tableau.{Tableau, cell, table, pivoted_cell, pivoted, divided_cell}
use Rattle.npp_simplex.specs.Ratio.{rising_at, entering, candidates, compared, keys, least_rows, refined, leaving}
use Rattle.npp_simplex.specs.Places.{fits_at, place_unless, column_unless, fits_less_product, quotient_stop, ratio_stop, in_row, division_stop, row_stop, first_stop}
use Rattle.npp_simplex.specs.Vectors.{basic_row, basic_value, point, multipliers, value, ray_value}
use Rattle.npp_simplex.specs.Run.{State, Next, PivotOn, NoColumn, NoRow, chosen_row, chosen_column, next, Outcome, Optimal, Unbounded, no_column, no_row, finished, stepped, turned, run_from}
use Rattle.npp_simplex.specs.PhaseTwo.{AgreeWithoutExtra, HaveSameRuns}
use Rattle.npp_simplex.proofs.Tables.{map_range_same}
use Rattle.npp_simplex.proofs.FirstPlaces.{first_below_same}
use Rattle.npp_simplex.proofs.Agreeing.{Each, each_range, each_filter, filter_agrees, each_least, first_row_agrees, refined_agrees, least_agree}
use Rattle.npp_simplex.proofs.Choices.{pivot_chosen, no_row_leaves}
use Rattle.npp_simplex.proofs.FirstPlaces.{first_found, some_if, one_rises}
use Rattle.npp_simplex.proofs.LexTurns.{leaving_entry}

-- a number of two tables that agree in it
table_agrees : (h w : ℕ) (f g : ℕ → ℕ → Rational) (i j : ℕ) → f i j ≡ g i j → at (get_or (table h w f) i []) j ≡ at (get_or (table h w g) i []) j
table_agrees h w f g i j e =
    let rows : (ℕ → ℕ → Rational) → ℕ → List Rational = λ a i. map (λ j. a i j) (range_with_len 0 w) in
    let many : (a : ℕ → ℕ → Rational) → length (table h w a) ≡ h = λ a. length-map-range_with_len (rows a) 0 h in
    elim (cases_lt i h) [
      | inr past ↦
          ap (λ r. at r j) (get_or_past (table h w f) i [] (let s = many f in omega arith) ∙ sym (get_or_past (table h w g) i [] (let s = many g in omega arith)))
      | inl high ↦
          let here : (a : ℕ → ℕ → Rational) → get_or (table h w a) i [] ≡ rows a i = λ a. get_or-map-range_with_len (rows a) 0 h i i [] high (omega arith) in
          ap (λ r. at r j) (here f) ∙ elim (cases_lt j w) [
            | inl wide ↦ get_or-map-range_with_len (λ j. f i j) 0 w j j zero_ℚ wide (omega arith) ∙ e ∙ sym (get_or-map-range_with_len (λ j. g i j) 0 w j j zero_ℚ wide (omega arith))
            | inr past ↦
                let one : length (rows f i) ≡ w = length-map-range_with_len (λ j. f i j) 0 w in
                let two : length (rows g i) ≡ w = length-map-range_with_len (λ j. g i j) 0 w in
                get_or_past (rows f i) j zero_ℚ (omega arith) ∙ sym (get_or_past (rows g i) j zero_ℚ (omega arith))
          ] ∙ sym (ap (λ r. at r j) (here g))
    ]

-- tables with m rows and n columns of a program
abbrev tableau : ℕ → ℕ → List (List Rational) → Tableau
tableau m n a = record { rows = m; columns = n; cells = a }

-- two that agree in the rows and columns of phase two
abbrev Agree : ℕ → ℕ → List (List Rational) → List (List Rational) → Type 0
Agree m n a b = (i j : ℕ) → i ≢ m → j ≢ n + m → cell (tableau m n a) i j ≡ cell (tableau m n b) i j

-- ---- the choice of a pivot

module _ (m n : ℕ) (a b : List (List Rational)) (same : Agree m n a b) where
  entering_agrees : entering PhaseTwo (tableau m n a) ≡ entering PhaseTwo (tableau m n b)
  entering_agrees = first_below_same (rising_at (tableau m n a) (m + 1)) (rising_at (tableau m n b) (m + 1)) (n + m) (λ j l.
      ap (λ q. cond (is_less zero_ℚ q) (Some j) None) (same (m + 1) j (λ e. omega (arith, e)) (λ e. omega (arith, e, l))))

  rows_in : Each (λ i. i ≢ m) (range_with_len 0 m)
  rows_in = each_range (λ i. i ≢ m) 0 m (λ k l h e. omega (arith, h, e))

  keys_in : Each (λ k. k ≢ n + m) (keys (tableau m n a))
  keys_in = (λ e. omega (arith, e), each_range (λ k. k ≢ n + m) n m (λ k l h e. omega (arith, h, e)))

  module _ (c : ℕ) (low : c ≢ n + m) where
    candidates_agree : candidates PhaseTwo (tableau m n a) c ≡ candidates PhaseTwo (tableau m n b) c
    candidates_agree = filter_agrees (λ i. i ≢ m) (λ i. is_less zero_ℚ (cell (tableau m n a) i c)) (λ i. is_less zero_ℚ (cell (tableau m n b) i c)) (range_with_len 0 m) rows_in
        (λ i l. ap (is_less zero_ℚ) (same i c l low))

    candidates_in : Each (λ i. i ≢ m) (candidates PhaseTwo (tableau m n a) c)
    candidates_in = each_filter (λ i. i ≢ m) (λ i. is_less zero_ℚ (cell (tableau m n a) i c)) (range_with_len 0 m) rows_in

    quotients_agree : (k i : ℕ) → k ≢ n + m → i ≢ m → compared PhaseTwo (tableau m n a) c k i ≡ compared PhaseTwo (tableau m n b) c k i
    quotients_agree k i kl il = ap₂ ◌/ℚ◌ (same i k il kl) (same i c il low)

    leaving_agrees : leaving PhaseTwo (tableau m n a) c ≡ leaving PhaseTwo (tableau m n b) c
    leaving_agrees =
        ap (λ rows. slice_index rows 0) (refined_agrees (λ i. i ≢ m) (λ k. k ≢ n + m) (compared PhaseTwo (tableau m n a) c) (compared PhaseTwo (tableau m n b) c) (keys (tableau m n a)) (candidates PhaseTwo (tableau m n a) c) keys_in candidates_in quotients_agree
        ∙ ap (refined (compared PhaseTwo (tableau m n b) c) (keys (tableau m n a))) candidates_agree)

    chosen_agrees : chosen_row PhaseTwo (tableau m n a) c (candidates PhaseTwo (tableau m n a) c) ≡ chosen_row PhaseTwo (tableau m n b) c (candidates PhaseTwo (tableau m n b) c)
    chosen_agrees = by (candidates PhaseTwo (tableau m n a) c) ∙ ap (chosen_row PhaseTwo (tableau m n b) c) candidates_agree where
      by : (rows : List ℕ) → chosen_row PhaseTwo (tableau m n a) c rows ≡ chosen_row PhaseTwo (tableau m n b) c rows
      by [] = refl
      by (i ∷ rows) = ap (λ r. PivotOn r c) leaving_agrees

    -- ---- the ratio test

    stop_agrees : (limit : Option ℕ) (k i : ℕ) → k ≢ n + m → i ≢ m → quotient_stop limit PhaseTwo (tableau m n a) c k i ≡ quotient_stop limit PhaseTwo (tableau m n b) c k i
    stop_agrees limit k i kl il = ap₂ (λ x y. place_unless (fits_at limit (λ w. fits_div w x y)) (record { step = Ratio; row = i; column = k })) (same i k il kl) (same i c il low)

    ratio_agrees : (limit : Option ℕ) (ks rows : List ℕ) → Each (λ k. k ≢ n + m) ks → Each (λ i. i ≢ m) rows → ratio_stop limit PhaseTwo (tableau m n a) c ks rows ≡ ratio_stop limit PhaseTwo (tableau m n b) c ks rows
    ratio_agrees limit ks [] hk h = refl
    ratio_agrees limit ks (i ∷ []) hk h = refl
    ratio_agrees limit [] (i ∷ j ∷ rows) hk h = refl
    ratio_agrees limit (k ∷ ks) (i ∷ j ∷ rows) hk h =
        ap₂ or_else (first_row_agrees (λ i. i ≢ m) (quotient_stop limit PhaseTwo (tableau m n a) c k) (quotient_stop limit PhaseTwo (tableau m n b) c k) (i ∷ j ∷ rows) h (λ x l. stop_agrees limit k x hk.0 l))
        (ratio_agrees limit ks (least_rows (compared PhaseTwo (tableau m n a) c k) (i ∷ j ∷ rows)) hk.1 (each_least (λ i. i ≢ m) (compared PhaseTwo (tableau m n a) c k) (i ∷ j ∷ rows) h)
        ∙ ap (ratio_stop limit PhaseTwo (tableau m n b) c ks) (least_agree (λ i. i ≢ m) (compared PhaseTwo (tableau m n a) c k) (compared PhaseTwo (tableau m n b) c k) (i ∷ j ∷ rows) h (λ x l. quotients_agree k x hk.0 l)))

    -- ---- the replacement

    module _ (limit : Option ℕ) (r : ℕ) (inside : r ≢ m) where
      divided_agrees : (j : ℕ) → j ≢ n + m → divided_cell (tableau m n a) r c j ≡ divided_cell (tableau m n b) r c j
      divided_agrees j jl = ap₂ ◌/ℚ◌ (same r j inside jl) (same r c inside low)

      column_agrees : (j : ℕ) (x y : Bool) → (j ≢ n + m → x ≡ y) → cond (not (nat_eq j (n + m))) (column_unless x j) None ≡ cond (not (nat_eq j (n + m))) (column_unless y j) None
      column_agrees j x y h = elim (cases_eq j (n + m)) [
        | inl is ↦ (let yes : nat_eq j (n + m) ≡ true = eq-eqb j (n + m) is in rw yes refl)
        | inr apart ↦ ap (λ z. cond (not (nat_eq j (n + m))) (column_unless z j) None) (h apart)
      ]

      division_agrees : division_stop limit PhaseTwo (tableau m n a) r c ≡ division_stop limit PhaseTwo (tableau m n b) r c
      division_agrees =
          let f : List (List Rational) → ℕ → Bool = λ d j. fits_at limit (λ w. fits_div w (cell (tableau m n d) r j) (cell (tableau m n d) r c)) in
          ap (in_row r) (first_below_same (λ j. cond (not (nat_eq j (n + m))) (column_unless (f a j) j) None) (λ j. cond (not (nat_eq j (n + m))) (column_unless (f b j) j) None) (n + m + 2) (λ j l.
          column_agrees j (f a j) (f b j) (λ jl. ap₂ (λ x y. fits_at limit (λ w. fits_div w x y)) (same r j inside jl) (same r c inside low))))

      row_agrees : (i : ℕ) → i ≢ m → row_stop limit PhaseTwo (tableau m n a) r c i ≡ row_stop limit PhaseTwo (tableau m n b) r c i
      row_agrees i il =
          let f : List (List Rational) → ℕ → Bool = λ d j. fits_at limit (λ w. fits_less_product w (cell (tableau m n d) i j) (cell (tableau m n d) i c) (divided_cell (tableau m n d) r c j)) in
          ap (in_row i) (first_below_same (λ j. cond (not (nat_eq j (n + m))) (column_unless (f a j) j) None) (λ j. cond (not (nat_eq j (n + m))) (column_unless (f b j) j) None) (n + m + 2) (λ j l.
          column_agrees j (f a j) (f b j) (λ jl.
          ap₂ (λ x y. fits_at limit (λ w. fits_less_product w x y (divided_cell (tableau m n a) r c j))) (same i j il jl) (same i c il low)
          ∙ ap (λ z. fits_at limit (λ w. fits_less_product w (cell (tableau m n b) i j) (cell (tableau m n b) i c) z)) (divided_agrees j jl))))

      rows_agree : (i : ℕ) → cond (not (nat_eq i m) && not (nat_eq i r)) (row_stop limit PhaseTwo (tableau m n a) r c i) None ≡ cond (not (nat_eq i m) && not (nat_eq i r)) (row_stop limit PhaseTwo (tableau m n b) r c i) None
      rows_agree i = elim (cases_eq i m) [
        | inl is ↦ (let yes : nat_eq i m ≡ true = eq-eqb i m is in rw yes refl)
        | inr apart ↦ ap (λ z. cond (not (nat_eq i m) && not (nat_eq i r)) z None) (row_agrees i apart)
      ]

      first_stop_agrees : first_stop limit PhaseTwo (tableau m n a) r c ≡ first_stop limit PhaseTwo (tableau m n b) r c
      first_stop_agrees =
          ap₂ or_else
          (ratio_agrees limit (keys (tableau m n a)) (candidates PhaseTwo (tableau m n a) c) keys_in candidates_in ∙ ap (ratio_stop limit PhaseTwo (tableau m n b) c (keys (tableau m n a))) candidates_agree)
          (ap₂ or_else division_agrees
          (first_below_same (λ i. cond (not (nat_eq i m) && not (nat_eq i r)) (row_stop limit PhaseTwo (tableau m n a) r c i) None) (λ i. cond (not (nat_eq i m) && not (nat_eq i r)) (row_stop limit PhaseTwo (tableau m n b) r c i) None) (m + 2) (λ i l. rows_agree i)))

      pivoted_agree : Agree m n (pivoted (tableau m n a) r c).cells (pivoted (tableau m n b) r c).cells
      pivoted_agree i j il jl = table_agrees (m + 2) (n + m + 2) (pivoted_cell (tableau m n a) r c) (pivoted_cell (tableau m n b) r c) i j
          (ap₂ (λ x y. cond (nat_eq i r) x (cell (tableau m n a) i j -ℚ cell (tableau m n a) i c *ℚ y)) (divided_agrees j jl) (divided_agrees j jl)
          ∙ ap₂ (λ x y. cond (nat_eq i r) (divided_cell (tableau m n b) r c j) (x -ℚ y *ℚ divided_cell (tableau m n b) r c j)) (same i j il jl) (same i c il low))

  -- ---- the end

  module _ (basis : List ℕ) (size : length basis ≤ m) where
    basic_agrees : (f g : ℕ → Rational) (j : ℕ) → ((i : ℕ) → i ≢ m → f i ≡ g i) → basic_value f (basic_row basis j) ≡ basic_value g (basic_row basis j)
    basic_agrees f g j h = by (basic_row basis j) refl where
      by : (o : Option ℕ) → basic_row basis j ≡ o → basic_value f o ≡ basic_value g o
      by None e = refl
      by (Some i) e =
          let found : (k : ℕ) × (k < length basis) × (cond (nat_eq (slice_index basis k) j) (Some k) None ≡ Some i) = first_found (λ k. cond (nat_eq (slice_index basis k) j) (Some k) None) (length basis) i e in
          let here = (some_if (nat_eq (slice_index basis found.0) j) found.0 i found.2).1 in
          h i (λ is. omega (arith, is, size, here, found.1))

    optimal_agrees : (made : ℕ) → no_column PhaseTwo (tableau m n a) basis made ≡ no_column PhaseTwo (tableau m n b) basis made
    optimal_agrees made =
        let right : (n + m + 1) ≢ n + m = λ e. omega (arith, e) in
        let goal : m + 1 ≢ m = λ e. omega (arith, e) in
        ap₂ (λ x y. Optimal x y (value (tableau m n a)) made)
        (map_range_same (λ j. basic_value (λ i. cell (tableau m n a) i (n + m + 1)) (basic_row basis j)) (λ j. basic_value (λ i. cell (tableau m n b) i (n + m + 1)) (basic_row basis j)) 0 n (λ j l h.
        basic_agrees (λ i. cell (tableau m n a) i (n + m + 1)) (λ i. cell (tableau m n b) i (n + m + 1)) j (λ i il. same i (n + m + 1) il right)))
        (map_range_same (λ k. negative (cell (tableau m n a) (m + 1) (n + k))) (λ k. negative (cell (tableau m n b) (m + 1) (n + k))) 0 m (λ k l h.
        ap negative (same (m + 1) (n + k) goal (λ e. omega (arith, e, h)))))
        ∙ ap (λ v. Optimal (point (tableau m n b) basis) (multipliers (tableau m n b) (m + 1)) v made) (ap negative (same (m + 1) (n + m + 1) goal right))

    unbounded_agrees : (c made : ℕ) → c ≢ n + m → no_row (tableau m n a) basis c made ≡ no_row (tableau m n b) basis c made
    unbounded_agrees c made low = ap (λ d. Unbounded d made) (map_range_same (ray_value (tableau m n a) basis c) (ray_value (tableau m n b) basis c) 0 n (λ j l h.
        ap (cond (nat_eq j c) one_ℚ) (basic_agrees (λ i. negative (cell (tableau m n a) i c)) (λ i. negative (cell (tableau m n b) i c)) j (λ i il. ap negative (same i c il low)))))

-- ---- the run

abbrev state : ℕ → ℕ → List (List Rational) → List ℕ → State
state m n a basis = record { stage = PhaseTwo; tableau = tableau m n a; basis = basis }

module _ (m n : ℕ) (a b : List (List Rational)) (same : Agree m n a b) (basis : List ℕ) (size : length basis ≤ m) where
  column_low : (c : ℕ) → entering PhaseTwo (tableau m n a) ≡ Some c → c ≢ n + m
  column_low c e is = let low = (one_rises (tableau m n a) m n refl refl (m + 1) c e).0 in omega (arith, is, low)

  next_agrees : next (state m n a basis) ≡ next (state m n b basis)
  next_agrees = by (entering PhaseTwo (tableau m n a)) refl ∙ ap (chosen_column PhaseTwo (tableau m n b)) (entering_agrees m n a b same) where
    by : (o : Option ℕ) → entering PhaseTwo (tableau m n a) ≡ o → chosen_column PhaseTwo (tableau m n a) o ≡ chosen_column PhaseTwo (tableau m n b) o
    by None e = refl
    by (Some c) e = chosen_agrees m n a b same c (column_low c e)

  ends_agree : (made c : ℕ) → next (state m n a basis) ≡ NoRow c → no_row (tableau m n a) basis c made ≡ no_row (tableau m n b) basis c made
  ends_agree made c e = unbounded_agrees m n a b same basis size c made (column_low c (no_row_leaves (state m n a basis) c e).0)

  finished_agrees : (made : ℕ) (k : Next) → next (state m n a basis) ≡ k → finished (state m n a basis) made k ≡ finished (state m n b basis) made k
  finished_agrees made (PivotOn r c) e = refl
  finished_agrees made NoColumn e = optimal_agrees m n a b same basis size made
  finished_agrees made (NoRow c) e = ends_agree made c e

  row_inside : (r c : ℕ) → next (state m n a basis) ≡ PivotOn r c → r ≢ m
  row_inside r c e is =
      let chosen = pivot_chosen (state m n a basis) r c e in
      let low = (leaving_entry PhaseTwo (tableau m n a) c (λ e. cc) chosen.some).0 in
      omega (arith, is, chosen.row, low)

  turned_agrees : (limit : Option ℕ) (made : ℕ) (rest : State → Outcome) → ((x y : List (List Rational)) (d : List ℕ) → Agree m n x y → length d ≤ m → rest (state m n x d) ≡ rest (state m n y d))
      → (k : Next) → next (state m n a basis) ≡ k → turned limit (state m n a basis) made rest k ≡ turned limit (state m n b basis) made rest k
  turned_agrees limit made rest h NoColumn e = optimal_agrees m n a b same basis size made
  turned_agrees limit made rest h (NoRow c) e = ends_agree made c e
  turned_agrees limit made rest h (PivotOn r c) e =
      let low = column_low c (pivot_chosen (state m n a basis) r c e).column in
      let inside = row_inside r c e in
      let long : length (set basis r c) ≡ length basis = length-set basis r c in
      ap₂ (stepped made) (first_stop_agrees m n a b same c low limit r inside)
      (h (pivoted (tableau m n a) r c).cells (pivoted (tableau m n b) r c).cells (set basis r c) (pivoted_agree m n a b same c low limit r inside) (omega (arith, long, size)))

run_agrees : (m n : ℕ) (limit : Option ℕ) (left made : ℕ) (a b : List (List Rational)) (basis : List ℕ) → Agree m n a b → length basis ≤ m → run_from limit left made (state m n a basis) ≡ run_from limit left made (state m n b basis)
run_agrees m n limit zero made a b basis same size =
    finished_agrees m n a b same basis size made (next (state m n a basis)) refl ∙ ap (finished (state m n b basis) made) (next_agrees m n a b same basis size)
run_agrees m n limit (suc left) made a b basis same size =
    turned_agrees m n a b same basis size limit made (run_from limit left (made + 1)) (λ x y d agree long. run_agrees m n limit left (made + 1) x y d agree long) (next (state m n a basis)) refl
    ∙ ap (turned limit (state m n b basis) made (run_from limit left (made + 1))) (next_agrees m n a b same basis size)

-- whatever these places hold, phase two ends in the same way
pub unread : (t u : Tableau) → AgreeWithoutExtra t u → HaveSameRuns t u
unread t u same limit left made basis size =
    run_agrees t.rows t.columns limit left made t.cells u.cells basis (λ i j il jl. same.cells i j il jl) size
    ∙ ap₂ (λ m n. run_from limit left made (state m n u.cells basis)) same.rows same.columns
