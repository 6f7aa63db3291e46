-- The bases of a run: they differ, so there are at most as many as sets of columns, and a run has fewer pivots.
use Rattle.std.proofs.Common.{◌≡◌, ℕ, zero, suc, ◌+◌, ◌<◌, ◌≤◌, List, [], ◌∷◌, length, get_or, slice_index, All, Option, Some, None, arith, ap, sym, ◌∙◌, refl, subst}
use Rattle.std.specs.List.{range_with_len}
use Rattle.std.proofs.lemmas.List.{get_or_default}
use Rattle.std.proofs.lemmas.List.Elements.{All-cons}
use Rattle.std.proofs.lemmas.List.FromFn.{length-range_with_len, get_or-range_with_len}
use Rattle.std.proofs.lemmas.List.Kept.{AllPairs-cons}
use Rattle.npp_frac.specs.Rational.{Rational}
use Rattle.npp_lp.specs.Programs.{LinearProgram}
use Rattle.npp_simplex.specs.declared.place.Place.{Place}
use Rattle.npp_simplex.specs.declared.stage.Stage.{Stage}
use Rattle.npp_simplex.specs.declared.stage.Stage.TheVariants.{Entry, PhaseOne, PhaseTwo}
use Rattle.npp_simplex.specs.Tableau.{Tableau, cell}
use Rattle.npp_simplex.specs.Places.{first_stop}
use Rattle.npp_simplex.specs.Run.{State, Next, PivotOn, NoColumn, NoRow, next, state_after, Outcome, no_column, finished, stepped, turned, run_from, first_state, run}
use Rattle.npp_simplex.specs.Bases.{after_pivot, bases_from, AreSameColumns, AreAllDifferent, bases, basis_count, HasFewerPivots}
use Rattle.npp_simplex.proofs.BasesDiffer.{IsLater, next_is_later, later_trans, later_differ}
use Rattle.npp_simplex.proofs.Counting.{AreSome, few_bases}
use Rattle.npp_simplex.proofs.Directions.{basis_different}
use Rattle.npp_simplex.proofs.Invariant.{AreRows}
use Rattle.npp_simplex.proofs.Reached.{IsReachedAt, IsReached, first_cell_without}
use Rattle.npp_simplex.proofs.ReachedFirst.{reached_first}
use Rattle.npp_simplex.proofs.ReachedNext.{reached_next}

-- ---- what holds of each basis of a run

module _ (Q : State → Type 0) (P : List ℕ → Type 0) (here : (y : State) → Q y → P y.basis) (kept : (y : State) (r c : ℕ) → Q y → next y ≡ PivotOn r c → Q (state_after y r c)) where
  all_after : (y : State) (rest : State → List (List ℕ)) (n : Next) → next y ≡ n → Q y → ((z : State) → Q z → All P (rest z)) → All P (after_pivot y rest n)
  all_after y rest (PivotOn r c) e q h = h (state_after y r c) (kept y r c q e)
  all_after y rest NoColumn e q h = λ k d l. absurd (omega arith)
  all_after y rest (NoRow c) e q h = λ k d l. absurd (omega arith)

  pub bases_all : (left : ℕ) (y : State) → Q y → All P (bases_from left y)
  bases_all zero y q = All-cons P y.basis [] (here y q) (λ k d l. absurd (omega arith))
  bases_all (suc left) y q = All-cons P y.basis (after_pivot y (bases_from left) (next y)) (here y q) (all_after y (bases_from left) (next y) refl q (bases_all left))

module _ (p : LinearProgram) where
  others_differ : (left : ℕ) (x y : State) → IsReached p x → IsReached p y → IsLater p x y → All (λ b. AreSameColumns x.basis b → ⊥) (bases_from left y)
  others_differ left x y of_x of_y later =
      bases_all (λ z. IsReached p z × IsLater p x z) (λ b. AreSameColumns x.basis b → ⊥)
      (λ z q. later_differ p x z of_x q.0 q.1)
      (λ z r c q e. (reached_next p z r c q.0 e, later_trans p x z (state_after z r c) q.1 (next_is_later p z r c q.0 e)))
      left y (of_y, later)

  differ_after : (x : State) (left : ℕ) (n : Next) → next x ≡ n → IsReached p x → ((y : State) → IsReached p y → AreAllDifferent (bases_from left y)) → AreAllDifferent (x.basis ∷ after_pivot x (bases_from left) n)
  differ_after x left (PivotOn r c) e reached h =
      let y = state_after x r c in
      let of_y = reached_next p x r c reached e in
      AllPairs-cons (λ xs ys. AreSameColumns xs ys → ⊥) x.basis (bases_from left y) (others_differ left x y reached of_y (next_is_later p x r c reached e)) (h y of_y)
  differ_after x left NoColumn e reached h = λ i j d l k. absurd (omega arith)
  differ_after x left (NoRow c) e reached h = λ i j d l k. absurd (omega arith)

  -- no two bases of a run have the same columns
  pub bases_differ : (left : ℕ) (x : State) → IsReached p x → AreAllDifferent (bases_from left x)
  bases_differ zero x reached = λ i j d l k. absurd (omega arith)
  bases_differ (suc left) x reached = differ_after x left (next x) refl reached (bases_differ left)

-- ---- a basis is a set of columns

some_of_slacks : (m n : ℕ) → AreSome m (n + m + 1) (range_with_len n m)
some_of_slacks m n =
    let size : length (range_with_len n m) ≡ m = length-range_with_len n m in
    record {
      many = size;
      different = λ i j d l k e. (
          let low : get_or (range_with_len n m) i d ≡ n + i = get_or-range_with_len n m i d (omega arith) in
          let high : get_or (range_with_len n m) j d ≡ n + j = get_or-range_with_len n m j d (omega arith) in
          omega arith);
      below = λ k d l. (let here : get_or (range_with_len n m) k d ≡ n + k = get_or-range_with_len n m k d (omega arith) in omega arith);
    }

some_of_rows : (m n : ℕ) (first e : ℕ → ℕ → Rational) (basis : List ℕ) → length basis ≡ m → AreRows m n first e (slice_index basis) → AreSome m (n + m + 1) basis
some_of_rows m n first e basis size rows = record {
  many = size;
  different = λ i j d l k same. (
      let e : i ≡ j = basis_different m n first e (slice_index basis) rows i j (omega arith) (omega arith) (get_or_default basis i 0 d (omega arith) ∙ same ∙ get_or_default basis j d 0 k) in
      omega arith);
  below = λ k d l. subst (λ c. c < n + m + 1) (get_or_default basis k 0 d l) (rows.in_range k (omega arith));
}

module _ (p : LinearProgram) where
  some_at : (s : Stage) (t : Tableau) (basis : List ℕ) → IsReachedAt p s t basis → AreSome (length p.rows) (p.columns + length p.rows + 1) basis
  some_at Entry t basis x = subst (AreSome (length p.rows) (p.columns + length p.rows + 1)) (sym x.slacks) (some_of_slacks (length p.rows) p.columns)
  some_at PhaseOne t basis x = some_of_rows (length p.rows) p.columns _ (cell t) basis x.sizes.basic x.rows
  some_at PhaseTwo t basis x = some_of_rows (length p.rows) p.columns (first_cell_without p) (cell t) basis x.sizes.basic x.rows

  pub few_bases_from : (left : ℕ) (x : State) → IsReached p x → length (bases_from left x) ≤ basis_count p
  few_bases_from left x reached =
      few_bases (length p.rows) (p.columns + length p.rows + 1) (bases_from left x)
      (bases_all (IsReached p) (AreSome (length p.rows) (p.columns + length p.rows + 1)) (λ y q. some_at y.stage y.tableau y.basis q) (λ y r c q e. reached_next p y r c q e) left x reached)
      (bases_differ p left x reached)

-- ---- how many pivots an outcome has

module _ (limit : Option ℕ) (count : ℕ) where
  -- with so many pivots made before, the bases from here on and those that went before are not too many
  abbrev IsRoom : ℕ → State → Type 0
  IsRoom made x = (k : ℕ) → length (bases_from k x) + made ≤ count

  fewer_without_column : (s : Stage) (t : Tableau) (basis : List ℕ) (made bound : ℕ) → made < count → HasFewerPivots count bound (no_column s t basis made)
  fewer_without_column Entry t basis made bound l = l
  fewer_without_column PhaseOne t basis made bound l = l
  fewer_without_column PhaseTwo t basis made bound l = l

  none_made : (made : ℕ) (x : State) → IsRoom made x → made < count
  none_made made x room = let one : 1 + made ≤ count = room 0 in omega arith

  -- a further pivot makes one more basis
  room_after : (made : ℕ) (x : State) (r c : ℕ) → next x ≡ PivotOn r c → IsRoom made x → IsRoom (made + 1) (state_after x r c)
  room_after made x r c e room k =
      let more : suc (length (after_pivot x (bases_from k) (next x))) + made ≤ count = room (suc k) in
      let same : length (after_pivot x (bases_from k) (next x)) ≡ length (bases_from k (state_after x r c)) = ap (λ n. length (after_pivot x (bases_from k) n)) e in
      omega arith

  fewer_finished : (x : State) (made : ℕ) (n : Next) → next x ≡ n → IsRoom made x → HasFewerPivots count made (finished x made n)
  fewer_finished x made (PivotOn r c) e room = let one : 1 + (made + 1) ≤ count = room_after made x r c e room 0 in omega arith
  fewer_finished x made NoColumn e room = fewer_without_column x.stage x.tableau x.basis made made (none_made made x room)
  fewer_finished x made (NoRow c) e room = none_made made x room

  fewer_stepped : (made bound : ℕ) (stop : Option Place) (rest : Outcome) → made + 1 < count → HasFewerPivots count bound rest → HasFewerPivots count bound (stepped made stop rest)
  fewer_stepped made bound None rest l h = h
  fewer_stepped made bound (Some place) rest l h = l

  fewer_turned : (x : State) (made bound : ℕ) (rest : State → Outcome) (n : Next) → next x ≡ n → IsRoom made x → ((y : State) → IsRoom (made + 1) y → HasFewerPivots count bound (rest y)) → HasFewerPivots count bound (turned limit x made rest n)
  fewer_turned x made bound rest (PivotOn r c) e room h =
      let after = room_after made x r c e room in
      fewer_stepped made bound (first_stop limit x.stage x.tableau r c) (rest (state_after x r c)) (none_made (made + 1) (state_after x r c) after) (h (state_after x r c) after)
  fewer_turned x made bound rest NoColumn e room h = fewer_without_column x.stage x.tableau x.basis made bound (none_made made x room)
  fewer_turned x made bound rest (NoRow c) e room h = none_made made x room

  pub fewer_from : (left made : ℕ) (x : State) → IsRoom made x → HasFewerPivots count (left + made) (run_from limit left made x)
  fewer_from zero made x room =
      let all : made ≡ 0 + made = omega arith in
      subst (λ c. HasFewerPivots count c (run_from limit 0 made x)) all (fewer_finished x made (next x) refl room)
  fewer_from (suc left) made x room =
      fewer_turned x made (suc left + made) (λ y. run_from limit left (made + 1) y) (next x) refl room
      (λ y after. (let same : left + (made + 1) ≡ suc left + made = omega arith in subst (λ c. HasFewerPivots count c (run_from limit left (made + 1) y)) same (fewer_from left (made + 1) y after)))

-- ---- the run of a program

pub bases_of_run : (p : LinearProgram) (pivots : ℕ) → AreAllDifferent (bases p pivots)
bases_of_run p pivots = bases_differ p pivots (first_state p) (reached_first p)

pub fewer_in_run : (p : LinearProgram) (limit : Option ℕ) (bound : ℕ) → HasFewerPivots (basis_count p) bound (run limit bound p)
fewer_in_run p limit bound =
    let all : bound + 0 ≡ bound = omega arith in
    subst (λ c. HasFewerPivots (basis_count p) c (run limit bound p)) all
    (fewer_from limit (basis_count p) bound 0 (first_state p) (λ k. (let few : length (bases_from k (first_state p)) ≤ basis_count p = few_bases_from p k (first_state p) (reached_first p) in omega arith)))
