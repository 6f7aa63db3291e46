-- What the tables and answers of the code stand for, over the rational numbers. `value` says what a number stands for.
use Rattle.std.specs.Prelude.{◌≡◌, ◌≢◌, ℕ, ◌<◌, List, length, map, slice_index, not, All}
use Rattle.std.specs.List.{range_with_len, filter}
use Rattle.npp_frac.specs.Rational.{Rational, zero_ℚ, is_less, ◌≤ℚ◌}
use Rattle.npp_lp.specs.Programs.{at}
use Rattle.npp_simplex.specs.declared.answer.Answer.{Answer}
use Rattle.npp_simplex.specs.declared.answer.Answer.TheVariants as answer
use Rattle.npp_simplex.specs.Tableau.{Tableau, cell}
use Rattle.npp_simplex.specs.Run.{Outcome, Optimal, Infeasible, Unbounded, Overflow, Capped}

-- a row of the program whose entry in column c can be divided by
pub record IsCandidate (t : Tableau) (c i : ℕ) : Type 0 where
  pub row : i < t.rows
  pub entry : cell t i c ≢ zero_ℚ

abbrev pub AreCandidates : Tableau → ℕ → List ℕ → Type 0
AreCandidates t c rows = All (IsCandidate t c) rows

-- one of some numbers, and not above any of them
pub record IsLeastOf (xs : List Rational) (q : Rational) : Type 0 where
  pub attained : (k : ℕ) × (k < length xs) × (at xs k ≡ q)
  pub bound : (k : ℕ) → k < length xs → q ≤ℚ at xs k

-- those rows whose number is not above q
abbrev pub rows_up_to : Rational → List Rational → List ℕ → List ℕ
rows_up_to q xs rows = map (slice_index rows) (filter (λ k. not (is_less q (at xs k))) (range_with_len 0 (length rows)))

-- what an answer says
abbrev pub outcome_of : {N : Type 0} → (N → Rational) → Answer N → Outcome
outcome_of value (answer.Optimal x y v k) = Optimal (map value x.items) (map value y.items) (value v) k
outcome_of value (answer.Infeasible y k) = Infeasible (map value y.items) k
outcome_of value (answer.Unbounded d k) = Unbounded (map value d.items) k
outcome_of value (answer.Overflow k place) = Overflow k place
outcome_of value answer.Capped = Capped
