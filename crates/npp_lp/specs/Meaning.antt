-- What the programs and answers of the code stand for, over the rational numbers. `value` says what a number stands for.
use Rattle.std.specs.Prelude.{◌≡◌, ◌+◌, ◌^◌, ◌<◌, List, length, map, All, Result}
use Rattle.std.specs.Result.{result_map_both}
use Rattle.npp_frac.specs.Rational.{Rational}
use Rattle.npp_frac.specs.declared.refusal.Overflow.{Overflow as Stop}
use Rattle.npp_lp.specs.declared.program.Entry.{Entry}
use Rattle.npp_lp.specs.ProgramOver.{RowOver, ProgramOver}
use Rattle.npp_lp.specs.declared.faults.DualFault.{DualFault}
use Rattle.npp_lp.specs.declared.faults.DualFault.TheVariants as dual
use Rattle.npp_lp.specs.declared.faults.FarkasFault.{FarkasFault}
use Rattle.npp_lp.specs.declared.faults.FarkasFault.TheVariants as farkas
use Rattle.npp_lp.specs.declared.faults.PrimalFault.{PrimalFault}
use Rattle.npp_lp.specs.declared.faults.PrimalFault.TheVariants as primal
use Rattle.npp_lp.specs.Programs.{Term, Row, LinearProgram, AreTerms}

abbrev pub term_of : {N : Type 0} → (N → Rational) → Entry N → Term
term_of value e = record { column = e.column; value = value e.value }

abbrev pub terms_of : {N : Type 0} → (N → Rational) → List (Entry N) → List Term
terms_of value entries = map (term_of value) entries

abbrev pub row_meant : {N : Type 0} → (N → Rational) → RowOver N → Row
row_meant value r = record { terms = terms_of value r.entries; right = value r.right }

abbrev pub linear_program : {N : Type 0} → (N → Rational) → ProgramOver N → LinearProgram
linear_program value p = record {
  columns = p.columns;
  rows = map (row_meant value) p.rows;
  goal = map value p.goal;
}

-- the form of a program: its entries stand in order and none is 0, its goal has a number for each column, and its rows
-- and columns together can be numbered
pub record IsProgram {N : Type 0} (value : N → Rational) (p : ProgramOver N) : Type 0 where
  pub rows : All (λ r. AreTerms p.columns r.terms) (linear_program value p).rows
  pub goal : length p.goal ≡ p.columns
  pub numbered : p.columns + length p.rows < 2 ^ 31

abbrev pub overflow_of : {N : Type 0} → (N → Rational) → Stop N → Stop Rational
overflow_of value o = record { op = o.op; left = value o.left; right = value o.right }

abbrev pub dual_fault : {N : Type 0} → (N → Rational) → DualFault N → DualFault Rational
dual_fault value (dual.NegativeRow i) = dual.NegativeRow i
dual_fault value (dual.Column j) = dual.Column j
dual_fault value (dual.Overflow o) = dual.Overflow (overflow_of value o)

abbrev pub farkas_fault : {N : Type 0} → (N → Rational) → FarkasFault N → FarkasFault Rational
farkas_fault value (farkas.NegativeRow i) = farkas.NegativeRow i
farkas_fault value (farkas.Column j) = farkas.Column j
farkas_fault value farkas.NotBelowZero = farkas.NotBelowZero
farkas_fault value (farkas.Overflow o) = farkas.Overflow (overflow_of value o)

abbrev pub primal_fault : {N : Type 0} → (N → Rational) → PrimalFault N → PrimalFault Rational
primal_fault value (primal.NegativeColumn j) = primal.NegativeColumn j
primal_fault value (primal.Row i) = primal.Row i
primal_fault value (primal.Overflow o) = primal.Overflow (overflow_of value o)

-- the result of a sum
abbrev pub sum_result : {N : Type 0} → (N → Rational) → Result N (Stop N) → Result Rational (Stop Rational)
sum_result value r = result_map_both value (overflow_of value) r

-- the result of a check of a dual answer
abbrev pub dual_result : {N : Type 0} → (N → Rational) → Result N (DualFault N) → Result Rational (DualFault Rational)
dual_result value r = result_map_both value (dual_fault value) r

-- the result of a check of a Farkas answer
abbrev pub farkas_result : {N : Type 0} → (N → Rational) → Result (Unit {0}) (FarkasFault N) → Result (Unit {0}) (FarkasFault Rational)
farkas_result value r = result_map_both (λ u. u) (farkas_fault value) r

-- the result of a check of a point
abbrev pub primal_result : {N : Type 0} → (N → Rational) → Result N (PrimalFault N) → Result Rational (PrimalFault Rational)
primal_result value r = result_map_both value (primal_fault value) r
