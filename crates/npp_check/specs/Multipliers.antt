-- The multipliers of a node, and what they prove of its program.
use Rattle.std.specs.Prelude.{ℕ, not, List, Result, Ok, Err}
use Rattle.npp_frac.specs.Rational.{Rational, zero_ℚ, is_less}
use Rattle.npp_lp.specs.declared.faults.DualFault.{DualFault}
use Rattle.npp_lp.specs.declared.faults.DualFault.TheVariants as dual
use Rattle.npp_lp.specs.declared.faults.FarkasFault.{FarkasFault}
use Rattle.npp_lp.specs.declared.faults.FarkasFault.TheVariants as farkas
use Rattle.npp_lp.specs.DualVerdict.{dual_verdict}
use Rattle.npp_lp.specs.FarkasVerdict.{farkas_verdict}
use Rattle.npp_rows.specs.declared.names.Multiplier.{Multiplier}
use Rattle.npp_rows.specs.Named.{NamedProgram, numbered}
use Rattle.npp_rows.specs.RowOrder.{has_row, multipliers_of}
use Rattle.npp_rows.specs.Taken.{last_row, is_after}
use Rattle.npp_tree.specs.declared.item.Item.{Item}
use Rattle.npp_tree.specs.declared.item.Item.TheVariants as item
use Rattle.npp_tree.specs.Bounds.{BoundValue, Empty, At}
use Rattle.npp_check.specs.declared.refusal.Rule.{Rule}
use Rattle.npp_check.specs.declared.refusal.Rule.TheVariants.{Order, Evidence, Overflow}
use Rattle.npp_check.specs.Rules.{broken_if}

-- a multiplier above 0 of a row of the program, behind those above it
abbrev pub multiplier_line : NamedProgram → List (Multiplier Rational) → Item Rational → Result (Multiplier Rational) Rule
multiplier_line p above (item.Mult y) =
    broken_if (not (has_row p.rows y.row)) Evidence
    (broken_if (not (is_after (last_row above) y.row)) Evidence
    (broken_if (not (is_less zero_ℚ y.value)) Evidence
    (Ok y)))
multiplier_line p above other = Err Order

-- the value of a dual answer; a sum that does not fit breaks Overflow, and what is no dual answer Evidence
abbrev pub dual_value : Result Rational (DualFault Rational) → Result BoundValue Rule
dual_value (Ok v) = Ok (At v)
dual_value (Err (dual.Overflow o)) = Err Overflow
dual_value (Err other) = Err Evidence

-- with a Farkas answer the node has no outcome
abbrev pub farkas_value : Result (Unit {0}) (FarkasFault Rational) → Result BoundValue Rule
farkas_value (Ok _) = Ok Empty
farkas_value (Err (farkas.Overflow o)) = Err Overflow
farkas_value (Err other) = Err Evidence

-- what the multipliers prove as a dual answer, with 0 for every other row
abbrev pub dual_proof : ℕ → NamedProgram → List (Multiplier Rational) → Result BoundValue Rule
dual_proof limit p ys = dual_value (dual_verdict limit (numbered p) (multipliers_of p.rows ys))

-- what they prove as a Farkas answer
abbrev pub farkas_proof : ℕ → NamedProgram → List (Multiplier Rational) → Result BoundValue Rule
farkas_proof limit p ys = farkas_value (farkas_verdict limit (numbered p) (multipliers_of p.rows ys))
