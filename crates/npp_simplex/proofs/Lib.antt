-- ---- numbers, sums and the first of some places
pub mod NumberLaws
pub mod Zeros
pub mod Sums
pub mod DoubleSums
pub mod FirstPlaces
pub mod Gathering
-- ---- the code's table against the tableau of the run
pub mod Tables
pub mod Grids
pub mod Changing
pub mod Reading
pub mod Lines
pub mod Rows
pub mod Starting
pub mod Comparing
pub mod Refining
pub mod Passing
pub mod RowPairs
pub mod WordPairs
pub mod Nonzero
pub mod WordRows
pub mod CommonForms
pub mod LineForms
pub mod WordForms
pub mod LongNumbers
pub mod LinePivots
pub mod Eliminating
pub mod Pivoting
pub mod Clearing
pub mod StageStops
pub mod Ready
pub mod Turning
-- ---- phase two without the parts of phase one
pub mod Agreeing
pub mod Unread
-- ---- what a pivot keeps of the rows
pub mod Invariant
pub mod CellLaws
pub mod FirstCells
pub mod KeptRows
pub mod RowTurns
pub mod RowStarts
-- ---- the lexicographic order
pub mod LexLemmas
pub mod KeyNumbers
pub mod RatioLemmas
pub mod LexTurns
pub mod LexStarts
-- ---- what holds of each state of a run
pub mod Choices
pub mod Reached
pub mod PhaseSteps
pub mod ReachedFirst
pub mod ReachedNext
-- ---- what an outcome proves
pub mod VectorLemmas
pub mod WeightSums
pub mod Directions
pub mod Multipliers
pub mod PhaseTwo
pub mod Optimality
pub mod Infeasibility
pub mod Rays
pub mod RunLemmas
-- ---- no basis twice
pub mod SameBasis
pub mod Counting
pub mod BasesDiffer
pub mod RunBases
