use Rattle.npp_rows.specs.Inverse.{inverse}
use Rattle.npp_rows.proofs.ProgramLaws.{HasRows}
use Rattle.npp_rows.proofs.choice.build.Given as goal

abbrev pub invariant-loop-row : goal.invariant-loop-row
invariant-loop-row g l = HasRows g.N.Exact.rational (inverse l.table l.choice) l.program l.rows l.row-index
