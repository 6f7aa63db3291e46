use Rattle.std.proofs.Common.{map}
use Rattle.npp_rows.specs.Meaning.{cut_value}
use Rattle.npp_rows.specs.Relax.{relaxation}
use Rattle.npp_rows.proofs.ProgramLaws.{HasRows}
use Rattle.npp_rows.proofs.relaxed.build.Given as goal

abbrev pub invariant-loop-row : goal.invariant-loop-row
invariant-loop-row g l = HasRows g.N.Exact.rational (relaxation l.index.paths l.index.parts (map (cut_value g.N.Exact.rational) l.cuts)) l.program l.rows l.row-index
