use Rattle.std.proofs.Common.{map}
use Rattle.npp_lp.specs.Meaning.{linear_program}
use Rattle.npp_simplex.specs.Run.{first_cell}
use Rattle.npp_simplex.proofs.Gathering.{gathered_after}
use Rattle.npp_simplex.proofs.first.push_row.Goals as goal

pub loop-j-preserved : goal.loop-j-preserved
loop-j-preserved g c =
    let v = g.N.Exact.rational in
    gathered_after v (map v c.args.cells.now.items) c.loop-j.cells.items c.push.new.self.items (first_cell (linear_program v c.args.program.now) c.args.i) c.loop-j.j c.first_number.result c.in-Ok.ensures.items c.loop-j.invariant c.first_number.ensures
