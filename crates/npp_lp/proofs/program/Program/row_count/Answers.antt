use Rattle.std.proofs.Common.{◌≡◌, length, ap, sym, ◌∙◌, arith}
use Rattle.npp_lp.proofs.Writing.{length-written_rows}
use Rattle.npp_lp.proofs.program.Program.row_count.Goals as goal

pub returns-clause-rows : goal.returns-clause-rows
returns-clause-rows g c =
    let rows : length c.args.self.now.rows ≡ length c.self.inside.spans.items =
    ap (λ p. length p.rows) (sym c.self.view_is) ∙ length-written_rows c.self.inside.entries.items c.self.inside.spans.items c.self.inside.right.items c.self.invariant.0 in
    omega arith
