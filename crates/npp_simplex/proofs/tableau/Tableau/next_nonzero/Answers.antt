use Rattle.std.proofs.Common.{arith, sym, ◌∙◌}
use Rattle.npp_simplex.proofs.Lines.{line_within, line_length, line_cell}
use Rattle.npp_simplex.proofs.tableau.Tableau.next_nonzero.Goals as goal

pub index-line-requires : goal.index-line-requires
index-line-requires g c = omega (arith, line_within c.self.inside.shape c.self.inside.lines.items c.args.self.now c.self.view_is c.self.invariant c.args.row c.requires.row, c.self.inside.lines.ok.0)

pub next_nonzero-requires-clause-end : goal.next_nonzero-requires-clause-end
next_nonzero-requires-clause-end g c = omega (arith, c.requires.end, line_length c.self.inside.shape c.self.inside.lines.items c.args.self.now c.self.view_is c.self.invariant c.args.row c.index-line.result.now c.requires.row c.index-line.ensures)

pub returns-clause-zeros : goal.returns-clause-zeros
returns-clause-zeros g c = λ j from below. sym (line_cell c.self.inside.shape c.self.inside.lines.items c.args.self.now c.self.view_is c.self.invariant c.args.row c.index-line.result.now c.requires.row c.index-line.ensures j) ∙ c.next_nonzero.ensures.zeros j from below
