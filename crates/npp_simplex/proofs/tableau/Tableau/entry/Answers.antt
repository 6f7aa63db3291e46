use Rattle.std.proofs.Common.{arith, ◌∙◌}
use Rattle.npp_simplex.proofs.Lines.{line_within, line_length, line_cell}
use Rattle.npp_simplex.proofs.tableau.Tableau.entry.Goals as goal

pub index-line-requires : goal.index-line-requires
index-line-requires g c = omega (arith, line_within c.self.inside.shape c.self.inside.lines.items c.args.self.now c.self.view_is c.self.invariant c.args.row c.requires.row, c.self.inside.lines.ok.0)

pub number-requires : goal.number-requires
number-requires g c = omega (arith, line_length c.self.inside.shape c.self.inside.lines.items c.args.self.now c.self.view_is c.self.invariant c.args.row c.index-line.result.now c.requires.row c.index-line.ensures)

pub returns : goal.returns
returns g c = c.number.ensures ∙ line_cell c.self.inside.shape c.self.inside.lines.items c.args.self.now c.self.view_is c.self.invariant c.args.row c.index-line.result.now c.requires.row c.index-line.ensures c.args.column
