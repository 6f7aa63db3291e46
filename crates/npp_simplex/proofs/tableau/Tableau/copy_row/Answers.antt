use Rattle.std.proofs.Common.{arith, ap, sym, ◌∙◌}
use Rattle.npp_lp.specs.Programs.{at}
use Rattle.npp_simplex.proofs.Lines.{line_within, line_length, line_cell}
use Rattle.npp_simplex.proofs.tableau.Tableau.copy_row.Goals as goal

pub index-line-requires : goal.index-line-requires
index-line-requires g c = omega (arith, line_within c.self.inside.shape c.self.inside.lines.items c.args.self.now c.self.view_is c.self.invariant c.args.row c.requires.row, c.self.inside.lines.ok.0)

pub copy_from-requires : goal.copy_from-requires
copy_from-requires g c = c.requires.room ∙ sym (line_length c.self.inside.shape c.self.inside.lines.items c.args.self.now c.self.view_is c.self.invariant c.args.row c.index-line.result.now c.requires.row c.index-line.ensures)

pub returns : goal.returns
returns g c = record {
  length = rw c.copy_from.ensures (line_length c.self.inside.shape c.self.inside.lines.items c.args.self.now c.self.view_is c.self.invariant c.args.row c.index-line.result.now c.requires.row c.index-line.ensures);
  numbers = λ j l. ap (λ z. at z j) c.copy_from.ensures ∙ line_cell c.self.inside.shape c.self.inside.lines.items c.args.self.now c.self.view_is c.self.invariant c.args.row c.index-line.result.now c.requires.row c.index-line.ensures j;
}
