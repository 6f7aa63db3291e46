use Rattle.std.proofs.Common.{get_or, ap, ◌∙◌, arith}
use Rattle.npp_lp.specs.ReadingLaws.{rise_of_terms, row_terms}
use Rattle.npp_simplex.proofs.Starting.{row_coefficient, row_right}
use Rattle.npp_simplex.proofs.first.row_number.Goals as goal

pub coefficient_at-requires : goal.coefficient_at-requires
coefficient_at-requires g c =
    let v = g.N.Exact.rational in
    let terms = row_terms v c.args.program.now c.args.i c.row.result.now c.requires.program (omega arith) c.row.ensures in
    rise_of_terms v c.row.result.now terms.rising

pub returns-then-j-slacks : goal.returns-then-j-slacks
returns-then-j-slacks g c =
    let v = g.N.Exact.rational in
    c.coefficient_at.ensures ∙ row_coefficient v c.args.program.now c.args.i c.args.j c.row.result.now c.requires.program (omega arith) c.row.ensures (omega arith)

pub returns : goal.returns
returns g c = row_right g.N.Exact.rational c.args.program.now c.args.i c.args.j c.index-right-i.result c.requires.program (omega arith) (c.index-right-i.is ∙ ap (λ xs. get_or xs c.args.i c.index-right-i.result) c.right.ensures) (omega (arith, c.if-j-last-2.false))
