use Rattle.std.proofs.Common.{ap, arith}
use Rattle.npp_simplex.specs.Tableau.{cell_without_extra}
use Rattle.npp_simplex.proofs.Lines.{whole}
use Rattle.npp_simplex.proofs.Changing.{unchanged, row_replaced, all_changed}
use Rattle.npp_simplex.proofs.Clearing.{without_same}
use Rattle.npp_simplex.proofs.tableau.Tableau.drop_extra.Goals as goal

pub loop-i-init : goal.loop-i-init
loop-i-init g c = unchanged c.args.self.now (cell_without_extra c.args.self.now) (whole c.self.inside.shape c.self.inside.lines.items c.args.self.now c.self.view_is c.self.invariant)

pub loop-i-preserved : goal.loop-i-preserved
loop-i-preserved g c =
    let t = c.args.self.now in
    let now = c.loop-i.self in
    let size = ap (λ u. u.rows) c.self.view_is in
    row_replaced t now (cell_without_extra t) c.loop-i.i c.loop-i.invariant c.clear_row.new.self (cell_without_extra now c.loop-i.i) c.clear_row.ensures (λ j l.
    without_same t now c.loop-i.i j (ap (λ u. u.rows) c.loop-i.invariant.whole) (ap (λ u. u.columns) c.loop-i.invariant.whole) (c.loop-i.invariant.rest c.loop-i.i j (omega arith) (omega (arith, c.height-height.ensures, size)) l))

pub returns : goal.returns
returns g c = all_changed c.args.self.now c.loop-i.self (cell_without_extra c.args.self.now) c.loop-i.i c.loop-i.invariant (omega (arith, c.height-height.ensures, ap (λ u. u.rows) c.self.view_is))
