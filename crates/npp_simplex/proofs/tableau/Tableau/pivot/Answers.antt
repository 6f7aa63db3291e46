use Rattle.std.proofs.Common.{◌≡◌, ℕ, ◌<◌, ap, sym, ◌∙◌, refl, arith}
use Rattle.npp_frac.specs.Fits.{limit_of}
use Rattle.npp_lp.specs.Programs.{at}
use Rattle.npp_simplex.specs.Tableau.{width, divided_cell}
use Rattle.npp_simplex.proofs.Changing.{row_here}
use Rattle.npp_simplex.proofs.Pivoting.{begun, passed, stopped, reduced, pivot_made}
use Rattle.npp_simplex.proofs.tableau.Tableau.pivot.Goals as goal

pub loop-i-init : goal.loop-i-init
loop-i-init g c = begun (limit_of g.N.Exact.WIDTH) c.args.self.now c.args.row c.args.column c.requires.column c.divide_row.new.self c.in-None.ensures.divided

pub loop-i-preserved-then-i-row : goal.loop-i-preserved-then-i-row
loop-i-preserved-then-i-row g c =
    passed (limit_of g.N.Exact.WIDTH) c.args.self.now c.args.row c.args.column c.requires.column c.loop-i.self c.loop-i.i c.loop-i.invariant c.if-i-row.true (omega (arith, c.height-height.ensures, c.shape.ensures.rows))

pub returns-in-Some-reduce_row-clause-stop : goal.returns-in-Some-reduce_row-clause-stop
returns-in-Some-reduce_row-clause-stop g c =
    let v = g.N.Exact.rational in
    let t = c.args.self.now in
    let is : (j : ℕ) → j < width t → at c.copy_row.new.into j ≡ divided_cell t c.args.row c.args.column j = λ j l.
    c.copy_row.ensures.numbers j (rw (ap width c.in-None.ensures.divided) l)
    ∙ row_here t c.divide_row.new.self c.args.row (divided_cell t c.args.row c.args.column) c.args.row j c.in-None.ensures.divided refl (omega arith) l in
    sym (stopped (limit_of g.N.Exact.WIDTH) t c.args.row c.args.column c.requires.column c.loop-i.self c.loop-i.i c.loop-i.invariant (at c.copy_row.new.into) is c.if-i-row.false (omega (arith, c.height-height.ensures, c.shape.ensures.rows))
    c.in-Some-reduce_row.j (sym c.divide_row.ensures.stop ∙ c.in-None.is) (sym c.in-Some-reduce_row.is ∙ c.reduce_row.ensures.stop))

pub loop-i-preserved : goal.loop-i-preserved
loop-i-preserved g c =
    let v = g.N.Exact.rational in
    let t = c.args.self.now in
    let is : (j : ℕ) → j < width t → at c.copy_row.new.into j ≡ divided_cell t c.args.row c.args.column j = λ j l.
    c.copy_row.ensures.numbers j (rw (ap width c.in-None.ensures.divided) l)
    ∙ row_here t c.divide_row.new.self c.args.row (divided_cell t c.args.row c.args.column) c.args.row j c.in-None.ensures.divided refl (omega arith) l in
    reduced (limit_of g.N.Exact.WIDTH) t c.args.row c.args.column c.requires.column c.loop-i.self c.loop-i.i c.loop-i.invariant (at c.copy_row.new.into) is c.if-i-row.false (omega (arith, c.height-height.ensures, c.shape.ensures.rows))
    c.reduce_row.new.self (sym c.in-None-reduce_row.is ∙ c.reduce_row.ensures.stop) c.in-None-reduce_row.ensures.reduced

pub returns-clause-pivoted : goal.returns-clause-pivoted
returns-clause-pivoted g c =
    pivot_made (limit_of g.N.Exact.WIDTH) c.args.self.now c.args.row c.args.column c.requires.column c.loop-i.self c.loop-i.i c.loop-i.invariant (omega (arith, c.height-height.ensures, c.shape.ensures.rows))
