use Rattle.std.proofs.Common.{◌≡◌, ℕ, arith, ap₂, sym, ◌∙◌}
use Rattle.npp_frac.specs.Rational.{◌/ℚ◌}
use Rattle.npp_frac.specs.Fits.{limit_of, fits_div}
use Rattle.npp_lp.specs.Programs.{at}
use Rattle.npp_simplex.specs.Tableau.{cell}
use Rattle.npp_simplex.proofs.Lines.{line_within, line_length, line_cell, if_some}
use Rattle.npp_simplex.proofs.tableau.Tableau.quotient.Goals as goal

pub index-line-requires : goal.index-line-requires
index-line-requires g c = omega (arith, line_within c.self.inside.shape c.self.inside.lines.items c.args.self.now c.self.view_is c.self.invariant c.args.row c.requires.row, c.self.inside.lines.ok.0)

pub quotient-requires-clause-number : goal.quotient-requires-clause-number
quotient-requires-clause-number g c = omega (arith, line_length c.self.inside.shape c.self.inside.lines.items c.args.self.now c.self.view_is c.self.invariant c.args.row c.index-line.result.now c.requires.row c.index-line.ensures)

pub quotient-requires-clause-by : goal.quotient-requires-clause-by
quotient-requires-clause-by g c = omega (arith, line_length c.self.inside.shape c.self.inside.lines.items c.args.self.now c.self.view_is c.self.invariant c.args.row c.index-line.result.now c.requires.row c.index-line.ensures)

pub quotient-requires-clause-divisor : goal.quotient-requires-clause-divisor
quotient-requires-clause-divisor g c = λ e. c.requires.divisor (sym (line_cell c.self.inside.shape c.self.inside.lines.items c.args.self.now c.self.view_is c.self.invariant c.args.row c.index-line.result.now c.requires.row c.index-line.ensures c.args.by) ∙ e)

pub returns-clause-fits : goal.returns-clause-fits
returns-clause-fits g c =
    let here : (j : ℕ) → at c.index-line.result.now j ≡ cell c.args.self.now c.args.row j = line_cell c.self.inside.shape c.self.inside.lines.items c.args.self.now c.self.view_is c.self.invariant c.args.row c.index-line.result.now c.requires.row c.index-line.ensures in
    c.quotient.ensures.fits ∙ ap₂ (fits_div (limit_of g.N.Exact.WIDTH)) (here c.args.column) (here c.args.by)

pub returns-clause-exact : goal.returns-clause-exact
returns-clause-exact g c =
    let v = g.N.Exact.rational in
    let here : (j : ℕ) → at c.index-line.result.now j ≡ cell c.args.self.now c.args.row j = line_cell c.self.inside.shape c.self.inside.lines.items c.args.self.now c.self.view_is c.self.invariant c.args.row c.index-line.result.now c.requires.row c.index-line.ensures in
    let same : at c.index-line.result.now c.args.column /ℚ at c.index-line.result.now c.args.by ≡ cell c.args.self.now c.args.row c.args.column /ℚ cell c.args.self.now c.args.row c.args.by = ap₂ ◌/ℚ◌ (here c.args.column) (here c.args.by) in
    if_some c.quotient.result (λ q. v q ≡ at c.index-line.result.now c.args.column /ℚ at c.index-line.result.now c.args.by) (λ q. v q ≡ cell c.args.self.now c.args.row c.args.column /ℚ cell c.args.self.now c.args.row c.args.by) (λ q e. e ∙ same) c.quotient.ensures.exact
