use Rattle.std.proofs.Common.{◌≡◌, ℕ, ◌<◌, length, arith, ap, ap₂, sym, ◌∙◌}
use Rattle.npp_frac.specs.Rational.{◌/ℚ◌}
use Rattle.npp_frac.specs.Fits.{limit_of, fits_div}
use Rattle.npp_lp.specs.Programs.{at}
use Rattle.npp_simplex.specs.Tableau.{cell, divided_cell}
use Rattle.npp_simplex.proofs.Lines.{line_within, line_length, line_cell, set_grid, changed_row, tested_row, if_none}
use Rattle.npp_simplex.proofs.tableau.Tableau.divide_row.Goals as goal

pub index_mut-line-requires : goal.index_mut-line-requires
index_mut-line-requires g c = omega (arith, line_within c.self.inside.shape c.self.inside.lines.items c.args.self.now c.self.view_is c.self.invariant c.args.row c.requires.row, c.self.inside.lines.ok.0)

pub divide-requires-clause-short : goal.divide-requires-clause-short
divide-requires-clause-short g c = omega (arith, (line_length c.self.inside.shape c.self.inside.lines.items c.args.self.now c.self.view_is c.self.invariant c.args.row c.index_mut-line.result.now c.requires.row c.index_mut-line.ensures.value), c.self.inside.shape.small, ap (λ u. u.rows) c.self.view_is, ap (λ u. u.columns) c.self.view_is)

pub divide-requires-clause-column : goal.divide-requires-clause-column
divide-requires-clause-column g c = omega (arith, (line_length c.self.inside.shape c.self.inside.lines.items c.args.self.now c.self.view_is c.self.invariant c.args.row c.index_mut-line.result.now c.requires.row c.index_mut-line.ensures.value))

pub divide-requires-clause-divisor : goal.divide-requires-clause-divisor
divide-requires-clause-divisor g c = λ e. c.requires.divisor (sym (line_cell c.self.inside.shape c.self.inside.lines.items c.args.self.now c.self.view_is c.self.invariant c.args.row c.index_mut-line.result.now c.requires.row c.index_mut-line.ensures.value c.args.column) ∙ e)

pub invariant_of-self : goal.invariant_of-self
invariant_of-self g c = set_grid c.self.inside.shape c.self.inside.lines.items c.args.self.now c.self.view_is c.self.invariant c.args.row c.requires.row c.divide.new.self (c.divide.ensures.length ∙ (line_length c.self.inside.shape c.self.inside.lines.items c.args.self.now c.self.view_is c.self.invariant c.args.row c.index_mut-line.result.now c.requires.row c.index_mut-line.ensures.value))

pub returns-clause-stop : goal.returns-clause-stop
returns-clause-stop g c = c.divide.ensures.stop ∙ tested_row c.self.inside.shape c.self.inside.lines.items c.args.self.now c.self.view_is c.self.invariant c.args.row c.requires.row c.index_mut-line.result.now (λ p q j. fits_div (limit_of g.N.Exact.WIDTH) p q) c.args.column c.index_mut-line.ensures.value

pub returns-clause-divided : goal.returns-clause-divided
returns-clause-divided g c =
    let x = c.index_mut-line.result.now in
    let here : (j : ℕ) → at c.index_mut-line.result.now j ≡ cell c.args.self.now c.args.row j = line_cell c.self.inside.shape c.self.inside.lines.items c.args.self.now c.self.view_is c.self.invariant c.args.row c.index_mut-line.result.now c.requires.row c.index_mut-line.ensures.value in
    changed_row c.self.inside.shape c.self.inside.lines.items c.args.self.now c.self.view_is c.self.invariant c.args.row c.requires.row c.divide.result c.divide.new.self x (divided_cell c.args.self.now c.args.row c.args.column) c.divide.ensures.length c.index_mut-line.ensures.value
    (if_none c.divide.result ((j : ℕ) → j < length x → at c.divide.new.self j ≡ at x j /ℚ at x c.args.column) ((j : ℕ) → j < length x → at c.divide.new.self j ≡ divided_cell c.args.self.now c.args.row c.args.column j) (λ each j l. each j l ∙ ap₂ ◌/ℚ◌ (here j) (here c.args.column)) c.divide.ensures.divided)
