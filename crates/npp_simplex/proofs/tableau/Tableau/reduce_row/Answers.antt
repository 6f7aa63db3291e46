use Rattle.std.proofs.Common.{◌≡◌, ℕ, ◌<◌, length, arith, ap, ap₂, sym, ◌∙◌}
use Rattle.npp_frac.specs.Rational.{◌-ℚ◌, ◌*ℚ◌}
use Rattle.npp_frac.specs.Fits.{limit_of}
use Rattle.npp_lp.specs.Programs.{at}
use Rattle.npp_simplex.specs.Tableau.{cell}
use Rattle.npp_simplex.specs.Places.{fits_less_product}
use Rattle.npp_simplex.specs.Steps.{nonzero_columns}
use Rattle.npp_simplex.proofs.Lines.{line_within, line_length, line_cell, set_grid, changed_row, tested_row, if_none}
use Rattle.npp_simplex.proofs.tableau.Tableau.reduce_row.Goals as goal

pub index_mut-line-requires : goal.index_mut-line-requires
index_mut-line-requires g c = omega (arith, line_within c.self.inside.shape c.self.inside.lines.items c.args.self.now c.self.view_is c.self.invariant c.args.i c.requires.row, c.self.inside.lines.ok.0)

pub reduce-requires-clause-short : goal.reduce-requires-clause-short
reduce-requires-clause-short g c = omega (arith, (line_length c.self.inside.shape c.self.inside.lines.items c.args.self.now c.self.view_is c.self.invariant c.args.i c.index_mut-line.result.now c.requires.row c.index_mut-line.ensures.value), c.self.inside.shape.small, ap (λ u. u.rows) c.self.view_is, ap (λ u. u.columns) c.self.view_is)

pub reduce-requires-clause-column : goal.reduce-requires-clause-column
reduce-requires-clause-column g c = omega (arith, (line_length c.self.inside.shape c.self.inside.lines.items c.args.self.now c.self.view_is c.self.invariant c.args.i c.index_mut-line.result.now c.requires.row c.index_mut-line.ensures.value))

pub reduce-requires-clause-other : goal.reduce-requires-clause-other
reduce-requires-clause-other g c = c.requires.other ∙ sym (line_length c.self.inside.shape c.self.inside.lines.items c.args.self.now c.self.view_is c.self.invariant c.args.i c.index_mut-line.result.now c.requires.row c.index_mut-line.ensures.value)

pub reduce-requires-clause-columns : goal.reduce-requires-clause-columns
reduce-requires-clause-columns g c = c.requires.columns ∙ ap (nonzero_columns (at c.args.other.now)) (sym (line_length c.self.inside.shape c.self.inside.lines.items c.args.self.now c.self.view_is c.self.invariant c.args.i c.index_mut-line.result.now c.requires.row c.index_mut-line.ensures.value))

pub invariant_of-self : goal.invariant_of-self
invariant_of-self g c = set_grid c.self.inside.shape c.self.inside.lines.items c.args.self.now c.self.view_is c.self.invariant c.args.i c.requires.row c.reduce.new.self (c.reduce.ensures.length ∙ (line_length c.self.inside.shape c.self.inside.lines.items c.args.self.now c.self.view_is c.self.invariant c.args.i c.index_mut-line.result.now c.requires.row c.index_mut-line.ensures.value))

pub returns-clause-stop : goal.returns-clause-stop
returns-clause-stop g c = c.reduce.ensures.stop ∙ tested_row c.self.inside.shape c.self.inside.lines.items c.args.self.now c.self.view_is c.self.invariant c.args.i c.requires.row c.index_mut-line.result.now (λ p q j. fits_less_product (limit_of g.N.Exact.WIDTH) p q (at c.args.other.now j)) c.args.column c.index_mut-line.ensures.value

pub returns-clause-reduced : goal.returns-clause-reduced
returns-clause-reduced g c =
    let x = c.index_mut-line.result.now in
    let t = c.args.self.now in
    let here : (j : ℕ) → at c.index_mut-line.result.now j ≡ cell c.args.self.now c.args.i j = line_cell c.self.inside.shape c.self.inside.lines.items c.args.self.now c.self.view_is c.self.invariant c.args.i c.index_mut-line.result.now c.requires.row c.index_mut-line.ensures.value in
    changed_row c.self.inside.shape c.self.inside.lines.items c.args.self.now c.self.view_is c.self.invariant c.args.i c.requires.row c.reduce.result c.reduce.new.self x (λ j. cell t c.args.i j -ℚ cell t c.args.i c.args.column *ℚ at c.args.other.now j) c.reduce.ensures.length c.index_mut-line.ensures.value
    (if_none c.reduce.result ((j : ℕ) → j < length x → at c.reduce.new.self j ≡ at x j -ℚ at x c.args.column *ℚ at c.args.other.now j) ((j : ℕ) → j < length x → at c.reduce.new.self j ≡ cell t c.args.i j -ℚ cell t c.args.i c.args.column *ℚ at c.args.other.now j) (λ each j l. each j l ∙ ap₂ (λ p q. p -ℚ q *ℚ at c.args.other.now j) (here j) (here c.args.column)) c.reduce.ensures.reduced)
