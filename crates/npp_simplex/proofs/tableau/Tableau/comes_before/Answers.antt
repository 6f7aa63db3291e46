use Rattle.std.proofs.Common.{◌≡◌, ℕ, true, length, ◌+◌, ◌∷◌, arith, ap, ap₂, ◌∙◌}
use Rattle.std.specs.List.{range_with_len}
use Rattle.npp_frac.specs.Rational.{◌/ℚ◌}
use Rattle.npp_frac.specs.Fits.{limit_of, fits_div}
use Rattle.npp_lp.specs.Programs.{at}
use Rattle.npp_simplex.specs.Tableau.{cell}
use Rattle.npp_simplex.specs.Ratio.{keys}
use Rattle.npp_simplex.specs.RowOrder.{comes_before}
use Rattle.npp_simplex.proofs.Lines.{line_within, line_cell, if_some}
use Rattle.npp_simplex.proofs.RowPairs.{before_same}
use Rattle.npp_simplex.proofs.tableau.Tableau.comes_before.Goals as goal

pub index-line-requires : goal.index-line-requires
index-line-requires g c = omega (arith, line_within c.self.inside.shape c.self.inside.lines.items c.args.self.now c.self.view_is c.self.invariant c.args.i c.requires.row, c.self.inside.lines.ok.0)

pub index-other-requires : goal.index-other-requires
index-other-requires g c = omega (arith, line_within c.self.inside.shape c.self.inside.lines.items c.args.self.now c.self.view_is c.self.invariant c.args.k c.requires.other, c.self.inside.lines.ok.0)

pub comes_before-requires-clause-length : goal.comes_before-requires-clause-length
comes_before-requires-clause-length g c = ap length c.index-line.ensures ∙ c.self.invariant.width c.args.i c.index-line.result.now (line_within c.self.inside.shape c.self.inside.lines.items c.args.self.now c.self.view_is c.self.invariant c.args.i c.requires.row)

pub comes_before-requires-clause-other : goal.comes_before-requires-clause-other
comes_before-requires-clause-other g c = ap length c.index-other.ensures ∙ c.self.invariant.width c.args.k c.index-other.result.now (line_within c.self.inside.shape c.self.inside.lines.items c.args.self.now c.self.view_is c.self.invariant c.args.k c.requires.other)

pub comes_before-requires-clause-column : goal.comes_before-requires-clause-column
comes_before-requires-clause-column g c = omega (arith, c.requires.column, ap (λ u. u.rows) c.self.view_is, ap (λ u. u.columns) c.self.view_is)

pub returns-clause-own_fits : goal.returns-clause-own_fits
returns-clause-own_fits g c =
    let m = limit_of g.N.Exact.WIDTH in
    let x = c.index-line.result.now in
    let t = c.args.self.now in
    let here : (j : ℕ) → at c.index-line.result.now j ≡ cell c.args.self.now c.args.i j = line_cell c.self.inside.shape c.self.inside.lines.items c.args.self.now c.self.view_is c.self.invariant c.args.i c.index-line.result.now c.requires.row c.index-line.ensures in
    if_some c.comes_before.result (λ b. (j : ℕ) → true ≡ fits_div m (at x j) (at x c.args.column)) (λ b. (j : ℕ) → true ≡ fits_div m (cell t c.args.i j) (cell t c.args.i c.args.column)) (λ b h j. h j ∙ ap₂ (fits_div m) (here j) (here c.args.column)) c.comes_before.ensures.own_fits

pub returns-clause-other_fits : goal.returns-clause-other_fits
returns-clause-other_fits g c =
    let m = limit_of g.N.Exact.WIDTH in
    let x = c.index-other.result.now in
    let t = c.args.self.now in
    let here : (j : ℕ) → at c.index-other.result.now j ≡ cell c.args.self.now c.args.k j = line_cell c.self.inside.shape c.self.inside.lines.items c.args.self.now c.self.view_is c.self.invariant c.args.k c.index-other.result.now c.requires.other c.index-other.ensures in
    if_some c.comes_before.result (λ b. (j : ℕ) → true ≡ fits_div m (at x j) (at x c.args.column)) (λ b. (j : ℕ) → true ≡ fits_div m (cell t c.args.k j) (cell t c.args.k c.args.column)) (λ b h j. h j ∙ ap₂ (fits_div m) (here j) (here c.args.column)) c.comes_before.ensures.other_fits

pub returns-clause-exact : goal.returns-clause-exact
returns-clause-exact g c =
    let t = c.args.self.now in
    let x = c.index-line.result.now in
    let y = c.index-other.result.now in
    let s = c.self.inside.shape in
    let first : (j : ℕ) → at c.index-line.result.now j ≡ cell c.args.self.now c.args.i j = line_cell c.self.inside.shape c.self.inside.lines.items c.args.self.now c.self.view_is c.self.invariant c.args.i c.index-line.result.now c.requires.row c.index-line.ensures in
    let second : (j : ℕ) → at c.index-other.result.now j ≡ cell c.args.self.now c.args.k j = line_cell c.self.inside.shape c.self.inside.lines.items c.args.self.now c.self.view_is c.self.invariant c.args.k c.index-other.result.now c.requires.other c.index-other.ensures in
    let same : comes_before (λ j. at x j /ℚ at x c.args.column) (λ j. at y j /ℚ at y c.args.column) ((s.columns + s.rows + 1) ∷ range_with_len s.columns s.rows) ≡ comes_before (λ j. cell t c.args.i j /ℚ cell t c.args.i c.args.column) (λ j. cell t c.args.k j /ℚ cell t c.args.k c.args.column) (keys t) =
    before_same (λ j. at x j /ℚ at x c.args.column) (λ j. at y j /ℚ at y c.args.column) (λ j. cell t c.args.i j /ℚ cell t c.args.i c.args.column) (λ j. cell t c.args.k j /ℚ cell t c.args.k c.args.column) (λ j. ap₂ ◌/ℚ◌ (first j) (first c.args.column)) (λ j. ap₂ ◌/ℚ◌ (second j) (second c.args.column)) ((s.columns + s.rows + 1) ∷ range_with_len s.columns s.rows)
    ∙ ap₂ (λ m n. comes_before (λ j. cell t c.args.i j /ℚ cell t c.args.i c.args.column) (λ j. cell t c.args.k j /ℚ cell t c.args.k c.args.column) ((n + m + 1) ∷ range_with_len n m)) (ap (λ u. u.rows) c.self.view_is) (ap (λ u. u.columns) c.self.view_is) in
    if_some c.comes_before.result (λ b. b ≡ comes_before (λ j. at x j /ℚ at x c.args.column) (λ j. at y j /ℚ at y c.args.column) ((s.columns + s.rows + 1) ∷ range_with_len s.columns s.rows)) (λ b. b ≡ comes_before (λ j. cell t c.args.i j /ℚ cell t c.args.i c.args.column) (λ j. cell t c.args.k j /ℚ cell t c.args.k c.args.column) (keys t)) (λ b e. e ∙ same) c.comes_before.ensures.exact
