use Rattle.std.proofs.Common.{◌≡◌, ℕ, None, arith, ap, sym, ◌∙◌}
use Rattle.npp_simplex.specs.Tableau.{extra_column, cell_without_extra}
use Rattle.npp_simplex.proofs.Lines.{line_within, line_length, line_cell, set_grid, changed_row}
use Rattle.npp_simplex.proofs.Clearing.{goal_cleared, extra_cleared}
use Rattle.npp_simplex.proofs.tableau.Tableau.clear_row.Goals as goal
use Rattle.npp_simplex.proofs.tableau.Tableau.clear_row.Goals.{then-i-shape, else-i-shape}

pub index_mut-line-requires : goal.index_mut-line-requires
index_mut-line-requires g c = omega (arith, line_within c.self.inside.shape c.self.inside.lines.items c.args.self.now c.self.view_is c.self.invariant c.args.i c.requires, c.self.inside.lines.ok.0)

pub invariant_of-self : goal.invariant_of-self
invariant_of-self g c =
    let long = line_length c.self.inside.shape c.self.inside.lines.items c.args.self.now c.self.view_is c.self.invariant c.args.i c.index_mut-line.result.now c.requires c.index_mut-line.ensures.value in
    elim c.if-i-shape.branch [
      | then-i-shape w ↦ rw w.self-inside-is (set_grid c.self.inside.shape c.self.inside.lines.items c.args.self.now c.self.view_is c.self.invariant c.args.i c.requires w.clear.new.self (w.clear.ensures.length ∙ long))
      | else-i-shape w ↦ rw w.self-inside-is (set_grid c.self.inside.shape c.self.inside.lines.items c.args.self.now c.self.view_is c.self.invariant c.args.i c.requires w.clear_at.new.self (w.clear_at.ensures.length ∙ long))
    ]

pub returns : goal.returns
returns g c =
    let t = c.args.self.now in
    let i = c.args.i in
    let x = c.index_mut-line.result.now in
    let rows = ap (λ u. u.rows) c.self.view_is in
    let columns = ap (λ u. u.columns) c.self.view_is in
    elim c.if-i-shape.branch [
      | then-i-shape w ↦
          rw w.self-inside-is (changed_row c.self.inside.shape c.self.inside.lines.items c.args.self.now c.self.view_is c.self.invariant c.args.i c.requires {T = ℕ} None w.clear.new.self x (cell_without_extra t i) w.clear.ensures.length c.index_mut-line.ensures.value (λ j l.
          w.clear.ensures.zeros j l ∙ goal_cleared t i j (w.if-i-shape.true ∙ rows)))
      | else-i-shape w ↦
          let place : w.extra.result ≡ extra_column t = omega (arith, w.extra.ensures, rows, columns) in
          rw w.self-inside-is (changed_row c.self.inside.shape c.self.inside.lines.items c.args.self.now c.self.view_is c.self.invariant c.args.i c.requires {T = ℕ} None w.clear_at.new.self x (cell_without_extra t i) w.clear_at.ensures.length c.index_mut-line.ensures.value (λ j l.
          extra_cleared t x w.clear_at.new.self i j w.extra.result (λ e. w.if-i-shape.false (e ∙ sym rows)) place w.clear_at.ensures.here w.clear_at.ensures.others (line_cell c.self.inside.shape c.self.inside.lines.items c.args.self.now c.self.view_is c.self.invariant c.args.i c.index_mut-line.result.now c.requires c.index_mut-line.ensures.value j)))
    ]
