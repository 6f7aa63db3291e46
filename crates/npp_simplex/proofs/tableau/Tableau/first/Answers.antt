use Rattle.std.proofs.Common.{◌≡◌, ◌+◌, ℕ, List, map, ap, ◌∙◌, arith}
use Rattle.std.specs.List.{range_with_len}
use Rattle.npp_frac.specs.Rational.{Rational}
use Rattle.npp_lp.specs.Meaning.{linear_program}
use Rattle.npp_simplex.specs.Run.{first_cell}
use Rattle.npp_simplex.proofs.Lines.{lines_more, grid_of_table, made_of_lines}
use Rattle.npp_simplex.proofs.Starting.{rows_agree}
use Rattle.npp_simplex.proofs.tableau.Tableau.first.Goals as goal

pub loop-i-preserved : goal.loop-i-preserved
loop-i-preserved g c =
    let f : ℕ → List Rational = λ i. map (first_cell (linear_program g.N.Exact.rational c.args.program.now) i) (range_with_len 0 (c.args.shape.columns + c.args.shape.rows + 2)) in
    lines_more f c.loop-i.lines.items c.push.new.self.items c.loop-i.i c.in_ok-line.line c.in-Ok.ensures.items c.loop-i.invariant c.in_ok-line.ensures

pub invariant_of-result : goal.invariant_of-result
invariant_of-result g c =
    let p = linear_program g.N.Exact.rational c.args.program.now in
    let w = c.args.shape.columns + c.args.shape.rows + 2 in
    let all : c.loop-i.i ≡ c.args.shape.rows + 2 = omega (arith, c.height-i-end.ensures) in
    grid_of_table c.args.shape (first_cell p) c.loop-i.lines.items (c.loop-i.invariant ∙ ap (λ n. map (λ i. map (first_cell p i) (range_with_len 0 w)) (range_with_len 0 n)) all)

pub returns : goal.returns
returns g c =
    let v = g.N.Exact.rational in
    let p = linear_program v c.args.program.now in
    let w = c.args.shape.columns + c.args.shape.rows + 2 in
    let all : c.loop-i.i ≡ c.args.shape.rows + 2 = omega (arith, c.height-i-end.ensures) in
    made_of_lines c.args.shape c.loop-i.lines.items p (rows_agree v c.args.program.now c.args.shape.rows c.requires.program c.requires.rows) c.requires.columns
    (c.loop-i.invariant ∙ ap (λ n. map (λ i. map (first_cell p i) (range_with_len 0 w)) (range_with_len 0 n)) all)
