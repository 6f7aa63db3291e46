use Rattle.std.proofs.Common.{◌≡◌, ℕ, length, get_or, sym, ap, ◌∙◌, arith, inr}
use Rattle.std.proofs.lemmas.List.{length-map, get_or_default}
use Rattle.npp_cover.specs.PathValue.{path_value}
use Rattle.npp_rows.specs.PathModel.{path_count}
use Rattle.npp_rows.proofs.MarkLaws.{marks_start, marked_more, strange_found}
use Rattle.npp_rows.proofs.pair.choices.Goals as goal

pub loop-i-init : goal.loop-i-init
loop-i-init g c =
    let size : length c.paths-count.result.now ≡ path_count c.args.table.now c.args.pair.l = sym (length-map c.paths-count.result.now path_value) ∙ ap length c.paths-count.ensures.paths in
    marks_start g.N.Exact.rational c.args.table.now c.args.earlier.now c.args.pair.k c.args.pair.p c.args.pair.l c.args.cuts.now c.in_ok-marks.marks.items (length c.paths-count.result.now) c.in_ok-marks.ensures size

pub returns-in-None-clause-strange : goal.returns-in-None-clause-strange
returns-in-None-clause-strange g c =
    let size : length c.paths-count.result.now ≡ path_count c.args.table.now c.args.pair.l = sym (length-map c.paths-count.result.now path_value) ∙ ap length c.paths-count.ensures.paths in
    let i = c.loop-i.i-index in
    let x : ℕ = get_or c.args.cuts.now c.loop-i.i-index 0 in
    let is = get_or_default c.args.cuts.now c.loop-i.i-index 0 (get_or c.args.cuts.now c.loop-i.i-index 0) c.loop-i-test.true in
    let known = c.requires.cuts c.loop-i.i-index 0 c.loop-i-test.true in
    inr (strange_found g.N.Exact.rational c.args.table.now c.args.earlier.now c.args.pair.k c.args.pair.p c.args.pair.l c.args.cuts.now i x c.loop-i-test.true is c.index-earlier-i.result known c.index-earlier-i.is c.loop-i.marks.items
    (λ q h e. c.in-None.ensures q (omega (arith, h, size)) e) c.loop-i.invariant)

pub loop-i-preserved : goal.loop-i-preserved
loop-i-preserved g c =
    let size : length c.paths-count.result.now ≡ path_count c.args.table.now c.args.pair.l = sym (length-map c.paths-count.result.now path_value) ∙ ap length c.paths-count.ensures.paths in
    let i = c.loop-i.i-index in
    let x : ℕ = get_or c.args.cuts.now c.loop-i.i-index 0 in
    let is = get_or_default c.args.cuts.now c.loop-i.i-index 0 (get_or c.args.cuts.now c.loop-i.i-index 0) c.loop-i-test.true in
    let known = c.requires.cuts c.loop-i.i-index 0 c.loop-i-test.true in
    marked_more g.N.Exact.rational c.args.table.now c.args.earlier.now c.args.pair.k c.args.pair.p c.args.pair.l c.args.cuts.now i x c.loop-i-test.true is c.index-earlier-i.result known c.index-earlier-i.is c.loop-i.marks.items c.in-Some.q
    (omega (arith, c.in-Some.ensures.0, size)) c.in-Some.ensures.1 c.loop-i.invariant
