use Rattle.std.proofs.Common.{◌<◌, ◌≡◌, length, Some, None, Ok, ap, sym, ◌∙◌, subst, arith}
use Rattle.std.proofs.lemmas.List.{length-take-le}
use Rattle.npp_frac.specs.Fits.{limit_of}
use Rattle.npp_simplex.specs.Ratio.{keys, candidates}
use Rattle.npp_simplex.specs.Places.{remaining}
use Rattle.npp_simplex.specs.Meaning.{AreCandidates}
use Rattle.npp_simplex.proofs.Turning.{candidates_are, row_leaves}
use Rattle.npp_simplex.proofs.StageStops.{stops_agree}
use Rattle.npp_simplex.proofs.run.pivot_on.Goals as goal

pub leaving_of_first-requires-clause-rows : goal.leaving_of_first-requires-clause-rows
leaving_of_first-requires-clause-rows g c =
    subst (AreCandidates c.args.tableau.now c.args.entering.column) (sym c.candidates-count.ensures.rows) (candidates_are c.args.entering.stage c.args.tableau.now c.args.entering.column c.requires.ready c.requires.column)

pub returns-in-Some-clause-row : goal.returns-in-Some-clause-row
returns-in-Some-clause-row g c =
    let m = Some (limit_of g.N.Exact.WIDTH) in
    let s = c.args.entering.stage in
    let t = c.args.tableau.now in
    let k = c.args.entering.column in
    let many : 0 < length (candidates s t k) = omega (arith, c.if-count-eq0.false, c.candidates-count.ensures.some, c.candidates-count.auto.list, c.requires.room.candidates, ap length c.as_mut_slice-candidates.ensures.value, ap length c.candidates-count.ensures.rows, length-take-le c.candidates-count.result c.candidates-count.new.list (omega (arith, c.candidates-count.ensures.some, c.candidates-count.auto.list, c.requires.room.candidates, ap length c.as_mut_slice-candidates.ensures.value))) in
    let leaves : Ok c.in-Ok.row ≡ remaining m s t k (keys t) (candidates s t k) = c.in-Ok.ensures.row ∙ ap (remaining m s t k (keys t)) c.candidates-count.ensures.rows in
    row_leaves m s t k c.in-Ok.row (Some c.in-Some.place) many leaves (stops_agree g.N.Exact.WIDTH s t c.in-Ok.row k g.met.N.Exact.width c.requires.ready ∙ sym c.pivot.ensures.stop ∙ c.in-Some.is)

pub returns-in-None-clause-row : goal.returns-in-None-clause-row
returns-in-None-clause-row g c =
    let m = Some (limit_of g.N.Exact.WIDTH) in
    let s = c.args.entering.stage in
    let t = c.args.tableau.now in
    let k = c.args.entering.column in
    let many : 0 < length (candidates s t k) = omega (arith, c.if-count-eq0.false, c.candidates-count.ensures.some, c.candidates-count.auto.list, c.requires.room.candidates, ap length c.as_mut_slice-candidates.ensures.value, ap length c.candidates-count.ensures.rows, length-take-le c.candidates-count.result c.candidates-count.new.list (omega (arith, c.candidates-count.ensures.some, c.candidates-count.auto.list, c.requires.room.candidates, ap length c.as_mut_slice-candidates.ensures.value))) in
    let leaves : Ok c.in-Ok.row ≡ remaining m s t k (keys t) (candidates s t k) = c.in-Ok.ensures.row ∙ ap (remaining m s t k (keys t)) c.candidates-count.ensures.rows in
    row_leaves m s t k c.in-Ok.row None many leaves (stops_agree g.N.Exact.WIDTH s t c.in-Ok.row k g.met.N.Exact.width c.requires.ready ∙ sym c.pivot.ensures.stop ∙ c.in-None.is)
