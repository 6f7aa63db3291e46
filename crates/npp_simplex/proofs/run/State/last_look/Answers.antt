use Rattle.std.proofs.Common.{◌≡◌, ◌<◌, ◌≤◌, length, Some, ap, sym, ◌∙◌, subst, arith}
use Rattle.std.proofs.lemmas.List.{length-take-le}
use Rattle.npp_frac.specs.Fits.{limit_of}
use Rattle.npp_simplex.specs.Ratio.{candidates}
use Rattle.npp_simplex.specs.Run.{State, Capped, finished, next}
use Rattle.npp_simplex.proofs.Turning.{run_capped}
use Rattle.npp_simplex.proofs.run.State.last_look.Goals as goal

pub returns : goal.returns
returns g c =
    let s = c.self.inside.stage in
    let t = c.self.inside.tableau in
    let k = c.in-Some.column in
    let x : State = record { stage = s; tableau = t; basis = c.self.inside.basis.items } in
    let list = c.candidates.new.list in
    let size = ap length c.as_mut_slice-list.ensures.value in
    let within : c.candidates.result ≤ length list = omega (arith, c.candidates.ensures.some, c.candidates.auto.list, c.self.invariant.room.candidates, size) in
    let many : 0 < length (candidates s t k) = omega (arith, c.if-candidates-eq0.false, ap length c.candidates.ensures.rows, length-take-le c.candidates.result list within) in
    subst (λ z. Capped ≡ finished z c.args.made (next z)) c.self.view_is
    (run_capped (Some (limit_of g.N.Exact.WIDTH)) x c.args.made k (sym c.entering.ensures.column ∙ c.in-Some.is) many)
