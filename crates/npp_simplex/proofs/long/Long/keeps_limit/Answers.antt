use Rattle.std.proofs.Common.{map, arith}
use Rattle.std.proofs.lemmas.List.{length-map}
use Rattle.npp_frac.specs.Fits.{limit_of}
use Rattle.npp_simplex.proofs.Grids.{at_fits}
use Rattle.npp_simplex.proofs.LineForms.{same_limit, line_fits}
use Rattle.npp_simplex.proofs.long.Long.keeps_limit.Goals as goal

pub returns : goal.returns
returns g c =
    let v = g.N.Exact.rational in
    let ns = c.self.inside.fractions.items in
    line_fits g.N.Exact.WIDTH (limit_of g.N.Exact.WIDTH) (same_limit g.N.Exact.WIDTH) c.self.inside.is_whole c.self.inside.denominator c.self.inside.bound c.self.inside.words.items (map v ns) c.args.self.now c.self.view_is (λ e. (c.self.invariant e).form e)
    (λ j l. at_fits v (limit_of g.N.Exact.WIDTH) g.met.N.Exact.fits ns j (omega (arith, l, length-map c.self.inside.fractions.items v)))
