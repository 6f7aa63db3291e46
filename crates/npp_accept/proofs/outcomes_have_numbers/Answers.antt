use Rattle.npp_frac.specs.FitsLaws.{fits_wide}
use Rattle.npp_accept.proofs.NumberLemmas.{outcome_has_numbers}
use Rattle.npp_accept.proofs.outcomes_have_numbers.Goals as goal

pub returns : goal.returns
returns g c = outcome_has_numbers g.N.Exact.rational (λ x. fits_wide (g.N.Exact.rational x) g.N.Exact.WIDTH g.met.N.Exact.width (g.met.N.Exact.fits x))
