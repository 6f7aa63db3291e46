use Rattle.std.proofs.Common.{map, ◌∙◌}
use Rattle.npp_frac.specs.Fits.{limit_of}
use Rattle.npp_lp.specs.Meaning.{linear_program}
use Rattle.npp_inverse.proofs.WorkLaws.{farkas_tested}
use Rattle.npp_inverse.proofs.quiet.farkas_fits.Goals as goal

pub returns : goal.returns
returns g c =
    c.is_ok.ensures.value
    ∙ farkas_tested (limit_of g.N.Exact.WIDTH) (linear_program g.N.Exact.rational c.args.program.now) (map g.N.Exact.rational c.args.y.now) g.N.Exact.rational c.check_farkas.result c.requires.answer c.check_farkas.ensures.verdict
