use Rattle.std.proofs.Common.{length}
use Rattle.npp_frac.specs.Fits.{limit_of, fits_div}
use Rattle.npp_lp.specs.Programs.{at}
use Rattle.npp_simplex.proofs.LinePivots.{no_stop}
use Rattle.npp_simplex.proofs.long.Long.divide.Goals as goal

pub returns-then-divide_words-clause-stop : goal.returns-then-divide_words-clause-stop
returns-then-divide_words-clause-stop g c =
    no_stop (length c.args.self.now) (λ j. fits_div (limit_of g.N.Exact.WIDTH) (at c.args.self.now j) (at c.args.self.now c.args.column)) (λ j l. c.if-divide_words.ensures.fits j)
