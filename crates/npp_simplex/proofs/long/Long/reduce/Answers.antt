use Rattle.std.proofs.Common.{◌≡◌, length, true, subst, ◌∙◌}
use Rattle.npp_frac.specs.Fits.{limit_of}
use Rattle.npp_lp.specs.Programs.{at}
use Rattle.npp_simplex.specs.Places.{fits_less_product}
use Rattle.npp_simplex.proofs.LinePivots.{no_stop}
use Rattle.npp_simplex.proofs.long.Long.reduce.Goals as goal

pub returns-then-reduce_words-clause-stop : goal.returns-then-reduce_words-clause-stop
returns-then-reduce_words-clause-stop g c =
    no_stop (length c.args.self.now) (λ j. fits_less_product (limit_of g.N.Exact.WIDTH) (at c.args.self.now j) (at c.args.self.now c.args.column) (at c.args.other.now j)) (λ j l. c.if-reduce_words.ensures.fits j)

pub returns-then-reduce_words-2-clause-stop : goal.returns-then-reduce_words-2-clause-stop
returns-then-reduce_words-2-clause-stop g c =
    let same : c.shorten.new.self ≡ c.args.self.now = c.shorten.ensures ∙ c.if-reduce_words.ensures.unchanged in
    no_stop (length c.args.self.now) (λ j. fits_less_product (limit_of g.N.Exact.WIDTH) (at c.args.self.now j) (at c.args.self.now c.args.column) (at c.args.other.now j)) (λ j l.
    subst (λ z. true ≡ fits_less_product (limit_of g.N.Exact.WIDTH) (at z j) (at z c.args.column) (at c.args.other.now j)) same (c.if-reduce_words-2.ensures.fits j))
