use Rattle.std.proofs.Common.{◌≡◌, length, true, subst, ◌∙◌}
use Rattle.npp_frac.specs.Fits.{limit_of}
use Rattle.npp_lp.specs.Programs.{at}
use Rattle.npp_simplex.specs.Places.{fits_less_product}
use Rattle.npp_simplex.specs.CommonForm.{word_limit}
use Rattle.npp_simplex.proofs.LineForms.{below_width, line_fits}
use Rattle.npp_simplex.proofs.LinePivots.{no_stop, zero_fits, zero_stays}
use Rattle.npp_simplex.proofs.line.Line.reduce.Goals as goal

pub returns-then-is_zero-clause-stop : goal.returns-then-is_zero-clause-stop
returns-then-is_zero-clause-stop g c =
    zero_fits g.N.Exact.WIDTH g.met.N.Exact.width c.args.self.now c.args.other.now c.args.column
    (line_fits g.N.Exact.WIDTH (word_limit g.N.Exact.WIDTH) (below_width g.N.Exact.WIDTH) c.self.inside.is_whole c.self.inside.denominator c.self.inside.bound c.self.inside.words.items c.self.inside.long c.args.self.now c.self.view_is (λ e. c.self.invariant.form e) c.keeps_limit.ensures)
    (c.is_zero.ensures.0 c.if-is_zero.true)

pub returns-then-is_zero-clause-reduced : goal.returns-then-is_zero-clause-reduced
returns-then-is_zero-clause-reduced g c = λ j l. zero_stays c.args.self.now c.args.other.now c.args.column j (c.is_zero.ensures.0 c.if-is_zero.true)

pub returns-then-reduce_words-clause-stop : goal.returns-then-reduce_words-clause-stop
returns-then-reduce_words-clause-stop g c =
    no_stop (length c.args.self.now) (λ j. fits_less_product (limit_of g.N.Exact.WIDTH) (at c.args.self.now j) (at c.args.self.now c.args.column) (at c.args.other.now j)) (λ j l. c.if-reduce_words.ensures.fits j)

pub returns-then-reduce_words-2-clause-stop : goal.returns-then-reduce_words-2-clause-stop
returns-then-reduce_words-2-clause-stop g c =
    let same : c.shorten_words.new.self ≡ c.args.self.now = c.shorten_words.ensures ∙ c.if-reduce_words.ensures.unchanged in
    no_stop (length c.args.self.now) (λ j. fits_less_product (limit_of g.N.Exact.WIDTH) (at c.args.self.now j) (at c.args.self.now c.args.column) (at c.args.other.now j)) (λ j l.
    subst (λ z. true ≡ fits_less_product (limit_of g.N.Exact.WIDTH) (at z j) (at z c.args.column) (at c.args.other.now j)) same (c.if-reduce_words-2.ensures.fits j))
