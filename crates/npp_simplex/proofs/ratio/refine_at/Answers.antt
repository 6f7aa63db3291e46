use Rattle.std.proofs.Common.{◌≡◌, ℕ, map, length, sym, ◌∙◌, arith}
use Rattle.std.proofs.lemmas.List.{length-map, length-take-le}
use Rattle.npp_frac.specs.Rational.{Rational}
use Rattle.npp_simplex.specs.Ratio.{compared}
use Rattle.npp_simplex.proofs.Comparing.{kept_are_least, some_kept}
use Rattle.npp_simplex.proofs.ratio.refine_at.Goals as goal

pub returns-in-None : goal.returns-in-None
returns-in-None g c =
    let v = g.N.Exact.rational in
    let number : ℕ → Rational = compared c.args.entering.stage c.args.tableau.now c.args.entering.column c.args.key in
    let rows = c.args.candidates.now in
    let xs = map v c.compare_all.new.numbers in
    let size : length xs ≡ length rows = omega (arith, length-map c.compare_all.new.numbers v, c.compare_all.auto.numbers, length-take-le (length rows) c.args.numbers.now c.requires.room) in
    let kept = c.keep.ensures.rows ∙ kept_are_least number rows xs (v c.least-best.result) size c.least-best.ensures c.in-None.ensures.numbers in
    record {
      stop = tt;
      fits = sym c.compare_all.ensures.stop ∙ c.in-None.is;
      rows = kept;
      some = some_kept number rows c.keep.new.candidates c.keep.result c.requires.some kept;
      within = c.keep.ensures.within;
    }
