use Rattle.std.proofs.Common.{rules, pos, ◌<ℤ◌, ◌+◌, ◌∷◌, FitsSigned, w64, to_z-of_z, ap₂, ◌∙◌, arith}
use Rattle.std.specs.List.{range_with_len}
use Rattle.std.proofs.lemmas.Int.{ints}
use Rattle.npp_frac.specs.Fits.{limit_of}
use Rattle.npp_simplex.specs.CommonForm.{number_in}
use Rattle.npp_simplex.specs.RowOrder.{comes_before, divided}
use Rattle.npp_simplex.proofs.WordPairs.{word_quotient_fits, words_order}
use Rattle.npp_simplex.proofs.line.Line.comes_before.Goals as goal

pub returns-clause-own_fits : goal.returns-clause-own_fits
returns-clause-own_fits g c =
    let above : pos 0 <ℤ number_in c.in_ok-words.words.now c.args.column = grind (arith, ints) in
    word_quotient_fits (limit_of g.N.Exact.WIDTH) c.in_ok-words.words.now c.args.self.now c.in_ok-words.ensures c.args.column above

pub returns-clause-other_fits : goal.returns-clause-other_fits
returns-clause-other_fits g c =
    let above : pos 0 <ℤ number_in c.in_ok-others.others.now c.args.column = grind (arith, ints) in
    word_quotient_fits (limit_of g.N.Exact.WIDTH) c.in_ok-others.others.now c.args.other.now c.in_ok-others.ensures c.args.column above

pub returns-clause-exact : goal.returns-clause-exact
returns-clause-exact g c =
    let xs = c.in_ok-words.words.now in
    let ys = c.in_ok-others.others.now in
    let s = c.args.shape in
    let above : pos 0 <ℤ number_in c.in_ok-words.words.now c.args.column = grind (arith, ints) in
    let under : pos 0 <ℤ number_in c.in_ok-others.others.now c.args.column = grind (arith, ints) in
    let first : FitsSigned w64 (number_in c.in_ok-words.words.now c.args.column) = search rules in
    let second : FitsSigned w64 (number_in c.in_ok-others.others.now c.args.column) = search rules in
    c.keys_before.ensures
    ∙ ap₂ (λ d b. comes_before (divided xs d) (divided ys b) ((s.columns + s.rows + 1) ∷ range_with_len s.columns s.rows)) (to_z-of_z first) (to_z-of_z second)
    ∙ words_order (limit_of g.N.Exact.WIDTH) xs ys c.args.self.now c.args.other.now c.in_ok-words.ensures c.in_ok-others.ensures c.args.column above under ((s.columns + s.rows + 1) ∷ range_with_len s.columns s.rows)
