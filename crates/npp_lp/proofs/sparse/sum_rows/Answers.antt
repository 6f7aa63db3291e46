use Rattle.std.proofs.Common.{◌≡◌, ℕ, ◌<◌, ◌+◌, ◌++◌, ◌∷◌, [], List, length, get_or, take, subst, ap, sym, ◌∙◌, All}
use Rattle.std.proofs.lemmas.List.{take_more, map-append, length-map}
use Rattle.npp_frac.specs.Rational.{Rational}
use Rattle.npp_frac.specs.Fits.{limit_of}
use Rattle.npp_lp.specs.declared.multiplier.RowMultiplier.{RowMultiplier}
use Rattle.npp_lp.specs.Programs.{row_of}
use Rattle.npp_lp.specs.ProgramOver.{rights_of}
use Rattle.npp_lp.specs.Meaning.{terms_of, sum_result, linear_program}
use Rattle.npp_lp.specs.ReadingLaws.{rise_of_terms, in_range_of_terms, row_terms, terms_of_row, right_of_row, read_right, length-rights_of}
use Rattle.npp_lp.specs.Sparse.{multipliers_meant}
use Rattle.npp_lp.specs.RunningSums.{sums_meant, TakesRow, AreSumsOf}
use Rattle.npp_lp.specs.RunningSumsLaws.{sums_of_more}
use Rattle.npp_lp.proofs.sparse.sum_rows.Goals as goal

-- a named row is a row
named : {N : Type 0} → (n : ℕ) (ys : List (RowMultiplier N)) (k : ℕ) (y : RowMultiplier N) → All (λ z. z.row < n) ys → k < length ys → y ≡ get_or ys k y → y.row < n
named {N} n ys k y all l is = let P : RowMultiplier N → Type 0 = λ z. z.row < n in subst P (sym is) (all k y l)

pub add_row-requires-clause-rising : goal.add_row-requires-clause-rising
add_row-requires-clause-rising g c =
    let v = g.N.Exact.rational in
    let within = named (length c.args.program.now.rows) c.args.multipliers.now c.loop-place.place c.index-multipliers-place.result c.requires.rows.in_range c.loop-place-test.true c.index-multipliers-place.is in
    let terms = row_terms v c.args.program.now c.index-multipliers-place.result.row c.row.result.now c.row_count-rows.ensures.form within c.row.ensures in
    rise_of_terms v c.row.result.now terms.rising

pub add_row-requires-clause-in_range : goal.add_row-requires-clause-in_range
add_row-requires-clause-in_range g c =
    let v = g.N.Exact.rational in
    let within = named (length c.args.program.now.rows) c.args.multipliers.now c.loop-place.place c.index-multipliers-place.result c.requires.rows.in_range c.loop-place-test.true c.index-multipliers-place.is in
    let terms = row_terms v c.args.program.now c.index-multipliers-place.result.row c.row.result.now c.row_count-rows.ensures.form within c.row.ensures in
    let size : length c.loop-place.sums.columns ≡ c.args.program.now.columns = sym (length-map c.loop-place.sums.columns (sum_result v)) ∙ c.loop-place.invariant.size in
    rw size (in_range_of_terms v c.args.program.now.columns c.row.result.now terms.in_range)

pub loop-place-preserved : goal.loop-place-preserved
loop-place-preserved g c =
    let v = g.N.Exact.rational in
    let m = limit_of g.N.Exact.WIDTH in
    let p = linear_program v c.args.program.now in
    let k = c.loop-place.place in
    let y : RowMultiplier Rational = record { row = c.index-multipliers-place.result.row; value = v c.index-multipliers-place.result.value } in
    let within : y.row < length c.args.program.now.rows = named (length c.args.program.now.rows) c.args.multipliers.now k c.index-multipliers-place.result c.requires.rows.in_range c.loop-place-test.true c.index-multipliers-place.is in
    let s = sums_meant v c.loop-place.sums in
    let t = sums_meant v c.add_row.new.self in
    let terms : (row_of p y.row).terms ≡ terms_of v c.row.result.now = terms_of_row v c.args.program.now y.row c.row.result.now c.row.ensures in
    let right : (row_of p y.row).right ≡ v c.index-right-row.result =
    right_of_row v c.args.program.now y.row ∙ read_right v c.right.result.now (rights_of c.args.program.now) y.row c.index-right-row.result c.right.ensures (rw c.right.ensures (rw (length-rights_of v c.args.program.now) within)) c.index-right-row.is in
    let takes : TakesRow m s t y.row (row_of p y.row).terms (row_of p y.row).right y.value =
    subst (λ ts. TakesRow m s t y.row ts (row_of p y.row).right y.value) (sym terms) (subst (λ b. TakesRow m s t y.row (terms_of v c.row.result.now) b y.value) (sym right) c.add_row.ensures) in
    let more : multipliers_meant v (take (k + 1) c.args.multipliers.now) ≡ multipliers_meant v (take k c.args.multipliers.now) ++ y ∷ [] =
    ap (multipliers_meant v) (take_more c.args.multipliers.now k c.index-multipliers-place.result c.loop-place-test.true ∙ ap (λ z. take k c.args.multipliers.now ++ z ∷ []) (sym c.index-multipliers-place.is)) ∙ map-append _ (take k c.args.multipliers.now) (c.index-multipliers-place.result ∷ []) in
    subst (λ ys. AreSumsOf m p ys t) (sym more) (sums_of_more m p (multipliers_meant v (take k c.args.multipliers.now)) y s t c.loop-place.invariant takes)
