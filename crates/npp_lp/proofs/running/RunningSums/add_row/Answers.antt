use Rattle.std.proofs.Common.{◌≡◌, ◌+◌, ◌<◌, ◌++◌, ◌∷◌, [], length, take, subst, ap, sym, ◌∙◌, take_all, arith}
use Rattle.std.proofs.lemmas.List.{take_more, map-append, length-map}
use Rattle.std.proofs.lemmas.List.Sums.{fold-append}
use Rattle.npp_frac.specs.Fits.{limit_of}
use Rattle.npp_lp.specs.Meaning.{term_of, terms_of, sum_result}
use Rattle.npp_lp.specs.ReadingLaws.{rise_meant, in_range_meant, in_range_at}
use Rattle.npp_lp.specs.RunningSums.{sums_meant, with_term, with_terms, with_right, TakesRow}
use Rattle.npp_lp.specs.RowSums.{meant_fit, size_kept, row_taken}
use Rattle.npp_lp.proofs.running.RunningSums.add_row.Goals as goal

pub add_entry-requires : goal.add_entry-requires
add_entry-requires g c =
    let v = g.N.Exact.rational in
    let within : c.entry-item.result.column < length c.args.self.now.columns = in_range_at (length c.args.self.now.columns) c.args.entries.now c.loop-entry.entry-index c.entry-item.result c.requires.in_range c.loop-entry-test.true c.entry-item.is in
    let size : length (sums_meant v c.loop-entry.self).columns ≡ length (sums_meant v c.args.self.now).columns = ap (λ s. length s.columns) c.loop-entry.invariant ∙ size_kept g.N.Exact.WIDTH g.met.N.Exact.width (v c.args.multiplier) (terms_of v (take c.loop-entry.entry-index c.args.entries.now)) (sums_meant v c.args.self.now) in
    omega (arith, length-map c.loop-entry.self.columns (sum_result v), length-map c.args.self.now.columns (sum_result v))

pub loop-entry-preserved : goal.loop-entry-preserved
loop-entry-preserved g c =
    let v = g.N.Exact.rational in
    let m = limit_of g.N.Exact.WIDTH in
    let y = v c.args.multiplier in
    let k = c.loop-entry.entry-index in
    let start = sums_meant v c.args.self.now in
    let more : terms_of v (take (k + 1) c.args.entries.now) ≡ terms_of v (take k c.args.entries.now) ++ term_of v c.entry-item.result ∷ [] =
    ap (terms_of v) (take_more c.args.entries.now k c.entry-item.result c.loop-entry-test.true ∙ ap (λ e. take k c.args.entries.now ++ e ∷ []) (sym c.entry-item.is)) ∙ map-append (term_of v) (take k c.args.entries.now) (c.entry-item.result ∷ []) in
    c.add_entry.ensures
    ∙ ap (λ s. with_term m s (term_of v c.entry-item.result) y) c.loop-entry.invariant
    ∙ sym (fold-append (λ s t. with_term m s t y) start (terms_of v (take k c.args.entries.now)) (term_of v c.entry-item.result ∷ []))
    ∙ ap (λ ts. with_terms m start ts y) (sym more)

pub returns : goal.returns
returns g c =
    let v = g.N.Exact.rational in
    let m = limit_of g.N.Exact.WIDTH in
    let y = v c.args.multiplier in
    let start = sums_meant v c.args.self.now in
    let all : take c.loop-entry.entry-index c.args.entries.now ≡ c.args.entries.now = take_all c.loop-entry.entry-index c.args.entries.now c.loop-entry-test.false in
    let done : sums_meant v c.end_row.new.self ≡ with_right m (with_terms m start (terms_of v c.args.entries.now) y) c.args.row (v c.args.right) y =
    c.end_row.ensures ∙ ap (λ s. with_right m s c.args.row (v c.args.right) y) (c.loop-entry.invariant ∙ ap (λ es. with_terms m start (terms_of v es) y) all) in
    subst (λ t. TakesRow m start t c.args.row (terms_of v c.args.entries.now) (v c.args.right) y) (sym done)
    (row_taken g.N.Exact.WIDTH g.met.N.Exact.width y start c.args.row (terms_of v c.args.entries.now) (v c.args.right) (rise_meant v c.args.entries.now c.requires.rising)
    (in_range_meant v (length start.columns) c.args.entries.now (rw (length-map c.args.self.now.columns (sum_result v)) c.requires.in_range)) (meant_fit v m g.met.N.Exact.fits c.args.self.now))
