use Rattle.std.proofs.Common.{◌≡◌, ◌<◌, length, ap, sym, ◌∙◌, arith}
use Rattle.npp_frac.specs.Fits.{limit_of}
use Rattle.npp_lp.specs.RunningSums.{sums_meant, with_term}
use Rattle.npp_lp.specs.RowSums.{term_taken}
use Rattle.npp_lp.proofs.running.RunningSums.add_entry.Goals as goal

pub returns : goal.returns
returns g c =
    let v = g.N.Exact.rational in
    let m = limit_of g.N.Exact.WIDTH in
    let size : length c.args.self.now.columns ≡ length c.self.inside.columns.items = ap (λ s. length s.columns) (sym c.self.view_is) in
    let within : c.args.column < length c.self.inside.columns.items = omega arith in
    term_taken v m (record { negative = c.self.inside.negative; columns = c.self.inside.columns.items; right = c.self.inside.right }) c.index-sum.result.now c.joined.result c.args.column (v c.args.value) (v c.args.multiplier) within c.index-sum.ensures c.joined.ensures
    ∙ ap (λ s. with_term m (sums_meant v s) (record { column = c.args.column; value = v c.args.value }) (v c.args.multiplier)) c.self.view_is
