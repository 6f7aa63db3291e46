use Rattle.std.proofs.Common.{◌≡◌, ◌++◌, length, drop, take, None, Ok, refl, ap, sym, subst, arith}
use Rattle.std.proofs.Math.Seq.{take-append_seam}
use Rattle.npp_lp.specs.RunningSums.{AreEmpty, sums_meant}
use Rattle.npp_lp.specs.RowSums.{all_empty}
use Rattle.npp_lp.proofs.running.RunningSums.clear.Goals as goal

pub returns : goal.returns
returns g c =
    let v = g.N.Exact.rational in
    let size : length c.args.self.now.columns ≡ length c.self.inside.columns.items = ap (λ s. length s.columns) (sym c.self.view_is) in
    let all : length c.empty.new.sums ≡ c.self.inside.columns.len = omega arith in
    let written : take c.self.inside.columns.len (c.empty.new.sums ++ drop (length c.empty.new.sums) c.self.inside.columns.items) ≡ c.empty.new.sums = rw (← all) (take-append_seam c.empty.new.sums (drop (length c.empty.new.sums) c.self.inside.columns.items)) in
    subst (λ xs. AreEmpty (length c.args.self.now.columns) (sums_meant v (record { negative = None; columns = xs; right = Ok c.of_whole.result }))) (sym written)
    (all_empty v (length c.args.self.now.columns) (record { negative = None; columns = c.empty.new.sums; right = Ok c.of_whole.result })
    (omega arith) c.empty.ensures refl (ap Ok c.of_whole.ensures))
