use Rattle.std.proofs.Common.{◌≡◌, None, sym, ap, ◌∙◌}
use Rattle.npp_frac.specs.Fits.{limit_of}
use Rattle.npp_rows.specs.Meaning.{multiplier_value}
use Rattle.npp_rows.specs.Inverse.{inverse}
use Rattle.npp_rows.specs.Taken.{Taken, next_fault}
use Rattle.npp_rows.proofs.TakenLaws.{one_taken}
use Rattle.npp_rows.proofs.named_sums.NamedSums.take_for_choice.Goals as goal

pub returns-clause-taken : goal.returns-clause-taken
returns-clause-taken g c = λ ys are.
    let v = g.N.Exact.rational in
    let none : next_fault (inverse c.args.table.now c.args.choice.now).rows c.args.self.now.last (multiplier_value v c.args.multiplier) ≡ None =
    ap (λ (t : Taken g.row.N.Denot). next_fault (inverse c.args.table.now c.args.choice.now).rows t.last (multiplier_value v c.args.multiplier)) (sym c.self.view_is)
    ∙ (c.in_ok-place.ensures (inverse c.args.table.now c.args.choice.now).rows (c.choice_row_place.ensures.place c.args.choice.now)).1 in
    one_taken v (limit_of g.N.Exact.WIDTH) (inverse c.args.table.now c.args.choice.now) ys (multiplier_value v c.args.multiplier) c.args.self.now c.add_for_choice.new.self
    none (c.in_ok-add_for_choice.ensures.sums ys are.added) are
