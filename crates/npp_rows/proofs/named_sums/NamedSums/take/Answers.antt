use Rattle.std.proofs.Common.{◌≡◌, None, length, map, sym, ap, ◌∙◌}
use Rattle.std.proofs.lemmas.List.{length-map}
use Rattle.npp_frac.specs.Fits.{limit_of}
use Rattle.npp_rows.specs.Places.{row_place}
use Rattle.npp_rows.specs.Meaning.{cut_value, multiplier_value}
use Rattle.npp_rows.specs.Relax.{relaxation, relaxation_rows}
use Rattle.npp_rows.specs.Taken.{Taken, next_fault}
use Rattle.npp_rows.proofs.TakenLaws.{one_taken}
use Rattle.npp_rows.proofs.named_sums.NamedSums.take.Goals as goal

pub returns-clause-fault : goal.returns-clause-fault
returns-clause-fault g c =
    let v = g.N.Exact.rational in
    let rows = relaxation_rows c.args.index.now.paths c.args.index.now.parts (length (map (cut_value v) c.args.cuts.now)) in
    let place : c.row_place.result ≡ row_place (relaxation_rows c.args.index.now.paths c.args.index.now.parts (length (map (cut_value v) c.args.cuts.now))) c.args.multiplier.row =
    c.row_place.ensures.place ∙ ap (λ n. row_place (relaxation_rows c.args.index.now.paths c.args.index.now.parts n) c.args.multiplier.row) (sym (length-map c.args.cuts.now (cut_value v))) in
    ap (λ (t : Taken g.row.N.Denot). next_fault rows t.last (multiplier_value v c.args.multiplier)) (sym c.self.view_is) ∙ (c.in_ok-place.ensures rows place).1

pub returns-clause-taken : goal.returns-clause-taken
returns-clause-taken g c = λ ys are.
    let v = g.N.Exact.rational in
    one_taken v (limit_of g.N.Exact.WIDTH) (relaxation c.args.index.now.paths c.args.index.now.parts (map (cut_value v) c.args.cuts.now)) ys (multiplier_value v c.args.multiplier) c.args.self.now c.add.new.self
    (returns-clause-fault g c) (c.in_ok-add.ensures.sums ys are.added) are
