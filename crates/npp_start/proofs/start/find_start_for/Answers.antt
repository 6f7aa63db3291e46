use Rattle.std.proofs.Common.{◌≡◌, List, ℕ, length, map, replicate, ap, ◌∙◌, sym, subst}
use Rattle.std.proofs.lemmas.List.{length-map}
use Rattle.std.proofs.lemmas.Result.{IfOk-weaker}
use Rattle.npp_frac.specs.Fits.{limit_of}
use Rattle.npp_rows.specs.Rows.{IsChoice}
use Rattle.npp_inverse.specs.declared.best.Best.{Best}
use Rattle.npp_inverse.specs.Best.{best_ending, IsProvedBest}
use Rattle.npp_rows.proofs.PointLaws.{columns_are}
use Rattle.npp_start.specs.declared.start.Start.{Start}
use Rattle.npp_start.proofs.StartLaws.{found_tolls, zero_is_choice, found_fits}
use Rattle.npp_start.proofs.start.find_start_for.Goals as goal

pub best_tolls_for-requires-clause-choice : goal.best_tolls_for-requires-clause-choice
best_tolls_for-requires-clause-choice g c =
    subst (λ (choice : List ℕ). IsChoice c.args.table.now choice) (sym (c.deref.ensures.value ∙ c.in_ok-choice.ensures ∙ ap (λ n. replicate n 0) c.commodities.ensures.count))
    (zero_is_choice c.args.table.now c.requires)

pub returns-in-Found-clause-tolls : goal.returns-in-Found-clause-tolls
returns-in-Found-clause-tolls g c =
    let ends = ap (best_ending g.N.Exact.rational) (sym c.in-Found.is) ∙ c.in_ok-tolls.ensures.work in
    found_tolls (limit_of g.N.Exact.WIDTH) c.args.table.now _ _ (c.deref.ensures.value ∙ c.in_ok-choice.ensures ∙ ap (λ n. replicate n 0) c.commodities.ensures.count) ends

pub returns-in-Found-clause-size : goal.returns-in-Found-clause-size
returns-in-Found-clause-size g c =
    let v = g.N.Exact.rational in
    let shown = subst (λ (b : Best g.row.N.Denot). IsProvedBest v c.args.table.now c.deref.result.now b) c.in-Found.is c.in_ok-tolls.ensures.proved in
    sym (length-map c.in-Found.tolls v) ∙ shown.point.size ∙ columns_are c.args.table.now c.deref.result.now

pub returns-in-Found-clause-fits : goal.returns-in-Found-clause-fits
returns-in-Found-clause-fits g c =
    let v = g.N.Exact.rational in
    let ends = ap (best_ending v) (sym c.in-Found.is) ∙ c.in_ok-tolls.ensures.work in
    found_fits (limit_of g.N.Exact.WIDTH) c.args.table.now c.deref.result.now (map v c.in-Found.tolls) (map v c.in-Found.y.items) (v c.in-Found.value) ends

pub returns-in-NoTolls-clause-tolls : goal.returns-in-NoTolls-clause-tolls
returns-in-NoTolls-clause-tolls g c =
    let ends = ap (best_ending g.N.Exact.rational) (sym c.in-NoTolls.is) ∙ c.in_ok-tolls.ensures.work in
    let choice = c.deref.ensures.value ∙ c.in_ok-choice.ensures ∙ ap (λ n. replicate n 0) c.commodities.ensures.count in
    IfOk-weaker c.without_tolls.result _ _ (λ (s : Start g.row.N.Denot) zero. zero ∙ found_tolls (limit_of g.N.Exact.WIDTH) c.args.table.now _ _ choice ends) c.without_tolls.ensures.tolls

pub returns-clause-tolls : goal.returns-clause-tolls
returns-clause-tolls g c =
    let ends = ap (best_ending g.N.Exact.rational) (sym c.in-Loud.is) ∙ c.in_ok-tolls.ensures.work in
    let choice = c.deref.ensures.value ∙ c.in_ok-choice.ensures ∙ ap (λ n. replicate n 0) c.commodities.ensures.count in
    IfOk-weaker c.without_tolls-in-Loud.result _ _ (λ (s : Start g.row.N.Denot) zero. zero ∙ found_tolls (limit_of g.N.Exact.WIDTH) c.args.table.now _ _ choice ends) c.without_tolls-in-Loud.ensures.tolls
