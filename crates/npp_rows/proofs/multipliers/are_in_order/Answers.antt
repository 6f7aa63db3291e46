use Rattle.std.proofs.Common.{◌≡◌, ◌<◌, ◌≤◌, length, map, get_or, sym, ap, ◌∙◌, refl}
use Rattle.std.proofs.lemmas.List.{length-map, get_or-map}
use Rattle.npp_rows.specs.declared.names.Multiplier.{Multiplier}
use Rattle.npp_rows.specs.RowOrder.{is_before, are_rising}
use Rattle.npp_rows.specs.Meaning.{multiplier_value}
use Rattle.npp_rows.proofs.ListLaws.{map_twice}
use Rattle.npp_rows.proofs.TakenLaws.{rises_more, rises_no_more, rises_whole}
use Rattle.npp_rows.proofs.multipliers.are_in_order.Goals as goal

pub loop-multiplier-init : goal.loop-multiplier-init
loop-multiplier-init g c = (refl, refl)

pub returns-then-not-is_after : goal.returns-then-not-is_after
returns-then-not-is_after g c =
    let rows = map (λ (y : Multiplier g.row.N.Denot). y.row) c.args.multipliers.now in
    let i = c.loop-multiplier.multiplier-index in
    let y = c.multiplier-item.result in
    let inside : c.loop-multiplier.multiplier-index < length (map (λ (y : Multiplier g.row.N.Denot). y.row) c.args.multipliers.now) = rw length-map c.loop-multiplier-test.true in
    let is : c.multiplier-item.result.row ≡ get_or (map (λ (y : Multiplier g.row.N.Denot). y.row) c.args.multipliers.now) c.loop-multiplier.multiplier-index c.multiplier-item.result.row =
    ap (λ (z : Multiplier g.row.N.Denot). z.row) c.multiplier-item.is ∙ sym (get_or-map (λ (y : Multiplier g.row.N.Denot). y.row) c.args.multipliers.now i y y.row c.loop-multiplier-test.true) in
    rises_no_more is_before rows i y.row c.loop-multiplier.last inside is (sym c.is_after.ensures ∙ c.if-not-is_after.true) c.loop-multiplier.invariant
    ∙ ap (are_rising is_before) (map_twice (λ z. z.row) (multiplier_value g.N.Exact.rational) c.args.multipliers.now)

pub loop-multiplier-preserved : goal.loop-multiplier-preserved
loop-multiplier-preserved g c =
    let rows = map (λ (y : Multiplier g.row.N.Denot). y.row) c.args.multipliers.now in
    let i = c.loop-multiplier.multiplier-index in
    let y = c.multiplier-item.result in
    let inside : c.loop-multiplier.multiplier-index < length (map (λ (y : Multiplier g.row.N.Denot). y.row) c.args.multipliers.now) = rw length-map c.loop-multiplier-test.true in
    let is : c.multiplier-item.result.row ≡ get_or (map (λ (y : Multiplier g.row.N.Denot). y.row) c.args.multipliers.now) c.loop-multiplier.multiplier-index c.multiplier-item.result.row =
    ap (λ (z : Multiplier g.row.N.Denot). z.row) c.multiplier-item.is ∙ sym (get_or-map (λ (y : Multiplier g.row.N.Denot). y.row) c.args.multipliers.now i y y.row c.loop-multiplier-test.true) in
    rises_more is_before rows i y.row c.loop-multiplier.last inside is (sym c.is_after.ensures ∙ c.if-not-is_after.false) c.loop-multiplier.invariant

pub returns : goal.returns
returns g c =
    let all : length (map (λ (y : Multiplier g.row.N.Denot). y.row) c.args.multipliers.now) ≤ c.loop-multiplier.multiplier-index = rw length-map c.loop-multiplier-test.false in
    rises_whole is_before (map (λ (y : Multiplier g.row.N.Denot). y.row) c.args.multipliers.now) c.loop-multiplier.multiplier-index c.loop-multiplier.last all c.loop-multiplier.invariant
    ∙ ap (are_rising is_before) (map_twice (λ z. z.row) (multiplier_value g.N.Exact.rational) c.args.multipliers.now)
