use Rattle.std.proofs.Common.{◌≡◌, ◌+◌, length, sym, ap, ◌∙◌, arith}
use Rattle.std.proofs.lemmas.List.{length-map}
use Rattle.npp_cover.specs.PathValue.{path_value}
use Rattle.npp_rows.specs.PathModel.{path_count}
use Rattle.npp_rows.proofs.ConflictLaws.{conflict_cap_found, conflict_first_found, conflict_second_found}
use Rattle.npp_rows.proofs.conflict.conflict_place.Goals as goal

pub returns-in-Cap : goal.returns-in-Cap
returns-in-Cap c = rw c.in-Cap.is (conflict_cap_found c.args.table.now c.args.two.k c.args.two.p c.args.two.l c.args.two.q c.in-Cap.a c.tolls.result c.place_from.result c.tolls.ensures.count c.place_from.ensures)

pub returns-in-Follow : goal.returns-in-Follow
returns-in-Follow c =
    let count : length c.paths.result.now ≡ path_count c.args.table.now c.args.two.k = sym (length-map c.paths.result.now path_value) ∙ ap length c.paths.ensures.paths in
    rw (c.in-Follow.is, c.if-c-two.true)
    (conflict_first_found c.args.table.now c.args.two.k c.args.two.p c.args.two.l c.args.two.q c.requires c.in-Follow.q c.tolls-in-Follow.result (length c.paths.result.now) c.place_from-in-Follow.result c.tolls-in-Follow.ensures.count count c.place_from-in-Follow.ensures)

pub returns-in-Follow-2 : goal.returns-in-Follow-2
returns-in-Follow-2 c =
    let count : length c.paths.result.now ≡ path_count c.args.table.now c.args.two.k = sym (length-map c.paths.result.now path_value) ∙ ap length c.paths.ensures.paths in
    let other : length c.paths-in-Follow-2.result.now ≡ path_count c.args.table.now c.args.two.l = sym (length-map c.paths-in-Follow-2.result.now path_value) ∙ ap length c.paths-in-Follow-2.ensures.paths ∙ ap (path_count c.args.table.now) c.if-c-two-2.true in
    let base : c.tolls-in-Follow-2.result + length c.paths.result.now ≡ length c.args.table.now.caps + path_count c.args.table.now c.args.two.k = omega (arith, c.tolls-in-Follow-2.ensures.count, count) in
    rw (c.in-Follow-2.is, c.if-c-two-2.true)
    (conflict_second_found c.args.table.now c.args.two.k c.args.two.p c.args.two.l c.args.two.q c.requires c.in-Follow-2.q (c.tolls-in-Follow-2.result + length c.paths.result.now) (length c.paths-in-Follow-2.result.now) c.place_from-in-Follow-2.result base other c.place_from-in-Follow-2.ensures)
