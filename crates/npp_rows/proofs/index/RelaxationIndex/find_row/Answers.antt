use Rattle.std.proofs.Common.{◌≡◌, ◌+◌, length, ap, ◌∙◌, arith}
use Rattle.npp_rows.specs.PathModel.{PathModel}
use Rattle.npp_rows.specs.Rows.{pairs_from}
use Rattle.npp_rows.proofs.FoundLaws.{cap_found, follow_found, below_found, use_found, link_found, one_found, low_found, cut_found}
use Rattle.npp_rows.proofs.index.RelaxationIndex.find_row.Goals as goal

pub returns-in-Cap : goal.returns-in-Cap
returns-in-Cap c =
    rw c.in-Cap.is
    (cap_found c.args.self.now.paths c.args.self.now.parts c.args.cuts c.in-Cap.a c.tolls.result c.place_from.result (c.tolls.ensures.count ∙ ap (λ (m : PathModel). length m.caps) c.table-in-Cap.ensures.same) c.place_from.ensures)

pub returns-in-Follow : goal.returns-in-Follow
returns-in-Follow c =
    rw c.in-Follow.is
    (follow_found c.args.self.now.paths c.args.self.now.parts c.args.cuts c.in-Follow.k c.in-Follow.q c.follow_place.result (rw c.table-in-Follow.ensures.same at c.follow_place.ensures.place))

pub returns-in-Below : goal.returns-in-Below
returns-in-Below c = rw c.in-Below.is (below_found c.args.self.now.paths c.args.self.now.parts c.args.cuts c.in-Below.a c.in-Below.k c.pair_place.result c.pair_place.ensures)

pub returns-in-Use : goal.returns-in-Use
returns-in-Use c = rw c.in-Use.is (use_found c.args.self.now.paths c.args.self.now.parts c.args.cuts c.in-Use.a c.in-Use.k c.pair_place-in-Use.result c.pair_place-in-Use.ensures)

pub returns-in-Link : goal.returns-in-Link
returns-in-Link c = rw c.in-Link.is (link_found c.args.self.now.paths c.args.self.now.parts c.args.cuts c.in-Link.a c.in-Link.k c.pair_place-in-Link.result c.pair_place-in-Link.ensures)

pub returns-in-One : goal.returns-in-One
returns-in-One c =
    let count : c.commodities-commodities.result ≡ length c.args.self.now.paths.covers = c.commodities-commodities.ensures.count ∙ ap (λ (m : PathModel). length m.covers) c.table.ensures.same in
    rw c.in-One.is
    (one_found c.args.self.now.paths c.args.self.now.parts c.args.cuts c.in-One.k c.first_pair.result c.commodities-commodities.result c.place_from-in-One.result c.first_pair.ensures.value count c.place_from-in-One.ensures)

pub returns-in-OneLow : goal.returns-in-OneLow
returns-in-OneLow c =
    let count : c.commodities-commodities.result ≡ length c.args.self.now.paths.covers = c.commodities-commodities.ensures.count ∙ ap (λ (m : PathModel). length m.covers) c.table.ensures.same in
    let base : c.first_pair-in-OneLow.result + c.commodities-commodities.result ≡ pairs_from c.args.self.now.paths c.args.self.now.parts 3 + length c.args.self.now.paths.covers = omega (arith, c.first_pair-in-OneLow.ensures.value, count) in
    rw c.in-OneLow.is
    (low_found c.args.self.now.paths c.args.self.now.parts c.args.cuts c.in-OneLow.k (c.first_pair-in-OneLow.result + c.commodities-commodities.result) c.commodities-commodities.result c.place_from-in-OneLow.result base count c.place_from-in-OneLow.ensures)

pub returns-in-Cut : goal.returns-in-Cut
returns-in-Cut c =
    let count : c.commodities-commodities.result ≡ length c.args.self.now.paths.covers = c.commodities-commodities.ensures.count ∙ ap (λ (m : PathModel). length m.covers) c.table.ensures.same in
    let base : c.first_pair-in-Cut.result + c.commodities-commodities.result + c.commodities-commodities.result ≡ pairs_from c.args.self.now.paths c.args.self.now.parts 3 + length c.args.self.now.paths.covers + length c.args.self.now.paths.covers =
    omega (arith, c.first_pair-in-Cut.ensures.value, count) in
    rw c.in-Cut.is
    (cut_found c.args.self.now.paths c.args.self.now.parts c.args.cuts c.in-Cut.i (c.first_pair-in-Cut.result + c.commodities-commodities.result + c.commodities-commodities.result) c.place_from-in-Cut.result base c.place_from-in-Cut.ensures)
