use Rattle.std.proofs.Common.{◌≡◌, ◌+◌, ◌*◌, length, map, nat_lt, sym, ap₂, ◌∙◌, arith}
use Rattle.std.proofs.lemmas.List.{length-map}
use Rattle.npp_rows.specs.Meaning.{cut_value}
use Rattle.npp_rows.specs.Relax.{relaxation_rows}
use Rattle.npp_rows.proofs.SizeLaws.{rows_size}
use Rattle.npp_rows.proofs.ProgramLaws.{columns_size}
use Rattle.npp_rows.proofs.index.RelaxationIndex.is_large.Goals as goal

pub returns : goal.returns
returns g c =
    let m = c.args.self.now.paths in
    let parts = c.args.self.now.parts in
    let same = c.table-table.ensures.same in
    let cuts = map (cut_value g.N.Exact.rational) c.args.cuts.now in
    let few : length cuts ≡ length c.args.cuts.now = simp length-map in
    let count : c.commodities-commodities.result ≡ length c.args.self.now.paths.covers = rw same at c.commodities-commodities.ensures.count in
    let tolls : c.tolls.result ≡ length c.args.self.now.paths.caps = rw same at c.tolls.ensures.count in
    let below = rw (same, count) at c.paths_below.ensures.value in
    let paid = rw count at c.paid_below.ensures.value in
    let rows : c.tolls.result + c.paths_below.result + 3 * c.paid_below.result + 2 * c.commodities-commodities.result + length c.args.cuts.now ≡ length (relaxation_rows m parts (length cuts)) =
    omega (arith, tolls, below, paid, count, few, rows_size m parts (length cuts)) in
    let columns = (rw count at c.first_paid.ensures.value) ∙ sym (columns_size m parts) in
    c.are_too_many.ensures ∙ ap₂ (λ r k. nat_lt 1000000 (r * k)) rows columns
