use Rattle.std.proofs.Common.{◌-◌, ◌<◌, ℕ, List, length, get_or, sym, ap, ap₂, ◌∙◌, arith}
use Rattle.std.proofs.lemmas.List.{get_or_default}
use Rattle.npp_rows.specs.PathModel.{PathModel}
use Rattle.npp_rows.specs.Family.{share_count}
use Rattle.npp_rows.proofs.StartLaws.{sum_push}
use Rattle.npp_rows.proofs.ShareLaws.{share_named}
use Rattle.npp_rows.proofs.index.RelaxationIndex.share_at.Goals as goal

pub commodity_of-k-requires : goal.commodity_of-k-requires
commodity_of-k-requires c =
    let tolls = c.tolls.ensures.count ∙ ap (λ (m : PathModel). length m.caps) c.table.ensures.same in
    omega (arith, c.requires.low, c.requires.high, tolls)

pub bounds-part-place : goal.bounds-part-place
bounds-part-place c =
    let k = c.commodity_of-k.result in
    omega (arith, c.shares_below.ensures.value, c.commodity_of-k.ensures.low, c.commodity_of-k.ensures.high, sum_push (share_count c.args.self.now.parts) k, ap length c.part-part.ensures.part)

pub returns : goal.returns
returns c =
    let m = c.args.self.now.paths in
    let parts = c.args.self.now.parts in
    let k = c.commodity_of-k.result in
    let place : ℕ = c.args.column - c.tolls.result in
    let i : ℕ = c.args.column - c.tolls.result - c.shares_below.result in
    let p : ℕ = get_or c.part-part.result.now (c.args.column - c.tolls.result - c.shares_below.result) 0 in
    let tolls = c.tolls.ensures.count ∙ ap (λ (m : PathModel). length m.caps) c.table.ensures.same in
    let inside : c.args.column - c.tolls.result - c.shares_below.result < length c.part-part.result.now =
    omega (arith, c.shares_below.ensures.value, c.commodity_of-k.ensures.low, c.commodity_of-k.ensures.high, sum_push (share_count c.args.self.now.parts) k, ap length c.part-part.ensures.part) in
    let is = ap₂ (λ (xs : List ℕ) (s : ℕ). get_or xs (c.args.column - c.tolls.result - s) p) (sym c.part-part.ensures.part) (sym c.shares_below.ensures.value) ∙ get_or_default c.part-part.result.now i p 0 inside in
    sym (share_named m parts c.args.column k place p c.commodity_of-k.ensures.inside (omega (arith, c.requires.low, tolls)) c.commodity_of-k.ensures.low c.commodity_of-k.ensures.high is)
