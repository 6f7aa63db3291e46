-- Numbers of closed covers that are small, and the family of all their paths.
use Rattle.std.specs.Prelude.{◌≡◌, ℕ, ◌-◌, ◌*◌, ◌<◌, ◌≤◌, ◌^◌, List, [], length, slice_index_or, All, true, ◌==◌}
use Rattle.std.proofs.Common.{arith, ap, sym, ◌∙◌, subst, eqb-true, inl, inr}
use Rattle.std.proofs.Math.Nat.{mul-le-mul_left}
use Rattle.std.proofs.lemmas.Bool.{cases_lt}
use Rattle.std.proofs.lemmas.List.{get_or_default}
use Rattle.std.proofs.Math.ListN.{get_or-eq_default}
use Rattle.std.proofs.lemmas.List.Sums.{sum_by-le}
use Rattle.std.proofs.lemmas.List.FromFn.{length-range_with_len, length-map-range_with_len, get_or-map-range_with_len}
use Rattle.npp_net.specs.declared.types.ArcId.{ArcId}
use Rattle.npp_net.specs.declared.types.NetArc.{NetArc}
use Rattle.npp_net.specs.declared.types.Commodity.{Commodity}
use Rattle.npp_net.specs.Network.{Network, IsNetwork, arc_at, no_arc, no_commodity}
use Rattle.npp_net.specs.Walk.{walk_cost}
use Rattle.npp_cover.specs.Paths.{PathValue}
use Rattle.npp_cover.specs.Replaces.{CoverValue, path_at, no_path}
use Rattle.npp_cover.proofs.CoverLaws.{some_path}
use Rattle.npp_rows.specs.PathModel.{PathModel, commodities, cover_at, demand_at, paths, path_count, path_cost, no_cover}
use Rattle.npp_rows.specs.Basic.{basic_of, least_cost}
use Rattle.npp_rows.specs.Caps.{path_model}
use Rattle.npp_rows.specs.Limits.{IsWithinLimits, path_total}
use Rattle.npp_rows.specs.Lowering.{AreClosedCovers, IsClosedCover}
use Rattle.npp_rows.specs.Parts.{IsAllowed, IsPart, all_paths, part_at}
use Rattle.npp_rows.proofs.LimitLaws.{limits_kept}
use Rattle.npp_rows.proofs.ListLaws.{zip_at}
use Rattle.npp_rows.proofs.RelaxationLaws.{all_range}
use Rattle.npp_rows.proofs.ValueLaws.{range_rises}
use Rattle.npp_check.specs.PathLines.{is_walk, is_walk_of}
use Rattle.npp_check.proofs.RuleLemmas.{both}

-- ---- walks

arc_small : (net : Network) → IsNetwork net → (a : ArcId) → (arc_at net.arcs a).cost ≤ 1000000
arc_small net limits a = elim (cases_lt a.0 (length net.arcs)) [
  | inl lt ↦ (limits.each_arc a.0 no_arc lt).cost
  | inr le ↦ (let e : arc_at net.arcs a ≡ no_arc = get_or-eq_default net.arcs no_arc le in let c : (arc_at net.arcs a).cost ≡ 0 = ap (λ (x : NetArc). x.cost) e in omega (arith, c))
]

-- a walk of so few arcs has a cost that can be taken into a sum
pub walk_small : (net : Network) → IsNetwork net → (k : Commodity) (cost : ℕ) (walk : List ArcId) → length walk < 2 ^ 32 → is_walk_of net.arcs k cost walk ≡ true → cost < 2 ^ 63
walk_small net limits k cost walk short e =
    let parts = both (is_walk net.arcs k.origin.0 k.destination.0 walk) (walk_cost net.arcs walk == cost) e in
    let same : walk_cost net.arcs walk ≡ cost = eqb-true (walk_cost net.arcs walk) cost parts.1 in
    let most : walk_cost net.arcs walk ≤ length walk * 1000000 = sum_by-le (λ (a : ArcId). (arc_at net.arcs a).cost) 1000000 walk (λ i d lt. arc_small net limits (slice_index_or walk i d)) in
    omega (arith, same, most, short)

-- ---- covers

module _ (net : Network) (limits : IsNetwork net) (covers : List CoverValue) (closed : AreClosedCovers net covers) (few : path_total covers ≤ 2000) where
  pub are_within : IsWithinLimits (path_model net covers)
  are_within = limits_kept net covers limits closed (omega (arith, few))

  -- each path has a small cost
  pub costs_small : All (λ c. All (λ p. p.cost < 1000000000) c.paths) covers
  costs_small k c lt q p inside =
      let within : IsWithinLimits (path_model net covers) = are_within in
      let same_cover : slice_index_or covers k c ≡ slice_index_or covers k no_cover = get_or_default covers k c no_cover lt in
      let inside_there : q < length (slice_index_or covers k no_cover).paths = subst (λ (x : CoverValue). q < length x.paths) same_cover inside in
      let same_path : slice_index_or (slice_index_or covers k c).paths q p ≡ path_at (slice_index_or covers k no_cover).paths q =
      ap (λ (x : CoverValue). slice_index_or x.paths q p) same_cover ∙ get_or_default (slice_index_or covers k no_cover).paths q p no_path inside_there in
      let cost : (slice_index_or (slice_index_or covers k c).paths q p).cost ≡ path_cost (path_model net covers) k q = ap (λ (x : PathValue). x.cost) same_path in
      omega (arith, cost, within.cost k q, within.free k)

  -- the basic bound is small
  pub basic_small : (parts : List (List ℕ)) → basic_of (path_model net covers) parts < 2 ^ 63
  basic_small parts =
      let within : IsWithinLimits (path_model net covers) = are_within in
      let most : basic_of (path_model net covers) parts ≤ length (commodities (path_model net covers)) * 1000000000000000 =
      sum_by-le (λ k. demand_at (path_model net covers) k * ((cover_at (path_model net covers) k).free - least_cost (path_model net covers) k (part_at parts k))) 1000000000000000 (commodities (path_model net covers))
      (λ i d lt. one_small (slice_index_or (commodities (path_model net covers)) i d)) in
      let size : length (commodities (path_model net covers)) ≡ length covers = length-range_with_len 0 (length covers) in
      omega (arith, most, size, within.commodities)
    where
      times_small : (a b : ℕ) → a ≤ 1000000 → b ≤ 1000000000 → a * b ≤ 1000000000000000
      times_small a b h k =
          let x : a * b ≤ a * 1000000000 = mul-le-mul_left a k in
          let y : a * 1000000000 ≤ 1000000 * 1000000000 = omega (arith, h) in
          omega (arith, x, y)

      one_small : (k : ℕ) → demand_at (path_model net covers) k * ((cover_at (path_model net covers) k).free - least_cost (path_model net covers) k (part_at parts k)) ≤ 1000000000000000
      one_small k =
          let within : IsWithinLimits (path_model net covers) = are_within in
          times_small (demand_at (path_model net covers) k) ((cover_at (path_model net covers) k).free - least_cost (path_model net covers) k (part_at parts k)) (within.demand k) (omega (arith, within.free k))

  -- all paths are allowed
  pub all_are_allowed : IsAllowed (path_model net covers) (all_paths (path_model net covers))
  all_are_allowed =
      let m : PathModel = path_model net covers in
      record {
        size = length-map-range_with_len (paths m) 0 (length covers);
        each = λ k lt.
            let inside : k < length covers = omega (arith, lt, length-map-range_with_len (paths m) 0 (length covers)) in
            let part : part_at (all_paths m) k ≡ paths m k = get_or-map-range_with_len (paths m) 0 (length covers) k k [] inside (omega arith) in
            let cover = zip_at (IsClosedCover net.arcs) net.commodities covers no_commodity no_cover k closed inside in
            let is : IsPart (path_count m k) (paths m k) = record {
              some = (let some : 0 < path_count m k = some_path net.arcs (slice_index_or net.commodities k no_commodity) cover.0 (slice_index_or covers k no_cover) cover.2 in omega (arith, some, length-range_with_len 0 (path_count m k)));
              rising = range_rises 0 (path_count m k);
              in_range = all_range (λ p. p < path_count m k) (path_count m k) (λ j l. l);
            } in
            subst (IsPart (path_count m k)) (sym part) is;
      }
