-- The useful paths of an instance keep its limits.
use Rattle.std.proofs.Common.{◌≡◌, inl, inr, ℕ, suc, ◌-◌, ◌<◌, ◌≤◌, max, List, [], ◌∷◌, length, map, fold, get_or, true, false, Bool, cond, Option, Some, None, refl, arith, All}
use Rattle.std.specs.List.{flat_map}
use Rattle.std.proofs.Math.ListN.{get_or-eq_default}
use Rattle.std.proofs.lemmas.Bool.{cases_lt}
use Rattle.std.proofs.lemmas.List.{length-map, get_or_default}
use Rattle.std.specs.Int.{bit_at}
use Rattle.std.specs.Prelude.{◌==◌}
use Rattle.std.proofs.lemmas.List.FromFn.{get_or-map-range_with_len, length-map-range_with_len}
use Rattle.std.proofs.lemmas.List.Sums.{fold-append}
use Rattle.npp_net.specs.declared.types.Commodity.{Commodity}
use Rattle.npp_net.specs.Network.{Network, IsNetwork, no_commodity, toll_count, ceiling_of}
use Rattle.npp_cover.specs.Paths.{PathValue}
use Rattle.npp_cover.specs.Replaces.{CoverValue, no_path}
use Rattle.npp_rows.specs.PathModel.{no_cover, demand_at, cap_at, path_cost}
use Rattle.npp_cover.specs.Caps.{within_ceiling}
use Rattle.npp_rows.specs.Caps.{path_model, toll_gap, greatest_gap, toll_cap, toll_caps}
use Rattle.npp_rows.specs.Limits.{IsWithinLimits, path_total}
use Rattle.npp_rows.specs.Lowering.{AreClosedCovers, IsClosedCover}
use Rattle.npp_rows.proofs.ListLaws.{zip_at}
use Rattle.npp_rows.proofs.ModelLaws.{covers_size, demand_is}
use Rattle.npp_cover.proofs.SimpleWalks.{free_below as span_below}
use Rattle.npp_cover.proofs.CoverLaws.{at_most_free, some_path}

-- ---- a greatest number

max_below : (top n : ℕ) (xs : List ℕ) → n < top → All (λ x. x < top) xs → fold max n xs < top
max_below top n [] l h = l
max_below top n (x ∷ xs) l h =
    let here : x < top = h 0 x (omega arith) in
    max_below top (max n x) xs (omega arith) (λ k d i. h (suc k) d (omega (arith, i)))

gap_below : (top a free : ℕ) (p : PathValue) → free < top → 0 < top → toll_gap a free p < top
gap_below top a free p l z = by (bit_at p.tolls a == 1) refl
  where
    by : (b : Bool) → (bit_at p.tolls a == 1) ≡ b → cond b (free - p.cost) 0 < top
    by true e = omega arith
    by false e = omega arith

gaps_below : (top a free n : ℕ) (ps : List PathValue) → free < top → n < top → fold max n (map (toll_gap a free) ps) < top
gaps_below top a free n [] l h = h
gaps_below top a free n (p ∷ ps) l h =
    let here = gap_below top a free p l (omega arith) in
    gaps_below top a free (max n (toll_gap a free p)) ps l (omega arith)

greatest_below : (top a n : ℕ) (covers : List CoverValue) → All (λ c. c.free < top) covers → n < top → fold max n (flat_map (λ c. map (toll_gap a c.free) c.paths) covers) < top
greatest_below top a n [] h l = l
greatest_below top a n (c ∷ covers) h l =
    rw (fold-append max n (map (toll_gap a c.free) c.paths) (flat_map (λ c. map (toll_gap a c.free) c.paths) covers))
    (greatest_below top a (fold max n (map (toll_gap a c.free) c.paths)) covers (λ k d i. h (suc k) d (omega (arith, i))) (gaps_below top a c.free n c.paths (h 0 c (omega arith)) l))

within : (u : Option ℕ) (n : ℕ) → within_ceiling u n ≤ n
within None n = omega arith
within (Some u) n = omega arith

-- ---- limits

module _ (net : Network) (covers : List CoverValue) (limits : IsNetwork net) (closed : AreClosedCovers net covers) (few : path_total covers ≤ 16777216) where
  size : length net.commodities ≡ length covers
  size = covers_size net covers closed

  cover_is : (k : ℕ) → k < length covers → IsClosedCover net.arcs (get_or net.commodities k no_commodity) (get_or covers k no_cover)
  cover_is k h = zip_at (IsClosedCover net.arcs) net.commodities covers no_commodity no_cover k closed h

  free_inside : (k : ℕ) → k < length covers → (get_or covers k no_cover).free < 1000000000
  free_inside k h =
      let c = cover_is k h in
      rw c.2.free (span_below net limits (get_or net.commodities k no_commodity) (limits.each_commodity k no_commodity (rw size h)) c.0 c.1)

  free_below : (k : ℕ) → (get_or covers k no_cover).free < 1000000000
  free_below k = elim (cases_lt k (length covers)) [
    | inl h ↦ free_inside k h
    | inr h ↦ rw (get_or-eq_default covers no_cover h) (omega arith)
  ]

  all_free : All (λ c. c.free < 1000000000) covers
  all_free k d h = rw (get_or_default covers k d no_cover h) (free_inside k h)

  cap_below : (a : ℕ) → cap_at (path_model net covers) a < 1000000000
  cap_below a = elim (cases_lt a (toll_count net.arcs)) [
    | inl h ↦ rw (get_or-map-range_with_len (toll_cap net covers) 0 (toll_count net.arcs) a a 0 h (omega arith))
        (omega (arith, within (ceiling_of net.arcs a) (greatest_gap covers a), greatest_below 1000000000 a 0 covers all_free (omega arith)))
    | inr h ↦ (let past : length (toll_caps net covers) ≤ a = omega (arith, h, length-map-range_with_len (toll_cap net covers) 0 (toll_count net.arcs)) in
        rw (get_or-eq_default (toll_caps net covers) 0 past) (omega arith))
  ]

  demand_within : (k : ℕ) → demand_at (path_model net covers) k ≤ 1000000
  demand_within k = elim (cases_lt k (length net.commodities)) [
    | inl h ↦ rw (demand_is net covers k h) ((limits.each_commodity k no_commodity h).demand)
    | inr h ↦ (let past : length (map (λ (c : Commodity). c.demand) net.commodities) ≤ k = rw length-map h in
        rw (get_or-eq_default (map (λ (c : Commodity). c.demand) net.commodities) 0 past) (omega arith))
  ]

  cost_inside : (k q : ℕ) → k < length covers → path_cost (path_model net covers) k q ≤ (get_or covers k no_cover).free
  cost_inside k q h = elim (cases_lt q (length (get_or covers k no_cover).paths)) [
    | inl l ↦ (let c = cover_is k h in rw c.2.free (at_most_free net.arcs (get_or net.commodities k no_commodity) c.0 (get_or covers k no_cover) c.2 q l))
    | inr l ↦ rw (get_or-eq_default (get_or covers k no_cover).paths no_path l) (omega arith)
  ]

  cost_within : (k q : ℕ) → path_cost (path_model net covers) k q ≤ (get_or covers k no_cover).free
  cost_within k q = elim (cases_lt k (length covers)) [
    | inl h ↦ cost_inside k q h
    | inr h ↦ rw (get_or-eq_default covers no_cover h) (omega arith)
  ]

  pub limits_kept : IsWithinLimits (path_model net covers)
  limits_kept = record {
    tolls = rw (length-map-range_with_len (toll_cap net covers) 0 (toll_count net.arcs)) limits.tolls;
    commodities = omega (arith, size, limits.commodities);
    demands = rw length-map size;
    demand = demand_within;
    cap = cap_below;
    free = free_below;
    cost = cost_within;
    paths = few;
    some = λ k h. let c = cover_is k h in some_path net.arcs (get_or net.commodities k no_commodity) c.0 (get_or covers k no_cover) c.2;
  }
