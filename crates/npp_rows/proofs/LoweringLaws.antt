-- Each outcome can be lowered.
use Rattle.std.specs.Prelude.{◌≡◌, ◌⊎◌, ℕ, zero, suc, ◌+◌, ◌-◌, ◌*◌, ◌<◌, ◌≤◌, min, List, [], ◌∷◌, length, map, slice_index, slice_index_or, true, ◌==◌, Option, Some, None, Contains, refl}
use Rattle.std.specs.Int.{bit_at}
use Rattle.std.specs.List.{range_with_len, AllZip}
use Rattle.std.proofs.Common.{arith, sym, ap, ap₂, ◌∙◌, subst, inl, inr, eq-eqb}
use Rattle.std.proofs.lemmas.Bool.{cases_lt}
use Rattle.std.proofs.Math.Nat.{mul-le-mul_left, mul-le-mul_right}
use Rattle.std.proofs.lemmas.List.FromFn.{length-map-range_with_len, get_or-map-range_with_len}
use Rattle.npp_net.specs.declared.types.ArcId.{ArcId}
use Rattle.npp_net.specs.declared.types.NetArc.{NetArc}
use Rattle.npp_net.specs.declared.types.Commodity.{Commodity}
use Rattle.npp_net.specs.Network.{Network, toll_count, ceiling_of}
use Rattle.npp_net.specs.Toll.{TollVector, IsTollVector, KeepsCeilings, IsCheapest, toll_paid}
use Rattle.npp_net.specs.Outcome.{IsOutcome, AreCheapest, revenue}
use Rattle.npp_cover.specs.Paths.{PathValue}
use Rattle.npp_cover.proofs.CoverLaws.{some_path, last_path, at_most_free}
use Rattle.npp_cover.specs.Replaces.{CoverValue, IsPath, Replaces, set_toll, path_at, no_path}
use Rattle.npp_cover.proofs.SumLemmas.{pays_no_more}
use Rattle.npp_rows.specs.PathModel.{no_cover, cap_at, paths}
use Rattle.npp_rows.specs.Parts.{part_at, all_paths}
use Rattle.npp_rows.proofs.LoweredSums.{gap_from, same_sum, IsKeptOrGap, all_or_one, no_toll, toll_in_sum}
use Rattle.npp_rows.proofs.ValueLaws.{range_has}
use Rattle.npp_cover.specs.Caps.{within_ceiling}
use Rattle.npp_rows.specs.Caps.{path_model, toll_cap, greatest_gap, toll_gap}
use Rattle.npp_rows.specs.Lowering.{lowered, IsClosedCover, AreClosedCovers, IsLowered, CanBeLowered}

module _ (arcs : List NetArc) (k : Commodity) (c : CoverValue) (closed : IsClosedCover arcs k c) (t : TollVector) (nums : List ℕ) (gap : ℕ → ℕ)
    (vector : IsTollVector arcs t) (size : length nums ≡ length t.numerators)
    (less : (a : ℕ) → a < length t.numerators → slice_index nums a ≤ slice_index t.numerators a)
    (kept : (a : ℕ) → a < length t.numerators → IsKeptOrGap (slice_index t.numerators) (slice_index nums) gap t.denominator a)
    (gaps : (a q : ℕ) → q < length c.paths → bit_at (path_at c.paths q).tolls a ≡ 1 → c.free - (path_at c.paths q).cost ≤ gap a)
    (walk : List ArcId) (cheapest : IsCheapest arcs t k.origin.0 k.destination.0 walk) where
  chosen : (q : ℕ) × (q < length c.paths) × Replaces arcs k t walk (path_at c.paths q)
  chosen = closed.2.stand.replaces t walk vector cheapest

  a_path : (q : ℕ) → q < length c.paths → IsPath arcs k (path_at c.paths q)
  a_path q h = closed.2.each q no_path h

  -- what a path pays under the tolls as they were, and lowered
  no_dearer : (q : ℕ) → q < length c.paths
      → t.denominator * (path_at c.paths chosen.0).cost + set_toll t (path_at c.paths chosen.0).tolls ≤ t.denominator * (path_at c.paths q).cost + set_toll t (path_at c.paths q).tolls
  unfolding chosen
  no_dearer q h =
      let p = a_path chosen.0 chosen.1 in
      let r = a_path q h in
      rw (p.costs, r.costs, p.pays t, r.pays t) at (chosen.2.cheapest.least (path_at c.paths q).arcs r.leads)

  below_free : t.denominator * (path_at c.paths chosen.0).cost + set_toll t (path_at c.paths chosen.0).tolls ≤ t.denominator * c.free
  unfolding chosen
  below_free =
      let some = some_path arcs k closed.0 c closed.2 in
      let there = last_path arcs k closed.0 c closed.2 in
      let price = no_dearer (length c.paths - 1) (omega (arith, some)) in
      let none : set_toll t (path_at c.paths (length c.paths - 1)).tolls ≡ 0 = ap (λ z. set_toll t z.tolls) there ∙ no_toll (λ a. slice_index t.numerators a) (length t.numerators) in
      omega (arith, price, none, ap (λ z. t.denominator * z.cost) there, ap (λ z. t.denominator * z) closed.2.free)

  -- the tolls of the chosen path are kept
  same_toll : set_toll (record { denominator = t.denominator; numerators = nums }) (path_at c.paths chosen.0).tolls ≡ set_toll t (path_at c.paths chosen.0).tolls
  unfolding chosen
  same_toll =
      rw size (same_sum (path_at c.paths chosen.0).tolls (slice_index nums) (slice_index t.numerators) (length t.numerators) (λ a l b.
      elim (kept a l) [
        | inl same ↦ same
        | inr above ↦
            let toll = toll_in_sum (path_at c.paths chosen.0).tolls (slice_index t.numerators) (length t.numerators) a l b in
            let most : (path_at c.paths chosen.0).cost ≤ c.free = omega (arith, closed.2.free, at_most_free arcs k closed.0 c closed.2 chosen.0 chosen.1) in
            let parts : c.free ≡ (c.free - (path_at c.paths chosen.0).cost) + (path_at c.paths chosen.0).cost = omega (arith, most) in
            omega (arith, less a l, above, toll, below_free, ap (λ z. t.denominator * z) parts, mul-le-mul_right t.denominator (gaps a chosen.0 chosen.1 b))
      ]))

  -- no path is cheaper under the lowered tolls
  no_cheaper : (q : ℕ) → q < length c.paths
      → t.denominator * (path_at c.paths chosen.0).cost + set_toll t (path_at c.paths chosen.0).tolls
      ≤ t.denominator * (path_at c.paths q).cost + set_toll (record { denominator = t.denominator; numerators = nums }) (path_at c.paths q).tolls
  unfolding chosen
  no_cheaper q h = elim (all_or_one (slice_index t.numerators) (slice_index nums) gap t.denominator (length t.numerators) less kept (path_at c.paths q).tolls (length t.numerators) (omega arith)) [
    | inl all ↦
        let same : set_toll t (path_at c.paths q).tolls ≡ set_toll (record { denominator = t.denominator; numerators = nums }) (path_at c.paths q).tolls =
        rw size (same_sum (path_at c.paths q).tolls (slice_index t.numerators) (slice_index nums) (length t.numerators) all) in
        omega (arith, no_dearer q h, same)
    | inr one ↦
        let inside : one.0 < length nums = omega (arith, size, one.1) in
        let toll = toll_in_sum (path_at c.paths q).tolls (slice_index nums) (length nums) one.0 inside one.2 in
        let most : (path_at c.paths q).cost ≤ c.free = omega (arith, closed.2.free, at_most_free arcs k closed.0 c closed.2 q h) in
        let parts : c.free ≡ (c.free - (path_at c.paths q).cost) + (path_at c.paths q).cost = omega (arith, most) in
        omega (arith, below_free, toll, one.3, ap (λ z. t.denominator * z) parts, mul-le-mul_right t.denominator (gaps one.0 q h one.2))
  ]

  -- a path that is cheapest under the lowered tolls and pays what the walk paid
  pub lowered_path : (q : ℕ) × (q < length c.paths) × IsCheapest arcs (record { denominator = t.denominator; numerators = nums }) k.origin.0 k.destination.0 (path_at c.paths q).arcs
      × (toll_paid arcs (record { denominator = t.denominator; numerators = nums }) (path_at c.paths q).arcs ≡ toll_paid arcs t walk)
  unfolding chosen
  lowered_path =
      let p = a_path chosen.0 chosen.1 in
      let pays : toll_paid arcs (record { denominator = t.denominator; numerators = nums }) (path_at c.paths chosen.0).arcs ≡ set_toll t (path_at c.paths chosen.0).tolls = p.pays (record { denominator = t.denominator; numerators = nums }) ∙ same_toll in (
        chosen.0,
        chosen.1,
        record {
          leads = p.leads;
          least = λ other leads.
              let found = closed.2.stand.no_worse other leads in
              let r = a_path found.0 found.1 in
              let paid = pays_no_more arcs (record { denominator = t.denominator; numerators = nums }) (path_at c.paths found.0).arcs other found.2.tolls in
              omega (arith, mul-le-mul_left t.denominator found.2.cost, paid, no_cheaper found.0 found.1, pays, ap (λ z. t.denominator * z) p.costs, ap (λ z. t.denominator * z) r.costs, r.pays (record { denominator = t.denominator; numerators = nums }));
        },
        pays ∙ sym (p.pays t) ∙ chosen.2.pays,
      )

-- ---- the caps

kept_plain : (f d gap : ℕ) → (min f (gap * d) ≡ f) ⊎ (gap * d ≤ min f (gap * d))
kept_plain f d gap = elim (cases_lt (gap * d) f) [
  | inl lt ↦ inr (omega (arith, lt))
  | inr le ↦ inl (omega (arith, le))
]

-- a toll within its ceiling is kept, or lowered to the greatest gap
pub kept_by : (f d gap : ℕ) (ceiling : Option ℕ) → ((u : ℕ) → ceiling ≡ Some u → f ≤ u * d) → (min f (within_ceiling ceiling gap * d) ≡ f) ⊎ (gap * d ≤ min f (within_ceiling ceiling gap * d))
kept_by f d gap None h = kept_plain f d gap
kept_by f d gap (Some u) h = elim (cases_lt u gap) [
  | inl lt ↦ let e : min gap u ≡ u = omega (arith, lt) in rw e (inl (omega (arith, h u refl)))
  | inr le ↦ let e : min gap u ≡ gap = omega (arith, le) in rw e (kept_plain f d gap)
]

-- ---- all commodities

map_shift : {X : Type 0} (f : ℕ → X) (a n : ℕ) → map f (range_with_len (a + 1) n) ≡ map (λ k. f (suc k)) (range_with_len a n)
map_shift f a zero = refl
map_shift f a (suc n) = let e : a + 1 ≡ suc a = omega arith in ap₂ ◌∷◌ (ap f e) (map_shift f (a + 1) n)

-- the walks of chosen paths of some covers
abbrev pub path_walks : List CoverValue → List ℕ → List (List ArcId)
path_walks cs choice = map (λ k. (path_at (slice_index_or cs k no_cover).paths (slice_index choice k)).arcs) (range_with_len 0 (length cs))

within_more : (c : CoverValue) (cs : List CoverValue) (q : ℕ) (choice : List ℕ) → q < length c.paths
    → ((k : ℕ) → k < length cs → slice_index choice k < length (slice_index_or cs k no_cover).paths)
    → (k : ℕ) → k < length (c ∷ cs) → slice_index (q ∷ choice) k < length (slice_index_or (c ∷ cs) k no_cover).paths
within_more c cs q choice h rest zero l = h
within_more c cs q choice h rest (suc k) l = rest k (omega (arith, l))

module _ (arcs : List NetArc) (t : TollVector) (nums : List ℕ) (gap : ℕ → ℕ) (vector : IsTollVector arcs t) (size : length nums ≡ length t.numerators)
    (less : (a : ℕ) → a < length t.numerators → slice_index nums a ≤ slice_index t.numerators a)
    (kept : (a : ℕ) → a < length t.numerators → IsKeptOrGap (slice_index t.numerators) (slice_index nums) gap t.denominator a) where
  -- chosen paths that are cheapest under the lowered tolls and pay together what the walks paid
  pub record AreLowered (ks : List Commodity) (cs : List CoverValue) (ws : List (List ArcId)) (choice : List ℕ) : Type 0 where
    pub count : length choice ≡ length cs
    pub within : (k : ℕ) → k < length cs → slice_index choice k < length (slice_index_or cs k no_cover).paths
    pub cheapest : AreCheapest arcs (record { denominator = t.denominator; numerators = nums }) ks (path_walks cs choice)
    pub earns : revenue arcs (record { denominator = t.denominator; numerators = nums }) ks (path_walks cs choice) ≡ revenue arcs t ks ws

  pub chosen_all : (ks : List Commodity) (cs : List CoverValue) (ws : List (List ArcId)) → AllZip (IsClosedCover arcs) ks cs → AreCheapest arcs t ks ws
      → ((k a q : ℕ) → k < length cs → q < length (slice_index_or cs k no_cover).paths → bit_at (path_at (slice_index_or cs k no_cover).paths q).tolls a ≡ 1
      → (slice_index_or cs k no_cover).free - (path_at (slice_index_or cs k no_cover).paths q).cost ≤ gap a)
      → (choice : List ℕ) × AreLowered ks cs ws choice
  chosen_all [] [] [] closed cheapest gaps = ([], record { count = refl; within = λ k l. absurd (omega (arith, l)); cheapest = tt; earns = refl })
  chosen_all [] [] (w ∷ ws) closed cheapest gaps = absurd cheapest
  chosen_all [] (c ∷ cs) ws closed cheapest gaps = absurd closed
  chosen_all (k ∷ ks) [] ws closed cheapest gaps = absurd closed
  chosen_all (k ∷ ks) (c ∷ cs) [] closed cheapest gaps = absurd cheapest
  chosen_all (k ∷ ks) (c ∷ cs) (w ∷ ws) closed cheapest gaps =
      let here = lowered_path arcs k c closed.0 t nums gap vector size less kept (λ a q h b. gaps 0 a q (omega arith) h b) w cheapest.0 in
      let rest = chosen_all ks cs ws closed.1 cheapest.1 (λ i a q h l b. gaps (suc i) a q (omega (arith, h)) l b) in
      let shift : map (λ i. (path_at (slice_index_or (c ∷ cs) i no_cover).paths (slice_index (here.0 ∷ rest.0) i)).arcs) (range_with_len (0 + 1) (length cs)) ≡ path_walks cs rest.0 =
      map_shift (λ i. (path_at (slice_index_or (c ∷ cs) i no_cover).paths (slice_index (here.0 ∷ rest.0) i)).arcs) 0 (length cs) in
      let Cheapest : List (List ArcId) → Type 0 = λ z. AreCheapest arcs (record { denominator = t.denominator; numerators = nums }) ks z in
      let Earns : List (List ArcId) → Type 0 = λ z. revenue arcs (record { denominator = t.denominator; numerators = nums }) ks z ≡ revenue arcs t ks ws in (
        here.0 ∷ rest.0,
        record {
          count = omega (arith, rest.1.count);
          within = within_more c cs here.0 rest.0 here.1 rest.1.within;
          cheapest = (here.2, subst Cheapest (sym shift) rest.1.cheapest);
          earns = ap₂ ◌+◌ (ap (λ z. k.demand * z) here.3) (subst Earns (sym shift) rest.1.earns);
        },
      )

-- ---- the whole outcome

zip_size : {A B : Type 0} (R : A → B → Type 0) (xs : List A) (ys : List B) → AllZip R xs ys → length xs ≡ length ys
zip_size R [] [] h = refl
zip_size R [] (y ∷ ys) h = absurd h
zip_size R (x ∷ xs) [] h = absurd h
zip_size R (x ∷ xs) (y ∷ ys) h = omega (arith, zip_size R xs ys h.1)

module _ (net : Network) (covers : List CoverValue) (closed : AreClosedCovers net covers) (t : TollVector) (walks : List (List ArcId)) (outcome : IsOutcome net t walks) where
  pub low_size : length (lowered (path_model net covers) t).numerators ≡ length t.numerators
  low_size = length-map-range_with_len (λ a. min (slice_index t.numerators a) (cap_at (path_model net covers) a * t.denominator)) 0 (length t.numerators)

  cap_is : (a : ℕ) → a < length t.numerators → cap_at (path_model net covers) a ≡ within_ceiling (ceiling_of net.arcs a) (greatest_gap covers a)
  cap_is a h = get_or-map-range_with_len (toll_cap net covers) 0 (toll_count net.arcs) a a 0 (omega (arith, h, outcome.vector.count)) (omega arith)

  pub low_is : (a : ℕ) → a < length t.numerators → slice_index (lowered (path_model net covers) t).numerators a ≡ min (slice_index t.numerators a) (within_ceiling (ceiling_of net.arcs a) (greatest_gap covers a) * t.denominator)
  low_is a h =
      get_or-map-range_with_len (λ a. min (slice_index t.numerators a) (cap_at (path_model net covers) a * t.denominator)) 0 (length t.numerators) a a 0 h (omega arith)
      ∙ ap (λ z. min (slice_index t.numerators a) (z * t.denominator)) (cap_is a h)

  gap_is : (a free cost : ℕ) (p : PathValue) → p.cost ≡ cost → bit_at p.tolls a ≡ 1 → toll_gap a free p ≡ free - cost
  gap_is a free cost p e b = let one : (bit_at p.tolls a == 1) ≡ true = eq-eqb (bit_at p.tolls a) 1 b in rw one (ap (λ z. free - z) e)

  pub all_lowered : (choice : List ℕ) × AreLowered net.arcs t (lowered (path_model net covers) t).numerators (greatest_gap covers) outcome.vector low_size
      (λ a h. omega (arith, low_is a h))
      (λ a h. let e = low_is a h in rw e (kept_by (slice_index t.numerators a) t.denominator (greatest_gap covers a) (ceiling_of net.arcs a) (λ u is. outcome.ceilings a u (omega (arith, h, outcome.vector.count)) is)))
      net.commodities covers walks choice
  all_lowered = chosen_all net.arcs t (lowered (path_model net covers) t).numerators (greatest_gap covers) outcome.vector low_size
      (λ a h. omega (arith, low_is a h))
      (λ a h. let e = low_is a h in rw e (kept_by (slice_index t.numerators a) t.denominator (greatest_gap covers a) (ceiling_of net.arcs a) (λ u is. outcome.ceilings a u (omega (arith, h, outcome.vector.count)) is)))
      net.commodities covers walks closed outcome.cheapest
      (λ k a q h l b.
      let most = gap_from covers 0 a k q no_cover h l in
      let is = gap_is a (slice_index_or covers k no_cover).free (path_at (slice_index_or covers k no_cover).paths q).cost (path_at (slice_index_or covers k no_cover).paths q) refl b in
      omega (arith, most, is))

  -- a lowered toll keeps its ceiling
  low_ceilings : KeepsCeilings net.arcs (lowered (path_model net covers) t)
  low_ceilings a u h is =
      let l : a < length t.numerators = omega (arith, h, outcome.vector.count) in
      omega (arith, low_is a l, outcome.ceilings a u h is)

  covers_size : length net.commodities ≡ length covers
  covers_size = zip_size (IsClosedCover net.arcs) net.commodities covers closed

  caps_size : length (path_model net covers).caps ≡ length t.numerators
  caps_size = length-map-range_with_len (toll_cap net covers) 0 (toll_count net.arcs) ∙ sym outcome.vector.count

  chosen_in_all : (choice : List ℕ) (k : ℕ) → k < length covers → slice_index choice k < length (slice_index_or covers k no_cover).paths
      → Contains (part_at (all_paths (path_model net covers)) k) (slice_index choice k)
  chosen_in_all choice k u h =
      let part : part_at (all_paths (path_model net covers)) k ≡ paths (path_model net covers) k =
      get_or-map-range_with_len (paths (path_model net covers)) 0 (length covers) k k [] u (omega arith) in
      rw part (range_has (length (slice_index_or covers k no_cover).paths) (slice_index choice k) h)

  pub is_lowered : (choice : List ℕ) × IsLowered net (path_model net covers) t walks choice
  is_lowered =
      let all = all_lowered in (
        all.0,
        record {
          piece = record {
            allowed = record { size = all.1.count; each = λ k u. chosen_in_all all.0 k u (all.1.within k u) };
            outcome = record { vector = record { positive = outcome.vector.positive; count = low_size ∙ outcome.vector.count }; ceilings = low_ceilings; cheapest = all.1.cheapest };
            capped = λ a h.
                let l : a < length t.numerators = omega (arith, h, caps_size) in
                omega (arith, low_is a l, ap (λ z. z * t.denominator) (cap_is a l));
          };
          revenue = all.1.earns;
        },
      )

-- each outcome can be lowered to the caps, and earns the same
pub can_be_lowered : (net : Network) (covers : List CoverValue) → CanBeLowered net covers
can_be_lowered net covers closed t walks outcome = is_lowered net covers closed t walks outcome
