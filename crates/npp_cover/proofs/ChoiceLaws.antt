-- With a cover for each commodity each outcome has chosen paths of the same revenue.
use Rattle.std.proofs.Common.{◌≡◌, ℕ, zero, suc, ◌+◌, ◌*◌, ◌<◌, List, [], ◌∷◌, length, map, slice_index, refl, sym, ap, ap₂, subst, arith}
use Rattle.std.specs.List.{range_with_len, AllZip}
use Rattle.npp_net.specs.declared.types.ArcId.{ArcId}
use Rattle.npp_net.specs.declared.types.NetArc.{NetArc}
use Rattle.npp_net.specs.declared.types.Commodity.{Commodity}
use Rattle.npp_net.specs.Network.{Network}
use Rattle.npp_net.specs.Toll.{TollVector, IsTollVector}
use Rattle.npp_net.specs.Outcome.{AreCheapest, revenue}
use Rattle.npp_cover.specs.Replaces.{CoverValue, path_at}
use Rattle.npp_cover.specs.Choices.{IsClosedCover, AreClosedCovers, cover_at, chosen_walks, ReplaceOutcomes}

map_shift : {X : Type 0} (f : ℕ → X) (a n : ℕ) → map f (range_with_len (a + 1) n) ≡ map (λ k. f (suc k)) (range_with_len a n)
map_shift f a zero = refl
map_shift f a (suc n) = let e : a + 1 ≡ suc a = omega arith in ap₂ ◌∷◌ (ap f e) (map_shift f (a + 1) n)

within_more : (c : CoverValue) (cs : List CoverValue) (q : ℕ) (choice : List ℕ) → q < length c.paths
    → ((k : ℕ) → k < length cs → slice_index choice k < length (cover_at cs k).paths)
    → (k : ℕ) → k < length (c ∷ cs) → slice_index (q ∷ choice) k < length (cover_at (c ∷ cs) k).paths
within_more c cs q choice first rest zero lt = first
within_more c cs q choice first rest (suc k) lt = rest k (omega (arith, lt))

-- the walks of one more cover
pub chosen_more : (c : CoverValue) (cs : List CoverValue) (q : ℕ) (choice : List ℕ)
    → chosen_walks (c ∷ cs) (q ∷ choice) ≡ (path_at c.paths q).arcs ∷ chosen_walks cs choice
chosen_more c cs q choice =
    ap (λ (ws : List (List ArcId)). (path_at c.paths q).arcs ∷ ws)
    (map_shift (λ k. (path_at (cover_at (c ∷ cs) k).paths (slice_index (q ∷ choice) k)).arcs) 0 (length cs))

module _ (arcs : List NetArc) (t : TollVector) (vector : IsTollVector arcs t) where
  -- chosen paths that are cheapest and pay together what the walks pay
  pub record AreChosen (ks : List Commodity) (cs : List CoverValue) (ws : List (List ArcId)) (choice : List ℕ) : Type 0 where
    pub count : length choice ≡ length cs
    pub within : (k : ℕ) → k < length cs → slice_index choice k < length (cover_at cs k).paths
    pub cheapest : AreCheapest arcs t ks (chosen_walks cs choice)
    pub earns : revenue arcs t ks (chosen_walks cs choice) ≡ revenue arcs t ks ws

  chosen_all : (ks : List Commodity) (cs : List CoverValue) (ws : List (List ArcId)) → AllZip (IsClosedCover arcs) ks cs → AreCheapest arcs t ks ws
      → (choice : List ℕ) × AreChosen ks cs ws choice
  chosen_all [] [] [] closed cheapest = ([], record { count = refl; within = λ k lt. absurd (omega (arith, lt)); cheapest = tt; earns = refl })
  chosen_all [] [] (w ∷ ws) closed cheapest = absurd cheapest
  chosen_all [] (c ∷ cs) ws closed cheapest = absurd closed
  chosen_all (k ∷ ks) [] ws closed cheapest = absurd closed
  chosen_all (k ∷ ks) (c ∷ cs) [] closed cheapest = absurd cheapest
  chosen_all (k ∷ ks) (c ∷ cs) (w ∷ ws) closed cheapest =
      let here = closed.0.2.stand.replaces t w vector cheapest.0 in
      let rest = chosen_all ks cs ws closed.1 cheapest.1 in
      let Cheapest : List (List ArcId) → Type 0 = λ walks. AreCheapest arcs t (k ∷ ks) walks in
      let Earns : List (List ArcId) → Type 0 = λ walks. revenue arcs t (k ∷ ks) walks ≡ revenue arcs t (k ∷ ks) (w ∷ ws) in
      let walks = sym (chosen_more c cs here.0 rest.0) in (
        here.0 ∷ rest.0,
        record {
          count = omega (arith, rest.1.count);
          within = within_more c cs here.0 rest.0 here.1 rest.1.within;
          cheapest = subst Cheapest walks (here.2.cheapest, rest.1.cheapest);
          earns = subst Earns walks (ap₂ ◌+◌ (ap (λ (n : ℕ). k.demand * n) here.2.pays) rest.1.earns);
        },
      )

pub replace_outcomes : (net : Network) (covers : List CoverValue) → AreClosedCovers net covers → ReplaceOutcomes net covers
replace_outcomes net covers closed t walks outcome =
    let all = chosen_all net.arcs t outcome.vector net.commodities covers walks closed outcome.cheapest in (
      all.0,
      record {
        count = all.1.count;
        within = all.1.within;
        outcome = record { vector = outcome.vector; ceilings = outcome.ceilings; cheapest = all.1.cheapest };
        revenue = all.1.earns;
      },
    )
