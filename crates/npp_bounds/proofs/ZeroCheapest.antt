-- At zero tolls the cheapest walks are those of least cost, and nothing is earned.
use Rattle.std.proofs.Common.{◌≡◌, inl, inr, ℕ, Bool, true, List, [], ◌∷◌, get_or, replicate, cond, pos, refl, arith}
use Rattle.std.proofs.lemmas.Bool.{cases_lt}
use Rattle.std.proofs.lemmas.List.{get_or-replicate, get_or_past, length-replicate}
use Rattle.std.proofs.lemmas.List.Sums.{sum_by-cons}
use Rattle.npp_net.specs.declared.types.ArcId.{ArcId}
use Rattle.npp_net.specs.declared.types.NetArc.{NetArc}
use Rattle.npp_net.specs.declared.types.Commodity.{Commodity}
use Rattle.npp_net.specs.Network.{arc_at, toll_number, toll_count, Network}
use Rattle.npp_net.specs.declared.types.Span.{Span}
use Rattle.npp_net.specs.Toll.{IsCheapest, toll_at, toll_paid}
use Rattle.npp_net.specs.Outcome.{AreCheapest, IsEarned, revenue}
use Rattle.npp_short.specs.Shortest.{IsShortestWalk}
use Rattle.npp_bounds.specs.LeastWalks.{AreLeastWalks}
use Rattle.npp_bounds.specs.ZeroTolls.{zero_tolls}
use Rattle.npp_bounds.proofs.SpanLemmas.{all_usable}

zeros : (n i : ℕ) → get_or {A = ℕ} (replicate n 0) i 0 ≡ 0
zeros n i = elim (cases_lt i n) [
  | inl lt ↦ get_or-replicate n i 0 0 lt
  | inr past ↦ get_or_past (replicate n 0) i 0 (omega (arith, length-replicate {A = ℕ} n 0))
]

no_toll : (b : Bool) (x : ℕ) → x ≡ 0 → cond b x 0 ≡ 0
no_toll true x e = e
no_toll _ x e = refl

pub pays_nothing : (arcs : List NetArc) (walk : List ArcId) → toll_paid arcs (zero_tolls arcs) walk ≡ 0
pays_nothing arcs [] = refl
pays_nothing arcs (a ∷ walk) =
    let here : toll_at arcs (zero_tolls arcs) a ≡ 0 = no_toll (arc_at arcs a).toll _ (zeros (toll_count arcs) (toll_number arcs a)) in
    omega (arith, sum_by-cons (toll_at arcs (zero_tolls arcs)) a walk, here, pays_nothing arcs walk)

pub zero_cheapest : (arcs : List NetArc) (u v : ℕ) (walk : List ArcId) → IsShortestWalk arcs true u v walk → IsCheapest arcs (zero_tolls arcs) u v walk
zero_cheapest arcs u v walk s = record {
  leads = s.leads.path;
  least = λ other leads.
      let below = s.least other (record { path = leads; usable = all_usable arcs other }) in
      omega (arith, below, pays_nothing arcs walk, pays_nothing arcs other);
}

earns_nothing : (arcs : List NetArc) (ks : List Commodity) (ws : List (List ArcId)) → revenue arcs (zero_tolls arcs) ks ws ≡ 0
earns_nothing arcs [] ws = refl
earns_nothing arcs (k ∷ ks) [] = refl
earns_nothing arcs (k ∷ ks) (w ∷ ws) = rw (pays_nothing arcs w, earns_nothing arcs ks ws) (omega arith)

least_are_cheapest : (arcs : List NetArc) (ks : List Commodity) (ss : List Span) (ws : List (List ArcId)) → AreLeastWalks arcs ks ss ws
    → AreCheapest arcs (zero_tolls arcs) ks ws
least_are_cheapest arcs [] [] [] least = tt
least_are_cheapest arcs (k ∷ ks) (s ∷ ss) (w ∷ ws) least =
    (zero_cheapest arcs k.origin.0 k.destination.0 w least.0.shortest, least_are_cheapest arcs ks ss ws least.1)
least_are_cheapest arcs [] [] (w ∷ ws) least = absurd least
least_are_cheapest arcs [] (s ∷ ss) ws least = absurd least
least_are_cheapest arcs (k ∷ ks) [] ws least = absurd least
least_are_cheapest arcs (k ∷ ks) (s ∷ ss) [] least = absurd least

-- zero tolls and walks of the least costs are an outcome that earns nothing
pub zero_earned : (net : Network) (ss : List Span) (ws : List (List ArcId)) → AreLeastWalks net.arcs net.commodities ss ws
    → IsEarned net (zero_tolls net.arcs) ws (pos 0) 1
zero_earned net ss ws least = record {
  positive = omega arith;
  outcome = record {
    vector = record { positive = omega arith; count = length-replicate {A = ℕ} (toll_count net.arcs) 0 };
    ceilings = λ a u lt some. omega (arith, zeros (toll_count net.arcs) a);
    cheapest = least_are_cheapest net.arcs net.commodities ss ws least;
  };
  value = rw (earns_nothing net.arcs net.commodities ws) refl;
}
