-- Where the limits hold, an instance is not refused.
use Rattle.std.proofs.Common.{◌≡◌, ℕ, ◌<◌, ◌≤◌, List, [], ◌∷◌, length, Bool, true, false, not, ◌&&◌, Option, Some, None, is_some, refl, ◌∙◌, ap, arith, All}
use Rattle.std.proofs.lemmas.Bool.{le-ltb, lt-leb}
use Rattle.std.proofs.lemmas.Bool.Decides.{nat_tests}
use Rattle.std.proofs.lemmas.List.Elements.{All-head, All-tail}
use Rattle.npp_net.specs.declared.types.NetArc.{NetArc}
use Rattle.npp_net.specs.declared.types.Commodity.{Commodity}
use Rattle.npp_net.specs.declared.refusal.NetRefusal.{NetRefusal}
use Rattle.npp_net.specs.Network.{Network, IsNetwork, IsArc, IsCommodity, toll_count}
use Rattle.npp_net.specs.Refusal.{refusal_of, refusal_of_counts, refusal_of_arc, refusal_of_commodity, refusal_of_none, is_ceiling_too_large, first_of_list, or_else}
use Rattle.npp_reader.specs.Grammar.{Declared}
use Rattle.npp_reader.specs.Taking.{IsWithin}

ceiling_passes : (o : Option ℕ) → ((u : ℕ) → o ≡ Some u → u ≤ 1000000000) → is_ceiling_too_large o ≡ false
ceiling_passes None few = refl
ceiling_passes (Some u) few = le-ltb 1000000000 u (few u refl)

free_passes : (toll : Bool) (o : Option ℕ) → (toll ≡ false → o ≡ None) → (not toll && is_some o) ≡ false
free_passes true o free = refl
free_passes false o free = ap is_some (free refl)

arc_passes : (nodes : ℕ) (x : NetArc) → IsArc nodes x → refusal_of_arc nodes x ≡ None
arc_passes nodes x is =
    rw (lt-leb nodes x.tail.0 is.tail, lt-leb nodes x.head.0 is.head, le-ltb 1000000 x.cost is.cost, ceiling_passes x.ceiling is.ceiling, free_passes x.toll x.ceiling is.free)

commodity_passes : (nodes : ℕ) (k : Commodity) → IsCommodity nodes k → refusal_of_commodity nodes k ≡ None
commodity_passes nodes k is = grind (arith, nat_tests)

all_pass : {X : Type 0} (test : X → Option NetRefusal) (P : X → Type 0) → ((x : X) → P x → test x ≡ None)
    → (xs : List X) → All P xs → first_of_list test xs ≡ None
all_pass test P each [] all = refl
all_pass test P each (x ∷ xs) all =
    ap (λ (o : Option NetRefusal). or_else o (first_of_list test xs)) (each x (All-head P x xs all)) ∙ all_pass test P each xs (All-tail P x xs all)

counts_pass : (net : Network) → IsNetwork net → refusal_of_counts net ≡ None
counts_pass net is =
    rw (le-ltb 1000 net.nodes is.nodes, le-ltb 5000 (length net.arcs) is.arcs, le-ltb 128 (toll_count net.arcs) is.tolls, le-ltb 100 (length net.commodities) is.commodities)

some_pass : (ks : List Commodity) → 0 < length ks → refusal_of_none ks ≡ None
some_pass [] h = absurd (omega arith)
some_pass (k ∷ ks) h = refl

pub nothing_refused : (net : Network) → IsNetwork net → refusal_of net ≡ None
nothing_refused net is =
    rw (
      counts_pass net is,
      all_pass (refusal_of_arc net.nodes) (IsArc net.nodes) (arc_passes net.nodes) net.arcs is.each_arc,
      all_pass (refusal_of_commodity net.nodes) (IsCommodity net.nodes) (commodity_passes net.nodes) net.commodities is.each_commodity,
    )
    (some_pass net.commodities is.some)

pub within_network : (all : Declared) → IsWithin all → 0 < length all.commodities
    → IsNetwork (record { nodes = length all.names; arcs = all.arcs; commodities = all.commodities })
within_network all is some = record {
  nodes = is.nodes;
  arcs = is.arcs;
  tolls = is.tolls;
  commodities = is.commodities;
  some = some;
  each_arc = is.each_arc;
  each_commodity = is.each_commodity;
}
