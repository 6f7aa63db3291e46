-- What the test of a free walk says.
use Rattle.std.proofs.Common.{◌≡◌, ℕ, Bool, true, false, List, [], ◌∷◌, length, nat_eq, nat_lt, ◌&&◌, not}
use Rattle.npp_net.specs.declared.types.ArcId.{ArcId}
use Rattle.npp_net.specs.declared.types.NetArc.{NetArc}
use Rattle.npp_net.specs.Network.{arc_at}
use Rattle.npp_net.specs.Walk.{IsWalk, walk_cost}
use Rattle.npp_net.specs.Distance.{IsUsableWalk}
use Rattle.npp_net.specs.declared.types.Commodity.{Commodity}
use Rattle.npp_cover.proofs.TestLemmas.{both, is_no, equal_of_test, less_of_test}
use Rattle.npp_cover.specs.Closed.{IsFreeWalk}
use Rattle.npp_cover.specs.Fault.{is_free_walk}

-- whether the rest is a free walk from the node, at exactly this cost
abbrev pub is_free_rest : List NetArc → ℕ → ℕ → ℕ → List ArcId → Bool
is_free_rest arcs node to left rest = is_free_walk arcs node to rest && nat_eq (walk_cost arcs rest) left

-- arcs that pass the test are a toll-free walk
pub free_walk : (arcs : List NetArc) (u v : ℕ) (walk : List ArcId) → is_free_walk arcs u v walk ≡ true → IsWalk arcs u v walk × IsUsableWalk false arcs walk
free_walk arcs u v [] e = (equal_of_test u v e, tt)
free_walk arcs u v (a ∷ rest) e =
    let four = both (nat_lt a.0 (length arcs) && nat_eq (arc_at arcs a).tail.0 u && not (arc_at arcs a).toll) (is_free_walk arcs (arc_at arcs a).head.0 v rest) e in
    let three = both (nat_lt a.0 (length arcs) && nat_eq (arc_at arcs a).tail.0 u) (not (arc_at arcs a).toll) four.0 in
    let two = both (nat_lt a.0 (length arcs)) (nat_eq (arc_at arcs a).tail.0 u) three.0 in
    let more = free_walk arcs (arc_at arcs a).head.0 v rest four.1 in
    ((less_of_test a.0 (length arcs) two.0, equal_of_test (arc_at arcs a).tail.0 u two.1, more.0), (is_no (arc_at arcs a).toll three.1, more.1))

-- and one of that cost
pub is_free : (arcs : List NetArc) (k : Commodity) (free : ℕ) (walk : List ArcId)
    → (is_free_walk arcs k.origin.0 k.destination.0 walk && nat_eq (walk_cost arcs walk) free) ≡ true → IsFreeWalk arcs k free walk
is_free arcs k free walk e =
    let two = both (is_free_walk arcs k.origin.0 k.destination.0 walk) (nat_eq (walk_cost arcs walk) free) e in
    let leads = free_walk arcs k.origin.0 k.destination.0 walk two.0 in
    record { leads = record { path = leads.0; usable = leads.1 }; costs = equal_of_test (walk_cost arcs walk) free two.1 }
