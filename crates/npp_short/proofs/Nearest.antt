-- When no node waits, the table holds the nearest walks.
use Rattle.std.proofs.Common.{◌≡◌, inl, inr, ℕ, Bool, true, List, [], ◌∷◌, Option, Some, None, MatchOption, option_map, refl, sym, subst, arith}
use Rattle.std.proofs.lemmas.Bool.{cases_Bool}
use Rattle.std.proofs.lemmas.List.Sums.{sum_by-cons}
use Rattle.npp_net.specs.declared.types.ArcId.{ArcId}
use Rattle.npp_net.specs.declared.types.NetArc.{NetArc}
use Rattle.npp_net.specs.Network.{arc_at}
use Rattle.npp_net.specs.Walk.{IsWalk}
use Rattle.npp_net.specs.Distance.{IsUsableWalk, IsUnreachable, IsDistance}
use Rattle.npp_short.specs.declared.reach.Reach.{Reach}
use Rattle.npp_short.specs.Reach.{reach_at, reach_of, through, IsNoFarther, IsNearest}
use Rattle.npp_short.specs.Potentials.{ArePotentials, AreDistances}
use Rattle.npp_short.specs.Settling.{AllDone, is_done}
use Rattle.npp_short.proofs.Order.{near_trans, through_near}
use Rattle.npp_short.proofs.Partial.{IsPartial, same_some, within}

longer : (arcs : List NetArc) (a : ArcId) (walk : List ArcId) (t : Reach)
    → IsNoFarther t (through (arc_at arcs a) (reach_of arcs walk)) → IsNoFarther t (reach_of arcs (a ∷ walk))
longer arcs a walk t near =
    let sum = sum_by-cons (λ (b : ArcId). (arc_at arcs b).cost) a walk in
    record { cost = omega (arith, sum); arcs = λ e. omega (arith, sum) }

module _ (arcs : List NetArc) (with_tolls : Bool) (nodes destination : ℕ) (table : List (Option Reach)) (done : List Bool) (settled : ℕ)
    (all : AllDone table done)
    (p : IsPartial arcs with_tolls nodes destination table done settled) where
  is_settled : (v : ℕ) (r : Reach) → reach_at table v ≡ Some r → is_done done v ≡ true
  is_settled v r here = elim (cases_Bool (is_done done v)) [
    | inl is ↦ is
    | inr waits ↦ let none : reach_at table v ≡ None = all v (within table v r here) waits in absurd cc
  ]

  -- each walk is as long as the entry of its first node says, or longer
  no_nearer : (walk : List ArcId) (v : ℕ) → IsWalk arcs v destination walk → IsUsableWalk with_tolls arcs walk
      → (r : Reach) × (reach_at table v ≡ Some r) × IsNoFarther r (reach_of arcs walk)
  no_nearer [] v path usable =
      (p.start.0, subst (λ (w : ℕ). reach_at table w ≡ Some p.start.0) (sym path) p.start.1, record { cost = omega (arith, p.start.2); arcs = λ e. omega (arith, p.start.3) })
  no_nearer (a ∷ walk) v path usable =
      let x = arc_at arcs a in
      let after = no_nearer walk x.head.0 path.2 usable.1 in
      let c = p.closed a after.0 path.0 usable.0 (is_settled x.head.0 after.0 after.1) after.1 in
      (c.0, subst (λ (w : ℕ). reach_at table w ≡ Some c.0) path.1 c.1, longer arcs a walk c.0 (near_trans c.2 (through_near x after.2)))

  nearest_at : (v : ℕ) (o : Option Reach) → reach_at table v ≡ o
      → MatchOption o (IsUnreachable arcs with_tolls v destination) (IsNearest arcs with_tolls v destination)
  nearest_at v None is = λ walk leads. let r = no_nearer walk v leads.path leads.usable in let e = r.1 in absurd cc
  nearest_at v (Some r) is = record {
    attained = p.attained v r is;
    least = λ walk leads.
        let near = no_nearer walk v leads.path leads.usable in
        subst (λ (z : Reach). IsNoFarther z (reach_of arcs walk)) (same_some (reach_at table v) near.1 is) near.2;
  }

  pub are_potentials : ArePotentials arcs with_tolls nodes destination table
  are_potentials = record { size = p.size; each = λ v lt. nearest_at v (reach_at table v) refl }

distance_at : (arcs : List NetArc) (with_tolls : Bool) (v destination : ℕ) (o : Option Reach)
    → MatchOption o (IsUnreachable arcs with_tolls v destination) (IsNearest arcs with_tolls v destination)
    → IsDistance arcs with_tolls v destination (option_map (λ (r : Reach). r.cost) o)
distance_at arcs with_tolls v destination None none = none
distance_at arcs with_tolls v destination (Some r) near = record {
  attained = (near.attained.0, near.attained.1.leads, near.attained.1.cost);
  least = λ walk leads. (near.least walk leads).cost;
}

-- the nearest walks have the least costs
pub are_distances : (arcs : List NetArc) (with_tolls : Bool) (nodes destination : ℕ) (table : List (Option Reach))
    → ArePotentials arcs with_tolls nodes destination table → AreDistances arcs with_tolls nodes destination table
are_distances arcs with_tolls nodes destination table near = record {
  size = near.size;
  each = λ v lt. distance_at arcs with_tolls v destination (reach_at table v) (near.each v lt);
}
