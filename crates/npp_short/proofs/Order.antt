-- The order of reaches.
use Rattle.std.proofs.Common.{arith}
use Rattle.npp_net.specs.declared.types.NetArc.{NetArc}
use Rattle.npp_short.specs.declared.reach.Reach.{Reach}
use Rattle.npp_short.specs.Reach.{IsNoFarther, IsNearer, through}

pub near_trans : {a b c : Reach} → IsNoFarther a b → IsNoFarther b c → IsNoFarther a c
near_trans p q = record { cost = omega arith; arcs = λ e. omega arith }

pub nearer_trans : {a b c : Reach} → IsNearer a b → IsNearer b c → IsNearer a c
nearer_trans p q = record { cost = omega arith; arcs = λ e. omega arith }

pub near_self : (a : Reach) → IsNoFarther a a
near_self a = record { cost = omega arith; arcs = λ e. omega arith }

pub near_from_nearer : {a b : Reach} → IsNearer a b → IsNoFarther a b
near_from_nearer p = record { cost = p.cost; arcs = λ e. omega arith }

-- a node is no farther than a node behind it
pub near_through : (x : NetArc) (r : Reach) → IsNoFarther r (through x r)
near_through x r = record { cost = omega arith; arcs = λ e. omega arith }

pub through_near : (x : NetArc) {a b : Reach} → IsNoFarther a b → IsNoFarther (through x a) (through x b)
through_near x p = record { cost = omega arith; arcs = λ e. omega arith }

pub not_both : {a b : Reach} → IsNearer a b → IsNoFarther b a → ⊥
not_both {a} {b} p q = grind arith
