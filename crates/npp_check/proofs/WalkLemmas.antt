-- The tests of walks say what walks are.
use Rattle.std.specs.Prelude.{◌≡◌, ℕ, zero, suc, ◌<◌, Bool, true, false, ◌&&◌, ◌==◌, nat_lt, List, [], ◌∷◌, length, All, IsTrue, refl}
use Rattle.std.proofs.Common.{arith, ap, ◌∙◌, sym, inl, inr, eq-eqb}
use Rattle.std.proofs.lemmas.Bool.{cases_Bool, false≢true}
use Rattle.std.proofs.lemmas.Bool.Decides.{nat_tests}
use Rattle.npp_net.specs.declared.types.ArcId.{ArcId}
use Rattle.npp_net.specs.declared.types.NetArc.{NetArc}
use Rattle.npp_net.specs.declared.types.Commodity.{Commodity}
use Rattle.npp_net.specs.Network.{arc_at}
use Rattle.npp_net.specs.Walk.{IsWalk, walk_cost}
use Rattle.npp_check.specs.PathLines.{is_walk, is_walk_of}
use Rattle.npp_check.proofs.RuleLemmas.{both}
use Rattle.npp_check.proofs.PriceLemmas.{walk_is}

all_three : (a b c : Bool) → a ≡ true → b ≡ true → c ≡ true → (a && b && c) ≡ true
all_three true true true e f g = refl
all_three true true false e f g = g
all_three true false c e f g = f
all_three false b c e f g = e

pub walk_passes : (arcs : List NetArc) (u v : ℕ) (walk : List ArcId) → IsWalk arcs u v walk → is_walk arcs u v walk ≡ true
walk_passes arcs u v [] h = eq-eqb u v h
walk_passes arcs u v (a ∷ rest) h =
    let inside : a.0 < length arcs = h.0 in
    let test : nat_lt a.0 (length arcs) ≡ true = grind (arith, nat_tests) in
    all_three (nat_lt a.0 (length arcs)) ((arc_at arcs a).tail.0 == u) (is_walk arcs (arc_at arcs a).head.0 v rest) test (eq-eqb (arc_at arcs a).tail.0 u h.1) (walk_passes arcs (arc_at arcs a).head.0 v rest h.2)

-- a test that holds exactly of walks
pub walk_test : (arcs : List NetArc) (u v : ℕ) (walk : List ArcId) (b : Bool) → (IsTrue b → IsWalk arcs u v walk) → (IsWalk arcs u v walk → IsTrue b) → b ≡ is_walk arcs u v walk
walk_test arcs u v walk true f g = sym (walk_passes arcs u v walk (f refl))
walk_test arcs u v walk false f g = elim (cases_Bool (is_walk arcs u v walk)) [
  | inl e ↦ absurd (false≢true (g (walk_is arcs u v walk e)))
  | inr e ↦ sym e
]

-- each arc of a walk is an arc of the network
pub walk_in_range : (arcs : List NetArc) (u v : ℕ) (walk : List ArcId) → IsWalk arcs u v walk → All (λ a. a.0 < length arcs) walk
walk_in_range arcs u v [] h k d lt = absurd (omega (arith, lt))
walk_in_range arcs u v (a ∷ rest) h zero d lt = h.0
walk_in_range arcs u v (a ∷ rest) h (suc k) d lt = walk_in_range arcs (arc_at arcs a).head.0 v rest h.2 k d (omega (arith, lt))

first_true : (a b : Bool) → a ≡ true → b ≡ (a && b)
first_true true b e = refl
first_true false b e = cc

first_false : (a b : Bool) → a ≡ false → a ≡ (a && b)
first_false true b e = cc
first_false false b e = refl

module _ (arcs : List NetArc) (k : Commodity) (cost : ℕ) (walk : List ArcId) (b : Bool) (f : IsTrue b → IsWalk arcs k.origin.0 k.destination.0 walk)
    (g : IsWalk arcs k.origin.0 k.destination.0 walk → IsTrue b) where
  -- where it is a walk, its cost tells
  pub walk_of_true : (c : ℕ) → b ≡ true → c ≡ walk_cost arcs walk → (c == cost) ≡ is_walk_of arcs k cost walk
  walk_of_true c e d =
      ap (λ z. z == cost) d
      ∙ first_true (is_walk arcs k.origin.0 k.destination.0 walk) (walk_cost arcs walk == cost) (sym (walk_test arcs k.origin.0 k.destination.0 walk b f g) ∙ e)

  pub walk_of_false : b ≡ false → b ≡ is_walk_of arcs k cost walk
  walk_of_false e =
      let same_test : b ≡ is_walk arcs k.origin.0 k.destination.0 walk = walk_test arcs k.origin.0 k.destination.0 walk b f g in
      same_test ∙ first_false (is_walk arcs k.origin.0 k.destination.0 walk) (walk_cost arcs walk == cost) (sym same_test ∙ e)

pub walk_of_range : (arcs : List NetArc) (k : Commodity) (cost : ℕ) (walk : List ArcId) → is_walk_of arcs k cost walk ≡ true → All (λ a. a.0 < length arcs) walk
walk_of_range arcs k cost walk e =
    walk_in_range arcs k.origin.0 k.destination.0 walk
    (walk_is arcs k.origin.0 k.destination.0 walk (both (is_walk arcs k.origin.0 k.destination.0 walk) (walk_cost arcs walk == cost) e).0)
