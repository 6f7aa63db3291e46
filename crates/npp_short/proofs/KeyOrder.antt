-- The key that the heap gives has a nearest reach.
use Rattle.std.proofs.Common.{◌≡◌, ℕ, false, List, map, All, arith}
use Rattle.std.proofs.lemmas.Bool.Decides.{nat_tests}
use Rattle.std.proofs.lemmas.List.Elements.{All-from_recursion, All-weaker, All-map}
use Rattle.std.specs.BinaryHeap.{IsUpperBound, lt_by_cmp}
use Rattle.std.specs.declared.cmp.Reverse.{Reverse}
use Rattle.npp_net.specs.declared.types.NodeId.{NodeId}
use Rattle.npp_short.specs.declared.reach.Reach.{Reach}
use Rattle.npp_short.specs.Reach.{IsNoFarther}
use Rattle.npp_short.specs.Keys.{waiting_of, key_cmp}

no_farther : (x y : Reverse (ℕ × ℕ × ℕ)) → lt_by_cmp key_cmp x y ≡ false → IsNoFarther (waiting_of x).1 (waiting_of y).1
no_farther x y not_less = record { cost = grind (arith, nat_tests); arcs = λ e. grind (arith, nat_tests) }

pub greatest_is_nearest : (x : Reverse (ℕ × ℕ × ℕ)) (ks : List (Reverse (ℕ × ℕ × ℕ))) → IsUpperBound key_cmp x ks
    → All (λ (w : NodeId × Reach). IsNoFarther (waiting_of x).1 w.1) (map waiting_of ks)
greatest_is_nearest x ks above =
    All-map (λ (w : NodeId × Reach). IsNoFarther (waiting_of x).1 w.1) waiting_of ks
    (All-weaker (λ y. lt_by_cmp key_cmp x y ≡ false) (λ y. IsNoFarther (waiting_of x).1 (waiting_of y).1) (no_farther x) ks
    (All-from_recursion (λ y. lt_by_cmp key_cmp x y ≡ false) ks above))
