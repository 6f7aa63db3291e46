-- What the heap gives comes no later than the others.
use Rattle.std.proofs.Common.{◌≡◌, false, List, map, All, arith}
use Rattle.std.proofs.lemmas.Bool.Decides.{nat_tests}
use Rattle.std.proofs.lemmas.List.Elements.{All-from_recursion, All-weaker, All-map}
use Rattle.std.specs.BinaryHeap.{IsUpperBound, lt_by_cmp}
use Rattle.std.specs.declared.cmp.Reverse.{Reverse}
use Rattle.npp_labels.specs.declared.pending.Pending.{Pending}
use Rattle.npp_labels.specs.Order.{IsNoLater, waiting_of, key_cmp}

no_later : (x y : Reverse Pending) → lt_by_cmp key_cmp x y ≡ false → IsNoLater (waiting_of x) (waiting_of y)
no_later x y not_less = record { bound = grind (arith, nat_tests); size = λ e. grind (arith, nat_tests) }

pub greatest_is_first : (x : Reverse Pending) (ks : List (Reverse Pending)) → IsUpperBound key_cmp x ks → All (IsNoLater (waiting_of x)) (map waiting_of ks)
greatest_is_first x ks above =
    All-map (IsNoLater (waiting_of x)) waiting_of ks
    (All-weaker (λ y. lt_by_cmp key_cmp x y ≡ false) (λ y. IsNoLater (waiting_of x) (waiting_of y)) (no_later x) ks
    (All-from_recursion (λ y. lt_by_cmp key_cmp x y ≡ false) ks above))
