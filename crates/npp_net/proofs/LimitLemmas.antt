-- Where nothing is refused, the limits hold.
use Rattle.std.proofs.Common.{◌≡◌, ℕ, ◌<◌, Option, Some, None, List, [], ◌∷◌, length, refl, arith, All}
use Rattle.std.proofs.lemmas.Bool.Decides.{nat_tests}
use Rattle.std.proofs.lemmas.List.Elements.{All-nil, All-cons}
use Rattle.npp_net.specs.declared.types.NetArc.{NetArc}
use Rattle.npp_net.specs.declared.types.Commodity.{Commodity}
use Rattle.npp_net.specs.Network.{Network, IsNetwork, IsArc, IsCommodity}
use Rattle.npp_net.specs.declared.refusal.NetRefusal.{NetRefusal}
use Rattle.npp_net.specs.Refusal.{refusal_of_counts, refusal_of_arc, refusal_of_commodity, first_of_list, or_else, refusal_of, refusal_of_none}

or_else_none : (a b : Option NetRefusal) → or_else a b ≡ None → (a ≡ None) × (b ≡ None)
or_else_none None b none = (refl, none)
or_else_none (Some r) b none = cc

all_none : {X : Type 0} (test : X → Option NetRefusal) (P : X → Type 0) → ((x : X) → test x ≡ None → P x)
    → (xs : List X) → first_of_list test xs ≡ None → All P xs
all_none test P each [] none = All-nil P
all_none test P each (x ∷ xs) none =
    let split : (test x ≡ None) × (first_of_list test xs ≡ None) = or_else_none (test x) (first_of_list test xs) none in
    All-cons P x xs (each x split.0) (all_none test P each xs split.1)

arc_limits : (nodes : ℕ) (x : NetArc) → refusal_of_arc nodes x ≡ None → IsArc nodes x
arc_limits nodes x none = grind (arith, nat_tests)

commodity_limits : (nodes : ℕ) (k : Commodity) → refusal_of_commodity nodes k ≡ None → IsCommodity nodes k
commodity_limits nodes k none = grind (arith, nat_tests)

not_empty : (ks : List Commodity) → refusal_of_none ks ≡ None → 0 < length ks
not_empty [] none = cc
not_empty (k ∷ ks) none = omega arith

pub limits_hold : (net : Network) → refusal_of net ≡ None → IsNetwork net
limits_hold net none =
    let one = or_else_none (refusal_of_counts net) _ none in
    let counts : refusal_of_counts net ≡ None = one.0 in
    let two = or_else_none (first_of_list (refusal_of_arc net.nodes) net.arcs) _ one.1 in
    let three = or_else_none (first_of_list (refusal_of_commodity net.nodes) net.commodities) _ two.1 in
    record {
      nodes = grind (arith, nat_tests);
      arcs = grind (arith, nat_tests);
      tolls = grind (arith, nat_tests);
      commodities = grind (arith, nat_tests);
      some = not_empty net.commodities three.1;
      each_arc = all_none (refusal_of_arc net.nodes) (IsArc net.nodes) (arc_limits net.nodes) net.arcs two.0;
      each_commodity = all_none (refusal_of_commodity net.nodes) (IsCommodity net.nodes) (commodity_limits net.nodes) net.commodities three.0;
    }
