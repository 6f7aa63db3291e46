-- Which refusal an instance meets first.
use Rattle.std.specs.Prelude.{ℕ, Bool, false, not, ◌&&◌, is_some, Option, Some, None, List, [], ◌∷◌, length, nat_lt, nat_le, ◌==◌, ◌||◌, if◌then◌else◌}
use Rattle.npp_net.specs.declared.types.NetArc.{NetArc}
use Rattle.npp_net.specs.declared.types.Commodity.{Commodity}
use Rattle.npp_net.specs.Network.{Network, toll_count}
use Rattle.npp_net.specs.declared.refusal.NetRefusal.{NetRefusal}
use Rattle.npp_net.specs.declared.refusal.NetRefusal.TheVariants.{TooManyNodes, TooManyArcs, TooManyTolls, TooManyCommodities, UnknownNode, NumberTooLarge, SameEnds, ZeroDemand, NoCommodity, CeilingOnFree}

-- the first that some test gives
abbrev pub or_else : Option NetRefusal → Option NetRefusal → Option NetRefusal
or_else None next = next
or_else (Some r) next = Some r

-- the first that some member of a list meets
abbrev pub first_of_list : {X : Type 0} → (X → Option NetRefusal) → List X → Option NetRefusal
first_of_list test [] = None
first_of_list test (x ∷ xs) = or_else (test x) (first_of_list test xs)

abbrev pub refusal_of_counts : Network → Option NetRefusal
refusal_of_counts net =
    if nat_lt 1000 net.nodes then Some TooManyNodes
    else (if nat_lt 5000 (length net.arcs) then Some TooManyArcs
    else (if nat_lt 128 (toll_count net.arcs) then Some TooManyTolls
    else (if nat_lt 100 (length net.commodities) then Some TooManyCommodities
    else None)))

abbrev pub is_ceiling_too_large : Option ℕ → Bool
is_ceiling_too_large None = false
is_ceiling_too_large (Some u) = nat_lt 1000000000 u

abbrev pub refusal_of_arc : ℕ → NetArc → Option NetRefusal
refusal_of_arc nodes x =
    if nat_le nodes x.tail.0 || nat_le nodes x.head.0 then Some UnknownNode
    else (if nat_lt 1000000 x.cost || is_ceiling_too_large x.ceiling then Some NumberTooLarge
    else (if not x.toll && is_some x.ceiling then Some CeilingOnFree
    else None))

abbrev pub refusal_of_commodity : ℕ → Commodity → Option NetRefusal
refusal_of_commodity nodes k =
    if nat_le nodes k.origin.0 || nat_le nodes k.destination.0 then Some UnknownNode
    else (if nat_lt 1000000 k.demand then Some NumberTooLarge
    else (if k.origin.0 == k.destination.0 then Some SameEnds
    else (if k.demand == 0 then Some ZeroDemand
    else None)))

abbrev pub refusal_of_none : List Commodity → Option NetRefusal
refusal_of_none [] = Some NoCommodity
refusal_of_none (k ∷ ks) = None

-- in the order in which they are judged
abbrev pub refusal_of : Network → Option NetRefusal
refusal_of net =
    or_else (refusal_of_counts net)
    (or_else (first_of_list (refusal_of_arc net.nodes) net.arcs)
    (or_else (first_of_list (refusal_of_commodity net.nodes) net.commodities)
    (refusal_of_none net.commodities)))
