-- What a pair as verdict proves: the printed tolls and walks earn the lower value, and no outcome earns more than the upper.
use Rattle.std.specs.Prelude.{ℕ, List, Option, Some, None, Ok}
use Rattle.std.specs.List.{filter_map}
use Rattle.npp_frac.specs.Rational.{Rational}
use Rattle.npp_net.specs.declared.types.ArcId.{ArcId}
use Rattle.npp_net.specs.Network.{Network, IsNetwork}
use Rattle.npp_net.specs.Toll.{TollVector}
use Rattle.npp_net.specs.Outcome.{IsEarned, IsUpperBound}
use Rattle.npp_rows.specs.TollVectors.{HasTolls}
use Rattle.npp_tree.specs.declared.item.Item.{Item}
use Rattle.npp_tree.specs.declared.item.Item.TheVariants as item
use Rattle.npp_check.specs.Verdict.{PairValue, IsVerdict}

-- the toll of a toll line
abbrev pub toll_said : Item Rational → Option Rational
toll_said (item.Toll a v) = Some v
toll_said other = None

-- the walk of a path line
abbrev pub walk_said : Item Rational → Option (List ArcId)
walk_said (item.Path k cost paid arcs) = Some arcs
walk_said other = None

-- the printed tolls, and the printed walks, each in order
abbrev pub tolls_said : List (Item Rational) → List Rational
tolls_said items = filter_map toll_said items

abbrev pub walks_said : List (Item Rational) → List (List ArcId)
walks_said items = filter_map walk_said items

-- the printed tolls have a common denominator, over whichever the lower value is earned; and no outcome exceeds the upper value
pub record Proves (net : Network) (items : List (Item Rational)) (pair : PairValue) : Type 0 where
  pub tolls : (t : TollVector) × HasTolls (tolls_said items) t
  pub earned : (t : TollVector) → HasTolls (tolls_said items) t
      → IsEarned net t (walks_said items) pair.lower.num pair.lower.den
  pub upper : IsUpperBound net pair.upper.num pair.upper.den

-- a yes is right, whoever wrote the items and whatever the width
abbrev pub YesIsRight : Type 0
YesIsRight =
    (limit : ℕ) (net : Network) (items : List (Item Rational)) (pair : PairValue)
    → IsNetwork net → IsVerdict limit net items (Ok pair) → Proves net items pair
