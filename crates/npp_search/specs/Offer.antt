-- What the work on a node offers: tolls with the reply to them.
use Rattle.std.specs.Prelude.{List, Option, Some, None, option_map}
use Rattle.npp_frac.specs.Rational.{Rational}
use Rattle.npp_tree.specs.declared.point.Point.{Point}
use Rattle.npp_leaf.specs.Found.{Found, BestTolls}
use Rattle.npp_search.specs.Problem.{Problem, reply_to}

-- tolls with the reply to them, where it fits
abbrev pub offer_at : Problem → List Rational → Option BestTolls
offer_at P tolls = option_map (λ r. record { tolls = tolls; reply = r }) (reply_to P tolls)

-- those of a point, and where there is none the best tolls, if there are any
abbrev pub offer_with : Problem → Option BestTolls → Option (List Rational) → Option BestTolls
offer_with P best None = best
offer_with P best (Some tolls) = offer_at P tolls

-- what the work on a node offers
abbrev pub offer_of : Problem → Found → Option BestTolls
offer_of P f = offer_with P f.best (option_map (λ (x : Point Rational). x.tolls) f.point)
