-- What the useful paths of a commodity ask under tolls, and which of them is taken.
use Rattle.std.specs.Prelude.{◌≡◌, ◌⊎◌, ℕ, ◌<◌, length, List, All}
use Rattle.npp_frac.specs.Rational.{Rational, ◌≤ℚ◌, ◌<ℚ◌}
use Rattle.npp_net.specs.TollSets.{tolls_of}
use Rattle.npp_rows.specs.PathModel.{PathModel, path_count, useful_path}
use Rattle.npp_rows.specs.Response.{path_toll, path_price}

-- each commodity has a useful path, and no useful path has a toll beyond those that there are
pub record HasUsefulPaths (m : PathModel) : Type 0 where
  pub some : (k : ℕ) → k < length m.covers → 0 < path_count m k
  pub tolls : (k q : ℕ) → All (λ a. a < length m.caps) (tolls_of (useful_path m k q).tolls)

-- what path q of commodity k asks: the sum of its tolls, and its cost with them
pub record IsOffer (m : PathModel) (T : List Rational) (k q : ℕ) (toll price : Rational) : Type 0 where
  pub pays : toll ≡ path_toll m T k q
  pub asks : price ≡ path_price m T k q

-- the first of two offers has a lower price, or the same price and a higher toll
abbrev pub IsBetter : Rational → Rational → Rational → Rational → Type 0
IsBetter price toll price' toll' = (price <ℚ price') ⊎ ((price ≡ price') × (toll' <ℚ toll))

-- it is as good or better
abbrev pub IsNoWorse : Rational → Rational → Rational → Rational → Type 0
IsNoWorse price toll price' toll' = (price <ℚ price') ⊎ ((price ≡ price') × (toll' ≤ℚ toll))

-- of the first n offers, q is as good as each, and better than those before it
pub record IsFirstBest (price toll : ℕ → Rational) (n q : ℕ) : Type 0 where
  pub below : q < n
  pub best : (r : ℕ) → r < n → IsNoWorse (price q) (toll q) (price r) (toll r)
  pub first : (r : ℕ) → r < q → IsBetter (price q) (toll q) (price r) (toll r)
