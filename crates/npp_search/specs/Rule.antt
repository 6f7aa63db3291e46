-- Where a node is split: at the commodity whose shares are the least decided, on the path with its greatest share; without a point
-- at the commodity with the most paths, on its first.
use Rattle.std.specs.Prelude.{◌≡◌, ℕ, ◌<◌, ◌≤◌, List, [], ◌∷◌, length, slice_index, slice_index_or, Option, option_map, MatchOption}
use Rattle.npp_frac.specs.Rational.{Rational, ◌≤ℚ◌, ◌<ℚ◌}
use Rattle.npp_lp.specs.Programs.{at}
use Rattle.npp_rows.specs.Parts.{part_at}
use Rattle.npp_tree.specs.Family.{Family, Division}
use Rattle.npp_leaf.specs.Work.{leaf_work}
use Rattle.npp_search.specs.Problem.{Problem}

-- at place i stands the greatest number, and no earlier one is as great
pub record IsFirstGreatest (xs : List Rational) (i : ℕ) : Type 0 where
  pub in_range : i < length xs
  pub greatest : (j : ℕ) → j < length xs → at xs j ≤ℚ at xs i
  pub first : (j : ℕ) → j < i → at xs j <ℚ at xs i

-- a commodity that has several allowed paths
pub record HasSeveral (family : Family) (k : ℕ) : Type 0 where
  pub in_range : k < length family
  pub several : 2 ≤ length (part_at family k)

-- the shares of the allowed paths of a commodity
abbrev pub shares_at : List (List Rational) → ℕ → List Rational
shares_at shares k = slice_index_or shares k []

-- by the shares of a point: no commodity with several paths has a lesser greatest share, and no earlier one has the same
pub record IsByShares (family : Family) (shares : List (List Rational)) (d : Division) : Type 0 where
  pub several : HasSeveral family d.commodity
  pub place : ℕ
  pub greatest : IsFirstGreatest (shares_at shares d.commodity) place
  pub part : d.part ≡ slice_index (part_at family d.commodity) place ∷ []
  pub least : (l i : ℕ) → HasSeveral family l → IsFirstGreatest (shares_at shares l) i
      → at (shares_at shares d.commodity) place ≤ℚ at (shares_at shares l) i
  pub first : (l i : ℕ) → l < d.commodity → HasSeveral family l → IsFirstGreatest (shares_at shares l) i
      → at (shares_at shares d.commodity) place <ℚ at (shares_at shares l) i

-- by the number of paths: no commodity has more, and no earlier one as many
pub record IsByCount (family : Family) (d : Division) : Type 0 where
  pub several : HasSeveral family d.commodity
  pub part : d.part ≡ slice_index (part_at family d.commodity) 0 ∷ []
  pub most : (l : ℕ) → l < length family → length (part_at family l) ≤ length (part_at family d.commodity)
  pub first : (l : ℕ) → l < d.commodity → length (part_at family l) < length (part_at family d.commodity)

-- by the shares, and where there are none by the number of paths
abbrev pub IsByRule : Family → Option (List (List Rational)) → Division → Type 0
IsByRule family shares d = MatchOption shares (IsByCount family d) (λ s. IsByShares family s d)

-- the shares of the point that the work on a node finds, if it finds one
abbrev pub shares_found : Problem → Family → Option (List (List Rational))
shares_found P family = option_map (λ x. x.shares) (leaf_work P.limit P.paths family []).point

-- the first child allows one path of a commodity
abbrev pub division_by : ℕ → ℕ → Division
division_by k path = record { commodity = k; part = path ∷ [] }
