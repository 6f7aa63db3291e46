-- The places of nodes to come, as the code holds them: only the family of the first is written out.
use Rattle.std.specs.Prelude.{ℕ, ◌<◌, List, [], ◌∷◌, ◌++◌, slice_set, All}
use Rattle.npp_tree.specs.Bounds.{bound_value}
use Rattle.npp_tree.specs.Family.{Family}
use Rattle.npp_check.specs.declared.later.Change.{Change}
use Rattle.npp_check.specs.declared.later.Later.{Later}
use Rattle.npp_check.specs.NodeLines.{Place}

-- the places of nodes to come: that of the first, and those behind it
pub record PlaceList : Type 0 where
  pub first : Place
  pub later : List Place

-- the family before these changes, the last of which is undone first
abbrev pub undone : List Change → Family → Family
undone [] family = family
undone (change ∷ changes) family = slice_set (undone changes family) change.commodity change.part

-- what the parent of a second child allows, where its first child with all that is below it has left this family
abbrev pub parent_family : Later → Family → Family
parent_family l family = slice_set (undone l.changes.items family) l.commodity l.whole

-- and what the second child allows
abbrev pub second_place : Later → Family → Place
second_place l family = record { parts = slice_set (undone l.changes.items family) l.commodity l.rest; parent = bound_value l.parent }

-- what the parent of the first of these second children allows
abbrev pub family_before : List Later → Family → Family
family_before [] family = family
family_before (l ∷ ls) family = parent_family l (family_before ls family)

-- the places of second children, the last of which comes next
abbrev pub later_places : List Later → Family → List Place
later_places [] family = []
later_places (l ∷ ls) family = later_places ls family ++ second_place l (family_before ls family) ∷ []

-- they name commodities below n
pub record IsInRange (n : ℕ) (l : Later) : Type 0 where
  pub commodity : l.commodity < n
  pub changes : All (λ change. change.commodity < n) l.changes.items
