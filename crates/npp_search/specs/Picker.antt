-- Which of the nodes that wait a picker names.
use Rattle.std.specs.Prelude.{◌≡◌, ◌⊎◌, ℕ, ◌<◌, ◌≤◌, List, length, slice_index_or}
use Rattle.npp_frac.specs.Rational.{◌≤ℚ◌, ◌<ℚ◌}
use Rattle.npp_frac.specs.Wide.{value_of_wide}
use Rattle.npp_search.specs.declared.picker.OpenNode.{OpenNode}

-- no node of the list has a greater bound
abbrev pub HasGreatestBound : List OpenNode → OpenNode → Type 0
HasGreatestBound live n = (i : ℕ) (d : OpenNode) → i < length live → value_of_wide (slice_index_or live i d).bound ≤ℚ value_of_wide n.bound

-- a greater bound; or the same and no greater number
abbrev pub IsBetterBound : OpenNode → OpenNode → Type 0
IsBetterBound n m = (value_of_wide m.bound <ℚ value_of_wide n.bound) ⊎ ((value_of_wide m.bound ≡ value_of_wide n.bound) × (n.number ≤ m.number))

-- a greater depth; or the same and a better bound
abbrev pub IsDeeper : OpenNode → OpenNode → Type 0
IsDeeper n m = (m.depth < n.depth) ⊎ ((m.depth ≡ n.depth) × IsBetterBound n m)

-- the node at this place comes first, by an order, among all of the list
abbrev pub IsFirstBy : (OpenNode → OpenNode → Type 0) → List OpenNode → ℕ → Type 0
IsFirstBy R live place = (i : ℕ) (d : OpenNode) → i < length live → R (slice_index_or live place d) (slice_index_or live i d)

-- the node at this place has the greatest bound
abbrev pub IsGreatestAt : List OpenNode → ℕ → Type 0
IsGreatestAt live place = (d : OpenNode) → HasGreatestBound live (slice_index_or live place d)
