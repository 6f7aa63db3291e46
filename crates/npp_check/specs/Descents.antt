-- The first node of a tree under way, as the code holds it. `value` says what a number stands for.
use Rattle.std.specs.Prelude.{◌∷◌, map}
use Rattle.npp_frac.specs.Rational.{Rational}
use Rattle.npp_net.specs.Network.{Network}
use Rattle.npp_rows.specs.Caps.{path_model}
use Rattle.npp_rows.specs.Meaning.{cut_value}
use Rattle.npp_rows.specs.Named.{NamedProgram}
use Rattle.npp_rows.specs.NodeProgram.{node_program}
use Rattle.npp_tree.specs.Bounds.{BoundValue}
use Rattle.npp_tree.specs.Tree.{bound_before}
use Rattle.npp_check.specs.declared.descent.Descent.{Descent}
use Rattle.npp_check.specs.Standing.{IsTreeUnderWay}

-- what is known of the tree
abbrev pub IsDescent : {N : Type 0} → (N → Rational) → Network → Descent N → Type 0
IsDescent value net d = IsTreeUnderWay net d.known.covers.items (map (cut_value value) d.known.cuts.items) (d.places.first ∷ d.places.later)

-- the program of the first node
abbrev pub first_program : {N : Type 0} → (N → Rational) → Network → Descent N → NamedProgram
first_program value net d = node_program (path_model net d.known.covers.items) (map (cut_value value) d.known.cuts.items) d.places.first.parts

-- and its bound before it is opened
abbrev pub first_before : {N : Type 0} → Network → Descent N → BoundValue
first_before net d = bound_before (path_model net d.known.covers.items) d.places.first.parts d.places.first.parent
