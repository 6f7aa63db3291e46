-- What is right about a node that was read, and about its tree.
use Rattle.std.specs.Prelude.{◌≡◌, ℕ, true, List, Contains, Option, Some, None, Ok, IfSome}
use Rattle.npp_frac.specs.Rational.{Rational}
use Rattle.npp_net.specs.Network.{Network}
use Rattle.npp_net.specs.Toll.{TollVector}
use Rattle.npp_rows.specs.declared.names.Multiplier.{Multiplier}
use Rattle.npp_rows.specs.PathModel.{PathModel}
use Rattle.npp_rows.specs.Parts.{IsAllowed}
use Rattle.npp_rows.specs.Piece.{IsInPiece, earned}
use Rattle.npp_tree.specs.Bounds.{BoundValue, IsWithin}
use Rattle.npp_tree.specs.Family.{Family, divides}
use Rattle.npp_tree.specs.Tree.{Node, Tree, Placed, nodes_below, bound_after, tree_bound}
use Rattle.npp_check.specs.declared.block.Answer.{Answer}
use Rattle.npp_check.specs.NodeLines.{Given, Place, program_at, proof_by, tree_at}
use Rattle.npp_check.specs.Reads.{Lines}

-- some multipliers prove this value of the node's program; a node without a value needs no proof
abbrev pub IsProved : Given → Family → Option BoundValue → Type 0
IsProved g parts None = Unit {0}
IsProved g parts (Some value) = (answer : Answer) × (ys : List (Multiplier Rational)) × (proof_by g.limit (program_at g parts) answer ys ≡ Ok value)

-- what is known of a node that was read where it stands: its bound comes from the bound before by a proved value, and it is divided rightly
pub record IsReadNode (g : Given) (p : Placed Node) : Type 0 where
  pub value : Option BoundValue
  pub proved : IsProved g p.family value
  pub bound : p.node.bound ≡ bound_after p.before value
  pub divided : IfSome p.division (λ d. divides p.family d ≡ true)

-- so of each node of a tree that was read
abbrev pub AreReadNodes : Given → Type 0
AreReadNodes g = (place : Place) (lines behind : Lines) (tree : Tree Node) → tree_at g place lines ≡ Ok (tree, behind)
    → (p : Placed Node) → Contains (nodes_below g.model place.parts place.parent tree) p → IsReadNode g p

-- no outcome of these parts earns more than the bound; where the bound is Empty there is none
abbrev pub BoundsPiece : Network → PathModel → Family → BoundValue → Type 0
BoundsPiece net m parts bound = (t : TollVector) (choice : List ℕ) → IsInPiece net m parts t choice → IsWithin (earned net m t choice) bound

-- from a place whose parent's bound is right a tree is read whose bound is right
abbrev pub TreesAreRight : Network → Given → Type 0
TreesAreRight net g =
    (place : Place) (lines behind : Lines) (tree : Tree Node)
    → IsAllowed g.model place.parts → BoundsPiece net g.model place.parts place.parent
    → tree_at g place lines ≡ Ok (tree, behind)
    → BoundsPiece net g.model place.parts (tree_bound tree)
