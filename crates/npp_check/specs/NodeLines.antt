-- The lines of a node with all that is below it. Each node has the paths that it allows, and its parent's bound.
use Rattle.std.specs.Prelude.{ℕ, zero, suc, Bool, not, List, [], length, Option, Some, None, Result, Ok, Err}
use Rattle.npp_frac.specs.Rational.{Rational}
use Rattle.npp_rows.specs.declared.names.Multiplier.{Multiplier}
use Rattle.npp_rows.specs.PathModel.{PathModel}
use Rattle.npp_rows.specs.Parts.{all_paths, is_full}
use Rattle.npp_rows.specs.Named.{NamedProgram}
use Rattle.npp_rows.specs.Cuts.{Cut as CutRow}
use Rattle.npp_rows.specs.NodeProgram.{node_program}
use Rattle.npp_rows.specs.Basic.{basic_of}
use Rattle.npp_tree.specs.declared.node.Evidence.{Evidence}
use Rattle.npp_tree.specs.declared.node.Evidence.TheVariants as evidence
use Rattle.npp_tree.specs.declared.item.Item.{Item}
use Rattle.npp_tree.specs.declared.item.Item.TheVariants as item
use Rattle.npp_tree.specs.Bounds.{BoundValue, at_whole}
use Rattle.npp_tree.specs.Family.{Family, Division, first_of, second_of, divides}
use Rattle.npp_tree.specs.Tree.{Node, Tree, Leaf, Split, bound_before, bound_after}
use Rattle.npp_check.specs.declared.block.Answer.{Answer}
use Rattle.npp_check.specs.declared.block.Answer.TheVariants.{OfDual, OfFarkas, OfInverse, OfNoInverse}
use Rattle.npp_check.specs.declared.block.Opening.{Opening}
use Rattle.npp_check.specs.declared.block.Opening.TheVariants.{NotOpened, Marked, Answered}
use Rattle.npp_check.specs.declared.refusal.CheckRefusal.TheVariants.{Broken}
use Rattle.npp_check.specs.declared.refusal.Rule.{Rule}
use Rattle.npp_check.specs.declared.refusal.Rule.TheVariants as rule
use Rattle.npp_check.specs.Rules.{broken_if}
use Rattle.npp_check.specs.Multipliers.{multiplier_line, dual_proof, farkas_proof}
use Rattle.npp_check.specs.Reads.{Reads, done, line, last_line, more, ◌>>=◌}

-- where a node stands: the paths that it allows, and its parent's bound
pub record Place : Type 0 where
  pub parts : Family
  pub parent : BoundValue

-- the root of the whole tree allows all useful paths, and earns no more than their basic bound
abbrev pub root_place : PathModel → Place
root_place m = record { parts = all_paths m; parent = at_whole (basic_of m (all_paths m)) }

-- the evidence by that answer
abbrev pub evidence_by : Answer → List (Multiplier Rational) → Evidence Rational
evidence_by OfDual ys = evidence.Dual ys
evidence_by OfFarkas ys = evidence.Farkas ys
evidence_by OfInverse ys = evidence.Inverse ys
evidence_by OfNoInverse ys = evidence.NoInverse ys

-- what the multipliers prove: a bound as a dual answer, or that there is no point as a Farkas answer
abbrev pub proof_by : ℕ → NamedProgram → Answer → List (Multiplier Rational) → Result BoundValue Rule
proof_by m p OfDual ys = dual_proof m p ys
proof_by m p OfFarkas ys = farkas_proof m p ys
proof_by m p OfInverse ys = dual_proof m p ys
proof_by m p OfNoInverse ys = farkas_proof m p ys

-- a full choice has an inverse program, and every other node a relaxation
abbrev pub opening_line : Bool → Item Rational → Result Opening Rule
opening_line full item.Open = Ok NotOpened
opening_line full (item.Basic mark) = Ok (Marked mark)
opening_line full (item.Dual n) = broken_if full rule.Evidence (Ok (Answered OfDual n))
opening_line full (item.Farkas n) = broken_if full rule.Evidence (Ok (Answered OfFarkas n))
opening_line full (item.Inverse n) = broken_if (not full) rule.Evidence (Ok (Answered OfInverse n))
opening_line full (item.NoInverse n) = broken_if (not full) rule.Evidence (Ok (Answered OfNoInverse n))
opening_line full other = Err rule.Order

-- the node goes on no further, or is divided
abbrev pub branch_line : Family → Item Rational → Result (Option Division) Rule
branch_line parts item.Leaf = Ok None
branch_line parts (item.Split k part) =
    broken_if (not (divides parts (record { commodity = k; part = part }))) rule.Split (Ok (Some (record { commodity = k; part = part })))
branch_line parts other = Err rule.Order

-- the multipliers of a program, and what they prove of it
abbrev pub proof_lines : NamedProgram → (List (Multiplier Rational) → Result BoundValue Rule) → ℕ → Reads (List (Multiplier Rational) × BoundValue)
proof_lines p proof n = do
  ys ← more (λ above. line (multiplier_line p above)) n []
  value ← last_line (proof ys)
  done (ys, value)

-- what is given to all nodes: the width, the useful paths and the cuts
pub record Given : Type 0 where
  pub limit : ℕ
  pub model : PathModel
  pub cuts : List CutRow

-- the program of a node that allows these paths
abbrev pub program_at : Given → Family → NamedProgram
program_at g parts = node_program g.model g.cuts parts

-- the bound of a node before it is opened
abbrev pub before : Given → Place → BoundValue
before g place = bound_before g.model place.parts place.parent

-- the evidence of a node, and its value where it has one
abbrev pub evidence_lines : Given → Family → Opening → Reads (Evidence Rational × Option BoundValue)
evidence_lines g parts NotOpened = done (evidence.Unopened, None)
evidence_lines g parts (Marked mark) = done (evidence.Basic mark, None)
evidence_lines g parts (Answered answer n) = do
  read ← proof_lines (program_at g parts) (proof_by g.limit (program_at g parts) answer) n
  done (evidence_by answer read.0, Some read.1)

-- a node that was not opened ends at its one line
abbrev pub branch_lines : Family → Opening → Reads (Option Division)
branch_lines parts NotOpened = done None
branch_lines parts other = line (branch_line parts)

-- the place of a child
abbrev pub child_place : BoundValue → Family → Place
child_place bound parts = record { parts = parts; parent = bound }

-- a node, and where it is split its two children, each read with its own place
abbrev pub below_node : (Place → Reads (Tree Node)) → Family → Node → Option Division → Reads (Tree Node)
below_node child parts n None = done (Leaf n)
below_node child parts n (Some d) = do
  first ← child (child_place n.bound (first_of parts d))
  second ← child (child_place n.bound (second_of parts d))
  done (Split n d first second)

-- a node at this place, with its children read so
abbrev pub node_with : Given → (Place → Reads (Tree Node)) → Place → Reads (Tree Node)
node_with g child place = do
  opening ← line (opening_line (is_full place.parts))
  proof ← evidence_lines g place.parts opening
  branch ← branch_lines place.parts opening
  below_node child place.parts (record { evidence = proof.0; bound = bound_after (before g place) proof.1 }) branch

-- a node that is at most so many nodes deep. Each node has a line, so where no line is left there is none
abbrev pub node_lines : Given → ℕ → Place → Reads (Tree Node)
node_lines g zero place = λ lines. Err (Broken lines.number rule.Order)
node_lines g (suc depth) place = node_with g (node_lines g depth) place

-- a node at this place with all that is below it: no deeper than there are lines
abbrev pub tree_at : Given → Place → Reads (Tree Node)
tree_at g place = λ lines. node_lines g (length lines.items) place lines
