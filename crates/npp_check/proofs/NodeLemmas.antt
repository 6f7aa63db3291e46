-- Each node of a tree that was read is right where it stands, and so is the bound of the tree.
use Rattle.std.specs.Prelude.{◌≡◌, ℕ, zero, suc, Bool, true, false, not, cond, List, [], ◌∷◌, ◌++◌, Contains, Option, Some, None, Result, Ok, Err, refl, length, IfSome}
use Rattle.std.proofs.Common.{arith, ap, sym, ◌∙◌, subst, inl, inr}
use Rattle.std.proofs.lemmas.List.Elements.{Contains-append_cases}
use Rattle.npp_frac.specs.Rational.{Rational}
use Rattle.npp_net.specs.Network.{Network}
use Rattle.npp_net.specs.Toll.{TollVector}
use Rattle.npp_rows.specs.declared.names.Multiplier.{Multiplier}
use Rattle.npp_rows.specs.Parts.{IsAllowed, is_full}
use Rattle.npp_rows.specs.Basic.{basic_of}
use Rattle.npp_rows.specs.Piece.{IsInPiece, earned}
use Rattle.npp_tree.specs.declared.item.Item.{Item}
use Rattle.npp_tree.specs.declared.item.Item.TheVariants as item
use Rattle.npp_tree.specs.declared.node.Evidence.{Evidence}
use Rattle.npp_tree.specs.Bounds.{BoundValue, at_whole, IsWithin}
use Rattle.npp_tree.specs.Family.{Family, Division, Divides, first_of, second_of, divides}
use Rattle.npp_tree.specs.Tree.{Node, Tree, Leaf, Split, Placed, nodes_below, bound_after}
use Rattle.npp_tree.proofs.CountLaws.{in_cases}
use Rattle.npp_tree.proofs.DivideLaws.{divides_is}
use Rattle.npp_tree.proofs.TreeLaws.{within_tree, within_after, IsWithinValue}
use Rattle.npp_check.specs.declared.refusal.Rule.{Rule}
use Rattle.npp_check.specs.declared.refusal.CheckRefusal.{CheckRefusal}
use Rattle.npp_check.specs.Multipliers.{multiplier_line}
use Rattle.npp_check.specs.Nodes.{IsProved, IsReadNode, AreReadNodes, BoundsPiece, TreesAreRight}
use Rattle.npp_check.specs.declared.block.Answer.{Answer}
use Rattle.npp_check.specs.declared.block.Opening.{Opening}
use Rattle.npp_check.specs.declared.block.Opening.TheVariants.{NotOpened, Marked, Answered}
use Rattle.npp_check.specs.NodeLines.{Place, Given, program_at, before, proof_by, opening_line, branch_line, branch_lines, evidence_lines, proof_lines, below_node, child_place, node_lines}
use Rattle.npp_check.specs.Reads.{Reads, Lines, at_line, next_line, line, last_line, more}
use Rattle.npp_check.proofs.TreeLemmas.{bind_parts}

-- ---- what was read

value_or : {X : Type 0} → X → Result (X × Lines) CheckRefusal → X
value_or x (Ok read) = read.0
value_or x (Err refusal) = x

pub same_value : {X : Type 0} (x y : X) (lines behind : Lines) → (let r : Result (X × Lines) CheckRefusal = Ok (x, lines) in r ≡ Ok (y, behind)) → x ≡ y
unfolding value_or
same_value {X} x y lines behind e = ap (value_or {X = X} x) e

pub at_line_says : {X : Type 0} (number : ℕ) (judged : Result X Rule) (lines behind : Lines) (x : X) → at_line number judged lines ≡ Ok (x, behind) → judged ≡ Ok x
at_line_says number (Ok y) lines behind x e = ap Ok (same_value y x lines behind e)
at_line_says number (Err rule) lines behind x e = cc

pub next_line_says : {X : Type 0} (judge : Item Rational → Result X Rule) (number : ℕ) (items : List (Item Rational)) (behind : Lines) (x : X)
    → next_line judge number items ≡ Ok (x, behind) → (i : Item Rational) × (judge i ≡ Ok x)
next_line_says judge number [] behind x e = cc
next_line_says judge number (i ∷ items) behind x e = (i, at_line_says number (judge i) _ behind x e)

-- ---- what a split line says

guarded : (test : Bool) (rule : Rule) (x y : Option Division) → (let r : Result (Option Division) Rule = cond (not test) (Err rule) (Ok x) in r ≡ Ok y) → (test ≡ true) × (x ≡ y)
guarded true rule x y e = (refl, cc)
guarded false rule x y e = cc

abbrev IsRightBranch : Family → Option Division → Type 0
IsRightBranch parts branch = IfSome branch (λ d. divides parts d ≡ true)

right_branch : (parts : Family) (i : Item Rational) (branch : Option Division) → branch_line parts i ≡ Ok branch → IsRightBranch parts branch
right_branch parts (item.Leaf) branch e = subst (IsRightBranch parts) (some_of e) tt
  where
    some_of : (let r : Result (Option Division) Rule = Ok None in r ≡ Ok branch) → None ≡ branch
    some_of d = cc
right_branch parts (item.Split k part) branch e =
    let g = guarded (divides parts (record { commodity = k; part = part })) _ (Some (record { commodity = k; part = part })) branch e in
    subst (IsRightBranch parts) g.1 g.0
right_branch parts other branch e = cc

right_branch_lines : (parts : Family) (opening : Opening) (lines behind : Lines) (branch : Option Division)
    → branch_lines parts opening lines ≡ Ok (branch, behind) → IsRightBranch parts branch
right_branch_lines parts NotOpened lines behind branch e = subst (IsRightBranch parts) (same_value None branch lines behind e) tt
right_branch_lines parts (Marked mark) lines behind branch e =
    let says = next_line_says (branch_line parts) lines.number lines.items behind branch e in right_branch parts says.0 branch says.1
right_branch_lines parts (Answered answer n) lines behind branch e =
    let says = next_line_says (branch_line parts) lines.number lines.items behind branch e in right_branch parts says.0 branch says.1

-- ---- each node

module _ (g : Given) where
  proof_says : (parts : Family) (answer : Answer) (n : ℕ) (lines behind : Lines) (read : List (Multiplier Rational) × BoundValue)
      → proof_lines (program_at g parts) (proof_by g.limit (program_at g parts) answer) n lines ≡ Ok (read, behind)
      → IsProved g parts (Some read.1)
  proof_says parts answer n lines behind read e =
      let all = bind_parts (more (λ above. line (multiplier_line (program_at g parts) above)) n [] lines) _ read behind e in
      let last = bind_parts (last_line (proof_by g.limit (program_at g parts) answer all.0) all.1) _ read behind all.3 in
      let says = at_line_says _ (proof_by g.limit (program_at g parts) answer all.0) all.1 last.1 last.0 last.2 in
      let value : last.0 ≡ read.1 = ap (λ r. r.1) (same_value _ read last.1 behind last.3) in
      (answer, all.0, says ∙ ap Ok value)

  evidence_says : (parts : Family) (opening : Opening) (lines behind : Lines) (proof : Evidence Rational × Option BoundValue)
      → evidence_lines g parts opening lines ≡ Ok (proof, behind) → IsProved g parts proof.1
  evidence_says parts NotOpened lines behind proof e = subst (IsProved g parts) (ap (λ r. r.1) (same_value _ proof lines behind e)) tt
  evidence_says parts (Marked mark) lines behind proof e = subst (IsProved g parts) (ap (λ r. r.1) (same_value _ proof lines behind e)) tt
  evidence_says parts (Answered answer n) lines behind proof e =
      let read = bind_parts (proof_lines (program_at g parts) (proof_by g.limit (program_at g parts) answer) n lines) _ proof behind e in
      subst (IsProved g parts) (ap (λ r. r.1) (same_value _ proof read.1 behind read.3)) (proof_says parts answer n lines read.1 read.0 read.2)

  abbrev AreRead : Place → Tree Node → Type 0
  AreRead place tree = (p : Placed Node) → Contains (nodes_below g.model place.parts place.parent tree) p → IsReadNode g p

  abbrev ReadsRightly : (Place → Reads (Tree Node)) → Type 0
  ReadsRightly child = (place : Place) (lines behind : Lines) (tree : Tree Node) → child place lines ≡ Ok (tree, behind) → AreRead place tree

  -- the node itself, and those below it
  below_says : (child : Place → Reads (Tree Node)) → ReadsRightly child → (place : Place) (evidence : Evidence Rational) (value : Option BoundValue) (branch : Option Division)
      (lines behind : Lines) (tree : Tree Node) → IsProved g place.parts value → IsRightBranch place.parts branch
      → below_node child place.parts (record { evidence = evidence; bound = bound_after (before g place) value }) branch lines ≡ Ok (tree, behind)
      → AreRead place tree
  below_says child h place evidence value None lines behind tree proved right e =
      subst (AreRead place) (same_value (Leaf (record { evidence = evidence; bound = bound_after (before g place) value })) tree lines behind e)
      (λ p c. elim (in_cases _ p [] c) [
        | inl same ↦ subst (IsReadNode g) same (record { value = value; proved = proved; bound = refl; divided = tt })
        | inr rest ↦ (let lt = rest.1 in absurd (omega arith))
      ])
  below_says child h place evidence value (Some d) lines behind tree proved right e =
      let n : Node = record { evidence = evidence; bound = bound_after (before g place) value } in
      let first = bind_parts (child (child_place n.bound (first_of place.parts d)) lines) _ tree behind e in
      let second = bind_parts (child (child_place n.bound (second_of place.parts d)) first.1) _ tree behind first.3 in
      let left = nodes_below g.model (first_of place.parts d) n.bound first.0 in
      let right_nodes = nodes_below g.model (second_of place.parts d) n.bound second.0 in
      subst (AreRead place) (same_value (Split n d first.0 second.0) tree second.1 behind second.3)
      (λ p c. elim (in_cases _ p (left ++ right_nodes) c) [
        | inl same ↦ subst (IsReadNode g) same (record { value = value; proved = proved; bound = refl; divided = right })
        | inr rest ↦ elim (Contains-append_cases left right_nodes p rest) [
          | inl on_left ↦ h (child_place n.bound (first_of place.parts d)) lines first.1 first.0 first.2 p on_left
          | inr on_right ↦ h (child_place n.bound (second_of place.parts d)) first.1 second.1 second.0 second.2 p on_right
        ]
      ])

  node_says : (depth : ℕ) → ReadsRightly (node_lines g depth)
  node_says zero place lines behind tree e = cc
  node_says (suc depth) place lines behind tree e =
      let opening = bind_parts (line (opening_line (is_full place.parts)) lines) _ tree behind e in
      let proof = bind_parts (evidence_lines g place.parts opening.0 opening.1) _ tree behind opening.3 in
      let branch = bind_parts (branch_lines place.parts opening.0 proof.1) _ tree behind proof.3 in
      below_says (node_lines g depth) (node_says depth) place proof.0.0 proof.0.1 branch.0 branch.1 behind tree
      (evidence_says place.parts opening.0 opening.1 proof.1 proof.0 proof.2)
      (right_branch_lines place.parts opening.0 proof.1 branch.1 branch.0 branch.2)
      branch.3

  pub are_read_nodes : AreReadNodes g
  are_read_nodes place lines behind tree e p c = node_says (length lines.items) place lines behind tree e p c

-- ---- the bound of the tree

divided_by : (family : Family) (o : Option Division) → IfSome o (λ d. divides family d ≡ true) → IfSome o (Divides family)
divided_by family None h = tt
divided_by family (Some d) h = divides_is family d h

-- the two facts on rows: the basic bound, and what an answer of a node's program proves
module _ (net : Network) (g : Given)
    (basic_holds : (parts : Family) → IsAllowed g.model parts → BoundsPiece net g.model parts (at_whole (basic_of g.model parts)))
    (answers_hold : (parts : Family) (answer : Answer) (ys : List (Multiplier Rational)) (value : BoundValue) → IsAllowed g.model parts
    → proof_by g.limit (program_at g parts) answer ys ≡ Ok value → BoundsPiece net g.model parts value) where
  value_holds : (parts : Family) (value : Option BoundValue) → IsAllowed g.model parts → IsProved g parts value → (t : TollVector) (choice : List ℕ) → IsInPiece net g.model parts t choice
      → IsWithinValue (earned net g.model t choice) value
  value_holds parts None allowed proved t choice piece = tt
  value_holds parts (Some value) allowed proved t choice piece = answers_hold parts proved.0 proved.1 value allowed proved.2 t choice piece

  pub trees_are_right : TreesAreRight net g
  trees_are_right place lines behind tree allowed above e t choice piece =
      let nodes : AreRead g place tree = are_read_nodes g place lines behind tree e in
      within_tree net g.model t choice place.parts place.parent tree allowed piece
      (λ parts is in_piece. basic_holds parts is t choice in_piece)
      (above t choice piece)
      (λ p c. divided_by p.family p.division (nodes p c).divided)
      (λ p c is in_piece h.
      let r = nodes p c in
      subst (IsWithin (earned net g.model t choice)) (sym r.bound) (within_after (earned net g.model t choice) p.before r.value h (value_holds p.family r.value is r.proved t choice in_piece)))
