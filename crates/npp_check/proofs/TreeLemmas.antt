-- A tree is read node by node: how deep a node may be does not matter once there is a line for each node.
use Rattle.std.specs.Prelude.{◌≡◌, ℕ, zero, suc, ◌+◌, ◌<◌, ◌≤◌, List, [], ◌∷◌, ◌++◌, length, Option, Some, None, Result, Ok, Err, refl}
use Rattle.std.proofs.Common.{arith, ap, ◌∙◌}
use Rattle.npp_frac.specs.Rational.{Rational}
use Rattle.npp_rows.specs.declared.names.Multiplier.{Multiplier}
use Rattle.npp_tree.specs.declared.item.Item.{Item}
use Rattle.npp_tree.specs.Bounds.{BoundValue}
use Rattle.npp_tree.specs.Tree.{Node, Tree, bound_after}
use Rattle.npp_tree.specs.declared.node.Evidence.{Evidence}
use Rattle.npp_rows.specs.Parts.{is_full}
use Rattle.npp_tree.specs.Family.{Family, Division}
use Rattle.npp_check.specs.declared.refusal.Rule.{Rule}
use Rattle.npp_check.specs.declared.refusal.CheckRefusal.{CheckRefusal}
use Rattle.npp_rows.specs.Named.{NamedProgram}
use Rattle.npp_check.specs.Reads.{Reads, Lines, done, at_line, read_behind, next_line, line, last_line, more, ◌>>=◌}
use Rattle.npp_check.specs.declared.block.Opening.{Opening}
use Rattle.npp_check.specs.declared.block.Opening.TheVariants.{NotOpened, Marked, Answered}
use Rattle.npp_check.specs.NodeLines.{Place, program_at, before, opening_line, Given, evidence_lines, proof_lines, branch_lines, below_node, node_with, node_lines, tree_at}

-- ---- what is left behind

left_behind : {X : Type 0} → Lines → Result (X × Lines) CheckRefusal → Lines
left_behind none (Ok read) = read.1
left_behind none (Err refusal) = none

-- no more lines are left than there were
abbrev pub Shrinks : {X : Type 0} → Reads X → Type 0
Shrinks {X} r = (lines behind : Lines) (x : X) → r lines ≡ Ok (x, behind) → length behind.items ≤ length lines.items

-- fewer lines are left
abbrev pub Consumes : {X : Type 0} → Reads X → Type 0
Consumes {X} r = (lines behind : Lines) (x : X) → r lines ≡ Ok (x, behind) → length behind.items < length lines.items

same_left : {X : Type 0} (x y : X) (lines behind : Lines) → (let r : Result (X × Lines) CheckRefusal = Ok (x, lines) in r ≡ Ok (y, behind)) → lines ≡ behind
unfolding left_behind
same_left {X} x y lines behind e = ap (left_behind {X = X} lines) e

left_at_line : {X : Type 0} (number : ℕ) (judged : Result X Rule) (lines behind : Lines) (x : X) → at_line number judged lines ≡ Ok (x, behind) → lines ≡ behind
left_at_line number (Ok y) lines behind x e = same_left y x lines behind e
left_at_line number (Err rule) lines behind x e = cc

done_shrinks : {X : Type 0} (x : X) → Shrinks (done x)
done_shrinks x lines behind y e = let s : lines ≡ behind = same_left x y lines behind e in rw s (omega arith)

last_line_shrinks : {X : Type 0} (judged : Result X Rule) → Shrinks (last_line judged)
last_line_shrinks judged lines behind x e = let s : lines ≡ behind = left_at_line _ judged lines behind x e in rw s (omega arith)

next_line_consumes : {X : Type 0} (judge : Item Rational → Result X Rule) (number : ℕ) (items : List (Item Rational)) (behind : Lines) (x : X)
    → next_line judge number items ≡ Ok (x, behind) → length behind.items < length items
next_line_consumes judge number [] behind x e = cc
next_line_consumes judge number (item ∷ items) behind x e =
    let s : record { number = number + 1; items = items } ≡ behind = left_at_line number (judge item) (record { number = number + 1; items = items }) behind x e in
    let n : length items ≡ length behind.items = ap (λ l. length l.items) s in
    omega (arith, n)

line_consumes : {X : Type 0} (judge : Item Rational → Result X Rule) → Consumes (line judge)
line_consumes judge lines behind x e = next_line_consumes judge lines.number lines.items behind x e

line_shrinks : {X : Type 0} (judge : Item Rational → Result X Rule) → Shrinks (line judge)
line_shrinks judge lines behind x e = let c : length behind.items < length lines.items = line_consumes judge lines behind x e in omega (arith, c)

-- ---- one after another

pub bind_parts : {X Y : Type 0} (v : Result (X × Lines) CheckRefusal) (next : X → Reads Y) (y : Y) (behind : Lines)
    → read_behind v next ≡ Ok (y, behind) → (x : X) × (mid : Lines) × (v ≡ Ok (x, mid)) × (next x mid ≡ Ok (y, behind))
bind_parts (Ok read) next y behind e = (read.0, read.1, refl, e)
bind_parts (Err refusal) next y behind e = cc

bind_shrinks : {X Y : Type 0} (r : Reads X) (next : X → Reads Y) → Shrinks r → ((x : X) → Shrinks (next x)) → Shrinks (r >>= next)
bind_shrinks r next h k lines behind y e =
    let parts = bind_parts (r lines) next y behind e in
    let a : length parts.1.items ≤ length lines.items = h lines parts.1 parts.0 parts.2 in
    let b : length behind.items ≤ length parts.1.items = k parts.0 parts.1 behind y parts.3 in
    omega (arith, a, b)

more_shrinks : {X : Type 0} (each : List X → Reads X) → ((above : List X) → Shrinks (each above)) → (n : ℕ) (above : List X) → Shrinks (more each n above)
more_shrinks each h zero above = done_shrinks above
more_shrinks each h (suc n) above = bind_shrinks (each above) (λ x. more each n (above ++ x ∷ [])) (h above) (λ x. more_shrinks each h n (above ++ x ∷ []))

-- what is read next may be read in another way, as long as it reads the same there
pub bind_agrees : {X Y : Type 0} (v : Result (X × Lines) CheckRefusal) (next other : X → Reads Y)
    → ((x : X) (behind : Lines) → v ≡ Ok (x, behind) → next x behind ≡ other x behind) → read_behind v next ≡ read_behind v other
bind_agrees (Ok read) next other h = h read.0 read.1 refl
bind_agrees (Err refusal) next other h = refl

-- ---- the lines of a node

proof_shrinks : (p : NamedProgram) (proof : List (Multiplier Rational) → Result BoundValue Rule) (n : ℕ) → Shrinks (proof_lines p proof n)
proof_shrinks p proof n =
    bind_shrinks _ _ (more_shrinks _ (λ above. line_shrinks _) n [])
    (λ ys. bind_shrinks _ _ (last_line_shrinks (proof ys)) (λ value. done_shrinks _))

evidence_shrinks : (g : Given) (parts : Family) (opening : Opening) → Shrinks (evidence_lines g parts opening)
evidence_shrinks g parts NotOpened = done_shrinks _
evidence_shrinks g parts (Marked mark) = done_shrinks _
evidence_shrinks g parts (Answered answer n) =
    bind_shrinks _ _ (proof_shrinks (program_at g parts) _ n) (λ read. done_shrinks _)

branch_shrinks : (parts : Family) (opening : Opening) → Shrinks (branch_lines parts opening)
branch_shrinks parts NotOpened = done_shrinks _
branch_shrinks parts (Marked mark) = line_shrinks _
branch_shrinks parts (Answered answer n) = line_shrinks _

below_shrinks : (child : Place → Reads (Tree Node)) → ((p : Place) → Shrinks (child p))
    → (parts : Family) (n : Node) (branch : Option Division) → Shrinks (below_node child parts n branch)
below_shrinks child h parts n None = done_shrinks _
below_shrinks child h parts n (Some d) =
    bind_shrinks _ _ (h _) (λ first. bind_shrinks _ _ (h _) (λ second. done_shrinks _))

node_shrinks : (g : Given) (depth : ℕ) (place : Place) → Shrinks (node_lines g depth place)
node_shrinks g zero place = λ lines behind x e. cc
node_shrinks g (suc depth) place =
    bind_shrinks _ _ (line_shrinks _) (λ opening.
    bind_shrinks _ _ (evidence_shrinks g place.parts opening) (λ proof.
    bind_shrinks _ _ (branch_shrinks place.parts opening) (λ branch.
    below_shrinks (node_lines g depth) (node_shrinks g depth) place.parts _ branch)))

-- ---- how deep a node may be does not matter

-- two ways to read a tree are one where at most so many lines are left
abbrev Agree : ℕ → (Place → Reads (Tree Node)) → (Place → Reads (Tree Node)) → Type 0
Agree n a b = (place : Place) (lines : Lines) → length lines.items ≤ n → a place lines ≡ b place lines

pub then_agrees : {X Y : Type 0} (r s : Result (X × Lines) CheckRefusal) (next other : X → Reads Y) → r ≡ s
    → ((x : X) (behind : Lines) → s ≡ Ok (x, behind) → next x behind ≡ other x behind) → read_behind r next ≡ read_behind s other
then_agrees r s next other e h = ap (λ v. read_behind v next) e ∙ bind_agrees s next other h

below_agrees : (n : ℕ) (a b : Place → Reads (Tree Node)) → Agree n a b → ((p : Place) → Shrinks (b p))
    → (parts : Family) (node : Node) (branch : Option Division) (lines : Lines) → length lines.items ≤ n
    → below_node a parts node branch lines ≡ below_node b parts node branch lines
below_agrees n a b h k parts node None lines l = refl
below_agrees n a b h k parts node (Some d) lines l =
    then_agrees _ _ _ _ (h _ lines l) (λ first behind e.
    then_agrees _ _ _ _ (h _ behind (let c = k _ lines behind first e in omega (arith, c, l))) (λ second rest f. refl))

abbrev from_branch : Given → (Place → Reads (Tree Node)) → Place → Evidence Rational × Option BoundValue → Option Division → Reads (Tree Node)
from_branch g child place proof branch = below_node child place.parts (record { evidence = proof.0; bound = bound_after (before g place) proof.1 }) branch

abbrev from_evidence : Given → (Place → Reads (Tree Node)) → Place → Opening → Evidence Rational × Option BoundValue → Reads (Tree Node)
from_evidence g child place opening proof = branch_lines place.parts opening >>= from_branch g child place proof

abbrev from_opening : Given → (Place → Reads (Tree Node)) → Place → Opening → Reads (Tree Node)
from_opening g child place opening = evidence_lines g place.parts opening >>= from_evidence g child place opening

-- a node is read alike where its children are
node_agrees : (g : Given) (n : ℕ) (a b : Place → Reads (Tree Node)) → Agree n a b → ((p : Place) → Shrinks (b p))
    → (place : Place) (lines : Lines) → length lines.items ≤ suc n → node_with g a place lines ≡ node_with g b place lines
node_agrees g n a b h k place lines l =
    bind_agrees (line (opening_line (is_full place.parts)) lines) (from_opening g a place) (from_opening g b place) (λ opening after_opening e.
    bind_agrees (evidence_lines g place.parts opening after_opening) (from_evidence g a place opening) (from_evidence g b place opening) (λ proof after_proof f.
    bind_agrees (branch_lines place.parts opening after_proof) (from_branch g a place proof) (from_branch g b place proof) (λ branch after_branch d.
    below_agrees n a b h k place.parts (record { evidence = proof.0; bound = bound_after (before g place) proof.1 }) branch after_branch
    (let first : length after_opening.items < length lines.items = line_consumes (opening_line (is_full place.parts)) lines after_opening opening e in
    let second : length after_proof.items ≤ length after_opening.items = evidence_shrinks g place.parts opening after_opening after_proof proof f in
    let third : length after_branch.items ≤ length after_proof.items = branch_shrinks place.parts opening after_proof after_branch branch d in
    omega (arith, l, first, second, third)))))

enough : (g : Given) (c d : ℕ) (place : Place) (number : ℕ) (items : List (Item Rational)) → length items ≤ c → length items ≤ d
    → node_lines g c place (record { number = number; items = items }) ≡ node_lines g d place (record { number = number; items = items })
enough g zero zero place number items h k = refl
enough g zero (suc d) place number [] h k = refl
enough g zero (suc d) place number (item ∷ items) h k = absurd (omega (arith, h))
enough g (suc c) zero place number [] h k = refl
enough g (suc c) zero place number (item ∷ items) h k = absurd (omega (arith, k))
enough g (suc c) (suc d) place number [] h k = refl
enough g (suc c) (suc d) place number (item ∷ items) h k =
    node_agrees g (length items) (node_lines g c) (node_lines g d)
    (λ p lines l. enough g c d p lines.number lines.items (omega (arith, l, h)) (omega (arith, l, k)))
    (node_shrinks g d) place (record { number = number; items = item ∷ items }) (omega arith)

pub tree_shrinks : (g : Given) (place : Place) → Shrinks (tree_at g place)
tree_shrinks g place lines = node_shrinks g (length lines.items) place lines

-- a tree is a node whose children are trees
pub tree_at_unfolds : (g : Given) (place : Place) (number : ℕ) (items : List (Item Rational))
    → tree_at g place (record { number = number; items = items }) ≡ node_with g (tree_at g) place (record { number = number; items = items })
tree_at_unfolds g place number [] = refl
tree_at_unfolds g place number (item ∷ items) =
    node_agrees g (length items) (node_lines g (length items)) (tree_at g)
    (λ p lines l. enough g (length items) (length lines.items) p lines.number lines.items l (omega arith))
    (tree_shrinks g) place (record { number = number; items = item ∷ items }) (omega arith)
