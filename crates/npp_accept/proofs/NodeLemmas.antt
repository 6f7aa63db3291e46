-- The lines of a node are read as they were written.
use Rattle.std.proofs.Common.{◌≡◌, ◌∙◌, ap, sym, subst, refl, ℕ, Bool, true, false, not, List, [], ◌∷◌, ◌++◌, length, map, Option, Some, None, Result, Ok, append-nil, append_assoc}
use Rattle.std.specs.Prelude.{IfSome}
use Rattle.std.proofs.lemmas.Bool.{true≢false, false≢true}
use Rattle.npp_frac.specs.Rational.{Rational, zero_ℚ, is_less}
use Rattle.npp_rows.specs.declared.names.RowName.{RowName}
use Rattle.npp_rows.specs.declared.names.Multiplier.{Multiplier}
use Rattle.npp_rows.specs.Named.{NamedProgram}
use Rattle.npp_rows.specs.Parts.{is_full}
use Rattle.npp_rows.specs.RowOrder.{has_row, is_before, is_before_first, are_rows, are_in_order, are_positive}
use Rattle.npp_rows.specs.Taken.{last_row, is_after}
use Rattle.npp_rows.specs.Derivations.{multipliers_fault}
use Rattle.npp_rows.proofs.TakenLaws.{last_push}
use Rattle.npp_leaf.specs.Passes.{HasDualValue, HasNoValue}
use Rattle.npp_tree.specs.declared.item.Item.{Item}
use Rattle.npp_tree.specs.declared.item.Item.TheVariants as item
use Rattle.npp_tree.specs.declared.node.Evidence.{Evidence}
use Rattle.npp_tree.specs.declared.node.Evidence.TheVariants.{Unopened, Basic, Dual, Farkas, Inverse, NoInverse}
use Rattle.npp_tree.specs.Bounds.{BoundValue, Empty, At}
use Rattle.npp_tree.specs.Evidence.{is_opened, IsOfKind}
use Rattle.npp_tree.specs.Family.{Family, Division, Divides, divides}
use Rattle.npp_tree.specs.Lines.{entry_lines}
use Rattle.npp_tree.specs.Lines as written
use Rattle.npp_tree.specs.Tree.{Node, Tree, Placed, bound_after}
use Rattle.npp_tree.proofs.DivideLaws.{divides_of}
use Rattle.npp_check.specs.declared.block.Answer.{Answer}
use Rattle.npp_check.specs.declared.block.Answer.TheVariants.{OfDual, OfFarkas, OfInverse, OfNoInverse}
use Rattle.npp_check.specs.declared.block.Opening.{Opening}
use Rattle.npp_check.specs.declared.block.Opening.TheVariants.{NotOpened, Marked, Answered}
use Rattle.npp_check.specs.declared.refusal.Rule.{Rule}
use Rattle.npp_check.specs.declared.refusal.Rule.TheVariants as rule
use Rattle.npp_check.specs.Rules.{broken_if}
use Rattle.npp_check.specs.Multipliers.{multiplier_line, dual_value, farkas_value}
use Rattle.npp_check.specs.NodeLines.{Place, Given, program_at, before, proof_by, evidence_by, opening_line, branch_line, branch_lines, evidence_lines, proof_lines, below_node, node_with}
use Rattle.npp_check.specs.Reads.{Reads, done, line, last_line, more, ◌>>=◌}
use Rattle.npp_check.proofs.RuleLemmas.{both}
use Rattle.npp_accept.proofs.GivesLemmas.{Gives, gives_done, gives_line, gives_last, gives_bind}
use Rattle.npp_accept.proofs.NamedLemmas.{named_by}

-- the lines of the one, where the other is read from none
pub gives_end : {X Y : Type 0} (first : Reads X) (next : X → Reads Y) (xs : List (Item Rational)) (x : X) (y : Y) → Gives first xs x → Gives (next x) [] y → Gives (first >>= next) xs y
gives_end first next xs x y a b = subst (λ (items : List (Item Rational)). Gives (first >>= next) items y) (append-nil xs) (gives_bind first next xs [] x y a b)

-- ---- multipliers

-- each is of a row of the program, behind the one before it and above 0
abbrev AreListed : NamedProgram → Option RowName → List (Multiplier Rational) → Type 0
AreListed p last [] = Unit {0}
AreListed p last (y ∷ ys) = (has_row p.rows y.row ≡ true) × (is_after last y.row ≡ true) × (is_less zero_ℚ y.value ≡ true) × AreListed p (Some y.row) ys

unbroken_by : (a b c : Bool) (r s t : Rule) (y : Multiplier Rational) → a ≡ true → b ≡ true → c ≡ true
    → broken_if (not a) r (broken_if (not b) s (broken_if (not c) t (Ok y))) ≡ Ok y
unbroken_by true true true r s t y e f g = refl
unbroken_by true true false r s t y e f g = absurd (false≢true g)
unbroken_by true false c r s t y e f g = absurd (false≢true f)
unbroken_by false b c r s t y e f g = absurd (false≢true e)

abbrev taken_lines : NamedProgram → ℕ → List (Multiplier Rational) → Reads (List (Multiplier Rational))
taken_lines p n above = more (λ earlier. line (multiplier_line p earlier)) n above

multipliers_give : (p : NamedProgram) (above ys : List (Multiplier Rational)) → AreListed p (last_row above) ys → Gives (taken_lines p (length ys) above) (map item.Mult ys) (above ++ ys)
multipliers_give p above [] h = subst (λ (all : List (Multiplier Rational)). Gives (done above) [] all) (sym (append-nil above)) (gives_done above)
multipliers_give p above (y ∷ ys) h =
    subst (λ (all : List (Multiplier Rational)). Gives (taken_lines p (length (y ∷ ys)) above) (map item.Mult (y ∷ ys)) all) (append_assoc above (y ∷ []) ys)
    (gives_bind (line (multiplier_line p above)) (λ z. taken_lines p (length ys) (above ++ z ∷ [])) (item.Mult y ∷ []) (map item.Mult ys) y ((above ++ y ∷ []) ++ ys)
    (gives_line (multiplier_line p above) (item.Mult y) y
    (unbroken_by (has_row p.rows y.row) (is_after (last_row above) y.row) (is_less zero_ℚ y.value) rule.Evidence rule.Evidence rule.Evidence y h.0 h.1 h.2))
    (multipliers_give p (above ++ y ∷ []) ys (subst (λ (last : Option RowName). AreListed p last ys) (sym (last_push above y)) h.3)))

-- whether the first of them stands behind a row
starts_behind : Option RowName → List (Multiplier Rational) → Bool
starts_behind last [] = true
starts_behind last (y ∷ ys) = is_after last y.row

next_behind : (y : Multiplier Rational) (ys : List (Multiplier Rational)) → is_before_first is_before y.row (map (λ z. z.row) ys) ≡ true → starts_behind (Some y.row) ys ≡ true
unfolding starts_behind
next_behind y [] e = refl
next_behind y (z ∷ ys) e = e

listed_from : (p : NamedProgram) (last : Option RowName) (ys : List (Multiplier Rational)) → are_rows p.rows ys ≡ true → are_in_order ys ≡ true → are_positive ys ≡ true
    → starts_behind last ys ≡ true → AreListed p last ys
unfolding starts_behind
listed_from p last [] rows order positive first = tt
listed_from p last (y ∷ ys) rows order positive first =
    let r = both (has_row p.rows y.row) (are_rows p.rows ys) rows in
    let o = both (is_before_first is_before y.row (map (λ z. z.row) ys)) (are_in_order ys) order in
    let s = both (is_less zero_ℚ y.value) (are_positive ys) positive in
    (r.0, first, s.0, listed_from p (Some y.row) ys r.1 o.1 s.1 (next_behind y ys o.0))

starts : (ys : List (Multiplier Rational)) → starts_behind None ys ≡ true
unfolding starts_behind
starts [] = refl
starts (y ∷ ys) = refl

listed_by : (p : NamedProgram) (ys : List (Multiplier Rational)) → multipliers_fault p ys ≡ None → AreListed p None ys
listed_by p ys e = let named = named_by p ys e in listed_from p None ys named.rows named.order named.positive (starts ys)

-- ---- the evidence

-- multipliers without a fault, with the value that they prove
proof_gives : (p : NamedProgram) (proof : List (Multiplier Rational) → Result BoundValue Rule) (ys : List (Multiplier Rational)) (value : BoundValue)
    → multipliers_fault p ys ≡ None → proof ys ≡ Ok value → Gives (proof_lines p proof (length ys)) (map item.Mult ys) (ys, value)
proof_gives p proof ys value none e =
    gives_end (taken_lines p (length ys) []) (λ zs. last_line (proof zs) >>= (λ v. done (zs, v))) (map item.Mult ys) ys (ys, value)
    (multipliers_give p [] ys (listed_by p ys none))
    (gives_bind (last_line (proof ys)) (λ v. done (ys, v)) [] [] value (ys, value) (gives_last (proof ys) value e) (gives_done (ys, value)))

answer_gives : (g : Given) (parts : Family) (answer : Answer) (ys : List (Multiplier Rational)) (value : BoundValue)
    → multipliers_fault (program_at g parts) ys ≡ None → proof_by g.limit (program_at g parts) answer ys ≡ Ok value
    → Gives (evidence_lines g parts (Answered answer (length ys))) (map item.Mult ys) (evidence_by answer ys, Some value)
answer_gives g parts answer ys value none e =
    gives_end (proof_lines (program_at g parts) (proof_by g.limit (program_at g parts) answer) (length ys)) (λ read. done (evidence_by answer read.0, Some read.1))
    (map item.Mult ys) (ys, value) (evidence_by answer ys, Some value)
    (proof_gives (program_at g parts) (proof_by g.limit (program_at g parts) answer) ys value none e)
    (gives_done (evidence_by answer ys, Some value))

-- what evidence proves at a limit: a node that was not opened has no value, and no mark has one
abbrev pub HasProof : ℕ → NamedProgram → Evidence Rational → Option BoundValue → Type 0
HasProof limit p Unopened value = value ≡ None
HasProof limit p (Basic mark) value = value ≡ None
HasProof limit p (Dual ys) value = HasDualValue limit p ys value
HasProof limit p (Farkas ys) value = HasNoValue limit p ys value
HasProof limit p (Inverse ys) value = HasDualValue limit p ys value
HasProof limit p (NoInverse ys) value = HasNoValue limit p ys value

-- the first line of evidence, and those behind it
abbrev head_item : Evidence Rational → Item Rational
head_item Unopened = item.Open
head_item (Basic mark) = item.Basic mark
head_item (Dual ys) = item.Dual (length ys)
head_item (Farkas ys) = item.Farkas (length ys)
head_item (Inverse ys) = item.Inverse (length ys)
head_item (NoInverse ys) = item.NoInverse (length ys)

abbrev later_items : Evidence Rational → List (Item Rational)
later_items Unopened = []
later_items (Basic mark) = []
later_items (Dual ys) = map item.Mult ys
later_items (Farkas ys) = map item.Mult ys
later_items (Inverse ys) = map item.Mult ys
later_items (NoInverse ys) = map item.Mult ys

evidence_items : (e : Evidence Rational) → written.evidence_lines e ≡ head_item e ∷ later_items e
evidence_items Unopened = refl
evidence_items (Basic mark) = refl
evidence_items (Dual ys) = refl
evidence_items (Farkas ys) = refl
evidence_items (Inverse ys) = refl
evidence_items (NoInverse ys) = refl

-- how a node with this evidence opens
abbrev opening_of : Evidence Rational → Opening
opening_of Unopened = NotOpened
opening_of (Basic mark) = Marked mark
opening_of (Dual ys) = Answered OfDual (length ys)
opening_of (Farkas ys) = Answered OfFarkas (length ys)
opening_of (Inverse ys) = Answered OfInverse (length ys)
opening_of (NoInverse ys) = Answered OfNoInverse (length ys)

opens : (full : Bool) (e : Evidence Rational) → IsOfKind full e → opening_line full (head_item e) ≡ Ok (opening_of e)
opens full Unopened kind = refl
opens full (Basic mark) kind = refl
opens true (Dual ys) kind = absurd (true≢false kind)
opens false (Dual ys) kind = refl
opens true (Farkas ys) kind = absurd (true≢false kind)
opens false (Farkas ys) kind = refl
opens true (Inverse ys) kind = refl
opens false (Inverse ys) kind = absurd (false≢true kind)
opens true (NoInverse ys) kind = refl
opens false (NoInverse ys) kind = absurd (false≢true kind)

evidence_gives : (g : Given) (parts : Family) (e : Evidence Rational) (value : Option BoundValue) → HasProof g.limit (program_at g parts) e value
    → Gives (evidence_lines g parts (opening_of e)) (later_items e) (e, value)
evidence_gives g parts Unopened value h = subst (λ (v : Option BoundValue). Gives (evidence_lines g parts NotOpened) [] (Unopened, v)) (sym h) (gives_done (Unopened, None))
evidence_gives g parts (Basic mark) value h = subst (λ (v : Option BoundValue). Gives (evidence_lines g parts (Marked mark)) [] (Basic mark, v)) (sym h) (gives_done (Basic mark, None))
evidence_gives g parts (Dual ys) value h =
    subst (λ (v : Option BoundValue). Gives (evidence_lines g parts (Answered OfDual (length ys))) (map item.Mult ys) (Dual ys, v)) (sym h.1)
    (answer_gives g parts OfDual ys (At h.0) h.2.listed (ap dual_value h.2.checked))
evidence_gives g parts (Farkas ys) value h =
    subst (λ (v : Option BoundValue). Gives (evidence_lines g parts (Answered OfFarkas (length ys))) (map item.Mult ys) (Farkas ys, v)) (sym h.0)
    (answer_gives g parts OfFarkas ys Empty h.1.listed (ap farkas_value h.1.checked))
evidence_gives g parts (Inverse ys) value h =
    subst (λ (v : Option BoundValue). Gives (evidence_lines g parts (Answered OfInverse (length ys))) (map item.Mult ys) (Inverse ys, v)) (sym h.1)
    (answer_gives g parts OfInverse ys (At h.0) h.2.listed (ap dual_value h.2.checked))
evidence_gives g parts (NoInverse ys) value h =
    subst (λ (v : Option BoundValue). Gives (evidence_lines g parts (Answered OfNoInverse (length ys))) (map item.Mult ys) (NoInverse ys, v)) (sym h.0)
    (answer_gives g parts OfNoInverse ys Empty h.1.listed (ap farkas_value h.1.checked))

-- ---- what follows it

split_said : (b : Bool) (d : Division) → b ≡ true → broken_if (not b) rule.Split (Ok (Some d)) ≡ Ok (Some d)
split_said true d e = refl
split_said false d e = absurd (false≢true e)

opened_gives : (parts : Family) (division : Option Division) → IfSome division (Divides parts)
    → Gives (line (branch_line parts)) (written.branch_lines true division) division
opened_gives parts None right = gives_line (branch_line parts) item.Leaf None refl
opened_gives parts (Some d) right =
    gives_line (branch_line parts) (item.Split d.commodity d.part) (Some d) (split_said (divides parts d) d (divides_of parts d right))

closed_gives : (parts : Family) (division : Option Division) → division ≡ None → Gives (branch_lines parts NotOpened) (written.branch_lines false division) division
closed_gives parts None leaf = gives_done None
closed_gives parts (Some d) leaf = cc

branch_gives : (parts : Family) (e : Evidence Rational) (division : Option Division) → IfSome division (Divides parts) → (is_opened e ≡ false → division ≡ None)
    → Gives (branch_lines parts (opening_of e)) (written.branch_lines (is_opened e) division) division
branch_gives parts Unopened division right leaf = closed_gives parts division (leaf refl)
branch_gives parts (Basic mark) division right leaf = opened_gives parts division right
branch_gives parts (Dual ys) division right leaf = opened_gives parts division right
branch_gives parts (Farkas ys) division right leaf = opened_gives parts division right
branch_gives parts (Inverse ys) division right leaf = opened_gives parts division right
branch_gives parts (NoInverse ys) division right leaf = opened_gives parts division right

-- ---- the whole node

-- a node that is written rightly: its evidence is of its kind and proves a value at the limit, by which its bound comes from
-- that before; and it is divided rightly, where it was opened
pub record IsWritten (g : Given) (p : Placed Node) : Type 0 where
  pub kind : IsOfKind (is_full p.family) p.node.evidence
  pub value : Option BoundValue
  pub proof : HasProof g.limit (program_at g p.family) p.node.evidence value
  pub bound : p.node.bound ≡ bound_after p.before value
  pub divided : IfSome p.division (Divides p.family)
  pub unopened : is_opened p.node.evidence ≡ false → p.division ≡ None

-- a node at a place
abbrev pub stands : Given → Place → Node → Option Division → Placed Node
stands g place n division = record { family = place.parts; before = before g place; node = n; division = division }

node_as : (n : Node) (b : BoundValue) → n.bound ≡ b → n ≡ record { evidence = n.evidence; bound = b }
node_as n b e = ap (λ (x : BoundValue). record { evidence = n.evidence; bound = x }) e

node_items : (e : Evidence Rational) (branch below : List (Item Rational)) → (written.evidence_lines e ++ branch) ++ below ≡ (head_item e ∷ []) ++ (later_items e ++ (branch ++ below))
node_items e branch below =
    ap (λ (items : List (Item Rational)). (items ++ branch) ++ below) (evidence_items e) ∙ append_assoc (head_item e ∷ later_items e) branch below

abbrev from_branch : Given → (Place → Reads (Tree Node)) → Place → Evidence Rational × Option BoundValue → Option Division → Reads (Tree Node)
from_branch g child place proof branch = below_node child place.parts (record { evidence = proof.0; bound = bound_after (before g place) proof.1 }) branch

abbrev from_evidence : Given → (Place → Reads (Tree Node)) → Place → Opening → Evidence Rational × Option BoundValue → Reads (Tree Node)
from_evidence g child place opening proof = branch_lines place.parts opening >>= from_branch g child place proof

abbrev from_opening : Given → (Place → Reads (Tree Node)) → Place → Opening → Reads (Tree Node)
from_opening g child place opening = evidence_lines g place.parts opening >>= from_evidence g child place opening

-- the lines of a node, and those of what is below it
pub node_gives : (g : Given) (child : Place → Reads (Tree Node)) (place : Place) (n : Node) (division : Option Division) (below : List (Item Rational)) (tree : Tree Node)
    → IsWritten g (stands g place n division) → Gives (below_node child place.parts n division) below tree
    → Gives (node_with g child place) (entry_lines (record { node = n; division = division }) ++ below) tree
node_gives g child place n division below tree h given =
    let e : Evidence Rational = n.evidence in
    let branch : List (Item Rational) = written.branch_lines (is_opened n.evidence) division in
    let proof : Evidence Rational × Option BoundValue = (n.evidence, h.value) in
    let here : Gives (from_branch g child place proof division) below tree =
    subst (λ (x : Node). Gives (below_node child place.parts x division) below tree) (node_as n (bound_after (before g place) h.value) h.bound) given in
    let behind_evidence : Gives (from_evidence g child place (opening_of e) proof) (branch ++ below) tree =
    gives_bind (branch_lines place.parts (opening_of e)) (from_branch g child place proof) branch below division tree (branch_gives place.parts e division h.divided h.unopened) here in
    let behind_opening : Gives (from_opening g child place (opening_of e)) (later_items e ++ (branch ++ below)) tree =
    gives_bind (evidence_lines g place.parts (opening_of e)) (from_evidence g child place (opening_of e)) (later_items e) (branch ++ below) proof tree (evidence_gives g place.parts e h.value h.proof) behind_evidence in
    subst (λ (items : List (Item Rational)). Gives (node_with g child place) items tree) (sym (node_items e branch below))
    (gives_bind (line (opening_line (is_full place.parts))) (from_opening g child place) (head_item e ∷ []) (later_items e ++ (branch ++ below)) (opening_of e) tree
    (gives_line (opening_line (is_full place.parts)) (head_item e) (opening_of e) (opens (is_full place.parts) e h.kind)) behind_opening)
