-- What comes behind a node, once its first line is read.
use Rattle.std.specs.Prelude.{◌≡◌, ℕ, ◌+◌, ◌-◌, List, [], ◌∷◌, Option, Some, None, Result, Ok, Err, refl}
use Rattle.std.proofs.Common.{arith, ap, sym, ◌∙◌}
use Rattle.npp_frac.specs.Rational.{Rational}
use Rattle.npp_rows.specs.declared.names.Multiplier.{Multiplier}
use Rattle.npp_tree.specs.declared.node.Evidence.{Evidence}
use Rattle.npp_tree.specs.declared.node.Evidence.TheVariants as evidence
use Rattle.npp_net.specs.Network.{Network}
use Rattle.npp_tree.specs.Bounds.{BoundValue, Empty, greater}
use Rattle.npp_rows.specs.Parts.{is_full}
use Rattle.npp_tree.specs.Family.{Family, Division, first_of, second_of}
use Rattle.npp_tree.specs.Tree.{Node, Tree, Split, bound_after, opened_count, opened_in, tree_bound}
use Rattle.npp_check.specs.declared.refusal.CheckRefusal.{CheckRefusal}
use Rattle.npp_check.specs.declared.refusal.Rule.{Rule}
use Rattle.npp_check.specs.Measures.{Measures}
use Rattle.npp_check.specs.HeadLines.{header_line, status_line, width_line, lower_line, upper_line, opened_line, instance_lines}
use Rattle.npp_check.specs.TollLines.{toll_lines}
use Rattle.npp_check.specs.PathLines.{path_lines}
use Rattle.npp_check.specs.CoverLines.{all_covers}
use Rattle.npp_check.specs.CutLines.{cuts_line, all_cuts}
use Rattle.npp_check.specs.EndLine.{Head, tree_line, end_line}
use Rattle.npp_check.specs.Reads.{Reads, Lines, at_line, done, line, last_line, more, read_behind, ◌>>=◌}
use Rattle.npp_check.specs.declared.block.Answer.{Answer}
use Rattle.npp_check.specs.declared.block.Answer.TheVariants.{OfDual, OfFarkas, OfInverse, OfNoInverse}
use Rattle.npp_check.specs.declared.block.Opening.{Opening}
use Rattle.npp_check.specs.declared.block.Opening.TheVariants.{NotOpened, Marked, Answered}
use Rattle.npp_check.specs.NodeLines.{Place, root_place, program_at, before, evidence_by, proof_by, opening_line, branch_line, branch_lines, evidence_lines, below_node, tree_at, child_place}
use Rattle.npp_rows.specs.Caps.{path_model}
use Rattle.npp_check.specs.Multipliers.{multiplier_line}
use Rattle.npp_tree.specs.declared.item.Item.{Item}
use Rattle.npp_check.specs.Verdict.{certificate}
use Rattle.npp_check.specs.Stages.{Case, Sum, Known, nothing_yet, with_tree, given, from_end, from_header, nodes_to_come, from_branch, at_branch, from_opening}
use Rattle.npp_check.proofs.TreeLemmas.{bind_agrees, tree_at_unfolds}
use Rattle.npp_tree.proofs.GreaterLaws.{empty-greater}
use Rattle.npp_check.proofs.SumLemmas.{sum_of_split}

-- reading in three parts, grouped in either way
pub bind_assoc : {X Y Z : Type 0} (v : Result (X × Lines) CheckRefusal) (f : X → Reads Y) (h : Y → Reads Z)
    → read_behind (read_behind v f) h ≡ read_behind v (λ x. f x >>= h)
bind_assoc (Ok read) f h = refl
bind_assoc (Err refusal) f h = refl

module _ (limit : ℕ) (c : Case) (k : Known) (places : List Place) (s : Sum) where
  -- below an opened node with this bound stand its children, where it is split, and then the nodes to come
  pub behind_node : (n : Node) (parts : Family) → opened_count n.evidence ≡ 1 → (branch : Option Division) (lines : Lines)
      → read_behind (below_node (tree_at (given limit c k)) parts n branch lines) (λ tree. nodes_to_come limit c k places (with_tree s tree))
      ≡ from_branch limit c k places s parts n.bound branch lines
  behind_node n parts e None lines =
      let o : s.opened + opened_count n.evidence ≡ s.opened + 1 = omega (arith, e) in
      ap (λ count. nodes_to_come limit c k places (record { opened = count; bound = greater s.bound n.bound }) lines) o
  behind_node n parts e (Some d) lines =
      let one : Place = child_place n.bound (first_of parts d) in
      let two : Place = child_place n.bound (second_of parts d) in
      bind_assoc (tree_at (given limit c k) one lines) (λ first. tree_at (given limit c k) two >>= λ second. done (Split n d first second)) (λ tree. nodes_to_come limit c k places (with_tree s tree))
      ∙ bind_agrees (tree_at (given limit c k) one lines) _ _ (λ first behind e1.
      bind_assoc (tree_at (given limit c k) two behind) (λ second. done (Split n d first second)) (λ tree. nodes_to_come limit c k places (with_tree s tree))
      ∙ bind_agrees (tree_at (given limit c k) two behind) _ _ (λ second rest e2.
      ap (λ sum. nodes_to_come limit c k places sum rest) (sum_of_split s n d first second e)))

  is_opened : (answer : Answer) (ys : List (Multiplier Rational)) → opened_count (evidence_by answer ys) ≡ 1
  is_opened OfDual ys = refl
  is_opened OfFarkas ys = refl
  is_opened OfInverse ys = refl
  is_opened OfNoInverse ys = refl

  -- the line behind the evidence of an opened node
  behind_evidence : (n : Node) (parts : Family) → opened_count n.evidence ≡ 1 → (lines : Lines)
      → read_behind (read_behind (line (branch_line parts) lines) (below_node (tree_at (given limit c k)) parts n)) (λ tree. nodes_to_come limit c k places (with_tree s tree))
      ≡ at_branch limit c k places s parts n.bound lines
  behind_evidence n parts e lines =
      bind_assoc (line (branch_line parts) lines) (below_node (tree_at (given limit c k)) parts n) (λ tree. nodes_to_come limit c k places (with_tree s tree))
      ∙ bind_agrees (line (branch_line parts) lines) _ _ (λ branch behind d. behind_node n parts e branch behind)

  -- what follows from the judgement of all multipliers of a node
  by_value : (p : Place) (answer : Answer) (ys : List (Multiplier Rational)) (number : ℕ) (r : Result BoundValue Rule) (lines : Lines)
      → read_behind (read_behind (read_behind (read_behind (at_line number r lines) (λ value. done {X = List (Multiplier Rational) × BoundValue} (ys, value)))
      (λ read. done {X = Evidence Rational × Option BoundValue} (evidence_by answer read.0, Some read.1)))
      (λ proof. line (branch_line p.parts) >>= λ branch. below_node (tree_at (given limit c k)) p.parts (record { evidence = proof.0; bound = bound_after (before (given limit c k) p) proof.1 }) branch))
      (λ tree. nodes_to_come limit c k places (with_tree s tree))
      ≡ read_behind (at_line number r lines) (λ value. at_branch limit c k places s p.parts (bound_after (before (given limit c k) p) (Some value)))
  by_value p answer ys number (Ok value) lines =
      behind_evidence (record { evidence = evidence_by answer ys; bound = bound_after (before (given limit c k) p) (Some value) }) p.parts (is_opened answer ys) lines
  by_value p answer ys number (Err rule) lines = refl

  -- and from its multipliers
  by_multipliers : (p : Place) (answer : Answer) (proof : List (Multiplier Rational) → Result BoundValue Rule) (v : Result (List (Multiplier Rational) × Lines) CheckRefusal)
      → read_behind (read_behind (read_behind (read_behind v (λ ys. last_line (proof ys) >>= λ value. done {X = List (Multiplier Rational) × BoundValue} (ys, value)))
      (λ read. done {X = Evidence Rational × Option BoundValue} (evidence_by answer read.0, Some read.1)))
      (λ proof. line (branch_line p.parts) >>= λ branch. below_node (tree_at (given limit c k)) p.parts (record { evidence = proof.0; bound = bound_after (before (given limit c k) p) proof.1 }) branch))
      (λ tree. nodes_to_come limit c k places (with_tree s tree))
      ≡ read_behind v (λ ys. last_line (proof ys) >>= λ value. at_branch limit c k places s p.parts (bound_after (before (given limit c k) p) (Some value)))
  by_multipliers p answer proof (Ok read) = by_value p answer read.0 (read.1.number - 1) (proof read.0) read.1
  by_multipliers p answer proof (Err refusal) = refl

  by_opening : (p : Place) (opening : Opening) (lines : Lines)
      → read_behind (read_behind (evidence_lines (given limit c k) p.parts opening lines)
      (λ proof. branch_lines p.parts opening >>= λ branch. below_node (tree_at (given limit c k)) p.parts (record { evidence = proof.0; bound = bound_after (before (given limit c k) p) proof.1 }) branch))
      (λ tree. nodes_to_come limit c k places (with_tree s tree))
      ≡ from_opening limit c k places s p opening lines
  by_opening p NotOpened lines =
      let o : s.opened + 0 ≡ s.opened = omega arith in
      ap (λ count. nodes_to_come limit c k places (record { opened = count; bound = greater s.bound (before (given limit c k) p) }) lines) o
  by_opening p (Marked mark) lines = behind_evidence (record { evidence = evidence.Basic mark; bound = before (given limit c k) p }) p.parts refl lines
  by_opening p (Answered answer n) lines =
      by_multipliers p answer (proof_by limit (program_at (given limit c k) p.parts) answer)
      (more (λ above. line (multiplier_line (program_at (given limit c k) p.parts) above)) n [] lines)

  -- the first of the nodes to come begins by its opening
  pub node_step : (p : Place) (number : ℕ) (items : List (Item Rational))
      → nodes_to_come limit c k (p ∷ places) s (record { number = number; items = items })
      ≡ read_behind (line (opening_line (is_full p.parts)) (record { number = number; items = items })) (from_opening limit c k places s p)
  node_step p number items =
      ap (λ v. read_behind v (λ tree. nodes_to_come limit c k places (with_tree s tree))) (tree_at_unfolds (given limit c k) p number items)
      ∙ bind_assoc (line (opening_line (is_full p.parts)) (record { number = number; items = items }))
      (λ opening. evidence_lines (given limit c k) p.parts opening >>= λ proof. branch_lines p.parts opening >>= λ branch. below_node (tree_at (given limit c k)) p.parts (record { evidence = proof.0; bound = bound_after (before (given limit c k) p) proof.1 }) branch)
      (λ tree. nodes_to_come limit c k places (with_tree s tree))
      ∙ bind_agrees (line (opening_line (is_full p.parts)) (record { number = number; items = items })) _ _ (λ opening behind d. by_opening p opening behind)

module _ (limit : ℕ) (net : Network) (f : Measures) where
  abbrev on : Case
  on = record { net = net; measures = f }

  sum_of_root : (head : Head) (tree : Tree Node) (lines : Lines)
      → read_behind (line (end_line head (opened_in tree) (tree_bound tree)) lines) (λ _. done (record { lower = head.lower; upper = head.upper }))
      ≡ from_end limit on head (with_tree nothing_yet tree) lines
  sum_of_root head tree lines =
      let o : opened_in tree ≡ 0 + opened_in tree = omega arith in
      let b : tree_bound tree ≡ greater Empty (tree_bound tree) = sym (empty-greater (tree_bound tree)) in
      λ i. from_end limit on head (record { opened = o i; bound = b i }) lines

  -- before the first line the verdict is that of the whole certificate
  pub starts : (lines : Lines) → certificate limit net f lines ≡ from_header limit on lines
  starts lines =
      bind_agrees (line (header_line net) lines) _ _ (λ two l0 e0.
      bind_agrees (line status_line l0) _ _ (λ status l1 e1.
      bind_agrees (line width_line l1) _ _ (λ width l2 e2.
      bind_agrees (line lower_line l2) _ _ (λ lower l3 e3.
      bind_agrees (line upper_line l3) _ _ (λ upper l4 e4.
      bind_agrees (line opened_line l4) _ _ (λ opened l5 e5.
      bind_agrees (instance_lines net two l5) _ _ (λ limits l6 e6.
      bind_agrees (toll_lines net l6) _ _ (λ tolls l7 e7.
      bind_agrees (path_lines limit net tolls l7) _ _ (λ paths l8 e8.
      bind_agrees (all_covers net f l8) _ _ (λ covers l9 e9.
      bind_agrees (line (cuts_line limit net (path_model net covers) tolls paths lower) l9) _ _ (λ count l10 e10.
      bind_agrees (all_cuts limit (path_model net covers) count l10) _ _ (λ cuts l11 e11.
      bind_agrees (line tree_line l11) _ _ (λ word l12 e12.
      bind_agrees (tree_at (record { limit = limit; model = path_model net covers; cuts = cuts }) (root_place (path_model net covers)) l12) _ _ (λ tree l13 e13.
      sum_of_root (record { status = status; lower = lower; upper = upper; opened = opened }) tree l13))))))))))))))
