-- The lines of a tree are read as they were written, and so are those of the tree that a search grew.
use Rattle.std.proofs.Common.{◌≡◌, ◌∙◌, ap, sym, subst, refl, ℕ, ◌≤◌, Bool, true, false, List, [], ◌++◌, length, Contains, Option, Some, None, inl, inr}
use Rattle.std.specs.Prelude.{IfSome}
use Rattle.std.specs.List.{flat_map}
use Rattle.std.proofs.lemmas.Bool.{cases_Bool, true≢false}
use Rattle.std.proofs.lemmas.Grind.{flat_map-append}
use Rattle.std.proofs.lemmas.List.{length-map}
use Rattle.std.proofs.lemmas.List.Elements.{Contains-append_left, Contains-append_right}
use Rattle.npp_frac.specs.Fits.{limit_of, IsWidth}
use Rattle.npp_frac.specs.FitsLaws.{limit_at_most}
use Rattle.npp_frac.specs.Rational.{Rational}
use Rattle.npp_lp.specs.WiderLaws.{dual_verdict_wider, farkas_verdict_wider}
use Rattle.npp_net.specs.Network.{Network}
use Rattle.npp_cover.specs.Replaces.{CoverValue}
use Rattle.npp_rows.specs.declared.names.Multiplier.{Multiplier}
use Rattle.npp_rows.specs.Caps.{path_model}
use Rattle.npp_rows.specs.Named.{NamedProgram, numbered}
use Rattle.npp_rows.specs.PathModel.{PathModel}
use Rattle.npp_rows.specs.Parts.{is_full}
use Rattle.npp_rows.specs.RowOrder.{multiplier_of, multipliers_of}
use Rattle.npp_rows.proofs.ProgramLaws.{row_named}
use Rattle.npp_leaf.specs.Passes.{Passes, HasDualValue, HasNoValue}
use Rattle.npp_tree.specs.declared.item.Item.{Item}
use Rattle.npp_tree.specs.declared.node.Evidence.{Evidence}
use Rattle.npp_tree.specs.declared.node.Evidence.TheVariants.{Unopened, Basic, Dual, Farkas, Inverse, NoInverse}
use Rattle.npp_tree.specs.Bounds.{BoundValue}
use Rattle.npp_tree.specs.Evidence.{is_opened, IsOfKind}
use Rattle.npp_tree.specs.Family.{Division, Divides, first_of, second_of}
use Rattle.npp_tree.specs.Lines.{entry_lines}
use Rattle.npp_tree.specs.Outcome.{OutcomeValue}
use Rattle.npp_tree.specs.Tree.{Node, Tree, Leaf, Split, Placed, Entry, was_opened, nodes_below, preorder}
use Rattle.npp_tree.proofs.CountLaws.{in_head, in_tail}
use Rattle.npp_search.specs.Problem.{Problem, problem_of, program_of}
use Rattle.npp_search.specs.Grown.{Task, IsNode, IsOpenedNode, IsUnopenedNode, IsSplit}
use Rattle.npp_search.specs.Outcome.{IsGrownOutcome, whole_task}
use Rattle.npp_search.proofs.TurnLaws.{opened_node, unopened_node}
use Rattle.npp_check.specs.NodeLines.{Place, Given, child_place, root_place, node_with, below_node, tree_at}
use Rattle.npp_check.specs.Reads.{done, ◌>>=◌}
use Rattle.npp_check.proofs.TreeLemmas.{tree_at_unfolds}
use Rattle.npp_accept.proofs.GivesLemmas.{Gives, gives_done, gives_bind}
use Rattle.npp_accept.proofs.NodeLemmas.{IsWritten, HasProof, gives_end, node_gives, stands}

-- ---- a tree

module _ (g : Given) where
  -- each node below a place is written rightly
  abbrev AreWritten : Place → Tree Node → Type 0
  AreWritten place tree = (p : Placed Node) → Contains (nodes_below g.model place.parts place.parent tree) p → IsWritten g p

  unfolded : (place : Place) (items : List (Item Rational)) (tree : Tree Node) → Gives (node_with g (tree_at g) place) items tree → Gives (tree_at g place) items tree
  unfolded place items tree h number rest = tree_at_unfolds g place number (items ++ rest) ∙ h number rest

  pub tree_gives : (tree : Tree Node) (place : Place) → AreWritten place tree → Gives (tree_at g place) (flat_map entry_lines (preorder tree)) tree
  tree_gives (Leaf n) place h =
      unfolded place (flat_map entry_lines (preorder (Leaf n))) (Leaf n)
      (node_gives g (tree_at g) place n None [] (Leaf n) (h (stands g place n None) (in_head _ [])) (gives_done (Leaf n)))
  tree_gives (Split n d first second) place h =
      let left : List (Placed Node) = nodes_below g.model (first_of place.parts d) n.bound first in
      let right : List (Placed Node) = nodes_below g.model (second_of place.parts d) n.bound second in
      let above : Placed Node = stands g place n (Some d) in
      let a : Gives (tree_at g (child_place n.bound (first_of place.parts d))) (flat_map entry_lines (preorder first)) first =
      tree_gives first (child_place n.bound (first_of place.parts d)) (λ p c. h p (in_tail above p (left ++ right) (Contains-append_left left right p c))) in
      let b : Gives (tree_at g (child_place n.bound (second_of place.parts d))) (flat_map entry_lines (preorder second)) second =
      tree_gives second (child_place n.bound (second_of place.parts d)) (λ p c. h p (in_tail above p (left ++ right) (Contains-append_right left right p c))) in
      let below : Gives (below_node (tree_at g) place.parts n (Some d)) (flat_map entry_lines (preorder first) ++ flat_map entry_lines (preorder second)) (Split n d first second) =
      gives_bind (tree_at g (child_place n.bound (first_of place.parts d)))
      (λ x. tree_at g (child_place n.bound (second_of place.parts d)) >>= (λ y. done (Split n d x y)))
      (flat_map entry_lines (preorder first)) (flat_map entry_lines (preorder second)) first (Split n d first second) a
      (gives_end (tree_at g (child_place n.bound (second_of place.parts d))) (λ y. done (Split n d first y)) (flat_map entry_lines (preorder second)) second (Split n d first second) b
      (gives_done (Split n d first second))) in
      subst (λ (items : List (Item Rational)). Gives (tree_at g place) items (Split n d first second))
      (ap (λ (items : List (Item Rational)). entry_lines (record { node = n; division = Some d }) ++ items) (sym (flat_map-append entry_lines (preorder first) (preorder second))))
      (unfolded place (entry_lines (record { node = n; division = Some d }) ++ (flat_map entry_lines (preorder first) ++ flat_map entry_lines (preorder second))) (Split n d first second)
      (node_gives g (tree_at g) place n (Some d) (flat_map entry_lines (preorder first) ++ flat_map entry_lines (preorder second)) (Split n d first second)
      (h above (in_head above (left ++ right))) below))

-- ---- what passes its check at a limit passes it at a greater one

same_size : (p : NamedProgram) (ys : List (Multiplier Rational)) → length (multipliers_of p.rows ys) ≡ length (numbered p).rows
same_size p ys = length-map p.rows (multiplier_of ys) ∙ sym (length-map p.rows (row_named p))

module _ (m n : ℕ) (le : m ≤ n) where
  dual_wider : (p : NamedProgram) (ys : List (Multiplier Rational)) (value : Option BoundValue) → HasDualValue m p ys value → HasDualValue n p ys value
  dual_wider p ys value h =
      (h.0, h.1, record { listed = h.2.listed; checked = dual_verdict_wider m n le (numbered p) (multipliers_of p.rows ys) h.0 (same_size p ys) h.2.checked })

  farkas_wider : (p : NamedProgram) (ys : List (Multiplier Rational)) (value : Option BoundValue) → HasNoValue m p ys value → HasNoValue n p ys value
  farkas_wider p ys value h =
      (h.0, record { listed = h.1.listed; checked = farkas_verdict_wider m n le (numbered p) (multipliers_of p.rows ys) (same_size p ys) h.1.checked })

  proof_wider : (p : NamedProgram) (e : Evidence Rational) (value : Option BoundValue) → Passes m p e value → HasProof n p e value
  proof_wider p Unopened value h = absurd h
  proof_wider p (Basic mark) value h = h
  proof_wider p (Dual ys) value h = dual_wider p ys value h
  proof_wider p (Farkas ys) value h = farkas_wider p ys value h
  proof_wider p (Inverse ys) value h = dual_wider p ys value h
  proof_wider p (NoInverse ys) value h = farkas_wider p ys value h

-- ---- a node that was grown

unopened_proof : (limit : ℕ) (p : NamedProgram) (e : Evidence Rational) → is_opened e ≡ false → HasProof limit p e None
unopened_proof limit p Unopened closed = refl
unopened_proof limit p (Basic mark) closed = refl
unopened_proof limit p (Dual ys) closed = absurd (true≢false closed)
unopened_proof limit p (Farkas ys) closed = absurd (true≢false closed)
unopened_proof limit p (Inverse ys) closed = absurd (true≢false closed)
unopened_proof limit p (NoInverse ys) closed = absurd (true≢false closed)

unopened_kind : (full : Bool) (e : Evidence Rational) → is_opened e ≡ false → IsOfKind full e
unopened_kind full Unopened closed = tt
unopened_kind full (Basic mark) closed = tt
unopened_kind full (Dual ys) closed = absurd (true≢false closed)
unopened_kind full (Farkas ys) closed = absurd (true≢false closed)
unopened_kind full (Inverse ys) closed = absurd (true≢false closed)
unopened_kind full (NoInverse ys) closed = absurd (true≢false closed)

no_division : (division : Option Division) (D : Division → Type 0) → division ≡ None → IfSome division D
no_division None D leaf = tt
no_division (Some d) D leaf = cc

division_of : (division : Option Division) (S D : Division → Type 0) → ((d : Division) → S d → D d) → IfSome division S → IfSome division D
division_of None S D h s = tt
division_of (Some d) S D h s = h d s

-- what a checker at a limit is given where there are no cuts
abbrev pub without_cuts : ℕ → PathModel → Given
without_cuts limit m = record { limit = limit; model = m; cuts = [] }

module _ (P : Problem) (limit : ℕ) (le : P.limit ≤ limit) (task : Task) (lower : Rational) where
  opened_written : (p : Placed Node) → was_opened p ≡ true → IsOpenedNode P task lower p → IsWritten (without_cuts limit P.paths) p
  opened_written p opened is = record {
    kind = is.evidence.kind;
    value = is.value;
    proof = proof_wider P.limit limit le (program_of P p.family) p.node.evidence is.value is.evidence.passes;
    bound = is.bound;
    divided = division_of p.division (IsSplit P task p) (Divides p.family) (λ d split. split.divides) is.split;
    unopened = λ closed. absurd (true≢false (sym opened ∙ closed));
  }

  unopened_written : (p : Placed Node) → was_opened p ≡ false → IsUnopenedNode p → IsWritten (without_cuts limit P.paths) p
  unopened_written p closed is = record {
    kind = unopened_kind (is_full p.family) p.node.evidence closed;
    value = None;
    proof = unopened_proof limit (program_of P p.family) p.node.evidence closed;
    bound = is.bound;
    divided = no_division p.division (Divides p.family) is.leaf;
    unopened = λ _. is.leaf;
  }

  pub node_written : (p : Placed Node) → IsNode P task lower p → IsWritten (without_cuts limit P.paths) p
  node_written p is = elim (cases_Bool (was_opened p)) [
    | inl e ↦ opened_written p e (opened_node P task lower p is e)
    | inr e ↦ unopened_written p e (unopened_node P task lower p is e)
  ]

-- ---- the tree of an outcome

pub grown_tree_gives : (width budget : ℕ) (net : Network) (covers : List CoverValue) (o : OutcomeValue) → IsWidth width
    → (is : IsGrownOutcome (problem_of (limit_of width) net covers) budget o)
    → Gives (tree_at (without_cuts (limit_of 128) (path_model net covers)) (root_place (path_model net covers))) (flat_map entry_lines o.entries) is.growth.tree
grown_tree_gives width budget net covers o is_width is =
    let P : Problem = problem_of (limit_of width) net covers in
    let m : PathModel = path_model net covers in
    subst (λ (entries : List Entry). Gives (tree_at (without_cuts (limit_of 128) m) (root_place m)) (flat_map entry_lines entries) is.growth.tree) (sym is.shows.entries)
    (tree_gives (without_cuts (limit_of 128) m) is.growth.tree (root_place m)
    (λ p c. node_written P (limit_of 128) (limit_at_most width is_width) (whole_task P budget) is.growth.lower p (is.grown.growing.nodes p c)))
