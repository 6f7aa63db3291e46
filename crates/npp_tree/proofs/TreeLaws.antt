-- The bound of a tree: it is that of its certificate, and what an outcome earns is within it where each node keeps what is earned.
use Rattle.std.proofs.Common.{◌≡◌, inl, inr, ℕ, cond, ◌++◌, List, [], refl, sym, ◌∙◌, subst, ap, arith, Contains, Option, Some, None}
use Rattle.std.specs.Prelude.{count_by}
use Rattle.std.proofs.lemmas.List.Sums.{sum_by-cons, sum_by-append}
use Rattle.std.proofs.lemmas.List.Elements.{Contains-append_left, Contains-append_right, Contains-append_cases}
use Rattle.npp_frac.specs.Rational.{Rational}
use Rattle.npp_net.specs.Network.{Network}
use Rattle.npp_net.specs.Toll.{TollVector}
use Rattle.npp_rows.specs.PathModel.{PathModel}
use Rattle.npp_rows.specs.Parts.{IsAllowed, IsChoiceFrom}
use Rattle.npp_rows.specs.Basic.{basic_of}
use Rattle.npp_rows.specs.Piece.{IsInPiece, earned}
use Rattle.npp_tree.specs.Bounds.{BoundValue, At, at_whole, greater, IsAtMost, IsWithin}
use Rattle.npp_tree.specs.Family.{Family, Division, first_of, second_of}
use Rattle.npp_tree.specs.Evidence.{is_opened}
use Rattle.npp_tree.specs.Tree.{Node, Tree, Leaf, Split, Placed, Entry, bound_before, nodes_below, preorder, opened_in, tree_bound, IsTreeBound, bound_after}
use Rattle.npp_tree.proofs.BoundLaws.{at_most_refl, at_most_trans, lesser_left, greater_left, greater_right, greater_is_one, within_lesser}
use Rattle.npp_tree.proofs.CountLaws.{in_head, in_tail, in_cases, AreDivided}
use Rattle.npp_tree.proofs.FamilyLaws.{leaf_for}

not_both : (d : Division) (o : Option Division) → Some d ≡ o → o ≡ None → ⊥
not_both d None e f = cc
not_both d (Some x) e f = cc

pub tree_bound_is : (tree : Tree Node) → IsTreeBound (preorder tree) (tree_bound tree)
tree_bound_is (Leaf n) = record {
  attained = (_, in_head _ [], refl, refl);
  greatest = λ e c leaf. elim (in_cases _ e [] c) [
    | inl same ↦ subst (λ (x : Entry). IsAtMost x.node.bound n.bound) same (at_most_refl n.bound)
    | inr rest ↦ (let lt = rest.1 in absurd (omega arith))
  ];
}
tree_bound_is (Split n d first second) =
    let left = preorder first in
    let right = preorder second in
    let a = tree_bound_is first in
    let b = tree_bound_is second in
    record {
      attained = elim (greater_is_one (tree_bound first) (tree_bound second)) [
        | inl e ↦ (a.attained.0, in_tail _ a.attained.0 (left ++ right) (Contains-append_left left right a.attained.0 a.attained.1), a.attained.2, a.attained.3 ∙ sym e)
        | inr e ↦ (b.attained.0, in_tail _ b.attained.0 (left ++ right) (Contains-append_right left right b.attained.0 b.attained.1), b.attained.2, b.attained.3 ∙ sym e)
      ];
      greatest = λ e c leaf. elim (in_cases _ e (left ++ right) c) [
        | inl same ↦ absurd (not_both d e.division (ap (λ (x : Entry). x.division) same) leaf)
        | inr rest ↦ elim (Contains-append_cases left right e rest) [
          | inl on_left ↦ at_most_trans e.node.bound (tree_bound first) (greater (tree_bound first) (tree_bound second)) (a.greatest e on_left leaf) (greater_left (tree_bound first) (tree_bound second))
          | inr on_right ↦ at_most_trans e.node.bound (tree_bound second) (greater (tree_bound first) (tree_bound second)) (b.greatest e on_right leaf) (greater_right (tree_bound first) (tree_bound second))
        ]
      ];
    }

-- no leaf of a tree has a greater bound
pub leaf_within : (m : PathModel) (family : Family) (parent : BoundValue) (tree : Tree Node) (p : Placed Node) → Contains (nodes_below m family parent tree) p
    → p.division ≡ None → IsAtMost p.node.bound (tree_bound tree)
leaf_within m family parent (Leaf n) p c leaf = elim (in_cases _ p [] c) [
  | inl same ↦ subst (λ (x : Placed Node). IsAtMost x.node.bound n.bound) same (at_most_refl n.bound)
  | inr rest ↦ (let lt = rest.1 in absurd (omega arith))
]
leaf_within m family parent (Split n d first second) p c leaf =
    let left = nodes_below m (first_of family d) n.bound first in
    let right = nodes_below m (second_of family d) n.bound second in
    elim (in_cases _ p (left ++ right) c) [
      | inl same ↦ absurd (not_both d p.division (ap (λ (x : Placed Node). x.division) same) leaf)
      | inr rest ↦ elim (Contains-append_cases left right p rest) [
        | inl on_left ↦ at_most_trans p.node.bound (tree_bound first) (greater (tree_bound first) (tree_bound second)) (leaf_within m (first_of family d) n.bound first p on_left leaf) (greater_left (tree_bound first) (tree_bound second))
        | inr on_right ↦ at_most_trans p.node.bound (tree_bound second) (greater (tree_bound first) (tree_bound second)) (leaf_within m (second_of family d) n.bound second p on_right leaf) (greater_right (tree_bound first) (tree_bound second))
      ]
    ]

-- as many nodes were opened as the certificate says
pub opened_entries : (tree : Tree Node) → count_by (λ e. is_opened e.node.evidence) (preorder tree) ≡ opened_in tree
opened_entries (Leaf n) = omega arith
opened_entries (Split n d first second) =
    let f : Entry → ℕ = λ e. cond (is_opened e.node.evidence) 1 0 in
    omega (arith, sum_by-cons f (record { node = n; division = Some d }) (preorder first ++ preorder second), sum_by-append f (preorder first) (preorder second), opened_entries first, opened_entries second)

-- where no bound rises at its own node, that of the tree is at most the parent's
greater_below : (b c d : BoundValue) → IsAtMost b d → IsAtMost c d → IsAtMost (greater b c) d
greater_below b c d h k = elim (greater_is_one b c) [
  | inl e ↦ subst (λ (x : BoundValue). IsAtMost x d) (sym e) h
  | inr e ↦ subst (λ (x : BoundValue). IsAtMost x d) (sym e) k
]

pub tree_below : (m : PathModel) (family : Family) (parent : BoundValue) (tree : Tree Node)
    → ((p : Placed Node) → Contains (nodes_below m family parent tree) p → IsAtMost p.node.bound p.before) → IsAtMost (tree_bound tree) parent
tree_below m family parent (Leaf n) falls =
    at_most_trans n.bound (bound_before m family parent) parent (falls _ (in_head _ [])) (lesser_left parent (at_whole (basic_of m family)))
tree_below m family parent (Split n d first second) falls =
    let left = nodes_below m (first_of family d) n.bound first in
    let right = nodes_below m (second_of family d) n.bound second in
    let here : IsAtMost n.bound parent = at_most_trans n.bound (bound_before m family parent) parent (falls _ (in_head _ (left ++ right))) (lesser_left parent (at_whole (basic_of m family))) in
    let on_left = tree_below m (first_of family d) n.bound first (λ p c. falls p (in_tail _ p (left ++ right) (Contains-append_left left right p c))) in
    let on_right = tree_below m (second_of family d) n.bound second (λ p c. falls p (in_tail _ p (left ++ right) (Contains-append_right left right p c))) in
    at_most_trans (greater (tree_bound first) (tree_bound second)) n.bound parent (greater_below (tree_bound first) (tree_bound second) n.bound on_left on_right) here

pub after_below : (before : BoundValue) (value : Option BoundValue) → IsAtMost (bound_after before value) before
after_below before None = at_most_refl before
after_below before (Some v) = lesser_left before v

-- ---- what an outcome earns

-- what is within the bound before, and within the value of the evidence if there is one, is within the bound after
abbrev pub IsWithinValue : Rational → Option BoundValue → Type 0
IsWithinValue q None = Unit {0}
IsWithinValue q (Some value) = IsWithin q value

pub within_after : (q : Rational) (before : BoundValue) (value : Option BoundValue) → IsWithin q before → IsWithinValue q value → IsWithin q (bound_after before value)
within_after q before None h k = h
within_after q before (Some value) h k = within_lesser q before value h k

module _ (net : Network) (m : PathModel) (t : TollVector) (choice : List ℕ) where
  -- a node keeps what the outcome earns, if it allows its paths
  abbrev pub KeepsEarned : Placed Node → Type 0
  KeepsEarned p = IsAllowed m p.family → IsInPiece net m p.family t choice → IsWithin (earned net m t choice) p.before → IsWithin (earned net m t choice) p.node.bound

  -- where the basic bounds hold and each node keeps what the outcome earns, that is within the bound of the tree
  pub within_tree : (family : Family) (parent : BoundValue) (tree : Tree Node) → IsAllowed m family → IsInPiece net m family t choice
      → ((parts : Family) → IsAllowed m parts → IsInPiece net m parts t choice → IsWithin (earned net m t choice) (at_whole (basic_of m parts)))
      → IsWithin (earned net m t choice) parent → AreDivided (nodes_below m family parent tree)
      → ((p : Placed Node) → Contains (nodes_below m family parent tree) p → KeepsEarned p)
      → IsWithin (earned net m t choice) (tree_bound tree)
  within_tree family parent tree is piece basic above divided keeps =
      let in_piece : (parts : Family) → IsChoiceFrom m parts choice → IsInPiece net m parts t choice =
      λ parts from. record { allowed = from; outcome = piece.outcome; capped = piece.capped } in
      let found = leaf_for m choice (At (earned net m t choice)) (λ parts allowed from. basic parts allowed (in_piece parts from)) family parent tree is piece.allowed divided above
      (λ p c allowed from h. keeps p c allowed (in_piece p.family from) h) in
      at_most_trans (At (earned net m t choice)) found.0.node.bound (tree_bound tree) found.1.bound (leaf_within m family parent tree found.0 found.1.among found.1.leaf)
