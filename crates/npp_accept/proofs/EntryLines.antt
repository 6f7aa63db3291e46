-- The lines of a node are lines: their numbers are in range, and they are short.
use Rattle.std.proofs.Common.{◌≡◌, ap, sym, subst, refl, ℕ, ◌<◌, ◌≤◌, ◌^◌, Bool, true, false, cond, List, [], ◌∷◌, length, map, get_or, All, Contains, Option, Some, None, arith}
use Rattle.std.specs.Prelude.{IfSome}
use Rattle.std.specs.List.{flat_map}
use Rattle.std.proofs.lemmas.List.Elements.{All-nil, All-cons, All-head, All-tail, All-append, All-weaker, All-contains, Contains-get_or}
use Rattle.npp_frac.specs.Rational.{Rational}
use Rattle.npp_cover.specs.Replaces.{CoverValue}
use Rattle.npp_rows.specs.declared.mark.Mark.{Mark}
use Rattle.npp_rows.specs.declared.names.RowName.{RowName}
use Rattle.npp_rows.specs.declared.names.RowName.TheVariants.{Cap, Follow, Below, Use, Link, One, OneLow, Cut}
use Rattle.npp_rows.specs.declared.names.Multiplier.{Multiplier}
use Rattle.npp_rows.specs.Derivations.{multipliers_fault}
use Rattle.npp_rows.specs.Inverse.{inverse}
use Rattle.npp_rows.specs.Limits.{IsWithinLimits, path_total}
use Rattle.npp_rows.specs.NodeProgram.{node_program}
use Rattle.npp_rows.specs.Parts.{IsPart, IsAllowed, part_at, is_full, first_choice, chosen}
use Rattle.npp_rows.specs.PathModel.{PathModel, no_cover, path_count}
use Rattle.npp_rows.specs.Relax.{relaxation}
use Rattle.npp_rows.specs.RowOrder.{has_row, are_rows, DoRise}
use Rattle.npp_rows.specs.Rows.{IsRow, IsChoiceRow}
use Rattle.npp_rows.proofs.FamilyLaws.{part_short, path_count_within, used_inside}
use Rattle.npp_rows.proofs.ProgramLaws.{all_rows, all_choice_rows}
use Rattle.npp_rows.proofs.RelaxationLaws.{all_flat}
use Rattle.npp_rows.proofs.RowPlaces.{relaxation_rows_rise, choice_rows_rise}
use Rattle.npp_rows.proofs.StartLaws.{piece_within, sum_by_places}
use Rattle.npp_tree.specs.declared.item.Item.{Item}
use Rattle.npp_tree.specs.declared.item.Item.TheVariants as item
use Rattle.npp_tree.specs.declared.node.Evidence.{Evidence}
use Rattle.npp_tree.specs.declared.node.Evidence.TheVariants.{Unopened, Basic, Dual, Farkas, Inverse, NoInverse}
use Rattle.npp_tree.specs.Bounds.{BoundValue}
use Rattle.npp_tree.specs.Evidence.{is_opened}
use Rattle.npp_tree.specs.Family.{Division, Divides}
use Rattle.npp_tree.specs.Lines.{entry_lines}
use Rattle.npp_tree.specs.Lines as written
use Rattle.npp_tree.specs.Tree.{Node, Placed, Entry, preorder}
use Rattle.npp_tree.proofs.FamilyLaws.{families, entry_stands, Stands}
use Rattle.npp_search.specs.Problem.{Problem}
use Rattle.npp_search.specs.Grown.{Task, Growth, IsGrowing, IsNode, IsOpenedNode, nodes_of}
use Rattle.npp_search.proofs.TurnLaws.{opened_node, are_divided}
use Rattle.npp_cert_text.specs.Form.{HasLine, IsInForm, IsNumber, IsMark, entries}
use Rattle.npp_cert_text.specs.Form as form
use Rattle.npp_cert_text.proofs.ShortLines.{short_lines}
use Rattle.npp_check.proofs.RuleLemmas.{both}
use Rattle.npp_accept.specs.Numbers.{HaveValues, multipliers_in}
use Rattle.npp_accept.proofs.NodeLemmas.{IsWritten, HasProof}
use Rattle.npp_accept.proofs.NamedLemmas.{AreNamed, named_by, few_named, row_has}
use Rattle.npp_accept.proofs.TreeLemmas.{without_cuts, node_written}
use Rattle.npp_accept.proofs.MarkLemmas.{work_mark}
use Rattle.npp_accept.proofs.SizeLemmas.{few_rows}

-- an item in form without a list
pub plain_line : (i : Item Rational) → IsInForm i → entries i ≡ 0 → HasLine i
plain_line i is e = short_lines i is (omega (arith, e))

pub one_line : (i : Item Rational) → HasLine i → All HasLine (i ∷ [])
one_line i h = All-cons HasLine i [] h (All-nil HasLine)

-- ---- multipliers

multiplier_lines : (rows : List RowName) (ys : List (Multiplier Rational)) → All form.IsRow rows → are_rows rows ys ≡ true → HaveValues ys → All HasLine (map item.Mult ys)
multiplier_lines rows [] all are values = All-nil HasLine
multiplier_lines rows (y ∷ ys) all are values =
    let parts = both (has_row rows y.row) (are_rows rows ys) are in
    All-cons HasLine (item.Mult y) (map item.Mult ys)
    (plain_line (item.Mult y) (row_has form.IsRow rows y.row all parts.0, All-head (λ z. form.IsFraction z.value) y ys values) refl)
    (multiplier_lines rows ys all parts.1 (All-tail (λ z. form.IsFraction z.value) y ys values))

-- ---- one node

module _ (m : PathModel) (limits : IsWithinLimits m) (few : path_total m.covers ≤ 2000) where
  few_paths : (k : ℕ) → k < length m.covers → path_count m k ≤ 2000
  few_paths k l = omega (arith, piece_within (path_count m) k (length m.covers) l, sum_by_places (λ (c : CoverValue). length c.paths) no_cover m.covers, few)

  relaxed_row : (parts : List (List ℕ)) (r : RowName) → IsRow m parts 0 r → form.IsRow r
  relaxed_row parts (Cap a) h = omega (arith, h, limits.tolls)
  relaxed_row parts (Follow k q) h = (omega (arith, h.0, limits.commodities), omega (arith, h.1, path_count_within m k limits))
  relaxed_row parts (Below a k) h = (omega (arith, used_inside m parts k a h.used, limits.tolls), omega (arith, h.commodity, limits.commodities))
  relaxed_row parts (Use a k) h = (omega (arith, used_inside m parts k a h.used, limits.tolls), omega (arith, h.commodity, limits.commodities))
  relaxed_row parts (Link a k) h = (omega (arith, used_inside m parts k a h.used, limits.tolls), omega (arith, h.commodity, limits.commodities))
  relaxed_row parts (One k) h = omega (arith, h, limits.commodities)
  relaxed_row parts (OneLow k) h = omega (arith, h, limits.commodities)
  relaxed_row parts (Cut i) h = absurd (omega (arith, h))

  choice_row : (r : RowName) → IsChoiceRow m r → form.IsRow r
  choice_row (Cap a) h = omega (arith, h, limits.tolls)
  choice_row (Follow k q) h = (omega (arith, h.0, limits.commodities), omega (arith, h.1, path_count_within m k limits))
  choice_row (Below a k) h = absurd h
  choice_row (Use a k) h = absurd h
  choice_row (Link a k) h = absurd h
  choice_row (One k) h = absurd h
  choice_row (OneLow k) h = absurd h
  choice_row (Cut i) h = absurd h

  module _ (parts : List (List ℕ)) (allowed : IsAllowed m parts) where
    program_rows : All form.IsRow (node_program m [] parts).rows
    program_rows = by (is_full parts)
      where
        by : (b : Bool) → All form.IsRow (cond b (inverse m (first_choice parts)) (relaxation m parts [])).rows
        by true = All-weaker (IsChoiceRow m) form.IsRow choice_row (inverse m (first_choice parts)).rows (all_choice_rows m)
        by false = All-weaker (IsRow m parts 0) form.IsRow (relaxed_row parts) (relaxation m parts []).rows (all_rows m parts 0)

    program_rises : DoRise (node_program m [] parts).rows
    program_rises = by (is_full parts)
      where
        by : (b : Bool) → DoRise (cond b (inverse m (first_choice parts)) (relaxation m parts [])).rows
        by true = choice_rows_rise m (λ k. Some (chosen (first_choice parts) k))
        by false = relaxation_rows_rise m parts 0

    -- the lines of a block of multipliers
    block_lines : (head : ℕ → Item Rational) (ys : List (Multiplier Rational)) → ((n : ℕ) → n < 2 ^ 32 → HasLine (head n))
        → multipliers_fault (node_program m [] parts) ys ≡ None → HaveValues ys → All HasLine (written.block head ys)
    block_lines head ys line none values =
        let named : AreNamed (node_program m [] parts) ys = named_by (node_program m [] parts) ys none in
        let count : length ys < 2 ^ 32 = omega (arith, few_named (node_program m [] parts) ys program_rises named, few_rows m limits parts allowed) in
        All-cons HasLine (head (length ys)) (map item.Mult ys) (line (length ys) count) (multiplier_lines (node_program m [] parts).rows ys program_rows named.rows values)

    evidence_have : (limit : ℕ) (e : Evidence Rational) (value : Option BoundValue) → HasProof limit (node_program m [] parts) e value → ((k : Mark) → e ≡ Basic k → IsMark k)
        → HaveValues (multipliers_in e) → All HasLine (written.evidence_lines e)
    evidence_have limit Unopened value proof marks values = one_line item.Open (plain_line item.Open tt refl)
    evidence_have limit (Basic k) value proof marks values = one_line (item.Basic k) (plain_line (item.Basic k) (marks k refl) refl)
    evidence_have limit (Dual ys) value proof marks values = block_lines item.Dual ys (λ n l. plain_line (item.Dual n) l refl) proof.2.listed values
    evidence_have limit (Farkas ys) value proof marks values = block_lines item.Farkas ys (λ n l. plain_line (item.Farkas n) l refl) proof.1.listed values
    evidence_have limit (Inverse ys) value proof marks values = block_lines item.Inverse ys (λ n l. plain_line (item.Inverse n) l refl) proof.2.listed values
    evidence_have limit (NoInverse ys) value proof marks values = block_lines item.NoInverse ys (λ n l. plain_line (item.NoInverse n) l refl) proof.1.listed values

    split_line : (d : Division) → Divides parts d → HasLine (item.Split d.commodity d.part)
    split_line d divides =
        let k : ℕ = d.commodity in
        let inside : k < length m.covers = omega (arith, divides.commodity, allowed.size) in
        let whole : IsPart (path_count m k) (part_at parts k) = allowed.each k divides.commodity in
        let each : All (λ q. q < path_count m k) d.part =
        (λ i x l. All-contains (λ q. q < path_count m k) (part_at parts k) (get_or d.part i x) whole.in_range (divides.within (get_or d.part i x) (Contains-get_or d.part i x l))) in
        let size : length d.part ≤ path_count m k = part_short (path_count m k) d.part (record { some = divides.some; rising = divides.rising; in_range = each }) in
        let most : path_count m k ≤ 2000 = few_paths k inside in
        short_lines (item.Split d.commodity d.part)
        (omega (arith, inside, limits.commodities), (λ i x l. omega (arith, each i x l, most)), divides.some)
        (omega (arith, size, most))

    branch_have : (opened : Bool) (division : Option Division) → IfSome division (Divides parts) → All HasLine (written.branch_lines opened division)
    branch_have true None divides = one_line item.Leaf (plain_line item.Leaf tt refl)
    branch_have false None divides = All-nil HasLine
    branch_have opened (Some d) divides = one_line (item.Split d.commodity d.part) (split_line d divides)

-- ---- all nodes of a tree that grows

module _ (P : Problem) (limits : IsWithinLimits P.paths) (few : path_total P.paths.covers ≤ 2000) (task : Task) (g : Growth) (allowed : IsAllowed P.paths task.family) (growing : IsGrowing P task g) where
  marks_of : (p : Placed Node) → IsNode P task g.lower p → IsAllowed P.paths p.family → (k : Mark) → p.node.evidence ≡ Basic k → IsMark k
  marks_of p node is k e =
      let node_is : IsOpenedNode P task g.lower p = opened_node P task g.lower p node (ap is_opened e) in
      work_mark P limits p.family k is ((node_is.evidence.marked k).0 e)

  placed_have : (p : Placed Node) → Contains (nodes_of P task g) p → HaveValues (multipliers_in p.node.evidence) → All HasLine (entry_lines (record { node = p.node; division = p.division }))
  placed_have p c values =
      let node : IsNode P task g.lower p = growing.nodes p c in
      let is : IsAllowed P.paths p.family = families (λ (n : Node). n.bound) P.paths task.family task.bound g.tree allowed (are_divided P task g growing) p c in
      let right : IsWritten (without_cuts P.limit P.paths) p = node_written P P.limit (omega arith) task g.lower p node in
      All-append HasLine (written.evidence_lines p.node.evidence) (written.branch_lines (is_opened p.node.evidence) p.division)
      (evidence_have P.paths limits few p.family is P.limit p.node.evidence right.value right.proof (marks_of p node is) values)
      (branch_have P.paths limits few p.family is (is_opened p.node.evidence) p.division right.divided)

  entry_have : (e : Entry) → Contains (preorder g.tree) e → HaveValues (multipliers_in e.node.evidence) → All HasLine (entry_lines e)
  entry_have e c values =
      let found = entry_stands P.paths task.family task.bound g.tree e c in
      let p : Placed Node = found.0 in
      let stands : Stands (nodes_of P task g) e p = found.1 in
      let same : record { node = p.node; division = p.division } ≡ e = (λ i. record { node = stands.node i; division = stands.division i }) in
      subst (λ (x : Entry). All HasLine (entry_lines x)) same
      (placed_have p stands.among (subst (λ (n : Node). HaveValues (multipliers_in n.evidence)) (sym stands.node) values))

  -- the lines of all nodes
  pub nodes_have : All (λ (e : Entry). HaveValues (multipliers_in e.node.evidence)) (preorder g.tree) → All HasLine (flat_map entry_lines (preorder g.tree))
  nodes_have values =
      all_flat HasLine entry_lines (preorder g.tree)
      (λ k d l. entry_have (get_or (preorder g.tree) k d) (Contains-get_or (preorder g.tree) k d l) (values k d l))
