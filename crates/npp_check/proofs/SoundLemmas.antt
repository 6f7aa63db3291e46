-- Why an upper value holds: answers bound what the outcomes of a node earn, accepted cuts are valid, and so the bound of the tree holds.
use Rattle.std.specs.Prelude.{◌≡◌, ℕ, zero, suc, ◌<◌, pos, List, [], ◌∷◌, ◌++◌, Result, Ok, Err, refl}
use Rattle.std.proofs.Common.{arith, ap, subst}
use Rattle.std.proofs.lemmas.List.Elements.{All-nil, All-cons, All-append}
use Rattle.npp_frac.specs.Rational.{Rational, ratio, ◌≤ℚ◌, Is-le, Is-ratio, Is-whole}
use Rattle.npp_lp.specs.declared.faults.DualFault.{DualFault}
use Rattle.npp_lp.specs.declared.faults.DualFault.TheVariants as dual
use Rattle.npp_lp.specs.declared.faults.FarkasFault.{FarkasFault}
use Rattle.npp_lp.specs.declared.faults.FarkasFault.TheVariants as farkas
use Rattle.npp_lp.specs.DualVerdict.{dual_verdict}
use Rattle.npp_lp.specs.FarkasVerdict.{farkas_verdict}
use Rattle.npp_lp.specs.AnswerLaws.{dual_verdict_sound, farkas_verdict_sound}
use Rattle.npp_lp.specs.DualLaws.{weak_duality, no_point_of_farkas}
use Rattle.npp_net.specs.declared.types.ArcId.{ArcId}
use Rattle.npp_net.specs.Network.{Network}
use Rattle.npp_net.specs.Toll.{TollVector}
use Rattle.npp_net.specs.Outcome.{IsOutcome, revenue}
use Rattle.npp_cover.specs.Replaces.{CoverValue}
use Rattle.npp_rows.specs.declared.names.Multiplier.{Multiplier}
use Rattle.npp_rows.specs.declared.cut.CutFault.{CutFault}
use Rattle.npp_rows.specs.declared.cut.CutFault.TheVariants as fault
use Rattle.npp_rows.specs.PathModel.{PathModel}
use Rattle.npp_rows.specs.Caps.{path_model}
use Rattle.npp_rows.specs.Parts.{IsAllowed, all_paths}
use Rattle.npp_rows.specs.Named.{NamedProgram, numbered, vector}
use Rattle.npp_rows.specs.RowOrder.{multipliers_of}
use Rattle.npp_rows.specs.Cuts.{Cut as CutRow}
use Rattle.npp_rows.specs.Derivations.{derivation_verdict}
use Rattle.npp_rows.specs.Basic.{basic_of}
use Rattle.npp_rows.specs.Piece.{earned, outcome_number, walks_of, IsValidCut, AreValidCuts}
use Rattle.npp_rows.specs.Lowering.{AreClosedCovers, lowered}
use Rattle.npp_rows.specs.Promises.{IsModelOf, IsPointOf}
use Rattle.npp_rows.proofs.DerivationLaws.{rows_in_order, multipliers_size}
use Rattle.npp_rows.proofs.CutLaws.{all_allowed}
use Rattle.npp_rows.proofs.RoundLaws.{derivation_holds}
use Rattle.npp_rows.proofs.LoweringLaws.{can_be_lowered}
use Rattle.npp_rows.proofs.BasicLaws.{basic_holds}
use Rattle.npp_rows.proofs.InverseLaws.{node_holds}
use Rattle.npp_tree.specs.Bounds.{BoundValue, Empty, At, at_whole, IsWithin}
use Rattle.npp_tree.specs.Family.{Family}
use Rattle.npp_tree.specs.Tree.{Node, Tree, tree_bound}
use Rattle.npp_check.specs.declared.refusal.Rule.{Rule}
use Rattle.npp_check.specs.Multipliers.{dual_value, farkas_value, dual_proof, farkas_proof}
use Rattle.npp_check.specs.declared.block.Answer.{Answer}
use Rattle.npp_check.specs.declared.block.Answer.TheVariants.{OfDual, OfFarkas, OfInverse, OfNoInverse}
use Rattle.npp_check.specs.NodeLines.{Given, root_place, program_at, proof_by, tree_at}
use Rattle.npp_check.specs.Nodes.{BoundsPiece, TreesAreRight}
use Rattle.npp_check.specs.CutLines.{cut_line, cut_multiplier, derived, one_cut, all_cuts}
use Rattle.npp_check.specs.Reads.{Lines, line, more}
use Rattle.npp_check.proofs.TreeLemmas.{bind_parts}
use Rattle.npp_check.proofs.NodeLemmas.{same_value, at_line_says, trees_are_right}

-- ---- what a proof says

dual_says : (r : Result Rational (DualFault Rational)) (value : BoundValue) → dual_value r ≡ Ok value → (v : Rational) × (r ≡ Ok v) × (At v ≡ value)
dual_says (Ok v) value e = (v, refl, cc)
dual_says (Err (dual.Overflow o)) value e = cc
dual_says (Err other) value e = cc

farkas_says : (r : Result (Unit {0}) (FarkasFault Rational)) (value : BoundValue) → farkas_value r ≡ Ok value → (r ≡ Ok tt) × (Empty ≡ value)
farkas_says (Ok u) value e = (refl, cc)
farkas_says (Err (farkas.Overflow o)) value e = cc
farkas_says (Err other) value e = cc

module _ (net : Network) (m : PathModel) (t : TollVector) (choice : List ℕ) (p : NamedProgram) (point : IsPointOf net m p t choice) (limit : ℕ) (ys : List (Multiplier Rational)) where
  dual_bounds : (value : BoundValue) → dual_proof limit p ys ≡ Ok value → IsWithin (earned net m t choice) value
  dual_bounds value e =
      let says = dual_says (dual_verdict limit (numbered p) (multipliers_of p.rows ys)) value e in
      let answer = dual_verdict_sound limit (numbered p) (multipliers_of p.rows ys) says.0 (multipliers_size p ys) says.1 in
      let below = weak_duality (numbered p) (multipliers_of p.rows ys) says.0 (rows_in_order p) answer (vector p (outcome_number m t choice)) point.point in
      subst (IsWithin (earned net m t choice)) says.2 (subst (λ (q : Rational). q ≤ℚ says.0) point.goal below)

  farkas_bounds : (value : BoundValue) → farkas_proof limit p ys ≡ Ok value → IsWithin (earned net m t choice) value
  farkas_bounds value e =
      let says = farkas_says (farkas_verdict limit (numbered p) (multipliers_of p.rows ys)) value e in
      let answer = farkas_verdict_sound limit (numbered p) (multipliers_of p.rows ys) (multipliers_size p ys) says.0 in
      absurd (no_point_of_farkas (numbered p) (multipliers_of p.rows ys) (rows_in_order p) answer (vector p (outcome_number m t choice)) point.point)

  answer_bounds : (answer : Answer) (value : BoundValue) → proof_by limit p answer ys ≡ Ok value → IsWithin (earned net m t choice) value
  answer_bounds OfDual value e = dual_bounds value e
  answer_bounds OfFarkas value e = farkas_bounds value e
  answer_bounds OfInverse value e = dual_bounds value e
  answer_bounds OfNoInverse value e = farkas_bounds value e

-- ---- trees

below_basic : (net : Network) (m : PathModel) → IsModelOf net m → (parts : Family) → IsAllowed m parts → BoundsPiece net m parts (at_whole (basic_of m parts))
below_basic net m model parts allowed t choice piece =
    let below = basic_holds net m parts model allowed t choice piece in
    let positive : 0 < t.denominator = omega (arith, piece.outcome.vector.positive) in
    Is-le (Is-ratio (pos (revenue net.arcs t net.commodities (walks_of m choice))) t.denominator positive) (Is-whole (pos (basic_of m parts))) (omega (arith, below))

-- with valid cuts a tree that is read has a right bound
pub trees_hold : (net : Network) (g : Given) → IsModelOf net g.model → AreValidCuts net g.model g.cuts → TreesAreRight net g
trees_hold net g model valid =
    trees_are_right net g (below_basic net g.model model)
    (λ parts answer ys value allowed e t choice piece.
    answer_bounds net g.model t choice (program_at g parts) (node_holds net g.model parts g.cuts model allowed valid t choice piece) g.limit ys answer value e)

-- ---- cuts

derived_says : (r : Result CutRow (CutFault Rational)) (row : CutRow) → derived r ≡ Ok row → r ≡ Ok row
derived_says (Ok c) row e = ap Ok (row_of e)
  where
    row_of : (let d : Result CutRow Rule = Ok c in d ≡ Ok row) → c ≡ row
    row_of d = cc
derived_says (Err (fault.Overflow o)) row e = cc
derived_says (Err other) row e = cc

module _ (net : Network) (limit : ℕ) (m : PathModel) (model : IsModelOf net m) where
  one_valid : (above : List CutRow) (lines behind : Lines) (row : CutRow) → AreValidCuts net m above → one_cut limit m above lines ≡ Ok (row, behind) → IsValidCut net m row
  one_valid above lines behind row valid e =
      let head = bind_parts (line cut_line lines) _ row behind e in
      let ys = bind_parts (more (λ _. line cut_multiplier) head.0.0 [] head.1) _ row behind head.3 in
      let says = at_line_says _ (derived (derivation_verdict limit m above (head.0.1 ys.0))) ys.1 behind row ys.3 in
      derivation_holds net m model limit above (head.0.1 ys.0) row valid (derived_says (derivation_verdict limit m above (head.0.1 ys.0)) row says)

  more_valid : (n : ℕ) (above : List CutRow) (lines behind : Lines) (cuts : List CutRow) → AreValidCuts net m above → more (one_cut limit m) n above lines ≡ Ok (cuts, behind)
      → AreValidCuts net m cuts
  more_valid zero above lines behind cuts valid e = subst (AreValidCuts net m) (same_value above cuts lines behind e) valid
  more_valid (suc n) above lines behind cuts valid e =
      let one = bind_parts (one_cut limit m above lines) _ cuts behind e in
      more_valid n (above ++ one.0 ∷ []) one.1 behind cuts
      (All-append (IsValidCut net m) above (one.0 ∷ []) valid (All-cons (IsValidCut net m) one.0 [] (one_valid above lines one.1 one.0 valid one.2) (All-nil (IsValidCut net m))))
      one.3

  -- accepted cuts are valid
  pub cuts_hold : (n : ℕ) (lines behind : Lines) (cuts : List CutRow) → all_cuts limit m n lines ≡ Ok (cuts, behind) → AreValidCuts net m cuts
  cuts_hold n lines behind cuts e = more_valid n [] lines behind cuts (All-nil (IsValidCut net m)) e

-- ---- all outcomes

-- no outcome of the instance earns more than the bound of a tree that is read from the root, with closed covers and accepted cuts
pub root_holds : (net : Network) (limit : ℕ) (covers : List CoverValue) (cuts : List CutRow) (lines behind : Lines) (tree : Tree Node) → AreClosedCovers net covers
    → AreValidCuts net (path_model net covers) cuts
    → tree_at (record { limit = limit; model = path_model net covers; cuts = cuts }) (root_place (path_model net covers)) lines ≡ Ok (tree, behind)
    → (t : TollVector) (walks : List (List ArcId)) → IsOutcome net t walks
    → IsWithin (ratio (pos (revenue net.arcs t net.commodities walks)) t.denominator) (tree_bound tree)
root_holds net limit covers cuts lines behind tree closed valid e t walks outcome =
    let m : PathModel = path_model net covers in
    let low = can_be_lowered net covers closed t walks outcome in
    let model : IsModelOf net (path_model net covers) = record { covers = closed; same = refl } in
    let piece = low.1.piece in
    let allowed = all_allowed net (path_model net covers) (lowered (path_model net covers) t) low.0 piece in
    let holds = trees_hold net (record { limit = limit; model = path_model net covers; cuts = cuts }) model valid (root_place (path_model net covers)) lines behind tree allowed
    (below_basic net (path_model net covers) model (all_paths (path_model net covers)) allowed) e (lowered (path_model net covers) t) low.0 piece in
    subst (λ (n : ℕ). IsWithin (ratio (pos n) t.denominator) (tree_bound tree)) low.1.revenue holds
