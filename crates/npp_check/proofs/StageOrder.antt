-- At each stage the first broken line is not above the next one; and where no line is left, that one is missing.
use Rattle.std.specs.Prelude.{◌≡◌, ℕ, zero, suc, ◌<◌, Bool, true, List, [], ◌∷◌, ◌++◌, length, Option, Some, None, Result, Err, refl}
use Rattle.std.proofs.Common.{arith}
use Rattle.npp_frac.specs.Rational.{Rational}
use Rattle.npp_net.specs.Network.{toll_count}
use Rattle.npp_cover.specs.declared.label.Label.{Label}
use Rattle.npp_cover.specs.Replaces.{CoverValue}
use Rattle.npp_rows.specs.declared.names.Multiplier.{Multiplier}
use Rattle.npp_rows.specs.Caps.{path_model}
use Rattle.npp_rows.specs.Cuts.{Cut as CutRow}
use Rattle.npp_rows.specs.Derivations.{Derived, derivation_verdict}
use Rattle.npp_tree.specs.declared.item.Item.{Item}
use Rattle.npp_tree.specs.declared.outcome.Status.{Status}
use Rattle.npp_tree.specs.declared.outcome.PathLine.{PathLine}
use Rattle.npp_tree.specs.Bounds.{BoundValue}
use Rattle.npp_tree.specs.Family.{Family, Division, first_of, second_of}
use Rattle.npp_check.specs.declared.refusal.Rule.{Rule}
use Rattle.npp_check.specs.declared.refusal.Rule.TheVariants.{Order}
use Rattle.npp_check.specs.declared.refusal.CheckRefusal.TheVariants.{Broken}
use Rattle.npp_check.specs.EndLine.{Head, tree_line, end_line}
use Rattle.npp_check.specs.HeadLines.{header_line, status_line, width_line, lower_line, upper_line, opened_line, limit_line, instance_lines}
use Rattle.npp_check.specs.TollLines.{toll_line}
use Rattle.npp_check.specs.PathLines.{path_line}
use Rattle.npp_check.specs.CoverLines.{label_line, free_line, cover_lines}
use Rattle.npp_check.specs.CutLines.{cuts_line, cut_multiplier, derived, one_cut}
use Rattle.npp_check.specs.Multipliers.{multiplier_line}
use Rattle.npp_check.specs.declared.block.Answer.{Answer}
use Rattle.npp_check.specs.NodeLines.{Place, root_place, program_at, proof_by, branch_line, child_place, tree_at}
use Rattle.npp_check.specs.Verdict.{PairValue}
use Rattle.npp_check.specs.Stages.{Case, Stage, AtHeader, AtStatus, AtWidth, AtLower, AtUpper, AtOpened, AtInstance, AtLimits, AtTolls, AtPaths, AtCovers, AtLabels, AtCuts, AtCutMultipliers, AtNodes, AtMultipliers, AtBranch, Behind, cut_by, Known, Sum, nothing_yet, with_tree, given, from_end, nodes_to_come, from_branch, at_branch, from_multipliers, from_tree, from_cuts, from_cut_multipliers, from_covers, from_labels, from_paths, from_tolls, from_limits, from_instance, from_opened, from_upper, from_lower, from_width, from_status, from_header, from_stage}
use Rattle.npp_check.specs.Steps.{IsStageOf}
use Rattle.npp_check.specs.Reads.{Reads, line, last_line, more, ◌>>=◌}
use Rattle.npp_check.proofs.OrderLemmas.{Orderly, weaker, one_line, last_line_orderly, then_orderly, after_block, more_orderly, cover_orderly, cut_orderly, instance_orderly, done_orderly, tree_orderly}

-- some line is still to come: behind the last one nothing is missing
abbrev pub IsOpen : Stage → Type 0
IsOpen (Behind pair) = ⊥
IsOpen other = Unit {0}

module _ (limit : ℕ) (c : Case) where
  end_ahead : (head : Head) (s : Sum) → Orderly 0 0 (from_end limit c head s)
  end_ahead head s = then_orderly 0 (line (end_line head s.opened s.bound)) _ (one_line (end_line head s.opened s.bound)) (λ _. done_orderly _)

  nodes_ahead : (k : Known) (places : List Place) (s : Sum) → Orderly 0 0 (nodes_to_come limit c k places s)
  nodes_ahead k [] s = end_ahead k.head s
  nodes_ahead k (p ∷ places) s = then_orderly 0 (tree_at (given limit c k) p) _ (tree_orderly (given limit c k) p) (λ tree. nodes_ahead k places (with_tree s tree))

  tree_ahead : (k : Known) → Orderly 0 0 (from_tree limit c k)
  tree_ahead k = then_orderly 0 (line tree_line) _ (one_line tree_line) (λ _. nodes_ahead k (root_place (path_model c.net k.covers) ∷ []) nothing_yet)

  cuts_ahead : (head : Head) (covers : List CoverValue) (left : ℕ) (above : List CutRow) → Orderly 0 0 (from_cuts limit c head covers left above)
  cuts_ahead head covers left above =
      then_orderly 0 (more (one_cut limit (path_model c.net covers)) left above) _ (more_orderly (one_cut limit (path_model c.net covers)) (cut_orderly limit (path_model c.net covers)) left above)
      (λ cuts. tree_ahead (record { head = head; covers = covers; cuts = cuts }))

  covers_ahead : (head : Head) (tolls : List Rational) (paths : List (PathLine Rational)) (left : ℕ) (above : List CoverValue) → Orderly 0 0 (from_covers limit c head tolls paths left above)
  covers_ahead head tolls paths left above =
      then_orderly 0 (more (cover_lines c.net c.measures) left above) _ (more_orderly (cover_lines c.net c.measures) (cover_orderly c.net c.measures) left above) (λ covers.
      then_orderly 0 (line (cuts_line limit c.net (path_model c.net covers) tolls paths head.lower)) _ (one_line (cuts_line limit c.net (path_model c.net covers) tolls paths head.lower)) (λ count.
      cuts_ahead head covers count []))

  paths_ahead : (head : Head) (tolls : List Rational) (left : ℕ) (above : List (PathLine Rational)) → Orderly 0 0 (from_paths limit c head tolls left above)
  paths_ahead head tolls left above =
      then_orderly 0 (more (λ a. line (path_line limit c.net tolls (length a))) left above) _ (more_orderly (λ a. line (path_line limit c.net tolls (length a))) (λ a. one_line (path_line limit c.net tolls (length a))) left above)
      (λ paths. covers_ahead head tolls paths (length c.net.commodities) [])

  tolls_ahead : (head : Head) (left : ℕ) (above : List Rational) → Orderly 0 0 (from_tolls limit c head left above)
  tolls_ahead head left above =
      then_orderly 0 (more (λ a. line (toll_line c.net (length a))) left above) _ (more_orderly (λ a. line (toll_line c.net (length a))) (λ a. one_line (toll_line c.net (length a))) left above)
      (λ tolls. paths_ahead head tolls (length c.net.commodities) [])

  limits_ahead : (head : Head) (left : ℕ) (above : List (Option ℕ)) → Orderly 0 0 (from_limits limit c head left above)
  limits_ahead head left above =
      then_orderly 0 (more (λ a. line (limit_line c.net (length a))) left above) _ (more_orderly (λ a. line (limit_line c.net (length a))) (λ a. one_line (limit_line c.net (length a))) left above)
      (λ _. tolls_ahead head (toll_count c.net.arcs) [])

  instance_ahead : (two : Bool) (head : Head) → Orderly 0 0 (from_instance limit c two head)
  instance_ahead two head = then_orderly 0 (instance_lines c.net two) _ (instance_orderly c.net two) (λ _. tolls_ahead head (toll_count c.net.arcs) [])

  opened_ahead : (two : Bool) (status : Status) (lower upper : Rational) → Orderly 0 0 (from_opened limit c two status lower upper)
  opened_ahead two status lower upper = then_orderly 0 (line opened_line) _ (one_line opened_line) (λ opened. instance_ahead two _)

  upper_ahead : (two : Bool) (status : Status) (lower : Rational) → Orderly 0 0 (from_upper limit c two status lower)
  upper_ahead two status lower = then_orderly 0 (line upper_line) _ (one_line upper_line) (λ upper. opened_ahead two status lower upper)

  lower_ahead : (two : Bool) (status : Status) → Orderly 0 0 (from_lower limit c two status)
  lower_ahead two status = then_orderly 0 (line lower_line) _ (one_line lower_line) (λ lower. upper_ahead two status lower)

  width_ahead : (two : Bool) (status : Status) → Orderly 0 0 (from_width limit c two status)
  width_ahead two status = then_orderly 0 (line width_line) _ (one_line width_line) (λ _. lower_ahead two status)

  status_ahead : (two : Bool) → Orderly 0 0 (from_status limit c two)
  status_ahead two = then_orderly 0 (line status_line) _ (one_line status_line) (λ status. width_ahead two status)

  header_ahead : Orderly 0 0 (from_header limit c)
  header_ahead = then_orderly 0 (line (header_line c.net)) _ (one_line (header_line c.net)) (λ two. status_ahead two)

  labels_ahead : (head : Head) (tolls : List Rational) (paths : List (PathLine Rational)) (left : ℕ) (above : List CoverValue) (count : ℕ) (labels : List Label)
      → Orderly 0 0 (from_labels limit c head tolls paths left above count labels)
  labels_ahead head tolls paths left above count labels =
      then_orderly 0 (more (λ a. line (label_line c.net c.measures (length above) a)) count labels) _
      (more_orderly (λ a. line (label_line c.net c.measures (length above) a)) (λ a. one_line (label_line c.net c.measures (length above) a)) count labels) (λ all.
      then_orderly 0 (line (free_line c.net c.measures above all)) _ (one_line (free_line c.net c.measures above all)) (λ cover.
      covers_ahead head tolls paths left (above ++ cover ∷ [])))

  -- behind at least one line the next may refuse that line once more
  block_ahead : {X : Type 0} (judge : List X → Item Rational → Result X Rule) (next : List X → Reads PairValue) → ((all : List X) → Orderly 1 0 (next all))
      → (n : ℕ) (above : List X) → 0 < n → Orderly 0 0 (more (λ a. line (judge a)) n above >>= next)
  block_ahead judge next h zero above some = absurd (omega (arith, some))
  block_ahead judge next h (suc n) above some = after_block (judge above) (λ x. more (λ a. line (judge a)) n (above ++ x ∷ [])) next (λ x. more_orderly (λ a. line (judge a)) (λ a. one_line (judge a)) n (above ++ x ∷ [])) h

  cut_multipliers_ahead : (head : Head) (covers : List CoverValue) (left : ℕ) (above : List CutRow) (cut : List (Multiplier Rational) → Derived) (lines : ℕ) (ys : List (Multiplier Rational))
      → 0 < lines → Orderly 0 0 (from_cut_multipliers limit c head covers left above cut lines ys)
  cut_multipliers_ahead head covers left above cut lines ys some =
      block_ahead (λ _. cut_multiplier) _ (λ all.
      then_orderly 1 (last_line (derived (derivation_verdict limit (path_model c.net covers) above (cut all)))) _ (last_line_orderly _) (λ row.
      weaker 1 0 (cuts_ahead head covers left (above ++ row ∷ [])) (omega arith) (omega arith))) lines ys some

  branch_ahead : (k : Known) (places : List Place) (s : Sum) (parts : Family) (bound : BoundValue) (branch : Option Division) → Orderly 0 0 (from_branch limit c k places s parts bound branch)
  branch_ahead k places s parts bound None = nodes_ahead k places _
  branch_ahead k places s parts bound (Some d) = nodes_ahead k (child_place bound (first_of parts d) ∷ child_place bound (second_of parts d) ∷ places) _

  at_branch_ahead : (k : Known) (places : List Place) (s : Sum) (parts : Family) (bound : BoundValue) → Orderly 0 0 (at_branch limit c k places s parts bound)
  at_branch_ahead k places s parts bound =
      then_orderly 0 (line (branch_line parts)) _ (one_line (branch_line parts)) (λ branch. branch_ahead k places s parts bound branch)

  multipliers_ahead : (k : Known) (places : List Place) (s : Sum) (place : Place) (answer : Answer) (left : ℕ) (ys : List (Multiplier Rational)) → 0 < left
      → Orderly 0 0 (from_multipliers limit c k places s place answer left ys)
  multipliers_ahead k places s place answer left ys some =
      block_ahead (multiplier_line (program_at (given limit c k) place.parts)) _ (λ all.
      then_orderly 1 (last_line (proof_by limit (program_at (given limit c k) place.parts) answer all)) _ (last_line_orderly _) (λ value.
      weaker 1 0 (at_branch_ahead k places s place.parts _) (omega arith) (omega arith))) left ys some

  -- no line above the next one is broken
  pub stage_ahead : (s : Stage) → IsStageOf c s → Orderly 0 0 (from_stage limit c s)
  stage_ahead AtHeader is = header_ahead
  stage_ahead (AtStatus two) is = status_ahead two
  stage_ahead (AtWidth two status) is = width_ahead two status
  stage_ahead (AtLower two status) is = lower_ahead two status
  stage_ahead (AtUpper two status lower) is = upper_ahead two status lower
  stage_ahead (AtOpened two status lower upper) is = opened_ahead two status lower upper
  stage_ahead (AtInstance head) is = instance_ahead true head
  stage_ahead (AtLimits head left above) is = limits_ahead head left above
  stage_ahead (AtTolls head left above) is = tolls_ahead head left above
  stage_ahead (AtPaths head tolls left above) is = paths_ahead head tolls left above
  stage_ahead (AtCovers head tolls paths left above) is = covers_ahead head tolls paths left above
  stage_ahead (AtLabels head tolls paths left above count draft) is = labels_ahead head tolls paths left above count draft.labels
  stage_ahead (AtCuts head covers left above) is = cuts_ahead head covers left above
  stage_ahead (AtCutMultipliers head covers left above kind lines ys) is = cut_multipliers_ahead head covers left above (cut_by kind) lines ys is.0
  stage_ahead (AtNodes known places sum) is = nodes_ahead known places sum
  stage_ahead (AtMultipliers known places sum place answer left ys) is = multipliers_ahead known places sum place answer left ys is.some
  stage_ahead (AtBranch known places sum parts bound) is = at_branch_ahead known places sum parts bound
  stage_ahead (Behind pair) is = done_orderly pair

  -- ---- no line is left

  more_missing : {X : Type 0} (judge : List X → Item Rational → Result X Rule) (next : List X → Reads PairValue) (left : ℕ) (above : List X) (number : ℕ) → 0 < left
      → (more (λ a. line (judge a)) left above >>= next) (record { number = number; items = [] }) ≡ Err (Broken number Order)
  more_missing judge next zero above number some = absurd (omega (arith, some))
  more_missing judge next (suc left) above number some = refl

  cover_missing : (head : Head) (tolls : List Rational) (paths : List (PathLine Rational)) (left : ℕ) (above : List CoverValue) (number : ℕ)
      → from_covers limit c head tolls paths left above (record { number = number; items = [] }) ≡ Err (Broken number Order)
  cover_missing head tolls paths zero above number = refl
  cover_missing head tolls paths (suc left) above number = refl

  labels_missing : (head : Head) (tolls : List Rational) (paths : List (PathLine Rational)) (left : ℕ) (above : List CoverValue) (count : ℕ) (labels : List Label) (number : ℕ)
      → from_labels limit c head tolls paths left above count labels (record { number = number; items = [] }) ≡ Err (Broken number Order)
  labels_missing head tolls paths left above zero labels number = refl
  labels_missing head tolls paths left above (suc count) labels number = refl

  cut_missing : (head : Head) (covers : List CoverValue) (left : ℕ) (above : List CutRow) (number : ℕ)
      → from_cuts limit c head covers left above (record { number = number; items = [] }) ≡ Err (Broken number Order)
  cut_missing head covers zero above number = refl
  cut_missing head covers (suc left) above number = refl

  node_missing : (k : Known) (places : List Place) (s : Sum) (number : ℕ) → nodes_to_come limit c k places s (record { number = number; items = [] }) ≡ Err (Broken number Order)
  node_missing k [] s number = refl
  node_missing k (p ∷ places) s number = refl

  pub stage_missing : (s : Stage) (number : ℕ) → IsStageOf c s → IsOpen s → from_stage limit c s (record { number = number; items = [] }) ≡ Err (Broken number Order)
  stage_missing AtHeader number is open_stage = refl
  stage_missing (AtStatus two) number is open_stage = refl
  stage_missing (AtWidth two status) number is open_stage = refl
  stage_missing (AtLower two status) number is open_stage = refl
  stage_missing (AtUpper two status lower) number is open_stage = refl
  stage_missing (AtOpened two status lower upper) number is open_stage = refl
  stage_missing (AtInstance head) number is open_stage = refl
  stage_missing (AtLimits head left above) number is open_stage = more_missing (λ a. limit_line c.net (length a)) _ left above number is.some
  stage_missing (AtTolls head left above) number is open_stage = more_missing (λ a. toll_line c.net (length a)) _ left above number is.some
  stage_missing (AtPaths head tolls left above) number is open_stage = more_missing (λ a. path_line limit c.net tolls (length a)) _ left above number is.part.some
  stage_missing (AtCovers head tolls paths left above) number is open_stage = cover_missing head tolls paths left above number
  stage_missing (AtLabels head tolls paths left above count draft) number is open_stage = labels_missing head tolls paths left above count draft.labels number
  stage_missing (AtCuts head covers left above) number is open_stage = cut_missing head covers left above number
  stage_missing (AtCutMultipliers head covers left above kind lines ys) number is open_stage = more_missing (λ a. cut_multiplier) _ lines ys number is.0
  stage_missing (AtNodes known places sum) number is open_stage = node_missing known places sum number
  stage_missing (AtMultipliers known places sum place answer left ys) number is open_stage = more_missing (multiplier_line (program_at (given limit c known) place.parts)) _ left ys number is.some
  stage_missing (AtBranch known places sum parts bound) number is open_stage = refl
  stage_missing (Behind pair) number is open_stage = absurd open_stage
