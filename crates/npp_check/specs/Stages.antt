-- Where a checker stands between two lines, and the verdict from there on, whichever lines come next.
use Rattle.std.specs.Prelude.{ℕ, ◌+◌, Bool, true, List, [], ◌∷◌, ◌++◌, length, Option, Some, None}
use Rattle.npp_frac.specs.Rational.{Rational}
use Rattle.npp_net.specs.Network.{Network, toll_count}
use Rattle.npp_cover.specs.declared.label.Label.{Label}
use Rattle.npp_cover.specs.Growing.{Growing}
use Rattle.npp_cover.specs.Replaces.{CoverValue}
use Rattle.npp_rows.specs.declared.names.Multiplier.{Multiplier}
use Rattle.npp_rows.specs.declared.cut.Derivation.TheVariants as derivation
use Rattle.npp_rows.specs.PathModel.{PathModel}
use Rattle.npp_rows.specs.Caps.{path_model}
use Rattle.npp_rows.specs.Cuts.{Cut as CutRow}
use Rattle.npp_rows.specs.Derivations.{Derived, derivation_verdict}
use Rattle.npp_tree.specs.declared.item.Item.{Item}
use Rattle.npp_tree.specs.declared.outcome.Status.{Status}
use Rattle.npp_tree.specs.declared.outcome.PathLine.{PathLine}
use Rattle.npp_tree.specs.Bounds.{BoundValue, Empty, greater}
use Rattle.npp_tree.specs.Family.{Family, Division, first_of, second_of}
use Rattle.npp_tree.specs.Tree.{Node, Tree, opened_in, tree_bound, bound_after}
use Rattle.npp_check.specs.declared.block.CutKind.{CutKind}
use Rattle.npp_check.specs.declared.block.CutKind.TheVariants as cut_kind
use Rattle.npp_check.specs.Measures.{Measures}
use Rattle.npp_check.specs.HeadLines.{header_line, status_line, width_line, lower_line, upper_line, opened_line, limit_line, instance_lines}
use Rattle.npp_check.specs.TollLines.{toll_line}
use Rattle.npp_check.specs.PathLines.{path_line}
use Rattle.npp_check.specs.CoverLines.{label_line, free_line, cover_lines}
use Rattle.npp_check.specs.CutLines.{cuts_line, cut_multiplier, derived, one_cut}
use Rattle.npp_check.specs.Multipliers.{multiplier_line}
use Rattle.npp_check.specs.declared.block.Answer.{Answer}
use Rattle.npp_check.specs.declared.block.Opening.{Opening}
use Rattle.npp_check.specs.declared.block.Opening.TheVariants.{NotOpened, Marked, Answered}
use Rattle.npp_check.specs.NodeLines.{Given, Place, root_place, program_at, before, proof_by, branch_line, child_place, tree_at}
use Rattle.npp_check.specs.EndLine.{Head, tree_line, end_line}
use Rattle.npp_check.specs.Verdict.{PairValue, Verdict, whole}
use Rattle.npp_check.specs.Reads.{Reads, done, line, last_line, more, ◌>>=◌}

-- what is given to a checker
pub record Case : Type 0 where
  pub net : Network
  pub measures : Measures

-- what finished nodes add up to: how many are opened, and the greatest bound of a leaf
pub record Sum : Type 0 where
  pub opened : ℕ
  pub bound : BoundValue

abbrev pub nothing_yet : Sum
nothing_yet = record { opened = 0; bound = Empty }

abbrev pub with_tree : Sum → Tree Node → Sum
with_tree s t = record { opened = s.opened + opened_in t; bound = greater s.bound (tree_bound t) }

-- what is known below the last cut: the head, the covers and the cuts
pub record Known : Type 0 where
  pub head : Head
  pub covers : List CoverValue
  pub cuts : List CutRow

-- ---- what follows from a place on

module _ (limit : ℕ) (c : Case) where
  abbrev pub model_of : List CoverValue → PathModel
  model_of covers = path_model c.net covers

  abbrev pub given : Known → Given
  given k = record { limit = limit; model = model_of k.covers; cuts = k.cuts }

  abbrev pub from_end : Head → Sum → Reads PairValue
  from_end head s = do
    _ ← line (end_line head s.opened s.bound)
    done (record { lower = head.lower; upper = head.upper })

  -- the trees of nodes to come, in this order
  abbrev pub nodes_to_come : Known → List Place → Sum → Reads PairValue
  nodes_to_come k [] s = from_end k.head s
  nodes_to_come k (p ∷ places) s = do
    tree ← tree_at (given k) p
    nodes_to_come k places (with_tree s tree)

  -- an opened node with this bound, by what its last line says
  abbrev pub from_branch : Known → List Place → Sum → Family → BoundValue → Option Division → Reads PairValue
  from_branch k places s parts bound None = nodes_to_come k places (record { opened = s.opened + 1; bound = greater s.bound bound })
  from_branch k places s parts bound (Some d) =
      nodes_to_come k
      (child_place bound (first_of parts d) ∷ child_place bound (second_of parts d) ∷ places)
      (record { opened = s.opened + 1; bound = s.bound })

  abbrev pub at_branch : Known → List Place → Sum → Family → BoundValue → Reads PairValue
  at_branch k places s parts bound = do
    branch ← line (branch_line parts)
    from_branch k places s parts bound branch

  -- so many more multipliers of a node
  abbrev pub from_multipliers : Known → List Place → Sum → Place → Answer → ℕ → List (Multiplier Rational) → Reads PairValue
  from_multipliers k places s place answer left ys = do
    all ← more (λ above. line (multiplier_line (program_at (given k) place.parts) above)) left ys
    value ← last_line (proof_by limit (program_at (given k) place.parts) answer all)
    at_branch k places s place.parts (bound_after (before (given k) place) (Some value))

  -- a node at this place, by how it begins
  abbrev pub from_opening : Known → List Place → Sum → Place → Opening → Reads PairValue
  from_opening k places s place NotOpened = nodes_to_come k places (record { opened = s.opened; bound = greater s.bound (before (given k) place) })
  from_opening k places s place (Marked mark) = at_branch k places s place.parts (before (given k) place)
  from_opening k places s place (Answered answer n) = from_multipliers k places s place answer n []

  abbrev pub from_tree : Known → Reads PairValue
  from_tree k = do
    _ ← line tree_line
    nodes_to_come k (root_place (model_of k.covers) ∷ []) nothing_yet

  -- so many more cuts
  abbrev pub from_cuts : Head → List CoverValue → ℕ → List CutRow → Reads PairValue
  from_cuts head covers left above = do
    cuts ← more (one_cut limit (model_of covers)) left above
    from_tree (record { head = head; covers = covers; cuts = cuts })

  -- so many more multipliers of a cut, and so many more cuts
  abbrev pub from_cut_multipliers : Head → List CoverValue → ℕ → List CutRow → (List (Multiplier Rational) → Derived) → ℕ → List (Multiplier Rational) → Reads PairValue
  from_cut_multipliers head covers left above cut lines ys = do
    all ← more (λ _. line cut_multiplier) lines ys
    row ← last_line (derived (derivation_verdict limit (model_of covers) above (cut all)))
    from_cuts head covers left (above ++ row ∷ [])

  abbrev pub from_covers : Head → List Rational → List (PathLine Rational) → ℕ → List CoverValue → Reads PairValue
  from_covers head tolls paths left above = do
    covers ← more (cover_lines c.net c.measures) left above
    count ← line (cuts_line limit c.net (model_of covers) tolls paths head.lower)
    from_cuts head covers count []

  -- so many more labels of the cover behind these
  abbrev pub from_labels : Head → List Rational → List (PathLine Rational) → ℕ → List CoverValue → ℕ → List Label → Reads PairValue
  from_labels head tolls paths left above count labels = do
    all ← more (λ so_far. line (label_line c.net c.measures (length above) so_far)) count labels
    cover ← line (free_line c.net c.measures above all)
    from_covers head tolls paths left (above ++ cover ∷ [])

  abbrev pub from_paths : Head → List Rational → ℕ → List (PathLine Rational) → Reads PairValue
  from_paths head tolls left above = do
    paths ← more (λ so_far. line (path_line limit c.net tolls (length so_far))) left above
    from_covers head tolls paths (length c.net.commodities) []

  abbrev pub from_tolls : Head → ℕ → List Rational → Reads PairValue
  from_tolls head left above = do
    tolls ← more (λ so_far. line (toll_line c.net (length so_far))) left above
    from_paths head tolls (length c.net.commodities) []

  abbrev pub from_limits : Head → ℕ → List (Option ℕ) → Reads PairValue
  from_limits head left above = do
    _ ← more (λ so_far. line (limit_line c.net (length so_far))) left above
    from_tolls head (toll_count c.net.arcs) []

  abbrev pub from_instance : Bool → Head → Reads PairValue
  from_instance two head = do
    _ ← instance_lines c.net two
    from_tolls head (toll_count c.net.arcs) []

  abbrev pub from_opened : Bool → Status → Rational → Rational → Reads PairValue
  from_opened two status lower upper = do
    opened ← line opened_line
    from_instance two (record { status = status; lower = lower; upper = upper; opened = opened })

  abbrev pub from_upper : Bool → Status → Rational → Reads PairValue
  from_upper two status lower = do
    upper ← line upper_line
    from_opened two status lower upper

  abbrev pub from_lower : Bool → Status → Reads PairValue
  from_lower two status = do
    lower ← line lower_line
    from_upper two status lower

  abbrev pub from_width : Bool → Status → Reads PairValue
  from_width two status = do
    _ ← line width_line
    from_lower two status

  abbrev pub from_status : Bool → Reads PairValue
  from_status two = do
    status ← line status_line
    from_width two status

  abbrev pub from_header : Reads PairValue
  from_header = do
    two ← line (header_line c.net)
    from_status two

-- ---- stages

-- the cut of a kind by its multipliers
abbrev pub cut_by : CutKind → List (Multiplier Rational) → Derived
cut_by (cut_kind.Conflict k p l q) y = derivation.Conflict k p l q y
cut_by cut_kind.Round y = derivation.Round y

-- which line comes next, with what the lines above it leave to be known. Behind a node nothing of it is kept but its sum
pub data Stage : Type 0 where
  AtHeader : Stage
  AtStatus : Bool → Stage
  AtWidth : Bool → Status → Stage
  AtLower : Bool → Status → Stage
  AtUpper : Bool → Status → Rational → Stage
  AtOpened : Bool → Status → Rational → Rational → Stage
  AtInstance : Head → Stage
  AtLimits : Head → ℕ → List (Option ℕ) → Stage
  AtTolls : Head → ℕ → List Rational → Stage
  AtPaths : Head → List Rational → ℕ → List (PathLine Rational) → Stage
  -- covers to come, and covers above
  AtCovers : Head → List Rational → List (PathLine Rational) → ℕ → List CoverValue → Stage
  -- and within a cover: labels to come, and the draft of those above
  AtLabels : Head → List Rational → List (PathLine Rational) → ℕ → List CoverValue → ℕ → Growing → Stage
  -- cuts to come, and rows above
  AtCuts : Head → List CoverValue → ℕ → List CutRow → Stage
  -- and within a cut: multipliers to come, and multipliers above
  AtCutMultipliers : Head → List CoverValue → ℕ → List CutRow → CutKind → ℕ → List (Multiplier Rational) → Stage
  -- nodes to come, each with its place
  AtNodes : Known → List Place → Sum → Stage
  -- and within a node at a place: multipliers to come, and multipliers above
  AtMultipliers : Known → List Place → Sum → Place → Answer → ℕ → List (Multiplier Rational) → Stage
  -- the line behind the evidence of a node with these parts and this bound
  AtBranch : Known → List Place → Sum → Family → BoundValue → Stage
  -- behind the end
  Behind : PairValue → Stage

abbrev pub from_stage : ℕ → Case → Stage → Reads PairValue
from_stage limit c AtHeader = from_header limit c
from_stage limit c (AtStatus two) = from_status limit c two
from_stage limit c (AtWidth two status) = from_width limit c two status
from_stage limit c (AtLower two status) = from_lower limit c two status
from_stage limit c (AtUpper two status lower) = from_upper limit c two status lower
from_stage limit c (AtOpened two status lower upper) = from_opened limit c two status lower upper
from_stage limit c (AtInstance head) = from_instance limit c true head
from_stage limit c (AtLimits head left above) = from_limits limit c head left above
from_stage limit c (AtTolls head left above) = from_tolls limit c head left above
from_stage limit c (AtPaths head tolls left above) = from_paths limit c head tolls left above
from_stage limit c (AtCovers head tolls paths left above) = from_covers limit c head tolls paths left above
from_stage limit c (AtLabels head tolls paths left above count draft) = from_labels limit c head tolls paths left above count draft.labels
from_stage limit c (AtCuts head covers left above) = from_cuts limit c head covers left above
from_stage limit c (AtCutMultipliers head covers left above kind lines ys) = from_cut_multipliers limit c head covers left above (cut_by kind) lines ys
from_stage limit c (AtNodes known places sum) = nodes_to_come limit c known places sum
from_stage limit c (AtMultipliers known places sum place answer left ys) = from_multipliers limit c known places sum place answer left ys
from_stage limit c (AtBranch known places sum parts bound) = at_branch limit c known places sum parts bound
from_stage limit c (Behind pair) = done pair

-- the verdict on the whole certificate, where these lines come next and the first of them has this number
abbrev pub verdict_from : ℕ → Case → ℕ → Stage → List (Item Rational) → Verdict
verdict_from limit c number stage items = whole (from_stage limit c stage (record { number = number; items = items }))
