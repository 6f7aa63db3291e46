-- What a stage of the code stands for. `value` says what a number stands for.
use Rattle.std.specs.Prelude.{ℕ, ◌+◌, ◌-◌, List, [], ◌∷◌, length, map, Result, Ok, Err}
use Rattle.std.specs.List.{range_with_len}
use Rattle.npp_frac.specs.Rational.{Rational}
use Rattle.npp_net.specs.Network.{Network, toll_count, ceiling_of}
use Rattle.npp_cover.specs.Replaces.{CoverValue}
use Rattle.npp_rows.specs.Meaning.{cut_value, multiplier_value}
use Rattle.npp_tree.specs.Outcome.{path_line_value}
use Rattle.npp_tree.specs.declared.bound.Bound.{Bound}
use Rattle.npp_tree.specs.Bounds.{bound_value}
use Rattle.npp_check.specs.declared.block.CutBlock.{CutBlock}
use Rattle.npp_check.specs.declared.block.NodeBlock.{NodeBlock}
use Rattle.npp_check.specs.declared.descent.Descent.{Descent}
use Rattle.npp_check.specs.declared.descent.Sum.{Sum as CodeSum}
use Rattle.npp_check.specs.declared.known.Head.{Head as CodeHead}
use Rattle.npp_check.specs.declared.known.Printed.{Printed}
use Rattle.npp_check.specs.declared.known.OpenCover.{OpenCover}
use Rattle.npp_check.specs.declared.known.Known.{Known as CodeKnown}
use Rattle.npp_check.specs.declared.stage.Stage.{Stage as CodeStage}
use Rattle.npp_check.specs.declared.stage.Stage.TheVariants as code
use Rattle.npp_check.specs.declared.stop.Stop.{Stop}
use Rattle.npp_check.specs.EndLine.{Head}
use Rattle.npp_check.specs.Verdict.{PairValue}
use Rattle.npp_check.specs.Stages.{Stage, AtHeader, AtStatus, AtWidth, AtLower, AtUpper, AtOpened, AtInstance, AtLimits, AtTolls, AtPaths, AtCovers, AtLabels, AtCuts, AtCutMultipliers, AtNodes, AtMultipliers, AtBranch, Behind, Known, Sum}

abbrev pub head_value : {N : Type 0} → (N → Rational) → CodeHead N → Head
head_value value h = record { status = h.status; lower = value h.lower; upper = value h.upper; opened = h.opened }

-- both values that it says
abbrev pub pair_of : {N : Type 0} → (N → Rational) → CodeHead N → PairValue
pair_of value h = record { lower = value h.lower; upper = value h.upper }

-- covers to come behind these
abbrev pub covers_value : {N : Type 0} → (N → Rational) → Network → Printed N → List CoverValue → Stage
covers_value value net printed covers =
    AtCovers (head_value value printed.head) (map value printed.tolls.items) (map (path_line_value value) printed.paths.items)
    (length net.commodities - length covers) covers

-- a cover under way
abbrev pub labels_value : {N : Type 0} → (N → Rational) → Network → Printed N → OpenCover → Stage
labels_value value net printed cover =
    AtLabels (head_value value printed.head) (map value printed.tolls.items) (map (path_line_value value) printed.paths.items)
    (length net.commodities - (length cover.covers.items + 1)) cover.covers.items cover.left cover.draft

-- so many cuts to come behind those that are known
abbrev pub cuts_value : {N : Type 0} → (N → Rational) → CodeKnown N → ℕ → Stage
cuts_value value known left = AtCuts (head_value value known.head) known.covers.items left (map (cut_value value) known.cuts.items)

-- a cut under way, and so many to come behind it
abbrev pub cut_value_at : {N : Type 0} → (N → Rational) → CodeKnown N → ℕ → CutBlock N → Stage
cut_value_at value known left block =
    AtCutMultipliers (head_value value known.head) known.covers.items left (map (cut_value value) known.cuts.items)
    block.kind block.lines (map (multiplier_value value) block.multipliers.items)

abbrev pub known_value : {N : Type 0} → (N → Rational) → CodeKnown N → Known
known_value value known = record { head = head_value value known.head; covers = known.covers.items; cuts = map (cut_value value) known.cuts.items }

abbrev pub sum_value : CodeSum → Sum
sum_value sum = record { opened = sum.opened; bound = bound_value sum.bound }

-- the nodes of a tree under way
abbrev pub nodes_value : {N : Type 0} → (N → Rational) → Descent N → Stage
nodes_value value d = AtNodes (known_value value d.known) (d.places.first ∷ d.places.later) (sum_value d.sum)

-- the evidence of its first node
abbrev pub multipliers_value : {N : Type 0} → (N → Rational) → Descent N → NodeBlock N → Stage
multipliers_value value d block =
    AtMultipliers (known_value value d.known) d.places.later (sum_value d.sum) d.places.first block.answer block.left
    (map (multiplier_value value) block.multipliers.items)

-- the line behind it
abbrev pub branch_value : {N : Type 0} → (N → Rational) → Descent N → Bound → Stage
branch_value value d bound = AtBranch (known_value value d.known) d.places.later (sum_value d.sum) d.places.first.parts (bound_value bound)

-- the last line, behind all nodes
abbrev pub end_value : {N : Type 0} → (N → Rational) → Descent N → Stage
end_value value d = AtNodes (known_value value d.known) [] (sum_value d.sum)

abbrev pub stage_value : {N : Type 0} → (N → Rational) → Network → CodeStage N → Stage
stage_value value net code.Header = AtHeader
stage_value value net (code.Status two) = AtStatus two
stage_value value net (code.Width two status) = AtWidth two status
stage_value value net (code.Lower two status) = AtLower two status
stage_value value net (code.Upper two status lower) = AtUpper two status (value lower)
stage_value value net (code.Opened two head) = AtOpened two head.value.status (value head.value.lower) (value head.value.upper)
stage_value value net (code.Instance head) = AtInstance (head_value value head.value)
stage_value value net (code.Limits head taken) =
    AtLimits (head_value value head.value) (toll_count net.arcs - taken) (map (ceiling_of net.arcs) (range_with_len 0 taken))
stage_value value net (code.Tolls head tolls) = AtTolls (head_value value head.value) (toll_count net.arcs - length tolls.items) (map value tolls.items)
stage_value value net (code.Paths head tolls paths) =
    AtPaths (head_value value head.value) (map value tolls.items) (length net.commodities - length paths.items) (map (path_line_value value) paths.items)
stage_value value net (code.Covers printed covers) = covers_value value net printed.value covers.items
stage_value value net (code.Labels printed cover) = labels_value value net printed.value cover.value
stage_value value net (code.Cuts known left) = cuts_value value known.value left
stage_value value net (code.CutMultipliers left known block) = cut_value_at value known.value left block
stage_value value net (code.Nodes descent) = nodes_value value descent.value
stage_value value net (code.Multipliers descent block) = multipliers_value value descent.value block
stage_value value net (code.Branch descent bound) = branch_value value descent.value bound
stage_value value net (code.End descent) = end_value value descent.value
stage_value value net (code.Behind descent) = Behind (pair_of value descent.value.known.head)

-- what a step of the code answers
abbrev pub step_value : {N : Type 0} → (N → Rational) → Network → Result (CodeStage N) Stop → Result Stage Stop
step_value value net (Ok stage) = Ok (stage_value value net stage)
step_value value net (Err stop) = Err stop
