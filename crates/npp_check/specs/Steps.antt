-- One line at a stage: which stage comes next, or which rule the line breaks, whatever follows.
use Rattle.std.specs.Prelude.{◌≡◌, ℕ, ◌+◌, ◌<◌, ◌^◌, Bool, true, false, List, ◌∷◌, length, All, Result, Ok, Err}
use Rattle.npp_frac.specs.Rational.{Rational}
use Rattle.npp_net.specs.Network.{Network, toll_count}
use Rattle.npp_cover.specs.Growing.{Growing}
use Rattle.npp_cover.specs.Replaces.{CoverValue}
use Rattle.npp_tree.specs.declared.outcome.PathLine.{PathLine}
use Rattle.npp_tree.specs.declared.item.Item.{Item}
use Rattle.npp_check.specs.declared.refusal.Rule.{Rule}
use Rattle.npp_check.specs.declared.refusal.CheckRefusal.{CheckRefusal}
use Rattle.npp_check.specs.declared.refusal.CheckRefusal.TheVariants.{Broken, Memory}
use Rattle.npp_check.specs.declared.block.Answer.{Answer}
use Rattle.npp_check.specs.declared.block.Answer.TheVariants.{OfDual, OfFarkas, OfInverse, OfNoInverse}
use Rattle.npp_check.specs.declared.stop.Stop.{Stop}
use Rattle.npp_check.specs.declared.stop.Stop.TheVariants as stop
use Rattle.npp_rows.specs.declared.names.Multiplier.{Multiplier}
use Rattle.npp_rows.specs.Caps.{path_model}
use Rattle.npp_rows.specs.Parts.{is_full}
use Rattle.npp_rows.specs.NodeProgram.{node_program}
use Rattle.npp_check.specs.NodeLines.{Place, child_place}
use Rattle.npp_check.specs.Standing.{ArePrinted, AreCoversBut, IsDraftFor, AreCutsBut, IsTreeUnderWay, AreOfRows}
use Rattle.npp_check.specs.Verdict.{PairValue, whole}
use Rattle.npp_check.specs.Reads.{Reads, Lines}
use Rattle.npp_check.specs.Stages.{Case, Stage, AtLimits, AtTolls, AtPaths, AtCovers, AtLabels, AtCuts, AtCutMultipliers, AtNodes, AtMultipliers, AtBranch, Known, from_stage, verdict_from}

-- so many of a kind stand above, and so many are still to come, of these in all
pub record IsPart (all left above : ℕ) : Type 0 where
  pub some : 0 < left
  pub whole : above + left ≡ all

-- so many walks stand above, each of a cost that can be taken into a sum, below a toll for each toll arc
pub record ArePathsBut (net : Network) (tolls : List Rational) (left : ℕ) (above : List (PathLine Rational)) : Type 0 where
  pub part : IsPart (length net.commodities) left (length above)
  pub each_toll : length tolls ≡ toll_count net.arcs
  pub costs : All (λ p. p.cost < 2 ^ 63) above

-- a cover is under way
pub record AreLabelsBut (c : Case) (tolls : List Rational) (paths : List (PathLine Rational)) (left : ℕ) (above : List CoverValue) (count : ℕ) (draft : Growing) : Type 0 where
  pub printed : ArePrinted c.net tolls paths
  pub covers : AreCoversBut c.net (left + 1) above
  pub growing : IsDraftFor c.net c.measures (length above) count draft

-- whether an answer is of the inverse program of a full choice
abbrev pub is_of_choice : Answer → Bool
is_of_choice OfDual = false
is_of_choice OfFarkas = false
is_of_choice OfInverse = true
is_of_choice OfNoInverse = true

-- the evidence of a node is under way
pub record IsBlockUnderWay (c : Case) (known : Known) (places : List Place) (place : Place) (answer : Answer) (left : ℕ) (ys : List (Multiplier Rational)) : Type 0 where
  pub some : 0 < left
  pub kind : is_of_choice answer ≡ is_full place.parts
  pub tree : IsTreeUnderWay c.net known.covers known.cuts (place ∷ places)
  pub multipliers : AreOfRows (node_program (path_model c.net known.covers) known.cuts place.parts) ys

-- what is known at a stage: how much was read, and of a block under way that it has lines to come
abbrev pub IsStageOf : Case → Stage → Type 0
IsStageOf c (AtLimits head left above) = IsPart (toll_count c.net.arcs) left (length above)
IsStageOf c (AtTolls head left above) = IsPart (toll_count c.net.arcs) left (length above)
IsStageOf c (AtPaths head tolls left above) = ArePathsBut c.net tolls left above
IsStageOf c (AtCovers head tolls paths left above) = ArePrinted c.net tolls paths × AreCoversBut c.net left above
IsStageOf c (AtLabels head tolls paths left above count draft) = AreLabelsBut c tolls paths left above count draft
IsStageOf c (AtCuts head covers left above) = AreCutsBut c.net covers left above
IsStageOf c (AtCutMultipliers head covers left above kind lines ys) = (0 < lines) × AreCutsBut c.net covers (left + 1) above
IsStageOf c (AtNodes known places sum) = IsTreeUnderWay c.net known.covers known.cuts places
IsStageOf c (AtMultipliers known places sum place answer left ys) = IsBlockUnderWay c known places place answer left ys
IsStageOf c (AtBranch known places sum parts bound) = IsTreeUnderWay c.net known.covers known.cuts (child_place bound parts ∷ places)
IsStageOf c other = Unit {0}

-- the verdict from the one stage on is that from the other on, once this line is taken
abbrev pub Goes : ℕ → Case → Stage → Item Rational → Stage → Type 0
Goes limit c old item new = (number : ℕ) (items : List (Item Rational))
    → from_stage limit c old (record { number = number; items = item ∷ items }) ≡ from_stage limit c new (record { number = number + 1; items = items })

-- this line breaks the rule
abbrev pub Breaks : ℕ → Case → Stage → Item Rational → Rule → Type 0
Breaks limit c old item rule = (number : ℕ) (items : List (Item Rational))
    → verdict_from limit c number old (item ∷ items) ≡ Err (Broken number rule)

-- the next stage, or why the line is not taken; want of memory says nothing
abbrev pub Steps : ℕ → Case → Stage → Item Rational → Result Stage Stop → Type 0
Steps limit c old item (Ok new) = Goes limit c old item new × IsStageOf c new
Steps limit c old item (Err (stop.Broken rule)) = Breaks limit c old item rule
Steps limit c old item (Err stop.Memory) = Unit {0}

-- the verdict from the one stage on is that from the other on
pub record Stands (limit : ℕ) (c : Case) (old new : Stage) : Type 0 where
  pub same : (lines : Lines) → from_stage limit c old lines ≡ from_stage limit c new lines
  pub stage : IsStageOf c new

-- why the line of this number is refused
abbrev pub refusal_at : ℕ → Stop → CheckRefusal
refusal_at number (stop.Broken rule) = Broken number rule
refusal_at number stop.Memory = Memory

-- behind a line that was read these lines are read from a stage on; or the line that was read breaks the rule once more
abbrev pub Leads : ℕ → Case → Reads PairValue → Result Stage Stop → Type 0
Leads limit c reads (Ok new) =
    ((number : ℕ) (items : List (Item Rational)) → reads (record { number = number + 1; items = items }) ≡ from_stage limit c new (record { number = number + 1; items = items }))
    × IsStageOf c new
Leads limit c reads (Err (stop.Broken rule)) =
    (number : ℕ) (items : List (Item Rational)) → whole (reads (record { number = number + 1; items = items })) ≡ Err (Broken number rule)
Leads limit c reads (Err stop.Memory) = Unit {0}
