-- The draft of a cover: what has to be told so that its check gives the cover again.
use Rattle.std.specs.Prelude.{◌≡◌, ℕ, ◌-◌, ◌<◌, List, length, not, Option, None, option_map}
use Rattle.std.specs.List.{filter_map}
use Rattle.npp_cover.specs.declared.label.Label.{Label}
use Rattle.npp_cover.specs.declared.label.StepDraft.{StepDraft}
use Rattle.npp_cover.specs.declared.label.CoverDraft.{CoverDraft}
use Rattle.npp_net.specs.declared.types.Commodity.{Commodity}
use Rattle.npp_net.specs.declared.types.NetArc.{NetArc}
use Rattle.npp_net.specs.declared.types.Span.{Span}
use Rattle.npp_cover.specs.Labels.{label_at, labels_of}
use Rattle.npp_cover.specs.Fault.{is_no_label, cover_fault}
use Rattle.npp_cover.specs.Paths.{ArePathsOf}
use Rattle.npp_cover.specs.Replaces.{CoverValue, path_at}

-- the step of a label that goes on from another; the start has none
abbrev pub step_of : Label → Option StepDraft
step_of l = option_map (λ a. record { parent = l.parent; arc = a }) l.last

-- the steps of labels, in order
abbrev pub steps_of : List Label → List StepDraft
steps_of labels = filter_map step_of labels

-- no label but the first is a start
abbrev pub StartsFirst : List Label → Type 0
StartsFirst labels = (i : ℕ) → i < length labels → (label_at labels i).last ≡ None → i ≡ 0

-- a start where there are labels, the steps of the labels, and the walk of the last path
pub record IsDraftOf (c : CoverValue) (d : CoverDraft) : Type 0 where
  pub started : d.started ≡ not (is_no_label c.labels)
  pub steps : d.steps.items ≡ steps_of c.labels
  pub free : d.free.arcs.items ≡ (path_at c.paths (length c.paths - 1)).arcs

-- the draft has no fault, and its labels and paths are those of the cover
pub record GivesCover (arcs : List NetArc) (onward : ℕ → Option ℕ) (k : Commodity) (span : Span) (d : CoverDraft) (c : CoverValue) : Type 0 where
  pub none : cover_fault arcs onward k span d ≡ None
  pub labels : labels_of arcs k.origin d.started d.steps.items ≡ c.labels
  pub paths : ArePathsOf c.labels k.destination.0 span.free d.free.arcs.items c.paths
