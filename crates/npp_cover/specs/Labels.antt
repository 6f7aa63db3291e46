-- The labels of a draft: each is a walk from the origin, written as its last arc after the walk of a lower label.
use Rattle.std.specs.Prelude.{◌≡◌, ℕ, ◌+◌, ◌-◌, ◌^◌, min, Bool, List, [], ◌∷◌, ◌++◌, slice_index_or, if◌then◌else◌, Some, None}
use Rattle.std.specs.Int.Bits.{bit_or}
use Rattle.npp_net.specs.declared.types.ArcId.{ArcId}
use Rattle.npp_net.specs.declared.types.NodeId.{NodeId}
use Rattle.npp_net.specs.declared.types.NetArc.{NetArc}
use Rattle.npp_net.specs.Network.{arc_at, toll_number}
use Rattle.npp_cover.specs.declared.label.Label.{Label}
use Rattle.npp_cover.specs.declared.label.StepDraft.{StepDraft}

-- the set, and the toll of this arc where it is a toll arc
abbrev pub with_arc : List NetArc → ℕ → ArcId → ℕ
with_arc arcs s a = if (arc_at arcs a).toll then bit_or s (2 ^ toll_number arcs a) else s

-- what is read past the end of a list of labels
abbrev pub no_label : Label
no_label = record { node = record { 0 = 0 }; tolls = 0; cost = 0; last = None; parent = 0 }

-- the label of this number
abbrev pub label_at : List Label → ℕ → Label
label_at labels i = slice_index_or labels i no_label

-- the start: the origin, with no toll and no cost
abbrev pub start_label : NodeId → Label
start_label origin = record { node = origin; tolls = 0; cost = 0; last = None; parent = 0 }

-- the label after another, by an arc
abbrev pub label_after : List NetArc → Label → StepDraft → Label
label_after arcs from s = record {
  node = (arc_at arcs s.arc).head;
  tolls = with_arc arcs from.tolls s.arc;
  cost = from.cost + (arc_at arcs s.arc).cost;
  last = Some s.arc;
  parent = s.parent;
}

-- the label that a step gives after these
abbrev pub step_label : List NetArc → List Label → StepDraft → Label
step_label arcs labels s = label_after arcs (label_at labels s.parent) s

-- these labels, and those of the steps after them
abbrev pub labels_after : List NetArc → List Label → List StepDraft → List Label
labels_after arcs labels [] = labels
labels_after arcs labels (s ∷ rest) = labels_after arcs (labels ++ step_label arcs labels s ∷ []) rest

-- the labels before the steps: the start, or none
abbrev pub first_labels : NodeId → Bool → List Label
first_labels origin started = if started then start_label origin ∷ [] else []

-- the labels of a draft
abbrev pub labels_of : List NetArc → NodeId → Bool → List StepDraft → List Label
labels_of arcs origin started steps = labels_after arcs (first_labels origin started) steps

-- the label, with the greatest number of 64 bits in the place of a greater cost
pub record IsCapped (l capped : Label) : Type 0 where
  pub node : capped.node ≡ l.node
  pub tolls : capped.tolls ≡ l.tolls
  pub cost : capped.cost ≡ min l.cost (2 ^ 64 - 1)
  pub last : capped.last ≡ l.last
  pub parent : capped.parent ≡ l.parent
