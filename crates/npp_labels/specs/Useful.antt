-- The useful labels of a commodity as a list.
use Rattle.std.specs.Prelude.{◌≡◌, ℕ, ◌<◌, List, length}
use Rattle.npp_net.specs.declared.types.NetArc.{NetArc}
use Rattle.npp_net.specs.declared.types.Commodity.{Commodity}
use Rattle.npp_cover.specs.declared.label.Label.{Label}
use Rattle.npp_cover.specs.Labels.{label_at}
use Rattle.npp_cover.specs.Useful.{IsUsefulLabel}

-- a label with this node, this set and this cost
pub record IsAs (l : Label) (v s c : ℕ) : Type 0 where
  pub node : l.node.0 ≡ v
  pub tolls : l.tolls ≡ s
  pub cost : l.cost ≡ c

-- useful labels, each once
pub record AreUseful (arcs : List NetArc) (k : Commodity) (free : ℕ) (labels : List Label) : Type 0 where
  pub each : (i : ℕ) → i < length labels
      → IsUsefulLabel arcs k free (label_at labels i).node.0 (label_at labels i).tolls (label_at labels i).cost
  pub once : (i j : ℕ) → i < length labels → j < length labels
      → IsAs (label_at labels i) (label_at labels j).node.0 (label_at labels j).tolls (label_at labels j).cost → i ≡ j

-- all useful labels, each once
pub record AreTheUseful (arcs : List NetArc) (k : Commodity) (free : ℕ) (labels : List Label) : Type 0 where
  pub useful : AreUseful arcs k free labels
  pub all : (v tolls cost : ℕ) → IsUsefulLabel arcs k free v tolls cost
      → (i : ℕ) × (i < length labels) × IsAs (label_at labels i) v tolls cost

-- there are over 65,536 useful labels
abbrev pub HasTooMany : List NetArc → Commodity → ℕ → Type 0
HasTooMany arcs k free = (labels : List Label) × (65536 < length labels) × AreUseful arcs k free labels
