-- The cap of a toll: what no toll on it needs to exceed.
use Rattle.std.specs.Prelude.{◌≡◌, ◌⊎◌, ℕ, ◌+◌, ◌≤◌, min, List, Contains, Option, Some, None}
use Rattle.npp_net.specs.declared.types.NetArc.{NetArc}
use Rattle.npp_net.specs.Network.{ceiling_of}
use Rattle.npp_net.specs.TollSets.{Has}
use Rattle.npp_cover.specs.Paths.{PathValue}
use Rattle.npp_cover.specs.Replaces.{CoverValue}

-- some path with this toll costs this much less than the toll-free path of its commodity
abbrev pub IsGap : List CoverValue → ℕ → ℕ → Type 0
IsGap covers a gap =
    (c : CoverValue) × (p : PathValue) × Contains covers c × Contains c.paths p × Has p.tolls a × (p.cost + gap ≡ c.free)

-- the greatest of these, or 0 where no path has the toll
pub record IsGreatestGap (covers : List CoverValue) (a greatest : ℕ) : Type 0 where
  pub bounds : (gap : ℕ) → IsGap covers a gap → gap ≤ greatest
  pub attained : IsGap covers a greatest ⊎ (greatest ≡ 0)

-- the lesser of a number and a ceiling, where there is one
abbrev pub within_ceiling : Option ℕ → ℕ → ℕ
within_ceiling None n = n
within_ceiling (Some u) n = min n u

-- the cap of a toll: the greatest gap, or its ceiling where that is less
abbrev pub IsCap : List NetArc → List CoverValue → ℕ → ℕ → Type 0
IsCap arcs covers a cap = (gap : ℕ) × IsGreatestGap covers a gap × (cap ≡ within_ceiling (ceiling_of arcs a) gap)
