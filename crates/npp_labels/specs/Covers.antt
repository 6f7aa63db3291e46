-- The useful covers of an instance, and the limits that they keep.
use Rattle.std.specs.Prelude.{◌≡◌, ℕ, ◌+◌, ◌<◌, ◌≤◌, List, [], ◌∷◌, length, take, slice_index_or, All}
use Rattle.std.specs.List.{AllZip}
use Rattle.npp_net.specs.declared.types.NetArc.{NetArc}
use Rattle.npp_net.specs.declared.types.Commodity.{Commodity}
use Rattle.npp_net.specs.declared.types.Span.{Span}
use Rattle.npp_net.specs.Network.{no_commodity}
use Rattle.npp_net.specs.Walk.{RepeatsNoNode}
use Rattle.npp_net.specs.Distance.{IsSpan}
use Rattle.npp_cover.specs.Paths.{walk_of}
use Rattle.npp_cover.specs.Replaces.{CoverValue, IsCoverOf}
use Rattle.npp_labels.specs.declared.covers.CoversRefusal.{CoversRefusal}
use Rattle.npp_labels.specs.declared.covers.CoversRefusal.TheVariants.{TooManyLabels, TooManyPaths, Memory}
use Rattle.npp_labels.specs.Useful.{AreTheUseful, HasTooMany}

-- no walk of a label or of a path comes to a node twice
pub record AreSimple (arcs : List NetArc) (origin : ℕ) (c : CoverValue) : Type 0 where
  pub labels : (i : ℕ) → i < length c.labels → RepeatsNoNode arcs origin (walk_of c.labels i)
  pub paths : All (λ p. RepeatsNoNode arcs origin p.arcs) c.paths

-- the useful cover of a commodity: its labels are exactly the useful ones, each once, and none of its walks comes to a node twice
pub record IsUsefulCover (arcs : List NetArc) (k : Commodity) (c : CoverValue) : Type 0 where
  pub span : Span
  pub is_span : IsSpan arcs k span
  pub labels : AreTheUseful arcs k span.free c.labels
  pub cover : IsCoverOf arcs k span c
  pub simple : AreSimple arcs k.origin.0 c

-- one useful cover for each commodity, in order
abbrev pub AreUsefulCovers : List NetArc → List Commodity → List CoverValue → Type 0
AreUsefulCovers arcs ks covers = AllZip (IsUsefulCover arcs) ks covers

-- how many paths they have together
abbrev pub path_total : List CoverValue → ℕ
path_total [] = 0
path_total (c ∷ cs) = length c.paths + path_total cs

-- the commodities before number k have useful covers, of at most 2,000 paths together
abbrev pub KeepLimitsBefore : List NetArc → List Commodity → ℕ → Type 0
KeepLimitsBefore arcs ks k =
    (covers : List CoverValue) × AreUsefulCovers arcs (take k ks) covers × (path_total covers ≤ 2000)

-- there are over 65,536 useful labels of this commodity
abbrev pub HasTooManyLabels : List NetArc → Commodity → Type 0
HasTooManyLabels arcs k = (span : Span) × IsSpan arcs k span × HasTooMany arcs k span.free

-- these commodities have useful covers, of over 2,000 paths together
abbrev pub HaveTooManyPaths : List NetArc → List Commodity → Type 0
HaveTooManyPaths arcs ks = (covers : List CoverValue) × AreUsefulCovers arcs ks covers × (2000 < path_total covers)

-- the first commodity at which a limit is passed, that of its labels or else that of the paths up to it; or want of memory
abbrev pub IsCoversRefusal : List NetArc → List Commodity → CoversRefusal → Type 0
IsCoversRefusal arcs ks (TooManyLabels k) =
    (k < length ks) × KeepLimitsBefore arcs ks k × HasTooManyLabels arcs (slice_index_or ks k no_commodity)
IsCoversRefusal arcs ks (TooManyPaths k) =
    (k < length ks) × KeepLimitsBefore arcs ks k × HaveTooManyPaths arcs (take (k + 1) ks)
IsCoversRefusal arcs ks Memory = Unit {0}

-- no limit is passed
abbrev pub PassesNoLimit : List NetArc → List Commodity → Type 0
PassesNoLimit arcs ks = (refusal : CoversRefusal) → IsCoversRefusal arcs ks refusal → refusal ≡ Memory
