-- One cover for each commodity, and a path of each: what they owe to an outcome.
use Rattle.std.specs.Prelude.{◌≡◌, ℕ, ◌<◌, List, [], length, map, slice_index, slice_index_or}
use Rattle.std.specs.List.{range_with_len, AllZip}
use Rattle.npp_net.specs.declared.types.ArcId.{ArcId}
use Rattle.npp_net.specs.declared.types.NetArc.{NetArc}
use Rattle.npp_net.specs.declared.types.Commodity.{Commodity}
use Rattle.npp_net.specs.declared.types.Span.{Span}
use Rattle.npp_net.specs.Network.{Network}
use Rattle.npp_net.specs.Distance.{IsSpan}
use Rattle.npp_net.specs.Toll.{TollVector}
use Rattle.npp_net.specs.Outcome.{IsOutcome, revenue}
use Rattle.npp_cover.specs.Replaces.{CoverValue, IsCoverOf, path_at}

-- a cover of a commodity
abbrev pub IsClosedCover : List NetArc → Commodity → CoverValue → Type 0
IsClosedCover arcs k c = (span : Span) × IsSpan arcs k span × IsCoverOf arcs k span c

-- one for each commodity, in order
abbrev pub AreClosedCovers : Network → List CoverValue → Type 0
AreClosedCovers net covers = AllZip (IsClosedCover net.arcs) net.commodities covers

-- what is read past the end of a list of covers
abbrev pub no_cover : CoverValue
no_cover = record { labels = []; paths = []; free = 0 }

-- the cover of this commodity
abbrev pub cover_at : List CoverValue → ℕ → CoverValue
cover_at covers k = slice_index_or covers k no_cover

-- the walks of the paths that are chosen, one of each cover by its number
abbrev pub chosen_walks : List CoverValue → List ℕ → List (List ArcId)
chosen_walks covers choice = map (λ k. (path_at (cover_at covers k).paths (slice_index choice k)).arcs) (range_with_len 0 (length covers))

-- numbers of paths, one of each cover, with whose walks the same tolls are an outcome of the same revenue
pub record IsChosenFor (net : Network) (covers : List CoverValue) (t : TollVector) (walks : List (List ArcId)) (choice : List ℕ) : Type 0 where
  pub count : length choice ≡ length covers
  pub within : (k : ℕ) → k < length covers → slice_index choice k < length (cover_at covers k).paths
  pub outcome : IsOutcome net t (chosen_walks covers choice)
  pub revenue : revenue net.arcs t net.commodities (chosen_walks covers choice) ≡ revenue net.arcs t net.commodities walks

-- for each outcome there are such numbers
abbrev pub ReplaceOutcomes : Network → List CoverValue → Type 0
ReplaceOutcomes net covers = (t : TollVector) (walks : List (List ArcId)) → IsOutcome net t walks
    → (choice : List ℕ) × IsChosenFor net covers t walks choice
