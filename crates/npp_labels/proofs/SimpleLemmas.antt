-- The walks of the paths of a cover come to no node twice where those of its labels do not.
use Rattle.std.proofs.Common.{ℕ, ◌<◌, List, [], ◌∷◌, length, sym, subst, map, get_or, All}
use Rattle.std.proofs.lemmas.List.Elements.{All-nil, All-cons, All-append, All-map}
use Rattle.npp_net.specs.declared.types.ArcId.{ArcId}
use Rattle.npp_net.specs.declared.types.NetArc.{NetArc}
use Rattle.npp_net.specs.Walk.{RepeatsNoNode}
use Rattle.npp_cover.specs.declared.label.Label.{Label}
use Rattle.npp_cover.specs.declared.rank.Rank.{Rank}
use Rattle.npp_cover.specs.Paths.{PathValue, ArePathsOf, walk_of, path_of, free_path, IsRankOf}
use Rattle.npp_cover.proofs.CoverLemmas.{ranks_of_labels}

abbrev pub IsSimple : List NetArc → ℕ → PathValue → Type 0
IsSimple arcs u p = RepeatsNoNode arcs u p.arcs

-- so are the walks of some labels
abbrev pub AllSimple : List NetArc → ℕ → List Label → Type 0
AllSimple arcs u labels = (i : ℕ) → i < length labels → RepeatsNoNode arcs u (walk_of labels i)

pub simple_paths : (arcs : List NetArc) (u : ℕ) (labels : List Label) (v free : ℕ) (walk : List ArcId) (paths : List PathValue) → ArePathsOf labels v free walk paths
    → AllSimple arcs u labels → RepeatsNoNode arcs u walk → All (IsSimple arcs u) paths
simple_paths arcs u labels v free walk paths made each last =
    let ranks : List Rank = made.0 in
    let of_labels : All (IsRankOf labels) ranks = ranks_of_labels labels v ranks made.1 in
    subst (λ (ps : List PathValue). All (IsSimple arcs u) ps) (sym made.2)
    (All-append (IsSimple arcs u) (map (path_of labels) ranks) (free_path free walk ∷ [])
    (All-map (IsSimple arcs u) (path_of labels) ranks (λ n d lt. each (get_or ranks n d).label (of_labels n d lt).in_range))
    (All-cons (IsSimple arcs u) (free_path free walk) [] last (All-nil (IsSimple arcs u))))
