-- The paths of a cover: its labels at the destination in order, and last the toll-free walk.
use Rattle.std.specs.Prelude.{◌≡◌, ◌⊎◌, ℕ, zero, suc, ◌+◌, ◌<◌, List, [], ◌∷◌, ◌++◌, length, map, if◌then◌else◌, ◌==◌, slice_index_or, IsPermutation, IfSome}
use Rattle.std.specs.Option.{option_map_or}
use Rattle.npp_net.specs.declared.types.ArcId.{ArcId}
use Rattle.npp_net.specs.TollSets.{size_of}
use Rattle.npp_cover.specs.declared.label.Label.{Label}
use Rattle.npp_cover.specs.declared.rank.Rank.{Rank}
use Rattle.npp_cover.specs.Labels.{label_at}

-- what a path of a cover is: its tolls as a set, its cost, and the arcs of its walk
pub record PathValue : Type 0 where
  pub tolls : ℕ
  pub cost : ℕ
  pub arcs : List ArcId

-- the arcs of a label's walk, back over at most n labels: its last arc comes after the walk of its parent
abbrev pub walk_back : List Label → ℕ → ℕ → List ArcId
walk_back labels zero i = []
walk_back labels (suc n) i =
    option_map_or (λ a. walk_back labels n (label_at labels i).parent ++ a ∷ []) (label_at labels i).last []

-- the arcs of a label's walk. Its labels have ever lower numbers
abbrev pub walk_of : List Label → ℕ → List ArcId
walk_of labels i = walk_back labels (suc i) i

-- the rank of a label
abbrev pub rank_at : List Label → ℕ → Rank
rank_at labels i = record {
  cost = (label_at labels i).cost;
  size = size_of (label_at labels i).tolls;
  set = (label_at labels i).tolls;
  label = i;
}

-- the ranks of those of the first n labels that are at v
abbrev pub ranks_at : List Label → ℕ → ℕ → List Rank
ranks_at labels v zero = []
ranks_at labels v (suc n) =
    ranks_at labels v n ++ (if (label_at labels n).node.0 == v then rank_at labels n ∷ [] else [])

-- less cost; or as much and fewer tolls; or as many and a lower number of the set; or the same and a lower label
abbrev pub Precedes : Rank → Rank → Type 0
Precedes p q =
    (p.cost < q.cost) ⊎ ((p.cost ≡ q.cost) ×
    ((p.size < q.size) ⊎ ((p.size ≡ q.size) ×
    ((p.set < q.set) ⊎ ((p.set ≡ q.set) × (p.label < q.label))))))

-- what is read past the end of a list of ranks
abbrev pub no_rank : Rank
no_rank = record { cost = 0; size = 0; set = 0; label = 0 }

-- the ranks of all labels at v, each of which precedes the next
pub record AreInOrder (labels : List Label) (v : ℕ) (ranks : List Rank) : Type 0 where
  pub all : IsPermutation (ranks_at labels v (length labels)) ranks
  pub rising : (n : ℕ) → n + 1 < length ranks → Precedes (slice_index_or ranks n no_rank) (slice_index_or ranks (n + 1) no_rank)

-- the path of the label of a rank
abbrev pub path_of : List Label → Rank → PathValue
path_of labels r = record { tolls = r.set; cost = r.cost; arcs = walk_of labels r.label }

-- the toll-free path
abbrev pub free_path : ℕ → List ArcId → PathValue
free_path free walk = record { tolls = 0; cost = free; arcs = walk }

-- the paths of the labels at v in order, and last the toll-free path
abbrev pub ArePathsOf : List Label → ℕ → ℕ → List ArcId → List PathValue → Type 0
ArePathsOf labels v free walk paths =
    (ranks : List Rank) × AreInOrder labels v ranks × (paths ≡ map (path_of labels) ranks ++ free_path free walk ∷ [])

-- it is the rank of a label
pub record IsRankOf (labels : List Label) (r : Rank) : Type 0 where
  pub in_range : r.label < length labels
  pub same : r ≡ rank_at labels r.label

-- each label that goes on from another goes on from a lower one
abbrev pub AreLinked : List Label → Type 0
AreLinked labels = (i : ℕ) → i < length labels → IfSome (label_at labels i).last (λ _. (label_at labels i).parent < i)
