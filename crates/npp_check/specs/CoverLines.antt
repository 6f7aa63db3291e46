-- The lines of the covers. The faults are those of a cover draft, each at the line of its own label.
use Rattle.std.specs.Prelude.{ℕ, ◌+◌, Bool, not, nat_lt, ◌==◌, ◌&&◌, ◌||◌, List, [], ◌∷◌, ◌++◌, length, map, Option, Some, None, Result, Ok, Err, if◌then◌else◌}
use Rattle.npp_frac.specs.Rational.{Rational}
use Rattle.npp_net.specs.declared.types.ArcId.{ArcId}
use Rattle.npp_net.specs.declared.types.Commodity.{Commodity}
use Rattle.npp_net.specs.Network.{Network}
use Rattle.npp_cover.specs.declared.fault.CoverFault.{CoverFault}
use Rattle.npp_cover.specs.declared.fault.CoverFault.TheVariants.{TooManyLabels}
use Rattle.npp_cover.specs.declared.label.Label.{Label}
use Rattle.npp_cover.specs.declared.rank.Rank.{Rank}
use Rattle.npp_cover.specs.Useful.{commodity_at}
use Rattle.npp_cover.specs.Labels.{start_label, step_label}
use Rattle.npp_cover.specs.Fault.{start_fault, step_fault, closing_fault}
use Rattle.npp_cover.specs.Paths.{PathValue, ranks_at, path_of, free_path}
use Rattle.npp_cover.specs.Replaces.{CoverValue}
use Rattle.npp_rows.specs.Limits.{path_total}
use Rattle.npp_tree.specs.declared.item.Item.{Item}
use Rattle.npp_tree.specs.declared.item.Item.TheVariants as item
use Rattle.npp_check.specs.declared.refusal.Rule.{Rule}
use Rattle.npp_check.specs.declared.refusal.Rule.TheVariants.{Order, Cover, TooManyPaths}
use Rattle.npp_check.specs.Measures.{Measures, span_of, onward_of}
use Rattle.npp_check.specs.Rules.{broken_if}
use Rattle.npp_check.specs.Reads.{Reads, line, more, ◌>>=◌}

-- ---- the paths of labels, in order

-- less cost; or as much and fewer tolls; or as many and a lower number of the set; or the same and a lower label
abbrev pub precedes : Rank → Rank → Bool
precedes p q =
    nat_lt p.cost q.cost || ((p.cost == q.cost) &&
    (nat_lt p.size q.size || ((p.size == q.size) &&
    (nat_lt p.set q.set || ((p.set == q.set) && nat_lt p.label q.label)))))

-- a rank put before the first one that it precedes
abbrev pub put_rank : Rank → List Rank → List Rank
put_rank r [] = r ∷ []
put_rank r (q ∷ ranks) = if precedes r q then r ∷ q ∷ ranks else q ∷ put_rank r ranks

-- each of them put in its place
abbrev pub in_order : List Rank → List Rank
in_order [] = []
in_order (r ∷ ranks) = put_rank r (in_order ranks)

-- the paths of the labels at v, and last the toll-free one
abbrev pub paths_of_labels : List Label → ℕ → ℕ → List ArcId → List PathValue
paths_of_labels labels v free walk = map (path_of labels) (in_order (ranks_at labels v (length labels))) ++ free_path free walk ∷ []

-- the cover of these labels and this toll-free walk
abbrev pub cover_of : Commodity → ℕ → List Label → List ArcId → CoverValue
cover_of k free labels walk = record { labels = labels; paths = paths_of_labels labels k.destination.0 free walk; free = free }

-- ---- lines

-- a fault of the cover breaks Cover
abbrev pub unless_fault : {X : Type 0} → Option CoverFault → Result X Rule → Result X Rule
unless_fault None r = r
unless_fault (Some fault) r = Err (Cover fault)

-- commodity k has a cover of so many labels
abbrev pub cover_line : ℕ → Item Rational → Result ℕ Rule
cover_line k (item.Cover l labels) =
    broken_if (not (l == k)) Order
    (broken_if (nat_lt 65536 labels) (Cover TooManyLabels)
    (Ok labels))
cover_line k other = Err Order

-- the first label is the start, and each further one goes on from one above it
abbrev pub label_line : Network → Measures → ℕ → List Label → Item Rational → Result Label Rule
label_line net f k [] item.Start =
    unless_fault (start_fault (onward_of f k) (span_of f k).free (commodity_at net k).origin)
    (Ok (start_label (commodity_at net k).origin))
label_line net f k (l ∷ labels) (item.Step parent arc) =
    unless_fault (step_fault net.arcs (onward_of f k) (span_of f k).free (l ∷ labels) (record { parent = parent; arc = arc }))
    (Ok (step_label net.arcs (l ∷ labels) (record { parent = parent; arc = arc })))
label_line net f k labels other = Err Order

-- the toll-free walk closes the cover; with the covers above it there are at most 2,000 paths
abbrev pub free_line : Network → Measures → List CoverValue → List Label → Item Rational → Result CoverValue Rule
free_line net f above labels (item.Free walk) =
    let k = length above in
    let cover = cover_of (commodity_at net k) (span_of f k).free labels walk in
    unless_fault (closing_fault net.arcs (onward_of f k) (commodity_at net k) (span_of f k) labels walk)
    (broken_if (nat_lt 2000 (path_total above + length cover.paths)) TooManyPaths
    (Ok cover))
free_line net f above labels other = Err Order

-- the cover of the next commodity
abbrev pub cover_lines : Network → Measures → List CoverValue → Reads CoverValue
cover_lines net f above = do
  count ← line (cover_line (length above))
  labels ← more (λ so_far. line (label_line net f (length above) so_far)) count []
  line (free_line net f above labels)

-- one for each commodity, rising
abbrev pub all_covers : Network → Measures → Reads (List CoverValue)
all_covers net f = more (cover_lines net f) (length net.commodities) []
