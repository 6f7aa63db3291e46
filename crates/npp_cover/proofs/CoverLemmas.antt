-- The paths of closed labels, with a toll-free walk, are a cover.
use Rattle.std.proofs.Common.{◌≡◌, inl, inr, ℕ, ◌+◌, ◌<◌, ◌≤◌, ◌↔◌, Bool, true, false, cond, List, [], ◌∷◌, ◌++◌, length, refl, sym, ◌∙◌, ap, subst, arith, map, get_or, All, Contains, ◌&&◌, nat_eq}
use Rattle.std.proofs.lemmas.Bool.{cases_lt}
use Rattle.std.proofs.lemmas.List.{get_or_default, get_or-map, length-map, length-append, map-append}
use Rattle.std.proofs.Math.ListN.{get_or-append}
use Rattle.std.proofs.lemmas.List.Sums.{sum_by-cons}
use Rattle.std.proofs.lemmas.List.Sorted.{All-permutation, Contains-permutation}
use Rattle.std.proofs.lemmas.List.Elements.{All-nil, All-cons, All-append, All-map, Contains-append_left, Contains-append_right}
use Rattle.std.proofs.lemmas.Nat.Bits.{bit_at-zero, bit_at-lt}
use Rattle.std.specs.Int.{bit_at}
use Rattle.npp_net.specs.declared.types.ArcId.{ArcId}
use Rattle.npp_net.specs.declared.types.NetArc.{NetArc}
use Rattle.npp_net.specs.declared.types.Commodity.{Commodity}
use Rattle.npp_net.specs.declared.types.Span.{Span}
use Rattle.npp_net.specs.Network.{arc_at, toll_number}
use Rattle.npp_net.specs.Walk.{IsWalk, walk_cost, walk_tolls, is_toll}
use Rattle.npp_net.specs.Distance.{IsSpan, IsUsableWalk}
use Rattle.npp_net.specs.Toll.{TollVector, IsTollVector, IsCheapest}
use Rattle.npp_net.specs.TollSets.{IsTollSetOf}
use Rattle.npp_net.proofs.TollRange.{set_in_range}
use Rattle.npp_cover.specs.declared.label.Label.{Label}
use Rattle.npp_cover.specs.declared.path.UsefulPath.{UsefulPath}
use Rattle.npp_cover.specs.PathValue.{path_value}
use Rattle.npp_cover.specs.declared.rank.Rank.{Rank}
use Rattle.npp_cover.specs.Labels.{label_at}
use Rattle.npp_cover.specs.Closed.{AreClosed, IsFreeWalk}
use Rattle.npp_cover.specs.Paths.{PathValue, walk_of, path_of, free_path, rank_at, ranks_at, AreInOrder, ArePathsOf, IsRankOf, no_rank}
use Rattle.npp_cover.specs.Replaces.{IsPath, IsCoverOf, IsNoWorse, SomePath, Replaces, path_at, no_path}
use Rattle.npp_cover.proofs.PathLemmas.{IsRankAt, ranks_at_node, ranks_at_all}
use Rattle.npp_cover.proofs.SumLemmas.{pays_set, pays_no_more}
use Rattle.npp_cover.proofs.TreeLemmas.{label_walk}
use Rattle.npp_cover.proofs.ReplaceLemmas.{no_worse, as_cheap, all_usable}

-- a toll-free walk uses no toll
no_toll : (t : Bool) (n b : ℕ) → t ≡ false → cond {A = ℕ} (t && nat_eq n b) 1 0 ≡ 0
no_toll true n b e = cc
no_toll false n b e = refl

free_uses_none : (arcs : List NetArc) (walk : List ArcId) (b : ℕ) → IsUsableWalk false arcs walk → walk_tolls arcs walk b ≡ 0
free_uses_none arcs [] b usable = refl
free_uses_none arcs (a ∷ rest) b usable =
    omega (arith, sum_by-cons (λ x. cond (is_toll arcs b x) 1 0) a rest, no_toll (arc_at arcs a).toll (toll_number arcs a) b usable.0, free_uses_none arcs rest b usable.1)

used : (bit uses : ℕ) → bit < 2 → uses ≡ bit → (bit ≡ 1) ↔ (1 ≤ uses)
used bit uses lt e = ((λ one. omega arith), (λ le. omega arith))

path_is : (arcs : List NetArc) (k : Commodity) (p : PathValue) → IsWalk arcs k.origin.0 k.destination.0 p.arcs → walk_cost arcs p.arcs ≡ p.cost
    → ((b : ℕ) → walk_tolls arcs p.arcs b ≡ bit_at p.tolls b) → IsPath arcs k p
path_is arcs k p leads costs uses =
    let set : IsTollSetOf arcs p.arcs p.tolls = λ a. used (bit_at p.tolls a) (walk_tolls arcs p.arcs a) (bit_at-lt p.tolls a) (uses a) in
    record {
      leads = leads;
      costs = costs;
      uses = set;
      once = λ a. omega (arith, uses a, bit_at-lt p.tolls a);
      within = set_in_range arcs p.arcs p.tolls set;
      pays = λ t. pays_set arcs t p.arcs p.tolls uses;
    }

contains_map : {X Y : Type 0} (f : X → Y) (xs : List X) (x : X) → Contains xs x → Contains (map f xs) (f x)
contains_map f xs x h = (h.0, omega (arith, length-map xs f, h.1), get_or-map f xs h.0 x (f x) h.1 ∙ ap f h.2)

module _ (arcs : List NetArc) (k : Commodity) (span : Span) (labels : List Label) (walk : List ArcId) (paths : List PathValue)
    (is_span : IsSpan arcs k span) (closed : AreClosed arcs k span labels) (free : IsFreeWalk arcs k span.free walk) where
  rank_path : (r : Rank) → IsRankAt labels k.destination.0 r → IsPath arcs k (path_of labels r)
  rank_path r at =
      let w = label_walk arcs k.origin labels closed.each r.label at.of_label.in_range in
      let cost : r.cost ≡ (label_at labels r.label).cost = ap (λ (x : Rank). x.cost) at.of_label.same in
      let set : r.set ≡ (label_at labels r.label).tolls = ap (λ (x : Rank). x.set) at.of_label.same in
      path_is arcs k (path_of labels r)
      (subst (λ (v : ℕ). IsWalk arcs k.origin.0 v (walk_of labels r.label)) at.there w.leads)
      (w.costs ∙ sym cost)
      (λ b. w.tolls b ∙ ap (λ (s : ℕ). bit_at s b) (sym set))

  free_is_path : IsPath arcs k (free_path span.free walk)
  free_is_path = path_is arcs k (free_path span.free walk) free.leads.path free.costs
      (λ b. free_uses_none arcs walk b free.leads.usable ∙ sym (bit_at-zero b))

  rank_below : (r : Rank) → IsRankAt labels k.destination.0 r → r.cost < span.free
  rank_below r at =
      let wins = closed.wins r.label at.of_label.in_range in
      omega (arith, wins.2, ap (λ (x : Rank). x.cost) at.of_label.same)

  -- no path costs less than the least cost of all walks
  at_least : (p : PathValue) → IsPath arcs k p → span.zero ≤ p.cost
  at_least p is =
      let least = is_span.zero_least.least p.arcs (record { path = is.leads; usable = all_usable arcs p.arcs }) in
      omega (arith, least, is.costs)

  -- a path that costs and pays no more than a cheapest walk replaces it
  by_path : (t : TollVector) (w : List ArcId) (p : PathValue) → IsCheapest arcs t k.origin.0 k.destination.0 w → IsPath arcs k p
      → walk_cost arcs p.arcs ≤ walk_cost arcs w → ((b : ℕ) → walk_tolls arcs p.arcs b ≤ walk_tolls arcs w b) → Contains {X = PathValue} paths p
      → (q : ℕ) × (q < length paths) × Replaces arcs k t w (path_at paths q)
  by_path t w p cheapest is_path cost tolls at =
      let same : path_at paths at.0 ≡ p = get_or_default paths at.0 no_path p at.1 ∙ at.2 in (
        at.0,
        at.1,
        subst (λ (x : PathValue). Replaces arcs k t w x) (sym same)
            (as_cheap arcs k t w p cheapest is_path.leads cost (pays_no_more arcs t p.arcs w tolls)),
      )

  -- a path of the list that is no worse than a walk
  no_worse_at : (w : List ArcId) (p : PathValue) → IsNoWorse arcs w p → Contains {X = PathValue} paths p
      → (q : ℕ) × (q < length paths) × IsNoWorse arcs w (path_at paths q)
  no_worse_at w p is at =
      let same : path_at paths at.0 ≡ p = get_or_default paths at.0 no_path p at.1 ∙ at.2 in
      (at.0, at.1, subst (λ (x : PathValue). IsNoWorse arcs w x) (sym same) is)

  module _ (ranks : List Rank) (in_order : AreInOrder labels k.destination.0 ranks) (is : paths ≡ map (path_of labels) ranks ++ free_path span.free walk ∷ []) where
    rank_paths : All (IsRankAt labels k.destination.0) ranks
    rank_paths = All-permutation (IsRankAt labels k.destination.0) (ranks_at labels k.destination.0 (length labels)) ranks in_order.all
        (ranks_at_node labels k.destination.0 (length labels) (omega arith))

    each_path : All (IsPath arcs k) paths
    each_path = subst (λ (ps : List PathValue). All (IsPath arcs k) ps) (sym is)
        (All-append (IsPath arcs k) (map (path_of labels) ranks) (free_path span.free walk ∷ [])
        (All-map (IsPath arcs k) (path_of labels) ranks (λ n d lt. rank_path (get_or ranks n d) (rank_paths n d lt)))
        (All-cons (IsPath arcs k) (free_path span.free walk) [] free_is_path (All-nil (IsPath arcs k))))

    -- each path but the last is that of a label, and costs less than the toll-free walk
    each_below : (q : ℕ) → q + 1 < length paths → (path_at paths q).cost < span.free
    each_below q lt =
        let size : length paths ≡ length ranks + 1 =
        ap (λ (ps : List PathValue). length ps) is ∙ (length-append (map (path_of labels) ranks) (free_path span.free walk ∷ []) ∙ ap (λ (n : ℕ). n + 1) (length-map ranks (path_of labels))) in
        let lt' : q < length ranks = omega (arith, size) in
        let same : path_at paths q ≡ path_of labels (get_or ranks q no_rank) =
        ap (λ (ps : List PathValue). path_at ps q) is
        ∙ (get_or-append (map (path_of labels) ranks) (free_path span.free walk ∷ []) no_path q (omega (arith, length-map ranks (path_of labels)))
        ∙ get_or-map (path_of labels) ranks q no_rank no_path lt') in
        omega (arith, ap (λ (p : PathValue). p.cost) same, rank_below (get_or ranks q no_rank) (rank_paths q no_rank lt'))

    has_free : Contains {X = PathValue} paths (free_path span.free walk)
    has_free = subst (λ (ps : List PathValue). Contains {X = PathValue} ps (free_path span.free walk)) (sym is)
        (Contains-append_right (map (path_of labels) ranks) (free_path span.free walk ∷ []) (free_path span.free walk) (0, omega arith, refl))

    has_label : (j : ℕ) → j < length labels → (label_at labels j).node.0 ≡ k.destination.0 → Contains {X = PathValue} paths (path_of labels (rank_at labels j))
    has_label j lt there = subst (λ (ps : List PathValue). Contains {X = PathValue} ps (path_of labels (rank_at labels j))) (sym is)
        (Contains-append_left (map (path_of labels) ranks) (free_path span.free walk ∷ []) (path_of labels (rank_at labels j))
        (contains_map (path_of labels) ranks (rank_at labels j)
        (Contains-permutation (ranks_at labels k.destination.0 (length labels)) ranks (rank_at labels j) in_order.all
        (ranks_at_all labels k.destination.0 (length labels) j lt there))))

    replaced : (t : TollVector) (w : List ArcId) → IsTollVector arcs t → IsCheapest arcs t k.origin.0 k.destination.0 w → SomePath paths (Replaces arcs k t w)
    replaced t w vector cheapest = elim (cases_lt (walk_cost arcs w) span.free) [
      | inl below ↦
          let j = no_worse arcs k span labels closed w is_span cheapest.leads below in
          by_path t w (path_of labels (rank_at labels j.0)) cheapest
          (rank_path (rank_at labels j.0) (record { of_label = record { in_range = j.1.in_range; same = refl }; there = j.1.there }))
          j.1.cost j.1.tolls (has_label j.0 j.1.in_range j.1.there)
      | inr above ↦
          by_path t w (free_path span.free walk) cheapest free_is_path (omega (arith, free.costs))
          (λ b. omega (arith, free_uses_none arcs walk b free.leads.usable)) has_free
    ]

    has_no_worse : (w : List ArcId) → IsWalk arcs k.origin.0 k.destination.0 w → SomePath paths (IsNoWorse arcs w)
    has_no_worse w leads = elim (cases_lt (walk_cost arcs w) span.free) [
      | inl below ↦
          let j = no_worse arcs k span labels closed w is_span leads below in
          no_worse_at w (path_of labels (rank_at labels j.0)) (record { cost = j.1.cost; tolls = j.1.tolls }) (has_label j.0 j.1.in_range j.1.there)
      | inr above ↦
          no_worse_at w (free_path span.free walk) (record {
            cost = omega (arith, free.costs);
            tolls = λ b. omega (arith, free_uses_none arcs walk b free.leads.usable);
          }) has_free
    ]

  pub is_cover : ArePathsOf labels k.destination.0 span.free walk paths → IsCoverOf arcs k span (record { labels = labels; paths = paths; free = span.free })
  is_cover made = record {
    free = refl;
    closed = closed;
    made = (walk, free, made);
    each = each_path made.0 made.1 made.2;
    least = λ q d lt. at_least (get_or paths q d) (each_path made.0 made.1 made.2 q d lt);
    below = each_below made.0 made.1 made.2;
    stand = record { no_worse = has_no_worse made.0 made.1 made.2; replaces = replaced made.0 made.1 made.2 };
  }

-- each rank that is listed is that of a label
pub ranks_of_labels : (labels : List Label) (v : ℕ) (ranks : List Rank) → AreInOrder labels v ranks → All (IsRankOf labels) ranks
ranks_of_labels labels v ranks in_order = λ n d lt.
    (All-permutation (IsRankAt labels v) (ranks_at labels v (length labels)) ranks in_order.all (ranks_at_node labels v (length labels) (omega arith)) n d lt).of_label

-- the paths as they are made: those of the ranks, and the free path after them
pub paths_made : (labels : List Label) (v free : ℕ) (walk : List ArcId) (ranks : List Rank) (paths pushed : List UsefulPath) (p : UsefulPath)
    → AreInOrder labels v ranks → map path_value paths ≡ map (path_of labels) ranks → pushed ≡ paths ++ p ∷ [] → path_value p ≡ free_path free walk
    → ArePathsOf labels v free walk (map path_value pushed)
paths_made labels v free walk ranks paths pushed p in_order made put last = (
  ranks,
  in_order,
  ap (λ (ps : List UsefulPath). map path_value ps) put
      ∙ (map-append path_value paths (p ∷ [])
      ∙ (ap (λ (ps : List PathValue). ps ++ path_value p ∷ []) made
      ∙ ap (λ (x : PathValue). map (path_of labels) ranks ++ x ∷ []) last)),
)
