-- What is known when no label is left to take: the labels are all useful ones.
use Rattle.std.proofs.Common.{◌≡◌, inl, inr, ℕ, ◌+◌, ◌<◌, true, false, List, [], ◌++◌, length, Option, sym, ◌∙◌, subst, arith}
use Rattle.std.proofs.lemmas.Bool.{false≢true}
use Rattle.npp_net.specs.declared.types.ArcId.{ArcId}
use Rattle.npp_net.specs.declared.types.Commodity.{Commodity}
use Rattle.npp_net.specs.declared.types.Span.{Span}
use Rattle.npp_net.specs.Network.{Network, IsNetwork, IsCommodity, arc_at}
use Rattle.npp_net.specs.Distance.{IsDistance, IsSpan}
use Rattle.npp_cover.specs.declared.label.Label.{Label}
use Rattle.npp_cover.specs.Labels.{label_at, with_arc}
use Rattle.npp_cover.specs.Useful.{CanWin, IsPairAt, Dominates, IsUsefulLabel}
use Rattle.npp_cover.specs.Fault.{can_win}
use Rattle.npp_cover.specs.Closed.{IsDominated, IsDominatedBy}
use Rattle.npp_cover.proofs.ClosureLemmas.{head_within}
use Rattle.npp_cover.proofs.FaultLemmas.{below_by}
use Rattle.npp_labels.specs.declared.pending.Pending.{Pending}
use Rattle.npp_labels.specs.Useful.{IsAs}
use Rattle.npp_cover.specs.Needed.{NeededValue, AreNeeded}
use Rattle.npp_labels.specs.Search.{AreWaiting, AreFound}
use Rattle.npp_labels.proofs.BehindLemmas.{front}
use Rattle.npp_labels.proofs.ChainLemmas.{simple_walks}
use Rattle.npp_labels.proofs.FrontierLemmas.{IsFrontier, pair_meets, walk_append, cost_append}
use Rattle.npp_labels.proofs.Searching.{IsSearching, pair_of, first_start, walk_node, least_there}

module _ (net : Network) (limits : IsNetwork net) (k : Commodity) (ends : IsCommodity net.nodes k) (span : Span) (onward : ℕ → Option ℕ)
    (distances : (v : ℕ) → v < net.nodes → IsDistance net.arcs true v k.destination.0 (onward v)) where
  -- where no walk can win there is no useful label
  pub found_none : IsSpan net.arcs k span → can_win onward span.free k.origin.0 0 ≡ false → AreFound net.arcs k span []
  found_none is_span none =
      let no_win : CanWin net.arcs k span.free k.origin.0 0 → ⊥ =
      λ wins. false≢true (sym none ∙ below_by net.arcs k span.free k.origin.0 0 (onward k.origin.0) (distances k.origin.0 ends.origin) wins) in
      record {
        closed = record {
          few = omega arith;
          each = λ i lt. absurd (omega arith);
          wins = λ i lt. absurd (omega arith);
          start = λ lt. absurd (no_win (is_span.zero_least.attained.0, is_span.zero_least.attained.1.path, omega (arith, is_span.zero_least.attained.2)));
          closed = λ i a lt arc tail wins. absurd (omega arith);
        };
        useful = record {
          useful = record { each = λ i lt. absurd (omega arith); once = λ i j lt. absurd (omega arith) };
          all = λ v s c u.
              let w : List ArcId = u.pair.0 in
              let is = u.pair.1 in
              absurd (no_win (
                w ++ is.wins.0,
                walk_append net.arcs k.origin.0 v k.destination.0 w is.wins.0 is.leads is.wins.1,
                omega (arith, cost_append net.arcs w is.wins.0, is.costs, is.wins.2),
              ));
        };
        simple = λ i lt. absurd (omega arith);
      }

  module _ (needed : NeededValue) (known_needed : AreNeeded net.arcs onward span.free net.nodes needed) (labels : List Label) (pending : List Pending)
      (known : IsSearching net k span.free onward needed labels pending) (none : AreWaiting net.arcs onward span.free needed labels (length labels) []) where
    heads_of : (a : ArcId) → a.0 < length net.arcs → (arc_at net.arcs a).head.0 < net.nodes
    heads_of a lt = head_within net a limits lt

    front_end : IsFrontier net.arcs k span.free onward labels []
    front_end = front net limits k span.free onward distances needed known_needed labels known.good [] none

    closed_end : (i : ℕ) (a : ArcId) → i < length labels → a.0 < length net.arcs → (arc_at net.arcs a).tail.0 ≡ (label_at labels i).node.0
        → CanWin net.arcs k span.free (arc_at net.arcs a).head.0 ((label_at labels i).cost + (arc_at net.arcs a).cost)
        → IsDominated labels (arc_at net.arcs a).head.0 (with_arc net.arcs (label_at labels i).tolls a) ((label_at labels i).cost + (arc_at net.arcs a).cost)
    closed_end i a lt arc tail wins = elim (front_end i a lt arc tail wins) [
      | inl found ↦ found
      | inr waits ↦ absurd (omega (arith, waits.2.1.1))
    ]

    -- a label at the node of a useful pair that dominates it is that pair
    same_pair : (v s c j : ℕ) → IsUsefulLabel net.arcs k span.free v s c → IsDominatedBy labels v s c j → IsAs (label_at labels j) v s c
    same_pair v s c j u found =
        let pair = subst (λ (w : ℕ). IsPairAt net.arcs k span.free w (label_at labels j).tolls (label_at labels j).cost) found.there
        (pair_of net k span.free labels known.good j found.in_range) in
        let same = u.minimal (label_at labels j).tolls (label_at labels j).cost pair found.dominates in
        record { node = found.there; tolls = same.0; cost = same.1 }

    listed : (v s c : ℕ) → IsUsefulLabel net.arcs k span.free v s c → (i : ℕ) × (i < length labels) × IsAs (label_at labels i) v s c
    listed v s c u =
        let is = u.pair.1 in
        let node = walk_node net v k.destination.0 is.wins.0 limits ends.destination is.wins.1 in
        let there = least_there net.arcs v k.destination.0 (onward v) is.wins.0 (distances v node) is.wins.1 in
        elim (pair_meets net.arcs net.nodes heads_of k span.free onward distances labels [] front_end v s c there.0 known.some
        (first_start net k span.free labels known.good known.some) u.pair there.1) [
          | inl found ↦ (found.0, found.1.in_range, same_pair v s c found.0 u found.1)
          | inr ahead ↦ absurd (omega (arith, ahead.2.waits.1.1))
        ]

    apart : (i j : ℕ) → i < length labels → j < i → (label_at labels j).node.0 ≡ (label_at labels i).node.0
        → Dominates (label_at labels j).tolls (label_at labels j).cost (label_at labels i).tolls (label_at labels i).cost → ⊥
    apart i j lt before' node up =
        let as' = same_pair (label_at labels i).node.0 (label_at labels i).tolls (label_at labels i).cost j (known.useful.each i lt)
        (record { in_range = omega arith; there = node; dominates = up }) in
        let same : j ≡ i = known.useful.once j i (omega arith) lt as' in
        omega arith

    pub found_all : AreFound net.arcs k span labels
    found_all = record {
      closed = record {
        few = known.few;
        each = known.good.each;
        wins = known.good.wins;
        start = λ lt. known.some;
        closed = closed_end;
      };
      useful = record { useful = known.useful; all = listed };
      simple = simple_walks net.arcs k.origin labels known.good.each apart;
    }
