-- How far the loops over the commodities have come.
use Rattle.std.proofs.Common.{◌≡◌, ℕ, ◌+◌, ◌*◌, ◌^◌, ◌<◌, ◌≤◌, List, [], ◌∷◌, ◌++◌, length, get_or, take, drop, subst}
use Rattle.std.proofs.lemmas.List.{take_more, take_all, map-append}
use Rattle.std.proofs.lemmas.List.Elements.{All-more}
use Rattle.npp_net.specs.declared.types.ArcId.{ArcId}
use Rattle.npp_net.specs.declared.types.NetArc.{NetArc}
use Rattle.npp_net.specs.declared.types.Commodity.{Commodity}
use Rattle.npp_net.specs.declared.types.Span.{Span}
use Rattle.npp_net.specs.declared.types.Walk.{Walk}
use Rattle.npp_net.specs.Distance.{IsSpan, HasNoFreePath}
use Rattle.npp_bounds.specs.Spans.{AreSpans, AllHaveFreePaths, basic}
use Rattle.npp_bounds.specs.LeastWalks.{IsLeastWalk, AreLeastWalks, arc_lists}
use Rattle.npp_bounds.proofs.SpanLemmas.{spans_push}

-- what was added and what is left make the whole
pub record HasAdded (arcs : List NetArc) (ks : List Commodity) (ss : List Span) (i total : ℕ) : Type 0 where
  pub rest : AreSpans arcs (drop i ks) (drop i ss)
  pub sum : total + basic (drop i ks) (drop i ss) ≡ basic ks ss
  pub small : total ≤ i * 2 ^ 84

-- the first i commodities have these spans and walks
pub record HasFound (arcs : List NetArc) (ks : List Commodity) (i : ℕ) (ss : List Span) (ws : List Walk) : Type 0 where
  pub spans : AreSpans arcs (take i ks) ss
  pub walks : AreLeastWalks arcs (take i ks) ss (arc_lists ws)
  pub free : AllHaveFreePaths arcs (take i ks)

walks_push : (arcs : List NetArc) (ks : List Commodity) (ss : List Span) (ws : List (List ArcId)) (k : Commodity) (s : Span) (w : List ArcId)
    → AreLeastWalks arcs ks ss ws → IsLeastWalk arcs k s w → AreLeastWalks arcs (ks ++ k ∷ []) (ss ++ s ∷ []) (ws ++ w ∷ [])
walks_push arcs [] [] [] k s w least here = (here, tt)
walks_push arcs (l ∷ ls) (t ∷ ts) (v ∷ vs) k s w least here = (least.0, walks_push arcs ls ts vs k s w least.1 here)
walks_push arcs [] [] (v ∷ vs) k s w least here = absurd least
walks_push arcs [] (t ∷ ts) vs k s w least here = absurd least
walks_push arcs (l ∷ ls) [] vs k s w least here = absurd least
walks_push arcs (l ∷ ls) (t ∷ ts) [] k s w least here = absurd least

-- one more commodity
pub found_more : (arcs : List NetArc) (ks : List Commodity) (i : ℕ) (ss : List Span) (ws : List Walk) (d : Commodity) (s : Span) (w : Walk) → i < length ks
    → IsSpan arcs (get_or ks i d) s → IsLeastWalk arcs (get_or ks i d) s w.arcs.items
    → HasFound arcs ks i ss ws → HasFound arcs ks (i + 1) (ss ++ s ∷ []) (ws ++ w ∷ [])
found_more arcs ks i ss ws d s w lt span walk f =
    let has : HasNoFreePath arcs (get_or ks i d) → ⊥ = λ none. none span.free_least.attained.0 span.free_least.attained.1 in record {
      spans = rw (take_more ks i d lt) (spans_push arcs (take i ks) ss (get_or ks i d) s f.spans span);
      walks =
          rw (take_more ks i d lt, map-append (λ (x : Walk). x.arcs.items) ws (w ∷ []))
          (walks_push arcs (take i ks) ss (arc_lists ws) (get_or ks i d) s w.arcs.items f.walks walk);
      free = All-more (λ (k : Commodity). HasNoFreePath arcs k → ⊥) ks i d lt f.free has;
    }

-- at the end each commodity has its walk
pub found_walks : (arcs : List NetArc) (ks : List Commodity) (i : ℕ) (ss : List Span) (ws : List Walk) → length ks ≤ i → HasFound arcs ks i ss ws
    → AreLeastWalks arcs ks ss (arc_lists ws)
found_walks arcs ks i ss ws all f = subst (λ (ls : List Commodity). AreLeastWalks arcs ls ss (arc_lists ws)) (take_all i ks all) f.walks
