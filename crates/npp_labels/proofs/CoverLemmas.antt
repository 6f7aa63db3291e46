-- How far the list of covers has come.
use Rattle.std.proofs.Common.{◌≡◌, ℕ, zero, suc, ◌+◌, ◌<◌, ◌≤◌, List, [], ◌∷◌, ◌++◌, length, get_or, take, arith, subst}
use Rattle.std.proofs.lemmas.List.{take_more, take_all}
use Rattle.npp_net.specs.declared.types.NetArc.{NetArc}
use Rattle.npp_net.specs.declared.types.Commodity.{Commodity}
use Rattle.npp_net.specs.declared.types.Span.{Span}
use Rattle.npp_net.specs.Distance.{IsSpan}
use Rattle.npp_bounds.specs.Spans.{AreSpans}
use Rattle.npp_cover.specs.Replaces.{CoverValue}
use Rattle.npp_labels.specs.declared.covers.CoversRefusal.{CoversRefusal}
use Rattle.npp_labels.specs.Covers.{IsUsefulCover, AreUsefulCovers, IsCoversRefusal, path_total}

-- the first i commodities have these covers, of this many paths together
pub record HasCovers (arcs : List NetArc) (ks : List Commodity) (i : ℕ) (cs : List CoverValue) (paths : ℕ) : Type 0 where
  pub covers : AreUsefulCovers arcs (take i ks) cs
  pub total : paths ≡ path_total cs
  pub limit : paths ≤ 2000

covers_push : (arcs : List NetArc) (ks : List Commodity) (cs : List CoverValue) (k : Commodity) (c : CoverValue) → AreUsefulCovers arcs ks cs
    → IsUsefulCover arcs k c → AreUsefulCovers arcs (ks ++ k ∷ []) (cs ++ c ∷ [])
covers_push arcs [] [] k c covers here = (here, tt)
covers_push arcs [] (d ∷ ds) k c covers here = absurd covers
covers_push arcs (l ∷ ls) [] k c covers here = absurd covers
covers_push arcs (l ∷ ls) (d ∷ ds) k c covers here = (covers.0, covers_push arcs ls ds k c covers.1 here)

total_push : (cs : List CoverValue) (c : CoverValue) → path_total (cs ++ c ∷ []) ≡ path_total cs + length c.paths
total_push [] c = omega arith
total_push (d ∷ ds) c = omega (arith, total_push ds c)

-- the span of one commodity
pub record HasSpanAt (arcs : List NetArc) (k : Commodity) (ss : List Span) (i : ℕ) (s : Span) : Type 0 where
  pub within : i < length ss
  pub here : IsSpan arcs k s

pub span_at : (arcs : List NetArc) (ks : List Commodity) (ss : List Span) (i : ℕ) (dk : Commodity) (ds : Span) → AreSpans arcs ks ss → i < length ks
    → HasSpanAt arcs (get_or ks i dk) ss i (get_or ss i ds)
span_at arcs [] ss i dk ds spans lt = absurd (omega arith)
span_at arcs (k ∷ ks) [] i dk ds spans lt = absurd spans
span_at arcs (k ∷ ks) (s ∷ ss) zero dk ds spans lt = record { within = omega arith; here = spans.0 }
span_at arcs (k ∷ ks) (s ∷ ss) (suc i) dk ds spans lt =
    let rest = span_at arcs ks ss i dk ds spans.1 (omega arith) in
    record { within = omega (arith, rest.within); here = rest.here }

-- the covers with that of one more commodity
pub covers_more : (arcs : List NetArc) (ks : List Commodity) (i : ℕ) (cs : List CoverValue) (paths : ℕ) (d : Commodity) (c : CoverValue) → i < length ks
    → IsUsefulCover arcs (get_or ks i d) c → HasCovers arcs ks i cs paths → AreUsefulCovers arcs (take (i + 1) ks) (cs ++ c ∷ [])
covers_more arcs ks i cs paths d c lt here has = rw (take_more ks i d lt) (covers_push arcs (take i ks) cs (get_or ks i d) c has.covers here)

-- where they keep the limit
pub covers_kept : (arcs : List NetArc) (ks : List Commodity) (i : ℕ) (cs : List CoverValue) (paths : ℕ) (d : Commodity) (c : CoverValue) (n : ℕ) → i < length ks
    → n ≡ length c.paths → IsUsefulCover arcs (get_or ks i d) c → HasCovers arcs ks i cs paths → paths + n ≤ 2000
    → HasCovers arcs ks (i + 1) (cs ++ c ∷ []) (paths + n)
covers_kept arcs ks i cs paths d c n lt count here has kept = record {
  covers = covers_more arcs ks i cs paths d c lt here has;
  total = omega (arith, has.total, count, total_push cs c);
  limit = kept;
}

-- where they pass it
pub covers_past : (arcs : List NetArc) (ks : List Commodity) (i : ℕ) (cs : List CoverValue) (paths : ℕ) (d : Commodity) (c : CoverValue) (n : ℕ) → i < length ks
    → n ≡ length c.paths → IsUsefulCover arcs (get_or ks i d) c → HasCovers arcs ks i cs paths → 2000 < paths + n
    → IsCoversRefusal arcs ks (CoversRefusal.TooManyPaths i)
covers_past arcs ks i cs paths d c n lt count here has past = (
  lt,
  (cs, has.covers, omega (arith, has.total, has.limit)),
  (cs ++ c ∷ [], covers_more arcs ks i cs paths d c lt here has, omega (arith, has.total, count, past, total_push cs c)),
)

-- at the end each commodity has its cover
pub covers_all : (arcs : List NetArc) (ks : List Commodity) (i : ℕ) (cs : List CoverValue) (paths : ℕ) → length ks ≤ i → HasCovers arcs ks i cs paths
    → AreUsefulCovers arcs ks cs
covers_all arcs ks i cs paths all has = subst (λ (ls : List Commodity). AreUsefulCovers arcs ls cs) (take_all i ks all) has.covers
