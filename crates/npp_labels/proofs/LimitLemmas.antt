-- Where useful covers keep the limits, no limit is passed.
use Rattle.std.proofs.Common.{◌≡◌, ℕ, zero, suc, ◌+◌, ◌<◌, ◌≤◌, List, [], ◌∷◌, length, get_or, take, refl, subst, arith}
use Rattle.npp_net.specs.declared.types.NetArc.{NetArc}
use Rattle.npp_net.specs.declared.types.Commodity.{Commodity}
use Rattle.npp_net.specs.declared.types.Span.{Span}
use Rattle.npp_net.specs.Network.{no_commodity}
use Rattle.npp_net.specs.Distance.{IsSpan}
use Rattle.npp_cover.specs.Replaces.{CoverValue}
use Rattle.npp_labels.specs.declared.covers.CoversRefusal.TheVariants.{TooManyLabels, TooManyPaths, Memory}
use Rattle.npp_labels.specs.Useful.{AreTheUseful, HasTooMany}
use Rattle.npp_labels.specs.Covers.{IsUsefulCover, AreUsefulCovers, HasTooManyLabels, PassesNoLimit, path_total}
use Rattle.npp_labels.proofs.CountLemmas.{not_too_many}
use Rattle.npp_labels.proofs.PathCountLemmas.{count_at_most, paths_counted}

one_least : (arcs : List NetArc) (k : Commodity) (s t : Span) → IsSpan arcs k s → IsSpan arcs k t → s.free ≡ t.free
one_least arcs k s t is is' =
    let f = is.free_least.attained in
    let g = is'.free_least.attained in
    omega (arith, is.free_least.least g.0 g.1, is'.free_least.least f.0 f.1, f.2, g.2)

-- a commodity with a useful cover has not too many labels
labels_kept : (arcs : List NetArc) (k : Commodity) (c : CoverValue) → IsUsefulCover arcs k c → HasTooManyLabels arcs k → ⊥
labels_kept arcs k c is many =
    not_too_many arcs k is.span.free c.labels is.labels is.cover.closed.few
    (subst (λ (f : ℕ). HasTooMany arcs k f) (one_least arcs k many.0 is.span many.1 is.is_span) many.2)

paths_at_most : (arcs : List NetArc) (k : Commodity) (c d : CoverValue) → IsUsefulCover arcs k c → IsUsefulCover arcs k d → length c.paths ≤ length d.paths
paths_at_most arcs k c d is is' =
    let same : AreTheUseful arcs k is'.span.free c.labels =
    subst (λ (f : ℕ). AreTheUseful arcs k f c.labels) (one_least arcs k is.span is'.span is.is_span is'.is_span) is.labels in
    omega (
      arith,
      paths_counted c.labels k.destination.0 is.span.free is.cover.made.0 c.paths is.cover.made.2,
      paths_counted d.labels k.destination.0 is'.span.free is'.cover.made.0 d.paths is'.cover.made.2,
      count_at_most arcs k is'.span.free k.destination.0 d.labels c.labels is'.labels same.useful,
    )

-- the covers of the first of these commodities have no more paths than all
total_at_most : (arcs : List NetArc) (n : ℕ) (ks : List Commodity) (cs ds : List CoverValue) → AreUsefulCovers arcs (take n ks) cs → AreUsefulCovers arcs ks ds
    → path_total cs ≤ path_total ds
total_at_most arcs zero ks [] ds covers covers' = omega arith
total_at_most arcs zero ks (c ∷ cs) ds covers covers' = absurd covers
total_at_most arcs (suc n) [] [] ds covers covers' = omega arith
total_at_most arcs (suc n) [] (c ∷ cs) ds covers covers' = absurd covers
total_at_most arcs (suc n) (k ∷ ks) [] ds covers covers' = absurd covers
total_at_most arcs (suc n) (k ∷ ks) (c ∷ cs) [] covers covers' = absurd covers'
total_at_most arcs (suc n) (k ∷ ks) (c ∷ cs) (d ∷ ds) covers covers' =
    omega (arith, paths_at_most arcs k c d covers.0 covers'.0, total_at_most arcs n ks cs ds covers.1 covers'.1)

cover_at : (arcs : List NetArc) (ks : List Commodity) (ds : List CoverValue) (i : ℕ) → AreUsefulCovers arcs ks ds → i < length ks
    → (d : CoverValue) × IsUsefulCover arcs (get_or ks i no_commodity) d
cover_at arcs [] ds i covers lt = absurd (omega arith)
cover_at arcs (k ∷ ks) [] i covers lt = absurd covers
cover_at arcs (k ∷ ks) (d ∷ ds) zero covers lt = (d, covers.0)
cover_at arcs (k ∷ ks) (d ∷ ds) (suc i) covers lt = cover_at arcs ks ds i covers.1 (omega arith)

-- so the only refusal is want of memory
pub none_passed : (arcs : List NetArc) (ks : List Commodity) (ds : List CoverValue) → AreUsefulCovers arcs ks ds → path_total ds ≤ 2000 → PassesNoLimit arcs ks
none_passed arcs ks ds covers kept (TooManyLabels i) is =
    let here = cover_at arcs ks ds i covers is.0 in
    absurd (labels_kept arcs (get_or ks i no_commodity) here.0 here.1 is.2)
none_passed arcs ks ds covers kept (TooManyPaths i) is =
    absurd (omega (arith, is.2.2, total_at_most arcs (i + 1) ks is.2.0 ds is.2.1 covers))
none_passed arcs ks ds covers kept Memory is = refl
