-- Useful covers are closed covers, and few.
use Rattle.std.proofs.Common.{◌≡◌, ◌≤◌, ◌+◌, List, [], ◌∷◌, length, refl, ap, ◌∙◌}
use Rattle.std.specs.List.{AllZip}
use Rattle.std.proofs.lemmas.List.Sums.{sum_by-cons}
use Rattle.npp_net.specs.declared.types.NetArc.{NetArc}
use Rattle.npp_net.specs.declared.types.Commodity.{Commodity}
use Rattle.npp_net.specs.Network.{Network}
use Rattle.npp_cover.specs.Replaces.{CoverValue}
use Rattle.npp_labels.specs.Covers.{IsUsefulCover, AreUsefulCovers, path_total}
use Rattle.npp_rows.specs.Limits.{path_total as total}
use Rattle.npp_rows.proofs.ListLaws.{zip_size}
use Rattle.npp_rows.specs.Lowering.{IsClosedCover, AreClosedCovers}

useful_closed : (arcs : List NetArc) (ks : List Commodity) (cs : List CoverValue) → AllZip (IsUsefulCover arcs) ks cs → AllZip (IsClosedCover arcs) ks cs
useful_closed arcs [] [] u = tt
useful_closed arcs [] (c ∷ cs) u = absurd u
useful_closed arcs (k ∷ ks) [] u = absurd u
useful_closed arcs (k ∷ ks) (c ∷ cs) u = ((u.0.span, u.0.is_span, u.0.cover), useful_closed arcs ks cs u.1)

pub are_closed : (net : Network) (cs : List CoverValue) → AreUsefulCovers net.arcs net.commodities cs → AreClosedCovers net cs
are_closed net cs u = useful_closed net.arcs net.commodities cs u

-- the number of paths is one number, in whichever crate it is counted
pub same_total : (cs : List CoverValue) → total cs ≡ path_total cs
same_total [] = refl
same_total (c ∷ cs) = sum_by-cons (λ (c : CoverValue). length c.paths) c cs ∙ ap (λ n. length c.paths + n) (same_total cs)

pub same_count : (net : Network) (cs : List CoverValue) → AreUsefulCovers net.arcs net.commodities cs → length net.commodities ≡ length cs
same_count net cs u = zip_size (IsUsefulCover net.arcs) net.commodities cs u
