-- Useful covers are closed covers of few paths.
use Rattle.std.proofs.Common.{◌≡◌, ℕ, ◌+◌, ◌≤◌, List, [], ◌∷◌, length, refl, ap, ◌∙◌, arith}
use Rattle.std.specs.Prelude.{Result, Ok, Err, IfOk}
use Rattle.std.proofs.lemmas.List.Sums.{sum_by-cons}
use Rattle.npp_net.specs.Network.{Network}
use Rattle.npp_cover.specs.Replaces.{CoverValue}
use Rattle.npp_labels.specs.Covers.{AreUsefulCovers, path_total as useful_total}
use Rattle.npp_labels.proofs.UsefulLaws.{closed_covers}
use Rattle.npp_rows.specs.Limits.{path_total}
use Rattle.npp_rows.specs.Lowering.{AreClosedCovers}

-- both ways of adding up their paths
same_total : (cs : List CoverValue) → path_total cs ≡ useful_total cs
same_total [] = refl
same_total (c ∷ cs) = sum_by-cons (λ c. length c.paths) c cs ∙ ap (λ (n : ℕ). length c.paths + n) (same_total cs)

module _ {N E : Type 0} (value : N → List CoverValue) where
  pub found_few : (r : Result N E) → IfOk r (λ v. useful_total (value v) ≤ 2000) → IfOk r (λ v. path_total (value v) ≤ 16777216)
  found_few (Ok v) h = omega (arith, same_total (value v), h)
  found_few (Err e) h = tt

  pub found_closed : (net : Network) (r : Result N E) → IfOk r (λ v. AreUsefulCovers net.arcs net.commodities (value v)) → IfOk r (λ v. AreClosedCovers net (value v))
  found_closed net (Ok v) h = closed_covers net (value v) h
  found_closed net (Err e) h = tt
