-- What an instance and its covers tell, by their places.
use Rattle.std.proofs.Common.{◌≡◌, ℕ, ◌+◌, ◌<◌, ◌*◌, ◌-◌, length, get_or, sum_by, refl, ◌∙◌, ap, arith}
use Rattle.std.specs.List.{range_with_len}
use Rattle.std.specs.Prelude.{List, [], ◌∷◌}
use Rattle.std.proofs.lemmas.List.{get_or-map}
use Rattle.std.proofs.lemmas.List.Sums.{sum_by-append}
use Rattle.npp_net.specs.Network.{Network, no_commodity}
use Rattle.npp_cover.specs.Replaces.{CoverValue}
use Rattle.npp_rows.specs.PathModel.{PathModel, demand_at, cover_at}
use Rattle.npp_rows.specs.Caps.{path_model}
use Rattle.npp_rows.specs.Parts.{part_at}
use Rattle.npp_rows.specs.Basic.{least_cost}
use Rattle.npp_rows.specs.Lowering.{AreClosedCovers, IsClosedCover}
use Rattle.npp_rows.proofs.ListLaws.{range_push, zip_size}

pub covers_size : (net : Network) (covers : List CoverValue) → AreClosedCovers net covers → length net.commodities ≡ length covers
covers_size net covers h = zip_size (IsClosedCover net.arcs) net.commodities covers h

pub demand_is : (net : Network) (covers : List CoverValue) (k : ℕ) → k < length net.commodities → demand_at (path_model net covers) k ≡ (get_or net.commodities k no_commodity).demand
demand_is net covers k h = get_or-map (λ c. c.demand) net.commodities k no_commodity 0 h

-- a sum over numbers in a row, and one more
pub sum_range_push : (f : ℕ → ℕ) (n : ℕ) → sum_by f (range_with_len 0 (n + 1)) ≡ sum_by f (range_with_len 0 n) + f n
sum_range_push f n = ap (sum_by f) (range_push 0 n n (omega arith)) ∙ sum_by-append f (range_with_len 0 n) (n ∷ []) ∙ ap (λ (t : ℕ). sum_by f (range_with_len 0 n) + t) (omega arith)

-- what the allowed paths of a commodity can earn
abbrev pub earnings : PathModel → List (List ℕ) → ℕ → ℕ
earnings m parts k = demand_at m k * ((cover_at m k).free - least_cost m k (part_at parts k))

pub basic_step : (m : PathModel) (parts : List (List ℕ)) (k total demand free least paid saved : ℕ)
    → total ≡ sum_by (earnings m parts) (range_with_len 0 k) → paid ≡ demand * saved → saved ≡ free - least → demand ≡ demand_at m k
    → free ≡ (cover_at m k).free → least ≡ least_cost m k (part_at parts k)
    → total + paid ≡ sum_by (earnings m parts) (range_with_len 0 (k + 1))
basic_step m parts k total demand free least paid saved t p s d f l =
    rw (sum_range_push (earnings m parts) k) (rw (t, p, s, d, f, l) refl)
