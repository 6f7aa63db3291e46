-- An allowed family with the paths that it is of.
use Rattle.std.specs.Prelude.{◌≡◌, ℕ, List, length, map}
use Rattle.npp_rows.specs.PathModel.{PathModel, commodities}
use Rattle.npp_rows.specs.Limits.{IsWithinLimits}
use Rattle.npp_rows.specs.Parts.{IsAllowed, part_at}
use Rattle.npp_rows.specs.Relax.{allowed_tolls}
use Rattle.npp_rows.specs.Starts.{starts_of}

pub record Family : Type 0 where
  pub paths : PathModel
  pub parts : List (List ℕ)

-- how many allowed paths a commodity has
abbrev pub share_count : List (List ℕ) → ℕ → ℕ
share_count parts k = length (part_at parts k)

-- how many tolls its allowed paths use
abbrev pub paid_count : PathModel → List (List ℕ) → ℕ → ℕ
paid_count m parts k = length (allowed_tolls m parts k)

-- lists have the tolls that the allowed paths of each commodity use, and where its shares and its tolls begin
pub record IsIndexed (m : PathModel) (parts lists : List (List ℕ)) (share_starts paid_starts : List ℕ) : Type 0 where
  pub limits : IsWithinLimits m
  pub allowed : IsAllowed m parts
  pub used : lists ≡ map (allowed_tolls m parts) (commodities m)
  pub shares : share_starts ≡ starts_of (share_count parts) (length parts)
  pub paid : paid_starts ≡ starts_of (share_count lists) (length lists)
