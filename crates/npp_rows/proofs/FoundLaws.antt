-- What the code finds by a name is its place.
use Rattle.std.proofs.Common.{◌≡◌, ℕ, ◌+◌, ◌<◌, ◌≤◌, List, length, get_or, Option, subst, arith}
use Rattle.std.specs.Prelude.{Contains, MatchOption}
use Rattle.npp_cover.specs.Replaces.{sum_below}
use Rattle.npp_rows.specs.declared.names.RowName.TheVariants.{Cap, Follow, Below, Use, Link, One, OneLow, Cut}
use Rattle.npp_rows.specs.declared.names.ColumnName.TheVariants.{Toll, Share, Paid}
use Rattle.npp_rows.specs.PathModel.{PathModel, path_count}
use Rattle.npp_rows.specs.Parts.{part_at}
use Rattle.npp_rows.specs.Family.{paid_count}
use Rattle.npp_rows.specs.Places.{StandsAt, IsPlaceIn}
use Rattle.npp_rows.specs.Relax.{relaxation_rows, relaxation_columns, allowed_tolls}
use Rattle.npp_rows.specs.Inverse.{inverse}
use Rattle.npp_rows.specs.Rows.{IsRow, IsChoiceRow, IsChoiceColumn, HasColumn, IsPaidOn, pairs_from, shares_from, paid_from}
use Rattle.npp_rows.proofs.KeyLaws.{placed_by}
use Rattle.npp_rows.proofs.RowPlaces.{cap_stands, follow_stands, stands_single, front_in_rows, below_in_rows, use_in_rows, link_in_rows, one_in_rows, low_in_rows, cut_in_rows, toll_in_columns, share_in_columns, paid_in_columns}

-- one of so many things that are numbered from `base` on
abbrev pub IsNumberedFrom : ℕ → ℕ → ℕ → Option ℕ → Type 0
IsNumberedFrom base count i o = MatchOption o (count ≤ i) (λ j. (i < count) × (j ≡ base + i))

-- the place of the row of a path
abbrev pub IsFollowFound : PathModel → ℕ → ℕ → Option ℕ → Type 0
IsFollowFound m k q o =
    MatchOption o ((k < length m.covers) × (q < path_count m k) → ⊥)
    (λ j. (k < length m.covers) × (q < path_count m k) × (j ≡ length m.caps + sum_below (path_count m) k + q))

-- the place of what stands behind so many things, by the toll of a commodity
abbrev pub IsPairFound : PathModel → List (List ℕ) → ℕ → ℕ → ℕ → Option ℕ → Type 0
IsPairFound m parts base a k o =
    MatchOption o (IsPaidOn m parts a k → ⊥)
    (λ j. (i : ℕ) × (k < length m.covers) × (i < length (allowed_tolls m parts k)) × (get_or (allowed_tolls m parts k) i a ≡ a) × (j ≡ base + i))

module _ (m : PathModel) (parts : List (List ℕ)) (n : ℕ) where
  pub cap_found : (a t : ℕ) (o : Option ℕ) → t ≡ length m.caps → IsNumberedFrom 0 t a o → IsPlaceIn (relaxation_rows m parts n) (IsRow m parts n) (Cap a) o
  cap_found a t o e h =
      placed_by (relaxation_rows m parts n) (IsRow m parts n) (Cap a) o (t ≤ a) (λ j. (a < t) × (j ≡ 0 + a)) h (λ q p. omega (arith, q, p, e))
      (λ j r. let same : a ≡ j = omega (arith, r.1) in
      subst (λ (i : ℕ). StandsAt (relaxation_rows m parts n) i (Cap a)) same (front_in_rows m parts n a (Cap a) (cap_stands m a (omega (arith, r.0, e)))))

  pub follow_found : (k q : ℕ) (o : Option ℕ) → IsFollowFound m k q o → IsPlaceIn (relaxation_rows m parts n) (IsRow m parts n) (Follow k q) o
  follow_found k q o h =
      placed_by (relaxation_rows m parts n) (IsRow m parts n) (Follow k q) o ((k < length m.covers) × (q < path_count m k) → ⊥)
      (λ j. (k < length m.covers) × (q < path_count m k) × (j ≡ length m.caps + sum_below (path_count m) k + q)) h (λ none p. none p)
      (λ j r. front_in_rows m parts n j (Follow k q) (follow_stands m k q j r.0 r.1 r.2))

  pub below_found : (a k : ℕ) (o : Option ℕ) → IsPairFound m parts (pairs_from m parts 0 + sum_below (paid_count m parts) k) a k o → IsPlaceIn (relaxation_rows m parts n) (IsRow m parts n) (Below a k) o
  below_found a k o h =
      placed_by (relaxation_rows m parts n) (IsRow m parts n) (Below a k) o (IsPaidOn m parts a k → ⊥)
      (λ j. (i : ℕ) × (k < length m.covers) × (i < length (allowed_tolls m parts k)) × (get_or (allowed_tolls m parts k) i a ≡ a) × (j ≡ pairs_from m parts 0 + sum_below (paid_count m parts) k + i)) h (λ none p. none p)
      (λ j r. below_in_rows m parts n a k r.0 j r.1 (record { within = r.2; is = r.3 }) r.4)

  pub use_found : (a k : ℕ) (o : Option ℕ) → IsPairFound m parts (pairs_from m parts 1 + sum_below (paid_count m parts) k) a k o → IsPlaceIn (relaxation_rows m parts n) (IsRow m parts n) (Use a k) o
  use_found a k o h =
      placed_by (relaxation_rows m parts n) (IsRow m parts n) (Use a k) o (IsPaidOn m parts a k → ⊥)
      (λ j. (i : ℕ) × (k < length m.covers) × (i < length (allowed_tolls m parts k)) × (get_or (allowed_tolls m parts k) i a ≡ a) × (j ≡ pairs_from m parts 1 + sum_below (paid_count m parts) k + i)) h (λ none p. none p)
      (λ j r. use_in_rows m parts n a k r.0 j r.1 (record { within = r.2; is = r.3 }) r.4)

  pub link_found : (a k : ℕ) (o : Option ℕ) → IsPairFound m parts (pairs_from m parts 2 + sum_below (paid_count m parts) k) a k o → IsPlaceIn (relaxation_rows m parts n) (IsRow m parts n) (Link a k) o
  link_found a k o h =
      placed_by (relaxation_rows m parts n) (IsRow m parts n) (Link a k) o (IsPaidOn m parts a k → ⊥)
      (λ j. (i : ℕ) × (k < length m.covers) × (i < length (allowed_tolls m parts k)) × (get_or (allowed_tolls m parts k) i a ≡ a) × (j ≡ pairs_from m parts 2 + sum_below (paid_count m parts) k + i)) h (λ none p. none p)
      (λ j r. link_in_rows m parts n a k r.0 j r.1 (record { within = r.2; is = r.3 }) r.4)

  pub one_found : (k base t : ℕ) (o : Option ℕ) → base ≡ pairs_from m parts 3 → t ≡ length m.covers → IsNumberedFrom base t k o → IsPlaceIn (relaxation_rows m parts n) (IsRow m parts n) (One k) o
  one_found k base t o b e h =
      placed_by (relaxation_rows m parts n) (IsRow m parts n) (One k) o (t ≤ k) (λ j. (k < t) × (j ≡ base + k)) h (λ q p. omega (arith, q, p, e))
      (λ j r. one_in_rows m parts n k j (omega (arith, r.0, e)) (omega (arith, r.1, b)))

  pub low_found : (k base t : ℕ) (o : Option ℕ) → base ≡ pairs_from m parts 3 + length m.covers → t ≡ length m.covers → IsNumberedFrom base t k o → IsPlaceIn (relaxation_rows m parts n) (IsRow m parts n) (OneLow k) o
  low_found k base t o b e h =
      placed_by (relaxation_rows m parts n) (IsRow m parts n) (OneLow k) o (t ≤ k) (λ j. (k < t) × (j ≡ base + k)) h (λ q p. omega (arith, q, p, e))
      (λ j r. low_in_rows m parts n k j (omega (arith, r.0, e)) (omega (arith, r.1, b)))

  pub cut_found : (i base : ℕ) (o : Option ℕ) → base ≡ pairs_from m parts 3 + length m.covers + length m.covers → IsNumberedFrom base n i o → IsPlaceIn (relaxation_rows m parts n) (IsRow m parts n) (Cut i) o
  cut_found i base o b h =
      placed_by (relaxation_rows m parts n) (IsRow m parts n) (Cut i) o (n ≤ i) (λ j. (i < n) × (j ≡ base + i)) h (λ q p. omega (arith, q, p))
      (λ j r. cut_in_rows m parts n i j r.0 (omega (arith, r.1, b)))

module _ (m : PathModel) (parts : List (List ℕ)) where
  pub toll_found : (a t : ℕ) (o : Option ℕ) → t ≡ length m.caps → IsNumberedFrom 0 t a o → IsPlaceIn (relaxation_columns m parts) (HasColumn m parts) (Toll a) o
  toll_found a t o e h =
      placed_by (relaxation_columns m parts) (HasColumn m parts) (Toll a) o (t ≤ a) (λ j. (a < t) × (j ≡ 0 + a)) h (λ q p. omega (arith, q, p, e))
      (λ j r. let same : a ≡ j = omega (arith, r.1) in subst (λ (i : ℕ). StandsAt (relaxation_columns m parts) i (Toll a)) same (toll_in_columns m parts a (omega (arith, r.0, e))))

  pub share_found : (k p : ℕ) (o : Option ℕ)
      → MatchOption o ((k < length m.covers) × Contains (part_at parts k) p → ⊥) (λ j. (i : ℕ) × (k < length m.covers) × (i < length (part_at parts k)) × (get_or (part_at parts k) i p ≡ p) × (j ≡ shares_from m parts k + i))
      → IsPlaceIn (relaxation_columns m parts) (HasColumn m parts) (Share k p) o
  share_found k p o h =
      placed_by (relaxation_columns m parts) (HasColumn m parts) (Share k p) o ((k < length m.covers) × Contains (part_at parts k) p → ⊥)
      (λ j. (i : ℕ) × (k < length m.covers) × (i < length (part_at parts k)) × (get_or (part_at parts k) i p ≡ p) × (j ≡ shares_from m parts k + i)) h (λ none x. none x)
      (λ j r. share_in_columns m parts k p r.0 j r.1 (record { within = r.2; is = r.3 }) r.4)

  pub paid_found : (a k : ℕ) (o : Option ℕ) → IsPairFound m parts (paid_from m parts k) a k o → IsPlaceIn (relaxation_columns m parts) (HasColumn m parts) (Paid a k) o
  paid_found a k o h =
      placed_by (relaxation_columns m parts) (HasColumn m parts) (Paid a k) o (IsPaidOn m parts a k → ⊥)
      (λ j. (i : ℕ) × (k < length m.covers) × (i < length (allowed_tolls m parts k)) × (get_or (allowed_tolls m parts k) i a ≡ a) × (j ≡ paid_from m parts k + i)) h (λ none x. none x)
      (λ j r. paid_in_columns m parts a k r.0 j r.1 (record { within = r.2; is = r.3 }) r.4)

module _ (m : PathModel) (choice : List ℕ) where
  pub choice_cap_found : (a t : ℕ) (o : Option ℕ) → t ≡ length m.caps → IsNumberedFrom 0 t a o → IsPlaceIn (inverse m choice).rows (IsChoiceRow m) (Cap a) o
  choice_cap_found a t o e h =
      placed_by (inverse m choice).rows (IsChoiceRow m) (Cap a) o (t ≤ a) (λ j. (a < t) × (j ≡ 0 + a)) h (λ q p. omega (arith, q, p, e))
      (λ j r. let same : a ≡ j = omega (arith, r.1) in subst (λ (i : ℕ). StandsAt (inverse m choice).rows i (Cap a)) same (cap_stands m a (omega (arith, r.0, e))))

  pub choice_follow_found : (k q : ℕ) (o : Option ℕ) → IsFollowFound m k q o → IsPlaceIn (inverse m choice).rows (IsChoiceRow m) (Follow k q) o
  choice_follow_found k q o h =
      placed_by (inverse m choice).rows (IsChoiceRow m) (Follow k q) o ((k < length m.covers) × (q < path_count m k) → ⊥)
      (λ j. (k < length m.covers) × (q < path_count m k) × (j ≡ length m.caps + sum_below (path_count m) k + q)) h (λ none p. none p)
      (λ j r. follow_stands m k q j r.0 r.1 r.2)

  pub choice_toll_found : (a t : ℕ) (o : Option ℕ) → t ≡ length m.caps → IsNumberedFrom 0 t a o → IsPlaceIn (inverse m choice).columns (IsChoiceColumn m) (Toll a) o
  choice_toll_found a t o e h =
      placed_by (inverse m choice).columns (IsChoiceColumn m) (Toll a) o (t ≤ a) (λ j. (a < t) × (j ≡ 0 + a)) h (λ q p. omega (arith, q, p, e))
      (λ j r. let same : a ≡ j = omega (arith, r.1) in subst (λ (i : ℕ). StandsAt (inverse m choice).columns i (Toll a)) same (stands_single Toll (length m.caps) a (omega (arith, r.0, e))))
