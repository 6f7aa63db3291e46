-- Which rows a relaxation has, kind by kind.
use Rattle.std.specs.Prelude.{◌≡◌, ◌⊎◌, ℕ, ◌+◌, ◌*◌, ◌<◌, List, [], ◌∷◌, ◌++◌, length, slice_index, slice_index_or, Contains}
use Rattle.npp_frac.specs.Rational.{Rational}
use Rattle.npp_lp.specs.Programs.{Term}
use Rattle.npp_cover.specs.Replaces.{sum_below}
use Rattle.npp_rows.specs.Family.{share_count, paid_count}
use Rattle.npp_rows.specs.declared.names.RowName.{RowName}
use Rattle.npp_rows.specs.declared.names.RowName.TheVariants.{Cap, Follow, Below, Use, Link, One, OneLow, Cut}
use Rattle.npp_rows.specs.declared.cut.CutTerm.{CutTerm}
use Rattle.npp_rows.specs.Parts.{part_at}
use Rattle.npp_rows.specs.declared.names.ColumnName.{ColumnName}
use Rattle.npp_rows.specs.declared.names.ColumnName.TheVariants.{Toll, Share, Paid}
use Rattle.npp_rows.specs.PathModel.{PathModel, path_count}
use Rattle.npp_rows.specs.Relax.{allowed_tolls}

-- a toll that allowed paths of a commodity use
pub record IsPaidOn (m : PathModel) (parts : List (List ℕ)) (a k : ℕ) : Type 0 where
  pub commodity : k < length m.covers
  pub used : Contains (allowed_tolls m parts k) a

-- the relaxation with so many cuts has this row
abbrev pub IsRow : PathModel → List (List ℕ) → ℕ → RowName → Type 0
IsRow m parts cuts (Cap a) = a < length m.caps
IsRow m parts cuts (Follow k q) = (k < length m.covers) × (q < path_count m k)
IsRow m parts cuts (Below a k) = IsPaidOn m parts a k
IsRow m parts cuts (Use a k) = IsPaidOn m parts a k
IsRow m parts cuts (Link a k) = IsPaidOn m parts a k
IsRow m parts cuts (One k) = k < length m.covers
IsRow m parts cuts (OneLow k) = k < length m.covers
IsRow m parts cuts (Cut i) = i < cuts

-- the number of the first share of a commodity, after the tolls and the shares of the commodities below it
abbrev pub shares_from : PathModel → List (List ℕ) → ℕ → ℕ
shares_from m parts k = length m.caps + sum_below (share_count parts) k

-- the number of the first column of what a commodity pays, after all shares
abbrev pub paid_from : PathModel → List (List ℕ) → ℕ → ℕ
paid_from m parts k = shares_from m parts (length m.covers) + sum_below (paid_count m parts) k

-- a term of a cut row is written where its path is allowed, and else nothing is
abbrev pub IsShareWritten : PathModel → List (List ℕ) → CutTerm Rational → List Term → List Term → Type 0
IsShareWritten m parts t old new =
    ((i : ℕ) × (i < length (part_at parts t.commodity)) × (slice_index_or (part_at parts t.commodity) i t.path ≡ t.path)
    × (new ≡ old ++ record { column = shares_from m parts t.commodity + i; value = t.value } ∷ []))
    ⊎ ((Contains (part_at parts t.commodity) t.path → ⊥) × (new ≡ old))

-- the relaxation has this column
abbrev pub HasColumn : PathModel → List (List ℕ) → ColumnName → Type 0
HasColumn m parts (Toll a) = a < length m.caps
HasColumn m parts (Share k p) = (k < length m.covers) × Contains (part_at parts k) p
HasColumn m parts (Paid a k) = IsPaidOn m parts a k

-- the number of the first row of a kind of rows of a toll and a commodity: those of the caps and of all paths stand before
-- them, and so many other such kinds
abbrev pub pairs_from : PathModel → List (List ℕ) → ℕ → ℕ
pairs_from m parts kinds = length m.caps + sum_below (path_count m) (length m.covers) + kinds * sum_below (paid_count m parts) (length m.covers)

-- a row of the inverse program of a choice
abbrev pub IsChoiceRow : PathModel → RowName → Type 0
IsChoiceRow m (Cap a) = a < length m.caps
IsChoiceRow m (Follow k q) = (k < length m.covers) × (q < path_count m k)
IsChoiceRow m (Below a k) = ⊥
IsChoiceRow m (Use a k) = ⊥
IsChoiceRow m (Link a k) = ⊥
IsChoiceRow m (One k) = ⊥
IsChoiceRow m (OneLow k) = ⊥
IsChoiceRow m (Cut i) = ⊥

-- a column of the inverse program of a choice
abbrev pub IsChoiceColumn : PathModel → ColumnName → Type 0
IsChoiceColumn m (Toll a) = a < length m.caps
IsChoiceColumn m (Share k p) = ⊥
IsChoiceColumn m (Paid a k) = ⊥

-- a row of the program of a conflict of paths of two commodities
abbrev pub IsConflictRow : PathModel → ℕ → ℕ → RowName → Type 0
IsConflictRow m k l (Cap a) = a < length m.caps
IsConflictRow m k l (Follow c r) = (c < length m.covers) × ((c ≡ k) ⊎ (c ≡ l)) × (r < path_count m c)
IsConflictRow m k l (Below a c) = ⊥
IsConflictRow m k l (Use a c) = ⊥
IsConflictRow m k l (Link a c) = ⊥
IsConflictRow m k l (One c) = ⊥
IsConflictRow m k l (OneLow c) = ⊥
IsConflictRow m k l (Cut i) = ⊥

-- a useful path of each commodity
pub record IsChoice (m : PathModel) (choice : List ℕ) : Type 0 where
  pub size : length choice ≡ length m.covers
  pub each : (k : ℕ) → k < length m.covers → slice_index choice k < path_count m k
