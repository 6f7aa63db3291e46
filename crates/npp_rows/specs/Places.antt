-- Names as numbers: the place of a row among the rows of a program, and of a column among its columns.
use Rattle.std.specs.Prelude.{◌≡◌, ℕ, ◌<◌, List, length, slice_index_or, Bool, Option, MatchOption}
use Rattle.std.specs.List.{position_from}
use Rattle.npp_rows.specs.declared.names.RowName.{RowName}
use Rattle.npp_rows.specs.declared.names.ColumnName.{ColumnName}
use Rattle.npp_rows.specs.declared.names.ColumnName.TheVariants.{Toll, Share, Paid}
use Rattle.npp_rows.specs.RowOrder.{is_same_row, is_key_same}

-- the kind of a column, its commodity, and its toll or path
abbrev pub column_key : ColumnName → ℕ × ℕ × ℕ
column_key (Toll a) = (0, 0, a)
column_key (Share k p) = (1, k, p)
column_key (Paid a k) = (2, k, a)

abbrev pub is_same_column : ColumnName → ColumnName → Bool
is_same_column c d = is_key_same (column_key c) (column_key d)

-- the number of a row among these rows, where it is one of them
abbrev pub row_place : List RowName → RowName → Option ℕ
row_place rows r = position_from (is_same_row r) 0 rows

-- the number of a column among these columns, where it is one of them
abbrev pub column_place : List ColumnName → ColumnName → Option ℕ
column_place columns c = position_from (is_same_column c) 0 columns

-- x stands at this place of a list
pub record StandsAt {X : Type 0} (xs : List X) (i : ℕ) (x : X) : Type 0 where
  pub within : i < length xs
  pub is : slice_index_or xs i x ≡ x

-- the place of x in a list of all that have a property, and none where x has it not
abbrev pub IsPlaceIn : {X : Type 0} → List X → (X → Type 0) → X → Option ℕ → Type 0
IsPlaceIn xs P x place = MatchOption place (P x → ⊥) (λ i. StandsAt xs i x)
