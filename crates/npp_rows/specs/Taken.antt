-- Multipliers of named rows, taken one after the other into the sums of a program that nobody has to write.
use Rattle.std.specs.Prelude.{◌≡◌, ℕ, List, length, map, Bool, true, Option, Some, None, unwrap_or, if◌then◌else◌}
use Rattle.npp_frac.specs.Rational.{Rational, zero_ℚ, is_less}
use Rattle.npp_lp.specs.declared.multiplier.RowMultiplier.{RowMultiplier}
use Rattle.npp_lp.specs.Verdict.{or_else}
use Rattle.npp_lp.specs.RunningSums.{Sums, sums_meant, AreSumsOf}
use Rattle.npp_rows.specs.declared.names.RowName.{RowName}
use Rattle.npp_rows.specs.declared.names.Multiplier.{Multiplier}
use Rattle.npp_rows.specs.declared.multiplier_fault.MultiplierFault.{MultiplierFault}
use Rattle.npp_rows.specs.declared.multiplier_fault.MultiplierFault.TheVariants.{NoSuchRow, NotAfter, NotPositive}
use Rattle.npp_rows.specs.RowOrder.{has_row, is_before, last_of, is_behind, are_rows, are_in_order, are_positive}
use Rattle.npp_rows.specs.Places.{row_place}
use Rattle.npp_rows.specs.Named.{NamedProgram, numbered}

-- ---- one more multiplier

-- the row of the last of some multipliers
abbrev pub last_row : List (Multiplier Rational) → Option RowName
last_row ys = last_of (map (λ y. y.row) ys)

-- whether a row stands behind the last one, where there is one
abbrev pub is_after : Option RowName → RowName → Bool
is_after last r = is_behind is_before last r

-- why a multiplier cannot follow others the last of which is of this row: the first that holds
abbrev pub next_fault : List RowName → Option RowName → Multiplier Rational → Option MultiplierFault
next_fault rows last y =
    or_else (if has_row rows y.row then None else Some NoSuchRow)
    (or_else (if is_after last y.row then None else Some NotAfter)
    (if is_less zero_ℚ y.value then None else Some NotPositive))

-- ---- what is taken

-- the multiplier by the place of its row
abbrev pub placed_one : List RowName → Multiplier Rational → RowMultiplier Rational
placed_one rows y = record { row = unwrap_or (row_place rows y.row) (length rows); value = y.value }

abbrev pub placed : List RowName → List (Multiplier Rational) → List (RowMultiplier Rational)
placed rows ys = map (placed_one rows) ys

-- the row that was taken last, and the sums
pub record Taken (N : Type 0) : Type 0 where
  pub last : Option RowName
  pub sums : Sums N

-- the rows of these multipliers are added, one after the other
pub record AreAdded {N : Type 0} (value : N → Rational) (limit : ℕ) (p : NamedProgram) (ys : List (Multiplier Rational)) (t : Taken N) : Type 0 where
  pub last : t.last ≡ last_row ys
  pub sums : AreSumsOf limit (numbered p) (placed p.rows ys) (sums_meant value t.sums)

-- these multipliers of a program are taken, and no others: each of a row of the program and above 0, by rising rows
pub record AreTaken {N : Type 0} (value : N → Rational) (limit : ℕ) (p : NamedProgram) (ys : List (Multiplier Rational)) (t : Taken N) : Type 0 where
  pub rows : are_rows p.rows ys ≡ true
  pub order : are_in_order ys ≡ true
  pub positive : are_positive ys ≡ true
  pub added : AreAdded value limit p ys t
