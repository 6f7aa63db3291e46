-- The rows that derivations give, and the first fault of a derivation. Sums are formed below the size `limit`.
use Rattle.std.specs.Prelude.{ℕ, ◌+◌, List, [], ◌∷◌, ◌++◌, length, slice_index_or, Bool, true, false, not, ◌&&◌, ◌==◌, nat_lt, Option, Some, None, Result, Ok, Err, if◌then◌else◌}
use Rattle.std.specs.List.{list_all}
use Rattle.npp_frac.specs.Rational.{Rational, whole}
use Rattle.npp_frac.specs.Floor.{floor}
use Rattle.npp_lp.specs.declared.faults.FarkasFault.{FarkasFault}
use Rattle.npp_lp.specs.declared.faults.FarkasFault.TheVariants as farkas
use Rattle.npp_lp.specs.Programs.{LinearProgram}
use Rattle.npp_lp.specs.Duals.{column_sum, right_value}
use Rattle.npp_lp.specs.Checked.{checked_column, checked_right}
use Rattle.npp_lp.specs.FarkasVerdict.{farkas_verdict}
use Rattle.npp_lp.specs.Verdict.{or_else, first_below, sum_fault, unless}
use Rattle.npp_rows.specs.declared.names.ColumnName.{ColumnName}
use Rattle.npp_rows.specs.declared.names.ColumnName.TheVariants.{Toll, Share, Paid}
use Rattle.npp_rows.specs.declared.names.Multiplier.{Multiplier}
use Rattle.npp_rows.specs.declared.cut.CutTerm.{CutTerm}
use Rattle.npp_rows.specs.declared.cut.Derivation.{Derivation}
use Rattle.npp_rows.specs.declared.cut.Derivation.TheVariants.{Conflict, Pair, Round}
use Rattle.npp_rows.specs.declared.cut.CutFault.{CutFault}
use Rattle.npp_rows.specs.declared.cut.CutFault.TheVariants.{BadName, BadOrder, NotPositive, Column, NotBelowZero, NotAConflict, TollColumn, Overflow}
use Rattle.npp_rows.specs.PathModel.{PathModel, path_count}
use Rattle.npp_rows.specs.Parts.{all_paths}
use Rattle.npp_frac.specs.Sign.{is_zero}
use Rattle.npp_rows.specs.Named.{NamedProgram, numbered}
use Rattle.npp_rows.specs.RowOrder.{are_rows, are_in_order, are_positive, are_rising, multipliers_of}
use Rattle.npp_rows.specs.Cuts.{Cut, cut_at, conflict_cut, exclusion, is_conflict_with, conflict_choices}
use Rattle.npp_rows.specs.Relax.{relaxation}
use Rattle.npp_rows.specs.Inverse.{conflict_program}

-- how a row is derived
abbrev pub Derived : Type 0
Derived = Derivation Rational

-- ---- faults of names, order and sign

abbrev pub fault_if : Bool → CutFault Rational → Option (CutFault Rational)
fault_if test fault = if test then Some fault else None

-- whether a commodity has a path of this number
abbrev pub is_path : PathModel → ℕ → ℕ → Bool
is_path m k p = nat_lt k (length m.covers) && nat_lt p (path_count m k)

-- what is wrong with multipliers of a program by their names, their order or their sign
abbrev pub multipliers_fault : NamedProgram → List (Multiplier Rational) → Option (CutFault Rational)
multipliers_fault p y =
    or_else (fault_if (not (are_rows p.rows y)) BadName)
    (or_else (fault_if (not (are_in_order y)) BadOrder)
    (fault_if (not (are_positive y)) NotPositive))

-- ---- conflicts

-- multipliers that are no Farkas answer
abbrev pub farkas_cut_fault : Result (Unit {0}) (FarkasFault Rational) → Option (CutFault Rational)
farkas_cut_fault (Ok u) = None
farkas_cut_fault (Err (farkas.NegativeRow i)) = Some NotPositive
farkas_cut_fault (Err (farkas.Column j)) = Some Column
farkas_cut_fault (Err farkas.NotBelowZero) = Some NotBelowZero
farkas_cut_fault (Err (farkas.Overflow o)) = Some (Overflow o)

-- whether the sums of the multipliers prove that the program has no point
abbrev pub farkas_fault : ℕ → NamedProgram → List (Multiplier Rational) → Option (CutFault Rational)
farkas_fault limit p y = farkas_cut_fault (farkas_verdict limit (numbered p) (multipliers_of p.rows y))

abbrev pub conflict_fault : ℕ → PathModel → ℕ → ℕ → ℕ → ℕ → List (Multiplier Rational) → Option (CutFault Rational)
conflict_fault limit m k p l q y =
    or_else (fault_if (not (nat_lt k l && is_path m k p && is_path m l q)) BadName)
    (or_else (multipliers_fault (conflict_program m k p l q) y)
    (farkas_fault limit (conflict_program m k p l q) y))

-- ---- pairs

-- whether a pair names a path, another commodity and earlier cuts
abbrev pub are_pair_names : PathModel → List Cut → ℕ → ℕ → ℕ → List ℕ → Bool
are_pair_names m earlier k p l cuts =
    is_path m k p && nat_lt l (length m.covers) && not (k == l) && list_all (λ i. nat_lt i (length earlier)) cuts

-- whether there are at least two, each higher than the one before
abbrev pub are_pair_cuts : List ℕ → Bool
are_pair_cuts cuts = nat_lt 1 (length cuts) && are_rising nat_lt cuts

-- the first of the cuts that is no conflict of the path with one of commodity l
abbrev pub strange_cut : PathModel → List Cut → ℕ → ℕ → ℕ → List ℕ → Option (CutFault Rational)
strange_cut m earlier k p l [] = None
strange_cut m earlier k p l (i ∷ rest) =
    or_else (fault_if (not (is_conflict_with m k p l (cut_at earlier i))) (NotAConflict i)) (strange_cut m earlier k p l rest)

abbrev pub pair_fault : PathModel → List Cut → ℕ → ℕ → ℕ → List ℕ → Option (CutFault Rational)
pair_fault m earlier k p l cuts =
    or_else (fault_if (not (are_pair_names m earlier k p l cuts)) BadName)
    (or_else (fault_if (not (are_pair_cuts cuts)) BadOrder)
    (strange_cut m earlier k p l cuts))

-- ---- rounded combinations

-- the relaxation over all useful paths with the earlier cuts
abbrev pub whole_relaxation : PathModel → List Cut → NamedProgram
whole_relaxation m earlier = relaxation m (all_paths m) earlier

abbrev pub is_share : ColumnName → Bool
is_share (Toll a) = false
is_share (Share k p) = true
is_share (Paid a k) = false

-- the column of this number
abbrev pub column_at : List ColumnName → ℕ → ColumnName
column_at columns j = slice_index_or columns j (Toll 0)

-- a column that is no share: its sum has to fit and to be 0
abbrev pub toll_column_fault : ℕ → NamedProgram → List Rational → ℕ → Option (CutFault Rational)
toll_column_fault limit p y j =
    if is_share (column_at p.columns j) then None
    else sum_fault Overflow (λ s. fault_if (not (is_zero s)) TollColumn) (checked_column limit (numbered p) y j)

-- the column of a share: its sum has to fit
abbrev pub share_column_fault : ℕ → NamedProgram → List Rational → ℕ → Option (CutFault Rational)
share_column_fault limit p y j =
    if is_share (column_at p.columns j) then sum_fault Overflow (λ s. None) (checked_column limit (numbered p) y j) else None

-- the columns that are no shares come first, then the shares, then the right side
abbrev pub combination_fault : ℕ → NamedProgram → List Rational → Option (CutFault Rational)
combination_fault limit p y =
    or_else (first_below (length p.columns) (toll_column_fault limit p y))
    (or_else (first_below (length p.columns) (share_column_fault limit p y))
    (sum_fault Overflow (λ s. None) (checked_right limit (numbered p) y)))

abbrev pub round_fault : ℕ → NamedProgram → List (Multiplier Rational) → Option (CutFault Rational)
round_fault limit p y = or_else (multipliers_fault p y) (combination_fault limit p (multipliers_of p.rows y))

-- the greatest whole number that is not above a number
abbrev pub rounded : Rational → Rational
rounded q = whole (floor q)

-- the term at a share, and none where the value is 0
abbrev pub share_term : ColumnName → Rational → List (CutTerm Rational)
share_term (Toll a) value = []
share_term (Share k p) value = if is_zero value then [] else record { commodity = k; path = p; value = value } ∷ []
share_term (Paid a k) value = []

-- the rounded sums of the shares among columns the first of which has number j
abbrev pub rounded_terms : LinearProgram → List Rational → ℕ → List ColumnName → List (CutTerm Rational)
rounded_terms p y j [] = []
rounded_terms p y j (c ∷ rest) = share_term c (rounded (column_sum p y j)) ++ rounded_terms p y (j + 1) rest

-- the combination of rows with each coefficient and the right side rounded down
abbrev pub round_cut : NamedProgram → List Rational → Cut
round_cut p y = record { terms = rounded_terms (numbered p) y 0 p.columns; right = rounded (right_value (numbered p) y) }

-- ---- all derivations

-- the first fault of a derivation after some cuts
abbrev pub derivation_fault : ℕ → PathModel → List Cut → Derived → Option (CutFault Rational)
derivation_fault limit m earlier (Conflict k p l q y) = conflict_fault limit m k p l q y
derivation_fault limit m earlier (Pair k p l cuts) = pair_fault m earlier k p l cuts
derivation_fault limit m earlier (Round y) = round_fault limit (whole_relaxation m earlier) y

-- the row that it gives
abbrev pub derived_cut : PathModel → List Cut → Derived → Cut
derived_cut m earlier (Conflict k p l q y) = conflict_cut k p l q
derived_cut m earlier (Pair k p l cuts) = exclusion k p l (conflict_choices m earlier k p l cuts)
derived_cut m earlier (Round y) = round_cut (whole_relaxation m earlier) (multipliers_of (whole_relaxation m earlier).rows y)

-- the row, or else the first fault
abbrev pub derivation_verdict : ℕ → PathModel → List Cut → Derived → Result Cut (CutFault Rational)
derivation_verdict limit m earlier d = unless (derivation_fault limit m earlier d) (Ok (derived_cut m earlier d))
