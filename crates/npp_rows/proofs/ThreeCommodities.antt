-- Three commodities that share one toll arc, which costs 2; without it they pay 10, 8 and 5. What is seen of their rows.
use Rattle.std.specs.Prelude.{ℕ, List, [], ◌∷◌, map, Bool, true, false, Option, Some, None, Result, Ok, Err, ℤ, ◌==◌}
use Rattle.std.specs.List.{list_all}
use Rattle.npp_frac.specs.Rational.{Rational}
use Rattle.npp_net.specs.declared.types.NetArc.{NetArc}
use Rattle.npp_net.specs.declared.types.Commodity.{Commodity}
use Rattle.npp_net.specs.Network.{Network}
use Rattle.npp_lp.specs.Programs.{Row}
use Rattle.npp_lp.specs.declared.faults.DualFault.{DualFault}
use Rattle.npp_lp.specs.declared.faults.DualFault.TheVariants as dual
use Rattle.npp_cover.specs.Replaces.{CoverValue}
use Rattle.npp_rows.specs.declared.names.RowName.{RowName}
use Rattle.npp_rows.specs.declared.names.Multiplier.{Multiplier}
use Rattle.npp_rows.specs.declared.cut.CutFault.{CutFault}
use Rattle.npp_rows.specs.declared.cut.CutFault.TheVariants as fault
use Rattle.npp_rows.specs.PathModel.{PathModel}
use Rattle.npp_rows.specs.Caps.{path_model}
use Rattle.npp_rows.specs.Cuts.{Cut as CutRow}

-- ---- rows and numbers as whole numbers, which can be compared by computing

abbrev pub pair_of : Rational → ℤ × ℕ
pair_of q = (q.num, q.den)

-- the columns of a row with their coefficients, and its right side
abbrev pub seen_row : Row → List (ℕ × ℤ) × ℤ
seen_row r = (map (λ t. (t.column, t.value.num)) r.terms, r.right.num)

abbrev pub is_whole_row : Row → Bool
is_whole_row r = list_all (λ q. q.den == 1) (r.right ∷ map (λ t. t.value) r.terms)

-- what a check of a dual answer found, and nothing where it found a fault
abbrev pub dual_seen : Result Rational (DualFault Rational) → List (ℤ × ℕ)
dual_seen (Ok v) = pair_of v ∷ []
dual_seen (Err f) = []

-- the column at which a check of a dual answer stopped
abbrev pub dual_verdict_column : Result Rational (DualFault Rational) → Option ℕ
dual_verdict_column (Ok v) = None
dual_verdict_column (Err (dual.NegativeRow i)) = None
dual_verdict_column (Err (dual.Column j)) = Some j
dual_verdict_column (Err (dual.Overflow o)) = None

-- a row over shares: commodities, paths and coefficients
abbrev pub cut_seen : CutRow → List (ℕ × ℕ × ℤ) × ℤ
cut_seen c = (map (λ t. (t.commodity, t.path, t.value.num)) c.terms, c.right.num)

pub data Seen : Type 0 where
  Gives : List (ℕ × ℕ × ℤ) × ℤ → Seen
  IsBadName : Seen
  IsBadOrder : Seen
  IsNotPositive : Seen
  IsBelowZero : Seen
  IsNotBelowZero : Seen
  IsNoConflict : ℕ → Seen
  HasToll : Seen
  DoesNotFit : Seen

abbrev pub fault_seen : CutFault Rational → Seen
fault_seen fault.BadName = IsBadName
fault_seen fault.BadOrder = IsBadOrder
fault_seen fault.NotPositive = IsNotPositive
fault_seen fault.Column = IsBelowZero
fault_seen fault.NotBelowZero = IsNotBelowZero
fault_seen (fault.NotAConflict i) = IsNoConflict i
fault_seen fault.TollColumn = HasToll
fault_seen (fault.Overflow o) = DoesNotFit
fault_seen fault.Memory = DoesNotFit

abbrev pub seen : Result CutRow (CutFault Rational) → Seen
seen (Ok c) = Gives (cut_seen c)
seen (Err f) = fault_seen f

-- ---- the instance

abbrev pub toll_arc : ℕ → ℕ → ℕ → NetArc
toll_arc u v cost = record { tail = record { 0 = u }; head = record { 0 = v }; cost = cost; toll = true; ceiling = None }

abbrev pub free_arc : ℕ → ℕ → ℕ → NetArc
free_arc u v cost = record { tail = record { 0 = u }; head = record { 0 = v }; cost = cost; toll = false; ceiling = None }

abbrev pub travellers : ℕ → ℕ → ℕ → Commodity
travellers u v demand = record { origin = record { 0 = u }; destination = record { 0 = v }; demand = demand }

-- with this ceiling on the toll arc
abbrev pub three_within : Option ℕ → Network
three_within ceiling = record {
  nodes = 5;
  arcs = record (toll_arc 0 1 2) { ceiling = ceiling } ∷ free_arc 2 0 0 ∷ free_arc 2 1 10 ∷ free_arc 3 0 0 ∷ free_arc 3 1 8 ∷ free_arc 4 0 0 ∷ free_arc 4 1 5 ∷ [];
  commodities = travellers 2 1 1 ∷ travellers 3 1 1 ∷ travellers 4 1 3 ∷ [];
}

abbrev pub three : Network
three = three_within None

-- by the toll arc, and without it
abbrev pub two_ways : ℕ → ℕ → ℕ → CoverValue
two_ways to_toll free_way free = record {
  labels = [];
  paths = record { tolls = 1; cost = 2; arcs = record { 0 = to_toll } ∷ record { 0 = 0 } ∷ [] } ∷ record { tolls = 0; cost = free; arcs = record { 0 = free_way } ∷ [] } ∷ [];
  free = free;
}

abbrev pub three_covers : List CoverValue
three_covers = two_ways 1 2 10 ∷ two_ways 3 4 8 ∷ two_ways 5 6 5 ∷ []

abbrev pub three_model : PathModel
three_model = path_model three three_covers

abbrev pub times : RowName → Rational → Multiplier Rational
times r q = record { row = r; value = q }
