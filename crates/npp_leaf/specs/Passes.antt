-- What the evidence of a node proves.
use Rattle.std.specs.Prelude.{◌≡◌, ℕ, List, Option, Some, None, Ok, IfSome}
use Rattle.npp_frac.specs.Rational.{Rational}
use Rattle.npp_lp.specs.Programs.{LinearProgram, IsInfeasible, IsOptimum}
use Rattle.npp_lp.specs.DualVerdict.{dual_verdict}
use Rattle.npp_lp.specs.FarkasVerdict.{farkas_verdict}
use Rattle.npp_net.specs.Network.{Network}
use Rattle.npp_net.specs.Toll.{TollVector}
use Rattle.npp_rows.specs.declared.names.Multiplier.{Multiplier}
use Rattle.npp_rows.specs.PathModel.{PathModel}
use Rattle.npp_rows.specs.Named.{NamedProgram, numbered}
use Rattle.npp_rows.specs.RowOrder.{multipliers_of}
use Rattle.npp_rows.specs.Cuts.{Cut}
use Rattle.npp_rows.specs.Derivations.{multipliers_fault}
use Rattle.npp_rows.specs.Piece.{IsInPiece, AreValidCuts, earned}
use Rattle.npp_tree.specs.declared.node.Evidence.{Evidence}
use Rattle.npp_tree.specs.declared.node.Evidence.TheVariants.{Unopened, Basic, Dual, Farkas, Inverse, NoInverse}
use Rattle.npp_tree.specs.Bounds.{BoundValue, Empty, At, IsWithin}
use Rattle.npp_tree.specs.Family.{Family}

-- the multipliers are above 0, of rows that the program has, in their order; and with 0 for every other row they pass the
-- check of a dual answer below the limit, with this value
pub record PassesAsDual (limit : ℕ) (p : NamedProgram) (ys : List (Multiplier Rational)) (v : Rational) : Type 0 where
  pub listed : multipliers_fault p ys ≡ None
  pub checked : dual_verdict limit (numbered p) (multipliers_of p.rows ys) ≡ Ok v

-- the same of a Farkas answer
pub record PassesAsFarkas (limit : ℕ) (p : NamedProgram) (ys : List (Multiplier Rational)) : Type 0 where
  pub listed : multipliers_fault p ys ≡ None
  pub checked : farkas_verdict limit (numbered p) (multipliers_of p.rows ys) ≡ Ok tt

-- a number that a dual answer gives
abbrev pub HasDualValue : ℕ → NamedProgram → List (Multiplier Rational) → Option BoundValue → Type 0
HasDualValue limit p ys value = (v : Rational) × (value ≡ Some (At v)) × PassesAsDual limit p ys v

-- Empty, by a Farkas answer
abbrev pub HasNoValue : ℕ → NamedProgram → List (Multiplier Rational) → Option BoundValue → Type 0
HasNoValue limit p ys value = (value ≡ Some Empty) × PassesAsFarkas limit p ys

-- the evidence of an opened node passes the check of its block, with this value: a mark needs no proof and has none
abbrev pub Passes : ℕ → NamedProgram → Evidence Rational → Option BoundValue → Type 0
Passes limit p Unopened value = ⊥
Passes limit p (Basic mark) value = value ≡ None
Passes limit p (Dual ys) value = HasDualValue limit p ys value
Passes limit p (Farkas ys) value = HasNoValue limit p ys value
Passes limit p (Inverse ys) value = HasDualValue limit p ys value
Passes limit p (NoInverse ys) value = HasNoValue limit p ys value

-- the optimum of a program as a bound: Empty where it has no point
abbrev pub IsOptimal : LinearProgram → BoundValue → Type 0
IsOptimal p Empty = IsInfeasible p
IsOptimal p (At v) = IsOptimum p v

-- no outcome of the piece earns more than the bound; where it is Empty there is none
abbrev pub BoundsPiece : Network → PathModel → Family → BoundValue → Type 0
BoundsPiece net m parts bound = (t : TollVector) (choice : List ℕ) → IsInPiece net m parts t choice → IsWithin (earned net m t choice) bound

-- where each outcome meets the cuts, a value bounds the piece
abbrev pub BoundsWithCuts : Network → PathModel → List Cut → Family → Option BoundValue → Type 0
BoundsWithCuts net m cuts parts value = AreValidCuts net m cuts → IfSome value (BoundsPiece net m parts)
