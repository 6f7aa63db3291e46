-- What the steps of reading keep.
use Rattle.std.specs.Prelude.{ℕ, ◌≤◌, length, All, ⊤}
use Rattle.npp_net.specs.Network.{IsArc, IsCommodity, toll_count}
use Rattle.npp_reader.specs.declared.kind.LineKind.{LineKind}
use Rattle.npp_reader.specs.declared.refusal.Fault.{Fault}
use Rattle.npp_reader.specs.declared.refusal.Fault.TheVariants.{Kind, Memory}
use Rattle.npp_reader.specs.declared.refusal.ReadRefusal.{ReadRefusal}
use Rattle.npp_reader.specs.declared.refusal.ReadRefusal.TheVariants.{Line}
use Rattle.npp_reader.specs.declared.refusal.ReadRefusal.TheVariants as refused
use Rattle.npp_reader.specs.Grammar.{Declared}

-- a fact of the kind, where the fault is not want of memory
abbrev pub IfKind : (LineKind → Type 0) → Fault → Type 0
IfKind P (Kind kind) = P kind
IfKind P Memory = ⊤

-- the refusal of a fault at the line of this number
abbrev pub refusal_at : ℕ → Fault → ReadRefusal
refusal_at number (Kind kind) = Line number kind
refusal_at number Memory = refused.Memory

-- what is declared keeps the limits of an instance, but for the least number of commodities
pub record IsWithin (all : Declared) : Type 0 where
  pub nodes : length all.names ≤ 1000
  pub arcs : length all.arcs ≤ 5000
  pub tolls : toll_count all.arcs ≤ 128
  pub commodities : length all.commodities ≤ 100
  pub each_arc : All (IsArc (length all.names)) all.arcs
  pub each_commodity : All (IsCommodity (length all.names)) all.commodities
