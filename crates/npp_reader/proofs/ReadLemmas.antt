-- Reading a text line by line.
use Rattle.std.proofs.Common.{◌≡◌, ◌⊎◌, inl, inr, ℕ, ◌+◌, List, [], ◌∷◌, length, Result, Ok, Err, refl, sym, arith}
use Rattle.std.proofs.lemmas.List.Elements.{All-nil}
use Rattle.npp_net.specs.Network.{IsArc, IsCommodity}
use Rattle.npp_reader.specs.declared.kind.LineKind.{LineKind}
use Rattle.npp_reader.specs.declared.document.Document.{Document}
use Rattle.npp_reader.specs.declared.refusal.ReadRefusal.{ReadRefusal}
use Rattle.npp_reader.specs.declared.refusal.ReadRefusal.TheVariants.{Line, Memory}
use Rattle.npp_reader.specs.declared.refusal.Fault.{Fault}
use Rattle.npp_reader.specs.declared.refusal.Fault.TheVariants.{Kind}
use Rattle.npp_reader.specs.declared.refusal.Fault.TheVariants as wanted
use Rattle.npp_reader.specs.Lines.{lines_of}
use Rattle.npp_reader.specs.Grammar.{Declared, nothing, after_line}
use Rattle.npp_reader.specs.Reading.{reading_from, reading_of, at_end}
use Rattle.npp_reader.specs.Taking.{IsWithin, IfKind, refusal_at}

pub nothing_within : IsWithin nothing
nothing_within = record {
  nodes = omega arith;
  arcs = omega arith;
  tolls = omega arith;
  commodities = omega arith;
  each_arc = All-nil (IsArc 0);
  each_commodity = All-nil (IsCommodity 0);
}

pub reading_begins : (bytes : List ℕ) → reading_from 1 nothing (lines_of bytes) ≡ reading_of bytes
unfolding reading_of
reading_begins bytes = refl

module _ (number : ℕ) (above : Declared) (line : List ℕ) (lines : List (List ℕ)) where
  pub reading_step : (next : Declared) → after_line above line ≡ Ok next → reading_from number above (line ∷ lines) ≡ reading_from (number + 1) next lines
  reading_step next e = rw e

  pub reading_fault : (kind : LineKind) → after_line above line ≡ Err kind → reading_from number above (line ∷ lines) ≡ Err (Line number kind)
  reading_fault kind e = rw e

pub no_lines : lines_of [] ≡ []
unfolding lines_of
no_lines = refl

pub reading_ends : (number : ℕ) (above : Declared) (document : Document) → at_end above ≡ Ok document → reading_from number above (lines_of []) ≡ Ok document
reading_ends number above document e = rw (no_lines, e)

pub reading_lacks : (number : ℕ) (above : Declared) (kind : LineKind) → at_end above ≡ Err kind → reading_from number above (lines_of []) ≡ Err (Line number kind)
reading_lacks number above kind e = rw (no_lines, e)

-- no bytes are left
pub none_left : (bytes : List ℕ) → length bytes ≡ 0 → bytes ≡ []
none_left [] e = refl
none_left (b ∷ bytes) e = absurd (omega arith)

-- want of memory may stand in the place of the answer
abbrev pub IsAnswer : Result Document ReadRefusal → Result Document ReadRefusal → Type 0
IsAnswer result answer = (result ≡ Err Memory) ⊎ (result ≡ answer)

-- the refusal of a line
pub refused_line : (number : ℕ) (above : Declared) (line : List ℕ) (lines : List (List ℕ)) (fault : Fault)
    → IfKind (λ kind. after_line above line ≡ Err kind) fault
    → IsAnswer (Err (refusal_at number fault)) (reading_from number above (line ∷ lines))
refused_line number above line lines (Kind kind) e = inr (sym (reading_fault number above line lines kind e))
refused_line number above line lines wanted.Memory e = inl refl

-- the refusal of the end
pub refused_end : (number : ℕ) (above : Declared) (fault : Fault) → IfKind (λ kind. at_end above ≡ Err kind) fault
    → IsAnswer (Err (refusal_at number fault)) (reading_from number above (lines_of []))
refused_end number above (Kind kind) e = inr (sym (reading_lacks number above kind e))
refused_end number above wanted.Memory e = inl refl
