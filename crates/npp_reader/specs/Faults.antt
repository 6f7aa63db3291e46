-- The first faulty line of a text: the least line with a fault, judged by what the lines above it declare.
use Rattle.std.specs.Prelude.{◌≡◌, ℕ, ◌+◌, ◌<◌, Bool, false, not, List, [], ◌∷◌, map, take, drop, length, Option, Some, None, ◌==◌, slice_index, if◌then◌else◌}
use Rattle.std.specs.List.{filter_map}
use Rattle.std.specs.Result.{result_err}
use Rattle.npp_reader.specs.declared.kind.LineKind.{LineKind}
use Rattle.npp_reader.specs.declared.refusal.ReadRefusal.{ReadRefusal}
use Rattle.npp_reader.specs.declared.refusal.ReadRefusal.TheVariants.{Line, Memory}
use Rattle.npp_reader.specs.declared.format.Format.{Format}
use Rattle.npp_reader.specs.Lines.{lines_of, fields_of}
use Rattle.npp_reader.specs.Format.{format_named}
use Rattle.npp_reader.specs.Grammar.{Declared, after_line}
use Rattle.npp_reader.specs.Reading.{at_end}
use Rattle.npp_reader.specs.Declaring.{name_declared, arc_declared, pair_declared}

-- whether a line is not skipped
abbrev pub is_said : List (List ℕ) → Bool
is_said [] = false
is_said (word ∷ fields) = not (slice_index word 0 == 35)

-- the format that the first of these lines names that is not skipped
abbrev pub format_declared : List (List (List ℕ)) → Option Format
format_declared [] = None
format_declared (line ∷ lines) = if is_said line then format_named line else format_declared lines

-- what these lines declare, each by itself
abbrev pub declared_by : List (List (List ℕ)) → Declared
declared_by lines = record {
  format = format_declared lines;
  names = filter_map name_declared lines;
  arcs = filter_map (arc_declared (filter_map name_declared lines)) lines;
  commodities = filter_map (pair_declared (filter_map name_declared lines)) lines;
}

-- the kind of fault of the first of these lines, or of the end where there is none
abbrev pub kind_below : Declared → List (List ℕ) → Option LineKind
kind_below above [] = result_err (at_end above)
kind_below above (line ∷ lines) = result_err (after_line above line)

-- the kind of fault at this place, from 0, of a line or of the end behind the last line
abbrev pub kind_at : List (List ℕ) → ℕ → Option LineKind
kind_at lines place = kind_below (declared_by (map fields_of (take place lines))) (drop place lines)

-- no place above this one has a fault
abbrev pub NoneAbove : List (List ℕ) → ℕ → Type 0
NoneAbove lines place = (k : ℕ) → k < place → kind_at lines k ≡ None

-- the line of this number has this kind of fault, and none above it has a fault
pub record IsFirstFault (lines : List (List ℕ)) (number : ℕ) (kind : LineKind) : Type 0 where
  pub place : ℕ
  pub from_one : place + 1 ≡ number
  pub fault : kind_at lines place ≡ Some kind
  pub first : NoneAbove lines place

-- no line has a fault, nor has the end
abbrev pub IsAccepted : List ℕ → Type 0
IsAccepted bytes = NoneAbove (lines_of bytes) (length (lines_of bytes) + 1)

-- a refused line is the first faulty one
abbrev pub IsRefused : List ℕ → ReadRefusal → Type 0
IsRefused bytes (Line number kind) = IsFirstFault (lines_of bytes) number kind
IsRefused bytes Memory = Unit {0}
