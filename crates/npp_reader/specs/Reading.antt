-- What the bytes of a text stand for.
use Rattle.std.specs.Prelude.{ℕ, ◌+◌, List, [], ◌∷◌, length, is_some, Result, Ok, Err, not, ◌==◌}
use Rattle.npp_reader.specs.declared.kind.LineKind.{LineKind}
use Rattle.npp_reader.specs.declared.kind.LineKind.TheVariants.{Header, NoCommodity}
use Rattle.npp_reader.specs.declared.document.Document.{Document}
use Rattle.npp_reader.specs.declared.refusal.ReadRefusal.{ReadRefusal}
use Rattle.npp_reader.specs.declared.refusal.ReadRefusal.TheVariants.{Line}
use Rattle.npp_reader.specs.Lines.{lines_of}
use Rattle.npp_reader.specs.Grammar.{Declared, nothing, judged, after_line}

-- the document that is declared
abbrev pub document_of : Declared → Document
document_of all = record { names = all.names; instance = record { nodes = length all.names; arcs = all.arcs; commodities = all.commodities } }

-- the end of a text has to stand below the header and a commodity
unfoldable pub at_end : Declared → Result Document LineKind
at_end all = judged
    ((not (is_some all.format), Header)
    ∷ (length all.commodities == 0, NoCommodity)
    ∷ [])
    (document_of all)

-- what follows from the value, where there is one, and else a refusal of the line of this number
abbrev pub at_line : {X Y : Type 0} → ℕ → Result X LineKind → (X → Result Y ReadRefusal) → Result Y ReadRefusal
at_line number (Ok x) next = next x
at_line number (Err kind) next = Err (Line number kind)

-- the lines from this number on, below what is declared above them: the first fault decides
abbrev pub reading_from : ℕ → Declared → List (List ℕ) → Result Document ReadRefusal
reading_from number above [] = at_line number (at_end above) (λ document. Ok document)
reading_from number above (line ∷ lines) = at_line number (after_line above line) (λ next. reading_from (number + 1) next lines)

-- the document that the bytes stand for, or their first faulty line with its first kind
unfoldable pub reading_of : List ℕ → Result Document ReadRefusal
reading_of bytes = reading_from 1 nothing (lines_of bytes)
