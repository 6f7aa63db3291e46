-- What `bounds` prints.
use Rattle.std.specs.Prelude.{ℕ, List, ◌∷◌, ◌++◌, codes}
use Rattle.std.specs.Fmt.{decimal}
use Rattle.npp_net.specs.declared.types.Span.{Span}
use Rattle.npp_report.specs.Lines.{line, numbered_lines}

-- the least costs of commodity k: of a toll-free walk, and of any walk at zero tolls
abbrev pub span_line : ℕ → Span → List ℕ
span_line k span = line (codes "span " ++ decimal k ++ 32 ∷ decimal span.free ++ 32 ∷ decimal span.zero)

-- a line for each commodity, and the basic bound
abbrev pub spans_text : List Span → ℕ → List ℕ
spans_text spans bound = numbered_lines span_line 0 spans ++ line (codes "basic " ++ decimal bound)
