-- A linear program over numbers of a type, as the code writes it.
use Rattle.std.specs.Prelude.{ℕ, ◌≤◌, List, [], ◌∷◌, map, All}
use Rattle.std.specs.List.{slice_range}
use Rattle.npp_lp.specs.declared.program.Entry.{Entry}
use Rattle.npp_lp.specs.declared.program.Span.{Span}

-- a row with its right side
pub record RowOver (N : Type 0) : Type 0 where
  pub entries : List (Entry N)
  pub right : N

pub record ProgramOver (N : Type 0) : Type 0 where
  pub columns : ℕ
  pub rows : List (RowOver N)
  pub goal : List N

-- the entries of each row
abbrev pub lists_of : {N : Type 0} → ProgramOver N → List (List (Entry N))
lists_of p = map (λ r. r.entries) p.rows

-- the right side of each row
abbrev pub rights_of : {N : Type 0} → ProgramOver N → List N
rights_of p = map (λ r. r.right) p.rows

-- the entries of a row, of those of all rows
abbrev pub spanned : {N : Type 0} → List (Entry N) → Span → List (Entry N)
spanned entries s = slice_range entries s.start s.end

-- each row with its right side, of two lists of one length
abbrev pub written_rows : {N : Type 0} → List (Entry N) → List Span → List N → List (RowOver N)
written_rows entries [] right = []
written_rows entries (s ∷ ss) [] = []
written_rows entries (s ∷ ss) (b ∷ bs) = record { entries = spanned entries s; right = b } ∷ written_rows entries ss bs

-- each row stands among the first n entries
abbrev pub AreSpans : ℕ → List Span → Type 0
AreSpans n spans = All (λ s. (s.start ≤ s.end) × (s.end ≤ n)) spans
