-- The lines of a text, and the fields of a line.
use Rattle.std.specs.Prelude.{ℕ, Bool, true, false, List, [], ◌∷◌, map, filter, not, ◌==◌, ◌||◌, if◌then◌else◌}
use Rattle.std.specs.List.{slice_split}
use Rattle.std.specs.Str.Lines.{strip_carriage_return}

-- 10 is the line feed
abbrev pub is_line_feed : ℕ → Bool
is_line_feed b = b == 10

-- 32 is the space and 9 the tab
abbrev pub is_blank : ℕ → Bool
is_blank b = (b == 32) || (b == 9)

-- whether there are no bytes
abbrev pub is_empty : List ℕ → Bool
is_empty [] = true
is_empty (b ∷ bytes) = false

-- the parts, without an empty one at the end
abbrev pub without_empty_end : List (List ℕ) → List (List ℕ)
without_empty_end [] = []
without_empty_end (part ∷ []) = if is_empty part then [] else part ∷ []
without_empty_end (part ∷ next ∷ parts) = part ∷ without_empty_end (next ∷ parts)

-- the lines: the parts between line feeds, each without a carriage return at its end;
-- what stands behind the last line feed is a line only where there is anything
unfoldable pub lines_of : List ℕ → List (List ℕ)
lines_of bytes = map strip_carriage_return (without_empty_end (slice_split is_line_feed bytes))

-- the fields of a line: the parts between blanks that are not empty
unfoldable pub fields_of : List ℕ → List (List ℕ)
fields_of line = filter (λ part. not (is_empty part)) (slice_split is_blank line)
