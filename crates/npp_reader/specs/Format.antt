-- The two formats of a text: in the second the line of a toll arc has a field for its ceiling.
use Rattle.std.specs.Prelude.{ℕ, Bool, true, false, List, [], ◌∷◌, Option, Some, None, codes, if◌then◌else◌}
use Rattle.std.specs.Str.{bytes_eq}
use Rattle.npp_reader.specs.declared.format.Format.{Format}
use Rattle.npp_reader.specs.declared.format.Format.TheVariants.{One, Two}

-- the number that the header has behind `npp`
abbrev pub format_number : Format → List ℕ
format_number One = codes "1"
format_number Two = codes "2"

-- the fields of the header
abbrev pub header_fields : Format → List (List ℕ)
header_fields format = codes "npp" ∷ format_number format ∷ []

-- the format that a line names whose fields are those of a header
abbrev pub format_named : List (List ℕ) → Option Format
format_named (word ∷ number ∷ []) =
    if bytes_eq word (codes "npp")
    then (if bytes_eq number (format_number One) then Some One
    else (if bytes_eq number (format_number Two) then Some Two
    else None))
    else None
format_named fields = None

-- whether the line of a toll arc has a field for its ceiling, below this header
abbrev pub asks_ceiling : Option Format → Bool
asks_ceiling None = false
asks_ceiling (Some One) = false
asks_ceiling (Some Two) = true
