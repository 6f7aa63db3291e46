-- The lines of a text, each with the item that it says.
use Rattle.std.specs.Prelude.{ℕ, ◌==◌, Bool, List, [], ◌∷◌, Option, None}
use Rattle.std.specs.List.{slice_split}
use Rattle.npp_frac.specs.Rational.{Rational}
use Rattle.npp_tree.specs.declared.item.Item.{Item}
use Rattle.npp_cert_text.specs.Reading.{item_in}

-- 10 is the line feed
abbrev pub is_line_feed : ℕ → Bool
is_line_feed b = b == 10

-- bytes behind the last line feed are a line that says nothing
abbrev pub unended : List ℕ → List (Option (Item Rational))
unended [] = []
unended (b ∷ bytes) = None ∷ []

-- each line that ends with a line feed says the item that it is the line of, or nothing
abbrev pub lines_said : List (List ℕ) → List (Option (Item Rational))
lines_said [] = []
lines_said (last ∷ []) = unended last
lines_said (line ∷ next ∷ parts) = item_in line ∷ lines_said (next ∷ parts)

-- what the lines of a text say, in order
unfoldable pub text_items : List ℕ → List (Option (Item Rational))
text_items bytes = lines_said (slice_split is_line_feed bytes)
