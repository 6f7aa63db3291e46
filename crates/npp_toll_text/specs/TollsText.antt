-- The tolls text: a header, and a line for each toll arc.
use Rattle.std.specs.Prelude.{◌≡◌, ℕ, ◌+◌, List, [], ◌∷◌, ◌++◌, length, codes}
use Rattle.std.specs.List.{concat}
use Rattle.std.specs.Fmt.{decimal}
use Rattle.npp_frac.specs.Rational.{Rational}
use Rattle.npp_frac.specs.FractionText.{fraction_text}
use Rattle.npp_net.specs.declared.types.NetArc.{NetArc}
use Rattle.npp_net.specs.Network.{toll_count}
use Rattle.npp_toll_text.specs.Allowed.{AreTolls}

-- a text and its line feed
abbrev pub line : List ℕ → List ℕ
line text = text ++ 10 ∷ []

abbrev pub header : List ℕ
header = line (codes "npp-tolls 1")

-- the line of the toll of this number
abbrev pub toll_line : ℕ → Rational → List ℕ
toll_line number toll = line (codes "toll " ++ decimal number ++ 32 ∷ fraction_text toll)

-- the lines of some tolls, the first of which has this number
abbrev pub toll_lines : ℕ → List Rational → List (List ℕ)
toll_lines number [] = []
toll_lines number (toll ∷ tolls) = toll_line number toll ∷ toll_lines (number + 1) tolls

-- the lines of the text, one after another
abbrev pub tolls_text : List Rational → List ℕ
tolls_text tolls = concat (header ∷ toll_lines 0 tolls)

-- the bytes are the text of these tolls: one for each toll arc, and each may be set
pub record IsTollsText (arcs : List NetArc) (bytes : List ℕ) (tolls : List Rational) : Type 0 where
  pub count : length tolls ≡ toll_count arcs
  pub allowed : AreTolls arcs tolls
  pub text : bytes ≡ tolls_text tolls
