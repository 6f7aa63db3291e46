-- A line is judged by the lines above it alone, and the verdict names the first one that is broken.
use Rattle.std.specs.Prelude.{◌≡◌, ◌⊎◌, ℕ, ◌+◌, List, ◌∷◌, ◌++◌, length, Err}
use Rattle.npp_frac.specs.Rational.{Rational}
use Rattle.npp_net.specs.Network.{Network}
use Rattle.npp_tree.specs.declared.item.Item.{Item}
use Rattle.npp_check.specs.declared.refusal.Rule.{Rule}
use Rattle.npp_check.specs.declared.refusal.Rule.TheVariants.{Order}
use Rattle.npp_check.specs.declared.refusal.CheckRefusal.TheVariants.{Broken}
use Rattle.npp_check.specs.Measures.{Measures}
use Rattle.npp_check.specs.Verdict.{verdict}

-- the line behind these breaks this rule, whatever stands behind it; and so no line of these is broken
abbrev pub BreaksBehind : ℕ → Network → Measures → List (Item Rational) → Item Rational → Rule → Type 0
BreaksBehind limit net f above item rule =
    (behind : List (Item Rational)) → verdict limit net f (above ++ item ∷ behind) ≡ Err (Broken (length above + 1) rule)

-- so does the line of this number among these
pub record BreaksAt (limit : ℕ) (net : Network) (f : Measures) (items : List (Item Rational)) (line : ℕ) (rule : Rule) : Type 0 where
  pub above : List (Item Rational)
  pub item : Item Rational
  pub behind : List (Item Rational)
  pub parts : items ≡ above ++ item ∷ behind
  pub number : line ≡ length above + 1
  pub breaks : BreaksBehind limit net f above item rule

-- no line of these is broken, and the next one is missing
pub record IsMissing (items : List (Item Rational)) (line : ℕ) (rule : Rule) : Type 0 where
  pub number : line ≡ length items + 1
  pub order : rule ≡ Order

-- the first broken line
abbrev pub IsFirstBroken : ℕ → Network → Measures → List (Item Rational) → ℕ → Rule → Type 0
IsFirstBroken limit net f items line rule = BreaksAt limit net f items line rule ⊎ IsMissing items line rule
