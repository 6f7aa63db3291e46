-- A certificate of the first form, in the second form.
use Rattle.std.specs.Prelude.{◌≡◌, ℕ, List, [], ◌∷◌, ◌++◌, Ok}
use Rattle.npp_frac.specs.Rational.{Rational}
use Rattle.npp_net.specs.Network.{Network}
use Rattle.npp_tree.specs.declared.item.Item.{Item}
use Rattle.npp_tree.specs.declared.item.Item.TheVariants as item
use Rattle.npp_tree.specs.Lines.{instance_lines}
use Rattle.npp_check.specs.Measures.{Measures}
use Rattle.npp_check.specs.Verdict.{PairValue, verdict}

-- more items behind the line `opened`
abbrev pub behind_opened : List (Item Rational) → List (Item Rational) → List (Item Rational)
behind_opened more [] = []
behind_opened more (item.Opened n ∷ items) = item.Opened n ∷ (more ++ items)
behind_opened more (other ∷ items) = other ∷ behind_opened more items

-- a certificate of the first form gets the header of the second, and behind `opened` the lines that name the instance;
-- one of the second form stays
abbrev pub upgraded : Network → List (Item Rational) → List (Item Rational)
upgraded net [] = []
upgraded net (item.Header ∷ items) = item.HeaderTwo ∷ behind_opened (instance_lines net) items
upgraded net (other ∷ items) = other ∷ items

-- a pair stays the verdict, whatever the width
abbrev pub UpgradesAreAccepted : Type 0
UpgradesAreAccepted =
    (limit : ℕ) (net : Network) (f : Measures) (items : List (Item Rational)) (pair : PairValue)
    → verdict limit net f items ≡ Ok pair → verdict limit net f (upgraded net items) ≡ Ok pair
