-- What is printed for the text of a certificate that is accepted.
use Rattle.std.specs.Prelude.{◌≡◌, ℕ, ⊤, List, ◌∷◌}
use Rattle.npp_frac.specs.Rational.{Rational}
use Rattle.npp_net.specs.Network.{Network}
use Rattle.npp_tree.specs.declared.item.Item.{Item}
use Rattle.npp_tree.specs.declared.item.Item.TheVariants as item
use Rattle.npp_check.specs.Verdict.{PairValue}
use Rattle.npp_stream.specs.TextVerdicts.{IsAcceptedText}
use Rattle.npp_upgrade.specs.Upgraded.{upgraded}

-- the second form stands
abbrev pub IsOfSecondForm : List (Item Rational) → Type 0
IsOfSecondForm (item.HeaderTwo ∷ items) = ⊤
IsOfSecondForm other = ⊥

-- the bytes are those of a certificate that is accepted, and the text is that of its items in the second form, which is
-- accepted with the same pair; a text of the second form stays as it is
pub record IsUpgrade (net : Network) (bytes text : List ℕ) : Type 0 where
  pub pair : PairValue
  pub taken : IsAcceptedText net bytes pair
  pub gives : IsAcceptedText net text pair
  pub items : gives.items ≡ upgraded net taken.items
  pub form : IsOfSecondForm gives.items
  pub unchanged : IsOfSecondForm taken.items → text ≡ bytes
