-- The bytes of the second form are the text of the upgraded items, which is accepted with the same pair.
use Rattle.std.proofs.Common.{◌≡◌, ◌∙◌, ◌⊎◌, inl, inr, ap, sym, refl, subst, ℕ, List, [], ◌∷◌, Ok}
use Rattle.npp_frac.specs.Fits.{limit_of}
use Rattle.npp_frac.specs.Rational.{Rational}
use Rattle.npp_net.specs.Network.{Network, IsNetwork}
use Rattle.npp_tree.specs.declared.item.Item.{Item}
use Rattle.npp_tree.specs.declared.item.Item.TheVariants as item
use Rattle.npp_report.specs.Lines.{text_of}
use Rattle.npp_check.specs.Verdict.{PairValue, IsVerdict}
use Rattle.npp_check.proofs.YesLemmas.{yes_is_right}
use Rattle.npp_stream.specs.TextVerdicts.{IsAcceptedText}
use Rattle.npp_upgrade.specs.Splice.{second_form}
use Rattle.npp_upgrade.specs.Upgraded.{upgraded}
use Rattle.npp_upgrade.specs.Upgrade.{IsUpgrade, IsOfSecondForm}
use Rattle.npp_upgrade.proofs.LineLemmas.{upgraded_has_lines}
use Rattle.npp_upgrade.proofs.SpliceLemmas.{first_text, second_text}
use Rattle.npp_upgrade.proofs.UpgradedLemmas.{IsFirstForm, IsSecondForm, is_of_form, accepted}

stays : (net : Network) (items : List (Item Rational)) → IsOfSecondForm items → upgraded net items ≡ items
stays net [] h = refl
stays net (item.Header ∷ items) h = absurd h
stays net (other ∷ items) h = refl

module _ (net : Network) (limits : IsNetwork net) (bytes text : List ℕ) (pair : PairValue) (taken : IsAcceptedText net bytes pair) (is : text ≡ second_form net bytes) where
  forms : IsFirstForm taken.items ⊎ IsSecondForm taken.items
  forms = is_of_form (limit_of 128) net taken.verdict.0 taken.items pair taken.verdict.2

  text_is : IsFirstForm taken.items ⊎ IsSecondForm taken.items → text ≡ text_of (upgraded net taken.items)
  text_is (inl first) = is ∙ ap (second_form net) taken.text ∙ first_text net taken.items first taken.lines
  text_is (inr second) = is ∙ ap (second_form net) taken.text ∙ second_text net taken.items second

  form_is : IsFirstForm taken.items ⊎ IsSecondForm taken.items → IsOfSecondForm (upgraded net taken.items)
  form_is (inl first) = subst (λ (items : List (Item Rational)). IsOfSecondForm (upgraded net items)) (sym first.is) tt
  form_is (inr second) = subst (λ (items : List (Item Rational)). IsOfSecondForm (upgraded net items)) (sym second.is) tt

  same_verdict : IsVerdict (limit_of 128) net (upgraded net taken.items) (Ok pair)
  same_verdict = (taken.verdict.0, taken.verdict.1, accepted (limit_of 128) net taken.verdict.0 taken.items pair taken.verdict.2)

  abbrev gives : IsAcceptedText net text pair
  gives = record {
    items = upgraded net taken.items;
    lines = upgraded_has_lines net limits taken.items taken.lines;
    text = text_is forms;
    verdict = same_verdict;
    proves = yes_is_right (limit_of 128) net (upgraded net taken.items) pair limits same_verdict;
  }

  pub is_upgrade : IsUpgrade net bytes text
  is_upgrade = record {
    pair = pair;
    taken = taken;
    gives = gives;
    items = refl;
    form = form_is forms;
    unchanged = λ h. text_is forms ∙ ap text_of (stays net taken.items h) ∙ sym taken.text;
  }
