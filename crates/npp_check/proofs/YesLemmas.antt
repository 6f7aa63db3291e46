-- A yes is right: the lower value is earned and no outcome earns more than the upper value, whoever wrote the certificate.
use Rattle.std.specs.Prelude.{◌≡◌, ℕ, List, [], Ok}
use Rattle.std.proofs.Common.{ap, sym, ◌∙◌}
use Rattle.std.proofs.lemmas.List.{append-nil}
use Rattle.npp_frac.specs.Rational.{Rational, zero_ℚ}
use Rattle.npp_frac.specs.Order.{is_less_no}
use Rattle.npp_lp.specs.Programs.{at}
use Rattle.npp_rows.proofs.CommonTolls.{common_tolls, has_common}
use Rattle.npp_net.specs.Network.{IsNetwork}
use Rattle.npp_tree.specs.declared.item.Item.{Item}
use Rattle.npp_check.specs.Verdict.{PairValue, certificate, verdict}
use Rattle.npp_check.specs.Checking.{Checking, HasTaken, verdict_with}
use Rattle.npp_check.specs.Yes.{Proves, YesIsRight, tolls_said}
use Rattle.npp_check.proofs.LowerLemmas.{certificate_earns}
use Rattle.npp_check.proofs.UpperLemmas.{whole_says, upper_is_right}

pub yes_is_right : YesIsRight
yes_is_right limit net items pair limits (f, measures, accepted) =
    let read = whole_says (certificate limit net f (record { number = 1; items = items })) pair accepted in
    let earns = certificate_earns limit net f limits measures (record { number = 1; items = items }) read.0 pair read.2 read.1 in
    record {
      tolls = (common_tolls (tolls_said items), has_common (tolls_said items) (λ a lt. is_less_no (at (tolls_said items) a) zero_ℚ (earns.least a lt)));
      earned = earns.earned;
      upper = upper_is_right limit net items pair limits (f, measures, accepted);
    }

-- so is that of a checker which took these items and is at their end
pub end_is_right : (limit : ℕ) (c : Checking) (items : List (Item Rational)) (pair : PairValue) → IsNetwork c.on.net → HasTaken limit c items → verdict_with limit c [] ≡ Ok pair → Proves c.on.net items pair
end_is_right limit c items pair limits taken e =
    yes_is_right limit c.on.net items pair limits
    (c.on.measures, taken.measures, ap (verdict limit c.on.net c.on.measures) (sym (append-nil items)) ∙ sym (taken.verdict []) ∙ e)
