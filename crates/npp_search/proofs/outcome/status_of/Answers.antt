use Rattle.std.proofs.Common.{◌≡◌, true, sym, ◌∙◌}
use Rattle.npp_frac.specs.Wide.{value_of_wide}
use Rattle.npp_search.proofs.EndingLaws.{is_optimal, is_budget, is_overflow}
use Rattle.npp_search.proofs.outcome.status_of.Goals as goal

pub returns-then-not-is_below : goal.returns-then-not-is_below
returns-then-not-is_below c = is_optimal (value_of_wide c.args.lower) (value_of_wide c.args.upper) c.requires (c.args.waits ≡ true) (sym c.is_below.ensures ∙ c.if-not-is_below.true)

pub returns-then-waits : goal.returns-then-waits
returns-then-waits c = is_budget (value_of_wide c.args.lower) (value_of_wide c.args.upper) c.requires (c.args.waits ≡ true) (sym c.is_below.ensures ∙ c.if-not-is_below.false) c.if-waits.true

pub returns-else-waits : goal.returns-else-waits
returns-else-waits c =
    is_overflow (value_of_wide c.args.lower) (value_of_wide c.args.upper) c.requires (c.args.waits ≡ true) (sym c.is_below.ensures ∙ c.if-not-is_below.false)
    (λ e. absurd (let clash = sym e ∙ c.if-waits.false in cc))
