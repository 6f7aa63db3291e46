use Rattle.std.proofs.Common.{inl, inr, refl, ap, ◌∙◌}
use Rattle.std.proofs.lemmas.Result.{IfOk-weaker}
use Rattle.npp_net.specs.Network.{no_commodity}
use Rattle.npp_bounds.specs.declared.refusal.BoundsRefusal.TheVariants.{NoFreePath}
use Rattle.npp_bounds.specs.Spans.{IsBoundsRefusal}
use Rattle.npp_cli.specs.declared.answers.Answer.{Answer}
use Rattle.npp_cli.specs.Checked.{refused_certificate_text}
use Rattle.npp_cli.proofs.upgrade.upgraded.Goals as goal

pub returns-in-Ok : goal.returns-in-Ok
returns-in-Ok c = inl (record { is_upgrade = c.in-Ok.ensures.upgraded; is_status = refl })

pub returns-in-Err-Broken : goal.returns-in-Err-Broken
returns-in-Err-Broken c =
    IfOk-weaker c.refused.result _ _
    (λ (answer : Answer) is. inr (record {
      number = c.in-Err-Broken.line;
      rule = c.in-Err-Broken.rule;
      verdict = rw c.in-Err-Broken.field-0-is at c.in-Err-Broken.ensures.refused;
      is_text = is.has_text ∙ ap (refused_certificate_text c.in-Err-Broken.line) c.rule_word.ensures;
      is_status = is.has_status;
    }))
    c.refused.ensures

pub returns-in-Err-NoFreePath : goal.returns-in-Err-NoFreePath
returns-in-Err-NoFreePath c =
    let k = c.in-Err-NoFreePath.k in
    let refused : IsBoundsRefusal c.args.instance.now.arcs c.args.instance.now.commodities (NoFreePath k) =
    rw c.in-Err-NoFreePath.field-0-is at c.in-Err-NoFreePath.ensures.refused in
    absurd (c.requires k no_commodity refused.0 refused.1)
