use Rattle.std.proofs.Common.{◌∙◌}
use Rattle.npp_cli.proofs.generator.answer_on_number.Goals as goal

pub returns : goal.returns
returns c = (c.with_text.ensures.has_status, c.with_text.ensures.has_text ∙ c.in_ok-text.ensures)
