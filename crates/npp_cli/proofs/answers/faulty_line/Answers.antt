use Rattle.std.proofs.Common.{◌∙◌, append_assoc}
use Rattle.npp_cli.proofs.answers.faulty_line.Goals as goal

pub returns : goal.returns
returns c = record { has_status = c.with_text.ensures.has_status; has_text = c.with_text.ensures.has_text ∙ simp append_assoc c.in_ok-text.ensures.ok }
