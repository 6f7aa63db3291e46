use Rattle.npp_cli.proofs.program.demonstrate.Goals as goal

pub returns : goal.returns
returns c = rw (c.as_bytes.ensures.value, c.in_ok-text.ensures) at c.answer_on_bytes.ensures
