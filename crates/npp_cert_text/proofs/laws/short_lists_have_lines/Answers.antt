use Rattle.npp_cert_text.proofs.ShortLines.{short_lines}
use Rattle.npp_cert_text.proofs.laws.short_lists_have_lines.Goals as goal

pub returns : goal.returns
returns c = short_lines
