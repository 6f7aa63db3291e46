use Rattle.npp_cert_text.proofs.TextLaws.{is_said, says}
use Rattle.npp_cert_text.proofs.laws.line_and_item_are_inverse.Goals as goal

pub returns : goal.returns
returns c = record { read = is_said; written = says }
