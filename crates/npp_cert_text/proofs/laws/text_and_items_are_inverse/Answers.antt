use Rattle.npp_cert_text.proofs.TextLaws.{text_says, said_text}
use Rattle.npp_cert_text.proofs.laws.text_and_items_are_inverse.Goals as goal

pub returns : goal.returns
returns c = record {
  read = text_says;
  lines = λ bytes items e. (said_text bytes items e).0;
  written = λ bytes items e. (said_text bytes items e).1;
}
