use Rattle.npp_frac.specs.Wide.{value_of_wide}
use Rattle.npp_tree.specs.Items.{item_of}
use Rattle.npp_cert_text.proofs.EntryLaws.{read_short}
use Rattle.npp_cert_text.proofs.TextLaws.{read_found, read_only}
use Rattle.npp_cert_text.proofs.reading.read_line.Goals as goal

pub returns : goal.returns
returns c = record {
  found = read_found (item_of value_of_wide) c.args.line.now c.read.result c.read.ensures;
  only = read_only (item_of value_of_wide) c.args.line.now c.read.result c.read.ensures;
  exact = c.read.ensures;
  lists = read_short value_of_wide c.args.line.now c.read.result c.read.ensures;
}
