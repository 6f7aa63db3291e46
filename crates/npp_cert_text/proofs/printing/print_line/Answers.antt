use Rattle.std.proofs.Common.{◌∙◌, ◌++◌, ap, string_bytes}
use Rattle.npp_frac.specs.Wide.{value_of_wide}
use Rattle.npp_tree.specs.Items.{item_of}
use Rattle.npp_report.specs.Lines.{item_line}
use Rattle.npp_cert_text.specs.Form.{IsLineOf}
use Rattle.npp_cert_text.proofs.TextLaws.{is_said}
use Rattle.npp_cert_text.proofs.printing.print_line.Goals as goal

pub returns : goal.returns
returns c =
    let i = item_of value_of_wide c.args.item.now in
    let is : IsLineOf (string_bytes c.write_item.new.text) i = record {
      has = c.requires;
      text = c.in_ok-write_item.ensures ∙ ap (λ t. t ++ item_line i) c.new-text.ensures.bytes;
    } in
    rw c.into_bytes.ensures.value (record { text = is; read = is_said (string_bytes c.write_item.new.text) i is })
