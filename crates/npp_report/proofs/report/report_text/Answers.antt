use Rattle.std.proofs.Common.{◌≡◌, ◌++◌, [], cond, string_bytes, ap, ◌∙◌}
use Rattle.npp_tree.specs.declared.item.Item.TheVariants as item
use Rattle.npp_tree.specs.Lines.{instance_lines}
use Rattle.npp_report.specs.Lines.{item_line, text_of}
use Rattle.npp_report.specs.Report.{report_value}
use Rattle.npp_report.proofs.TextLaws.{report_of_parts}
use Rattle.npp_report.proofs.report.report_text.Goals as goal

pub returns : goal.returns
returns g c =
    let net = c.args.instance.now in
    let named = c.names_instance-second.ensures in
    report_of_parts net g.N.Exact.WIDTH (report_value g.N.Exact.rational c.args.report.now) (string_bytes c.in_ok-text.text)
    (string_bytes c.write_values.new.text) (string_bytes c.write_instance.new.text) (string_bytes c.write_tolls.new.text) _
    (c.in_ok-text.ensures.ok ∙ (c.header.ensures ∙ ap (λ b. item_line (cond b item.HeaderTwo item.Header)) named))
    c.in_ok-write_values.ensures
    (c.in_ok-write_instance.ensures ∙ ap (λ b. string_bytes c.write_values.new.text ++ text_of (cond b (instance_lines net) [])) named)
    (rw c.values.ensures at c.in_ok-write_tolls.ensures)
    (rw c.entries.ensures at c.in_ok-write_paths.ensures)
