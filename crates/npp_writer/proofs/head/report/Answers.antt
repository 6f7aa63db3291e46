use Rattle.std.proofs.Common.{◌≡◌, ◌++◌, [], cond, string_bytes, ap, ◌∙◌}
use Rattle.npp_tree.specs.declared.item.Item.TheVariants as item
use Rattle.npp_tree.specs.Outcome.{outcome_value}
use Rattle.npp_tree.specs.Lines.{instance_lines}
use Rattle.npp_report.specs.Lines.{item_line, text_of}
use Rattle.npp_writer.proofs.TextLaws.{report_of_outcome}
use Rattle.npp_writer.proofs.head.report.Goals as goal

pub returns : goal.returns
returns g c =
    let net = c.args.instance.now in
    let named = c.names_instance-second.ensures in
    report_of_outcome net g.N.Exact.WIDTH (outcome_value g.N.Exact.rational c.args.outcome.now) (string_bytes c.write_header.new.text)
    (string_bytes c.write_values.new.text) (string_bytes c.write_instance.new.text) (string_bytes c.write_tolls.new.text) _
    (c.in_ok-write_header.ensures ∙ (ap (λ t. t ++ item_line (cond c.names_instance-second.result item.HeaderTwo item.Header)) c.in_ok-text.ensures.bytes
    ∙ ap (λ b. item_line (cond b item.HeaderTwo item.Header)) named))
    c.in_ok-write_values.ensures
    (c.in_ok-write_instance.ensures ∙ ap (λ b. string_bytes c.write_values.new.text ++ text_of (cond b (instance_lines net) [])) named)
    (rw c.values.ensures at c.in_ok-write_tolls.ensures)
    (rw c.entries.ensures at c.in_ok-write_paths.ensures)
