use Rattle.std.proofs.Common.{◌∷◌, [], ◌++◌, codes, length, Ok, Err, string_bytes, ap, refl, ◌∙◌}
use Rattle.std.proofs.lemmas.Result.{on_ok_weaker}
use Rattle.std.specs.List.{flat_map}
use Rattle.npp_rows.specs.Meaning.{derivation_value}
use Rattle.npp_tree.specs.declared.item.Item.TheVariants as item
use Rattle.npp_tree.specs.Outcome.{entry_value}
use Rattle.npp_tree.specs.Lines.{cover_lines, cut_lines, entry_lines}
use Rattle.npp_report.specs.Lines.{item_line, number_fields, numbered_lines, text_of}
use Rattle.npp_writer.proofs.HandedLaws.{along, and_then, handed_more, passed, stops, stops_first}
use Rattle.npp_writer.proofs.TextLaws.{cut_at_1, cut_at_2, cut_at_3, cut_at_4, one_line}
use Rattle.npp_writer.proofs.gathered.put_evidence.Goals as goal

pub returns-in_err-put_covers : goal.returns-in_err-put_covers
returns-in_err-put_covers g c =
    let x1 = numbered_lines (λ k c. text_of (cover_lines k c)) 0 c.args.covers.now in
    let x2 = item_line (item.Cuts (length c.args.outcome.now.cuts)) in
    let x3 = flat_map (λ d. text_of (cut_lines (derivation_value g.N.Exact.rational d))) c.args.outcome.now.cuts in
    let x4 = item_line item.Tree in
    let x5 = flat_map (λ n. text_of (entry_lines (entry_value g.N.Exact.rational n))) c.args.outcome.now.tree.nodes in
    let x6 = item_line item.End in
    stops_first (g.O.Sink.written c.args.out.now) (g.O.Sink.written c.put_covers.new.out) (g.O.Sink.faults c.args.out.now) (g.O.Sink.faults c.put_covers.new.out) (string_bytes c.args.text.now)
    x1 (x2 ++ (x3 ++ (x4 ++ (x5 ++ x6)))) _ (string_bytes c.put_covers.new.text) c.from_residual.result c.in_err-put_covers.field-0.0
    (cut_at_1 x1 x2 x3 x4 x5 x6) c.in_err-put_covers.ensures c.from_residual.ensures.1

pub returns-in_err-pass_on : goal.returns-in_err-pass_on
returns-in_err-pass_on g c =
    let x1 = numbered_lines (λ k c. text_of (cover_lines k c)) 0 c.args.covers.now in
    let x2 = item_line (item.Cuts (length c.args.outcome.now.cuts)) in
    let x3 = flat_map (λ d. text_of (cut_lines (derivation_value g.N.Exact.rational d))) c.args.outcome.now.cuts in
    let x4 = item_line item.Tree in
    let x5 = flat_map (λ n. text_of (entry_lines (entry_value g.N.Exact.rational n))) c.args.outcome.now.tree.nodes in
    let x6 = item_line item.End in
    let a1 = c.in_ok-put_covers.ensures in
    let cut = passed (g.O.Sink.written c.put_covers.new.out) (g.O.Sink.written c.pass_on.new.out) (g.O.Sink.faults c.put_covers.new.out) (g.O.Sink.faults c.pass_on.new.out) (string_bytes c.put_covers.new.text) x2 (string_bytes c.write_count.new.text) (string_bytes c.pass_on.new.text) c.write_count.result (Err c.in_err-pass_on.field-0.0) (one_line (codes "cuts" ++ number_fields (length c.args.outcome.now.cuts ∷ []))) (on_ok_weaker c.write_count.result (λ is. is ∙ ap (λ ds. string_bytes c.put_covers.new.text ++ item_line (item.Cuts (length ds))) c.entries-cuts.ensures) c.write_count.ensures) c.in_err-pass_on.ensures in
    stops (g.O.Sink.written c.args.out.now) (g.O.Sink.written c.put_covers.new.out) (g.O.Sink.written c.pass_on.new.out) (g.O.Sink.faults c.args.out.now) (g.O.Sink.faults c.put_covers.new.out) (g.O.Sink.faults c.pass_on.new.out) (string_bytes c.args.text.now) (x1) x2 _ (x3 ++ (x4 ++ (x5 ++ x6))) (string_bytes c.put_covers.new.text) (string_bytes c.pass_on.new.text) c.from_residual-in_err-pass_on.result c.in_err-pass_on.field-0.0
    (cut_at_2 x1 x2 x3 x4 x5 x6) a1 cut c.from_residual-in_err-pass_on.ensures.1

pub returns-in_err-put_cuts : goal.returns-in_err-put_cuts
returns-in_err-put_cuts g c =
    let x1 = numbered_lines (λ k c. text_of (cover_lines k c)) 0 c.args.covers.now in
    let x2 = item_line (item.Cuts (length c.args.outcome.now.cuts)) in
    let x3 = flat_map (λ d. text_of (cut_lines (derivation_value g.N.Exact.rational d))) c.args.outcome.now.cuts in
    let x4 = item_line item.Tree in
    let x5 = flat_map (λ n. text_of (entry_lines (entry_value g.N.Exact.rational n))) c.args.outcome.now.tree.nodes in
    let x6 = item_line item.End in
    let a1 = c.in_ok-put_covers.ensures in
    let s2 = passed (g.O.Sink.written c.put_covers.new.out) (g.O.Sink.written c.pass_on.new.out) (g.O.Sink.faults c.put_covers.new.out) (g.O.Sink.faults c.pass_on.new.out) (string_bytes c.put_covers.new.text) x2 (string_bytes c.write_count.new.text) (string_bytes c.pass_on.new.text) c.write_count.result (Ok c.in_ok-pass_on.field-0) (one_line (codes "cuts" ++ number_fields (length c.args.outcome.now.cuts ∷ []))) (on_ok_weaker c.write_count.result (λ is. is ∙ ap (λ ds. string_bytes c.put_covers.new.text ++ item_line (item.Cuts (length ds))) c.entries-cuts.ensures) c.write_count.ensures) c.in_ok-pass_on.ensures in
    let a2 = handed_more (g.O.Sink.written c.args.out.now) (g.O.Sink.written c.put_covers.new.out) (g.O.Sink.written c.pass_on.new.out) (g.O.Sink.faults c.args.out.now) (g.O.Sink.faults c.put_covers.new.out) (g.O.Sink.faults c.pass_on.new.out) (string_bytes c.args.text.now) (x1) x2 (string_bytes c.put_covers.new.text) (string_bytes c.pass_on.new.text) a1 s2 in
    let cut = along (g.O.Sink.written c.pass_on.new.out) (g.O.Sink.written c.put_cuts.new.out) (g.O.Sink.faults c.pass_on.new.out) (g.O.Sink.faults c.put_cuts.new.out) (string_bytes c.pass_on.new.text) (flat_map (λ d. text_of (cut_lines (derivation_value g.N.Exact.rational d))) c.entries-cuts.result.now) x3 (string_bytes c.put_cuts.new.text) (Err c.in_err-put_cuts.field-0.0) (ap (flat_map (λ d. text_of (cut_lines (derivation_value g.N.Exact.rational d)))) c.entries-cuts.ensures) c.in_err-put_cuts.ensures in
    stops (g.O.Sink.written c.args.out.now) (g.O.Sink.written c.pass_on.new.out) (g.O.Sink.written c.put_cuts.new.out) (g.O.Sink.faults c.args.out.now) (g.O.Sink.faults c.pass_on.new.out) (g.O.Sink.faults c.put_cuts.new.out) (string_bytes c.args.text.now) ((x1) ++ x2) x3 _ (x4 ++ (x5 ++ x6)) (string_bytes c.pass_on.new.text) (string_bytes c.put_cuts.new.text) c.from_residual-in_err-put_cuts.result c.in_err-put_cuts.field-0.0
    (cut_at_3 x1 x2 x3 x4 x5 x6) a2 cut c.from_residual-in_err-put_cuts.ensures.1

pub returns-in_err-pass_on-2 : goal.returns-in_err-pass_on-2
returns-in_err-pass_on-2 g c =
    let x1 = numbered_lines (λ k c. text_of (cover_lines k c)) 0 c.args.covers.now in
    let x2 = item_line (item.Cuts (length c.args.outcome.now.cuts)) in
    let x3 = flat_map (λ d. text_of (cut_lines (derivation_value g.N.Exact.rational d))) c.args.outcome.now.cuts in
    let x4 = item_line item.Tree in
    let x5 = flat_map (λ n. text_of (entry_lines (entry_value g.N.Exact.rational n))) c.args.outcome.now.tree.nodes in
    let x6 = item_line item.End in
    let a1 = c.in_ok-put_covers.ensures in
    let s2 = passed (g.O.Sink.written c.put_covers.new.out) (g.O.Sink.written c.pass_on.new.out) (g.O.Sink.faults c.put_covers.new.out) (g.O.Sink.faults c.pass_on.new.out) (string_bytes c.put_covers.new.text) x2 (string_bytes c.write_count.new.text) (string_bytes c.pass_on.new.text) c.write_count.result (Ok c.in_ok-pass_on.field-0) (one_line (codes "cuts" ++ number_fields (length c.args.outcome.now.cuts ∷ []))) (on_ok_weaker c.write_count.result (λ is. is ∙ ap (λ ds. string_bytes c.put_covers.new.text ++ item_line (item.Cuts (length ds))) c.entries-cuts.ensures) c.write_count.ensures) c.in_ok-pass_on.ensures in
    let a2 = handed_more (g.O.Sink.written c.args.out.now) (g.O.Sink.written c.put_covers.new.out) (g.O.Sink.written c.pass_on.new.out) (g.O.Sink.faults c.args.out.now) (g.O.Sink.faults c.put_covers.new.out) (g.O.Sink.faults c.pass_on.new.out) (string_bytes c.args.text.now) (x1) x2 (string_bytes c.put_covers.new.text) (string_bytes c.pass_on.new.text) a1 s2 in
    let s3 = along (g.O.Sink.written c.pass_on.new.out) (g.O.Sink.written c.put_cuts.new.out) (g.O.Sink.faults c.pass_on.new.out) (g.O.Sink.faults c.put_cuts.new.out) (string_bytes c.pass_on.new.text) (flat_map (λ d. text_of (cut_lines (derivation_value g.N.Exact.rational d))) c.entries-cuts.result.now) x3 (string_bytes c.put_cuts.new.text) (Ok c.in_ok-put_cuts.field-0) (ap (flat_map (λ d. text_of (cut_lines (derivation_value g.N.Exact.rational d)))) c.entries-cuts.ensures) c.in_ok-put_cuts.ensures in
    let a3 = handed_more (g.O.Sink.written c.args.out.now) (g.O.Sink.written c.pass_on.new.out) (g.O.Sink.written c.put_cuts.new.out) (g.O.Sink.faults c.args.out.now) (g.O.Sink.faults c.pass_on.new.out) (g.O.Sink.faults c.put_cuts.new.out) (string_bytes c.args.text.now) ((x1) ++ x2) x3 (string_bytes c.pass_on.new.text) (string_bytes c.put_cuts.new.text) a2 s3 in
    let cut = passed (g.O.Sink.written c.put_cuts.new.out) (g.O.Sink.written c.pass_on-2.new.out) (g.O.Sink.faults c.put_cuts.new.out) (g.O.Sink.faults c.pass_on-2.new.out) (string_bytes c.put_cuts.new.text) x4 (string_bytes c.write_word.new.text) (string_bytes c.pass_on-2.new.text) c.write_word.result (Err c.in_err-pass_on-2.field-0.0) (one_line (codes "tree")) c.write_word.ensures c.in_err-pass_on-2.ensures in
    stops (g.O.Sink.written c.args.out.now) (g.O.Sink.written c.put_cuts.new.out) (g.O.Sink.written c.pass_on-2.new.out) (g.O.Sink.faults c.args.out.now) (g.O.Sink.faults c.put_cuts.new.out) (g.O.Sink.faults c.pass_on-2.new.out) (string_bytes c.args.text.now) (((x1) ++ x2) ++ x3) x4 _ (x5 ++ x6) (string_bytes c.put_cuts.new.text) (string_bytes c.pass_on-2.new.text) c.from_residual-in_err-pass_on-2.result c.in_err-pass_on-2.field-0.0
    (cut_at_4 x1 x2 x3 x4 x5 x6) a3 cut c.from_residual-in_err-pass_on-2.ensures.1

pub returns-in_err-put_nodes : goal.returns-in_err-put_nodes
returns-in_err-put_nodes g c =
    let x1 = numbered_lines (λ k c. text_of (cover_lines k c)) 0 c.args.covers.now in
    let x2 = item_line (item.Cuts (length c.args.outcome.now.cuts)) in
    let x3 = flat_map (λ d. text_of (cut_lines (derivation_value g.N.Exact.rational d))) c.args.outcome.now.cuts in
    let x4 = item_line item.Tree in
    let x5 = flat_map (λ n. text_of (entry_lines (entry_value g.N.Exact.rational n))) c.args.outcome.now.tree.nodes in
    let x6 = item_line item.End in
    let a1 = c.in_ok-put_covers.ensures in
    let s2 = passed (g.O.Sink.written c.put_covers.new.out) (g.O.Sink.written c.pass_on.new.out) (g.O.Sink.faults c.put_covers.new.out) (g.O.Sink.faults c.pass_on.new.out) (string_bytes c.put_covers.new.text) x2 (string_bytes c.write_count.new.text) (string_bytes c.pass_on.new.text) c.write_count.result (Ok c.in_ok-pass_on.field-0) (one_line (codes "cuts" ++ number_fields (length c.args.outcome.now.cuts ∷ []))) (on_ok_weaker c.write_count.result (λ is. is ∙ ap (λ ds. string_bytes c.put_covers.new.text ++ item_line (item.Cuts (length ds))) c.entries-cuts.ensures) c.write_count.ensures) c.in_ok-pass_on.ensures in
    let a2 = handed_more (g.O.Sink.written c.args.out.now) (g.O.Sink.written c.put_covers.new.out) (g.O.Sink.written c.pass_on.new.out) (g.O.Sink.faults c.args.out.now) (g.O.Sink.faults c.put_covers.new.out) (g.O.Sink.faults c.pass_on.new.out) (string_bytes c.args.text.now) (x1) x2 (string_bytes c.put_covers.new.text) (string_bytes c.pass_on.new.text) a1 s2 in
    let s3 = along (g.O.Sink.written c.pass_on.new.out) (g.O.Sink.written c.put_cuts.new.out) (g.O.Sink.faults c.pass_on.new.out) (g.O.Sink.faults c.put_cuts.new.out) (string_bytes c.pass_on.new.text) (flat_map (λ d. text_of (cut_lines (derivation_value g.N.Exact.rational d))) c.entries-cuts.result.now) x3 (string_bytes c.put_cuts.new.text) (Ok c.in_ok-put_cuts.field-0) (ap (flat_map (λ d. text_of (cut_lines (derivation_value g.N.Exact.rational d)))) c.entries-cuts.ensures) c.in_ok-put_cuts.ensures in
    let a3 = handed_more (g.O.Sink.written c.args.out.now) (g.O.Sink.written c.pass_on.new.out) (g.O.Sink.written c.put_cuts.new.out) (g.O.Sink.faults c.args.out.now) (g.O.Sink.faults c.pass_on.new.out) (g.O.Sink.faults c.put_cuts.new.out) (string_bytes c.args.text.now) ((x1) ++ x2) x3 (string_bytes c.pass_on.new.text) (string_bytes c.put_cuts.new.text) a2 s3 in
    let s4 = passed (g.O.Sink.written c.put_cuts.new.out) (g.O.Sink.written c.pass_on-2.new.out) (g.O.Sink.faults c.put_cuts.new.out) (g.O.Sink.faults c.pass_on-2.new.out) (string_bytes c.put_cuts.new.text) x4 (string_bytes c.write_word.new.text) (string_bytes c.pass_on-2.new.text) c.write_word.result (Ok c.in_ok-pass_on-2.field-0) (one_line (codes "tree")) c.write_word.ensures c.in_ok-pass_on-2.ensures in
    let a4 = handed_more (g.O.Sink.written c.args.out.now) (g.O.Sink.written c.put_cuts.new.out) (g.O.Sink.written c.pass_on-2.new.out) (g.O.Sink.faults c.args.out.now) (g.O.Sink.faults c.put_cuts.new.out) (g.O.Sink.faults c.pass_on-2.new.out) (string_bytes c.args.text.now) (((x1) ++ x2) ++ x3) x4 (string_bytes c.put_cuts.new.text) (string_bytes c.pass_on-2.new.text) a3 s4 in
    let cut = along (g.O.Sink.written c.pass_on-2.new.out) (g.O.Sink.written c.put_nodes.new.out) (g.O.Sink.faults c.pass_on-2.new.out) (g.O.Sink.faults c.put_nodes.new.out) (string_bytes c.pass_on-2.new.text) (flat_map (λ n. text_of (entry_lines (entry_value g.N.Exact.rational n))) c.entries.result.now) x5 (string_bytes c.put_nodes.new.text) (Err c.in_err-put_nodes.field-0.0) (ap (flat_map (λ n. text_of (entry_lines (entry_value g.N.Exact.rational n)))) c.entries.ensures) c.in_err-put_nodes.ensures in
    stops (g.O.Sink.written c.args.out.now) (g.O.Sink.written c.pass_on-2.new.out) (g.O.Sink.written c.put_nodes.new.out) (g.O.Sink.faults c.args.out.now) (g.O.Sink.faults c.pass_on-2.new.out) (g.O.Sink.faults c.put_nodes.new.out) (string_bytes c.args.text.now) ((((x1) ++ x2) ++ x3) ++ x4) x5 _ x6 (string_bytes c.pass_on-2.new.text) (string_bytes c.put_nodes.new.text) c.from_residual-in_err-put_nodes.result c.in_err-put_nodes.field-0.0
    refl a4 cut c.from_residual-in_err-put_nodes.ensures.1

pub returns : goal.returns
returns g c =
    let x1 = numbered_lines (λ k c. text_of (cover_lines k c)) 0 c.args.covers.now in
    let x2 = item_line (item.Cuts (length c.args.outcome.now.cuts)) in
    let x3 = flat_map (λ d. text_of (cut_lines (derivation_value g.N.Exact.rational d))) c.args.outcome.now.cuts in
    let x4 = item_line item.Tree in
    let x5 = flat_map (λ n. text_of (entry_lines (entry_value g.N.Exact.rational n))) c.args.outcome.now.tree.nodes in
    let x6 = item_line item.End in
    let a1 = c.in_ok-put_covers.ensures in
    let s2 = passed (g.O.Sink.written c.put_covers.new.out) (g.O.Sink.written c.pass_on.new.out) (g.O.Sink.faults c.put_covers.new.out) (g.O.Sink.faults c.pass_on.new.out) (string_bytes c.put_covers.new.text) x2 (string_bytes c.write_count.new.text) (string_bytes c.pass_on.new.text) c.write_count.result (Ok c.in_ok-pass_on.field-0) (one_line (codes "cuts" ++ number_fields (length c.args.outcome.now.cuts ∷ []))) (on_ok_weaker c.write_count.result (λ is. is ∙ ap (λ ds. string_bytes c.put_covers.new.text ++ item_line (item.Cuts (length ds))) c.entries-cuts.ensures) c.write_count.ensures) c.in_ok-pass_on.ensures in
    let a2 = handed_more (g.O.Sink.written c.args.out.now) (g.O.Sink.written c.put_covers.new.out) (g.O.Sink.written c.pass_on.new.out) (g.O.Sink.faults c.args.out.now) (g.O.Sink.faults c.put_covers.new.out) (g.O.Sink.faults c.pass_on.new.out) (string_bytes c.args.text.now) (x1) x2 (string_bytes c.put_covers.new.text) (string_bytes c.pass_on.new.text) a1 s2 in
    let s3 = along (g.O.Sink.written c.pass_on.new.out) (g.O.Sink.written c.put_cuts.new.out) (g.O.Sink.faults c.pass_on.new.out) (g.O.Sink.faults c.put_cuts.new.out) (string_bytes c.pass_on.new.text) (flat_map (λ d. text_of (cut_lines (derivation_value g.N.Exact.rational d))) c.entries-cuts.result.now) x3 (string_bytes c.put_cuts.new.text) (Ok c.in_ok-put_cuts.field-0) (ap (flat_map (λ d. text_of (cut_lines (derivation_value g.N.Exact.rational d)))) c.entries-cuts.ensures) c.in_ok-put_cuts.ensures in
    let a3 = handed_more (g.O.Sink.written c.args.out.now) (g.O.Sink.written c.pass_on.new.out) (g.O.Sink.written c.put_cuts.new.out) (g.O.Sink.faults c.args.out.now) (g.O.Sink.faults c.pass_on.new.out) (g.O.Sink.faults c.put_cuts.new.out) (string_bytes c.args.text.now) ((x1) ++ x2) x3 (string_bytes c.pass_on.new.text) (string_bytes c.put_cuts.new.text) a2 s3 in
    let s4 = passed (g.O.Sink.written c.put_cuts.new.out) (g.O.Sink.written c.pass_on-2.new.out) (g.O.Sink.faults c.put_cuts.new.out) (g.O.Sink.faults c.pass_on-2.new.out) (string_bytes c.put_cuts.new.text) x4 (string_bytes c.write_word.new.text) (string_bytes c.pass_on-2.new.text) c.write_word.result (Ok c.in_ok-pass_on-2.field-0) (one_line (codes "tree")) c.write_word.ensures c.in_ok-pass_on-2.ensures in
    let a4 = handed_more (g.O.Sink.written c.args.out.now) (g.O.Sink.written c.put_cuts.new.out) (g.O.Sink.written c.pass_on-2.new.out) (g.O.Sink.faults c.args.out.now) (g.O.Sink.faults c.put_cuts.new.out) (g.O.Sink.faults c.pass_on-2.new.out) (string_bytes c.args.text.now) (((x1) ++ x2) ++ x3) x4 (string_bytes c.put_cuts.new.text) (string_bytes c.pass_on-2.new.text) a3 s4 in
    let s5 = along (g.O.Sink.written c.pass_on-2.new.out) (g.O.Sink.written c.put_nodes.new.out) (g.O.Sink.faults c.pass_on-2.new.out) (g.O.Sink.faults c.put_nodes.new.out) (string_bytes c.pass_on-2.new.text) (flat_map (λ n. text_of (entry_lines (entry_value g.N.Exact.rational n))) c.entries.result.now) x5 (string_bytes c.put_nodes.new.text) (Ok c.in_ok-put_nodes.field-0) (ap (flat_map (λ n. text_of (entry_lines (entry_value g.N.Exact.rational n)))) c.entries.ensures) c.in_ok-put_nodes.ensures in
    let a5 = handed_more (g.O.Sink.written c.args.out.now) (g.O.Sink.written c.pass_on-2.new.out) (g.O.Sink.written c.put_nodes.new.out) (g.O.Sink.faults c.args.out.now) (g.O.Sink.faults c.pass_on-2.new.out) (g.O.Sink.faults c.put_nodes.new.out) (string_bytes c.args.text.now) ((((x1) ++ x2) ++ x3) ++ x4) x5 (string_bytes c.pass_on-2.new.text) (string_bytes c.put_nodes.new.text) a4 s5 in
    let last = passed (g.O.Sink.written c.put_nodes.new.out) (g.O.Sink.written c.pass_on-3.new.out) (g.O.Sink.faults c.put_nodes.new.out) (g.O.Sink.faults c.pass_on-3.new.out) (string_bytes c.put_nodes.new.text) x6 (string_bytes c.write_word-2.new.text) (string_bytes c.pass_on-3.new.text) c.write_word-2.result c.pass_on-3.result (one_line (codes "end")) c.write_word-2.ensures c.pass_on-3.ensures in
    and_then (g.O.Sink.written c.args.out.now) (g.O.Sink.written c.put_nodes.new.out) (g.O.Sink.written c.pass_on-3.new.out) (g.O.Sink.faults c.args.out.now) (g.O.Sink.faults c.put_nodes.new.out) (g.O.Sink.faults c.pass_on-3.new.out) (string_bytes c.args.text.now) (((((x1) ++ x2) ++ x3) ++ x4) ++ x5) x6 (string_bytes c.put_nodes.new.text) (string_bytes c.pass_on-3.new.text) c.pass_on-3.result a5 last
