use Rattle.std.proofs.Common.{◌≡◌, ◌∙◌, length, string_bytes, sym, refl, subst, List, ℕ}
use Rattle.npp_rows.specs.Meaning.{derivation_value}
use Rattle.npp_tree.specs.Outcome.{entry_value, outcome_value}
use Rattle.npp_tree.specs.Lines.{report_lines}
use Rattle.npp_report.specs.Lines.{text_of}
use Rattle.npp_report.specs.Report.{names_instance}
use Rattle.npp_outside.specs.Sink.{WritesWhole}
use Rattle.npp_writer.specs.OutcomeText.{outcome_text}
use Rattle.npp_writer.proofs.HandedLaws.{ended, grew_none, written_cut}
use Rattle.npp_writer.proofs.TextLaws.{brief_text, evidence_text, some_text, whole_text}
use Rattle.npp_writer.proofs.writer.write_certificate.Goals as goal

pub returns-in_default-clause-written : goal.returns-in_default-clause-written
returns-in_default-clause-written g c =
    let o = outcome_value g.N.Exact.rational c.args.outcome.now in
    (0, some_text c.args.brief g.N.Exact.WIDTH c.args.instance.now c.args.covers.now o, grew_none (g.O.Sink.written c.args.out.now))

pub returns-then-brief-clause-written : goal.returns-then-brief-clause-written
returns-then-brief-clause-written g c =
    let o = outcome_value g.N.Exact.rational c.args.outcome.now in
    let is : c.as_bytes.result.now ≡ outcome_text c.args.brief g.N.Exact.WIDTH c.args.instance.now c.args.covers.now o =
    c.as_bytes.ensures.value ∙ c.in-Ok.ensures ∙ sym (brief_text c.args.brief g.N.Exact.WIDTH c.args.instance.now c.args.covers.now o c.if-brief.true) in
    subst (λ (z : List ℕ). WritesWhole (g.O.Sink.written c.args.out.now) (g.O.Sink.written c.write_whole.new.out) z c.write_whole.result) is c.write_whole.ensures.written

pub returns-in_err-put_evidence-clause-written : goal.returns-in_err-put_evidence-clause-written
returns-in_err-put_evidence-clause-written g c =
    let o = outcome_value g.N.Exact.rational c.args.outcome.now in
    let cuts = c.args.outcome.now.cuts in
    let nodes = c.args.outcome.now.tree.nodes in
    written_cut (g.O.Sink.written c.args.out.now) (g.O.Sink.written c.put_evidence.new.out) (g.O.Sink.faults c.args.out.now) (g.O.Sink.faults c.put_evidence.new.out)
    (string_bytes c.in-Ok.text) (text_of (report_lines (names_instance c.args.instance.now) g.N.Exact.WIDTH c.args.instance.now o))
    (evidence_text (derivation_value g.N.Exact.rational) (entry_value g.N.Exact.rational) c.args.covers.now (length cuts) cuts nodes)
    (outcome_text c.args.brief g.N.Exact.WIDTH c.args.instance.now c.args.covers.now o) c.from_residual.result c.in_err-put_evidence.field-0.0
    c.in-Ok.ensures
    (whole_text (derivation_value g.N.Exact.rational) (entry_value g.N.Exact.rational) cuts nodes
    c.args.brief g.N.Exact.WIDTH c.args.instance.now c.args.covers.now o c.if-brief.false refl refl)
    c.from_residual.ensures.1 c.in_err-put_evidence.ensures

pub returns-clause-written : goal.returns-clause-written
returns-clause-written g c =
    let o = outcome_value g.N.Exact.rational c.args.outcome.now in
    let cuts = c.args.outcome.now.cuts in
    let nodes = c.args.outcome.now.tree.nodes in
    ended (g.O.Sink.written c.args.out.now) (g.O.Sink.written c.put_evidence.new.out) (g.O.Sink.written c.write_whole-2.new.out)
    (g.O.Sink.faults c.args.out.now) (g.O.Sink.faults c.put_evidence.new.out)
    (string_bytes c.in-Ok.text) (text_of (report_lines (names_instance c.args.instance.now) g.N.Exact.WIDTH c.args.instance.now o))
    (evidence_text (derivation_value g.N.Exact.rational) (entry_value g.N.Exact.rational) c.args.covers.now (length cuts) cuts nodes)
    (outcome_text c.args.brief g.N.Exact.WIDTH c.args.instance.now c.args.covers.now o) (string_bytes c.put_evidence.new.text) c.as_bytes-2.result.now c.write_whole-2.result
    c.in-Ok.ensures
    (whole_text (derivation_value g.N.Exact.rational) (entry_value g.N.Exact.rational) cuts nodes
    c.args.brief g.N.Exact.WIDTH c.args.instance.now c.args.covers.now o c.if-brief.false refl refl)
    c.as_bytes-2.ensures.value c.in_ok-put_evidence.ensures c.write_whole-2.ensures.written
