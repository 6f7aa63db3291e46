use Rattle.std.proofs.Common.{◌≡◌, ◌∙◌, ap, string_bytes}
use Rattle.npp_reader.specs.declared.format.Format.{Format}
use Rattle.npp_reader.specs.Format.{header_fields}
use Rattle.npp_reader.specs.Canonical.{canonical_text, format_for, line_of}
use Rattle.npp_reader.proofs.RoundTrip.{canonical_reads, text_of_parts}
use Rattle.npp_reader.proofs.printing.print.Goals as goal

-- the text is the canonical text
written : (c : goal.In_ok-print_pairs) → string_bytes c.print_pairs.new.text ≡ canonical_text c.args.document.now
written c =
    let format : c.format_for-format.result ≡ format_for c.args.document.now.instance.arcs = c.format_for-format.ensures ∙ ap format_for c.arcs-arcs.ensures.list in
    text_of_parts c.args.document.now (string_bytes c.in_ok-text.text) (string_bytes c.print_nodes.new.text) (string_bytes c.print_arcs.new.text) (string_bytes c.print_pairs.new.text)
    (c.in_ok-text.ensures.ok ∙ (c.header.ensures ∙ ap (λ (format : Format). line_of (header_fields format)) format)) c.in_ok-print_nodes.ensures.lines
    (rw (← c.arcs-arcs.ensures.list, ← c.format_for-format.ensures) c.in_ok-print_arcs.ensures)
    (rw (← c.commodities-commodities.ensures.list) c.in_ok-print_pairs.ensures)

pub returns-clause-text : goal.returns-clause-text
returns-clause-text c = written c

pub returns-clause-reads_back : goal.returns-clause-reads_back
returns-clause-reads_back c =
    rw (written c) (canonical_reads c.args.document.now.names c.args.document.now.instance c.in_ok-print_nodes.ensures.names c.arcs-arcs.ensures.limits c.requires)
