use Rattle.std.proofs.Common.{◌≡◌, ◌<◌, ◌≤◌, length, ap, sym, ◌∙◌, get_or, [], rules, arith}
use Rattle.npp_lp.specs.ProgramOver.{lists_of, spanned}
use Rattle.npp_lp.proofs.Writing.{length-written_rows, entries_written, row_written, span_at}
use Rattle.npp_lp.proofs.program.Program.row.Given.{Over}
use Rattle.npp_lp.proofs.program.Program.row.Goals as goal

pub index-requires : goal.index-requires
index-requires g c =
    let rows : length c.args.self.now.rows ≡ length c.self.inside.spans.items =
    ap (λ p. length p.rows) (sym c.self.view_is) ∙ length-written_rows c.self.inside.entries.items c.self.inside.spans.items c.self.inside.right.items c.self.invariant.0 in
    omega arith

-- the row stands among the entries
stands : (g : Over) (c : goal.After-deref g) → (c.index.result.now.start ≤ c.index.result.now.end) × (c.index.result.now.end ≤ length c.deref.result.now)
stands g c =
    let rows : length c.args.self.now.rows ≡ length c.self.inside.spans.items =
    ap (λ p. length p.rows) (sym c.self.view_is) ∙ length-written_rows c.self.inside.entries.items c.self.inside.spans.items c.self.inside.right.items c.self.invariant.0 in
    let entries : length c.deref.result.now ≡ length c.self.inside.entries.items = ap length c.deref.ensures.value in
    let span = span_at (length c.self.inside.entries.items) c.self.inside.spans.items c.args.row c.index.result.now c.self.invariant.1 (omega arith) c.index.ensures in
    (span.0, omega (arith, span.1))

pub offset_bounds-deref-start : goal.offset_bounds-deref-start
offset_bounds-deref-start g c = let within = stands g c in omega (arith, within.0, within.1)

pub slice_bounds-result-count : goal.slice_bounds-result-count
slice_bounds-result-count g c = (stands g c).0

pub slice_bounds-result-start : goal.slice_bounds-result-start
slice_bounds-result-start g c = let within = stands g c in let up = within.0 in let to = within.1 in search rules

pub slice_bounds-result-end : goal.slice_bounds-result-end
slice_bounds-result-end g c = let within = stands g c in let up = within.0 in let to = within.1 in search rules

pub returns : goal.returns
returns g c =
    let rows : length c.args.self.now.rows ≡ length c.self.inside.spans.items =
    ap (λ p. length p.rows) (sym c.self.view_is) ∙ length-written_rows c.self.inside.entries.items c.self.inside.spans.items c.self.inside.right.items c.self.invariant.0 in
    let within : c.args.row < length c.self.inside.spans.items = omega arith in
    ap (λ es. spanned es c.index.result.now) c.deref.ensures.value
    ∙ sym (row_written c.self.inside.entries.items c.self.inside.spans.items c.args.row c.index.result.now within c.index.ensures)
    ∙ ap (λ ls. get_or ls c.args.row []) (sym (entries_written c.self.inside.entries.items c.self.inside.spans.items c.self.inside.right.items c.self.invariant.0) ∙ ap lists_of c.self.view_is)
