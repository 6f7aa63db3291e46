use Rattle.std.proofs.Common.{◌≡◌, ◌+◌, ◌<◌, ◌≤◌, ◌^◌, ◌++◌, ◌∷◌, [], length, sym, ◌∙◌, ap, subst, rules, arith}
use Rattle.npp_lp.specs.ProgramOver.{AreSpans}
use Rattle.npp_lp.specs.Building.{IsStarted, with_row}
use Rattle.npp_lp.specs.BuildingLaws.{started_row}
use Rattle.npp_lp.proofs.Writing.{length-written_rows, spans_push, row_ended}
use Rattle.npp_lp.proofs.builder.ProgramBuilder.end_row.Goals as goal

pub returns-clause-ok : goal.returns-clause-ok
returns-clause-ok g c =
    row_ended c.self.inside.columns c.self.inside.next c.self.inside.begin c.len-end.result c.self.inside.entries.items c.self.inside.spans.items c.push_reserved.new.self.items c.self.inside.right.items c.push_reserved-2.new.self.items c.args.right
    c.self.invariant.0
    (omega arith)
    (c.push_reserved.ensures.items ∙ ap (λ xs. xs ++ record { start = c.self.inside.begin; end = c.len-end.result } ∷ []) c.in_ok-reserve.ensures.items)
    (c.push_reserved-2.ensures.items ∙ ap (λ xs. xs ++ c.args.right ∷ []) c.in_ok-reserve-2.ensures.items)
    ∙ ap (λ s. with_row s c.args.right) c.self.view_is

pub invariant_of-self-2 : goal.invariant_of-self-2
invariant_of-self-2 g c =
    let v = g.N.Exact.rational in
    let rows : length c.args.self.now.rows ≡ length c.self.inside.spans.items =
    ap (λ s. length s.rows) (sym c.self.view_is) ∙ length-written_rows c.self.inside.entries.items c.self.inside.spans.items c.self.inside.right.items c.self.invariant.0 in
    let columns : c.args.self.now.columns ≡ c.self.inside.columns = ap (λ s. s.columns) (sym c.self.view_is) in
    let before : IsStarted v c.args.self.now = subst (IsStarted v) c.self.view_is c.self.invariant.3 in
    let few : c.args.self.now.columns + length c.args.self.now.rows + 1 < 2 ^ 31 = omega arith in
    let up : c.self.inside.begin ≤ c.len-end.result = omega arith in
    let pushed = c.push_reserved.ensures.items ∙ ap (λ xs. xs ++ record { start = c.self.inside.begin; end = c.len-end.result } ∷ []) c.in_ok-reserve.ensures.items in
    let spans = subst (AreSpans c.len-end.result) (sym pushed) (spans_push c.self.inside.begin c.len-end.result c.self.inside.spans.items (record { start = c.self.inside.begin; end = c.len-end.result }) up c.self.invariant.2 up (omega arith)) in
    (search rules, omega arith, spans, subst (IsStarted v) (sym (returns-clause-ok g c)) (started_row v c.args.self.now before c.args.right few))
