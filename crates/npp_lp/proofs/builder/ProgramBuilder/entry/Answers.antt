use Rattle.std.proofs.Common.{◌≡◌, ◌+◌, length, drop, sym, ◌∙◌, ap, ap₂, subst, arith}
use Rattle.std.proofs.lemmas.List.{length-append, drop-append-le}
use Rattle.npp_lp.specs.ProgramOver.{written_rows}
use Rattle.npp_lp.specs.Building.{IsStarted, entry_at, with_entry}
use Rattle.npp_lp.specs.BuildingLaws.{started_entry}
use Rattle.npp_lp.proofs.Writing.{spans_among, written_more}
use Rattle.npp_lp.proofs.builder.ProgramBuilder.entry.Goals as goal

pub returns-clause-ok : goal.returns-clause-ok
returns-clause-ok g c =
    let b = c.self.inside in
    let es = b.entries.items in
    let more = entry_at g.N.Exact.rational c.args.column c.args.value in
    ap (λ xs. record { columns = b.columns; rows = written_rows xs b.spans.items b.right.items; entries = drop b.begin xs; next = c.args.column + 1 }) c.in_ok-push_unless_zero.ensures.ok
    ∙ ap₂ (λ rows xs. record { columns = b.columns; rows = rows; entries = xs; next = c.args.column + 1 })
    (written_more es more b.spans.items b.right.items (spans_among b.begin (length es) b.spans.items c.self.invariant.1 c.self.invariant.2))
    (drop-append-le b.begin es more c.self.invariant.1)
    ∙ ap (λ s. with_entry g.N.Exact.rational s c.args.column c.args.value) c.self.view_is

pub invariant_of-self-2 : goal.invariant_of-self-2
invariant_of-self-2 g c =
    let v = g.N.Exact.rational in
    let es = c.self.inside.entries.items in
    let more = entry_at v c.args.column c.args.value in
    let longer : length c.push_unless_zero.new.entries.items ≡ length es + length more = ap length c.in_ok-push_unless_zero.ensures.ok ∙ length-append es more in
    let before : IsStarted v c.args.self.now = subst (IsStarted v) c.self.view_is c.self.invariant.3 in
    (c.self.invariant.0, omega arith, c.self.invariant.2, subst (IsStarted v) (sym (returns-clause-ok g c)) (started_entry v c.args.self.now before c.args.column c.args.value c.requires.rising c.requires.within))
