use Rattle.std.proofs.Common.{map, set, pos, length, ap, ◌∙◌, arith}
use Rattle.std.proofs.lemmas.List.{length-map}
use Rattle.npp_lp.specs.Programs.{at}
use Rattle.npp_simplex.proofs.Rows.{at-set_same, at-set_other}
use Rattle.npp_simplex.proofs.LineForms.{whole_is, others_are, line_length}
use Rattle.npp_simplex.proofs.LinePivots.{whole_line, other_line, cleared_here, cleared_other}
use Rattle.npp_simplex.proofs.long.Long.clear_at.Goals as goal

pub returns-then-self-clause-here : goal.returns-then-self-clause-here
returns-then-self-clause-here g c =
    let a = c.self.inside in
    let e = c.if-self.true in
    let others = map g.N.Exact.rational a.fractions.items in
    let form = (c.self.invariant e).form e in
    let long = line_length a.is_whole a.denominator a.words.items others c.args.self.now c.self.view_is (λ e. (c.self.invariant e).room) in
    let room = (c.self.invariant e).room in
    whole_line a.is_whole a.denominator (set a.words.items c.args.j (pos 0)) others c.args.j e ∙ cleared_here a.denominator a.words.items form.above c.args.j (omega (arith, c.requires, long, room))

pub returns-then-self-clause-others : goal.returns-then-self-clause-others
returns-then-self-clause-others g c = λ k apart.
    let a = c.self.inside in
    let e = c.if-self.true in
    let others = map g.N.Exact.rational a.fractions.items in
    let form = (c.self.invariant e).form e in
    whole_line a.is_whole a.denominator (set a.words.items c.args.j (pos 0)) others k e ∙ cleared_other a.denominator a.words.items form.above c.args.j k apart
    ∙ ap (λ l. at l k) (whole_is a.is_whole a.denominator a.words.items others c.args.self.now c.self.view_is e)

pub returns-else-self-clause-here : goal.returns-else-self-clause-here
returns-else-self-clause-here g c =
    let a = c.self.inside in
    let v = g.N.Exact.rational in
    let long = line_length a.is_whole a.denominator a.words.items (map v a.fractions.items) c.args.self.now c.self.view_is (λ e. (c.self.invariant e).room) in
    other_line a.is_whole a.denominator a.words.items (map v (set a.fractions.items c.args.j c.zero.result)) c.args.j c.if-self.false
    ∙ at-set_same v a.fractions.items c.args.j c.zero.result (omega (arith, c.requires, long, length-map c.self.inside.fractions.items v)) ∙ c.zero.ensures

pub returns-else-self-clause-others : goal.returns-else-self-clause-others
returns-else-self-clause-others g c = λ k apart.
    let a = c.self.inside in
    let v = g.N.Exact.rational in
    other_line a.is_whole a.denominator a.words.items (map v (set a.fractions.items c.args.j c.zero.result)) k c.if-self.false
    ∙ at-set_other v a.fractions.items c.args.j k c.zero.result apart ∙ ap (λ l. at l k) (others_are a.is_whole a.denominator a.words.items (map v a.fractions.items) c.args.self.now c.self.view_is c.if-self.false)
