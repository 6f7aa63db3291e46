use Rattle.std.proofs.Common.{set, pos, length, ap, ◌∙◌, arith}
use Rattle.npp_lp.specs.Programs.{at}
use Rattle.npp_simplex.proofs.LineForms.{whole_is, line_length}
use Rattle.npp_simplex.proofs.LinePivots.{whole_line, cleared_here, cleared_other}
use Rattle.npp_simplex.proofs.line.Line.clear_at.Goals as goal

pub returns-then-self-clause-here : goal.returns-then-self-clause-here
returns-then-self-clause-here g c =
    let a = c.self.inside in
    let e = c.if-self.true in
    let form = c.self.invariant.form e in
    let long = line_length a.is_whole a.denominator a.words.items a.long c.args.self.now c.self.view_is (λ e. c.self.invariant.room) in
    whole_line a.is_whole a.denominator (set a.words.items c.args.j (pos 0)) a.long c.args.j e ∙ cleared_here a.denominator a.words.items form.above c.args.j (omega (arith, c.requires, long, c.self.invariant.room))

pub returns-then-self-clause-others : goal.returns-then-self-clause-others
returns-then-self-clause-others g c = λ k apart.
    let a = c.self.inside in
    let e = c.if-self.true in
    let form = c.self.invariant.form e in
    whole_line a.is_whole a.denominator (set a.words.items c.args.j (pos 0)) a.long k e ∙ cleared_other a.denominator a.words.items form.above c.args.j k apart
    ∙ ap (λ l. at l k) (whole_is a.is_whole a.denominator a.words.items a.long c.args.self.now c.self.view_is e)
