use Rattle.std.proofs.Common.{◌≡◌, drop, position, Some, None, sym, ◌∙◌, ap}
use Rattle.std.proofs.lemmas.List.{take_rest}
use Rattle.npp_reader.specs.Lines.{is_blank}
use Rattle.npp_reader.proofs.LineLemmas.{field_first, field_some, field_ends, fields_none}
use Rattle.npp_reader.proofs.line.next_field.Goals as goal

pub returns-in_err-start-clause-fields : goal.returns-in_err-start-clause-fields
returns-in_err-start-clause-fields c =
    rw c.from_residual.ensures (fields_none c.args.line.now (sym c.field_start.ensures ∙ c.in_err-start.was))

pub returns-in-Some-clause-fields : goal.returns-in-Some-clause-fields
returns-in-Some-clause-fields c =
    let at : position is_blank (drop c.in_ok-start.start c.args.line.now) ≡ Some c.in-Some.end
    = ap (position is_blank) (sym (take_rest c.args.line.now c.in_ok-start.start)) ∙ (sym c.blank.ensures ∙ c.in-Some.is) in
    simp take_rest (field_first c.args.line.now c.in_ok-start.start c.in-Some.end (sym c.field_start.ensures ∙ c.in_ok-start.was) at)

pub returns-in-Some-clause-some : goal.returns-in-Some-clause-some
returns-in-Some-clause-some c =
    let at : position is_blank (drop c.in_ok-start.start c.args.line.now) ≡ Some c.in-Some.end
    = ap (position is_blank) (sym (take_rest c.args.line.now c.in_ok-start.start)) ∙ (sym c.blank.ensures ∙ c.in-Some.is) in
    simp take_rest (field_some c.args.line.now c.in_ok-start.start c.in-Some.end (sym c.field_start.ensures ∙ c.in_ok-start.was) at)

pub returns-in-None-clause-fields : goal.returns-in-None-clause-fields
returns-in-None-clause-fields c =
    let at : position is_blank (drop c.in_ok-start.start c.args.line.now) ≡ None
    = ap (position is_blank) (sym (take_rest c.args.line.now c.in_ok-start.start)) ∙ (sym c.blank.ensures ∙ c.in-None.is) in
    simp take_rest (field_ends c.args.line.now c.in_ok-start.start (sym c.field_start.ensures ∙ c.in_ok-start.was) at)
