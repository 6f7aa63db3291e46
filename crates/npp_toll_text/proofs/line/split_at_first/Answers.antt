use Rattle.std.proofs.Common.{◌≡◌, ◌∙◌, sym, ap, length, position, ◌==◌, ◌+◌, Some}
use Rattle.std.proofs.lemmas.List.{take_rest}
use Rattle.std.proofs.lemmas.List.Quantifiers.{position-Some}
use Rattle.std.proofs.lemmas.Bool.{eqb-true}
use Rattle.npp_toll_text.proofs.ByteLemmas.{position_behind, parts_at, parts_joined}
use Rattle.npp_toll_text.proofs.line.split_at_first.Goals as goal

pub returns-in_err-at-clause-each : goal.returns-in_err-at-clause-each
returns-in_err-at-clause-each c before behind e lacks =
    let at : position (λ b. b == c.args.byte) c.args.bytes.now ≡ Some (length before) = ap (position (λ b. b == c.args.byte)) e ∙ position_behind c.args.byte before behind lacks in
    absurd (cc (c.first_place.ensures, c.in_err-at.was))

pub returns-clause-parts : goal.returns-clause-parts
returns-clause-parts c =
    let at = position-Some (λ b. b == c.args.byte) c.args.bytes.now c.in_ok-at.at 0 (sym c.first_place.ensures ∙ c.in_ok-at.was) in
    simp take_rest (parts_joined c.args.bytes.now c.args.byte c.in_ok-at.at at.0 (eqb-true _ _ at.1))

pub returns-clause-each : goal.returns-clause-each
returns-clause-each c before behind e lacks =
    let at : position (λ b. b == c.args.byte) c.args.bytes.now ≡ Some (length before) = ap (position (λ b. b == c.args.byte)) e ∙ position_behind c.args.byte before behind lacks in
    let same : c.in_ok-at.at ≡ length before = cc (c.first_place.ensures, c.in_ok-at.was) in
    let parts = parts_at c.args.bytes.now before behind c.args.byte c.in_ok-at.at e same in
    (parts.0, take_rest c.args.bytes.now (c.in_ok-at.at + 1) ∙ parts.1)
