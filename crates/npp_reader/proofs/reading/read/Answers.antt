use Rattle.std.proofs.Common.{inr, ℕ, List, Ok, Err, ◌≡◌, sym, ◌∙◌, ap, arith, subst}
use Rattle.std.proofs.lemmas.Bool.Decides.{nat_tests}
use Rattle.npp_reader.specs.Lines.{lines_of}
use Rattle.npp_reader.specs.Reading.{reading_from, reading_of}
use Rattle.npp_reader.specs.Taking.{refusal_at}
use Rattle.npp_reader.proofs.ReadLemmas.{nothing_within, reading_begins, reading_step, reading_ends, none_left, refused_end, refused_line, IsAnswer}
use Rattle.npp_reader.proofs.DocumentLemmas.{document_declared}
use Rattle.npp_reader.proofs.FaultLemmas.{accepted, refused_answer}
use Rattle.npp_reader.proofs.WithinLemmas.{line_within}
use Rattle.npp_reader.proofs.reading.read.Goals as goal

pub loop-rest-init : goal.loop-rest-init
loop-rest-init c = rw c.new-draft.ensures (reading_begins c.args.bytes.now, omega arith, nothing_within)

pub loop-rest-preserved : goal.loop-rest-preserved
loop-rest-preserved c =
    let rest = lines_of c.split_line.result.1.now in
    let step = reading_step c.loop-rest.line c.loop-rest.draft c.split_line.result.0.now rest c.take.new.self c.in_default.ensures.taken in (
      sym step ∙ (ap (reading_from c.loop-rest.line c.loop-rest.draft) (sym c.split_line.ensures.first) ∙ c.loop-rest.invariant.0),
      omega (arith, c.loop-rest.invariant.1, c.split_line.ensures.shorter),
      line_within c.loop-rest.draft c.take.new.self c.loop-rest.invariant.2 c.split_line.result.0.now c.in_default.ensures.taken,
    )

-- the document is what the bytes stand for
stands : (c : goal.In-Ok) → Ok c.in-Ok.document ≡ reading_of c.args.bytes.now
stands c =
    let none = none_left c.loop-rest.rest.now (grind (arith, nat_tests)) in
    sym (reading_ends c.loop-rest.line c.loop-rest.draft c.in-Ok.document c.in-Ok.ensures.document)
    ∙ (ap (λ (bytes : List ℕ). reading_from c.loop-rest.line c.loop-rest.draft (lines_of bytes)) (sym none) ∙ c.loop-rest.invariant.0)

pub returns-in-Ok-clause-answer : goal.returns-in-Ok-clause-answer
returns-in-Ok-clause-answer c = inr (stands c)

pub returns-in-Ok-clause-declared : goal.returns-in-Ok-clause-declared
returns-in-Ok-clause-declared c = document_declared c.args.bytes.now c.in-Ok.document (sym (stands c))

pub returns-in-Ok-clause-accepted : goal.returns-in-Ok-clause-accepted
returns-in-Ok-clause-accepted c = accepted c.args.bytes.now c.in-Ok.document (sym (stands c))

-- the refusal of the end is what the bytes stand for
ends : (c : goal.After-at-in-Err-finish) → IsAnswer (Err c.at-in-Err-finish.result) (reading_of c.args.bytes.now)
ends c =
    let none = none_left c.loop-rest.rest.now (grind (arith, nat_tests)) in
    let back = ap (λ (bytes : List ℕ). reading_from c.loop-rest.line c.loop-rest.draft (lines_of bytes)) (sym none) ∙ c.loop-rest.invariant.0 in
    rw c.at-in-Err-finish.ensures
    (subst (IsAnswer (Err (refusal_at c.loop-rest.line c.in-Err-finish.fault))) back
    (refused_end c.loop-rest.line c.loop-rest.draft c.in-Err-finish.fault c.in-Err-finish.ensures.fault))

pub returns-in-Err-finish-clause-answer : goal.returns-in-Err-finish-clause-answer
returns-in-Err-finish-clause-answer c = ends c

pub returns-in-Err-finish-clause-refused : goal.returns-in-Err-finish-clause-refused
returns-in-Err-finish-clause-refused c = refused_answer c.args.bytes.now c.at-in-Err-finish.result (ends c)

pub returns-in-Err-clause-refused : goal.returns-in-Err-clause-refused
returns-in-Err-clause-refused c =
    let lines = lines_of c.split_line.result.1.now in
    let back = ap (reading_from c.loop-rest.line c.loop-rest.draft) (sym c.split_line.ensures.first) ∙ c.loop-rest.invariant.0 in
    rw c.at.ensures (refused_answer c.args.bytes.now (refusal_at c.loop-rest.line c.in-Err.fault)
    (subst (IsAnswer (Err (refusal_at c.loop-rest.line c.in-Err.fault))) back
    (refused_line c.loop-rest.line c.loop-rest.draft c.split_line.result.0.now lines c.in-Err.fault c.in-Err.ensures.fault)))
