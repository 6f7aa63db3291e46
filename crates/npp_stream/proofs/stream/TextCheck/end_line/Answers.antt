use Rattle.std.proofs.Common.{◌≡◌, ◌∙◌, sym, subst, ℕ, List, [], ◌∷◌, ◌++◌, false, Err, arith, append-nil}
use Rattle.std.proofs.lemmas.Bool.Decides.{nat_tests}
use Rattle.std.proofs.lemmas.List.{nil_from_length}
use Rattle.std.proofs.lemmas.List.Elements.{All-nil}
use Rattle.npp_frac.specs.Fits.{limit_of}
use Rattle.npp_cert_text.specs.Lines.{is_line_feed}
use Rattle.npp_stream.specs.declared.stream.TextCheck.{TextCheck}
use Rattle.npp_stream.specs.Stream.{HasNoLineFeed, RefusesLine}
use Rattle.npp_stream.proofs.PieceLemmas.{Taken, IsJudged, takes_then, refuses_then, passed_on, line_ends, line_refused}
use Rattle.npp_stream.proofs.stream.TextCheck.end_line.Goals as goal

nothing : HasNoLineFeed []
nothing = All-nil (λ b. is_line_feed b ≡ false)

pub returns-then-is_empty : goal.returns-then-is_empty
returns-then-is_empty c =
    let old : TextCheck = c.args.self.now in
    let new : TextCheck = record { lines = c.judge.new.self; «open» = old.open } in
    let none : old.open.items ≡ [] = nil_from_length old.open.items (grind (arith, nat_tests)) in
    line_ends old new c.args.bytes.now c.judge.result c.requires none
    (subst (λ (o : List ℕ). IsJudged old (o ++ c.args.bytes.now) new c.judge.result) (sym none) c.judge.ensures)

pub returns-in_err-go_on : goal.returns-in_err-go_on
returns-in_err-go_on c =
    passed_on c.args.self.now c.go_on.new.self (c.args.bytes.now ++ 10 ∷ []) c.in_err-go_on.field-0.0 c.from_residual.result c.from_residual.ensures.1
    (refuses_then c.args.self.now c.go_on.new.self c.go_on.new.self c.args.bytes.now (10 ∷ []) c.in_err-go_on.field-0.0 c.in_err-go_on.ensures)

pub returns-in_err-judge : goal.returns-in_err-judge
returns-in_err-judge c =
    let mid : TextCheck = c.go_on.new.self in
    let new : TextCheck = record { lines = c.judge-2.new.self; «open» = mid.open } in
    let line = c.deref.ensures.value ∙ sym (append-nil mid.open.items) in
    let refused = line_refused mid new [] c.in_err-judge.field-0.0 nothing
    (subst (λ (l : List ℕ). RefusesLine (limit_of 128) mid.lines.checker mid.lines.number l c.in_err-judge.field-0.0) line c.in_err-judge.ensures) in
    passed_on c.args.self.now new (c.args.bytes.now ++ 10 ∷ []) c.in_err-judge.field-0.0 c.from_residual-in_err-judge.result c.from_residual-in_err-judge.ensures.1
    (takes_then c.args.self.now mid new c.args.bytes.now (10 ∷ []) (Err c.in_err-judge.field-0.0) c.in_ok-go_on.ensures refused)

pub returns : goal.returns
returns c =
    let mid : TextCheck = c.go_on.new.self in
    let new : TextCheck = record { lines = c.judge-2.new.self; «open» = c.clear.new.self } in
    let line = c.deref.ensures.value ∙ sym (append-nil mid.open.items) in
    let ended = line_ends mid new [] Taken nothing c.clear.ensures.items
    (subst (λ (l : List ℕ). IsJudged mid l new Taken) line c.in_ok-judge.ensures) in
    takes_then c.args.self.now mid new c.args.bytes.now (10 ∷ []) Taken c.in_ok-go_on.ensures ended
