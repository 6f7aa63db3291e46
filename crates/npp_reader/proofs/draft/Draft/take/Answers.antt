use Rattle.std.proofs.Common.{◌≡◌, true, false, sym, ◌∙◌, ap, is_some}
use Rattle.std.specs.Str.{is_utf8}
use Rattle.npp_reader.specs.Lines.{fields_of}
use Rattle.npp_reader.specs.Grammar.{Declared}
use Rattle.npp_reader.proofs.GrammarLemmas.{line_bad, line_none, line_remark, line_word, line_header}
use Rattle.npp_reader.proofs.draft.Draft.take.Goals as goal

pub returns-then-not-is_utf8-clause-fault : goal.returns-then-not-is_utf8-clause-fault
returns-then-not-is_utf8-clause-fault c =
    let bad : is_utf8 c.args.line.now ≡ false = cc in
    line_bad c.args.self.now c.args.line.now bad

pub returns-in_default-clause-taken : goal.returns-in_default-clause-taken
returns-in_default-clause-taken c =
    let good : is_utf8 c.args.line.now ≡ true = cc in
    line_none c.args.self.now c.args.line.now good c.in_default.ensures.fields

pub returns-then-word-eq35-clause-taken : goal.returns-then-word-eq35-clause-taken
returns-then-word-eq35-clause-taken c =
    let good : is_utf8 c.args.line.now ≡ true = cc in
    line_remark c.args.self.now c.args.line.now c.in-Some.word.now (fields_of c.in-Some.rest.now) good c.in-Some.ensures.fields c.if-word-eq35.true

pub returns-then-is_some-clause-taken : goal.returns-then-is_some-clause-taken
returns-then-is_some-clause-taken c =
    let good : is_utf8 c.args.line.now ≡ true = cc in
    let named : is_some c.self.inside.format ≡ true = cc in
    let header : is_some c.args.self.now.format ≡ true = ap (λ (d : Declared). is_some d.format) (sym c.self.view_is) ∙ named in
    rw (line_word c.args.self.now c.args.line.now c.in-Some.word.now (fields_of c.in-Some.rest.now) good c.in-Some.ensures.fields c.if-word-eq35.false header) c.take_word.ensures.taken

pub returns-then-is_some-clause-fault : goal.returns-then-is_some-clause-fault
returns-then-is_some-clause-fault c =
    let good : is_utf8 c.args.line.now ≡ true = cc in
    let named : is_some c.self.inside.format ≡ true = cc in
    let header : is_some c.args.self.now.format ≡ true = ap (λ (d : Declared). is_some d.format) (sym c.self.view_is) ∙ named in
    simp (line_word c.args.self.now c.args.line.now c.in-Some.word.now (fields_of c.in-Some.rest.now) good c.in-Some.ensures.fields c.if-word-eq35.false header) c.take_word.ensures.fault

pub returns-else-is_some-clause-taken : goal.returns-else-is_some-clause-taken
returns-else-is_some-clause-taken c =
    let good : is_utf8 c.args.line.now ≡ true = cc in
    let named : is_some c.self.inside.format ≡ false = cc in
    let header : is_some c.args.self.now.format ≡ false = ap (λ (d : Declared). is_some d.format) (sym c.self.view_is) ∙ named in
    rw (line_header c.args.self.now c.args.line.now c.in-Some.word.now (fields_of c.in-Some.rest.now) good c.in-Some.ensures.fields c.if-word-eq35.false header) c.take_header.ensures.taken

pub returns-else-is_some-clause-fault : goal.returns-else-is_some-clause-fault
returns-else-is_some-clause-fault c =
    let good : is_utf8 c.args.line.now ≡ true = cc in
    let named : is_some c.self.inside.format ≡ false = cc in
    let header : is_some c.args.self.now.format ≡ false = ap (λ (d : Declared). is_some d.format) (sym c.self.view_is) ∙ named in
    simp (line_header c.args.self.now c.args.line.now c.in-Some.word.now (fields_of c.in-Some.rest.now) good c.in-Some.ensures.fields c.if-word-eq35.false header) c.take_header.ensures.fault
