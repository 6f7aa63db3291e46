use Rattle.std.proofs.Common.{arith, refl, subst, ◌∙◌, ◌≡◌, ℕ, List}
use Rattle.std.specs.Prelude.{IsTrue, Ok}
use Rattle.std.specs.Str.Parse.{ParsesUnsigned}
use Rattle.std.proofs.lemmas.Fmt.{parse-decimal_wide}
use Rattle.npp_frac.proofs.Digits.{plain_of_decimal, IsUtf8-decimal, decimal_of_parsed}
use Rattle.npp_frac.proofs.text.whole_number.Goals as goal

pub returns-then-not-is_plain-clause-each : goal.returns-then-not-is_plain-clause-each
returns-then-not-is_plain-clause-each c n small e =
    let plain : IsTrue c.is_plain.result = c.is_plain.ensures.1 (plain_of_decimal c.args.digits.now n (omega arith) e) in
    cc

pub returns-in_default-clause-each : goal.returns-in_default-clause-each
returns-in_default-clause-each c n small e = absurd (c.in_default.ensures.cases.0 (IsUtf8-decimal c.args.digits.now n (omega arith) e))

pub returns-in_default-parse-clause-each : goal.returns-in_default-parse-clause-each
returns-in_default-parse-clause-each c n small e =
    absurd (c.in_default-parse.not-Ok n (parse-decimal_wide 128 n c.in-Ok.text.now c.parse.result (omega arith) (omega arith) (c.in-Ok.ensures.cases.0 ∙ e) c.parse.ensures.value.0))

pub returns-then-number-clause-text : goal.returns-then-number-clause-text
returns-then-number-clause-text c =
    let P : List ℕ → Type 0 = λ bs. ParsesUnsigned 128 10 bs c.parse.result in
    let parsed = subst P c.in-Ok.ensures.cases.0 c.parse.ensures.value.0 in
    (c.if-number.true, decimal_of_parsed c.args.digits.now c.in-Ok-parse.number c.parse.result c.in-Ok-parse.is parsed (c.if-not-is_plain.ensures.0 refl) (omega arith))

pub returns-then-number-clause-each : goal.returns-then-number-clause-each
returns-then-number-clause-each c n small e =
    let read : c.parse.result ≡ Ok n = parse-decimal_wide 128 n c.in-Ok.text.now c.parse.result (omega arith) (omega arith) (c.in-Ok.ensures.cases.0 ∙ e) c.parse.ensures.value.0 in
    cc

pub returns-else-number-clause-each : goal.returns-else-number-clause-each
returns-else-number-clause-each c n small e =
    let read : c.parse.result ≡ Ok n = parse-decimal_wide 128 n c.in-Ok.text.now c.parse.result (omega arith) (omega arith) (c.in-Ok.ensures.cases.0 ∙ e) c.parse.ensures.value.0 in
    let same : c.in-Ok-parse.number ≡ n = cc in
    absurd (omega (arith, c.if-number.false))
