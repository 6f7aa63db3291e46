use Rattle.std.proofs.Common.{◌≡◌, ℕ, ◌<◌, ◌≤◌, ◌^◌, true, List, length, Option, Some, Result, Ok, refl, sym, ◌∙◌, ap, subst, arith, rules, IfSome}
use Rattle.std.specs.Char.{is_ascii_digit}
use Rattle.std.specs.List.{list_all}
use Rattle.std.specs.Result.{result_ok}
use Rattle.std.specs.Str.Parse.{digits_value, ParsesUnsigned}
use Rattle.std.proofs.lemmas.Bool.{le-leb}
use Rattle.std.proofs.lemmas.Bool.Decides.{nat_tests}
use Rattle.std.proofs.lemmas.Str.Parse.{IsNumeralModel, numerals_by_value, digits_value_short, parse_gives}
use Rattle.npp_cli.specs.Words.{number_of}
use Rattle.npp_cli.proofs.words.number_of.Goals as goal

-- texts of decimal digits and their values
digits : IsNumeralModel (λ text. list_all is_ascii_digit text ≡ true) (digits_value 10)
digits = numerals_by_value (λ text. list_all is_ascii_digit text ≡ true) (search rules)

small : (text : List ℕ) → list_all is_ascii_digit text ≡ true → length text ≤ 6 → digits_value 10 text < 10 ^ 6
small text all short = digits_value_short digits text 6 all short

read : {E : Type 0} (text : List ℕ) (r : Result ℕ E) → ParsesUnsigned 32 10 text r → list_all is_ascii_digit text ≡ true → 0 < length text → length text ≤ 6
    → r ≡ Ok (digits_value 10 text)
read text r parses all some short = parse_gives digits 32 text r parses all some (omega (arith, small text all short))

number_is : (text : List ℕ) → list_all is_ascii_digit text ≡ true → 0 < length text → length text ≤ 6 → number_of text ≡ Some (digits_value 10 text)
number_is text all some short = rw (le-leb 1 (length text) some, le-leb (length text) 6 short, all) refl

-- the text has one to six digits
digits_only : (c : goal.After-ok) → list_all is_ascii_digit c.args.text.now ≡ true
digits_only c = ap (list_all is_ascii_digit) (sym c.as_bytes.ensures.value) ∙ (sym c.are_digits.ensures ∙ c.if-not-are_digits.false)

some_digit : (c : goal.After-ok) → 0 < length c.args.text.now
some_digit c = grind (arith, nat_tests)

answered : (c : goal.After-ok) → c.ok.result ≡ Some (digits_value 10 c.args.text.now)
answered c =
    c.ok.ensures.value ∙ ap result_ok (read c.args.text.now c.parse.result c.parse.ensures.value.0 (digits_only c) (some_digit c) (omega arith))

pub returns-clause-value : goal.returns-clause-value
returns-clause-value c = answered c ∙ sym (number_is c.args.text.now (digits_only c) (some_digit c) (omega arith))

pub returns-clause-within : goal.returns-clause-within
returns-clause-within c =
    let few = small c.args.text.now (digits_only c) (omega arith) in
    subst (λ (o : Option ℕ). IfSome o (λ number. number ≤ 999999)) (sym (answered c)) (omega (arith, few))
