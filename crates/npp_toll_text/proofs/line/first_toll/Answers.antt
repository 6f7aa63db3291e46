use Rattle.std.proofs.Common.{◌≡◌, ◌<◌, ◌^◌, ◌∷◌, ◌++◌, codes, Some, sym, ◌∙◌, ap, arith}
use Rattle.std.specs.Fmt.{decimal}
use Rattle.std.proofs.lemmas.Bool.Decides.{Decides-eqb}
use Rattle.std.proofs.lemmas.Slice.Eq.{strip_prefix_is}
use Rattle.npp_frac.specs.FractionText.{fraction_text}
use Rattle.npp_frac.specs.Rational.{whole}
use Rattle.npp_frac.specs.Wide.{value_of_wide}
use Rattle.npp_toll_text.proofs.TextLemmas.{fields_are, is_number_text, of_number_text, number_lacks_blank, toll_lacks_line_feed, toll_line_parts}
use Rattle.npp_toll_text.proofs.line.first_toll.Goals as goal

pub returns-in_err-name-clause-each : goal.returns-in_err-name-clause-each
returns-in_err-name-clause-each c toll after fits e =
    let fields = fields_are c.args.bytes.now c.in_ok-fields.fields.now c.args.number toll after c.in_ok-fields.ensures.cases.1 e in
    absurd (c.in_err-name.ensures.each (decimal c.args.number) (fraction_text toll ++ 10 ∷ after) fields (number_lacks_blank c.args.number (omega arith)))

pub returns-in_err-parse_fraction-clause-each : goal.returns-in_err-parse_fraction-clause-each
returns-in_err-parse_fraction-clause-each c toll after fits e =
    let fields = fields_are c.args.bytes.now c.in_ok-fields.fields.now c.args.number toll after c.in_ok-fields.ensures.cases.1 e in
    let parts = c.in_ok-name.ensures.each (decimal c.args.number) (fraction_text toll ++ 10 ∷ after) fields (number_lacks_blank c.args.number (omega arith)) in
    absurd (c.in_err-parse_fraction.ensures.each _ (is_number_text c.in_ok-name.name.now c.args.number (omega arith) parts.0))

pub returns-then-not-is_number-clause-each : goal.returns-then-not-is_number-clause-each
returns-then-not-is_number-clause-each c toll after fits e =
    let fields = fields_are c.args.bytes.now c.in_ok-fields.fields.now c.args.number toll after c.in_ok-fields.ensures.cases.1 e in
    let parts = c.in_ok-name.ensures.each (decimal c.args.number) (fraction_text toll ++ 10 ∷ after) fields (number_lacks_blank c.args.number (omega arith)) in
    let yes = c.is_number.ensures.1 (c.in_ok-parse_fraction.ensures.each _ (is_number_text c.in_ok-name.name.now c.args.number (omega arith) parts.0)) in
    cc

pub returns-in_err-value-clause-each : goal.returns-in_err-value-clause-each
returns-in_err-value-clause-each c toll after fits e =
    let fields = fields_are c.args.bytes.now c.in_ok-fields.fields.now c.args.number toll after c.in_ok-fields.ensures.cases.1 e in
    let parts = c.in_ok-name.ensures.each (decimal c.args.number) (fraction_text toll ++ 10 ∷ after) fields (number_lacks_blank c.args.number (omega arith)) in
    absurd (c.in_err-value.ensures.each (fraction_text toll) after parts.1 (toll_lacks_line_feed toll fits))

pub returns-in_err-parse_fraction-2-clause-each : goal.returns-in_err-parse_fraction-2-clause-each
returns-in_err-parse_fraction-2-clause-each c toll after fits e =
    let fields = fields_are c.args.bytes.now c.in_ok-fields.fields.now c.args.number toll after c.in_ok-fields.ensures.cases.1 e in
    let parts = c.in_ok-name.ensures.each (decimal c.args.number) (fraction_text toll ++ 10 ∷ after) fields (number_lacks_blank c.args.number (omega arith)) in
    let ends = c.in_ok-value.ensures.each (fraction_text toll) after parts.1 (toll_lacks_line_feed toll fits) in
    absurd (c.in_err-parse_fraction-2.ensures.each toll (record { fits = fits; text = ends.0 }))

pub returns-clause-each : goal.returns-clause-each
returns-clause-each c toll after fits e =
    let fields = fields_are c.args.bytes.now c.in_ok-fields.fields.now c.args.number toll after c.in_ok-fields.ensures.cases.1 e in
    let parts = c.in_ok-name.ensures.each (decimal c.args.number) (fraction_text toll ++ 10 ∷ after) fields (number_lacks_blank c.args.number (omega arith)) in
    let ends = c.in_ok-value.ensures.each (fraction_text toll) after parts.1 (toll_lacks_line_feed toll fits) in
    (c.in_ok-parse_fraction-2.ensures.each toll (record { fits = fits; text = ends.0 }), ends.1)

pub returns-clause-text : goal.returns-clause-text
returns-clause-text c =
    let toll = value_of_wide c.in_ok-parse_fraction-2.field-0 in
    let begins : c.args.bytes.now ≡ codes "toll " ++ c.in_ok-fields.fields.now = strip_prefix_is Decides-eqb c.args.bytes.now (codes "toll ") (Some c.in_ok-fields.fields) c.in_ok-fields.ensures.cases in
    let name = of_number_text c.in_ok-name.name.now c.args.number _ (c.is_number.ensures.0 cc) c.in_ok-parse_fraction.ensures.text in
    begins
    ∙ ap (λ x. codes "toll " ++ x) (c.in_ok-name.ensures.parts ∙ ap (λ x. x ++ 32 ∷ c.in_ok-name.rest.now) name
    ∙ ap (λ x. decimal c.args.number ++ 32 ∷ x) (c.in_ok-value.ensures.parts ∙ ap (λ x. x ++ 10 ∷ c.in_ok-value.after.now) c.in_ok-parse_fraction-2.ensures.text.text))
    ∙ sym (toll_line_parts c.args.number (value_of_wide c.in_ok-parse_fraction-2.field-0) c.in_ok-value.after.now)
