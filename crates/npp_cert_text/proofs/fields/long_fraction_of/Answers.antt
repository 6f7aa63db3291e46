use Rattle.std.proofs.Common.{◌≡◌, ◌∙◌, ap, refl, Option, Some, None, List, ℕ}
use Rattle.std.specs.Prelude.{MatchOption, IfSome, IsSomeAnd}
use Rattle.npp_frac.specs.declared.frac128.Frac128.{Frac128}
use Rattle.npp_frac.specs.FractionText.{IsFractionText}
use Rattle.npp_frac.specs.Rational.{Rational}
use Rattle.npp_frac.specs.Wide.{value_of_wide}
use Rattle.npp_cert_text.specs.Values.{fraction_in}
use Rattle.npp_cert_text.proofs.ValueLemmas.{fraction_read, fraction_again}
use Rattle.npp_cert_text.proofs.fields.long_fraction_of.Goals as goal

read_so : (field : List ℕ) (r : Option Frac128) → IfSome r (λ f. IsFractionText field (value_of_wide f)) → ((q : Rational) → IsFractionText field q → IsSomeAnd r (λ f. value_of_wide f ≡ q))
    → MatchOption r (fraction_in field ≡ None) (λ f. fraction_in field ≡ Some (value_of_wide f))
read_so field (Some f) text each = ap fraction_in text.text ∙ fraction_again (value_of_wide f) text.fits
read_so field None text each = go (fraction_in field) refl
  where
    go : (o : Option Rational) → fraction_in field ≡ o → fraction_in field ≡ None
    go None e = e
    go (Some q) e = let read = fraction_read q field e in absurd (each q (record { fits = read.1; text = read.0 }))

pub returns : goal.returns
returns c = read_so c.args.field.now c.parse_fraction.result c.parse_fraction.ensures.text c.parse_fraction.ensures.each
