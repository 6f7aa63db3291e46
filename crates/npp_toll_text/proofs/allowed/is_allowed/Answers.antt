use Rattle.std.proofs.Common.{◌≡◌, ℕ, subst, sym, ◌∙◌, ap, refl, pos, Bool, true, false, not}
use Rattle.npp_frac.specs.Order.{is_less_no, is_less_of_≤ℚ}
use Rattle.npp_frac.specs.Rational.{whole, zero_ℚ, is_less, ◌≤ℚ◌}
use Rattle.npp_frac.specs.Wide.{value_of_wide}
use Rattle.npp_frac.specs.WideLaws.{wide_fits}
use Rattle.npp_toll_text.proofs.allowed.is_allowed.Goals as goal

false_of_not : (b : Bool) → not b ≡ true → b ≡ false
false_of_not true e = cc
false_of_not false e = refl

pub returns-then-is_negative : goal.returns-then-is_negative
returns-then-is_negative c =
    (λ t. absurd cc, λ h. let least : is_less (value_of_wide c.args.value) zero_ℚ ≡ false = is_less_of_≤ℚ (value_of_wide c.args.value) zero_ℚ h.not_negative in cc (c.is_negative.ensures, c.if-is_negative.true))

pub returns-in-None : goal.returns-in-None
returns-in-None c = (
  λ t. record {
    fits = wide_fits c.args.value;
    not_negative = is_less_no (value_of_wide c.args.value) zero_ℚ (sym c.is_negative.ensures ∙ c.if-is_negative.false);
    ceiling = λ u e. absurd (cc (c.in-None.ensures));
  },
  λ h. refl,
)

pub returns-in-Some : goal.returns-in-Some
returns-in-Some c =
    let test : c.is_below.result ≡ is_less (whole (pos c.in-Some.ceiling)) (value_of_wide c.args.value) = c.is_below.ensures ∙ ap (λ q. is_less q (value_of_wide c.args.value)) c.fraction_of.ensures in (
      λ t. record {
        fits = wide_fits c.args.value;
        not_negative = is_less_no (value_of_wide c.args.value) zero_ℚ (sym c.is_negative.ensures ∙ c.if-is_negative.false);
        ceiling = λ u e.
            let same : c.in-Some.ceiling ≡ u = cc (c.in-Some.ensures) in
            let low : c.is_below.result ≡ false = false_of_not c.is_below.result t in
            let P : ℕ → Type 0 = λ n. value_of_wide c.args.value ≤ℚ whole (pos n) in
            subst P same (is_less_no _ _ (sym test ∙ low));
      },
      λ h. let low : is_less (whole (pos c.in-Some.ceiling)) (value_of_wide c.args.value) ≡ false = is_less_of_≤ℚ _ _ (h.ceiling c.in-Some.ceiling (sym c.in-Some.ensures)) in ap not (test ∙ low),
    )
