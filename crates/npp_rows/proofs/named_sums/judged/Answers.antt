use Rattle.std.proofs.Common.{◌≡◌, true, false, sym, ◌∙◌, refl}
use Rattle.npp_frac.specs.Rational.{is_less, zero_ℚ}
use Rattle.npp_rows.specs.RowOrder.{has_row}
use Rattle.npp_rows.specs.Taken.{is_after}
use Rattle.npp_rows.proofs.RowPlaces.{place_has, no_place_has}
use Rattle.npp_rows.proofs.named_sums.judged.Goals as goal

pub returns-in_default : goal.returns-in_default
returns-in_default g c = λ rows e.
    let h : has_row rows c.args.multiplier.row ≡ false = no_place_has rows c.args.multiplier.row (sym e ∙ c.in_default.is) in
    rw h refl

pub returns-then-not-is_after : goal.returns-then-not-is_after
returns-then-not-is_after g c = λ rows e.
    let h : has_row rows c.args.multiplier.row ≡ true = (place_has rows c.args.multiplier.row c.in-Some.place (sym e ∙ c.in-Some.is)).1 in
    let a : is_after c.args.last c.args.multiplier.row ≡ false = sym c.is_after.ensures ∙ c.if-not-is_after.true in
    rw (h, a) refl

pub returns-then-not-is_positive : goal.returns-then-not-is_positive
returns-then-not-is_positive g c = λ rows e.
    let h : has_row rows c.args.multiplier.row ≡ true = (place_has rows c.args.multiplier.row c.in-Some.place (sym e ∙ c.in-Some.is)).1 in
    let a : is_after c.args.last c.args.multiplier.row ≡ true = sym c.is_after.ensures ∙ c.if-not-is_after.false in
    let p : is_less zero_ℚ (g.N.Exact.rational c.args.multiplier.value) ≡ false = sym c.is_positive.ensures ∙ c.if-not-is_positive.true in
    rw (h, a, p) refl

pub returns : goal.returns
returns g c = λ rows e.
    let h : has_row rows c.args.multiplier.row ≡ true = (place_has rows c.args.multiplier.row c.in-Some.place (sym e ∙ c.in-Some.is)).1 in
    let a : is_after c.args.last c.args.multiplier.row ≡ true = sym c.is_after.ensures ∙ c.if-not-is_after.false in
    let p : is_less zero_ℚ (g.N.Exact.rational c.args.multiplier.value) ≡ true = sym c.is_positive.ensures ∙ c.if-not-is_positive.false in
    (c.in-Some.is, rw (h, a, p) refl)
