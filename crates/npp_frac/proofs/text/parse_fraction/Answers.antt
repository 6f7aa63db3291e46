use Rattle.std.proofs.Common.{arith, refl, ap, sym, ◌∙◌, pos, nat_abs}
use Rattle.std.specs.Prelude.{neg_ℤ}
use Rattle.npp_frac.specs.Rational.{same_fields}
use Rattle.npp_frac.specs.Wide.{value_of_wide}
use Rattle.npp_frac.specs.WideLaws.{wide_fits}
use Rattle.npp_frac.proofs.Pairs.{signed_pair, unsigned_pair, text_of_signed, text_of_unsigned, tail_is, pair_along, some_pair}
use Rattle.npp_frac.proofs.text.parse_fraction.Goals as goal

pub returns-in_err-num-clause-each : goal.returns-in_err-num-clause-each
returns-in_err-num-clause-each c q t =
    let p = signed_pair c.args.bytes.now q t.fits (c.if-is_negative.ensures.0 refl) t.text in
    cc (c.in_err-num.ensures.each _ _ (pair_along _ _ _ _ (sym (tail_is c.args.bytes.now 1)) p.pair))

pub returns-then-num-eq0-clause-each : goal.returns-then-num-eq0-clause-each
returns-then-num-eq0-clause-each c q t =
    let p = signed_pair c.args.bytes.now q t.fits (c.if-is_negative.ensures.0 refl) t.text in
    let same = some_pair c.in_ok-num.num c.in_ok-num.den (nat_abs q.num) q.den (c.in_ok-num.ensures.each _ _ (pair_along _ _ _ _ (sym (tail_is c.args.bytes.now 1)) p.pair)) in
    omega (arith, p.some, same.0, c.if-num-eq0.true)

pub returns-in_err-num-2-clause-each : goal.returns-in_err-num-2-clause-each
returns-in_err-num-2-clause-each c q t =
    let p = unsigned_pair c.args.bytes.now q t.fits (λ h. let bad = c.if-is_negative.ensures.1 h in cc) t.text in
    cc (c.in_err-num-2.ensures.each _ _ p.pair)

pub returns-else-num-eq0-clause-text : goal.returns-else-num-eq0-clause-text
returns-else-num-eq0-clause-text c =
    record { fits = wide_fits c.signed.result; text = text_of_signed c.args.bytes.now (value_of_wide c.signed.result) c.in_ok-num.num c.in_ok-num.den (c.if-is_negative.ensures.0 refl) (pair_along _ _ _ _ (tail_is c.args.bytes.now 1) c.in_ok-num.ensures.text) (omega (arith, c.if-num-eq0.false)) c.signed.ensures.num c.signed.ensures.den }

pub returns-else-num-eq0-clause-each : goal.returns-else-num-eq0-clause-each
returns-else-num-eq0-clause-each c q t =
    let p = signed_pair c.args.bytes.now q t.fits (c.if-is_negative.ensures.0 refl) t.text in
    let same = some_pair c.in_ok-num.num c.in_ok-num.den (nat_abs q.num) q.den (c.in_ok-num.ensures.each _ _ (pair_along _ _ _ _ (sym (tail_is c.args.bytes.now 1)) p.pair)) in
    same_fields _ _ (c.signed.ensures.num ∙ ap (λ t. neg_ℤ (pos t)) same.0 ∙ p.sign) (c.signed.ensures.den ∙ same.1)

pub returns-in_ok-num-2-clause-text : goal.returns-in_ok-num-2-clause-text
returns-in_ok-num-2-clause-text c =
    record { fits = wide_fits c.signed-else-is_negative.result; text = text_of_unsigned c.args.bytes.now (value_of_wide c.signed-else-is_negative.result) c.in_ok-num-2.num c.in_ok-num-2.den c.in_ok-num-2.ensures.text c.signed-else-is_negative.ensures.num c.signed-else-is_negative.ensures.den }

pub returns-in_ok-num-2-clause-each : goal.returns-in_ok-num-2-clause-each
returns-in_ok-num-2-clause-each c q t =
    let p = unsigned_pair c.args.bytes.now q t.fits (λ h. let bad = c.if-is_negative.ensures.1 h in cc) t.text in
    let same = some_pair c.in_ok-num-2.num c.in_ok-num-2.den (nat_abs q.num) q.den (c.in_ok-num-2.ensures.each _ _ p.pair) in
    same_fields _ _ (c.signed-else-is_negative.ensures.num ∙ ap pos same.0 ∙ p.sign) (c.signed-else-is_negative.ensures.den ∙ same.1)
