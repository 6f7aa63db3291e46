use Rattle.std.proofs.Common.{◌≡◌, length, map, Option, Some, None, ℕ, true, refl, sym, ◌∙◌, arith}
use Rattle.std.specs.Prelude.{if◌then◌else◌}
use Rattle.std.proofs.lemmas.List.{length-map}
use Rattle.npp_frac.specs.Rational.{zero_ℚ, is_less}
use Rattle.npp_lp.specs.Programs.{at}
use Rattle.npp_lp.specs.VerdictLaws.{first_below_found}
use Rattle.npp_lp.specs.ReadingLaws.{at-map}
use Rattle.npp_lp.proofs.numbers.first_negative.Goals as goal

pub returns-then-is_negative : goal.returns-then-is_negative
returns-then-is_negative g c =
    let v = g.N.Exact.rational in
    let f : ℕ → Option ℕ = λ i. if is_less (at (map v c.args.numbers.now) i) zero_ℚ then Some i else None in
    let read : at (map v c.args.numbers.now) c.loop-place.place ≡ v c.index-numbers-place.result =
    at-map v c.args.numbers.now c.loop-place.place c.index-numbers-place.result c.loop-place-test.true c.index-numbers-place.is in
    let below : is_less (v c.index-numbers-place.result) zero_ℚ ≡ true = sym c.is_negative.ensures ∙ c.if-is_negative.true in
    let here : f c.loop-place.place ≡ Some c.loop-place.place = rw (read, below) refl in
    sym (first_below_found f (length (map v c.args.numbers.now)) c.loop-place.place c.loop-place.place (omega (arith, length-map c.args.numbers.now v)) c.loop-place.invariant here)
