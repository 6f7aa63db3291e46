use Rattle.std.proofs.Common.{◌≡◌, ◌<◌, ◌≤◌, ◌*◌, ◌^◌, ap, sym, ◌%◌, arith, rules, ◌∙◌}
use Rattle.std.proofs.Math.Nat.{mod-eq_of_lt}
use Rattle.npp_frac.specs.Gcd.{gcd, gcd_comm, gcd_le}
use Rattle.npp_frac.proofs.Halving.{shifted_whole, shifted_odd, gcd-zero, gcd-shifted}
use Rattle.npp_frac.proofs.gcd.gcd_of_words.Goals as goal

pub returns-then-x-eq0 : goal.returns-then-x-eq0
returns-then-x-eq0 c =
    let y = c.nearer-x.result.1 in
    sym (gcd-zero y) ∙ gcd_comm y 0 ∙ ap (λ t. gcd t y) (sym c.if-x-eq0.true) ∙ c.nearer-x.ensures

pub returns-then-y-eq0 : goal.returns-then-y-eq0
returns-then-y-eq0 c =
    let x = c.nearer-x.result.0 in
    sym (gcd-zero x) ∙ ap (λ t. gcd x t) (sym c.if-y-eq0.true) ∙ c.nearer-x.ensures

pub gcd_of_odd-requires-clause-a_odd : goal.gcd_of_odd-requires-clause-a_odd
gcd_of_odd-requires-clause-a_odd c =
    let fits : c.nearer-x.result.0 < 2 ^ 64 = search rules in
    shifted_odd c.nearer-x.result.0 (omega arith) fits

pub gcd_of_odd-requires-clause-b_odd : goal.gcd_of_odd-requires-clause-b_odd
gcd_of_odd-requires-clause-b_odd c =
    let fits : c.nearer-x.result.1 < 2 ^ 64 = search rules in
    shifted_odd c.nearer-x.result.1 (omega arith) fits

pub returns : goal.returns
returns c =
    let x = c.nearer-x.result.0 in
    let y = c.nearer-x.result.1 in
    let x_fits : c.nearer-x.result.0 < 2 ^ 64 = search rules in
    let y_fits : c.nearer-x.result.1 < 2 ^ 64 = search rules in
    let same : c.gcd_of_odd.result * 2 ^ c.min.result ≡ gcd x y =
    rw c.min.ensures (gcd-shifted x y _ _ c.gcd_of_odd.result (shifted_whole x (omega arith) x_fits) (shifted_whole y (omega arith) y_fits) (shifted_odd x (omega arith) x_fits) (shifted_odd y (omega arith) y_fits) c.gcd_of_odd.ensures) in
    let least : gcd x y ≤ y = gcd_le x y (omega arith) in
    let whole : c.gcd_of_odd.result * 2 ^ c.min.result % 2 ^ 64 ≡ c.gcd_of_odd.result * 2 ^ c.min.result = mod-eq_of_lt (omega arith) in
    whole ∙ same ∙ c.nearer-x.ensures
