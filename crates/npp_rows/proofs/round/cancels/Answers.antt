use Rattle.std.proofs.Common.{◌≡◌, true, false, ap}
use Rattle.std.specs.Prelude.{not}
use Rattle.std.proofs.lemmas.Bool.{false_from_ne_true}
use Rattle.npp_frac.specs.Sign.{is_zero, is_zero_of, is_zero_yes}
use Rattle.npp_rows.specs.declared.cut.CutFault.TheVariants.{TollColumn}
use Rattle.npp_rows.specs.Derivations.{fault_if}
use Rattle.npp_rows.proofs.round.cancels.Goals as goal

pub returns-in-Ok : goal.returns-in-Ok
returns-in-Ok g c =
    let zero : is_zero (g.N.Exact.rational c.in-Ok.sum) ≡ true = is_zero_of (g.N.Exact.rational c.in-Ok.sum) (c.is_zero.ensures.0 c.if-is_zero.true) in
    rw c.in-Ok.is (ap (λ b. fault_if (not b) TollColumn) zero)

pub returns-in-Ok-2 : goal.returns-in-Ok-2
returns-in-Ok-2 g c =
    let other : is_zero (g.N.Exact.rational c.in-Ok.sum) ≡ false = false_from_ne_true (is_zero (g.N.Exact.rational c.in-Ok.sum)) (λ e. (let yes : c.is_zero.result ≡ true = c.is_zero.ensures.1 (is_zero_yes (g.N.Exact.rational c.in-Ok.sum) e) in cc)) in
    rw c.in-Ok.is (ap (λ b. fault_if (not b) TollColumn) other)
