use Rattle.std.proofs.Common.{◌≡◌, ℕ, Option, None, Some, cond, nat_eq, slice_index, true, length, ap, sym, arith, eq-eqb}
use Rattle.npp_lp.specs.VerdictLaws.{first_below_found}
use Rattle.npp_simplex.proofs.vectors.basic_row.Goals as goal

pub returns-then-basis-i-clause-row : goal.returns-then-basis-i-clause-row
returns-then-basis-i-clause-row c =
    let f : ℕ → Option ℕ = λ i. cond (nat_eq (slice_index c.args.basis.now i) c.args.column) (Some i) None in
    let same : nat_eq (slice_index c.args.basis.now c.loop-i.i) c.args.column ≡ true = eq-eqb (slice_index c.args.basis.now c.loop-i.i) c.args.column c.if-basis-i.true in
    sym (first_below_found f (length c.args.basis.now) c.loop-i.i c.loop-i.i (omega arith) c.loop-i.invariant (ap (λ b. cond b (Some c.loop-i.i) None) same))
