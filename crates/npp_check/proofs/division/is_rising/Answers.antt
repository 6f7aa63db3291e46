use Rattle.std.proofs.Common.{◌≡◌, ◌+◌, ◌-◌, ◌≤◌, ℕ, get_or, sym, subst, arith}
use Rattle.npp_check.proofs.ListLemmas.{rising_is, rising_not}
use Rattle.npp_check.proofs.division.is_rising.Goals as goal

pub returns-then-list-place : goal.returns-then-list-place
returns-then-list-place c =
    let i : ℕ = c.loop-place.place - 1 in
    let next : c.loop-place.place ≡ c.loop-place.place - 1 + 1 = omega (arith, c.loop-place.auto.place) in
    let le : get_or c.args.list.now (c.loop-place.place - 1 + 1) 0 ≤ get_or c.args.list.now (c.loop-place.place - 1) 0 =
    subst (λ (n : ℕ). get_or c.args.list.now n 0 ≤ get_or c.args.list.now (c.loop-place.place - 1) 0) next c.if-list-place.true in
    sym (rising_not c.args.list.now i (omega (arith, next, c.loop-place-test.true)) le)

pub returns : goal.returns
returns c = sym (rising_is c.args.list.now (λ i lt. c.loop-place.invariant i (omega (arith, lt, c.loop-place-test.false))))
