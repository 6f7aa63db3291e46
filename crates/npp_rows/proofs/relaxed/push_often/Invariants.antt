use Rattle.std.proofs.Common.{◌≡◌, ◌++◌, pos, map, replicate}
use Rattle.npp_frac.specs.Rational.{whole}
use Rattle.npp_rows.proofs.relaxed.push_often.Given as goal

abbrev pub invariant-loop-i : goal.invariant-loop-i
invariant-loop-i g l = map g.N.Exact.rational l.numbers.items ≡ map g.N.Exact.rational l.initial.numbers.items ++ replicate l._i (whole (pos l.number))
