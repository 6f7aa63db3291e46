use Rattle.std.proofs.Common.{◌≡◌, ◌==◌, ◌++◌}
use Rattle.std.specs.List.{range_with_len}
use Rattle.std.specs.Int.{bit_at}
use Rattle.npp_frac.specs.Rational.{◌-ℚ◌}
use Rattle.npp_lp.specs.Meaning.{terms_of}
use Rattle.npp_rows.specs.Named.{one_if, numbers_from}
use Rattle.npp_rows.proofs.choice.push_differences.Given as goal

abbrev pub invariant-loop-toll : goal.invariant-loop-toll
invariant-loop-toll g l =
    terms_of g.N.Exact.rational l.entries.items ≡ terms_of g.N.Exact.rational l.initial.entries.items
    ++ numbers_from 0 (λ b. one_if (bit_at l.chosen b == 1) -ℚ one_if (bit_at l.other b == 1)) (range_with_len 0 l.toll)
