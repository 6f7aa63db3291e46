use Rattle.std.proofs.Common.{◌==◌, ap, ◌∙◌}
use Rattle.std.specs.Int.{bit_at}
use Rattle.npp_frac.specs.Rational.{whole, ◌-ℚ◌}
use Rattle.npp_rows.specs.Named.{one_if}
use Rattle.npp_rows.proofs.EntryLaws.{whole_read, difference_is}
use Rattle.npp_rows.proofs.NumberLaws.{numbers_next_toll}
use Rattle.npp_rows.proofs.choice.push_differences.Goals as goal

pub loop-toll-preserved : goal.loop-toll-preserved
loop-toll-preserved g c =
    numbers_next_toll (λ b. one_if (bit_at c.args.chosen b == 1) -ℚ one_if (bit_at c.args.other b == 1)) c.loop-toll.toll _ _ _ _ c.loop-toll.invariant c.in_ok-push_number.ensures
    (whole_read c.difference.result c.difference.ensures.small ∙ ap whole c.difference.ensures.value ∙ difference_is _ _)
