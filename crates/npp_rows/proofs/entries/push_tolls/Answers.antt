use Rattle.std.proofs.Common.{◌==◌, ap, ◌∙◌}
use Rattle.std.specs.Int.{bit_at}
use Rattle.npp_frac.specs.Rational.{whole, negative}
use Rattle.npp_rows.specs.Named.{one_if}
use Rattle.npp_rows.proofs.EntryLaws.{whole_read, minus_if}
use Rattle.npp_rows.proofs.NumberLaws.{numbers_next_toll}
use Rattle.npp_rows.proofs.entries.push_tolls.Goals as goal

pub loop-toll-preserved : goal.loop-toll-preserved
loop-toll-preserved g c =
    numbers_next_toll (λ b. negative (one_if (bit_at c.args.set b == 1))) c.loop-toll.toll _ _ _ _ c.loop-toll.invariant c.in_ok-push_number.ensures
    (whole_read c.taken.result c.taken.ensures.small ∙ ap whole c.taken.ensures.value ∙ minus_if _)
