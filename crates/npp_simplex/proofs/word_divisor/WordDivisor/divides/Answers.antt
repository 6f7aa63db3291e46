use Rattle.std.proofs.Math.Nat.{mul-mod_left}
use Rattle.npp_simplex.proofs.word_divisor.WordDivisor.divides.Goals as goal

pub returns-in-Some : goal.returns-in-Some
returns-in-Some c = rw (← c.in-Some.ensures) (mul-mod_left c.in-Some.field-0 c.args.self.value)
