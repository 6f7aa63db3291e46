use Rattle.std.proofs.Common.{ℕ, ◌<◌, ◌≤◌, nat_abs}
use Rattle.npp_simplex.specs.CommonForm.{number_in, AreWithin}
use Rattle.npp_simplex.proofs.long_words.greatest_long_size.Given as goal

abbrev pub invariant-loop-j : goal.invariant-loop-j
invariant-loop-j l = record {
  bound : (k : ℕ) → k < l.j → nat_abs (number_in l.numbers k) ≤ l.greatest;
  least : (b : ℕ) → AreWithin b l.numbers → l.greatest ≤ b;
}
