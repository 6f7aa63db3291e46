use Rattle.std.proofs.Common.{◌≡◌, ℕ, ◌<◌, ◌%◌, nat_abs}
use Rattle.npp_simplex.specs.CommonForm.{number_in}
use Rattle.npp_simplex.proofs.words.divisor_of.Given as goal

abbrev pub invariant-loop-j : goal.invariant-loop-j
invariant-loop-j l = record {
  above : 0 < l.divisor.value;
  of_denominator : l.denominator % l.divisor.value ≡ 0;
  of_numbers : (k : ℕ) → k < l.j → nat_abs (number_in l.numbers k) % l.divisor.value ≡ 0;
}
