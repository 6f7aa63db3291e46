use Rattle.std.proofs.Common.{length, slice_index_or, ◌-ℤ◌, ◌*ℤ◌}
use Rattle.npp_simplex.specs.CommonForm.{number_in}
use Rattle.npp_simplex.proofs.WordRows.{IsChangedBelow}
use Rattle.npp_simplex.proofs.long_words.subtract_words.Given as goal

-- changed up to the next of the columns, or the row's end where none is left
abbrev pub invariant-loop-s : goal.invariant-loop-s
invariant-loop-s l = IsChangedBelow l.initial.numbers l.numbers (λ k x. x -ℤ (l.factor *ℤ number_in l.other k)) (slice_index_or l.columns l.s (length l.initial.numbers))
