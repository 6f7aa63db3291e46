use Rattle.std.proofs.Common.{◌≡◌, map, take}
use Rattle.std.specs.Prelude.{slice_index}
use Rattle.npp_rows.proofs.allowed.first_choice.Given as goal

abbrev pub invariant-loop-part : goal.invariant-loop-part
invariant-loop-part l = l.choice.items ≡ map (λ part. slice_index part 0) (take l.part-index l.parts)
