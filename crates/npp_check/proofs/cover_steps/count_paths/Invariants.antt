use Rattle.std.proofs.Common.{◌≡◌, take, length}
use Rattle.std.specs.Prelude.{sum_by}
use Rattle.npp_check.proofs.cover_steps.count_paths.Given as goal

-- the paths of the covers so far
abbrev pub invariant-loop-cover : goal.invariant-loop-cover
invariant-loop-cover l = l.count ≡ sum_by (λ c. length c.paths) (take l.cover-index l.covers)
