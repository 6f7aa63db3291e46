use Rattle.std.proofs.Common.{◌≡◌, ◌<◌, length, All, vec_len}
use Rattle.npp_check.specs.PlaceStack.{undone}
use Rattle.npp_check.proofs.changes.undo.Given as goal

-- the changes that are left lead back to the same family
abbrev pub invariant-loop-change : goal.invariant-loop-change
invariant-loop-change l = record {
  family : undone l.changes.items l.parts.items ≡ undone l.initial.changes.items l.initial.parts.items;
  size : length l.parts.items ≡ length l.initial.parts.items;
  range : All (λ change. change.commodity < length l.initial.parts.items) l.changes.items;
}

abbrev pub decreases-loop-change : goal.decreases-loop-change
decreases-loop-change l = vec_len l.changes
