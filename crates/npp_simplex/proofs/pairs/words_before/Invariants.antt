use Rattle.std.proofs.Common.{◌≡◌, ◌-◌, ◌≤◌}
use Rattle.std.specs.List.{range_with_len}
use Rattle.npp_simplex.specs.RowOrder.{comes_before, divided}
use Rattle.npp_simplex.proofs.pairs.words_before.Given as goal

-- the rows come in the same order at the columns from the next one on
abbrev pub invariant-loop-next : goal.invariant-loop-next
invariant-loop-next l = record {
  end : l.next ≤ l.end;
  same : comes_before (divided l.words l.divisor) (divided l.others l.by) (range_with_len l.from (l.end - l.from))
      ≡ comes_before (divided l.words l.divisor) (divided l.others l.by) (range_with_len l.next (l.end - l.next));
}

abbrev pub decreases-loop-next : goal.decreases-loop-next
decreases-loop-next l = l.end - l.next
