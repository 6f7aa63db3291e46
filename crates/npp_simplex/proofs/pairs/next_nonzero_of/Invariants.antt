use Rattle.std.proofs.Common.{◌≡◌, ℕ, ◌-◌, ◌<◌, ◌≤◌, pos}
use Rattle.npp_simplex.specs.CommonForm.{number_in}
use Rattle.npp_simplex.proofs.pairs.next_nonzero_of.Given as goal

abbrev pub invariant-loop-next : goal.invariant-loop-next
invariant-loop-next l = record {
  from : l.from ≤ l.next;
  end : l.next ≤ l.end;
  words : (k : ℕ) → l.from ≤ k → k < l.next → number_in l.words k ≡ pos 0;
  others : (k : ℕ) → l.from ≤ k → k < l.next → number_in l.others k ≡ pos 0;
}

abbrev pub decreases-loop-next : goal.decreases-loop-next
decreases-loop-next l = l.end - l.next

abbrev pub invariant-loop-j : goal.invariant-loop-j
invariant-loop-j l = record {
  words : (k : ℕ) → l.from ≤ k → k < l.j → number_in l.words k ≡ pos 0;
  others : (k : ℕ) → l.from ≤ k → k < l.j → number_in l.others k ≡ pos 0;
}
