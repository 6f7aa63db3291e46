use Rattle.npp_rows.proofs.UnionLaws.{IsUnion}
use Rattle.npp_rows.proofs.index.union.Given as goal

abbrev pub invariant-loop-toll : goal.invariant-loop-toll
invariant-loop-toll l = IsUnion l.fn.set l.fn.other l.all l.toll-iterator
