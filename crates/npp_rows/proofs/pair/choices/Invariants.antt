use Rattle.npp_rows.proofs.MarkLaws.{MarkedTo}
use Rattle.npp_rows.proofs.pair.choices.Given as goal

abbrev pub invariant-loop-i : goal.invariant-loop-i
invariant-loop-i g l = MarkedTo g.N.Exact.rational l.table l.earlier l.pair.k l.pair.p l.pair.l l.cuts l.marks.items l.i-index
