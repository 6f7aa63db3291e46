use Rattle.std.proofs.Common.{map, take, All}
use Rattle.std.specs.Prelude.{IsTrue}
use Rattle.npp_rows.specs.Cuts.{is_share_before}
use Rattle.npp_rows.specs.Meaning.{cut_term_value}
use Rattle.npp_fixtures.proofs.cuts.are_before.Given as goal

abbrev pub invariant-loop-other : goal.invariant-loop-other
invariant-loop-other g l = All (λ s. IsTrue (is_share_before s (cut_term_value g.N.Exact.rational l.term))) (map (cut_term_value g.N.Exact.rational) (take l.other-index l.terms))
