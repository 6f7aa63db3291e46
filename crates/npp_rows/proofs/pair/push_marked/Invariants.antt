use Rattle.std.proofs.Common.{◌≡◌, ◌++◌, false, map, filter, get_or}
use Rattle.std.specs.List.{range_with_len}
use Rattle.npp_rows.specs.Cuts.{share_of}
use Rattle.npp_rows.specs.Meaning.{cut_term_value}
use Rattle.npp_rows.proofs.pair.push_marked.Given as goal

abbrev pub invariant-loop-q : goal.invariant-loop-q
invariant-loop-q g l =
    map (cut_term_value g.N.Exact.rational) l.terms.items
    ≡ map (cut_term_value g.N.Exact.rational) l.initial.terms.items ++ map (share_of l.l) (filter (λ j. get_or l.marks j false) (range_with_len 0 l.q))
