use Rattle.std.proofs.Common.{map, take, All}
use Rattle.std.specs.Prelude.{IsTrue, ◌≢◌}
use Rattle.std.specs.List.{AllPairs}
use Rattle.npp_frac.specs.Rational.{zero_ℚ}
use Rattle.npp_net.specs.Network.{Network}
use Rattle.npp_rows.specs.Caps.{path_model}
use Rattle.npp_rows.specs.Cuts.{IsShareOf, is_share_before}
use Rattle.npp_rows.specs.Meaning.{cut_term_value}
use Rattle.npp_fixtures.proofs.cuts.are_terms.Given as goal

-- the terms so far are as they must be
abbrev pub invariant-loop-i : goal.invariant-loop-i
invariant-loop-i g l =
    AllPairs (λ s t. IsTrue (is_share_before s t)) (map (cut_term_value g.N.Exact.rational) (take l.i l.terms))
    × ((net : Network) → All (IsShareOf (path_model net l.covers)) (map (cut_term_value g.N.Exact.rational) (take l.i l.terms)))
    × All (λ t. t.value ≢ zero_ℚ) (map (cut_term_value g.N.Exact.rational) (take l.i l.terms))
