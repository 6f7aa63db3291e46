use Rattle.std.proofs.Common.{◌+◌, List, map, take, All, AllPairs, subst}
use Rattle.std.specs.Prelude.{◌≢◌, IsTrue}
use Rattle.npp_frac.specs.Rational.{Rational, zero_ℚ}
use Rattle.npp_rows.specs.declared.cut.CutTerm.{CutTerm}
use Rattle.npp_rows.specs.Caps.{path_model}
use Rattle.npp_rows.specs.Cuts.{IsShareOf, is_share_before}
use Rattle.npp_rows.specs.Meaning.{cut_term_value}
use Rattle.npp_fixtures.proofs.RisingLaws.{meant_more, meant_whole, all_more, pairs_more}
use Rattle.npp_fixtures.proofs.cuts.are_terms.Goals as goal

pub loop-i-preserved : goal.loop-i-preserved
loop-i-preserved g c =
    let f = cut_term_value g.N.Exact.rational in
    let xs = c.args.terms.now in
    let i = c.loop-i.i in
    let x = c.index-terms-i.result in
    let more = meant_more xs i x c.loop-i-test.true c.index-terms-i.is f in (
      pairs_more (map f (take i xs)) (map f (take (i + 1) xs)) (f x) more (λ s t. IsTrue (is_share_before s t)) c.loop-i.invariant.0 (c.are_before.ensures c.if-not-are_before.false),
      (λ net. all_more (map f (take i xs)) (map f (take (i + 1) xs)) (f x) more (IsShareOf (path_model net c.args.covers.now)) (c.loop-i.invariant.1 net) (c.is_term.ensures.share c.if-not-is_term.false net)),
      all_more (map f (take i xs)) (map f (take (i + 1) xs)) (f x) more (λ t. t.value ≢ zero_ℚ) c.loop-i.invariant.2 (c.is_term.ensures.nonzero c.if-not-is_term.false),
    )

pub returns : goal.returns
returns g c = λ t net right.
    let whole = meant_whole (cut_term_value g.N.Exact.rational) c.args.terms.now c.loop-i.i c.loop-i-test.false in
    record {
      rising = subst (λ (ts : List (CutTerm Rational)). AllPairs (λ s t. IsTrue (is_share_before s t)) ts) whole c.loop-i.invariant.0;
      shares = subst (λ (ts : List (CutTerm Rational)). All (IsShareOf (path_model net c.args.covers.now)) ts) whole (c.loop-i.invariant.1 net);
      nonzero = subst (λ (ts : List (CutTerm Rational)). All (λ t. t.value ≢ zero_ℚ) ts) whole c.loop-i.invariant.2;
    }
