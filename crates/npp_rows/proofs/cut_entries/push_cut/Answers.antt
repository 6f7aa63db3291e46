use Rattle.std.proofs.Common.{◌≡◌, ◌≤◌, ◌++◌, length, map, sym, ap, ◌∙◌, arith}
use Rattle.std.proofs.lemmas.List.{append-nil, length-map}
use Rattle.npp_frac.specs.Rational.{Rational}
use Rattle.npp_lp.specs.Meaning.{terms_of}
use Rattle.npp_rows.specs.declared.cut.CutTerm.{CutTerm}
use Rattle.npp_rows.specs.Meaning.{cut_term_value, cut_value}
use Rattle.npp_rows.proofs.CutEntries.{written_none, written_step, written_all, term_read}
use Rattle.npp_rows.proofs.cut_entries.push_cut.Goals as goal

pub loop-term-init : goal.loop-term-init
loop-term-init g c = sym (ap (λ t. terms_of g.N.Exact.rational c.args.entries.now.items ++ t) (written_none c.args.index.now.paths c.args.index.now.parts) ∙ append-nil _)

pub push_share-requires : goal.push_share-requires
push_share-requires g c =
    let read = term_read g.N.Exact.rational c.args.cut.now.terms c.entries-term-items.result.now c.loop-term.term-index c.term-item.result c.entries-term-items.ensures c.loop-term-test.true c.term-item.is in
    let here = (c.requires.shares c.loop-term.term-index (cut_term_value g.N.Exact.rational c.term-item.result) read.0).0 in
    omega (arith, here, ap (λ (t : CutTerm Rational). t.commodity) read.1)

pub loop-term-preserved : goal.loop-term-preserved
loop-term-preserved g c =
    let read = term_read g.N.Exact.rational c.args.cut.now.terms c.entries-term-items.result.now c.loop-term.term-index c.term-item.result c.entries-term-items.ensures c.loop-term-test.true c.term-item.is in
    written_step c.args.index.now.paths c.args.index.now.parts (map (cut_term_value g.N.Exact.rational) c.args.cut.now.terms) c.requires.rising c.requires.shares c.requires.nonzero
    c.loop-term.term-index (cut_term_value g.N.Exact.rational c.term-item.result) _ _ _ read.0 read.1 c.push_share.ensures.part c.loop-term.invariant c.in_ok-push_share.ensures.written

pub returns : goal.returns
returns g c =
    let cut = cut_value g.N.Exact.rational c.args.cut.now in
    let size : length c.entries-term-items.result.now ≡ length c.args.cut.now.terms = ap length c.entries-term-items.ensures in
    let all : length (map (cut_term_value g.N.Exact.rational) c.args.cut.now.terms) ≤ c.loop-term.term-index = rw length-map (omega (arith, size)) in
    c.loop-term.invariant ∙ ap (λ t. terms_of g.N.Exact.rational c.args.entries.now.items ++ t) (written_all c.args.index.now.paths c.args.index.now.parts cut c.loop-term.term-index all)
