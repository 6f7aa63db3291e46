use Rattle.std.proofs.Common.{List, All, subst}
use Rattle.std.proofs.lemmas.List.{take_all}
use Rattle.std.proofs.lemmas.List.Elements.{All-more}
use Rattle.npp_rows.specs.declared.cut.CutRow.{CutRow}
use Rattle.npp_rows.specs.Caps.{path_model}
use Rattle.npp_rows.specs.Cuts.{IsCut}
use Rattle.npp_rows.specs.Meaning.{cut_value}
use Rattle.npp_fixtures.proofs.cuts.are_cuts.Goals as goal

pub loop-cut-preserved : goal.loop-cut-preserved
loop-cut-preserved g c = λ net.
    let are = λ (x : CutRow g.row.N.Denot). IsCut (path_model net c.args.covers.now) (cut_value g.N.Exact.rational x) in
    All-more are c.args.cuts.now c.loop-cut.cut-index c.cut-item.result c.loop-cut-test.true (c.loop-cut.invariant net)
    (subst are c.cut-item.is (c.is_cut.ensures c.if-not-is_cut.false net))

pub returns-clause-cuts : goal.returns-clause-cuts
returns-clause-cuts g c = λ t net.
    subst (λ (xs : List (CutRow g.row.N.Denot)). All (λ x. IsCut (path_model net c.args.covers.now) (cut_value g.N.Exact.rational x)) xs)
    (take_all c.loop-cut.cut-index c.args.cuts.now c.loop-cut-test.false) (c.loop-cut.invariant net)
