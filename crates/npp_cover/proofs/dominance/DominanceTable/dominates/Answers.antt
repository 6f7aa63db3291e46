use Rattle.std.proofs.Common.{◌<◌, List, length, map, sym, ◌∙◌, ap, subst, arith}
use Rattle.std.proofs.lemmas.List.{length-map}
use Rattle.npp_cover.specs.declared.blocks.Block.{Block}
use Rattle.npp_cover.specs.Blocks.{blocks_answer}
use Rattle.npp_cover.specs.Dominance.{TableValue, answer_of, nodes_of}
use Rattle.npp_cover.proofs.DominanceLemmas.{pairs_in, answers_at}
use Rattle.npp_cover.proofs.dominance.DominanceTable.dominates.Goals as goal

pub returns : goal.returns
returns c =
    let lt : c.args.node.0 < length (map pairs_in c.self.inside.by_node.items) = subst (λ (t : TableValue). c.args.node.0 < nodes_of t) (sym c.self.view_is) c.requires in
    c.some_block_has.ensures
    ∙ (ap (λ (bs : List Block). blocks_answer bs c.args.tolls c.args.cost) c.deref.ensures.value
    ∙ (answers_at c.self.inside.by_node.items c.args.node.0 c.args.tolls c.args.cost c.index.result.now (omega (arith, length-map c.self.inside.by_node.items pairs_in)) c.index.ensures
    ∙ ap (λ (t : TableValue). answer_of t c.args.node.0 c.args.tolls c.args.cost) c.self.view_is))
