use Rattle.std.proofs.Common.{ap, sym, ◌∙◌, ◌≡◌, ◌<◌, List, length, subst, arith, get_or}
use Rattle.npp_cover.specs.declared.blocks.Pair.{Pair}
use Rattle.npp_cover.proofs.BlockLemmas.{put_cheaper}
use Rattle.npp_cover.proofs.blocks.put_pair.Goals as goal

pub returns-then-pair-index-clause-answers : goal.returns-then-pair-index-clause-answers
returns-then-pair-index-clause-answers c = λ s cost.
    let same : c.deref.result.now ≡ c.args.pairs.now.items = c.deref.ensures.value in
    let lt : c.in-Some.at < length c.args.pairs.now.items = subst (λ (xs : List Pair). c.in-Some.at < length xs) same c.in-Some.ensures.in_range in
    put_cheaper c.args.pairs.now.items c.in-Some.at c.args.pair c.index.result.now s cost lt
    (ap (λ (xs : List Pair). (get_or xs c.in-Some.at c.index.result.now).tolls) (sym same) ∙ c.in-Some.ensures.same c.index.result.now)
    (omega (arith, c.if-pair-index.true, ap (λ (p : Pair). p.cost) c.index.ensures))
