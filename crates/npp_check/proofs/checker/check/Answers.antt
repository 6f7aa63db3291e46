use Rattle.std.proofs.Common.{◌≡◌, suc, List, ◌∷◌, length, All, subst, sym, ap, arith}
use Rattle.npp_frac.specs.Fits.{limit_of}
use Rattle.npp_tree.specs.declared.item.Item.{Item}
use Rattle.npp_tree.specs.Items.{item_of, items_of, HasShortLists}
use Rattle.npp_check.specs.Verdict.{pair_value}
use Rattle.npp_check.proofs.CheckerLemmas.{IsUnderWay, begins, goes_on, stops, ends_well, ends_badly, none_left}
use Rattle.npp_check.proofs.YesLemmas.{yes_is_right}
use Rattle.npp_check.proofs.checker.check.Goals as goal

pub loop-item-init : goal.loop-item-init
loop-item-init g c =
    let same : c.into_iter-item-iterator.result.rest.items ≡ c.args.items.items = c.into_iter-item-iterator.ensures.into_iter_gives.0 in
    record {
      short = subst (λ (xs : List (Item g.row.N.Denot)). All HasShortLists xs) (sym same) c.requires;
      under_way = subst (λ (xs : List (Item g.row.N.Denot)). IsUnderWay (limit_of g.N.Exact.WIDTH) c.args.instance.now c.in-Ok.checker (items_of g.N.Exact.rational xs) (items_of g.N.Exact.rational c.args.items.items)) (sym same)
          (begins (limit_of g.N.Exact.WIDTH) c.args.instance.now c.in-Ok.checker (items_of g.N.Exact.rational c.args.items.items) c.in-Ok.ensures.new);
    }

pub feed-requires : goal.feed-requires
feed-requires g c =
    let short : All HasShortLists (c.in-Some.item ∷ c.next.new.self.rest.items) = subst (λ (xs : List (Item g.row.N.Denot)). All HasShortLists xs) c.in-Some.ensures.steps.0 c.loop-item.invariant.short in
    short 0 c.in-Some.item (omega arith)

pub returns-in-Err-feed-clause-refused : goal.returns-in-Err-feed-clause-refused
returns-in-Err-feed-clause-refused g c =
    stops (limit_of g.N.Exact.WIDTH) c.args.instance.now c.loop-item.checker c.feed.new.self (item_of g.N.Exact.rational c.in-Some.item) (items_of g.N.Exact.rational c.next.new.self.rest.items)
    (items_of g.N.Exact.rational c.args.items.items) c.in-Err-feed.refusal
    (subst (λ (xs : List (Item g.row.N.Denot)). IsUnderWay (limit_of g.N.Exact.WIDTH) c.args.instance.now c.loop-item.checker (items_of g.N.Exact.rational xs) (items_of g.N.Exact.rational c.args.items.items))
    c.in-Some.ensures.steps.0 c.loop-item.invariant.under_way)
    c.in-Err-feed.ensures

pub loop-item-preserved : goal.loop-item-preserved
loop-item-preserved g c =
    let short : All HasShortLists (c.in-Some.item ∷ c.next.new.self.rest.items) = subst (λ (xs : List (Item g.row.N.Denot)). All HasShortLists xs) c.in-Some.ensures.steps.0 c.loop-item.invariant.short in
    record {
      short = λ k d lt. short (suc k) d (omega arith);
      under_way = goes_on (limit_of g.N.Exact.WIDTH) c.args.instance.now c.loop-item.checker c.feed.new.self (item_of g.N.Exact.rational c.in-Some.item) (items_of g.N.Exact.rational c.next.new.self.rest.items)
          (items_of g.N.Exact.rational c.args.items.items)
          (subst (λ (xs : List (Item g.row.N.Denot)). IsUnderWay (limit_of g.N.Exact.WIDTH) c.args.instance.now c.loop-item.checker (items_of g.N.Exact.rational xs) (items_of g.N.Exact.rational c.args.items.items))
          c.in-Some.ensures.steps.0 c.loop-item.invariant.under_way)
          c.in_default.ensures;
    }

pub returns-in-Ok-finish-clause-verdict : goal.returns-in-Ok-finish-clause-verdict
returns-in-Ok-finish-clause-verdict g c =
    let empty : length c.loop-item.item-iterator.rest.items ≡ 0 = omega (arith, c.in-None.ensures.steps.0) in
    let none = ap (items_of g.N.Exact.rational) (none_left c.loop-item.item-iterator.rest.items empty) in
    ends_well (limit_of g.N.Exact.WIDTH) c.args.instance.now c.loop-item.checker (items_of g.N.Exact.rational c.loop-item.item-iterator.rest.items) (items_of g.N.Exact.rational c.args.items.items) c.in-Ok-finish.pair
    none c.loop-item.invariant.under_way c.in-Ok-finish.ensures.verdict

pub returns-in-Ok-finish-clause-proves : goal.returns-in-Ok-finish-clause-proves
returns-in-Ok-finish-clause-proves g c =
    yes_is_right (limit_of g.N.Exact.WIDTH) c.args.instance.now (items_of g.N.Exact.rational c.args.items.items) (pair_value c.in-Ok-finish.pair) c.nodes-nodes.ensures.limits (returns-in-Ok-finish-clause-verdict g c)

pub returns-in-Err-finish-clause-refused : goal.returns-in-Err-finish-clause-refused
returns-in-Err-finish-clause-refused g c =
    let empty : length c.loop-item.item-iterator.rest.items ≡ 0 = omega (arith, c.in-None.ensures.steps.0) in
    let none = ap (items_of g.N.Exact.rational) (none_left c.loop-item.item-iterator.rest.items empty) in
    ends_badly (limit_of g.N.Exact.WIDTH) c.args.instance.now c.loop-item.checker (items_of g.N.Exact.rational c.loop-item.item-iterator.rest.items) (items_of g.N.Exact.rational c.args.items.items) c.in-Err-finish.refusal
    none c.loop-item.invariant.under_way c.in-Err-finish.ensures.verdict c.in-Err-finish.ensures.cause
