use Rattle.std.proofs.Common.{List, subst}
use Rattle.std.specs.Prelude.{MatchOption}
use Rattle.std.specs.List.Sorted.{IsPermutation}
use Rattle.npp_search.specs.declared.picker.NodeOrder.{NodeOrder}
use Rattle.npp_search.specs.declared.waiting.Waiting.{Waiting}
use Rattle.npp_search.specs.Rank.{IsFirst}
use Rattle.npp_search.proofs.HeapLaws.{popped_none, popped_kept, popped_taken, popped_first}
use Rattle.npp_search.proofs.waiting.WaitingList.take_first.Goals as goal

pub returns-clause-none : goal.returns-clause-none
returns-clause-none c =
    let ranked = c.rank_all.new.ranked.nodes in
    let same = subst (λ (ws : List Waiting). IsPermutation ws ranked) c.self.view_is c.in_ok-rank_all.ensures.all in
    popped_none c.args.self.now ranked c.pop.new.self.nodes c.rank_all.new.listed same c.in_ok-rank_all.ensures.none c.pop.result c.pop.ensures.nodes

pub returns-clause-kept : goal.returns-clause-kept
returns-clause-kept c =
    let ranked = c.rank_all.new.ranked.nodes in
    let same = subst (λ (ws : List Waiting). IsPermutation ws ranked) c.self.view_is c.in_ok-rank_all.ensures.all in
    popped_kept c.args.self.now ranked c.pop.new.self.nodes c.rank_all.new.listed same c.in_ok-rank_all.ensures.none c.pop.result c.pop.ensures.nodes

pub returns-clause-taken : goal.returns-clause-taken
returns-clause-taken c =
    let ranked = c.rank_all.new.ranked.nodes in
    let same = subst (λ (ws : List Waiting). IsPermutation ws ranked) c.self.view_is c.in_ok-rank_all.ensures.all in
    popped_taken c.args.self.now ranked c.pop.new.self.nodes c.rank_all.new.listed same c.in_ok-rank_all.ensures.none c.pop.result c.pop.ensures.nodes

pub returns-clause-first : goal.returns-clause-first
returns-clause-first c =
    let ranked = c.rank_all.new.ranked.nodes in
    let same = subst (λ (ws : List Waiting). IsPermutation ws ranked) c.self.view_is c.in_ok-rank_all.ensures.all in
    popped_first c.args.self.now ranked c.pop.new.self.nodes c.rank_all.new.listed same c.in_ok-rank_all.ensures.none c.args.order c.pop.result
    (subst (λ (o : NodeOrder). MatchOption c.pop.result (Unit {0}) (IsFirst o ranked)) c.in_ok-rank_all.ensures.order c.pop.ensures.first)
