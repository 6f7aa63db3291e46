use Rattle.std.proofs.Common.{List, subst}
use Rattle.std.specs.List.Sorted.{IsPermutation}
use Rattle.npp_search.specs.declared.waiting.Waiting.{Waiting}
use Rattle.npp_search.proofs.HeapLaws.{named_none, named_kept, named_taken, named_greatest}
use Rattle.npp_search.proofs.waiting.WaitingList.take_named.Goals as goal

pub returns-clause-none : goal.returns-clause-none
returns-clause-none g c =
    let listed = c.list_all.new.listed in
    let same = subst (λ (ws : List Waiting). IsPermutation ws listed) c.self.view_is c.in_ok-list_all.ensures.all in
    named_none c.args.self.now c.list_all.new.ranked.nodes listed c.take.new.self same c.in_ok-list_all.ensures.none c.take.result c.take.ensures.none

pub returns-clause-kept : goal.returns-clause-kept
returns-clause-kept g c =
    let listed = c.list_all.new.listed in
    let same = subst (λ (ws : List Waiting). IsPermutation ws listed) c.self.view_is c.in_ok-list_all.ensures.all in
    named_kept c.args.self.now c.list_all.new.ranked.nodes listed c.take.new.self same c.in_ok-list_all.ensures.none c.take.result c.take.ensures.none c.take.ensures.kept

pub returns-clause-taken : goal.returns-clause-taken
returns-clause-taken g c =
    let listed = c.list_all.new.listed in
    let same = subst (λ (ws : List Waiting). IsPermutation ws listed) c.self.view_is c.in_ok-list_all.ensures.all in
    named_taken c.args.self.now c.list_all.new.ranked.nodes listed c.take.new.self same c.in_ok-list_all.ensures.none c.take.result c.take.ensures.taken

pub returns-clause-greatest : goal.returns-clause-greatest
returns-clause-greatest g c first =
    let listed = c.list_all.new.listed in
    let same = subst (λ (ws : List Waiting). IsPermutation ws listed) c.self.view_is c.in_ok-list_all.ensures.all in
    named_greatest c.args.self.now c.list_all.new.ranked.nodes listed c.take.new.self same c.in_ok-list_all.ensures.none c.take.result (c.take.ensures.greatest first)
