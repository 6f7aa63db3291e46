use Rattle.std.proofs.Common.{◌<◌, length, List, ap, ◌∙◌, sym, subst, arith}
use Rattle.std.proofs.lemmas.List.{length-map}
use Rattle.npp_search.specs.declared.waiting.Waiting.{Waiting}
use Rattle.npp_search.specs.Search.{TakesOne, IsGreatest}
use Rattle.npp_search.proofs.TakeLaws.{seen_removed, takes_one, greatest_of_place}
use Rattle.npp_search.proofs.listed.NodeList.take.Goals as goal

pub invariant_of-self : goal.invariant_of-self
invariant_of-self g c =
    let nodes = c.self.inside.nodes.items in
    let lt : c.pick-place.result < length c.self.inside.nodes.items =
    omega (arith, c.pick-place.ensures.in_range, ap length c.deref.ensures.value, ap length c.self.invariant, length-map nodes (λ (n : Waiting). n.seen)) in
    seen_removed nodes c.swap_remove-2.new.self.items c.self.inside.seen.items c.swap_remove.new.self.items c.pick-place.result c.swap_remove-2.result c.swap_remove.result c.self.invariant lt
    c.swap_remove-2.ensures.value c.swap_remove.ensures.value c.swap_remove.ensures.items c.swap_remove-2.ensures.items

pub returns-clause-taken : goal.returns-clause-taken
returns-clause-taken g c =
    let nodes = c.self.inside.nodes.items in
    let lt : c.pick-place.result < length c.self.inside.nodes.items =
    omega (arith, c.pick-place.ensures.in_range, ap length c.deref.ensures.value, ap length c.self.invariant, length-map nodes (λ (n : Waiting). n.seen)) in
    subst (λ (ns : List Waiting). TakesOne ns c.swap_remove-2.new.self.items c.swap_remove-2.result) c.self.view_is
    (takes_one nodes c.swap_remove-2.new.self.items c.pick-place.result c.swap_remove-2.result lt (sym c.swap_remove-2.ensures.value) c.swap_remove-2.ensures.items)

pub returns-clause-greatest : goal.returns-clause-greatest
returns-clause-greatest g c first =
    let nodes = c.self.inside.nodes.items in
    let lt : c.pick-place.result < length c.self.inside.nodes.items =
    omega (arith, c.pick-place.ensures.in_range, ap length c.deref.ensures.value, ap length c.self.invariant, length-map nodes (λ (n : Waiting). n.seen)) in
    subst (λ (ns : List Waiting). IsGreatest ns c.swap_remove-2.result) c.self.view_is
    (greatest_of_place nodes c.deref.result.now c.pick-place.result c.swap_remove-2.result (c.deref.ensures.value ∙ c.self.invariant) lt (sym c.swap_remove-2.ensures.value) (c.pick-place.ensures.greatest first))
