use Rattle.std.proofs.Common.{refl, sym, subst, ap, Option, Some}
use Rattle.std.specs.Prelude.{IsSome}
use Rattle.npp_tree.specs.declared.grow.GrowNode.{GrowNode}
use Rattle.npp_tree.specs.declared.grow.Below.TheVariants as below
use Rattle.npp_tree.specs.Tree.{Tree}
use Rattle.npp_tree.specs.Keyed.{Held}
use Rattle.npp_tree.specs.Arena.{IsHeld}
use Rattle.npp_tree.proofs.ArenaLaws.{whole_is, held_whole}
use Rattle.npp_tree.proofs.HeldLaws.{makes_node, held_room, fresh_keys, leaf_kept, held_after_split}
use Rattle.npp_tree.proofs.grow.GrowTree.split.Goals as goal

pub invariant_of-self : goal.invariant_of-self
invariant_of-self g c =
    let held = held_room g.N.Exact.rational c.self.inside.nodes c.reserve.new.self c.self.inside.root c.args.self.now c.reserve.ensures.rest_kept
    (subst (λ (t : Tree Held). IsHeld g.N.Exact.rational c.self.inside.nodes c.self.inside.root t) c.self.view_is c.self.invariant) in
    held_whole g.N.Exact.rational c.reserve.new.self c.self.inside.root c.args.self.now held

pub index_mut-leaf-requires : goal.index_mut-leaf-requires
index_mut-leaf-requires g c =
    let held = held_room g.N.Exact.rational c.self.inside.nodes c.reserve.new.self c.self.inside.root c.args.self.now c.reserve.ensures.rest_kept
    (subst (λ (t : Tree Held). IsHeld g.N.Exact.rational c.self.inside.nodes c.self.inside.root t) c.self.view_is c.self.invariant) in
    let first = makes_node g.N.Exact.rational c.reserve.new.self c.insert_reserved-first.new.self c.insert_reserved-first.result c.args.first c.unopened_node.result c.unopened_node.ensures
    c.insert_reserved-first.ensures.was_vacant c.insert_reserved-first.ensures.updates c.insert_reserved-first.ensures.len in
    let second = makes_node g.N.Exact.rational c.insert_reserved-first.new.self c.insert_reserved-second.new.self c.insert_reserved-second.result c.args.second c.unopened_node-2.result
    c.unopened_node-2.ensures c.insert_reserved-second.ensures.was_vacant c.insert_reserved-second.ensures.updates c.insert_reserved-second.ensures.len in
    let found = leaf_kept g.N.Exact.rational c.reserve.new.self c.insert_reserved-first.new.self c.insert_reserved-second.new.self c.self.inside.root c.args.self.now
    c.insert_reserved-first.result c.insert_reserved-second.result c.args.first c.args.second held first second
    c.args.node _ c.requires in
    subst (λ (o : Option (GrowNode g.row.N.Denot)). IsSome o) (sym found.1) refl

pub invariant_of-self-2 : goal.invariant_of-self-2
invariant_of-self-2 g c =
    let held = held_room g.N.Exact.rational c.self.inside.nodes c.reserve.new.self c.self.inside.root c.args.self.now c.reserve.ensures.rest_kept
    (subst (λ (t : Tree Held). IsHeld g.N.Exact.rational c.self.inside.nodes c.self.inside.root t) c.self.view_is c.self.invariant) in
    let first = makes_node g.N.Exact.rational c.reserve.new.self c.insert_reserved-first.new.self c.insert_reserved-first.result c.args.first c.unopened_node.result c.unopened_node.ensures
    c.insert_reserved-first.ensures.was_vacant c.insert_reserved-first.ensures.updates c.insert_reserved-first.ensures.len in
    let second = makes_node g.N.Exact.rational c.insert_reserved-first.new.self c.insert_reserved-second.new.self c.insert_reserved-second.result c.args.second c.unopened_node-2.result
    c.unopened_node-2.ensures c.insert_reserved-second.ensures.was_vacant c.insert_reserved-second.ensures.updates c.insert_reserved-second.ensures.len in
    held_whole g.N.Exact.rational _ c.self.inside.root _
    (held_after_split g.N.Exact.rational c.reserve.new.self c.insert_reserved-first.new.self c.insert_reserved-second.new.self c.self.inside.root c.args.self.now
    c.insert_reserved-first.result c.insert_reserved-second.result c.args.first c.args.second held first second
    c.args.node _ c.requires (record { commodity = c.args.commodity; part = c.args.part.items }) c.index_mut-leaf.result.now
    (record {
      evidence = c.index_mut-leaf.result.now.evidence;
      bound = c.index_mut-leaf.result.now.bound;
      below = below.Children c.args.commodity c.of.result c.insert_reserved-first.result c.insert_reserved-second.result;
    }) c.index_mut-leaf.ensures.value refl (ap (λ p. below.Children c.args.commodity p c.insert_reserved-first.result c.insert_reserved-second.result) c.of.ensures))

pub returns-clause-ok : goal.returns-clause-ok
returns-clause-ok g c =
    let held = held_room g.N.Exact.rational c.self.inside.nodes c.reserve.new.self c.self.inside.root c.args.self.now c.reserve.ensures.rest_kept
    (subst (λ (t : Tree Held). IsHeld g.N.Exact.rational c.self.inside.nodes c.self.inside.root t) c.self.view_is c.self.invariant) in
    let first = makes_node g.N.Exact.rational c.reserve.new.self c.insert_reserved-first.new.self c.insert_reserved-first.result c.args.first c.unopened_node.result c.unopened_node.ensures
    c.insert_reserved-first.ensures.was_vacant c.insert_reserved-first.ensures.updates c.insert_reserved-first.ensures.len in
    let second = makes_node g.N.Exact.rational c.insert_reserved-first.new.self c.insert_reserved-second.new.self c.insert_reserved-second.result c.args.second c.unopened_node-2.result
    c.unopened_node-2.ensures c.insert_reserved-second.ensures.was_vacant c.insert_reserved-second.ensures.updates c.insert_reserved-second.ensures.len in
    whole_is g.N.Exact.rational _ c.self.inside.root _
    (held_after_split g.N.Exact.rational c.reserve.new.self c.insert_reserved-first.new.self c.insert_reserved-second.new.self c.self.inside.root c.args.self.now
    c.insert_reserved-first.result c.insert_reserved-second.result c.args.first c.args.second held first second
    c.args.node _ c.requires (record { commodity = c.args.commodity; part = c.args.part.items }) c.index_mut-leaf.result.now
    (record {
      evidence = c.index_mut-leaf.result.now.evidence;
      bound = c.index_mut-leaf.result.now.bound;
      below = below.Children c.args.commodity c.of.result c.insert_reserved-first.result c.insert_reserved-second.result;
    }) c.index_mut-leaf.ensures.value refl (ap (λ p. below.Children c.args.commodity p c.insert_reserved-first.result c.insert_reserved-second.result) c.of.ensures))

pub returns-clause-fresh : goal.returns-clause-fresh
returns-clause-fresh g c =
    let held = held_room g.N.Exact.rational c.self.inside.nodes c.reserve.new.self c.self.inside.root c.args.self.now c.reserve.ensures.rest_kept
    (subst (λ (t : Tree Held). IsHeld g.N.Exact.rational c.self.inside.nodes c.self.inside.root t) c.self.view_is c.self.invariant) in
    let first = makes_node g.N.Exact.rational c.reserve.new.self c.insert_reserved-first.new.self c.insert_reserved-first.result c.args.first c.unopened_node.result c.unopened_node.ensures
    c.insert_reserved-first.ensures.was_vacant c.insert_reserved-first.ensures.updates c.insert_reserved-first.ensures.len in
    let second = makes_node g.N.Exact.rational c.insert_reserved-first.new.self c.insert_reserved-second.new.self c.insert_reserved-second.result c.args.second c.unopened_node-2.result
    c.unopened_node-2.ensures c.insert_reserved-second.ensures.was_vacant c.insert_reserved-second.ensures.updates c.insert_reserved-second.ensures.len in
    fresh_keys g.N.Exact.rational c.reserve.new.self c.insert_reserved-first.new.self c.insert_reserved-second.new.self c.self.inside.root c.args.self.now
    c.insert_reserved-first.result c.insert_reserved-second.result c.args.first c.args.second held first second
