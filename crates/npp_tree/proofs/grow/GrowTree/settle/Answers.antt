use Rattle.std.proofs.Common.{◌≡◌, refl, sym, ◌∙◌, subst, ap, Option, Some}
use Rattle.std.specs.Prelude.{IsSome}
use Rattle.slab.specs.Slab.{get}
use Rattle.npp_tree.specs.declared.grow.GrowNode.{GrowNode}
use Rattle.npp_tree.specs.declared.grow.Below.TheVariants as below
use Rattle.npp_tree.specs.Tree.{Tree}
use Rattle.npp_tree.specs.Keyed.{Held, settled}
use Rattle.npp_tree.specs.Arena.{held_of, IsHeld}
use Rattle.npp_tree.proofs.ArenaLaws.{whole_is, held_whole}
use Rattle.npp_tree.proofs.HeldLaws.{leaf_at, held_settled}
use Rattle.npp_tree.proofs.grow.GrowTree.settle.Goals as goal

pub index_mut-leaf-requires : goal.index_mut-leaf-requires
index_mut-leaf-requires g c =
    let held = subst (λ (t : Tree Held). IsHeld g.N.Exact.rational c.self.inside.nodes c.self.inside.root t) c.self.view_is c.self.invariant in
    let found = leaf_at g.N.Exact.rational c.self.inside.nodes c.self.inside.root c.args.self.now c.args.node _ held c.requires in
    subst (λ (o : Option (GrowNode g.row.N.Denot)). IsSome o) (sym found.1) refl

pub invariant_of-self : goal.invariant_of-self
invariant_of-self g c =
    let held = subst (λ (t : Tree Held). IsHeld g.N.Exact.rational c.self.inside.nodes c.self.inside.root t) c.self.view_is c.self.invariant in
    let found = leaf_at g.N.Exact.rational c.self.inside.nodes c.self.inside.root c.args.self.now c.args.node _ held c.requires in
    let there = found.1 in
    let value = c.index_mut-leaf.ensures.value in
    let same : found.0 ≡ c.index_mut-leaf.result.now = cc in
    let leaf : c.index_mut-leaf.result.now.below ≡ below.Leaf = ap (λ (n : GrowNode g.row.N.Denot). n.below) (sym same) ∙ found.2 in
    held_whole g.N.Exact.rational _ c.self.inside.root _
    (held_settled g.N.Exact.rational c.self.inside.nodes c.self.inside.root c.args.self.now c.args.node c.index_mut-leaf.result.now
    (record { evidence = c.args.evidence; bound = c.args.bound; below = c.index_mut-leaf.result.now.below }) held value leaf leaf)

pub returns : goal.returns
returns g c =
    let held = subst (λ (t : Tree Held). IsHeld g.N.Exact.rational c.self.inside.nodes c.self.inside.root t) c.self.view_is c.self.invariant in
    let found = leaf_at g.N.Exact.rational c.self.inside.nodes c.self.inside.root c.args.self.now c.args.node _ held c.requires in
    let there = found.1 in
    let value = c.index_mut-leaf.ensures.value in
    let same : found.0 ≡ c.index_mut-leaf.result.now = cc in
    let leaf : c.index_mut-leaf.result.now.below ≡ below.Leaf = ap (λ (n : GrowNode g.row.N.Denot). n.below) (sym same) ∙ found.2 in
    whole_is g.N.Exact.rational _ c.self.inside.root _
    (held_settled g.N.Exact.rational c.self.inside.nodes c.self.inside.root c.args.self.now c.args.node c.index_mut-leaf.result.now
    (record { evidence = c.args.evidence; bound = c.args.bound; below = c.index_mut-leaf.result.now.below }) held value leaf leaf)
