use Rattle.std.proofs.Common.{arith, ℕ, List, [], ◌∷◌, ◌++◌, ◌≡◌, map, refl, sym, ◌∙◌, subst, ap}
use Rattle.npp_tree.specs.declared.node.CertNode.{CertNode}
use Rattle.npp_tree.specs.Outcome.{entry_value}
use Rattle.npp_tree.specs.Tree.{Tree}
use Rattle.npp_tree.specs.Keyed.{Held}
use Rattle.npp_tree.specs.Arena.{IsHeld}
use Rattle.npp_tree.proofs.FreezeLaws.{IsFreezing, freezing_starts, freezing_ends, freezing_goes_on, popped, key_present, empty_stack}
use Rattle.npp_tree.proofs.grow.GrowTree.freeze.Goals as goal

pub loop-key-init : goal.loop-key-init
loop-key-init g c =
    let held = subst (λ (t : Tree Held). IsHeld g.N.Exact.rational c.self.inside.nodes c.self.inside.root t) c.self.view_is c.self.invariant in
    let stack : c.push.new.self.items ≡ c.self.inside.root ∷ [] = c.in_ok-push.ensures.items ∙ ap (λ xs. xs ++ c.self.inside.root ∷ []) c.new-waiting.ensures.items in
    let none : c.in_ok-frozen.frozen.items ≡ [] = c.in_ok-frozen.ensures.items in
    subst (λ (ks : List ℕ). IsFreezing g.N.Exact.rational c.self.inside.nodes ks c.in_ok-frozen.frozen.items c.args.self) (sym stack)
    (subst (λ (ns : List (CertNode g.row.N.Denot)). IsFreezing g.N.Exact.rational c.self.inside.nodes (c.self.inside.root ∷ []) ns c.args.self) (sym none)
    (freezing_starts g.N.Exact.rational c.self.inside.nodes c.self.inside.root c.args.self held))

pub take_node-requires : goal.take_node-requires
take_node-requires g c =
    let f = subst (λ (ks : List ℕ). IsFreezing g.N.Exact.rational c.loop-key.nodes ks c.loop-key.frozen.items c.args.self) c.in-Some.ensures.items c.loop-key.invariant in
    let top = popped g.N.Exact.rational c.loop-key.nodes c.pop.new.self.items c.in-Some.key c.loop-key.frozen.items c.args.self f in
    key_present g.N.Exact.rational c.loop-key.nodes top.top c.in-Some.key top.here

pub loop-key-preserved : goal.loop-key-preserved
loop-key-preserved g c =
    let f = subst (λ (ks : List ℕ). IsFreezing g.N.Exact.rational c.loop-key.nodes ks c.loop-key.frozen.items c.args.self) c.in-Some.ensures.items c.loop-key.invariant in
    subst (λ (ns : List (CertNode g.row.N.Denot)). IsFreezing g.N.Exact.rational c.take_node.new.nodes c.take_node.new.waiting.items ns c.args.self) (sym c.in_ok-push-2.ensures.items)
    (freezing_goes_on g.N.Exact.rational c.loop-key.nodes c.take_node.new.nodes c.pop.new.self.items c.take_node.new.waiting.items c.in-Some.key c.loop-key.frozen.items c.args.self
    c.in_ok-node.node f c.in_ok-node.ensures)

pub returns : goal.returns
returns g c =
    let none : c.loop-key.waiting.items ≡ [] = empty_stack c.pop.result c.loop-key.waiting.items (λ lt. c.pop.ensures.variant.1 (omega (arith, lt, c.loop-key.waiting.ok))) c.in_default.not-Some in
    let f = subst (λ (ks : List ℕ). IsFreezing g.N.Exact.rational c.loop-key.nodes ks c.loop-key.frozen.items c.args.self) none c.loop-key.invariant in
    ap (map (entry_value g.N.Exact.rational)) c.of.ensures ∙ freezing_ends g.N.Exact.rational c.loop-key.nodes c.loop-key.frozen.items c.args.self f
