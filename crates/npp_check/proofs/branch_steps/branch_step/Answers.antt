use Rattle.std.proofs.Common.{◌≡◌, ◌+◌, map, sym, ap, subst, refl}
use Rattle.std.proofs.lemmas.Result.{IfOk-weaker}
use Rattle.npp_frac.specs.Fits.{limit_of}
use Rattle.npp_rows.specs.Caps.{path_model}
use Rattle.npp_rows.specs.Meaning.{cut_value}
use Rattle.npp_tree.specs.declared.item.Item.{Item}
use Rattle.npp_net.specs.Network.{Network}
use Rattle.npp_tree.specs.Bounds.{bound_value, greater}
use Rattle.npp_tree.specs.Items.{item_of}
use Rattle.npp_check.specs.declared.refusal.Rule.TheVariants as rule
use Rattle.npp_check.specs.NodeLines.{branch_line, child_place}
use Rattle.npp_check.specs.Stages.{AtNodes, Sum}
use Rattle.npp_check.specs.StageValue.{known_value, sum_value, branch_value, stage_value, step_value}
use Rattle.npp_check.specs.Steps.{Steps}
use Rattle.npp_check.proofs.NodeStepLemmas.{moved, leaf_goes, branch_breaks, no_branch}
use Rattle.npp_check.proofs.TreeStandLemmas.{tree_first, tree_rest, parts_rise}
use Rattle.npp_check.proofs.branch_steps.branch_step.Goals as goal

pub returns-in-Leaf : goal.returns-in-Leaf
returns-in-Leaf g c =
    let v = g.N.Exact.rational in
    let d = c.args.descent.value in
    let old = branch_value v d c.args.bound in
    let sum : Sum = record { opened = d.sum.opened + 1; bound = greater (bound_value d.sum.bound) (bound_value c.args.bound) } in
    let new = AtNodes (known_value v d.known) d.places.later sum in
    let judged = ap (λ (x : Item g.row.N.Denot). branch_line d.places.first.parts (item_of v x)) c.in-Leaf.is in
    moved v (limit_of g.N.Exact.WIDTH) c.args.measured.now old new (item_of v c.args.item) c.leaf_step.result
    (leaf_goes (limit_of g.N.Exact.WIDTH) c.args.measured.now (known_value v d.known) d.places.later (sum_value d.sum) d.places.first.parts (bound_value c.args.bound) (item_of v c.args.item) judged sum refl)
    (tree_rest c.args.measured.now.net d.known.covers.items (map (cut_value v) d.known.cuts.items) (child_place (bound_value c.args.bound) d.places.first.parts) d.places.later c.requires.stage)
    (IfOk-weaker c.leaf_step.result (λ s. (net : Network) → stage_value v net s ≡ AtNodes (known_value v d.known) d.places.later sum) (λ s. stage_value v c.args.measured.now.net s ≡ new) (λ s h. h c.args.measured.now.net) c.leaf_step.ensures.next)
    c.leaf_step.ensures.stop

pub split_step-requires : goal.split_step-requires
split_step-requires g c =
    let v = g.N.Exact.rational in
    let d = c.args.descent.value in
    parts_rise (path_model c.args.measured.now.net d.known.covers.items) d.places.first.parts
    (tree_first c.args.measured.now.net d.known.covers.items (map (cut_value v) d.known.cuts.items) (child_place (bound_value c.args.bound) d.places.first.parts) d.places.later c.requires.stage)

pub returns-in-Split : goal.returns-in-Split
returns-in-Split g c =
    let v = g.N.Exact.rational in
    subst (λ (x : Item g.row.N.Denot). Steps (limit_of g.N.Exact.WIDTH) c.args.measured.now (branch_value v c.args.descent.value c.args.bound) (item_of v x) (step_value v c.args.measured.now.net c.split_step.result))
    (sym c.in-Split.is) (c.split_step.ensures c.args.measured.now c.requires.stage)

pub returns-in_default : goal.returns-in_default
returns-in_default g c =
    let v = g.N.Exact.rational in
    let d = c.args.descent.value in
    branch_breaks (limit_of g.N.Exact.WIDTH) c.args.measured.now (known_value v d.known) d.places.later (sum_value d.sum) d.places.first.parts (bound_value c.args.bound) (item_of v c.args.item) rule.Order
    (no_branch v c.args.item d.places.first.parts c.in_default.not-Leaf c.in_default.not-Split)
