use Rattle.std.proofs.Common.{◌≡◌, ◌∙◌, ap}
use Rattle.std.proofs.lemmas.Result.{IfOk-weaker}
use Rattle.npp_net.specs.Network.{Network}
use Rattle.npp_tree.specs.Bounds.{bound_value, greater}
use Rattle.npp_check.specs.Descents.{first_before}
use Rattle.npp_check.specs.Stages.{AtNodes, Stage, Sum}
use Rattle.npp_check.specs.StageValue.{known_value, stage_value}
use Rattle.npp_check.proofs.node_steps.leave_open.Goals as goal

pub returns-clause-next : goal.returns-clause-next
returns-clause-next g c =
    let v = g.N.Exact.rational in
    let net = c.args.measured.now.net in
    let d = c.args.descent.value in
    let at : Sum → Stage = λ sum. AtNodes (known_value v d.known) d.places.later sum in
    let before = c.bound_before-before.ensures ∙ ap (first_before net) c.deref.ensures in
    let bound : bound_value c.greater.result ≡ greater (bound_value d.sum.bound) (first_before net d) =
    c.greater.ensures ∙ (λ i. greater (bound_value (c.deref-2.ensures i).sum.bound) (before i)) in
    let sum : Sum = record { opened = c.deref-2.result.now.sum.opened; bound = bound_value c.greater.result } in
    let new : Sum = record { opened = d.sum.opened; bound = greater (bound_value d.sum.bound) (first_before net d) } in
    let same : sum ≡ new = λ i. record { opened = (c.deref-2.ensures i).sum.opened; bound = bound i } in
    IfOk-weaker c.behind_node.result (λ s. (n : Network) → stage_value v n s ≡ at sum) (λ s. stage_value v net s ≡ at new) (λ s h. h net ∙ ap at same) c.behind_node.ensures.next
