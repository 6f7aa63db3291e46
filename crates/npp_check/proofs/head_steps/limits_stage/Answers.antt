use Rattle.std.proofs.Common.{◌≡◌, ◌<◌, ◌∙◌, ap, refl, arith}
use Rattle.npp_net.specs.Network.{Network, toll_count}
use Rattle.npp_check.proofs.StepLemmas.{limits_left}
use Rattle.npp_check.proofs.head_steps.limits_stage.Goals as goal

pub returns-then-taken-tolls : goal.returns-then-taken-tolls
returns-then-taken-tolls g c =
    let count : c.tolls.result ≡ toll_count c.args.measured.now.net.arcs = c.tolls.ensures.count ∙ ap (λ (n : Network). toll_count n.arcs) c.instance.ensures.instance in
    let below : c.args.taken < toll_count c.args.measured.now.net.arcs = omega (arith, count) in
    record { same = λ lines. refl; stage = limits_left c.args.measured.now c.args.taken below }
