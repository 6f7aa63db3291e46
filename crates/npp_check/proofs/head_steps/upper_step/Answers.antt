use Rattle.std.proofs.Common.{Ok, sym, subst, refl}
use Rattle.npp_frac.specs.Fits.{limit_of}
use Rattle.npp_tree.specs.Items.{item_of}
use Rattle.npp_check.specs.declared.known.Head.{Head}
use Rattle.npp_check.specs.declared.stop.Stop.TheVariants as stop
use Rattle.npp_check.specs.HeadLines.{upper_line}
use Rattle.npp_check.specs.Stages.{AtUpper, AtOpened, from_opened}
use Rattle.npp_check.specs.Steps.{Steps}
use Rattle.npp_check.proofs.LineLemmas.{line_goes}
use Rattle.npp_check.proofs.NodeStepLemmas.{wants}
use Rattle.npp_check.proofs.head_steps.upper_step.Goals as goal

pub returns-in_err-head : goal.returns-in_err-head
returns-in_err-head g c =
    let v = g.N.Exact.rational in
    wants v (limit_of g.N.Exact.WIDTH) c.args.measured.now (AtUpper c.args.two c.args.status (v c.args.lower)) (item_of v c.args.item.now) c.from_residual-in_err-head.result stop.Memory c.from_residual-in_err-head.ensures.1 refl

pub returns : goal.returns
returns g c =
    let v = g.N.Exact.rational in
    let limit = limit_of g.N.Exact.WIDTH in
    let upper = c.in_ok-upper.upper in
    subst (λ (h : Head g.row.N.Denot). Steps limit c.args.measured.now (AtUpper c.args.two c.args.status (v c.args.lower)) (item_of v c.args.item.now) (Ok (AtOpened c.args.two h.status (v h.lower) (v h.upper))))
    (sym c.in_ok-head.ensures.ok)
    (λ number items. line_goes upper_line (from_opened limit c.args.measured.now c.args.two c.args.status (v c.args.lower)) (item_of v c.args.item.now) (v upper) (sym c.in_ok-upper.ensures) number items, tt)
