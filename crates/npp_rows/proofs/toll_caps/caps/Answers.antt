use Rattle.std.proofs.Common.{◌≡◌, ◌<◌, length, ◌∙◌, arith, refl}
use Rattle.npp_net.specs.Network.{toll_count}
use Rattle.std.proofs.lemmas.List.{get_or_read}
use Rattle.std.proofs.lemmas.List.FromFn.{map-range_with_len_more}
use Rattle.npp_rows.proofs.LoweringLaws.{can_be_lowered}
use Rattle.npp_rows.proofs.CapLaws.{are_caps}
use Rattle.npp_rows.specs.Caps.{toll_cap}
use Rattle.npp_rows.proofs.toll_caps.caps.Goals as goal

pub loop-toll-preserved : goal.loop-toll-preserved
loop-toll-preserved c =
    let inside : c.loop-toll.toll < toll_count c.args.instance.now.arcs = omega (arith, c.loop-toll-test.true, c.tolls-toll-end.ensures.count) in
    let there : c.loop-toll.toll < length c.in_ok-gaps.gaps.items = omega (arith, inside, c.in_ok-gaps.ensures.size, c.tolls.ensures.count) in
    let gap = get_or_read c.in_ok-gaps.gaps.items c.loop-toll.toll _ there c.index.ensures 0 ∙ c.in_ok-gaps.ensures.gaps c.loop-toll.toll (omega (arith, inside, c.tolls.ensures.count)) in
    let e = map-range_with_len_more (toll_cap c.args.instance.now c.args.covers.now) 0 c.loop-toll.toll c.loop-toll.toll (omega arith) in
    rw (c.in_ok-push.ensures.items, e, c.loop-toll.invariant, c.capped.ensures, gap) refl

pub returns-clause-lowered : goal.returns-clause-lowered
returns-clause-lowered c = can_be_lowered c.args.instance.now c.args.covers.now

pub returns-in_err-push-clause-lowered : goal.returns-in_err-push-clause-lowered
returns-in_err-push-clause-lowered c = can_be_lowered c.args.instance.now c.args.covers.now

pub returns-in_err-gaps-clause-lowered : goal.returns-in_err-gaps-clause-lowered
returns-in_err-gaps-clause-lowered c = can_be_lowered c.args.instance.now c.args.covers.now

pub returns-clause-each : goal.returns-clause-each
returns-clause-each c =
    let all : c.loop-toll.toll ≡ toll_count c.args.instance.now.arcs = omega (arith, c.tolls-toll-end.ensures.count) in
    rw (c.loop-toll.invariant, all) (are_caps c.args.instance.now c.args.covers.now)
