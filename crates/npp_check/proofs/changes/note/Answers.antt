use Rattle.std.proofs.Common.{◌-◌, take, refl, arith}
use Rattle.std.specs.Prelude.{vec_len}
use Rattle.npp_check.specs.declared.later.Later.{Later}
use Rattle.npp_check.proofs.PlaceLemmas.{last_set, noted, range_noted, range_kept, nothing_left, nothing_noted}
use Rattle.npp_check.proofs.changes.note.Goals as goal

pub returns-in_default-clause-places : goal.returns-in_default-clause-places
returns-in_default-clause-places c =
    nothing_noted c.args.later.now.items c.args.change (nothing_left c.last_mut.result c.args.later.now.items c.in_default.is (λ lt. c.last_mut.ensures.variant.1 (omega (arith, lt, c.args.later.now.ok.0))))

pub returns-in_err-push-clause-range : goal.returns-in_err-push-clause-range
returns-in_err-push-clause-range c = λ n inside all.
    let old : Later = c.in-Some.next.now in
    let next : Later = record { commodity = old.commodity; whole = old.whole; rest = old.rest; parent = old.parent; changes = c.push.new.self } in
    let last = last_set c.args.later.now.items (vec_len c.args.later.now - 1) old next (omega (arith, c.in-Some.ensures.variant.0 refl, c.args.later.now.ok.0)) c.in-Some.ensures.value in
    range_kept n (take (vec_len c.args.later.now - 1) c.args.later.now.items) c.args.later.now.items _ old next last.0 last.1 refl c.in_err-push.ensures.items all

pub returns-clause-places : goal.returns-clause-places
returns-clause-places c =
    let old : Later = c.in-Some.next.now in
    let next : Later = record { commodity = old.commodity; whole = old.whole; rest = old.rest; parent = old.parent; changes = c.push.new.self } in
    let last = last_set c.args.later.now.items (vec_len c.args.later.now - 1) old next (omega (arith, c.in-Some.ensures.variant.0 refl, c.args.later.now.ok.0)) c.in-Some.ensures.value in
    noted (take (vec_len c.args.later.now - 1) c.args.later.now.items) c.args.later.now.items _ old next c.args.change last.0 last.1
    (record { commodity = refl; whole = refl; rest = refl; parent = refl; changes = c.in_ok-push.ensures.items })

pub returns-clause-range : goal.returns-clause-range
returns-clause-range c = λ n inside all.
    let old : Later = c.in-Some.next.now in
    let next : Later = record { commodity = old.commodity; whole = old.whole; rest = old.rest; parent = old.parent; changes = c.push.new.self } in
    let last = last_set c.args.later.now.items (vec_len c.args.later.now - 1) old next (omega (arith, c.in-Some.ensures.variant.0 refl, c.args.later.now.ok.0)) c.in-Some.ensures.value in
    range_noted n (take (vec_len c.args.later.now - 1) c.args.later.now.items) c.args.later.now.items _ old next c.args.change last.0 last.1
    (record { commodity = refl; whole = refl; rest = refl; parent = refl; changes = c.in_ok-push.ensures.items }) inside all
