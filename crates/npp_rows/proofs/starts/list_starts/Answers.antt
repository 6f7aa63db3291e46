use Rattle.std.proofs.Common.{◌≡◌, ◌≤◌, [], length, ap, ◌∙◌, arith, refl}
use Rattle.std.proofs.lemmas.List.{get_or_read}
use Rattle.npp_cover.specs.Replaces.{sum_below}
use Rattle.npp_rows.specs.Parts.{part_at}
use Rattle.npp_rows.proofs.StartLaws.{sum_push, starts_push, piece_within}
use Rattle.npp_rows.proofs.starts.list_starts.Goals as goal

pub overflow_cast-total : goal.overflow_cast-total
overflow_cast-total c =
    let size = ap length (c.entries.ensures ∙ get_or_read c.args.lists.now c.loop-list.list-index c.list-item.result c.loop-list-test.true c.list-item.is []) in
    let whole : sum_below (λ k. length (part_at c.args.lists.now k)) (length c.args.lists.now) ≤ 16777216 = c.requires in
    omega (arith, size, whole, piece_within (λ k. length (part_at c.args.lists.now k)) c.loop-list.list-index (length c.args.lists.now) c.loop-list-test.true)

pub overflow_add-total : goal.overflow_add-total
overflow_add-total c =
    let size = ap length (c.entries.ensures ∙ get_or_read c.args.lists.now c.loop-list.list-index c.list-item.result c.loop-list-test.true c.list-item.is []) in
    let whole : sum_below (λ k. length (part_at c.args.lists.now k)) (length c.args.lists.now) ≤ 16777216 = c.requires in
    omega (arith, size, whole, piece_within (λ k. length (part_at c.args.lists.now k)) c.loop-list.list-index (length c.args.lists.now) c.loop-list-test.true, c.loop-list.invariant.1)

pub loop-list-preserved : goal.loop-list-preserved
loop-list-preserved c =
    let size = ap length (c.entries.ensures ∙ get_or_read c.args.lists.now c.loop-list.list-index c.list-item.result c.loop-list-test.true c.list-item.is []) in (
      rw c.in_ok-push.ensures.items (starts_push _ _ _ _ _ refl c.loop-list.invariant.0 c.loop-list.invariant.1),
      omega (arith, size, sum_push (λ k. length (part_at c.args.lists.now k)) c.loop-list.list-index, c.loop-list.invariant.1),
    )

pub returns : goal.returns
returns c =
    let all : c.loop-list.list-index ≡ length c.args.lists.now = omega arith in
    rw c.in_ok-push-2.ensures.items (starts_push _ _ _ _ _ all c.loop-list.invariant.0 c.loop-list.invariant.1)
