use Rattle.std.proofs.Common.{◌≡◌, ◌≤◌, length, ap, ◌∙◌, arith, refl}
use Rattle.std.proofs.lemmas.List.{get_or_read, length-map}
use Rattle.npp_cover.specs.Replaces.{sum_below, CoverValue}
use Rattle.std.specs.Prelude.{slice_index_or}
use Rattle.npp_rows.specs.PathModel.{no_cover}
use Rattle.npp_rows.proofs.StartLaws.{sum_push, starts_push, piece_within, sum_by_places}
use Rattle.npp_rows.proofs.starts.path_starts.Goals as goal

pub overflow_add-total : goal.overflow_add-total
overflow_add-total c =
    let count : length c.paths.result.now ≡ length c.cover-item.result.paths = simp length-map at (ap length c.paths.ensures) in
    let size = count ∙ ap length (ap (λ (x : CoverValue). x.paths) (get_or_read c.args.covers.now c.loop-cover.cover-index c.cover-item.result c.loop-cover-test.true c.cover-item.is no_cover)) in
    let whole : sum_below (λ k. length (slice_index_or c.args.covers.now k no_cover).paths) (length c.args.covers.now) ≤ 16777216 = rw (← sum_by_places (λ (x : CoverValue). length x.paths) no_cover c.args.covers.now) c.requires in
    omega (arith, size, whole, piece_within (λ k. length (slice_index_or c.args.covers.now k no_cover).paths) c.loop-cover.cover-index (length c.args.covers.now) c.loop-cover-test.true, c.loop-cover.invariant.1)

pub loop-cover-preserved : goal.loop-cover-preserved
loop-cover-preserved c =
    let count : length c.paths.result.now ≡ length c.cover-item.result.paths = simp length-map at (ap length c.paths.ensures) in
    let size = count ∙ ap length (ap (λ (x : CoverValue). x.paths) (get_or_read c.args.covers.now c.loop-cover.cover-index c.cover-item.result c.loop-cover-test.true c.cover-item.is no_cover)) in (
      rw c.in_ok-push.ensures.items (starts_push _ _ _ _ _ refl c.loop-cover.invariant.0 c.loop-cover.invariant.1),
      omega (arith, size, sum_push (λ k. length (slice_index_or c.args.covers.now k no_cover).paths) c.loop-cover.cover-index, c.loop-cover.invariant.1),
    )

pub returns : goal.returns
returns c =
    let all : c.loop-cover.cover-index ≡ length c.args.covers.now = omega arith in
    rw c.in_ok-push-2.ensures.items (starts_push _ _ _ _ _ all c.loop-cover.invariant.0 c.loop-cover.invariant.1)
