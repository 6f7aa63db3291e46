use Rattle.std.proofs.Common.{◌≡◌, ◌++◌, ℕ, List, length, map, take, drop, max, fold, ap, ◌∙◌, arith}
use Rattle.std.specs.Prelude.{slice_index}
use Rattle.std.proofs.Math.Seq.{take-append_seam}
use Rattle.npp_rows.specs.Caps.{toll_gap}
use Rattle.npp_rows.proofs.RaiseLaws.{cover_next}
use Rattle.npp_rows.proofs.toll_caps.greatest_gaps.Goals as goal

pub loop-cover-preserved : goal.loop-cover-preserved
loop-cover-preserved c =
    let read = c.as_mut_slice.ensures.value in
    let all : length c.raise_by_paths.new.gaps ≡ c.loop-cover.gaps.len = omega (arith, c.raise_by_paths.ensures.size, ap length read) in
    let written : take c.loop-cover.gaps.len (c.raise_by_paths.new.gaps ++ drop (length c.raise_by_paths.new.gaps) c.loop-cover.gaps.items) ≡ c.raise_by_paths.new.gaps =
    rw (← all) (take-append_seam c.raise_by_paths.new.gaps (drop (length c.raise_by_paths.new.gaps) c.loop-cover.gaps.items)) in (
      ap length written ∙ c.raise_by_paths.ensures.size ∙ ap length read ∙ c.loop-cover.invariant.0,
      λ a h. ap (λ (xs : List ℕ). slice_index xs a) written
          ∙ cover_next a c.args.covers.now c.loop-cover.cover-index c.cover-item.result _ _ c.loop-cover-test.true c.cover-item.is (c.loop-cover.invariant.1 a h)
          (c.raise_by_paths.ensures.gaps a (omega (arith, h, c.loop-cover.invariant.0, ap length read))
          ∙ ap (λ (xs : List ℕ). fold max (slice_index xs a) (map (toll_gap a c.cover-item.result.free) c.cover-item.result.paths)) read),
    )
