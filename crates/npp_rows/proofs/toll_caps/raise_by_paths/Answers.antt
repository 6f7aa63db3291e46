use Rattle.std.proofs.Common.{◌==◌, cond, max, ap, ◌∙◌, arith}
use Rattle.std.specs.Prelude.{slice_index}
use Rattle.std.specs.Int.{bit_at}
use Rattle.npp_cover.specs.PathValue.{path_value}
use Rattle.npp_rows.specs.Caps.{toll_gap}
use Rattle.npp_rows.proofs.RaiseLaws.{path_next}
use Rattle.npp_rows.proofs.toll_caps.raise_by_paths.Goals as goal

pub loop-path-preserved : goal.loop-path-preserved
loop-path-preserved c = (
  c.raise_on.ensures.size ∙ c.loop-path.invariant.0,
  λ a h. path_next (toll_gap a c.free_cost-free.result) path_value c.paths-path-items.result.now c.loop-path.path-index c.path-item.result _ _ _ c.loop-path-test.true c.path-item.is (c.loop-path.invariant.1 a h)
      (c.raise_on.ensures.gaps a (omega (arith, h, c.loop-path.invariant.0))
      ∙ ap (λ n. max (slice_index c.loop-path.gaps a) (cond (bit_at c.path-item.result.tolls a == 1) n 0)) c.saturating_sub.ensures),
)
