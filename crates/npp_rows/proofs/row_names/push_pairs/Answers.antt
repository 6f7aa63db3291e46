use Rattle.std.proofs.Common.{map}
use Rattle.npp_rows.specs.Relax.{allowed_tolls}
use Rattle.npp_rows.specs.KindNames.{pair_name}
use Rattle.npp_rows.proofs.ListLaws.{pieces_next}
use Rattle.npp_rows.proofs.row_names.push_pairs.Goals as goal

pub loop-k-preserved : goal.loop-k-preserved
loop-k-preserved c =
    pieces_next (λ k. map (λ a. pair_name c.args.kind a k) (allowed_tolls c.args.index.now.paths c.args.index.now.parts k)) c.loop-k.k _ _ _ c.loop-k.invariant (rw c.used.ensures.tolls at c.in_ok-push_tolls.ensures)
