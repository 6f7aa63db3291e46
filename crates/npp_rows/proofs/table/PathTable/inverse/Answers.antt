use Rattle.std.proofs.Common.{length, sym, ap, ◌∙◌}
use Rattle.std.proofs.lemmas.List.FromFn.{length-range_with_len}
use Rattle.npp_lp.specs.Building.{Started, started}
use Rattle.npp_rows.proofs.table.PathTable.inverse.Goals as goal

pub build-requires-clause-started : goal.build-requires-clause-started
build-requires-clause-started g c =
    c.in_ok-builder.ensures.started ∙ ap (λ n. let s : Started g.row.N.Denot = started n in s) (c.tolls.ensures.count ∙ sym (length-range_with_len 0 (length c.args.self.now.caps)))
