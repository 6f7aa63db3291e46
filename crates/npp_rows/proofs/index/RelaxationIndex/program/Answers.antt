use Rattle.std.proofs.Common.{sym, ap, ◌∙◌}
use Rattle.npp_lp.specs.Building.{Started, started}
use Rattle.npp_rows.proofs.ProgramLaws.{columns_size}
use Rattle.npp_rows.proofs.index.RelaxationIndex.program.Goals as goal

pub build-requires-clause-started : goal.build-requires-clause-started
build-requires-clause-started g c =
    let count = rw c.table.ensures.same at c.commodities.ensures.count in
    let columns = (rw count at c.first_paid-columns.ensures.value) ∙ sym (columns_size c.args.self.now.paths c.args.self.now.parts) in
    c.in_ok-builder.ensures.started ∙ ap (λ n. let s : Started g.row.N.Denot = started n in s) columns
