use Rattle.std.proofs.Common.{◌≡◌, length, ap, ◌∙◌, arith}
use Rattle.npp_rows.specs.PathModel.{PathModel}
use Rattle.npp_rows.specs.Rows.{paid_from}
use Rattle.npp_rows.proofs.ProgramLaws.{columns_size}
use Rattle.npp_rows.proofs.index.RelaxationIndex.column_count.Goals as goal

pub returns-clause-count : goal.returns-clause-count
returns-clause-count c =
    let count : c.commodities.result ≡ length c.args.self.now.paths.covers = c.commodities.ensures.count ∙ ap (λ (m : PathModel). length m.covers) c.table.ensures.same in
    let here : paid_from c.args.self.now.paths c.args.self.now.parts c.commodities.result ≡ paid_from c.args.self.now.paths c.args.self.now.parts (length c.args.self.now.paths.covers) = ap (paid_from c.args.self.now.paths c.args.self.now.parts) count in
    omega (arith, c.first_paid.ensures.value, here, columns_size c.args.self.now.paths c.args.self.now.parts)
