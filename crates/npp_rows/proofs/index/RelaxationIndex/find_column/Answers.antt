use Rattle.std.proofs.Common.{length, ap, ◌∙◌}
use Rattle.npp_rows.specs.PathModel.{PathModel}
use Rattle.npp_rows.proofs.FoundLaws.{toll_found, share_found, paid_found}
use Rattle.npp_rows.proofs.index.RelaxationIndex.find_column.Goals as goal

pub returns-in-Toll : goal.returns-in-Toll
returns-in-Toll c =
    rw c.in-Toll.is
    (toll_found c.args.self.now.paths c.args.self.now.parts c.in-Toll.a c.tolls.result c.place_from.result (c.tolls.ensures.count ∙ ap (λ (m : PathModel). length m.caps) c.table.ensures.same) c.place_from.ensures)

pub returns-in-Share : goal.returns-in-Share
returns-in-Share c = rw c.in-Share.is (share_found c.args.self.now.paths c.args.self.now.parts c.in-Share.k c.in-Share.p c.share_place.result c.share_place.ensures)

pub returns-in-Paid : goal.returns-in-Paid
returns-in-Paid c = rw c.in-Paid.is (paid_found c.args.self.now.paths c.args.self.now.parts c.in-Paid.a c.in-Paid.k c.paid_place.result c.paid_place.ensures)
