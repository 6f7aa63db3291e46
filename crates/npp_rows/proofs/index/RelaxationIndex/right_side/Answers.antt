use Rattle.std.proofs.Common.{true, ◌∙◌}
use Rattle.npp_rows.proofs.FamilyLaws.{used_inside}
use Rattle.npp_rows.proofs.EntryLaws.{minus_if}
use Rattle.npp_rows.proofs.index.RelaxationIndex.right_side.Goals as goal

pub returns-in-OneLow : goal.returns-in-OneLow
returns-in-OneLow g c = rw c.in-OneLow.is (c.of_whole-in-OneLow.ensures ∙ minus_if true)

pub cap-requires-in-Link : goal.cap-requires-in-Link
cap-requires-in-Link g c =
    let row = rw c.in-Link.is at c.requires in
    rw c.table-table.ensures.same (used_inside c.args.self.now.paths c.args.self.now.parts _ c.in-Link.a row.used)
