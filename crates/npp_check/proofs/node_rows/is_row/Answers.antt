use Rattle.std.proofs.Common.{sym, subst, IsTrue, nat_lt}
use Rattle.npp_rows.specs.declared.names.RowName.{RowName}
use Rattle.npp_rows.specs.Caps.{path_model}
use Rattle.npp_rows.specs.Rows.{IsRow}
use Rattle.npp_check.proofs.RowLemmas.{cap_test}
use Rattle.npp_check.proofs.node_rows.is_row.Goals as goal

pub returns-in-Cap : goal.returns-in-Cap
returns-in-Cap c =
    subst (λ (r : RowName). (IsTrue (nat_lt c.in-Cap.toll c.tolls.result) → IsRow (path_model c.args.instance.now c.args.covers.now) c.args.allowed.now.parts c.args.cuts r) × (IsRow (path_model c.args.instance.now c.args.covers.now) c.args.allowed.now.parts c.args.cuts r → IsTrue (nat_lt c.in-Cap.toll c.tolls.result)))
    (sym c.in-Cap.is) (cap_test c.args.instance.now c.args.covers.now c.in-Cap.toll c.tolls.result c.tolls.ensures.count)
