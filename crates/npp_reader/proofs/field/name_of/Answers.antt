use Rattle.std.proofs.Common.{◌≡◌, true}
use Rattle.npp_reader.specs.Fields.{is_name}
use Rattle.npp_reader.proofs.FieldLemmas.{name_is_utf8}
use Rattle.npp_reader.proofs.field.name_of.Goals as goal

pub unreachable-requires : goal.unreachable-requires
unreachable-requires c =
    let good : is_name c.args.field.now ≡ true = cc in
    c.in-Err.ensures.cases.0 (name_is_utf8 c.args.field.now good)
