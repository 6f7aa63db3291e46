use Rattle.npp_rows.proofs.SpreadLaws.{place_found}
use Rattle.npp_rows.proofs.touched_sums.place_near.Goals as goal

pub unwrap-requires : goal.unwrap-requires
unwrap-requires c = place_found c.args.columns.now c.args.column c.place_in.result c.place_in.ensures c.requires.here
