use Rattle.npp_rows.proofs.WholeLaws.{covers_allowed}
use Rattle.npp_fixtures.proofs.families.all_allowed.Goals as goal

pub returns : goal.returns
returns c = rw (c.in_ok-allowed.ensures, c.in_ok-table.ensures.paths) (covers_allowed c.args.instance.now c.args.covers.now c.requires.covers)
