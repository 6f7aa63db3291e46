use Rattle.npp_rows.proofs.WholeLaws.{covers_allowed}
use Rattle.npp_tests.proofs.derivations.derived_over_index.Goals as goal

pub new-requires-2 : goal.new-requires-2
new-requires-2 g c =
    rw (c.in_ok-allowed.ensures, c.in_ok-table.ensures.paths)
    (covers_allowed c.in_ok-net.net c.as_slice-covers.result.now (rw c.as_slice-covers.ensures.value c.in_ok-covers.ensures.covers))
