use Rattle.std.proofs.Common.{◌≡◌, ◌≤◌, ◌+◌, ◌-◌}
use Rattle.npp_stream.specs.TextVerdicts.{certificate_limit}
use Rattle.npp_stream.proofs.FileLemmas.{IsUnderWay}
use Rattle.npp_stream.proofs.file.check_file.Given as goal

-- so many bytes were taken, and those up to the limit were judged
abbrev pub invariant-loop-taken : goal.invariant-loop-taken
invariant-loop-taken g l = record {
  held : g.S.Shelf.held l.shelf ≡ g.S.Shelf.held l.fn.shelf;
  under_way : IsUnderWay certificate_limit l.instance (g.S.Shelf.held l.fn.shelf) l.name l.taken l.check;
  faults : g.S.Shelf.faults l.fn.shelf ≤ g.S.Shelf.faults l.shelf;
  misses : g.S.Shelf.misses l.fn.shelf ≤ g.S.Shelf.misses l.shelf;
}

abbrev pub decreases-loop-taken : goal.decreases-loop-taken
decreases-loop-taken g l = (certificate_limit + 1) - l.taken
