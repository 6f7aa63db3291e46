use Rattle.std.proofs.Common.{◌≡◌, ◌++◌, ◌+◌, length}
use Rattle.std.specs.Vec.Iter.{into_iter_items, into_iter_len}
use Rattle.npp_reader.proofs.names.Names.new.Given as goal

abbrev pub invariant-loop-name : goal.invariant-loop-name
invariant-loop-name l =
    (l.index.keys ≡ l.yielded)
    × (l.yielded ++ into_iter_items l.name-iterator ≡ l.fn.names.items)
    × (length l.yielded + into_iter_len l.name-iterator ≡ length l.fn.names.items)
