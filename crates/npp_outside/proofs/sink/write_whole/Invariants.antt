use Rattle.std.proofs.Common.{◌-◌, ◌≤◌, length, take}
use Rattle.npp_outside.specs.Sink.{GrewBy}
use Rattle.npp_outside.proofs.sink.write_whole.Given as goal

abbrev pub invariant-loop-done : goal.invariant-loop-done
invariant-loop-done g l =
    (l.done ≤ length l.bytes)
    × GrewBy (g.O.Sink.written l.initial.out) (g.O.Sink.written l.out) (take l.done l.bytes)
    × (g.O.Sink.faults l.initial.out ≤ g.O.Sink.faults l.out)

abbrev pub decreases-loop-done : goal.decreases-loop-done
decreases-loop-done g l = length l.bytes - l.done
