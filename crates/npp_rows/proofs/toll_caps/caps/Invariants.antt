use Rattle.std.proofs.Common.{◌≡◌, map}
use Rattle.std.specs.List.{range_with_len}
use Rattle.npp_rows.specs.Caps.{toll_cap}
use Rattle.npp_rows.proofs.toll_caps.caps.Given as goal

abbrev pub invariant-loop-toll : goal.invariant-loop-toll
invariant-loop-toll l = l.caps.items ≡ map (toll_cap l.instance l.covers) (range_with_len 0 l.toll)
