-- All tolls are zero.
use Rattle.std.specs.Prelude.{List, replicate}
use Rattle.npp_net.specs.declared.types.NetArc.{NetArc}
use Rattle.npp_net.specs.Network.{toll_count}
use Rattle.npp_net.specs.Toll.{TollVector}

-- zero on each toll arc, over the denominator 1
abbrev pub zero_tolls : List NetArc → TollVector
zero_tolls arcs = record { denominator = 1; numerators = replicate (toll_count arcs) 0 }
