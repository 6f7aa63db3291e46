use Rattle.std.proofs.Common.{map}
use Rattle.npp_frac.specs.Wide.{value_of_wide}
use Rattle.npp_toll_text.proofs.ReadingLemmas.{HasRead}
use Rattle.npp_toll_text.proofs.reading.read_tolls.Given as goal

abbrev pub invariant-loop-number : goal.invariant-loop-number
invariant-loop-number l = HasRead l.instance.arcs l.bytes l.number (map value_of_wide l.tolls.items) l.rest
