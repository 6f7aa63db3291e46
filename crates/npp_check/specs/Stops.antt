-- Why the faults of the crates below stop a line.
use Rattle.npp_cover.specs.declared.fault.CoverFault.{CoverFault}
use Rattle.npp_cover.specs.declared.fault.CoverFault.TheVariants as cover
use Rattle.npp_rows.specs.declared.cut.CutFault.{CutFault}
use Rattle.npp_rows.specs.declared.cut.CutFault.TheVariants as cut
use Rattle.npp_check.specs.declared.refusal.Rule.TheVariants.{Cover, Cut, Overflow}
use Rattle.npp_check.specs.declared.stop.Stop.{Stop}
use Rattle.npp_check.specs.declared.stop.Stop.TheVariants.{Broken, Memory}

-- each fault but want of memory breaks Cover
abbrev pub stop_of_fault : CoverFault → Stop
stop_of_fault cover.Memory = Memory
stop_of_fault other = Broken (Cover other)

-- a sum that does not fit breaks Overflow, and each other fault but want of memory Cut
abbrev pub stop_of_cut_fault : {N : Type 0} → CutFault N → Stop
stop_of_cut_fault cut.Memory = Memory
stop_of_cut_fault (cut.Overflow o) = Broken Overflow
stop_of_cut_fault other = Broken Cut
