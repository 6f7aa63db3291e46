-- The names of the rules of certificates.
use Rattle.std.specs.Prelude.{ℕ, List, ◌++◌, codes}
use Rattle.npp_cover.specs.declared.fault.CoverFault.{CoverFault}
use Rattle.npp_cover.specs.declared.fault.CoverFault.TheVariants as faults
use Rattle.npp_check.specs.declared.refusal.Rule.{Rule}
use Rattle.npp_check.specs.declared.refusal.Rule.TheVariants.{Text, Order, Tolls, Path, Cover, TooManyPaths, Lower, Cut, Split, Evidence, Opened, Upper, Status, Overflow, Instance}

-- the name of a fault of a cover, without the numbers of labels and arcs
abbrev pub fault_word : CoverFault → List ℕ
fault_word faults.TooManyLabels = codes "TooManyLabels"
fault_word (faults.NotAStep label) = codes "NotAStep"
fault_word (faults.RepeatedToll label) = codes "RepeatedToll"
fault_word (faults.Useless label) = codes "Useless"
fault_word faults.BadFree = codes "BadFree"
fault_word faults.MissingOrigin = codes "MissingOrigin"
fault_word (faults.NotClosed label arc) = codes "NotClosed"
fault_word faults.Memory = codes "Memory"

-- the name of a rule that refusals print, with that of the fault where it is about a cover
abbrev pub rule_word : Rule → List ℕ
rule_word Text = codes "Text"
rule_word Order = codes "Order"
rule_word Tolls = codes "Tolls"
rule_word Path = codes "Path"
rule_word (Cover fault) = codes "Cover " ++ fault_word fault
rule_word TooManyPaths = codes "TooManyPaths"
rule_word Lower = codes "Lower"
rule_word Cut = codes "Cut"
rule_word Split = codes "Split"
rule_word Evidence = codes "Evidence"
rule_word Opened = codes "Opened"
rule_word Upper = codes "Upper"
rule_word Status = codes "Status"
rule_word Overflow = codes "Overflow"
rule_word Instance = codes "Instance"
