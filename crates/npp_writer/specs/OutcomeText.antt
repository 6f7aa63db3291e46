-- The text of an outcome: a certificate, or its report alone.
use Rattle.std.specs.Prelude.{ℕ, Bool, List, if◌then◌else◌}
use Rattle.npp_frac.specs.Rational.{Rational}
use Rattle.npp_net.specs.Network.{Network}
use Rattle.npp_cover.specs.Replaces.{CoverValue}
use Rattle.npp_tree.specs.declared.item.Item.{Item}
use Rattle.npp_tree.specs.Outcome.{OutcomeValue}
use Rattle.npp_tree.specs.Lines.{report_lines, certificate_lines}
use Rattle.npp_report.specs.Lines.{text_of}
use Rattle.npp_report.specs.Report.{names_instance}

-- its lines as items, of the second form where the text names the instance
abbrev pub outcome_lines : Bool → ℕ → Network → List CoverValue → OutcomeValue → List (Item Rational)
outcome_lines brief width net covers o =
    if brief then report_lines (names_instance net) width net o else certificate_lines (names_instance net) width net covers o

-- and these lines one after another
unfoldable pub outcome_text : Bool → ℕ → Network → List CoverValue → OutcomeValue → List ℕ
outcome_text brief width net covers o = text_of (outcome_lines brief width net covers o)
