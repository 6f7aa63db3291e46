-- A report: what is said of an instance before the evidence for the upper value.
use Rattle.std.specs.Prelude.{ℕ, Bool, List, [], map, is_some, nat_lt, ◌||◌}
use Rattle.std.specs.List.{list_any}
use Rattle.npp_frac.specs.Rational.{Rational}
use Rattle.npp_frac.specs.Wide.{value_of_wide}
use Rattle.npp_net.specs.Network.{Network, toll_count}
use Rattle.npp_tree.specs.declared.outcome.PathLine.{PathLine}
use Rattle.npp_tree.specs.declared.outcome.Status.{Status}
use Rattle.npp_tree.specs.Outcome.{OutcomeValue, path_line_value}
use Rattle.npp_tree.specs.Lines.{report_lines}
use Rattle.npp_report.specs.declared.report.Report.{Report}
use Rattle.npp_report.specs.Lines.{text_of}

-- how the search ended, what is earned and what bounds all that can be, how many nodes were opened; tolls by their
-- numbers, and walks by those of the commodities
pub record ReportValue : Type 0 where
  pub status : Status
  pub lower : Rational
  pub upper : Rational
  pub opened : ℕ
  pub tolls : List Rational
  pub paths : List (PathLine Rational)

-- what a report of the code stands for. `value` says what a number stands for
abbrev pub report_value : {N : Type 0} → (N → Rational) → Report N → ReportValue
report_value value r = record {
  status = r.status;
  lower = value_of_wide r.lower;
  upper = value_of_wide r.upper;
  opened = r.opened;
  tolls = map value r.tolls;
  paths = map (path_line_value value) r.paths;
}

-- whether the report names the instance: where an arc has a ceiling, or there are over 64 toll arcs
abbrev pub names_instance : Network → Bool
names_instance net = list_any (λ x. is_some x.ceiling) net.arcs || nat_lt 64 (toll_count net.arcs)

-- the outcome that has this report, without cuts and without a tree
abbrev pub without_evidence : ReportValue → OutcomeValue
without_evidence r = record {
  status = r.status;
  lower = r.lower;
  upper = r.upper;
  opened = r.opened;
  tolls = r.tolls;
  paths = r.paths;
  cuts = [];
  entries = [];
}

-- the text of a report of this width: the lines of a certificate down to the last walk
unfoldable pub report_text : Network → ℕ → ReportValue → List ℕ
report_text net width r = text_of (report_lines (names_instance net) width net (without_evidence r))
