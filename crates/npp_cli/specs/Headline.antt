-- What a printed report has to be true of, and which search it comes from.
use Rattle.std.specs.Prelude.{◌≡◌, ◌↔◌, ℕ}
use Rattle.npp_net.specs.Network.{Network}
use Rattle.npp_net.specs.Outcome.{IsUpperBound}
use Rattle.npp_rows.specs.Parts.{all_paths}
use Rattle.npp_tree.specs.declared.outcome.Status.TheVariants.{Optimal}
use Rattle.npp_tree.specs.Outcome.{OutcomeValue}
use Rattle.npp_report.specs.Report.{ReportValue}
use Rattle.npp_start.specs.Allowed.{AreAllowed}
use Rattle.npp_start.specs.Walks.{IsReplyTo}
use Rattle.npp_search.specs.Problem.{Problem}
use Rattle.npp_search.specs.Grown.{HasFewNodes}
use Rattle.npp_search.specs.Outcome.{IsGrownOutcome, IsOutcomeBestFirst, IsBetween, MustBeOptimal, OverflowIsLoud}

-- the printed tolls are allowed, and the printed walks are the travellers' reply to them, which earns exactly the lower
-- value; no tolls that keep the ceilings earn more than the upper value; it says optimal exactly where both are equal
pub record IsReportOf (net : Network) (r : ReportValue) : Type 0 where
  pub allowed : AreAllowed net r.tolls
  pub reply : IsReplyTo net r.tolls r.paths r.lower
  pub bounded : IsUpperBound net r.upper.num r.upper.den
  pub status : (r.status ≡ Optimal) ↔ (r.lower ≡ r.upper)

-- the report of an outcome: all but its cuts and its tree
abbrev pub report_of : OutcomeValue → ReportValue
report_of o = record { status = o.status; lower = o.lower; upper = o.upper; opened = o.opened; tolls = o.tolls; paths = o.paths }

-- the outcome is grown best first within the budget, from the tolls of the zero choice and the basic bound on; optimal must
-- come where the budget suffices and every inverse program is quiet; overflow comes only by choices that are not quiet
pub record IsSearched (P : Problem) (budget : ℕ) (o : OutcomeValue) : Type 0 where
  pub grown : IsGrownOutcome P budget o
  pub best_first : IsOutcomeBestFirst P o
  pub few_nodes : HasFewNodes (all_paths P.paths) o.entries
  pub between : IsBetween P o
  pub must_come : MustBeOptimal P budget o
  pub loud : OverflowIsLoud P o
