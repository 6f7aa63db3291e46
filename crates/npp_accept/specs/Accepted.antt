-- What is printed of a search is accepted: the lines of its outcome are a certificate, whose verdict is the pair of both values.
use Rattle.std.specs.Prelude.{ℕ, ◌<◌, ◌≤◌, ◌^◌, List, All, Ok}
use Rattle.npp_frac.specs.Fits.{limit_of, IsWidth}
use Rattle.npp_frac.specs.Rational.{Rational}
use Rattle.npp_net.specs.Network.{Network, IsNetwork}
use Rattle.npp_labels.specs.Covers.{AreUsefulCovers}
use Rattle.npp_cover.specs.Replaces.{CoverValue}
use Rattle.npp_rows.specs.Limits.{path_total}
use Rattle.npp_tree.specs.declared.item.Item.{Item}
use Rattle.npp_tree.specs.Lines.{certificate_lines}
use Rattle.npp_tree.specs.Outcome.{OutcomeValue}
use Rattle.npp_report.specs.Report.{names_instance}
use Rattle.npp_cert_text.specs.Form.{HasLine}
use Rattle.npp_search.specs.Outcome.{IsGrownOutcome}
use Rattle.npp_search.specs.Problem.{problem_of}
use Rattle.npp_check.specs.Verdict.{IsVerdict}
use Rattle.npp_accept.specs.Numbers.{HasNumbers}

-- the lines that are printed of an outcome that was searched for at a width
abbrev pub lines_of : ℕ → Network → List CoverValue → OutcomeValue → List (Item Rational)
lines_of width net covers o = certificate_lines (names_instance net) width net covers o

-- each item has a line, and the checker, which reads fractions of 128 bits, gives the pair of both values
pub record IsAcceptedOutcome (width : ℕ) (net : Network) (covers : List CoverValue) (o : OutcomeValue) : Type 0 where
  pub lines : All HasLine (lines_of width net covers o)
  pub verdict : IsVerdict (limit_of 128) net (lines_of width net covers o) (Ok (record { lower = o.lower; upper = o.upper }))

-- a search over the useful paths of an instance came to an outcome, opening at most so many nodes; its fractions have 128 bits,
-- as those of each width have
pub record IsOutcomeOfSearch (width budget : ℕ) (net : Network) (covers : List CoverValue) (o : OutcomeValue) : Type 0 where
  pub a_width : IsWidth width
  pub network : IsNetwork net
  pub useful : AreUsefulCovers net.arcs net.commodities covers
  pub few : path_total covers ≤ 2000
  pub small : budget < 2 ^ 32
  pub grown : IsGrownOutcome (problem_of (limit_of width) net covers) budget o
  pub numbers : HasNumbers o

-- what a search comes to is accepted
abbrev pub OutcomesAreAccepted : Type 0
OutcomesAreAccepted = (width budget : ℕ) (net : Network) (covers : List CoverValue) (o : OutcomeValue)
    → IsOutcomeOfSearch width budget net covers o → IsAcceptedOutcome width net covers o
