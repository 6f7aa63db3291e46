-- What a search comes to is accepted.
use Rattle.npp_report.specs.Report.{names_instance}
use Rattle.npp_accept.specs.Accepted.{OutcomesAreAccepted}
use Rattle.npp_accept.proofs.EndLemmas.{grown_end_says}
use Rattle.npp_accept.proofs.LineLemmas.{lines_have}
use Rattle.npp_accept.proofs.Searched.{replied, accepted_with}
use Rattle.npp_accept.proofs.TreeLemmas.{grown_tree_gives}

pub outcomes_accepted : OutcomesAreAccepted
outcomes_accepted width budget net covers o s = record {
  lines = lines_have (names_instance net) width budget net covers o s.a_width s.network s.useful s.few s.small s.grown (replied width budget net covers o s) s.numbers;
  verdict = accepted_with width budget net covers o s
      (record {
        tree = s.grown.growth.tree;
        gives = grown_tree_gives width budget net covers o s.a_width s.grown;
        ends = grown_end_says width budget net covers o s.grown;
      });
}
