-- From what is said where each commodity has a toll-free walk to the answer.
use Rattle.std.proofs.Common.{ℕ, List, inr}
use Rattle.npp_net.specs.declared.types.Span.{Span}
use Rattle.npp_net.specs.Network.{Network}
use Rattle.npp_bounds.specs.Spans.{AreSpans}
use Rattle.npp_eval.proofs.EvalLaws.{all_have_free_paths}
use Rattle.npp_cli.specs.Answers.{AnswersConnected}

pub connected_answers : (about : ℕ → List ℕ → Type 0) (net : Network) (ss : List Span) (status : ℕ) (text : List ℕ)
    → AreSpans net.arcs net.commodities ss → about status text → AnswersConnected about net status text
connected_answers about net ss status text are says = inr (all_have_free_paths net.arcs net.commodities ss are, says)
