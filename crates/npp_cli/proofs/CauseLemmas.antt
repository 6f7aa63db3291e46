-- No answer about the bytes of a file has a status of the shelf.
use Rattle.std.proofs.Common.{ℕ, true, List}
use Rattle.npp_net.specs.Network.{Network}
use Rattle.npp_reader.specs.Canonical.{canonical_text}
use Rattle.npp_cli.specs.declared.words.CertificateJob.{CertificateJob}
use Rattle.npp_cli.specs.declared.words.FileJob.TheVariants.{Solve}
use Rattle.npp_cli.specs.Answers.{AnswersDemonstration}
use Rattle.npp_cli.specs.Checked.{IsJudged}
use Rattle.npp_cli.specs.Evaluated.{AnswersTolls}
use Rattle.npp_cli.specs.Generated.{generated}
use Rattle.npp_cli.specs.Runs.{HasAnswerCause}
use Rattle.npp_cli.proofs.StatusLemmas.{bytes_status, judged_status, other_cause, tolls_status}

-- of a tolls file
pub tolls_cause : (faults now_faults misses now_misses status : ℕ) (net : Network) (bytes text : List ℕ) → AnswersTolls net bytes status text
    → HasAnswerCause faults now_faults misses now_misses status
tolls_cause faults now_faults misses now_misses status net bytes text answers =
    other_cause faults now_faults misses now_misses status (λ n other is. tolls_status n status other is net bytes text answers)

-- of a certificate file
pub judged_cause : (faults now_faults misses now_misses status : ℕ) (job : CertificateJob) (net : Network) (bytes text : List ℕ)
    → IsJudged job net bytes status text → HasAnswerCause faults now_faults misses now_misses status
judged_cause faults now_faults misses now_misses status job net bytes text judged =
    other_cause faults now_faults misses now_misses status (λ n other is. judged_status n status other is job net bytes text judged)

-- of a generated instance
pub demonstration_cause : (faults now_faults misses now_misses status number budget : ℕ) (text : List ℕ) → AnswersDemonstration number budget status text
    → HasAnswerCause faults now_faults misses now_misses status
demonstration_cause faults now_faults misses now_misses status number budget text answers =
    other_cause faults now_faults misses now_misses status
    (λ n other is. bytes_status n status other is (Solve budget true) (canonical_text (generated number)) text answers)
