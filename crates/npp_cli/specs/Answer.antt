-- A status with what is written.
use Rattle.std.specs.Prelude.{◌≡◌, ℕ, List, string_bytes}
use Rattle.npp_frac.specs.Narrow.{value_of_64}
use Rattle.npp_tree.specs.Outcome.{outcome_value}
use Rattle.npp_writer.specs.OutcomeText.{outcome_text}
use Rattle.npp_cli.specs.declared.answers.Answer.{Answer}
use Rattle.npp_cli.specs.declared.answers.Output.{Output}
use Rattle.npp_cli.specs.declared.answers.Output.TheVariants.{Text, Bytes, Solved}
use Rattle.npp_cli.specs.declared.answers.Solution.{Solution}

-- the certificate of a solution, or its report alone
abbrev pub solution_text : Solution → List ℕ
solution_text s = outcome_text s.brief 64 s.instance s.covers.items (outcome_value value_of_64 s.outcome)

-- the bytes that an output stands for
abbrev pub output_text : Output → List ℕ
output_text (Text text) = string_bytes text
output_text (Bytes bytes) = bytes.items
output_text (Solved solution) = solution_text solution

abbrev pub answer_text : Answer → List ℕ
answer_text answer = output_text answer.output

-- the answer has this status and this text
pub record IsAnswer (status : ℕ) (text : List ℕ) (answer : Answer) : Type 0 where
  pub has_status : answer.status ≡ status
  pub has_text : answer_text answer ≡ text
