-- What a run leaves whose answer is written.
use Rattle.std.proofs.Common.{◌≡◌, ◌≢◌, ℕ, true, List, Option, None, Some, sym, ◌∙◌, arith}
use Rattle.npp_outside.specs.Shelf.{Files}
use Rattle.npp_outside.specs.Sink.{GrewBy}
use Rattle.npp_cli.specs.Runs.{Runs}
use Rattle.npp_reader.specs.Canonical.{canonical_text}
use Rattle.npp_cli.specs.declared.words.FileJob.TheVariants.{Solve}
use Rattle.npp_cli.specs.Generated.{generated}
use Rattle.npp_cli.specs.Words.{Job, on_file, evaluate, on_certificate, generate, demonstrate, job_of}
use Rattle.npp_cli.specs.Answers.{Answers, AnswersJob}
use Rattle.npp_cli.proofs.StatusLemmas.{IsOther, IsNoShelfStatus, bytes_status, on_certificate_status, on_file_status, on_two_status, other_6, other_7}

-- no answer has the status of a sink that failed, or of want of memory
no_shelf_6 : IsNoShelfStatus 6
no_shelf_6 = record { not_4 = λ e. omega (arith, e); not_5 = λ e. omega (arith, e); not_12 = λ e. omega (arith, e) }

no_shelf_7 : IsNoShelfStatus 7
no_shelf_7 = record { not_4 = λ e. omega (arith, e); not_5 = λ e. omega (arith, e); not_12 = λ e. omega (arith, e) }

job_status : (n status : ℕ) → n ≢ 2 → IsOther n → IsNoShelfStatus n → status ≡ n
    → (job : Option Job) (held : Option Files) (text : List ℕ) → AnswersJob job held status text → ⊥
job_status n status not_2 other none is None held text answers = not_2 (sym is ∙ answers.0)
job_status n status not_2 other none is (Some (on_file job name)) held text answers = on_file_status n status other none is job held name text answers
job_status n status not_2 other none is (Some (evaluate name tolls)) held text answers = on_two_status n status other none is held name tolls text answers
job_status n status not_2 other none is (Some (on_certificate job name certificate)) held text answers =
    on_certificate_status n status other none is job held name certificate text answers
job_status n status not_2 other none is (Some (generate number)) held text answers = other.not_0 (sym is ∙ answers.0)
job_status n status not_2 other none is (Some (demonstrate number budget)) held text answers =
    bytes_status n status other is (Solve budget true) (canonical_text (generated number)) text answers

pub answers_6 : (words : List (List ℕ)) (held : Option Files) (status : ℕ) (text : List ℕ) → Answers words held status text → status ≡ 6 → ⊥
answers_6 words held status text answers six = job_status 6 status (λ e. omega (arith, e)) other_6 no_shelf_6 six (job_of words) held text answers

answers_7 : (words : List (List ℕ)) (held : Option Files) (status : ℕ) (text : List ℕ) → Answers words held status text → status ≡ 7 → ⊥
answers_7 words held status text answers seven = job_status 7 status (λ e. omega (arith, e)) other_7 no_shelf_7 seven (job_of words) held text answers

-- an answer whose whole text was written
pub runs_whole : (words : List (List ℕ)) (held : Option Files) (old new : Option (List ℕ)) (status : ℕ) (text : List ℕ)
    → Answers words held status text → GrewBy old new text → Runs words held old new status
runs_whole words held old new status text answers grew = record {
  whole = λ _ _. (text, answers, grew);
  cut_off = λ six. absurd (answers_6 words held status text answers six);
  no_memory = λ seven. absurd (answers_7 words held status text answers seven);
}
