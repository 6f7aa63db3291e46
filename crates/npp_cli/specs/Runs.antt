-- What a run of the program leaves.
use Rattle.std.specs.Prelude.{◌≡◌, ◌≢◌, ◌⊎◌, ℕ, ◌<◌, List, [], length, take, Option}
use Rattle.npp_outside.specs.Causes.{Rose}
use Rattle.npp_outside.specs.Shelf.{Files}
use Rattle.npp_outside.specs.Sink.{GrewBy}
use Rattle.npp_cli.specs.Answers.{Answers}

-- missing and failed come only where the shelf has counted them
pub record HasAnswerCause (faults now_faults misses now_misses status : ℕ) : Type 0 where
  pub missing : status ≡ 4 → Rose misses now_misses
  pub failed : status ≡ 5 → Rose faults now_faults

-- an answer to the words, of which a part that is not the whole was written
pub record IsCutOff (words : List (List ℕ)) (held : Option Files) (old new : Option (List ℕ)) : Type 0 where
  pub status : ℕ
  pub text : List ℕ
  pub answers : Answers words held status text
  pub count : ℕ
  pub is_part : count < length text
  pub grew : GrewBy old new (take count text)

-- what is written is the text of an answer to the words, and the status is that of the answer; but where the sink fails
-- the status is 6 and the text is cut off, and for want of memory it is 7 and the text is cut off or nothing is written
pub record Runs (words : List (List ℕ)) (held : Option Files) (old new : Option (List ℕ)) (status : ℕ) : Type 0 where
  pub whole : status ≢ 6 → status ≢ 7 → (text : List ℕ) × Answers words held status text × GrewBy old new text
  pub cut_off : status ≡ 6 → IsCutOff words held old new
  pub no_memory : status ≡ 7 → GrewBy old new [] ⊎ IsCutOff words held old new
