-- Bytes on their way to a sink: they are gathered behind those before them, and what is gathered is handed on when it is
-- much.
use Rattle.std.specs.Prelude.{◌≡◌, ℕ, ◌<◌, ◌≤◌, List, ◌++◌, length, take, Option, Result, Err, MatchResult}
use Rattle.npp_outside.specs.declared.sink.SinkAnswer.{SinkAnswer}
use Rattle.npp_outside.specs.declared.sink.SinkAnswer.TheVariants.{Failed, Memory}
use Rattle.npp_outside.specs.Causes.{Rose}
use Rattle.npp_outside.specs.Sink.{GrewBy}

-- bytes were added to those that were gathered before: a part of all these was written, and the rest is gathered now.
-- The count of failures did not fall
pub record AreHanded (old new : Option (List ℕ)) (faults now_faults : ℕ) (before bytes rest : List ℕ) : Type 0 where
  pub part : List ℕ
  pub grew : GrewBy old new part
  pub whole : part ++ rest ≡ before ++ bytes
  pub stay : faults ≤ now_faults

-- a part of the bytes that is not the whole was written, and a failure has raised its count
pub record AreCutOff (old new : Option (List ℕ)) (faults now_faults : ℕ) (bytes : List ℕ) (answer : SinkAnswer) : Type 0 where
  pub count : ℕ
  pub is_part : count < length bytes
  pub grew : GrewBy old new (take count bytes)
  pub stay : faults ≤ now_faults
  pub failed : answer ≡ Failed → Rose faults now_faults

-- all of the bytes are on their way, or the whole is cut off
abbrev pub Hands : Option (List ℕ) → Option (List ℕ) → ℕ → ℕ → List ℕ → List ℕ → List ℕ → Result (Unit {0}) SinkAnswer → Type 0
Hands old new faults now_faults before bytes rest result =
    MatchResult result
    (λ _. AreHanded old new faults now_faults before bytes rest)
    (λ answer. AreCutOff old new faults now_faults (before ++ bytes) answer)

-- nothing was written, since memory was wanting before
pub record IsWanting (old new : Option (List ℕ)) (faults now_faults : ℕ) (result : Result (Unit {0}) SinkAnswer) : Type 0 where
  pub answer : result ≡ Err Memory
  pub same : new ≡ old
  pub same_faults : now_faults ≡ faults
