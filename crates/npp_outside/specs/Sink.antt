-- What a write leaves in a sink.
use Rattle.std.specs.Prelude.{◌≡◌, ℕ, ◌<◌, ◌≤◌, List, ◌++◌, length, take, Option, Some, None, Result, IsErrOf, MatchResult, MatchOption}
use Rattle.npp_outside.specs.declared.sink.SinkAnswer.{SinkAnswer}
use Rattle.npp_outside.specs.declared.sink.SinkAnswer.TheVariants.{Failed}
use Rattle.npp_outside.specs.Causes.{Rose}

-- what is written grew by these bytes at its end, where the sink tells it
abbrev pub GrewBy : Option (List ℕ) → Option (List ℕ) → List ℕ → Type 0
GrewBy old new bytes = MatchOption old (new ≡ None) (λ written. new ≡ Some (written ++ bytes))

-- as many of the bytes were written as the answer says, and none at a refusal
abbrev pub Writes : Option (List ℕ) → Option (List ℕ) → List ℕ → Result ℕ SinkAnswer → Type 0
Writes old new bytes result = MatchResult result (λ n. GrewBy old new (take n bytes)) (λ _. new ≡ old)

-- no more bytes than there are, and none only of no bytes
pub record IsWriteCount (bytes : List ℕ) (n : ℕ) : Type 0 where
  pub within : n ≤ length bytes
  pub some : n ≡ 0 → length bytes ≡ 0

-- all of the bytes were written, or at a refusal a part that is not the whole
abbrev pub WritesWhole : Option (List ℕ) → Option (List ℕ) → List ℕ → Result (Unit {0}) SinkAnswer → Type 0
WritesWhole old new bytes result =
    MatchResult result (λ _. GrewBy old new bytes) (λ _. (n : ℕ) × (n < length bytes) × GrewBy old new (take n bytes))

-- the count did not fall, and a failure has raised it
pub record HasSinkCause {T : Type 0} (faults now_faults : ℕ) (result : Result T SinkAnswer) : Type 0 where
  pub stay : faults ≤ now_faults
  pub failed : IsErrOf result Failed → Rose faults now_faults
