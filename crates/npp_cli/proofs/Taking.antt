-- What was taken of a file so far.
use Rattle.std.proofs.Common.{◌≡◌, ℕ, List, [], length, take, Option, Some, None, MatchOption}
use Rattle.std.specs.Bool.{⊤}
use Rattle.npp_outside.specs.Shelf.{Files, file_at}

abbrev pub HasTakenOf : Option (List ℕ) → List ℕ → Type 0
HasTakenOf file taken = MatchOption file (taken ≡ []) (λ bytes. taken ≡ take (length taken) bytes)

abbrev pub HasTaken : Option Files → List ℕ → List ℕ → Type 0
HasTaken None name taken = ⊤
HasTaken (Some files) name taken = HasTakenOf (file_at files name) taken
