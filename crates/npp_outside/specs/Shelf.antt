-- What a shelf holds, and what a piece of a file is.
use Rattle.std.specs.Prelude.{◌≡◌, ◌⊎◌, ⊤, ℕ, ◌≤◌, List, [], ◌∷◌, length, take, drop, map, nat_eq, Option, Some, None, Result, IsErrOf, MatchResult, if◌then◌else◌, string_bytes, Vec, String}
use Rattle.std.specs.Cmp.Lexicographic.{pointwise}
use Rattle.std.specs.declared.alloc.Global.{Global}
use Rattle.npp_outside.specs.declared.shelf.ShelfAnswer.{ShelfAnswer}
use Rattle.npp_outside.specs.declared.shelf.ShelfAnswer.TheVariants.{Missing, Failed}
use Rattle.npp_outside.specs.Causes.{Rose}

-- names, each with the bytes of its file
abbrev pub Files : Type 0
Files = List (List ℕ × List ℕ)

-- the bytes of the file of this name
abbrev pub file_at : Files → List ℕ → Option (List ℕ)
file_at [] name = None
file_at (file ∷ files) name = if pointwise nat_eq file.0 name then Some file.1 else file_at files name

-- no file has the name of a later one
abbrev pub NamesDiffer : Files → Type 0
NamesDiffer [] = ⊤
NamesDiffer (file ∷ files) = (file_at files file.0 ≡ None) × NamesDiffer files

-- the files of a list of texts with bytes
abbrev pub files_of : List (String Global × Vec ℕ Global) → Files
files_of files = map (λ (file : String Global × Vec ℕ Global). (string_bytes file.0, file.1.items)) files

-- the first n bytes of the buffer are the file's from the place `at` on, and there are none only at its end
pub record IsPiece (bytes : List ℕ) (at room : ℕ) (into : List ℕ) (n : ℕ) : Type 0 where
  pub read : take n into ≡ take n (drop at bytes)
  pub end : n ≡ 0 → (room ≡ 0) ⊎ (length bytes ≤ at)

-- a name that is not held is answered by no bytes, and one that is held by a piece of its file, where nothing failed
abbrev pub GivesPieceOf : Option (List ℕ) → ℕ → ℕ → List ℕ → Result ℕ ShelfAnswer → Type 0
GivesPieceOf None at room into result = MatchResult result (λ _. ⊥) (λ e. (e ≡ Missing) ⊎ (e ≡ Failed))
GivesPieceOf (Some bytes) at room into result = MatchResult result (IsPiece bytes at room into) (λ e. e ≡ Failed)

-- what is known of a piece where the shelf tells its files
abbrev pub GivesPiece : Option Files → List ℕ → ℕ → ℕ → List ℕ → Result ℕ ShelfAnswer → Type 0
GivesPiece None name at room into result = ⊤
GivesPiece (Some files) name at room into result = GivesPieceOf (file_at files name) at room into result

-- no count fell, and each refusal has raised its count
pub record HasShelfCause (faults now_faults misses now_misses : ℕ) (result : Result ℕ ShelfAnswer) : Type 0 where
  pub faults_stay : faults ≤ now_faults
  pub misses_stay : misses ≤ now_misses
  pub failed : IsErrOf result Failed → Rose faults now_faults
  pub missing : IsErrOf result Missing → Rose misses now_misses
