-- A shelf and a sink in memory, whose calls fail where they were told to.
use Rattle.std.specs.Prelude.{ℕ, ◌+◌, ◌-◌, ◌^◌, ◌==◌, min, Bool, if◌then◌else◌, List}
use Rattle.std.specs.List.{list_any}
use Rattle.npp_outside.specs.Shelf.{Files}

-- the numbers of the calls that are to fail, the number of the next call, and how many calls have failed
pub record Calls : Type 0 where
  pub failing : List ℕ
  pub next : ℕ
  pub faults : ℕ

-- one more, where a count stops at 2 ^ 64 - 1
abbrev pub counted : ℕ → ℕ
counted n = min (n + 1) (2 ^ 64 - 1)

-- before the first call, whose number is 1
abbrev pub no_calls : List ℕ → Calls
no_calls failing = record { failing = failing; next = 1; faults = 0 }

-- the next call is to fail
abbrev pub next_fails : Calls → Bool
next_fails c = list_any (λ n. n == c.next) c.failing

-- after the next call
abbrev pub after_call : Calls → Calls
after_call c = record { failing = c.failing; next = counted c.next; faults = if next_fails c then counted c.faults else c.faults }

-- the files of a shelf, how often a name was not there, and its calls
pub record FailingShelf : Type 0 where
  pub files : Files
  pub misses : ℕ
  pub calls : Calls

-- the bytes of a sink, the most that it takes in a call, and its calls
pub record FailingSink : Type 0 where
  pub bytes : List ℕ
  pub most : ℕ
  pub calls : Calls
