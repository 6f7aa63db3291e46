-- A set of toll numbers, written as the number whose bit a tells whether toll a is in it.
use Rattle.std.specs.Prelude.{◌≡◌, ◌↔◌, ℕ, ◌≤◌, ◌==◌, List, filter, count_ones}
use Rattle.std.specs.List.{range_with_len}
use Rattle.std.specs.Int.{bit_at}
use Rattle.npp_net.specs.declared.types.ArcId.{ArcId}
use Rattle.npp_net.specs.declared.types.NetArc.{NetArc}
use Rattle.npp_net.specs.Walk.{walk_tolls}

-- the toll is in the set
abbrev pub Has : ℕ → ℕ → Type 0
Has s a = bit_at s a ≡ 1

-- each toll of the one set is in the other
abbrev pub IsWithin : ℕ → ℕ → Type 0
IsWithin s t = (a : ℕ) → Has s a → Has t a

-- how many tolls are in the set
abbrev pub size_of : ℕ → ℕ
size_of s = count_ones s

-- the numbers of the tolls in the set, rising: all of them are below 128
unfoldable pub tolls_of : ℕ → List ℕ
tolls_of s = filter (λ a. bit_at s a == 1) (range_with_len 0 128)

-- the set of the tolls that a walk uses
abbrev pub IsTollSetOf : List NetArc → List ArcId → ℕ → Type 0
IsTollSetOf arcs walk s = (a : ℕ) → Has s a ↔ (1 ≤ walk_tolls arcs walk a)
