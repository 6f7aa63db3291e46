use Rattle.std.proofs.Common.{◌≡◌, ◌≤◌, ℕ, ◌<◌, length, take, get_or, None}
use Rattle.npp_net.specs.Network.{toll_count}
use Rattle.npp_net.specs.Index.{toll_of}
use Rattle.npp_net.proofs.index.toll_numbers.Given as goal

-- the arcs so far are numbered, and so many of them are toll arcs
abbrev pub invariant-loop-x : goal.invariant-loop-x
invariant-loop-x l =
    (length l.numbers.items ≡ l.x-index)
    × (l.before ≡ toll_count (take l.x-index l.arcs))
    × (l.before ≤ l.x-index)
    × ((k : ℕ) → k < length l.numbers.items → get_or l.numbers.items k None ≡ toll_of l.arcs (record { 0 = k }))
