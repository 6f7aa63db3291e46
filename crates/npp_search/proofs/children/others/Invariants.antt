use Rattle.std.proofs.Common.{◌≡◌, ◌∷◌, [], take}
use Rattle.npp_tree.specs.Family.{rest_of}
use Rattle.npp_search.proofs.children.others.Given as goal

abbrev pub invariant-loop-q : goal.invariant-loop-q
invariant-loop-q l = l.rest.items ≡ rest_of (l.path ∷ []) (take l.q-index l.part)
