use Rattle.std.proofs.Common.{◌≡◌, inl, inr, ◌<◌, length, None, sym, subst, arith}
use Rattle.std.proofs.lemmas.Bool.Decides.{nat_tests}
use Rattle.npp_net.specs.Network.{Network}
use Rattle.npp_net.specs.Refusal.{refusal_of}
use Rattle.npp_reader.specs.Grammar.{Declared}
use Rattle.npp_reader.specs.Taking.{IsWithin}
use Rattle.npp_reader.proofs.RefusalLemmas.{nothing_refused, within_network}
use Rattle.npp_reader.proofs.draft.Draft.finish.Goals as goal

pub unreachable-requires : goal.unreachable-requires
unreachable-requires c =
    let all : Declared = record { format = c.self.inside.format; names = c.self.inside.names; arcs = c.self.inside.arcs.items; commodities = c.self.inside.commodities.items } in
    let is : IsWithin all = subst IsWithin (sym c.self.view_is) c.requires.within in
    let some : 0 < length c.self.inside.commodities.items = grind (arith, nat_tests) in
    let net : Network = record { nodes = c.len.result; arcs = all.arcs; commodities = all.commodities } in
    let none : refusal_of net ≡ None = rw c.len.ensures.count (nothing_refused _ (within_network all is some)) in
    elim c.in-Err.ensures.refused [
      | inl memory ↦ c.in_default.not-Memory memory
      | inr refused ↦ absurd cc
    ]
