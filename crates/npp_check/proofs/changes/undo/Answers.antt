use Rattle.std.proofs.Common.{◌<◌, ◌∙◌, List, length, All, ap, sym, subst, refl, arith}
use Rattle.std.specs.Prelude.{slice_set}
use Rattle.std.proofs.lemmas.List.{length-set}
use Rattle.npp_check.specs.declared.later.Change.{Change}
use Rattle.npp_check.specs.PlaceStack.{undone}
use Rattle.npp_check.proofs.PlaceLemmas.{undone_more, all_but_last, nothing_left}
use Rattle.npp_check.proofs.changes.undo.Goals as goal

pub index_mut-requires : goal.index_mut-requires
index_mut-requires c =
    let rest = all_but_last (λ change. change.commodity < length c.args.parts.now.items) c.pop.new.self.items c.in-Some.change
    (subst (λ (cs : List Change). All (λ change. change.commodity < length c.args.parts.now.items) cs) c.in-Some.ensures.items c.loop-change.invariant.range) in
    omega (arith, rest.1, c.loop-change.invariant.size, c.loop-change.parts.ok.0)

pub loop-change-preserved : goal.loop-change-preserved
loop-change-preserved c =
    let rest = all_but_last (λ change. change.commodity < length c.args.parts.now.items) c.pop.new.self.items c.in-Some.change
    (subst (λ (cs : List Change). All (λ change. change.commodity < length c.args.parts.now.items) cs) c.in-Some.ensures.items c.loop-change.invariant.range) in
    record {
      family = undone_more c.loop-change.changes.items c.pop.new.self.items c.in-Some.change c.loop-change.parts.items
          (slice_set c.loop-change.parts.items c.in-Some.change.commodity c.in-Some.change.part) (undone c.args.changes.items c.args.parts.now.items) c.in-Some.ensures.items refl c.loop-change.invariant.family;
      size = length-set c.loop-change.parts.items c.in-Some.change.commodity c.in-Some.change.part ∙ c.loop-change.invariant.size;
      range = rest.0;
    }

pub returns-clause-family : goal.returns-clause-family
returns-clause-family c =
    let none = nothing_left c.pop.result c.loop-change.changes.items c.in_default.is (λ lt. c.pop.ensures.variant.1 (omega (arith, lt, c.loop-change.changes.ok.0))) in
    ap (λ (cs : List Change). undone cs c.loop-change.parts.items) (sym none) ∙ c.loop-change.invariant.family
