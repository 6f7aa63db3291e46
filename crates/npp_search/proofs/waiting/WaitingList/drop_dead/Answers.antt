use Rattle.std.proofs.Common.{List, ◌++◌, sym, subst, ap, ◌∙◌}
use Rattle.std.specs.List.Sorted.{IsPermutation}
use Rattle.std.proofs.lemmas.List.Elements.{filter-append}
use Rattle.std.proofs.lemmas.List.Sorted.{IsPermutation-append, IsPermutation-refl}
use Rattle.npp_frac.specs.Rational.{is_less}
use Rattle.npp_frac.specs.Wide.{value_of_wide}
use Rattle.npp_search.specs.declared.waiting.Waiting.{Waiting}
use Rattle.npp_search.specs.Search.{bound_at, still_waiting}
use Rattle.npp_search.proofs.waiting.WaitingList.drop_dead.Goals as goal

pub returns : goal.returns
returns c =
    let lower = value_of_wide c.args.lower in
    let ranked = c.self.inside.ranked.nodes in
    let listed = c.self.inside.listed in
    let both = subst (λ (ws : List Waiting). IsPermutation (still_waiting lower ranked ++ still_waiting lower listed) (c.drop_dead.new.self.nodes ++ ws)) (sym c.drop_dead-2.ensures)
    (IsPermutation-append (still_waiting lower ranked) c.drop_dead.new.self.nodes (still_waiting lower listed) (still_waiting lower listed) c.drop_dead.ensures.nodes (IsPermutation-refl (still_waiting lower listed))) in
    subst (λ (ws : List Waiting). IsPermutation ws (c.drop_dead.new.self.nodes ++ c.drop_dead-2.new.self))
    (sym (filter-append (λ (w : Waiting). is_less lower (bound_at w)) ranked listed) ∙ ap (still_waiting lower) c.self.view_is) both
