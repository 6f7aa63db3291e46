use Rattle.std.proofs.Common.{sym, ap, ◌∙◌, rules}
use Rattle.std.specs.Prelude.{filter}
use Rattle.std.proofs.lemmas.Fn.{filter_same}
use Rattle.npp_frac.specs.Rational.{is_less}
use Rattle.npp_frac.specs.Wide.{value_of_wide}
use Rattle.npp_search.specs.declared.picker.OpenNode.{OpenNode}
use Rattle.npp_search.specs.declared.waiting.Waiting.{Waiting}
use Rattle.npp_search.specs.Search.{bound_at, still_waiting}
use Rattle.npp_search.proofs.TakeLaws.{seen_of, filter_of_map}
use Rattle.npp_search.proofs.listed.NodeList.drop_dead.Goals as goal

pub returns : goal.returns
returns c =
    filter_same _ (λ (w : Waiting). is_less (value_of_wide c.args.lower) (bound_at w)) _ (λ x b f' k. search rules) _ _ c.retain-2.ensures.filtered
    ∙ ap (still_waiting (value_of_wide c.args.lower)) c.self.view_is

pub invariant_of-self : goal.invariant_of-self
invariant_of-self c =
    let lower = value_of_wide c.args.lower in
    filter_same _ (λ (n : OpenNode). is_less lower (value_of_wide n.bound)) _ (λ x b f' k. search rules) _ _ c.retain.ensures.filtered
    ∙ (ap (filter (λ (n : OpenNode). is_less lower (value_of_wide n.bound))) c.self.invariant
    ∙ (filter_of_map (λ (n : Waiting). n.seen) (λ (n : OpenNode). is_less lower (value_of_wide n.bound)) c.self.inside.nodes.items
    ∙ ap seen_of (sym (filter_same _ (λ (w : Waiting). is_less lower (bound_at w)) _ (λ x b f' k. search rules) _ _ c.retain-2.ensures.filtered))))
