use Rattle.std.proofs.Common.{ℕ, true, Option, sym, ◌∙◌, subst}
use Rattle.npp_net.specs.Distance.{IsDistance}
use Rattle.npp_bounds.proofs.SpanLemmas.{no_free_path}
use Rattle.npp_bounds.proofs.least.least_of.Goals as goal

pub returns-in-None-at : goal.returns-in-None-at
returns-in-None-at c =
    let k = c.args.k in
    let none = sym c.at-in-Some.ensures ∙ c.in-None-at.is in
    no_free_path _ k
    (subst (λ (o : Option ℕ). IsDistance c.args.instance.now.arcs true k.origin.0 k.destination.0 o) none
    (c.in_ok-zero.ensures.distances.each k.origin.0 c.requires.origin))
