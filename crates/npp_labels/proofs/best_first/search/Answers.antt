use Rattle.std.proofs.Common.{List, sym, ◌∙◌, subst}
use Rattle.npp_short.specs.Reach.{cost_at}
use Rattle.npp_cover.specs.declared.label.Label.{Label}
use Rattle.npp_labels.specs.Search.{AreFound}
use Rattle.npp_labels.proofs.EndLemmas.{found_none}
use Rattle.npp_labels.proofs.best_first.search.Goals as goal

pub returns-then-not-can_win : goal.returns-then-not-can_win
returns-then-not-can_win c =
    subst (λ (labels : List Label). AreFound c.args.instance.now.arcs c.args.pair c.args.span labels) (sym c.new.ensures.items)
    (found_none c.args.instance.now c.requires.network c.args.pair c.requires.pair c.args.span (cost_at c.args.potentials.now) c.requires.potentials.each
    c.requires.span (sym c.can_win.ensures ∙ c.if-not-can_win.true))
