use Rattle.std.proofs.Common.{List, sym, subst, get_or}
use Rattle.npp_net.specs.declared.types.Commodity.{Commodity}
use Rattle.npp_net.specs.Network.{no_commodity}
use Rattle.npp_net.specs.Walk.{RepeatsNoNode}
use Rattle.npp_cover.specs.declared.label.Label.{Label}
use Rattle.npp_cover.specs.Useful.{commodity_at}
use Rattle.npp_labels.specs.Search.{AreFound}
use Rattle.npp_labels.proofs.CountLemmas.{not_too_many}
use Rattle.npp_labels.proofs.SimpleLemmas.{AllSimple, simple_paths}
use Rattle.npp_labels.proofs.commodity.plan_of.Goals as goal

pub returns-clause-simple : goal.returns-clause-simple
returns-clause-simple c =
    let k : Commodity = commodity_at c.args.instance.now c.args.k in
    let found : AreFound c.args.instance.now.arcs (commodity_at c.args.instance.now c.args.k) c.args.span c.in_ok-labels.labels.items =
    subst (λ (ks : List Commodity). AreFound c.args.instance.now.arcs (get_or ks c.args.k no_commodity) c.args.span c.in_ok-labels.labels.items) c.commodities.ensures.list c.in_ok-labels.ensures in
    let last : RepeatsNoNode c.args.instance.now.arcs (commodity_at c.args.instance.now c.args.k).origin.0 c.in_ok-free.free.arcs.items =
    subst (λ (ks : List Commodity). RepeatsNoNode c.args.instance.now.arcs (get_or ks c.args.k no_commodity).origin.0 c.in_ok-free.free.arcs.items) c.commodities.ensures.list c.in_ok-free.ensures.simple in
    record {
      labels = subst (λ (labels : List Label). AllSimple c.args.instance.now.arcs k.origin.0 labels) (sym c.in_ok-of_labels.ensures.labels) found.simple;
      paths = simple_paths c.args.instance.now.arcs k.origin.0 c.in_ok-labels.labels.items
          k.destination.0 c.args.span.free c.in_ok-free.free.arcs.items c.in_ok-of_labels.field-0.paths
          c.in_ok-of_labels.ensures.paths found.simple last;
    }

pub returns-clause-few : goal.returns-clause-few
returns-clause-few c =
    let found : AreFound c.args.instance.now.arcs (commodity_at c.args.instance.now c.args.k) c.args.span c.in_ok-labels.labels.items =
    subst (λ (ks : List Commodity). AreFound c.args.instance.now.arcs (get_or ks c.args.k no_commodity) c.args.span c.in_ok-labels.labels.items) c.commodities.ensures.list c.in_ok-labels.ensures in
    not_too_many c.args.instance.now.arcs (commodity_at c.args.instance.now c.args.k) c.args.span.free c.in_ok-labels.labels.items found.useful found.closed.few
