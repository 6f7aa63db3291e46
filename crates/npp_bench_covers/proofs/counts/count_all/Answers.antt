use Rattle.std.proofs.Common.{length, ap, arith}
use Rattle.npp_net.specs.declared.types.Span.{Span}
use Rattle.npp_net.specs.Network.{no_commodity}
use Rattle.npp_labels.proofs.CoverLemmas.{span_at}
use Rattle.npp_bench_covers.proofs.counts.count_all.Goals as goal

abbrev no_span : Span
no_span = record { free = 0; zero = 0 }

pub bounds-spans-k : goal.bounds-spans-k
bounds-spans-k c =
    let net = c.args.instance.now in
    (span_at net.arcs net.commodities c.args.spans.now c.loop-k.k no_commodity no_span c.requires (omega (arith, ap length c.commodities.ensures.list))).within

pub count_one-requires-clause-span : goal.count_one-requires-clause-span
count_one-requires-clause-span c =
    let net = c.args.instance.now in
    (span_at net.arcs net.commodities c.args.spans.now c.loop-k.k no_commodity no_span c.requires (omega (arith, ap length c.commodities.ensures.list))).here
