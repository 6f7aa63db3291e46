use Rattle.std.proofs.Common.{◌∙◌, sym, map, true, false}
use Rattle.npp_frac.specs.Fits.{limit_of}
use Rattle.npp_tree.specs.Outcome.{path_line_value}
use Rattle.std.proofs.lemmas.List.{length-map}
use Rattle.npp_check.proofs.PathPriceLemmas.{unit_refused}
use Rattle.npp_check.proofs.SamePrices.{dearer, unsummed, summed}
use Rattle.npp_check.proofs.prices.earns_lower.Goals as goal

pub returns-in_err-walks_are_cheapest : goal.returns-in_err-walks_are_cheapest
returns-in_err-walks_are_cheapest g c =
    unit_refused c.from_residual.result c.in_err-walks_are_cheapest.field-0.0 _ c.from_residual.ensures.1
    (dearer (limit_of g.N.Exact.WIDTH) c.args.instance.now c.args.covers.now (map g.N.Exact.rational c.args.tolls.now) (map (path_line_value g.N.Exact.rational) c.args.lines.now) (g.N.Exact.rational c.args.lower)
    (length-map c.args.tolls.now g.N.Exact.rational ∙ c.requires.tolls) (c.requires.covers ∙ sym (length-map c.args.lines.now (path_line_value g.N.Exact.rational))) c.in_err-walks_are_cheapest.field-0.0 c.in_err-walks_are_cheapest.ensures)

pub returns-in_err-sum : goal.returns-in_err-sum
returns-in_err-sum g c =
    unit_refused c.from_residual-in_err-sum.result c.in_err-sum.field-0.0 _ c.from_residual-in_err-sum.ensures.1
    (unsummed (limit_of g.N.Exact.WIDTH) c.args.instance.now c.args.covers.now (map g.N.Exact.rational c.args.tolls.now) (map (path_line_value g.N.Exact.rational) c.args.lines.now) (g.N.Exact.rational c.args.lower)
    (length-map c.args.tolls.now g.N.Exact.rational ∙ c.requires.tolls) (c.requires.covers ∙ sym (length-map c.args.lines.now (path_line_value g.N.Exact.rational))) c.in_ok-walks_are_cheapest.field-0 c.in_err-sum.field-0.0
    c.in_ok-walks_are_cheapest.ensures c.in_err-sum.ensures)

pub returns-then-differ : goal.returns-then-differ
returns-then-differ g c =
    summed (limit_of g.N.Exact.WIDTH) c.args.instance.now c.args.covers.now (map g.N.Exact.rational c.args.tolls.now) (map (path_line_value g.N.Exact.rational) c.args.lines.now) (g.N.Exact.rational c.args.lower)
    (length-map c.args.tolls.now g.N.Exact.rational ∙ c.requires.tolls) (c.requires.covers ∙ sym (length-map c.args.lines.now (path_line_value g.N.Exact.rational))) c.in_ok-walks_are_cheapest.field-0 (g.N.Exact.rational c.in_ok-sum.sum) true
    c.in_ok-walks_are_cheapest.ensures c.in_ok-sum.ensures (sym c.if-differ.true ∙ c.differ.ensures)

pub returns : goal.returns
returns g c =
    summed (limit_of g.N.Exact.WIDTH) c.args.instance.now c.args.covers.now (map g.N.Exact.rational c.args.tolls.now) (map (path_line_value g.N.Exact.rational) c.args.lines.now) (g.N.Exact.rational c.args.lower)
    (length-map c.args.tolls.now g.N.Exact.rational ∙ c.requires.tolls) (c.requires.covers ∙ sym (length-map c.args.lines.now (path_line_value g.N.Exact.rational))) c.in_ok-walks_are_cheapest.field-0 (g.N.Exact.rational c.in_ok-sum.sum) false
    c.in_ok-walks_are_cheapest.ensures c.in_ok-sum.ensures (sym c.if-differ.false ∙ c.differ.ensures)
