use Rattle.std.proofs.Common.{pos, ap, ◌∙◌, arith}
use Rattle.npp_frac.specs.Rational.{whole}
use Rattle.npp_rows.specs.Caps.{path_model}
use Rattle.npp_tree.specs.Bounds.{At}
use Rattle.npp_search.proofs.FamilyParts.{basic_small}
use Rattle.npp_search.proofs.offer.basic_bound.Goals as goal

pub whole_value-requires : goal.whole_value-requires
whole_value-requires c =
    let small = basic_small (path_model c.args.instance.now c.args.covers.now) c.requires.limits c.args.allowed.now.parts in
    omega (arith, small, c.basic_of.ensures.value)

pub returns : goal.returns
returns c = ap At (c.whole_value.ensures ∙ ap (λ n. whole (pos n)) c.basic_of.ensures.value)
