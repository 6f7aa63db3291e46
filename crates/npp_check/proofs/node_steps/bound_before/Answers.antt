use Rattle.std.proofs.Common.{◌≡◌, ◌∙◌, map, arith}
use Rattle.npp_rows.specs.Basic.{basic_of}
use Rattle.npp_rows.specs.Caps.{path_model}
use Rattle.npp_rows.specs.Meaning.{cut_value}
use Rattle.npp_tree.specs.Bounds.{bound_value, at_whole, lesser}
use Rattle.npp_check.proofs.CoverFacts.{basic_small}
use Rattle.npp_check.proofs.TreeStandLemmas.{tree_first, same_closed, same_allowed, same_basic}
use Rattle.npp_check.proofs.node_steps.bound_before.Goals as goal

pub basic_of-basic-requires-clause-covers : goal.basic_of-basic-requires-clause-covers
basic_of-basic-requires-clause-covers g c = same_closed c.instance.ensures.instance c.deref.ensures.value c.requires.known.closed

pub basic_of-basic-requires-clause-allowed : goal.basic_of-basic-requires-clause-allowed
basic_of-basic-requires-clause-allowed g c =
    let d = c.args.descent.now in
    same_allowed c.instance.ensures.instance c.deref.ensures.value c.allowed.ensures
    (tree_first c.args.measured.now.net d.known.covers.items (map (cut_value g.N.Exact.rational) d.known.cuts.items) d.places.first d.places.later c.requires)

pub whole_bound-requires : goal.whole_bound-requires
whole_bound-requires g c =
    let d = c.args.descent.now in
    let same : c.basic_of-basic.result ≡ basic_of (path_model c.args.measured.now.net d.known.covers.items) d.places.first.parts =
    c.basic_of-basic.ensures.value ∙ same_basic c.instance.ensures.instance c.deref.ensures.value c.allowed.ensures in
    omega (arith, same, basic_small c.args.measured.now.net c.instance.ensures.limits d.known.covers.items c.requires.known.closed c.requires.known.few d.places.first.parts)

pub returns : goal.returns
returns g c =
    let d = c.args.descent.now in
    let same : c.basic_of-basic.result ≡ basic_of (path_model c.args.measured.now.net d.known.covers.items) d.places.first.parts =
    c.basic_of-basic.ensures.value ∙ same_basic c.instance.ensures.instance c.deref.ensures.value c.allowed.ensures in
    let parent : bound_value c.parent.result ≡ d.places.first.parent = c.parent.ensures in
    let whole : bound_value c.whole_bound.result ≡ at_whole c.basic_of-basic.result = c.whole_bound.ensures in
    c.lesser.ensures ∙ (λ i. lesser (parent i) (whole i)) ∙ (λ i. lesser d.places.first.parent (at_whole (same i)))
