use Rattle.std.proofs.Common.{◌≡◌, ◌+◌, [], map, length, refl, sym, ap, ◌∙◌, subst}
use Rattle.std.specs.Prelude.{option_map}
use Rattle.npp_frac.specs.Fits.{limit_of}
use Rattle.npp_rows.specs.PathModel.{PathModel}
use Rattle.npp_rows.specs.Meaning.{cut_value}
use Rattle.npp_inverse.specs.Offers.{HasUsefulPaths}
use Rattle.npp_inverse.proofs.CoverLaws.{has_useful_paths}
use Rattle.npp_tree.specs.Bounds.{bound_value}
use Rattle.npp_leaf.specs.Found.{best_value, found_value}
use Rattle.npp_leaf.specs.Work.{leaf_work}
use Rattle.npp_search.specs.Search.{problem_in}
use Rattle.npp_search.proofs.FoundLaws.{found_of}
use Rattle.npp_search.proofs.SharesLaws.{found_tolls}
use Rattle.npp_search.proofs.OpenLaws.{offered_is, shares_are, tolls_are, opens_node}
use Rattle.npp_search.proofs.state.State.open_node.Goals as goal

pub evidence_in-requires-clause-useful : goal.evidence_in-requires-clause-useful
evidence_in-requires-clause-useful g c =
    let setting = c.requires.setting in
    subst (λ (m : PathModel). HasUsefulPaths m) (sym setting.table) (has_useful_paths c.args.setting.now.instance.now c.args.setting.now.covers.now setting.covers)

pub offer-requires-clause-size : goal.offer-requires-clause-size
offer-requires-clause-size g c =
    let v = g.N.Exact.rational in
    let P = problem_in (limit_of g.N.Exact.WIDTH) c.args.setting.now in
    let parts = c.args.node.now.allowed.parts in
    let work = c.in_ok-evidence.field-0 in
    let none : c.deref.result.now ≡ [] = c.deref.ensures.value ∙ c.new-no_cuts.ensures.items in
    let found : found_value v c.in_ok-evidence.field-0 ≡ found_of P parts = c.in_ok-evidence.ensures.work ∙ ap (λ cs. leaf_work (limit_of g.N.Exact.WIDTH) c.args.setting.now.table parts (map (cut_value v) cs)) none in
    tolls_are v work (found_of P parts) found (length c.args.setting.now.table.caps) c.halves-tolls.result.0
    c.halves-tolls.ensures.tolls (found_tolls P parts c.requires.allowed)

pub returns-clause-opens : goal.returns-clause-opens
returns-clause-opens g c =
    let v = g.N.Exact.rational in
    let P = problem_in (limit_of g.N.Exact.WIDTH) c.args.setting.now in
    let parts = c.args.node.now.allowed.parts in
    let work = c.in_ok-evidence.field-0 in
    let node = c.args.node.now in
    let none : c.deref.result.now ≡ [] = c.deref.ensures.value ∙ c.new-no_cuts.ensures.items in
    let found : found_value v c.in_ok-evidence.field-0 ≡ found_of P parts = c.in_ok-evidence.ensures.work ∙ ap (λ cs. leaf_work (limit_of g.N.Exact.WIDTH) c.args.setting.now.table parts (map (cut_value v) cs)) none in
    let tolls = c.halves-tolls.ensures.tolls in
    opens_node v P c.args.self.now c.raise.new.self (record c.raise.new.self { tree = c.settle.new.self; opened = c.raise.new.self.opened + 1 }) node work found (bound_value c.bound_after-bound.result)
    (option_map (best_value v) c.in_ok-offered.offered)
    (c.in_ok-offered.ensures ∙ offered_is v work (found_of P parts) found P c.halves-tolls.result.0 tolls)
    c.raise.ensures
    c.bound_after-bound.ensures
    c.settle.ensures
    refl refl refl refl refl

pub returns-clause-shares : goal.returns-clause-shares
returns-clause-shares g c =
    let v = g.N.Exact.rational in
    let P = problem_in (limit_of g.N.Exact.WIDTH) c.args.setting.now in
    let parts = c.args.node.now.allowed.parts in
    let none : c.deref.result.now ≡ [] = c.deref.ensures.value ∙ c.new-no_cuts.ensures.items in
    let found : found_value v c.in_ok-evidence.field-0 ≡ found_of P parts = c.in_ok-evidence.ensures.work ∙ ap (λ cs. leaf_work (limit_of g.N.Exact.WIDTH) c.args.setting.now.table parts (map (cut_value v) cs)) none in
    shares_are v c.in_ok-evidence.field-0 (found_of P parts) found c.halves-tolls.result.1 c.halves-tolls.ensures.shares
