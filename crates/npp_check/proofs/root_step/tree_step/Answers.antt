use Rattle.std.proofs.Common.{◌≡◌, ◌∙◌, Ok, map, ap, sym, subst, refl, arith}
use Rattle.npp_frac.specs.Fits.{limit_of}
use Rattle.npp_rows.specs.Basic.{basic_of}
use Rattle.npp_rows.specs.Caps.{path_model}
use Rattle.npp_rows.specs.Meaning.{cut_value}
use Rattle.npp_rows.specs.Parts.{all_paths}
use Rattle.npp_rows.specs.PathModel.{PathModel}
use Rattle.npp_rows.proofs.WholeLaws.{covers_allowed}
use Rattle.npp_tree.specs.Bounds.{bound_value, at_whole}
use Rattle.npp_tree.specs.declared.item.Item.{Item}
use Rattle.npp_tree.specs.Items.{item_of}
use Rattle.npp_check.specs.EndLine.{tree_line}
use Rattle.npp_check.specs.declared.refusal.Rule.TheVariants as rule
use Rattle.npp_check.specs.NodeLines.{root_place}
use Rattle.npp_check.specs.declared.descent.Descent.{Descent}
use Rattle.npp_check.specs.declared.stop.Stop.TheVariants as stop
use Rattle.npp_check.specs.PlaceStack.{PlaceList}
use Rattle.npp_check.specs.Steps.{Steps}
use Rattle.npp_check.specs.StageValue.{known_value, cuts_value, nodes_value}
use Rattle.npp_check.proofs.CoverFacts.{basic_small}
use Rattle.npp_check.proofs.NodeStepLemmas.{wants, tree_begins, tree_breaks, not_tree}
use Rattle.npp_check.proofs.TreeStandLemmas.{same_closed, same_allowed, same_basic, tree_root_at}
use Rattle.npp_check.proofs.root_step.tree_step.Goals as goal

pub returns-in_default : goal.returns-in_default
returns-in_default g c =
    tree_breaks (limit_of g.N.Exact.WIDTH) c.args.measured.now (known_value g.N.Exact.rational c.args.known) (item_of g.N.Exact.rational c.args.item.now) rule.Order (not_tree g.N.Exact.rational c.args.item.now c.in_default.not-Tree)

pub basic_of-requires-clause-covers : goal.basic_of-requires-clause-covers
basic_of-requires-clause-covers g c = same_closed c.instance.ensures.instance c.deref.ensures.value c.requires.closed

pub basic_of-requires-clause-allowed : goal.basic_of-requires-clause-allowed
basic_of-requires-clause-allowed g c =
    same_allowed c.instance.ensures.instance c.deref.ensures.value c.in_ok-allowed.ensures (covers_allowed c.args.measured.now.net c.args.known.covers.items c.requires.closed)

pub whole_bound-basic-requires : goal.whole_bound-basic-requires
whole_bound-basic-requires g c =
    let m : PathModel = path_model c.args.measured.now.net c.args.known.covers.items in
    let same : c.basic_of.result ≡ basic_of m (all_paths m) = c.basic_of.ensures.value ∙ same_basic c.instance.ensures.instance c.deref.ensures.value c.in_ok-allowed.ensures in
    omega (arith, same, basic_small c.args.measured.now.net c.instance.ensures.limits c.args.known.covers.items c.requires.closed c.requires.few (all_paths m))

pub returns : goal.returns
returns g c =
    let v = g.N.Exact.rational in
    let m : PathModel = path_model c.args.measured.now.net c.args.known.covers.items in
    let parts = ap (λ (p : PlaceList). p.first.parts) c.one-places.ensures ∙ c.in_ok-allowed.ensures in
    let basic : bound_value c.whole_bound-basic.result ≡ at_whole (basic_of m (all_paths m)) =
    c.whole_bound-basic.ensures ∙ ap at_whole (c.basic_of.ensures.value ∙ same_basic c.instance.ensures.instance c.deref.ensures.value c.in_ok-allowed.ensures) in
    let parent = ap (λ (p : PlaceList). p.first.parent) c.one-places.ensures ∙ basic in
    let root : c.one-places.result.first ≡ root_place m = λ i. record { parts = parts i; parent = parent i } in
    let none = ap (λ (p : PlaceList). p.later) c.one-places.ensures in
    let old = cuts_value v c.args.known 0 in
    subst (λ (d : Descent g.row.N.Denot). Steps (limit_of g.N.Exact.WIDTH) c.args.measured.now old (item_of v c.args.item.now) (Ok (nodes_value v d))) (sym c.in_ok-descent.ensures.ok) (
      tree_begins (limit_of g.N.Exact.WIDTH) c.args.measured.now (known_value v c.args.known) (item_of v c.args.item.now) tt c.one-places.result.first c.one-places.result.later (ap (λ (x : Item g.row.N.Denot). tree_line (item_of v x)) c.in-Tree.is) root none,
      tree_root_at c.args.measured.now.net c.args.known.covers.items (map (cut_value v) c.args.known.cuts.items) c.one-places.result.first c.one-places.result.later none parts c.requires,
    )

pub returns-in_err-descent : goal.returns-in_err-descent
returns-in_err-descent g c =
    let v = g.N.Exact.rational in
    wants v (limit_of g.N.Exact.WIDTH) c.args.measured.now (cuts_value v c.args.known 0) (item_of v c.args.item.now) c.from_residual-in_err-descent.result stop.Memory c.from_residual-in_err-descent.ensures.1 refl
