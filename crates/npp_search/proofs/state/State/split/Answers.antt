use Rattle.std.proofs.Common.{◌≡◌, refl, List, ℕ, sym, ap, ◌∙◌, subst}
use Rattle.std.proofs.lemmas.Result.{on_ok_weaker}
use Rattle.npp_rows.specs.PathModel.{PathModel}
use Rattle.npp_rows.specs.Parts.{IsAllowed}
use Rattle.npp_rows.specs.Basic.{basic_of}
use Rattle.npp_tree.specs.Bounds.{bound_value, at_whole, lesser}
use Rattle.npp_tree.specs.Family.{Family, first_of, second_of}
use Rattle.npp_tree.specs.Tree.{bound_before}
use Rattle.npp_tree.specs.Keyed.{split_at, unopened}
use Rattle.npp_tree.proofs.FamilyLaws.{first_allowed, second_allowed}
use Rattle.npp_search.specs.Rule.{division_by}
use Rattle.npp_search.proofs.BranchLaws.{splits_are}
use Rattle.npp_search.proofs.state.State.split.Goals as goal

pub basic_bound-requires-clause-allowed : goal.basic_bound-requires-clause-allowed
basic_bound-requires-clause-allowed g c =
    let setting = c.requires.setting in
    let table = c.args.setting.now.table in
    subst (λ (m : PathModel). IsAllowed m c.in_ok-first.first.parts) setting.table
    (subst (λ (f : Family). IsAllowed table f) (sym c.in_ok-first.ensures.first)
    (first_allowed table c.args.node.allowed.parts (division_by c.args.division.commodity c.args.division.path) c.requires.allowed c.requires.divides))

pub basic_bound-requires-2-clause-allowed : goal.basic_bound-requires-2-clause-allowed
basic_bound-requires-2-clause-allowed g c =
    let setting = c.requires.setting in
    let table = c.args.setting.now.table in
    subst (λ (m : PathModel). IsAllowed m c.in_ok-first.second.parts) setting.table
    (subst (λ (f : Family). IsAllowed table f) (sym c.in_ok-first.ensures.second)
    (second_allowed table c.args.node.allowed.parts (division_by c.args.division.commodity c.args.division.path) c.requires.allowed c.requires.divides))

pub returns : goal.returns
returns g c =
    let setting = c.requires.setting in
    let table = c.args.setting.now.table in
    let family = c.args.node.allowed.parts in
    let d = division_by c.args.division.commodity c.args.division.path in
    let b = bound_value c.args.bound in
    let first_bound : bound_value c.lesser-first_bound.result ≡ bound_before table (first_of family d) b =
    c.lesser-first_bound.ensures ∙ ap (lesser b) (c.basic_bound.ensures ∙ (ap (λ (m : PathModel). at_whole (basic_of m c.in_ok-first.first.parts)) (sym setting.table)
    ∙ ap (λ (f : Family). at_whole (basic_of table f)) c.in_ok-first.ensures.first)) in
    let second_bound : bound_value c.lesser-second_bound.result ≡ bound_before table (second_of family d) b =
    c.lesser-second_bound.ensures ∙ ap (lesser b) (c.basic_bound-2.ensures ∙ (ap (λ (m : PathModel). at_whole (basic_of m c.in_ok-first.second.parts)) (sym setting.table)
    ∙ ap (λ (f : Family). at_whole (basic_of table f)) c.in_ok-first.ensures.second)) in
    let tree : c.split.new.self ≡ split_at c.args.self.now.tree c.args.node.key d (unopened c.in_ok-one.one (bound_value c.lesser-first_bound.result)) (unopened c.in_ok-one.other (bound_value c.lesser-second_bound.result)) =
    c.in_ok-one.ensures.ok ∙ ap (λ (p : List ℕ). split_at c.args.self.now.tree c.args.node.key (record { commodity = c.args.division.commodity; part = p })
    (unopened c.in_ok-one.one (bound_value c.lesser-first_bound.result)) (unopened c.in_ok-one.other (bound_value c.lesser-second_bound.result))) c.in_ok-part.ensures.items in
    on_ok_weaker c.make-2.result
    (λ more. splits_are table c.args.self.now (record c.args.self.now { tree = c.split.new.self }) c.make.new.self c.make-2.new.self c.args.node.key c.args.node.seen.depth family b d
    c.in_ok-one.one c.in_ok-one.other c.lesser-first_bound.result c.lesser-second_bound.result c.in_ok-first.first c.in_ok-first.second
    tree refl refl refl refl refl
    c.in_ok-first.ensures.first c.in_ok-first.ensures.second c.in_ok-make.ensures more c.in_ok-one.ensures.fresh first_bound second_bound)
    c.make-2.ensures
