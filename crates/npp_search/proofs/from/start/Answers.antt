use Rattle.std.proofs.Common.{◌≡◌, ◌++◌, sym, ap, ◌∙◌, arith}
use Rattle.npp_frac.specs.Fits.{limit_of}
use Rattle.npp_frac.specs.Wide.{value_of_wide}
use Rattle.npp_rows.specs.PathModel.{PathModel}
use Rattle.npp_rows.specs.Basic.{basic_of}
use Rattle.npp_tree.specs.Bounds.{bound_value, at_whole, lesser}
use Rattle.npp_tree.specs.Tree.{Leaf, bound_before}
use Rattle.npp_tree.specs.Keyed.{unopened}
use Rattle.npp_search.specs.Search.{problem_in, task_in}
use Rattle.npp_search.specs.Steps.{child}
use Rattle.npp_search.proofs.StartLaws.{under_way_start}
use Rattle.npp_search.proofs.from.start.Goals as goal

pub returns-clause-under_way : goal.returns-clause-under_way
returns-clause-under_way g c first =
    let setting = c.args.setting.now in
    let requires = c.requires in
    let makes = c.in_ok-make.ensures in
    let bound : bound_value c.lesser-bound.result ≡ bound_before setting.table setting.allowed.now.parts (bound_value setting.bound) =
    c.lesser-bound.ensures ∙ ap (lesser (bound_value setting.bound)) (c.basic_bound-basic.ensures ∙ ap (λ (m : PathModel). at_whole (basic_of m setting.allowed.now.parts)) (sym requires.table)) in
    under_way_start g.N.Exact.rational (problem_in (limit_of g.N.Exact.WIDTH) setting) (task_in setting) first c.make.new.self c.root-root.result c.lesser-bound.result (record { parts = c.of.result })
    (makes.tree ∙ (c.in_ok-tree.ensures ∙ ap (λ k. Leaf (unopened k (bound_value c.lesser-bound.result))) (sym c.root-root.ensures.key)))
    bound
    (c.of.ensures ∙ (c.in_ok-parts.ensures ∙ c.entries.ensures))
    (ap value_of_wide makes.lower)
    makes.opened
    (let made = makes.made in omega (arith, made))
    makes.best
    (makes.waiting ∙ (ap (λ ws. ws ++ child 0 c.root-root.result 0 (record { parts = c.of.result }) (value_of_wide setting.lower) c.lesser-bound.result) c.new-2.ensures
    ∙ ap (λ q. child 0 c.root-root.result 0 (record { parts = c.of.result }) (value_of_wide q) c.lesser-bound.result) (sym makes.lower)))
