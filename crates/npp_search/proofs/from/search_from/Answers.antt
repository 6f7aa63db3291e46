use Rattle.std.proofs.Common.{◌≡◌, ◌⊎◌, refl, subst}
use Rattle.npp_frac.specs.Fits.{limit_of}
use Rattle.npp_frac.specs.Wide.{value_of_wide}
use Rattle.npp_rows.specs.PathModel.{PathModel}
use Rattle.npp_tree.specs.Bounds.{bound_value}
use Rattle.npp_search.specs.declared.grown.Grown.{Grown}
use Rattle.npp_search.specs.Problem.{problem_of}
use Rattle.npp_search.specs.Grown.{NoneIsLive, nodes_of}
use Rattle.npp_search.specs.Search.{growth_of, IsUnderWay}
use Rattle.npp_search.specs.Result.{task_of}
use Rattle.npp_search.proofs.ResultLaws.{grown_from, grown_few, grown_best_first}
use Rattle.npp_search.proofs.from.search_from.Goals as goal

pub returns-clause-grown : goal.returns-clause-grown
returns-clause-grown g c =
    let v = g.N.Exact.rational in
    let limit = limit_of g.N.Exact.WIDTH in
    let P = problem_of limit c.args.instance.now c.args.covers.now in
    let task = task_of c.args.allowed.now.parts (bound_value c.args.bound) (value_of_wide c.args.lower) c.args.budget in
    let first = g.P.Picker.best_first c.args.picker.now in
    let s = c.in_ok-state.state in
    let found : Grown g.row.N.Denot = record { opened = s.opened; tree = c.in_ok-freeze.field-0; lower = s.lower; best = s.best } in
    let under_way = subst (λ (m : PathModel). IsUnderWay v (record { limit = limit; paths = m }) task first s) c.in_ok-new.ensures.paths c.in_ok-state.ensures.under_way in
    let ended = subst (λ (m : PathModel). (s.opened ≡ task.budget) ⊎ NoneIsLive (nodes_of (record { limit = limit; paths = m }) task (growth_of v s)) (value_of_wide s.lower)) c.in_ok-new.ensures.paths c.in_ok-state.ensures.ended in
    grown_from v P task first s under_way found c.in_ok-freeze.ensures refl refl refl ended

pub returns-clause-few_nodes : goal.returns-clause-few_nodes
returns-clause-few_nodes g c =
    let v = g.N.Exact.rational in
    let limit = limit_of g.N.Exact.WIDTH in
    let P = problem_of limit c.args.instance.now c.args.covers.now in
    let task = task_of c.args.allowed.now.parts (bound_value c.args.bound) (value_of_wide c.args.lower) c.args.budget in
    let first = g.P.Picker.best_first c.args.picker.now in
    let s = c.in_ok-state.state in
    let found : Grown g.row.N.Denot = record { opened = s.opened; tree = c.in_ok-freeze.field-0; lower = s.lower; best = s.best } in
    let under_way = subst (λ (m : PathModel). IsUnderWay v (record { limit = limit; paths = m }) task first s) c.in_ok-new.ensures.paths c.in_ok-state.ensures.under_way in
    grown_few v P task first s under_way found c.in_ok-freeze.ensures refl refl refl c.requires.allowed

pub returns-clause-best_first : goal.returns-clause-best_first
returns-clause-best_first g c e =
    let v = g.N.Exact.rational in
    let limit = limit_of g.N.Exact.WIDTH in
    let P = problem_of limit c.args.instance.now c.args.covers.now in
    let task = task_of c.args.allowed.now.parts (bound_value c.args.bound) (value_of_wide c.args.lower) c.args.budget in
    let first = g.P.Picker.best_first c.args.picker.now in
    let s = c.in_ok-state.state in
    let found : Grown g.row.N.Denot = record { opened = s.opened; tree = c.in_ok-freeze.field-0; lower = s.lower; best = s.best } in
    let under_way = subst (λ (m : PathModel). IsUnderWay v (record { limit = limit; paths = m }) task first s) c.in_ok-new.ensures.paths c.in_ok-state.ensures.under_way in
    grown_best_first v P task first s under_way found c.in_ok-freeze.ensures refl refl refl e
