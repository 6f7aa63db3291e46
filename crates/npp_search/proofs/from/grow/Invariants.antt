use Rattle.std.proofs.Common.{◌≡◌}
use Rattle.npp_frac.specs.Fits.{limit_of}
use Rattle.npp_search.specs.Search.{problem_in, task_in, IsUnderWay}
use Rattle.npp_search.proofs.from.grow.Given as goal

-- each turn opened a node
abbrev pub invariant-loop-turn : goal.invariant-loop-turn
invariant-loop-turn g l = record {
  opened : l.state.opened ≡ l._turn;
  picker : g.P.Picker.best_first l.picker ≡ g.P.Picker.best_first l.fn.picker;
  under_way : IsUnderWay g.N.Exact.rational (problem_in (limit_of g.N.Exact.WIDTH) l.setting) (task_in l.setting) (g.P.Picker.best_first l.fn.picker) l.state;
}
