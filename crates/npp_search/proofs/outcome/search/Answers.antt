use Rattle.std.proofs.Common.{◌≡◌, ◌⊎◌, Some, map, sym, ap, ◌∙◌, subst}
use Rattle.std.specs.Prelude.{IfOk, option_map}
use Rattle.std.proofs.lemmas.List.{length-map}
use Rattle.std.proofs.lemmas.Result.{IfOk-weaker}
use Rattle.npp_frac.specs.Fits.{limit_of}
use Rattle.npp_frac.specs.Wide.{value_of_wide}
use Rattle.npp_rows.specs.PathModel.{PathModel}
use Rattle.npp_rows.specs.Caps.{path_model}
use Rattle.npp_rows.specs.Meaning.{reply_value}
use Rattle.npp_rows.specs.Parts.{IsAllowed, all_paths}
use Rattle.npp_rows.specs.Response.{is_whole_reply}
use Rattle.npp_rows.proofs.WholeLaws.{covers_allowed}
use Rattle.npp_inverse.specs.Offers.{HasUsefulPaths}
use Rattle.npp_inverse.proofs.CoverLaws.{has_useful_paths}
use Rattle.npp_tree.specs.declared.outcome.Outcome.{Outcome}
use Rattle.npp_tree.specs.Bounds.{bound_value}
use Rattle.npp_tree.specs.Family.{Family}
use Rattle.npp_tree.specs.Outcome.{outcome_value}
use Rattle.npp_leaf.specs.Found.{best_value}
use Rattle.npp_start.proofs.CoverShape.{are_closed}
use Rattle.npp_search.specs.Problem.{Problem, problem_of}
use Rattle.npp_search.specs.Grown.{Task, Earns, NoneIsLive, nodes_of}
use Rattle.npp_search.specs.Outcome.{IsReport, whole_task}
use Rattle.npp_search.specs.Search.{growth_of, IsUnderWay}
use Rattle.npp_search.specs.Ending.{found_or}
use Rattle.npp_search.proofs.FoundLaws.{reply_there}
use Rattle.npp_search.proofs.OutcomeLaws.{earner}
use Rattle.npp_search.proofs.SearchLaws.{HoldsOf, asks_whole, answered, lower_within}
use Rattle.npp_search.proofs.outcome.search.Goals as goal

pub new-requires-clause-covers : goal.new-requires-clause-covers
new-requires-clause-covers g c = are_closed c.args.instance.now c.args.covers.now c.requires.covers

pub find_start_for-requires : goal.find_start_for-requires
find_start_for-requires g c =
    subst (λ (m : PathModel). HasUsefulPaths m) (sym c.in_ok-table.ensures.paths) (has_useful_paths c.args.instance.now c.args.covers.now (are_closed c.args.instance.now c.args.covers.now c.requires.covers))

pub basic_bound-requires-clause-covers : goal.basic_bound-requires-clause-covers
basic_bound-requires-clause-covers g c = are_closed c.args.instance.now c.args.covers.now c.requires.covers

pub basic_bound-requires-clause-allowed : goal.basic_bound-requires-clause-allowed
basic_bound-requires-clause-allowed g c =
    let v = g.N.Exact.rational in
    let limit = limit_of g.N.Exact.WIDTH in
    let net = c.args.instance.now in
    let covers = c.args.covers.now in
    let m = c.in_ok-table.table in
    let table = c.in_ok-table.ensures.paths in
    subst (λ (f : Family). IsAllowed (path_model net covers) f) (sym (c.in_ok-allowed.ensures ∙ ap all_paths table)) (covers_allowed net covers (are_closed net covers c.requires.covers))

pub grow-requires : goal.grow-requires
grow-requires g c =
    let v = g.N.Exact.rational in
    let limit = limit_of g.N.Exact.WIDTH in
    let net = c.args.instance.now in
    let covers = c.args.covers.now in
    let m = c.in_ok-table.table in
    let table = c.in_ok-table.ensures.paths in
    let closed = are_closed net covers c.requires.covers in
    let allowed = subst (λ (f : Family). IsAllowed (path_model net covers) f) (sym (c.in_ok-allowed.ensures ∙ ap all_paths table)) (covers_allowed net covers closed) in
    record {
      covers = closed;
      few = c.requires.few;
      table = table;
      limits = c.in_ok-table.ensures.limits;
      allowed = subst (λ (n : PathModel). IsAllowed n c.in_ok-allowed.allowed.parts) (sym table) allowed;
    }

pub outcome_of-requires : goal.outcome_of-requires
outcome_of-requires g c =
    let v = g.N.Exact.rational in
    let limit = limit_of g.N.Exact.WIDTH in
    let net = c.args.instance.now in
    let covers = c.args.covers.now in
    let m = c.in_ok-table.table in
    let table = c.in_ok-table.ensures.paths in
    let first = g.P.Picker.best_first c.args.picker.now in
    let s = c.in_ok-state.state in
    let tolls = c.in_ok-tolls.field-0.tolls in
    let response = c.in_ok-tolls.field-0.response in
    let low = value_of_wide c.widen-lower.result in
    let T = map v c.in_ok-tolls.field-0.tolls in
    let start = best_value v (c.in_ok-tolls.field-0.tolls, c.in_ok-tolls.field-0.response) in
    let asked : Task = record { family = c.in_ok-allowed.allowed.parts; bound = bound_value c.basic_bound.result; lower = value_of_wide c.widen-lower.result; budget = c.args.budget } in
    let under_way = c.in_ok-state.ensures.under_way in
    let inner : Problem = record { limit = limit; paths = m } in
    let given : Earns inner low start = record {
      size = length-map tolls v ∙ c.in_ok-tolls.ensures.size;
      capped = c.in_ok-tolls.ensures.capped;
      replied = reply_there limit m T (ap is_whole_reply c.in_ok-tolls.ensures.fits) ∙ ap Some (sym c.in_ok-tolls.ensures.reply);
      revenue = sym c.widen-lower.ensures;
    } in
    let growing = under_way.growing in
    let earns = earner inner low (value_of_wide s.lower) start (option_map (best_value v) s.best) given growing.best in
    let same : asked ≡ whole_task (problem_of limit net covers) c.args.budget =
    asks_whole limit net covers m c.in_ok-allowed.allowed.parts (bound_value c.basic_bound.result) low (reply_value v response) T c.args.budget table c.in_ok-allowed.ensures c.basic_bound.ensures c.widen-lower.ensures
    c.in_ok-tolls.ensures.reply c.in_ok-tolls.ensures.tolls in
    let over_net = subst (λ (n : PathModel). IsUnderWay v (record { limit = limit; paths = n }) asked first s) table under_way in
    let whole = subst (λ (t : Task). IsUnderWay v (problem_of limit net covers) t first s) same over_net in
    let best = found_or start (option_map (best_value v) s.best) in
    let earns_net = subst (λ (n : PathModel). Earns (record { limit = limit; paths = n }) (value_of_wide s.lower) best) table earns in
    record {
      covers = c.requires.covers;
      earns = earns;
      table = table;
      upper = lower_within v limit net covers c.requires.covers c.args.budget first s whole best earns_net;
    }

-- all clauses follow from what `answered` says of the outcome
pub returns : goal.returns
returns g c =
    let v = g.N.Exact.rational in
    let limit = limit_of g.N.Exact.WIDTH in
    let net = c.args.instance.now in
    let covers = c.args.covers.now in
    let m = c.in_ok-table.table in
    let table = c.in_ok-table.ensures.paths in
    let first = g.P.Picker.best_first c.args.picker.now in
    let s = c.in_ok-state.state in
    let tolls = c.in_ok-tolls.field-0.tolls in
    let response = c.in_ok-tolls.field-0.response in
    let low = value_of_wide c.widen-lower.result in
    let T = map v c.in_ok-tolls.field-0.tolls in
    let start = best_value v (c.in_ok-tolls.field-0.tolls, c.in_ok-tolls.field-0.response) in
    let asked : Task = record { family = c.in_ok-allowed.allowed.parts; bound = bound_value c.basic_bound.result; lower = value_of_wide c.widen-lower.result; budget = c.args.budget } in
    let under_way = c.in_ok-state.ensures.under_way in
    let same : asked ≡ whole_task (problem_of limit net covers) c.args.budget =
    asks_whole limit net covers m c.in_ok-allowed.allowed.parts (bound_value c.basic_bound.result) low (reply_value v response) T c.args.budget table c.in_ok-allowed.ensures c.basic_bound.ensures c.widen-lower.ensures
    c.in_ok-tolls.ensures.reply c.in_ok-tolls.ensures.tolls in
    let over_net = subst (λ (n : PathModel). IsUnderWay v (record { limit = limit; paths = n }) asked first s) table under_way in
    let whole = subst (λ (t : Task). IsUnderWay v (problem_of limit net covers) t first s) same over_net in
    let ended_net = subst (λ (n : PathModel). (s.opened ≡ c.args.budget) ⊎ NoneIsLive (nodes_of (record { limit = limit; paths = n }) asked (growth_of v s)) (value_of_wide s.lower)) table c.in_ok-state.ensures.ended in
    let ended = subst (λ (t : Task). (s.opened ≡ c.args.budget) ⊎ NoneIsLive (nodes_of (problem_of limit net covers) t (growth_of v s)) (value_of_wide s.lower)) same ended_net in
    let r = c.outcome_of.result in
    let report = subst (λ (n : PathModel). IfOk r (λ o. IsReport (record { limit = limit; paths = n }) (outcome_value v o))) table c.outcome_of.ensures.report in
    let holds = answered v limit net covers c.requires.covers c.args.budget first s whole ended r c.outcome_of.ensures.entries c.outcome_of.ensures.upper c.outcome_of.ensures.lower c.outcome_of.ensures.opened c.outcome_of.ensures.cuts report
    c.outcome_of.ensures.reply c.outcome_of.ensures.status in
    record {
      grown = IfOk-weaker r (λ o. HoldsOf limit net covers c.args.budget first (outcome_value v o)) _ (λ (o : Outcome g.row.N.Denot) h. h.grown) holds;
      lower = IfOk-weaker r (λ o. HoldsOf limit net covers c.args.budget first (outcome_value v o)) _ (λ (o : Outcome g.row.N.Denot) h. h.lower) holds;
      upper = IfOk-weaker r (λ o. HoldsOf limit net covers c.args.budget first (outcome_value v o)) _ (λ (o : Outcome g.row.N.Denot) h. h.upper) holds;
      between = IfOk-weaker r (λ o. HoldsOf limit net covers c.args.budget first (outcome_value v o)) _ (λ (o : Outcome g.row.N.Denot) h. h.between) holds;
      optimal = IfOk-weaker r (λ o. HoldsOf limit net covers c.args.budget first (outcome_value v o)) _ (λ (o : Outcome g.row.N.Denot) h. h.optimal) holds;
      loud = IfOk-weaker r (λ o. HoldsOf limit net covers c.args.budget first (outcome_value v o)) _ (λ (o : Outcome g.row.N.Denot) h. h.loud) holds;
      few_nodes = IfOk-weaker r (λ o. HoldsOf limit net covers c.args.budget first (outcome_value v o)) _ (λ (o : Outcome g.row.N.Denot) h. h.few) holds;
      best_first = λ e. IfOk-weaker r (λ o. HoldsOf limit net covers c.args.budget first (outcome_value v o)) _ (λ (o : Outcome g.row.N.Denot) h. h.best_first e) holds;
      picker = c.in_ok-state.ensures.picker;
    }
