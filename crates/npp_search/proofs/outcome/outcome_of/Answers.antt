use Rattle.std.proofs.Common.{◌≡◌, List, map, sym, ap, ◌∙◌, subst}
use Rattle.std.specs.Prelude.{IfOk}
use Rattle.npp_frac.specs.Rational.{Rational}
use Rattle.npp_frac.specs.Fits.{limit_of}
use Rattle.npp_frac.specs.Wide.{value_of_wide}
use Rattle.npp_rows.specs.PathModel.{PathModel}
use Rattle.npp_rows.specs.Meaning.{reply_value}
use Rattle.npp_rows.specs.Response.{reply}
use Rattle.npp_tree.specs.declared.outcome.PathLine.{PathLine}
use Rattle.npp_tree.specs.Bounds.{BoundValue, IsWithin}
use Rattle.npp_tree.specs.Keyed.{without_keys}
use Rattle.npp_tree.specs.Outcome.{entry_value, path_line_value}
use Rattle.npp_tree.specs.Tree.{leaves_bound, tree_bound}
use Rattle.npp_tree.proofs.LeafLaws.{leaves_bound-preorder}
use Rattle.npp_leaf.specs.Found.{BestTolls, best_value}
use Rattle.npp_start.specs.Walks.{IsReplyTo, reply_lines}
use Rattle.npp_search.specs.Grown.{Earns}
use Rattle.npp_search.specs.Search.{problem_in}
use Rattle.npp_search.proofs.EndingLaws.{not_empty_bound}
use Rattle.npp_search.proofs.OutcomeLaws.{reply_of_earns}
use Rattle.npp_search.proofs.outcome.outcome_of.Goals as goal

pub upper_of-upper-requires : goal.upper_of-upper-requires
upper_of-upper-requires g c e =
    let v = g.N.Exact.rational in
    let tree = without_keys c.args.state.tree in
    let bound : leaves_bound (map (entry_value v) c.in_ok-tree.tree.nodes) ≡ tree_bound tree = ap leaves_bound c.in_ok-tree.ensures ∙ leaves_bound-preorder tree in
    not_empty_bound (value_of_wide c.args.state.lower) (tree_bound tree) c.requires.upper (sym bound ∙ e)

pub status_of-requires : goal.status_of-requires
status_of-requires g c =
    let v = g.N.Exact.rational in
    let tree = without_keys c.args.state.tree in
    let bound : leaves_bound (map (entry_value v) c.in_ok-tree.tree.nodes) ≡ tree_bound tree = ap leaves_bound c.in_ok-tree.ensures ∙ leaves_bound-preorder tree in
    subst (λ (b : BoundValue). IsWithin (value_of_wide c.args.state.lower) b) (sym bound ∙ c.upper_of-upper.ensures) c.requires.upper

pub returns-clause-upper : goal.returns-clause-upper
returns-clause-upper g c =
    let v = g.N.Exact.rational in
    let tree = without_keys c.args.state.tree in
    let bound : leaves_bound (map (entry_value v) c.in_ok-tree.tree.nodes) ≡ tree_bound tree = ap leaves_bound c.in_ok-tree.ensures ∙ leaves_bound-preorder tree in
    sym bound ∙ c.upper_of-upper.ensures

pub returns-clause-report : goal.returns-clause-report
returns-clause-report g c =
    let v = g.N.Exact.rational in
    let P = problem_in (limit_of g.N.Exact.WIDTH) c.args.setting.now in
    let b = best_value v c.earner-tolls.result in
    let earns = subst (λ (x : BestTolls). Earns P (value_of_wide c.args.state.lower) x) (sym c.earner-tolls.ensures) c.requires.earns in
    record {
      response = reply_value v c.earner-tolls.result.1;
      earns = earns;
      lines = ap (map (path_line_value v)) c.of.ensures ∙ (c.in_ok-lines.ensures.lines ∙ ap (λ (m : PathModel). reply_lines m (reply_value v c.earner-tolls.result.1)) (sym c.requires.table));
    }

pub returns-clause-reply : goal.returns-clause-reply
returns-clause-reply g c allowed =
    let v = g.N.Exact.rational in
    let P = problem_in (limit_of g.N.Exact.WIDTH) c.args.setting.now in
    let b = best_value v c.earner-tolls.result in
    let earns = subst (λ (x : BestTolls). Earns P (value_of_wide c.args.state.lower) x) (sym c.earner-tolls.ensures) c.requires.earns in
    let net = c.args.setting.now.instance.now in
    let T = map v c.earner-tolls.result.0 in
    let same = reply_of_earns P (value_of_wide c.args.state.lower) b earns ∙ ap (λ (m : PathModel). reply m T) c.requires.table in
    let said = subst (λ r. IfOk r (λ l. IsReplyTo net T (map (path_line_value v) l.items) (v c.earner-tolls.result.1.revenue))) c.in_ok-lines.was (c.walks_of_reply.ensures.reply T allowed same) in
    subst (λ (q : Rational). IsReplyTo net T (map (path_line_value v) c.of.result) q) earns.revenue
    (subst (λ (ls : List (PathLine g.row.N.Denot)). IsReplyTo net T (map (path_line_value v) ls) (v c.earner-tolls.result.1.revenue)) (sym c.of.ensures) said)
