use Rattle.npp_frac.specs.Fits.{limit_of}
use Rattle.std.proofs.Common.{map}
use Rattle.npp_eval.proofs.EvalLaws.{all_have_free_paths, over_limit_is}
use Rattle.npp_eval.proofs.evaluating.evaluate_with_spans.Goals as goal

pub evaluate_over-requires-clause-connected : goal.evaluate_over-requires-clause-connected
evaluate_over-requires-clause-connected g c =
    all_have_free_paths c.args.instance.now.arcs c.args.instance.now.commodities c.args.spans.now c.requires.spans

pub returns-in-Err-clause-refused : goal.returns-in-Err-clause-refused
returns-in-Err-clause-refused g c =
    rw c.over_limit.ensures
    (over_limit_is (limit_of g.N.Exact.WIDTH) c.args.instance.now (map g.N.Exact.rational c.args.tolls.now) c.in-Err.refusal
    (all_have_free_paths c.args.instance.now.arcs c.args.instance.now.commodities c.args.spans.now c.requires.spans) c.in-Err.ensures.refused)
