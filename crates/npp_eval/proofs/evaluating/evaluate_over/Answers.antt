use Rattle.std.proofs.Common.{map, Err, sym, ap, ◌∙◌, arith}
use Rattle.std.proofs.lemmas.List.{length-map}
use Rattle.npp_rows.specs.Caps.{path_model}
use Rattle.npp_rows.specs.Response.{Reply}
use Rattle.npp_tree.specs.Outcome.{path_line_value}
use Rattle.npp_inverse.specs.declared.refusal.RespondRefusal.TheVariants.{Overflow}
use Rattle.npp_start.specs.Walks.{reply_lines}
use Rattle.npp_start.proofs.CoverShape.{are_closed, same_total}
use Rattle.npp_eval.proofs.evaluating.evaluate_over.Goals as goal

pub respond-requires-clause-covers : goal.respond-requires-clause-covers
respond-requires-clause-covers g c = are_closed c.args.instance.now c.args.covers.now c.requires.covers

pub respond-requires-clause-few : goal.respond-requires-clause-few
respond-requires-clause-few g c = let same = same_total c.args.covers.now in omega (arith, same, c.requires.few)

pub respond-requires-clause-tolls : goal.respond-requires-clause-tolls
respond-requires-clause-tolls g c = sym (length-map c.args.tolls.now g.N.Exact.rational) ∙ c.requires.tolls.size

pub walks_of_reply-requires-clause-reply : goal.walks_of_reply-requires-clause-reply
walks_of_reply-requires-clause-reply g c = record { tolls = map g.N.Exact.rational c.args.tolls.now; same = c.in-Ok.ensures.reply }

pub returns-in_ok-paths-in-Ok-clause-evaluated : goal.returns-in_ok-paths-in-Ok-clause-evaluated
returns-in_ok-paths-in-Ok-clause-evaluated g c =
    let v = g.N.Exact.rational in
    let m = path_model c.args.instance.now c.args.covers.now in
    record {
      connected = c.requires.connected;
      covers = c.args.covers.now;
      are_useful = c.requires.covers;
      kept = c.requires.kept;
      fits = c.in-Ok.ensures.fits;
      revenue = ap (λ (r : Reply). r.revenue) c.in-Ok.ensures.reply;
      paths = ap (map (path_line_value v)) c.of.ensures ∙ c.in_ok-paths-in-Ok.ensures.lines ∙ ap (reply_lines m) c.in-Ok.ensures.reply;
      is_reply = rw c.of.ensures (c.in_ok-paths-in-Ok.ensures.reply (map v c.args.tolls.now) c.requires.tolls c.in-Ok.ensures.reply);
    }

pub returns-in-Err-Overflow-clause-refused : goal.returns-in-Err-Overflow-clause-refused
returns-in-Err-Overflow-clause-refused g c = record {
  connected = c.requires.connected;
  covers = c.args.covers.now;
  are_useful = c.requires.covers;
  kept = c.requires.kept;
  stop = c.in-Err-Overflow.ensures.overflow _ (ap Err (c.in-Err-Overflow.field-0-is ∙ ap Overflow (sym c.in-Err-Overflow.commodity-is)));
}
