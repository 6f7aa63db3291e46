use Rattle.std.proofs.Common.{◌≡◌, length, map, sym, ap, ◌∙◌}
use Rattle.std.proofs.lemmas.List.{length-map}
use Rattle.npp_rows.specs.PathModel.{PathModel}
use Rattle.npp_rows.specs.Caps.{path_model}
use Rattle.npp_inverse.proofs.BestReplies.{answers_tolls}
use Rattle.npp_inverse.proofs.CoverLaws.{caps_size, has_useful_paths, is_model}
use Rattle.npp_inverse.proofs.reply.respond.Goals as goal

pub reply_to-requires-clause-size : goal.reply_to-requires-clause-size
reply_to-requires-clause-size g c =
    ap length c.values.ensures ∙ c.requires.tolls ∙ sym (caps_size c.args.instance.now c.args.covers.now c.requires.covers) ∙ ap (λ (m : PathModel). length m.caps) (sym c.in_ok-table.ensures.paths)

pub reply_to-requires-clause-useful : goal.reply_to-requires-clause-useful
reply_to-requires-clause-useful g c = rw c.in_ok-table.ensures.paths (has_useful_paths c.args.instance.now c.args.covers.now c.requires.covers)

pub returns-clause-best : goal.returns-clause-best
returns-clause-best g c =
    let net = c.args.instance.now in
    let covers = c.args.covers.now in
    let size : length (map g.N.Exact.rational c.args.tolls.now) ≡ length (path_model net covers).caps = length-map c.args.tolls.now g.N.Exact.rational ∙ c.requires.tolls ∙ sym (caps_size net covers c.requires.covers) in
    answers_tolls g.N.Exact.rational net (path_model net covers) (map g.N.Exact.rational c.args.tolls.now) c.reply_to.result (is_model net covers c.requires.covers) size (has_useful_paths net covers c.requires.covers)
    (rw (c.in_ok-table.ensures.paths, c.values.ensures) at c.reply_to.ensures.reply)
