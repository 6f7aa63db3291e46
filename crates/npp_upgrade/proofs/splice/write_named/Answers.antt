use Rattle.std.proofs.Common.{◌∙◌, ap, ℕ, List, ◌++◌}
use Rattle.npp_stream.proofs.PieceLemmas.{behind_place}
use Rattle.npp_upgrade.proofs.EndLemmas.{named_by_parts}
use Rattle.npp_upgrade.proofs.splice.write_named.Goals as goal

pub returns : goal.returns
returns c =
    named_by_parts c.args.instance.now c.args.rest.now c.lines_end-end.result c.args.text.now.items c.extend_from_slice.new.self.items c.extend_from_slice-2.new.self.items c.write_instance.new.text.items c.extend_from_slice-3.new.self.items
    c.lines_end-end.ensures.end c.in_ok-extend_from_slice.ensures.items c.in_ok-extend_from_slice-2.ensures.items c.in_ok-write_instance.ensures
    (c.in_ok-extend_from_slice-3.ensures.items ∙ ap (λ (p : List ℕ). c.write_instance.new.text.items ++ p) (behind_place c.args.rest.now c.lines_end-end.result))
