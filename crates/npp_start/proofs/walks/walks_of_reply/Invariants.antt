use Rattle.std.proofs.Common.{◌≡◌, map}
use Rattle.std.specs.List.{range_with_len}
use Rattle.npp_rows.specs.Caps.{path_model}
use Rattle.npp_rows.specs.Meaning.{reply_value}
use Rattle.npp_tree.specs.Outcome.{path_line_value}
use Rattle.npp_start.specs.Walks.{taken_line}
use Rattle.npp_start.proofs.walks.walks_of_reply.Given as goal

abbrev pub invariant-loop-k : goal.invariant-loop-k
invariant-loop-k g l =
    map (path_line_value g.N.Exact.rational) l.lines.items
    ≡ map (taken_line (path_model l.instance l.covers) (reply_value g.N.Exact.rational l.response)) (range_with_len 0 l.k)
