use Rattle.std.proofs.Common.{sym, ◌∙◌, ◌+◌}
use Rattle.std.proofs.lemmas.List.{take_rest}
use Rattle.npp_reader.proofs.LineLemmas.{lines_first, lines_only}
use Rattle.npp_reader.proofs.line.split_line.Goals as goal

pub returns-in-Some-clause-first : goal.returns-in-Some-clause-first
returns-in-Some-clause-first c =
    rw (c.without_carriage_return.ensures, take_rest c.args.bytes.now (c.in-Some.end + 1)) (lines_first c.args.bytes.now c.in-Some.end (sym c.line_feed.ensures ∙ c.in-Some.is))

pub returns-in-None-clause-first : goal.returns-in-None-clause-first
returns-in-None-clause-first c =
    rw c.without_carriage_return-in-None.ensures (lines_only c.args.bytes.now c.requires.some (sym c.line_feed.ensures ∙ c.in-None.is))
