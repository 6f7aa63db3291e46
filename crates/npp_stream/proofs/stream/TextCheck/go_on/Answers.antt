use Rattle.std.proofs.Common.{refl, arith}
use Rattle.npp_stream.proofs.PieceLemmas.{stays_open, grows_too_long}
use Rattle.npp_stream.proofs.stream.TextCheck.go_on.Goals as goal

pub returns-then-saturating_sub-bytes : goal.returns-then-saturating_sub-bytes
returns-then-saturating_sub-bytes c =
    grows_too_long c.args.self.now c.args.self.now c.args.bytes.now c.requires (omega (arith, c.args.self.now.open.ok.0, c.len.ensures, c.saturating_sub.ensures))

pub returns-in-Ok : goal.returns-in-Ok
returns-in-Ok c =
    stays_open c.args.self.now (record { lines = c.args.self.now.lines; «open» = c.extend_from_slice.new.self }) c.args.bytes.now c.requires
    (omega (arith, c.args.self.now.open.ok.0, c.len.ensures, c.saturating_sub.ensures)) refl refl c.in-Ok.ensures.items
