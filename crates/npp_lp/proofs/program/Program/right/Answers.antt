use Rattle.std.proofs.Common.{ap, sym, ◌∙◌}
use Rattle.npp_lp.specs.ProgramOver.{rights_of}
use Rattle.npp_lp.proofs.Writing.{rights_written}
use Rattle.npp_lp.proofs.program.Program.right.Goals as goal

pub returns : goal.returns
returns g c =
    c.deref.ensures.value ∙ sym (rights_written c.self.inside.entries.items c.self.inside.spans.items c.self.inside.right.items c.self.invariant.0) ∙ ap rights_of c.self.view_is
