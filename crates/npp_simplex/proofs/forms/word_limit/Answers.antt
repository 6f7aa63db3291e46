use Rattle.std.proofs.Common.{sym, ◌∙◌}
use Rattle.npp_simplex.proofs.LineForms.{limit_32, limit_other}
use Rattle.npp_simplex.proofs.forms.word_limit.Goals as goal

pub returns-then-WIDTH-eq32 : goal.returns-then-WIDTH-eq32
returns-then-WIDTH-eq32 g c = limit_32 g.N.Exact.WIDTH (sym c.WIDTH.ensures ∙ c.if-WIDTH-eq32.true)

pub returns-else-WIDTH-eq32 : goal.returns-else-WIDTH-eq32
returns-else-WIDTH-eq32 g c = limit_other g.N.Exact.WIDTH g.met.N.Exact.width (λ e. c.if-WIDTH-eq32.false (c.WIDTH.ensures ∙ e))
