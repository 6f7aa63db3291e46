use Rattle.std.proofs.Common.{ℕ, List, [], sym, subst}
use Rattle.npp_frac.specs.Fits.{limit_of}
use Rattle.npp_check.specs.Measures.{Measures}
use Rattle.npp_stream.specs.Stream.{HasRead}
use Rattle.npp_stream.proofs.StreamLemmas.{begins}
use Rattle.npp_stream.proofs.stream.TextCheck.new.Goals as goal

pub returns-in-Ok-clause-new : goal.returns-in-Ok-clause-new
returns-in-Ok-clause-new c =
    let f : Measures = c.in_ok-lines.lines.checker.on.measures in (
      f,
      subst (λ (o : List ℕ). HasRead (limit_of 128) c.args.instance.now f [] c.in_ok-lines.lines.checker c.in_ok-lines.lines.number o) (sym c.in-Ok.ensures.items)
          (subst (λ (n : ℕ). HasRead (limit_of 128) c.args.instance.now f [] c.in_ok-lines.lines.checker n []) (sym c.in_ok-lines.ensures.first)
          (begins (limit_of 128) c.args.instance.now c.in_ok-lines.lines.checker c.in_ok-lines.ensures.new)),
    )
