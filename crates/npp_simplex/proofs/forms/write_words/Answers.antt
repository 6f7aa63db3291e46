use Rattle.std.proofs.Common.{arith, ◌∙◌}
use Rattle.npp_simplex.proofs.WordForms.{words_written}
use Rattle.npp_simplex.proofs.forms.write_words.Goals as goal

pub returns-clause-numbers : goal.returns-clause-numbers
returns-clause-numbers g c =
    words_written g.N.Exact.rational c.args.denominator c.loop-j.words c.args.fractions.now c.requires.positive (c.loop-j.auto.words ∙ c.requires.room)
    (λ k l. c.loop-j.invariant.done k (omega arith))
