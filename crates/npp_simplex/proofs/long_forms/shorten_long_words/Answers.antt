use Rattle.std.proofs.Common.{arith}
use Rattle.npp_simplex.proofs.long_forms.shorten_long_words.Goals as goal

pub returns-clause-least : goal.returns-clause-least
returns-clause-least c = λ b h. c.greatest_long_size.ensures.least b (λ j. omega (arith, c.take_long_factor_out-denominator.ensures.sizes j, h j))
