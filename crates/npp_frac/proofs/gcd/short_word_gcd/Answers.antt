use Rattle.std.proofs.Common.{◌∙◌, ap, sym}
use Rattle.npp_frac.specs.Gcd.{gcd, gcd-one, one-gcd}
use Rattle.npp_frac.proofs.gcd.short_word_gcd.Goals as goal

pub returns-then-a-eq1 : goal.returns-then-a-eq1
returns-then-a-eq1 c = sym (ap (λ t. gcd t c.args.b) c.if-a-eq1.true ∙ one-gcd c.args.b)

pub returns-then-b-eq1 : goal.returns-then-b-eq1
returns-then-b-eq1 c = sym (ap (λ t. gcd c.args.a t) c.if-b-eq1.true ∙ gcd-one c.args.a)
