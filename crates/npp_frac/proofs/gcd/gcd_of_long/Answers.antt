use Rattle.std.proofs.Common.{rules, sym, ◌∙◌, ◌≡◌}
use Rattle.std.proofs.lemmas.Nat.Gcd.{IsGcd-from_zero, IsGcd-from_mod}
use Rattle.npp_frac.specs.Gcd.{gcd_is, IsGcd_of_gcd}
use Rattle.npp_frac.proofs.gcd.gcd_of_long.Goals as goal

pub loop-y-preserved : goal.loop-y-preserved
loop-y-preserved c g h = c.loop-y.invariant g (IsGcd-from_mod _ _ g h)

pub returns-then-y-eq0 : goal.returns-then-y-eq0
returns-then-y-eq0 c = sym (gcd_is _ _ _ (c.loop-y.invariant _ (IsGcd-from_zero _ _ c.if-y-eq0.true)))

pub returns-else-y-eq0 : goal.returns-else-y-eq0
returns-else-y-eq0 c =
    let same : c.from.result ≡ c.gcd_of_words.result = search rules in
    same ∙ sym (gcd_is _ _ _ (c.loop-y.invariant _ (IsGcd-from_mod _ _ _ (IsGcd_of_gcd _ _ c.gcd_of_words.result c.gcd_of_words.ensures))))
