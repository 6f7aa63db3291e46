use Rattle.npp_frac.specs.Gcd.{gcd_pos, gcd_le}
use Rattle.npp_frac.proofs.gcd.word_gcd.Goals as goal

pub returns : goal.returns
returns c =
    let is = c.short_word_gcd.ensures in
    record { exact = is; positive = λ h. rw is (gcd_pos _ _ h); at_most = λ h. rw is (gcd_le _ _ h) }
