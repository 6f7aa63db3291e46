-- Judgements whose tests pass.
use Rattle.std.specs.Prelude.{◌≡◌, ℕ, ◌<◌, ◌≤◌, pos, Bool, true, false, not, ◌==◌, ◌&&◌, ◌||◌, nat_lt, Option, Some, None, Result, Ok, refl}
use Rattle.std.specs.List.{list_all, range_with_len}
use Rattle.std.proofs.Common.{arith, ap, ◌∙◌, eq-eqb}
use Rattle.std.proofs.lemmas.Bool.{and_from}
use Rattle.npp_frac.specs.Rational.{Rational, whole, is_less}
use Rattle.npp_frac.specs.Order.{≤ℚ_refl, is_less_of_≤ℚ}
use Rattle.npp_lp.specs.Sums.{checked_sum}
use Rattle.npp_inverse.proofs.OfferLaws.{all_range}
use Rattle.npp_cover.specs.declared.fault.CoverFault.{CoverFault}
use Rattle.npp_cover.proofs.TestLemmas.{test_of_less}
use Rattle.npp_check.specs.declared.refusal.Rule.{Rule}
use Rattle.npp_check.specs.declared.refusal.Rule.TheVariants.{Overflow}
use Rattle.npp_check.specs.CoverLines.{unless_fault}
use Rattle.npp_check.specs.Rules.{broken_if, same, formed, counted_sum}

-- ---- tests

pub neither : (a b : Bool) → a ≡ false → b ≡ false → (a || b) ≡ false
neither true b e f = cc
neither false b e f = f

pub same_self : (q : Rational) → same q q ≡ true
same_self q = and_from (not (is_less q q)) (not (is_less q q)) (ap not (is_less_of_≤ℚ q q (≤ℚ_refl q))) (ap not (is_less_of_≤ℚ q q (≤ℚ_refl q)))

-- ---- judgements

pub passes : {X : Type 0} (test : Bool) (rule : Rule) (r : Result X Rule) → test ≡ false → broken_if test rule r ≡ r
passes true rule r e = cc
passes false rule r e = refl

pub keeps : {X : Type 0} (test : Bool) (rule : Rule) (r : Result X Rule) → test ≡ true → broken_if (not test) rule r ≡ r
keeps true rule r e = refl
keeps false rule r e = cc

-- a line that has the wanted number
pub numbered_so : {X : Type 0} (k : ℕ) (rule : Rule) (r : Result X Rule) → broken_if (not (k == k)) rule r ≡ r
numbered_so k rule r = keeps (k == k) rule r (eq-eqb k k refl)

pub faultless : {X : Type 0} (o : Option CoverFault) (r : Result X Rule) → o ≡ None → unless_fault o r ≡ r
faultless None r e = refl
faultless (Some fault) r e = cc

-- a sum of numbers that are counted, each count below the limit
pub counted_passes : (limit n : ℕ) (counts : ℕ → ℕ) (values : ℕ → Rational) (s : Rational) → ((i : ℕ) → i < n → counts i < limit)
    → checked_sum limit n (λ i. whole (pos (counts i))) values ≡ Ok s → counted_sum limit n counts values ≡ Ok s
counted_passes limit n counts values s small sum =
    keeps (list_all (λ i. nat_lt (counts i) limit) (range_with_len 0 n)) Overflow (formed (checked_sum limit n (λ i. whole (pos (counts i))) values))
    (all_range (λ i. nat_lt (counts i) limit) 0 n (λ i l u. test_of_less (counts i) limit (small i (omega arith))))
    ∙ ap formed sum
