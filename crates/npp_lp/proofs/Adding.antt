-- The steps of a checked sum, at the numbers that the code reads.
use Rattle.std.proofs.Common.{◌≡◌, ℕ, ◌+◌, ◌<◌, Result, Ok, Err, IsErrAnd, sym, ◌∙◌, ap}
use Rattle.std.specs.Result.{result_map_both}
use Rattle.npp_frac.specs.Rational.{Rational, zero_ℚ}
use Rattle.npp_frac.specs.declared.refusal.Overflow.{Overflow}
use Rattle.npp_lp.specs.Sums.{joined_sum, checked_sum}
use Rattle.npp_lp.specs.SumLaws.{checked_sum_none, checked_sum_more, checked_sum_stops}

module _ (m : ℕ) (a b : ℕ → Rational) where
  pub checked_sum_begins : (s : Rational) → s ≡ zero_ℚ → checked_sum m 0 a b ≡ Ok s
  checked_sum_begins s e = checked_sum_none m a b ∙ ap Ok (sym e)

  pub checked_sum_goes_on : (i : ℕ) (s t x y : Rational) → a i ≡ x → b i ≡ y → checked_sum m i a b ≡ Ok s → Ok t ≡ joined_sum m s x y → checked_sum m (i + 1) a b ≡ Ok t
  checked_sum_goes_on i s t x y left right e j = checked_sum_more m a b i s t e (rw (left, right) (sym j))

  pub checked_sum_ends : (n i : ℕ) (s x y : Rational) (o : Overflow Rational) → i < n → a i ≡ x → b i ≡ y → checked_sum m i a b ≡ Ok s → Err o ≡ joined_sum m s x y → checked_sum m n a b ≡ Err o
  checked_sum_ends n i s x y o h left right e j = checked_sum_stops m a b n i s o h e (rw (left, right) (sym j))

-- an error that `?` hands on
pub handed_on : {T U F G : Type 0} → (value : T → U) (fault : F → G) (r : Result T F) (e : F) (total : Result U G) → IsErrAnd r (λ f. f ≡ e) → total ≡ Err (fault e) → result_map_both value fault r ≡ total
handed_on value fault (Ok s) e total is t = absurd is
handed_on value fault (Err f) e total is t = ap (λ x. Err (fault x)) is ∙ sym t
