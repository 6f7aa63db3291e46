-- Fractions of 32 and of 64 bits keep their limit, and each value has one.
use Rattle.std.specs.Prelude.{◌≡◌, ℕ, ◌<◌, ◌≤◌, ◌^◌, refl, nat_abs}
use Rattle.std.proofs.Common.{inl, inr, lt_of_le_of_lt}
use Rattle.std.proofs.Math.Bridge.{le_prop}
use Rattle.std.proofs.Math.Nat.{ℕ_set}
use mathlib.Core.HLevel.{is_prop→PathP}
use Rattle.npp_frac.specs.Fits.{FitsBelow, IsWidth, limit_of}
use Rattle.npp_frac.specs.Gcd.{gcd}
use Rattle.npp_frac.specs.Narrow.{value_of_32, value_of_64}
use Rattle.npp_frac.specs.Value.{value_of_words}
use Rattle.npp_frac.specs.ValueLaws.{same_words}
use Rattle.npp_frac.specs.declared.frac32.Frac32.{Frac32}
use Rattle.npp_frac.specs.declared.frac64.Frac64.{Frac64}
use Rattle.npp_frac.specs.declared.reduced_words.ReducedWords.{ReducedWords}

-- a pair whose numerator is not longer, over 1
pub floor_fits : (m : ℕ) (p r : ReducedWords) → 1 < m → FitsBelow m (value_of_words p) → nat_abs r.num ≤ nat_abs p.num → r.den ≡ 1 → FitsBelow m (value_of_words r)
floor_fits m p r h f num den = record { num = lt_of_le_of_lt num f.num; den = rw den h }

pub width_32 : IsWidth 32
width_32 = inl refl

pub fits_32 : (f : Frac32) → FitsBelow (limit_of 32) (value_of_32 f)
unfolding value_of_32
fits_32 f = record { num = f.num_below; den = f.den_below }

pub same_32 : (f g : Frac32) → value_of_32 f ≡ value_of_32 g → f ≡ g
unfolding value_of_32
same_32 f g e = λ i. record {
  num = (e i).num;
  den = (e i).den;
  positive = is_prop→PathP (λ j. 0 < (e j).den) (λ j. le_prop) f.positive g.positive i;
  reduced = is_prop→PathP (λ j. gcd (nat_abs (e j).num) (e j).den ≡ 1) (λ j. ℕ_set _ _) f.reduced g.reduced i;
  num_below = is_prop→PathP (λ j. nat_abs (e j).num < 2 ^ 31) (λ j. le_prop) f.num_below g.num_below i;
  den_below = is_prop→PathP (λ j. (e j).den < 2 ^ 31) (λ j. le_prop) f.den_below g.den_below i;
}

pub width_64 : IsWidth 64
width_64 = inr (inl refl)

pub fits_64 : (f : Frac64) → FitsBelow (limit_of 64) (value_of_64 f)
unfolding value_of_64
fits_64 f = record { num = f.pair.num_below; den = f.pair.den_below }

pub same_64 : (f g : Frac64) → value_of_64 f ≡ value_of_64 g → f ≡ g
unfolding value_of_64
same_64 f g e = λ i. record { pair = same_words f.pair g.pair e i }
