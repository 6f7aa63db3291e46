-- Two pairs of one value are one pair.
use Rattle.std.specs.Prelude.{◌≡◌, ◌<◌, ◌^◌, nat_abs}
use Rattle.std.proofs.Math.Nat.{ℕ_set}
use Rattle.std.proofs.Math.Bridge.{le_prop}
use mathlib.Core.HLevel.{is_prop→PathP}
use Rattle.npp_frac.specs.Gcd.{gcd}
use Rattle.npp_frac.specs.Value.{value_of, value_of_words}
use Rattle.npp_frac.specs.declared.reduced.Reduced.{Reduced}
use Rattle.npp_frac.specs.declared.reduced_words.ReducedWords.{ReducedWords}

pub same_pair : (f g : Reduced) → value_of f ≡ value_of g → f ≡ g
same_pair f g e = λ i. record {
  num = (e i).num;
  den = (e i).den;
  positive = is_prop→PathP (λ j. 0 < (e j).den) (λ j. le_prop) f.positive g.positive i;
  reduced = is_prop→PathP (λ j. gcd (nat_abs (e j).num) (e j).den ≡ 1) (λ j. ℕ_set _ _) f.reduced g.reduced i;
  num_below = is_prop→PathP (λ j. nat_abs (e j).num < 2 ^ 127) (λ j. le_prop) f.num_below g.num_below i;
  den_below = is_prop→PathP (λ j. (e j).den < 2 ^ 127) (λ j. le_prop) f.den_below g.den_below i;
}

pub same_words : (f g : ReducedWords) → value_of_words f ≡ value_of_words g → f ≡ g
same_words f g e = λ i. record {
  num = (e i).num;
  den = (e i).den;
  positive = is_prop→PathP (λ j. 0 < (e j).den) (λ j. le_prop) f.positive g.positive i;
  reduced = is_prop→PathP (λ j. gcd (nat_abs (e j).num) (e j).den ≡ 1) (λ j. ℕ_set _ _) f.reduced g.reduced i;
  num_below = is_prop→PathP (λ j. nat_abs (e j).num < 2 ^ 63) (λ j. le_prop) f.num_below g.num_below i;
  den_below = is_prop→PathP (λ j. (e j).den < 2 ^ 63) (λ j. le_prop) f.den_below g.den_below i;
}
