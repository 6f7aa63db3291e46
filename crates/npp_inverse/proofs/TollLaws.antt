-- The sum of the tolls of a set, formed one after another.
use Rattle.std.proofs.Common.{◌≡◌, ℕ, zero, suc, ◌+◌, ◌<◌, ◌≤◌, Bool, true, false, cond, ◌&&◌, List, [], ◌∷◌, ◌==◌, map, filter, All, refl, sym, ap, ◌∙◌, subst, arith}
use Rattle.std.specs.Prelude.{Result, Ok, Err, IsErr, is_ok}
use Rattle.std.specs.Int.{bit_at}
use Rattle.std.specs.List.{range_with_len}
use Rattle.std.proofs.lemmas.List.Elements.{All-head, All-tail}
use Rattle.npp_frac.specs.Rational.{Rational, zero_ℚ, ◌+ℚ◌}
use Rattle.npp_frac.specs.Ring.{+ℚ_assoc, zero-+ℚ, +ℚ-zero}
use Rattle.npp_frac.specs.Sums.{sum_by, sum_by-nil, sum_by-cons}
use Rattle.npp_frac.specs.Fits.{fits_add}
use Rattle.npp_net.specs.TollSets.{tolls_of}
use Rattle.npp_lp.specs.Programs.{at}
use Rattle.npp_rows.specs.Response.{additions_fit}

-- of tolls whose sum is formed in order, these are left
pub record AreLeft (m n : ℕ) (T : List Rational) (all : List ℕ) (sum : Rational) (left : List ℕ) : Type 0 where
  pub within : All (λ a. a < n) left
  pub fits : additions_fit m sum (map (at T) left) ≡ additions_fit m zero_ℚ (map (at T) all)
  pub total : sum +ℚ sum_by (at T) left ≡ sum_by (at T) all

pub all_left : (m n : ℕ) (T : List Rational) (all left : List ℕ) (sum : Rational) → All (λ a. a < n) all → sum ≡ zero_ℚ → left ≡ all → AreLeft m n T all sum left
all_left m n T all left sum within e f = rw (e, f) (record { within = within; fits = refl; total = zero-+ℚ (sum_by (at T) all) })

module _ (m n : ℕ) (T : List Rational) (all : List ℕ) (sum : Rational) (left : List ℕ) (h : AreLeft m n T all sum left) (a : ℕ) (rest : List ℕ) (e : left ≡ a ∷ rest) where
  here : AreLeft m n T all sum (a ∷ rest)
  here = subst (λ (l : List ℕ). AreLeft m n T all sum l) e h

  pub next_within : a < n
  next_within = All-head (λ a. a < n) a rest here.within

  pub next_left : (next x : Rational) → x ≡ at T a → true ≡ fits_add m sum x → next ≡ sum +ℚ x → AreLeft m n T all next rest
  next_left next x is fits value = record {
    within = All-tail (λ a. a < n) a rest here.within;
    fits =
        ap (λ q. additions_fit m q (map (at T) rest)) (value ∙ ap (λ q. sum +ℚ q) is)
        ∙ ap (λ b. b && additions_fit m (sum +ℚ at T a) (map (at T) rest)) (fits ∙ ap (fits_add m sum) is)
        ∙ here.fits;
    total =
        ap (λ q. q +ℚ sum_by (at T) rest) (value ∙ ap (λ q. sum +ℚ q) is)
        ∙ +ℚ_assoc sum (at T a) (sum_by (at T) rest)
        ∙ ap (λ q. sum +ℚ q) (sym (sum_by-cons (at T) a rest))
        ∙ here.total;
  }

  pub next_stops : (x : Rational) → x ≡ at T a → false ≡ fits_add m sum x → false ≡ additions_fit m zero_ℚ (map (at T) all)
  next_stops x is fits =
      ap (λ b. b && additions_fit m (sum +ℚ at T a) (map (at T) rest)) (fits ∙ ap (fits_add m sum) is) ∙ here.fits

pub none_left : (m n : ℕ) (T : List Rational) (all : List ℕ) (sum : Rational) (left : List ℕ) → AreLeft m n T all sum left → left ≡ []
    → (true ≡ additions_fit m zero_ℚ (map (at T) all)) × (sum ≡ sum_by (at T) all)
none_left m n T all sum left h e =
    let here : AreLeft m n T all sum [] = subst (λ (l : List ℕ). AreLeft m n T all sum l) e h in
    (here.fits, sym (ap (λ q. sum +ℚ q) (sum_by-nil (at T)) ∙ +ℚ-zero sum) ∙ here.total)

-- ---- the tolls of a set that has only the first n

passing : (s a n : ℕ) → List ℕ
passing s a n = filter (λ i. bit_at s i == 1) (range_with_len a n)

tail_within : (s a n top : ℕ) → All (λ i. i < top) (passing s a (suc n)) → All (λ i. i < top) (passing s (a + 1) n)
unfolding passing
tail_within s a n top all = by (bit_at s a == 1) all
  where
    by : (b : Bool) → All (λ i. i < top) (cond b (a ∷ passing s (a + 1) n) (passing s (a + 1) n)) → All (λ i. i < top) (passing s (a + 1) n)
    by true h = All-tail (λ i. i < top) a (passing s (a + 1) n) h
    by false h = h

beyond : (s a n top : ℕ) → top ≤ a → All (λ i. i < top) (passing s a n) → passing s a n ≡ []
unfolding passing
beyond s a zero top h all = refl
beyond s a (suc n) top h all = by (bit_at s a == 1) all (beyond s (a + 1) n top (omega arith) (tail_within s a n top all))
  where
    by : (b : Bool) → All (λ i. i < top) (cond b (a ∷ passing s (a + 1) n) (passing s (a + 1) n)) → passing s (a + 1) n ≡ [] → cond b (a ∷ passing s (a + 1) n) (passing s (a + 1) n) ≡ []
    by true h' e = absurd (omega (arith, All-head (λ i. i < top) a (passing s (a + 1) n) h'))
    by false h' e = e

up_to : (s a n len top : ℕ) → n ≤ len → a + n ≡ top → All (λ i. i < top) (passing s a len) → passing s a len ≡ passing s a n
unfolding passing
up_to s a zero len top h e all = beyond s a len top (omega (arith, e)) all
up_to s a (suc n) zero top h e all = absurd (omega (arith, h))
up_to s a (suc n) (suc len) top h e all =
    ap (λ (l : List ℕ). cond (bit_at s a == 1) (a ∷ l) l) (up_to s (a + 1) n len top (omega (arith, h)) (omega (arith, e)) (tail_within s a len top all))

-- they are those among the first n
pub listed_within : (s n : ℕ) → n ≤ 128 → All (λ a. a < n) (tolls_of s) → tolls_of s ≡ filter (λ a. bit_at s a == 1) (range_with_len 0 n)
unfolding tolls_of passing
listed_within s n few all = up_to s 0 n 128 n few (omega arith) all

-- ---- results

pub refused_as : {T E : Type 0} (r : Result T E) (b : Bool) → IsErr r → false ≡ b → is_ok r ≡ b
refused_as (Ok x) b h e = cc
refused_as (Err x) b h e = e
