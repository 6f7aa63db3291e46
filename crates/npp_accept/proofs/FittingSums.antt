-- Sums whose additions fit a width are formed with counts 0 and 1 at each wider one, with the same value.
use Rattle.std.specs.Prelude.{◌≡◌, ℕ, zero, suc, ◌+◌, ◌*◌, ◌/◌, ◌<◌, ◌≤◌, pos, nat_abs, Bool, true, false, cond, List, [], ◌∷◌, ◌++◌, map, filter, Ok, refl}
use Rattle.std.specs.List.{range_with_len}
use Rattle.std.proofs.Common.{arith, ap, sym, ◌∙◌, subst, lt_of_le_of_lt}
use Rattle.std.proofs.Math.Nat.{one-dvd}
use Rattle.std.proofs.lemmas.Int.{unsigned_abs-mul}
use Rattle.std.proofs.lemmas.List.{map-append, append-nil}
use Rattle.std.proofs.lemmas.Nat.Gcd.{dvd_refl}
use Rattle.std.proofs.lemmas.Bool.{and_from}
use Rattle.npp_frac.specs.Gcd.{gcd, gcd_is}
use Rattle.npp_frac.specs.Rational.{Rational, zero_ℚ, one_ℚ, whole, ◌+ℚ◌, ◌*ℚ◌}
use Rattle.npp_frac.specs.Fits.{FitsBelow, FitsAdd, FitsMul, IsWidth, limit_of, fits_add}
use Rattle.npp_frac.specs.FitsLaws.{fits_add_wider, fits_mul_yes}
use Rattle.npp_frac.specs.FitsResults.{FitsAdd_of}
use Rattle.npp_frac.specs.Reduction.{abs_product, quotient_pos_left}
use Rattle.npp_frac.specs.Ring.{zero-+ℚ, +ℚ-zero, +ℚ_assoc, one-*ℚ}
use Rattle.npp_frac.specs.Sums.{sum_by, sum_by-nil, sum_by-cons, sum_by-append, sum_by-map}
use Rattle.npp_lp.specs.RunningSumsLaws.{checked_sum_below}
use Rattle.npp_lp.specs.SumLaws.{joined_sum_fits, checked_sum_none, checked_sum_more}
use Rattle.npp_lp.specs.Sums.{joined_sum, checked_sum}
use Rattle.npp_lp.specs.ZeroSums.{joined_sum-zero_left}
use Rattle.npp_cover.proofs.TestLemmas.{both}
use Rattle.npp_rows.proofs.ListLaws.{filter_range_push}
use Rattle.npp_rows.specs.Response.{additions_fit}
use Rattle.npp_start.proofs.WholeLaws.{whole_num, whole_den}

-- ---- products with 1

gcd-one : (n : ℕ) → gcd n 1 ≡ 1
gcd-one n = gcd_is n 1 1 (one-dvd n, dvd_refl 1, λ e a b. b)

gcd-one_left : (n : ℕ) → gcd 1 n ≡ 1
gcd-one_left n = gcd_is 1 n 1 (dvd_refl 1, one-dvd n, λ e a b. a)

times_one : (n d z e m : ℕ) → n < m → d < m → z ≡ 1 → e ≡ 1 → (z / gcd z d * (n / gcd n e) < m) × (e / gcd n e * (d / gcd z d) < m)
times_one n d z e m top bottom is_one also = rw (is_one, also, gcd-one_left d, gcd-one n) (omega arith, omega arith)

one_fits : (m : ℕ) (q : Rational) → FitsBelow m q → FitsMul m one_ℚ q
one_fits m q h =
    let parts : (nat_abs one_ℚ.num / gcd (nat_abs one_ℚ.num) q.den * (nat_abs q.num / gcd (nat_abs q.num) one_ℚ.den) < m) × (one_ℚ.den / gcd (nat_abs q.num) one_ℚ.den * (q.den / gcd (nat_abs one_ℚ.num) q.den) < m) =
    times_one (nat_abs q.num) q.den (nat_abs one_ℚ.num) one_ℚ.den m h.num h.den (ap nat_abs (whole_num 1)) (whole_den 1) in
    record { num = rw (abs_product one_ℚ.num q.num (gcd (nat_abs one_ℚ.num) q.den) (gcd (nat_abs q.num) one_ℚ.den)) parts.0; den = parts.1 }

-- ---- what is added fits

times_more : (n k m : ℕ) → 0 < k → n * k < m → n < m
times_more n k m some lt = lt_of_le_of_lt (le_times n k some) lt
  where
    le_times : (n k : ℕ) → 0 < k → n ≤ n * k
    le_times n zero some = absurd (omega arith)
    le_times n (suc k) some = omega arith

added_fits : (m : ℕ) (q r : Rational) → FitsAdd m q r → FitsBelow m r
added_fits m q r h =
    let some : 0 < q.den / gcd q.den r.den = quotient_pos_left q.den r.den q.positive in
    let top : nat_abs r.num * (q.den / gcd q.den r.den) < m = subst (λ (n : ℕ). n < m) (unsigned_abs-mul r.num (pos (q.den / gcd q.den r.den))) h.right in
    let bottom : r.den * (q.den / gcd q.den r.den) < m = omega (arith, h.den) in
    record { num = times_more (nat_abs r.num) (q.den / gcd q.den r.den) m some top; den = times_more r.den (q.den / gcd q.den r.den) m some bottom }

-- ---- additions one after another

pub additions_wider : (m n : ℕ) (sum : Rational) (xs : List Rational) → m ≤ n → additions_fit m sum xs ≡ true → additions_fit n sum xs ≡ true
additions_wider m n sum [] le e = refl
additions_wider m n sum (x ∷ xs) le e =
    let parts = both (fits_add m sum x) (additions_fit m (sum +ℚ x) xs) e in
    and_from (fits_add n sum x) (additions_fit n (sum +ℚ x) xs) (sym (fits_add_wider m n sum x le (sym parts.0))) (additions_wider m n (sum +ℚ x) xs le parts.1)

additions_front : (m : ℕ) (sum : Rational) (xs ys : List Rational) → additions_fit m sum (xs ++ ys) ≡ true → additions_fit m sum xs ≡ true
additions_front m sum [] ys e = refl
additions_front m sum (x ∷ xs) ys e =
    let parts = both (fits_add m sum x) (additions_fit m (sum +ℚ x) (xs ++ ys)) e in
    and_from (fits_add m sum x) (additions_fit m (sum +ℚ x) xs) parts.0 (additions_front m (sum +ℚ x) xs ys parts.1)

-- the last of them, added to the sum of those before
additions_last : (m : ℕ) (sum : Rational) (xs : List Rational) (y : Rational) → additions_fit m sum (xs ++ y ∷ []) ≡ true → fits_add m (sum +ℚ sum_by (λ x. x) xs) y ≡ true
additions_last m sum [] y e =
    ap (λ (q : Rational). fits_add m q y) (ap (λ (q : Rational). sum +ℚ q) (sum_by-nil (λ (x : Rational). x)) ∙ +ℚ-zero sum) ∙ (both (fits_add m sum y) true e).0
additions_last m sum (x ∷ xs) y e =
    let parts = both (fits_add m sum x) (additions_fit m (sum +ℚ x) (xs ++ y ∷ [])) e in
    let total : sum +ℚ sum_by (λ z. z) (x ∷ xs) ≡ (sum +ℚ x) +ℚ sum_by (λ z. z) xs =
    ap (λ (q : Rational). sum +ℚ q) (sum_by-cons (λ (z : Rational). z) x xs) ∙ sym (+ℚ_assoc sum x (sum_by (λ z. z) xs)) in
    ap (λ (q : Rational). fits_add m q y) total ∙ additions_last m (sum +ℚ x) xs y parts.1

-- ---- counts that are 0 or 1

module _ (w : ℕ) (width : IsWidth w) (counts : ℕ → ℕ) (test : ℕ → Bool) (values : ℕ → Rational) (yes : (i : ℕ) → test i ≡ true → counts i ≡ 1) (no : (i : ℕ) → test i ≡ false → counts i ≡ 0) where
  abbrev kept : ℕ → List ℕ
  kept n = filter test (range_with_len 0 n)

  abbrev Formed : ℕ → Type 0
  Formed n = additions_fit (limit_of w) zero_ℚ (map values (kept n)) ≡ true
      → checked_sum (limit_of w) n (λ i. whole (pos (counts i))) values ≡ Ok (sum_by values (kept n))

  -- one that counts
  counted_once : (n : ℕ) → Formed n → test n ≡ true → kept (n + 1) ≡ kept n ++ n ∷ [] → Formed (n + 1)
  counted_once n before here more fit =
      let split : map values (kept (n + 1)) ≡ map values (kept n) ++ values n ∷ [] = ap (map values) more ∙ map-append values (kept n) (n ∷ []) in
      let fits : additions_fit (limit_of w) zero_ℚ (map values (kept n) ++ values n ∷ []) ≡ true = ap (additions_fit (limit_of w) zero_ℚ) (sym split) ∙ fit in
      let sum : zero_ℚ +ℚ sum_by (λ x. x) (map values (kept n)) ≡ sum_by values (kept n) = zero-+ℚ (sum_by (λ (x : Rational). x) (map values (kept n))) ∙ sum_by-map (λ (x : Rational). x) values (kept n) in
      let adds : fits_add (limit_of w) (sum_by values (kept n)) (values n) ≡ true =
      ap (λ (q : Rational). fits_add (limit_of w) q (values n)) (sym sum) ∙ additions_last (limit_of w) zero_ℚ (map values (kept n)) (values n) fits in
      let one : whole (pos (counts n)) ≡ one_ℚ = ap (λ k. whole (pos k)) (yes n here) in
      let product : one_ℚ *ℚ values n ≡ values n = one-*ℚ (values n) in
      let value : FitsBelow (limit_of w) (values n) = added_fits (limit_of w) (sum_by values (kept n)) (values n) (FitsAdd_of (limit_of w) (sum_by values (kept n)) (values n) (sym adds)) in
      let joins : joined_sum (limit_of w) (sum_by values (kept n)) one_ℚ (values n) ≡ Ok (sum_by values (kept n) +ℚ one_ℚ *ℚ values n) =
      joined_sum_fits (limit_of w) (sum_by values (kept n)) one_ℚ (values n) (fits_mul_yes (limit_of w) one_ℚ (values n) (one_fits (limit_of w) (values n) value))
      (subst (λ (q : Rational). true ≡ fits_add (limit_of w) (sum_by values (kept n)) q) (sym product) (sym adds)) in
      let total : sum_by values (kept n) +ℚ one_ℚ *ℚ values n ≡ sum_by values (kept (n + 1)) =
      ap (λ (q : Rational). sum_by values (kept n) +ℚ q) (product ∙ sym (sum_by-cons values n [] ∙ ap (λ (q : Rational). values n +ℚ q) (sum_by-nil values) ∙ +ℚ-zero (values n)))
      ∙ sym (ap (sum_by values) more ∙ sum_by-append values (kept n) (n ∷ [])) in
      checked_sum_more (limit_of w) (λ i. whole (pos (counts i))) values n (sum_by values (kept n)) (sum_by values (kept (n + 1)))
      (before (additions_front (limit_of w) zero_ℚ (map values (kept n)) (values n ∷ []) fits))
      (ap (λ (q : Rational). joined_sum (limit_of w) (sum_by values (kept n)) q (values n)) one ∙ joins ∙ ap (λ (q : Rational). Ok q) total)

  -- one that does not
  not_counted : (n : ℕ) → Formed n → test n ≡ false → kept (n + 1) ≡ kept n → Formed (n + 1)
  not_counted n before here same fit =
      let fits : additions_fit (limit_of w) zero_ℚ (map values (kept n)) ≡ true = ap (λ xs. additions_fit (limit_of w) zero_ℚ (map values xs)) (sym same) ∙ fit in
      let formed : checked_sum (limit_of w) n (λ i. whole (pos (counts i))) values ≡ Ok (sum_by values (kept n)) = before fits in
      checked_sum_more (limit_of w) (λ i. whole (pos (counts i))) values n (sum_by values (kept n)) (sum_by values (kept (n + 1))) formed
      (joined_sum-zero_left w (sum_by values (kept n)) (whole (pos (counts n))) (values n) width
      (checked_sum_below w n (λ i. whole (pos (counts i))) values (sum_by values (kept n)) width formed) (ap (λ k. whole (pos k)) (no n here))
      ∙ ap (λ xs. Ok (sum_by values xs)) (sym same))

  one_more : (n : ℕ) → Formed n → Formed (n + 1)
  one_more n before = by_test (test n) refl
    where
      pushed : (b : Bool) → test n ≡ b → kept (n + 1) ≡ kept n ++ cond b (n ∷ []) []
      pushed b e = filter_range_push test n ∙ ap (λ (c : Bool). kept n ++ cond c (n ∷ []) []) e

      by_test : (b : Bool) → test n ≡ b → Formed (n + 1)
      by_test true e = counted_once n before e (pushed true e)
      by_test false e = not_counted n before e (pushed false e ∙ append-nil (kept n))

  -- the sum of those that pass is formed with their counts
  pub formed_with_counts : (n : ℕ) → Formed n
  formed_with_counts zero = λ fit. checked_sum_none (limit_of w) (λ i. whole (pos (counts i))) values ∙ ap (λ (q : Rational). Ok q) (sym (sum_by-nil values))
  formed_with_counts (suc n) = let e : n + 1 ≡ suc n = omega arith in subst Formed e (one_more n (formed_with_counts n))
