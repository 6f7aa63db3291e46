-- The laws of the order of rational numbers, and of the tests on it.
use Rattle.std.specs.Prelude.{◌≡◌, ℕ, ℤ, pos, Bool, true, false, cond, ◌+◌, ◌-◌, ◌*◌, ◌<◌, ◌≤◌, ◌⊎◌, ◌≤ℤ◌, ◌<ℤ◌, ◌*ℤ◌, refl}
use Rattle.std.specs.Cmp.{int_ranks}
use Rattle.std.specs.Ordering.{MatchOrdering}
use Rattle.std.proofs.Common.{Ordering, Less, Equal, Greater, arith, subst, sym, inl, inr}
use Rattle.std.proofs.Math.Nat.{le_of_mul-le-mul_right, lt_of_mul-lt-mul_right, mul-le-mul_right, mul-lt-mul_of_pos_right, mul-pos}
use borrow.Author.Differences.{up, down}
use Rattle.std.proofs.lemmas.Int.{ints}
use Rattle.npp_frac.specs.Ring.{*ℚ-zero}
use Rattle.npp_frac.specs.Rational.{Rational, whole, zero_ℚ, negative, rational_cmp, is_less, same_from_cross, Is-self, Is-same, Is-le, le-Is, Is-lt, lt-Is, Is-add, Is-mul, Is-sub, Is-negative, Is-whole, ◌≤ℚ◌, ◌<ℚ◌, ◌+ℚ◌, ◌*ℚ◌, ◌-ℚ◌}

-- ---- at most

pub ≤ℚ_refl : (q : Rational) → q ≤ℚ q
≤ℚ_refl q = Is-le (Is-self q) (Is-self q) (omega arith)

pub ≤ℚ_trans : {q r s : Rational} → q ≤ℚ r → r ≤ℚ s → q ≤ℚ s
≤ℚ_trans {q} {r} {s} h k =
    let a = le-Is (Is-self q) (Is-self r) h in
    let b = le-Is (Is-self r) (Is-self s) k in
    Is-le (Is-self q) (Is-self s) (le_of_mul-le-mul_right (omega (arith, mul-le-mul_right s.den a, mul-le-mul_right q.den b)) r.positive)

pub ≤ℚ_antisymm : {q r : Rational} → q ≤ℚ r → r ≤ℚ q → q ≡ r
≤ℚ_antisymm {q} {r} h k = Is-same (Is-self q) (Is-self r) (omega (arith, le-Is (Is-self q) (Is-self r) h, le-Is (Is-self r) (Is-self q) k))

pub ≤ℚ_of_≡ : {q r : Rational} → q ≡ r → q ≤ℚ r
≤ℚ_of_≡ {q} {r} e = let P : Rational → Type 0 = λ s. q ≤ℚ s in rw (← e) (≤ℚ_refl q)

-- ---- below

pub <ℚ_irrefl : {q : Rational} → q <ℚ q → ⊥
<ℚ_irrefl {q} h = omega (arith, lt-Is (Is-self q) (Is-self q) h)

pub ≤ℚ_of_<ℚ : {q r : Rational} → q <ℚ r → q ≤ℚ r
≤ℚ_of_<ℚ {q} {r} h = Is-le (Is-self q) (Is-self r) (omega (arith, lt-Is (Is-self q) (Is-self r) h))

pub not-≤ℚ_of_<ℚ : {q r : Rational} → q <ℚ r → r ≤ℚ q → ⊥
not-≤ℚ_of_<ℚ {q} {r} h k = omega (arith, lt-Is (Is-self q) (Is-self r) h, le-Is (Is-self r) (Is-self q) k)

pub <ℚ_of_<ℚ-≤ℚ : {q r s : Rational} → q <ℚ r → r ≤ℚ s → q <ℚ s
<ℚ_of_<ℚ-≤ℚ {q} {r} {s} h k =
    let a = mul-lt-mul_of_pos_right (lt-Is (Is-self q) (Is-self r) h) s.positive in
    let b = le-Is (Is-self r) (Is-self s) k in
    Is-lt (Is-self q) (Is-self s) (lt_of_mul-lt-mul_right r.den (omega (arith, a, mul-le-mul_right q.den b)))

pub <ℚ_of_≤ℚ-<ℚ : {q r s : Rational} → q ≤ℚ r → r <ℚ s → q <ℚ s
<ℚ_of_≤ℚ-<ℚ {q} {r} {s} h k =
    let a = le-Is (Is-self q) (Is-self r) h in
    let b = mul-lt-mul_of_pos_right (lt-Is (Is-self r) (Is-self s) k) q.positive in
    Is-lt (Is-self q) (Is-self s) (lt_of_mul-lt-mul_right r.den (omega (arith, b, mul-le-mul_right s.den a)))

pub <ℚ_trans : {q r s : Rational} → q <ℚ r → r <ℚ s → q <ℚ s
<ℚ_trans h k = <ℚ_of_<ℚ-≤ℚ h (≤ℚ_of_<ℚ k)

-- ---- what the tests answer

ranked_of : (q r : Rational) (o : Ordering) → MatchOrdering o ((q.num *ℤ pos r.den) <ℤ (r.num *ℤ pos q.den)) (q.num *ℤ pos r.den ≡ r.num *ℤ pos q.den) ((r.num *ℤ pos q.den) <ℤ (q.num *ℤ pos r.den)) → MatchOrdering o (q <ℚ r) (q ≡ r) (r <ℚ q)
ranked_of q r Less h = record { cross = h }
ranked_of q r Equal h = same_from_cross q r (omega (arith, ints, h))
ranked_of q r Greater h = record { cross = h }

-- `rational_cmp` answers the order
pub rational_ranks : (q r : Rational) → MatchOrdering (rational_cmp q r) (q <ℚ r) (q ≡ r) (r <ℚ q)
unfolding rational_cmp
rational_ranks q r = ranked_of q r (rational_cmp q r) (int_ranks (q.num *ℤ pos r.den) (r.num *ℤ pos q.den))

ranked_along : (q r : Rational) (o : Ordering) → o ≡ rational_cmp q r → MatchOrdering o (q <ℚ r) (q ≡ r) (r <ℚ q)
ranked_along q r o e = let P : Ordering → Type 0 = λ x. MatchOrdering x (q <ℚ r) (q ≡ r) (r <ℚ q) in subst P (sym e) (rational_ranks q r)

pub <ℚ_of_Less : (q r : Rational) → Less ≡ rational_cmp q r → q <ℚ r
<ℚ_of_Less q r e = ranked_along q r Less e

pub ≡_of_Equal : (q r : Rational) → Equal ≡ rational_cmp q r → q ≡ r
≡_of_Equal q r e = ranked_along q r Equal e

pub >ℚ_of_Greater : (q r : Rational) → Greater ≡ rational_cmp q r → r <ℚ q
>ℚ_of_Greater q r e = ranked_along q r Greater e

at_least_of : {q r : Rational} (o : Ordering) → MatchOrdering o (q <ℚ r) (q ≡ r) (r <ℚ q) → (o ≡ Less → ⊥) → r ≤ℚ q
at_least_of Less m n = absurd (n refl)
at_least_of Equal m n = ≤ℚ_of_≡ (sym m)
at_least_of Greater m n = ≤ℚ_of_<ℚ m

at_most_of : {q r : Rational} (o : Ordering) → MatchOrdering o (q <ℚ r) (q ≡ r) (r <ℚ q) → (o ≡ Greater → ⊥) → q ≤ℚ r
at_most_of Less m n = ≤ℚ_of_<ℚ m
at_most_of Equal m n = ≤ℚ_of_≡ m
at_most_of Greater m n = absurd (n refl)

-- what is not less is at least
pub ≤ℚ_of_not-Less : (q r : Rational) (o : Ordering) → o ≡ rational_cmp q r → (o ≡ Less → ⊥) → r ≤ℚ q
≤ℚ_of_not-Less q r o e n = at_least_of o (ranked_along q r o e) n

-- what is not greater is at most
pub ≤ℚ_of_not-Greater : (q r : Rational) (o : Ordering) → o ≡ rational_cmp q r → (o ≡ Greater → ⊥) → q ≤ℚ r
≤ℚ_of_not-Greater q r o e n = at_most_of o (ranked_along q r o e) n

either_of : {q r : Rational} (o : Ordering) → MatchOrdering o (q <ℚ r) (q ≡ r) (r <ℚ q) → (q ≤ℚ r) ⊎ (r <ℚ q)
either_of Less m = inl (≤ℚ_of_<ℚ m)
either_of Equal m = inl (≤ℚ_of_≡ m)
either_of Greater m = inr m

-- one of two is at most the other
pub ≤ℚ_or_> : (q r : Rational) → (q ≤ℚ r) ⊎ (r <ℚ q)
≤ℚ_or_> q r = either_of (rational_cmp q r) (rational_ranks q r)

pub ≤ℚ_total : (q r : Rational) → (q ≤ℚ r) ⊎ (r ≤ℚ q)
≤ℚ_total q r = elim (≤ℚ_or_> q r) [ inl h ↦ inl h | inr h ↦ inr (≤ℚ_of_<ℚ h) ]

less_if : (a b : Bool) → a ≡ true → Less ≡ cond a Less (cond b Greater Equal)
less_if a b e = rw e refl

not_less_if : (a b : Bool) → a ≡ false → cond a Less (cond b Greater Equal) ≡ Less → ⊥
not_less_if true b e h = cc
not_less_if false true e h = cc
not_less_if false false e h = cc

pub is_less_yes : (q r : Rational) → is_less q r ≡ true → q <ℚ r
unfolding rational_cmp is_less
is_less_yes q r e = <ℚ_of_Less q r (less_if (is_less q r) (is_less r q) e)

pub is_less_no : (q r : Rational) → is_less q r ≡ false → r ≤ℚ q
unfolding rational_cmp is_less
is_less_no q r e = ≤ℚ_of_not-Less q r (rational_cmp q r) refl (not_less_if (is_less q r) (is_less r q) e)

less_or_not : (q r : Rational) (b : Bool) → is_less q r ≡ b → q <ℚ r → b ≡ true
less_or_not q r true e h = refl
less_or_not q r false e h = absurd (not-≤ℚ_of_<ℚ h (is_less_no q r e))

pub is_less_of_<ℚ : (q r : Rational) → q <ℚ r → is_less q r ≡ true
is_less_of_<ℚ q r h = less_or_not q r (is_less q r) refl h

not_less_or : (q r : Rational) (b : Bool) → is_less q r ≡ b → r ≤ℚ q → b ≡ false
not_less_or q r true e h = absurd (not-≤ℚ_of_<ℚ (is_less_yes q r e) h)
not_less_or q r false e h = refl

pub is_less_of_≤ℚ : (q r : Rational) → r ≤ℚ q → is_less q r ≡ false
is_less_of_≤ℚ q r h = not_less_or q r (is_less q r) refl h

-- ---- sums and products keep the order

pub +ℚ_mono : {q r s t : Rational} → q ≤ℚ r → s ≤ℚ t → (q +ℚ s) ≤ℚ (r +ℚ t)
+ℚ_mono {q} {r} {s} {t} h k =
    Is-le (Is-add (Is-self q) (Is-self s)) (Is-add (Is-self r) (Is-self t))
    (omega (arith, mul-le-mul_right (s.den * t.den) (le-Is (Is-self q) (Is-self r) h), mul-le-mul_right (q.den * r.den) (le-Is (Is-self s) (Is-self t) k)))

pub +ℚ_mono_< : {q r s t : Rational} → q <ℚ r → s ≤ℚ t → (q +ℚ s) <ℚ (r +ℚ t)
+ℚ_mono_< {q} {r} {s} {t} h k =
    Is-lt (Is-add (Is-self q) (Is-self s)) (Is-add (Is-self r) (Is-self t))
    (omega (arith, mul-lt-mul_of_pos_right (lt-Is (Is-self q) (Is-self r) h) (mul-pos s.positive t.positive), mul-le-mul_right (q.den * r.den) (le-Is (Is-self s) (Is-self t) k)))

pub +ℚ_cancel_≤ : (q r s : Rational) → (q +ℚ s) ≤ℚ (r +ℚ s) → q ≤ℚ r
+ℚ_cancel_≤ q r s h =
    Is-le (Is-self q) (Is-self r)
    (le_of_mul-le-mul_right (omega (arith, le-Is (Is-add (Is-self q) (Is-self s)) (Is-add (Is-self r) (Is-self s)) h)) (mul-pos s.positive s.positive))

nonneg_parts : (q : Rational) → zero_ℚ ≤ℚ q → down q.num ≤ up q.num
nonneg_parts q h = omega (arith, le-Is (Is-whole (pos 0)) (Is-self q) h)

pos_parts : (q : Rational) → zero_ℚ <ℚ q → down q.num < up q.num
pos_parts q h = omega (arith, lt-Is (Is-whole (pos 0)) (Is-self q) h)

mono_cross : (u w k e ur wr er us ws es : ℕ) → u ≡ w + k → ur * es + ws * er ≤ us * er + wr * es → (u * ur + w * wr) * (e * es) + (u * ws + w * us) * (e * er) ≤ (u * us + w * ws) * (e * er) + (u * wr + w * ur) * (e * es)
mono_cross u w k e ur wr er us ws es h le =
    rw h (omega (arith, mul-le-mul_right (k * e) le))

strict_cross : (u w k e ur wr er us ws es : ℕ) → u ≡ w + k → 0 < k * e → ur * es + ws * er < us * er + wr * es → (u * ur + w * wr) * (e * es) + (u * ws + w * us) * (e * er) < (u * us + w * ws) * (e * er) + (u * wr + w * ur) * (e * es)
strict_cross u w k e ur wr er us ws es h above lt =
    rw h (omega (arith, mul-lt-mul_of_pos_right lt above))

-- a factor that is not negative keeps the order
pub *ℚ_mono : {q r s : Rational} → zero_ℚ ≤ℚ q → r ≤ℚ s → (q *ℚ r) ≤ℚ (q *ℚ s)
*ℚ_mono {q} {r} {s} h k =
    let d : down q.num ≤ up q.num = nonneg_parts q h in
    Is-le (Is-mul (Is-self q) (Is-self r)) (Is-mul (Is-self q) (Is-self s))
    (mono_cross (up q.num) (down q.num) (up q.num - down q.num) q.den _ _ r.den _ _ s.den (omega arith) (le-Is (Is-self r) (Is-self s) k))

-- a positive factor keeps the strict order
pub *ℚ_mono_< : {q r s : Rational} → zero_ℚ <ℚ q → r <ℚ s → (q *ℚ r) <ℚ (q *ℚ s)
*ℚ_mono_< {q} {r} {s} h k =
    let d : down q.num < up q.num = pos_parts q h in
    let gap : 0 < up q.num - down q.num = omega arith in
    Is-lt (Is-mul (Is-self q) (Is-self r)) (Is-mul (Is-self q) (Is-self s))
    (strict_cross (up q.num) (down q.num) (up q.num - down q.num) q.den _ _ r.den _ _ s.den (omega arith) (mul-pos gap q.positive) (lt-Is (Is-self r) (Is-self s) k))

-- and can be taken away
pub *ℚ_cancel_≤ : {q r s : Rational} → zero_ℚ <ℚ q → (q *ℚ r) ≤ℚ (q *ℚ s) → r ≤ℚ s
*ℚ_cancel_≤ {q} {r} {s} h k = elim (≤ℚ_or_> r s) [
  | inl le ↦ le
  | inr lt ↦ absurd (not-≤ℚ_of_<ℚ (*ℚ_mono_< h lt) k)
]

pub *ℚ_nonneg : {q r : Rational} → zero_ℚ ≤ℚ q → zero_ℚ ≤ℚ r → zero_ℚ ≤ℚ (q *ℚ r)
*ℚ_nonneg {q} {r} h k = let P : Rational → Type 0 = λ s. s ≤ℚ (q *ℚ r) in subst P (*ℚ-zero q) (*ℚ_mono h k)

pub negative_mono : {q r : Rational} → q ≤ℚ r → negative r ≤ℚ negative q
negative_mono {q} {r} h = Is-le (Is-negative (Is-self r)) (Is-negative (Is-self q)) (omega (arith, le-Is (Is-self q) (Is-self r) h))

-- at most, as a sign of the difference
pub nonneg_of_≤ℚ : {q r : Rational} → q ≤ℚ r → zero_ℚ ≤ℚ (r -ℚ q)
nonneg_of_≤ℚ {q} {r} h = Is-le (Is-whole (pos 0)) (Is-sub (Is-self r) (Is-self q)) (omega (arith, le-Is (Is-self q) (Is-self r) h))

pub ≤ℚ_of_nonneg : {q r : Rational} → zero_ℚ ≤ℚ (r -ℚ q) → q ≤ℚ r
≤ℚ_of_nonneg {q} {r} h = Is-le (Is-self q) (Is-self r) (omega (arith, le-Is (Is-whole (pos 0)) (Is-sub (Is-self r) (Is-self q)) h))

-- ---- whole numbers

pub whole_mono : {m n : ℤ} → m ≤ℤ n → whole m ≤ℚ whole n
whole_mono {m} {n} h = Is-le (Is-whole m) (Is-whole n) (omega (arith, ints, h))

pub whole_cancel_≤ : {m n : ℤ} → whole m ≤ℚ whole n → m ≤ℤ n
whole_cancel_≤ {m} {n} h = omega (arith, ints, le-Is (Is-whole m) (Is-whole n) h)

pub whole_injective : {m n : ℤ} → whole m ≡ whole n → m ≡ n
whole_injective {m} {n} e = omega (arith, ints, whole_cancel_≤ (≤ℚ_of_≡ e), whole_cancel_≤ (≤ℚ_of_≡ (sym e)))
