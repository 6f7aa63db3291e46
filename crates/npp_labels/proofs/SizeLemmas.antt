-- The size of a set of tolls: a set within another has no more, and with as many it is the other.
use Rattle.std.proofs.Common.{◌≡◌, ◌≢◌, ℕ, zero, suc, ◌+◌, ◌/◌, ◌%◌, ◌<◌, ◌≤◌, refl, sym, ◌∙◌, ap, subst, arith}
use Rattle.std.proofs.lemmas.Nat.Bits.{bit_at_lowest, bit_at-suc, bit_at-zero, same_from_bits}
use Rattle.std.specs.Int.{bit_at}
use Rattle.std.specs.Int.Count.{ones_in, ones}
use Rattle.npp_net.specs.TollSets.{Has, IsWithin, size_of}

-- the tolls but the lowest
within_half : (s t : ℕ) → IsWithin s t → IsWithin (s / 2) (t / 2)
within_half s t h a has = sym (bit_at-suc t a) ∙ h (suc a) (bit_at-suc s a ∙ has)

lowest_within : (s t : ℕ) → IsWithin s t → s % 2 ≡ 1 → t % 2 ≡ 1
lowest_within s t h one = sym (bit_at_lowest t) ∙ h 0 (bit_at_lowest s ∙ one)

lowest_le : (x y : ℕ) → x < 2 → (x ≡ 1 → y ≡ 1) → x ≤ y
lowest_le x y lt h = grind arith

lowest_no_more : (s t : ℕ) → IsWithin s t → s % 2 ≤ t % 2
lowest_no_more s t h = lowest_le (s % 2) (t % 2) (omega arith) (lowest_within s t h)

ones_in-suc : (k n : ℕ) → ones_in (suc k) n ≡ n % 2 + ones_in k (n / 2)
unfolding ones_in
ones_in-suc k n = refl

ones_in-zero : (n : ℕ) → ones_in zero n ≡ 0
unfolding ones_in
ones_in-zero n = refl

size_is : (n : ℕ) → size_of n ≡ ones_in n n
unfolding ones
size_is n = refl

-- the count does not depend on how many digits may be looked at
ones_of_zero : (k : ℕ) → ones_in k 0 ≡ 0
ones_of_zero zero = ones_in-zero 0
ones_of_zero (suc k) = omega (arith, ones_in-suc k 0, ones_of_zero k)

ones_fuel : (k m n : ℕ) → n ≤ k → n ≤ m → ones_in k n ≡ ones_in m n
ones_fuel zero m n lk lm = let e : n ≡ 0 = omega arith in subst (λ (x : ℕ). ones_in zero x ≡ ones_in m x) (sym e) (ones_of_zero zero ∙ sym (ones_of_zero m))
ones_fuel (suc k) zero n lk lm = let e : n ≡ 0 = omega arith in subst (λ (x : ℕ). ones_in (suc k) x ≡ ones_in zero x) (sym e) (ones_of_zero (suc k) ∙ sym (ones_of_zero zero))
ones_fuel (suc k) (suc m) n lk lm =
    ones_in-suc k n ∙ (ap (λ (x : ℕ). n % 2 + x) (ones_fuel k m (n / 2) (omega arith) (omega arith)) ∙ sym (ones_in-suc m n))

ones_le : (k s t : ℕ) → IsWithin s t → ones_in k s ≤ ones_in k t
ones_le zero s t h = omega (arith, ones_in-zero s)
ones_le (suc k) s t h = omega (arith, ones_in-suc k s, ones_in-suc k t, lowest_no_more s t h, ones_le k (s / 2) (t / 2) (within_half s t h))

ones_same : (k s t : ℕ) → s ≤ k → t ≤ k → IsWithin s t → ones_in k t ≤ ones_in k s → s ≡ t
ones_same zero s t ls lt h le = omega arith
ones_same (suc k) s t ls lt h le =
    let low = lowest_no_more s t h in
    let high = ones_le k (s / 2) (t / 2) (within_half s t h) in
    let es = ones_in-suc k s in
    let et = ones_in-suc k t in
    let rest : s / 2 ≡ t / 2 = ones_same k (s / 2) (t / 2) (omega arith) (omega arith) (within_half s t h) (omega arith) in
    omega arith

size_in : (k n : ℕ) → n ≤ k → size_of n ≡ ones_in k n
size_in k n le = size_is n ∙ ones_fuel n k n (omega arith) le

-- a set within another has no more tolls
pub size_le : (s t : ℕ) → IsWithin s t → size_of s ≤ size_of t
size_le s t h = omega (arith, size_in (s + t) s (omega arith), size_in (s + t) t (omega arith), ones_le (s + t) s t h)

-- and with as many it is the same set
pub size_same : (s t : ℕ) → IsWithin s t → size_of t ≤ size_of s → s ≡ t
size_same s t h le =
    ones_same (s + t) s t (omega arith) (omega arith) h
    (omega (arith, size_in (s + t) s (omega arith), size_in (s + t) t (omega arith)))

-- ---- one more toll

-- a set with one more toll
pub record HasOneMore (s t n : ℕ) : Type 0 where
  pub new : bit_at s n ≡ 0
  pub has : Has t n
  pub others : (b : ℕ) → b ≢ n → bit_at t b ≡ bit_at s b

half_more : (s t n : ℕ) → HasOneMore s t (suc n) → HasOneMore (s / 2) (t / 2) n
half_more s t n more = record {
  new = sym (bit_at-suc s n) ∙ more.new;
  has = sym (bit_at-suc t n) ∙ more.has;
  others = λ b ne. sym (bit_at-suc t b) ∙ (more.others (suc b) (λ e. ne (omega arith)) ∙ bit_at-suc s b);
}

ones_more : (k s t n : ℕ) → s ≤ k → t ≤ k → HasOneMore s t n → ones_in k t ≡ ones_in k s + 1
ones_more zero s t n ls lt more = absurd (omega (arith, more.has, bit_at-zero n, ap (λ (x : ℕ). bit_at x n) (let e : t ≡ 0 = omega arith in e)))
ones_more (suc k) s t zero ls lt more =
    let halves : t / 2 ≡ s / 2 = same_from_bits (t / 2) (s / 2) (λ b. sym (bit_at-suc t b) ∙ (more.others (suc b) (λ e. omega arith) ∙ bit_at-suc s b)) in
    omega (arith, ones_in-suc k s, ones_in-suc k t, ap (λ (x : ℕ). ones_in k x) halves, bit_at_lowest s, bit_at_lowest t, more.new, more.has)
ones_more (suc k) s t (suc n) ls lt more =
    omega (arith, ones_in-suc k s, ones_in-suc k t, ones_more k (s / 2) (t / 2) n (omega arith) (omega arith) (half_more s t n more), bit_at_lowest s, bit_at_lowest t, more.others 0 (λ e. omega arith))

-- it has one toll more
pub size_more : (s t n : ℕ) → HasOneMore s t n → size_of t ≡ size_of s + 1
size_more s t n more =
    omega (arith, size_in (s + t) s (omega arith), size_in (s + t) t (omega arith), ones_more (s + t) s t n (omega arith) (omega arith) more)
