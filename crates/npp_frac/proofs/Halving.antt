-- Odd parts of numbers, and the greatest common divisor with and without factors 2.
use Prim.Native.Nat.{◌∣◌, ◌-◌, ◌^◌, min}
use Rattle.std.specs.Prelude.{◌≡◌, ℕ, zero, suc, ◌+◌, ◌*◌, ◌/◌, ◌%◌, ◌<◌, ◌≤◌, refl}
use Rattle.std.specs.Int.{w64, bit_at, trailing_zeros}
use Rattle.std.proofs.Common.{arith, ap, sym, ◌∙◌, inl, inr}
use Rattle.std.proofs.lemmas.Bool.{cases_lt}
use Rattle.std.proofs.Math.Nat.{dvd-mul_right_of_dvd, mul-dvd-mul_right, mul_comm, mul-div_cancel, le_of_mul-le-mul_right, pow-suc}
use Rattle.std.proofs.lemmas.Nat.{pow_pos, pow-add, shr_split, mod-pow-add}
use Rattle.std.proofs.lemmas.Nat.Bits.{bit_at-trailing_zeros}
use Rattle.std.proofs.lemmas.Nat.Gcd.{IsGcd-from_zero, IsGcd-from_mod, IsGcd-from_sub, dvd_refl, dvd_trans, dvd_of_mod-eq-zero, mod-eq-zero_of_dvd}
use Rattle.npp_frac.specs.Gcd.{gcd, gcd_is, IsGcd-gcd, gcd_comm, gcd-one, one-gcd, coprime_product, dvd_of_coprime_any, dvd-gcd-scaled}

-- ---- odd parts

low_zero : (n k : ℕ) → ((i : ℕ) → i < k → bit_at n i ≡ 0) → n % 2 ^ k ≡ 0
low_zero n zero h = omega arith
low_zero n (suc k) h =
    let low : n % 2 ^ k ≡ 0 = low_zero n k (λ i b. h i (omega arith)) in
    let here : n / 2 ^ k % 2 ≡ 0 = h k (omega arith) in
    let split = mod-pow-add n 1 k in
    let next : 1 + k ≡ suc k = omega arith in
    rw next at split ∙ rw (here, low) (omega arith)

-- a number shifted by its zeros loses nothing
pub shifted_whole : (n : ℕ) → 0 < n → n < 2 ^ 64 → n / 2 ^ trailing_zeros w64 n * 2 ^ trailing_zeros w64 n ≡ n
shifted_whole n above below =
    let rest : n % 2 ^ trailing_zeros w64 n ≡ 0 = low_zero n (trailing_zeros w64 n) (bit_at-trailing_zeros w64 n above below).2 in
    omega (arith, shr_split n (trailing_zeros w64 n))

-- and becomes odd
pub shifted_odd : (n : ℕ) → 0 < n → n < 2 ^ 64 → n / 2 ^ trailing_zeros w64 n % 2 ≡ 1
shifted_odd n above below = (bit_at-trailing_zeros w64 n above below).1

-- p is a power of 2, and 2 * h * p a greater one
negative_part : (d h p q : ℕ) → 0 < p → q % 2 ≡ 1 → d + q * p ≡ 2 * h * p → (d / p * p ≡ d) × (d / p % 2 ≡ 1)
negative_part d h p q above odd sum =
    let less : q ≤ 2 * h = le_of_mul-le-mul_right (omega arith) above in
    let both : 2 * h - q + q ≡ 2 * h = omega arith in
    let product : (2 * h - q) * p ≡ d = omega (arith, ap (λ t. t * p) both) in
    let quotient : d / p ≡ 2 * h - q = rw (← product) (mul-div_cancel (2 * h - q) above) in
    (rw quotient product, rw quotient (omega arith))

-- a word and its negative have as many zeros
pub negative_shifted : (d e : ℕ) → 0 < d → 0 < e → d + e ≡ 2 ^ 64 → (d / 2 ^ trailing_zeros w64 e * 2 ^ trailing_zeros w64 e ≡ d) × (d / 2 ^ trailing_zeros w64 e % 2 ≡ 1)
negative_shifted d e d_above e_above sum =
    let zeros = bit_at-trailing_zeros w64 e e_above (omega arith) in
    let k = trailing_zeros w64 e in
    let places : 1 + (63 - k) + k ≡ 64 = omega (arith, zeros.0) in
    let high : 2 * 2 ^ (63 - k) * 2 ^ k ≡ 2 ^ 64 = sym (rw places at (pow-add 2 (1 + (63 - k)) k) ∙ ap (λ t. t * 2 ^ k) (pow-add 2 1 (63 - k))) in
    negative_part d (2 ^ (63 - k)) (2 ^ k) (e / 2 ^ k) (pow_pos k) (shifted_odd e e_above (omega arith)) (rw (shifted_whole e e_above (omega arith)) (sum ∙ sym high))

-- ---- the greatest common divisor

pub gcd-zero : (a : ℕ) → gcd a 0 ≡ a
gcd-zero a = gcd_is a 0 a (IsGcd-from_zero a 0 refl)

pub gcd_rest : (a b : ℕ) → gcd b (a % b) ≡ gcd a b
gcd_rest a b = sym (gcd_is a b _ (IsGcd-from_mod a b _ (IsGcd-gcd b (a % b))))

odd_of_dvd : (d n : ℕ) → d ∣ n → n % 2 ≡ 1 → d % 2 ≡ 1
odd_of_dvd d n divides odd =
    let even : d % 2 ≡ 0 → ⊥ = λ e. let z : n % 2 ≡ 0 = mod-eq-zero_of_dvd 2 (dvd_trans 2 (dvd_of_mod-eq-zero 2 e) divides) in absurd (omega arith) in
    omega arith

two_coprime : (n : ℕ) → n % 2 ≡ 1 → gcd n 2 ≡ 1
two_coprime n odd = sym (gcd_rest n 2) ∙ ap (λ t. gcd 2 t) odd ∙ gcd-one 2

pow_coprime : (k n : ℕ) → n % 2 ≡ 1 → gcd (2 ^ k) n ≡ 1
pow_coprime zero n odd = one-gcd n
pow_coprime (suc k) n odd = rw pow-suc (coprime_product (2 ^ k) 2 n (pow_coprime k n odd) (gcd_comm 2 n ∙ two_coprime n odd))

-- a number shifted has no more divisors in common with an odd one
gcd-shifted_odd : (x k y : ℕ) → y % 2 ≡ 1 → gcd (x * 2 ^ k) y ≡ gcd x y
gcd-shifted_odd x k y odd =
    let g = IsGcd-gcd x y in
    gcd_is (x * 2 ^ k) y (gcd x y)
    (dvd-mul_right_of_dvd _ g.0 (2 ^ k), g.1, λ d p q. g.2 d (dvd_of_coprime_any d (2 ^ k) x (pow_coprime k d (odd_of_dvd d y q odd)) (rw (mul_comm x (2 ^ k)) at p)) q)

gcd_sub : (a b : ℕ) → b ≤ a → gcd (a - b) b ≡ gcd a b
gcd_sub a b le = sym (gcd_is a b _ (IsGcd-from_sub a b _ le (IsGcd-gcd (a - b) b)))

-- one turn, from the greater number
pub gcd_turn : (x y r k : ℕ) → y % 2 ≡ 1 → y ≤ x → r * 2 ^ k ≡ x - y → gcd r y ≡ gcd x y
gcd_turn x y r k odd le e = sym (gcd-shifted_odd r k y odd) ∙ ap (λ t. gcd t y) e ∙ gcd_sub x y le

gcd-scaled : (a b k : ℕ) → 0 < k → gcd (a * k) (b * k) ≡ gcd a b * k
gcd-scaled a b k above =
    let g = IsGcd-gcd a b in
    gcd_is (a * k) (b * k) (gcd a b * k) (mul-dvd-mul_right _ g.0 k, mul-dvd-mul_right _ g.1 k, λ d p q. dvd-gcd-scaled a b k d above p q)

gcd_parts_up : (x y s j : ℕ) → x % 2 ≡ 1 → gcd (x * 2 ^ s) (y * 2 ^ (j + s)) ≡ gcd x y * 2 ^ s
gcd_parts_up x y s j odd =
    let split : y * 2 ^ (j + s) ≡ y * 2 ^ j * 2 ^ s = rw (pow-add 2 j s) (omega arith) in
    ap (λ t. gcd (x * 2 ^ s) t) split
    ∙ gcd-scaled x (y * 2 ^ j) (2 ^ s) (pow_pos s)
    ∙ ap (λ t. t * 2 ^ s) (gcd_comm x (y * 2 ^ j) ∙ gcd-shifted_odd y j x odd ∙ gcd_comm y x)

-- by the odd parts of both numbers
gcd_parts : (x y s t : ℕ) → x % 2 ≡ 1 → y % 2 ≡ 1 → gcd (x * 2 ^ s) (y * 2 ^ t) ≡ gcd x y * 2 ^ min s t
gcd_parts x y s t x_odd y_odd = elim (cases_lt s t) [
  | inl h ↦
      let less : min s t ≡ s = omega arith in
      let e : t - s + s ≡ t = omega arith in
      rw less (rw e at (gcd_parts_up x y s (t - s) x_odd))
  | inr h ↦
      let less : min s t ≡ t = omega arith in
      let e : s - t + t ≡ s = omega arith in
      rw less (gcd_comm (x * 2 ^ s) (y * 2 ^ t) ∙ rw e at (gcd_parts_up y x t (s - t) y_odd) ∙ ap (λ g. g * 2 ^ t) (gcd_comm y x))
]

pub gcd-self : (a : ℕ) → gcd a a ≡ a
gcd-self a = gcd_is a a a (dvd_refl a, dvd_refl a, λ d p q. p)

-- by both numbers shifted by their zeros
pub gcd-shifted : (a b s t g : ℕ) → a / 2 ^ s * 2 ^ s ≡ a → b / 2 ^ t * 2 ^ t ≡ b → a / 2 ^ s % 2 ≡ 1 → b / 2 ^ t % 2 ≡ 1 → g ≡ gcd (a / 2 ^ s) (b / 2 ^ t) → g * 2 ^ min s t ≡ gcd a b
gcd-shifted a b s t g a_whole b_whole a_odd b_odd e =
    ap (λ r. r * 2 ^ min s t) e
    ∙ sym (gcd_parts (a / 2 ^ s) (b / 2 ^ t) s t a_odd b_odd)
    ∙ ap (λ r. gcd r (b / 2 ^ t * 2 ^ t)) a_whole
    ∙ ap (λ r. gcd a r) b_whole
