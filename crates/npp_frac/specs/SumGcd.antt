-- The common factor of a sum's numerator and its denominator is one of the two denominators'.
use Prim.Native.Nat.{◌∣◌}
use Rattle.std.specs.Prelude.{◌≡◌, ◌⊎◌, ℕ, ◌+◌, ◌-◌, ◌*◌, ℤ, pos, negsuc, ◌+ℤ◌, ◌*ℤ◌, nat_abs}
use Rattle.std.proofs.Common.{arith, ap, sym, ◌∙◌, inl, inr}
use Rattle.std.proofs.Math.Nat.{dvd-add, dvd-sub, dvd-mul_left, dvd_trans, dvd_antisymm, dvd-mul_left_of_dvd, eq-one_of_dvd-one}
use Rattle.std.proofs.Math.IntN.{+ℤ_comm}
use Rattle.std.proofs.lemmas.Int.{unsigned_abs-mul}
use borrow.Author.Differences.{up, down, sum_is_lem}
use Rattle.npp_frac.specs.Gcd.{gcd, IsGcd-gcd, gcd_comm, dvd_of_coprime_any, coprime_product, coprime_parts}
use Rattle.npp_frac.specs.Rational.{Rational}

-- a factor that is coprime to t can be taken away
gcd-coprime_factor : (t x y : ℕ) → gcd t x ≡ 1 → gcd t (x * y) ≡ gcd t y
gcd-coprime_factor t x y one =
    let e = IsGcd-gcd t (x * y) in
    let h = IsGcd-gcd x (gcd t (x * y)) in
    let both : gcd x (gcd t (x * y)) ∣ gcd t x = (IsGcd-gcd t x).2 _ (dvd_trans _ h.1 e.0) h.0 in
    let coprime : gcd x (gcd t (x * y)) ≡ 1 = eq-one_of_dvd-one (rw one at both) in
    let f = IsGcd-gcd t y in
    dvd_antisymm
    (f.2 _ e.0 (dvd_of_coprime_any _ x y coprime e.1))
    (e.2 _ f.0 (dvd_trans _ f.1 (dvd-mul_left y x)))

-- what divides a sum and one part of it divides the other part
dvd_part : (k x y s : ℕ) → k ∣ s → k ∣ y → (x + y ≡ s) ⊎ ((x ≡ s + y) ⊎ (x + s ≡ y)) → k ∣ x
dvd_part k x y s ds dy h = elim h [
  | inl e ↦ let d : x ≡ s - y = omega arith in rw d (dvd-sub k ds dy)
  | inr g ↦ elim g [
    | inl e ↦ rw e (dvd-add k ds dy)
    | inr e ↦ let d : x ≡ y - s = omega arith in rw d (dvd-sub k dy ds)
  ]
]

abs_parts : (s x y : ℤ) → up s + down x + down y ≡ down s + up x + up y → (nat_abs x + nat_abs y ≡ nat_abs s) ⊎ ((nat_abs x ≡ nat_abs s + nat_abs y) ⊎ (nat_abs x + nat_abs s ≡ nat_abs y))
abs_parts (pos s) (pos x) (pos y) e = inl (omega arith)
abs_parts (pos s) (pos x) (negsuc y) e = inr (inl (omega arith))
abs_parts (pos s) (negsuc x) (pos y) e = inr (inr (omega arith))
abs_parts (pos s) (negsuc x) (negsuc y) e = absurd (omega arith)
abs_parts (negsuc s) (pos x) (pos y) e = absurd (omega arith)
abs_parts (negsuc s) (pos x) (negsuc y) e = inr (inr (omega arith))
abs_parts (negsuc s) (negsuc x) (pos y) e = inr (inl (omega arith))
abs_parts (negsuc s) (negsuc x) (negsuc y) e = inl (omega arith)

-- the sum of n * d and m * b, where n and d are coprime to b, is coprime to b
sum_coprime : (n m : ℤ) (b d : ℕ) → gcd (nat_abs n) b ≡ 1 → gcd d b ≡ 1 → gcd (nat_abs (n *ℤ pos d +ℤ m *ℤ pos b)) b ≡ 1
sum_coprime n m b d nb db =
    let g = IsGcd-gcd (nat_abs (n *ℤ pos d +ℤ m *ℤ pos b)) b in
    let right : gcd (nat_abs (n *ℤ pos d +ℤ m *ℤ pos b)) b ∣ nat_abs (m *ℤ pos b) = rw (unsigned_abs-mul m (pos b)) (dvd-mul_left_of_dvd _ g.1 (nat_abs m)) in
    let left : gcd (nat_abs (n *ℤ pos d +ℤ m *ℤ pos b)) b ∣ nat_abs (n *ℤ pos d) = dvd_part _ (nat_abs (n *ℤ pos d)) (nat_abs (m *ℤ pos b)) (nat_abs (n *ℤ pos d +ℤ m *ℤ pos b)) g.0 right (abs_parts (n *ℤ pos d +ℤ m *ℤ pos b) (n *ℤ pos d) (m *ℤ pos b) (sum_is_lem (n *ℤ pos d) (m *ℤ pos b))) in
    let both : gcd (nat_abs (n *ℤ pos d +ℤ m *ℤ pos b)) b ∣ gcd (nat_abs n * d) b = (IsGcd-gcd (nat_abs n * d) b).2 _ (rw (unsigned_abs-mul n (pos d)) at left) g.1 in
    eq-one_of_dvd-one (rw (coprime_product (nat_abs n) d b nb db) at both)

sum_flip : (n m : ℤ) (b d : ℕ) → nat_abs (n *ℤ pos d +ℤ m *ℤ pos b) ≡ nat_abs (m *ℤ pos b +ℤ n *ℤ pos d)
sum_flip n m b d = ap nat_abs (+ℤ_comm (n *ℤ pos d) (m *ℤ pos b))

-- with b * g and d * g the denominators, and b and d coprime
pub gcd-sum : (q r : Rational) (b d g : ℕ) → b * g ≡ q.den → d * g ≡ r.den → gcd b d ≡ 1 → gcd (nat_abs (q.num *ℤ pos d +ℤ r.num *ℤ pos b)) g ≡ gcd (nat_abs (q.num *ℤ pos d +ℤ r.num *ℤ pos b)) (b * r.den)
gcd-sum q r b d g eb ed one =
    let nb : gcd (nat_abs q.num) b ≡ 1 = coprime_parts (nat_abs q.num) (nat_abs q.num) b q.den 1 g (omega arith) eb q.reduced in
    let md : gcd (nat_abs r.num) d ≡ 1 = coprime_parts (nat_abs r.num) (nat_abs r.num) d r.den 1 g (omega arith) ed r.reduced in
    let left : gcd (nat_abs (q.num *ℤ pos d +ℤ r.num *ℤ pos b)) b ≡ 1 = sum_coprime q.num r.num b d nb (gcd_comm d b ∙ one) in
    let right : gcd (nat_abs (q.num *ℤ pos d +ℤ r.num *ℤ pos b)) d ≡ 1 = ap (λ t. gcd t d) (sum_flip q.num r.num b d) ∙ sum_coprime r.num q.num d b md one in
    sym (gcd-coprime_factor _ d g right)
    ∙ ap (λ t. gcd (nat_abs (q.num *ℤ pos d +ℤ r.num *ℤ pos b)) t) ed
    ∙ sym (gcd-coprime_factor _ b r.den left)
