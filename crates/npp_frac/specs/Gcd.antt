-- The greatest common divisor, as a function.
use Prim.Native.Nat.{◌∣◌}
use Rattle.std.specs.Prelude.{◌≡◌, ℕ, zero, suc, ◌*◌, ◌/◌, ◌%◌, ◌<◌, ◌≤◌, refl}
use Rattle.std.proofs.Math.Nat.{dvd-mul_left, dvd-mul_right, div-mul_cancel, dvd_of_mul-dvd-mul_right, mul-dvd-mul_right, dvd_trans, pos_of_dvd_of_pos, eq-one_of_dvd-one, one-mul, le_of_dvd, dvd-zero, dvd-mul_right_of_dvd}
use Rattle.std.specs.Int.{IsGcd}
use Rattle.std.proofs.Common.{arith, subst, sym, ◌∙◌}
use Rattle.std.proofs.lemmas.Nat.Gcd.{IsGcd-from_zero, IsGcd-from_mod, same_from_IsGcd, IsGcd-swap}
use Rattle.std.proofs.lemmas.Nat.{mod_below}

-- Euclid's steps, at most as many as the first number says
unfoldable pub gcd_within : ℕ → ℕ → ℕ → ℕ
gcd_within zero a b = a
gcd_within (suc n) a zero = a
gcd_within (suc n) a (suc b) = gcd_within n (suc b) (a % suc b)

unfoldable pub gcd : ℕ → ℕ → ℕ
gcd a b = gcd_within (suc b) a b

pub IsGcd-gcd_within : (n a b : ℕ) → b < n → IsGcd a b (gcd_within n a b)
unfolding gcd_within
IsGcd-gcd_within zero a b h = absurd (omega arith)
IsGcd-gcd_within (suc n) a zero h = IsGcd-from_zero a zero refl
IsGcd-gcd_within (suc n) a (suc b) h =
    IsGcd-from_mod a (suc b) _ (IsGcd-gcd_within n (suc b) (a % suc b) (omega (arith, mod_below a (suc b) (omega arith))))

pub IsGcd-gcd : (a b : ℕ) → IsGcd a b (gcd a b)
unfolding gcd
IsGcd-gcd a b = IsGcd-gcd_within (suc b) a b (omega arith)

pub gcd_is : (a b g : ℕ) → IsGcd a b g → gcd a b ≡ g
gcd_is a b g h = same_from_IsGcd a b (gcd a b) g (IsGcd-gcd a b) h

-- what divides both multiples divides that multiple of the greatest common divisor
pub dvd-gcd-scaled : (a b k d : ℕ) → 0 < k → d ∣ (a * k) → d ∣ (b * k) → d ∣ (gcd a b * k)
dvd-gcd-scaled a b k d h da db =
    let big = IsGcd-gcd (a * k) (b * k) in
    let k_in : k ∣ gcd (a * k) (b * k) = big.2 k (dvd-mul_left k a) (dvd-mul_left k b) in
    let h' : ℕ = gcd (a * k) (b * k) / k in
    let split : (gcd (a * k) (b * k) / k) * k ≡ gcd (a * k) (b * k) = div-mul_cancel k k_in in
    let ha : (gcd (a * k) (b * k) / k) ∣ a = dvd_of_mul-dvd-mul_right _ h (rw split big.0) in
    let hb : (gcd (a * k) (b * k) / k) ∣ b = dvd_of_mul-dvd-mul_right _ h (rw split big.1) in
    let hg : (gcd (a * k) (b * k) / k) ∣ gcd a b = (IsGcd-gcd a b).2 _ ha hb in
    let up : ((gcd (a * k) (b * k) / k) * k) ∣ (gcd a b * k) = mul-dvd-mul_right _ hg k in
    dvd_trans d (big.2 d da db) (rw split at up)

-- a divisor of a product that is coprime to one factor divides the other
pub dvd_of_coprime : (e a f : ℕ) → 0 < f → gcd a e ≡ 1 → e ∣ (a * f) → e ∣ f
dvd_of_coprime e a f h one d =
    let both : e ∣ (gcd a e * f) = dvd-gcd-scaled a e f e h d (dvd-mul_right e f) in
    let flat : gcd a e * f ≡ f = rw one (omega arith) in
    rw flat at both

pub gcd_pos : (a b : ℕ) → 0 < b → 0 < gcd a b
gcd_pos a b h = pos_of_dvd_of_pos (IsGcd-gcd a b).1 h

pub gcd-quotients : (a b : ℕ) → 0 < b → gcd (a / gcd a b) (b / gcd a b) ≡ 1
gcd-quotients a b h =
    let g = IsGcd-gcd a b in
    let p : 0 < gcd a b = gcd_pos a b h in
    let ea : a / gcd a b * gcd a b ≡ a = div-mul_cancel _ g.0 in
    let eb : b / gcd a b * gcd a b ≡ b = div-mul_cancel _ g.1 in
    let k = IsGcd-gcd (a / gcd a b) (b / gcd a b) in
    let ka : (gcd (a / gcd a b) (b / gcd a b) * gcd a b) ∣ a = rw ea at (mul-dvd-mul_right _ k.0 (gcd a b)) in
    let kb : (gcd (a / gcd a b) (b / gcd a b) * gcd a b) ∣ b = rw eb at (mul-dvd-mul_right _ k.1 (gcd a b)) in
    let kg : (gcd (a / gcd a b) (b / gcd a b) * gcd a b) ∣ gcd a b = g.2 _ ka kb in
    let kg' : (gcd (a / gcd a b) (b / gcd a b) * gcd a b) ∣ (1 * gcd a b) = rw one-mul kg in
    eq-one_of_dvd-one (dvd_of_mul-dvd-mul_right _ p kg')

pub gcd-zero_one : gcd 0 1 ≡ 1
unfolding gcd gcd_within
gcd-zero_one = refl

pub gcd_le : (a b : ℕ) → 0 < b → gcd a b ≤ b
gcd_le a b h = le_of_dvd h (IsGcd-gcd a b).1

pub gcd_comm : (a b : ℕ) → gcd a b ≡ gcd b a
gcd_comm a b = gcd_is a b (gcd b a) (IsGcd-swap b a (gcd b a) (IsGcd-gcd b a))

-- a divisor of a product that is coprime to one factor divides the other
pub dvd_of_coprime_any : (e a f : ℕ) → gcd a e ≡ 1 → e ∣ (a * f) → e ∣ f
dvd_of_coprime_any e a zero one d = dvd-zero e
dvd_of_coprime_any e a (suc f) one d = dvd_of_coprime e a (suc f) (omega arith) one d

-- parts of coprime numbers are coprime
pub coprime_parts : (a b c d x y : ℕ) → a * x ≡ b → c * y ≡ d → gcd b d ≡ 1 → gcd a c ≡ 1
coprime_parts a b c d x y ea ec one =
    let g = IsGcd-gcd a c in
    let ga : gcd a c ∣ b = rw (← ea) (dvd-mul_right_of_dvd _ g.0 x) in
    let gc : gcd a c ∣ d = rw (← ec) (dvd-mul_right_of_dvd _ g.1 y) in
    eq-one_of_dvd-one (rw one at ((IsGcd-gcd b d).2 _ ga gc))

pub coprime_product : (a b c : ℕ) → gcd a c ≡ 1 → gcd b c ≡ 1 → gcd (a * b) c ≡ 1
coprime_product a b c ac bc =
    let g = IsGcd-gcd (a * b) c in
    let h = IsGcd-gcd a (gcd (a * b) c) in
    let both : gcd a (gcd (a * b) c) ∣ gcd a c = (IsGcd-gcd a c).2 _ h.0 (dvd_trans _ h.1 g.1) in
    let one : gcd a (gcd (a * b) c) ≡ 1 = eq-one_of_dvd-one (rw ac at both) in
    let in_b : gcd (a * b) c ∣ b = dvd_of_coprime_any _ a b one g.0 in
    let in_bc : gcd (a * b) c ∣ gcd b c = (IsGcd-gcd b c).2 _ in_b g.1 in
    eq-one_of_dvd-one (rw bc at in_bc)

pub coprime_products : (a b c d : ℕ) → gcd a c ≡ 1 → gcd a d ≡ 1 → gcd b c ≡ 1 → gcd b d ≡ 1 → gcd (a * b) (c * d) ≡ 1
coprime_products a b c d ac ad bc bd =
    gcd_comm (a * b) (c * d)
    ∙ coprime_product c d (a * b)
    (gcd_comm c (a * b) ∙ coprime_product a b c ac bc)
    (gcd_comm d (a * b) ∙ coprime_product a b d ad bd)

pub gcd-one : (a : ℕ) → gcd a 1 ≡ 1
gcd-one a = let above : 0 < gcd a 1 = gcd_pos a 1 (omega arith) in omega (arith, above, gcd_le a 1 (omega arith))

pub one-gcd : (b : ℕ) → gcd 1 b ≡ 1
one-gcd b = gcd_comm 1 b ∙ gcd-one b

pub IsGcd_of_gcd : (a b g : ℕ) → g ≡ gcd a b → IsGcd a b g
IsGcd_of_gcd a b g e = let P : ℕ → Type 0 = λ t. IsGcd a b t in subst P (sym e) (IsGcd-gcd a b)
