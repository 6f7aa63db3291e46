-- Lists of words over one denominator, and the fractions for which they stand.
use Rattle.std.specs.Prelude.{int_div}
use Rattle.std.proofs.Common.{zero, suc, w64, FitsSigned, to_z, of_z, to_z-of_z, ◌≡◌, ℕ, ◌*◌, ◌/◌, ◌%◌, ◌-◌, ◌^◌, ◌<◌, ◌≤◌, List, map, length, ℤ, pos, negsuc, neg_ℤ, ◌*ℤ◌, nat_abs, ◌<ℤ◌, ◌≤ℤ◌, arith, ap, ap₂, sym, ◌∙◌, refl, inl, inr, div-le_self}
use Rattle.std.specs.Int.{w128}
use Rattle.std.proofs.lemmas.List.{ext_get_or, length-map, get_or_past}
use Rattle.std.proofs.lemmas.Bool.{cases_lt}
use Rattle.std.proofs.lemmas.Int.{ints, unsigned_abs-mul, to_z_pos, fits_signed_from_abs, fits_signed_mul}
use Rattle.npp_frac.specs.Rational.{Rational, ratio, ratio_value, zero_ℚ, abs_quot}
use Rattle.npp_lp.specs.Programs.{at}
use Rattle.npp_simplex.specs.CommonForm.{number_in, over, turned, AreWithin}
use Rattle.npp_simplex.proofs.CommonForms.{over_at, ratio_scaled, ratio_divided, part_above}

-- a number as a whole number over a multiple of its denominator
pub over_is : (q : Rational) (x : ℤ) (times d : ℕ) → times * q.den ≡ d → 0 < d → x ≡ q.num *ℤ pos times → ratio x d ≡ q
over_is q x times d e h is =
    let above : 0 < times = part_above times q.den d e h in
    let same : d ≡ q.den * times = omega (arith, e) in
    ap₂ ratio is same ∙ ratio_scaled q.num q.den times q.positive above ∙ sym (ratio_value q q.num q.den refl refl)

-- the same as it is computed, in words of twice the length
pub over_word : (q : Rational) (n : ℤ) (times d limit : ℕ) → n ≡ q.num → FitsSigned w128 n → times * q.den ≡ d → times ≤ d → 0 < d → d < 2 ^ 64 → limit ≤ 2 ^ 63 → nat_abs (to_z w128 (of_z w128 n)) < 2 ^ 63
    → nat_abs (to_z w128 (of_z w128 (to_z w128 (of_z w128 n) *ℤ to_z w128 times))) < limit → ratio (to_z w64 (of_z w64 (to_z w128 (of_z w128 (to_z w128 (of_z w128 n) *ℤ to_z w128 times))))) d ≡ q
over_word q n times d limit is fits whole at_most above long word size below =
    let own : to_z w128 (of_z w128 n) ≡ n = to_z-of_z fits in
    let short : nat_abs n ≤ 2 ^ 63 - 1 = omega (arith, size, ap nat_abs own) in
    let by : to_z w128 times ≡ pos times = to_z_pos w128 times (omega arith) in
    let wide : FitsSigned w128 (n *ℤ pos times) = fits_signed_mul w128 n (pos times) (2 ^ 63 - 1) (2 ^ 64 - 1) short (omega arith) (omega arith) in
    let product : to_z w128 (of_z w128 (to_z w128 (of_z w128 n) *ℤ to_z w128 times)) ≡ n *ℤ pos times = ap (λ t. to_z w128 (of_z w128 t)) (ap₂ ◌*ℤ◌ own by) ∙ to_z-of_z wide in
    let narrow : FitsSigned w64 (n *ℤ pos times) = fits_signed_from_abs w64 (n *ℤ pos times) (omega (arith, below, ap nat_abs product)) in
    over_is q _ times d whole above (ap (λ t. to_z w64 (of_z w64 t)) product ∙ to_z-of_z narrow ∙ ap (λ t. t *ℤ pos times) is)

pub times_at_most : (times part d : ℕ) → 0 < part → times * part ≡ d → times ≤ d
times_at_most times (suc part) d h e = omega (arith, e)
times_at_most times zero d h e = absurd (omega arith)

-- words that stand for the numbers of a list
pub words_written : {N : Type 0} (v : N → Rational) (d : ℕ) (ws : List ℤ) (ns : List N) → 0 < d → length ws ≡ length ns → ((k : ℕ) → k < length ns → ratio (number_in ws k) d ≡ at (map v ns) k) → over d ws ≡ map v ns
words_written v d ws ns h same each =
    let left : length (over d ws) ≡ length ws = length-map ws (λ x. ratio x d) in
    let right : length (map v ns) ≡ length ns = length-map ns v in
    ext_get_or zero_ℚ (over d ws) (map v ns) (left ∙ same ∙ sym right) (λ k l. over_at d ws k h ∙ each k (omega arith))

pub fractions_written : {N : Type 0} (v : N → Rational) (d : ℕ) (ws : List ℤ) (ns : List N) → length ns ≡ length ws → ((k : ℕ) → k < length ws → at (map v ns) k ≡ at (over d ws) k) → map v ns ≡ over d ws
fractions_written v d ws ns same each =
    let left : length (over d ws) ≡ length ws = length-map ws (λ x. ratio x d) in
    let right : length (map v ns) ≡ length ns = length-map ns v in
    ext_get_or zero_ℚ (map v ns) (over d ws) (right ∙ same ∙ sym left) (λ k l. each k (omega arith))

-- a bound on the numbers of a list is one on all places
pub sizes_all : (ws : List ℤ) (b n : ℕ) → length ws ≡ n → ((k : ℕ) → k < n → nat_abs (number_in ws k) ≤ b) → AreWithin b ws
sizes_all ws b n same each k = elim (cases_lt k n) [
  | inl below ↦ each k below
  | inr past ↦ (let none : number_in ws k ≡ pos 0 = get_or_past ws k (pos 0) (omega arith) in rw none (omega arith))
]

-- a common factor of all words and of their denominator
pub factor_out : (d g : ℕ) (xs ys : List ℤ) → 0 < d → 0 < g → length ys ≡ length xs → ((j : ℕ) → nat_abs (number_in xs j) % g ≡ 0) → d % g ≡ 0 → ((j : ℕ) → number_in ys j ≡ int_div (number_in xs j) (pos g)) → 0 < d / g → over (d / g) ys ≡ over d xs
factor_out d g xs ys h l same multiples whole new above =
    let left : length (over (d / g) ys) ≡ length ys = length-map ys (λ x. ratio x (d / g)) in
    let right : length (over d xs) ≡ length xs = length-map xs (λ x. ratio x d) in
    ext_get_or zero_ℚ (over (d / g) ys) (over d xs) (left ∙ same ∙ sym right) (λ j k.
    over_at (d / g) ys j above ∙ ap (λ t. ratio t (d / g)) (new j) ∙ ratio_divided (number_in xs j) d g h l (multiples j) whole ∙ sym (over_at d xs j h))

pub quotient_shorter : (x : ℤ) (g : ℕ) → nat_abs (int_div x (pos g)) ≤ nat_abs x
quotient_shorter x g = rw (abs_quot x g) (div-le_self (nat_abs x) g)

-- the sign of a divisor
pub turned_below : (x y : ℤ) → y <ℤ pos 0 → neg_ℤ x ≡ turned x y
turned_below x (pos b) h = absurd (omega (arith, ints, h))
turned_below x (negsuc b) h = refl

pub turned_above : (x y : ℤ) → pos 0 ≤ℤ y → x ≡ turned x y
turned_above x (pos b) h = refl
turned_above x (negsuc b) h = absurd (omega (arith, ints, h))

pub scaled_size : (x : ℤ) (k : ℕ) → nat_abs (x *ℤ pos k) ≡ nat_abs x * k
scaled_size x k = omega (arith, unsigned_abs-mul x (pos k))
