-- A set with one toll more, and that a set is within another where their common bits are its own.
use Rattle.std.proofs.Common.{◌≡◌, ◌≢◌, ℕ, ◌*◌, ◌%◌, ◌^◌, ◌<◌, bit_or, min, sym, ◌∙◌, ap, subst, arith, bit_and, IsTrue, nat_eq, eq-eqb}
use Rattle.std.proofs.lemmas.Bool.Decides.{nat_tests}
use Rattle.std.proofs.lemmas.Nat.Bits.{bit_at_and, bit_at-lt, bit_at_set_same, bit_at_set_other, same_from_bits}
use Rattle.std.specs.Int.{bit_at, w128}
use Rattle.npp_net.specs.TollSets.{IsWithin}

-- the toll that is put in is there
pub bit_put : (s k : ℕ) → k < 128 → bit_at (bit_or s (1 * 2 ^ k % 2 ^ 128)) k ≡ 1
bit_put s k lt = bit_at_set_same w128 s k lt

-- and the others stay as they were
pub bits_kept : (s k i : ℕ) → k < 128 → i ≢ k → bit_at (bit_or s (1 * 2 ^ k % 2 ^ 128)) i ≡ bit_at s i
bits_kept s k i lt other = bit_at_set_other w128 s k lt i other

bits_min : (x y : ℕ) → x < 2 → y < 2 → (x ≡ 1 → y ≡ 1) → min x y ≡ x
bits_min x y hx hy h = grind arith

min_bits : (x y : ℕ) → y < 2 → min x y ≡ x → x ≡ 1 → y ≡ 1
min_bits x y hy e one = grind arith

within_of_and : (s t : ℕ) → bit_and s t ≡ s → IsWithin s t
within_of_and s t e a has = min_bits (bit_at s a) (bit_at t a) (bit_at-lt t a) (sym (bit_at_and s t a) ∙ ap (λ (n : ℕ). bit_at n a) e) has

and_of_within : (s t : ℕ) → IsWithin s t → bit_and s t ≡ s
and_of_within s t h = same_from_bits (bit_and s t) s (λ a. bit_at_and s t a ∙ bits_min (bit_at s a) (bit_at t a) (bit_at-lt s a) (bit_at-lt t a) (h a))

equal_of_test : (m n : ℕ) → IsTrue (nat_eq m n) → m ≡ n
equal_of_test m n same = grind (arith, nat_tests)

-- the test of the code, on numbers that are the two sets
pub within_test : (s t x y : ℕ) → s ≡ x → t ≡ y
    → (IsTrue (nat_eq (bit_and s t) s) → IsWithin x y) × (IsWithin x y → IsTrue (nat_eq (bit_and s t) s))
within_test s t x y ex ey =
    let P : ℕ → Type 0 = λ u. IsWithin u y in
    let Q : ℕ → Type 0 = λ u. IsWithin s u in (
      (λ same. subst P ex (subst Q ey (within_of_and s t (equal_of_test (bit_and s t) s same)))),
      (λ within. eq-eqb (bit_and s t) s (and_of_within s t (subst Q (sym ey) (subst P (sym ex) within)))),
    )
