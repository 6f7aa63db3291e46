-- What the answers of tests on numbers say.
use Rattle.std.proofs.Common.{◌≡◌, ℕ, ◌<◌, ◌≤◌, Bool, true, false, refl, arith, nat_eq, nat_lt, nat_le, ◌&&◌, not}
use Rattle.std.proofs.lemmas.Bool.Decides.{nat_tests}

pub both : (a b : Bool) → (a && b) ≡ true → (a ≡ true) × (b ≡ true)
both true b e = (refl, e)
both false b e = cc

pub is_no : (b : Bool) → not b ≡ true → b ≡ false
is_no true e = cc
is_no false e = refl

pub equal_of_test : (m n : ℕ) → nat_eq m n ≡ true → m ≡ n
equal_of_test m n e = grind (arith, nat_tests)

pub less_of_test : (m n : ℕ) → nat_lt m n ≡ true → m < n
less_of_test m n e = grind (arith, nat_tests)

pub le_of_test : (m n : ℕ) → nat_le m n ≡ true → m ≤ n
le_of_test m n e = grind (arith, nat_tests)

pub test_of_equal : (m n : ℕ) → m ≡ n → nat_eq m n ≡ true
test_of_equal m n e = grind (arith, nat_tests)

pub test_of_other : (m n : ℕ) → (n ≡ m → ⊥) → nat_eq m n ≡ false
test_of_other m n ne = grind (arith, nat_tests)

pub test_of_le : (m n : ℕ) → m ≤ n → nat_le m n ≡ true
test_of_le m n le = grind (arith, nat_tests)

pub test_of_less : (m n : ℕ) → m < n → nat_lt m n ≡ true
test_of_less m n lt = grind (arith, nat_tests)
