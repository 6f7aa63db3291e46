-- The bytes of names and of numbers.
use Rattle.std.proofs.Common.{◌≡◌, ℕ, zero, suc, ◌+◌, ◌-◌, ◌*◌, ◌^◌, ◌<◌, ◌≤◌, Bool, true, false, ◌&&◌, List, [], ◌∷◌, length, get_or, arith, refl, nat_le, add-one}
use Rattle.std.specs.List.{list_all}
use Rattle.std.specs.Char.{is_ascii_digit, digit_value}
use Rattle.std.specs.Str.{IsUtf8, IsAscii}
use Rattle.std.proofs.Math.Nat.{pow-le-pow_right, pow-suc}
use Rattle.std.proofs.lemmas.Bool.{le-leb, leb-true, true_from_ne_false}
use Rattle.std.proofs.lemmas.Bool.Decides.{nat_tests}
use Rattle.std.proofs.lemmas.List.Folds.{list_all_at}
use Rattle.std.proofs.lemmas.Str.{IsUtf8-from_ascii}
use Rattle.npp_reader.specs.Fields.{is_name, is_number, is_name_byte}

name_byte_ascii : (b : ℕ) → is_name_byte b ≡ true → b < 128
name_byte_ascii b e = grind (arith, nat_tests)

-- both parts of a test
pub both : (a b : Bool) → (a && b) ≡ true → (a ≡ true) × (b ≡ true)
both true b e = (refl, e)
both false b e = absurd cc

-- a name is ASCII
name_bytes_ascii : (field : List ℕ) → list_all is_name_byte field ≡ true → IsAscii field
name_bytes_ascii [] e i = omega arith
name_bytes_ascii (b ∷ bs) e zero = name_byte_ascii b (both (is_name_byte b) (list_all is_name_byte bs) e).0
name_bytes_ascii (b ∷ bs) e (suc i) = name_bytes_ascii bs (both (is_name_byte b) (list_all is_name_byte bs) e).1 i

pub name_is_utf8 : (field : List ℕ) → is_name field ≡ true → IsUtf8 field
unfolding is_name
name_is_utf8 field e = IsUtf8-from_ascii field (name_bytes_ascii field (both (nat_le 1 (length field) && nat_le (length field) 32) (list_all is_name_byte field) e).1)

-- what is a name or a number where its length fits
pub name_test : (field : List ℕ) → 1 ≤ length field → length field ≤ 32 → list_all is_name_byte field ≡ is_name field
unfolding is_name
name_test field some short = rw (le-leb 1 (length field) some, le-leb (length field) 32 short)

pub number_test : (field : List ℕ) → 1 ≤ length field → length field ≤ 18 → list_all is_ascii_digit field ≡ is_number field
unfolding is_number
number_test field some short = rw (le-leb 1 (length field) some, le-leb (length field) 18 short)

digit_byte : (b : ℕ) → is_ascii_digit b ≡ true → (48 ≤ b) × (b ≤ 57)
digit_byte b e = grind (arith, nat_tests)

pub digit_is : (b : ℕ) → 48 ≤ b → b ≤ 57 → digit_value b ≡ b - 48
digit_is b low high = grind (arith, nat_tests)

-- each byte of a number is a digit
pub number_digit : (field : List ℕ) (k : ℕ) → is_number field ≡ true → k < length field → (48 ≤ get_or field k 0) × (get_or field k 0 ≤ 57)
unfolding is_number
number_digit field k e h =
    let all : list_all is_ascii_digit field ≡ true = (both (nat_le 1 (length field) && nat_le (length field) 18) (list_all is_ascii_digit field) e).1 in
    digit_byte (get_or field k 0) (true_from_ne_false _ (λ no. let none = list_all_at is_ascii_digit field k 0 h no in cc))

pub number_short : (field : List ℕ) → is_number field ≡ true → length field ≤ 18
unfolding is_number
number_short field e =
    let sizes = (both (nat_le 1 (length field) && nat_le (length field) 18) (list_all is_ascii_digit field) e).0 in
    leb-true (length field) 18 (both (nat_le 1 (length field)) (nat_le (length field) 18) sizes).1

-- a number of at most 17 digits and one digit more
pub value_fits : (v i b : ℕ) → v < 10 ^ i → i < 18 → b ≤ 57 → v * 10 + (b - 48) < 2 ^ 64
value_fits v i b h short low =
    let ten : 0 < 10 = omega arith in
    let upto : i ≤ 17 = omega arith in
    let most : 10 ^ i ≤ 10 ^ 17 = pow-le-pow_right {n = 10} ten {i = i} {j = 17} upto in
    let bound : v < 10 ^ 17 = omega arith in
    omega arith

pub value_grows : (v i b : ℕ) → v < 10 ^ i → b ≤ 57 → v * 10 + (b - 48) < 10 ^ (i + 1)
value_grows v i b h low = let more : 10 ^ (i + 1) ≡ 10 ^ i * 10 = rw add-one (pow-suc 10 i) in omega arith
