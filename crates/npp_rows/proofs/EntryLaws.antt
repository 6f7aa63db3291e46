-- What the entries of a block are read from.
use Rattle.std.proofs.Common.{◌≡◌, ℕ, ◌<◌, ◌^◌, pos, negsuc, nat_abs, ◌-ℤ◌, to_z, of_z, w64, Bool, true, false, cond, List, length, map, get_or, refl, ap, ◌∙◌, arith, ℤ}
use Rattle.std.proofs.lemmas.Int.{ints, to_z-of_z}
use Rattle.std.proofs.lemmas.List.{get_or-map}
use Rattle.npp_frac.specs.Rational.{whole, zero_ℚ, negative, ◌-ℚ◌, Is-same, Is-whole, Is-negative, Is-sub}
use Rattle.npp_cover.specs.declared.path.UsefulPath.{UsefulPath}
use Rattle.npp_cover.specs.PathValue.{path_value}
use Rattle.npp_cover.specs.Replaces.{path_at, no_path}
use Rattle.npp_rows.specs.Named.{one_if}

pub path_read : (paths : List UsefulPath) (p : ℕ) (r : UsefulPath) → p < length paths → path_at (map path_value paths) p ≡ path_value (get_or paths p r)
path_read paths p r h = get_or-map path_value paths p r no_path h

-- a number where a test holds, as a coefficient
pub whole_if : (b : Bool) (n : ℕ) → whole (cond b (pos n) (pos 0)) ≡ cond b (whole (pos n)) zero_ℚ
whole_if true n = refl
whole_if false n = refl

-- a small number is read as it was written
pub small_read : (z : ℤ) → nat_abs z < 2 ^ 31 → to_z w64 (of_z w64 z) ≡ z
small_read z h = to_z-of_z w64 z (omega (arith, ints, h))

pub whole_read : (z : ℤ) → nat_abs z < 2 ^ 31 → whole (to_z w64 (of_z w64 z)) ≡ whole z
whole_read z h = ap whole (small_read z h)

whole_taken : (z : ℤ) → whole (pos 0 -ℤ z) ≡ negative (whole z)
whole_taken z = Is-same (Is-whole (pos 0 -ℤ z)) (Is-negative (Is-whole z)) (omega (arith, ints))

pub taken_read : (z : ℤ) → nat_abs z < 2 ^ 31 → whole (to_z w64 (of_z w64 (pos 0 -ℤ to_z w64 (of_z w64 z)))) ≡ negative (whole z)
taken_read z h =
    whole_read (pos 0 -ℤ to_z w64 (of_z w64 z)) (rw (small_read z h) (omega (arith, ints, h)))
    ∙ ap (λ y. whole (pos 0 -ℤ y)) (small_read z h) ∙ whole_taken z

pub minus_if : (b : Bool) → whole (cond b (negsuc 0) (pos 0)) ≡ negative (one_if b)
minus_if true = Is-same (Is-whole (negsuc 0)) (Is-negative (Is-whole (pos 1))) (omega arith)
minus_if false = Is-same (Is-whole (pos 0)) (Is-negative (Is-whole (pos 0))) (omega arith)

pub difference_is : (a b : Bool) → whole (cond a (cond b (pos 0) (pos 1)) (cond b (negsuc 0) (pos 0))) ≡ one_if a -ℚ one_if b
difference_is true true = Is-same (Is-whole (pos 0)) (Is-sub (Is-whole (pos 1)) (Is-whole (pos 1))) (omega arith)
difference_is true false = Is-same (Is-whole (pos 1)) (Is-sub (Is-whole (pos 1)) (Is-whole (pos 0))) (omega arith)
difference_is false true = Is-same (Is-whole (negsuc 0)) (Is-sub (Is-whole (pos 0)) (Is-whole (pos 1))) (omega arith)
difference_is false false = Is-same (Is-whole (pos 0)) (Is-sub (Is-whole (pos 0)) (Is-whole (pos 0))) (omega arith)
