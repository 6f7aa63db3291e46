-- A list that is made number by number.
use Rattle.std.proofs.Common.{◌≡◌, ℕ, ◌+◌, List, [], ◌∷◌, ◌++◌, map, ap, ap₂, sym, ◌∙◌, append_assoc}
use Rattle.std.specs.List.{range_with_len}
use Rattle.std.proofs.lemmas.List.{map-append}
use Rattle.npp_frac.specs.Rational.{Rational}
use Rattle.npp_simplex.proofs.Reading.{range_upto}

-- numbers that are added after others
pub gathered_after : {N : Type 0} (v : N → Rational) (base : List Rational) (xs ys : List N) (new : ℕ → Rational) (j : ℕ) (x : N) → ys ≡ xs ++ x ∷ [] → map v xs ≡ base ++ map new (range_with_len 0 j) → v x ≡ new j → map v ys ≡ base ++ map new (range_with_len 0 (j + 1))
gathered_after v base xs ys new j x is h e =
    ap (map v) is ∙ map-append v xs (x ∷ []) ∙ ap₂ (λ a b. a ++ b ∷ []) h e ∙ append_assoc base (map new (range_with_len 0 j)) (new j ∷ [])
    ∙ ap (λ l. base ++ l) (sym (ap (map new) (range_upto j) ∙ map-append new (range_with_len 0 j) (j ∷ [])))

pub gathered_more : {N : Type 0} (v : N → Rational) (xs ys : List N) (new : ℕ → Rational) (j : ℕ) (x : N) → ys ≡ xs ++ x ∷ [] → map v xs ≡ map new (range_with_len 0 j) → v x ≡ new j → map v ys ≡ map new (range_with_len 0 (j + 1))
gathered_more v xs ys new j x is h e = gathered_after v [] xs ys new j x is h e
