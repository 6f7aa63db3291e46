-- Whole numbers as coefficients.
use Rattle.std.proofs.Common.{◌≡◌, ◌≢◌, inl, inr, ℕ, ◌+◌, ◌<◌, ℤ, pos, List, [], ◌∷◌, ◌++◌, length, map, take, get_or, refl, sym, ap, ap₂, ◌∙◌, arith}
use Rattle.std.proofs.lemmas.List.{append_assoc, append-nil, length-take, take_more}
use Rattle.std.specs.List.{range_with_len}
use Rattle.std.proofs.lemmas.List.FromFn.{length-range_with_len}
use Rattle.npp_rows.proofs.ListLaws.{range_push}
use Rattle.npp_rows.specs.declared.names.ColumnName.{ColumnName}
use Rattle.std.proofs.lemmas.Bool.{cases_Bool}
use Rattle.npp_frac.specs.Rational.{Rational, whole, zero_ℚ}
use Rattle.npp_frac.specs.Order.{whole_injective}
use Rattle.npp_lp.specs.Programs.{Term}
use Rattle.npp_frac.specs.Sign.{is_zero}
use Rattle.npp_lp.specs.Building.{term_at}
use Rattle.npp_rows.specs.Named.{terms_from, numbers_from}
use Rattle.npp_rows.proofs.NamedLaws.{zero_of_test}
use Rattle.npp_rows.proofs.TermLaws.{no_term_at}

-- a number that is not 0 has a term
pub term_of_nonzero : (column : ℕ) (q : Rational) → q ≢ zero_ℚ → term_at column q ≡ record { column = column; value = q } ∷ []
term_of_nonzero column q h = elim (cases_Bool (is_zero q)) [
  | inl is ↦ absurd (h (zero_of_test q is))
  | inr other ↦ rw other refl
]

pub term_of_number : (column : ℕ) (n : ℤ) → n ≢ pos 0 → term_at column (whole n) ≡ record { column = column; value = whole n } ∷ []
term_of_number column n h = term_of_nonzero column (whole n) (λ e. h (whole_injective e))

pub no_term_of_number : (column : ℕ) (n : ℤ) → n ≡ pos 0 → term_at column (whole n) ≡ []
no_term_of_number column n e = no_term_at column (whole n) (ap whole e)

-- ---- numbers in a row of columns

pub numbers_append : (f : ℕ → Rational) (n : ℕ) (xs ys : List ℕ) → numbers_from n f (xs ++ ys) ≡ numbers_from n f xs ++ numbers_from (n + length xs) f ys
numbers_append f n [] ys = ap (λ j. numbers_from j f ys) (omega arith)
numbers_append f n (x ∷ xs) ys =
    ap (λ t. term_at n (f x) ++ t) (numbers_append f (n + 1) xs ys)
    ∙ sym (append_assoc (term_at n (f x)) (numbers_from (n + 1) f xs) (numbers_from (n + 1 + length xs) f ys))
    ∙ ap (λ j. (term_at n (f x) ++ numbers_from (n + 1) f xs) ++ numbers_from j f ys) (omega arith)

-- the columns of a block by its numbers
pub numbers_of : (e : ColumnName → Rational) (g : ℕ → ColumnName) (n : ℕ) (xs : List ℕ) → terms_from n e (map g xs) ≡ numbers_from n (λ x. e (g x)) xs
numbers_of e g n [] = refl
numbers_of e g n (x ∷ xs) = ap (λ t. term_at n (e (g x)) ++ t) (numbers_of e g (n + 1) xs)

pub numbers_same : (f g : ℕ → Rational) (n : ℕ) (xs : List ℕ) → ((x : ℕ) → f x ≡ g x) → numbers_from n f xs ≡ numbers_from n g xs
numbers_same f g n [] h = refl
numbers_same f g n (x ∷ xs) h = ap₂ ◌++◌ (ap (term_at n) (h x)) (numbers_same f g (n + 1) xs h)

-- the next number of a block
pub numbers_next : (f : ℕ → Rational) (n i column x : ℕ) (number : ℤ) (xs : List ℕ) (first now next : List Term) → i < length xs
    → now ≡ first ++ numbers_from n f (take i xs) → next ≡ now ++ term_at column (whole number) → column ≡ n + i → x ≡ get_or xs i 0 → whole number ≡ f x
    → next ≡ first ++ numbers_from n f (take (i + 1) xs)
numbers_next f n i column x number xs first now next inside is push place here value =
    let size : length (take i xs) ≡ i = rw length-take (omega arith) in
    push
    ∙ ap (λ t. t ++ term_at column (whole number)) is
    ∙ append_assoc first (numbers_from n f (take i xs)) (term_at column (whole number))
    ∙ ap (λ t. first ++ t)
    (ap₂ (λ j q. numbers_from n f (take i xs) ++ term_at j q) (place ∙ ap (λ j. n + j) (sym size)) (value ∙ ap f here)
    ∙ ap (λ t. numbers_from n f (take i xs) ++ t) (sym (append-nil (term_at (n + length (take i xs)) (f (get_or xs i 0)))))
    ∙ sym (numbers_append f n (take i xs) (get_or xs i 0 ∷ []))
    ∙ ap (numbers_from n f) (sym (take_more xs i 0 inside)))

-- the next number of the tolls
pub numbers_next_toll : (f : ℕ → Rational) (n : ℕ) (number : ℤ) (first now next : List Term)
    → now ≡ first ++ numbers_from 0 f (range_with_len 0 n) → next ≡ now ++ term_at n (whole number) → whole number ≡ f n
    → next ≡ first ++ numbers_from 0 f (range_with_len 0 (n + 1))
numbers_next_toll f n number first now next is push value =
    push
    ∙ ap (λ t. t ++ term_at n (whole number)) is
    ∙ append_assoc first (numbers_from 0 f (range_with_len 0 n)) (term_at n (whole number))
    ∙ ap (λ t. first ++ t)
    (ap₂ (λ j q. numbers_from 0 f (range_with_len 0 n) ++ term_at j q) (sym (length-range_with_len 0 n) ∙ omega arith) value
    ∙ ap (λ t. numbers_from 0 f (range_with_len 0 n) ++ t) (sym (append-nil (term_at (0 + length (range_with_len 0 n)) (f n))))
    ∙ sym (numbers_append f 0 (range_with_len 0 n) (n ∷ []))
    ∙ ap (numbers_from 0 f) (sym (range_push 0 n n (omega arith))))
