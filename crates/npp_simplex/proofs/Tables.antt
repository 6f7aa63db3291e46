-- Tables, cell by cell.
use Rattle.std.proofs.Common.{◌≡◌, ℕ, zero, suc, ◌+◌, ◌<◌, ◌≤◌, List, [], ◌∷◌, map, length, get_or, arith, ap, ap₂, sym, ◌∙◌, refl, add-one}
use Rattle.std.specs.List.{range_with_len}
use Rattle.std.proofs.lemmas.List.FromFn.{get_or-map-range_with_len}
use Rattle.npp_frac.specs.Rational.{Rational, zero_ℚ}
use Rattle.npp_lp.specs.Programs.{at}
use Rattle.npp_simplex.specs.Tableau.{table}

pub table_cell : (h w : ℕ) (f : ℕ → ℕ → Rational) (i j : ℕ) → i < h → j < w → at (get_or (table h w f) i []) j ≡ f i j
table_cell h w f i j a b =
    ap (λ r. at r j) (get_or-map-range_with_len (λ i. map (λ j. f i j) (range_with_len 0 w)) 0 h i i [] a (omega arith))
    ∙ get_or-map-range_with_len (λ j. f i j) 0 w j j zero_ℚ b (omega arith)

pub map_range_same : {X : Type 0} (f g : ℕ → X) (a n : ℕ) → ((k : ℕ) → a ≤ k → k < a + n → f k ≡ g k) → map f (range_with_len a n) ≡ map g (range_with_len a n)
map_range_same f g a zero h = refl
map_range_same f g a (suc n) h = rw add-one (ap₂ ◌∷◌ (h a (omega arith) (omega arith)) (map_range_same f g (suc a) n (λ k l m. h k (omega arith) (omega arith))))

pub table_same : (h w : ℕ) (f g : ℕ → ℕ → Rational) → ((i j : ℕ) → i < h → j < w → f i j ≡ g i j) → table h w f ≡ table h w g
table_same h w f g e =
    map_range_same (λ i. map (λ j. f i j) (range_with_len 0 w)) (λ i. map (λ j. g i j) (range_with_len 0 w)) 0 h
    (λ i a l. map_range_same (f i) (g i) 0 w (λ j b m. e i j (omega arith) (omega arith)))

-- a number that was read
pub at_read : {N : Type 0} (v : N → Rational) (xs : List N) (k : ℕ) (x : N) → k < length xs → x ≡ get_or xs k x → at (map v xs) k ≡ v x
at_read v [] k x l e = absurd (omega arith)
at_read v (y ∷ xs) zero x l e = ap v (sym e)
at_read v (y ∷ xs) (suc k) x l e = at_read v xs k x (omega arith) e
