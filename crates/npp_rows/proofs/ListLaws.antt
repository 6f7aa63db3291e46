-- Lists of numbers in a row, and lists that agree place by place.
use Rattle.std.proofs.Common.{◌≡◌, ℕ, zero, suc, ◌+◌, ◌<◌, ◌≤◌, inl, inr, eq-or-lt_of_le, Bool, cond, List, [], ◌∷◌, ◌++◌, length, map, take, get_or, filter, refl, sym, ap, ap₂, ◌∙◌, arith}
use Rattle.std.specs.Prelude.{Option, Result, Ok, Err, OnOk, Contains, MatchOption}
use Rattle.std.specs.Result.{result_ok}
use Rattle.std.specs.Ordering.{nat_cmp}
use Rattle.std.specs.List.{range_with_len, flat_map, AllZip, AllPairs}
use Rattle.std.specs.List.Sorted.{IsBinarySearchResult}
use Rattle.std.proofs.lemmas.Bool.{cases_lt}
use Rattle.std.proofs.lemmas.List.{get_or_default}
use Rattle.std.proofs.lemmas.List.Sorted.{searched}
use Rattle.std.proofs.lemmas.List.Elements.{filter-append}
use Rattle.std.proofs.lemmas.List.{append-nil, append_assoc, map-append, take_more}
use Rattle.std.proofs.lemmas.List.FromFn.{map-range_with_len_more}
use Rattle.std.proofs.lemmas.Grind.{flat_map-append}

-- one more number
pub range_push : (a n j : ℕ) → a + n ≡ j → range_with_len a (n + 1) ≡ range_with_len a n ++ j ∷ []
range_push a zero j e = ap (λ (x : ℕ). x ∷ []) (omega (arith, e))
range_push a (suc n) j e =
    let s : suc n + 1 ≡ suc (n + 1) = omega arith in
    rw s (ap (λ (t : List ℕ). a ∷ t) (range_push (a + 1) n j (omega (arith, e))))

pub zip_size : {A B : Type 0} (R : A → B → Type 0) (xs : List A) (ys : List B) → AllZip R xs ys → length xs ≡ length ys
zip_size R [] [] h = refl
zip_size R [] (y ∷ ys) h = absurd h
zip_size R (x ∷ xs) [] h = absurd h
zip_size R (x ∷ xs) (y ∷ ys) h = omega (arith, zip_size R xs ys h.1)

pub zip_at : {A B : Type 0} (R : A → B → Type 0) (xs : List A) (ys : List B) (d : A) (e : B) (k : ℕ) → AllZip R xs ys → k < length ys → R (get_or xs k d) (get_or ys k e)
zip_at R [] [] d e k h l = absurd (omega (arith, l))
zip_at R [] (y ∷ ys) d e k h l = absurd h
zip_at R (x ∷ xs) [] d e k h l = absurd h
zip_at R (x ∷ xs) (y ∷ ys) d e zero h l = h.0
zip_at R (x ∷ xs) (y ∷ ys) d e (suc k) h l = zip_at R xs ys d e k h.1 (omega (arith, l))

-- a filter of numbers in a row, and one more
pub filter_range_push : (test : ℕ → Bool) (n : ℕ) → filter test (range_with_len 0 (n + 1)) ≡ filter test (range_with_len 0 n) ++ cond (test n) (n ∷ []) []
filter_range_push test n = ap (filter test) (range_push 0 n n (omega arith)) ∙ filter-append test (range_with_len 0 n) (n ∷ [])

-- numbers that rise strictly do not fall
pub rising_ordered : (xs : List ℕ) → AllPairs (λ p q. p < q) xs → (i j : ℕ) → i ≤ j → j < length xs → get_or xs i 0 ≤ get_or xs j 0
rising_ordered xs rising i j le l = elim (eq-or-lt_of_le le) [
  | inl e ↦ rw e (omega arith)
  | inr lt ↦ (let r : get_or xs i 0 < get_or xs j 0 = rising i j 0 lt l in omega (arith, r))
]

-- a number is the one at a place, or none of a list
abbrev pub IsPlaceOf : List ℕ → ℕ → Option ℕ → Type 0
IsPlaceOf xs x place = MatchOption place (Contains xs x → ⊥) (λ i. (i < length xs) × (get_or xs i x ≡ x))

pub found_place : (xs : List ℕ) (x : ℕ) (r : Result ℕ ℕ) → AllPairs (λ p q. p < q) xs → IsBinarySearchResult (λ y. nat_cmp y x) xs r → IsPlaceOf xs x (result_ok r)
found_place xs x (Ok i) rising h =
    let s = searched xs x (Ok i) h (rising_ordered xs rising) in
    (s.0, get_or_default xs i x 0 s.0 ∙ s.1)
found_place xs x (Err i) rising h = λ (k, l, e).
    let s = searched xs x (Err i) h (rising_ordered xs rising) in
    let at : get_or xs k 0 ≡ x = get_or_default xs k 0 x l ∙ e in
    elim (cases_lt k i) [
      | inl below ↦ omega (arith, s.1 k below, at)
      | inr above ↦ omega (arith, s.2 k above l, at)
    ]

-- two pieces that are added one after another
pub joined_two : {X : Type 0} (old a b now next : List X) → now ≡ old ++ a → next ≡ now ++ b → next ≡ old ++ (a ++ b)
joined_two old a b now next e f = f ∙ ap (λ t. t ++ b) e ∙ append_assoc old a b

-- what a last call adds to what was there
pub pushed_two : {T E X : Type 0} (r : Result T E) (old now next a b whole : List X) → now ≡ old ++ a → a ++ b ≡ whole → OnOk r (next ≡ now ++ b) → OnOk r (next ≡ old ++ whole)
pushed_two (Ok x) old now next a b whole e f h = joined_two old a b now next e h ∙ ap (λ t. old ++ t) f
pushed_two (Err x) old now next a b whole e f h = tt

pub pushed_three : {T E X : Type 0} (r : Result T E) (old first second next a b c whole : List X) → first ≡ old ++ a → second ≡ first ++ b → (a ++ b) ++ c ≡ whole
    → OnOk r (next ≡ second ++ c) → OnOk r (next ≡ old ++ whole)
pushed_three r old first second next a b c whole e f g h = pushed_two r old second next (a ++ b) c whole (joined_two old a b first second e f) g h

-- what a call writes in place of what was there
pub written_anew : {T E X : Type 0} (r : Result T E) (old next a whole : List X) → old ≡ [] → a ≡ whole → OnOk r (next ≡ old ++ a) → OnOk r (next ≡ whole)
written_anew (Ok x) old next a whole none e h = h ∙ ap (λ t. t ++ a) none ∙ e
written_anew (Err x) old next a whole none e h = tt

-- ---- names that are added one after another

pub named_next : {Y : Type 0} (f : ℕ → Y) (n : ℕ) (old now next : List Y) → now ≡ old ++ map f (range_with_len 0 n) → next ≡ now ++ f n ∷ [] → next ≡ old ++ map f (range_with_len 0 (n + 1))
named_next f n old now next e h =
    joined_two old (map f (range_with_len 0 n)) (f n ∷ []) now next e h ∙ ap (λ t. old ++ t) (sym (map-range_with_len_more f 0 n n (omega arith)))

pub listed_next : {X Y : Type 0} (f : X → Y) (xs : List X) (i : ℕ) (x : X) (old now next : List Y) → i < length xs → x ≡ get_or xs i x → now ≡ old ++ map f (take i xs) → next ≡ now ++ f x ∷ []
    → next ≡ old ++ map f (take (i + 1) xs)
listed_next f xs i x old now next inside is e h =
    joined_two old (map f (take i xs)) (f x ∷ []) now next e h
    ∙ ap (λ t. old ++ t) (sym (ap (map f) (take_more xs i x inside) ∙ map-append f (take i xs) (get_or xs i x ∷ []) ∙ ap (λ y. map f (take i xs) ++ f y ∷ []) (sym is)))

pub pieces_next : {Y : Type 0} (g : ℕ → List Y) (n : ℕ) (old now next : List Y) → now ≡ old ++ flat_map g (range_with_len 0 n) → next ≡ now ++ g n → next ≡ old ++ flat_map g (range_with_len 0 (n + 1))
pieces_next g n old now next e h =
    joined_two old (flat_map g (range_with_len 0 n)) (g n) now next e h
    ∙ ap (λ t. old ++ t) (sym (ap (flat_map g) (range_push 0 n n (omega arith)) ∙ flat_map-append g (range_with_len 0 n) (n ∷ []) ∙ ap (λ t. flat_map g (range_with_len 0 n) ++ t) (append-nil (g n))))

-- a list so far, and one more piece
pub then_more : {X : Type 0} (a b b' now next : List X) → now ≡ a → next ≡ now ++ b → b ≡ b' → next ≡ a ++ b'
then_more a b b' now next e h f = h ∙ ap₂ ◌++◌ e f

-- a list so far, and what a last call adds
pub then_last : {T E X : Type 0} (r : Result T E) (a b now next : List X) → now ≡ a → OnOk r (next ≡ now ++ b) → OnOk r (next ≡ a ++ b)
then_last (Ok x) a b now next e h = h ∙ ap (λ t. t ++ b) e
then_last (Err x) a b now next e h = tt

pub map_twice : {X Y Z : Type 0} (f : Y → Z) (g : X → Y) (xs : List X) → map (λ x. f (g x)) xs ≡ map f (map g xs)
map_twice f g [] = refl
map_twice f g (x ∷ xs) = ap (λ t. f (g x) ∷ t) (map_twice f g xs)

-- what a call adds, said in another way
pub added_same : {T E X : Type 0} (r : Result T E) (old next a b : List X) → a ≡ b → OnOk r (next ≡ old ++ a) → OnOk r (next ≡ old ++ b)
added_same (Ok x) old next a b e h = h ∙ ap (λ t. old ++ t) e
added_same (Err x) old next a b e h = tt
