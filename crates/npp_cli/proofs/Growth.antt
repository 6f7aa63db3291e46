-- A list that grows element by element.
use Rattle.std.proofs.Common.{◌≡◌, ℕ, zero, suc, add-zero, add-one, zero-add, String, string_bytes, ◌+◌, ◌<◌, List, [], ◌∷◌, ◌++◌, length, take, map, get_or, flat_map, refl, ◌∙◌, ap, arith}
use Rattle.std.specs.List.{range_with_len}
use Rattle.std.specs.declared.alloc.Global.{Global}
use Rattle.std.proofs.lemmas.Grind.{common_steps, flat_map-append}
use Rattle.std.proofs.lemmas.List.{take_more}
use Rattle.std.proofs.lemmas.List.FromFn.{map-range_with_len_more}
use Rattle.npp_reader.specs.Names.{texts}
use Rattle.npp_cli.specs.Generated.{first_numbers}

pub map_first_more : {X : Type 0} (f : ℕ → X) (n : ℕ) → map f (first_numbers (n + 1)) ≡ map f (first_numbers n) ++ f n ∷ []
map_first_more f n = map-range_with_len_more f 0 n n (omega arith)

range_more : (a n : ℕ) → range_with_len a (suc n) ≡ range_with_len a n ++ (a + n) ∷ []
range_more a zero = rw (add-zero a) refl
range_more a (suc n) =
    let e : a + 1 + n ≡ a + suc n = omega arith in
    ap (λ rest. a ∷ rest) (range_more (a + 1) n ∙ ap (λ m. range_with_len (a + 1) n ++ m ∷ []) e)

pub same_numbers : (n : ℕ) → first_numbers (n + 1) ≡ first_numbers n ++ n ∷ []
same_numbers n = rw (add-one n, range_more 0 n, zero-add n) refl

pub flat_map_first_more : {X : Type 0} (f : ℕ → List X) (n : ℕ) → flat_map f (first_numbers (n + 1)) ≡ flat_map f (first_numbers n) ++ f n
flat_map_first_more f n = rw (same_numbers n, flat_map-append f (first_numbers n) (n ∷ [])) (grind (arith, common_steps))

pub flat_map_take_more : {X Y : Type 0} (f : X → List Y) (xs : List X) (i : ℕ) (d : X) → i < length xs
    → flat_map f (take (i + 1) xs) ≡ flat_map f (take i xs) ++ f (get_or xs i d)
flat_map_take_more f xs i d lt = rw (take_more xs i d lt, flat_map-append f (take i xs) (get_or xs i d ∷ [])) (grind (arith, common_steps))

-- the texts with one more
pub texts_more : (xs ys : List (String Global)) (s : String Global) (t : List ℕ) → ys ≡ xs ++ s ∷ [] → string_bytes s ≡ t
    → texts ys ≡ texts xs ++ t ∷ []
texts_more xs ys s t grew is = rw (grew) (grind (arith, common_steps))
