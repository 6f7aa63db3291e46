-- The lines of a list, with one element more.
use Rattle.std.proofs.Common.{◌≡◌, ℕ, ◌+◌, ◌<◌, List, [], ◌∷◌, ◌++◌, length, take, map, get_or, arith}
use Rattle.std.proofs.lemmas.Grind.{common_steps}
use Rattle.std.proofs.lemmas.List.{map_more, take_more}
use Rattle.npp_report.specs.Lines.{numbered_lines}

pub numbered_lines-snoc : {X : Type 0} (line_of : ℕ → X → List ℕ) (n : ℕ) (xs : List X) (x : X)
    → numbered_lines line_of n (xs ++ x ∷ []) ≡ numbered_lines line_of n xs ++ line_of (n + length xs) x
numbered_lines-snoc line_of n [] x = grind (arith, common_steps)
numbered_lines-snoc line_of n (y ∷ xs) x = grind (arith, common_steps, numbered_lines-snoc line_of (n + 1) xs x)

pub numbered_lines_more : {X : Type 0} (line_of : ℕ → X → List ℕ) (xs : List X) (i : ℕ) (d : X) → i < length xs
    → numbered_lines line_of 0 (take (i + 1) xs) ≡ numbered_lines line_of 0 (take i xs) ++ line_of i (get_or xs i d)
numbered_lines_more line_of xs i d lt =
    rw (take_more xs i d lt) (grind (arith, common_steps, numbered_lines-snoc line_of 0 (take i xs) (get_or xs i d)))

-- the same of the lines of what a list shows
pub mapped_lines_more : {X Y : Type 0} (line_of : ℕ → Y → List ℕ) (shown : X → Y) (xs : List X) (i : ℕ) (d : X) → i < length xs
    → numbered_lines line_of 0 (map shown (take (i + 1) xs)) ≡ numbered_lines line_of 0 (map shown (take i xs)) ++ line_of i (shown (get_or xs i d))
mapped_lines_more line_of shown xs i d lt =
    let count : length (map shown (take i xs)) ≡ i = grind (arith, common_steps) in
    rw (map_more shown xs i d lt) (grind (arith, common_steps, numbered_lines-snoc line_of 0 (map shown (take i xs)) (shown (get_or xs i d))))
