-- What a read of the code's lists gives, over the rational numbers.
use Rattle.std.proofs.Common.{◌≡◌, ℕ, zero, suc, ◌<◌, List, [], ◌∷◌, length, get_or, map, refl, sym, ◌∙◌, ap, subst, arith}
use Rattle.std.specs.Prelude.{All}
use Rattle.std.specs.List.{AllPairs}
use Rattle.std.proofs.lemmas.List.{get_or-map, length-map}
use Rattle.std.proofs.lemmas.List.Elements.{All-map}
use Rattle.npp_frac.specs.Rational.{Rational}
use Rattle.npp_lp.specs.declared.program.Entry.{Entry}
use Rattle.npp_lp.specs.Programs.{AreTerms, at, row_of, no_row}
use Rattle.npp_lp.specs.Checked.{no_term}
use Rattle.npp_lp.specs.ProgramOver.{RowOver, ProgramOver, lists_of, rights_of}
use Rattle.npp_lp.specs.Meaning.{term_of, terms_of, row_meant, linear_program, IsProgram}

module _ {N : Type 0} (value : N → Rational) where
  -- a number of a vector
  pub at-map : (xs : List N) (i : ℕ) (x : N) → i < length xs → x ≡ get_or xs i x → at (map value xs) i ≡ value x
  at-map [] i x h e = absurd (omega arith)
  at-map (y ∷ ys) zero x h e = ap value (sym e)
  at-map (y ∷ ys) (suc i) x h e = at-map ys i x (omega arith) e

  -- an entry of a row
  pub term_at : (es : List (Entry N)) (k : ℕ) (e : Entry N) → k < length es → e ≡ get_or es k e → get_or (terms_of value es) k no_term ≡ term_of value e
  term_at es k e h is = get_or-map (term_of value) es k e no_term h ∙ ap (term_of value) (sym is)

  pub length-terms_of : (es : List (Entry N)) → length (terms_of value es) ≡ length es
  length-terms_of es = length-map es (term_of value)

  -- the terms of a row
  terms_at_row : (rows : List (RowOver N)) (i : ℕ) → (get_or (map (row_meant value) rows) i no_row).terms ≡ terms_of value (get_or (map (λ r. r.entries) rows) i [])
  terms_at_row [] i = refl
  terms_at_row (r ∷ rs) zero = refl
  terms_at_row (r ∷ rs) (suc i) = terms_at_row rs i

  right_at_row : (rows : List (RowOver N)) (i : ℕ) → (get_or (map (row_meant value) rows) i no_row).right ≡ at (map value (map (λ r. r.right) rows)) i
  right_at_row [] i = refl
  right_at_row (r ∷ rs) zero = refl
  right_at_row (r ∷ rs) (suc i) = right_at_row rs i

  module _ (p : ProgramOver N) where
    pub length-rows_of : length (linear_program value p).rows ≡ length p.rows
    length-rows_of = length-map p.rows (row_meant value)

    pub length-rights_of : length (rights_of p) ≡ length p.rows
    length-rights_of = length-map p.rows (λ r. r.right)

    -- the terms of a row, which the code reads as a slice
    pub terms_of_row : (i : ℕ) (es : List (Entry N)) → es ≡ get_or (lists_of p) i [] → (row_of (linear_program value p) i).terms ≡ terms_of value es
    terms_of_row i es is = terms_at_row p.rows i ∙ ap (terms_of value) (sym is)

    -- the right side of a row
    pub right_of_row : (i : ℕ) → (row_of (linear_program value p) i).right ≡ at (map value (rights_of p)) i
    right_of_row i = right_at_row p.rows i

    -- each row of a program has terms
    pub row_terms : (i : ℕ) (es : List (Entry N)) → IsProgram value p → i < length p.rows → es ≡ get_or (lists_of p) i [] → AreTerms p.columns (terms_of value es)
    row_terms i es h l is = subst (AreTerms p.columns) (terms_of_row i es is) (h.rows i no_row (rw length-rows_of l))

  -- the entries of a row rise as its terms do, and are in range
  pub rise_of_terms : (es : List (Entry N)) → AllPairs (λ s t. s.column < t.column) (terms_of value es) → AllPairs (λ s t. s.column < t.column) es
  rise_of_terms es h i j d l k =
      let within : j < length (terms_of value es) = omega (arith, length-terms_of es) in
      let low : get_or (terms_of value es) i (term_of value d) ≡ term_of value (get_or es i d) = get_or-map (term_of value) es i d (term_of value d) (omega arith) in
      let high : get_or (terms_of value es) j (term_of value d) ≡ term_of value (get_or es j d) = get_or-map (term_of value) es j d (term_of value d) k in
      rw (low, high) at (h i j (term_of value d) l within)

  pub in_range_of_terms : (n : ℕ) (es : List (Entry N)) → All (λ t. t.column < n) (terms_of value es) → All (λ t. t.column < n) es
  in_range_of_terms n es h k d l =
      let within : k < length (terms_of value es) = omega (arith, length-terms_of es) in
      rw (get_or-map (term_of value) es k d (term_of value d) l) at (h k (term_of value d) within)

  -- and the other way round
  pub rise_meant : (es : List (Entry N)) → AllPairs (λ s t. s.column < t.column) es → AllPairs (λ s t. s.column < t.column) (terms_of value es)
  rise_meant [] h i j d l k = absurd (omega arith)
  rise_meant (e ∷ es) h i j d l k =
      let within : j < length (e ∷ es) = omega (arith, length-terms_of (e ∷ es)) in
      let low : get_or (terms_of value (e ∷ es)) i d ≡ term_of value (get_or (e ∷ es) i e) = get_or-map (term_of value) (e ∷ es) i e d (omega arith) in
      let high : get_or (terms_of value (e ∷ es)) j d ≡ term_of value (get_or (e ∷ es) j e) = get_or-map (term_of value) (e ∷ es) j e d within in
      rw (low, high) (h i j e l within)

  pub in_range_meant : (n : ℕ) (es : List (Entry N)) → All (λ t. t.column < n) es → All (λ t. t.column < n) (terms_of value es)
  in_range_meant n es h = All-map (λ t. t.column < n) (term_of value) es h

-- an entry in range
pub in_range_at : {N : Type 0} → (n : ℕ) (es : List (Entry N)) (k : ℕ) (e : Entry N) → All (λ t. t.column < n) es → k < length es → e ≡ get_or es k e → e.column < n
in_range_at {N} n es k e h l is = let P : Entry N → Type 0 = λ t. t.column < n in subst P (sym is) (h k e l)

-- a number of a list that is read through a slice
pub read_right : {N : Type 0} → (value : N → Rational) (slice xs : List N) (i : ℕ) (x : N) → slice ≡ xs → i < length slice → x ≡ get_or slice i x → at (map value xs) i ≡ value x
read_right value slice xs i x e h is = subst (λ t. at (map value t) i ≡ value x) e (at-map value slice i x h is)
