-- The first line of a text, and the first field of a line.
use Rattle.std.proofs.Common.{◌≡◌, ℕ, suc, ◌+◌, ◌<◌, ◌≤◌, Bool, true, false, not, List, [], ◌∷◌, length, map, filter, get_or, take, drop, refl, sym, ◌∙◌, ap, subst, arith, position, cond, ltb, Some, None, add-one, drop-cons, length-take, length-drop, get_or-drop, add-zero}
use Rattle.std.specs.List.{slice_split, position_or_len}
use Rattle.std.specs.Str.Lines.{strip_carriage_return}
use Rattle.std.proofs.lemmas.Bool.{ltb-true, ltb-false}
use Rattle.std.proofs.lemmas.List.{drop_all}
use Rattle.std.proofs.lemmas.List.Splits.{slice_split_first, slice_split_none, length-slice_split, slice_split-cons_yes}
use Rattle.std.proofs.lemmas.List.Sums.{fails_before_first, passes_at_first}
use Rattle.npp_reader.specs.Lines.{is_line_feed, is_blank, is_empty, without_empty_end, lines_of, fields_of}

step-le : (b : Bool) (n m : ℕ) → n ≤ m → cond (not b) (1 + n) 0 ≤ suc m
step-le true n m h = omega arith
step-le false n m h = omega arith

-- the first place that passes is at most the length
pub position-le : (p : ℕ → Bool) (xs : List ℕ) → position_or_len p xs ≤ length xs
position-le p [] = omega arith
position-le p (x ∷ xs) = step-le (p x) (position_or_len p xs) (length xs) (position-le p xs)

-- where `position` answers, and where it does not
pub position_found : (p : ℕ → Bool) (xs : List ℕ) (i : ℕ) → position p xs ≡ Some i → (i ≡ position_or_len p xs) × (i < length xs)
position_found p xs i e = found (ltb (position_or_len p xs) (length xs)) refl e where
  found : (b : Bool) → ltb (position_or_len p xs) (length xs) ≡ b → cond b (Some (position_or_len p xs)) None ≡ Some i → (i ≡ position_or_len p xs) × (i < length xs)
  found true h e = let same : position_or_len p xs ≡ i = cc in (sym same, subst (λ n. n < length xs) same (ltb-true _ _ h))
  found false h e = absurd cc

pub position_missed : (p : ℕ → Bool) (xs : List ℕ) → position p xs ≡ None → position_or_len p xs ≡ length xs
position_missed p xs e = missed (ltb (position_or_len p xs) (length xs)) refl e where
  missed : (b : Bool) → ltb (position_or_len p xs) (length xs) ≡ b → cond b (Some (position_or_len p xs)) None ≡ None → position_or_len p xs ≡ length xs
  missed true h e = absurd cc
  missed false h e = let low = position-le p xs in let high = ltb-false _ _ h in omega arith

-- a part that another follows stays
pub kept_part : (part : List ℕ) (parts : List (List ℕ)) → 0 < length parts → without_empty_end (part ∷ parts) ≡ part ∷ without_empty_end parts
kept_part part [] h = absurd (omega arith)
kept_part part (next ∷ parts) h = refl

-- the last part stays where it is not empty
kept_end : (part : List ℕ) → 0 < length part → without_empty_end (part ∷ []) ≡ part ∷ []
kept_end [] h = absurd (omega arith)
kept_end (b ∷ bs) h = refl

-- no line feed stands in the bytes
lines_last : (bytes : List ℕ) → 0 < length bytes → position_or_len is_line_feed bytes ≡ length bytes
    → lines_of bytes ≡ strip_carriage_return bytes ∷ []
unfolding lines_of
lines_last bytes some e =
    let none = slice_split_none is_line_feed bytes (λ k d h. fails_before_first is_line_feed bytes k d (omega arith)) in
    ap (λ (parts : List (List ℕ)). map strip_carriage_return (without_empty_end parts)) none ∙ ap (map strip_carriage_return) (kept_end bytes some)

-- a line feed stands in the bytes
lines_more : (bytes : List ℕ) → position_or_len is_line_feed bytes < length bytes
    → lines_of bytes ≡ strip_carriage_return (take (position_or_len is_line_feed bytes) bytes) ∷ lines_of (drop (position_or_len is_line_feed bytes + 1) bytes)
unfolding lines_of
lines_more bytes h =
    let first = slice_split_first is_line_feed bytes 0 h in
    let rest = drop (position_or_len is_line_feed bytes + 1) bytes in
    let many = length-slice_split is_line_feed rest in
    ap (λ (parts : List (List ℕ)). map strip_carriage_return (without_empty_end parts)) first
    ∙ ap (map strip_carriage_return) (kept_part (take (position_or_len is_line_feed bytes) bytes) (slice_split is_line_feed rest) (omega arith))

lines_nil : lines_of [] ≡ []
unfolding lines_of
lines_nil = refl

pub lines_first : (bytes : List ℕ) (n : ℕ) → position is_line_feed bytes ≡ Some n
    → lines_of bytes ≡ strip_carriage_return (take n bytes) ∷ lines_of (drop (n + 1) bytes)
lines_first bytes n e =
    let at = position_found is_line_feed bytes n e in
    rw at.0 (lines_more bytes (subst (λ m. m < length bytes) at.0 at.1))

pub lines_only : (bytes : List ℕ) → 0 < length bytes → position is_line_feed bytes ≡ None
    → lines_of bytes ≡ strip_carriage_return bytes ∷ lines_of []
lines_only bytes some e = rw lines_nil (lines_last bytes some (position_missed is_line_feed bytes e))

-- one blank is skipped
blank_cons : (b : ℕ) (bs : List ℕ) → is_blank b ≡ true → fields_of (b ∷ bs) ≡ fields_of bs
unfolding fields_of
blank_cons b bs e = ap (filter (λ part. not (is_empty part))) (slice_split-cons_yes is_blank b bs e)

skip_step : (b : ℕ) (bs : List ℕ) (n : ℕ) (v : Bool) → is_blank b ≡ v → fields_of bs ≡ fields_of (drop n bs)
    → fields_of (b ∷ bs) ≡ fields_of (drop (cond (not (not v)) (1 + n) 0) (b ∷ bs))
skip_step b bs n true e rest =
    let one : 1 + n ≡ suc n = omega arith in
    rw one (blank_cons b bs e ∙ rest)
skip_step b bs n false e rest = refl

pub fields_skip : (line : List ℕ) → fields_of line ≡ fields_of (drop (position_or_len (λ b. not (is_blank b)) line) line)
fields_skip [] = refl
fields_skip (b ∷ bs) = skip_step b bs (position_or_len (λ x. not (is_blank x)) bs) (is_blank b) refl (fields_skip bs)

pub fields_nil : fields_of [] ≡ []
unfolding fields_of
fields_nil = refl

pub kept_field : (part : List ℕ) (parts : List (List ℕ)) → 0 < length part
    → filter (λ part. not (is_empty part)) (part ∷ parts) ≡ part ∷ filter (λ part. not (is_empty part)) parts
kept_field [] parts h = absurd (omega arith)
kept_field (b ∷ bs) parts h = refl

-- a field that ends the line
field_last : (line : List ℕ) → 0 < length line → position_or_len is_blank line ≡ length line → fields_of line ≡ line ∷ []
unfolding fields_of
field_last line some e =
    let none = slice_split_none is_blank line (λ k d h. fails_before_first is_blank line k d (omega arith)) in
    ap (filter (λ part. not (is_empty part))) none ∙ kept_field line [] some

-- a field that a blank follows
field_more : (line : List ℕ) → 0 < position_or_len is_blank line → position_or_len is_blank line < length line
    → fields_of line ≡ take (position_or_len is_blank line) line ∷ fields_of (drop (position_or_len is_blank line + 1) line)
unfolding fields_of
field_more line some h =
    ap (filter (λ part. not (is_empty part))) (slice_split_first is_blank line 0 h)
    ∙ kept_field (take (position_or_len is_blank line) line) (slice_split is_blank (drop (position_or_len is_blank line + 1) line)) (simp length-take (omega arith))

-- what stands behind the blanks begins with a field
begins : (rest : List ℕ) → 0 < length rest → not (is_blank (get_or rest 0 0)) ≡ true → 0 < position_or_len is_blank rest
begins [] some e = absurd (omega arith)
begins (b ∷ bs) some e = field_step (is_blank b) (position_or_len is_blank bs) e where
  field_step : (v : Bool) (n : ℕ) → not v ≡ true → 0 < cond (not v) (1 + n) 0
  field_step true n e = absurd cc
  field_step false n e = omega arith

pub field_begins : (line : List ℕ) (start : ℕ) → position (λ b. not (is_blank b)) line ≡ Some start → 0 < position_or_len is_blank (drop start line)
field_begins line start e =
    let at = position_found (λ b. not (is_blank b)) line start e in
    let passes : not (is_blank (get_or line start 0)) ≡ true = rw at.0 (passes_at_first (λ b. not (is_blank b)) line 0 (subst (λ m. m < length line) at.0 at.1)) in
    begins (drop start line) (simp length-drop (omega arith)) (rw (get_or-drop start line 0 0, add-zero) passes)

pub fields_start : (line : List ℕ) (start : ℕ) → position (λ b. not (is_blank b)) line ≡ Some start → fields_of line ≡ fields_of (drop start line)
fields_start line start e = rw (position_found (λ b. not (is_blank b)) line start e).0 (fields_skip line)

pub fields_none : (line : List ℕ) → position (λ b. not (is_blank b)) line ≡ None → fields_of line ≡ []
fields_none line e =
    fields_skip line ∙ (ap (λ (n : ℕ). fields_of (drop n line)) (position_missed (λ b. not (is_blank b)) line e) ∙ (ap fields_of (drop_all (length line) line (omega arith)) ∙ fields_nil))

-- the first field, where a blank follows it
pub field_first : (line : List ℕ) (start end : ℕ) → position (λ b. not (is_blank b)) line ≡ Some start → position is_blank (drop start line) ≡ Some end
    → fields_of line ≡ take end (drop start line) ∷ fields_of (drop end (drop start line))
field_first line start end s e =
    let rest = drop start line in
    let at = position_found is_blank rest end e in
    let more : position_or_len is_blank rest < length rest = subst (λ m. m < length rest) at.0 at.1 in
    let within : end < length rest = at.1 in
    let cut : drop end rest ≡ get_or rest end 0 ∷ drop (end + 1) rest = rw (add-one, drop-cons rest end 0) in
    let blank : is_blank (get_or rest end 0) ≡ true = rw at.0 (passes_at_first is_blank rest 0 more) in
    let parts : fields_of rest ≡ take end rest ∷ fields_of (drop (end + 1) rest) = rw at.0 (field_more rest (field_begins line start s) more) in
    fields_start line start s ∙ rw (cut, blank_cons (get_or rest end 0) (drop (end + 1) rest) blank) parts

-- the first field is not empty
pub field_some : (line : List ℕ) (start end : ℕ) → position (λ b. not (is_blank b)) line ≡ Some start → position is_blank (drop start line) ≡ Some end
    → 0 < length (take end (drop start line))
field_some line start end s e =
    let rest = drop start line in
    let at = position_found is_blank rest end e in
    let some = field_begins line start s in
    rw length-take (omega arith)

-- the first field, where it ends the line
pub field_ends : (line : List ℕ) (start : ℕ) → position (λ b. not (is_blank b)) line ≡ Some start → position is_blank (drop start line) ≡ None
    → fields_of line ≡ drop start line ∷ fields_of []
field_ends line start s e =
    let rest = drop start line in
    let missed = position_missed is_blank rest e in
    let some = field_begins line start s in
    fields_start line start s ∙ rw fields_nil (field_last rest (omega arith) missed)
