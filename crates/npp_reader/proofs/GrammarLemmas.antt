-- What a line says, by its fields.
use Rattle.std.proofs.Common.{◌≡◌, ◌≢◌, ℕ, true, false, List, [], ◌∷◌, slice_index, Ok, Err, refl, ◌∙◌, eq-eqb, Bool, cond, is_some, Result}
use Rattle.std.specs.Str.{is_utf8}
use Rattle.std.proofs.lemmas.Bool.{ne_eqb}
use Rattle.npp_reader.specs.declared.kind.LineKind.{LineKind}
use Rattle.npp_reader.specs.declared.kind.LineKind.TheVariants.{Utf8}
use Rattle.npp_reader.specs.declared.link.Link.{Link}
use Rattle.npp_reader.specs.Lines.{fields_of}
use Rattle.npp_reader.specs.Grammar.{Declared, after_line, after_fields, after_word, after_header, and_then, link_of}

pub line_bad : (above : Declared) (line : List ℕ) → is_utf8 line ≡ false → after_line above line ≡ Err Utf8
unfolding after_line
line_bad above line bad = rw bad

pub line_good : (above : Declared) (line : List ℕ) (fields : List (List ℕ)) → is_utf8 line ≡ true → fields_of line ≡ fields → after_line above line ≡ after_fields above fields
unfolding after_line
line_good above line fields good e = rw (good, e)

none_said : (above : Declared) → after_fields above [] ≡ Ok above
unfolding after_fields
none_said above = refl

module _ (above : Declared) (word : List ℕ) (fields : List (List ℕ)) where
  remark_said : slice_index word 0 ≡ 35 → after_fields above (word ∷ fields) ≡ Ok above
  unfolding after_fields
  remark_said e = rw (eq-eqb (slice_index word 0) 35 e)

  word_said : slice_index word 0 ≢ 35 → is_some above.format ≡ true → after_fields above (word ∷ fields) ≡ after_word above word fields
  unfolding after_fields
  word_said e h = rw (ne_eqb (slice_index word 0) 35 e, h)

  header_said : slice_index word 0 ≢ 35 → is_some above.format ≡ false → after_fields above (word ∷ fields) ≡ after_header above (word ∷ fields)
  unfolding after_fields
  header_said e h = rw (ne_eqb (slice_index word 0) 35 e, h)

-- a line without fields
pub line_none : (above : Declared) (line : List ℕ) → is_utf8 line ≡ true → fields_of line ≡ [] → after_line above line ≡ Ok above
line_none above line good e = line_good above line [] good e ∙ none_said above

module _ (above : Declared) (line word : List ℕ) (fields : List (List ℕ)) (good : is_utf8 line ≡ true) (e : fields_of line ≡ word ∷ fields) where
  -- a line whose first field begins with `#`
  pub line_remark : slice_index word 0 ≡ 35 → after_line above line ≡ Ok above
  line_remark h = line_good above line (word ∷ fields) good e ∙ remark_said above word fields h

  -- a line below the header
  pub line_word : slice_index word 0 ≢ 35 → is_some above.format ≡ true → after_line above line ≡ after_word above word fields
  line_word h header = line_good above line (word ∷ fields) good e ∙ word_said above word fields h header

  -- the line of the header
  pub line_header : slice_index word 0 ≢ 35 → is_some above.format ≡ false → after_line above line ≡ after_header above (word ∷ fields)
  line_header h header = line_good above line (word ∷ fields) good e ∙ header_said above word fields h header

-- which of two answers was given
pub pick : {X : Type 0} (b : Bool) (x y z : X) (P : Type 0) → cond b x y ≡ z → (b ≡ true → x ≡ z → P) → (b ≡ false → y ≡ z → P) → P
pick true x y z P e f g = f refl e
pick false x y z P e f g = g refl e

-- the link of a line that has no fault
pub linked : (asked : Bool) (names : List (List ℕ)) (next : Declared) (fields : List (List ℕ)) (after : Link → Result Declared LineKind) (P : Type 0) → and_then (link_of asked names fields) after ≡ Ok next
    → ((link : Link) → link_of asked names fields ≡ Ok link → after link ≡ Ok next → P) → P
linked asked names next fields after P e each = step (link_of asked names fields) refl e where
  step : (r : Result Link LineKind) → link_of asked names fields ≡ r → and_then r after ≡ Ok next → P
  step (Ok link) is e = each link is e
  step (Err kind) is e = absurd cc
