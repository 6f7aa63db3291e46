-- Each line of an item reads as that item, and each line that reads as an item is its line.
use Rattle.std.proofs.Common.{◌≡◌, ◌∙◌, ◌<◌, ◌≤◌, ap, ap₂, sym, refl, subst, ℕ, List, [], ◌∷◌, ◌++◌, length, nat_le, Some, arith, append-nil, le-leb}
use Rattle.std.specs.List.{AllByRecursion, join_with_byte}
use Rattle.std.proofs.lemmas.Bool.{leb-true}
use Rattle.std.proofs.lemmas.List.Splits.{slice_split_at, slice_split_none, join_with_byte-slice_split}
use Rattle.npp_frac.specs.Rational.{Rational}
use Rattle.npp_tree.specs.declared.item.Item.{Item}
use Rattle.npp_tree.specs.declared.item.Item.TheVariants as item
use Rattle.npp_cert_text.proofs.FieldText.{Field, field_text, joined}
use Rattle.npp_cert_text.specs.Form.{line_limit}
use Rattle.npp_cert_text.proofs.LineFields.{line_fields, line_of, HasLists, HasFields}
use Rattle.npp_cert_text.specs.Taking.{by_word}
use Rattle.npp_cert_text.specs.Reading.{item_in, item_said, fields_of, alone, line_forms, is_space}
use Rattle.npp_cert_text.proofs.SoundLemmas.{texts, Fit, and_then_some, cond_some}
use Rattle.npp_cert_text.proofs.ValueLemmas.{Lacks}
use Rattle.npp_cert_text.proofs.PlainLemmas.{fields_lack, item_plain}
use Rattle.npp_cert_text.proofs.AgainLemmas.{item_again}
use Rattle.npp_cert_text.proofs.FormLemmas.{lines_sound}

alone_said : {X : Type 0} (said : X × List (List ℕ)) (x : X) → alone said ≡ Some x → (said.0 ≡ x) × (said.1 ≡ [])
alone_said (y, []) x e = (cc, refl)
alone_said (y, field ∷ fields) x e = absurd cc

-- a line that says an item is its line
pub read_is_line : (line : List ℕ) (i : Item Rational) → item_in line ≡ Some i → HasFields i × (line ≡ line_of i)
unfolding item_in
read_is_line line i e =
    let short = cond_some (nat_le (length line) line_limit) (item_said (fields_of line)) i e in
    let said = and_then_some (by_word line_forms (fields_of line)) alone i short.1 in
    let whole = alone_said said.0 i said.2 in
    let took = lines_sound (fields_of line) said.0 said.1 in
    let same : fields_of line ≡ texts (line_fields i) = took.text ∙ ap₂ (λ x rest. texts (line_fields x) ++ rest) whole.0 whole.1 ∙ append-nil (texts (line_fields i)) in
    let is : line ≡ line_of i = sym (join_with_byte-slice_split 32 line) ∙ ap (join_with_byte 32) same in (
      record {
        fits = subst (λ x. Fit (line_fields x)) whole.0 (took.fits tt);
        lists = subst HasLists whole.0 took.holds;
        short = subst (λ t. length t ≤ line_limit) is (leb-true (length line) line_limit short.0);
      },
      is,
    )

-- parts without a space are found again
split_joined : (t : List ℕ) (ts : List (List ℕ)) → AllByRecursion (Lacks 32) (t ∷ ts) → fields_of (join_with_byte 32 (t ∷ ts)) ≡ t ∷ ts
split_joined t [] lack = slice_split_none is_space t lack.0
split_joined t (u ∷ ts) lack =
    slice_split_at is_space t 32 (join_with_byte 32 (u ∷ ts)) lack.0 refl ∙ ap (λ parts. t ∷ parts) (split_joined u ts lack.1)

split_fields : (fields : List Field) → 0 < length fields → AllByRecursion (Lacks 32) (texts fields) → fields_of (joined fields) ≡ texts fields
split_fields [] some lack = absurd (omega arith)
split_fields (f ∷ fields) some lack = split_joined (field_text f) (texts fields) lack

some_field : (i : Item Rational) → 0 < length (line_fields i)
some_field item.Header = omega arith
some_field item.HeaderTwo = omega arith
some_field (item.StatusIs s) = omega arith
some_field (item.Width w) = omega arith
some_field (item.Lower v) = omega arith
some_field (item.Upper v) = omega arith
some_field (item.Opened n) = omega arith
some_field (item.InstanceIs nodes arc_count tolls commodities) = omega arith
some_field (item.Limit a ceiling) = omega arith
some_field (item.Toll a v) = omega arith
some_field (item.Path k cost paid walk) = omega arith
some_field (item.Cover k n) = omega arith
some_field item.Start = omega arith
some_field (item.Step parent arc) = omega arith
some_field (item.Free walk) = omega arith
some_field (item.Cuts n) = omega arith
some_field (item.Conflict k p l q n) = omega arith
some_field (item.Pair k p l cuts) = omega arith
some_field (item.Round n) = omega arith
some_field (item.Mult y) = omega arith
some_field item.Tree = omega arith
some_field item.Open = omega arith
some_field (item.Basic m) = omega arith
some_field (item.Dual n) = omega arith
some_field (item.Farkas n) = omega arith
some_field (item.Inverse n) = omega arith
some_field (item.NoInverse n) = omega arith
some_field item.Leaf = omega arith
some_field (item.Split k part) = omega arith
some_field item.End = omega arith

-- the line of an item says the item
pub line_is_read : (i : Item Rational) → HasFields i → item_in (line_of i) ≡ Some i
unfolding item_in
line_is_read i has =
    let lack = fields_lack 32 (omega arith) (line_fields i) (item_plain i) has.fits in
    let parts : fields_of (line_of i) ≡ texts (line_fields i) = split_fields (line_fields i) (some_field i) lack in
    rw (le-leb (length (line_of i)) line_limit has.short, parts, item_again i has.fits has.lists) refl
