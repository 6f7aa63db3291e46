-- What a line says was written there: each form of a line.
use Rattle.std.proofs.Common.{◌≡◌, ◌∙◌, ◌<◌, ◌^◌, ◌||◌, ◌==◌, ap, refl, subst, ℕ, Bool, true, false, List, [], ◌∷◌, ◌++◌, length, map, Option, Some, None, cond, codes, arith}
use Rattle.std.specs.Prelude.{⊤, option_map}
use Rattle.std.specs.Fmt.{decimal}
use Rattle.std.specs.Str.{bytes_eq}
use Rattle.std.proofs.lemmas.Bool.Decides.{nat_tests}
use Rattle.std.proofs.lemmas.List.{length-map}
use Rattle.std.proofs.lemmas.Slice.Eq.{bytes_eq-Decides}
use Rattle.npp_frac.specs.Rational.{Rational}
use Rattle.npp_frac.specs.Fits.{IsWidth}
use Rattle.npp_rows.specs.declared.mark.Step.{Step}
use Rattle.npp_rows.specs.declared.mark.Step.TheVariants as step
use Rattle.npp_rows.specs.declared.mark.Mark.TheVariants as mark
use Rattle.npp_rows.specs.declared.names.RowName.TheVariants as row
use Rattle.npp_tree.specs.declared.outcome.Status.TheVariants as status
use Rattle.npp_tree.specs.declared.item.Item.{Item}
use Rattle.npp_tree.specs.declared.item.Item.TheVariants as item
use Rattle.npp_cert_text.proofs.FieldText.{text, number, fraction}
use Rattle.npp_cert_text.proofs.LineFields.{status_fields, step_fields, mark_fields, row_fields, ceiling_fields, arcs, line_fields, HasLists}
use Rattle.npp_cert_text.specs.Values.{whole_in, where_true}
use Rattle.npp_cert_text.specs.Taking.{Takes, first_of, by_word}
use Rattle.npp_cert_text.specs.Reading as reading
use Rattle.npp_cert_text.proofs.ValueLemmas.{whole_read, where_some}
use Rattle.npp_cert_text.proofs.SoundLemmas.{IsSound, and_then_some, map_some, Fit, texts, then, said_as, first_sound, forms_sound, number_sound, wide_sound, fraction_sound, numbers_sound, ◌▸◌}

abbrev IsForm : List ℕ → Takes (Item Rational) → Type 0
IsForm word line = IsSound (text word ∷ []) line_fields HasLists line

status_sound : IsSound [] status_fields (λ s. ⊤) reading.take_status
status_sound = forms_sound reading.status_forms ((said_as status.Optimal refl tt)
    ▸ (said_as status.Budget refl tt)
    ▸ (said_as status.Overflow refl tt)
    ▸ tt)

step_sound : IsSound [] step_fields (λ s. ⊤) reading.take_step
step_sound = forms_sound reading.step_forms ((said_as step.Ratio refl tt)
    ▸ (said_as step.Pivot refl tt)
    ▸ tt)

place_said : (pivot r column : ℕ) (s : Step) → IsSound (text (codes "overflow") ∷ number pivot ∷ [] ++ step_fields s ++ number r ∷ [] ++ number column ∷ []) mark_fields (λ m. ⊤) (λ fields. Some (mark.Overflow pivot s r column, fields))
place_said pivot r column step.Ratio = said_as (mark.Overflow pivot step.Ratio r column) refl tt
place_said pivot r column step.Pivot = said_as (mark.Overflow pivot step.Pivot r column) refl tt

mark_sound : IsSound [] mark_fields (λ m. ⊤) reading.take_mark
mark_sound = forms_sound reading.mark_forms ((said_as mark.Large refl tt)
    ▸ (said_as mark.Capped refl tt)
    ▸ (said_as mark.Sum refl tt)
    ▸ (then number_sound (λ pivot _. then step_sound (λ s _. then number_sound (λ r _. then number_sound (λ column _. place_said pivot r column s)))))
    ▸ tt)

row_sound : IsSound [] row_fields (λ r. ⊤) reading.take_row
row_sound = forms_sound reading.row_forms ((then number_sound (λ a _. said_as (row.Cap a) refl tt))
    ▸ (then number_sound (λ k _. then number_sound (λ q _. said_as (row.Follow k q) refl tt)))
    ▸ (then number_sound (λ a _. then number_sound (λ k _. said_as (row.Below a k) refl tt)))
    ▸ (then number_sound (λ a _. then number_sound (λ k _. said_as (row.Use a k) refl tt)))
    ▸ (then number_sound (λ a _. then number_sound (λ k _. said_as (row.Link a k) refl tt)))
    ▸ (then number_sound (λ k _. said_as (row.One k) refl tt))
    ▸ (then number_sound (λ k _. said_as (row.OneLow k) refl tt))
    ▸ (then number_sound (λ n _. said_as (row.Cut n) refl tt))
    ▸ tt)

is_width : (w : ℕ) → ((w == 32) || ((w == 64) || (w == 128))) ≡ true → IsWidth w
is_width w e = grind (arith, nat_tests)

width_sound : IsSound [] (λ w. number w ∷ []) IsWidth (first_of reading.width_in)
width_sound = first_sound reading.width_in (λ field w e. named field w e)
  where
    named : (field : List ℕ) (w : ℕ) → reading.width_in field ≡ Some w → (field ∷ [] ≡ texts (number w ∷ [])) × Fit (number w ∷ []) × IsWidth w
    named field w e =
        let read = and_then_some (whole_in (2 ^ 32) field) (λ w. where_true ((w == 32) || ((w == 64) || (w == 128))) w) w e in
        let test = where_some _ _ _ read.2 in
        let known = whole_read (2 ^ 32) read.0 field read.1 in
        let same : read.0 ≡ w = test.1 in
        (ap (λ t. t ∷ []) (known.0 ∙ ap decimal same), (subst (λ m. m < 2 ^ 32) same known.1, tt), subst IsWidth same (is_width read.0 test.0))

ceiling_sound : IsSound [] ceiling_fields (λ c. ⊤) (first_of reading.ceiling_in)
ceiling_sound = first_sound reading.ceiling_in (λ field c e. choose field c (bytes_eq field (codes "-")) refl e)
  where
    choose : (field : List ℕ) (c : Option ℕ) (b : Bool) → bytes_eq field (codes "-") ≡ b → cond b (Some None) (option_map (λ u. Some u) (whole_in (2 ^ 32) field)) ≡ Some c
        → (field ∷ [] ≡ texts (ceiling_fields c)) × Fit (ceiling_fields c) × ⊤
    choose field c true test e =
        let is : None ≡ c = cc in
        subst (λ x. (field ∷ [] ≡ texts (ceiling_fields x)) × Fit (ceiling_fields x) × ⊤) is (ap (λ t. t ∷ []) ((bytes_eq-Decides field (codes "-")).0 test), (tt, tt), tt)
    choose field c false test e =
        let u = map_some (whole_in (2 ^ 32) field) (λ u. Some u) c e in
        let read = whole_read (2 ^ 32) u.0 field u.1 in
        subst (λ x. (field ∷ [] ≡ texts (ceiling_fields x)) × Fit (ceiling_fields x) × ⊤) u.2 (ap (λ t. t ∷ []) read.0, (read.1, tt), tt)

counted_form : (word : List ℕ) (make : ℕ → Item Rational) → ((n : ℕ) → text word ∷ number n ∷ [] ≡ line_fields (make n)) → ((n : ℕ) → HasLists (make n)) → IsForm word (reading.counted make)
counted_form word make same form = then number_sound (λ n _. said_as (make n) (same n) (form n))

valued_form : (word : List ℕ) (make : Rational → Item Rational) → ((v : Rational) → text word ∷ fraction v ∷ [] ≡ line_fields (make v)) → ((v : Rational) → HasLists (make v)) → IsForm word (reading.valued make)
valued_form word make same form = then fraction_sound (λ v _. said_as (make v) (same v) (form v))

arcs_same : (ns : List ℕ) → map number ns ≡ arcs (reading.arc_ids ns)
arcs_same [] = refl
arcs_same (n ∷ ns) = ap (λ fields. number n ∷ fields) (arcs_same ns)

arcs_many : (ns : List ℕ) → length (reading.arc_ids ns) ≡ length ns
arcs_many ns = length-map ns _

arcs_sound : IsSound [] arcs (λ walk. 0 < length walk) reading.take_arcs
arcs_sound = then (numbers_sound 1) (λ ns some. said_as (reading.arc_ids ns) (arcs_same ns) (rw (arcs_many ns) some))

-- each line says the item whose fields it has
pub lines_sound : IsSound [] line_fields HasLists (by_word reading.line_forms)
lines_sound = forms_sound reading.line_forms ((forms_sound reading.header_forms ((said_as item.Header refl tt)
    ▸ (said_as item.HeaderTwo refl tt)
    ▸ tt))
    ▸ (then status_sound (λ s _. said_as (item.StatusIs s) refl tt))
    ▸ (then width_sound (λ w is. said_as (item.Width w) refl is))
    ▸ (valued_form (codes "lower") item.Lower (λ v. refl) (λ v. tt))
    ▸ (valued_form (codes "upper") item.Upper (λ v. refl) (λ v. tt))
    ▸ (counted_form (codes "opened") item.Opened (λ n. refl) (λ n. tt))
    ▸ (then number_sound (λ nodes _. then number_sound (λ a _. then number_sound (λ tolls _. then number_sound (λ k _. said_as (item.InstanceIs nodes a tolls k) refl tt)))))
    ▸ (then number_sound (λ a _. then ceiling_sound (λ c _. said_as (item.Limit a c) refl tt)))
    ▸ (then number_sound (λ a _. then fraction_sound (λ v _. said_as (item.Toll a v) refl tt)))
    ▸ (then number_sound (λ k _. then wide_sound (λ cost _. then fraction_sound (λ paid _. then arcs_sound (λ walk some. said_as (item.Path k cost paid walk) refl some)))))
    ▸ (then number_sound (λ k _. then number_sound (λ n _. said_as (item.Cover k n) refl tt)))
    ▸ (said_as item.Start refl tt)
    ▸ (then number_sound (λ parent _. then number_sound (λ arc _. said_as (item.Step parent (record { 0 = arc })) refl tt)))
    ▸ (then arcs_sound (λ walk some. said_as (item.Free walk) refl some))
    ▸ (counted_form (codes "cuts") item.Cuts (λ n. refl) (λ n. tt))
    ▸ (then number_sound (λ k _. then number_sound (λ p _. then number_sound (λ l _. then number_sound (λ q _. then number_sound (λ n _. said_as (item.Conflict k p l q n) refl tt))))))
    ▸ (then number_sound (λ k _. then number_sound (λ p _. then number_sound (λ l _. then (numbers_sound 2) (λ cuts two. said_as (item.Pair k p l cuts) refl two)))))
    ▸ (counted_form (codes "round") item.Round (λ n. refl) (λ n. tt))
    ▸ (then row_sound (λ r _. then fraction_sound (λ v _. said_as (item.Mult (record { row = r; value = v })) refl tt)))
    ▸ (said_as item.Tree refl tt)
    ▸ (said_as item.Open refl tt)
    ▸ (then mark_sound (λ m _. said_as (item.Basic m) refl tt))
    ▸ (counted_form (codes "dual") item.Dual (λ n. refl) (λ n. tt))
    ▸ (counted_form (codes "farkas") item.Farkas (λ n. refl) (λ n. tt))
    ▸ (counted_form (codes "inverse") item.Inverse (λ n. refl) (λ n. tt))
    ▸ (counted_form (codes "none") item.NoInverse (λ n. refl) (λ n. tt))
    ▸ (said_as item.Leaf refl tt)
    ▸ (then number_sound (λ k _. then (numbers_sound 1) (λ part some. said_as (item.Split k part) refl some)))
    ▸ (said_as item.End refl tt)
    ▸ tt)
