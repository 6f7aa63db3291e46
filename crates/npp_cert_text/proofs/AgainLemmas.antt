-- The fields of each item say that item.
use Rattle.std.proofs.Common.{◌≡◌, ◌∙◌, ◌<◌, ◌≤◌, ◌^◌, ap, refl, subst, ℕ, false, List, [], ◌∷◌, ◌++◌, length, map, Some, None, codes, arith, le-leb, get_or, inl, inr}
use Rattle.std.specs.Fmt.{decimal}
use Rattle.std.proofs.lemmas.List.{length-map, map-append}
use Rattle.std.proofs.lemmas.Bool.{false_from_ne_true}
use Rattle.std.proofs.lemmas.Slice.Eq.{bytes_eq-Decides}
use Rattle.std.specs.Str.{bytes_eq}
use Rattle.npp_frac.specs.Rational.{Rational}
use Rattle.npp_frac.specs.Fits.{IsWidth}
use Rattle.npp_net.specs.declared.types.ArcId.{ArcId}
use Rattle.npp_rows.specs.declared.mark.Step.TheVariants as step
use Rattle.npp_rows.specs.declared.mark.Mark.{Mark}
use Rattle.npp_rows.specs.declared.mark.Mark.TheVariants as mark
use Rattle.npp_rows.specs.declared.names.RowName.{RowName}
use Rattle.npp_rows.specs.declared.names.RowName.TheVariants as row
use Rattle.npp_tree.specs.declared.outcome.Status.{Status}
use Rattle.npp_tree.specs.declared.outcome.Status.TheVariants as status
use Rattle.npp_tree.specs.declared.item.Item.{Item}
use Rattle.npp_tree.specs.declared.item.Item.TheVariants as item
use Rattle.npp_cert_text.proofs.FieldText.{Field, number, fraction, field_text}
use Rattle.npp_cert_text.proofs.LineFields.{status_fields, mark_fields, row_fields, numbers, arcs, line_fields, HasLists}
use Rattle.npp_cert_text.specs.Values.{whole_in}
use Rattle.npp_cert_text.specs.Taking.{and_then, by_word, take_numbers, all_numbers}
use Rattle.npp_cert_text.specs.Reading.{line_forms, width_in, ceiling_in, arc_ids, take_arcs, take_status, take_mark, take_row}
use Rattle.npp_cert_text.proofs.ValueLemmas.{whole_again, fraction_again, first_not}
use Rattle.npp_cert_text.proofs.SoundLemmas.{texts, Fit}

n32 : (n : ℕ) → n < 2 ^ 32 → whole_in (2 ^ 32) (decimal n) ≡ Some n
n32 n h = whole_again (2 ^ 32) n h (omega arith)

n64 : (n : ℕ) → n < 2 ^ 64 → whole_in (2 ^ 64) (decimal n) ≡ Some n
n64 n h = whole_again (2 ^ 64) n h (omega arith)

all_again : (ns : List ℕ) → Fit (numbers ns) → all_numbers (texts (numbers ns)) ≡ Some ns
all_again [] fits = refl
all_again (n ∷ ns) fits = rw (n32 n fits.0, all_again ns fits.1) refl

numbers_again : (least : ℕ) (ns : List ℕ) → Fit (numbers ns) → least ≤ length ns → take_numbers least (texts (numbers ns)) ≡ Some (ns, [])
numbers_again least ns fits enough =
    let many : length (texts (numbers ns)) ≡ length ns = length-map (numbers ns) field_text ∙ length-map ns number in
    rw (many, le-leb least (length ns) enough, all_again ns fits) refl

width_again : (w : ℕ) → w < 2 ^ 32 → IsWidth w → width_in (decimal w) ≡ Some w
width_again w fits (inl e) = rw (n32 w fits, e) refl
width_again w fits (inr (inl e)) = rw (n32 w fits, e) refl
width_again w fits (inr (inr e)) = rw (n32 w fits, e) refl

status_again : (s : Status) → take_status (texts (status_fields s)) ≡ Some (s, [])
status_again status.Optimal = refl
status_again status.Budget = refl
status_again status.Overflow = refl

mark_again : (m : Mark) → Fit (mark_fields m) → take_mark (texts (mark_fields m)) ≡ Some (m, [])
unfolding and_then
mark_again mark.Large fits = refl
mark_again mark.Capped fits = refl
mark_again mark.Sum fits = refl
mark_again (mark.Overflow pivot step.Ratio r column) fits = rw (n32 pivot fits.1.0, n32 r fits.1.1.1.0, n32 column fits.1.1.1.1.0) refl
mark_again (mark.Overflow pivot step.Pivot r column) fits = rw (n32 pivot fits.1.0, n32 r fits.1.1.1.0, n32 column fits.1.1.1.1.0) refl

row_again : (r : RowName) (v : List (List ℕ)) → Fit (row_fields r) → take_row (texts (row_fields r) ++ v) ≡ Some (r, v)
unfolding and_then
row_again (row.Cap a) v fits = rw (n32 a fits.1.0) refl
row_again (row.Follow k q) v fits = rw (n32 k fits.1.0, n32 q fits.1.1.0) refl
row_again (row.Below a k) v fits = rw (n32 a fits.1.0, n32 k fits.1.1.0) refl
row_again (row.Use a k) v fits = rw (n32 a fits.1.0, n32 k fits.1.1.0) refl
row_again (row.Link a k) v fits = rw (n32 a fits.1.0, n32 k fits.1.1.0) refl
row_again (row.One k) v fits = rw (n32 k fits.1.0) refl
row_again (row.OneLow k) v fits = rw (n32 k fits.1.0) refl
row_again (row.Cut n) v fits = rw (n32 n fits.1.0) refl

abbrev arc_numbers : List ArcId → List ℕ
arc_numbers walk = map (λ (a : ArcId). a.0) walk

arcs_numbers : (walk : List ArcId) → arcs walk ≡ numbers (arc_numbers walk)
arcs_numbers [] = refl
arcs_numbers (a ∷ walk) = ap (λ fields. number a.0 ∷ fields) (arcs_numbers walk)

ids_again : (walk : List ArcId) → arc_ids (arc_numbers walk) ≡ walk
ids_again [] = refl
ids_again (a ∷ walk) = ap (λ arcs. a ∷ arcs) (ids_again walk)

arcs_again : (walk : List ArcId) → Fit (arcs walk) → 0 < length walk → take_arcs (texts (arcs walk)) ≡ Some (walk, [])
unfolding and_then
arcs_again walk fits some =
    let read = numbers_again 1 (arc_numbers walk) (subst Fit (arcs_numbers walk) fits) (rw (length-map walk (λ (a : ArcId). a.0)) some) in
    ap (λ fields. take_arcs (texts fields)) (arcs_numbers walk) ∙ rw (read, ids_again walk) refl

ceiling_again : (u : ℕ) → u < 2 ^ 32 → ceiling_in (decimal u) ≡ Some (Some u)
ceiling_again u fits =
    let other : bytes_eq (decimal u) (codes "-") ≡ false =
    false_from_ne_true _ (λ e. first_not u 45 (λ r. omega (arith, r)) (omega arith) (ap (λ t. get_or t 0 0) ((bytes_eq-Decides (decimal u) (codes "-")).0 e))) in
    rw (other, n32 u fits) refl

fit_left : (xs ys : List Field) → Fit (xs ++ ys) → Fit xs
fit_left [] ys f = tt
fit_left (x ∷ xs) ys f = (f.0, fit_left xs ys f.1)

fit_right : (xs ys : List Field) → Fit (xs ++ ys) → Fit ys
fit_right [] ys f = f
fit_right (x ∷ xs) ys f = fit_right xs ys f.1

-- the fields of an item say it
pub item_again : (i : Item Rational) → Fit (line_fields i) → HasLists i → by_word line_forms (texts (line_fields i)) ≡ Some (i, [])
unfolding and_then
item_again item.Header fits form = refl
item_again item.HeaderTwo fits form = refl
item_again (item.StatusIs s) fits form = rw (status_again s) refl
item_again (item.Width w) fits form = rw (width_again w fits.1.0 form) refl
item_again (item.Lower v) fits form = rw (fraction_again v fits.1.0) refl
item_again (item.Upper v) fits form = rw (fraction_again v fits.1.0) refl
item_again (item.Opened n) fits form = rw (n32 n fits.1.0) refl
item_again (item.InstanceIs nodes a tolls k) fits form = rw (n32 nodes fits.1.0, n32 a fits.1.1.0, n32 tolls fits.1.1.1.0, n32 k fits.1.1.1.1.0) refl
item_again (item.Limit a None) fits form = rw (n32 a fits.1.0) refl
item_again (item.Limit a (Some u)) fits form = rw (n32 a fits.1.0, ceiling_again u fits.1.1.0) refl
item_again (item.Toll a v) fits form = rw (n32 a fits.1.0, fraction_again v fits.1.1.0) refl
item_again (item.Path k cost paid walk) fits form = rw (n32 k fits.1.0, n64 cost fits.1.1.0, fraction_again paid fits.1.1.1.0, arcs_again walk fits.1.1.1.1 form) refl
item_again (item.Cover k n) fits form = rw (n32 k fits.1.0, n32 n fits.1.1.0) refl
item_again item.Start fits form = refl
item_again (item.Step parent arc) fits form = rw (n32 parent fits.1.0, n32 arc.0 fits.1.1.0) refl
item_again (item.Free walk) fits form = rw (arcs_again walk fits.1 form) refl
item_again (item.Cuts n) fits form = rw (n32 n fits.1.0) refl
item_again (item.Conflict k p l q n) fits form = rw (n32 k fits.1.0, n32 p fits.1.1.0, n32 l fits.1.1.1.0, n32 q fits.1.1.1.1.0, n32 n fits.1.1.1.1.1.0) refl
item_again (item.Pair k p l cuts) fits form = rw (n32 k fits.1.0, n32 p fits.1.1.0, n32 l fits.1.1.1.0, numbers_again 2 cuts fits.1.1.1.1 form) refl
item_again (item.Round n) fits form = rw (n32 n fits.1.0) refl
item_again (item.Mult y) fits form =
    let v = fraction y.value ∷ [] in
    let parts : texts (row_fields y.row ++ v) ≡ texts (row_fields y.row) ++ texts v = map-append field_text (row_fields y.row) v in
    rw (parts, row_again y.row (texts v) (fit_left (row_fields y.row) v fits.1), fraction_again y.value (fit_right (row_fields y.row) v fits.1).0) refl
item_again item.Tree fits form = refl
item_again item.Open fits form = refl
item_again (item.Basic m) fits form = rw (mark_again m fits.1) refl
item_again (item.Dual n) fits form = rw (n32 n fits.1.0) refl
item_again (item.Farkas n) fits form = rw (n32 n fits.1.0) refl
item_again (item.Inverse n) fits form = rw (n32 n fits.1.0) refl
item_again (item.NoInverse n) fits form = rw (n32 n fits.1.0) refl
item_again item.Leaf fits form = refl
item_again (item.Split k part) fits form = rw (n32 k fits.1.0, numbers_again 1 part fits.1.1 form) refl
item_again item.End fits form = refl
