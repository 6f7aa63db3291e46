-- A line has no more entries of a list than bytes.
use Rattle.std.proofs.Common.{◌≡◌, ◌+◌, ◌≤◌, sym, ℕ, List, [], ◌∷◌, length, Option, Some, None, Result, Ok, Err, arith}
use Rattle.std.specs.Prelude.{IfOk, IfSome, option_map}
use Rattle.std.specs.List.{join_with_byte}
use Rattle.std.proofs.Math.ListN.{length-append}
use Rattle.std.proofs.lemmas.List.{length-map}
use Rattle.npp_frac.specs.Rational.{Rational}
use Rattle.npp_net.specs.declared.types.ArcId.{ArcId}
use Rattle.npp_tree.specs.Items.{item_of, HasShortLists}
use Rattle.npp_tree.specs.declared.item.Item.{Item}
use Rattle.npp_tree.specs.declared.item.Item.TheVariants as item
use Rattle.npp_cert_text.specs.Form.{entries, line_limit}
use Rattle.npp_cert_text.specs.Reading.{item_in}
use Rattle.npp_cert_text.proofs.FieldText.{number, field_text}
use Rattle.npp_cert_text.proofs.LineFields.{numbers, arcs, line_fields, HasFields}
use Rattle.npp_cert_text.proofs.SoundLemmas.{texts}
use Rattle.npp_cert_text.proofs.InForm.{has_fields}
use Rattle.npp_cert_text.proofs.TextLaws.{says}

joined_longer : (ts : List (List ℕ)) → length ts ≤ length (join_with_byte 32 ts) + 1
joined_longer [] = omega arith
joined_longer (t ∷ []) = omega arith
joined_longer (t ∷ u ∷ ts) = omega (arith, joined_longer (u ∷ ts), length-append t (32 ∷ join_with_byte 32 (u ∷ ts)))

number_count : (ns : List ℕ) → length (numbers ns) ≡ length ns
number_count ns = length-map ns number

arc_count : (walk : List ArcId) → length (arcs walk) ≡ length walk
arc_count walk = length-map walk (λ (a : ArcId). number a.0)

entry_fields : (i : Item Rational) → entries i ≤ length (line_fields i)
entry_fields item.Header = omega arith
entry_fields item.HeaderTwo = omega arith
entry_fields (item.StatusIs s) = omega arith
entry_fields (item.Width w) = omega arith
entry_fields (item.Lower v) = omega arith
entry_fields (item.Upper v) = omega arith
entry_fields (item.Opened n) = omega arith
entry_fields (item.InstanceIs nodes a tolls commodities) = omega arith
entry_fields (item.Limit a u) = omega arith
entry_fields (item.Toll a v) = omega arith
entry_fields (item.Path k cost paid walk) = omega (arith, arc_count walk)
entry_fields (item.Cover k n) = omega arith
entry_fields item.Start = omega arith
entry_fields (item.Step parent arc) = omega arith
entry_fields (item.Free walk) = omega (arith, arc_count walk)
entry_fields (item.Cuts n) = omega arith
entry_fields (item.Conflict k p l q n) = omega arith
entry_fields (item.Pair k p l cuts) = omega (arith, number_count cuts)
entry_fields (item.Round n) = omega arith
entry_fields (item.Mult y) = omega arith
entry_fields item.Tree = omega arith
entry_fields item.Open = omega arith
entry_fields (item.Basic m) = omega arith
entry_fields (item.Dual n) = omega arith
entry_fields (item.Farkas n) = omega arith
entry_fields (item.Inverse n) = omega arith
entry_fields (item.NoInverse n) = omega arith
entry_fields item.Leaf = omega arith
entry_fields (item.Split k part) = omega (arith, number_count part)
entry_fields item.End = omega arith

few_entries : (i : Item Rational) → HasFields i → entries i ≤ line_limit + 1
few_entries i has = omega (arith, entry_fields i, length-map (line_fields i) field_text, joined_longer (texts (line_fields i)), has.short)

-- an item with few entries has short lists
lists_short : {N : Type 0} (value : N → Rational) (i : Item N) → entries (item_of value i) ≤ line_limit + 1 → HasShortLists i
lists_short value item.Header few = tt
lists_short value item.HeaderTwo few = tt
lists_short value (item.StatusIs s) few = tt
lists_short value (item.Width w) few = tt
lists_short value (item.Lower v) few = tt
lists_short value (item.Upper v) few = tt
lists_short value (item.Opened n) few = tt
lists_short value (item.InstanceIs nodes a tolls commodities) few = tt
lists_short value (item.Limit a u) few = tt
lists_short value (item.Toll a v) few = tt
lists_short value (item.Path k cost paid walk) few = omega arith
lists_short value (item.Cover k n) few = tt
lists_short value item.Start few = tt
lists_short value (item.Step parent arc) few = tt
lists_short value (item.Free walk) few = omega arith
lists_short value (item.Cuts n) few = tt
lists_short value (item.Conflict k p l q n) few = tt
lists_short value (item.Pair k p l cuts) few = omega arith
lists_short value (item.Round n) few = tt
lists_short value (item.Mult y) few = tt
lists_short value item.Tree few = tt
lists_short value item.Open few = tt
lists_short value (item.Basic m) few = tt
lists_short value (item.Dual n) few = tt
lists_short value (item.Farkas n) few = tt
lists_short value (item.Inverse n) few = tt
lists_short value (item.NoInverse n) few = tt
lists_short value item.Leaf few = tt
lists_short value (item.Split k part) few = omega arith
lists_short value item.End few = tt

-- what a reader of lines gives has short lists
pub read_short : {N E : Type 0} (value : N → Rational) (bytes : List ℕ) (r : Result (Option (Item N)) E) → IfOk r (λ found. option_map (item_of value) found ≡ item_in bytes)
    → IfOk r (λ found. IfSome found (λ i. HasShortLists i))
read_short value bytes (Ok None) h = tt
read_short value bytes (Ok (Some i)) h =
    let meant : Item Rational = item_of value i in
    lists_short value i (few_entries meant (has_fields meant (says bytes meant (sym h)).has))
read_short value bytes (Err e) h = tt
