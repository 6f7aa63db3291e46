-- Lines and texts, and the items that they say.
use Rattle.std.proofs.Common.{◌≡◌, ◌∙◌, ap, ap₂, sym, refl, ℕ, List, [], ◌∷◌, ◌++◌, map, All, Option, Some, None, Result, Ok, Err}
use Rattle.std.specs.Prelude.{IfOk, IfSome, option_map}
use Rattle.std.specs.List.{AllByRecursion}
use Rattle.std.proofs.lemmas.List.{append_cancel_right}
use Rattle.std.proofs.lemmas.List.Elements.{All-nil, All-cons, All-head, All-tail}
use Rattle.npp_frac.specs.Rational.{Rational}
use Rattle.npp_tree.specs.declared.item.Item.{Item}
use Rattle.npp_report.specs.Lines.{line, text_of}
use Rattle.npp_cert_text.specs.Form.{HasLine, IsLineOf}
use Rattle.npp_cert_text.specs.Reading.{item_in}
use Rattle.npp_cert_text.specs.Lines.{text_items}
use Rattle.npp_cert_text.proofs.LineFields.{line_of, HasFields}
use Rattle.npp_cert_text.proofs.SameLine.{same_line}
use Rattle.npp_cert_text.proofs.InForm.{has_fields, has_line}
use Rattle.npp_cert_text.proofs.RoundTrip.{line_is_read, read_is_line}
use Rattle.npp_cert_text.proofs.LineLemmas.{joined_text, text_again, text_read}

-- the line of an item says it
pub is_said : (bytes : List ℕ) (i : Item Rational) → IsLineOf bytes i → item_in bytes ≡ Some i
is_said bytes i is =
    let same : bytes ≡ line_of i = append_cancel_right bytes (line_of i) (10 ∷ []) (is.text ∙ sym (same_line i)) in
    ap item_in same ∙ line_is_read i (has_fields i is.has)

-- and a line that says an item is its line
pub says : (bytes : List ℕ) (i : Item Rational) → item_in bytes ≡ Some i → IsLineOf bytes i
says bytes i said =
    let read = read_is_line bytes i said in
    record { has = has_line i read.0; text = ap line read.1 ∙ same_line i }

-- what a reader of lines gives, by its meaning
pub read_found : {X E : Type 0} (meant : X → Item Rational) (bytes : List ℕ) (r : Result (Option X) E) → IfOk r (λ found. option_map meant found ≡ item_in bytes)
    → IfOk r (λ found. IfSome found (λ i. IsLineOf bytes (meant i)))
read_found meant bytes (Ok None) h = tt
read_found meant bytes (Ok (Some x)) h = says bytes (meant x) (sym h)
read_found meant bytes (Err e) h = tt

pub read_only : {X E : Type 0} (meant : X → Item Rational) (bytes : List ℕ) (r : Result (Option X) E) → IfOk r (λ found. option_map meant found ≡ item_in bytes)
    → (i : Item Rational) → IsLineOf bytes i → IfOk r (λ found. option_map meant found ≡ Some i)
read_only meant bytes (Ok found) h i is = h ∙ is_said bytes i is
read_only meant bytes (Err x) h i is = tt

same_text : (items : List (Item Rational)) → joined_text items ≡ text_of items
same_text [] = refl
same_text (i ∷ items) = ap₂ ◌++◌ (same_line i) (same_text items)

all_fields : (items : List (Item Rational)) → All HasLine items → AllByRecursion HasFields items
all_fields [] all = tt
all_fields (i ∷ items) all = (has_fields i (All-head HasLine i items all), all_fields items (All-tail HasLine i items all))

all_lines : (items : List (Item Rational)) → AllByRecursion HasFields items → All HasLine items
all_lines [] all = All-nil HasLine
all_lines (i ∷ items) all = All-cons HasLine i items (has_line i all.0) (all_lines items all.1)

-- the lines of the text of items say these items
pub text_says : (items : List (Item Rational)) → All HasLine items → text_items (text_of items) ≡ map (λ i. Some i) items
text_says items all = ap text_items (sym (same_text items)) ∙ text_again items (all_fields items all)

-- and a text whose lines say items is their text
pub said_text : (bytes : List ℕ) (items : List (Item Rational)) → text_items bytes ≡ map (λ i. Some i) items → All HasLine items × (bytes ≡ text_of items)
said_text bytes items e =
    let read = text_read bytes items e in
    (all_lines items read.0, read.1 ∙ same_text items)
