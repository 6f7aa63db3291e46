-- Whole lines are found again in a text, so the bytes of a certificate in the second form are the text of its items.
use Rattle.std.proofs.Common.{◌≡◌, ◌∙◌, ◌+◌, ◌==◌, ◌≤◌, ap, ap₂, sym, refl, subst, ℕ, suc, Bool, false, not, cond, List, [], ◌∷◌, ◌++◌, length, take, drop, min, All, arith, append_assoc, length-append}
use Rattle.std.specs.List.{position_or_len}
use Rattle.std.proofs.Math.Seq.{take-append_seam, drop-append_seam}
use Rattle.std.proofs.lemmas.Grind.{flat_map-append}
use Rattle.std.proofs.lemmas.List.Elements.{All-head, All-tail, All-take}
use Rattle.npp_frac.specs.Rational.{Rational}
use Rattle.npp_net.specs.Network.{Network}
use Rattle.npp_tree.specs.declared.item.Item.{Item}
use Rattle.npp_tree.specs.declared.item.Item.TheVariants as item
use Rattle.npp_tree.specs.Lines.{instance_lines}
use Rattle.npp_report.specs.Lines.{item_line, text_of}
use Rattle.npp_cert_text.specs.Form.{HasLine}
use Rattle.npp_cert_text.specs.Lines.{is_line_feed}
use Rattle.npp_cert_text.proofs.ValueLemmas.{Lacks}
use Rattle.npp_cert_text.proofs.LineFields.{line_of}
use Rattle.npp_cert_text.proofs.InForm.{has_fields}
use Rattle.npp_cert_text.proofs.PlainLemmas.{line_lacks}
use Rattle.npp_cert_text.proofs.SameLine.{same_line}
use Rattle.npp_upgrade.specs.Splice.{line_end, lines_end, behind_lines, second_form}
use Rattle.npp_upgrade.specs.Upgraded.{upgraded}
use Rattle.npp_upgrade.proofs.UpgradedLemmas.{IsFirstForm, IsSecondForm}

-- ---- lines

-- the first line feed stands behind bytes that are none
feed_at : (bytes rest : List ℕ) → Lacks 10 bytes → position_or_len is_line_feed (bytes ++ 10 ∷ rest) ≡ length bytes
feed_at [] rest lacks = refl
feed_at (b ∷ bytes) rest lacks =
    let here : (b == 10) ≡ false = All-head (λ (x : ℕ). (x == 10) ≡ false) b bytes lacks in
    let later : position_or_len is_line_feed (bytes ++ 10 ∷ rest) ≡ length bytes = feed_at bytes rest (All-tail (λ (x : ℕ). (x == 10) ≡ false) b bytes lacks) in
    ap (λ (t : Bool). cond (not t) (1 + position_or_len is_line_feed (bytes ++ 10 ∷ rest)) 0) here ∙ omega (arith, later)

-- the line of an item is the first line
line_end_is : (i : Item Rational) (rest : List ℕ) → HasLine i → line_end (item_line i ++ rest) ≡ length (item_line i)
line_end_is i rest has =
    let same : item_line i ++ rest ≡ line_of i ++ 10 ∷ rest = ap (λ (t : List ℕ). t ++ rest) (sym (same_line i)) ∙ append_assoc (line_of i) (10 ∷ []) rest in
    let place : position_or_len is_line_feed (item_line i ++ rest) ≡ length (line_of i) = ap (position_or_len is_line_feed) same ∙ feed_at (line_of i) rest (line_lacks 10 (omega arith) i (has_fields i has).fits) in
    let size : length (item_line i) ≡ length (line_of i) + 1 = ap length (sym (same_line i)) ∙ length-append (line_of i) (10 ∷ []) in
    let all : length (item_line i ++ rest) ≡ length (item_line i) + length rest = length-append (item_line i) rest in
    let least : length (item_line i) ≤ length (item_line i ++ rest) = omega (arith, all) in
    let end : position_or_len is_line_feed (item_line i ++ rest) + 1 ≡ length (item_line i) = omega (arith, place, size) in
    lesser (position_or_len is_line_feed (item_line i ++ rest) + 1) (length (item_line i ++ rest)) (length (item_line i)) end least
  where
    lesser : (a b n : ℕ) → a ≡ n → n ≤ b → min a b ≡ n
    lesser a b n e le = omega (arith, e, le)

-- the lines of items are the first lines, as many as there are items
lines_end_is : (items : List (Item Rational)) (rest : List ℕ) → All HasLine items → lines_end (length items) (text_of items ++ rest) ≡ length (text_of items)
unfolding lines_end
lines_end_is [] rest all = refl
lines_end_is (i ∷ items) rest all =
    ap (lines_end (suc (length items))) (append_assoc (item_line i) (text_of items) rest)
    ∙ ap (λ (k : ℕ). k + lines_end (length items) (drop k (item_line i ++ (text_of items ++ rest)))) (line_end_is i (text_of items ++ rest) (All-head HasLine i items all))
    ∙ ap (λ (t : List ℕ). length (item_line i) + lines_end (length items) t) (drop-append_seam (item_line i) (text_of items ++ rest))
    ∙ ap (λ (k : ℕ). length (item_line i) + k) (lines_end_is items rest (All-tail HasLine i items all))
    ∙ sym (length-append (item_line i) (text_of items))

behind_is : (items : List (Item Rational)) (more rest : List ℕ) → All HasLine items → behind_lines (length items) more (text_of items ++ rest) ≡ text_of items ++ more ++ rest
behind_is items more rest all =
    ap (λ (k : ℕ). take k (text_of items ++ rest) ++ more ++ drop k (text_of items ++ rest)) (lines_end_is items rest all)
    ∙ ap₂ (λ (a b : List ℕ). a ++ more ++ b) (take-append_seam (text_of items) rest) (drop-append_seam (text_of items) rest)

-- ---- texts

module _ (net : Network) where
  -- with the lines of the head, of which five stand between the first and the place of the lines that name the instance
  text_with : (head more rest : List (Item Rational)) → length head ≡ 5 → All HasLine head
      → item_line item.HeaderTwo ++ behind_lines 5 (text_of more) (text_of (head ++ rest)) ≡ text_of (item.HeaderTwo ∷ (head ++ (more ++ rest)))
  text_with head more rest size all =
      let taken : behind_lines (length head) (text_of more) (text_of head ++ text_of rest) ≡ text_of head ++ text_of more ++ text_of rest = behind_is head (text_of more) (text_of rest) all in
      ap (λ (t : List ℕ). item_line item.HeaderTwo ++ t)
      (ap₂ (λ (n : ℕ) (t : List ℕ). behind_lines n (text_of more) t) (sym size) (flat_map-append item_line head rest)
      ∙ taken
      ∙ append_assoc (text_of head) (text_of more) (text_of rest)
      ∙ ap (λ (t : List ℕ). text_of head ++ t) (sym (flat_map-append item_line more rest))
      ∙ sym (flat_map-append item_line head (more ++ rest)))

  pub first_text : (items : List (Item Rational)) → IsFirstForm items → All HasLine items → second_form net (text_of items) ≡ text_of (upgraded net items)
  first_text items h all =
      let one : Item Rational = item.StatusIs h.status in
      let two : Item Rational = item.Width h.width in
      let three : Item Rational = item.Lower h.lower in
      let four : Item Rational = item.Upper h.upper in
      let five : Item Rational = item.Opened h.opened in
      let head : List (Item Rational) = one ∷ two ∷ three ∷ four ∷ five ∷ [] in
      let all_lines : All HasLine (item.Header ∷ one ∷ two ∷ three ∷ four ∷ five ∷ h.rest) = subst (λ (xs : List (Item Rational)). All HasLine xs) h.is all in
      let below : All HasLine (one ∷ two ∷ three ∷ four ∷ five ∷ h.rest) = All-tail HasLine item.Header (one ∷ two ∷ three ∷ four ∷ five ∷ h.rest) all_lines in
      ap (λ (xs : List (Item Rational)). second_form net (text_of xs)) h.is
      ∙ text_with head (instance_lines net) h.rest refl (All-take HasLine 5 (one ∷ two ∷ three ∷ four ∷ five ∷ h.rest) below)
      ∙ ap (λ (xs : List (Item Rational)). text_of (upgraded net xs)) (sym h.is)

  pub second_text : (items : List (Item Rational)) → IsSecondForm items → second_form net (text_of items) ≡ text_of (upgraded net items)
  second_text items h =
      ap (λ (xs : List (Item Rational)). second_form net (text_of xs)) h.is
      ∙ ap (λ (xs : List (Item Rational)). text_of (upgraded net xs)) (sym h.is)
