-- Where lines end in the bytes of a text, and how the text in the second form is put together.
use Rattle.std.proofs.Common.{◌≡◌, ◌∙◌, ◌<◌, ◌≤◌, ◌+◌, ◌-◌, ap, sym, refl, ℕ, suc, Bool, true, false, cond, List, ◌++◌, length, take, drop, position, Option, Some, None, arith, append_assoc}
use Rattle.std.specs.Prelude.{nat_lt}
use Rattle.std.specs.List.{position_or_len}
use Rattle.std.proofs.lemmas.Bool.{ltb-true, ltb-false}
use Rattle.std.proofs.lemmas.List.{drop-drop}
use Rattle.npp_net.specs.Network.{Network}
use Rattle.npp_tree.specs.declared.item.Item.TheVariants as item
use Rattle.npp_tree.specs.Lines.{instance_lines}
use Rattle.npp_report.specs.Lines.{item_line, text_of}
use Rattle.npp_cert_text.specs.Lines.{is_line_feed}
use Rattle.npp_upgrade.specs.Splice.{line_end, lines_end, named_text}
use Rattle.npp_upgrade.proofs.ShiftedLemmas.{same_said}

-- ---- the first line

module _ (bytes : List ℕ) where
  abbrev place_of : Bool → Option ℕ
  place_of found = cond found (Some (position_or_len is_line_feed bytes)) None

  ends_behind : (found : Bool) (place : ℕ) → nat_lt (position_or_len is_line_feed bytes) (length bytes) ≡ found → ◌≡◌ {A = Option ℕ} (Some place) (place_of found) → place + 1 ≡ line_end bytes
  ends_behind true place test e =
      let same : place ≡ position_or_len is_line_feed bytes = same_said place (position_or_len is_line_feed bytes) e in
      let low : position_or_len is_line_feed bytes < length bytes = ltb-true (position_or_len is_line_feed bytes) (length bytes) test in
      omega (arith, same, low)
  ends_behind false place test e = absurd cc

  ends_open : (found : Bool) → nat_lt (position_or_len is_line_feed bytes) (length bytes) ≡ found → ◌≡◌ {A = Option ℕ} None (place_of found) → length bytes ≡ line_end bytes
  ends_open true test e = absurd cc
  ends_open false test e =
      let high : length bytes ≤ position_or_len is_line_feed bytes = ltb-false (position_or_len is_line_feed bytes) (length bytes) test in
      omega (arith, high)

  -- behind its line feed
  pub end_behind : (place : ℕ) → ◌≡◌ {A = Option ℕ} (Some place) (position is_line_feed bytes) → place + 1 ≡ line_end bytes
  end_behind place e = ends_behind (nat_lt (position_or_len is_line_feed bytes) (length bytes)) place refl e

  -- at the end, where there is none
  pub end_open : ◌≡◌ {A = Option ℕ} None (position is_line_feed bytes) → length bytes ≡ line_end bytes
  end_open e = ends_open (nat_lt (position_or_len is_line_feed bytes) (length bytes)) refl e

-- ---- the first lines

-- as many of them as were passed, and those to come
abbrev pub HasPassed : ℕ → List ℕ → ℕ → ℕ → Type 0
HasPassed count bytes passed end = lines_end count bytes ≡ end + lines_end (count - passed) (drop end bytes)

module _ (count : ℕ) (bytes : List ℕ) where
  pub none_passed : HasPassed count bytes 0 0
  none_passed =
      let all : count ≡ count - 0 = omega arith in
      let same : lines_end (count - 0) bytes ≡ 0 + lines_end (count - 0) bytes = omega arith in
      ap (λ (k : ℕ). lines_end k bytes) all ∙ same

  grouped : (a b d : ℕ) → a + (b + d) ≡ (a + b) + d
  grouped a b d = omega arith

  pub one_passed : (passed end step : ℕ) → passed < count → step ≡ line_end (drop end bytes) → HasPassed count bytes passed end → HasPassed count bytes (passed + 1) (end + step)
  unfolding lines_end
  one_passed passed end step more is e =
      let size : count - passed ≡ suc (count - (passed + 1)) = omega (arith, more) in
      e
      ∙ ap (λ (k : ℕ). end + lines_end k (drop end bytes)) size
      ∙ ap (λ (t : List ℕ). end + (line_end (drop end bytes) + lines_end (count - (passed + 1)) t)) (drop-drop (line_end (drop end bytes)) end bytes)
      ∙ grouped end (line_end (drop end bytes)) (lines_end (count - (passed + 1)) (drop (end + line_end (drop end bytes)) bytes))
      ∙ ap (λ (s : ℕ). (end + s) + lines_end (count - (passed + 1)) (drop (end + s) bytes)) (sym is)

  pub all_passed : (passed end : ℕ) → count ≤ passed → HasPassed count bytes passed end → end ≡ lines_end count bytes
  unfolding lines_end
  all_passed passed end none e =
      let zero : count - passed ≡ 0 = omega (arith, none) in
      let rest : end + lines_end (count - passed) (drop end bytes) ≡ end + lines_end 0 (drop end bytes) = ap (λ (k : ℕ). end + lines_end k (drop end bytes)) zero in
      let all : lines_end count bytes ≡ end + 0 = e ∙ rest in
      omega (arith, all)

-- ---- the parts, one after another

parts_joined : (t a b m d : List ℕ) → (((t ++ a) ++ b) ++ m) ++ d ≡ t ++ (a ++ ((b ++ m) ++ d))
parts_joined t a b m d = simp append_assoc refl

pub named_by_parts : (net : Network) (rest : List ℕ) (end : ℕ) (old first second third new : List ℕ) → end ≡ lines_end 5 rest
    → first ≡ old ++ item_line item.HeaderTwo → second ≡ first ++ take end rest → third ≡ second ++ text_of (instance_lines net) → new ≡ third ++ drop end rest
    → new ≡ old ++ named_text net rest
named_by_parts net rest end old first second third new is e f g h =
    h
    ∙ ap (λ (t : List ℕ). t ++ drop end rest) (g ∙ ap (λ (t : List ℕ). t ++ text_of (instance_lines net)) (f ∙ ap (λ (t : List ℕ). t ++ take end rest) e))
    ∙ parts_joined old (item_line item.HeaderTwo) (take end rest) (text_of (instance_lines net)) (drop end rest)
    ∙ ap (λ (k : ℕ). old ++ (item_line item.HeaderTwo ++ ((take k rest ++ text_of (instance_lines net)) ++ drop k rest))) is
