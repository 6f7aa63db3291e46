-- Some bytes are a tolls text or have a refused line, not both, and there is one such line.
use Rattle.std.proofs.Common.{◌≡◌, ◌≢◌, ◌⊎◌, inl, inr, ℕ, zero, suc, ◌+◌, ◌<◌, ◌≤◌, ◌==◌, All, true, not, List, [], ◌∷◌, ◌++◌, length, take, drop, get_or, codes, sym, ◌∙◌, ap, subst, arith, refl, eq-eqb, append_assoc, append-nil, position, Some}
use Rattle.std.specs.List.{concat, list_all}
use Rattle.std.specs.Fmt.{decimal}
use Rattle.std.proofs.Math.Seq.{drop-cons}
use Rattle.std.proofs.lemmas.Bool.{cases_lt}
use Rattle.std.proofs.lemmas.List.{drop_all}
use Rattle.std.proofs.lemmas.List.Elements.{All-append, All-cons}
use Rattle.std.proofs.lemmas.List.Sums.{AllPass-from_list_all}
use Rattle.npp_frac.specs.Rational.{Rational}
use Rattle.npp_frac.specs.FractionText.{fraction_text}
use Rattle.npp_net.specs.declared.types.NetArc.{NetArc}
use Rattle.npp_net.specs.Network.{toll_count}
use Rattle.npp_toll_text.specs.TollsText.{IsTollsText, header, toll_line, toll_lines}
use Rattle.npp_toll_text.specs.Refused.{IsRefusedLine, MayStand}
use Rattle.npp_toll_text.proofs.ByteLemmas.{position_behind, parts_at}
use Rattle.npp_toll_text.proofs.TextLemmas.{number_lacks_line_feed, toll_lacks_line_feed}
use Rattle.npp_toll_text.proofs.ReadingLemmas.{lines_stand}

-- it ends with a line feed and has no other
record IsWholeLine (line : List ℕ) : Type 0 where
  pub text : List ℕ
  pub lacks : All (λ b. b ≢ 10) text
  pub ends : line ≡ text ++ 10 ∷ []

lacks_by_test : (xs : List ℕ) → list_all (λ b. not (b == 10)) xs ≡ true → All (λ b. b ≢ 10) xs
lacks_by_test xs test k d l e =
    let passes : not (get_or xs k d == 10) ≡ true = AllPass-from_list_all (λ b. not (b == 10)) xs test k d l in
    let same : (get_or xs k d == 10) ≡ true = eq-eqb _ _ e in
    cc

header_is_whole : IsWholeLine header
header_is_whole = record { text = codes "npp-tolls 1"; lacks = lacks_by_test (codes "npp-tolls 1") refl; ends = refl }

-- a line that may stand in the text
stands_whole : (arcs : List NetArc) (i : ℕ) (line : List ℕ) → toll_count arcs ≤ 128 → MayStand arcs i line → IsWholeLine line
stands_whole arcs zero line few e = subst IsWholeLine (sym e) header_is_whole
stands_whole arcs (suc a) line few s =
    let lacks = All-append (λ b. b ≢ 10) (codes "toll " ++ decimal a) (32 ∷ fraction_text s.0)
    (All-append (λ b. b ≢ 10) (codes "toll ") (decimal a) (lacks_by_test (codes "toll ") refl) (number_lacks_line_feed a (let l = s.1 in omega arith)))
    (All-cons (λ b. b ≢ 10) 32 (fraction_text s.0) (λ e. omega (arith, e)) (toll_lacks_line_feed s.0 s.2.fits)) in
    record { text = codes "toll " ++ decimal a ++ 32 ∷ fraction_text s.0; lacks = lacks; ends = s.3 }

-- two whole lines that begin one text are the same
first_same : (l m a b : List ℕ) → IsWholeLine l → IsWholeLine m → l ++ a ≡ m ++ b → (l ≡ m) × (a ≡ b)
first_same l m a b x y e =
    let left : l ++ a ≡ x.text ++ 10 ∷ a = ap (λ t. t ++ a) x.ends ∙ append_assoc x.text (10 ∷ []) a in
    let right : l ++ a ≡ y.text ++ 10 ∷ b = e ∙ ap (λ t. t ++ b) y.ends ∙ append_assoc y.text (10 ∷ []) b in
    let one : Some (length x.text) ≡ Some (length y.text) =
    sym (ap (λ t. position (λ c. c == 10) t) left ∙ position_behind 10 x.text a x.lacks) ∙ ap (λ t. position (λ c. c == 10) t) right ∙ position_behind 10 y.text b y.lacks in
    let size : length x.text ≡ length y.text = cc in
    let here = parts_at (l ++ a) x.text a 10 (length x.text) left refl in
    let there = parts_at (l ++ a) y.text b 10 (length x.text) right size in
    (x.ends ∙ ap (λ t. t ++ 10 ∷ []) (sym here.0 ∙ there.0) ∙ sym y.ends, sym here.1 ∙ there.1)

-- and so are more of them
more_same : (ls ms : List (List ℕ)) (a b : List ℕ) → ((i : ℕ) → i < length ls → IsWholeLine (get_or ls i [])) → ((i : ℕ) → i < length ms → IsWholeLine (get_or ms i []))
    → length ls ≤ length ms → concat ls ++ a ≡ concat ms ++ b → a ≡ concat (drop (length ls) ms) ++ b
more_same [] ms a b x y l e = e
more_same (l ∷ ls) [] a b x y le e = absurd (omega arith)
more_same (l ∷ ls) (m ∷ ms) a b x y le e =
    let first = first_same l m (concat ls ++ a) (concat ms ++ b) (x 0 (omega arith)) (y 0 (omega arith)) (sym (append_assoc l (concat ls) a) ∙ e ∙ append_assoc m (concat ms) b) in
    more_same ls ms a b (λ i k. x (suc i) (omega arith)) (λ i k. y (suc i) (omega arith)) (omega arith) first.1

module _ (arcs : List NetArc) (few : toll_count arcs ≤ 128) (bytes : List ℕ) where
  -- no lines that all may stand go beyond a refused line
  not_beyond : (number : ℕ) → (r : IsRefusedLine arcs bytes number) → (ls : List (List ℕ)) (rest : List ℕ) → bytes ≡ concat ls ++ rest
      → ((i : ℕ) → i < length ls → MayStand arcs i (get_or ls i [])) → length r.above < length ls → ⊥
  not_beyond number r ls rest e stand l =
      let is = more_same r.above ls r.rest rest (λ i k. stands_whole arcs i (get_or r.above i []) few (r.stand i k))
      (λ i k. stands_whole arcs i (get_or ls i []) few (stand i k)) (omega arith) (sym r.parts ∙ e) in
      let next : r.rest ≡ get_or ls (length r.above) [] ++ (concat (drop (suc (length r.above)) ls) ++ rest) =
      is ∙ ap (λ ms. concat ms ++ rest) (drop-cons ls (length r.above) [] l) ∙ append_assoc (get_or ls (length r.above) []) (concat (drop (suc (length r.above)) ls)) rest in
      r.next (get_or ls (length r.above) []) (concat (drop (suc (length r.above)) ls) ++ rest) next (stand (length r.above) l)

  pub one_refused_line : (m n : ℕ) → IsRefusedLine arcs bytes m → IsRefusedLine arcs bytes n → m ≡ n
  one_refused_line m n r s =
      let low : length r.above < length s.above → ⊥ = λ l. not_beyond m r s.above s.rest s.parts s.stand l in
      let high : length s.above < length r.above → ⊥ = λ l. not_beyond n s r.above r.rest r.parts r.stand l in
      omega (arith, low, high, r.is_next, s.is_next)

  -- not more lines than the header and one for each toll arc may stand
  above_few : (ls : List (List ℕ)) → ((i : ℕ) → i < length ls → MayStand arcs i (get_or ls i [])) → length ls ≤ toll_count arcs + 1
  above_few [] stand = omega arith
  above_few (l ∷ []) stand = omega arith
  above_few (l ∷ k ∷ ls) stand = let last = stand (suc (length ls)) (omega arith) in let within = last.1 in omega arith

  pub text_or_refused : (tolls : List Rational) (number : ℕ) → IsTollsText arcs bytes tolls → IsRefusedLine arcs bytes number → ⊥
  text_or_refused tolls number t r =
      let stand = lines_stand arcs tolls t.allowed (omega (arith, t.count)) in
      let size : length (header ∷ toll_lines 0 tolls) ≡ toll_count arcs + 1 = omega (arith, stand.0, t.count) in
      let text : bytes ≡ concat (header ∷ toll_lines 0 tolls) ++ [] = t.text ∙ sym (append-nil (concat (header ∷ toll_lines 0 tolls))) in
      let not_less : length r.above < length (header ∷ toll_lines 0 tolls) → ⊥ = λ l. not_beyond number r (header ∷ toll_lines 0 tolls) [] text stand.1 l in
      let not_more = above_few r.above r.stand in
      let same : length (header ∷ toll_lines 0 tolls) ≡ length r.above = omega arith in
      let none : [] ≡ concat (drop (length (header ∷ toll_lines 0 tolls)) r.above) ++ r.rest =
      more_same (header ∷ toll_lines 0 tolls) r.above [] r.rest
      (λ i k. stands_whole arcs i (get_or (header ∷ toll_lines 0 tolls) i []) few (stand.1 i k))
      (λ i k. stands_whole arcs i (get_or r.above i []) few (r.stand i k)) (omega arith) (sym text ∙ r.parts) in
      let empty : r.rest ≡ [] = sym (none ∙ ap (λ ls. concat ls ++ r.rest) (drop_all (length (header ∷ toll_lines 0 tolls)) r.above (omega arith))) in
      elim r.left [ inl some ↦ some empty | inr missing ↦ absurd (omega arith) ]
