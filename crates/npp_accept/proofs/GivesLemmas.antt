-- Lines that are read as they were written: what they say, with the lines behind them left over.
use Rattle.std.specs.Prelude.{slice_index_or, ◌<◌}
use Rattle.std.proofs.Common.{◌≡◌, ◌∙◌, ◌+◌, suc, ap, sym, subst, ℕ, List, [], ◌∷◌, ◌++◌, length, Result, Ok, arith, append-nil, append_assoc, length-append}
use Rattle.npp_frac.specs.Rational.{Rational}
use Rattle.npp_net.specs.Network.{Network}
use Rattle.npp_tree.specs.declared.item.Item.{Item}
use Rattle.npp_tree.specs.Lines.{numbered}
use Rattle.npp_check.specs.declared.refusal.Rule.{Rule}
use Rattle.npp_check.specs.declared.refusal.CheckRefusal.{CheckRefusal}
use Rattle.npp_check.specs.Measures.{Measures}
use Rattle.npp_check.specs.Reads.{Reads, Lines, done, line, last_line, more, at_line, read_behind, ◌>>=◌}
use Rattle.npp_check.specs.Verdict.{PairValue, certificate, verdict, whole}

-- whichever lines stand behind these, they say x, and those are left
abbrev pub Gives : {X : Type 0} → Reads X → List (Item Rational) → X → Type 0
Gives read items x =
    (number : ℕ) (rest : List (Item Rational)) → read (record { number = number; items = items ++ rest }) ≡ Ok (x, record { number = number + length items; items = rest })

at_number : {X : Type 0} (x : X) (a b : ℕ) (rest : List (Item Rational)) → a ≡ b → ◌≡◌ {A = Result (X × Lines) CheckRefusal} (Ok (x, record { number = a; items = rest })) (Ok (x, record { number = b; items = rest }))
at_number x a b rest e = ap (λ n. Ok (x, record { number = n; items = rest })) e

pub gives_done : {X : Type 0} (x : X) → Gives (done x) [] x
gives_done x number rest = at_number x number (number + 0) rest (omega arith)

pub gives_line : {X : Type 0} (judge : Item Rational → Result X Rule) (i : Item Rational) (x : X) → judge i ≡ Ok x → Gives (line judge) (i ∷ []) x
gives_line judge i x e number rest = ap (λ r. at_line number r (record { number = number + 1; items = rest })) e

pub gives_last : {X : Type 0} (judged : Result X Rule) (x : X) → judged ≡ Ok x → Gives (last_line judged) [] x
gives_last judged x e number rest = rw e (at_number x number (number + 0) rest (omega arith))

pub gives_bind : {X Y : Type 0} (first : Reads X) (next : X → Reads Y) (xs ys : List (Item Rational)) (x : X) (y : Y) → Gives first xs x → Gives (next x) ys y → Gives (first >>= next) (xs ++ ys) y
gives_bind first next xs ys x y a b number rest =
    ap (λ items. read_behind (first (record { number = number; items = items })) next) (append_assoc xs ys rest)
    ∙ ap (λ r. read_behind r next) (a number (ys ++ rest))
    ∙ b (number + length xs) rest
    ∙ at_number y (number + length xs + length ys) (number + length (xs ++ ys)) rest (omega (arith, length-append xs ys))

pub gives_as : {X : Type 0} (read : Reads X) (items : List (Item Rational)) (x y : X) → x ≡ y → Gives read items x → Gives read items y
gives_as read items x y e h = subst (λ z. Gives read items z) e h

-- ---- lists of lines

module _ {X : Type 0} (judge : ℕ → Item Rational → Result X Rule) (make : ℕ → X → Item Rational) (d : X) where
  abbrev rest_of : List X → ℕ → Reads (List X)
  rest_of above n = more (λ a. line (judge (length a))) n above

  gives_numbered : (above xs : List X) → ((i : ℕ) → i < length xs → judge (length above + i) (make (length above + i) (slice_index_or xs i d)) ≡ Ok (slice_index_or xs i d))
      → Gives (rest_of above (length xs)) (numbered make (length above) xs) (above ++ xs)
  gives_numbered above [] each = λ number rest.
      at_number above number (number + 0) rest (omega arith) ∙ ap (λ a. Ok (a, record { number = number + 0; items = rest })) (sym (append-nil above))
  gives_numbered above (x ∷ xs) each = λ number rest.
      let here : length above + 0 ≡ length above = omega arith in
      let longer : length (above ++ x ∷ []) ≡ length above + 1 = length-append above (x ∷ []) in
      let first : judge (length above) (make (length above) x) ≡ Ok x = subst (λ (n : ℕ). judge n (make n x) ≡ Ok x) here (each 0 (omega arith)) in
      let later : Gives (rest_of (above ++ x ∷ []) (length xs)) (numbered make (length (above ++ x ∷ [])) xs) ((above ++ x ∷ []) ++ xs) =
      gives_numbered (above ++ x ∷ []) xs (λ i lt.
      let next : length above + suc i ≡ length (above ++ x ∷ []) + i = omega (arith, longer) in
      subst (λ (n : ℕ). judge n (make n (slice_index_or xs i d)) ≡ Ok (slice_index_or xs i d)) next (each (suc i) (omega (arith, lt)))) in
      let there : Gives (rest_of (above ++ x ∷ []) (length xs)) (numbered make (length above + 1) xs) ((above ++ x ∷ []) ++ xs) =
      subst (λ (n : ℕ). Gives (rest_of (above ++ x ∷ []) (length xs)) (numbered make n xs) ((above ++ x ∷ []) ++ xs)) longer later in
      gives_bind (line (judge (length above))) (λ y. rest_of (above ++ y ∷ []) (length xs)) (make (length above) x ∷ []) (numbered make (length above + 1) xs) x ((above ++ x ∷ []) ++ xs)
      (gives_line (judge (length above)) (make (length above) x) x first) there number rest
      ∙ ap (λ a. Ok (a, record { number = number + length (make (length above) x ∷ numbered make (length above + 1) xs); items = rest })) (append_assoc above (x ∷ []) xs)

  -- a line for each member of a list, judged by its number
  pub gives_each : (xs : List X) → ((i : ℕ) → i < length xs → judge i (make i (slice_index_or xs i d)) ≡ Ok (slice_index_or xs i d)) → Gives (rest_of [] (length xs)) (numbered make 0 xs) xs
  gives_each xs each =
      gives_numbered [] xs (λ i lt. let e : i ≡ length {A = X} [] + i = omega arith in subst (λ (n : ℕ). judge n (make n (slice_index_or xs i d)) ≡ Ok (slice_index_or xs i d)) e (each i lt))

-- ---- a whole certificate

pub gives_whole : (m : ℕ) (net : Network) (f : Measures) (items : List (Item Rational)) (pair : PairValue) → Gives (certificate m net f) items pair → verdict m net f items ≡ Ok pair
gives_whole m net f items pair h =
    ap (λ all. whole (certificate m net f (record { number = 1; items = all }))) (sym (append-nil items)) ∙ ap whole (h 1 [])
