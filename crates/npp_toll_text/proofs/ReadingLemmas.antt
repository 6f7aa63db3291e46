-- From one line of a tolls text to the next.
use Rattle.std.proofs.Common.{◌≡◌, ◌≢◌, ◌⊎◌, inl, inr, ℕ, zero, suc, ◌+◌, ◌<◌, ◌≤◌, List, [], ◌∷◌, ◌++◌, length, take, drop, get_or, sym, ◌∙◌, ap, subst, arith, refl, add-one, add-zero, zero-add, append_assoc, append-nil, length-append}
use Rattle.std.specs.List.{concat}
use Rattle.std.proofs.Math.ListN.{get_or-append}
use Rattle.std.proofs.Math.Seq.{drop-cons, get_or-append_seam}
use Rattle.std.proofs.lemmas.Bool.{cases_lt}
use Rattle.std.proofs.lemmas.List.{append_cancel_left, take_all, take_more, drop_all}
use Rattle.std.proofs.lemmas.List.Folds.{concat-append}
use Rattle.npp_frac.specs.Rational.{Rational, zero_ℚ}
use Rattle.npp_net.specs.declared.types.NetArc.{NetArc}
use Rattle.npp_net.specs.Network.{toll_count}
use Rattle.npp_toll_text.specs.Allowed.{IsToll, AreTolls}
use Rattle.npp_toll_text.specs.TollsText.{IsTollsText, header, toll_line, toll_lines, tolls_text}
use Rattle.npp_toll_text.specs.Refused.{IsRefusedLine, MayStand}

toll_lines-append : (n : ℕ) (ts us : List Rational) → toll_lines n (ts ++ us) ≡ toll_lines n ts ++ toll_lines (n + length ts) us
toll_lines-append n [] us = ap (λ m. toll_lines m us) (sym (add-zero n))
toll_lines-append n (t ∷ ts) us =
    let same : n + 1 + length ts ≡ n + suc (length ts) = omega arith in
    ap (λ ls. toll_line n t ∷ ls) (toll_lines-append (n + 1) ts us ∙ ap (λ m. toll_lines (n + 1) ts ++ toll_lines m us) same)

length-toll_lines : (n : ℕ) (ts : List Rational) → length (toll_lines n ts) ≡ length ts
length-toll_lines n [] = refl
length-toll_lines n (t ∷ ts) = ap suc (length-toll_lines (n + 1) ts)

-- the line of each toll stands at its place
toll_line_at : (n : ℕ) (ts : List Rational) (a : ℕ) → a < length ts → get_or (toll_lines n ts) a [] ≡ toll_line (n + a) (get_or ts a zero_ℚ)
toll_line_at n [] a l = absurd (omega arith)
toll_line_at n (t ∷ ts) zero l = ap (λ m. toll_line m t) (sym (add-zero n))
toll_line_at n (t ∷ ts) (suc a) l =
    let same : n + 1 + a ≡ n + suc a = omega arith in
    toll_line_at (n + 1) ts a (omega arith) ∙ ap (λ m. toll_line m (get_or ts a zero_ℚ)) same

-- one toll more
tolls_text_more : (ts : List Rational) (t : Rational) → tolls_text (ts ++ t ∷ []) ≡ tolls_text ts ++ toll_line (length ts) t
tolls_text_more ts t =
    ap (λ ls. concat (header ∷ ls)) (toll_lines-append 0 ts (t ∷ []))
    ∙ concat-append (header ∷ toll_lines 0 ts) (toll_line (0 + length ts) t ∷ [])
    ∙ ap (λ x. tolls_text ts ++ x) (append-nil (toll_line (0 + length ts) t))
    ∙ ap (λ n. tolls_text ts ++ toll_line n t) (zero-add (length ts))

module _ (arcs : List NetArc) where
  allowed_more : (ts : List Rational) (t : Rational) → AreTolls arcs ts → IsToll arcs (length ts) t → AreTolls arcs (ts ++ t ∷ [])
  allowed_more ts t allowed last a l = elim (cases_lt a (length ts)) [
    | inl before ↦ let P : Rational → Type 0 = λ q. IsToll arcs a q in subst P (sym (get_or-append ts (t ∷ []) zero_ℚ a before)) (allowed a before)
    | inr behind ↦
        let is : length ts ≡ a = omega (arith, length-append ts (t ∷ [])) in
        let P : ℕ → Type 0 = λ n. IsToll arcs n (get_or (ts ++ t ∷ []) n zero_ℚ) in
        let Q : Rational → Type 0 = λ q. IsToll arcs (length ts) q in
        subst P is (subst Q (sym (get_or-append_seam ts t [] zero_ℚ)) last)
  ]

  -- the lines of tolls may stand where they do
  pub lines_stand : (tolls : List Rational) → AreTolls arcs tolls → length tolls ≤ toll_count arcs
      → (length (toll_lines 0 tolls) ≡ length tolls) × ((i : ℕ) → i < length (header ∷ toll_lines 0 tolls) → MayStand arcs i (get_or (header ∷ toll_lines 0 tolls) i []))
  lines_stand tolls allowed few = (length-toll_lines 0 tolls, stand)
    where
      stand : (i : ℕ) → i < length (header ∷ toll_lines 0 tolls) → MayStand arcs i (get_or (header ∷ toll_lines 0 tolls) i [])
      stand zero k = refl
      stand (suc a) k =
          let within : a < length tolls = omega (arith, length-toll_lines 0 tolls) in
          (get_or tolls a zero_ℚ, omega arith, allowed a within, toll_line_at 0 tolls a within ∙ ap (λ m. toll_line m (get_or tolls a zero_ℚ)) (zero-add a))

  -- the first n tolls are read, and the rest is still to be read
  pub record HasRead (bytes : List ℕ) (n : ℕ) (tolls : List Rational) (rest : List ℕ) : Type 0 where
    pub count : length tolls ≡ n
    pub allowed : AreTolls arcs tolls
    pub parts : bytes ≡ tolls_text tolls ++ rest
    pub each : (ts : List Rational) → IsTollsText arcs bytes ts → (take n ts ≡ tolls) × (rest ≡ concat (toll_lines n (drop n ts)))

  module _ (bytes : List ℕ) where
    pub read_none : (rest : List ℕ) → bytes ≡ header ++ rest → HasRead bytes 0 [] rest
    read_none rest e = record {
      count = refl;
      allowed = λ a l. absurd (omega arith);
      parts = e ∙ ap (λ h. h ++ rest) (sym (append-nil header));
      each = λ ts t. (refl, append_cancel_left header rest (concat (toll_lines 0 ts)) (sym e ∙ t.text));
    }

    -- the line of the next toll begins the rest of the one text that there may be
    next_line : (n : ℕ) (tolls : List Rational) (rest : List ℕ) → HasRead bytes n tolls rest → n < toll_count arcs
        → (ts : List Rational) → IsTollsText arcs bytes ts
        → IsToll arcs n (get_or ts n zero_ℚ) × (rest ≡ toll_line n (get_or ts n zero_ℚ) ++ concat (toll_lines (n + 1) (drop (n + 1) ts)))
    next_line n tolls rest h l ts t =
        let within : n < length ts = omega (arith, t.count) in
        (t.allowed n within, (h.each ts t).1 ∙ ap (λ us. concat (toll_lines n us)) (drop-cons ts n zero_ℚ within ∙ ap (λ m. get_or ts n zero_ℚ ∷ drop m ts) (sym (add-one n))))

    -- where the next line may not stand there is no such text
    pub no_text : (n : ℕ) (tolls : List Rational) (rest : List ℕ) → HasRead bytes n tolls rest → n < toll_count arcs
        → ((value : Rational) (after : List ℕ) → IsToll arcs n value → rest ≡ toll_line n value ++ after → ⊥)
        → (ts : List Rational) → IsTollsText arcs bytes ts → ⊥
    no_text n tolls rest h l none ts t =
        let line = next_line n tolls rest h l ts t in
        none (get_or ts n zero_ℚ) (concat (toll_lines (n + 1) (drop (n + 1) ts))) line.0 line.1

    pub read_more : (n : ℕ) (tolls : List Rational) (rest : List ℕ) (toll : Rational) (after : List ℕ) → HasRead bytes n tolls rest → n < toll_count arcs
        → IsToll arcs n toll → rest ≡ toll_line n toll ++ after
        → ((value : Rational) (behind : List ℕ) → IsToll arcs n value → rest ≡ toll_line n value ++ behind → (toll ≡ value) × (after ≡ behind))
        → HasRead bytes (n + 1) (tolls ++ toll ∷ []) after
    read_more n tolls rest toll after h l allowed e only =
        let P : ℕ → Type 0 = λ m. IsToll arcs m toll in
        record {
          count = omega (arith, length-append tolls (toll ∷ []), h.count);
          allowed = allowed_more tolls toll h.allowed (subst P (sym h.count) allowed);
          parts = h.parts ∙ ap (λ x. tolls_text tolls ++ x) e
              ∙ sym (append_assoc (tolls_text tolls) (toll_line n toll) after)
              ∙ ap (λ m. tolls_text tolls ++ toll_line m toll ++ after) (sym h.count)
              ∙ ap (λ x. x ++ after) (sym (tolls_text_more tolls toll));
          each = λ ts t.
              let line = next_line n tolls rest h l ts t in
              let same = only (get_or ts n zero_ℚ) (concat (toll_lines (n + 1) (drop (n + 1) ts))) line.0 line.1 in
              let taken : take (n + 1) ts ≡ take n ts ++ get_or ts n zero_ℚ ∷ [] = take_more ts n zero_ℚ (omega (arith, t.count)) in
              (taken ∙ ap (λ us. us ++ get_or ts n zero_ℚ ∷ []) (h.each ts t).0 ∙ ap (λ q. tolls ++ q ∷ []) (sym same.0), same.1);
        }

    pub whole_text : (n : ℕ) (tolls : List Rational) (rest : List ℕ) → HasRead bytes n tolls rest → n ≡ toll_count arcs → rest ≡ [] → IsTollsText arcs bytes tolls
    whole_text n tolls rest h all none = record {
      count = h.count ∙ all;
      allowed = h.allowed;
      text = h.parts ∙ ap (λ x. tolls_text tolls ++ x) none ∙ append-nil (tolls_text tolls);
    }

    pub only_text : (n : ℕ) (tolls : List Rational) (rest : List ℕ) → HasRead bytes n tolls rest → n ≡ toll_count arcs
        → (ts : List Rational) → IsTollsText arcs bytes ts → (tolls ≡ ts) × (rest ≡ [])
    only_text n tolls rest h all ts t =
        let size : length ts ≤ n = omega (arith, t.count) in
        (sym (h.each ts t).0 ∙ take_all n ts size, (h.each ts t).1 ∙ ap (λ us. concat (toll_lines n us)) (drop_all n ts size))

    pub refused_first : ((rest : List ℕ) → bytes ≢ header ++ rest) → IsRefusedLine arcs bytes 1
    refused_first none = record {
      above = [];
      rest = bytes;
      parts = refl;
      stand = λ i l. absurd (omega arith);
      next = λ line after e stands. none after (e ∙ ap (λ l. l ++ after) stands);
      left = inr (omega arith);
      is_next = refl;
    }

    pub refused_next : (n : ℕ) (tolls : List Rational) (rest : List ℕ) → HasRead bytes n tolls rest → n ≤ toll_count arcs
        → ((value : Rational) (after : List ℕ) → n < toll_count arcs → IsToll arcs n value → rest ≢ toll_line n value ++ after)
        → (rest ≢ []) ⊎ (n < toll_count arcs)
        → IsRefusedLine arcs bytes (n + 2)
    refused_next n tolls rest h l none left =
        let size : length (toll_lines 0 tolls) ≡ n = length-toll_lines 0 tolls ∙ h.count in
        record {
          above = header ∷ toll_lines 0 tolls;
          rest = rest;
          parts = h.parts;
          stand = (lines_stand tolls h.allowed (omega (arith, h.count))).1;
          next = λ line after e stands.
              let P : ℕ → Type 0 = λ m. MayStand arcs (suc m) line in
              let s = subst P size stands in
              none s.0 after s.1 s.2 (e ∙ ap (λ x. x ++ after) s.3);
          left = elim left [ inl some ↦ inl some | inr more ↦ inr (omega arith) ];
          is_next = omega arith;
        }
