-- Where a byte first stands, and which bytes the text of a fraction has.
use Rattle.std.proofs.Common.{◌≡◌, ◌≢◌, ℕ, suc, ◌+◌, ◌<◌, ◌^◌, ◌==◌, ◌∷◌, [], ◌++◌, All, Bool, true, false, cond, ltb, List, Some, position, ℤ, pos, negsuc, nat_abs, length, take, drop, get_or, sym, ◌∙◌, ap, rules, arith, refl, ne_eqb, eq-eqb, add-one, length-append}
use Rattle.std.specs.Fmt.{decimal, signed_decimal}
use Rattle.std.specs.Int.{IsInRange}
use Rattle.std.specs.List.{position_or_len}
use Rattle.std.proofs.Math.ListN.{get_or-append}
use Rattle.std.proofs.Math.Seq.{take-append_seam, drop-append-add, get_or-append_seam, drop-cons}
use Rattle.std.proofs.lemmas.Bool.{lt-ltb}
use Rattle.std.proofs.lemmas.List.{take-append-drop}
use Rattle.std.proofs.lemmas.List.Elements.{All-append, All-cons, All-nil, All-from_get_or}
use Rattle.std.proofs.lemmas.List.Sums.{position_or_len_is}
use Rattle.npp_frac.specs.Fits.{FitsBelow, limit_of}
use Rattle.npp_frac.specs.FractionText.{fraction_text, denominator_text}
use Rattle.npp_frac.specs.Rational.{Rational}
use Rattle.npp_frac.proofs.Digits.{decimal_not_in}

-- behind bytes without it
pub position_behind : (c : ℕ) (xs ys : List ℕ) → All (λ b. b ≢ c) xs → position (λ b. b == c) (xs ++ c ∷ ys) ≡ Some (length xs)
position_behind c xs ys lacks =
    let within : length xs < length (xs ++ c ∷ ys) = omega (arith, length-append xs (c ∷ ys)) in
    let at : position_or_len (λ b. b == c) (xs ++ c ∷ ys) ≡ length xs =
    position_or_len_is (λ b. b == c) (xs ++ c ∷ ys) (length xs) 0 (omega arith)
    (λ k l. ne_eqb _ _ (λ e. lacks k 0 l (sym (get_or-append xs (c ∷ ys) 0 k l) ∙ e)))
    (λ l. eq-eqb _ _ (get_or-append_seam xs c ys 0)) in
    let yes : ltb (length xs) (length (xs ++ c ∷ ys)) ≡ true = lt-ltb _ _ within in
    rw (at, yes) refl

-- the parts of a text before and behind a byte
pub parts_at : (bs before behind : List ℕ) (c at : ℕ) → bs ≡ before ++ c ∷ behind → at ≡ length before → (take at bs ≡ before) × (drop (at + 1) bs ≡ behind)
parts_at bs before behind c at e h =
    (rw (e, h) (take-append_seam before (c ∷ behind)), rw (e, h) (drop-append-add before (c ∷ behind) 1))

-- and the text of these parts
pub parts_joined : (bs : List ℕ) (c at : ℕ) → at < length bs → get_or bs at 0 ≡ c → bs ≡ take at bs ++ c ∷ drop (at + 1) bs
parts_joined bs c at l e =
    sym (take-append-drop at bs) ∙ ap (λ t. take at bs ++ t) (drop-cons bs at 0 l ∙ ap (λ m. get_or bs at 0 ∷ drop m bs) (sym (add-one at)) ∙ ap (λ b. b ∷ drop (at + 1) bs) e)

decimal_lacks : (n c : ℕ) → n < 10 ^ 64 → ¬ (IsInRange 48 57 c) → All (λ b. b ≢ c) (decimal n)
decimal_lacks n c small out = All-from_get_or (λ b. b ≢ c) (decimal n) 0 (λ k l. decimal_not_in n c k small out l)

signed_lacks : (z : ℤ) (c : ℕ) → nat_abs z < 10 ^ 64 → 45 ≢ c → ¬ (IsInRange 48 57 c) → All (λ b. b ≢ c) (signed_decimal z)
signed_lacks (pos n) c small minus out = decimal_lacks n c small out
signed_lacks (negsuc n) c small minus out = All-cons (λ b. b ≢ c) 45 (decimal (suc n)) minus (decimal_lacks (suc n) c small out)

denominator_lacks : (d c : ℕ) → d < 10 ^ 64 → 47 ≢ c → ¬ (IsInRange 48 57 c) → All (λ b. b ≢ c) (denominator_text d)
denominator_lacks d c small slash out = by_whole (d == 1)
  where
    by_whole : (whole : Bool) → All (λ b. b ≢ c) (cond whole [] (47 ∷ decimal d))
    by_whole true = All-nil (λ b. b ≢ c)
    by_whole false = All-cons (λ b. b ≢ c) 47 (decimal d) slash (decimal_lacks d c small out)

-- it has digits, a minus sign and a slash alone
pub fraction_lacks : (q : Rational) (c : ℕ) → FitsBelow (limit_of 128) q → 45 ≢ c → 47 ≢ c → ¬ (IsInRange 48 57 c) → All (λ b. b ≢ c) (fraction_text q)
unfolding fraction_text
fraction_lacks q c fits minus slash out =
    All-append (λ b. b ≢ c) (signed_decimal q.num) (denominator_text q.den)
    (signed_lacks q.num c (omega (arith, fits.num)) minus out)
    (denominator_lacks q.den c (omega (arith, fits.den)) slash out)
