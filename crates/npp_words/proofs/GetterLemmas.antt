-- What the typed getters of the matches read.
use Rattle.std.proofs.Common.{◌≡◌, ◌∙◌, ◌^◌, ◌&&◌, ap, ℕ, Bool, true, false, nat_lt, List, [], ◌∷◌, length, Option, Some, None, Result, Ok, Err, refl, sym, lt-ltb, ltb-true, codes}
use Rattle.std.specs.Prelude.{option_and_then}
use Rattle.std.specs.List.{list_all}
use Rattle.std.specs.Char.{digit_value}
use Rattle.std.specs.Str.Parse.{ParsesUnsigned, ParsesBool, AllDigits, digits_value, without_leading_plus}
use Rattle.std.proofs.lemmas.Slice.Eq.{bytes_eq-Decides}
use Rattle.std.proofs.lemmas.Bool.{false_from_ne_true}
use Rattle.clap.specs.Words.{Text, ReadsOne}
use Rattle.clap.specs.ValueTests.{is_numeral}
use Rattle.npp_words.specs.Given.{number_in, is_set}

both : (a b : Bool) → (a && b) ≡ true → (a ≡ true) × (b ≡ true)
both true b e = (refl, e)
both false b e = absurd cc

ok_value : {X E : Type 0} (x y : X) → ◌≡◌ {A = Result X E} (Ok x) (Ok y) → x ≡ y
ok_value x y e = cc

digits_pass : (ds : List ℕ) → AllDigits 10 ds → list_all (λ d. nat_lt (digit_value d) 10) ds ≡ true
digits_pass [] h = refl
digits_pass (d ∷ ds) h = rw (lt-ltb (digit_value d) 10 h.0) (digits_pass ds h.1)

digits_from : (ds : List ℕ) → list_all (λ d. nat_lt (digit_value d) 10) ds ≡ true → AllDigits 10 ds
digits_from [] e = tt
digits_from (d ∷ ds) e = let parts = both _ _ e in (ltb-true _ _ parts.0, digits_from ds parts.1)

number_read : {E : Type 0} (text : Text) (r : Result ℕ E) (o : Option ℕ) → ParsesUnsigned 32 10 text r → ((n : ℕ) → r ≡ Ok n → o ≡ Some n) → ((e : E) → r ≡ Err e → o ≡ None) → number_in text ≡ o
number_read text (Ok n) o h some none =
    let digits = without_leading_plus text in
    rw (lt-ltb 0 (length digits) h.0.0.0, digits_pass digits h.0.0.1, lt-ltb (digits_value 10 digits) (2 ^ 32) h.0.1) (ap Some (sym h.1) ∙ sym (some n refl))
number_read text (Err e) o h some none = go (is_numeral (without_leading_plus text) && nat_lt (digits_value 10 (without_leading_plus text)) (2 ^ 32)) refl
  where
    go : (b : Bool) → (is_numeral (without_leading_plus text) && nat_lt (digits_value 10 (without_leading_plus text)) (2 ^ 32)) ≡ b → number_in text ≡ o
    go false t = rw t (sym (none e refl))
    go true t =
        let outer = both _ _ t in
        let inner = both _ _ outer.0 in
        absurd (h ((ltb-true _ _ inner.0, digits_from (without_leading_plus text) inner.1), ltb-true _ _ outer.1))

-- the number that `get_one` gives is that of the text
pub reads_number : {E : Type 0} (G : List ℕ → Result ℕ E → Type 0) (o : Option Text) (r : Option ℕ) → ((t : Text) (x : Result ℕ E) → G t x → ParsesUnsigned 32 10 t x)
    → (o ≡ None → r ≡ None) → ((t : Text) → o ≡ Some t → ReadsOne G t r) → option_and_then number_in o ≡ r
reads_number G None r only none some = sym (none refl)
reads_number {E} G (Some t) (Some n) only none some = number_read t (Ok n) (Some n) (only t (Ok n) (some t refl)) (λ (m : ℕ) (e : ◌≡◌ {A = Result ℕ E} (Ok n) (Ok m)). ap Some (ok_value n m e)) (λ x e. absurd cc)
reads_number {E} G (Some t) None only none some = let h = some t refl in number_read t (Err h.0) None (only t (Err h.0) h.1) (λ m e. absurd cc) (λ x e. refl)

abbrev pub flag_or_false : Option Bool → Bool
flag_or_false None = false
flag_or_false (Some b) = b

-- a truth value is the test of its text
flag_read : {E : Type 0} (text : Text) (r : Result Bool E) (b : Bool) → ParsesBool text r → ((x : Bool) → r ≡ Ok x → b ≡ x) → ((e : E) → r ≡ Err e → b ≡ false) → is_set (Some text) ≡ b
flag_read text (Ok true) b h ok err = (bytes_eq-Decides text (codes "true")).1 h ∙ sym (ok true refl)
flag_read text (Ok false) b h ok err = rw h (sym (ok false refl))
flag_read text (Err e) b h ok err = false_from_ne_true _ (λ t. h.0 ((bytes_eq-Decides text (codes "true")).0 t)) ∙ sym (err e refl)

-- whether the flag was given is what `get_one` gives
pub reads_flag : {E : Type 0} (G : List ℕ → Result Bool E → Type 0) (o : Option Text) (r : Option Bool) → ((t : Text) (x : Result Bool E) → G t x → ParsesBool t x)
    → (o ≡ None → r ≡ None) → ((t : Text) → o ≡ Some t → ReadsOne G t r) → is_set o ≡ flag_or_false r
reads_flag G None r only none some = ap flag_or_false (sym (none refl))
reads_flag {E} G (Some t) (Some b) only none some = flag_read t (Ok b) b (only t (Ok b) (some t refl)) (λ (x : Bool) (e : ◌≡◌ {A = Result Bool E} (Ok b) (Ok x)). ok_value b x e) (λ x e. absurd cc)
reads_flag {E} G (Some t) None only none some = let h = some t refl in flag_read t (Err h.0) false (only t (Err h.0) h.1) (λ x e. absurd cc) (λ x e. refl)
