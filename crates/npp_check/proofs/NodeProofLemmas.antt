-- The multipliers of a node, taken one after the other into the sums of its program, and what they prove.
use Rattle.std.specs.Prelude.{◌≡◌, ◌⊎◌, ℕ, zero, suc, ◌+◌, ◌<◌, ◌≤◌, Bool, true, false, List, [], ◌∷◌, ◌++◌, length, map, take, drop, slice_index_or, Option, Some, None, Result, Ok, Err, refl}
use Rattle.std.specs.List.{list_all}
use Rattle.std.specs.Result.{IsErrAnd}
use Rattle.std.proofs.Common.{arith, ap, sym, ◌∙◌, subst, inl, inr}
use Rattle.std.proofs.lemmas.Bool.{and_parts}
use Rattle.std.proofs.lemmas.List.{take_more, take_all, take-map, take-append-drop, map-append, length-map}
use Rattle.std.proofs.lemmas.List.Folds.{list_all_at}
use Rattle.npp_frac.specs.Rational.{Rational, zero_ℚ, is_less}
use Rattle.npp_frac.specs.declared.refusal.Overflow.{Overflow as Stop}
use Rattle.npp_lp.specs.declared.faults.DualFault.{DualFault}
use Rattle.npp_lp.specs.declared.faults.DualFault.TheVariants as dual
use Rattle.npp_lp.specs.declared.faults.FarkasFault.{FarkasFault}
use Rattle.npp_lp.specs.declared.faults.FarkasFault.TheVariants as farkas
use Rattle.npp_lp.specs.Meaning.{dual_result, farkas_result}
use Rattle.npp_rows.specs.declared.names.RowName.{RowName}
use Rattle.npp_rows.specs.declared.names.Multiplier.{Multiplier}
use Rattle.npp_rows.specs.declared.multiplier_fault.MultiplierFault.{MultiplierFault}
use Rattle.npp_rows.specs.declared.multiplier_fault.MultiplierFault.TheVariants as fault
use Rattle.npp_rows.specs.Meaning.{multiplier_value}
use Rattle.npp_rows.specs.Named.{NamedProgram}
use Rattle.npp_rows.specs.RowOrder.{has_row, is_before, are_rising, are_in_order}
use Rattle.npp_rows.specs.Taken.{last_row, is_after, next_fault, Taken, AreTaken}
use Rattle.npp_rows.proofs.TakenLaws.{order_push, rising_front}
use Rattle.npp_tree.specs.Bounds.{BoundValue, At}
use Rattle.npp_check.specs.declared.refusal.Rule.{Rule}
use Rattle.npp_check.specs.declared.refusal.Rule.TheVariants as rule
use Rattle.npp_check.specs.declared.stop.Stop.{Stop as Halt}
use Rattle.npp_check.specs.declared.stop.Stop.TheVariants as halt
use Rattle.npp_check.specs.Judges.{Judges}
use Rattle.npp_check.specs.Multipliers.{dual_value, farkas_value}
use Rattle.npp_check.specs.Standing.{AreOfRows}

each_true : {X : Type 0} (t : X → Bool) (xs : List X) (i : ℕ) (x : X) → i < length xs → x ≡ slice_index_or xs i x → list_all t xs ≡ true → t x ≡ true
each_true t xs i x lt is all = by (t x) refl
  where
    by : (b : Bool) → t x ≡ b → b ≡ true
    by true e = refl
    by false e = (let none : list_all t xs ≡ false = list_all_at t xs i x lt (ap t (sym is) ∙ e) in cc)

-- ---- multipliers of the rows of a program are taken without a fault

module _ (p : NamedProgram) (ys : List (Multiplier Rational)) (are : AreOfRows p ys) (i : ℕ) (y : Multiplier Rational) (lt : i < length ys) (is : y ≡ slice_index_or ys i y) where
  one_more : take (i + 1) ys ≡ take i ys ++ y ∷ []
  one_more = take_more ys i y lt ∙ ap (λ z. take i ys ++ z ∷ []) (sym is)

  front_rises : are_in_order (take (i + 1) ys) ≡ true
  front_rises =
      ap (are_rising is_before) (sym (take-map (λ (z : Multiplier Rational). z.row) (i + 1) ys))
      ∙ rising_front is_before (take (i + 1) (map (λ (z : Multiplier Rational). z.row) ys)) (drop (i + 1) (map (λ (z : Multiplier Rational). z.row) ys))
      (ap (are_rising is_before) (take-append-drop (i + 1) (map (λ (z : Multiplier Rational). z.row) ys)) ∙ are.rising)

  is_next : is_after (last_row (take i ys)) y.row ≡ true
  is_next = (and_parts (are_in_order (take i ys)) (is_after (last_row (take i ys)) y.row) (sym (order_push (take i ys) y) ∙ sym (ap are_in_order one_more) ∙ front_rises)).1

  pub no_fault : (last : Option RowName) → last ≡ last_row (take i ys) → next_fault p.rows last y ≡ None
  no_fault last e =
      let there : has_row p.rows y.row ≡ true = each_true (λ z. has_row p.rows z.row) ys i y lt is are.rows in
      let behind : is_after last y.row ≡ true = ap (λ l. is_after l y.row) e ∙ is_next in
      let positive : is_less zero_ℚ y.value ≡ true = each_true (λ z. is_less zero_ℚ z.value) ys i y lt is are.positive in
      rw (there, behind, positive) refl

-- so only memory can be wanting
pub only_memory : (o : Option MultiplierFault) (f : MultiplierFault) → o ≡ None → (f ≡ fault.Memory) ⊎ (o ≡ Some f) → f ≡ fault.Memory
only_memory o f none (inl e) = e
only_memory o f none (inr e) = cc

module _ {N : Type 0} (value : N → Rational) (limit : ℕ) (p : NamedProgram) (ms : List (Multiplier N)) where
  -- those that were taken so far
  abbrev pub TakenTo : ℕ → Taken N → Type 0
  TakenTo i t = AreTaken value limit p (map (multiplier_value value) (take i ms)) t

  pub value_at : (i : ℕ) (m : Multiplier N) → i < length ms → m ≡ slice_index_or ms i m → multiplier_value value m ≡ slice_index_or (map (multiplier_value value) ms) i (multiplier_value value m)
  value_at i m lt is = go ms i lt is
    where
      go : (xs : List (Multiplier N)) (j : ℕ) → j < length xs → m ≡ slice_index_or xs j m → multiplier_value value m ≡ slice_index_or (map (multiplier_value value) xs) j (multiplier_value value m)
      go [] j lt e = absurd (omega (arith, lt))
      go (x ∷ xs) zero lt e = ap (multiplier_value value) e
      go (x ∷ xs) (suc j) lt e = go xs j (omega (arith, lt)) e

  pub taken_without_fault : AreOfRows p (map (multiplier_value value) ms) → (i : ℕ) (m : Multiplier N) → i < length ms → m ≡ slice_index_or ms i m → (t : Taken N) → TakenTo i t
      → next_fault p.rows t.last (multiplier_value value m) ≡ None
  taken_without_fault are i m lt is t taken =
      no_fault p (map (multiplier_value value) ms) are i (multiplier_value value m) (omega (arith, lt, length-map ms (multiplier_value value))) (value_at i m lt is)
      t.last (taken.added.last ∙ ap last_row (sym (take-map (multiplier_value value) i ms)))

  pub taken_more : (i : ℕ) (m : Multiplier N) → i < length ms → m ≡ slice_index_or ms i m → (t : Taken N)
      → AreTaken value limit p (map (multiplier_value value) (take i ms) ++ multiplier_value value m ∷ []) t → TakenTo (i + 1) t
  taken_more i m lt is t taken =
      let more : map (multiplier_value value) (take (i + 1) ms) ≡ map (multiplier_value value) (take i ms) ++ multiplier_value value m ∷ [] =
      ap (map (multiplier_value value)) (take_more ms i m lt ∙ ap (λ z. take i ms ++ z ∷ []) (sym is)) ∙ map-append (multiplier_value value) (take i ms) (m ∷ []) in
      subst (λ (ys : List (Multiplier Rational)). AreTaken value limit p ys t) (sym more) taken

  pub taken_whole : (i : ℕ) → length ms ≤ i → (t : Taken N) → TakenTo i t → AreTaken value limit p (map (multiplier_value value) ms) t
  taken_whole i le t taken = subst (λ (xs : List (Multiplier N)). AreTaken value limit p (map (multiplier_value value) xs) t) (take_all i ms le) taken

-- ---- what they prove

-- an answer that is this rule
pub judged_so : {X Y : Type 0} (value : X → Y) (r : Result X Halt) (broken : Rule) (judged : Result Y Rule) → IsErrAnd r (λ e. e ≡ halt.Broken broken) → Err broken ≡ judged → Judges value r judged
judged_so value (Ok x) broken judged is e = absurd is
judged_so value (Err f) broken judged is e = subst (λ (s : Halt). Judges value (Err s) judged) (sym is) (sym e)

-- a number as the value of a node
abbrev pub at_ok : Rational → Result BoundValue Rule
at_ok q = Ok (At q)

module _ {N : Type 0} (value : N → Rational) where
  pub dual_overflows : (f : DualFault N) (o : Stop N) → f ≡ dual.Overflow o → dual_value (dual_result value (Err f)) ≡ Err rule.Overflow
  dual_overflows f o is = ap (λ (g : DualFault N). dual_value (dual_result value (Err g))) is

  pub dual_refused : (f : DualFault N) → ((o : Stop N) → f ≡ dual.Overflow o → ⊥) → dual_value (dual_result value (Err f)) ≡ Err rule.Evidence
  dual_refused (dual.Overflow o) other = absurd (other o refl)
  dual_refused (dual.NegativeRow i) other = refl
  dual_refused (dual.Column j) other = refl

  pub farkas_overflows : (f : FarkasFault N) (o : Stop N) → f ≡ farkas.Overflow o → farkas_value (farkas_result value (Err f)) ≡ Err rule.Overflow
  farkas_overflows f o is = ap (λ (g : FarkasFault N). farkas_value (farkas_result value (Err g))) is

  pub farkas_refused : (f : FarkasFault N) → ((o : Stop N) → f ≡ farkas.Overflow o → ⊥) → farkas_value (farkas_result value (Err f)) ≡ Err rule.Evidence
  farkas_refused (farkas.Overflow o) other = absurd (other o refl)
  farkas_refused (farkas.NegativeRow i) other = refl
  farkas_refused (farkas.Column j) other = refl
  farkas_refused farkas.NotBelowZero other = refl
