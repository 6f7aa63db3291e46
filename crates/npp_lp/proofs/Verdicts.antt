-- How a check comes to its verdict.
use Rattle.std.proofs.Common.{◌≡◌, ℕ, ◌<◌, ◌≤◌, Bool, true, false, cond, List, length, map, Option, Some, None, Result, Ok, Err, refl, sym, ◌∙◌, ap, ap₂, arith}
use Rattle.std.specs.Prelude.{option_map}
use Rattle.std.proofs.lemmas.List.{length-map}
use Rattle.npp_frac.specs.Rational.{Rational, is_less, ◌*ℚ◌}
use Rattle.npp_frac.specs.Sums.{sum_to_same}
use Rattle.npp_frac.specs.declared.refusal.Overflow.{Overflow}
use Rattle.npp_lp.specs.Verdict.{first_below, unless, sum_fault}
use Rattle.npp_lp.specs.VerdictLaws.{first_below_found, first_below_same}
use Rattle.npp_lp.specs.Checked.{checked_terms}
use Rattle.npp_lp.specs.Programs.{Term, at, row_of, product_sum}
use Rattle.npp_lp.specs.Sums.{joining_overflow, sum_overflow, checked_sum}
use Rattle.npp_lp.specs.ProgramOver.{ProgramOver, rights_of}
use Rattle.npp_lp.specs.Meaning.{linear_program, IsProgram}
use Rattle.npp_lp.specs.ReadingLaws.{length-rows_of, length-rights_of, right_of_row}

-- the signs are judged first, then n judgements in order, and then the rest decides
module _ {T F : Type 0} (kind : ℕ → F) (negative : Option ℕ) (n : ℕ) (f : ℕ → Option F) (rest : Result T F) where
  abbrev pub judged : Result T F
  judged = unless (option_map kind negative) (unless (first_below n f) rest)

  pub judged_negative : (i : ℕ) → Some i ≡ negative → judged ≡ Err (kind i)
  judged_negative i e = rw (← e) refl

  pub judged_fault : (i : ℕ) (x : F) → None ≡ negative → i < n → first_below i f ≡ None → f i ≡ Some x → judged ≡ Err x
  judged_fault i x e h before here =
      let found : first_below n f ≡ Some x = first_below_found f n i x h before here in
      rw (← e) (rw found refl)

  pub judged_rest : (i : ℕ) → None ≡ negative → n ≡ i → first_below i f ≡ None → judged ≡ rest
  judged_rest i e same before = rw (← e) (rw (same, before) refl)

-- what a sum's judge says
pub sum_fault_overflow : {T O F : Type 0} → (overflow : O → F) (judge : T → Option F) (r : Result T O) (o : O) → Err o ≡ r → sum_fault overflow judge r ≡ Some (overflow o)
sum_fault_overflow overflow judge r o e = rw (← e) refl

pub sum_fault_judged : {T O F : Type 0} → (overflow : O → F) (judge : T → Option F) (r : Result T O) (s : T) → Ok s ≡ r → sum_fault overflow judge r ≡ judge s
sum_fault_judged overflow judge r s e = rw (← e) refl

pub cond_some : {F : Type 0} → (b : Bool) (f : F) → b ≡ true → cond b (Some f) None ≡ Some f
cond_some b f e = rw e refl

pub cond_no : {F : Type 0} → (b : Bool) (f : F) → b ≡ false → cond b (Some f) None ≡ None
cond_no b f e = rw e refl

-- a checked sum depends on the numbers that it takes alone
pub checked_sum_same : (m n : ℕ) (a c b : ℕ → Rational) → ((i : ℕ) → i < n → a i ≡ c i) → checked_sum m n a b ≡ checked_sum m n c b
unfolding checked_sum
checked_sum_same m n a c b h =
    let sums : (i : ℕ) → i ≤ n → product_sum i a b ≡ product_sum i c b = λ i l. sum_to_same i (λ k. a k *ℚ b k) (λ k. c k *ℚ b k) (λ k w. ap (λ t. t *ℚ b k) (h k (omega arith))) in
    let stops : sum_overflow m n a b ≡ sum_overflow m n c b =
    first_below_same n (λ i. joining_overflow m (product_sum i a b) (a i) (b i)) (λ i. joining_overflow m (product_sum i c b) (c i) (b i)) (λ i l.
    ap (λ t. joining_overflow m t (a i) (b i)) (sums i (omega arith)) ∙ ap (λ t. joining_overflow m (product_sum i c b) t (b i)) (h i l)) in
    ap₂ (λ o s. unless o (Ok s)) stops (sums n (omega arith))

-- the sum of the right sides, as the code forms it
pub right_sum : {N : Type 0} → (value : N → Rational) (m : ℕ) (p : ProgramOver N) (right : List N) (y : ℕ → Rational) (r : Result Rational (Overflow Rational)) → right ≡ rights_of p → r ≡ checked_sum m (length right) (at (map value right)) y → checked_sum m (length (linear_program value p).rows) (λ i. (row_of (linear_program value p) i).right) y ≡ r
right_sum value m p right y r e is =
    let same : checked_sum m (length p.rows) (at (map value (rights_of p))) y ≡ checked_sum m (length p.rows) (λ i. (row_of (linear_program value p) i).right) y =
    checked_sum_same m (length p.rows) (at (map value (rights_of p))) (λ i. (row_of (linear_program value p) i).right) y (λ i l. sym (right_of_row value p i)) in
    ap (λ n. checked_sum m n (λ i. (row_of (linear_program value p) i).right) y) (length-rows_of value p)
    ∙ sym same ∙ ap (λ n. checked_sum m n (at (map value (rights_of p))) y) (sym (length-rights_of value p))
    ∙ ap (λ bs. checked_sum m (length bs) (at (map value bs)) y) (sym e) ∙ sym is

-- the goal, as the code forms it
pub goal_sum : {N : Type 0} → (value : N → Rational) (m : ℕ) (p : ProgramOver N) (goal : List N) (x : ℕ → Rational) (r : Result Rational (Overflow Rational)) → IsProgram value p → goal ≡ p.goal → r ≡ checked_sum m (length goal) (at (map value goal)) x → checked_sum m p.columns (at (map value p.goal)) x ≡ r
goal_sum value m p goal x r h e is = rw (is, e, h.goal) refl

-- the sum of a row, as the code forms it
pub row_sum : (m : ℕ) (x : List Rational) (terms read : List Term) (r : Result Rational (Overflow Rational)) → terms ≡ read → r ≡ checked_terms m read x → r ≡ checked_terms m terms x
row_sum m x terms read r e is = rw e is

-- there is a multiplier for each row
pub length_of_multipliers : {N : Type 0} → (value : N → Rational) (p : ProgramOver N) (y : List N) → length y ≡ length p.rows → length (map value y) ≡ length (linear_program value p).rows
length_of_multipliers value p y e = length-map y value ∙ e ∙ sym (length-rows_of value p)

-- a test of a number that was read
pub less_than_read : (q r s : Rational) (b c : Bool) → r ≡ s → b ≡ is_less q s → b ≡ c → is_less q r ≡ c
less_than_read q r s b c e is known = rw (e, ← is) known

pub read_less_than : (q r s : Rational) (b c : Bool) → q ≡ r → b ≡ is_less r s → b ≡ c → is_less q s ≡ c
read_less_than q r s b c e is known = rw (e, ← is) known
