-- The greater of several bounds does not depend on how they are grouped.
use Rattle.std.specs.Prelude.{◌≡◌, Bool, true, false, refl}
use Rattle.std.proofs.Common.{ap, sym, ◌∙◌}
use Rattle.npp_frac.specs.Rational.{Rational, is_less}
use Rattle.npp_frac.specs.Order.{is_less_yes, is_less_no, is_less_of_<ℚ, is_less_of_≤ℚ, <ℚ_trans, ≤ℚ_trans}
use Rattle.npp_tree.specs.Bounds.{BoundValue, Empty, At, greater}

greater_yes : (q r : Rational) → is_less q r ≡ true → greater (At q) (At r) ≡ At r
greater_yes q r e = rw e refl

greater_no : (q r : Rational) → is_less q r ≡ false → greater (At q) (At r) ≡ At q
greater_no q r e = rw e refl

greater_of_numbers : (q r s : Rational) (a b : Bool) → is_less q r ≡ a → is_less r s ≡ b
    → greater (At q) (greater (At r) (At s)) ≡ greater (greater (At q) (At r)) (At s)
greater_of_numbers q r s true true e f =
    let g : is_less q s ≡ true = is_less_of_<ℚ q s (<ℚ_trans (is_less_yes q r e) (is_less_yes r s f)) in
    ap (λ b. greater (At q) b) (greater_yes r s f) ∙ greater_yes q s g
    ∙ sym (ap (λ b. greater b (At s)) (greater_yes q r e) ∙ greater_yes r s f)
greater_of_numbers q r s true false e f =
    ap (λ b. greater (At q) b) (greater_no r s f) ∙ greater_yes q r e
    ∙ sym (ap (λ b. greater b (At s)) (greater_yes q r e) ∙ greater_no r s f)
greater_of_numbers q r s false true e f =
    ap (λ b. greater (At q) b) (greater_yes r s f) ∙ sym (ap (λ b. greater b (At s)) (greater_no q r e))
greater_of_numbers q r s false false e f =
    let g : is_less q s ≡ false = is_less_of_≤ℚ q s (≤ℚ_trans (is_less_no r s f) (is_less_no q r e)) in
    ap (λ b. greater (At q) b) (greater_no r s f) ∙ greater_no q r e
    ∙ sym (ap (λ b. greater b (At s)) (greater_no q r e) ∙ greater_no q s g)

pub empty-greater : (b : BoundValue) → greater Empty b ≡ b
empty-greater Empty = refl
empty-greater (At q) = refl

pub greater-empty : (b : BoundValue) → greater b Empty ≡ b
greater-empty Empty = refl
greater-empty (At q) = refl

pub greater_assoc : (a b c : BoundValue) → greater a (greater b c) ≡ greater (greater a b) c
greater_assoc Empty b c = empty-greater (greater b c) ∙ sym (ap (λ x. greater x c) (empty-greater b))
greater_assoc (At q) Empty c = ap (λ x. greater (At q) x) (empty-greater c)
greater_assoc (At q) (At r) Empty = sym (greater-empty (greater (At q) (At r)))
greater_assoc (At q) (At r) (At s) = greater_of_numbers q r s (is_less q r) (is_less r s) refl refl
