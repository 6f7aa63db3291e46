-- What a judgement that breaks no rule says.
use Rattle.std.specs.Prelude.{◌≡◌, Bool, true, false, not, ◌&&◌, ◌||◌, Result, Ok, Err, refl}
use Rattle.npp_frac.specs.Rational.{Rational, is_less}
use Rattle.npp_frac.specs.Order.{≤ℚ_antisymm, is_less_no}
use Rattle.npp_check.specs.declared.refusal.Rule.{Rule}
use Rattle.npp_check.specs.Rules.{and_then, broken_if, same}

-- ---- tests

pub true_of : (b : Bool) → not b ≡ false → b ≡ true
true_of true e = refl
true_of false e = cc

pub false_of : (b : Bool) → not b ≡ true → b ≡ false
false_of true e = cc
false_of false e = refl

pub both : (a b : Bool) → (a && b) ≡ true → (a ≡ true) × (b ≡ true)
both true b e = (refl, e)
both false b e = cc

pub neither_test : (a b : Bool) → (a || b) ≡ false → (a ≡ false) × (b ≡ false)
neither_test true b e = cc
neither_test false b e = (refl, e)

-- numbers of which neither is below the other are one
pub same_is : (q r : Rational) → same q r ≡ true → q ≡ r
same_is q r e =
    let parts = both (not (is_less q r)) (not (is_less r q)) e in
    ≤ℚ_antisymm (is_less_no r q (false_of (is_less r q) parts.1)) (is_less_no q r (false_of (is_less q r) parts.0))

-- ---- judgements

pub same_ok : {X : Type 0} (x y : X) → (let r : Result X Rule = Ok x in r ≡ Ok y) → x ≡ y
same_ok x y e = cc

pub unbroken : {X : Type 0} (test : Bool) (broken : Rule) (r : Result X Rule) (x : X) → broken_if test broken r ≡ Ok x → (test ≡ false) × (r ≡ Ok x)
unbroken true broken r x e = cc
unbroken false broken r x e = (refl, e)

pub both_said : {X Y : Type 0} (r : Result X Rule) (next : X → Result Y Rule) (y : Y) → and_then r next ≡ Ok y → (x : X) × (r ≡ Ok x) × (next x ≡ Ok y)
both_said (Ok x) next y e = (x, refl, e)
both_said (Err rule) next y e = cc
