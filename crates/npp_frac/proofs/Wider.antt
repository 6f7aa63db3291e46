-- What fits at a width fits at each greater width, with the same value.
use Rattle.std.specs.Prelude.{◌≡◌, ℕ, ◌≤◌, true, Result, Ok, Err, is_ok, IfOk, IsOkAnd}
use Rattle.std.proofs.Common.{arith, ap₂, sym, subst, ◌∙◌, refl, true≢false}
use Rattle.std.proofs.Math.Nat.{pow-le-pow_right}
use Rattle.npp_frac.specs.Fits.{limit_of}
use Rattle.npp_frac.specs.FitsLaws.{fits_add_wider, fits_sub_wider, fits_mul_wider, fits_div_wider}
use Rattle.npp_frac.specs.Operation.{fits_by, value_by}
use Rattle.npp_frac.specs.Rational.{Rational}
use Rattle.npp_frac.specs.declared.refusal.Op.{Op}
use Rattle.npp_frac.specs.declared.refusal.Op.TheVariants.{Add, Sub, Mul, Div}

pub limit_mono : (v w : ℕ) → v ≤ w → limit_of v ≤ limit_of w
limit_mono v w h = pow-le-pow_right (omega arith) (omega arith)

fits_by_wider : (op : Op) (m n : ℕ) (q r : Rational) → m ≤ n → true ≡ fits_by op m q r → true ≡ fits_by op n q r
fits_by_wider Add m n q r h e = fits_add_wider m n q r h e
fits_by_wider Sub m n q r h e = fits_sub_wider m n q r h e
fits_by_wider Mul m n q r h e = fits_mul_wider m n q r h e
fits_by_wider Div m n q r h e = fits_div_wider m n q r h e

same_answer : {N W E F : Type 0} (f : N → Rational) (g : W → Rational) (x : Result N E) (y : Result W F) (v : Rational) → (true ≡ is_ok x → true ≡ is_ok y) → IfOk x (λ n. f n ≡ v) → IfOk y (λ w. g w ≡ v) → IfOk x (λ n. IsOkAnd y (λ w. g w ≡ f n))
same_answer f g (Ok n) (Ok w) v h a b = b ∙ sym a
same_answer f g (Ok n) (Err e) v h a b = absurd (true≢false (h refl))
same_answer f g (Err e) y v h a b = tt

pub widths_agree : {N W E F : Type 0} (f : N → Rational) (g : W → Rational) (x : Result N E) (y : Result W F) (op : Op) (m n : ℕ) (q r q' r' : Rational) → m ≤ n → q' ≡ q → r' ≡ r → is_ok x ≡ fits_by op m q r → IfOk x (λ k. f k ≡ value_by op q r) → is_ok y ≡ fits_by op n q' r' → IfOk y (λ k. g k ≡ value_by op q' r') → IfOk x (λ k. IsOkAnd y (λ w. g w ≡ f k))
widths_agree {N} {W} {E} {F} f g x y op m n q r q' r' h eq er fx vx fy vy =
    let P : Rational → Type 0 = λ t. IfOk y (λ k. g k ≡ t) in
    same_answer f g x y (value_by op q r)
    (λ k. fits_by_wider op m n q r h (k ∙ fx) ∙ sym (fy ∙ ap₂ (fits_by op n) eq er))
    vx (subst P (ap₂ (value_by op) eq er) vy)
