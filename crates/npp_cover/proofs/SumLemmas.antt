-- Sums over the numbers below a bound, and what walks pay as such sums.
use Rattle.std.proofs.Common.{◌≡◌, inl, inr, ℕ, zero, suc, ◌+◌, ◌*◌, ◌<◌, ◌≤◌, Bool, true, false, cond, List, [], ◌∷◌, length, refl, sym, ◌∙◌, ap, arith, get_or, nat_eq, ◌&&◌}
use Rattle.std.proofs.Math.Nat.{mul-le-mul_right}
use Rattle.std.proofs.lemmas.Bool.{cases_eq, cases_lt}
use Rattle.std.proofs.lemmas.List.Sums.{sum_by-cons}
use Rattle.std.proofs.lemmas.List.{get_or_past}
use Rattle.std.specs.Int.{bit_at}
use Rattle.npp_net.specs.declared.types.ArcId.{ArcId}
use Rattle.npp_net.specs.declared.types.NetArc.{NetArc}
use Rattle.npp_net.specs.Network.{arc_at, toll_number}
use Rattle.npp_net.specs.Walk.{walk_tolls, is_toll}
use Rattle.npp_net.specs.Toll.{TollVector, toll_at, toll_paid}
use Rattle.npp_cover.proofs.TestLemmas.{test_of_equal, test_of_other}
use Rattle.npp_cover.specs.Replaces.{sum_below, set_toll}

sum_below-same : (f g : ℕ → ℕ) → ((b : ℕ) → f b ≡ g b) → (n : ℕ) → sum_below f n ≡ sum_below g n
sum_below-same f g h zero = refl
sum_below-same f g h (suc n) = let e = sum_below-same f g h n in let d = h n in cc

sum_below-le : (f g : ℕ → ℕ) → ((b : ℕ) → f b ≤ g b) → (n : ℕ) → sum_below f n ≤ sum_below g n
sum_below-le f g h zero = omega arith
sum_below-le f g h (suc n) = omega (arith, sum_below-le f g h n, h n)

sum_below-zero : (f : ℕ → ℕ) → (n : ℕ) → ((b : ℕ) → b < n → f b ≡ 0) → sum_below f n ≡ 0
sum_below-zero f zero h = refl
sum_below-zero f (suc n) h = omega (arith, sum_below-zero f n (λ b lt. h b (omega arith)), h n (omega arith))

sum_below-add : (f g : ℕ → ℕ) → (n : ℕ) → sum_below (λ b. f b + g b) n ≡ sum_below f n + sum_below g n
sum_below-add f g zero = refl
sum_below-add f g (suc n) = omega (arith, sum_below-add f g n)

-- where f is 0 but at m
sum_below-one : (f : ℕ → ℕ) (m : ℕ) → ((b : ℕ) → (b ≡ m → ⊥) → f b ≡ 0) → (n : ℕ) → m < n → sum_below f n ≡ f m
sum_below-one f m h zero lt = absurd (omega arith)
sum_below-one f m h (suc n) lt = elim (cases_eq n m) [
  | inl e ↦ let none : sum_below f n ≡ 0 = sum_below-zero f n (λ b lt'. h b (λ d. omega arith)) in omega (arith, ap f e)
  | inr ne ↦ omega (arith, sum_below-one f m h n (omega arith), h n ne)
]

distribute : (x y z : ℕ) → (x + y) * z ≡ x * z + y * z
distribute x y z = omega arith

-- how often one arc uses a toll
abbrev pub uses_of : List NetArc → ArcId → ℕ → ℕ
uses_of arcs a b = cond (is_toll arcs b a) 1 0

pub walk_tolls-cons : (arcs : List NetArc) (a : ArcId) (rest : List ArcId) (b : ℕ) → walk_tolls arcs (a ∷ rest) b ≡ uses_of arcs a b + walk_tolls arcs rest b
walk_tolls-cons arcs a rest b = sum_by-cons (λ x. cond (is_toll arcs b x) 1 0) a rest

-- an arc pays each toll as often as it uses it
no_use : (b : Bool) (x : ℕ) → b ≡ false → cond b 1 0 * x ≡ 0
no_use true x e = cc
no_use false x e = omega arith

one_use : (b : Bool) (x : ℕ) → b ≡ true → x ≡ cond b 1 0 * x
one_use true x e = omega arith
one_use false x e = cc

one_toll : (t : TollVector) (n : ℕ) → get_or t.numerators n 0 ≡ sum_below (λ m. cond (nat_eq n m) 1 0 * get_or t.numerators m 0) (length t.numerators)
one_toll t n = elim (cases_lt n (length t.numerators)) [
  | inl lt ↦
      one_use (nat_eq n n) (get_or t.numerators n 0) (test_of_equal n n refl)
      ∙ sym (sum_below-one (λ m. cond (nat_eq n m) 1 0 * get_or t.numerators m 0) n (λ b ne. no_use (nat_eq n b) (get_or t.numerators b 0) (test_of_other n b ne)) (length t.numerators) lt)
  | inr le ↦
      get_or_past t.numerators n 0 le
      ∙ sym (sum_below-zero (λ m. cond (nat_eq n m) 1 0 * get_or t.numerators m 0) (length t.numerators) (λ b lt. no_use (nat_eq n b) (get_or t.numerators b 0) (test_of_other n b (λ e. omega arith))))
]

arc_pays : (arcs : List NetArc) (t : TollVector) (a : ArcId) (b : Bool) →
    cond b (get_or t.numerators (toll_number arcs a) 0) 0 ≡ sum_below (λ m. cond (b && nat_eq (toll_number arcs a) m) 1 0 * get_or t.numerators m 0) (length t.numerators)
arc_pays arcs t a false = sym (sum_below-zero (λ m. cond (false && nat_eq (toll_number arcs a) m) 1 0 * get_or t.numerators m 0) (length t.numerators) (λ b lt. omega arith))
arc_pays arcs t a true = one_toll t (toll_number arcs a)

-- what a walk pays, toll by toll
pub paid_by_toll : (arcs : List NetArc) (t : TollVector) (walk : List ArcId)
    → toll_paid arcs t walk ≡ sum_below (λ b. walk_tolls arcs walk b * get_or t.numerators b 0) (length t.numerators)
paid_by_toll arcs t [] = sym (sum_below-zero (λ b. walk_tolls arcs [] b * get_or t.numerators b 0) (length t.numerators) (λ b lt. omega arith))
paid_by_toll arcs t (a ∷ rest) =
    let f : ℕ → ℕ = λ b. uses_of arcs a b * get_or t.numerators b 0 in
    let g : ℕ → ℕ = λ b. walk_tolls arcs rest b * get_or t.numerators b 0 in
    sum_by-cons (toll_at arcs t) a rest
    ∙ (ap (λ (n : ℕ). n + toll_paid arcs t rest) (arc_pays arcs t a (arc_at arcs a).toll)
    ∙ (ap (λ (n : ℕ). sum_below f (length t.numerators) + n) (paid_by_toll arcs t rest)
    ∙ (sym (sum_below-add f g (length t.numerators))
    ∙ sum_below-same (λ b. f b + g b) (λ b. walk_tolls arcs (a ∷ rest) b * get_or t.numerators b 0)
    (λ b. sym (ap (λ (n : ℕ). n * get_or t.numerators b 0) (walk_tolls-cons arcs a rest b) ∙ distribute (uses_of arcs a b) (walk_tolls arcs rest b) (get_or t.numerators b 0)))
    (length t.numerators))))

-- a walk that uses each toll no more often pays no more
pub pays_no_more : (arcs : List NetArc) (t : TollVector) (walk other : List ArcId) → ((b : ℕ) → walk_tolls arcs walk b ≤ walk_tolls arcs other b)
    → toll_paid arcs t walk ≤ toll_paid arcs t other
pays_no_more arcs t walk other le =
    let sum = sum_below-le (λ b. walk_tolls arcs walk b * get_or t.numerators b 0) (λ b. walk_tolls arcs other b * get_or t.numerators b 0)
    (λ b. mul-le-mul_right (get_or t.numerators b 0) (le b)) (length t.numerators) in
    omega (arith, paid_by_toll arcs t walk, paid_by_toll arcs t other)

-- a walk that uses each toll of a set once, and no other, pays the sum over the set
pub pays_set : (arcs : List NetArc) (t : TollVector) (walk : List ArcId) (s : ℕ) → ((b : ℕ) → walk_tolls arcs walk b ≡ bit_at s b) → toll_paid arcs t walk ≡ set_toll t s
pays_set arcs t walk s same =
    paid_by_toll arcs t walk
    ∙ sum_below-same (λ b. walk_tolls arcs walk b * get_or t.numerators b 0) (λ b. bit_at s b * get_or t.numerators b 0)
    (λ b. ap (λ (n : ℕ). n * get_or t.numerators b 0) (same b)) (length t.numerators)
