-- Which tolls a walk uses, and which stand in the list of a set: only those of the network.
use Rattle.std.proofs.Common.{◌≡◌, ◌≢◌, inl, inr, ℕ, zero, suc, ◌<◌, ◌≤◌, Bool, true, false, cond, List, [], ◌∷◌, get_or, take, eqb, ◌&&◌, refl, sym, ◌∙◌, subst, arith, All}
use Rattle.std.proofs.lemmas.Bool.{cases_eq}
use Rattle.std.proofs.lemmas.Bool.Decides.{nat_tests}
use Rattle.std.proofs.lemmas.List.Sums.{sum_by-cons}
use Rattle.std.specs.Int.{bit_at}
use Rattle.npp_net.specs.declared.types.ArcId.{ArcId}
use Rattle.npp_net.specs.declared.types.NetArc.{NetArc}
use Rattle.npp_net.specs.Network.{arc_at, no_arc, toll_count, toll_number}
use Rattle.npp_net.specs.Walk.{is_toll, walk_tolls}
use Rattle.npp_net.specs.TollSets.{Has, IsTollSetOf, tolls_of}
use Rattle.npp_net.proofs.TollSetLaws.{all_listed}

counts : (b : Bool) → b ≡ true → cond {A = ℕ} b 1 0 ≡ 1
counts b is = rw is refl

counts_not : (b : Bool) → b ≡ false → cond {A = ℕ} b 1 0 ≡ 0
counts_not b is = rw is refl

-- a toll arc has a toll number of the network
pub number_in_range : (arcs : List NetArc) (i : ℕ) → (get_or arcs i no_arc).toll ≡ true → toll_count (take i arcs) < toll_count arcs
number_in_range [] i is = cc
number_in_range (x ∷ arcs) zero is = omega (arith, counts x.toll is, sum_by-cons (λ (y : NetArc). cond y.toll 1 0) x arcs)
number_in_range (x ∷ arcs) (suc i) is =
    omega (arith, number_in_range arcs i is, sum_by-cons (λ (y : NetArc). cond y.toll 1 0) x arcs, sum_by-cons (λ (y : NetArc). cond y.toll 1 0) x (take i arcs))

both : (x y : Bool) → x && y ≡ true → (x ≡ true) × (y ≡ true)
both true y is = (refl, is)
both false y is = cc

same_number : (m n : ℕ) → eqb m n ≡ true → m ≡ n
same_number m n is = grind (arith, nat_tests)

is_toll_in_range : (arcs : List NetArc) (a : ArcId) (toll : ℕ) → is_toll arcs toll a ≡ true → toll < toll_count arcs
is_toll_in_range arcs a toll is =
    let parts = both (arc_at arcs a).toll (eqb (toll_number arcs a) toll) is in
    let number : toll_number arcs a ≡ toll = same_number (toll_number arcs a) toll parts.1 in
    subst (λ (n : ℕ). n < toll_count arcs) number (number_in_range arcs a.0 parts.0)

-- a toll that a walk uses is one of the network
pub used_in_range : (arcs : List NetArc) (walk : List ArcId) (toll : ℕ) → 1 ≤ walk_tolls arcs walk toll → toll < toll_count arcs
used_in_range arcs [] toll used = absurd (omega arith)
used_in_range arcs (a ∷ rest) toll used = split (is_toll arcs toll a) refl (used_in_range arcs rest toll)
  where
    split : (t : Bool) → is_toll arcs toll a ≡ t → (1 ≤ walk_tolls arcs rest toll → toll < toll_count arcs) → toll < toll_count arcs
    split true is later = is_toll_in_range arcs a toll is
    split false is later =
        later (omega (arith, counts_not (is_toll arcs toll a) is, sum_by-cons (λ (b : ArcId). cond (is_toll arcs toll b) 1 0) a rest))

-- the set of a walk has only tolls of the network
pub set_in_range : (arcs : List NetArc) (walk : List ArcId) (s : ℕ) → IsTollSetOf arcs walk s → (toll : ℕ) → Has s toll → toll < toll_count arcs
set_in_range arcs walk s uses toll has = used_in_range arcs walk toll ((uses toll).0 has)

-- and so has its list
pub list_in_range : (arcs : List NetArc) (walk : List ArcId) (s : ℕ) → IsTollSetOf arcs walk s → All (λ toll. toll < toll_count arcs) (tolls_of s)
list_in_range arcs walk s uses = all_listed (λ toll. toll < toll_count arcs) s (set_in_range arcs walk s uses)

-- one more toll below n leaves all of them below n
pub with_in_range : (n s t toll : ℕ) → toll < n → ((a : ℕ) → a ≢ toll → bit_at t a ≡ bit_at s a) → ((a : ℕ) → Has s a → a < n) → (a : ℕ) → Has t a → a < n
with_in_range n s t toll lt others below a has = elim (cases_eq a toll) [
  | inl e ↦ omega arith
  | inr ne ↦ below a (sym (others a ne) ∙ has)
]
