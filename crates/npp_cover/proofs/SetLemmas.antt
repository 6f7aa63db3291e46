-- Sets of tolls as numbers: one more toll, and sets within one another.
use Rattle.std.proofs.Common.{◌≡◌, ◌≢◌, ◌↔◌, inl, inr, ℕ, ◌<◌, ◌^◌, max, Bool, true, false, cond, Option, Some, None, List, refl, sym, ◌∙◌, ap, arith, nat_eq, bit_and, bit_or, IsTrue}
use Rattle.std.proofs.lemmas.Bool.{cases_eq}
use Rattle.std.proofs.lemmas.Nat.Bits.{bit_at_or, bit_at-pow_same, bit_at-pow_other, bit_at-lt, same_from_bits}
use Rattle.std.specs.Int.{bit_at}
use Rattle.npp_net.specs.declared.types.ArcId.{ArcId}
use Rattle.npp_net.specs.declared.types.NetArc.{NetArc}
use Rattle.npp_net.specs.declared.types.TollId.{TollId}
use Rattle.npp_net.specs.Index.{toll_of}
use Rattle.npp_cover.specs.Labels.{with_arc}
use Rattle.std.specs.Option.{option_map_or}
use Rattle.npp_net.specs.Network.{arc_at, toll_number}
use Rattle.npp_net.specs.TollSets.{Has, IsWithin}
use Rattle.npp_net.proofs.TollSetLemmas.{within_test}

max_one : (x : ℕ) → x < 2 → max x 1 ≡ 1
max_one x lt = omega arith

max_zero : (x : ℕ) → max x 0 ≡ x
max_zero x = omega arith

-- the toll is in the set with it
pub with_same : (s a : ℕ) → bit_at (bit_or s (2 ^ a)) a ≡ 1
with_same s a = bit_at_or s (2 ^ a) a ∙ (ap (λ (n : ℕ). max (bit_at s a) n) (bit_at-pow_same a) ∙ max_one (bit_at s a) (bit_at-lt s a))

-- and the others are as before
pub with_other : (s a b : ℕ) → b ≢ a → bit_at (bit_or s (2 ^ a)) b ≡ bit_at s b
with_other s a b ne = bit_at_or s (2 ^ a) b ∙ (ap (λ (n : ℕ). max (bit_at s b) n) (bit_at-pow_other a b ne) ∙ max_zero (bit_at s b))

-- these two facts say which set it is
pub is_with : (s a t : ℕ) → Has t a → ((b : ℕ) → b ≢ a → bit_at t b ≡ bit_at s b) → t ≡ bit_or s (2 ^ a)
is_with s a t has others = same_from_bits t (bit_or s (2 ^ a)) (λ b. elim (cases_eq b a) [
  | inl e ↦ ap (λ (n : ℕ). bit_at t n) e ∙ (has ∙ sym (ap (λ (n : ℕ). bit_at (bit_or s (2 ^ a)) n) e ∙ with_same s a))
  | inr ne ↦ others b ne ∙ sym (with_other s a b ne)
])

toll_here : (b : Bool) (n : ℕ) (t : TollId) → Some t ≡ cond b (Some (record { 0 = n })) None → (b ≡ true) × (t.0 ≡ n)
toll_here true n t e = (refl, ap (λ (o : Option TollId). option_map_or (λ (x : TollId). x.0) o n) e)
toll_here false n t e = cc

-- the set with the toll of a toll arc
pub is_with_arc : (arcs : List NetArc) (s : ℕ) (a : ArcId) (toll : TollId) (t : ℕ) → Some toll ≡ toll_of arcs a → Has t toll.0
    → ((b : ℕ) → b ≢ toll.0 → bit_at t b ≡ bit_at s b) → t ≡ with_arc arcs s a
is_with_arc arcs s a toll t is has others =
    let here : ((arc_at arcs a).toll ≡ true) × (toll.0 ≡ toll_number arcs a) = toll_here (arc_at arcs a).toll (toll_number arcs a) toll is in
    is_with s toll.0 t has others
    ∙ (ap (λ (n : ℕ). bit_or s (2 ^ n)) here.1
    ∙ ap (λ (b : Bool). cond b (bit_or s (2 ^ toll_number arcs a)) s) (sym here.0))

same_true : (b t : Bool) → (IsTrue b → IsTrue t) → (IsTrue t → IsTrue b) → b ≡ t
same_true true true f g = refl
same_true true false f g = sym (f refl)
same_true false true f g = g refl
same_true false false f g = refl

-- a test that says whether one set is within another
pub within_is : (b : Bool) (s t : ℕ) → (IsTrue b ↔ IsWithin s t) → b ≡ nat_eq (bit_and s t) s
within_is b s t is =
    let w : (IsTrue (nat_eq (bit_and s t) s) → IsWithin s t) × (IsWithin s t → IsTrue (nat_eq (bit_and s t) s)) = within_test s t s t refl refl in
    same_true b (nat_eq (bit_and s t) s) (λ h. w.1 (is.0 h)) (λ h. is.1 (w.0 h))
