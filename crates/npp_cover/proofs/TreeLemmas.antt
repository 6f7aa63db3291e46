-- Each label of a cover is a walk from the origin: it has the label's cost, and uses each toll of its set once.
use Rattle.std.proofs.Common.{◌≡◌, inl, inr, ℕ, zero, suc, ◌+◌, ◌<◌, ◌≤◌, ◌^◌, Bool, true, false, cond, List, [], ◌∷◌, ◌++◌, length, Option, Some, None, MatchOption, refl, sym, ◌∙◌, ap, subst, arith, nat_eq, ◌&&◌, bit_or}
use Rattle.std.proofs.lemmas.Bool.{cases_eq}
use Rattle.std.proofs.lemmas.List.Sums.{sum_by_push}
use Rattle.std.proofs.lemmas.Nat.Bits.{bit_at-zero, bit_at-lt}
use Rattle.std.specs.Int.{bit_at}
use Rattle.std.specs.Option.{option_map_or}
use Rattle.npp_net.specs.declared.types.ArcId.{ArcId}
use Rattle.npp_net.specs.declared.types.NodeId.{NodeId}
use Rattle.npp_net.specs.declared.types.NetArc.{NetArc}
use Rattle.npp_net.specs.Network.{arc_at, toll_number}
use Rattle.npp_net.specs.Walk.{IsWalk, walk_cost, walk_tolls, is_toll}
use Rattle.npp_net.specs.TollSets.{Has}
use Rattle.npp_cover.proofs.TestLemmas.{test_of_equal, test_of_other}
use Rattle.npp_cover.specs.declared.label.Label.{Label}
use Rattle.npp_cover.specs.Labels.{label_at, with_arc, start_label}
use Rattle.npp_cover.specs.Closed.{GoesBy, IsWalkLabel}
use Rattle.npp_cover.specs.Paths.{walk_back, walk_of}
use Rattle.npp_cover.proofs.SetLemmas.{with_same, with_other}
use Rattle.npp_cover.proofs.SumLemmas.{uses_of}

-- a walk from the origin that a label stands for
pub record IsWalkTo (arcs : List NetArc) (origin : ℕ) (l : Label) (walk : List ArcId) : Type 0 where
  pub leads : IsWalk arcs origin l.node.0 walk
  pub costs : walk_cost arcs walk ≡ l.cost
  pub tolls : (b : ℕ) → walk_tolls arcs walk b ≡ bit_at l.tolls b

start_walk : (arcs : List NetArc) (origin : NodeId) (l : Label) → l ≡ start_label origin → IsWalkTo arcs origin.0 l []
start_walk arcs origin l is = record {
  leads = ap (λ (x : Label). x.node.0) (sym is);
  costs = ap (λ (x : Label). x.cost) (sym is);
  tolls = λ b. sym (ap (λ (x : Label). bit_at x.tolls b) is ∙ bit_at-zero b);
}

pub walk_push : (arcs : List NetArc) (u v : ℕ) (walk : List ArcId) (a : ArcId) → IsWalk arcs u v walk → a.0 < length arcs → (arc_at arcs a).tail.0 ≡ v
    → IsWalk arcs u (arc_at arcs a).head.0 (walk ++ a ∷ [])
walk_push arcs u v [] a path lt tail = (lt, tail ∙ sym path, refl)
walk_push arcs u v (b ∷ walk) a path lt tail = (path.0, path.1, walk_push arcs (arc_at arcs b).head.0 v walk a path.2 lt tail)

bit_zero : (x : ℕ) → x < 2 → (x ≡ 1 → ⊥) → x ≡ 0
bit_zero x lt ne = omega arith

add_zero_one : (x : ℕ) → x ≡ 0 → x + 1 ≡ 1
add_zero_one x e = omega arith

add_nothing : (x : ℕ) → x + 0 ≡ x
add_nothing x = omega arith

-- one more toll that is new
bits_toll : (s n b : ℕ) → (Has s n → ⊥) → bit_at s b + cond (nat_eq n b) 1 0 ≡ bit_at (bit_or s (2 ^ n)) b
bits_toll s n b fresh = elim (cases_eq b n) [
  | inl e ↦
      ap (λ (t : Bool). bit_at s b + cond t 1 0) (test_of_equal n b (sym e))
      ∙ (add_zero_one (bit_at s b) (bit_zero (bit_at s b) (bit_at-lt s b) (λ one. fresh (ap (λ (m : ℕ). bit_at s m) (sym e) ∙ one)))
      ∙ sym (ap (λ (m : ℕ). bit_at (bit_or s (2 ^ n)) m) e ∙ with_same s n))
  | inr ne ↦
      ap (λ (t : Bool). bit_at s b + cond t 1 0) (test_of_other n b ne) ∙ (add_nothing (bit_at s b) ∙ sym (with_other s n b ne))
]

bits_by : (t : Bool) (s n b : ℕ) → (t ≡ true → Has s n → ⊥) → bit_at s b + cond (t && nat_eq n b) 1 0 ≡ bit_at (cond t (bit_or s (2 ^ n)) s) b
bits_by true s n b fresh = bits_toll s n b (fresh refl)
bits_by false s n b fresh = add_nothing (bit_at s b)

pub bits_with : (arcs : List NetArc) (s : ℕ) (a : ArcId) (b : ℕ) → ((arc_at arcs a).toll ≡ true → Has s (toll_number arcs a) → ⊥)
    → bit_at s b + uses_of arcs a b ≡ bit_at (with_arc arcs s a) b
bits_with arcs s a b fresh = bits_by (arc_at arcs a).toll s (toll_number arcs a) b fresh

-- any toll
within_toll : (s n b : ℕ) → bit_at (bit_or s (2 ^ n)) b ≤ bit_at s b + cond (nat_eq n b) 1 0
within_toll s n b = elim (cases_eq b n) [
  | inl e ↦ let test = test_of_equal n b (sym e) in rw test (omega (arith, bit_at-lt (bit_or s (2 ^ n)) b))
  | inr ne ↦ omega (arith, with_other s n b ne)
]

within_by : (t : Bool) (s n b : ℕ) → bit_at (cond t (bit_or s (2 ^ n)) s) b ≤ bit_at s b + cond (t && nat_eq n b) 1 0
within_by true s n b = within_toll s n b
within_by false s n b = omega arith

pub within_with : (arcs : List NetArc) (s : ℕ) (a : ArcId) (b : ℕ) → bit_at (with_arc arcs s a) b ≤ bit_at s b + uses_of arcs a b
within_with arcs s a b = within_by (arc_at arcs a).toll s (toll_number arcs a) b

step_walk : (arcs : List NetArc) (origin i : ℕ) (l from : Label) (a : ArcId) (walk : List ArcId) → GoesBy arcs i l from a
    → IsWalkTo arcs origin from walk → IsWalkTo arcs origin l (walk ++ a ∷ [])
step_walk arcs origin i l from a walk goes w = record {
  leads = subst (λ (x : Label). IsWalk arcs origin x.node.0 (walk ++ a ∷ [])) (sym goes.same)
      (walk_push arcs origin from.node.0 walk a w.leads goes.in_range goes.tail);
  costs = sum_by_push (λ x. (arc_at arcs x).cost) walk a
      ∙ (ap (λ (n : ℕ). n + (arc_at arcs a).cost) w.costs ∙ ap (λ (x : Label). x.cost) (sym goes.same));
  tolls = λ b. sum_by_push (λ x. cond (is_toll arcs b x) 1 0) walk a
      ∙ (ap (λ (n : ℕ). n + uses_of arcs a b) (w.tolls b)
      ∙ (bits_with arcs from.tolls a b goes.fresh ∙ ap (λ (x : Label). bit_at x.tolls b) (sym goes.same)));
}

module _ (arcs : List NetArc) (origin : NodeId) (labels : List Label) (each : (i : ℕ) → i < length labels → IsWalkLabel arcs origin labels i) where
  by_last : (i : ℕ) (l from : Label) (back : List ArcId) (o : Option ArcId) → MatchOption o (l ≡ start_label origin) (GoesBy arcs i l from)
      → (l.parent < i → IsWalkTo arcs origin.0 from back) → IsWalkTo arcs origin.0 l (option_map_or (λ a. back ++ a ∷ []) o [])
  by_last i l from back None start rest = start_walk arcs origin l start
  by_last i l from back (Some a) goes rest = step_walk arcs origin.0 i l from a back goes (rest goes.lower)

  walk_within : (n i : ℕ) → i < n → i < length labels → IsWalkTo arcs origin.0 (label_at labels i) (walk_back labels n i)
  walk_within zero i lt in_range = absurd (omega arith)
  walk_within (suc n) i lt in_range =
      by_last i (label_at labels i) (label_at labels (label_at labels i).parent) (walk_back labels n (label_at labels i).parent) (label_at labels i).last (each i in_range)
      (λ lower. walk_within n (label_at labels i).parent (omega arith) (omega arith))

  pub label_walk : (i : ℕ) → i < length labels → IsWalkTo arcs origin.0 (label_at labels i) (walk_of labels i)
  label_walk i in_range = walk_within (suc i) i (omega arith) in_range
