-- Which arcs the lists by an end hold: those of the network that have this end at the node, and no others.
use Rattle.std.proofs.Common.{◌≡◌, inl, inr, ℕ, ◌<◌, Bool, true, false, cond, zero, suc, List, [], ◌∷◌, length, refl, sym, ◌∙◌, subst, arith, eqb, All, Contains}
use Rattle.std.proofs.lemmas.Bool.{cases_eq, false≢true}
use Rattle.std.proofs.lemmas.Bool.Decides.{nat_tests}
use Rattle.std.proofs.lemmas.List.Elements.{All-nil, All-cons, All-append, Contains-append_left, Contains-append_right}
use Rattle.npp_net.specs.declared.types.ArcId.{ArcId}
use Rattle.npp_net.specs.declared.types.NetArc.{NetArc}
use Rattle.npp_net.specs.Network.{arc_at}
use Rattle.npp_net.specs.declared.ends.End.{End}
use Rattle.npp_net.specs.declared.ends.End.TheVariants.{Tail, Head}
use Rattle.npp_net.specs.Ends.{arcs_at, end_of, leaving_arcs, entering_arcs}

-- one of the first n arcs, with this end at the node
pub record IsEndAt (end : End) (arcs : List NetArc) (v n : ℕ) (a : ArcId) : Type 0 where
  pub in_range : a.0 < n
  pub node : end_of end (arc_at arcs a) ≡ v

still_at : (end : End) (arcs : List NetArc) (v n : ℕ) (xs : List ArcId) → All (IsEndAt end arcs v n) xs → All (IsEndAt end arcs v (suc n)) xs
still_at end arcs v n xs all = λ k d lt. let a = all k d lt in record { in_range = omega (arith, a.in_range); node = a.node }

same_node : (m n : ℕ) → eqb m n ≡ true → m ≡ n
same_node m n is = grind (arith, nat_tests)

last_at : (end : End) (arcs : List NetArc) (v n : ℕ) (t : Bool) → eqb (end_of end (arc_at arcs (record { 0 = n }))) v ≡ t
    → All (IsEndAt end arcs v (suc n)) (cond t (record { 0 = n } ∷ []) [])
last_at end arcs v n true is =
    All-cons (IsEndAt end arcs v (suc n)) (record { 0 = n }) []
    (record { in_range = omega arith; node = same_node _ v is })
    (All-nil (IsEndAt end arcs v (suc n)))
last_at end arcs v n false is = All-nil (IsEndAt end arcs v (suc n))

-- each arc that is listed has this end at the node
pub arcs_at_node : (end : End) (arcs : List NetArc) (v n : ℕ) → All (IsEndAt end arcs v n) (arcs_at end arcs v n)
arcs_at_node end arcs v zero = All-nil (IsEndAt end arcs v zero)
arcs_at_node end arcs v (suc n) =
    All-append (IsEndAt end arcs v (suc n)) (arcs_at end arcs v n) (cond (eqb (end_of end (arc_at arcs (record { 0 = n }))) v) (record { 0 = n } ∷ []) [])
    (still_at end arcs v n (arcs_at end arcs v n) (arcs_at_node end arcs v n))
    (last_at end arcs v n (eqb (end_of end (arc_at arcs (record { 0 = n }))) v) refl)

only_one : (x : ArcId) → Contains {X = ArcId} (x ∷ []) x
only_one x = (0, omega arith, refl)

in_last : (end : End) (arcs : List NetArc) (v n : ℕ) (t : Bool) → eqb (end_of end (arc_at arcs (record { 0 = n }))) v ≡ t
    → end_of end (arc_at arcs (record { 0 = n })) ≡ v → Contains {X = ArcId} (cond t (record { 0 = n } ∷ []) []) (record { 0 = n })
in_last end arcs v n true is node = only_one (record { 0 = n })
in_last end arcs v n false is node = let other : eqb (end_of end (arc_at arcs (record { 0 = n }))) v ≡ true = grind (arith, nat_tests) in absurd (false≢true (sym is ∙ other))

-- each of the first n arcs that has this end at the node is listed
pub arcs_at_all : (end : End) (arcs : List NetArc) (v n k : ℕ) → k < n → end_of end (arc_at arcs (record { 0 = k })) ≡ v
    → Contains {X = ArcId} (arcs_at end arcs v n) (record { 0 = k })
arcs_at_all end arcs v zero k lt node = absurd (omega arith)
arcs_at_all end arcs v (suc n) k lt node = elim (cases_eq k n) [
  | inl e ↦
      subst (λ (i : ℕ). Contains {X = ArcId} (arcs_at end arcs v (suc n)) (record { 0 = i })) (sym e)
      (Contains-append_right (arcs_at end arcs v n) _ (record { 0 = n })
      (in_last end arcs v n (eqb (end_of end (arc_at arcs (record { 0 = n }))) v) refl (subst (λ (i : ℕ). end_of end (arc_at arcs (record { 0 = i })) ≡ v) e node)))
  | inr ne ↦ Contains-append_left (arcs_at end arcs v n) _ (record { 0 = k }) (arcs_at_all end arcs v n k (omega arith) node)
]

pub leaving_node : (arcs : List NetArc) (v : ℕ) → All (IsEndAt Tail arcs v (length arcs)) (leaving_arcs arcs v)
leaving_node arcs v = arcs_at_node Tail arcs v (length arcs)

pub leaving_all : (arcs : List NetArc) (v : ℕ) (a : ArcId) → a.0 < length arcs → (arc_at arcs a).tail.0 ≡ v → Contains {X = ArcId} (leaving_arcs arcs v) a
leaving_all arcs v a lt node = arcs_at_all Tail arcs v (length arcs) a.0 lt node

pub entering_node : (arcs : List NetArc) (v : ℕ) → All (IsEndAt Head arcs v (length arcs)) (entering_arcs arcs v)
entering_node arcs v = arcs_at_node Head arcs v (length arcs)

pub entering_all : (arcs : List NetArc) (v : ℕ) (a : ArcId) → a.0 < length arcs → (arc_at arcs a).head.0 ≡ v → Contains {X = ArcId} (entering_arcs arcs v) a
entering_all arcs v a lt node = arcs_at_all Head arcs v (length arcs) a.0 lt node
