-- How the list of toll arcs grows by one arc.
use Rattle.std.proofs.Common.{◌≡◌, ℕ, zero, suc, ◌+◌, ◌<◌, ◌≤◌, Bool, true, false, cond, List, [], ◌∷◌, length, get_or, take, filter, refl, ap, sym, ◌∙◌, arith}
use Rattle.std.proofs.lemmas.List.Sums.{sum_by-cons}
use Rattle.npp_net.specs.declared.types.ArcId.{ArcId}
use Rattle.npp_net.specs.declared.types.NetArc.{NetArc}
use Rattle.npp_net.specs.Network.{arc_at, no_arc, toll_count, toll_number, ceiling_of}

-- the toll arcs below i
pub record ListsTollsBelow (arcs : List NetArc) (i : ℕ) (found : List ArcId) : Type 0 where
  pub below : i ≤ length arcs
  pub all : length found ≡ toll_count (take i arcs)
  pub in_range : (t : ℕ) (d : ArcId) → t < length found → (get_or found t d).0 < i
  pub tolls : (t : ℕ) (d : ArcId) → t < length found → (arc_at arcs (get_or found t d)).toll ≡ true
  pub numbers : (t : ℕ) (d : ArcId) → t < length found → toll_number arcs (get_or found t d) ≡ t

-- the toll arc of a number is the one with so many toll arcs before it
pub toll_arc_at : (arcs : List NetArc) (i : ℕ) (d : NetArc) → i < length arcs → (get_or arcs i d).toll ≡ true
    → get_or (filter (λ x. x.toll) arcs) (toll_count (take i arcs)) d ≡ get_or arcs i d
toll_arc_at [] i d lt is = absurd (omega (arith, lt))
toll_arc_at (x ∷ arcs) zero d lt is = here x.toll is
  where
    here : (b : Bool) → b ≡ true → get_or (cond b (x ∷ filter (λ y. y.toll) arcs) (filter (λ y. y.toll) arcs)) 0 d ≡ x
    here true e = refl
    here false e = cc
toll_arc_at (x ∷ arcs) (suc i) d lt is =
    ap (λ n. get_or (filter (λ y. y.toll) (x ∷ arcs)) n d) (sum_by-cons (λ y. cond y.toll 1 0) x (take i arcs)) ∙ later x.toll (toll_arc_at arcs i d (omega (arith, lt)) is)
  where
    later : (b : Bool) → get_or (filter (λ y. y.toll) arcs) (toll_count (take i arcs)) d ≡ get_or arcs i d
        → get_or (cond b (x ∷ filter (λ y. y.toll) arcs) (filter (λ y. y.toll) arcs)) (cond b 1 0 + toll_count (take i arcs)) d ≡ get_or arcs i d
    later true e = let n : 1 + toll_count (take i arcs) ≡ suc (toll_count (take i arcs)) = omega arith in rw n e
    later false e = let n : 0 + toll_count (take i arcs) ≡ toll_count (take i arcs) = omega arith in rw n e

-- the ceiling of a toll is that of its arc
pub ceiling_at : (arcs : List NetArc) (a : ArcId) → a.0 < length arcs → (arc_at arcs a).toll ≡ true → (arc_at arcs a).ceiling ≡ ceiling_of arcs (toll_number arcs a)
ceiling_at arcs a lt is = sym (ap (λ (y : NetArc). y.ceiling) (toll_arc_at arcs a.0 no_arc lt is))
