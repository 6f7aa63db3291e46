-- How the lists of arcs by an end grow by one arc.
use Rattle.std.proofs.Common.{◌≡◌, inl, inr, ℕ, ◌+◌, ◌<◌, Bool, true, false, cond, List, [], ◌∷◌, ◌++◌, set, get_or, Vec, sym, ◌∙◌, ap, subst, arith, add-one, eqb}
use Rattle.std.proofs.lemmas.Bool.{cases_eq}
use Rattle.std.proofs.lemmas.Bool.Decides.{nat_tests}
use Rattle.std.proofs.lemmas.List.{get_or-set_same, get_or-set_other, length-set, append-nil}
use Rattle.std.specs.declared.alloc.Global.{Global}
use Rattle.npp_net.specs.declared.types.ArcId.{ArcId}
use Rattle.npp_net.specs.declared.types.NetArc.{NetArc}
use Rattle.npp_net.specs.Network.{arc_at}
use Rattle.npp_net.specs.declared.ends.End.{End}
use Rattle.npp_net.specs.Ends.{AreArcsAt, arcs_at, end_of}

eqb_other : (m n : ℕ) → (n ≡ m → ⊥) → eqb m n ≡ false
eqb_other m n ne = grind (arith, nat_tests)

-- one more arc is listed
pub arcs_at_more : (end : End) (arcs : List NetArc) (i nodes node : ℕ) (lists : List (Vec ArcId Global)) (old pushed : Vec ArcId Global) → node < nodes
    → node ≡ end_of end (arc_at arcs (record { 0 = i })) → old ≡ get_or lists node old → pushed.items ≡ old.items ++ record { 0 = i } ∷ []
    → AreArcsAt end arcs i nodes lists → AreArcsAt end arcs (i + 1) nodes (set lists node pushed)
arcs_at_more end arcs i nodes node lists old pushed lt is_end is_old put a = record {
  size = length-set lists node pushed ∙ a.size;
  each = λ v d in'. rw add-one (elim (cases_eq v node) [
    | inl e ↦
        let now = subst (λ (w : ℕ). get_or (set lists node pushed) w d ≡ pushed) (sym e) (get_or-set_same lists node pushed d (omega (arith, a.size))) in
        let had : old.items ≡ arcs_at end arcs v i = ap (λ (w : Vec ArcId Global). w.items) is_old ∙ (a.each node old lt ∙ ap (λ (w : ℕ). arcs_at end arcs w i) (sym e)) in
        let here : eqb (end_of end (arc_at arcs (record { 0 = i }))) v ≡ true = grind (arith, nat_tests) in
        ap (λ (w : Vec ArcId Global). w.items) now ∙ (put ∙ (ap (λ (xs : List ArcId). xs ++ record { 0 = i } ∷ []) had
        ∙ ap (λ (t : Bool). arcs_at end arcs v i ++ cond t (record { 0 = i } ∷ []) []) (sym here)))
    | inr ne ↦
        let same = ap (λ (w : Vec ArcId Global). w.items) (get_or-set_other lists node v pushed d ne) in
        let none : eqb (end_of end (arc_at arcs (record { 0 = i }))) v ≡ false = eqb_other (end_of end (arc_at arcs (record { 0 = i }))) v (λ e. ne (e ∙ sym is_end)) in
        same ∙ (a.each v d in' ∙ sym (ap (λ (t : Bool). arcs_at end arcs v i ++ cond t (record { 0 = i } ∷ []) []) none ∙ append-nil (arcs_at end arcs v i)))
  ]);
}
