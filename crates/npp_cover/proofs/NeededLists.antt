-- The needed arcs of the nodes, one node after the other.
use Rattle.std.proofs.Common.{◌≡◌, inl, inr, ℕ, ◌+◌, ◌<◌, List, [], ◌∷◌, ◌++◌, length, get_or, map, Option, Vec, sym, ◌∙◌, ap, subst, arith}
use Rattle.std.proofs.lemmas.Bool.{cases_eq}
use Rattle.std.proofs.lemmas.List.{length-append, length-map, get_or-map, get_or_append_left}
use Rattle.std.proofs.Math.Seq.{get_or-append_seam}
use Rattle.std.specs.declared.alloc.Global.{Global}
use Rattle.npp_net.specs.declared.types.NetArc.{NetArc}
use Rattle.npp_cover.specs.declared.needed.NeededArc.{NeededArc}
use Rattle.npp_cover.specs.Needed.{AreNeededAt, AreNeeded}

abbrev pub items_in : Vec NeededArc Global → List NeededArc
items_in v = v.items

-- the lists of the first n nodes
pub record AreNeededBelow (arcs : List NetArc) (onward : ℕ → Option ℕ) (free n : ℕ) (lists : List (Vec NeededArc Global)) : Type 0 where
  pub size : length lists ≡ n
  pub each : (v : ℕ) (d : Vec NeededArc Global) → v < n → AreNeededAt arcs onward free v (get_or lists v d).items

module _ (arcs : List NetArc) (onward : ℕ → Option ℕ) (free : ℕ) where
  pub below_none : AreNeededBelow arcs onward free 0 []
  below_none = record { size = omega arith; each = λ v d lt. absurd (omega arith) }

  pub below_next : (n : ℕ) (lists : List (Vec NeededArc Global)) (x : Vec NeededArc Global) → AreNeededBelow arcs onward free n lists → AreNeededAt arcs onward free n x.items
      → AreNeededBelow arcs onward free (n + 1) (lists ++ x ∷ [])
  below_next n lists x below here = record {
    size = omega (arith, below.size, length-append lists (x ∷ []));
    each = λ v d lt. elim (cases_eq v n) [
      | inl e ↦
          let is : get_or (lists ++ x ∷ []) v d ≡ x = ap (λ (m : ℕ). get_or (lists ++ x ∷ []) m d) (e ∙ sym below.size) ∙ get_or-append_seam lists x [] d in
          subst (λ (u : ℕ). AreNeededAt arcs onward free u (get_or (lists ++ x ∷ []) v d).items) (sym e)
          (subst (λ (y : Vec NeededArc Global). AreNeededAt arcs onward free n y.items) (sym is) here)
      | inr ne ↦
          subst (λ (y : Vec NeededArc Global). AreNeededAt arcs onward free v y.items) (sym (get_or_append_left lists (x ∷ []) d v (omega (arith, below.size)))) (below.each v d (omega arith))
    ];
  }

  -- the list of a node that is there
  at_node : (lists : List (Vec NeededArc Global)) (v : ℕ) → v < length lists → ((d : Vec NeededArc Global) → AreNeededAt arcs onward free v (get_or lists v d).items)
      → AreNeededAt arcs onward free v (get_or (map items_in lists) v [])
  at_node [] v lt each = absurd (omega arith)
  at_node (x ∷ lists) v lt each =
      subst (λ (es : List NeededArc). AreNeededAt arcs onward free v es) (sym (get_or-map items_in (x ∷ lists) v x [] lt)) (each x)

  pub below_all : (n nodes : ℕ) (lists : List (Vec NeededArc Global)) → n ≡ nodes → AreNeededBelow arcs onward free n lists → AreNeeded arcs onward free nodes (map items_in lists)
  below_all n nodes lists all below = record {
    size = length-map lists items_in ∙ (below.size ∙ all);
    each = λ v lt. at_node lists v (omega (arith, below.size)) (λ d. below.each v d (omega arith));
  }
