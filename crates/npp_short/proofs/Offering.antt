-- The reach through one arc after the other is offered.
use Rattle.std.proofs.Common.{◌≡◌, inl, inr, ℕ, ◌+◌, ◌<◌, ◌≤◌, Bool, List, length, get_or, Option, Some, All, Contains, refl, sym, ◌∙◌, subst, arith, below_more}
use Rattle.std.proofs.lemmas.Bool.{cases_eq}
use Rattle.std.proofs.lemmas.List.{get_or_default}
use Rattle.npp_net.specs.declared.types.ArcId.{ArcId}
use Rattle.npp_net.specs.declared.types.NetArc.{NetArc}
use Rattle.npp_net.specs.Network.{arc_at}
use Rattle.npp_net.specs.Distance.{IsUsable}
use Rattle.npp_net.specs.declared.ends.End.TheVariants.{Head}
use Rattle.npp_net.specs.Ends.{entering_arcs}
use Rattle.npp_net.proofs.EndLaws.{IsEndAt, entering_node, entering_all}
use Rattle.npp_short.specs.declared.reach.Reach.{Reach}
use Rattle.npp_short.specs.Reach.{reach_at, through, IsNoFarther}
use Rattle.npp_short.specs.Settling.{Settles, IsInto, IsEntryAfter, Offers, IsOffered, IsReached}
use Rattle.npp_short.proofs.Order.{near_trans, nearer_trans, near_self, near_from_nearer}

-- what is read past the end of a list of arc numbers
abbrev pub no_id : ArcId
no_id = record { 0 = 0 }

-- an entry that was reached stays so
still_reached : (s q : Reach) (mid new : Option Reach) → IsOffered s mid new
    → (t : Reach) × (mid ≡ Some t) × IsNoFarther t q
    → (t : Reach) × (new ≡ Some t) × IsNoFarther t q
still_reached s q mid new (inl kept) r = (r.0, kept.0 ∙ r.1, r.2)
still_reached s q mid new (inr put) r = (s, put.0, near_trans (near_from_nearer (put.1 r.0 r.1)) r.2)

now_reached : (s : Reach) (mid new : Option Reach) → IsOffered s mid new → (t : Reach) × (new ≡ Some t) × IsNoFarther t s
now_reached s mid new (inl kept) = (kept.1.0, kept.0 ∙ kept.1.1, kept.1.2)
now_reached s mid new (inr put) = (s, put.0, near_self s)

-- each arc into the node is in range, and ends there
pub entering_at : (arcs : List NetArc) (node : ℕ) (listed : List ArcId) (j : ℕ) → listed ≡ entering_arcs arcs node → j < length listed
    → IsEndAt Head arcs node (length arcs) (get_or listed j no_id)
entering_at arcs node listed j list lt =
    let all = subst (λ (l : List ArcId). All (IsEndAt Head arcs node (length arcs)) l) (sym list) (entering_node arcs node) in
    all j no_id lt

module _ (arcs : List NetArc) (with_tolls : Bool) (node : ℕ) (from : Reach) (listed : List ArcId) where
  -- the reach through the first n of these arcs was offered
  pub record OffersFirst (n : ℕ) (old new : List (Option Reach)) : Type 0 where
    pub size : length new ≡ length old
    pub entries : (v : ℕ) → IsEntryAfter arcs with_tolls node from v (reach_at old v) (reach_at new v)
    pub reached : (j : ℕ) → j < n → let x = arc_at arcs (get_or listed j no_id) in IsUsable with_tolls x → IsReached from new x

  pub offers_none : (table : List (Option Reach)) → OffersFirst 0 table table
  offers_none table = record { size = refl; entries = λ v. inl refl; reached = λ j lt. absurd (omega arith) }

  pub offers_skip : (n : ℕ) (old new : List (Option Reach)) → ¬ IsUsable with_tolls (arc_at arcs (get_or listed n no_id))
      → OffersFirst n old new → OffersFirst (n + 1) old new
  offers_skip n old new not_usable s = record {
    size = s.size;
    entries = s.entries;
    reached = below_more _ n s.reached (λ usable. absurd (not_usable usable));
  }

  entry_more : (a : ArcId) (v : ℕ) (old mid new : Option Reach) → IsInto arcs with_tolls node a → (arc_at arcs a).tail.0 ≡ v
      → IsEntryAfter arcs with_tolls node from v old mid → IsOffered (through (arc_at arcs a) from) mid new
      → IsEntryAfter arcs with_tolls node from v old new
  entry_more a v old mid new into tail before (inl kept) =
      subst (λ (o : Option Reach). IsEntryAfter arcs with_tolls node from v old o) (sym kept.0) before
  entry_more a v old mid new into tail (inl same) (inr put) =
      inr (through (arc_at arcs a) from, put.0, record { by = (a, into, tail, refl); nearer = λ r e. put.1 r (same ∙ e) })
  entry_more a v old mid new into tail (inr better) (inr put) =
      inr (
        through (arc_at arcs a) from,
        put.0,
        record {
          by = (a, into, tail, refl);
          nearer = λ r e. nearer_trans (put.1 better.0 better.1) (better.2.nearer r e);
        },
      )

  take_one : (a : ArcId) (n : ℕ) (old mid new : List (Option Reach)) → get_or listed n no_id ≡ a → IsInto arcs with_tolls node a
      → Offers (arc_at arcs a) from mid new → OffersFirst n old mid → OffersFirst (n + 1) old new
  take_one a n old mid new is into o s = record {
    size = o.size ∙ s.size;
    entries = λ v. elim (cases_eq v (arc_at arcs a).tail.0) [
      | inl e ↦ entry_more a v (reach_at old v) (reach_at mid v) (reach_at new v) into (sym e) (s.entries v)
          (subst (λ (w : ℕ). IsOffered (through (arc_at arcs a) from) (reach_at mid w) (reach_at new w)) (sym e) o.here)
      | inr ne ↦ subst (λ (q : Option Reach). IsEntryAfter arcs with_tolls node from v (reach_at old v) q) (sym (o.others v ne)) (s.entries v)
    ];
    reached = below_more _ n
        (λ j below usable.
        let x = arc_at arcs (get_or listed j no_id) in
        elim (cases_eq x.tail.0 (arc_at arcs a).tail.0) [
          | inl e ↦ still_reached (through (arc_at arcs a) from) (through x from) _ _
              (subst (λ (w : ℕ). IsOffered (through (arc_at arcs a) from) (reach_at mid w) (reach_at new w)) (sym e) o.here)
              (s.reached j below usable)
          | inr ne ↦ let r = s.reached j below usable in (r.0, o.others x.tail.0 ne ∙ r.1, r.2)
        ])
        (λ usable.
        subst (λ (b : ArcId). IsReached from new (arc_at arcs b)) (sym is)
        (now_reached (through (arc_at arcs a) from) _ _ o.here));
  }

  pub offers_take : (n : ℕ) (old mid new : List (Option Reach)) → listed ≡ entering_arcs arcs node → n < length listed
      → IsUsable with_tolls (arc_at arcs (get_or listed n no_id))
      → Offers (arc_at arcs (get_or listed n no_id)) from mid new
      → OffersFirst n old mid → OffersFirst (n + 1) old new
  offers_take n old mid new list lt usable o s =
      let at = entering_at arcs node listed n list lt in
      take_one (get_or listed n no_id) n old mid new refl (record { in_range = at.in_range; usable = usable; into = at.node }) o s

  -- each arc into the node was met
  pub offers_all : (n : ℕ) (old new : List (Option Reach)) → listed ≡ entering_arcs arcs node → length listed ≤ n
      → OffersFirst n old new → Settles arcs with_tolls node from old new
  offers_all n old new list all s = record {
    size = s.size;
    entries = s.entries;
    reached = λ a into.
        let here = subst (λ (l : List ArcId). Contains l a) (sym list) (entering_all arcs node a into.in_range into.into) in
        let is : get_or listed here.0 no_id ≡ a = get_or_default listed here.0 no_id a here.1 ∙ here.2 in
        subst (λ (b : ArcId). IsReached from new (arc_at arcs b)) is
        (s.reached here.0 (omega (arith, here.1, all)) (subst (λ (b : ArcId). IsUsable with_tolls (arc_at arcs b)) (sym is) into.usable));
  }
