-- What the queue holds.
use Rattle.std.proofs.Common.{◌≡◌, ◌⊎◌, inl, inr, ℕ, ◌<◌, Bool, true, false, List, [], ◌∷◌, length, set, Option, Some, None, All, Contains, IsPermutation, refl, sym, ◌∙◌, ap, subst, arith}
use Rattle.std.proofs.lemmas.Bool.{cases_eq, false≢true}
use Rattle.std.proofs.lemmas.List.{get_or-set_same}
use Rattle.std.proofs.lemmas.List.Elements.{All-cons, All-nil, All-tail, All-head, All-weaker, All-contains, Contains-append_cases, Contains-append_right, Contains-push_cases}
use Rattle.std.proofs.lemmas.List.Sorted.{All-permutation, Contains-permutation}
use Rattle.npp_net.specs.declared.types.NodeId.{NodeId}
use Rattle.npp_net.specs.declared.types.NetArc.{NetArc}
use Rattle.npp_short.specs.declared.reach.Reach.{Reach}
use Rattle.npp_short.specs.Reach.{reach_at, through, IsNoFarther}
use Rattle.npp_short.specs.Settling.{is_done, IsNext, AllDone, Awaits, IsBacked, IsWaiting, KeepsWaiting, Offers}
use Rattle.npp_short.proofs.Order.{near_trans, near_self, near_from_nearer}
use Rattle.npp_short.proofs.Partial.{same_some, within, waits_still, no_way, first_table, reach_there, reach_only_there}

none_in : (X : Type 0) (x : X) → Contains {X = X} [] x → ⊥
none_in X x c = omega (arith, c.1)

-- the first, or one of the rest
first_or_rest : {X : Type 0} (x y : X) (rest : List X) → Contains (x ∷ rest) y → (x ≡ y) ⊎ Contains rest y
first_or_rest {X} x y rest c = elim (Contains-append_cases (x ∷ []) rest y c) [
  | inl first ↦ elim (Contains-push_cases [] x y first) [
    | inl none ↦ absurd (none_in X y none)
    | inr same ↦ inl same
  ]
  | inr among ↦ inr among
]

first_in : {X : Type 0} (x : X) (rest : List X) → Contains (x ∷ rest) x
first_in x rest = (0, omega arith, refl)

rest_in : {X : Type 0} (x y : X) (rest : List X) → Contains rest y → Contains (x ∷ rest) y
rest_in x y rest c = Contains-append_right (x ∷ []) rest y c

-- the entry of a node that waits was in the queue: it is the one that was taken, or it is still there
left_in : (table : List (Option Reach)) (done : List Bool) (queue rest : List (NodeId × Reach)) (w : NodeId × Reach) → IsPermutation queue (w ∷ rest)
    → Awaits table done queue → (v : NodeId) (r : Reach) → is_done done v.0 ≡ false → reach_at table v.0 ≡ Some r
    → (w ≡ (v, r)) ⊎ Contains rest (v, r)
left_in table done queue rest w perm a v r waits here =
    first_or_rest w (v, r) rest (Contains-permutation queue (w ∷ rest) (v, r) perm (a.listed v r waits here))

backed_rest : (table : List (Option Reach)) (done : List Bool) (queue rest : List (NodeId × Reach)) (w : NodeId × Reach) → IsPermutation queue (w ∷ rest)
    → Awaits table done queue → All (IsBacked table) (w ∷ rest)
backed_rest table done queue rest w perm a = All-permutation (IsBacked table) queue (w ∷ rest) perm a.backed

-- a node that was taken is in the table
pub taken_in : (table : List (Option Reach)) (done : List Bool) (queue rest : List (NodeId × Reach)) (w : NodeId × Reach) → IsPermutation queue (w ∷ rest)
    → Awaits table done queue → w.0.0 < length table
taken_in table done queue rest w perm a =
    let b = All-head (IsBacked table) w rest (backed_rest table done queue rest w perm a) in
    within table w.0.0 b.0 b.1

-- a node that is settled is passed over
pub waits_pass : (table : List (Option Reach)) (done : List Bool) (queue rest : List (NodeId × Reach)) (w : NodeId × Reach) → IsPermutation queue (w ∷ rest)
    → IsWaiting table done w.0.0 None → Awaits table done queue → Awaits table done rest
waits_pass table done queue rest w perm settled a = record {
  listed = λ v r waits here. elim (left_in table done queue rest w perm a v r waits here) [
    | inl same ↦ elim settled [
      | inl is ↦ absurd (false≢true (sym waits ∙ subst (λ (u : NodeId × Reach). is_done done u.0.0 ≡ true) same is))
      | inr none ↦ let gone = subst (λ (u : NodeId × Reach). reach_at table u.0.0 ≡ None) same none in absurd cc
    ]
    | inr still ↦ still
  ];
  backed = All-tail (IsBacked table) w rest (backed_rest table done queue rest w perm a);
}

-- a node that is not settled is a nearest one
pub waits_next : (table : List (Option Reach)) (done : List Bool) (queue rest : List (NodeId × Reach)) (w : NodeId × Reach) (r : Reach) → IsPermutation queue (w ∷ rest)
    → All (λ (u : NodeId × Reach). IsNoFarther w.1 u.1) queue → IsWaiting table done w.0.0 (Some r) → Awaits table done queue → IsNext table done w.0.0 r
waits_next table done queue rest w r perm least is a =
    let b = All-head (IsBacked table) w rest (backed_rest table done queue rest w perm a) in
    let e : b.0 ≡ r = same_some (reach_at table w.0.0) b.1 is.1 in
    let near : IsNoFarther r w.1 = subst (λ (q : Reach). IsNoFarther q w.1) e b.2 in
    record {
      in_range = within table w.0.0 r is.1;
      waits = is.0;
      here = is.1;
      first = λ v s waits here.
          near_trans near (All-contains (λ (u : NodeId × Reach). IsNoFarther w.1 u.1) queue (record { 0 = v }, s) least (a.listed (record { 0 = v }) s waits here));
    }

-- and the queue holds the others
pub waits_more : (table : List (Option Reach)) (done : List Bool) (queue rest : List (NodeId × Reach)) (w : NodeId × Reach) (r : Reach) → IsPermutation queue (w ∷ rest)
    → length table ≡ length done → IsWaiting table done w.0.0 (Some r) → Awaits table done queue → Awaits table (set done w.0.0 true) rest
waits_more table done queue rest w r perm size is a = record {
  listed = λ v s waits here.
      let lt : w.0.0 < length done = omega (arith, size, within table w.0.0 r is.1) in
      let before = waits_still done w.0.0 v.0 lt waits in
      elim (left_in table done queue rest w perm a v s before here) [
        | inl same ↦
            let one : is_done (set done w.0.0 true) w.0.0 ≡ true = get_or-set_same done w.0.0 true false lt in
            absurd (false≢true (sym waits ∙ subst (λ (u : NodeId × Reach). is_done (set done w.0.0 true) u.0.0 ≡ true) same one))
        | inr still ↦ still
      ];
  backed = All-tail (IsBacked table) w rest (backed_rest table done queue rest w perm a);
}

none_waits : (table : List (Option Reach)) (done : List Bool) (v : ℕ) (o : Option Reach) → Awaits table done [] → is_done done v ≡ false → reach_at table v ≡ o → o ≡ None
none_waits table done v None a waits here = refl
none_waits table done v (Some r) a waits here = absurd (none_in (NodeId × Reach) (record { 0 = v }, r) (a.listed (record { 0 = v }) r waits here))

-- where the queue holds no node, none waits
pub all_done : (table : List (Option Reach)) (done : List Bool) (queue : List (NodeId × Reach)) → queue ≡ [] → Awaits table done queue → AllDone table done
all_done table done queue empty a = λ v lt waits.
    none_waits table done v (reach_at table v) (subst (λ (l : List (NodeId × Reach)). Awaits table done l) empty a) waits refl

module _ (x : NetArc) (from : Reach) (old new : List (Option Reach)) (old_queue new_queue : List (NodeId × Reach))
    (o : Offers x from old new)
    (put : reach_at new x.tail.0 ≡ Some (through x from))
    (perm : IsPermutation ((x.tail, through x from) ∷ old_queue) new_queue) where
  still_backed : (w : NodeId × Reach) → IsBacked old w → IsBacked new w
  still_backed w b = elim (cases_eq w.0.0 x.tail.0) [
    | inl e ↦
        let was = subst (λ (u : ℕ). reach_at old u ≡ Some b.0) e b.1 in
        let near : IsNoFarther (through x from) b.0 = elim o.here [
          | inl kept ↦ let t = same_some (reach_at new x.tail.0) put (kept.0 ∙ was) in subst (λ (q : Reach). IsNoFarther (through x from) q) t (near_self (through x from))
          | inr better ↦ near_from_nearer (better.1 b.0 was)
        ] in
        (through x from, subst (λ (u : ℕ). reach_at new u ≡ Some (through x from)) (sym e) put, near_trans near b.2)
    | inr ne ↦ (b.0, o.others w.0.0 ne ∙ b.1, b.2)
  ]

  -- a nearer entry is put into the queue
  pub keeps_put : KeepsWaiting old old_queue new new_queue
  keeps_put done a = record {
    listed = λ v r waits here. Contains-permutation ((x.tail, through x from) ∷ old_queue) new_queue (v, r) perm (elim (cases_eq v.0 x.tail.0) [
      | inl e ↦
          let same : through x from ≡ r = same_some (reach_at new x.tail.0) put (subst (λ (u : ℕ). reach_at new u ≡ Some r) e here) in
          let node : x.tail ≡ v = ap (λ (n : ℕ). record { 0 = n }) (sym e) in
          subst (λ (q : Reach). Contains ((x.tail, through x from) ∷ old_queue) (v, q)) same
          (subst (λ (u : NodeId). Contains ((x.tail, through x from) ∷ old_queue) (u, through x from)) node (first_in (x.tail, through x from) old_queue))
      | inr ne ↦ rest_in (x.tail, through x from) (v, r) old_queue (a.listed v r waits (sym (o.others v.0 ne) ∙ here))
    ]);
    backed = All-permutation (IsBacked new) ((x.tail, through x from) ∷ old_queue) new_queue perm
        (All-cons (IsBacked new) (x.tail, through x from) old_queue (through x from, put, near_self (through x from))
        (All-weaker (IsBacked old) (IsBacked new) still_backed old_queue a.backed));
  }

-- where nothing was put, nothing changed
pub keeps_same : (old new : List (Option Reach)) (queue : List (NodeId × Reach)) → new ≡ old → KeepsWaiting old queue new queue
keeps_same old new queue same done a = subst (λ (t : List (Option Reach)). Awaits t done queue) (sym same) a

-- at first only the destination waits
pub waits_start : (nodes : ℕ) (d : NodeId) (table : List (Option Reach)) (done : List Bool) (none queue : List (NodeId × Reach)) → d.0 < nodes
    → table ≡ first_table nodes d.0 → none ≡ [] → IsPermutation ((d, no_way) ∷ none) queue → Awaits table done queue
waits_start nodes d table done none queue lt first empty perm =
    subst (λ (t : List (Option Reach)). Awaits t done queue) (sym first) (record {
      listed = λ v r waits here.
          let o = reach_only_there nodes d.0 v.0 r lt here in
          let node : d ≡ v = ap (λ (n : ℕ). record { 0 = n }) (sym o.0) in
          Contains-permutation ((d, no_way) ∷ none) queue (v, r) perm
          (subst (λ (q : Reach). Contains ((d, no_way) ∷ none) (v, q)) (sym o.1)
          (subst (λ (u : NodeId). Contains ((d, no_way) ∷ none) (u, no_way)) node (first_in (d, no_way) none)));
      backed = All-permutation (IsBacked (first_table nodes d.0)) ((d, no_way) ∷ none) queue perm
          (All-cons (IsBacked (first_table nodes d.0)) (d, no_way) none (no_way, reach_there nodes d.0 lt, near_self no_way)
          (subst (λ (l : List (NodeId × Reach)). All (IsBacked (first_table nodes d.0)) l) (sym empty) (All-nil (IsBacked (first_table nodes d.0)))));
    })
