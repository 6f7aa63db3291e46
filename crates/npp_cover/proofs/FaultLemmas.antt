-- Labels and extensions without fault: a draft that has none is closed.
use Rattle.std.proofs.Common.{◌≡◌, inl, inr, ℕ, zero, suc, ◌+◌, ◌<◌, ◌≤◌, Bool, true, false, cond, List, [], ◌∷◌, ◌++◌, length, Option, Some, None, MatchOption, option_map, refl, sym, ◌∙◌, ap, subst, arith, get_or, find, nat_eq, nat_lt, nat_le, ◌&&◌, not, bit_and}
use Rattle.std.proofs.lemmas.Bool.{cases_eq}
use Rattle.std.proofs.lemmas.Bool.Decides.{nat_tests}
use Rattle.std.proofs.lemmas.List.{length-append, get_or_default}
use Rattle.std.proofs.lemmas.List.Folds.{Any-from_list_any}
use Rattle.std.proofs.Math.ListN.{get_or-append}
use Rattle.std.proofs.Math.Seq.{get_or-append_seam}
use Rattle.std.specs.Int.{bit_at}
use Rattle.std.specs.Option.{option_or}
use Rattle.npp_net.specs.declared.types.ArcId.{ArcId}
use Rattle.npp_net.specs.declared.types.NodeId.{NodeId}
use Rattle.npp_net.specs.declared.types.NetArc.{NetArc}
use Rattle.npp_net.specs.declared.types.Commodity.{Commodity}
use Rattle.npp_net.specs.declared.types.Span.{Span}
use Rattle.npp_net.specs.Network.{Network, IsNetwork, arc_at, toll_number}
use Rattle.npp_net.specs.Distance.{IsDistance}
use Rattle.npp_net.specs.Ends.{leaving_arcs}
use Rattle.npp_net.specs.TollSets.{IsWithin}
use Rattle.npp_net.proofs.EndLaws.{leaving_all}
use Rattle.npp_net.proofs.TollSetLemmas.{within_test}
use Rattle.npp_cover.proofs.TestLemmas.{both, equal_of_test, less_of_test, le_of_test, test_of_equal, test_of_less}
use Rattle.npp_cover.specs.declared.label.Label.{Label}
use Rattle.npp_cover.specs.declared.label.StepDraft.{StepDraft}
use Rattle.npp_cover.specs.declared.fault.CoverFault.{CoverFault}
use Rattle.npp_cover.specs.declared.fault.CoverFault.TheVariants.{NotAStep, RepeatedToll, Useless, MissingOrigin, NotClosed}
use Rattle.npp_cover.specs.Useful.{CanWin}
use Rattle.npp_cover.specs.Labels.{no_label, label_at, with_arc, start_label, step_label}
use Rattle.npp_cover.specs.Fault.{is_below, can_win, is_step, has_arc, step_fault, start_fault, is_no_worse, is_dominated, is_open, open_arc, closure_fault, open_fault, is_no_label, origin_fault}
use Rattle.npp_cover.specs.Closed.{GoesBy, IsStartOrGoes, IsWalkLabel, IsDominated, AreFaultless, AreClosed}
use Rattle.npp_cover.proofs.ClosureLemmas.{head_within}
use Rattle.npp_cover.proofs.ReplaceLemmas.{all_usable}

neither : (a b : Option CoverFault) → option_or a b ≡ None → (a ≡ None) × (b ≡ None)
neither None b e = (refl, e)
neither (Some f) b e = cc

-- the least cost onward is that of some walk
pub wins_by : (arcs : List NetArc) (k : Commodity) (free v cost : ℕ) (o : Option ℕ) → IsDistance arcs true v k.destination.0 o → is_below free cost o ≡ true
    → CanWin arcs k free v cost
wins_by arcs k free v cost None distance e = cc
wins_by arcs k free v cost (Some more) distance e =
    let lt : cost + more < free = less_of_test (cost + more) free e in
    (distance.attained.0, distance.attained.1.path, omega (arith, distance.attained.2))

-- and no walk onward costs less
pub below_by : (arcs : List NetArc) (k : Commodity) (free v cost : ℕ) (o : Option ℕ) → IsDistance arcs true v k.destination.0 o → CanWin arcs k free v cost
    → is_below free cost o ≡ true
below_by arcs k free v cost None distance wins = absurd (distance wins.0 (record { path = wins.1; usable = all_usable arcs wins.0 }))
below_by arcs k free v cost (Some more) distance wins =
    let least = distance.least wins.0 (record { path = wins.1; usable = all_usable arcs wins.0 }) in
    let lt : cost + more < free = omega (arith, wins.2) in
    grind (arith, nat_tests)

pub parent_by : (arcs : List NetArc) (origin : NodeId) (i n : ℕ) (l from : Label) (o : Option ArcId) → MatchOption o (l ≡ start_label origin) (GoesBy arcs i l from)
    → i < n → l.parent < n
parent_by arcs origin i n l from None start lt = omega (arith, ap (λ (x : Label). x.parent) start)
parent_by arcs origin i n l from (Some a) goes lt = omega (arith, goes.lower)

module _ (labels : List Label) (l : Label) where
  pub before : (i : ℕ) → i < length labels → label_at (labels ++ l ∷ []) i ≡ label_at labels i
  before i lt = get_or-append labels (l ∷ []) no_label i lt

  pub at_end : label_at (labels ++ l ∷ []) (length labels) ≡ l
  at_end = get_or-append_seam labels l [] no_label

  pub by_place : (P : ℕ → Label → Type 0) → ((i : ℕ) → i < length labels → P i (label_at labels i)) → P (length labels) l
      → (i : ℕ) → i < length (labels ++ l ∷ []) → P i (label_at (labels ++ l ∷ []) i)
  by_place P each last i lt = elim (cases_eq i (length labels)) [
    | inl e ↦ subst (λ (j : ℕ). P j (label_at (labels ++ l ∷ []) j)) (sym e) (subst (λ (x : Label). P (length labels) x) (sym at_end) last)
    | inr ne ↦
        let lt' : i < length labels = omega (arith, length-append labels (l ∷ [])) in
        subst (λ (x : Label). P i x) (sym (before i lt')) (each i lt')
  ]

-- one more label without fault
pub faultless_more : (net : Network) (k : Commodity) (free : ℕ) (labels : List Label) (l : Label) → AreFaultless net k free labels → l.parent < length labels
    → IsStartOrGoes net.arcs k.origin (length labels) l (label_at labels l.parent) → CanWin net.arcs k free l.node.0 l.cost → l.node.0 < net.nodes
    → AreFaultless net k free (labels ++ l ∷ [])
faultless_more net k free labels l good parent goes wins node =
    let P : ℕ → Label → Type 0 = λ i x. IsStartOrGoes net.arcs k.origin i x (label_at (labels ++ l ∷ []) x.parent) in
    let Q : ℕ → Label → Type 0 = λ i x. CanWin net.arcs k free x.node.0 x.cost in
    let R : ℕ → Label → Type 0 = λ i x. x.node.0 < net.nodes in
    record {
      each = by_place labels l P
          (λ i lt. subst (λ (from : Label). IsStartOrGoes net.arcs k.origin i (label_at labels i) from)
          (sym (before labels l (label_at labels i).parent
          (parent_by net.arcs k.origin i (length labels) (label_at labels i) (label_at labels (label_at labels i).parent) (label_at labels i).last (good.each i lt) lt)))
          (good.each i lt))
          (subst (λ (from : Label). IsStartOrGoes net.arcs k.origin (length labels) l from) (sym (before labels l l.parent parent)) goes);
      wins = by_place labels l Q good.wins wins;
      nodes = by_place labels l R good.nodes node;
    }

first_only : (i : ℕ) → i < 1 → i ≡ 0
first_only i lt = omega arith

faultless_start : (net : Network) (k : Commodity) (free : ℕ) → k.origin.0 < net.nodes → CanWin net.arcs k free k.origin.0 0
    → AreFaultless net k free (start_label k.origin ∷ [])
faultless_start net k free origin wins =
    let start : List Label = start_label k.origin ∷ [] in
    record {
      each = λ i lt. subst (λ (j : ℕ). IsWalkLabel net.arcs k.origin start j) (sym (first_only i lt)) refl;
      wins = λ i lt. subst (λ (j : ℕ). CanWin net.arcs k free (label_at start j).node.0 (label_at start j).cost) (sym (first_only i lt)) wins;
      nodes = λ i lt. subst (λ (j : ℕ). (label_at start j).node.0 < net.nodes) (sym (first_only i lt)) origin;
    }

pass_all : (a b c : Bool) (x y z : CoverFault) → cond (not a) (Some x) (cond b (Some y) (cond c None (Some z))) ≡ None → (a ≡ true) × (b ≡ false) × (c ≡ true)
pass_all true true c x y z e = cc
pass_all true false true x y z e = (refl, refl, refl)
pass_all true false false x y z e = cc
pass_all false b c x y z e = cc

not_both : (t b : Bool) → (t && b) ≡ false → t ≡ true → b ≡ true → ⊥
not_both true true none e f = cc
not_both true false none e f = cc
not_both false b none e f = cc

module _ (net : Network) (limits : IsNetwork net) (k : Commodity) (free : ℕ) (onward : ℕ → Option ℕ)
    (distances : (v : ℕ) → v < net.nodes → IsDistance net.arcs true v k.destination.0 (onward v)) where
  pub faultless_step : (labels : List Label) (s : StepDraft) → AreFaultless net k free labels → step_fault net.arcs onward free labels s ≡ None
      → AreFaultless net k free (labels ++ step_label net.arcs labels s ∷ [])
  faultless_step labels s good none =
      let l : Label = step_label net.arcs labels s in
      let from : Label = label_at labels s.parent in
      let parts = pass_all (is_step net.arcs labels s) (has_arc net.arcs from.tolls s.arc) (can_win onward free l.node.0 l.cost)
      (NotAStep (length labels)) (RepeatedToll (length labels)) (Useless (length labels)) none in
      let two = both (nat_lt s.parent (length labels) && nat_lt s.arc.0 (length net.arcs)) (nat_eq (arc_at net.arcs s.arc).tail.0 from.node.0) parts.0 in
      let one = both (nat_lt s.parent (length labels)) (nat_lt s.arc.0 (length net.arcs)) two.0 in
      let parent = less_of_test s.parent (length labels) one.0 in
      let arc = less_of_test s.arc.0 (length net.arcs) one.1 in
      let node = head_within net s.arc limits arc in
      faultless_more net k free labels l good parent
      (record {
        lower = parent;
        in_range = arc;
        tail = equal_of_test (arc_at net.arcs s.arc).tail.0 from.node.0 two.1;
        fresh = λ toll has. not_both (arc_at net.arcs s.arc).toll (nat_eq (bit_at from.tolls (toll_number net.arcs s.arc)) 1) parts.1 toll
            (test_of_equal (bit_at from.tolls (toll_number net.arcs s.arc)) 1 has);
        same = refl;
      })
      (wins_by net.arcs k free l.node.0 l.cost (onward l.node.0) (distances l.node.0 node) parts.2) node

  start_wins : (b : Bool) → cond b None (Some (Useless 0)) ≡ None → b ≡ true
  start_wins true e = refl
  start_wins false e = cc

  -- a start without fault
  pub faultless_first : k.origin.0 < net.nodes → start_fault onward free k.origin ≡ None → AreFaultless net k free (start_label k.origin ∷ [])
  faultless_first origin none =
      faultless_start net k free origin
      (wins_by net.arcs k free k.origin.0 0 (onward k.origin.0) (distances k.origin.0 origin) (start_wins (can_win onward free k.origin.0 0) none))

-- no label that is listed is open
no_map : {X : Type 0} (f : X → CoverFault) (o : Option X) → option_map f o ≡ None → o ≡ None
no_map f None e = refl
no_map f (Some x) e = cc

no_open : (arcs : List NetArc) (onward : ℕ → Option ℕ) (free : ℕ) (labels : List Label) (n : ℕ) (rest : List Label)
    → closure_fault arcs onward free labels n rest ≡ None → (j : ℕ) → j < length rest → open_arc arcs onward free labels (get_or rest j no_label) ≡ None
no_open arcs onward free labels n [] none j lt = absurd (omega arith)
no_open arcs onward free labels n (l ∷ rest) none zero lt =
    no_map (λ a. NotClosed n a) (open_arc arcs onward free labels l)
    (neither (option_map (λ a. NotClosed n a) (open_arc arcs onward free labels l)) (closure_fault arcs onward free labels (n + 1) rest) none).0
no_open arcs onward free labels n (l ∷ rest) none (suc j) lt =
    no_open arcs onward free labels (n + 1) rest
    (neither (option_map (λ a. NotClosed n a) (open_arc arcs onward free labels l)) (closure_fault arcs onward free labels (n + 1) rest) none).1
    j (omega arith)

fails_first : {X : Type 0} (b : Bool) (x : X) (o : Option X) → cond b (Some x) o ≡ None → (b ≡ false) × (o ≡ None)
fails_first true x o e = cc
fails_first false x o e = (refl, e)

find_none : (p : ArcId → Bool) (xs : List ArcId) → find p xs ≡ None → (j : ℕ) (d : ArcId) → j < length xs → p (get_or xs j d) ≡ false
find_none p [] none j d lt = absurd (omega arith)
find_none p (x ∷ xs) none zero d lt = (fails_first (p x) x (find p xs) none).0
find_none p (x ∷ xs) none (suc j) d lt = find_none p xs (fails_first (p x) x (find p xs) none).1 j d (omega arith)

found_of : (b d : Bool) → (b && not d) ≡ false → b ≡ true → d ≡ true
found_of true true e f = refl
found_of true false e f = cc
found_of false d e f = cc

pub dominated_of : (labels : List Label) (v s cost : ℕ) → is_dominated labels v s cost ≡ true → IsDominated labels v s cost
dominated_of labels v s cost e =
    let found = Any-from_list_any (λ (l : Label). nat_eq l.node.0 v && is_no_worse l s cost) labels e in
    let l : Label = found.1 in
    let same : label_at labels found.0 ≡ l = get_or_default labels found.0 no_label l found.2 ∙ found.3 in
    let parts = both (nat_eq l.node.0 v) (is_no_worse l s cost) found.4 in
    let worse = both (nat_le l.cost cost) (nat_eq (bit_and l.tolls s) l.tolls) parts.1 in (
      found.0,
      record {
        in_range = found.2;
        there = ap (λ (x : Label). x.node.0) same ∙ equal_of_test l.node.0 v parts.0;
        dominates = record {
          within = subst (λ (x : Label). IsWithin x.tolls s) (sym same) ((within_test l.tolls s l.tolls s refl refl).0 worse.1);
          cheaper = subst (λ (x : Label). x.cost ≤ cost) (sym same) (le_of_test l.cost cost worse.0);
        };
      },
    )

some_label : (labels : List Label) → is_no_label labels ≡ false → 0 < length labels
some_label [] e = cc
some_label (l ∷ labels) e = omega arith

no_start : (none wanted : Bool) → cond (none && wanted) (Some MissingOrigin) None ≡ None → wanted ≡ true → none ≡ false
no_start true true e is = cc
no_start true false e is = cc
no_start false wanted e is = refl

-- labels without fault are closed where none is open and no start is missing
pub closed_of : (net : Network) (limits : IsNetwork net) (k : Commodity) (span : Span) (onward : ℕ → Option ℕ)
    → ((v : ℕ) → v < net.nodes → IsDistance net.arcs true v k.destination.0 (onward v))
    → (labels : List Label) → AreFaultless net k span.free labels → length labels ≤ 65536
    → origin_fault span labels ≡ None → open_fault net.arcs onward span.free labels ≡ None
    → AreClosed net.arcs k span labels
closed_of net limits k span onward distances labels good few has_start none_open = record {
  few = few;
  each = good.each;
  wins = good.wins;
  start = λ lt. some_label labels (no_start (is_no_label labels) (nat_lt span.zero span.free) has_start (test_of_less span.zero span.free lt));
  closed = λ i a in_range arc tail wins.
      let l : Label = label_at labels i in
      let x : NetArc = arc_at net.arcs a in
      let at = leaving_all net.arcs l.node.0 a arc tail in
      let not_open : is_open net.arcs onward span.free labels l a ≡ false =
      ap (λ (b : ArcId). is_open net.arcs onward span.free labels l b) (sym at.2)
      ∙ find_none (is_open net.arcs onward span.free labels l) (leaving_arcs net.arcs l.node.0) (no_open net.arcs onward span.free labels 0 labels none_open i in_range) at.0 a at.1 in
      let below = below_by net.arcs k span.free x.head.0 (l.cost + x.cost) (onward x.head.0) (distances x.head.0 (head_within net a limits arc)) wins in
      dominated_of labels x.head.0 (with_arc net.arcs l.tolls a) (l.cost + x.cost)
      (found_of (can_win onward span.free x.head.0 (l.cost + x.cost)) (is_dominated labels x.head.0 (with_arc net.arcs l.tolls a) (l.cost + x.cost)) not_open below);
}
