-- How the labels that wait change by a step.
use Rattle.std.proofs.Common.{◌≡◌, inl, inr, ◌⊎◌, ℕ, zero, suc, ◌+◌, ◌-◌, ◌<◌, ◌≤◌, true, false, List, [], ◌∷◌, length, Option, Some, None, MatchOption, sym, ◌∙◌, ap, subst, arith, get_or, All, Contains, IsPermutation, add-one, nat_lt}
use Rattle.std.proofs.lemmas.Bool.{cases_eq, cases_lt, false≢true}
use Rattle.std.specs.Option.{is_some}
use Rattle.std.proofs.lemmas.Bool.Decides.{nat_tests}
use Rattle.std.proofs.lemmas.List.Sums.{sum_by-cons}
use Rattle.std.proofs.lemmas.List.Sorted.{Contains-permutation, IsPermutation-sym, sum_by-IsPermutation, All-permutation}
use Rattle.npp_net.specs.declared.types.ArcId.{ArcId}
use Rattle.npp_net.specs.declared.types.NetArc.{NetArc}
use Rattle.npp_net.specs.Network.{arc_at}
use Rattle.npp_cover.specs.declared.label.Label.{Label}
use Rattle.npp_cover.specs.declared.needed.NeededArc.{NeededArc}
use Rattle.npp_cover.specs.Labels.{label_at}
use Rattle.npp_cover.specs.Fault.{is_below, can_win, has_arc}
use Rattle.npp_cover.specs.Closed.{IsDominated}
use Rattle.npp_cover.specs.Needed.{NeededValue, needed_at, id_of, no_needed, IsNeeded, IsNoDearer, Rises, AreNeededAt}
use Rattle.npp_labels.specs.declared.pending.Pending.{Pending}
use Rattle.npp_labels.specs.Search.{arc_of, ways_of, way_at, IsTried, IsWaiting, IsCovered, AreWaiting, TriesDown, WaitsNext, left_sum, Advances, IsUntried}
use Rattle.npp_labels.specs.Order.{IsNoLater}
use Rattle.npp_labels.proofs.PendingLemmas.{contains_first, contains_later, contains_cases, pending_of, dominated_as}

then_dearer : (e f g : NeededArc) → IsNoDearer e f → IsNoDearer f g → IsNoDearer e g
then_dearer e f g one two = record {
  onward = omega (arith, one.onward, two.onward);
  tolls = λ same. omega (arith, one.tolls (omega (arith, one.onward, two.onward)), two.tolls (omega (arith, one.onward, two.onward)));
}

dearer_self : (e : NeededArc) → IsNoDearer e e
dearer_self e = record { onward = omega arith; tolls = λ same. omega arith }

-- of needed arcs in order none is dearer than a later one
pub in_turn : (es : List NeededArc) → Rises es → (m j : ℕ) → j ≤ m → m < length es → IsNoDearer (get_or es j no_needed) (get_or es m no_needed)
in_turn es rising zero j le lt = subst (λ (n : ℕ). IsNoDearer (get_or es n no_needed) (get_or es 0 no_needed)) (let e : 0 ≡ j = omega arith in e) (dearer_self (get_or es 0 no_needed))
in_turn es rising (suc m) j le lt = elim (cases_eq j (suc m)) [
  | inl e ↦ subst (λ (n : ℕ). IsNoDearer (get_or es n no_needed) (get_or es (suc m) no_needed)) (sym e) (dearer_self (get_or es (suc m) no_needed))
  | inr ne ↦
      then_dearer (get_or es j no_needed) (get_or es m no_needed) (get_or es (suc m) no_needed) (in_turn es rising m j (omega arith) (omega arith))
      (subst (λ (n : ℕ). IsNoDearer (get_or es m no_needed) (get_or es n no_needed)) (add-one m) (rising m (omega arith)))
]

below_false : (free cost more : ℕ) (o : Option ℕ) → o ≡ Some more → free ≤ cost + more → is_below free cost o ≡ false
below_false free cost more o is le = ap (λ (p : Option ℕ). is_below free cost p) is ∙ not_less (cost + more) free le
  where
    not_less : (m n : ℕ) → n ≤ m → nat_lt m n ≡ false
    not_less m n le' = grind (arith, nat_tests)

le_of_not : (m n : ℕ) → nat_lt m n ≡ false → n ≤ m
le_of_not m n e = grind (arith, nat_tests)

-- an extension by an arc by which the least cost is not below the toll-free one cannot win
pub cannot : (arcs : List NetArc) (onward : ℕ → Option ℕ) (free v cost : ℕ) (e : NeededArc) → IsNeeded arcs onward v e → free ≤ cost + e.onward
    → can_win onward free (arc_at arcs (id_of e)).head.0 (cost + (arc_at arcs (id_of e)).cost) ≡ false
cannot arcs onward free v cost e is le =
    below_false free (cost + (arc_at arcs (id_of e)).cost) is.least.0 (onward (arc_at arcs (id_of e)).head.0) (ap onward is.head ∙ is.least.1)
    (omega (arith, is.least.2, is.cost))

module _ (arcs : List NetArc) (onward : ℕ → Option ℕ) (free : ℕ) (needed : NeededValue) (labels : List Label) (i : ℕ)
    (known : AreNeededAt arcs onward free (label_at labels i).node.0 (ways_of needed labels i)) where
  abbrev ways : List NeededArc
  ways = ways_of needed labels i

  -- from an arc on that cannot win none can
  pub stops_here : (n m : ℕ) (way : NeededArc) → 0 < m → m ≤ n → n ≤ length ways → way ≡ get_or ways (length ways - m) no_needed
      → nat_lt ((label_at labels i).cost + way.onward) free ≡ false
      → TriesDown arcs onward free needed labels i n m → TriesDown arcs onward free needed labels i n 0
  stops_here n m way some le within is none so_far j low lt =
      elim (cases_lt (j + m) (length ways)) [
        | inl before ↦ so_far j low before
        | inr later ↦
            let turn = in_turn ways known.rising j (length ways - m) (omega arith) (omega arith) in
            inl (cannot arcs onward free (label_at labels i).node.0 (label_at labels i).cost (get_or ways j no_needed) (known.each j no_needed (omega arith))
            (omega (arith, le_of_not ((label_at labels i).cost + way.onward) free none, turn.onward, ap (λ (e : NeededArc). e.onward) is)))
      ]

  -- one more arc was tried
  pub tries_more : (n m : ℕ) (way : NeededArc) → 0 < m → m ≤ length ways → way ≡ get_or ways (length ways - m) no_needed
      → IsTried arcs onward free labels i (id_of way) → TriesDown arcs onward free needed labels i n m → TriesDown arcs onward free needed labels i n (m - 1)
  tries_more n m way some within is tried so_far j low lt =
      elim (cases_eq j (length ways - m)) [
        | inl e ↦
            let here : way ≡ get_or ways j no_needed = is ∙ ap (λ (x : ℕ). get_or ways x no_needed) (sym e) in
            subst (λ (w : NeededArc). IsTried arcs onward free labels i (id_of w)) here tried
        | inr ne ↦ so_far j low (omega arith)
      ]

  -- the arc that is read
  pub way_needed : (es : List NeededArc) (m : ℕ) → es ≡ ways → 0 < m → m ≤ length ways
      → IsNeeded arcs onward (label_at labels i).node.0 (get_or es (length es - m) no_needed)
  way_needed es m same some within =
      subst (λ (xs : List NeededArc). IsNeeded arcs onward (label_at labels i).node.0 (get_or xs (length xs - m) no_needed)) (sym same)
      (known.each (length ways - m) no_needed (omega arith))

  pub tries_none : (n : ℕ) → TriesDown arcs onward free needed labels i n n
  tries_none n j low lt = absurd (omega arith)

  -- the first that is not tried waits
  pub waits_next : (n m : ℕ) (way : NeededArc) (p : Pending) → i < length labels → 0 < m → m ≤ n → n ≤ length ways → way ≡ get_or ways (length ways - m) no_needed
      → IsUntried arcs onward free labels i (id_of way) m p → TriesDown arcs onward free needed labels i n m → WaitsNext arcs onward free needed labels i n p
  waits_next n m way p lt some le within is un so_far =
      let here : id_of way ≡ way_at needed labels i (length ways - m) =
      ap (λ (e : NeededArc). id_of e) is in
      let of_way : IsNeeded arcs onward (label_at labels i).node.0 way = subst (λ (e : NeededArc). IsNeeded arcs onward (label_at labels i).node.0 e) (sym is) (known.each (length ways - m) no_needed (omega arith)) in
      let same : arc_of p ≡ id_of way = ap (λ (x : ℕ). (let b : ArcId = record { 0 = x } in b)) un.extends.arc in
      record {
        waiting = record {
          pending = pending_of arcs onward free labels i (id_of way) p lt of_way.in_range of_way.tail un.extends;
          some = omega (arith, un.left);
          within = omega (arith, un.left, ap (λ (x : ℕ). length (ways_of needed labels x)) un.extends.parent);
          here = same ∙ (here ∙ ap (λ (x : ℕ). way_at needed labels i x) (let e : length ways - m ≡ length ways - p.left = ap (λ (x : ℕ). length ways - x) (sym un.left) in e)
              ∙ ap (λ (x : ℕ). way_at needed labels x (length (ways_of needed labels x) - p.left)) (sym un.extends.parent));
          fresh = ap (λ (x : ℕ). has_arc arcs (label_at labels x).tolls (arc_of p)) un.extends.parent
              ∙ (ap (λ (b : ArcId). has_arc arcs (label_at labels i).tolls b) same ∙ un.fresh);
        };
        parent = un.extends.parent;
        left = omega (arith, un.left);
        tried = subst (λ (x : ℕ). TriesDown arcs onward free needed labels i n x) (sym un.left) so_far;
      }

pub some_then : {X : Type 0} (o : Option X) (P R : Type 0) (Q S : X → Type 0) → is_some o ≡ true → MatchOption o P Q → ((x : X) → Q x → S x) → MatchOption o R S
some_then None P R Q S holds h f = absurd (false≢true holds)
some_then (Some x) P R Q S holds h f = f x h

pub none_then : {X : Type 0} (o : Option X) (P : Type 0) (Q : X → Type 0) → is_some o ≡ false → MatchOption o P Q → P
none_then None P Q none h = h
none_then (Some x) P Q none h = absurd (false≢true (sym none))

-- the needed arcs of a label, as they are read
pub ways_read : (needed : NeededValue) (labels : List Label) (i : ℕ) (from : Label) (es : List NeededArc) → from ≡ label_at labels i → es ≡ needed_at needed from.node.0
    → es ≡ ways_of needed labels i
ways_read needed labels i from es same is = is ∙ ap (λ (l : Label). needed_at needed l.node.0) same

pub left_cons : (p : Pending) (ps : List Pending) → left_sum (p ∷ ps) ≡ p.left + left_sum ps
left_cons p ps = sum_by-cons (λ (w : Pending). w.left) p ps

module _ (arcs : List NetArc) (onward : ℕ → Option ℕ) (free : ℕ) (needed : NeededValue) (labels : List Label) where
  advances_one : (i n : ℕ) (old new : List Pending) (p : Pending) → WaitsNext arcs onward free needed labels i n p → IsPermutation (p ∷ old) new
      → Advances arcs onward free needed labels i n old new
  advances_one i n old new p next moved = record {
    kept = λ q h. Contains-permutation (p ∷ old) new q moved (contains_later p q old h);
    added = λ q h. elim (contains_cases p q old (Contains-permutation new (p ∷ old) q (IsPermutation-sym (p ∷ old) new moved) h)) [
      | inl e ↦ inr (subst (λ (x : Pending). IsWaiting arcs onward free needed labels x) (sym e) next.waiting)
      | inr h' ↦ inl h'
    ];
    covered = λ j low lt. elim (cases_lt (j + p.left) (length (ways_of needed labels i))) [
      | inl before ↦ inl (next.tried j low before)
      | inr later ↦ inr (p, Contains-permutation (p ∷ old) new p moved (contains_first p old), next.parent, later)
    ];
    lefts = omega (arith, sum_by-IsPermutation (λ (w : Pending). w.left) (p ∷ old) new moved, next.left, left_cons p old);
  }

  pub advances : (i n : ℕ) (old new : List Pending) (o : Option Pending)
      → MatchOption o (TriesDown arcs onward free needed labels i n 0) (WaitsNext arcs onward free needed labels i n)
      → MatchOption o (new ≡ old) (λ p. IsPermutation (p ∷ old) new) → Advances arcs onward free needed labels i n old new
  advances i n old new None tried same = record {
    kept = λ q h. subst (λ (xs : List Pending). Contains {X = Pending} xs q) (sym same) h;
    added = λ q h. inl (subst (λ (xs : List Pending). Contains {X = Pending} xs q) same h);
    covered = λ j low lt. inl (tried j low (omega arith));
    lefts = omega (arith, ap (λ (xs : List Pending). left_sum xs) same);
  }
  advances i n old new (Some p) next moved = advances_one i n old new p next moved

  -- the first is taken out
  pub waiting_moved : (n : ℕ) (old new : List Pending) → IsPermutation old new → AreWaiting arcs onward free needed labels n old → AreWaiting arcs onward free needed labels n new
  waiting_moved n old new moved known = record {
    each = λ q h. known.each q (Contains-permutation new old q (IsPermutation-sym old new moved) h);
    tried = λ i j lt within. elim (known.tried i j lt within) [
      | inl done ↦ inl done
      | inr w ↦ inr (w.0, Contains-permutation old new w.0 moved w.1, w.2, w.3)
    ];
  }

  -- it is dominated, and its label waits by its next arc
  pub waiting_next : (n : ℕ) (p : Pending) (rest new : List Pending) → AreWaiting arcs onward free needed labels n (p ∷ rest) → IsDominated labels p.node p.set p.cost
      → Advances arcs onward free needed labels p.parent (p.left - 1) rest new → AreWaiting arcs onward free needed labels n new
  waiting_next n p rest new known dominated adv =
      let is = known.each p (contains_first p rest) in
      record {
        each = λ q h. elim (adv.added q h) [
          | inl h' ↦ known.each q (contains_later p q rest h')
          | inr new_one ↦ new_one
        ];
        tried = λ i j lt within. elim (known.tried i j lt within) [
          | inl done ↦ inl done
          | inr w ↦ elim (contains_cases p w.0 rest w.1) [
            | inr h ↦ inr (w.0, adv.kept w.0 h, w.2, w.3)
            | inl e ↦
                let parent : p.parent ≡ i = ap (λ (x : Pending). x.parent) (sym e) ∙ w.2 in
                let left : p.left ≡ w.0.left = ap (λ (x : Pending). x.left) (sym e) in
                let size : length (ways_of needed labels p.parent) ≡ length (ways_of needed labels i) = ap (λ (x : ℕ). length (ways_of needed labels x)) parent in
                elim (cases_eq j (length (ways_of needed labels i) - p.left)) [
                  | inl here ↦ inl (inr (inr (
                      let same : arc_of p ≡ way_at needed labels i j =
                      is.here ∙ (ap (λ (x : ℕ). way_at needed labels x (length (ways_of needed labels x) - p.left)) parent ∙ ap (λ (x : ℕ). way_at needed labels i x) (sym here)) in
                      dominated_as arcs onward free labels labels p i (way_at needed labels i j) is.pending parent (ap (λ (b : ArcId). b.0) same) dominated)))
                  | inr ne ↦
                      subst (λ (x : ℕ). IsTried arcs onward free labels x (way_at needed labels x j) ⊎ IsCovered needed labels new x j) parent
                      (adv.covered j (omega (arith, w.3, left, size, is.some)) (omega (arith, size)))
                ]
          ]
        ];
      }

  -- the first of those that wait
  pub first_waits : (n : ℕ) (old rest : List Pending) (p : Pending) → IsPermutation old (p ∷ rest) → AreWaiting arcs onward free needed labels n old
      → IsWaiting arcs onward free needed labels p
  first_waits n old rest p moved known = known.each p (Contains-permutation (p ∷ rest) old p (IsPermutation-sym old (p ∷ rest) moved) (contains_first p rest))

  -- none waits any more
  pub waiting_end : (n : ℕ) (pending : List Pending) → pending ≡ [] → AreWaiting arcs onward free needed labels n pending → AreWaiting arcs onward free needed labels n []
  waiting_end n pending none known = subst (λ (xs : List Pending). AreWaiting arcs onward free needed labels n xs) none known

  -- one more label waits by the first of its needed arcs
  pub waiting_one_more : (n : ℕ) (old new : List Pending) → AreWaiting arcs onward free needed labels n old
      → Advances arcs onward free needed labels n (length (ways_of needed labels n)) old new → AreWaiting arcs onward free needed labels (n + 1) new
  waiting_one_more n old new known adv = record {
    each = λ q h. elim (adv.added q h) [
      | inl h' ↦ known.each q h'
      | inr new_one ↦ new_one
    ];
    tried = λ i j lt within. elim (cases_eq i n) [
      | inl e ↦
          subst (λ (x : ℕ). IsTried arcs onward free labels x (way_at needed labels x j) ⊎ IsCovered needed labels new x j) (sym e)
          (adv.covered j (omega arith) (subst (λ (x : ℕ). j < length (ways_of needed labels x)) e within))
      | inr ne ↦ elim (known.tried i j (omega arith) within) [
        | inl done ↦ inl done
        | inr w ↦ inr (w.0, adv.kept w.0 w.1, w.2, w.3)
      ]
    ];
  }

-- those behind the first come no earlier
pub rest_later : (p : Pending) (old rest : List Pending) → IsPermutation old (p ∷ rest) → All (IsNoLater p) old → All (IsNoLater p) rest
rest_later p old rest moved all =
    let whole = All-permutation (IsNoLater p) old (p ∷ rest) moved all in
    λ i d lt. whole (suc i) d (omega arith)
