-- The nodes that wait after a turn: the one that was opened is gone, its live children have come, and those that a risen value
-- cuts off are dropped.
use Rattle.std.proofs.Common.{◌≡◌, ◌≢◌, inl, inr, ℕ, ◌+◌, ◌<◌, ◌≤◌, Bool, true, false, cond, nat_eq, List, [], ◌∷◌, ◌++◌, refl, sym, ◌∙◌, subst, ap, arith, Contains, All}
use Rattle.std.specs.List.Sorted.{IsPermutation}
use Rattle.std.proofs.lemmas.Bool.{cases_eq, eq-eqb, ne_eqb, true≢false}
use Rattle.std.proofs.lemmas.List.Elements.{Contains-append_left, Contains-append_right, Contains-append_cases, All-contains, All-head, All-tail, filter_passes}
use Rattle.std.proofs.lemmas.List.Sums.{sum_by-cons, sum_by-append}
use Rattle.std.proofs.lemmas.List.Sorted.{Contains-permutation, IsPermutation-sym, sum_by-IsPermutation}
use Rattle.npp_frac.specs.Rational.{Rational, is_less, ◌≤ℚ◌, ◌<ℚ◌}
use Rattle.npp_frac.specs.Order.{is_less_yes, is_less_of_<ℚ}
use Rattle.npp_tree.specs.Bounds.{BoundValue, IsAbove}
use Rattle.npp_tree.specs.Tree.{Placed, was_opened}
use Rattle.npp_tree.specs.Keyed.{Held, without_key}
use Rattle.npp_tree.proofs.BoundLaws.{above_less}
use Rattle.npp_tree.proofs.CountLaws.{in_head, in_tail, in_cases}
use Rattle.npp_tree.proofs.FamilyLaws.{is_kept}
use Rattle.npp_search.specs.declared.waiting.Waiting.{Waiting}
use Rattle.npp_search.specs.Grown.{IsLive}
use Rattle.npp_search.specs.Search.{bound_at, StandsFor, waiting_count, AreWaiting, TakesOne, still_waiting}

-- ---- keys

abbrev one_if_key : ℕ → Waiting → ℕ
one_if_key key w = cond (nat_eq w.key key) 1 0

own_key : (w : Waiting) → one_if_key w.key w ≡ 1
own_key w = ap (λ b. cond b 1 0) (eq-eqb w.key w.key refl)

-- where none has a key, each has another, and conversely
none_with : (ws : List Waiting) (key : ℕ) → waiting_count ws key ≡ 0 → (w : Waiting) → Contains ws w → w.key ≢ key
none_with [] key none w c same = (let lt = c.1 in absurd (omega arith))
none_with (v ∷ ws) key none w c same =
    let sum = sum_by-cons (one_if_key key) v ws in
    elim (in_cases v w ws c) [
      | inl here ↦ (let one : one_if_key key v ≡ 1 = ap (λ b. cond b 1 0) (eq-eqb v.key key (ap (λ (x : Waiting). x.key) here ∙ same)) in absurd (omega (arith, sum, none, one)))
      | inr rest ↦ none_with ws key (omega (arith, sum, none)) w rest same
    ]

pub none_of : (ws : List Waiting) (key : ℕ) → ((w : Waiting) → Contains ws w → w.key ≢ key) → waiting_count ws key ≡ 0
none_of [] key apart = omega arith
none_of (v ∷ ws) key apart =
    let zero' : one_if_key key v ≡ 0 = ap (λ b. cond b 1 0) (ne_eqb v.key key (apart v (in_head v ws))) in
    omega (arith, sum_by-cons (one_if_key key) v ws, zero', none_of ws key (λ w c. apart w (in_tail v w ws c)))

-- ---- nodes that are dropped

-- those that are not above a value are dropped, and no others
pub record DropsDead (lower : Rational) (old new : List Waiting) : Type 0 where
  pub above : (w : Waiting) → Contains new w → lower <ℚ bound_at w
  pub among : (w : Waiting) → Contains new w → Contains old w
  pub kept : (w : Waiting) → Contains old w → lower <ℚ bound_at w → Contains new w
  pub no_more : (key : ℕ) → waiting_count new key ≤ waiting_count old key

module _ (lower : Rational) where
  dropped_above : (ws : List Waiting) (w : Waiting) → Contains (still_waiting lower ws) w → lower <ℚ bound_at w
  dropped_above ws w c = is_less_yes lower (bound_at w) (All-contains (λ (v : Waiting). is_less lower (bound_at v) ≡ true) (still_waiting lower ws) w (filter_passes (λ (v : Waiting). is_less lower (bound_at v)) ws) c)

  dropped_among : (ws : List Waiting) (w : Waiting) → Contains (still_waiting lower ws) w → Contains ws w
  dropped_among [] w c = c
  dropped_among (v ∷ ws) w c = by (is_less lower (bound_at v)) (dropped_among ws w) c
    where
      by : (b : Bool) → (Contains (still_waiting lower ws) w → Contains ws w) → Contains (cond b (v ∷ still_waiting lower ws) (still_waiting lower ws)) w → Contains (v ∷ ws) w
      by true further c = elim (in_cases v w (still_waiting lower ws) c) [
        | inl same ↦ subst (λ (x : Waiting). Contains (v ∷ ws) x) same (in_head v ws)
        | inr rest ↦ in_tail v w ws (further rest)
      ]
      by false further c = in_tail v w ws (further c)

  dropped_fewer : (ws : List Waiting) (key : ℕ) → waiting_count (still_waiting lower ws) key ≤ waiting_count ws key
  dropped_fewer [] key = omega arith
  dropped_fewer (v ∷ ws) key = by (is_less lower (bound_at v)) (dropped_fewer ws key)
    where
      by : (b : Bool) → waiting_count (still_waiting lower ws) key ≤ waiting_count ws key → waiting_count (cond b (v ∷ still_waiting lower ws) (still_waiting lower ws)) key ≤ waiting_count (v ∷ ws) key
      by true further = omega (arith, further, sum_by-cons (one_if_key key) v (still_waiting lower ws), sum_by-cons (one_if_key key) v ws)
      by false further = omega (arith, further, sum_by-cons (one_if_key key) v ws)

  pub drops_dead : (ws : List Waiting) → DropsDead lower ws (still_waiting lower ws)
  drops_dead ws = record {
    above = dropped_above ws;
    among = dropped_among ws;
    kept = λ w c above. is_kept (λ (v : Waiting). is_less lower (bound_at v)) ws w c (is_less_of_<ℚ lower (bound_at w) above);
    no_more = dropped_fewer ws;
  }

-- the same in another order
pub drops_moved : (lower : Rational) (ws kept new : List Waiting) → DropsDead lower ws kept → IsPermutation kept new → DropsDead lower ws new
drops_moved lower ws kept new drops same = record {
  above = λ w c. drops.above w (Contains-permutation new kept w (IsPermutation-sym kept new same) c);
  among = λ w c. drops.among w (Contains-permutation new kept w (IsPermutation-sym kept new same) c);
  kept = λ w c above. Contains-permutation kept new w same (drops.kept w c above);
  no_more = λ key. omega (arith, sum_by-IsPermutation (one_if_key key) kept new same, drops.no_more key);
}

-- where all are above the value, none is dropped
pub none_dropped : (lower : Rational) (ws : List Waiting) → All (λ w. lower <ℚ bound_at w) ws → ws ≡ still_waiting lower ws
none_dropped lower [] above = refl
none_dropped lower (w ∷ ws) above =
    let passes = is_less_of_<ℚ lower (bound_at w) (All-head (λ v. lower <ℚ bound_at v) w ws above) in
    ap (λ vs. w ∷ vs) (none_dropped lower ws (All-tail (λ v. lower <ℚ bound_at v) w ws above)) ∙ ap (λ b. cond b (w ∷ still_waiting lower ws) (still_waiting lower ws)) (sym passes)

-- ---- a turn

-- what is added: the live ones among the children, each once, under keys that none had
pub record AreAdded (old : List Waiting) (children : List (Placed Held)) (higher : Rational) (added : List Waiting) : Type 0 where
  pub live : (a : Waiting) → Contains added a → (c : Placed Held) × Contains children c × StandsFor a c × IsLive higher (without_key c)
  pub all : (c : Placed Held) → Contains children c → IsLive higher (without_key c) → (a : Waiting) × Contains added a × StandsFor a c
  pub once : (key : ℕ) → waiting_count added key ≤ 1
  pub fresh : (key : ℕ) → 0 < waiting_count added key → waiting_count old key ≡ 0

module _ (front back children : List (Placed Held)) (p now : Placed Held) (lower higher : Rational) (old rest added new : List Waiting) (w : Waiting)
    (waiting : AreWaiting (front ++ p ∷ back) lower old) (takes : TakesOne old rest w) (stands : StandsFor w p)
    (before : (q : Placed Held) → Contains front q → q.node.key ≢ p.node.key) (after : (q : Placed Held) → Contains back q → q.node.key ≢ p.node.key)
    (opened : was_opened (without_key now) ≡ true) (rises : lower ≤ℚ higher) (adds : AreAdded old children higher added) (drops : DropsDead higher (rest ++ added) new) where
  nodes : List (Placed Held)
  nodes = front ++ now ∷ (children ++ back)

  split_count : (key : ℕ) → waiting_count old key ≡ one_if_key key w + waiting_count rest key
  split_count key =
      let same = sum_by-IsPermutation (one_if_key key) old (w ∷ rest) takes.same in
      omega (arith, same, sum_by-cons (one_if_key key) w rest)

  -- no other has the key of the one that is taken out
  other_key : (v : Waiting) → Contains rest v → v.key ≢ w.key
  other_key v c = none_with rest w.key (omega (arith, split_count w.key, waiting.once w.key, own_key w)) v c

  was_waiting : (v : Waiting) → Contains rest v → Contains old v
  was_waiting v c = Contains-permutation (w ∷ rest) old v (IsPermutation-sym old (w ∷ rest) takes.same) (in_tail w v rest c)

  -- a node of another key is still there
  still_there : (q : Placed Held) → Contains (front ++ p ∷ back) q → q.node.key ≢ p.node.key → Contains (front ++ now ∷ (children ++ back)) q
  still_there q c apart = elim (Contains-append_cases front (p ∷ back) q c) [
    | inl in_front ↦ Contains-append_left front (now ∷ (children ++ back)) q in_front
    | inr others ↦ elim (in_cases p q back others) [
      | inl same ↦ absurd (apart (ap (λ (x : Placed Held). x.node.key) (sym same)))
      | inr in_back ↦ Contains-append_right front (now ∷ (children ++ back)) q (in_tail now q (children ++ back) (Contains-append_right children back q in_back))
    ]
  ]

  above_at : (v : Waiting) (q : Placed Held) → StandsFor v q → higher <ℚ bound_at v → IsAbove q.node.node.bound higher
  above_at v q s h = subst (λ (b : BoundValue). IsAbove b higher) s.bound h

  bound_above : (v : Waiting) (q : Placed Held) → StandsFor v q → IsAbove q.node.node.bound higher → higher <ℚ bound_at v
  bound_above v q s h = subst (λ (b : BoundValue). IsAbove b higher) (sym s.bound) h

  live_rest : (v : Waiting) → Contains rest v → higher <ℚ bound_at v
      → (q : Placed Held) × Contains (front ++ now ∷ (children ++ back)) q × StandsFor v q × IsLive higher (without_key q)
  live_rest v c h =
      let found = waiting.live v (was_waiting v c) in
      let s = found.2 in
      let apart : found.0.node.key ≢ p.node.key = λ e. other_key v c (s.key ∙ (e ∙ sym stands.key)) in
      let live = found.3 in
      (found.0, still_there found.0 found.1 apart, s, record { unopened = live.unopened; above = above_at v found.0 s h })

  live_added : (v : Waiting) → Contains added v → (q : Placed Held) × Contains (front ++ now ∷ (children ++ back)) q × StandsFor v q × IsLive higher (without_key q)
  live_added v c =
      let found = adds.live v c in
      (found.0, Contains-append_right front (now ∷ (children ++ back)) found.0 (in_tail now found.0 (children ++ back) (Contains-append_left children back found.0 found.1)), found.2, found.3)

  -- a live node of another key than the opened one waited, and waits still
  kept_node : (q : Placed Held) → Contains (front ++ p ∷ back) q → q.node.key ≢ p.node.key → IsLive higher (without_key q) → (v : Waiting) × Contains new v × StandsFor v q
  kept_node q c apart live =
      let found = waiting.all q c (record { unopened = live.unopened; above = above_less q.node.node.bound higher lower rises live.above }) in
      let s = found.2 in
      let here : Contains rest found.0 = elim (in_cases w found.0 rest (Contains-permutation old (w ∷ rest) found.0 takes.same found.1)) [
        | inl same ↦ absurd (apart (sym s.key ∙ (ap (λ (x : Waiting). x.key) (sym same) ∙ stands.key)))
        | inr in_rest ↦ in_rest
      ] in
      (found.0, drops.kept found.0 (Contains-append_left rest added found.0 here) (bound_above found.0 q s live.above), s)

  kept_child : (q : Placed Held) → Contains children q → IsLive higher (without_key q) → (v : Waiting) × Contains new v × StandsFor v q
  kept_child q c live =
      let found = adds.all q c live in
      (found.0, drops.kept found.0 (Contains-append_right rest added found.0 found.1) (bound_above found.0 q found.2 live.above), found.2)

  counted : (key : ℕ) → waiting_count new key ≤ waiting_count rest key + waiting_count added key
  counted key =
      let sum = sum_by-append (one_if_key key) rest added in
      omega (arith, drops.no_more key, sum)

  few : (key : ℕ) → waiting_count new key ≤ 1
  few key = elim (cases_eq (waiting_count added key) 0) [
    | inl none ↦ omega (arith, counted key, none, split_count key, waiting.once key)
    | inr some ↦ (let fresh = adds.fresh key (omega (arith, some)) in omega (arith, counted key, fresh, adds.once key, split_count key))
  ]

  pub waiting_after : AreWaiting (front ++ now ∷ (children ++ back)) higher new
  waiting_after = record {
    live = λ v c. elim (Contains-append_cases rest added v (drops.among v c)) [
      | inl in_rest ↦ live_rest v in_rest (drops.above v c)
      | inr in_added ↦ live_added v in_added
    ];
    all = λ q c live. elim (Contains-append_cases front (now ∷ (children ++ back)) q c) [
      | inl in_front ↦ kept_node q (Contains-append_left front (p ∷ back) q in_front) (before q in_front) live
      | inr others ↦ elim (in_cases now q (children ++ back) others) [
        | inl same ↦ absurd (true≢false (sym opened ∙ (ap (λ (x : Placed Held). was_opened (without_key x)) same ∙ live.unopened)))
        | inr later ↦ elim (Contains-append_cases children back q later) [
          | inl child ↦ kept_child q child live
          | inr in_back ↦ kept_node q (Contains-append_right front (p ∷ back) q (in_tail p q back in_back)) (after q in_back) live
        ]
      ]
    ];
    once = few;
  }
