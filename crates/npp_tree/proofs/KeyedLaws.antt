-- Keys of trees under construction, as leaves are settled and split.
use Rattle.std.proofs.Common.{◌≡◌, inl, inr, ℕ, ◌+◌, ◌*◌, ◌≤◌, Bool, cond, nat_eq, [], ◌∷◌, ◌++◌, sym, ◌∙◌, subst, ap, arith}
use Rattle.std.specs.Prelude.{count_by}
use Rattle.std.proofs.lemmas.Bool.{cases_eq, eq-eqb, ne_eqb}
use Rattle.std.proofs.lemmas.List.Sums.{sum_by-cons, sum_by-append}
use Rattle.npp_tree.specs.Family.{Division}
use Rattle.npp_tree.specs.Tree.{Tree, Leaf, Split}
use Rattle.npp_tree.specs.Keyed.{Held, in_order, leaves_in, key_count, HasKeys, AreFresh, settled, split_at}

-- 1 where the node has the key, and else 0
abbrev pub one_at : ℕ → Held → ℕ
one_at key h = cond (nat_eq h.key key) 1 0

pub one_at_own : (key : ℕ) (h : Held) → h.key ≡ key → one_at key h ≡ 1
one_at_own key h same = ap (λ b. cond b 1 0) (eq-eqb h.key key same)

pub one_at_other : (key : ℕ) (h : Held) → (h.key ≡ key → ⊥) → one_at key h ≡ 0
one_at_other key h apart = ap (λ b. cond b 1 0) (ne_eqb h.key key apart)

pub one_at_most : (key : ℕ) (h : Held) → one_at key h ≤ 1
one_at_most key h = elim (cases_eq h.key key) [
  | inl same ↦ (let one = one_at_own key h same in omega (arith, one))
  | inr apart ↦ (let none = one_at_other key h apart in omega (arith, none))
]

-- how many leaves have the key
abbrev pub leaf_count : Tree Held → ℕ → ℕ
leaf_count tree key = count_by (λ h. nat_eq h.key key) (leaves_in tree)

-- ---- counts of a leaf, and of a node that is split

pub key_count-leaf : (h : Held) (key : ℕ) → key_count (Leaf h) key ≡ one_at key h
key_count-leaf h key = omega (arith, sum_by-cons (one_at key) h [])

pub key_count-split : (h : Held) (d : Division) (first second : Tree Held) (key : ℕ)
    → key_count (Split h d first second) key ≡ one_at key h + key_count first key + key_count second key
key_count-split h d first second key =
    omega (arith, sum_by-cons (one_at key) h (in_order first ++ in_order second), sum_by-append (one_at key) (in_order first) (in_order second))

leaf_count-leaf : (h : Held) (key : ℕ) → leaf_count (Leaf h) key ≡ one_at key h
leaf_count-leaf h key = omega (arith, sum_by-cons (one_at key) h [])

leaf_count-split : (h : Held) (d : Division) (first second : Tree Held) (key : ℕ) → leaf_count (Split h d first second) key ≡ leaf_count first key + leaf_count second key
leaf_count-split h d first second key = sum_by-append (one_at key) (leaves_in first) (leaves_in second)

pub leaf_count-le : (tree : Tree Held) (key : ℕ) → leaf_count tree key ≤ key_count tree key
leaf_count-le (Leaf h) key = omega (arith, leaf_count-leaf h key, key_count-leaf h key)
leaf_count-le (Split h d first second) key =
    omega (arith, leaf_count-split h d first second key, key_count-split h d first second key, leaf_count-le first key, leaf_count-le second key)

-- ---- a leaf is settled

pub key_count-settled : (tree : Tree Held) (h : Held) (key : ℕ) → key_count (settled tree h) key ≡ key_count tree key
key_count-settled (Leaf a) h key = elim (cases_eq a.key h.key) [
  | inl same ↦ subst (λ (b : Bool). key_count (cond b (Leaf h) (Leaf a)) key ≡ key_count (Leaf a) key) (sym (eq-eqb a.key h.key same))
      (key_count-leaf h key ∙ (ap (λ n. cond (nat_eq n key) 1 0) (sym same) ∙ sym (key_count-leaf a key)))
  | inr apart ↦ ap (λ b. key_count (cond b (Leaf h) (Leaf a)) key) (ne_eqb a.key h.key apart)
]
key_count-settled (Split a d first second) h key =
    omega (arith, key_count-split a d (settled first h) (settled second h) key, key_count-split a d first second key, key_count-settled first h key, key_count-settled second h key)

pub HasKeys-settled : (tree : Tree Held) (h : Held) → HasKeys tree → HasKeys (settled tree h)
HasKeys-settled tree h keys key = omega (arith, key_count-settled tree h key, keys key)

-- ---- a leaf is split

module _ (name : ℕ) (d : Division) (one other : Held) where
  -- what the two children add
  abbrev pub added : ℕ → ℕ
  added key = one_at key one + one_at key other

  split_leaf : (a : Held) (key : ℕ) → a.key ≡ name → key_count (split_at (Leaf a) name d one other) key ≡ key_count (Leaf a) key + leaf_count (Leaf a) name * added key
  split_leaf a key same =
      let here : leaf_count (Leaf a) name ≡ 1 = leaf_count-leaf a name ∙ one_at_own name a same in
      subst (λ (b : Bool). key_count (cond b (Split a d (Leaf one) (Leaf other)) (Leaf a)) key ≡ key_count (Leaf a) key + leaf_count (Leaf a) name * added key)
      (sym (eq-eqb a.key name same))
      (rw here (omega (arith, key_count-split a d (Leaf one) (Leaf other) key, key_count-leaf one key, key_count-leaf other key, key_count-leaf a key)))

  keep_leaf : (a : Held) (key : ℕ) → (a.key ≡ name → ⊥) → key_count (split_at (Leaf a) name d one other) key ≡ key_count (Leaf a) key + leaf_count (Leaf a) name * added key
  keep_leaf a key apart =
      let here : leaf_count (Leaf a) name ≡ 0 = leaf_count-leaf a name ∙ one_at_other name a apart in
      subst (λ (b : Bool). key_count (cond b (Split a d (Leaf one) (Leaf other)) (Leaf a)) key ≡ key_count (Leaf a) key + leaf_count (Leaf a) name * added key)
      (sym (ne_eqb a.key name apart)) (rw here (omega arith))

  combined : (t n l h t1 t2 n1 n2 l1 l2 c : ℕ) → t ≡ h + t1 + t2 → n ≡ h + n1 + n2 → l ≡ l1 + l2 → t1 ≡ n1 + l1 * c → t2 ≡ n2 + l2 * c → t ≡ n + l * c
  combined t n l h t1 t2 n1 n2 l1 l2 c et en el e1 e2 = rw el (omega (arith, et, en, e1, e2))

  pub key_count-split_at : (tree : Tree Held) (key : ℕ) → key_count (split_at tree name d one other) key ≡ key_count tree key + leaf_count tree name * added key
  key_count-split_at (Leaf a) key = elim (cases_eq a.key name) [
    | inl same ↦ split_leaf a key same
    | inr apart ↦ keep_leaf a key apart
  ]
  key_count-split_at (Split a e first second) key =
      combined (key_count (split_at (Split a e first second) name d one other) key) (key_count (Split a e first second) key) (leaf_count (Split a e first second) name) (one_at key a)
      (key_count (split_at first name d one other) key) (key_count (split_at second name d one other) key) (key_count first key) (key_count second key)
      (leaf_count first name) (leaf_count second name) (added key)
      (key_count-split a e (split_at first name d one other) (split_at second name d one other) key) (key_count-split a e first second key)
      (leaf_count-split a e first second name) (key_count-split_at first key) (key_count-split_at second key)

  -- at a key of a child nothing stood before
  at_one : (m n x y : ℕ) → m ≡ 0 → n ≤ 1 → x ≡ 1 → y ≡ 0 → m + n * (x + y) ≤ 1
  at_one m n x y none few ex ey = rw (none, ex, ey) (omega arith)

  at_other : (m n x y : ℕ) → m ≡ 0 → n ≤ 1 → x ≡ 0 → y ≡ 1 → m + n * (x + y) ≤ 1
  at_other m n x y none few ex ey = rw (none, ex, ey) (omega arith)

  at_none : (m n x y : ℕ) → m ≤ 1 → x ≡ 0 → y ≡ 0 → m + n * (x + y) ≤ 1
  at_none m n x y few ex ey = rw (ex, ey) (omega arith)

  pub HasKeys-split_at : (tree : Tree Held) → HasKeys tree → AreFresh tree one.key other.key → HasKeys (split_at tree name d one other)
  HasKeys-split_at tree keys fresh key =
      let few : leaf_count tree name ≤ 1 = omega (arith, leaf_count-le tree name, keys name) in
      subst (λ n. n ≤ 1) (sym (key_count-split_at tree key)) (elim (cases_eq one.key key) [
        | inl same ↦ at_one (key_count tree key) (leaf_count tree name) (one_at key one) (one_at key other) (ap (key_count tree) (sym same) ∙ fresh.first) few
            (one_at_own key one same) (one_at_other key other (λ e. fresh.apart (same ∙ sym e)))
        | inr apart ↦ elim (cases_eq other.key key) [
          | inl same ↦ at_other (key_count tree key) (leaf_count tree name) (one_at key one) (one_at key other) (ap (key_count tree) (sym same) ∙ fresh.second) few
              (one_at_other key one apart) (one_at_own key other same)
          | inr free ↦ at_none (key_count tree key) (leaf_count tree name) (one_at key one) (one_at key other) (keys key) (one_at_other key one apart) (one_at_other key other free)
        ]
      ])
