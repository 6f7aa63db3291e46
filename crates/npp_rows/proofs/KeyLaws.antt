-- Lists that rise by a key of three numbers: no key comes twice, and a place is a name.
use Rattle.std.proofs.Common.{◌≡◌, ◌≢◌, ℕ, zero, suc, ◌+◌, ◌<◌, ◌≤◌, Bool, true, false, cond, List, [], ◌∷◌, ◌++◌, length, map, get_or, Option, Some, None, All, refl, sym, ap, ◌∙◌, arith, inl, inr}
use Rattle.std.specs.Prelude.{◌⊎◌, ◌==◌, nat_lt, ◌&&◌, ◌||◌, MatchOption}
use Rattle.std.specs.List.{AllPairs, range_with_len, flat_map, position_from, list_any}
use Rattle.std.proofs.lemmas.Bool.{lt-ltb, le-ltb, ltb-true, eqb-true, eq-eqb, ne_eqb, or_left, or_right, or_cases, and_from, and_parts, false_from_ne_true, cases_order}
use Rattle.std.proofs.lemmas.List.{get_or-map, length-map, get_or_default}
use Rattle.std.proofs.lemmas.List.Elements.{All-append, All-head, All-tail, All-map, All-nil, All-weaker}
use Rattle.std.proofs.lemmas.List.Kept.{AllPairs-cons}
use Rattle.npp_rows.specs.RowOrder.{is_key_less, is_key_same}
use Rattle.npp_rows.specs.Places.{StandsAt, IsPlaceIn}

-- ---- keys

-- one key is before another by its kind, by its commodity, or by its last number
pub less_by_kind : (x y : ℕ × ℕ × ℕ) → x.0 < y.0 → is_key_less x y ≡ true
less_by_kind x y h = or_left (nat_lt x.0 y.0) ((x.0 == y.0) && (nat_lt x.1 y.1 || ((x.1 == y.1) && nat_lt x.2 y.2))) (lt-ltb x.0 y.0 h)

pub less_by_commodity : (x y : ℕ × ℕ × ℕ) → x.0 ≡ y.0 → x.1 < y.1 → is_key_less x y ≡ true
less_by_commodity x y e h =
    or_right (nat_lt x.0 y.0) ((x.0 == y.0) && (nat_lt x.1 y.1 || ((x.1 == y.1) && nat_lt x.2 y.2)))
    (and_from (x.0 == y.0) (nat_lt x.1 y.1 || ((x.1 == y.1) && nat_lt x.2 y.2)) (eq-eqb x.0 y.0 e)
    (or_left (nat_lt x.1 y.1) ((x.1 == y.1) && nat_lt x.2 y.2) (lt-ltb x.1 y.1 h)))

pub less_by_last : (x y : ℕ × ℕ × ℕ) → x.0 ≡ y.0 → x.1 ≡ y.1 → x.2 < y.2 → is_key_less x y ≡ true
less_by_last x y e f h =
    or_right (nat_lt x.0 y.0) ((x.0 == y.0) && (nat_lt x.1 y.1 || ((x.1 == y.1) && nat_lt x.2 y.2)))
    (and_from (x.0 == y.0) (nat_lt x.1 y.1 || ((x.1 == y.1) && nat_lt x.2 y.2)) (eq-eqb x.0 y.0 e)
    (or_right (nat_lt x.1 y.1) ((x.1 == y.1) && nat_lt x.2 y.2)
    (and_from (x.1 == y.1) (nat_lt x.2 y.2) (eq-eqb x.1 y.1 f) (lt-ltb x.2 y.2 h))))

-- what the test tells
abbrev pub IsLess : ℕ × ℕ × ℕ → ℕ × ℕ × ℕ → Type 0
IsLess x y = (x.0 < y.0) ⊎ ((x.0 ≡ y.0) × ((x.1 < y.1) ⊎ ((x.1 ≡ y.1) × (x.2 < y.2))))

pub less_tells : (x y : ℕ × ℕ × ℕ) → is_key_less x y ≡ true → IsLess x y
less_tells x y h = elim (or_cases (nat_lt x.0 y.0) ((x.0 == y.0) && (nat_lt x.1 y.1 || ((x.1 == y.1) && nat_lt x.2 y.2))) h) [
  | inl kind ↦ inl (ltb-true x.0 y.0 kind)
  | inr rest ↦
      let parts = and_parts (x.0 == y.0) (nat_lt x.1 y.1 || ((x.1 == y.1) && nat_lt x.2 y.2)) rest in
      inr (
        eqb-true x.0 y.0 parts.0,
        elim (or_cases (nat_lt x.1 y.1) ((x.1 == y.1) && nat_lt x.2 y.2) parts.1) [
          | inl commodity ↦ inl (ltb-true x.1 y.1 commodity)
          | inr last ↦ let ends = and_parts (x.1 == y.1) (nat_lt x.2 y.2) last in inr (eqb-true x.1 y.1 ends.0, ltb-true x.2 y.2 ends.1)
        ],
      )
]

pub same_tells : (x y : ℕ × ℕ × ℕ) → is_key_same x y ≡ true → (x.0 ≡ y.0) × (x.1 ≡ y.1) × (x.2 ≡ y.2)
same_tells x y h =
    let outer = and_parts ((x.0 == y.0) && (x.1 == y.1)) (x.2 == y.2) h in
    let inner = and_parts (x.0 == y.0) (x.1 == y.1) outer.0 in
    (eqb-true x.0 y.0 inner.0, eqb-true x.1 y.1 inner.1, eqb-true x.2 y.2 outer.1)

pub same_of : (x y : ℕ × ℕ × ℕ) → x.0 ≡ y.0 → x.1 ≡ y.1 → x.2 ≡ y.2 → is_key_same x y ≡ true
same_of x y e f g = and_from ((x.0 == y.0) && (x.1 == y.1)) (x.2 == y.2) (and_from (x.0 == y.0) (x.1 == y.1) (eq-eqb x.0 y.0 e) (eq-eqb x.1 y.1 f)) (eq-eqb x.2 y.2 g)

never_less : (x y : ℕ × ℕ × ℕ) → x.0 ≡ y.0 → x.1 ≡ y.1 → x.2 ≡ y.2 → IsLess x y → ⊥
never_less x y e f g (inl h) = omega (arith, h, e)
never_less x y e f g (inr (same, inl h)) = omega (arith, h, f)
never_less x y e f g (inr (same, inr (there, h))) = omega (arith, h, g)

-- a key before another is not the same
pub less_is_other : (x y : ℕ × ℕ × ℕ) → is_key_less x y ≡ true → is_key_same y x ≡ false
less_is_other x y h =
    false_from_ne_true (is_key_same y x) (λ s. let same = same_tells y x s in never_less x y (sym same.0) (sym same.1) (sym same.2) (less_tells x y h))

-- nor is it behind
pub less_is_one_way : (x y : ℕ × ℕ × ℕ) → is_key_less x y ≡ true → is_key_less y x ≡ true → ⊥
less_is_one_way x y h g = either (less_tells x y h) (less_tells y x g)
  where
    either : IsLess x y → IsLess y x → ⊥
    either (inl a) (inl b) = omega (arith, a, b)
    either (inl a) (inr (same, rest)) = omega (arith, a, same)
    either (inr (same, rest)) (inl b) = omega (arith, b, same)
    either (inr (same, inl a)) (inr (there, inl b)) = omega (arith, a, b)
    either (inr (same, inl a)) (inr (there, inr (e, b))) = omega (arith, a, e)
    either (inr (same, inr (e, a))) (inr (there, inl b)) = omega (arith, b, e)
    either (inr (same, inr (e, a))) (inr (there, inr (f, b))) = omega (arith, a, b)

-- ---- lists that rise

-- one list behind another
pub pairs_append : {X : Type 0} (R : X → X → Type 0) (xs ys : List X) → AllPairs R xs → AllPairs R ys → All (λ x. All (R x) ys) xs → AllPairs R (xs ++ ys)
pairs_append R [] ys h g across = g
pairs_append R (x ∷ xs) ys h g across =
    AllPairs-cons R x (xs ++ ys)
    (All-append (R x) xs ys (λ k d l. h 0 (suc k) d (omega arith) (omega (arith, l))) (All-head (λ z. All (R z) ys) x xs across))
    (pairs_append R xs ys (λ i j d l k. h (suc i) (suc j) d (omega (arith, l)) (omega (arith, k))) g (All-tail (λ z. All (R z) ys) x xs across))

-- each key is before each later one
abbrev pub RiseBy : {X : Type 0} → (X → ℕ × ℕ × ℕ) → List X → Type 0
RiseBy key xs = AllPairs (λ x y. is_key_less (key x) (key y) ≡ true) xs

-- a list that rises, of kinds below c
pub record RisesBelow {X : Type 0} (key : X → ℕ × ℕ × ℕ) (c : ℕ) (xs : List X) : Type 0 where
  pub rises : RiseBy key xs
  pub below : All (λ x. (key x).0 < c) xs

-- a list that rises, of one kind
pub record RisesAt {X : Type 0} (key : X → ℕ × ℕ × ℕ) (c : ℕ) (xs : List X) : Type 0 where
  pub rises : RiseBy key xs
  pub at : All (λ x. (key x).0 ≡ c) xs

module _ {X : Type 0} (key : X → ℕ × ℕ × ℕ) where
  pub first_kind : (c d : ℕ) (xs : List X) → c < d → RisesAt key c xs → RisesBelow key d xs
  first_kind c d xs h r = record {
    rises = r.rises;
    below = All-weaker (λ x. (key x).0 ≡ c) (λ x. (key x).0 < d) (λ x e. omega (arith, e, h)) xs r.at;
  }

  pub one_kind : (c d : ℕ) (xs ys : List X) → c < d → RisesBelow key c xs → RisesAt key c ys → RisesBelow key d (xs ++ ys)
  one_kind c d xs ys h r s = record {
    rises = pairs_append (λ x y. is_key_less (key x) (key y) ≡ true) xs ys r.rises s.rises (λ i e l. λ j f k.
        less_by_kind (key (get_or xs i e)) (key (get_or ys j f)) (omega (arith, r.below i e l, s.at j f k)));
    below = All-append (λ x. (key x).0 < d) xs ys
        (All-weaker (λ x. (key x).0 < c) (λ x. (key x).0 < d) (λ x e. omega (arith, e, h)) xs r.below)
        (All-weaker (λ x. (key x).0 ≡ c) (λ x. (key x).0 < d) (λ x e. omega (arith, e, h)) ys s.at);
  }

  -- names of numbers that rise
  pub named_rise : (f : ℕ → X) (ns : List ℕ) → AllPairs (λ p q. p < q) ns → ((p q : ℕ) → p < q → is_key_less (key (f p)) (key (f q)) ≡ true) → RiseBy key (map f ns)
  named_rise f ns rising less i j d l k =
      let u : j < length ns = rw (length-map ns f) at k in
      rw (get_or-map f ns i 0 d (omega arith), get_or-map f ns j 0 d u) (less (get_or ns i 0) (get_or ns j 0) (rising i j 0 l u))

  pub singles_at : (c : ℕ) (f : ℕ → X) (ns : List ℕ) → AllPairs (λ p q. p < q) ns → ((p q : ℕ) → p < q → is_key_less (key (f p)) (key (f q)) ≡ true) → ((p : ℕ) → (key (f p)).0 ≡ c) → RisesAt key c (map f ns)
  singles_at c f ns rising less kind = record {
    rises = named_rise f ns rising less;
    at = All-map (λ x. (key x).0 ≡ c) f ns (λ i d l. kind (get_or ns i d));
  }

  -- of this kind, and of commodity a or a later one
  abbrev IsFrom : ℕ → ℕ → X → Type 0
  IsFrom c a x = ((key x).0 ≡ c) × (a ≤ (key x).1)

  -- of this kind and commodity
  abbrev pub IsOf : ℕ → ℕ → X → Type 0
  IsOf c k x = ((key x).0 ≡ c) × ((key x).1 ≡ k)

  pieces_from : (c : ℕ) (g : ℕ → List X) → ((k : ℕ) → All (IsOf c k) (g k)) → (a n : ℕ) → All (IsFrom c a) (flat_map g (range_with_len a n))
  pieces_from c g own a zero = All-nil (IsFrom c a)
  pieces_from c g own a (suc n) =
      All-append (IsFrom c a) (g a) (flat_map g (range_with_len (a + 1) n))
      (All-weaker (IsOf c a) (IsFrom c a) (λ x h. (h.0, omega (arith, h.1))) (g a) (own a))
      (All-weaker (IsFrom c (a + 1)) (IsFrom c a) (λ x h. (h.0, omega (arith, h.1))) (flat_map g (range_with_len (a + 1) n)) (pieces_from c g own (a + 1) n))

  -- the pieces of the commodities, one after another
  pub pieces_rise : (c : ℕ) (g : ℕ → List X) → ((k : ℕ) → All (IsOf c k) (g k)) → ((k : ℕ) → RiseBy key (g k)) → (a n : ℕ) → RiseBy key (flat_map g (range_with_len a n))
  pieces_rise c g own each a zero = λ i j d l k. absurd (omega (arith, k))
  pieces_rise c g own each a (suc n) =
      pairs_append (λ x y. is_key_less (key x) (key y) ≡ true) (g a) (flat_map g (range_with_len (a + 1) n)) (each a) (pieces_rise c g own each (a + 1) n) (λ i d l. λ j e k.
      let here = own a i d l in
      let later = pieces_from c g own (a + 1) n j e k in
      less_by_commodity (key (get_or (g a) i d)) (key (get_or (flat_map g (range_with_len (a + 1) n)) j e)) (here.0 ∙ sym later.0) (omega (arith, here.1, later.1)))

  pub pieces_at : (c : ℕ) (g : ℕ → List X) → ((k : ℕ) → All (IsOf c k) (g k)) → ((k : ℕ) → RiseBy key (g k)) → (n : ℕ) → RisesAt key c (flat_map g (range_with_len 0 n))
  pieces_at c g own each n = record {
    rises = pieces_rise c g own each 0 n;
    at = All-weaker (IsFrom c 0) (λ x. (key x).0 ≡ c) (λ x h. h.0) (flat_map g (range_with_len 0 n)) (pieces_from c g own 0 n);
  }

  -- a name for each number of the list of each commodity
  pub pairs_at : (c : ℕ) (name : ℕ → ℕ → X) (lists : ℕ → List ℕ) → ((p k : ℕ) → (key (name p k)).0 ≡ c) → ((p k : ℕ) → (key (name p k)).1 ≡ k) → ((p k : ℕ) → (key (name p k)).2 ≡ p)
      → ((k : ℕ) → AllPairs (λ p q. p < q) (lists k)) → (n : ℕ) → RisesAt key c (flat_map (λ k. map (λ p. name p k) (lists k)) (range_with_len 0 n))
  pairs_at c name lists kind commodity last rising n =
      pieces_at c (λ k. map (λ p. name p k) (lists k))
      (λ k. All-map (IsOf c k) (λ p. name p k) (lists k) (λ i d l. (kind (get_or (lists k) i d) k, commodity (get_or (lists k) i d) k)))
      (λ k. named_rise (λ p. name p k) (lists k) (rising k) (λ p q l.
      less_by_last (key (name p k)) (key (name q k)) (kind p k ∙ sym (kind q k)) (commodity p k ∙ sym (commodity q k)) (omega (arith, l, last p k, last q k)))) n

  -- ---- places

  abbrev is_named : X → X → Bool
  is_named x y = is_key_same (key x) (key y)

  -- where a list rises, what stands at a place is found there
  place_from : (n i : ℕ) (xs : List X) (x : X) → RiseBy key xs → i < length xs → get_or xs i x ≡ x → position_from (is_named x) n xs ≡ Some (n + i)
  place_from n i [] x rises l e = absurd (omega (arith, l))
  place_from n zero (y ∷ ys) x rises l e =
      let same : is_named x y ≡ true = same_of (key x) (key y) (ap (λ z. (key z).0) (sym e)) (ap (λ z. (key z).1) (sym e)) (ap (λ z. (key z).2) (sym e)) in
      rw same (ap Some (omega arith))
  place_from n (suc i) (y ∷ ys) x rises l e =
      let before : is_key_less (key y) (key (get_or ys i x)) ≡ true = rises 0 (suc i) x (omega arith) l in
      let less : is_key_less (key y) (key x) ≡ true = ap (λ z. is_key_less (key y) (key z)) (sym e) ∙ before in
      let other : is_named x y ≡ false = less_is_other (key y) (key x) less in
      rw other (place_from (n + 1) i ys x (λ a b d u v. rises (suc a) (suc b) d (omega (arith, u)) (omega (arith, v))) (omega (arith, l)) e ∙ ap Some (omega arith))

  pub place_of : (xs : List X) (x : X) (i : ℕ) → RiseBy key xs → StandsAt xs i x → position_from (is_named x) 0 xs ≡ Some i
  place_of xs x i rises h = place_from 0 i xs x rises h.within h.is ∙ ap Some (omega arith)

  -- what is found stands there
  abbrev IsThere : ℕ → List X → X → Option ℕ → Type 0
  IsThere n xs x None = list_any (is_named x) xs ≡ false
  IsThere n xs x (Some j) = (i : ℕ) × (j ≡ n + i) × (i < length xs) × (is_named x (get_or xs i x) ≡ true) × (list_any (is_named x) xs ≡ true)

  there : (n : ℕ) (xs : List X) (x : X) → IsThere n xs x (position_from (is_named x) n xs)
  there n [] x = refl
  there n (y ∷ ys) x = by (is_named x y) refl (position_from (is_named x) (n + 1) ys) (there (n + 1) ys x)
    where
      by : (b : Bool) → is_named x y ≡ b → (o : Option ℕ) → IsThere (n + 1) ys x o → IsThere n (y ∷ ys) x (cond b (Some n) o)
      by true e o h = (0, omega arith, omega arith, e, or_left (is_named x y) (list_any (is_named x) ys) e)
      by false e None h = or_both e h
        where
          or_both : is_named x y ≡ false → list_any (is_named x) ys ≡ false → (is_named x y || list_any (is_named x) ys) ≡ false
          or_both a b = rw (a, b) refl
      by false e (Some j) h = (suc h.0, omega (arith, h.1), omega (arith, h.2), h.3, or_right (is_named x y) (list_any (is_named x) ys) h.4)

  pub place_none : (xs : List X) (x : X) → position_from (is_named x) 0 xs ≡ None → list_any (is_named x) xs ≡ false
  place_none xs x e = rw e at (there 0 xs x)

  pub place_some : (xs : List X) (x : X) (j : ℕ) → position_from (is_named x) 0 xs ≡ Some j → (j < length xs) × (is_named x (get_or xs j x) ≡ true) × (list_any (is_named x) xs ≡ true)
  place_some xs x j e =
      let h = rw e at (there 0 xs x) in
      let same : h.0 ≡ j = omega (arith, h.1) in
      (omega (arith, h.2, same), ap (λ i. is_named x (get_or xs i x)) (sym same) ∙ h.3, h.4)

  -- what has no place in a list is not found in it
  pub place_absent : (P : X → Type 0) (xs : List X) (x : X) → ((y : X) → is_named x y ≡ true → x ≡ y) → All P xs → (P x → ⊥) → position_from (is_named x) 0 xs ≡ None
  place_absent P xs x same all none = by (position_from (is_named x) 0 xs) refl
    where
      by : (o : Option ℕ) → position_from (is_named x) 0 xs ≡ o → o ≡ None
      by None e = refl
      by (Some j) e =
          let h = place_some xs x j e in
          let Q : X → Type 0 = P in
          absurd (none (held (sym (same (get_or xs j x) h.1)) (all j x h.0)))
        where
          held : {y : X} → y ≡ x → P y → P x
          held e p = rw e at p

  -- the order of names is the order of places
  pub place_before : (xs : List X) (x y : X) (i j : ℕ) → RiseBy key xs → StandsAt xs i x → StandsAt xs j y → is_key_less (key x) (key y) ≡ true → i < j
  place_before xs x y i j rises h g less = elim (cases_order i j) [
    | inl same ↦ (
        let one : x ≡ y = sym h.is ∙ get_or_default xs i x y h.within ∙ ap (λ k. get_or xs k y) same ∙ g.is in
        absurd (never_less (key x) (key y) (ap (λ z. (key z).0) one) (ap (λ z. (key z).1) one) (ap (λ z. (key z).2) one) (less_tells (key x) (key y) less)))
    | inr rest ↦ elim rest [
      | inl below ↦ below
      | inr above ↦ (
          let back : is_key_less (key (get_or xs j y)) (key (get_or xs i y)) ≡ true = rises j i y above h.within in
          let here : get_or xs i y ≡ x = sym (get_or_default xs i x y h.within) ∙ h.is in
          absurd (less_is_one_way (key x) (key y) less (ap (λ z. is_key_less (key z) (key x)) (sym g.is) ∙ ap (λ z. is_key_less (key (get_or xs j y)) (key z)) (sym here) ∙ back)))
    ]
  ]

-- ---- the test place by place

or_no : (b : Bool) → b ≡ (b || false)
or_no true = refl
or_no false = refl

pub less_at_kind : (x y : ℕ × ℕ × ℕ) → x.0 ≢ y.0 → nat_lt x.0 y.0 ≡ is_key_less x y
less_at_kind x y d = let e : (x.0 == y.0) ≡ false = ne_eqb x.0 y.0 d in rw e (or_no (nat_lt x.0 y.0))

pub less_at_commodity : (x y : ℕ × ℕ × ℕ) → x.0 ≡ y.0 → x.1 ≢ y.1 → nat_lt x.1 y.1 ≡ is_key_less x y
less_at_commodity x y e d =
    let a : nat_lt x.0 y.0 ≡ false = le-ltb x.0 y.0 (omega (arith, e)) in
    let b : (x.0 == y.0) ≡ true = eq-eqb x.0 y.0 e in
    let c : (x.1 == y.1) ≡ false = ne_eqb x.1 y.1 d in
    rw (a, b, c) (or_no (nat_lt x.1 y.1))

pub less_at_last : (x y : ℕ × ℕ × ℕ) → x.0 ≡ y.0 → x.1 ≡ y.1 → nat_lt x.2 y.2 ≡ is_key_less x y
less_at_last x y e f =
    let a : nat_lt x.0 y.0 ≡ false = le-ltb x.0 y.0 (omega (arith, e)) in
    let b : (x.0 == y.0) ≡ true = eq-eqb x.0 y.0 e in
    let c : nat_lt x.1 y.1 ≡ false = le-ltb x.1 y.1 (omega (arith, f)) in
    let d : (x.1 == y.1) ≡ true = eq-eqb x.1 y.1 f in
    rw (a, b, c, d) refl

-- a place that is found by other words
pub placed_by : {X : Type 0} (xs : List X) (P : X → Type 0) (x : X) (o : Option ℕ) (Q : Type 0) (R : ℕ → Type 0) → MatchOption o Q R → (Q → P x → ⊥) → ((j : ℕ) → R j → StandsAt xs j x) → IsPlaceIn xs P x o
placed_by xs P x None Q R h none there = none h
placed_by xs P x (Some j) Q R h none there = there j h
