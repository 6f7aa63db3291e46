-- Gaps of tolls, raised path by path.
use Rattle.std.proofs.Common.{◌≡◌, ◌==◌, ◌+◌, ◌<◌, ◌≤◌, ℕ, Bool, true, false, cond, List, [], ◌∷◌, ◌++◌, length, map, take, get_or, sym, ap, subst, ◌∙◌, inl, inr, eq-eqb, eqb-true, arith}
use Rattle.std.specs.Prelude.{◌||◌, ◌≢◌, max, fold, flat_map, slice_index}
use Rattle.std.specs.Int.{bit_at}
use Rattle.std.specs.List.{list_any}
use Rattle.std.proofs.lemmas.Bool.{cases_eq, false_from_ne_true}
use Rattle.std.proofs.lemmas.Grind.{flat_map-append}
use Rattle.std.proofs.lemmas.List.{append-nil, map_push, take_more}
use Rattle.npp_net.specs.TollSets.{tolls_of}
use Rattle.npp_cover.specs.Paths.{PathValue}
use Rattle.npp_cover.specs.Replaces.{CoverValue}
use Rattle.npp_rows.specs.Caps.{toll_gap, greatest_gap}
use Rattle.npp_rows.proofs.LoweredSums.{fold_more}
use Rattle.npp_rows.proofs.UnionLaws.{listed_test}

-- ---- by the tolls of one path

-- with the tolls that are still to come, each toll of the set has at least this gap
pub record IsRaised (set gap : ℕ) (old now left : List ℕ) : Type 0 where
  pub size : length now ≡ length old
  pub gaps : (a : ℕ) → a < length old → max (slice_index now a) (cond (list_any (λ x. x == a) left) gap 0) ≡ max (slice_index old a) (cond (bit_at set a == 1) gap 0)

pub raise_begins : (set gap : ℕ) (old left : List ℕ) → length old ≤ 128 → left ≡ tolls_of set → IsRaised set gap old old left
raise_begins set gap old left few e = rw e (record {
  size = omega arith;
  gaps = λ a h. ap (λ b. max (slice_index old a) (cond b gap 0)) (listed_test set a (omega (arith, h, few)));
})

twice : (n gap : ℕ) (b : Bool) → max (max n gap) (cond b gap 0) ≡ max n gap
twice n gap true = omega arith
twice n gap false = omega arith

module _ (set gap : ℕ) (old now left : List ℕ) (h : IsRaised set gap old now left) where
  pub raise_next : (x : ℕ) (rest next : List ℕ) → left ≡ x ∷ rest → length next ≡ length now → (x < length now → slice_index next x ≡ max (slice_index now x) gap)
      → ((a : ℕ) → a ≢ x → slice_index next a ≡ slice_index now a) → IsRaised set gap old next rest
  raise_next x rest next e size raised others =
      let here : IsRaised set gap old now (x ∷ rest) = subst (λ (l : List ℕ). IsRaised set gap old now l) e h in
      record {
        size = size ∙ here.size;
        gaps = λ a lt. elim (cases_eq a x) [
          | inl same ↦
              let first : (x == a) ≡ true = eq-eqb x a (sym same) in
              let new : slice_index next a ≡ max (slice_index now a) gap =
              ap (slice_index next) same ∙ raised (omega (arith, lt, same, here.size)) ∙ ap (λ y. max (slice_index now y) gap) (sym same) in
              ap (λ n. max n (cond (list_any (λ y. y == a) rest) gap 0)) new ∙ twice (slice_index now a) gap (list_any (λ y. y == a) rest)
              ∙ sym (ap (λ b. max (slice_index now a) (cond (b || list_any (λ y. y == a) rest) gap 0)) first)
              ∙ here.gaps a lt
          | inr ne ↦
              let first : (x == a) ≡ false = false_from_ne_true (x == a) (λ t. ne (sym (eqb-true x a t))) in
              ap (λ n. max n (cond (list_any (λ y. y == a) rest) gap 0)) (others a ne)
              ∙ sym (ap (λ b. max (slice_index now a) (cond (b || list_any (λ y. y == a) rest) gap 0)) first)
              ∙ here.gaps a lt
        ];
      }

  pub raise_ends : left ≡ [] → (a : ℕ) → a < length old → slice_index now a ≡ max (slice_index old a) (cond (bit_at set a == 1) gap 0)
  raise_ends e a lt =
      let ended : IsRaised set gap old now [] = subst (λ (l : List ℕ). IsRaised set gap old now l) e h in
      let none : slice_index now a ≡ max (slice_index now a) 0 = omega arith in
      none ∙ ended.gaps a lt

-- ---- by all paths

-- one more path
pub path_next : {X : Type 0} (f : PathValue → ℕ) (v : X → PathValue) (xs : List X) (i : ℕ) (x : X) (start now next : ℕ) → i < length xs → x ≡ get_or xs i x
    → now ≡ fold max start (map f (map v (take i xs))) → next ≡ max now (f (v x)) → next ≡ fold max start (map f (map v (take (i + 1) xs)))
path_next {X} f v xs i x start now next l is so_far e =
    let more : take (i + 1) xs ≡ take i xs ++ x ∷ [] = take_more xs i x l ∙ ap (λ y. take i xs ++ y ∷ []) (sym is) in
    let whole : map f (map v (take (i + 1) xs)) ≡ map f (map v (take i xs)) ++ f (v x) ∷ [] =
    ap (λ (ys : List X). map f (map v ys)) more ∙ ap (map f) (map_push v (take i xs) x) ∙ map_push f (map v (take i xs)) (v x) in
    e ∙ ap (λ n. max n (f (v x))) so_far ∙ sym (ap (fold max start) whole ∙ fold_more (map f (map v (take i xs))) (f (v x) ∷ []) start)

-- one more cover
pub cover_next : (a : ℕ) (covers : List CoverValue) (i : ℕ) (c : CoverValue) (now next : ℕ) → i < length covers → c ≡ get_or covers i c
    → now ≡ greatest_gap (take i covers) a → next ≡ fold max now (map (toll_gap a c.free) c.paths) → next ≡ greatest_gap (take (i + 1) covers) a
cover_next a covers i c now next l is so_far e =
    let more : take (i + 1) covers ≡ take i covers ++ c ∷ [] = take_more covers i c l ∙ ap (λ y. take i covers ++ y ∷ []) (sym is) in
    let whole : flat_map (λ (c : CoverValue). map (toll_gap a c.free) c.paths) (take (i + 1) covers) ≡ flat_map (λ (c : CoverValue). map (toll_gap a c.free) c.paths) (take i covers) ++ map (toll_gap a c.free) c.paths =
    ap (flat_map (λ (c : CoverValue). map (toll_gap a c.free) c.paths)) more
    ∙ flat_map-append (λ (c : CoverValue). map (toll_gap a c.free) c.paths) (take i covers) (c ∷ [])
    ∙ ap (λ (xs : List ℕ). flat_map (λ (c : CoverValue). map (toll_gap a c.free) c.paths) (take i covers) ++ xs) (append-nil (map (toll_gap a c.free) c.paths)) in
    e ∙ ap (λ n. fold max n (map (toll_gap a c.free) c.paths)) so_far
    ∙ sym (ap (fold max 0) whole ∙ fold_more (flat_map (λ (c : CoverValue). map (toll_gap a c.free) c.paths) (take i covers)) (map (toll_gap a c.free) c.paths) 0)
