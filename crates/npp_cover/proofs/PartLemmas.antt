-- Pairs are parted by a toll, and a block is split by one.
use Rattle.std.proofs.Common.{◌≡◌, inl, inr, ℕ, ◌+◌, ◌<◌, ◌≤◌, Bool, All, List, [], ◌∷◌, ◌++◌, set, get_or, take, length, refl, sym, ◌∙◌, ap, subst, ◌||◌}
use Rattle.std.proofs.lemmas.Bool.{cases_eq}
use Rattle.std.proofs.lemmas.List.{take_all, get_or_default}
use Rattle.std.proofs.lemmas.List.Elements.{All-append, All-cons, All-nil, All-set}
use Rattle.std.proofs.lemmas.List.Folds.{list_any_more}
use Rattle.std.specs.Int.{bit_at}
use Rattle.npp_net.specs.TollSets.{Has, IsWithin}
use Rattle.npp_cover.specs.declared.blocks.Pair.{Pair}
use Rattle.npp_cover.specs.declared.blocks.Block.{Block}
use Rattle.npp_cover.specs.Blocks.{no_worse, some_no_worse, AllHave, AreKeyed, IsParted}
use Rattle.npp_cover.proofs.BlockLemmas.{or_assoc, or_swap, put_last}

-- the first n pairs are parted
pub record ArePartedSoFar (toll : ℕ) (pairs : List Pair) (n : ℕ) (with_toll without : List Pair) : Type 0 where
  pub answers : (s cost : ℕ) → some_no_worse (take n pairs) s cost ≡ (some_no_worse without s cost || some_no_worse with_toll s cost)
  pub has : All (λ p. Has p.tolls toll) with_toll
  pub keys_with : (key : ℕ) → AllHave key pairs → AllHave key with_toll
  pub keys_without : (key : ℕ) → AllHave key pairs → AllHave key without

all_more : (P : Pair → Type 0) (xs : List Pair) (x : Pair) → All P xs → P x → All P (xs ++ x ∷ [])
all_more P xs x all px = All-append P xs (x ∷ []) all (All-cons P x [] px (All-nil P))

pub parted_none : (toll : ℕ) (pairs : List Pair) → ArePartedSoFar toll pairs 0 [] []
parted_none toll pairs = record {
  answers = λ s cost. refl;
  has = All-nil (λ (p : Pair). Has p.tolls toll);
  keys_with = λ key all. All-nil (λ (p : Pair). IsWithin key p.tolls);
  keys_without = λ key all. All-nil (λ (p : Pair). IsWithin key p.tolls);
}

module _ (toll : ℕ) (pairs : List Pair) (n : ℕ) (with_toll without : List Pair) (p : Pair) (lt : n < length pairs) (is : p ≡ get_or pairs n p)
    (so_far : ArePartedSoFar toll pairs n with_toll without) where
  key_of : (key : ℕ) → AllHave key pairs → IsWithin key p.tolls
  key_of key all = subst (λ (q : Pair). IsWithin key q.tolls) (sym is) (all n p lt)

  more : (s cost : ℕ) → some_no_worse (take (n + 1) pairs) s cost ≡ (some_no_worse (take n pairs) s cost || no_worse p s cost)
  more s cost =
      list_any_more (λ (q : Pair). no_worse q s cost) pairs n p lt
      ∙ ap (λ (q : Pair). some_no_worse (take n pairs) s cost || no_worse q s cost) (sym is)

  pub parted_with : Has p.tolls toll → ArePartedSoFar toll pairs (n + 1) (with_toll ++ p ∷ []) without
  parted_with has = record {
    answers = λ s cost.
        more s cost
        ∙ (ap (λ (b : Bool). b || no_worse p s cost) (so_far.answers s cost)
        ∙ (sym (or_assoc (some_no_worse without s cost) (some_no_worse with_toll s cost) (no_worse p s cost))
        ∙ ap (λ (b : Bool). some_no_worse without s cost || b) (sym (put_last with_toll p s cost))));
    has = all_more (λ (q : Pair). Has q.tolls toll) with_toll p so_far.has has;
    keys_with = λ key all. all_more (λ (q : Pair). IsWithin key q.tolls) with_toll p (so_far.keys_with key all) (key_of key all);
    keys_without = so_far.keys_without;
  }

  pub parted_without : ArePartedSoFar toll pairs (n + 1) with_toll (without ++ p ∷ [])
  parted_without = record {
    answers = λ s cost.
        more s cost
        ∙ (ap (λ (b : Bool). b || no_worse p s cost) (so_far.answers s cost)
        ∙ (sym (or_swap (some_no_worse without s cost) (some_no_worse with_toll s cost) (no_worse p s cost))
        ∙ ap (λ (b : Bool). b || some_no_worse with_toll s cost) (sym (put_last without p s cost))));
    has = so_far.has;
    keys_with = so_far.keys_with;
    keys_without = λ key all. all_more (λ (q : Pair). IsWithin key q.tolls) without p (so_far.keys_without key all) (key_of key all);
  }

pub parted_all : (toll : ℕ) (pairs : List Pair) (n : ℕ) (with_toll without : List Pair) → length pairs ≤ n → ArePartedSoFar toll pairs n with_toll without
    → IsParted toll pairs with_toll without
parted_all toll pairs n with_toll without le so_far = record {
  answers = λ s cost. ap (λ (xs : List Pair). some_no_worse xs s cost) (sym (take_all n pairs le)) ∙ so_far.answers s cost;
  has = so_far.has;
  keys_with = so_far.keys_with;
  keys_without = so_far.keys_without;
}

-- a set with one more toll is within those that have both
pub within_more : (key more toll t : ℕ) → ((a : ℕ) → (a ≡ toll → ⊥) → bit_at more a ≡ bit_at key a) → IsWithin key t → Has t toll → IsWithin more t
within_more key more toll t others within has a in_more = elim (cases_eq a toll) [
  | inl e ↦ ap (λ (n : ℕ). bit_at t n) e ∙ has
  | inr ne ↦ within a (sym (others a ne) ∙ in_more)
]

-- the pairs of a block that have one more toll
pub keyed_with : (key more toll : ℕ) (pairs with_toll without : List Pair) → ((a : ℕ) → (a ≡ toll → ⊥) → bit_at more a ≡ bit_at key a) → AllHave key pairs
    → IsParted toll pairs with_toll without → AllHave more with_toll
keyed_with key more toll pairs with_toll without others all parts i d lt =
    within_more key more toll (get_or with_toll i d).tolls others (parts.keys_with key all i d lt) (parts.has i d lt)

-- a block in the place of another, and one more at the end
pub split_keyed : (blocks : List Block) (at : ℕ) (stays moves : Block) → AreKeyed blocks → AllHave stays.key stays.pairs.items → AllHave moves.key moves.pairs.items
    → AreKeyed (set blocks at stays ++ moves ∷ [])
split_keyed blocks at stays moves keyed here there =
    let P : Block → Type 0 = λ b. AllHave b.key b.pairs.items in
    All-append P (set blocks at stays) (moves ∷ []) (All-set P blocks at stays here keyed) (All-cons P moves [] there (All-nil P))

-- the key of the block that is read
pub keyed_at : (blocks : List Block) (at : ℕ) (b : Block) → AreKeyed blocks → at < length blocks → b ≡ get_or blocks at b → AllHave b.key b.pairs.items
keyed_at blocks at b keyed lt is = subst (λ (x : Block). AllHave x.key x.pairs.items) (sym is) (keyed at b lt)

-- two reads of one block
pub get_or_at : (blocks : List Block) (at : ℕ) (b x : Block) → at < length blocks → b ≡ get_or blocks at b → x ≡ get_or blocks at x → b ≡ x
get_or_at blocks at b x lt is is' = is ∙ (get_or_default blocks at b x lt ∙ sym is')
