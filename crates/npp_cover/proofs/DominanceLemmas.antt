-- One more label is put into a table.
use Rattle.std.proofs.Common.{◌≡◌, inl, inr, ℕ, zero, suc, ◌<◌, Bool, true, false, All, List, [], ◌∷◌, ◌++◌, set, get_or, Vec, refl, sym, ◌∙◌, ap, subst, arith, length, map, nat_eq, ◌&&◌, ◌||◌}
use Rattle.std.proofs.lemmas.Bool.{cases_eq}
use Rattle.std.proofs.lemmas.List.{get_or-set_same, get_or-set_other, length-set, map-set, length-map, get_or-map}
use Rattle.std.proofs.lemmas.List.Folds.{list_any-append}
use Rattle.std.specs.declared.alloc.Global.{Global}
use Rattle.npp_cover.proofs.TestLemmas.{test_of_equal, test_of_other}
use Rattle.npp_cover.proofs.BlockLemmas.{or_false}
use Rattle.npp_cover.specs.declared.label.Label.{Label}
use Rattle.npp_cover.specs.declared.blocks.Pair.{Pair}
use Rattle.npp_cover.specs.declared.blocks.Block.{Block}
use Rattle.npp_cover.specs.Fault.{is_no_worse, is_dominated}
use Rattle.npp_cover.specs.Blocks.{no_worse, some_no_worse, blocks_answer, pairs_of, AreKeyed, PutsPair}
use Rattle.npp_cover.specs.Dominance.{TableValue, answer_of, AnswersFor, PutsIn}

module _ (l : Label) (s cost : ℕ) where
  abbrev at_node : ℕ → Label → Bool
  at_node v x = nat_eq x.node.0 v && is_no_worse x s cost

  -- the label itself, asked at its node and at another
  here : (v : ℕ) → v ≡ l.node.0 → is_no_worse l s cost ≡ at_node v l
  here v e = let test : nat_eq l.node.0 v ≡ true = test_of_equal l.node.0 v (sym e) in ap (λ (b : Bool). b && is_no_worse l s cost) (sym test)

  elsewhere : (v : ℕ) → (v ≡ l.node.0 → ⊥) → at_node v l ≡ false
  elsewhere v ne = let test : nat_eq l.node.0 v ≡ false = test_of_other l.node.0 v ne in ap (λ (b : Bool). b && is_no_worse l s cost) test

  one_more : (labels : List Label) (v : ℕ) → is_dominated (labels ++ l ∷ []) v s cost ≡ (is_dominated labels v s cost || (at_node v l || false))
  one_more labels v = list_any-append (at_node v) labels (l ∷ [])

-- what the table answers where the node of the label answers something new
answers_more : (l : Label) (table : TableValue) (now : List Pair) (labels : List Label) (v s cost : ℕ) → l.node.0 < length table
    → ((t c : ℕ) → some_no_worse now t c ≡ (answer_of table l.node.0 t c || is_no_worse l t c))
    → answer_of table v s cost ≡ is_dominated labels v s cost → answer_of (set table l.node.0 now) v s cost ≡ is_dominated (labels ++ l ∷ []) v s cost
answers_more l table now labels v s cost node answers was = elim (cases_eq v l.node.0) [
  | inl e ↦
      ap (λ (w : ℕ). answer_of (set table l.node.0 now) w s cost) e
      ∙ (ap (λ (xs : List Pair). some_no_worse xs s cost) (get_or-set_same table l.node.0 now [] node)
      ∙ (answers s cost
      ∙ (ap (λ (w : ℕ). answer_of table w s cost || is_no_worse l s cost) (sym e)
      ∙ (ap (λ (b : Bool). b || is_no_worse l s cost) was
      ∙ (ap (λ (b : Bool). is_dominated labels v s cost || b) (here l s cost v e ∙ sym (or_false (at_node l s cost v l)))
      ∙ sym (one_more l s cost labels v))))))
  | inr ne ↦
      ap (λ (xs : List Pair). some_no_worse xs s cost) (get_or-set_other table l.node.0 v now [] ne)
      ∙ (was ∙ (sym (or_false (is_dominated labels v s cost))
      ∙ (ap (λ (b : Bool). is_dominated labels v s cost || (b || false)) (sym (elsewhere l s cost v ne)) ∙ sym (one_more l s cost labels v))))
]

puts_in : (l : Label) (table : TableValue) (now : List Pair) → l.node.0 < length table
    → ((t c : ℕ) → some_no_worse now t c ≡ (answer_of table l.node.0 t c || is_no_worse l t c)) → PutsIn l table (set table l.node.0 now)
puts_in l table now node answers =
    let size = length-set table l.node.0 now in record {
      nodes = size;
      answers = λ labels a. record {
        each = λ v s cost lt. let lt' : v < length table = omega (arith, size) in answers_more l table now labels v s cost node answers (a.each v s cost lt');
      };
    }

abbrev pub pairs_in : Vec Block Global → List Pair
pairs_in v = pairs_of v.items

-- what blocks answer is what their pairs do
pub answer_of_pairs : (blocks : List Block) (s cost : ℕ) → some_no_worse (pairs_of blocks) s cost ≡ blocks_answer blocks s cost
answer_of_pairs [] s cost = refl
answer_of_pairs (b ∷ blocks) s cost =
    list_any-append (λ p. no_worse p s cost) b.pairs.items (pairs_of blocks)
    ∙ ap (λ (t : Bool). some_no_worse b.pairs.items s cost || t) (answer_of_pairs blocks s cost)

-- so it is where its pair is put into the blocks of its node
pub puts_pair : (l : Label) (lists : List (Vec Block Global)) (old put : Vec Block Global) → l.node.0 < length (map pairs_in lists) → old ≡ get_or lists l.node.0 old
    → PutsPair (record { tolls = l.tolls; cost = l.cost }) old.items put.items → PutsIn l (map pairs_in lists) (map pairs_in (set lists l.node.0 put))
puts_pair l lists old put node is puts =
    let lt : l.node.0 < length lists = omega (arith, length-map lists pairs_in) in
    let had : pairs_in old ≡ get_or (map pairs_in lists) l.node.0 [] = ap pairs_in is ∙ sym (get_or-map pairs_in lists l.node.0 old [] lt) in
    subst (λ (t : TableValue). PutsIn l (map pairs_in lists) t) (sym (map-set pairs_in lists l.node.0 put))
    (puts_in l (map pairs_in lists) (pairs_in put) node
    (λ t c.
    answer_of_pairs put.items t c
    ∙ (puts t c
    ∙ (ap (λ (b : Bool). b || is_no_worse l t c) (sym (answer_of_pairs old.items t c)) ∙ ap (λ (xs : List Pair). some_no_worse xs t c || is_no_worse l t c) had))))

-- the blocks of a node answer for the table
pub answers_at : (lists : List (Vec Block Global)) (v s cost : ℕ) (blocks : Vec Block Global) → v < length lists → blocks ≡ get_or lists v blocks
    → blocks_answer blocks.items s cost ≡ answer_of (map pairs_in lists) v s cost
answers_at lists v s cost blocks lt is =
    sym (answer_of_pairs blocks.items s cost)
    ∙ ap (λ (xs : List Pair). some_no_worse xs s cost) (ap pairs_in is ∙ sym (get_or-map pairs_in lists v blocks [] lt))

-- a table of empty lists answers for no label
none_at : (lists : List (Vec Block Global)) → All (λ v. v.items ≡ []) lists → (v s cost : ℕ) → v < length lists → answer_of (map pairs_in lists) v s cost ≡ false
none_at [] empty v s cost lt = refl
none_at (x ∷ lists) empty zero s cost lt = ap (λ (bs : List Block). some_no_worse (pairs_of bs) s cost) (empty 0 x (omega arith))
none_at (x ∷ lists) empty (suc v) s cost lt = none_at lists (λ i d lt'. empty (suc i) d (omega arith)) v s cost (omega arith)

pub empty_answers : (lists : List (Vec Block Global)) → All (λ v. v.items ≡ []) lists → AnswersFor [] (map pairs_in lists)
empty_answers lists empty = record {
  each = λ v s cost lt. none_at lists empty v s cost (omega (arith, length-map lists pairs_in));
}

-- and has no block without its key
pub empty_keyed : (lists : List (Vec Block Global)) → All (λ v. v.items ≡ []) lists → All (λ v. AreKeyed v.items) lists
empty_keyed lists empty i d lt k e lt' = absurd (omega (arith, ap (λ (bs : List Block). length bs) (empty i d lt)))
