-- What blocks of pairs answer, and how that changes.
use Rattle.std.proofs.Common.{◌≡◌, ℕ, zero, suc, ◌+◌, ◌<◌, ◌≤◌, Bool, true, false, List, [], ◌∷◌, ◌++◌, set, get_or, drop, length, add-one, refl, sym, ◌∙◌, ap, arith, nat_eq, nat_le, bit_and, ◌||◌}
use Rattle.std.proofs.Math.Seq.{drop-cons}
use Rattle.std.proofs.lemmas.Bool.{and_parts, and_from, false_from_ne_true}
use Rattle.std.proofs.lemmas.List.Folds.{list_any-append, list_any_none, list_any_at}
use Rattle.std.specs.List.{list_any}
use Rattle.npp_net.specs.TollSets.{IsWithin}
use Rattle.npp_net.proofs.TollSetLemmas.{within_test}
use Rattle.npp_cover.specs.declared.blocks.Pair.{Pair}
use Rattle.npp_cover.specs.declared.blocks.Block.{Block}
use Rattle.npp_cover.specs.Blocks.{no_worse, some_no_worse, blocks_answer, AllHave, PutsPair, SameAnswers}
use Rattle.npp_cover.proofs.TestLemmas.{le_of_test, test_of_le}

pub or_assoc : (a b z : Bool) → (a || (b || z)) ≡ ((a || b) || z)
or_assoc true b z = refl
or_assoc false b z = refl

pub or_swap : (a b z : Bool) → ((a || z) || b) ≡ ((a || b) || z)
or_swap true b z = refl
or_swap false true true = refl
or_swap false true false = refl
or_swap false false true = refl
or_swap false false false = refl

pub or_false : (b : Bool) → (b || false) ≡ b
or_false true = refl
or_false false = refl

-- one element in the place of another that passes, or something else does
pub any_set : {X : Type 0} (f : X → Bool) (xs : List X) (i : ℕ) (y d : X) (z : Bool) → i < length xs → f y ≡ (f (get_or xs i d) || z)
    → list_any f (set xs i y) ≡ (list_any f xs || z)
any_set f [] i y d z lt e = absurd (omega arith)
any_set f (x ∷ xs) zero y d z lt e = ap (λ (b : Bool). b || list_any f xs) e ∙ or_swap (f x) (list_any f xs) z
any_set f (x ∷ xs) (suc i) y d z lt e = ap (λ (b : Bool). f x || b) (any_set f xs i y d z (omega arith) e) ∙ or_assoc (f x) (list_any f xs) z

pub any_unset : {X : Type 0} (f : X → Bool) (xs : List X) (i : ℕ) (y d : X) (z : Bool) → i < length xs → f (get_or xs i d) ≡ (f y || z)
    → list_any f xs ≡ (list_any f (set xs i y) || z)
any_unset f [] i y d z lt e = absurd (omega arith)
any_unset f (x ∷ xs) zero y d z lt e = ap (λ (b : Bool). b || list_any f xs) e ∙ or_swap (f y) (list_any f xs) z
any_unset f (x ∷ xs) (suc i) y d z lt e = ap (λ (b : Bool). f x || b) (any_unset f xs i y d z (omega arith) e) ∙ or_assoc (f x) (list_any f (set xs i y)) z

pub within_of : (p : Pair) (s cost : ℕ) → no_worse p s cost ≡ true → IsWithin p.tolls s
within_of p s cost e =
    let parts = and_parts (nat_le p.cost cost) (nat_eq (bit_and p.tolls s) p.tolls) e in
    (within_test p.tolls s p.tolls s refl refl).0 parts.1

-- a block whose key is not within the set answers no
pub apart : (key s cost : ℕ) (pairs : List Pair) → AllHave key pairs → (IsWithin key s → ⊥) → some_no_worse pairs s cost ≡ false
apart key s cost pairs have not_in =
    list_any_none (λ (p : Pair). no_worse p s cost) pairs
    (λ i d lt. false_from_ne_true (no_worse (get_or pairs i d) s cost) (λ e. not_in (λ a has. within_of (get_or pairs i d) s cost e a (have i d lt a has))))

-- of two pairs with the same set the cheaper one answers more
pub cheaper_answers : (p q : Pair) (s cost : ℕ) → p.tolls ≡ q.tolls → p.cost ≤ q.cost → no_worse q s cost ≡ true → no_worse p s cost ≡ true
cheaper_answers p q s cost same le e =
    let parts = and_parts (nat_le q.cost cost) (nat_eq (bit_and q.tolls s) q.tolls) e in
    and_from (nat_le p.cost cost) (nat_eq (bit_and p.tolls s) p.tolls) (test_of_le p.cost cost (omega (arith, le_of_test q.cost cost parts.0)))
    (ap (λ (n : ℕ). nat_eq (bit_and n s) n) same ∙ parts.1)

or_more : (b c : Bool) → (b ≡ true → c ≡ true) → c ≡ (b || c)
or_more true c h = h refl
or_more false c h = refl

or_none : (b c : Bool) → (c ≡ true → b ≡ true) → b ≡ (b || c)
or_none true c h = refl
or_none false true h = h refl
or_none false false h = refl

-- a pair with the same set and no more cost in its place
pub put_cheaper : (pairs : List Pair) (i : ℕ) (p d : Pair) (s cost : ℕ) → i < length pairs → (get_or pairs i d).tolls ≡ p.tolls → p.cost ≤ (get_or pairs i d).cost
    → some_no_worse (set pairs i p) s cost ≡ (some_no_worse pairs s cost || no_worse p s cost)
put_cheaper pairs i p d s cost lt same le =
    any_set (λ (q : Pair). no_worse q s cost) pairs i p d (no_worse p s cost) lt
    (or_more (no_worse (get_or pairs i d) s cost) (no_worse p s cost) (cheaper_answers p (get_or pairs i d) s cost (sym same) le))

-- a dearer one is not needed
pub put_dearer : (pairs : List Pair) (i : ℕ) (p d : Pair) (s cost : ℕ) → i < length pairs → (get_or pairs i d).tolls ≡ p.tolls → (get_or pairs i d).cost ≤ p.cost
    → some_no_worse pairs s cost ≡ (some_no_worse pairs s cost || no_worse p s cost)
put_dearer pairs i p d s cost lt same le =
    or_none (some_no_worse pairs s cost) (no_worse p s cost)
    (λ e. list_any_at (λ (q : Pair). no_worse q s cost) pairs i d lt (cheaper_answers (get_or pairs i d) p s cost same le e))

-- one more pair at the end
pub put_last : (pairs : List Pair) (p : Pair) (s cost : ℕ) → some_no_worse (pairs ++ p ∷ []) s cost ≡ (some_no_worse pairs s cost || no_worse p s cost)
put_last pairs p s cost =
    list_any-append (λ (q : Pair). no_worse q s cost) pairs (p ∷ []) ∙ ap (λ (b : Bool). some_no_worse pairs s cost || b) (or_false (no_worse p s cost))

-- one more block that answers no
pub none_from : (blocks : List Block) (i after s cost : ℕ) (b : Block) → i + 1 ≡ after → i < length blocks → b ≡ get_or blocks i b
    → some_no_worse b.pairs.items s cost ≡ false → blocks_answer (drop after blocks) s cost ≡ false → blocks_answer (drop i blocks) s cost ≡ false
none_from blocks i after s cost b next lt is here rest =
    let rest' : blocks_answer (drop (suc i) blocks) s cost ≡ false =
    ap (λ (n : ℕ). blocks_answer (drop n blocks) s cost) (sym (add-one i) ∙ next) ∙ rest in
    ap (λ (xs : List Block). blocks_answer xs s cost) (drop-cons blocks i b lt)
    ∙ (ap (λ (x : Block). some_no_worse x.pairs.items s cost || blocks_answer (drop (suc i) blocks) s cost) (sym is)
    ∙ (ap (λ (t : Bool). t || blocks_answer (drop (suc i) blocks) s cost) here ∙ rest'))

-- a pair put into one of the blocks
pub puts_at : (blocks : List Block) (at : ℕ) (b now : Block) (p : Pair) → at < length blocks → b ≡ get_or blocks at b
    → ((s cost : ℕ) → some_no_worse now.pairs.items s cost ≡ (some_no_worse b.pairs.items s cost || no_worse p s cost)) → PutsPair p blocks (set blocks at now)
puts_at blocks at b now p lt is answers s cost =
    any_set (λ (x : Block). some_no_worse x.pairs.items s cost) blocks at now b (no_worse p s cost) lt
    (answers s cost ∙ ap (λ (x : Block). some_no_worse x.pairs.items s cost || no_worse p s cost) is)

-- a block parted into two, the one in its place and the other at the end
pub split_answers : (blocks : List Block) (at : ℕ) (b stays moves : Block) → at < length blocks → b ≡ get_or blocks at b
    → ((s cost : ℕ) → some_no_worse b.pairs.items s cost ≡ (some_no_worse stays.pairs.items s cost || some_no_worse moves.pairs.items s cost))
    → SameAnswers blocks (set blocks at stays ++ moves ∷ [])
split_answers blocks at b stays moves lt is parts s cost =
    list_any-append (λ (x : Block). some_no_worse x.pairs.items s cost) (set blocks at stays) (moves ∷ [])
    ∙ (ap (λ (t : Bool). blocks_answer (set blocks at stays) s cost || t) (or_false (some_no_worse moves.pairs.items s cost))
    ∙ sym (any_unset (λ (x : Block). some_no_worse x.pairs.items s cost) blocks at stays b (some_no_worse moves.pairs.items s cost) lt
    (ap (λ (x : Block). some_no_worse x.pairs.items s cost) (sym is) ∙ parts s cost)))
