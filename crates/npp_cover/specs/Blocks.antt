-- Pairs of a set and a cost in blocks: the key of a block is within each of its sets.
use Rattle.std.specs.Prelude.{◌≡◌, ℕ, Bool, List, ◌==◌, ◌&&◌, ◌||◌, nat_le, bit_and, All}
use Rattle.std.specs.List.{list_any, flat_map}
use Rattle.npp_net.specs.TollSets.{Has, IsWithin}
use Rattle.npp_cover.specs.declared.blocks.Pair.{Pair}
use Rattle.npp_cover.specs.declared.blocks.Block.{Block}

-- whether the pair has a set within this one, at a cost not above
abbrev pub no_worse : Pair → ℕ → ℕ → Bool
no_worse p s cost = nat_le p.cost cost && (bit_and p.tolls s == p.tolls)

-- whether some pair of a list has
abbrev pub some_no_worse : List Pair → ℕ → ℕ → Bool
some_no_worse pairs s cost = list_any (λ p. no_worse p s cost) pairs

-- whether some pair of some block has
abbrev pub blocks_answer : List Block → ℕ → ℕ → Bool
blocks_answer blocks s cost = list_any (λ b. some_no_worse b.pairs.items s cost) blocks

-- the pairs of all blocks
abbrev pub pairs_of : List Block → List Pair
pairs_of blocks = flat_map (λ b. b.pairs.items) blocks

-- the key is within the set of each pair
abbrev pub AllHave : ℕ → List Pair → Type 0
AllHave key pairs = All (λ p. IsWithin key p.tolls) pairs

-- the key of each block is within each of its sets
abbrev pub AreKeyed : List Block → Type 0
AreKeyed blocks = All (λ b. AllHave b.key b.pairs.items) blocks

-- one pair was put in: what was answered before is answered still, and what the pair answers
abbrev pub PutsPair : Pair → List Block → List Block → Type 0
PutsPair p old new = (s cost : ℕ) → blocks_answer new s cost ≡ (blocks_answer old s cost || no_worse p s cost)

-- the answers are the same
abbrev pub SameAnswers : List Block → List Block → Type 0
SameAnswers old new = (s cost : ℕ) → blocks_answer new s cost ≡ blocks_answer old s cost

-- pairs parted by a toll: those whose sets have it, and the others
pub record IsParted (toll : ℕ) (pairs with_toll without : List Pair) : Type 0 where
  pub answers : (s cost : ℕ) → some_no_worse pairs s cost ≡ (some_no_worse without s cost || some_no_worse with_toll s cost)
  pub has : All (λ p. Has p.tolls toll) with_toll
  pub keys_with : (key : ℕ) → AllHave key pairs → AllHave key with_toll
  pub keys_without : (key : ℕ) → AllHave key pairs → AllHave key without
