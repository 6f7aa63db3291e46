-- A list that grows part by part.
use Rattle.std.proofs.Common.{◌≡◌, List, ◌++◌, arith, append_assoc}
use Rattle.std.proofs.lemmas.Grind.{common_steps}

-- what has grown by some elements grows by more
pub grown_by_more : {X : Type 0} (old done more all now new : List X) → now ≡ old ++ done → new ≡ now ++ more → all ≡ done ++ more → new ≡ old ++ all
grown_by_more old done more all now new before after joined = grind (arith, common_steps, append_assoc old done more)
