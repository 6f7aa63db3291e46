-- Lists of items whose lists are short.
use Rattle.std.proofs.Common.{List, All, [], ◌∷◌, ◌++◌}
use Rattle.std.proofs.lemmas.List.Elements.{All-append, All-cons, All-nil}
use Rattle.npp_tree.specs.declared.item.Item.{Item}
use Rattle.npp_tree.specs.Items.{HasShortLists}

-- one more of them at the end
pub short_with_last : {N : Type 0} (items : List (Item N)) (i : Item N) → All HasShortLists items → HasShortLists i → All HasShortLists (items ++ i ∷ [])
short_with_last {N} items i short last =
    let P : Item N → Type 0 = λ x. HasShortLists x in
    All-append P items (i ∷ []) short (All-cons P i [] last (All-nil P))
