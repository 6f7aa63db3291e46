-- What holds of the front of a list holds of a front that is longer by one, where it holds of the new element: a fact about each
-- element, and one about each element and each later one.
use Rattle.std.proofs.Common.{◌≡◌, ℕ, ◌+◌, ◌<◌, ◌≤◌, List, [], ◌∷◌, ◌++◌, length, map, get_or, take, All, AllPairs, sym, ap, ◌∙◌, subst}
use Rattle.std.proofs.lemmas.List.{take_more, take_all, map_push}
use Rattle.std.proofs.lemmas.List.Elements.{All-push}
use Rattle.std.proofs.lemmas.List.Quantifiers.{all_pairs_push}

module _ {X : Type 0} (xs : List X) (i : ℕ) (x : X) (inside : i < length xs) (is : x ≡ get_or xs i x) where
  -- the longer front
  pub front_more : take (i + 1) xs ≡ take i xs ++ x ∷ []
  front_more = take_more xs i x inside ∙ ap (λ (y : X). take i xs ++ y ∷ []) (sym is)

  -- read by what its elements stand for
  pub meant_more : {Y : Type 0} (f : X → Y) → map f (take (i + 1) xs) ≡ map f (take i xs) ++ f x ∷ []
  meant_more f = ap (map f) front_more ∙ map_push f (take i xs) x

module _ {X : Type 0} (front longer : List X) (x : X) (more : longer ≡ front ++ x ∷ []) where
  pub all_more : (P : X → Type 0) → All P front → P x → All P longer
  all_more P all here = subst (λ (ys : List X). All P ys) (sym more) (All-push P front x all here)

  pub pairs_more : (R : X → X → Type 0) → AllPairs R front → All (λ y. R y x) front → AllPairs R longer
  pairs_more R pairs behind = subst (λ (ys : List X). AllPairs R ys) (sym more) (all_pairs_push R front x pairs behind)

-- the front that is the whole list
pub meant_whole : {X Y : Type 0} (f : X → Y) (xs : List X) (i : ℕ) → length xs ≤ i → map f (take i xs) ≡ map f xs
meant_whole f xs i past = ap (map f) (take_all i xs past)
