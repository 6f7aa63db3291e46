-- The names of a generated instance are names, and differ.
use Rattle.std.proofs.Common.{◌≡◌, ℕ, Bool, true, false, not, ◌&&◌, List, [], ◌∷◌, nat_eq, String, refl, sym, subst}
use Rattle.std.specs.declared.alloc.Global.{Global}
use Rattle.std.specs.List.{list_all, IsDistinct, AllByRecursion}
use Rattle.std.specs.Fmt.{digits}
use Rattle.std.specs.Cmp.Lexicographic.{pointwise, bytes_decides}
use Rattle.std.proofs.lemmas.List.Sums.{AllPass-from_list_all}
use Rattle.std.proofs.lemmas.Map.Made.{AllPairs-from_IsDistinct}
use Rattle.npp_reader.specs.Fields.{is_name}
use Rattle.npp_reader.specs.Names.{AreNames, texts}
use Rattle.npp_cli.specs.Generated.{generated_names}

are_names : list_all is_name generated_names ≡ true
unfolding is_name digits
are_names = refl

-- whether no text is this one
is_fresh : List ℕ → List (List ℕ) → Bool
is_fresh name [] = true
is_fresh name (other ∷ others) = not (pointwise nat_eq name other) && is_fresh name others

-- whether no two texts are the same
are_distinct : List (List ℕ) → Bool
are_distinct [] = true
are_distinct (name ∷ names) = is_fresh name names && are_distinct names

names_are_distinct : are_distinct generated_names ≡ true
unfolding are_distinct is_fresh digits
names_are_distinct = refl

both : (a b : Bool) → (a && b) ≡ true → (a ≡ true) × (b ≡ true)
both true b e = (refl, e)
both false b e = absurd (cc)

not_true : (a : Bool) → not a ≡ true → a ≡ false
not_true true e = absurd (cc)
not_true false e = refl

fresh_of : (name : List ℕ) (names : List (List ℕ)) → is_fresh name names ≡ true → AllByRecursion (λ other. pointwise nat_eq name other ≡ false) names
unfolding is_fresh
fresh_of name [] fresh = tt
fresh_of name (other ∷ others) fresh =
    let parts = both (not (pointwise nat_eq name other)) (is_fresh name others) fresh in
    (not_true (pointwise nat_eq name other) parts.0, fresh_of name others parts.1)

distinct_of : (names : List (List ℕ)) → are_distinct names ≡ true → IsDistinct (pointwise nat_eq) names
unfolding are_distinct IsDistinct
distinct_of [] distinct = tt
distinct_of (name ∷ names) distinct =
    let parts = both (is_fresh name names) (are_distinct names) distinct in
    (fresh_of name names parts.0, distinct_of names parts.1)

generated_are_names : AreNames generated_names
generated_are_names = record {
  each = AllPass-from_list_all is_name generated_names are_names;
  differ = AllPairs-from_IsDistinct bytes_decides generated_names (distinct_of generated_names names_are_distinct);
}

pub texts_are_names : (names : List (String Global)) → texts names ≡ generated_names → AreNames (texts names)
texts_are_names names are = subst AreNames (sym are) generated_are_names
