-- What the places of nodes to come are, as a split and the end of a subtree change them.
use Rattle.std.specs.Prelude.{◌≡◌, ℕ, zero, suc, ◌+◌, ◌<◌, List, [], ◌∷◌, ◌++◌, length, slice_set, slice_index_or, All, Option, None, Some, IsSome, refl}
use Rattle.std.proofs.Common.{arith, ap, sym, ◌∙◌, subst, take}
use Rattle.std.proofs.lemmas.List.{set-set}
use Rattle.std.proofs.lemmas.List.Elements.{All-nil, All-cons, All-append}
use Rattle.npp_rows.specs.Parts.{part_at}
use Rattle.npp_tree.specs.Bounds.{bound_value}
use Rattle.npp_tree.specs.Family.{Family}
use Rattle.npp_check.specs.declared.later.Change.{Change}
use Rattle.npp_check.specs.declared.later.Later.{Later}
use Rattle.npp_check.specs.NodeLines.{Place}
use Rattle.npp_check.specs.PlaceStack.{undone, parent_family, second_place, family_before, later_places, IsInRange}

-- one change more is undone first
pub undone_push : (changes : List Change) (c : Change) (family : Family) → undone (changes ++ c ∷ []) family ≡ undone changes (slice_set family c.commodity c.part)
undone_push [] c family = refl
undone_push (d ∷ changes) c family = ap (λ (f : Family). slice_set f d.commodity d.part) (undone_push changes c family)

family_push : (ls : List Later) (l : Later) (family : Family) → family_before (ls ++ l ∷ []) family ≡ family_before ls (parent_family l family)
family_push [] l family = refl
family_push (x ∷ ls) l family = ap (parent_family x) (family_push ls l family)

-- the last of the second children comes next
pub places_push : (ls : List Later) (l : Later) (family : Family) → later_places (ls ++ l ∷ []) family ≡ second_place l family ∷ later_places ls (parent_family l family)
places_push [] l family = refl
places_push (x ∷ ls) l family =
    ap (λ (ps : List Place). ps ++ second_place x (family_before (ls ++ l ∷ []) family) ∷ []) (places_push ls l family)
    ∙ ap (λ (f : Family). second_place l family ∷ (later_places ls (parent_family l family) ++ second_place x f ∷ [])) (family_push ls l family)

-- what was taken out of a place, put back
pub set_back : (family : Family) (k : ℕ) (a : List ℕ) → slice_set (slice_set family k a) k (part_at family k) ≡ family
set_back [] k a = refl
set_back (x ∷ family) zero a = refl
set_back (x ∷ family) (suc k) a = ap (λ (f : Family). x ∷ f) (set_back family k a)

-- a change of the one commodity takes the place of another
pub set_again : (family : Family) (k : ℕ) (a b : List ℕ) → slice_set (slice_set family k a) k b ≡ slice_set family k b
set_again family k a b = set-set family k a b

-- ---- a change is noted

-- the last of a list, and what it becomes in place
pub last_set : {X : Type 0} (xs : List X) (n : ℕ) (l y : X) → n + 1 ≡ length xs → l ≡ slice_index_or xs n l → (xs ≡ take n xs ++ l ∷ []) × (slice_set xs n y ≡ take n xs ++ y ∷ [])
last_set [] n l y e is = absurd (omega (arith, e))
last_set (x ∷ []) zero l y e is = (ap (λ z. z ∷ []) (sym is), refl)
last_set (x ∷ []) (suc n) l y e is = absurd (omega (arith, e))
last_set (x ∷ z ∷ xs) zero l y e is = absurd (omega (arith, e))
last_set (x ∷ z ∷ xs) (suc n) l y e is =
    let rest = last_set (z ∷ xs) n l y (omega (arith, e)) is in
    (ap (λ zs. x ∷ zs) rest.0, ap (λ zs. x ∷ zs) rest.1)

-- the second child that comes next keeps a change more
pub record IsNoted (old new : Later) (change : Change) : Type 0 where
  pub commodity : new.commodity ≡ old.commodity
  pub whole : new.whole ≡ old.whole
  pub rest : new.rest ≡ old.rest
  pub parent : new.parent ≡ old.parent
  pub changes : new.changes.items ≡ old.changes.items ++ change ∷ []

pub noted : (ls old now : List Later) (l x : Later) (change : Change) → old ≡ ls ++ l ∷ [] → now ≡ ls ++ x ∷ [] → IsNoted l x change → (family : Family)
    → later_places now family ≡ later_places old (slice_set family change.commodity change.part)
noted ls old now l x change before after is family =
    let back : undone x.changes.items family ≡ undone l.changes.items (slice_set family change.commodity change.part) =
    ap (λ cs. undone cs family) is.changes ∙ undone_push l.changes.items change family in
    ap (λ zs. later_places zs family) after
    ∙ places_push ls x family
    ∙ (λ j. record { parts = slice_set (back j) (is.commodity j) (is.rest j); parent = bound_value (is.parent j) } ∷ later_places ls (slice_set (back j) (is.commodity j) (is.whole j)))
    ∙ sym (places_push ls l (slice_set family change.commodity change.part))
    ∙ ap (λ zs. later_places zs (slice_set family change.commodity change.part)) (sym before)

-- ---- a change is undone

pub undone_more : (old now : List Change) (c : Change) (family set whole : Family) → old ≡ now ++ c ∷ [] → set ≡ slice_set family c.commodity c.part → undone old family ≡ whole → undone now set ≡ whole
undone_more old now c family set whole popped is so_far =
    ap (undone now) is ∙ sym (undone_push now c family) ∙ sym (ap (λ cs. undone cs family) popped) ∙ so_far

pub all_but_last : {X : Type 0} (P : X → Type 0) (xs : List X) (x : X) → All P (xs ++ x ∷ []) → All P xs × P x
all_but_last P [] x all = (All-nil P, all 0 x (omega arith))
all_but_last P (y ∷ xs) x all =
    let rest = all_but_last P xs x (λ k d lt. all (suc k) d (omega (arith, lt))) in
    (All-cons P y xs (all 0 y (omega arith)) rest.0, rest.1)

-- ---- a split, and the end of a subtree

pub split_later : (ls later : List Later) (l : Later) (family : Family) (k : ℕ) (part : List ℕ) → later ≡ ls ++ l ∷ [] → l.commodity ≡ k → l.whole ≡ part_at family k → l.changes.items ≡ []
    → later_places later (slice_set family k part) ≡ record { parts = slice_set family k l.rest; parent = bound_value l.parent } ∷ later_places ls family
split_later ls later l family k part put commodity whole none =
    let back : undone l.changes.items (slice_set family k part) ≡ slice_set family k part = ap (λ cs. undone cs (slice_set family k part)) none in
    let second : slice_set (undone l.changes.items (slice_set family k part)) l.commodity l.rest ≡ slice_set family k l.rest =
    (λ j. slice_set (back j) (commodity j) l.rest) ∙ set_again family k part l.rest in
    let parent : slice_set (undone l.changes.items (slice_set family k part)) l.commodity l.whole ≡ family =
    (λ j. slice_set (back j) (commodity j) (whole j)) ∙ set_back family k part in
    ap (λ zs. later_places zs (slice_set family k part)) put
    ∙ places_push ls l (slice_set family k part)
    ∙ (λ j. record { parts = second j; parent = bound_value l.parent } ∷ later_places ls (parent j))

-- the second child that comes next begins
pub advanced : (ls later now : List Later) (l : Later) (family parts : Family) → later ≡ ls ++ l ∷ [] → parts ≡ slice_set (undone l.changes.items family) l.commodity l.rest
    → ((f : Family) → later_places now f ≡ later_places ls (slice_set f l.commodity l.whole))
    → later_places later family ≡ record { parts = parts; parent = bound_value l.parent } ∷ later_places now parts
advanced ls later now l family parts before set noted =
    let second : slice_set (undone l.changes.items family) l.commodity l.rest ≡ parts = sym set in
    let parent : parent_family l family ≡ slice_set parts l.commodity l.whole =
    sym (ap (λ (f : Family). slice_set f l.commodity l.whole) set ∙ set_again (undone l.changes.items family) l.commodity l.rest l.whole) in
    ap (λ zs. later_places zs family) before
    ∙ places_push ls l family
    ∙ (λ j. record { parts = second j; parent = bound_value l.parent } ∷ later_places ls (parent j))
    ∙ ap (λ (ps : List Place). record { parts = parts; parent = bound_value l.parent } ∷ ps) (sym (noted parts))

-- ---- commodities in range

pub range_push : (n : ℕ) (ls later : List Later) (l : Later) → later ≡ ls ++ l ∷ [] → All (IsInRange n) ls → IsInRange n l → All (IsInRange n) later
range_push n ls later l put all is = subst (λ (zs : List Later). All (IsInRange n) zs) (sym put) (All-append (IsInRange n) ls (l ∷ []) all (All-cons (IsInRange n) l [] is (All-nil (IsInRange n))))

pub range_noted : (n : ℕ) (ls later now : List Later) (l x : Later) (change : Change) → later ≡ ls ++ l ∷ [] → now ≡ ls ++ x ∷ [] → IsNoted l x change → change.commodity < n → All (IsInRange n) later → All (IsInRange n) now
range_noted n ls later now l x change before after is inside all =
    let old = all_but_last (IsInRange n) ls l (subst (λ (zs : List Later). All (IsInRange n) zs) before all) in
    range_push n ls now x after old.0 (record {
      commodity = omega (arith, is.commodity, old.1.commodity);
      changes = subst (λ (cs : List Change). All (λ change. change.commodity < n) cs) (sym is.changes)
          (All-append (λ change. change.commodity < n) l.changes.items (change ∷ []) old.1.changes (All-cons (λ change. change.commodity < n) change [] inside (All-nil (λ change. change.commodity < n))));
    })

-- where no change was noted
pub range_kept : (n : ℕ) (ls later now : List Later) (l x : Later) → later ≡ ls ++ l ∷ [] → now ≡ ls ++ x ∷ [] → x.commodity ≡ l.commodity → x.changes.items ≡ l.changes.items → All (IsInRange n) later → All (IsInRange n) now
range_kept n ls later now l x before after commodity changes all =
    let old = all_but_last (IsInRange n) ls l (subst (λ (zs : List Later). All (IsInRange n) zs) before all) in
    range_push n ls now x after old.0 (record {
      commodity = omega (arith, commodity, old.1.commodity);
      changes = subst (λ (cs : List Change). All (λ change. change.commodity < n) cs) (sym changes) old.1.changes;
    })

-- ---- where nothing is left

pub nothing_left : {X Y : Type 0} (o : Option Y) (xs : List X) → o ≡ None → (0 < length xs → IsSome o) → xs ≡ []
nothing_left o [] none some = refl
nothing_left None (x ∷ xs) none some = (let is = some (omega arith) in cc)
nothing_left (Some y) (x ∷ xs) none some = cc

pub nothing_noted : (old : List Later) (change : Change) → old ≡ [] → (family : Family) → later_places old family ≡ later_places old (slice_set family change.commodity change.part)
nothing_noted old change none family = ap (λ zs. later_places zs family) none ∙ sym (ap (λ zs. later_places zs (slice_set family change.commodity change.part)) none)
