-- Which lines print tolls and walks: the toll lines and the path lines, and no other.
use Rattle.std.specs.Prelude.{◌≡◌, ℕ, zero, suc, ◌+◌, List, [], ◌∷◌, ◌++◌, Option, Some, None, Result, Ok, Err, refl}
use Rattle.std.proofs.Common.{ap, ◌∙◌}
use Rattle.npp_frac.specs.Rational.{Rational}
use Rattle.npp_net.specs.declared.types.ArcId.{ArcId}
use Rattle.npp_tree.specs.declared.item.Item.{Item}
use Rattle.npp_check.specs.declared.refusal.Rule.{Rule}
use Rattle.npp_check.specs.declared.refusal.CheckRefusal.{CheckRefusal}
use Rattle.npp_check.specs.Reads.{Reads, Lines, done, at_line, next_line, line, last_line, more, ◌>>=◌}
use Rattle.npp_check.specs.Yes.{toll_said, walk_said, tolls_said, walks_said}
use Rattle.npp_check.proofs.TreeLemmas.{bind_parts}
use Rattle.npp_check.proofs.NodeLemmas.{at_line_says}

-- the item prints no toll and no walk
pub record IsSilent (i : Item Rational) : Type 0 where
  pub toll : toll_said i ≡ None
  pub walk : walk_said i ≡ None

-- both lists print the same tolls and walks
pub record SaySame (items other : List (Item Rational)) : Type 0 where
  pub tolls : tolls_said items ≡ tolls_said other
  pub walks : walks_said items ≡ walks_said other

say_same_trans : {items other third : List (Item Rational)} → SaySame items other → SaySame other third → SaySame items third
say_same_trans h k = record { tolls = h.tolls ∙ k.tolls; walks = h.walks ∙ k.walks }

tolls_behind : (i : Item Rational) (o : Option Rational) (items : List (Item Rational)) → toll_said i ≡ o → o ≡ None → tolls_said (i ∷ items) ≡ tolls_said items
tolls_behind i None items e n = rw e refl
tolls_behind i (Some q) items e n = cc

walks_behind : (i : Item Rational) (o : Option (List ArcId)) (items : List (Item Rational)) → walk_said i ≡ o → o ≡ None → walks_said (i ∷ items) ≡ walks_said items
walks_behind i None items e n = rw e refl
walks_behind i (Some w) items e n = cc

behind_silent : (i : Item Rational) (items : List (Item Rational)) → IsSilent i → SaySame (i ∷ items) items
behind_silent i items h = record { tolls = tolls_behind i (toll_said i) items refl h.toll; walks = walks_behind i (walk_said i) items refl h.walk }

-- what is read prints neither tolls nor walks
abbrev pub Silent : {X : Type 0} → Reads X → Type 0
Silent {X} r = (lines behind : Lines) (x : X) → r lines ≡ Ok (x, behind) → SaySame lines.items behind.items

-- ---- one after another

left_of : {X : Type 0} → Lines → Result (X × Lines) CheckRefusal → Lines
left_of none (Ok read) = read.1
left_of none (Err refusal) = none

pub same_left : {X : Type 0} (x y : X) (lines behind : Lines) → (let r : Result (X × Lines) CheckRefusal = Ok (x, lines) in r ≡ Ok (y, behind)) → lines ≡ behind
unfolding left_of
same_left {X} x y lines behind e = ap (left_of {X = X} lines) e

pub left_at_line : {X : Type 0} (number : ℕ) (judged : Result X Rule) (lines behind : Lines) (x : X) → at_line number judged lines ≡ Ok (x, behind) → lines ≡ behind
left_at_line number (Ok y) lines behind x e = same_left y x lines behind e
left_at_line number (Err rule) lines behind x e = cc

same_says_same : (lines behind : Lines) → lines ≡ behind → SaySame lines.items behind.items
same_says_same lines behind e = record { tolls = ap (λ l. tolls_said l.items) e; walks = ap (λ l. walks_said l.items) e }

pub done_silent : {X : Type 0} (x : X) → Silent (done x)
done_silent x lines behind y e = same_says_same lines behind (same_left x y lines behind e)

pub last_line_silent : {X : Type 0} (judged : Result X Rule) → Silent (last_line judged)
last_line_silent judged lines behind x e = same_says_same lines behind (left_at_line _ judged lines behind x e)

next_line_silent : {X : Type 0} (judge : Item Rational → Result X Rule) → ((i : Item Rational) (x : X) → judge i ≡ Ok x → IsSilent i)
    → (number : ℕ) (items : List (Item Rational)) (behind : Lines) (x : X) → next_line judge number items ≡ Ok (x, behind) → SaySame items behind.items
next_line_silent judge h number [] behind x e = cc
next_line_silent judge h number (i ∷ items) behind x e =
    let says = at_line_says number (judge i) (record { number = number + 1; items = items }) behind x e in
    let left : record { number = number + 1; items = items } ≡ behind = left_at_line number (judge i) (record { number = number + 1; items = items }) behind x e in
    say_same_trans (behind_silent i items (h i x says)) (same_says_same (record { number = number + 1; items = items }) behind left)

pub line_silent : {X : Type 0} (judge : Item Rational → Result X Rule) → ((i : Item Rational) (x : X) → judge i ≡ Ok x → IsSilent i) → Silent (line judge)
line_silent judge h lines behind x e = next_line_silent judge h lines.number lines.items behind x e

pub bind_silent : {X Y : Type 0} (r : Reads X) (next : X → Reads Y) → Silent r → ((x : X) → Silent (next x)) → Silent (r >>= next)
bind_silent r next h k lines behind y e =
    let parts = bind_parts (r lines) next y behind e in
    say_same_trans (h lines parts.1 parts.0 parts.2) (k parts.0 parts.1 behind y parts.3)

pub more_silent : {X : Type 0} (each : List X → Reads X) → ((above : List X) → Silent (each above)) → (n : ℕ) (above : List X) → Silent (more each n above)
more_silent each h zero above = done_silent above
more_silent each h (suc n) above = bind_silent (each above) (λ x. more each n (above ++ x ∷ [])) (h above) (λ x. more_silent each h n (above ++ x ∷ []))
