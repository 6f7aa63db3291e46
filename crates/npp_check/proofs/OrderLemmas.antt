-- Reading goes forward: a refusal names a line that is still to come, and what is left is what was not read.
use Rattle.std.specs.Prelude.{◌≡◌, ℕ, zero, suc, ◌+◌, ◌-◌, ◌≤◌, Bool, true, false, List, [], ◌∷◌, ◌++◌, length, Option, Some, None, Result, Ok, Err, refl}
use Rattle.std.proofs.Common.{arith, ap, ◌∙◌}
use Rattle.npp_frac.specs.Rational.{Rational}
use Rattle.npp_net.specs.Network.{Network}
use Rattle.npp_cover.specs.Replaces.{CoverValue}
use Rattle.npp_net.specs.Network.{toll_count}
use Rattle.npp_rows.specs.Cuts.{Cut as CutRow}
use Rattle.npp_rows.specs.Derivations.{derivation_verdict}
use Rattle.npp_rows.specs.declared.names.Multiplier.{Multiplier}
use Rattle.npp_tree.specs.declared.item.Item.{Item}
use Rattle.npp_tree.specs.Bounds.{BoundValue}
use Rattle.npp_tree.specs.Tree.{Node, Tree, bound_after}
use Rattle.npp_rows.specs.Parts.{is_full}
use Rattle.npp_tree.specs.Family.{Family, Division, first_of, second_of}
use Rattle.npp_check.specs.declared.refusal.Rule.{Rule}
use Rattle.npp_check.specs.declared.refusal.CheckRefusal.{CheckRefusal}
use Rattle.npp_check.specs.declared.refusal.CheckRefusal.TheVariants.{Broken, Memory}
use Rattle.npp_check.specs.declared.refusal.Rule.TheVariants.{Order}
use Rattle.npp_check.specs.Measures.{Measures}
use Rattle.npp_rows.specs.Named.{NamedProgram}
use Rattle.npp_rows.specs.PathModel.{PathModel}
use Rattle.npp_check.specs.Multipliers.{multiplier_line}
use Rattle.npp_check.specs.CoverLines.{cover_line, label_line, free_line, cover_lines}
use Rattle.npp_check.specs.CutLines.{cut_line, cut_multiplier, derived, one_cut}
use Rattle.npp_check.specs.HeadLines.{instance_line, limit_line, instance_lines}
use Rattle.npp_check.specs.declared.block.Opening.{Opening}
use Rattle.npp_check.specs.declared.block.Opening.TheVariants.{NotOpened, Marked, Answered}
use Rattle.npp_check.specs.NodeLines.{Place, program_at, before, opening_line, branch_line, child_place, proof_by, Given, evidence_lines, proof_lines, branch_lines, below_node, node_lines, tree_at}
use Rattle.npp_check.specs.Verdict.{PairValue}
use Rattle.npp_check.specs.Reads.{Reads, Lines, done, at_line, read_behind, next_line, line, last_line, more, unless_more, ◌>>=◌}

-- where it refuses, the line is at most `early` above the first, and not behind the one after the last;
-- where it reads, at least `step` lines, and it leaves the others
pub record Orderly {X : Type 0} (early step : ℕ) (r : Reads X) : Type 0 where
  pub late : (lines : Lines) (n : ℕ) (rule : Rule) → r lines ≡ Err (Broken n rule) → lines.number ≤ n + early
  pub within : (lines : Lines) (n : ℕ) (rule : Rule) → r lines ≡ Err (Broken n rule) → n ≤ lines.number + length lines.items
  pub ahead : (lines behind : Lines) (x : X) → r lines ≡ Ok (x, behind) → lines.number + step ≤ behind.number
  pub kept : (lines behind : Lines) (x : X) → r lines ≡ Ok (x, behind) → behind.number + length behind.items ≡ lines.number + length lines.items

left_of : {X : Type 0} → Lines → Result (X × Lines) CheckRefusal → Lines
left_of none (Ok read) = read.1
left_of none (Err refusal) = none

same_left : {X : Type 0} (x y : X) (lines behind : Lines) → (let r : Result (X × Lines) CheckRefusal = Ok (x, lines) in r ≡ Ok (y, behind)) → lines ≡ behind
unfolding left_of
same_left {X} x y lines behind e = ap (left_of {X = X} lines) e

line_of : {X : Type 0} → Result (X × Lines) CheckRefusal → ℕ
line_of (Ok read) = 0
line_of (Err (Broken n rule)) = n
line_of (Err Memory) = 0

same_line : {X : Type 0} (limit n : ℕ) (rule other : Rule) → (let r : Result (X × Lines) CheckRefusal = Err (Broken limit rule) in r ≡ Err (Broken n other)) → limit ≡ n
unfolding line_of
same_line {X} limit n rule other e = ap (line_of {X = X}) e

refused_at_line : {X : Type 0} (number : ℕ) (judged : Result X Rule) (lines : Lines) (n : ℕ) (rule : Rule) → at_line number judged lines ≡ Err (Broken n rule) → number ≡ n
refused_at_line number (Ok x) lines n rule e = cc
refused_at_line {X} number (Err other) lines n rule e = same_line {X = X} number n other rule e

read_at_line : {X : Type 0} (number : ℕ) (judged : Result X Rule) (lines behind : Lines) (x : X) → at_line number judged lines ≡ Ok (x, behind) → lines ≡ behind
read_at_line number (Ok y) lines behind x e = same_left y x lines behind e
read_at_line number (Err rule) lines behind x e = cc

pub done_orderly : {X : Type 0} (x : X) → Orderly 0 0 (done x)
done_orderly x = record {
  late = λ lines n rule e. cc;
  within = λ lines n rule e. cc;
  ahead = λ lines behind y e. let s : lines ≡ behind = same_left x y lines behind e in rw s (omega arith);
  kept = λ lines behind y e. let s : lines ≡ behind = same_left x y lines behind e in rw s refl;
}

refused_next : {X : Type 0} (judge : Item Rational → Result X Rule) (number : ℕ) (items : List (Item Rational)) (n : ℕ) (rule : Rule) → next_line judge number items ≡ Err (Broken n rule) → number ≡ n
refused_next {X} judge number [] n rule e = same_line {X = X} number n _ rule e
refused_next judge number (item ∷ items) n rule e = refused_at_line number (judge item) _ n rule e

ahead_next : {X : Type 0} (judge : Item Rational → Result X Rule) (number : ℕ) (items : List (Item Rational)) (behind : Lines) (x : X) → next_line judge number items ≡ Ok (x, behind) → number + 1 ≤ behind.number
ahead_next judge number [] behind x e = cc
ahead_next judge number (item ∷ items) behind x e =
    let s : record { number = number + 1; items = items } ≡ behind = read_at_line number (judge item) (record { number = number + 1; items = items }) behind x e in
    let n : number + 1 ≡ behind.number = ap (λ l. l.number) s in omega (arith, n)

kept_next : {X : Type 0} (judge : Item Rational → Result X Rule) (number : ℕ) (items : List (Item Rational)) (behind : Lines) (x : X) → next_line judge number items ≡ Ok (x, behind) → behind.number + length behind.items ≡ number + length items
kept_next judge number [] behind x e = cc
kept_next judge number (item ∷ items) behind x e =
    let s : record { number = number + 1; items = items } ≡ behind = read_at_line number (judge item) (record { number = number + 1; items = items }) behind x e in
    let n : number + 1 ≡ behind.number = ap (λ l. l.number) s in
    let l : length items ≡ length behind.items = ap (λ l. length l.items) s in omega (arith, n, l)

line_orderly : {X : Type 0} (judge : Item Rational → Result X Rule) → Orderly 0 1 (line judge)
line_orderly judge = record {
  late = λ lines n rule e. let s : lines.number ≡ n = refused_next judge lines.number lines.items n rule e in omega (arith, s);
  within = λ lines n rule e. let s : lines.number ≡ n = refused_next judge lines.number lines.items n rule e in omega (arith, s);
  ahead = λ lines behind x e. ahead_next judge lines.number lines.items behind x e;
  kept = λ lines behind x e. kept_next judge lines.number lines.items behind x e;
}

pub last_line_orderly : {X : Type 0} (judged : Result X Rule) → Orderly 1 0 (last_line judged)
last_line_orderly judged = record {
  late = λ lines n rule e. let s : lines.number - 1 ≡ n = refused_at_line (lines.number - 1) judged lines n rule e in omega (arith, s);
  within = λ lines n rule e. let s : lines.number - 1 ≡ n = refused_at_line (lines.number - 1) judged lines n rule e in omega (arith, s);
  ahead = λ lines behind x e. let s : lines ≡ behind = read_at_line (lines.number - 1) judged lines behind x e in rw s (omega arith);
  kept = λ lines behind x e. let s : lines ≡ behind = read_at_line (lines.number - 1) judged lines behind x e in rw s refl;
}

pub weaker : {X : Type 0} {early step : ℕ} {r : Reads X} (e s : ℕ) → Orderly early step r → early ≤ e → s ≤ step → Orderly e s r
weaker {early = early} {step = step} e s h k l = record {
  late = λ lines n rule d. let a : lines.number ≤ n + early = h.late lines n rule d in omega (arith, a, k);
  within = h.within;
  ahead = λ lines behind x d. let a : lines.number + step ≤ behind.number = h.ahead lines behind x d in omega (arith, a, l);
  kept = h.kept;
}

-- ---- one after another

refusal_in : {T : Type 0} → Result T CheckRefusal → CheckRefusal
refusal_in (Ok read) = Memory
refusal_in (Err x) = x

abbrev refused_as : {X : Type 0} → CheckRefusal → Result (X × Lines) CheckRefusal
refused_as x = Err x

pub same_refusal : {X T : Type 0} (x : CheckRefusal) (n : ℕ) (rule : Rule) → (let v : Result T CheckRefusal = Err x in v ≡ Err (Broken n rule)) → refused_as {X = X} x ≡ refused_as {X = X} (Broken n rule)
unfolding refusal_in
same_refusal {X} {T} x n rule c = ap (λ v. refused_as {X = X} (refusal_in {T = T} v)) c

module _ {X Y : Type 0} (early i j : ℕ) (r : Reads X) (next : X → Reads Y) (h : Orderly early i r) (k : (x : X) → Orderly (early + i) j (next x)) where
  late_bind : (lines : Lines) (v : Result (X × Lines) CheckRefusal) → r lines ≡ v → (n : ℕ) (rule : Rule) → read_behind v next ≡ Err (Broken n rule) → lines.number ≤ n + early
  late_bind lines (Ok read) e n rule d =
      let a : read.1.number ≤ n + (early + i) = (k read.0).late read.1 n rule d in
      let b : lines.number + i ≤ read.1.number = h.ahead lines read.1 read.0 e in omega (arith, a, b)
  late_bind lines (Err refusal) e n rule d = h.late lines n rule (e ∙ same_refusal {X = X} {T = Y × Lines} refusal n rule d)

  within_bind : (lines : Lines) (v : Result (X × Lines) CheckRefusal) → r lines ≡ v → (n : ℕ) (rule : Rule) → read_behind v next ≡ Err (Broken n rule) → n ≤ lines.number + length lines.items
  within_bind lines (Ok read) e n rule d =
      let a : n ≤ read.1.number + length read.1.items = (k read.0).within read.1 n rule d in
      let b : read.1.number + length read.1.items ≡ lines.number + length lines.items = h.kept lines read.1 read.0 e in omega (arith, a, b)
  within_bind lines (Err refusal) e n rule d = h.within lines n rule (e ∙ same_refusal {X = X} {T = Y × Lines} refusal n rule d)

  ahead_bind : (lines : Lines) (v : Result (X × Lines) CheckRefusal) → r lines ≡ v → (behind : Lines) (y : Y) → read_behind v next ≡ Ok (y, behind) → lines.number + (i + j) ≤ behind.number
  ahead_bind lines (Ok read) e behind y d =
      let a : read.1.number + j ≤ behind.number = (k read.0).ahead read.1 behind y d in
      let b : lines.number + i ≤ read.1.number = h.ahead lines read.1 read.0 e in omega (arith, a, b)
  ahead_bind lines (Err refusal) e behind y d = cc

  kept_bind : (lines : Lines) (v : Result (X × Lines) CheckRefusal) → r lines ≡ v → (behind : Lines) (y : Y) → read_behind v next ≡ Ok (y, behind) → behind.number + length behind.items ≡ lines.number + length lines.items
  kept_bind lines (Ok read) e behind y d = (k read.0).kept read.1 behind y d ∙ h.kept lines read.1 read.0 e
  kept_bind lines (Err refusal) e behind y d = cc

  bind_orderly : Orderly early (i + j) (r >>= next)
  bind_orderly = record {
    late = λ lines n rule d. late_bind lines (r lines) refl n rule d;
    within = λ lines n rule d. within_bind lines (r lines) refl n rule d;
    ahead = λ lines behind y d. ahead_bind lines (r lines) refl behind y d;
    kept = λ lines behind y d. kept_bind lines (r lines) refl behind y d;
  }

-- the common case: whatever comes next refuses no earlier line than its own first one
pub then_orderly : {X Y : Type 0} (early : ℕ) (r : Reads X) (next : X → Reads Y) → Orderly early 0 r → ((x : X) → Orderly early 0 (next x)) → Orderly early 0 (r >>= next)
then_orderly early r next h k =
    weaker early 0 (bind_orderly early 0 0 r next h (λ x. weaker (early + 0) 0 (k x) (omega arith) (omega arith))) (omega arith) (omega arith)

-- behind a line the next may refuse that line once more
pub after_line : {X Y : Type 0} (judge : Item Rational → Result X Rule) (next : X → Reads Y) → ((x : X) → Orderly 1 0 (next x)) → Orderly 0 0 (line judge >>= next)
after_line judge next k =
    weaker 0 0 (bind_orderly 0 1 0 (line judge) next (line_orderly judge) (λ x. weaker (0 + 1) 0 (k x) (omega arith) (omega arith))) (omega arith) (omega arith)

-- the same behind a line with what else is read before the next
pub after_block : {X Y Z : Type 0} (judge : Item Rational → Result X Rule) (middle : X → Reads Y) (next : Y → Reads Z) → ((x : X) → Orderly 0 0 (middle x)) → ((y : Y) → Orderly 1 0 (next y))
    → Orderly 0 0 ((line judge >>= middle) >>= next)
after_block judge middle next h k =
    weaker 0 0 (bind_orderly 0 (1 + 0) 0 (line judge >>= middle) next
    (bind_orderly 0 1 0 (line judge) middle (line_orderly judge) (λ x. weaker (0 + 1) 0 (h x) (omega arith) (omega arith)))
    (λ y. weaker (0 + (1 + 0)) 0 (k y) (omega arith) (omega arith))) (omega arith) (omega arith)

pub one_line : {X : Type 0} (judge : Item Rational → Result X Rule) → Orderly 0 0 (line judge)
one_line judge = weaker 0 0 (line_orderly judge) (omega arith) (omega arith)

pub more_orderly : {X : Type 0} (each : List X → Reads X) → ((above : List X) → Orderly 0 0 (each above)) → (n : ℕ) (above : List X) → Orderly 0 0 (more each n above)
more_orderly each h zero above = done_orderly above
more_orderly each h (suc n) above = then_orderly 0 (each above) (λ x. more each n (above ++ x ∷ [])) (h above) (λ x. more_orderly each h n (above ++ x ∷ []))

-- ---- the parts of a certificate

pub cover_orderly : (net : Network) (f : Measures) (above : List CoverValue) → Orderly 0 0 (cover_lines net f above)
cover_orderly net f above =
    then_orderly 0 (line (cover_line (length above))) _ (one_line (cover_line (length above))) (λ count.
    then_orderly 0 (more (λ so_far. line (label_line net f (length above) so_far)) count []) _ (more_orderly _ (λ so_far. one_line (label_line net f (length above) so_far)) count []) (λ labels.
    one_line (free_line net f above labels)))

pub cut_orderly : (limit : ℕ) (model : PathModel) (above : List CutRow) → Orderly 0 0 (one_cut limit model above)
cut_orderly limit model above =
    after_line cut_line _ (λ head.
    then_orderly 1 (more (λ _. line cut_multiplier) head.0 []) _ (weaker 1 0 (more_orderly (λ _. line cut_multiplier) (λ _. one_line cut_multiplier) head.0 []) (omega arith) (omega arith)) (λ y.
    last_line_orderly (derived (derivation_verdict limit model above (head.1 y)))))

pub instance_orderly : (net : Network) (two : Bool) → Orderly 0 0 (instance_lines net two)
instance_orderly net false = done_orderly []
instance_orderly net true =
    then_orderly 0 (line (instance_line net)) _ (one_line (instance_line net)) (λ _.
    more_orderly (λ so_far. line (limit_line net (length so_far))) (λ so_far. one_line (limit_line net (length so_far))) (toll_count net.arcs) [])

proof_orderly : (p : NamedProgram) (proof : List (Multiplier Rational) → Result BoundValue Rule) (n : ℕ) → Orderly 1 0 (proof_lines p proof n)
proof_orderly p proof n =
    then_orderly 1 (more (λ above. line (multiplier_line p above)) n []) _ (weaker 1 0 (more_orderly (λ above. line (multiplier_line p above)) (λ above. one_line (multiplier_line p above)) n []) (omega arith) (omega arith)) (λ ys.
    then_orderly 1 (last_line (proof ys)) _ (last_line_orderly (proof ys)) (λ value. weaker 1 0 (done_orderly _) (omega arith) (omega arith)))

evidence_orderly : (g : Given) (parts : Family) (opening : Opening) → Orderly 1 0 (evidence_lines g parts opening)
evidence_orderly g parts NotOpened = weaker 1 0 (done_orderly _) (omega arith) (omega arith)
evidence_orderly g parts (Marked mark) = weaker 1 0 (done_orderly _) (omega arith) (omega arith)
evidence_orderly g parts (Answered answer n) =
    then_orderly 1 (proof_lines (program_at g parts) (proof_by g.limit (program_at g parts) answer) n) _
    (proof_orderly (program_at g parts) (proof_by g.limit (program_at g parts) answer) n)
    (λ read. weaker 1 0 (done_orderly _) (omega arith) (omega arith))

branch_orderly : (parts : Family) (opening : Opening) → Orderly 0 0 (branch_lines parts opening)
branch_orderly parts NotOpened = done_orderly None
branch_orderly parts (Marked mark) = one_line (branch_line parts)
branch_orderly parts (Answered answer n) = one_line (branch_line parts)

below_orderly : (child : Place → Reads (Tree Node)) → ((p : Place) → Orderly 0 0 (child p)) → (parts : Family) (n : Node) (branch : Option Division) → Orderly 0 0 (below_node child parts n branch)
below_orderly child h parts n None = done_orderly _
below_orderly child h parts n (Some d) =
    then_orderly 0 (child (child_place n.bound (first_of parts d))) _ (h _) (λ first.
    then_orderly 0 (child (child_place n.bound (second_of parts d))) _ (h _) (λ second. done_orderly _))

missing_orderly : {X : Type 0} → Orderly {X = X} 0 0 (λ lines. Err (Broken lines.number Order))
missing_orderly {X} = record {
  late = λ lines n rule e. let s : lines.number ≡ n = same_line {X = X} lines.number n Order rule e in omega (arith, s);
  within = λ lines n rule e. let s : lines.number ≡ n = same_line {X = X} lines.number n Order rule e in omega (arith, s);
  ahead = λ lines behind x e. cc;
  kept = λ lines behind x e. cc;
}

node_orderly : (g : Given) (depth : ℕ) (place : Place) → Orderly 0 0 (node_lines g depth place)
node_orderly g zero place = missing_orderly
node_orderly g (suc depth) place =
    after_line (opening_line (is_full place.parts)) _ (λ opening.
    then_orderly 1 (evidence_lines g place.parts opening) _ (evidence_orderly g place.parts opening) (λ proof.
    then_orderly 1 (branch_lines place.parts opening) _ (weaker 1 0 (branch_orderly place.parts opening) (omega arith) (omega arith)) (λ branch.
    weaker 1 0 (below_orderly (node_lines g depth) (node_orderly g depth) place.parts (record { evidence = proof.0; bound = bound_after (before g place) proof.1 }) branch) (omega arith) (omega arith))))

pub tree_orderly : (g : Given) (place : Place) → Orderly 0 0 (tree_at g place)
tree_orderly g place = record {
  late = λ lines n rule e. (node_orderly g (length lines.items) place).late lines n rule e;
  within = λ lines n rule e. (node_orderly g (length lines.items) place).within lines n rule e;
  ahead = λ lines behind x e. (node_orderly g (length lines.items) place).ahead lines behind x e;
  kept = λ lines behind x e. (node_orderly g (length lines.items) place).kept lines behind x e;
}

-- ---- the verdict

pub named_behind : (pair : PairValue) (at : ℕ) (items : List (Item Rational)) (number : ℕ) (rule : Rule) → unless_more pair at items ≡ Err (Broken number rule) → (at ≡ number) × (1 ≤ length items)
named_behind pair at [] number rule e = cc
named_behind pair at (item ∷ items) number rule e = (line_is e, omega arith)
  where
    line_in : Result PairValue CheckRefusal → ℕ
    line_in (Ok p) = 0
    line_in (Err (Broken n r)) = n
    line_in (Err Memory) = 0

    line_is : (let v : Result PairValue CheckRefusal = Err (Broken at Order) in v ≡ Err (Broken number rule)) → at ≡ number
    line_is d = ap line_in d
