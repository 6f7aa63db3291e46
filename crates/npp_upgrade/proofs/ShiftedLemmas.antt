-- What lines say does not depend on the number of the first of them.
use Rattle.std.specs.Prelude.{◌≡◌, ℕ, zero, suc, ◌+◌, ◌-◌, List, [], ◌∷◌, ◌++◌, length, Option, Some, None, Result, Ok, Err, refl}
use Rattle.std.proofs.Common.{ap, ◌∙◌}
use Rattle.npp_frac.specs.Rational.{Rational}
use Rattle.npp_net.specs.Network.{Network}
use Rattle.npp_cover.specs.Replaces.{CoverValue}
use Rattle.npp_rows.specs.Caps.{path_model}
use Rattle.npp_rows.specs.Cuts.{Cut as CutRow}
use Rattle.npp_rows.specs.Derivations.{derivation_verdict}
use Rattle.npp_rows.specs.declared.names.Multiplier.{Multiplier}
use Rattle.npp_rows.specs.Named.{NamedProgram}
use Rattle.npp_rows.specs.Parts.{is_full}
use Rattle.npp_rows.specs.PathModel.{PathModel}
use Rattle.npp_tree.specs.declared.item.Item.{Item}
use Rattle.npp_tree.specs.declared.outcome.PathLine.{PathLine}
use Rattle.npp_tree.specs.Bounds.{BoundValue}
use Rattle.npp_tree.specs.Family.{Family, Division, first_of, second_of}
use Rattle.npp_tree.specs.Tree.{Node, Tree, bound_after}
use Rattle.npp_check.specs.declared.block.Opening.{Opening}
use Rattle.npp_check.specs.declared.block.Opening.TheVariants.{NotOpened, Marked, Answered}
use Rattle.npp_check.specs.declared.refusal.CheckRefusal.{CheckRefusal}
use Rattle.npp_check.specs.declared.refusal.Rule.{Rule}
use Rattle.npp_check.specs.CoverLines.{cover_line, label_line, free_line, cover_lines}
use Rattle.npp_check.specs.CutLines.{cuts_line, cut_line, cut_multiplier, derived, one_cut}
use Rattle.npp_check.specs.EndLine.{Head, tree_line, end_line}
use Rattle.npp_check.specs.Measures.{Measures}
use Rattle.npp_check.specs.Multipliers.{multiplier_line}
use Rattle.npp_check.specs.NodeLines.{Place, Given, root_place, program_at, before, opening_line, branch_line, child_place, proof_by, evidence_lines, proof_lines, branch_lines, below_node, node_lines, tree_at}
use Rattle.npp_check.specs.PathLines.{path_line}
use Rattle.npp_check.specs.Reads.{Reads, Lines, done, at_line, read_behind, line, last_line, more, ◌>>=◌}
use Rattle.npp_check.specs.Stages.{Case, Known, Sum, nothing_yet, with_tree, given, from_end, nodes_to_come, from_tree, from_cuts, from_covers, from_paths, from_tolls}
use Rattle.npp_check.specs.TollLines.{toll_line}

-- what was read and the items behind it, without the number of the next line
abbrev pub said : {X : Type 0} → Result (X × Lines) CheckRefusal → Option (X × List (Item Rational))
said (Ok read) = Some (read.0, read.1.items)
said (Err refusal) = None

-- lines say the same wherever they stand
abbrev pub Shifted : {X : Type 0} → Reads X → Type 0
Shifted read = (a b : ℕ) (items : List (Item Rational)) → said (read (record { number = a; items = items })) ≡ said (read (record { number = b; items = items }))

unless_said : {S : Type 0} → S → Option S → S
unless_said s None = s
unless_said s (Some r) = r

pub same_said : {S : Type 0} (r s : S) → (let o : Option S = Some r in o ≡ Some s) → r ≡ s
unfolding unless_said
same_said r s e = ap (unless_said r) e

-- ---- one after another

pub done_shifted : {X : Type 0} (x : X) → Shifted (done x)
done_shifted x a b items = refl

judged_shifted : {X : Type 0} (judged : Result X Rule) (a b : ℕ) (lines others : Lines) → lines.items ≡ others.items → said (at_line a judged lines) ≡ said (at_line b judged others)
judged_shifted {X} (Ok x) a b lines others e = ap (λ (items : List (Item Rational)). Some (x, items)) e
judged_shifted (Err rule) a b lines others e = refl

pub line_shifted : {X : Type 0} (judge : Item Rational → Result X Rule) → Shifted (line judge)
line_shifted judge a b [] = refl
line_shifted judge a b (i ∷ items) = judged_shifted (judge i) a b (record { number = a + 1; items = items }) (record { number = b + 1; items = items }) refl

last_line_shifted : {X : Type 0} (judged : Result X Rule) → Shifted (last_line judged)
last_line_shifted judged a b items = judged_shifted judged (a - 1) (b - 1) (record { number = a; items = items }) (record { number = b; items = items }) refl

-- what is read behind two readings that say the same
pub behind_shifted : {X Y : Type 0} (v w : Result (X × Lines) CheckRefusal) (next : X → Reads Y) → said v ≡ said w → ((x : X) → Shifted (next x)) → said (read_behind v next) ≡ said (read_behind w next)
behind_shifted {X} (Ok p) (Ok q) next e h =
    let same : (p.0, p.1.items) ≡ (q.0, q.1.items) = same_said (p.0, p.1.items) (q.0, q.1.items) e in
    h p.0 p.1.number q.1.number p.1.items
    ∙ ap (λ (s : X × List (Item Rational)). said (next s.0 (record { number = q.1.number; items = s.1 }))) same
behind_shifted (Ok p) (Err refusal) next e h = absurd cc
behind_shifted (Err refusal) (Ok q) next e h = absurd cc
behind_shifted (Err refusal) (Err other) next e h = refl

pub then_shifted : {X Y : Type 0} (r : Reads X) (next : X → Reads Y) → Shifted r → ((x : X) → Shifted (next x)) → Shifted (r >>= next)
then_shifted r next h k a b items = behind_shifted (r (record { number = a; items = items })) (r (record { number = b; items = items })) next (h a b items) k

more_shifted : {X : Type 0} (each : List X → Reads X) → ((above : List X) → Shifted (each above)) → (n : ℕ) (above : List X) → Shifted (more each n above)
more_shifted each h zero above = done_shifted above
more_shifted each h (suc n) above = then_shifted (each above) (λ x. more each n (above ++ x ∷ [])) (h above) (λ x. more_shifted each h n (above ++ x ∷ []))

-- ---- the parts of a certificate

cover_shifted : (net : Network) (f : Measures) (above : List CoverValue) → Shifted (cover_lines net f above)
cover_shifted net f above =
    then_shifted (line (cover_line (length above))) _ (line_shifted (cover_line (length above))) (λ count.
    then_shifted (more (λ so_far. line (label_line net f (length above) so_far)) count []) _ (more_shifted _ (λ so_far. line_shifted (label_line net f (length above) so_far)) count []) (λ labels.
    line_shifted (free_line net f above labels)))

cut_shifted : (limit : ℕ) (model : PathModel) (above : List CutRow) → Shifted (one_cut limit model above)
cut_shifted limit model above =
    then_shifted (line cut_line) _ (line_shifted cut_line) (λ head.
    then_shifted (more (λ _. line cut_multiplier) head.0 []) _ (more_shifted (λ _. line cut_multiplier) (λ _. line_shifted cut_multiplier) head.0 []) (λ y.
    last_line_shifted (derived (derivation_verdict limit model above (head.1 y)))))

proof_shifted : (p : NamedProgram) (proof : List (Multiplier Rational) → Result BoundValue Rule) (n : ℕ) → Shifted (proof_lines p proof n)
proof_shifted p proof n =
    then_shifted (more (λ above. line (multiplier_line p above)) n []) _ (more_shifted (λ above. line (multiplier_line p above)) (λ above. line_shifted (multiplier_line p above)) n []) (λ ys.
    then_shifted (last_line (proof ys)) _ (last_line_shifted (proof ys)) (λ value. done_shifted _))

evidence_shifted : (g : Given) (parts : Family) (opening : Opening) → Shifted (evidence_lines g parts opening)
evidence_shifted g parts NotOpened = done_shifted _
evidence_shifted g parts (Marked mark) = done_shifted _
evidence_shifted g parts (Answered answer n) =
    then_shifted (proof_lines (program_at g parts) (proof_by g.limit (program_at g parts) answer) n) _
    (proof_shifted (program_at g parts) (proof_by g.limit (program_at g parts) answer) n)
    (λ read. done_shifted _)

branch_shifted : (parts : Family) (opening : Opening) → Shifted (branch_lines parts opening)
branch_shifted parts NotOpened = done_shifted None
branch_shifted parts (Marked mark) = line_shifted (branch_line parts)
branch_shifted parts (Answered answer n) = line_shifted (branch_line parts)

below_shifted : (child : Place → Reads (Tree Node)) → ((p : Place) → Shifted (child p)) → (parts : Family) (n : Node) (branch : Option Division) → Shifted (below_node child parts n branch)
below_shifted child h parts n None = done_shifted _
below_shifted child h parts n (Some d) =
    then_shifted (child (child_place n.bound (first_of parts d))) _ (h _) (λ first.
    then_shifted (child (child_place n.bound (second_of parts d))) _ (h _) (λ second. done_shifted _))

node_shifted : (g : Given) (depth : ℕ) (place : Place) → Shifted (node_lines g depth place)
node_shifted g zero place = λ a b items. refl
node_shifted g (suc depth) place =
    then_shifted (line (opening_line (is_full place.parts))) _ (line_shifted (opening_line (is_full place.parts))) (λ opening.
    then_shifted (evidence_lines g place.parts opening) _ (evidence_shifted g place.parts opening) (λ proof.
    then_shifted (branch_lines place.parts opening) _ (branch_shifted place.parts opening) (λ branch.
    below_shifted (node_lines g depth) (node_shifted g depth) place.parts (record { evidence = proof.0; bound = bound_after (before g place) proof.1 }) branch)))

tree_shifted : (g : Given) (place : Place) → Shifted (tree_at g place)
tree_shifted g place a b items = node_shifted g (length items) place a b items

-- ---- all lines behind those that name the instance

module _ (limit : ℕ) (c : Case) where
  end_shifted : (head : Head) (s : Sum) → Shifted (from_end limit c head s)
  end_shifted head s = then_shifted (line (end_line head s.opened s.bound)) _ (line_shifted (end_line head s.opened s.bound)) (λ _. done_shifted _)

  nodes_shifted : (k : Known) (places : List Place) (s : Sum) → Shifted (nodes_to_come limit c k places s)
  nodes_shifted k [] s = end_shifted k.head s
  nodes_shifted k (p ∷ places) s = then_shifted (tree_at (given limit c k) p) _ (tree_shifted (given limit c k) p) (λ tree. nodes_shifted k places (with_tree s tree))

  tree_to_come_shifted : (k : Known) → Shifted (from_tree limit c k)
  tree_to_come_shifted k = then_shifted (line tree_line) _ (line_shifted tree_line) (λ _. nodes_shifted k (root_place (path_model c.net k.covers) ∷ []) nothing_yet)

  cuts_shifted : (head : Head) (covers : List CoverValue) (left : ℕ) (above : List CutRow) → Shifted (from_cuts limit c head covers left above)
  cuts_shifted head covers left above =
      then_shifted (more (one_cut limit (path_model c.net covers)) left above) _ (more_shifted (one_cut limit (path_model c.net covers)) (cut_shifted limit (path_model c.net covers)) left above)
      (λ cuts. tree_to_come_shifted (record { head = head; covers = covers; cuts = cuts }))

  covers_shifted : (head : Head) (tolls : List Rational) (paths : List (PathLine Rational)) (left : ℕ) (above : List CoverValue) → Shifted (from_covers limit c head tolls paths left above)
  covers_shifted head tolls paths left above =
      then_shifted (more (cover_lines c.net c.measures) left above) _ (more_shifted (cover_lines c.net c.measures) (cover_shifted c.net c.measures) left above) (λ covers.
      then_shifted (line (cuts_line limit c.net (path_model c.net covers) tolls paths head.lower)) _ (line_shifted (cuts_line limit c.net (path_model c.net covers) tolls paths head.lower)) (λ count.
      cuts_shifted head covers count []))

  paths_shifted : (head : Head) (tolls : List Rational) (left : ℕ) (above : List (PathLine Rational)) → Shifted (from_paths limit c head tolls left above)
  paths_shifted head tolls left above =
      then_shifted (more (λ a. line (path_line limit c.net tolls (length a))) left above) _ (more_shifted (λ a. line (path_line limit c.net tolls (length a))) (λ a. line_shifted (path_line limit c.net tolls (length a))) left above)
      (λ paths. covers_shifted head tolls paths (length c.net.commodities) [])

  pub tolls_shifted : (head : Head) (left : ℕ) (above : List Rational) → Shifted (from_tolls limit c head left above)
  tolls_shifted head left above =
      then_shifted (more (λ a. line (toll_line c.net (length a))) left above) _ (more_shifted (λ a. line (toll_line c.net (length a))) (λ a. line_shifted (toll_line c.net (length a))) left above)
      (λ tolls. paths_shifted head tolls (length c.net.commodities) [])
