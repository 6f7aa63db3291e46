-- A verdict is a pair or names a broken line: no list of lines wants memory.
use Rattle.std.specs.Prelude.{ℕ, zero, suc, ◌+◌, ◌-◌, Bool, true, false, List, [], ◌∷◌, ◌++◌, length, Option, Some, None, Result, Ok, Err}
use Rattle.npp_frac.specs.Rational.{Rational}
use Rattle.npp_net.specs.Network.{Network, toll_count}
use Rattle.npp_cover.specs.Replaces.{CoverValue}
use Rattle.npp_rows.specs.Caps.{path_model}
use Rattle.npp_rows.specs.Cuts.{Cut as CutRow}
use Rattle.npp_rows.specs.Derivations.{derivation_verdict}
use Rattle.npp_rows.specs.declared.names.Multiplier.{Multiplier}
use Rattle.npp_rows.specs.Named.{NamedProgram}
use Rattle.npp_rows.specs.Parts.{is_full}
use Rattle.npp_rows.specs.PathModel.{PathModel}
use Rattle.npp_tree.specs.declared.item.Item.{Item}
use Rattle.npp_tree.specs.Bounds.{BoundValue}
use Rattle.npp_tree.specs.Tree.{Node, Tree, bound_after, opened_in, tree_bound}
use Rattle.npp_tree.specs.Family.{Family, Division, first_of, second_of}
use Rattle.npp_check.specs.declared.block.Opening.{Opening}
use Rattle.npp_check.specs.declared.block.Opening.TheVariants.{NotOpened, Marked, Answered}
use Rattle.npp_check.specs.declared.refusal.CheckRefusal.{CheckRefusal}
use Rattle.npp_check.specs.declared.refusal.CheckRefusal.TheVariants.{Broken, Memory}
use Rattle.npp_check.specs.declared.refusal.Rule.{Rule}
use Rattle.npp_check.specs.Measures.{Measures}
use Rattle.npp_check.specs.HeadLines.{header_line, status_line, width_line, lower_line, upper_line, opened_line, instance_line, limit_line, instance_lines}
use Rattle.npp_check.specs.TollLines.{toll_line, toll_lines}
use Rattle.npp_check.specs.PathLines.{path_line, path_lines}
use Rattle.npp_check.specs.CoverLines.{cover_line, label_line, free_line, cover_lines, all_covers}
use Rattle.npp_check.specs.CutLines.{cuts_line, cut_line, cut_multiplier, derived, one_cut, all_cuts}
use Rattle.npp_check.specs.Multipliers.{multiplier_line}
use Rattle.npp_check.specs.NodeLines.{Place, Given, root_place, child_place, program_at, before, opening_line, branch_line, proof_by, proof_lines, evidence_lines, branch_lines, below_node, node_lines, tree_at}
use Rattle.npp_check.specs.EndLine.{tree_line, end_line}
use Rattle.npp_check.specs.Reads.{Reads, Lines, done, at_line, read_behind, next_line, line, last_line, more, unless_more, ◌>>=◌}
use Rattle.npp_check.specs.Verdict.{PairValue, certificate, verdict, whole}

abbrev pub IsNamed : {X : Type 0} → Result X CheckRefusal → Type 0
IsNamed (Ok x) = Unit {0}
IsNamed (Err (Broken number rule)) = Unit {0}
IsNamed (Err Memory) = ⊥

-- whichever lines it reads
abbrev Names : {X : Type 0} → Reads X → Type 0
Names read = (lines : Lines) → IsNamed (read lines)

judged_named : {X : Type 0} (number : ℕ) (judged : Result X Rule) (behind : Lines) → IsNamed (at_line number judged behind)
judged_named number (Ok x) behind = tt
judged_named number (Err rule) behind = tt

next_named : {X : Type 0} (judge : Item Rational → Result X Rule) (number : ℕ) (items : List (Item Rational)) → IsNamed (next_line judge number items)
next_named judge number [] = tt
next_named judge number (item ∷ items) = judged_named number (judge item) (record { number = number + 1; items = items })

done_named : {X : Type 0} (x : X) → Names (done x)
done_named x lines = tt

line_named : {X : Type 0} (judge : Item Rational → Result X Rule) → Names (line judge)
line_named judge lines = next_named judge lines.number lines.items

last_named : {X : Type 0} (judged : Result X Rule) → Names (last_line judged)
last_named judged lines = judged_named (lines.number - 1) judged lines

behind_named : {X Y : Type 0} (read : Result (X × Lines) CheckRefusal) (next : X → Reads Y) → IsNamed read → ((x : X) → Names (next x)) → IsNamed (read_behind read next)
behind_named (Ok read) next first then = then read.0 read.1
behind_named (Err (Broken number rule)) next first then = tt
behind_named (Err Memory) next first then = absurd first

then_named : {X Y : Type 0} (read : Reads X) (next : X → Reads Y) → Names read → ((x : X) → Names (next x)) → Names (read >>= next)
then_named read next first then lines = behind_named (read lines) next (first lines) then

more_named : {X : Type 0} (each : List X → Reads X) → ((above : List X) → Names (each above)) → (n : ℕ) (above : List X) → Names (more each n above)
more_named each h zero above = done_named above
more_named each h (suc n) above = then_named (each above) (λ x. more each n (above ++ x ∷ [])) (h above) (λ x. more_named each h n (above ++ x ∷ []))

-- ---- the parts of a certificate

instance_named : (net : Network) (two : Bool) → Names (instance_lines net two)
instance_named net false = λ lines. tt
instance_named net true =
    then_named (line (instance_line net)) _ (line_named (instance_line net)) (λ _.
    more_named (λ above. line (limit_line net (length above))) (λ above. line_named (limit_line net (length above))) (toll_count net.arcs) [])

cover_named : (net : Network) (f : Measures) (above : List CoverValue) → Names (cover_lines net f above)
cover_named net f above =
    then_named (line (cover_line (length above))) _ (line_named (cover_line (length above))) (λ count.
    then_named (more (λ so_far. line (label_line net f (length above) so_far)) count []) _ (more_named _ (λ so_far. line_named (label_line net f (length above) so_far)) count []) (λ labels.
    line_named (free_line net f above labels)))

cut_named : (limit : ℕ) (model : PathModel) (above : List CutRow) → Names (one_cut limit model above)
cut_named limit model above =
    then_named (line cut_line) _ (line_named cut_line) (λ head.
    then_named (more (λ _. line cut_multiplier) head.0 []) _ (more_named (λ _. line cut_multiplier) (λ _. line_named cut_multiplier) head.0 []) (λ y.
    last_named (derived (derivation_verdict limit model above (head.1 y)))))

proof_named : (p : NamedProgram) (proof : List (Multiplier Rational) → Result BoundValue Rule) (n : ℕ) → Names (proof_lines p proof n)
proof_named p proof n =
    then_named (more (λ above. line (multiplier_line p above)) n []) _ (more_named (λ above. line (multiplier_line p above)) (λ above. line_named (multiplier_line p above)) n []) (λ ys.
    then_named (last_line (proof ys)) _ (last_named (proof ys)) (λ value lines. tt))

evidence_named : (g : Given) (parts : Family) (opening : Opening) → Names (evidence_lines g parts opening)
evidence_named g parts NotOpened = λ lines. tt
evidence_named g parts (Marked mark) = λ lines. tt
evidence_named g parts (Answered answer n) =
    then_named (proof_lines (program_at g parts) (proof_by g.limit (program_at g parts) answer) n) _
    (proof_named (program_at g parts) (proof_by g.limit (program_at g parts) answer) n)
    (λ read lines. tt)

branch_named : (parts : Family) (opening : Opening) → Names (branch_lines parts opening)
branch_named parts NotOpened = λ lines. tt
branch_named parts (Marked mark) = line_named (branch_line parts)
branch_named parts (Answered answer n) = line_named (branch_line parts)

below_named : (child : Place → Reads (Tree Node)) → ((p : Place) → Names (child p)) → (parts : Family) (n : Node) (branch : Option Division) → Names (below_node child parts n branch)
below_named child h parts n None = λ lines. tt
below_named child h parts n (Some d) =
    then_named (child (child_place n.bound (first_of parts d))) _ (h _) (λ first.
    then_named (child (child_place n.bound (second_of parts d))) _ (h _) (λ second lines. tt))

node_named : (g : Given) (depth : ℕ) (place : Place) → Names (node_lines g depth place)
node_named g zero place = λ lines. tt
node_named g (suc depth) place =
    then_named (line (opening_line (is_full place.parts))) _ (line_named (opening_line (is_full place.parts))) (λ opening.
    then_named (evidence_lines g place.parts opening) _ (evidence_named g place.parts opening) (λ proof.
    then_named (branch_lines place.parts opening) _ (branch_named place.parts opening) (λ branch.
    below_named (node_lines g depth) (node_named g depth) place.parts (record { evidence = proof.0; bound = bound_after (before g place) proof.1 }) branch)))

tree_named : (g : Given) (place : Place) → Names (tree_at g place)
tree_named g place lines = node_named g (length lines.items) place lines

certificate_named : (limit : ℕ) (net : Network) (f : Measures) → Names (certificate limit net f)
certificate_named limit net f =
    then_named (line (header_line net)) _ (line_named (header_line net)) (λ two.
    then_named (line status_line) _ (line_named status_line) (λ status.
    then_named (line width_line) _ (line_named width_line) (λ _.
    then_named (line lower_line) _ (line_named lower_line) (λ lower.
    then_named (line upper_line) _ (line_named upper_line) (λ upper.
    then_named (line opened_line) _ (line_named opened_line) (λ opened.
    then_named (instance_lines net two) _ (instance_named net two) (λ _.
    then_named (toll_lines net) _ (more_named (λ above. line (toll_line net (length above))) (λ above. line_named (toll_line net (length above))) (toll_count net.arcs) []) (λ tolls.
    then_named (path_lines limit net tolls) _ (more_named (λ above. line (path_line limit net tolls (length above))) (λ above. line_named (path_line limit net tolls (length above))) (length net.commodities) []) (λ paths.
    then_named (all_covers net f) _ (more_named (cover_lines net f) (cover_named net f) (length net.commodities) []) (λ covers.
    then_named (line (cuts_line limit net (path_model net covers) tolls paths lower)) _ (line_named (cuts_line limit net (path_model net covers) tolls paths lower)) (λ count.
    then_named (all_cuts limit (path_model net covers) count) _ (more_named (one_cut limit (path_model net covers)) (cut_named limit (path_model net covers)) count []) (λ cuts.
    then_named (line tree_line) _ (line_named tree_line) (λ _.
    then_named (tree_at (record { limit = limit; model = path_model net covers; cuts = cuts }) (root_place (path_model net covers))) _
    (tree_named (record { limit = limit; model = path_model net covers; cuts = cuts }) (root_place (path_model net covers))) (λ tree.
    then_named (line (end_line (record { status = status; lower = lower; upper = upper; opened = opened }) (opened_in tree) (tree_bound tree))) _
    (line_named (end_line (record { status = status; lower = lower; upper = upper; opened = opened }) (opened_in tree) (tree_bound tree))) (λ _ lines. tt)))))))))))))))

-- ---- the verdict

unless_more_named : (pair : PairValue) (number : ℕ) (items : List (Item Rational)) → IsNamed (unless_more pair number items)
unless_more_named pair number [] = tt
unless_more_named pair number (item ∷ items) = tt

whole_named : (read : Result (PairValue × Lines) CheckRefusal) → IsNamed read → IsNamed (whole read)
whole_named (Ok read) h = unless_more_named read.0 read.1.number read.1.items
whole_named (Err (Broken number rule)) h = tt
whole_named (Err Memory) h = absurd h

pub verdict_named : (limit : ℕ) (net : Network) (f : Measures) (items : List (Item Rational)) → IsNamed (verdict limit net f items)
verdict_named limit net f items = whole_named (certificate limit net f (record { number = 1; items = items })) (certificate_named limit net f (record { number = 1; items = items }))
