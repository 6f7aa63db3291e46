-- No line but the toll lines and the path lines prints tolls or walks.
use Rattle.std.specs.Prelude.{◌≡◌, ℕ, zero, suc, Bool, true, false, List, [], ◌∷◌, length, Option, Some, None, Result, Ok, refl}
use Rattle.npp_frac.specs.Rational.{Rational}
use Rattle.npp_net.specs.Network.{Network, toll_count}
use Rattle.npp_cover.specs.declared.label.Label.{Label}
use Rattle.npp_cover.specs.Replaces.{CoverValue}
use Rattle.npp_rows.specs.declared.names.Multiplier.{Multiplier}
use Rattle.npp_rows.specs.PathModel.{PathModel}
use Rattle.npp_rows.specs.Caps.{path_model}
use Rattle.npp_rows.specs.Parts.{is_full}
use Rattle.npp_rows.specs.Named.{NamedProgram}
use Rattle.npp_rows.specs.Cuts.{Cut as CutRow}
use Rattle.npp_rows.specs.Derivations.{Derived, derivation_verdict}
use Rattle.npp_tree.specs.declared.outcome.Status.{Status}
use Rattle.npp_tree.specs.declared.outcome.PathLine.{PathLine}
use Rattle.npp_tree.specs.declared.item.Item.{Item}
use Rattle.npp_tree.specs.declared.item.Item.TheVariants as item
use Rattle.npp_tree.specs.Bounds.{BoundValue}
use Rattle.npp_tree.specs.Family.{Family, Division, first_of, second_of}
use Rattle.npp_tree.specs.Tree.{Node, Tree, bound_after}
use Rattle.npp_check.specs.declared.refusal.Rule.{Rule}
use Rattle.npp_check.specs.Measures.{Measures}
use Rattle.npp_check.specs.HeadLines.{header_line, status_line, width_line, lower_line, upper_line, opened_line, instance_line, limit_line, instance_lines}
use Rattle.npp_check.specs.CoverLines.{cover_line, label_line, free_line, cover_lines}
use Rattle.npp_check.specs.CutLines.{cuts_line, cut_line, cut_multiplier, derived, one_cut, all_cuts}
use Rattle.npp_check.specs.Multipliers.{multiplier_line}
use Rattle.npp_check.specs.declared.block.Opening.{Opening}
use Rattle.npp_check.specs.declared.block.Opening.TheVariants.{NotOpened, Marked, Answered}
use Rattle.npp_check.specs.NodeLines.{Given, Place, opening_line, branch_line, branch_lines, evidence_lines, proof_lines, proof_by, program_at, before, below_node, child_place, node_lines, tree_at, root_place}
use Rattle.npp_check.specs.EndLine.{Head, tree_line, end_line}
use Rattle.npp_check.specs.Stages.{Case, Known, Sum, nothing_yet, with_tree, from_end, from_tree, from_cuts, from_covers}
use Rattle.npp_check.specs.Reads.{Reads, line, last_line, more}
use Rattle.npp_check.proofs.SaidLemmas.{IsSilent, Silent, done_silent, last_line_silent, line_silent, bind_silent, more_silent}

-- ---- the head

header_silent : (net : Network) (i : Item Rational) (x : Bool) → header_line net i ≡ Ok x → IsSilent i
header_silent net item.Header x e = record { toll = refl; walk = refl }
header_silent net item.HeaderTwo x e = record { toll = refl; walk = refl }
header_silent net other x e = cc

status_silent : (i : Item Rational) (x : Status) → status_line i ≡ Ok x → IsSilent i
status_silent (item.StatusIs s) x e = record { toll = refl; walk = refl }
status_silent other x e = cc

width_silent : (i : Item Rational) (x : ℕ) → width_line i ≡ Ok x → IsSilent i
width_silent (item.Width w) x e = record { toll = refl; walk = refl }
width_silent other x e = cc

lower_silent : (i : Item Rational) (x : Rational) → lower_line i ≡ Ok x → IsSilent i
lower_silent (item.Lower v) x e = record { toll = refl; walk = refl }
lower_silent other x e = cc

upper_silent : (i : Item Rational) (x : Rational) → upper_line i ≡ Ok x → IsSilent i
upper_silent (item.Upper v) x e = record { toll = refl; walk = refl }
upper_silent other x e = cc

opened_silent : (i : Item Rational) (x : ℕ) → opened_line i ≡ Ok x → IsSilent i
opened_silent (item.Opened n) x e = record { toll = refl; walk = refl }
opened_silent other x e = cc

instance_silent : (net : Network) (i : Item Rational) (x : Unit {0}) → instance_line net i ≡ Ok x → IsSilent i
instance_silent net (item.InstanceIs nodes arcs tolls commodities) x e = record { toll = refl; walk = refl }
instance_silent net other x e = cc

limit_silent : (net : Network) (a : ℕ) (i : Item Rational) (x : Option ℕ) → limit_line net a i ≡ Ok x → IsSilent i
limit_silent net a (item.Limit b ceiling) x e = record { toll = refl; walk = refl }
limit_silent net a other x e = cc

pub header_reads : (net : Network) → Silent (line (header_line net))
header_reads net = line_silent (header_line net) (header_silent net)

pub status_reads : Silent (line status_line)
status_reads = line_silent status_line status_silent

pub width_reads : Silent (line width_line)
width_reads = line_silent width_line width_silent

pub lower_reads : Silent (line lower_line)
lower_reads = line_silent lower_line lower_silent

pub upper_reads : Silent (line upper_line)
upper_reads = line_silent upper_line upper_silent

pub opened_reads : Silent (line opened_line)
opened_reads = line_silent opened_line opened_silent

pub instance_reads : (net : Network) (two : Bool) → Silent (instance_lines net two)
instance_reads net false = done_silent []
instance_reads net true =
    bind_silent (line (instance_line net)) _ (line_silent (instance_line net) (instance_silent net)) (λ _.
    more_silent (λ above. line (limit_line net (length above))) (λ above. line_silent (limit_line net (length above)) (limit_silent net (length above))) (toll_count net.arcs) [])

-- ---- covers

cover_silent : (k : ℕ) (i : Item Rational) (x : ℕ) → cover_line k i ≡ Ok x → IsSilent i
cover_silent k (item.Cover l labels) x e = record { toll = refl; walk = refl }
cover_silent k other x e = cc

label_silent : (net : Network) (f : Measures) (k : ℕ) (labels : List Label) (i : Item Rational) (x : Label) → label_line net f k labels i ≡ Ok x → IsSilent i
label_silent net f k [] item.Start x e = record { toll = refl; walk = refl }
label_silent net f k [] other x e = cc
label_silent net f k (l ∷ labels) (item.Step parent arc) x e = record { toll = refl; walk = refl }
label_silent net f k (l ∷ labels) other x e = cc

free_silent : (net : Network) (f : Measures) (above : List CoverValue) (labels : List Label) (i : Item Rational) (x : CoverValue) → free_line net f above labels i ≡ Ok x → IsSilent i
free_silent net f above labels (item.Free walk) x e = record { toll = refl; walk = refl }
free_silent net f above labels other x e = cc

cover_reads : (net : Network) (f : Measures) (above : List CoverValue) → Silent (cover_lines net f above)
cover_reads net f above =
    bind_silent (line (cover_line (length above))) _ (line_silent (cover_line (length above)) (cover_silent (length above))) (λ count.
    bind_silent (more (λ so_far. line (label_line net f (length above) so_far)) count []) _
    (more_silent (λ so_far. line (label_line net f (length above) so_far)) (λ so_far. line_silent (label_line net f (length above) so_far) (label_silent net f (length above) so_far)) count []) (λ labels.
    line_silent (free_line net f above labels) (free_silent net f above labels)))

-- ---- cuts

cuts_silent : (limit : ℕ) (net : Network) (m : PathModel) (tolls : List Rational) (paths : List (PathLine Rational)) (lower : Rational) (i : Item Rational) (x : ℕ)
    → cuts_line limit net m tolls paths lower i ≡ Ok x → IsSilent i
cuts_silent limit net m tolls paths lower (item.Cuts n) x e = record { toll = refl; walk = refl }
cuts_silent limit net m tolls paths lower other x e = cc

cut_silent : (i : Item Rational) (x : ℕ × (List (Multiplier Rational) → Derived)) → cut_line i ≡ Ok x → IsSilent i
cut_silent (item.Conflict k p l q lines) x e = record { toll = refl; walk = refl }
cut_silent (item.Pair k p l cuts) x e = record { toll = refl; walk = refl }
cut_silent (item.Round lines) x e = record { toll = refl; walk = refl }
cut_silent other x e = cc

cut_multiplier_silent : (i : Item Rational) (x : Multiplier Rational) → cut_multiplier i ≡ Ok x → IsSilent i
cut_multiplier_silent (item.Mult y) x e = record { toll = refl; walk = refl }
cut_multiplier_silent other x e = cc

cut_reads : (limit : ℕ) (m : PathModel) (above : List CutRow) → Silent (one_cut limit m above)
cut_reads limit m above =
    bind_silent (line cut_line) _ (line_silent cut_line cut_silent) (λ head.
    bind_silent (more (λ _. line cut_multiplier) head.0 []) _ (more_silent (λ _. line cut_multiplier) (λ _. line_silent cut_multiplier cut_multiplier_silent) head.0 []) (λ y.
    last_line_silent (derived (derivation_verdict limit m above (head.1 y)))))

-- ---- trees

opening_silent : (full : Bool) (i : Item Rational) (x : Opening) → opening_line full i ≡ Ok x → IsSilent i
opening_silent full item.Open x e = record { toll = refl; walk = refl }
opening_silent full (item.Basic mark) x e = record { toll = refl; walk = refl }
opening_silent full (item.Dual n) x e = record { toll = refl; walk = refl }
opening_silent full (item.Farkas n) x e = record { toll = refl; walk = refl }
opening_silent full (item.Inverse n) x e = record { toll = refl; walk = refl }
opening_silent full (item.NoInverse n) x e = record { toll = refl; walk = refl }
opening_silent full other x e = cc

branch_silent : (parts : Family) (i : Item Rational) (x : Option Division) → branch_line parts i ≡ Ok x → IsSilent i
branch_silent parts item.Leaf x e = record { toll = refl; walk = refl }
branch_silent parts (item.Split k part) x e = record { toll = refl; walk = refl }
branch_silent parts other x e = cc

multiplier_silent : (p : NamedProgram) (above : List (Multiplier Rational)) (i : Item Rational) (x : Multiplier Rational) → multiplier_line p above i ≡ Ok x → IsSilent i
multiplier_silent p above (item.Mult y) x e = record { toll = refl; walk = refl }
multiplier_silent p above other x e = cc

proof_reads : (p : NamedProgram) (proof : List (Multiplier Rational) → Result BoundValue Rule) (n : ℕ) → Silent (proof_lines p proof n)
proof_reads p proof n =
    bind_silent (more (λ above. line (multiplier_line p above)) n []) _
    (more_silent (λ above. line (multiplier_line p above)) (λ above. line_silent (multiplier_line p above) (multiplier_silent p above)) n []) (λ ys.
    bind_silent (last_line (proof ys)) _ (last_line_silent (proof ys)) (λ value. done_silent (ys, value)))

evidence_reads : (g : Given) (parts : Family) (opening : Opening) → Silent (evidence_lines g parts opening)
evidence_reads g parts NotOpened = done_silent _
evidence_reads g parts (Marked mark) = done_silent _
evidence_reads g parts (Answered answer n) =
    bind_silent (proof_lines (program_at g parts) (proof_by g.limit (program_at g parts) answer) n) _
    (proof_reads (program_at g parts) (proof_by g.limit (program_at g parts) answer) n) (λ read. done_silent _)

branch_reads : (parts : Family) (opening : Opening) → Silent (branch_lines parts opening)
branch_reads parts NotOpened = done_silent None
branch_reads parts (Marked mark) = line_silent (branch_line parts) (branch_silent parts)
branch_reads parts (Answered answer n) = line_silent (branch_line parts) (branch_silent parts)

below_reads : (child : Place → Reads (Tree Node)) → ((place : Place) → Silent (child place)) → (parts : Family) (n : Node) (branch : Option Division) → Silent (below_node child parts n branch)
below_reads child h parts n None = done_silent _
below_reads child h parts n (Some d) =
    bind_silent (child (child_place n.bound (first_of parts d))) _ (h _) (λ first.
    bind_silent (child (child_place n.bound (second_of parts d))) _ (h _) (λ second. done_silent _))

node_reads : (g : Given) (depth : ℕ) (place : Place) → Silent (node_lines g depth place)
node_reads g zero place = λ lines behind x e. cc
node_reads g (suc depth) place =
    bind_silent (line (opening_line (is_full place.parts))) _ (line_silent (opening_line (is_full place.parts)) (opening_silent (is_full place.parts))) (λ opening.
    bind_silent (evidence_lines g place.parts opening) _ (evidence_reads g place.parts opening) (λ proof.
    bind_silent (branch_lines place.parts opening) _ (branch_reads place.parts opening) (λ branch.
    below_reads (node_lines g depth) (node_reads g depth) place.parts (record { evidence = proof.0; bound = bound_after (before g place) proof.1 }) branch)))

tree_reads : (g : Given) (place : Place) → Silent (tree_at g place)
tree_reads g place lines behind x e = node_reads g (length lines.items) place lines behind x e

-- ---- the end

tree_line_silent : (i : Item Rational) (x : Unit {0}) → tree_line i ≡ Ok x → IsSilent i
tree_line_silent item.Tree x e = record { toll = refl; walk = refl }
tree_line_silent other x e = cc

end_silent : (head : Head) (opened : ℕ) (bound : BoundValue) (i : Item Rational) (x : Unit {0}) → end_line head opened bound i ≡ Ok x → IsSilent i
end_silent head opened bound item.End x e = record { toll = refl; walk = refl }
end_silent head opened bound other x e = cc

module _ (limit : ℕ) (c : Case) where
  end_reads : (head : Head) (s : Sum) → Silent (from_end limit c head s)
  end_reads head s = bind_silent (line (end_line head s.opened s.bound)) _ (line_silent (end_line head s.opened s.bound) (end_silent head s.opened s.bound)) (λ _. done_silent _)

  from_tree_reads : (k : Known) → Silent (from_tree limit c k)
  from_tree_reads k =
      bind_silent (line tree_line) _ (line_silent tree_line tree_line_silent) (λ _.
      bind_silent (tree_at (record { limit = limit; model = path_model c.net k.covers; cuts = k.cuts }) (root_place (path_model c.net k.covers))) _
      (tree_reads (record { limit = limit; model = path_model c.net k.covers; cuts = k.cuts }) (root_place (path_model c.net k.covers))) (λ tree.
      end_reads k.head (with_tree nothing_yet tree)))

  from_cuts_reads : (head : Head) (covers : List CoverValue) (n : ℕ) → Silent (from_cuts limit c head covers n [])
  from_cuts_reads head covers n =
      bind_silent (all_cuts limit (path_model c.net covers) n) _ (more_silent (one_cut limit (path_model c.net covers)) (cut_reads limit (path_model c.net covers)) n []) (λ cuts.
      from_tree_reads (record { head = head; covers = covers; cuts = cuts }))

  -- nor does any behind the last path line
  pub covers_reads : (head : Head) (tolls : List Rational) (paths : List (PathLine Rational)) (n : ℕ) → Silent (from_covers limit c head tolls paths n [])
  covers_reads head tolls paths n =
      bind_silent (more (cover_lines c.net c.measures) n []) _ (more_silent (cover_lines c.net c.measures) (cover_reads c.net c.measures) n []) (λ covers.
      bind_silent (line (cuts_line limit c.net (path_model c.net covers) tolls paths head.lower)) _
      (line_silent (cuts_line limit c.net (path_model c.net covers) tolls paths head.lower) (cuts_silent limit c.net (path_model c.net covers) tolls paths head.lower)) (λ count.
      from_cuts_reads head covers count))
