-- What is known while labels are taken: each of them is useful, and each needed arc was tried or waits.
use Rattle.std.proofs.Common.{◌≡◌, ℕ, ◌<◌, ◌≤◌, true, false, List, [], ◌∷◌, length, Option, Some, None, MatchOption, sym, ◌∙◌, arith, nat_lt}
use Rattle.std.proofs.lemmas.Bool.{false≢true}
use Rattle.std.proofs.lemmas.Bool.Decides.{nat_tests}
use Rattle.std.proofs.lemmas.Nat.Bits.{bit_at-lt}
use Rattle.std.specs.Int.{bit_at}
use Rattle.npp_net.specs.declared.types.ArcId.{ArcId}
use Rattle.npp_net.specs.declared.types.NodeId.{NodeId}
use Rattle.npp_net.specs.declared.types.NetArc.{NetArc}
use Rattle.npp_net.specs.declared.types.Commodity.{Commodity}
use Rattle.npp_net.specs.Network.{Network, IsNetwork, no_arc}
use Rattle.npp_net.specs.Walk.{IsWalk, walk_tolls}
use Rattle.npp_net.specs.Distance.{IsLeast, IsDistance}
use Rattle.npp_cover.specs.declared.label.Label.{Label}
use Rattle.npp_cover.specs.Labels.{label_at, start_label}
use Rattle.npp_cover.specs.Useful.{IsPairAt}
use Rattle.npp_cover.specs.Fault.{is_dominated}
use Rattle.npp_cover.specs.Closed.{GoesBy, IsDominated, AreFaultless}
use Rattle.npp_cover.specs.Paths.{walk_of}
use Rattle.npp_cover.proofs.ClosureLemmas.{test_of_dominated}
use Rattle.npp_cover.proofs.TreeLemmas.{label_walk}
use Rattle.npp_cover.proofs.ReplaceLemmas.{all_usable}
use Rattle.npp_labels.specs.declared.pending.Pending.{Pending}
use Rattle.npp_labels.specs.Useful.{AreUseful}
use Rattle.npp_cover.specs.Needed.{NeededValue}
use Rattle.npp_labels.specs.Search.{AreWaiting}

pub record IsSearching (net : Network) (k : Commodity) (free : ℕ) (onward : ℕ → Option ℕ) (needed : NeededValue) (labels : List Label) (pending : List Pending) : Type 0 where
  pub good : AreFaultless net k free labels
  pub some : 0 < length labels
  pub few : length labels ≤ 65536
  pub useful : AreUseful net.arcs k free labels
  pub waiting : AreWaiting net.arcs onward free needed labels (length labels) pending

pub not_dominated : (labels : List Label) (v s c : ℕ) → is_dominated labels v s c ≡ false → IsDominated labels v s c → ⊥
not_dominated labels v s c none found = false≢true (sym none ∙ test_of_dominated labels v s c found)

used_once : (bit uses : ℕ) → bit < 2 → uses ≡ bit → ((bit ≡ 1) → 1 ≤ uses) × ((1 ≤ uses) → bit ≡ 1)
used_once bit uses lt e = ((λ one. omega arith), (λ le. omega arith))

-- a label is the pair of its walk
pub pair_of : (net : Network) (k : Commodity) (free : ℕ) (labels : List Label) → AreFaultless net k free labels → (i : ℕ) → i < length labels
    → IsPairAt net.arcs k free (label_at labels i).node.0 (label_at labels i).tolls (label_at labels i).cost
pair_of net k free labels good i lt =
    let w = label_walk net.arcs k.origin labels good.each i lt in (
      walk_of labels i,
      record {
        leads = w.leads;
        uses = λ a. used_once (bit_at (label_at labels i).tolls a) (walk_tolls net.arcs (walk_of labels i) a) (bit_at-lt (label_at labels i).tolls a) (w.tolls a);
        costs = w.costs;
        wins = good.wins i lt;
      },
    )

start_by : (arcs : List NetArc) (origin : NodeId) (l from : Label) (o : Option ArcId) → MatchOption o (l ≡ start_label origin) (GoesBy arcs 0 l from) → l ≡ start_label origin
start_by arcs origin l from None start = start
start_by arcs origin l from (Some a) goes = absurd (omega (arith, goes.lower))

pub first_start : (net : Network) (k : Commodity) (free : ℕ) (labels : List Label) → AreFaultless net k free labels → 0 < length labels → label_at labels 0 ≡ start_label k.origin
first_start net k free labels good some =
    start_by net.arcs k.origin (label_at labels 0) (label_at labels (label_at labels 0).parent) (label_at labels 0).last (good.each 0 some)

-- a node from which a walk leads to a node is a node
pub walk_node : (net : Network) (u v : ℕ) (walk : List ArcId) → IsNetwork net → v < net.nodes → IsWalk net.arcs u v walk → u < net.nodes
walk_node net u v [] limits lt path = omega (arith, path)
walk_node net u v (a ∷ rest) limits lt path = omega (arith, (limits.each_arc a.0 no_arc path.0).tail, path.1)

-- where some walk leads on there is a least cost onward
pub least_there : (arcs : List NetArc) (v d : ℕ) (o : Option ℕ) (walk : List ArcId) → IsDistance arcs true v d o → IsWalk arcs v d walk → (least : ℕ) × IsLeast arcs true v d least
least_there arcs v d None walk distance path = absurd (distance walk (record { path = path; usable = all_usable arcs walk }))
least_there arcs v d (Some least) walk distance path = (least, distance)

pub test_of_lt : (m n : ℕ) → m < n → nat_lt m n ≡ true
test_of_lt m n lt = grind (arith, nat_tests)
