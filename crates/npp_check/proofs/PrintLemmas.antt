-- What lines of a kind say, each and together, and what they print.
use Rattle.std.specs.Prelude.{◌≡◌, ℕ, zero, suc, ◌+◌, ◌<◌, not, ◌==◌, List, [], ◌∷◌, ◌++◌, length, map, slice_index_or, Option, Some, None, Result, Ok, refl}
use Rattle.std.specs.List.{filter_map}
use Rattle.std.proofs.Common.{arith, ap, sym, ◌∙◌, subst, inl, inr, eq-or-lt_of_le, le_of_suc-le-suc, append_assoc}
use Rattle.std.proofs.lemmas.List.{length-append, map-append}
use Rattle.std.proofs.Math.ListN.{get_or-append}
use Rattle.std.proofs.Math.Seq.{get_or-append_seam}
use Rattle.npp_frac.specs.Rational.{Rational}
use Rattle.npp_net.specs.declared.types.ArcId.{ArcId}
use Rattle.npp_net.specs.Network.{Network}
use Rattle.npp_tree.specs.declared.outcome.PathLine.{PathLine}
use Rattle.npp_tree.specs.declared.item.Item.{Item}
use Rattle.npp_tree.specs.declared.item.Item.TheVariants as item
use Rattle.npp_check.specs.declared.refusal.Rule.{Rule}
use Rattle.npp_check.specs.declared.refusal.Rule.TheVariants as rule
use Rattle.npp_check.specs.TollLines.{toll_line}
use Rattle.npp_check.specs.PathLines.{path_line}
use Rattle.npp_check.specs.Reads.{Lines, line, more}
use Rattle.npp_check.specs.Yes.{toll_said, walk_said, tolls_said, walks_said}
use Rattle.npp_check.proofs.RuleLemmas.{same_ok, unbroken}
use Rattle.npp_check.proofs.TreeLemmas.{bind_parts}
use Rattle.npp_check.proofs.NodeLemmas.{same_value, at_line_says}
use Rattle.npp_check.proofs.SaidLemmas.{same_left, left_at_line}
use Rattle.npp_check.proofs.PriceLemmas.{rules_keep}

-- ---- what lines of a kind say

-- a line that was read is the first of those that stood there
pub line_parts : {X : Type 0} (judge : Item Rational → Result X Rule) (lines behind : Lines) (x : X) → line judge lines ≡ Ok (x, behind)
    → (i : Item Rational) × (judge i ≡ Ok x) × (lines.items ≡ i ∷ behind.items)
line_parts {X} judge lines behind x e = by_items lines.number lines.items behind e
  where
    by_items : (number : ℕ) (items : List (Item Rational)) (behind : Lines) → line judge (record { number = number; items = items }) ≡ Ok (x, behind)
        → (i : Item Rational) × (judge i ≡ Ok x) × (items ≡ i ∷ behind.items)
    by_items number [] behind d = cc
    by_items number (i ∷ items) behind d =
        let says = at_line_says number (judge i) (record { number = number + 1; items = items }) behind x d in
        let left : record { number = number + 1; items = items } ≡ behind = left_at_line number (judge i) (record { number = number + 1; items = items }) behind x d in
        (i, says, ap (λ (l : Lines). i ∷ l.items) left)

module _ {X : Type 0} (judge : List X → Item Rational → Result X Rule) (Q : ℕ → X → Type 0) (says : (above : List X) (i : Item Rational) (x : X) → judge above i ≡ Ok x → Q (length above) x) where
  abbrev pub HoldsOfEach : List X → Type 0
  HoldsOfEach xs = (k : ℕ) (d : X) → k < length xs → Q k (slice_index_or xs k d)

  each_more : (above : List X) (x : X) → HoldsOfEach above → Q (length above) x → HoldsOfEach (above ++ x ∷ [])
  each_more above x h is k d lt = elim (eq-or-lt_of_le (le_of_suc-le-suc (let long = length-append above (x ∷ []) in omega (arith, lt, long)))) [
    | inl same ↦ subst (λ (i : ℕ). Q i (slice_index_or (above ++ x ∷ []) i d)) (sym same) (subst (Q (length above)) (sym (get_or-append_seam above x [] d)) is)
    | inr less ↦ subst (Q k) (sym (get_or-append above (x ∷ []) d k less)) (h k d less)
  ]

  -- n lines of a kind: how many there are, and what each says
  pub more_says : (n : ℕ) (above : List X) (lines behind : Lines) (xs : List X) → HoldsOfEach above → more (λ a. line (judge a)) n above lines ≡ Ok (xs, behind)
      → (length xs ≡ length above + n) × HoldsOfEach xs
  more_says zero above lines behind xs h e =
      let same_list : above ≡ xs = same_value above xs lines behind e in
      (omega (arith, ap length same_list), subst HoldsOfEach same_list h)
  more_says (suc n) above lines behind xs h e =
      let one = bind_parts (line (judge above) lines) _ xs behind e in
      let parts = line_parts (judge above) lines one.1 one.0 one.2 in
      let rest = more_says n (above ++ one.0 ∷ []) one.1 behind xs (each_more above one.0 h (says above parts.0 one.0 parts.1)) one.3 in
      (let long = length-append above (one.0 ∷ []) in omega (arith, rest.0, long), rest.1)

-- ---- what they print

toll_printed : (net : Network) (a : ℕ) (i : Item Rational) (v : Rational) → toll_line net a i ≡ Ok v → (toll_said i ≡ Some v) × (walk_said i ≡ None)
toll_printed net a (item.Toll b w) v e =
    let named = unbroken (not (b == a)) rule.Order _ v e in
    let allowed = unbroken _ rule.Tolls (Ok w) v named.1 in
    (ap Some (same_ok w v allowed.1), refl)
toll_printed net a other v e = cc

path_printed : (limit : ℕ) (net : Network) (tolls : List Rational) (k : ℕ) (i : Item Rational) (p : PathLine Rational) → path_line limit net tolls k i ≡ Ok p
    → (toll_said i ≡ None) × (walk_said i ≡ Some p.arcs)
path_printed limit net tolls k (item.Path l cost paid arcs) p e =
    let named = unbroken (not (l == k)) rule.Order _ p e in
    (refl, ap (λ (x : PathLine Rational). Some x.arcs) (rules_keep limit net tolls k (record { cost = cost; paid = paid; arcs = arcs }) p named.1))
path_printed limit net tolls k other p e = cc

said_first : {Y : Type 0} (f : Item Rational → Option Y) (i : Item Rational) (o : Option Y) (items : List (Item Rational)) (y : Y) → f i ≡ o → o ≡ Some y → filter_map f (i ∷ items) ≡ y ∷ filter_map f items
said_first f i None items y e s = cc
said_first f i (Some x) items y e s = let same_y : x ≡ y = cc in rw e (ap (λ z. z ∷ filter_map f items) same_y)

said_none : {Y : Type 0} (f : Item Rational → Option Y) (i : Item Rational) (o : Option Y) (items : List (Item Rational)) → f i ≡ o → o ≡ None → filter_map f (i ∷ items) ≡ filter_map f items
said_none f i None items e s = rw e refl
said_none f i (Some x) items e s = cc

pub tolls_print : (net : Network) (n : ℕ) (above : List Rational) (lines behind : Lines) (tolls : List Rational) → more (λ a. line (toll_line net (length a))) n above lines ≡ Ok (tolls, behind)
    → (above ++ tolls_said lines.items ≡ tolls ++ tolls_said behind.items) × (walks_said lines.items ≡ walks_said behind.items)
tolls_print net zero above lines behind tolls e =
    let same_list : above ≡ tolls = same_value above tolls lines behind e in
    let left : lines ≡ behind = same_left above tolls lines behind e in
    ((λ i. same_list i ++ tolls_said (left i).items), ap (λ (l : Lines). walks_said l.items) left)
tolls_print net (suc n) above lines behind tolls e =
    let one = bind_parts (line (toll_line net (length above)) lines) _ tolls behind e in
    let parts = line_parts (toll_line net (length above)) lines one.1 one.0 one.2 in
    let said = toll_printed net (length above) parts.0 one.0 parts.1 in
    let rest = tolls_print net n (above ++ one.0 ∷ []) one.1 behind tolls one.3 in
    let first : tolls_said lines.items ≡ one.0 ∷ tolls_said one.1.items = ap tolls_said parts.2 ∙ said_first toll_said parts.0 (toll_said parts.0) one.1.items one.0 refl said.0 in
    let none : walks_said lines.items ≡ walks_said one.1.items = ap walks_said parts.2 ∙ said_none walk_said parts.0 (walk_said parts.0) one.1.items refl said.1 in
    (ap (λ z. above ++ z) first ∙ sym (append_assoc above (one.0 ∷ []) (tolls_said one.1.items)) ∙ rest.0, none ∙ rest.1)

abbrev pub arcs_of : List (PathLine Rational) → List (List ArcId)
arcs_of ps = map (λ p. p.arcs) ps

pub paths_print : (limit : ℕ) (net : Network) (tolls : List Rational) (n : ℕ) (above : List (PathLine Rational)) (lines behind : Lines) (paths : List (PathLine Rational))
    → more (λ a. line (path_line limit net tolls (length a))) n above lines ≡ Ok (paths, behind)
    → (tolls_said lines.items ≡ tolls_said behind.items) × (arcs_of above ++ walks_said lines.items ≡ arcs_of paths ++ walks_said behind.items)
paths_print limit net tolls zero above lines behind paths e =
    let same_list : above ≡ paths = same_value above paths lines behind e in
    let left : lines ≡ behind = same_left above paths lines behind e in
    (ap (λ (l : Lines). tolls_said l.items) left, λ i. arcs_of (same_list i) ++ walks_said (left i).items)
paths_print limit net tolls (suc n) above lines behind paths e =
    let one = bind_parts (line (path_line limit net tolls (length above)) lines) _ paths behind e in
    let parts = line_parts (path_line limit net tolls (length above)) lines one.1 one.0 one.2 in
    let said = path_printed limit net tolls (length above) parts.0 one.0 parts.1 in
    let rest = paths_print limit net tolls n (above ++ one.0 ∷ []) one.1 behind paths one.3 in
    let none : tolls_said lines.items ≡ tolls_said one.1.items = ap tolls_said parts.2 ∙ said_none toll_said parts.0 (toll_said parts.0) one.1.items refl said.0 in
    let first : walks_said lines.items ≡ one.0.arcs ∷ walks_said one.1.items = ap walks_said parts.2 ∙ said_first walk_said parts.0 (walk_said parts.0) one.1.items one.0.arcs refl said.1 in
    let joined : arcs_of (above ++ one.0 ∷ []) ≡ arcs_of above ++ one.0.arcs ∷ [] = map-append (λ (p : PathLine Rational). p.arcs) above (one.0 ∷ []) in (
      none ∙ rest.0,
      ap (λ z. arcs_of above ++ z) first ∙ sym (append_assoc (arcs_of above) (one.0.arcs ∷ []) (walks_said one.1.items))
          ∙ ap (λ z. z ++ walks_said one.1.items) (sym joined) ∙ rest.1,
    )
