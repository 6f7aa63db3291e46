-- The canonical text reads back as its document.
use Rattle.std.proofs.Common.{◌≡◌, ℕ, ◌<◌, ◌≤◌, Bool, true, false, ◌&&◌, ◌||◌, cond, List, [], ◌∷◌, ◌++◌, length, map, Option, Some, None, is_some, Ok, refl, sym, ◌∙◌, ap, subst, arith, All, nat_le, length-append, append-nil, append_assoc, if◌then◌else◌}
use Rattle.std.specs.List.{list_any, flat_map, AllByRecursion}
use Rattle.std.proofs.lemmas.Bool.{lt-leb, ne_eqb}
use Rattle.std.proofs.lemmas.Grind.{flat_map-append}
use Rattle.std.proofs.lemmas.List.Elements.{All-nil, All-cons, All-head, All-tail}
use Rattle.std.proofs.Math.Seq.{get_or-append_seam}
use Rattle.std.proofs.lemmas.List.Sums.{sum_by-append}
use Rattle.npp_net.specs.declared.types.NodeId.{NodeId}
use Rattle.npp_net.specs.declared.types.NetArc.{NetArc}
use Rattle.npp_net.specs.declared.types.Commodity.{Commodity}
use Rattle.npp_net.specs.Network.{Network, IsNetwork, IsArc, IsCommodity, toll_count}
use Rattle.npp_reader.specs.declared.document.Document.{Document}
use Rattle.npp_reader.specs.declared.format.Format.{Format}
use Rattle.npp_reader.specs.declared.format.Format.TheVariants.{One, Two}
use Rattle.npp_reader.specs.Format.{header_fields}
use Rattle.npp_reader.specs.Fields.{is_name}
use Rattle.npp_reader.specs.Names.{AreNames, is_declared}
use Rattle.npp_reader.specs.Grammar.{Declared, nothing, after_fields, after_header, after_word, after_node, after_arc, after_pair}
use Rattle.npp_reader.specs.Reading.{reading_of, at_end}
use Rattle.npp_reader.specs.Canonical.{canonical_text, canonical_lines, line_of, format_for, node_fields, arc_fields, pair_fields}
use Rattle.npp_reader.proofs.FieldLines.{AreFields, lines_written, Declares, declares_reads, declares-append}
use Rattle.npp_reader.proofs.NameLemmas.{none_before}
use Rattle.npp_reader.proofs.ReadLemmas.{reading_begins}
use Rattle.npp_reader.proofs.WrittenFields.{link_plain, link_asked, fields_all, node_are, arc_are, header_are, pair_are}

-- below a header of this format
abbrev below : Format → List (List ℕ) → List NetArc → List Commodity → Declared
below format names arcs commodities = record { format = Some format; names = names; arcs = arcs; commodities = commodities }

-- a format in which the ceiling of the arc can be written
abbrev IsWritten : Format → NetArc → Type 0
IsWritten One x = x.ceiling ≡ None
IsWritten Two x = Unit {0}

none_some : (o : Option ℕ) → is_some o ≡ false → o ≡ None
none_some None e = refl
none_some (Some u) e = absurd cc

split_or : (a b : Bool) → (a || b) ≡ false → (a ≡ false) × (b ≡ false)
split_or false b e = (refl, e)
split_or true b e = absurd cc

none_written : (arcs : List NetArc) → list_any (λ x. is_some x.ceiling) arcs ≡ false → All (IsWritten One) arcs
none_written [] e = All-nil (IsWritten One)
none_written (x ∷ arcs) e =
    let parts = split_or (is_some x.ceiling) (list_any (λ y. is_some y.ceiling) arcs) e in
    All-cons (IsWritten One) x arcs (none_some x.ceiling parts.0) (none_written arcs parts.1)

-- the format of the canonical text is such a one for each arc
all_written : (arcs : List NetArc) → All (IsWritten (format_for arcs)) arcs
all_written arcs = step (list_any (λ x. is_some x.ceiling) arcs) refl where
  step : (some : Bool) → list_any (λ x. is_some x.ceiling) arcs ≡ some → All (IsWritten (if some then Two else One)) arcs
  step true e = λ k d h. tt
  step false e = none_written arcs e

-- the line of a node
node_said : (above : Declared) (name : List ℕ) → is_some above.format ≡ true → is_name name ≡ true → is_declared above.names name ≡ false → length above.names < 1000
    → after_fields above (node_fields name) ≡ Ok (record above { names = above.names ++ name ∷ [] })
unfolding after_fields after_word after_node
node_said above name header good none few = rw (header, good, none, lt-leb 1000 (length above.names) few)

nodes_said : (format : Format) (front back : List (List ℕ)) → AreNames (front ++ back) → length (front ++ back) ≤ 1000
    → Declares (below format front [] []) (map node_fields back) (below format (front ++ back) [] [])
nodes_said format front [] are few = ap (λ (names : List (List ℕ)). below format names [] []) (sym (append-nil front))
nodes_said format front (name ∷ back) are few =
    let sizes = length-append front (name ∷ back) in
    let assoc : (front ++ name ∷ []) ++ back ≡ front ++ name ∷ back = append_assoc front (name ∷ []) back in
    let good : is_name name ≡ true = rw (← get_or-append_seam front name back []) (are.each (length front) [] (omega arith)) in (
      below format (front ++ name ∷ []) [] [],
      node_said (below format front [] []) name refl good (none_before front name back are.differ) (omega arith),
      subst (λ (names : List (List ℕ)). Declares (below format (front ++ name ∷ []) [] []) (map node_fields back) (below format names [] [])) assoc
          (nodes_said format (front ++ name ∷ []) back (subst AreNames (sym assoc) are) (subst (λ (names : List (List ℕ)). length names ≤ 1000) (sym assoc) few)),
    )

-- the line of an arc
arc_said : (format : Format) (names : List (List ℕ)) (arcs : List NetArc) (from to : NodeId) (n : ℕ) (toll : Bool) (ceiling : Option ℕ) → AreNames names
    → IsArc (length names) (record { tail = from; head = to; cost = n; toll = toll; ceiling = ceiling })
    → IsWritten format (record { tail = from; head = to; cost = n; toll = toll; ceiling = ceiling })
    → length arcs < 5000 → (toll && nat_le 128 (toll_count arcs)) ≡ false
    → after_fields (below format names arcs []) (arc_fields format names (record { tail = from; head = to; cost = n; toll = toll; ceiling = ceiling }))
    ≡ Ok (below format names (arcs ++ record { tail = from; head = to; cost = n; toll = toll; ceiling = ceiling } ∷ []) [])
unfolding after_fields after_word after_arc
arc_said One names arcs from to n true ceiling are is plain few tolls =
    rw (link_plain names from to n are is.tail is.head is.cost, lt-leb 5000 (length arcs) few, tolls, plain)
arc_said Two names arcs from to n true ceiling are is plain few tolls =
    rw (link_asked names from to n ceiling are is.tail is.head is.cost is.ceiling, lt-leb 5000 (length arcs) few, tolls)
arc_said format names arcs from to n false ceiling are is plain few tolls =
    rw (link_plain names from to n are is.tail is.head is.cost, lt-leb 5000 (length arcs) few, is.free refl)

-- one more toll arc is allowed
tolls_left : (front : List NetArc) (x : NetArc) (back : List NetArc) → toll_count (front ++ x ∷ back) ≤ 128 → (x.toll && nat_le 128 (toll_count front)) ≡ false
tolls_left front x back few =
    let all = sum_by-append (λ (y : NetArc). cond y.toll 1 0) front (x ∷ back) in
    let one = sum_by-append (λ (y : NetArc). cond y.toll 1 0) (x ∷ []) back in
    step x.toll refl where
      step : (b : Bool) → x.toll ≡ b → (b && nat_le 128 (toll_count front)) ≡ false
      step true h =
          let all = sum_by-append (λ (y : NetArc). cond y.toll 1 0) front (x ∷ back) in
          let one = sum_by-append (λ (y : NetArc). cond y.toll 1 0) (x ∷ []) back in
          let this : toll_count (x ∷ []) ≡ 1 = rw h in
          lt-leb 128 (toll_count front) (omega arith)
      step false h = refl

arcs_said : (format : Format) (names : List (List ℕ)) (front back : List NetArc) → AreNames names → All (IsArc (length names)) (front ++ back) → All (IsWritten format) back
    → length (front ++ back) ≤ 5000 → toll_count (front ++ back) ≤ 128
    → Declares (below format names front []) (map (arc_fields format names) back) (below format names (front ++ back) [])
arcs_said format names front [] are all plain few tolls = ap (λ (arcs : List NetArc). below format names arcs []) (sym (append-nil front))
arcs_said format names front (x ∷ back) are all plain few tolls =
    let sizes = length-append front (x ∷ back) in
    let assoc : (front ++ x ∷ []) ++ back ≡ front ++ x ∷ back = append_assoc front (x ∷ []) back in
    let is : IsArc (length names) x = subst (IsArc (length names)) (get_or-append_seam front x back x) (all (length front) x (omega arith)) in (
      below format names (front ++ x ∷ []) [],
      arc_said format names front x.tail x.head x.cost x.toll x.ceiling are is (All-head (IsWritten format) x back plain) (omega arith) (tolls_left front x back tolls),
      subst (λ (arcs : List NetArc). Declares (below format names (front ++ x ∷ []) []) (map (arc_fields format names) back) (below format names arcs [])) assoc
          (arcs_said format names (front ++ x ∷ []) back are (subst (All (IsArc (length names))) (sym assoc) all) (All-tail (IsWritten format) x back plain)
          (subst (λ (arcs : List NetArc). length arcs ≤ 5000) (sym assoc) few) (subst (λ (arcs : List NetArc). toll_count arcs ≤ 128) (sym assoc) tolls)),
    )

-- the line of a commodity
pair_said : (format : Format) (names : List (List ℕ)) (arcs : List NetArc) (commodities : List Commodity) (k : Commodity) → AreNames names → IsCommodity (length names) k → length commodities < 100
    → after_fields (below format names arcs commodities) (pair_fields names k) ≡ Ok (below format names arcs (commodities ++ k ∷ []))
unfolding after_fields after_word after_pair
pair_said format names arcs commodities k are is few =
    rw (
      link_plain names k.origin k.destination k.demand are is.origin is.destination is.demand,
      ne_eqb k.origin.0 k.destination.0 is.apart,
      ne_eqb k.demand 0 is.wanted,
      lt-leb 100 (length commodities) few,
    )

pairs_said : (format : Format) (names : List (List ℕ)) (arcs : List NetArc) (front back : List Commodity) → AreNames names → All (IsCommodity (length names)) (front ++ back)
    → length (front ++ back) ≤ 100
    → Declares (below format names arcs front) (map (pair_fields names) back) (below format names arcs (front ++ back))
pairs_said format names arcs front [] are all few = ap (below format names arcs) (sym (append-nil front))
pairs_said format names arcs front (k ∷ back) are all few =
    let sizes = length-append front (k ∷ back) in
    let assoc : (front ++ k ∷ []) ++ back ≡ front ++ k ∷ back = append_assoc front (k ∷ []) back in
    let is : IsCommodity (length names) k = subst (IsCommodity (length names)) (get_or-append_seam front k back k) (all (length front) k (omega arith)) in (
      below format names arcs (front ++ k ∷ []),
      pair_said format names arcs front k are is (omega arith),
      subst (λ (ks : List Commodity). Declares (below format names arcs (front ++ k ∷ [])) (map (pair_fields names) back) (below format names arcs ks)) assoc
          (pairs_said format names arcs (front ++ k ∷ []) back are (subst (All (IsCommodity (length names))) (sym assoc) all)
          (subst (λ (ks : List Commodity). length ks ≤ 100) (sym assoc) few)),
    )

header_said : (format : Format) → after_fields nothing (header_fields format) ≡ Ok (below format [] [] [])
unfolding after_fields after_header
header_said One = refl
header_said Two = refl

ends : (format : Format) (names : List (List ℕ)) (net : Network) → length names ≡ net.nodes → 0 < length net.commodities
    → at_end (below format names net.arcs net.commodities) ≡ Ok (record { names = names; instance = net })
unfolding at_end
ends format names net count some =
    rw (ne_eqb (length net.commodities) 0 (omega arith)) (ap (λ (n : ℕ). Ok (record { names = names; instance = record { nodes = n; arcs = net.arcs; commodities = net.commodities } })) count)

module _ (names : List (List ℕ)) (net : Network) (are : AreNames names) (limits : IsNetwork net) (count : length names ≡ net.nodes) where
  each_arc : All (IsArc (length names)) net.arcs
  each_arc = rw count limits.each_arc

  each_pair : All (IsCommodity (length names)) net.commodities
  each_pair = rw count limits.each_commodity

  lines_are : AllByRecursion AreFields (canonical_lines (record { names = names; instance = net }))
  unfolding canonical_lines
  lines_are = (
    header_are (format_for net.arcs),
    fields_all node_fields (λ name. is_name name ≡ true) node_are names are.each _
        (fields_all (arc_fields (format_for net.arcs) names) (IsArc (length names)) (arc_are (format_for net.arcs) names are) net.arcs each_arc _
        (subst (AllByRecursion AreFields) (append-nil (map (pair_fields names) net.commodities))
        (fields_all (pair_fields names) (IsCommodity (length names)) (pair_are names are) net.commodities each_pair [] tt))),
  )

  lines_said : Declares nothing (canonical_lines (record { names = names; instance = net })) (below (format_for net.arcs) names net.arcs net.commodities)
  unfolding canonical_lines
  lines_said = let format = format_for net.arcs in (
    below format [] [] [],
    header_said format,
    declares-append (below format [] [] []) (map node_fields names) _ (below format names [] []) _ (nodes_said format [] names are (omega (arith, limits.nodes)))
        (declares-append (below format names [] []) (map (arc_fields format names) net.arcs) _ (below format names net.arcs []) _
        (arcs_said format names [] net.arcs are each_arc (all_written net.arcs) limits.arcs limits.tolls)
        (pairs_said format names net.arcs [] net.commodities are each_pair limits.commodities)),
  )

  pub canonical_reads : reading_of (canonical_text (record { names = names; instance = net })) ≡ Ok (record { names = names; instance = net })
  unfolding canonical_text
  canonical_reads =
      let lines = canonical_lines (record { names = names; instance = net }) in
      let format = format_for net.arcs in
      sym (reading_begins (flat_map line_of lines))
      ∙ rw (lines_written lines lines_are)
      (declares_reads 1 nothing lines (below format names net.arcs net.commodities) (record { names = names; instance = net }) lines_are lines_said (ends format names net count limits.some))

four_parts : (a b c d : List ℕ) → ((a ++ b) ++ c) ++ d ≡ a ++ (b ++ (c ++ d))
four_parts a b c d = simp append_assoc

-- the parts of the text, one after another
pub text_of_parts : (document : Document) (first nodes arcs pairs : List ℕ)
    → first ≡ line_of (header_fields (format_for document.instance.arcs))
    → nodes ≡ first ++ flat_map line_of (map node_fields document.names)
    → arcs ≡ nodes ++ flat_map line_of (map (arc_fields (format_for document.instance.arcs) document.names) document.instance.arcs)
    → pairs ≡ arcs ++ flat_map line_of (map (pair_fields document.names) document.instance.commodities)
    → pairs ≡ canonical_text document
unfolding canonical_text canonical_lines
text_of_parts document first nodes arcs pairs f n a p =
    let ns = map node_fields document.names in
    let xs = map (arc_fields (format_for document.instance.arcs) document.names) document.instance.arcs in
    let ks = map (pair_fields document.names) document.instance.commodities in
    p ∙ rw (a, n, f) (four_parts (line_of (header_fields (format_for document.instance.arcs))) (flat_map line_of ns) (flat_map line_of xs) (flat_map line_of ks)
    ∙ sym (ap (λ (rest : List ℕ). line_of (header_fields (format_for document.instance.arcs)) ++ rest)
    (flat_map-append line_of ns (xs ++ ks) ∙ ap (λ (rest : List ℕ). flat_map line_of ns ++ rest) (flat_map-append line_of xs ks))))
