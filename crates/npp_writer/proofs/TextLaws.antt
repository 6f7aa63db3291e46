-- The text of an outcome, part by part.
use Rattle.std.proofs.Common.{◌≡◌, ℕ, ◌+◌, ◌<◌, Bool, true, false, cond, List, [], ◌∷◌, ◌++◌, length, map, take, drop, get_or, codes, refl, sym, ap, ◌∙◌, arith, append_assoc, length-append}
use Rattle.std.specs.List.{flat_map, range_with_len}
use Rattle.std.proofs.lemmas.Grind.{common_steps, flat_map-append}
use Rattle.std.proofs.lemmas.List.{append-nil, length-map, take-append-drop, take_more}
use Rattle.std.proofs.lemmas.List.Folds.{flat_map-map}
use Rattle.npp_frac.specs.Rational.{Rational}
use Rattle.npp_net.specs.Network.{Network}
use Rattle.npp_cover.specs.Replaces.{CoverValue}
use Rattle.npp_rows.specs.declared.cut.Derivation.TheVariants as derivation
use Rattle.npp_rows.specs.Derivations.{Derived}
use Rattle.npp_tree.specs.declared.item.Item.{Item}
use Rattle.npp_tree.specs.declared.item.Item.TheVariants as item
use Rattle.npp_tree.specs.declared.node.Evidence.{Evidence}
use Rattle.npp_tree.specs.declared.node.Evidence.TheVariants as evidence
use Rattle.npp_tree.specs.Evidence.{is_opened}
use Rattle.npp_tree.specs.Tree.{Entry}
use Rattle.npp_tree.specs.Outcome.{OutcomeValue}
use Rattle.npp_tree.specs.Lines.{numbered, instance_lines, report_lines, certificate_lines, cover_lines, cover_list, label_line, last_arcs, cut_lines, evidence_lines, branch_lines, entry_lines}
use Rattle.npp_report.specs.Lines.{line, item_line, text_of, number_fields, mark_fields, numbered_lines, toll_lines, path_lines}
use Rattle.npp_report.specs.Report.{ReportValue, names_instance, report_text}
use Rattle.npp_report.proofs.NumberedLines.{numbered_lines_more}
use Rattle.npp_report.proofs.TextLaws.{value_items, report_of_parts}
use Rattle.npp_writer.specs.OutcomeText.{outcome_text}

-- ---- each part has bytes

pub some_line : (text rest : List ℕ) → 0 < length (line text ++ rest)
some_line text rest = omega (arith, length-append (line text) rest, length-append text (10 ∷ []))

pub one_line : (text : List ℕ) → 0 < length (line text)
one_line text = omega (arith, length-append text (10 ∷ []))

pub some_cover : (k : ℕ) (c : CoverValue) → 0 < length (text_of (cover_lines k c))
some_cover k c = some_line (codes "cover" ++ number_fields (k ∷ length c.labels ∷ [])) (text_of (map label_line c.labels ++ item.Free (last_arcs c.paths) ∷ []))

pub some_cut : (d : Derived) → 0 < length (text_of (cut_lines d))
some_cut (derivation.Conflict k p l q ys) = some_line (codes "conflict" ++ number_fields (k ∷ p ∷ l ∷ q ∷ length ys ∷ [])) (text_of (map item.Mult ys))
some_cut (derivation.Pair k p l cuts) = some_line (codes "pair" ++ number_fields (k ∷ p ∷ l ∷ cuts)) []
some_cut (derivation.Round ys) = some_line (codes "round" ++ number_fields (length ys ∷ [])) (text_of (map item.Mult ys))

some_evidence : (e : Evidence Rational) (rest : List (Item Rational)) → 0 < length (text_of (evidence_lines e ++ rest))
some_evidence evidence.Unopened rest = some_line (codes "open") (text_of rest)
some_evidence (evidence.Basic m) rest = some_line (codes "basic " ++ mark_fields m) (text_of rest)
some_evidence (evidence.Dual ys) rest = some_line (codes "dual" ++ number_fields (length ys ∷ [])) (text_of (map item.Mult ys ++ rest))
some_evidence (evidence.Farkas ys) rest = some_line (codes "farkas" ++ number_fields (length ys ∷ [])) (text_of (map item.Mult ys ++ rest))
some_evidence (evidence.Inverse ys) rest = some_line (codes "inverse" ++ number_fields (length ys ∷ [])) (text_of (map item.Mult ys ++ rest))
some_evidence (evidence.NoInverse ys) rest = some_line (codes "none" ++ number_fields (length ys ∷ [])) (text_of (map item.Mult ys ++ rest))

pub some_node : (e : Entry) → 0 < length (text_of (entry_lines e))
some_node e = some_evidence e.node.evidence (branch_lines (is_opened e.node.evidence) e.division)

some_header : (two : Bool) (rest : List ℕ) → 0 < length (item_line (cond two item.HeaderTwo item.Header) ++ rest)
some_header true rest = some_line (codes "npp-certificate 2") rest
some_header false rest = some_line (codes "npp-certificate 1") rest

-- the lines of a report behind the first
abbrev pub behind_header : Bool → ℕ → Network → OutcomeValue → List (Item Rational)
behind_header two width net o =
    item.StatusIs o.status ∷ item.Width width ∷ item.Lower o.lower ∷ item.Upper o.upper ∷ item.Opened o.opened
    ∷ (cond two (instance_lines net) [] ++ numbered (λ a v. item.Toll a v) 0 o.tolls ++ numbered (λ k p. item.Path k p.cost p.paid p.arcs) 0 o.paths)

some_report : (two : Bool) (width : ℕ) (net : Network) (o : OutcomeValue) → 0 < length (text_of (report_lines two width net o))
some_report two width net o = some_header two (text_of (behind_header two width net o))

-- lines of which the last is that of the end
some_ended : (lines : List (Item Rational)) → 0 < length (text_of (lines ++ item.End ∷ []))
some_ended lines =
    omega (arith, ap length (flat_map-append item_line lines (item.End ∷ [])), length-append (text_of lines) (text_of (item.End ∷ [])), some_line (codes "end") [])

some_certificate : (two : Bool) (width : ℕ) (net : Network) (covers : List CoverValue) (o : OutcomeValue) → 0 < length (text_of (certificate_lines two width net covers o))
some_certificate two width net covers o =
    some_ended (report_lines two width net o ++ cover_list 0 covers ++ item.Cuts (length o.cuts) ∷ flat_map cut_lines o.cuts ++ item.Tree ∷ flat_map entry_lines o.entries)

-- ---- parts of lists

-- the lines of a list of covers up to one, and those behind it
pub numbered_parts : {X : Type 0} (line_of : ℕ → X → List ℕ) (n i : ℕ) (xs : List X)
    → numbered_lines line_of n xs ≡ numbered_lines line_of n (take i xs) ++ numbered_lines line_of (n + length (take i xs)) (drop i xs)
numbered_parts line_of n i xs = ap (numbered_lines line_of n) (sym (take-append-drop i xs)) ∙ numbered_append line_of n (take i xs) (drop i xs)
  where
    numbered_append : {X : Type 0} (line_of : ℕ → X → List ℕ) (n : ℕ) (xs ys : List X)
        → numbered_lines line_of n (xs ++ ys) ≡ numbered_lines line_of n xs ++ numbered_lines line_of (n + length xs) ys
    numbered_append line_of n [] ys = grind (arith, common_steps)
    numbered_append line_of n (x ∷ xs) ys = grind (arith, common_steps, numbered_append line_of (n + 1) xs ys)

-- up to one part and that part, and those behind it
pub numbered_split : {X : Type 0} (line_of : ℕ → X → List ℕ) (i : ℕ) (xs : List X) (d : X) → i < length xs
    → numbered_lines line_of 0 xs ≡ (numbered_lines line_of 0 (take i xs) ++ line_of i (get_or xs i d)) ++ numbered_lines line_of (0 + length (take (i + 1) xs)) (drop (i + 1) xs)
numbered_split line_of i xs d lt = numbered_parts line_of 0 (i + 1) xs ∙ ap (λ t. t ++ numbered_lines line_of (0 + length (take (i + 1) xs)) (drop (i + 1) xs)) (numbered_lines_more line_of xs i d lt)

pub flat_more : {X : Type 0} (text : X → List ℕ) (i : ℕ) (xs : List X) (d : X) → i < length xs
    → flat_map text (take (i + 1) xs) ≡ flat_map text (take i xs) ++ text (get_or xs i d)
flat_more text i xs d lt =
    ap (flat_map text) (take_more xs i d lt) ∙ flat_map-append text (take i xs) (get_or xs i d ∷ []) ∙ ap (λ t. flat_map text (take i xs) ++ t) (append-nil (text (get_or xs i d)))

pub flat_split : {X : Type 0} (text : X → List ℕ) (i : ℕ) (xs : List X) (d : X) → i < length xs
    → flat_map text xs ≡ (flat_map text (take i xs) ++ text (get_or xs i d)) ++ flat_map text (drop (i + 1) xs)
flat_split text i xs d lt =
    ap (flat_map text) (sym (take-append-drop (i + 1) xs)) ∙ flat_map-append text (take (i + 1) xs) (drop (i + 1) xs)
    ∙ ap (λ t. t ++ flat_map text (drop (i + 1) xs)) (flat_more text i xs d lt)

-- ---- the whole

cover_text : (k : ℕ) (covers : List CoverValue) → text_of (cover_list k covers) ≡ numbered_lines (λ k c. text_of (cover_lines k c)) k covers
cover_text k [] = refl
cover_text k (c ∷ covers) =
    flat_map-append item_line (cover_lines k c) (cover_list (k + 1) covers) ∙ ap (λ t. text_of (cover_lines k c) ++ t) (cover_text (k + 1) covers)

parts_text : {X Y : Type 0} (lines_of : Y → List (Item Rational)) (value : X → Y) (xs : List X)
    → text_of (flat_map lines_of (map value xs)) ≡ flat_map (λ x. text_of (lines_of (value x))) xs
parts_text lines_of value [] = refl
parts_text lines_of value (x ∷ xs) =
    flat_map-append item_line (lines_of (value x)) (flat_map lines_of (map value xs)) ∙ ap (λ t. text_of (lines_of (value x)) ++ t) (parts_text lines_of value xs)

joined : (r c u f t e l : List ℕ) → (((r ++ c) ++ (u ++ f)) ++ (t ++ e)) ++ (l ++ []) ≡ r ++ (((((c ++ u) ++ f) ++ t) ++ e) ++ l)
joined r c u f t e l = simp (append_assoc, append-nil) refl

-- the text behind the report, of cuts and nodes that stand for these values
abbrev pub evidence_text : {C D : Type 0} → (C → Derived) → (D → Entry) → List CoverValue → ℕ → List C → List D → List ℕ
evidence_text cut_value node_value covers count cuts nodes =
    numbered_lines (λ k c. text_of (cover_lines k c)) 0 covers
    ++ item_line (item.Cuts count)
    ++ flat_map (λ d. text_of (cut_lines (cut_value d))) cuts
    ++ item_line item.Tree
    ++ flat_map (λ n. text_of (entry_lines (node_value n))) nodes
    ++ item_line item.End

certificate_text : {C D : Type 0} (cut_value : C → Derived) (node_value : D → Entry) (cuts : List C) (nodes : List D)
    (two : Bool) (width : ℕ) (net : Network) (covers : List CoverValue) (o : OutcomeValue) → o.cuts ≡ map cut_value cuts → o.entries ≡ map node_value nodes
    → text_of (certificate_lines two width net covers o) ≡ text_of (report_lines two width net o) ++ evidence_text cut_value node_value covers (length cuts) cuts nodes
certificate_text cut_value node_value cuts nodes two width net covers o cuts_are nodes_are =
    let report = report_lines two width net o in
    let listed = cover_list 0 covers in
    let cut_list = item.Cuts (length o.cuts) ∷ flat_map cut_lines o.cuts in
    let tree = item.Tree ∷ flat_map entry_lines o.entries in
    let count : length o.cuts ≡ length cuts = ap length cuts_are ∙ length-map cuts cut_value in
    let cuts_text : text_of (flat_map cut_lines o.cuts) ≡ flat_map (λ d. text_of (cut_lines (cut_value d))) cuts = rw cuts_are (parts_text cut_lines cut_value cuts) in
    let nodes_text : text_of (flat_map entry_lines o.entries) ≡ flat_map (λ n. text_of (entry_lines (node_value n))) nodes = rw nodes_are (parts_text entry_lines node_value nodes) in
    flat_map-append item_line (report ++ listed ++ cut_list ++ tree) (item.End ∷ [])
    ∙ ap (λ t. t ++ text_of (item.End ∷ [])) (flat_map-append item_line (report ++ listed ++ cut_list) tree)
    ∙ ap (λ t. t ++ text_of tree ++ text_of (item.End ∷ [])) (flat_map-append item_line (report ++ listed) cut_list)
    ∙ ap (λ t. t ++ text_of cut_list ++ text_of tree ++ text_of (item.End ∷ [])) (flat_map-append item_line report listed)
    ∙ ap (λ t. text_of report ++ t ++ text_of cut_list ++ text_of tree ++ text_of (item.End ∷ [])) (cover_text 0 covers)
    ∙ ap (λ t. text_of report ++ numbered_lines (λ k c. text_of (cover_lines k c)) 0 covers ++ (item_line (item.Cuts (length o.cuts)) ++ t) ++ text_of tree ++ text_of (item.End ∷ [])) cuts_text
    ∙ ap (λ t. text_of report ++ numbered_lines (λ k c. text_of (cover_lines k c)) 0 covers ++ (item_line (item.Cuts (length o.cuts)) ++ flat_map (λ d. text_of (cut_lines (cut_value d))) cuts)
    ++ (item_line item.Tree ++ t) ++ text_of (item.End ∷ [])) nodes_text
    ∙ ap (λ n. text_of report ++ numbered_lines (λ k c. text_of (cover_lines k c)) 0 covers ++ (item_line (item.Cuts n) ++ flat_map (λ d. text_of (cut_lines (cut_value d))) cuts)
    ++ (item_line item.Tree ++ flat_map (λ n. text_of (entry_lines (node_value n))) nodes) ++ text_of (item.End ∷ [])) count
    ∙ joined (text_of report) (numbered_lines (λ k c. text_of (cover_lines k c)) 0 covers) (item_line (item.Cuts (length cuts)))
    (flat_map (λ d. text_of (cut_lines (cut_value d))) cuts) (item_line item.Tree) (flat_map (λ n. text_of (entry_lines (node_value n))) nodes) (item_line item.End)

-- a report alone
pub brief_text : (brief : Bool) (width : ℕ) (net : Network) (covers : List CoverValue) (o : OutcomeValue) → brief ≡ true
    → outcome_text brief width net covers o ≡ text_of (report_lines (names_instance net) width net o)
unfolding outcome_text
brief_text brief width net covers o is = rw is refl

-- a report, and what is behind it
pub whole_text : {C D : Type 0} (cut_value : C → Derived) (node_value : D → Entry) (cuts : List C) (nodes : List D)
    (brief : Bool) (width : ℕ) (net : Network) (covers : List CoverValue) (o : OutcomeValue) → brief ≡ false → o.cuts ≡ map cut_value cuts → o.entries ≡ map node_value nodes
    → outcome_text brief width net covers o ≡ text_of (report_lines (names_instance net) width net o) ++ evidence_text cut_value node_value covers (length cuts) cuts nodes
unfolding outcome_text
whole_text cut_value node_value cuts nodes brief width net covers o is cuts_are nodes_are =
    rw is (certificate_text cut_value node_value cuts nodes (names_instance net) width net covers o cuts_are nodes_are)

-- each text has bytes
pub some_text : (brief : Bool) (width : ℕ) (net : Network) (covers : List CoverValue) (o : OutcomeValue) → 0 < length (outcome_text brief width net covers o)
unfolding outcome_text
some_text true width net covers o = some_report (names_instance net) width net o
some_text false width net covers o = some_certificate (names_instance net) width net covers o

-- ---- six parts in a row, cut at each place

pub cut_at_1 : (a b c d e f : List ℕ) → ((((a ++ b) ++ c) ++ d) ++ e) ++ f ≡ a ++ (b ++ (c ++ (d ++ (e ++ f))))
cut_at_1 a b c d e f = simp append_assoc refl

pub cut_at_2 : (a b c d e f : List ℕ) → ((((a ++ b) ++ c) ++ d) ++ e) ++ f ≡ (a ++ b) ++ (c ++ (d ++ (e ++ f)))
cut_at_2 a b c d e f = simp append_assoc refl

pub cut_at_3 : (a b c d e f : List ℕ) → ((((a ++ b) ++ c) ++ d) ++ e) ++ f ≡ ((a ++ b) ++ c) ++ (d ++ (e ++ f))
cut_at_3 a b c d e f = simp append_assoc refl

pub cut_at_4 : (a b c d e f : List ℕ) → ((((a ++ b) ++ c) ++ d) ++ e) ++ f ≡ (((a ++ b) ++ c) ++ d) ++ (e ++ f)
cut_at_4 a b c d e f = append_assoc (((a ++ b) ++ c) ++ d) e f

-- ---- the report

abbrev pub report_of : OutcomeValue → ReportValue
report_of o = record { status = o.status; lower = o.lower; upper = o.upper; opened = o.opened; tolls = o.tolls; paths = o.paths }

pub report_of_outcome : (net : Network) (width : ℕ) (o : OutcomeValue) (header values instance paid whole : List ℕ)
    → header ≡ item_line (cond (names_instance net) item.HeaderTwo item.Header)
    → values ≡ header ++ text_of (value_items width (report_of o))
    → instance ≡ values ++ text_of (cond (names_instance net) (instance_lines net) [])
    → paid ≡ instance ++ toll_lines o.tolls
    → whole ≡ paid ++ path_lines o.paths
    → whole ≡ text_of (report_lines (names_instance net) width net o)
unfolding report_text
report_of_outcome net width o header values instance paid whole h v n t w = report_of_parts net width (report_of o) header values instance paid whole h v n t w
