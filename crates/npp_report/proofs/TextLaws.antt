-- The text of a report from its parts.
use Rattle.std.proofs.Common.{◌≡◌, ℕ, ◌+◌, cond, List, [], ◌∷◌, ◌++◌, map, refl, sym, ap, ◌∙◌, arith, append_assoc}
use Rattle.std.specs.List.{flat_map, range_with_len}
use Rattle.std.proofs.lemmas.Grind.{common_steps, flat_map-append}
use Rattle.std.proofs.lemmas.List.FromFn.{map-range_with_len_more}
use Rattle.npp_frac.specs.Rational.{Rational}
use Rattle.npp_net.specs.Network.{Network}
use Rattle.npp_tree.specs.declared.item.Item.{Item}
use Rattle.npp_tree.specs.declared.item.Item.TheVariants as item
use Rattle.npp_tree.specs.Lines.{numbered, instance_lines}
use Rattle.npp_report.specs.Lines.{item_line, text_of, numbered_lines, toll_lines, path_lines}
use Rattle.npp_report.specs.Report.{ReportValue, names_instance, report_text}

-- the text of numbered items
numbered_text : {X : Type 0} (item_of : ℕ → X → Item Rational) (n : ℕ) (xs : List X)
    → text_of (numbered item_of n xs) ≡ numbered_lines (λ k x. item_line (item_of k x)) n xs
numbered_text item_of n [] = refl
numbered_text item_of n (x ∷ xs) = ap (λ rest. item_line (item_of n x) ++ rest) (numbered_text item_of (n + 1) xs)

-- one ceiling more
pub limits_more : (item_of : ℕ → Item Rational) (n : ℕ)
    → text_of (map item_of (range_with_len 0 (n + 1))) ≡ text_of (map item_of (range_with_len 0 n)) ++ item_line (item_of n)
limits_more item_of n =
    ap text_of (map-range_with_len_more item_of 0 n n (omega arith))
    ∙ flat_map-append item_line (map item_of (range_with_len 0 n)) (item_of n ∷ [])
    ∙ ap (λ rest. text_of (map item_of (range_with_len 0 n)) ++ rest) (grind (arith, common_steps))

-- five texts in a row
joined : (a b c d e : List ℕ) → (((a ++ b) ++ c) ++ d) ++ e ≡ a ++ (b ++ ((c ++ d) ++ e))
joined a b c d e = simp append_assoc refl

-- the items of a report before its tolls
abbrev pub value_items : ℕ → ReportValue → List (Item Rational)
value_items width r = item.StatusIs r.status ∷ item.Width width ∷ item.Lower r.lower ∷ item.Upper r.upper ∷ item.Opened r.opened ∷ []

module _ (net : Network) (width : ℕ) (r : ReportValue) where
  first : Item Rational
  first = cond (names_instance net) item.HeaderTwo item.Header

  named : List (Item Rational)
  named = cond (names_instance net) (instance_lines net) []

  tolls : List (Item Rational)
  tolls = numbered (λ a v. item.Toll a v) 0 r.tolls

  paths : List (Item Rational)
  paths = numbered (λ k p. item.Path k p.cost p.paid p.arcs) 0 r.paths

  rest_text : text_of (named ++ tolls ++ paths) ≡ text_of named ++ toll_lines r.tolls ++ path_lines r.paths
  unfolding tolls paths
  rest_text =
      flat_map-append item_line (named ++ tolls) paths
      ∙ ap (λ t. t ++ text_of paths) (flat_map-append item_line named tolls)
      ∙ ap (λ t. text_of named ++ t ++ text_of paths) (numbered_text (λ a v. item.Toll a v) 0 r.tolls)
      ∙ ap (λ p. text_of named ++ toll_lines r.tolls ++ p) (numbered_text (λ k p. item.Path k p.cost p.paid p.arcs) 0 r.paths)

  whole_text : item_line first ++ (text_of (value_items width r) ++ (text_of named ++ toll_lines r.tolls ++ path_lines r.paths)) ≡ report_text net width r
  unfolding report_text first named tolls paths
  whole_text =
      ap (λ t. item_line first ++ t)
      (ap (λ t. text_of (value_items width r) ++ t) (sym rest_text) ∙ sym (flat_map-append item_line (value_items width r) (named ++ tolls ++ paths)))

  -- all parts, one after another
  pub report_of_parts : (header values instance paid whole : List ℕ)
      → header ≡ item_line (cond (names_instance net) item.HeaderTwo item.Header)
      → values ≡ header ++ text_of (value_items width r)
      → instance ≡ values ++ text_of (cond (names_instance net) (instance_lines net) [])
      → paid ≡ instance ++ toll_lines r.tolls
      → whole ≡ paid ++ path_lines r.paths
      → whole ≡ report_text net width r
  unfolding first named
  report_of_parts header values instance paid whole h v n t w =
      w ∙ ap (λ z. z ++ path_lines r.paths) (t ∙ ap (λ z. z ++ toll_lines r.tolls) (n ∙ ap (λ z. z ++ text_of named) (v ∙ ap (λ z. z ++ text_of (value_items width r)) h)))
      ∙ joined (item_line first) (text_of (value_items width r)) (text_of named) (toll_lines r.tolls) (path_lines r.paths)
      ∙ whole_text
