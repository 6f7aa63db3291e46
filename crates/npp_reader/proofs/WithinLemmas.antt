-- What a line declares keeps the limits.
use Rattle.std.proofs.Common.{◌≡◌, ℕ, ◌+◌, ◌<◌, ◌≤◌, Bool, true, false, not, cond, List, [], ◌∷◌, ◌++◌, length, Option, Some, None, is_some, Result, Ok, Err, refl, sym, ap, subst, arith, nat_le, ◌&&◌, ◌||◌, codes, slice_index, eqb}
use Rattle.std.specs.List.{list_any, position_or_len}
use Rattle.std.specs.Str.{bytes_eq, is_utf8}
use Rattle.std.specs.Str.Parse.{digits_value}
use Rattle.std.proofs.lemmas.Bool.{ltb-false, leb-false, eqb-false}
use Rattle.std.proofs.lemmas.List.{length_push}
use Rattle.std.proofs.lemmas.List.Elements.{All-push}
use Rattle.std.proofs.lemmas.List.Sums.{sum_by-append}
use Rattle.npp_net.specs.declared.types.NetArc.{NetArc}
use Rattle.npp_net.specs.declared.types.Commodity.{Commodity}
use Rattle.npp_net.specs.Network.{IsArc, IsCommodity, toll_count}
use Rattle.npp_net.specs.Refusal.{is_ceiling_too_large}
use Rattle.npp_reader.specs.declared.kind.LineKind.{LineKind}
use Rattle.npp_reader.specs.declared.kind.LineKind.TheVariants.{Utf8}
use Rattle.npp_reader.specs.declared.link.Link.{Link}
use Rattle.npp_reader.specs.declared.format.Format.{Format}
use Rattle.npp_reader.specs.Format.{format_named, asks_ceiling}
use Rattle.npp_reader.specs.Fields.{no_ceiling, ceiling_value}
use Rattle.npp_reader.specs.Lines.{fields_of}
use Rattle.npp_reader.specs.Grammar.{Declared, judged, and_then, link_of, link_said, with_format, node_faults, link_faults, arc_faults, pair_faults, after_node, after_arc, after_pair, after_word, after_fields, after_header, after_line}
use Rattle.npp_reader.specs.Taking.{IsWithin}
use Rattle.npp_reader.proofs.GrammarLemmas.{pick, linked}

-- no row's test holds
abbrev pub AllFalse : List (Bool × LineKind) → Type 0
AllFalse [] = Unit {0}
AllFalse (row ∷ rows) = (row.0 ≡ false) × AllFalse rows

judged_step : {X : Type 0} (b : Bool) (kind : LineKind) (rest : Result X LineKind) (y : X) → cond b (Err kind) rest ≡ Ok y → (b ≡ false) × (rest ≡ Ok y)
judged_step true kind rest y e = absurd cc
judged_step false kind rest y e = (refl, e)

pub judged_ok : {X : Type 0} (rows : List (Bool × LineKind)) (x y : X) → judged rows x ≡ Ok y → AllFalse rows × (x ≡ y)
judged_ok [] x y e = (tt, cc)
judged_ok (row ∷ rows) x y e =
    let step = judged_step row.0 row.1 (judged rows x) y e in
    let rest = judged_ok rows x y step.1 in
    ((step.0, rest.0), rest.1)

pub not_false : (b : Bool) → not b ≡ false → b ≡ true
not_false true e = refl
not_false false e = absurd cc

place_step : (b : Bool) (n m : ℕ) (any : Bool) → (b || any) ≡ true → (any ≡ true → n < m) → cond (not b) (1 + n) 0 < m + 1
place_step true n m any e rest = omega arith
place_step false n m any e rest = let below = rest e in omega arith

-- the place of a name that is declared is below their number
place_below : (p : List ℕ → Bool) (names : List (List ℕ)) → list_any p names ≡ true → position_or_len p names < length names
place_below p [] e = absurd cc
place_below p (x ∷ names) e = let below = place_step (p x) (position_or_len p names) (length names) (list_any p names) e (place_below p names) in omega arith

-- the nodes and the number of a link are within the limits
pub record IsLinkWithin (nodes : ℕ) (link : Link) : Type 0 where
  pub from : link.from.0 < nodes
  pub to : link.to.0 < nodes
  pub number : link.number ≤ 1000000
  pub ceiling : (u : ℕ) → link.ceiling ≡ Some u → u ≤ 1000000000

-- a ceiling that is not too large
ceiling_within : (o : Option ℕ) → is_ceiling_too_large o ≡ false → (u : ℕ) → o ≡ Some u → u ≤ 1000000000
ceiling_within None few u is = absurd cc
ceiling_within (Some v) few u is = let same : v ≡ u = cc in let low = ltb-false 1000000000 v few in omega arith

-- what four fields say that have no fault
fields_near : (names : List (List ℕ)) (from to number ceiling : List ℕ) (link : Link)
    → judged (link_faults names from to number ceiling) (link_said names from to number ceiling) ≡ Ok link → IsLinkWithin (length names) link
fields_near names from to number ceiling link e =
    let rows = judged_ok (link_faults names from to number ceiling) (link_said names from to number ceiling) link e in
    subst (IsLinkWithin (length names)) rows.1 (record {
      from = place_below (bytes_eq from) names (not_false _ rows.0.1.1.1.1.1.1.0);
      to = place_below (bytes_eq to) names (not_false _ rows.0.1.1.1.1.1.1.1.0);
      number = ltb-false 1000000 (digits_value 10 number) rows.0.1.1.1.1.0;
      ceiling = ceiling_within (ceiling_value ceiling) rows.0.1.1.1.1.1.0;
    })

pub link_within : (asked : Bool) (names : List (List ℕ)) (fields : List (List ℕ)) (link : Link) → link_of asked names fields ≡ Ok link → IsLinkWithin (length names) link
unfolding link_of
link_within false names (from ∷ to ∷ number ∷ []) link e = fields_near names from to number no_ceiling link e
link_within true names (from ∷ to ∷ number ∷ ceiling ∷ []) link e = fields_near names from to number ceiling link e
link_within _ names _ link e = absurd cc

-- where no ceiling is asked for, the link has none
pub link_plain : (names : List (List ℕ)) (fields : List (List ℕ)) (link : Link) → link_of false names fields ≡ Ok link → link.ceiling ≡ None
unfolding link_of ceiling_value
link_plain names (from ∷ to ∷ number ∷ []) link e =
    ap (λ (l : Link). l.ceiling) (sym (judged_ok (link_faults names from to number no_ceiling) (link_said names from to number no_ceiling) link e).1)
link_plain names _ link e = absurd cc

-- one more arc
toll_push : (arcs : List NetArc) (x : NetArc) → toll_count (arcs ++ x ∷ []) ≡ toll_count arcs + toll_count (x ∷ [])
toll_push arcs x = sum_by-append (λ (y : NetArc). cond y.toll 1 0) arcs (x ∷ [])

more_tolls : (arcs : List NetArc) (x : NetArc) → toll_count arcs ≤ 128 → (x.toll && nat_le 128 (toll_count arcs)) ≡ false → toll_count (arcs ++ x ∷ []) ≤ 128
more_tolls arcs x few e = let more = toll_push arcs x in step x.toll refl e where
  step : (b : Bool) → x.toll ≡ b → (b && nat_le 128 (toll_count arcs)) ≡ false → toll_count (arcs ++ x ∷ []) ≤ 128
  step true h e = let more = toll_push arcs x in let one : toll_count (x ∷ []) ≡ 1 = rw h in let low = leb-false 128 (toll_count arcs) e in omega arith
  step false h e = let more = toll_push arcs x in let none : toll_count (x ∷ []) ≡ 0 = rw h in omega arith

module _ (above next : Declared) (within : IsWithin above) where
  pub arc_within : (toll : Bool) (link : Link) → IsLinkWithin (length above.names) link → (toll ≡ false → link.ceiling ≡ None) → after_arc above toll link ≡ Ok next → IsWithin next
  unfolding after_arc
  arc_within toll link near free e =
      let x : NetArc = record { tail = link.from; head = link.to; cost = link.number; toll = toll; ceiling = link.ceiling } in
      let rows = judged_ok (arc_faults above toll) (record above { arcs = above.arcs ++ x ∷ [] }) next e in
      let few = leb-false 5000 (length above.arcs) rows.0.0 in
      let long = length_push above.arcs x in
      subst IsWithin rows.1 (record {
        nodes = within.nodes;
        arcs = omega arith;
        tolls = more_tolls above.arcs x within.tolls rows.0.1.0;
        commodities = within.commodities;
        each_arc = All-push (IsArc (length above.names)) above.arcs x within.each_arc (record { tail = near.from; head = near.to; cost = near.number; ceiling = near.ceiling; free = free });
        each_commodity = within.each_commodity;
      })

  pub pair_within : (link : Link) → IsLinkWithin (length above.names) link → after_pair above link ≡ Ok next → IsWithin next
  unfolding after_pair
  pair_within link near e =
      let k : Commodity = record { origin = link.from; destination = link.to; demand = link.number } in
      let rows = judged_ok (pair_faults above link) (record above { commodities = above.commodities ++ k ∷ [] }) next e in
      let few = leb-false 100 (length above.commodities) rows.0.1.1.0 in
      let long = length_push above.commodities k in
      subst IsWithin rows.1 (record {
        nodes = within.nodes;
        arcs = within.arcs;
        tolls = within.tolls;
        commodities = omega arith;
        each_arc = within.each_arc;
        each_commodity = All-push (IsCommodity (length above.names)) above.commodities k within.each_commodity
            (record { origin = near.from; destination = near.to; demand = near.number; apart = eqb-false _ _ rows.0.0; wanted = eqb-false _ _ rows.0.1.0 });
      })

  pub node_within : (fields : List (List ℕ)) → after_node above fields ≡ Ok next → IsWithin next
  unfolding after_node
  node_within [] e = absurd cc
  node_within (name ∷ []) e =
      let rows = judged_ok (node_faults above name) (record above { names = above.names ++ name ∷ [] }) next e in
      let few = leb-false 1000 (length above.names) rows.0.1.1.0 in
      let long = length_push above.names name in
      subst IsWithin rows.1 (record {
        nodes = omega arith;
        arcs = within.arcs;
        tolls = within.tolls;
        commodities = within.commodities;
        each_arc = λ k d h. let x = within.each_arc k d h in record { tail = omega arith; head = omega arith; cost = x.cost; ceiling = x.ceiling; free = x.free };
        each_commodity = λ k d h. let x = within.each_commodity k d h in record { origin = omega arith; destination = omega arith; demand = x.demand; apart = x.apart; wanted = x.wanted };
      })
  node_within (a ∷ b ∷ more) e = absurd cc

  named_within : (named : Option Format) → with_format above named ≡ Ok next → IsWithin next
  named_within None e = absurd cc
  named_within (Some format) e =
      let same : record above { format = Some format } ≡ next = cc in
      subst IsWithin same (record {
        nodes = within.nodes;
        arcs = within.arcs;
        tolls = within.tolls;
        commodities = within.commodities;
        each_arc = within.each_arc;
        each_commodity = within.each_commodity;
      })

  header_within : (fields : List (List ℕ)) → after_header above fields ≡ Ok next → IsWithin next
  unfolding after_header
  header_within fields e = named_within (format_named fields) e

  word_within : (word : List ℕ) (fields : List (List ℕ)) → after_word above word fields ≡ Ok next → IsWithin next
  unfolding after_word
  word_within word fields e =
      let P = IsWithin next in
      let asked = asks_ceiling above.format in
      let near = link_within false above.names fields in
      pick (bytes_eq word (codes "node")) (after_node above fields) _ (Ok next) P e (λ is f. node_within fields f) (λ not1 e1.
      pick (bytes_eq word (codes "free")) (and_then (link_of false above.names fields) (after_arc above false)) _ (Ok next) P e1
      (λ is f. linked false above.names next fields (after_arc above false) P f (λ link l g. arc_within false link (near link l) (λ no. link_plain above.names fields link l) g)) (λ not2 e2.
      pick (bytes_eq word (codes "toll")) (and_then (link_of asked above.names fields) (after_arc above true)) _ (Ok next) P e2
      (λ is f. linked asked above.names next fields (after_arc above true) P f (λ link l g. arc_within true link (link_within asked above.names fields link l) (λ no. absurd cc) g)) (λ not3 e3.
      pick (bytes_eq word (codes "pair")) (and_then (link_of false above.names fields) (after_pair above)) _ (Ok next) P e3
      (λ is f. linked false above.names next fields (after_pair above) P f (λ link l g. pair_within link (near link l) g)) (λ not4 e4. absurd cc))))

  fields_within : (fields : List (List ℕ)) → after_fields above fields ≡ Ok next → IsWithin next
  unfolding after_fields
  fields_within [] e = let same : above ≡ next = cc in subst IsWithin same within
  fields_within (word ∷ fields) e =
      pick (eqb (slice_index word 0) 35) (Ok above) _ (Ok next) (IsWithin next) e (λ is f. let same : above ≡ next = cc in subst IsWithin same within) (λ not f.
      pick (is_some above.format) (after_word above word fields) (after_header above (word ∷ fields)) (Ok next) (IsWithin next) f (λ is g. word_within word fields g)
      (λ first g. header_within (word ∷ fields) g))

  pub line_within : (line : List ℕ) → after_line above line ≡ Ok next → IsWithin next
  unfolding after_line
  line_within line e = step (is_utf8 line) e where
    step : (b : Bool) → cond b (after_fields above (fields_of line)) (Err Utf8) ≡ Ok next → IsWithin next
    step true e = fields_within (fields_of line) e
    step false e = absurd cc
