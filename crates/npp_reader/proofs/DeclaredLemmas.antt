-- What a line adds to what is declared is what it declares by itself.
use Rattle.std.proofs.Common.{◌≡◌, ◌≢◌, ℕ, Bool, true, false, ◌||◌, List, [], ◌∷◌, ◌++◌, Option, Some, None, is_some, if◌then◌else◌, Ok, refl, sym, ◌∙◌, ap, subst, arith, append-nil, codes, slice_index, eqb}
use Rattle.std.specs.List.{cons_option}
use Rattle.std.specs.Str.{bytes_eq}
use Rattle.std.proofs.lemmas.Bool.{eqb-true, false_from_ne_true}
use Rattle.std.proofs.lemmas.Slice.Eq.{bytes_eq-Decides}
use Rattle.npp_net.specs.declared.types.NetArc.{NetArc}
use Rattle.npp_net.specs.declared.types.Commodity.{Commodity}
use Rattle.npp_reader.specs.declared.link.Link.{Link}
use Rattle.npp_reader.specs.declared.format.Format.{Format}
use Rattle.npp_reader.specs.declared.format.Format.TheVariants.{One, Two}
use Rattle.npp_reader.specs.Format.{format_number, asks_ceiling}
use Rattle.npp_reader.specs.Grammar.{Declared, and_then, with_format, link_of, node_faults, arc_faults, pair_faults, after_node, after_arc, after_pair, after_word, after_fields, after_header}
use Rattle.npp_reader.specs.Declaring.{name_declared, arc_declared, pair_declared}
use Rattle.npp_reader.proofs.GrammarLemmas.{pick, linked}
use Rattle.npp_reader.proofs.WithinLemmas.{judged_ok}
use Rattle.npp_reader.proofs.LinkLemmas.{behind, IsLink, link_parts, arc_said, arc_line, link_stays}

-- what a line adds: a name, and an arc or a commodity, also where more names follow
pub record Adds (above next : Declared) (fields : List (List ℕ)) : Type 0 where
  pub names : next.names ≡ above.names ++ cons_option (name_declared fields) []
  pub arcs : (more : List (List ℕ)) → next.arcs ≡ above.arcs ++ cons_option (arc_declared (next.names ++ more) fields) []
  pub commodities : (more : List (List ℕ)) → next.commodities ≡ above.commodities ++ cons_option (pair_declared (next.names ++ more) fields) []

-- a line that begins with another word declares nothing
no_name : (word : List ℕ) (fields : List (List ℕ)) → bytes_eq word (codes "node") ≡ false → name_declared (word ∷ fields) ≡ None
no_name word [] e = refl
no_name word (a ∷ []) e = rw e
no_name word (a ∷ b ∷ more) e = refl

no_arc : (names : List (List ℕ)) (word : List ℕ) (fields : List (List ℕ)) → bytes_eq word (codes "free") ≡ false → bytes_eq word (codes "toll") ≡ false
    → arc_declared names (word ∷ fields) ≡ None
no_arc names word [] e f = refl
no_arc names word (a ∷ []) e f = refl
no_arc names word (a ∷ b ∷ []) e f = refl
no_arc names word (a ∷ b ∷ c ∷ []) e f = rw (e, f)
no_arc names word (a ∷ b ∷ c ∷ d ∷ []) e f = rw f
no_arc names word (a ∷ b ∷ c ∷ d ∷ g ∷ more) e f = refl

no_pair : (names : List (List ℕ)) (word : List ℕ) (fields : List (List ℕ)) → bytes_eq word (codes "pair") ≡ false → pair_declared names (word ∷ fields) ≡ None
no_pair names word [] e = refl
no_pair names word (a ∷ []) e = refl
no_pair names word (a ∷ b ∷ []) e = refl
no_pair names word (a ∷ b ∷ c ∷ []) e = rw e
no_pair names word (a ∷ b ∷ c ∷ d ∷ more) e = refl

-- nothing is added
adds_nothing : (above next : Declared) (fields : List (List ℕ)) → next.names ≡ above.names → next.arcs ≡ above.arcs → next.commodities ≡ above.commodities
    → name_declared fields ≡ None → ((names : List (List ℕ)) → arc_declared names fields ≡ None) → ((names : List (List ℕ)) → pair_declared names fields ≡ None)
    → Adds above next fields
adds_nothing above next fields ns xs ks n x k = record {
  names = rw n (ns ∙ sym (append-nil above.names));
  arcs = λ more. rw (x (next.names ++ more)) (xs ∙ sym (append-nil above.arcs));
  commodities = λ more. rw (k (next.names ++ more)) (ks ∙ sym (append-nil above.commodities));
}

word_is : (word text : List ℕ) → bytes_eq word text ≡ true → word ≡ text
word_is word text e = (bytes_eq-Decides word text).0 e

other_word : (word text : List ℕ) → slice_index word 0 ≢ slice_index text 0 → bytes_eq word text ≡ false
other_word word text apart = false_from_ne_true (bytes_eq word text) (λ yes. apart (ap (λ (w : List ℕ). slice_index w 0) (word_is word text yes)))

-- of a word that is this text, whether it is another
word_test : (word text other : List ℕ) → bytes_eq word text ≡ true → bytes_eq word other ≡ bytes_eq text other
word_test word text other e = ap (λ (w : List ℕ). bytes_eq w other) (word_is word text e)

module _ (above next : Declared) where
  arc_adds : (asked : Bool) (word : List ℕ) (fields : List (List ℕ)) (toll : Bool) (link : Link) → (bytes_eq word (codes "free") || bytes_eq word (codes "toll")) ≡ true
      → bytes_eq word (codes "toll") ≡ toll → (asked ≡ true → toll ≡ true) → bytes_eq word (codes "pair") ≡ false → IsLink asked above.names fields link
      → after_arc above toll link ≡ Ok next → Adds above next (word ∷ fields)
  unfolding after_arc
  arc_adds asked word fields toll link arc is asks other parts e =
      let x = arc_said toll link in
      let behind_word = parts.from ∷ parts.to ∷ parts.number ∷ behind asked parts.ceiling in
      let rows = judged_ok (arc_faults above toll) (record above { arcs = above.arcs ++ x ∷ [] }) next e in
      subst (λ (d : Declared). Adds above d (word ∷ fields)) rows.1
      (subst (λ (fs : List (List ℕ)). Adds above (record above { arcs = above.arcs ++ x ∷ [] }) (word ∷ fs)) (sym parts.fields_are)
      (record {
        names = sym (append-nil above.names);
        arcs = λ more.
            let says : arc_declared (above.names ++ more) (word ∷ behind_word) ≡ Some x
            = arc_line asked (above.names ++ more) word parts.from parts.to parts.number parts.ceiling toll arc is asks parts.none
            ∙ ap (λ (l : Link). Some (arc_said toll l)) (link_stays asked above.names more fields link parts) in
            ap (λ (o : Option NetArc). above.arcs ++ cons_option o []) (sym says);
        commodities = λ more. rw (no_pair (above.names ++ more) word behind_word other) (sym (append-nil above.commodities));
      }))

  pair_adds : (word : List ℕ) (fields : List (List ℕ)) (link : Link) → bytes_eq word (codes "free") ≡ false → bytes_eq word (codes "toll") ≡ false
      → bytes_eq word (codes "pair") ≡ true → IsLink false above.names fields link → after_pair above link ≡ Ok next → Adds above next (word ∷ fields)
  unfolding after_pair
  pair_adds word fields link free toll pair parts e =
      let k : Commodity = record { origin = link.from; destination = link.to; demand = link.number } in
      let rows = judged_ok (pair_faults above link) (record above { commodities = above.commodities ++ k ∷ [] }) next e in
      subst (λ (d : Declared). Adds above d (word ∷ fields)) rows.1
      (subst (λ (fs : List (List ℕ)). Adds above (record above { commodities = above.commodities ++ k ∷ [] }) (word ∷ fs)) (sym parts.fields_are)
      (record {
        names = sym (append-nil above.names);
        arcs = λ more. rw (no_arc (above.names ++ more) word (parts.from ∷ parts.to ∷ parts.number ∷ []) free toll) (sym (append-nil above.arcs));
        commodities = λ more.
            let says : pair_declared (above.names ++ more) (word ∷ parts.from ∷ parts.to ∷ parts.number ∷ []) ≡ Some k
            = rw pair (ap (λ (l : Link). Some (record { origin = l.from; destination = l.to; demand = l.number })) (link_stays false above.names more fields link parts)) in
            ap (λ (o : Option Commodity). above.commodities ++ cons_option o []) (sym says);
      }))

  node_adds : (word : List ℕ) (fields : List (List ℕ)) → bytes_eq word (codes "node") ≡ true → after_node above fields ≡ Ok next → Adds above next (word ∷ fields)
  unfolding after_node
  node_adds word [] is e = absurd cc
  node_adds word (name ∷ []) is e =
      let rows = judged_ok (node_faults above name) (record above { names = above.names ++ name ∷ [] }) next e in
      subst (λ (d : Declared). Adds above d (word ∷ name ∷ [])) rows.1
      (record {
        names = rw is;
        arcs = λ more. sym (append-nil above.arcs);
        commodities = λ more. sym (append-nil above.commodities);
      })
  node_adds word (a ∷ b ∷ more) is e = absurd cc

  word_adds : (word : List ℕ) (fields : List (List ℕ)) → after_word above word fields ≡ Ok next → Adds above next (word ∷ fields)
  unfolding after_word
  word_adds word fields e =
      let P = Adds above next (word ∷ fields) in
      let asked = asks_ceiling above.format in
      pick (bytes_eq word (codes "node")) (after_node above fields) _ (Ok next) P e (λ is f. node_adds word fields is f) (λ node e1.
      pick (bytes_eq word (codes "free")) (and_then (link_of false above.names fields) (after_arc above false)) _ (Ok next) P e1
      (λ is f. linked false above.names next fields (after_arc above false) P f (λ link l g.
      arc_adds false word fields false link (rw is) (word_test word (codes "free") (codes "toll") is) (λ no. absurd cc) (word_test word (codes "free") (codes "pair") is)
      (link_parts false above.names fields link l) g)) (λ free e2.
      pick (bytes_eq word (codes "toll")) (and_then (link_of asked above.names fields) (after_arc above true)) _ (Ok next) P e2
      (λ is f. linked asked above.names next fields (after_arc above true) P f (λ link l g.
      arc_adds asked word fields true link (rw (free, is)) is (λ asks. refl) (word_test word (codes "toll") (codes "pair") is)
      (link_parts asked above.names fields link l) g)) (λ toll e3.
      pick (bytes_eq word (codes "pair")) (and_then (link_of false above.names fields) (after_pair above)) _ (Ok next) P e3
      (λ is f. linked false above.names next fields (after_pair above) P f (λ link l g. pair_adds word fields link free toll is
      (link_parts false above.names fields link l) g)) (λ pair e4. absurd cc))))

  nothing_said : (word : List ℕ) (fields : List (List ℕ)) → next.names ≡ above.names → next.arcs ≡ above.arcs → next.commodities ≡ above.commodities
      → bytes_eq word (codes "node") ≡ false → bytes_eq word (codes "free") ≡ false → bytes_eq word (codes "toll") ≡ false → bytes_eq word (codes "pair") ≡ false
      → Adds above next (word ∷ fields)
  nothing_said word fields ns xs ks node free toll pair =
      adds_nothing above next (word ∷ fields) ns xs ks (no_name word fields node) (λ names. no_arc names word fields free toll) (λ names. no_pair names word fields pair)

  -- a header declares nothing but the format
  format_adds : (word number : List ℕ) (format : Format) → bytes_eq word (codes "npp") ≡ true → with_format above (Some format) ≡ Ok next → Adds above next (word ∷ number ∷ [])
  format_adds word number format npp e =
      let same : record above { format = Some format } ≡ next = cc in
      subst (λ (d : Declared). Adds above d (word ∷ number ∷ [])) same
      (adds_nothing above (record above { format = Some format }) (word ∷ number ∷ []) refl refl refl
      (no_name word (number ∷ []) (word_test word (codes "npp") (codes "node") npp)) (λ names. refl) (λ names. refl))

  named_adds : (word number : List ℕ) (first second : Bool) → bytes_eq word (codes "npp") ≡ true
      → with_format above (if first then Some One else (if second then Some Two else None)) ≡ Ok next → Adds above next (word ∷ number ∷ [])
  named_adds word number true second npp e = format_adds word number One npp e
  named_adds word number false true npp e = format_adds word number Two npp e
  named_adds word number false false npp e = absurd cc

  header_adds : (fields : List (List ℕ)) → after_header above fields ≡ Ok next → Adds above next fields
  unfolding after_header
  header_adds [] e = absurd cc
  header_adds (word ∷ []) e = absurd cc
  header_adds (word ∷ number ∷ []) e = step (bytes_eq word (codes "npp")) refl e where
    step : (npp : Bool) → bytes_eq word (codes "npp") ≡ npp
        → with_format above (if npp then (if bytes_eq number (format_number One) then Some One else (if bytes_eq number (format_number Two) then Some Two else None)) else None) ≡ Ok next
        → Adds above next (word ∷ number ∷ [])
    step true is e = named_adds word number (bytes_eq number (format_number One)) (bytes_eq number (format_number Two)) is e
    step false is e = absurd cc
  header_adds (a ∷ b ∷ c ∷ more) e = absurd cc

  pub fields_add : (fields : List (List ℕ)) → after_fields above fields ≡ Ok next → Adds above next fields
  unfolding after_fields
  fields_add [] e =
      let same : above ≡ next = cc in
      adds_nothing above next [] (ap (λ (d : Declared). d.names) (sym same)) (ap (λ (d : Declared). d.arcs) (sym same)) (ap (λ (d : Declared). d.commodities) (sym same)) refl (λ names. refl) (λ names. refl)
  fields_add (word ∷ fields) e =
      pick (eqb (slice_index word 0) 35) (Ok above) _ (Ok next) (Adds above next (word ∷ fields)) e
      (λ is f.
      let same : above ≡ next = cc in
      let mark : slice_index word 0 ≡ 35 = eqb-true (slice_index word 0) 35 is in
      nothing_said word fields (ap (λ (d : Declared). d.names) (sym same)) (ap (λ (d : Declared). d.arcs) (sym same)) (ap (λ (d : Declared). d.commodities) (sym same))
      (other_word word (codes "node") (omega arith)) (other_word word (codes "free") (omega arith)) (other_word word (codes "toll") (omega arith)) (other_word word (codes "pair") (omega arith)))
      (λ not f.
      pick (is_some above.format) (after_word above word fields) (after_header above (word ∷ fields)) (Ok next) (Adds above next (word ∷ fields)) f
      (λ below g. word_adds word fields g) (λ first g. header_adds (word ∷ fields) g))
