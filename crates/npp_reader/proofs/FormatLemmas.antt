-- The format of a text: the first line that is not skipped names it, and no later one changes it.
use Rattle.std.proofs.Common.{◌≡◌, ℕ, Bool, true, false, ◌||◌, not, List, [], ◌∷◌, ◌++◌, Option, Some, None, is_some, if◌then◌else◌, Ok, refl, sym, ◌∙◌, ap, slice_index, eqb, codes}
use Rattle.std.specs.List.{list_any}
use Rattle.std.specs.Str.{bytes_eq}
use Rattle.std.proofs.Math.Bool.{or-false}
use Rattle.npp_net.specs.declared.types.NetArc.{NetArc}
use Rattle.npp_net.specs.declared.types.Commodity.{Commodity}
use Rattle.npp_reader.specs.declared.link.Link.{Link}
use Rattle.npp_reader.specs.declared.format.Format.{Format}
use Rattle.npp_reader.specs.Format.{format_named, asks_ceiling}
use Rattle.npp_reader.specs.Grammar.{Declared, and_then, with_format, link_of, node_faults, arc_faults, pair_faults, after_fields, after_word, after_header, after_node, after_arc, after_pair}
use Rattle.npp_reader.specs.Faults.{is_said, format_declared}
use Rattle.npp_reader.proofs.GrammarLemmas.{pick, linked}
use Rattle.npp_reader.proofs.WithinLemmas.{judged_ok}

module _ (above next : Declared) where
  node_keeps : (fields : List (List ℕ)) → after_node above fields ≡ Ok next → next.format ≡ above.format
  unfolding after_node
  node_keeps [] e = absurd cc
  node_keeps (name ∷ []) e = ap (λ (d : Declared). d.format) (sym (judged_ok (node_faults above name) (record above { names = above.names ++ name ∷ [] }) next e).1)
  node_keeps (a ∷ b ∷ more) e = absurd cc

  arc_keeps : (toll : Bool) (link : Link) → after_arc above toll link ≡ Ok next → next.format ≡ above.format
  unfolding after_arc
  arc_keeps toll link e =
      let x : NetArc = record { tail = link.from; head = link.to; cost = link.number; toll = toll; ceiling = link.ceiling } in
      ap (λ (d : Declared). d.format) (sym (judged_ok (arc_faults above toll) (record above { arcs = above.arcs ++ x ∷ [] }) next e).1)

  pair_keeps : (link : Link) → after_pair above link ≡ Ok next → next.format ≡ above.format
  unfolding after_pair
  pair_keeps link e =
      let k : Commodity = record { origin = link.from; destination = link.to; demand = link.number } in
      ap (λ (d : Declared). d.format) (sym (judged_ok (pair_faults above link) (record above { commodities = above.commodities ++ k ∷ [] }) next e).1)

  word_keeps : (word : List ℕ) (fields : List (List ℕ)) → after_word above word fields ≡ Ok next → next.format ≡ above.format
  unfolding after_word
  word_keeps word fields e =
      let P = next.format ≡ above.format in
      let asked = asks_ceiling above.format in
      pick (bytes_eq word (codes "node")) (after_node above fields) _ (Ok next) P e (λ is f. node_keeps fields f) (λ not1 e1.
      pick (bytes_eq word (codes "free")) (and_then (link_of false above.names fields) (after_arc above false)) _ (Ok next) P e1
      (λ is f. linked false above.names next fields (after_arc above false) P f (λ link l g. arc_keeps false link g)) (λ not2 e2.
      pick (bytes_eq word (codes "toll")) (and_then (link_of asked above.names fields) (after_arc above true)) _ (Ok next) P e2
      (λ is f. linked asked above.names next fields (after_arc above true) P f (λ link l g. arc_keeps true link g)) (λ not3 e3.
      pick (bytes_eq word (codes "pair")) (and_then (link_of false above.names fields) (after_pair above)) _ (Ok next) P e3
      (λ is f. linked false above.names next fields (after_pair above) P f (λ link l g. pair_keeps link g)) (λ not4 e4. absurd cc))))

-- the format once this line stands too
abbrev pub or_format : Option Format → Option Format → Option Format
or_format (Some format) named = Some format
or_format None named = named

nothing_more : (o : Option Format) → o ≡ or_format o None
nothing_more (Some format) = refl
nothing_more None = refl

-- a format and whether there is one
pub record IsNamed (above next : Option Format) (said : Bool) (named : Option Format) : Type 0 where
  pub format : next ≡ or_format above named
  pub stands : is_some next ≡ (is_some above || said)

still_named : (above next named : Option Format) (said : Bool) → next ≡ above → is_some above ≡ true → IsNamed above next said named
still_named None next named said same some = absurd cc
still_named (Some format) next named said same some = record { format = same; stands = rw same refl }

module _ (above next : Declared) where
  first_named : (named : Option Format) → above.format ≡ None → with_format above named ≡ Ok next → IsNamed above.format next.format true named
  first_named None none e = absurd cc
  first_named (Some format) none e =
      let same : record above { format = Some format } ≡ next = cc in
      let is : next.format ≡ Some format = ap (λ (d : Declared). d.format) (sym same) in
      record { format = rw (none, is) refl; stands = rw (none, is) refl }

  none_here : (o : Option Format) → is_some o ≡ false → o ≡ None
  none_here None e = refl
  none_here (Some format) e = absurd cc

  -- what a line does to the format
  pub format_after : (fields : List (List ℕ)) → after_fields above fields ≡ Ok next → IsNamed above.format next.format (is_said fields) (format_declared (fields ∷ []))
  unfolding after_fields after_header
  format_after [] e =
      let same : above ≡ next = cc in
      let kept = ap (λ (d : Declared). d.format) (sym same) in
      record { format = kept ∙ nothing_more above.format; stands = ap is_some kept ∙ sym (or-false (is_some above.format)) }
  format_after (word ∷ fields) e =
      pick (eqb (slice_index word 0) 35) (Ok above) _ (Ok next) (IsNamed above.format next.format (not (eqb (slice_index word 0) 35)) (format_declared ((word ∷ fields) ∷ []))) e
      (λ is f.
      let same : above ≡ next = cc in
      let kept = ap (λ (d : Declared). d.format) (sym same) in
      rw is (record { format = kept ∙ nothing_more above.format; stands = ap is_some kept ∙ sym (or-false (is_some above.format)) }))
      (λ is f. rw is (pick (is_some above.format) (after_word above word fields) (after_header above (word ∷ fields)) (Ok next)
      (IsNamed above.format next.format true (format_named (word ∷ fields))) f
      (λ below g. still_named above.format next.format (format_named (word ∷ fields)) true (word_keeps above next word fields g) below)
      (λ first g. first_named (format_named (word ∷ fields)) (none_here above.format first) g)))

-- the format of lines that go on
pub format_more : (front more : List (List (List ℕ))) → format_declared (front ++ more) ≡ (if list_any is_said front then format_declared front else format_declared more)
format_more [] more = refl
format_more (line ∷ front) more = step (is_said line) (format_more front more) where
  step : (said : Bool) → format_declared (front ++ more) ≡ (if list_any is_said front then format_declared front else format_declared more)
      → (if said then format_named line else format_declared (front ++ more))
      ≡ (if said || list_any is_said front then (if said then format_named line else format_declared front) else format_declared more)
  step true later = refl
  step false later = later
