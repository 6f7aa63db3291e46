-- The document of a text is what its lines declare, each by itself.
use Rattle.std.proofs.Common.{◌≡◌, ℕ, ◌+◌, Bool, true, false, not, cond, List, [], ◌∷◌, ◌++◌, length, map, is_some, Result, Ok, Err, refl, sym, ◌∙◌, ap, subst, append_assoc, append-nil, eqb}
use Rattle.std.specs.List.{filter_map, cons_option}
use Rattle.std.specs.Str.{is_utf8}
use Rattle.std.proofs.lemmas.List.Elements.{filter_map-append}
use Rattle.npp_net.specs.declared.types.NetArc.{NetArc}
use Rattle.npp_net.specs.declared.types.Commodity.{Commodity}
use Rattle.npp_reader.specs.declared.kind.LineKind.{LineKind}
use Rattle.npp_reader.specs.declared.kind.LineKind.TheVariants.{Utf8, Header, NoCommodity}
use Rattle.npp_reader.specs.declared.document.Document.{Document}
use Rattle.npp_reader.specs.declared.refusal.ReadRefusal.{ReadRefusal}
use Rattle.npp_reader.specs.Lines.{lines_of, fields_of}
use Rattle.npp_reader.specs.Reading.{reading_from, reading_of, at_end, at_line, document_of}
use Rattle.npp_reader.proofs.ReadLemmas.{reading_begins}
use Rattle.npp_reader.specs.Grammar.{Declared, nothing, after_line, after_fields}
use Rattle.npp_reader.specs.Declaring.{name_declared, arc_declared, pair_declared, AreDeclared, Declares}
use Rattle.npp_reader.proofs.WithinLemmas.{judged_ok}
use Rattle.npp_reader.proofs.DeclaredLemmas.{Adds, fields_add}

-- what is declared is what these lines declare by themselves
pub record IsSumOf (front : List (List (List ℕ))) (above : Declared) : Type 0 where
  pub names : above.names ≡ filter_map name_declared front
  pub arcs : (more : List (List ℕ)) → above.arcs ≡ filter_map (arc_declared (above.names ++ more)) front
  pub commodities : (more : List (List ℕ)) → above.commodities ≡ filter_map (pair_declared (above.names ++ more)) front

pub nothing_is_sum : IsSumOf [] nothing
nothing_is_sum = record { names = refl; arcs = λ more. refl; commodities = λ more. refl }

pub sum_step : (front : List (List (List ℕ))) (above next : Declared) (fields : List (List ℕ)) → IsSumOf front above → Adds above next fields → IsSumOf (front ++ fields ∷ []) next
sum_step front above next fields is adds = record {
  names = adds.names ∙ (ap (λ (ns : List (List ℕ)). ns ++ cons_option (name_declared fields) []) is.names ∙ sym (filter_map-append name_declared front (fields ∷ [])));
  arcs = λ more.
      adds.arcs more
      ∙ (ap (λ (xs : List NetArc). xs ++ cons_option (arc_declared (next.names ++ more) fields) [])
      (is.arcs (cons_option (name_declared fields) [] ++ more) ∙ ap (λ (ns : List (List ℕ)). filter_map (arc_declared ns) front) (sym (spread more)))
      ∙ sym (filter_map-append (arc_declared (next.names ++ more)) front (fields ∷ [])));
  commodities = λ more.
      adds.commodities more
      ∙ (ap (λ (ks : List Commodity). ks ++ cons_option (pair_declared (next.names ++ more) fields) [])
      (is.commodities (cons_option (name_declared fields) [] ++ more) ∙ ap (λ (ns : List (List ℕ)). filter_map (pair_declared ns) front) (sym (spread more)))
      ∙ sym (filter_map-append (pair_declared (next.names ++ more)) front (fields ∷ [])));
} where
  spread : (more : List (List ℕ)) → next.names ++ more ≡ above.names ++ (cons_option (name_declared fields) [] ++ more)
  spread more = ap (λ (ns : List (List ℕ)). ns ++ more) adds.names ∙ append_assoc above.names (cons_option (name_declared fields) []) more

sum_ends : (front : List (List (List ℕ))) (above : Declared) (document : Document) → IsSumOf front above → at_end above ≡ Ok document → AreDeclared front document
unfolding at_end
sum_ends front above document is e =
    let rows = judged_ok ((not (is_some above.format), Header) ∷ (eqb (length above.commodities) 0, NoCommodity) ∷ []) (document_of above) document e in
    subst (AreDeclared front) rows.1 (record {
      names = is.names;
      arcs = is.arcs [] ∙ ap (λ (ns : List (List ℕ)). filter_map (arc_declared ns) front) (append-nil above.names);
      commodities = is.commodities [] ∙ ap (λ (ns : List (List ℕ)). filter_map (pair_declared ns) front) (append-nil above.names);
    })

pub line_fields : (above next : Declared) (line : List ℕ) → after_line above line ≡ Ok next → after_fields above (fields_of line) ≡ Ok next
unfolding after_line
line_fields above next line e = step (is_utf8 line) e where
  step : (b : Bool) → cond b (after_fields above (fields_of line)) (Err Utf8) ≡ Ok next → after_fields above (fields_of line) ≡ Ok next
  step true e = e
  step false e = absurd cc

end_taken : {X : Type 0} (number : ℕ) (r : Result X LineKind) (x : X) → at_line number r (λ y. Ok y) ≡ Ok x → r ≡ Ok x
end_taken number (Ok y) x e = let same : y ≡ x = cc in ap (λ z. Ok z) same
end_taken number (Err kind) x e = absurd cc

pub line_taken : (number : ℕ) (r : Result Declared LineKind) (rest : Declared → Result Document ReadRefusal) (document : Document) → at_line number r rest ≡ Ok document
    → (next : Declared) × (r ≡ Ok next) × (rest next ≡ Ok document)
line_taken number (Ok next) rest document e = (next, refl, e)
line_taken number (Err kind) rest document e = absurd cc

all_declared : (number : ℕ) (above : Declared) (lines : List (List ℕ)) (front : List (List (List ℕ))) (document : Document) → IsSumOf front above
    → reading_from number above lines ≡ Ok document → AreDeclared (front ++ map fields_of lines) document
all_declared number above [] front document is e =
    subst (λ (ls : List (List (List ℕ))). AreDeclared ls document) (sym (append-nil front)) (sum_ends front above document is (end_taken number (at_end above) document e))
all_declared number above (line ∷ lines) front document is e =
    let taken = line_taken number (after_line above line) (λ next. reading_from (number + 1) next lines) document e in
    let next = taken.0 in
    let adds = fields_add above next (fields_of line) (line_fields above next line taken.1) in
    subst (λ (ls : List (List (List ℕ))). AreDeclared ls document) (append_assoc front (fields_of line ∷ []) (map fields_of lines))
    (all_declared (number + 1) next lines (front ++ fields_of line ∷ []) document (sum_step front above next (fields_of line) is adds) taken.2)

-- the document that the bytes stand for is what their lines declare
pub document_declared : (bytes : List ℕ) (document : Document) → reading_of bytes ≡ Ok document → Declares bytes document
document_declared bytes document e = all_declared 1 nothing (lines_of bytes) [] document nothing_is_sum (reading_begins bytes ∙ e)
