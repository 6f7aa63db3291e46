-- The line that is refused is the first faulty one.
use Rattle.std.proofs.Common.{◌≡◌, inl, inr, ℕ, ◌+◌, Bool, ◌||◌, List, [], ◌∷◌, ◌++◌, length, map, Option, Some, None, is_some, Result, Ok, Err, refl, sym, ◌∙◌, ap, subst, arith, append_assoc, append-nil, below_more}
use Rattle.std.specs.List.{filter_map, list_any}
use Rattle.std.specs.Result.{result_err}
use Rattle.std.proofs.Math.Bool.{or-false}
use Rattle.std.proofs.Math.Seq.{take-append_seam, drop-append_seam}
use Rattle.std.proofs.lemmas.List.{map-append, length_push}
use Rattle.std.proofs.lemmas.List.Folds.{list_any-append}
use Rattle.npp_net.specs.declared.types.NetArc.{NetArc}
use Rattle.npp_net.specs.declared.types.Commodity.{Commodity}
use Rattle.npp_reader.specs.declared.kind.LineKind.{LineKind}
use Rattle.npp_reader.specs.declared.document.Document.{Document}
use Rattle.npp_reader.specs.declared.format.Format.{Format}
use Rattle.npp_reader.specs.declared.refusal.ReadRefusal.{ReadRefusal}
use Rattle.npp_reader.specs.declared.refusal.ReadRefusal.TheVariants.{Line, Memory}
use Rattle.npp_reader.specs.Lines.{lines_of, fields_of}
use Rattle.npp_reader.specs.Grammar.{Declared, nothing, after_line}
use Rattle.npp_reader.specs.Reading.{reading_from, reading_of, at_end, at_line}
use Rattle.npp_reader.specs.Declaring.{name_declared, arc_declared, pair_declared}
use Rattle.npp_reader.specs.Faults.{is_said, format_declared, declared_by, kind_below, kind_at, NoneAbove, IsFirstFault, IsAccepted, IsRefused}
use Rattle.npp_reader.proofs.ReadLemmas.{reading_begins, IsAnswer}
use Rattle.npp_reader.proofs.DeclaredLemmas.{fields_add}
use Rattle.npp_reader.proofs.DocumentLemmas.{IsSumOf, nothing_is_sum, sum_step, line_fields}
use Rattle.npp_reader.proofs.FormatLemmas.{or_format, format_after, format_more}

-- what the lines in front declare
record IsFront (front : List (List ℕ)) (above : Declared) : Type 0 where
  sum : IsSumOf (map fields_of front) above
  format : above.format ≡ format_declared (map fields_of front)
  stands : is_some above.format ≡ list_any is_said (map fields_of front)

same_parts : (a : Declared) (f : Option Format) (n : List (List ℕ)) (x : List NetArc) (k : List Commodity) → a.format ≡ f → a.names ≡ n → a.arcs ≡ x → a.commodities ≡ k
    → a ≡ record { format = f; names = n; arcs = x; commodities = k }
same_parts a f n x k ef en ex ek = λ i. record { format = ef i; names = en i; arcs = ex i; commodities = ek i }

front_is : (front : List (List ℕ)) (above : Declared) → IsFront front above → above ≡ declared_by (map fields_of front)
front_is front above is =
    let lines = map fields_of front in
    let names : above.names ++ [] ≡ filter_map name_declared lines = append-nil above.names ∙ is.sum.names in
    same_parts above _ _ _ _ is.format is.sum.names
    (is.sum.arcs [] ∙ ap (λ (ns : List (List ℕ)). filter_map (arc_declared ns) lines) names)
    (is.sum.commodities [] ∙ ap (λ (ns : List (List ℕ)). filter_map (pair_declared ns) lines) names)

-- the format of the lines in front or else of the next one
format_step : (lines : List (List (List ℕ))) (fields : List (List ℕ)) (above next : Option Format) → above ≡ format_declared lines → is_some above ≡ list_any is_said lines
    → next ≡ or_format above (format_declared (fields ∷ [])) → next ≡ format_declared (lines ++ fields ∷ [])
format_step lines fields None next is stands e = e ∙ sym (format_more lines (fields ∷ []) ∙ rw (← stands) refl)
format_step lines fields (Some format) next is stands e = e ∙ (is ∙ sym (format_more lines (fields ∷ []) ∙ rw (← stands) refl))

front_step : (front : List (List ℕ)) (above next : Declared) (line : List ℕ) → IsFront front above → after_line above line ≡ Ok next → IsFront (front ++ line ∷ []) next
front_step front above next line is e =
    let said = line_fields above next line e in
    let lines : map fields_of (front ++ line ∷ []) ≡ map fields_of front ++ fields_of line ∷ [] = map-append fields_of front (line ∷ []) in
    let named = format_after above next (fields_of line) said in
    record {
      sum = subst (λ (ls : List (List (List ℕ))). IsSumOf ls next) (sym lines) (sum_step (map fields_of front) above next (fields_of line) is.sum (fields_add above next (fields_of line) said));
      format = format_step (map fields_of front) (fields_of line) above.format next.format is.format is.stands named.format ∙ ap format_declared (sym lines);
      stands = named.stands ∙ (ap (λ (b : Bool). b || is_said (fields_of line)) is.stands
          ∙ (ap (λ (b : Bool). list_any is_said (map fields_of front) || b) (sym (or-false (is_said (fields_of line))))
          ∙ (sym (list_any-append is_said (map fields_of front) (fields_of line ∷ [])) ∙ ap (list_any is_said) (sym lines))));
    }

kind_here : (front rest : List (List ℕ)) (above : Declared) → IsFront front above → kind_at (front ++ rest) (length front) ≡ kind_below above rest
kind_here front rest above is =
    rw (take-append_seam front rest, drop-append_seam front rest) (ap (λ (d : Declared). kind_below d rest) (sym (front_is front above is)))

-- one more line without a fault
none_more : (front : List (List ℕ)) (line : List ℕ) (rest : List (List ℕ)) (above next : Declared) → IsFront front above → after_line above line ≡ Ok next
    → NoneAbove (front ++ line ∷ rest) (length front) → NoneAbove ((front ++ line ∷ []) ++ rest) (length (front ++ line ∷ []))
none_more front line rest above next is e none =
    let lines : (front ++ line ∷ []) ++ rest ≡ front ++ line ∷ rest = append_assoc front (line ∷ []) rest in
    let all : NoneAbove (front ++ line ∷ rest) (length front + 1)
    = below_more (λ (k : ℕ). kind_at (front ++ line ∷ rest) k ≡ None) (length front) none (kind_here front (line ∷ rest) above is ∙ ap result_err e) in
    subst (λ (n : ℕ). NoneAbove ((front ++ line ∷ []) ++ rest) n) (sym (length_push front line))
    (subst (λ (ls : List (List ℕ)). NoneAbove ls (length front + 1)) (sym lines) all)

-- where a line is refused
IsRefusedAt : List (List ℕ) → ReadRefusal → Type 0
IsRefusedAt lines (Line number kind) = IsFirstFault lines number kind
IsRefusedAt lines Memory = Unit {0}

-- the answer of lines that follow others without a fault
IsJudged : List (List ℕ) → Result Document ReadRefusal → Type 0
IsJudged lines (Ok document) = NoneAbove lines (length lines + 1)
IsJudged lines (Err refusal) = IsRefusedAt lines refusal

judged_line : (number : ℕ) (front rest : List (List ℕ)) (above : Declared) (kind : LineKind) → IsFront front above → length front + 1 ≡ number
    → NoneAbove (front ++ rest) (length front) → kind_below above rest ≡ Some kind → IsFirstFault (front ++ rest) number kind
judged_line number front rest above kind is n none e =
    record { place = length front; from_one = n; fault = kind_here front rest above is ∙ e; first = none }

judged_end : (number : ℕ) (front : List (List ℕ)) (above : Declared) (r : Result Document LineKind) → IsFront front above → length front + 1 ≡ number
    → NoneAbove (front ++ []) (length front) → at_end above ≡ r → IsJudged (front ++ []) (at_line number r (λ document. Ok document))
unfolding IsJudged IsRefusedAt
judged_end number front above (Ok document) is n none e =
    let all : NoneAbove (front ++ []) (length front + 1)
    = below_more (λ (k : ℕ). kind_at (front ++ []) k ≡ None) (length front) none (kind_here front [] above is ∙ ap result_err e) in
    subst (λ (m : ℕ). NoneAbove (front ++ []) (m + 1)) (ap length (sym (append-nil front))) all
judged_end number front above (Err kind) is n none e = judged_line number front [] above kind is n none (ap result_err e)

judged_step : (number : ℕ) (front : List (List ℕ)) (line : List ℕ) (rest : List (List ℕ)) (above : Declared) (r : Result Declared LineKind) → IsFront front above
    → length front + 1 ≡ number → NoneAbove (front ++ line ∷ rest) (length front) → after_line above line ≡ r
    → ((next : Declared) → after_line above line ≡ Ok next → IsJudged (front ++ line ∷ rest) (reading_from (number + 1) next rest))
    → IsJudged (front ++ line ∷ rest) (at_line number r (λ next. reading_from (number + 1) next rest))
unfolding IsJudged IsRefusedAt
judged_step number front line rest above (Ok next) is n none e more = more next e
judged_step number front line rest above (Err kind) is n none e more = judged_line number front (line ∷ rest) above kind is n none (ap result_err e)

all_judged : (number : ℕ) (front rest : List (List ℕ)) (above : Declared) → IsFront front above → length front + 1 ≡ number
    → NoneAbove (front ++ rest) (length front) → IsJudged (front ++ rest) (reading_from number above rest)
all_judged number front [] above is n none = judged_end number front above (at_end above) is n none refl
all_judged number front (line ∷ rest) above is n none =
    judged_step number front line rest above (after_line above line) is n none refl (λ next e.
    subst (λ (ls : List (List ℕ)). IsJudged ls (reading_from (number + 1) next rest)) (append_assoc front (line ∷ []) rest)
    (all_judged (number + 1) (front ++ line ∷ []) rest next (front_step front above next line is e) (rw (length_push front line, n))
    (none_more front line rest above next is e none)))

nothing_in_front : IsFront [] nothing
nothing_in_front = record { sum = nothing_is_sum; format = refl; stands = refl }

-- of bytes that are read no line has a fault
pub accepted : (bytes : List ℕ) (document : Document) → reading_of bytes ≡ Ok document → IsAccepted bytes
unfolding IsJudged
accepted bytes document e =
    subst (IsJudged (lines_of bytes)) (reading_begins bytes ∙ e) (all_judged 1 [] (lines_of bytes) nothing nothing_in_front refl (λ k h. absurd (omega arith)))

-- the line of which bytes are refused is the first faulty one
pub refused : (bytes : List ℕ) (refusal : ReadRefusal) → reading_of bytes ≡ Err refusal → IsRefused bytes refusal
unfolding IsJudged IsRefusedAt
refused bytes (Line number kind) e =
    subst (IsJudged (lines_of bytes)) (reading_begins bytes ∙ e) (all_judged 1 [] (lines_of bytes) nothing nothing_in_front refl (λ k h. absurd (omega arith)))
refused bytes Memory e = tt

-- the same, where want of memory may stand in the place of the answer
pub refused_answer : (bytes : List ℕ) (refusal : ReadRefusal) → IsAnswer (Err refusal) (reading_of bytes) → IsRefused bytes refusal
refused_answer bytes refusal (inl wanted) = let same : refusal ≡ Memory = cc in subst (IsRefused bytes) (sym same) tt
refused_answer bytes refusal (inr is) = refused bytes refusal (sym is)
