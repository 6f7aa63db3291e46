-- What more bytes do to a check, one step after another.
use Rattle.std.proofs.Common.{◌≡◌, ◌∙◌, ◌<◌, ◌≤◌, ◌+◌, ◌-◌, suc, ap, sym, refl, subst, ℕ, Bool, true, false, List, [], ◌∷◌, ◌++◌, length, get_or, take, drop, Some, None, Result, Ok, Err, MatchResult, IsErrAnd, IfErr, nat_lt, cond, arith, append-nil, append_assoc, length-append, length-take, length-drop, take_all, eqb-true}
use Rattle.std.specs.List.{position, position_or_len}
use Rattle.std.proofs.lemmas.Bool.Decides.{nat_tests}
use Rattle.std.proofs.lemmas.List.{get_or-take}
use Rattle.std.proofs.lemmas.List.Quantifiers.{position-Some}
use Rattle.std.proofs.lemmas.List.Sums.{fails_before_first}
use Rattle.std.proofs.Math.Seq.{split_at}
use Rattle.npp_frac.specs.Fits.{limit_of}
use Rattle.npp_net.specs.Network.{Network}
use Rattle.npp_tree.specs.declared.outcome.Pair.{Pair}
use Rattle.npp_cert_text.specs.Form.{line_limit}
use Rattle.npp_cert_text.specs.Lines.{is_line_feed}
use Rattle.npp_check.specs.declared.refusal.CheckRefusal.{CheckRefusal}
use Rattle.npp_check.specs.declared.refusal.CheckRefusal.TheVariants.{Broken, Memory}
use Rattle.npp_check.specs.declared.refusal.Rule.TheVariants.{Text}
use Rattle.npp_check.specs.Checking.{Checking, verdict_with}
use Rattle.npp_check.specs.Measures.{Measures}
use Rattle.npp_check.specs.Verdict.{PairValue, pair_value}
use Rattle.npp_stream.specs.declared.stream.TextCheck.{TextCheck}
use Rattle.npp_stream.specs.Refusals.{line_refusal}
use Rattle.npp_stream.specs.declared.refusal.TextRefusal.{TextRefusal}
use Rattle.npp_stream.specs.TextVerdicts.{bytes_verdict, IsTextVerdict, IsAcceptedText, IsTextRefusal}
use Rattle.npp_stream.specs.Stream.{HasNoLineFeed, HasRead, HasBytes, TakesLine, RefusesLine, ProvesPair, IsRefusedFrom, TakesBytes, Ends}
use Rattle.npp_stream.proofs.StreamLemmas.{written_verdict, unended, too_long, refuses, goes_on, takes_line, ends_badly, ends_well}

abbrev pub Taken : Result (Unit {0}) CheckRefusal
Taken = Ok tt

-- ---- one after another

-- a refusal stays, whatever comes behind
still_refused : (net : Network) (bytes more : List ℕ) (e : CheckRefusal) → IsRefusedFrom net bytes e → IsRefusedFrom net (bytes ++ more) e
still_refused net bytes more e refused rest =
    subst (λ (t : List ℕ). IsTextRefusal net t (line_refusal e)) (sym (append_assoc bytes more rest)) (refused (more ++ rest))

-- some bytes, then others
pub takes_then : (old mid new : TextCheck) (a b : List ℕ) (r : Result (Unit {0}) CheckRefusal) → TakesBytes old a mid Taken → TakesBytes mid b new r → TakesBytes old (a ++ b) new r
takes_then old mid new a b (Ok done) first then = λ net f bytes h.
    subst (λ (t : List ℕ). HasBytes net f t new) (append_assoc bytes a b) (then net f (bytes ++ a) (first net f bytes h))
takes_then old mid new a b (Err e) first then = λ net f bytes h.
    subst (λ (t : List ℕ). IsRefusedFrom net t e) (append_assoc bytes a b) (then net f (bytes ++ a) (first net f bytes h))

pub refuses_then : (old new other : TextCheck) (a b : List ℕ) (e : CheckRefusal) → TakesBytes old a new (Err e) → TakesBytes old (a ++ b) other (Err e)
refuses_then old new other a b e refused net f bytes h =
    subst (λ (t : List ℕ). IsRefusedFrom net t e) (append_assoc bytes a b) (still_refused net (bytes ++ a) b e (refused net f bytes h))

-- the same bytes in other words
pub takes_same : (old new : TextCheck) (a b : List ℕ) (r : Result (Unit {0}) CheckRefusal) → a ≡ b → TakesBytes old a new r → TakesBytes old b new r
takes_same old new a b r e = let P : List ℕ → Type 0 = λ t. TakesBytes old t new r in subst P e

-- a refusal that is passed on
pub passed_on : (old new : TextCheck) (more : List ℕ) (e : CheckRefusal) (r : Result (Unit {0}) CheckRefusal) → IsErrAnd r (λ x. x ≡ e) → TakesBytes old more new (Err e) → TakesBytes old more new r
passed_on old new more e (Ok done) is h = absurd is
passed_on old new more e (Err x) is h = let P : CheckRefusal → Type 0 = λ y. TakesBytes old more new (Err y) in subst P (sym is) h

-- the bytes behind a place
pub behind_place : (bytes : List ℕ) (i : ℕ) → take (length bytes - i) (drop i bytes) ≡ drop i bytes
behind_place bytes i = take_all (length bytes - i) (drop i bytes) (omega (arith, length-drop i bytes))

-- ---- a line

-- what is said of a line that was judged
abbrev pub IsJudged : TextCheck → List ℕ → TextCheck → Result (Unit {0}) CheckRefusal → Type 0
IsJudged old line new r =
    MatchResult r
    (λ _. TakesLine (limit_of 128) old.lines.checker line new.lines.checker × (new.lines.number ≡ old.lines.number + 1))
    (λ e. RefusesLine (limit_of 128) old.lines.checker old.lines.number line e)

-- a line ends with these bytes
pub line_ends : (old new : TextCheck) (more : List ℕ) (r : Result (Unit {0}) CheckRefusal) → HasNoLineFeed more → new.open.items ≡ []
    → IsJudged old (old.open.items ++ more) new r → TakesBytes old (more ++ 10 ∷ []) new r
line_ends old new more (Ok done) lacks empty judged = λ net f bytes h.
    let read = takes_line (limit_of 128) net f bytes old.lines.checker old.lines.number old.open.items h more new.lines.checker judged.0 in
    subst (λ (o : List ℕ). HasRead (limit_of 128) net f (bytes ++ (more ++ 10 ∷ [])) new.lines.checker new.lines.number o) (sym empty)
    (subst (λ (n : ℕ). HasRead (limit_of 128) net f (bytes ++ (more ++ 10 ∷ [])) new.lines.checker n []) (sym judged.1) read)
line_ends old new more (Err Memory) lacks empty judged = λ net f bytes h rest. tt
line_ends old new more (Err (Broken n rule)) lacks empty judged = λ net f bytes h rest.
    (f, h.measures, refuses (limit_of 128) net f bytes old.lines.checker old.lines.number old.open.items h more n rule lacks judged rest)

-- a refused line leaves nothing to be said of what is kept
pub line_refused : (old new : TextCheck) (more : List ℕ) (e : CheckRefusal) → HasNoLineFeed more
    → RefusesLine (limit_of 128) old.lines.checker old.lines.number (old.open.items ++ more) e → TakesBytes old (more ++ 10 ∷ []) new (Err e)
line_refused old new more Memory lacks judged = λ net f bytes h rest. tt
line_refused old new more (Broken n rule) lacks judged = λ net f bytes h rest.
    (f, h.measures, refuses (limit_of 128) net f bytes old.lines.checker old.lines.number old.open.items h more n rule lacks judged rest)

-- more bytes of a line that stays open
pub stays_open : (old new : TextCheck) (more : List ℕ) → HasNoLineFeed more → length more ≤ line_limit - length old.open.items
    → new.lines.checker ≡ old.lines.checker → new.lines.number ≡ old.lines.number → new.open.items ≡ old.open.items ++ more → TakesBytes old more new Taken
stays_open old new more lacks short same_checker same_number longer net f bytes h =
    let within : length (old.open.items ++ more) ≤ line_limit = omega (arith, h.short, length-append old.open.items more) in
    let read = goes_on (limit_of 128) net f bytes old.lines.checker old.lines.number old.open.items h more lacks within in
    subst (λ (c : Checking). HasRead (limit_of 128) net f (bytes ++ more) c new.lines.number new.open.items) (sym same_checker)
    (subst (λ (n : ℕ). HasRead (limit_of 128) net f (bytes ++ more) old.lines.checker n new.open.items) (sym same_number)
    (subst (λ (o : List ℕ). HasRead (limit_of 128) net f (bytes ++ more) old.lines.checker old.lines.number o) (sym longer) read))

-- too many of them
pub grows_too_long : (old new : TextCheck) (more : List ℕ) → HasNoLineFeed more → line_limit - length old.open.items < length more
    → TakesBytes old more new (Err (Broken old.lines.number Text))
grows_too_long old new more lacks long net f bytes h rest = (
  f,
  h.measures,
  too_long (limit_of 128) net f bytes old.lines.checker old.lines.number old.open.items h more rest lacks (omega (arith, length-append old.open.items more)),
)

-- ---- where a line ends

-- a line feed stands here, and none before it
pub record IsLineEnd (bytes : List ℕ) (end : ℕ) : Type 0 where
  pub within : end < length bytes
  pub first : HasNoLineFeed (take end bytes)
  pub parts : bytes ≡ (take end bytes ++ 10 ∷ []) ++ drop (end + 1) bytes

pub found : (bytes : List ℕ) (end : ℕ) → position is_line_feed bytes ≡ Some end → IsLineEnd bytes end
found bytes end is =
    let at = position-Some is_line_feed bytes end 0 is in
    let next : suc end ≡ end + 1 = omega arith in
    record {
      within = at.0;
      first = λ k d lt. before k d lt;
      parts = split_at bytes end 0 at.0
          ∙ ap (λ b. take end bytes ++ b ∷ drop (suc end) bytes) (eqb-true (get_or bytes end 0) 10 at.1)
          ∙ ap (λ n. take end bytes ++ 10 ∷ drop n bytes) next
          ∙ sym (append_assoc (take end bytes) (10 ∷ []) (drop (end + 1) bytes));
    }
  where
    before : (k d : ℕ) → k < length (take end bytes) → is_line_feed (get_or (take end bytes) k d) ≡ false
    before k d lt =
        let low : k < end = omega (arith, length-take {A = ℕ}) in
        ap is_line_feed (get_or-take end bytes k d low) ∙ (position-Some is_line_feed bytes end d is).2 k low

not_none : {X : Type 0} (t : Bool) (x : X) → cond t (Some x) None ≡ None → t ≡ false
not_none true x e = absurd cc
not_none false x e = refl

pub not_found : (bytes : List ℕ) → position is_line_feed bytes ≡ None → HasNoLineFeed bytes
not_found bytes is = λ k d lt.
    let none : nat_lt (position_or_len is_line_feed bytes) (length bytes) ≡ false = not_none (nat_lt (position_or_len is_line_feed bytes) (length bytes)) (position_or_len is_line_feed bytes) is in
    fails_before_first is_line_feed bytes k d (grind (arith, nat_tests))

-- ---- the end

pub open_at_end : (t : TextCheck) → 0 < length t.open.items → Ends t (Err (Broken t.lines.number Text))
open_at_end t some = λ net f bytes h. (f, h.measures, unended (limit_of 128) net f bytes t.lines.checker t.lines.number t.open.items h some)

-- what is said of a check whose lines are at their end
abbrev pub IsFinished : TextCheck → Result Pair CheckRefusal → Type 0
IsFinished t r =
    MatchResult r
    (λ p. ProvesPair (limit_of 128) t.lines.checker (pair_value p))
    (λ e. verdict_with (limit_of 128) t.lines.checker [] ≡ Err e)

pub ends : (t : TextCheck) (r : Result Pair CheckRefusal) → t.open.items ≡ [] → IsFinished t r → Ends t r
ends t (Ok pair) none proved = λ net f bytes h.
    let well = ends_well (limit_of 128) net f bytes t.lines.checker t.lines.number t.open.items h none (pair_value pair) proved in
    record { items = well.0; lines = well.1; text = well.2; verdict = (f, h.measures, well.3); proves = well.4 }
ends t (Err Memory) none is = λ net f bytes h. tt
ends t (Err (Broken n rule)) none is = λ net f bytes h.
    (f, h.measures, ends_badly (limit_of 128) net f bytes t.lines.checker t.lines.number t.open.items h none (Broken n rule) is)

-- ---- a whole text

-- where it is accepted, its verdict is the pair
pub accepted_verdict : (net : Network) (bytes : List ℕ) (pair : PairValue) → IsAcceptedText net bytes pair → IsTextVerdict net bytes (Ok pair)
accepted_verdict net bytes pair is = (
  is.verdict.0,
  is.verdict.1,
  ap (bytes_verdict (limit_of 128) net is.verdict.0) is.text ∙ written_verdict (limit_of 128) net is.verdict.0 is.items is.lines ∙ is.verdict.2,
)

-- a line of it is refused
pub text_refused : (net : Network) (bytes : List ℕ) (e : CheckRefusal) (r : Result Pair TextRefusal) → IsErrAnd r (λ x. x ≡ line_refusal e) → IsTextRefusal net bytes (line_refusal e)
    → IfErr r (IsTextRefusal net bytes)
text_refused net bytes e (Ok pair) is h = absurd is
text_refused net bytes e (Err x) is h = subst (IsTextRefusal net bytes) (sym is) h

-- all bytes of it were taken, from the first on
pub whole_text_refused : (net : Network) (bytes : List ℕ) (old new : TextCheck) (e : CheckRefusal) → ((f : Measures) × HasBytes net f [] old) → TakesBytes old bytes new (Err e) → IsTextRefusal net bytes (line_refusal e)
whole_text_refused net bytes old new e start takes =
    subst (λ (b : List ℕ). IsTextRefusal net b (line_refusal e)) (append-nil bytes) (takes net start.0 [] start.1 [])
