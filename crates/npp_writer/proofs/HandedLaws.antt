-- One hand-over after another.
use Rattle.std.proofs.Common.{◌≡◌, ℕ, ◌+◌, ◌<◌, ◌≤◌, List, [], ◌++◌, length, take, Option, Some, None, Result, Ok, Err, MatchResult, OnOk, ◌∙◌, ap, sym, subst, refl, arith, append_assoc, length-append}
use Rattle.std.specs.Result.{IsErrAnd}
use Rattle.std.proofs.lemmas.List.{append-nil, take-append-le}
use Rattle.std.proofs.Math.Seq.{take-append-add}
use Rattle.npp_net.specs.declared.types.Memory.{Memory}
use Rattle.npp_outside.specs.declared.sink.SinkAnswer.{SinkAnswer}
use Rattle.npp_outside.specs.declared.sink.SinkAnswer.TheVariants as answer
use Rattle.npp_outside.specs.Sink.{GrewBy, WritesWhole, HasSinkCause}
use Rattle.npp_writer.specs.Handed.{AreHanded, AreCutOff, Hands, IsWanting}

-- nothing more was written
pub grew_none : (old : Option (List ℕ)) → GrewBy old old []
grew_none None = refl
grew_none (Some w) = ap (λ (x : List ℕ). Some x) (sym (append-nil w))

-- one part and then another
pub grew_twice : (old mid new : Option (List ℕ)) (first second : List ℕ) → GrewBy old mid first → GrewBy mid new second → GrewBy old new (first ++ second)
grew_twice None None new first second before after = after
grew_twice None (Some w) new first second before after = cc
grew_twice (Some w) None new first second before after = cc
grew_twice (Some w) (Some v) new first second before after =
    let v_is : v ≡ w ++ first = cc in
    after ∙ ap (λ (x : List ℕ). Some x) (rw v_is (append_assoc w first second))

module _ (old mid new : Option (List ℕ)) (f g h : ℕ) (before x y : List ℕ) where
  -- bytes were handed on, and more behind them
  pub handed_more : (rest last : List ℕ) → AreHanded old mid f g before x rest → AreHanded mid new g h rest y last → AreHanded old new f h before (x ++ y) last
  handed_more rest last first second = record {
    part = first.part ++ second.part;
    grew = grew_twice old mid new first.part second.part first.grew second.grew;
    whole =
        append_assoc first.part second.part last
        ∙ ap (λ t. first.part ++ t) second.whole
        ∙ sym (append_assoc first.part rest y)
        ∙ ap (λ t. t ++ y) first.whole
        ∙ append_assoc before x y;
    stay = omega (arith, first.stay, second.stay);
  }

  -- bytes were handed on, and what follows is cut off
  pub cut_later : (rest : List ℕ) (a : SinkAnswer) → AreHanded old mid f g before x rest → AreCutOff mid new g h (rest ++ y) a → AreCutOff old new f h (before ++ (x ++ y)) a
  cut_later rest a first cut =
      let whole : first.part ++ (rest ++ y) ≡ before ++ (x ++ y) =
      sym (append_assoc first.part rest y) ∙ ap (λ t. t ++ y) first.whole ∙ append_assoc before x y in
      let grew : GrewBy old new (first.part ++ take cut.count (rest ++ y)) =
      grew_twice old mid new first.part (take cut.count (rest ++ y)) first.grew cut.grew in
      rw (← whole) (record {
        count = length first.part + cut.count;
        is_part = let part = cut.is_part in omega (arith, part, length-append first.part (rest ++ y));
        grew = rw (take-append-add first.part (rest ++ y) cut.count) grew;
        stay = omega (arith, first.stay, cut.stay);
        failed = λ e. let rose = cut.failed e in omega (arith, rose, first.stay);
      })

-- bytes were handed on, and then more are
pub and_then : (old mid new : Option (List ℕ)) (f g h : ℕ) (before x y rest last : List ℕ) (result : Result (Unit {0}) SinkAnswer)
    → AreHanded old mid f g before x rest → Hands mid new g h rest y last result → Hands old new f h before (x ++ y) last result
and_then old mid new f g h before x y rest last (Ok u) first second = handed_more old mid new f g h before x y rest last first second
and_then old mid new f g h before x y rest last (Err a) first cut = cut_later old mid new f g h before x y rest a first cut

-- what is cut off is cut off of more
pub cut_sooner : (old new : Option (List ℕ)) (f g : ℕ) (before x y : List ℕ) (a : SinkAnswer) → AreCutOff old new f g (before ++ x) a → AreCutOff old new f g (before ++ (x ++ y)) a
cut_sooner old new f g before x y a cut =
    let within : cut.count ≤ length (before ++ x) = let part = cut.is_part in omega (arith, part) in
    rw (← append_assoc before x y) (record {
      count = cut.count;
      is_part = let part = cut.is_part in omega (arith, part, length-append (before ++ x) y);
      grew = rw (take-append-le cut.count (before ++ x) y within) cut.grew;
      stay = cut.stay;
      failed = cut.failed;
    })

-- memory was wanting for bytes
pub cut_at_once : (old new : Option (List ℕ)) (f g : ℕ) (bytes : List ℕ) → 0 < length bytes → new ≡ old → g ≡ f → AreCutOff old new f g bytes answer.Memory
cut_at_once old new f g bytes some same same_faults =
    rw (same, same_faults) (record { count = 0; is_part = some; grew = grew_none old; stay = omega arith; failed = λ e. cc })

-- nothing was added, and nothing handed on
pub handed_none : (old : Option (List ℕ)) (f : ℕ) (before : List ℕ) → AreHanded old old f f before [] before
handed_none old f before = record { part = []; grew = grew_none old; whole = sym (append-nil before); stay = omega arith }

-- all that was gathered was handed on
pub handed_all : (old new : Option (List ℕ)) (f g : ℕ) (before rest : List ℕ) → GrewBy old new before → f ≤ g → rest ≡ [] → AreHanded old new f g before [] rest
handed_all old new f g before rest grew stay none = record { part = before; grew = grew; whole = ap (λ t. before ++ t) none; stay = stay }

-- lines were added, and then all of it was handed on or not
pub passed : (old new : Option (List ℕ)) (f g : ℕ) (before x mid rest : List ℕ) (added : Result (Unit {0}) Memory) (result : Result (Unit {0}) SinkAnswer)
    → 0 < length x → OnOk added (mid ≡ before ++ x)
    → MatchResult added (λ _. Hands old new f g mid [] rest result) (λ _. IsWanting old new f g result)
    → Hands old new f g before x rest result
passed old new f g before x mid rest (Ok u) (Ok v) some is hands =
    record { part = hands.part; grew = hands.grew; whole = hands.whole ∙ append-nil mid ∙ is; stay = hands.stay }
passed old new f g before x mid rest (Ok u) (Err a) some is hands =
    let whole : mid ++ [] ≡ before ++ x = append-nil mid ∙ is in
    rw whole at hands
passed old new f g before x mid rest (Err e) (Ok v) some is wanting = let no = wanting.answer in cc
passed old new f g before x mid rest (Err e) (Err a) some is wanting =
    let a_is : a ≡ answer.Memory = let same = wanting.answer in cc in
    rw a_is (cut_at_once old new f g (before ++ x) (omega (arith, length-append before x)) wanting.same wanting.same_faults)

-- an answer that stands for what is cut off
pub returned : (handed : Type 0) (old new : Option (List ℕ)) (f g : ℕ) (bytes : List ℕ) (result : Result (Unit {0}) SinkAnswer) (a : SinkAnswer)
    → IsErrAnd result (λ e. e ≡ a) → AreCutOff old new f g bytes a → MatchResult result (λ _. handed) (λ e. AreCutOff old new f g bytes e)
returned handed old new f g bytes (Ok u) a is cut = absurd is
returned handed old new f g bytes (Err e) a is cut = subst (λ (x : SinkAnswer). AreCutOff old new f g bytes x) (sym is) cut

module _ (old mid new : Option (List ℕ)) (f g h : ℕ) (before done x : List ℕ) where
  -- of a list of parts, one part more
  pub goes_on : (next rest last : List ℕ) → next ≡ done ++ x → AreHanded old mid f g before done rest → AreHanded mid new g h rest x last → AreHanded old new f h before next last
  goes_on next rest last next_is first second = rw next_is (handed_more old mid new f g h before done x rest last first second)

  -- of a list of parts, one is cut off, and more would follow
  pub stops : (all more rest last : List ℕ) (result : Result (Unit {0}) SinkAnswer) (a : SinkAnswer) → all ≡ (done ++ x) ++ more
      → AreHanded old mid f g before done rest → AreCutOff mid new g h (rest ++ x) a → IsErrAnd result (λ e. e ≡ a) → Hands old new f h before all last result
  stops all more rest last result a all_is first cut is =
      rw all_is
      (returned _ old new f h _ result a is
      (cut_sooner old new f h before (done ++ x) more a (cut_later old mid new f g h before done x rest a first cut)))

-- of parts, the first is cut off, and more would follow
pub stops_first : (old new : Option (List ℕ)) (f g : ℕ) (before x more all last : List ℕ) (result : Result (Unit {0}) SinkAnswer) (a : SinkAnswer) → all ≡ x ++ more
    → AreCutOff old new f g (before ++ x) a → IsErrAnd result (λ e. e ≡ a) → Hands old new f g before all last result
stops_first old new f g before x more all last result a all_is cut is =
    rw all_is (returned _ old new f g _ result a is (cut_sooner old new f g before x more a cut))

-- the same of bytes that are equal
pub along : (old new : Option (List ℕ)) (f g : ℕ) (before x y rest : List ℕ) (result : Result (Unit {0}) SinkAnswer) → x ≡ y
    → Hands old new f g before x rest result → Hands old new f g before y rest result
along old new f g before x y rest result same hands = subst (λ (z : List ℕ). Hands old new f g before z rest result) same hands

-- what is cut off was written in part
pub written_cut : (old new : Option (List ℕ)) (f g : ℕ) (text before x all : List ℕ) (result : Result (Unit {0}) SinkAnswer) (a : SinkAnswer)
    → text ≡ before → all ≡ before ++ x → IsErrAnd result (λ e. e ≡ a) → AreCutOff old new f g (text ++ x) a → WritesWhole old new all result
written_cut old new f g text before x all (Ok u) a text_is all_is is cut = absurd is
written_cut old new f g text before x all (Err e) a text_is all_is is cut =
    let same : text ++ x ≡ all = ap (λ t. t ++ x) text_is ∙ sym all_is in
    let of_all = subst (λ (z : List ℕ). AreCutOff old new f g z a) same cut in
    (of_all.count, of_all.is_part, of_all.grew)

-- the last bytes, which are gathered, are written
written_last : (old mid new : Option (List ℕ)) (f g : ℕ) (before x rest : List ℕ) (result : Result (Unit {0}) SinkAnswer)
    → AreHanded old mid f g before x rest → WritesWhole mid new rest result → WritesWhole old new (before ++ x) result
written_last old mid new f g before x rest (Ok u) handed grew =
    rw (← handed.whole) (grew_twice old mid new handed.part rest handed.grew grew)
written_last old mid new f g before x rest (Err a) handed cut =
    rw (← handed.whole) (
      length handed.part + cut.0,
      (let part = cut.1 in omega (arith, part, length-append handed.part rest)),
      rw (take-append-add handed.part rest cut.0) (grew_twice old mid new handed.part (take cut.0 rest) handed.grew cut.2),
    )

pub ended : (old mid new : Option (List ℕ)) (f g : ℕ) (text before x all rest bytes : List ℕ) (result : Result (Unit {0}) SinkAnswer)
    → text ≡ before → all ≡ before ++ x → bytes ≡ rest → AreHanded old mid f g text x rest → WritesWhole mid new bytes result → WritesWhole old new all result
ended old mid new f g text before x all rest bytes result text_is all_is bytes_are handed writes =
    let same : text ++ x ≡ all = ap (λ t. t ++ x) text_is ∙ sym all_is in
    let last = subst (λ (z : List ℕ). WritesWhole mid new z result) bytes_are writes in
    subst (λ (z : List ℕ). WritesWhole old new z result) same (written_last old mid new f g text x rest result handed last)
