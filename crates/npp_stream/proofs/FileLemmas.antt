-- What was taken of a file, and what is answered about it.
use Rattle.std.proofs.Common.{◌≡◌, ◌∙◌, ◌<◌, ◌≤◌, ◌+◌, ◌-◌, ◌⊎◌, ap, sym, refl, subst, ℕ, List, [], ◌++◌, length, take, drop, replicate, min, Option, Some, None, Result, Ok, Err, IsErrAnd, arith, append-nil, length-append, length-take, length-drop, take-take, take-add, take_all, inl, inr}
use Rattle.std.specs.Bool.{⊤}
use Rattle.std.proofs.lemmas.List.{length-replicate, take-append-drop}
use Rattle.npp_outside.specs.Shelf.{Files, file_at, GivesPiece, GivesPieceOf}
use Rattle.npp_net.specs.Network.{Network}
use Rattle.npp_tree.specs.declared.outcome.Pair.{Pair}
use Rattle.npp_check.specs.declared.refusal.CheckRefusal.{CheckRefusal}
use Rattle.npp_check.specs.declared.refusal.CheckRefusal.TheVariants.{Broken, Memory}
use Rattle.npp_check.specs.Measures.{Measures, AreMeasures}
use Rattle.npp_stream.specs.declared.refusal.FileRefusal.{FileRefusal}
use Rattle.npp_stream.specs.declared.refusal.FileRefusal.TheVariants as file
use Rattle.npp_stream.specs.declared.stream.TextCheck.{TextCheck}
use Rattle.npp_stream.specs.Refusals.{line_refusal, file_refusal}
use Rattle.npp_stream.specs.TextVerdicts.{IsTextRefusal, certificate_limit, AnswersBytes, AnswersContent, AnswersFile, MeasuresFile}
use Rattle.npp_stream.specs.Stream.{HasBytes, TakesBytes, Ends}

-- so many bytes were taken of what stands under the name, and these are the first of them, up to the limit
abbrev pub IsFrontOf : ℕ → Option (List ℕ) → ℕ → List ℕ → Type 0
IsFrontOf limit None taken front = taken ≡ 0
IsFrontOf limit (Some bytes) taken front = (front ≡ take (min taken limit) bytes) × (taken ≤ length bytes)

abbrev pub IsFront : ℕ → Option Files → List ℕ → ℕ → List ℕ → Type 0
IsFront limit None name taken front = ⊤
IsFront limit (Some files) name taken front = IsFrontOf limit (file_at files name) taken front

-- so many bytes of a file were taken, and those up to the limit were judged
pub record IsUnderWay (limit : ℕ) (net : Network) (held : Option Files) (name : List ℕ) (taken : ℕ) (t : TextCheck) : Type 0 where
  pub measures : Measures
  pub front : List ℕ
  pub judged : HasBytes net measures front t
  pub size : length front ≡ min taken limit
  pub told : IsFront limit held name taken front

-- whatever the answer
pub is_measured : (net : Network) (f : Measures) → AreMeasures net f → (result : Result Pair FileRefusal) → MeasuresFile net result
is_measured net f are (Ok pair) = (f, are)
is_measured net f are (Err (file.NoFreePath k)) = tt
is_measured net f are (Err file.Missing) = (f, are)
is_measured net f are (Err file.Failed) = (f, are)
is_measured net f are (Err file.TooLong) = (f, are)
is_measured net f are (Err (file.Broken line rule)) = (f, are)
is_measured net f are (Err file.Memory) = tt

-- ---- bytes

-- the first bytes of a file, where so many more were taken
front_grows : (limit taken n within : ℕ) (bytes front piece : List ℕ) → taken ≤ limit → within ≡ min n (limit - taken) → n ≤ length piece
    → front ≡ take (min taken limit) bytes → taken ≤ length bytes → take n piece ≡ take n (drop taken bytes)
    → (front ++ take within piece ≡ take (min (taken + n) limit) bytes) × (taken + n ≤ length bytes)
front_grows limit taken n within bytes front piece low is many same told read =
    let sizes : min n (length piece) ≡ min n (length bytes - taken) = sym (length-take n piece) ∙ ap length read ∙ length-take n (drop taken bytes) ∙ ap (min n) (length-drop taken bytes) in
    let few : within ≤ n = omega arith in
    let piece_is : take within piece ≡ take within (drop taken bytes) = sym (take-take within n piece few) ∙ ap (take within) read ∙ take-take within n (drop taken bytes) few in
    let first : min taken limit ≡ taken = omega arith in
    let all : taken + within ≡ min (taken + n) limit = omega arith in (
      ap (λ f. f ++ take within piece) (same ∙ ap (λ k. take k bytes) first) ∙ ap (λ p. take taken bytes ++ p) piece_is ∙ sym (take-add taken within bytes) ∙ ap (λ k. take k bytes) all,
      omega arith,
    )

front_size : (limit taken n within : ℕ) (front piece : List ℕ) → taken ≤ limit → within ≡ min n (limit - taken) → n ≤ length piece → length front ≡ min taken limit
    → length (front ++ take within piece) ≡ min (taken + n) limit
front_size limit taken n within front piece low is many size = omega (arith, length-append front (take within piece), length-take within piece)

-- a list of more than n bytes
longer_than : (n : ℕ) → (bytes : List ℕ) × (n < length bytes)
longer_than n = (replicate (n + 1) 0, omega (arith, length-replicate {A = ℕ} (n + 1) 0))

-- ---- the loop

module _ (limit : ℕ) (net : Network) (name : List ℕ) (taken n within : ℕ) (piece : List ℕ) (low : taken ≤ limit) (is : within ≡ min n (limit - taken)) (many : n ≤ length piece) where
  front_after : (front : List ℕ) (held : Option Files) → GivesPiece held name taken (length piece) piece (Ok n) → IsFront limit held name taken front → IsFront limit held name (taken + n) (front ++ take within piece)
  front_after front None gives told = tt
  front_after front (Some files) gives told = by_file (file_at files name) gives told
    where
      by_file : (content : Option (List ℕ)) → GivesPieceOf content taken (length piece) piece (Ok n) → IsFrontOf limit content taken front → IsFrontOf limit content (taken + n) (front ++ take within piece)
      by_file None gives told = absurd gives
      by_file (Some bytes) gives told = front_grows limit taken n within bytes front piece low is many told.0 told.1 gives.read

  pub goes_on : (held : Option Files) (old new : TextCheck) → IsUnderWay limit net held name taken old → GivesPiece held name taken (length piece) piece (Ok n)
      → TakesBytes old (take within piece) new (Ok tt) → IsUnderWay limit net held name (taken + n) new
  goes_on held old new way gives takes = record {
    measures = way.measures;
    front = way.front ++ take within piece;
    judged = takes net way.measures way.front way.judged;
    size = front_size limit taken n within way.front piece low is many way.size;
    told = front_after way.front held gives way.told;
  }

  -- a line is refused
  refused_bytes : (bytes : List ℕ) (e : CheckRefusal) → IsTextRefusal net bytes (line_refusal e) → AnswersBytes net bytes (Err (file_refusal (line_refusal e)))
  refused_bytes bytes (Broken line rule) refused = refused
  refused_bytes bytes Memory refused = tt

  pub stops : (held : Option Files) (old new : TextCheck) (e : CheckRefusal) → IsUnderWay limit net held name taken old → GivesPiece held name taken (length piece) piece (Ok n)
      → TakesBytes old (take within piece) new (Err e) → AnswersFile net held name (Err (file_refusal (line_refusal e)))
  stops held old new e way gives takes = by_held held gives way.told
    where
      by_file : (content : Option (List ℕ)) → GivesPieceOf content taken (length piece) piece (Ok n) → IsFrontOf limit content taken way.front → AnswersContent net content (Err (file_refusal (line_refusal e)))
      by_file None gives told = absurd gives
      by_file (Some bytes) gives told =
          let k : ℕ = min (taken + n) limit in
          let same : way.front ++ take within piece ≡ take k bytes = (front_grows limit taken n within bytes way.front piece low is many told.0 told.1 gives.read).0 in
          let whole : (way.front ++ take within piece) ++ drop k bytes ≡ bytes = ap (λ f. f ++ drop k bytes) same ∙ take-append-drop k bytes in
          refused_bytes bytes e (subst (λ (b : List ℕ). IsTextRefusal net b (line_refusal e)) whole (takes net way.measures way.front way.judged (drop k bytes)))

      by_held : (h : Option Files) → GivesPiece h name taken (length piece) piece (Ok n) → IsFront limit h name taken way.front → AnswersFile net h name (Err (file_refusal (line_refusal e)))
      by_held None gives told = (
        Some (way.front ++ take within piece),
        refused_bytes (way.front ++ take within piece) e
            (subst (λ (b : List ℕ). IsTextRefusal net b (line_refusal e)) (append-nil (way.front ++ take within piece)) (takes net way.measures way.front way.judged [])),
      )
      by_held (Some files) gives told = by_file (file_at files name) gives told

-- ---- the end

-- the answer where the bytes end
abbrev pub at_end : Result Pair CheckRefusal → Result Pair FileRefusal
at_end (Ok pair) = Ok pair
at_end (Err e) = Err (file_refusal (line_refusal e))

ended_bytes : (net : Network) (f : Measures) (bytes : List ℕ) (t : TextCheck) (r : Result Pair CheckRefusal) → length bytes ≤ certificate_limit → HasBytes net f bytes t → Ends t r → AnswersBytes net bytes (at_end r)
ended_bytes net f bytes t (Ok pair) short has ends = (short, ends net f bytes has)
ended_bytes net f bytes t (Err (Broken line rule)) short has ends = ends net f bytes has
ended_bytes net f bytes t (Err Memory) short has ends = tt

pub ended : (net : Network) (held : Option Files) (name : List ℕ) (taken : ℕ) (piece : List ℕ) (t : TextCheck) (r : Result Pair CheckRefusal) → taken ≤ certificate_limit → 0 < length piece
    → IsUnderWay certificate_limit net held name taken t → GivesPiece held name taken (length piece) piece (Ok 0) → Ends t r → AnswersFile net held name (at_end r)
ended net held name taken piece t r low room way gives ends = by_held held gives way.told
  where
    by_file : (content : Option (List ℕ)) → GivesPieceOf content taken (length piece) piece (Ok 0) → IsFrontOf certificate_limit content taken way.front → AnswersContent net content (at_end r)
    by_file None gives told = absurd gives
    by_file (Some bytes) gives told =
        let over : length bytes ≤ taken = at_the_end bytes (gives.end refl) in
        let all : min taken certificate_limit ≡ length bytes = omega (arith, low, over, told.1) in
        let same : way.front ≡ bytes = told.0 ∙ ap (λ k. take k bytes) all ∙ take_all (length bytes) bytes (omega arith) in
        ended_bytes net way.measures bytes t r (omega (arith, low, told.1, over)) (subst (λ (b : List ℕ). HasBytes net way.measures b t) same way.judged) ends
      where
        at_the_end : (b : List ℕ) → (length piece ≡ 0) ⊎ (length b ≤ taken) → length b ≤ taken
        at_the_end b (inl none) = absurd (omega arith)
        at_the_end b (inr over) = over

    by_held : (h : Option Files) → GivesPiece h name taken (length piece) piece (Ok 0) → IsFront certificate_limit h name taken way.front → AnswersFile net h name (at_end r)
    by_held None gives told = (Some way.front, ended_bytes net way.measures way.front t r (omega (arith, way.size)) way.judged ends)
    by_held (Some files) gives told = by_file (file_at files name) gives told

-- a refusal that is passed on
pub file_refused : (net : Network) (held : Option Files) (name : List ℕ) (e : CheckRefusal) (r : Result Pair FileRefusal) → IsErrAnd r (λ x. x ≡ file_refusal (line_refusal e))
    → AnswersFile net held name (Err (file_refusal (line_refusal e))) → AnswersFile net held name r
file_refused net held name e (Ok pair) is answers = absurd is
file_refused net held name e (Err x) is answers = subst (λ (y : FileRefusal). AnswersFile net held name (Err y)) (sym is) answers

-- more bytes than there may be
pub passes_limit : (net : Network) (held : Option Files) (name : List ℕ) (taken : ℕ) (t : TextCheck) → certificate_limit < taken → IsUnderWay certificate_limit net held name taken t → AnswersFile net held name (Err file.TooLong)
passes_limit net held name taken t high way = by_held held way.told
  where
    by_file : (content : Option (List ℕ)) → IsFrontOf certificate_limit content taken way.front → AnswersContent net content (Err file.TooLong)
    by_file None told = absurd (omega (arith, told))
    by_file (Some bytes) told = omega (arith, told.1)

    by_held : (h : Option Files) → IsFront certificate_limit h name taken way.front → AnswersFile net h name (Err file.TooLong)
    by_held None told = let long = longer_than certificate_limit in (Some long.0, long.1)
    by_held (Some files) told = by_file (file_at files name) told
