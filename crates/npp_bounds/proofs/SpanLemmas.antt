-- The spans from a place on.
use Rattle.std.proofs.Common.{◌≡◌, inl, inr, ℕ, ◌+◌, ◌-◌, ◌*◌, ◌<◌, ◌≤◌, List, [], ◌∷◌, length, get_or, drop, ◌++◌, None, refl, ◌∙◌, ap, subst, arith, true}
use Rattle.std.proofs.lemmas.List.{drop_more, drop_all}
use Rattle.std.proofs.lemmas.Bool.{cases_lt}
use Rattle.npp_net.specs.declared.types.ArcId.{ArcId}
use Rattle.npp_net.specs.declared.types.NetArc.{NetArc}
use Rattle.npp_net.specs.declared.types.Commodity.{Commodity}
use Rattle.npp_net.specs.Distance.{IsUsableWalk, IsDistance, IsSpan, HasNoFreePath}
use Rattle.npp_net.specs.declared.types.Span.{Span}
use Rattle.npp_bounds.specs.Spans.{AreSpans, basic}

-- toll arcs may stand in a walk where tolls are allowed
pub all_usable : (arcs : List NetArc) (walk : List ArcId) → IsUsableWalk true arcs walk
all_usable arcs [] = tt
all_usable arcs (a ∷ walk) = (tt, all_usable arcs walk)

-- a walk costs no more where toll arcs may be used
pub zero_below : (arcs : List NetArc) (k : Commodity) (s : Span) → IsSpan arcs k s → s.zero ≤ s.free
zero_below arcs k s is =
    let f = is.free_least.attained in
    let below = is.zero_least.least f.0 (record { path = f.1.path; usable = all_usable arcs f.0 }) in
    omega (arith, f.2, below)

pub record SpansNext (arcs : List NetArc) (i : ℕ) (ks : List Commodity) (ss : List Span) (k : Commodity) (s : Span) : Type 0 where
  pub within : i < length ks
  pub here : IsSpan arcs k s
  pub above : s.zero ≤ s.free
  pub rest : AreSpans arcs (drop (i + 1) ks) (drop (i + 1) ss)
  pub sum : basic (drop i ks) (drop i ss) ≡ k.demand * (s.free - s.zero) + basic (drop (i + 1) ks) (drop (i + 1) ss)

none_left : (arcs : List NetArc) (s : Span) (ss : List Span) → AreSpans arcs [] (s ∷ ss) → ⊥
none_left arcs s ss a = a

pub spans_next : (arcs : List NetArc) (i : ℕ) (ks : List Commodity) (ss : List Span) (dk : Commodity) (ds : Span) → i < length ss
    → AreSpans arcs (drop i ks) (drop i ss) → SpansNext arcs i ks ss (get_or ks i dk) (get_or ss i ds)
spans_next arcs i ks ss dk ds lt a =
    let a' : AreSpans arcs (drop i ks) (get_or ss i ds ∷ drop (i + 1) ss) = subst (λ (x : List Span). AreSpans arcs (drop i ks) x) (drop_more ss i ds lt) a in
    elim (cases_lt i (length ks)) [
      | inr past ↦ absurd (none_left arcs (get_or ss i ds) (drop (i + 1) ss) (subst (λ (x : List Commodity). AreSpans arcs x (get_or ss i ds ∷ drop (i + 1) ss)) (drop_all i ks past) a'))
      | inl within ↦
          let b : AreSpans arcs (get_or ks i dk ∷ drop (i + 1) ks) (get_or ss i ds ∷ drop (i + 1) ss) =
          subst (λ (x : List Commodity). AreSpans arcs x (get_or ss i ds ∷ drop (i + 1) ss)) (drop_more ks i dk within) a' in
          record {
            within = within;
            here = b.0;
            above = zero_below arcs (get_or ks i dk) (get_or ss i ds) b.0;
            rest = b.1;
            sum = rw (drop_more ks i dk within, drop_more ss i ds lt) refl;
          }
    ]

basic_none : (ks : List Commodity) → basic ks [] ≡ 0
basic_none [] = refl
basic_none (k ∷ ks) = refl

-- at the end what was added is the whole
pub basic_all : (ks : List Commodity) (ss : List Span) (i total : ℕ) → length ss ≤ i → total + basic (drop i ks) (drop i ss) ≡ basic ks ss → total ≡ basic ks ss
basic_all ks ss i total past sum =
    let none : basic (drop i ks) (drop i ss) ≡ 0 = ap (λ (x : List Span). basic (drop i ks) x) (drop_all i ss past) ∙ basic_none (drop i ks) in
    omega (arith, none, sum)

-- where no walk is there, none does without tolls
pub no_free_path : (arcs : List NetArc) (k : Commodity) → IsDistance arcs true k.origin.0 k.destination.0 None → HasNoFreePath arcs k
no_free_path arcs k none = λ walk leads. none walk (record { path = leads.path; usable = all_usable arcs walk })

-- one more span
pub spans_push : (arcs : List NetArc) (ks : List Commodity) (ss : List Span) (k : Commodity) (s : Span) → AreSpans arcs ks ss
    → IsSpan arcs k s → AreSpans arcs (ks ++ k ∷ []) (ss ++ s ∷ [])
spans_push arcs [] [] k s spans here = (here, tt)
spans_push arcs [] (t ∷ ts) k s spans here = absurd spans
spans_push arcs (l ∷ ls) [] k s spans here = absurd spans
spans_push arcs (l ∷ ls) (t ∷ ts) k s spans here = (spans.0, spans_push arcs ls ts k s spans.1 here)
