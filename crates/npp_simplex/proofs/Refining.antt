-- The lexicographic comparison, key by key.
use Rattle.std.proofs.Common.{◌≡◌, ℕ, suc, ◌+◌, ◌-◌, ◌<◌, ◌≤◌, List, [], ◌∷◌, length, slice_index, Option, Some, None, Result, Ok, Err, IfOk, arith, ap, sym, ◌∙◌, refl, subst}
use Rattle.std.specs.List.{range_with_len, list_all}
use Rattle.std.proofs.lemmas.List.Elements.{All-filter}
use Rattle.std.specs.Prelude.{not}
use Rattle.npp_frac.specs.Rational.{is_less}
use Rattle.npp_lp.specs.Verdict.{or_else, unless}
use Rattle.npp_simplex.specs.declared.stage.Stage.{Stage}
use Rattle.npp_simplex.specs.declared.place.Place.{Place}
use Rattle.npp_simplex.specs.Tableau.{Tableau}
use Rattle.npp_simplex.specs.Ratio.{compared, refined, least_rows}
use Rattle.npp_simplex.specs.Places.{quotients_stop, ratio_stop, remaining}
use Rattle.npp_simplex.specs.Meaning.{IsCandidate, AreCandidates}
use Rattle.npp_simplex.proofs.RatioLemmas.{some_least_row}

pub range_next : (a e : ℕ) → a < e → range_with_len a (e - a) ≡ a ∷ range_with_len (a + 1) (e - (a + 1))
range_next a e l =
    let size : e - a ≡ suc (e - (a + 1)) = omega arith in
    ap (range_with_len a) size

pub or_else_none : {F : Type 0} (a b : Option F) → a ≡ None → or_else a b ≡ b
or_else_none None b e = refl
or_else_none (Some x) b e = cc

pub or_else_some : {F : Type 0} (a b : Option F) (x : F) → a ≡ Some x → or_else a b ≡ Some x
or_else_some None b x e = cc
or_else_some (Some y) b x e = e

module _ (limit : Option ℕ) (s : Stage) (t : Tableau) (c : ℕ) where
  -- the rows are compared at one more key
  pub remains_more : (k : ℕ) (ks rows : List ℕ) → 2 ≤ length rows → quotients_stop limit s t c k rows ≡ None → remaining limit s t c (k ∷ ks) rows ≡ remaining limit s t c ks (least_rows (compared s t c k) rows)
  remains_more k ks [] l e = absurd (omega arith)
  remains_more k ks (i ∷ []) l e = absurd (omega arith)
  remains_more k ks (i ∷ j ∷ rows) l e =
      let next = least_rows (compared s t c k) (i ∷ j ∷ rows) in
      ap (λ o. unless o (Ok (slice_index (refined (compared s t c) ks next) 0))) (or_else_none (quotients_stop limit s t c k (i ∷ j ∷ rows)) (ratio_stop limit s t c ks next) e)

  -- and something does not fit there
  pub remains_none : (k : ℕ) (ks rows : List ℕ) (p : Place) → 2 ≤ length rows → quotients_stop limit s t c k rows ≡ Some p → remaining limit s t c (k ∷ ks) rows ≡ Err p
  remains_none k ks [] p l e = absurd (omega arith)
  remains_none k ks (i ∷ []) p l e = absurd (omega arith)
  remains_none k ks (i ∷ j ∷ rows) p l e =
      let next = least_rows (compared s t c k) (i ∷ j ∷ rows) in
      ap (λ o. unless o (Ok (slice_index (refined (compared s t c) ks next) 0))) (or_else_some (quotients_stop limit s t c k (i ∷ j ∷ rows)) (ratio_stop limit s t c ks next) p e)

  pub least_candidates : (k : ℕ) (rows : List ℕ) → AreCandidates t c rows → AreCandidates t c (least_rows (compared s t c k) rows)
  least_candidates k rows h = All-filter (λ i. list_all (λ j. not (is_less (compared s t c k j) (compared s t c k i))) rows) (IsCandidate t c) rows h

  -- the rows that are left are compared at the keys from a on, of which the last is before e
  pub record StandsAt (keys rows : List ℕ) (a e : ℕ) (left : List ℕ) : Type 0 where
    pub some : 0 < length left
    pub candidates : AreCandidates t c left
    pub rest : remaining limit s t c (range_with_len a (e - a)) left ≡ remaining limit s t c keys rows

  pub stands_more : (keys rows left fewer : List ℕ) (a e : ℕ) → a < e → 2 ≤ length left → fewer ≡ least_rows (compared s t c a) left → quotients_stop limit s t c a left ≡ None → StandsAt keys rows a e left → StandsAt keys rows (a + 1) e fewer
  stands_more keys rows left fewer a e l two is fits h = record {
    some = subst (λ z. 0 < length z) (sym is) (some_least_row (compared s t c a) left h.some);
    candidates = subst (AreCandidates t c) (sym is) (least_candidates a left h.candidates);
    rest = ap (remaining limit s t c (range_with_len (a + 1) (e - (a + 1)))) is ∙ sym (remains_more a (range_with_len (a + 1) (e - (a + 1))) left two fits) ∙ ap (λ ks. remaining limit s t c ks left) (sym (range_next a e l)) ∙ h.rest;
  }

pub if_ok : {T E : Type 0} (r : Result T E) (P Q : T → Type 0) → ((x : T) → P x → Q x) → IfOk r P → IfOk r Q
if_ok (Ok x) P Q f h = f x h
if_ok (Err e) P Q f h = h
