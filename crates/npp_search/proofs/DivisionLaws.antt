-- The scans that find where a node is split.
use Rattle.std.proofs.Common.{◌≡◌, true, false, get_or, ℕ, ◌+◌, ◌<◌, ◌≤◌, List, [], length, map, sym, ◌∙◌, subst, ap, arith}
use Rattle.std.specs.Prelude.{slice_index, ◌∷◌}
use Rattle.std.proofs.lemmas.List.{get_or-map, get_or_read}
use Rattle.npp_frac.specs.Rational.{Rational, zero_ℚ, is_less, ◌≤ℚ◌, ◌<ℚ◌}
use Rattle.npp_frac.specs.Order.{is_less_yes, is_less_no, ≤ℚ_refl, ≤ℚ_trans, ≤ℚ_of_<ℚ, <ℚ_of_≤ℚ-<ℚ, <ℚ_of_<ℚ-≤ℚ}
use Rattle.npp_lp.specs.Programs.{at}
use Rattle.npp_rows.specs.Parts.{part_at}
use Rattle.npp_tree.specs.Family.{Family}
use Rattle.npp_search.specs.Rule.{HasSeveral, IsFirstGreatest, IsByCount, IsByShares, division_by, shares_at}
use Rattle.npp_search.specs.declared.division.Candidate.{Candidate}
use Rattle.npp_search.specs.Scan.{IsCandidate}
use Rattle.npp_search.proofs.FirstBest.{IsFirstBest, scan_begins, scan_takes, scan_keeps}

-- ---- the commodity with the most paths

abbrev pub AnyPlace : ℕ → Type 0
AnyPlace k = Unit {0}

abbrev pub NoMorePaths : Family → ℕ → ℕ → Type 0
NoMorePaths family l k = length (part_at family l) ≤ length (part_at family k)

abbrev pub FewerPaths : Family → ℕ → ℕ → Type 0
FewerPaths family l k = length (part_at family l) < length (part_at family k)

abbrev pub HasMostBelow : Family → ℕ → ℕ → Type 0
HasMostBelow family n k = IsFirstBest AnyPlace (NoMorePaths family) (FewerPaths family) n k

module _ (family : Family) where
  paths_itself : (a : ℕ) → AnyPlace a → NoMorePaths family a a
  paths_itself a h = omega arith

  paths_weaker : (a b : ℕ) → FewerPaths family a b → NoMorePaths family a b
  paths_weaker a b h = omega arith

  paths_go_on : (a b c : ℕ) → AnyPlace b → NoMorePaths family a b → FewerPaths family b c → FewerPaths family a c
  paths_go_on a b c h k l = omega (arith, k, l)

  pub most_begins : HasMostBelow family 1 0
  most_begins =
      scan_begins AnyPlace (NoMorePaths family) (FewerPaths family) paths_itself paths_weaker paths_go_on 0 tt (λ j lt h. absurd (omega (arith, lt)))

  pub most_takes : (n k : ℕ) → HasMostBelow family n k → FewerPaths family k n → HasMostBelow family (n + 1) n
  most_takes n k h less = scan_takes AnyPlace (NoMorePaths family) (FewerPaths family) paths_itself paths_weaker paths_go_on n k h tt less

  -- at the end no commodity has more
  pub is_by_count : (n k path : ℕ) → HasMostBelow family n k → length family ≤ n → k < length family → (l : ℕ) → HasSeveral family l → path ≡ slice_index (part_at family k) 0
      → IsByCount family (division_by k path)
  is_by_count n k path h whole lt l several same = record {
    several = record { in_range = lt; several = (let more : length (part_at family l) ≤ length (part_at family k) = h.best l (omega (arith, several.in_range, whole)) tt in omega (arith, more, several.several)) };
    part = ap (λ q. q ∷ []) same;
    most = λ j u. h.best j (omega (arith, u, whole)) tt;
    first = λ j u. h.first j u tt;
  }

  pub most_keeps : (n k : ℕ) → HasMostBelow family n k → NoMorePaths family n k → HasMostBelow family (n + 1) k
  most_keeps n k h no_more = scan_keeps AnyPlace (NoMorePaths family) (FewerPaths family) paths_itself paths_weaker paths_go_on n k h (λ _. no_more)

-- ---- the greatest share

abbrev pub NoGreater : List Rational → ℕ → ℕ → Type 0
NoGreater xs i j = at xs i ≤ℚ at xs j

abbrev pub LessThan : List Rational → ℕ → ℕ → Type 0
LessThan xs i j = at xs i <ℚ at xs j

abbrev pub HasGreatestBelow : List Rational → ℕ → ℕ → Type 0
HasGreatestBelow xs n i = IsFirstBest AnyPlace (NoGreater xs) (LessThan xs) n i

module _ (xs : List Rational) where
  number_itself : (a : ℕ) → AnyPlace a → NoGreater xs a a
  number_itself a h = ≤ℚ_refl (at xs a)

  number_weaker : (a b : ℕ) → LessThan xs a b → NoGreater xs a b
  number_weaker a b h = ≤ℚ_of_<ℚ h

  number_goes_on : (a b c : ℕ) → AnyPlace b → NoGreater xs a b → LessThan xs b c → LessThan xs a c
  number_goes_on a b c h k l = <ℚ_of_≤ℚ-<ℚ k l

  pub greatest_begins : HasGreatestBelow xs 1 0
  greatest_begins =
      scan_begins AnyPlace (NoGreater xs) (LessThan xs) number_itself number_weaker number_goes_on 0 tt (λ j lt h. absurd (omega (arith, lt)))

  pub greatest_takes : (n k : ℕ) → HasGreatestBelow xs n k → LessThan xs k n → HasGreatestBelow xs (n + 1) n
  greatest_takes n k h less = scan_takes AnyPlace (NoGreater xs) (LessThan xs) number_itself number_weaker number_goes_on n k h tt less

  pub greatest_keeps : (n k : ℕ) → HasGreatestBelow xs n k → NoGreater xs n k → HasGreatestBelow xs (n + 1) k
  greatest_keeps n k h no_more = scan_keeps AnyPlace (NoGreater xs) (LessThan xs) number_itself number_weaker number_goes_on n k h (λ _. no_more)

  pub is_first_greatest : (n i : ℕ) → HasGreatestBelow xs n i → length xs ≤ n → i < length xs → IsFirstGreatest xs i
  is_first_greatest n i h whole lt = record { in_range = lt; greatest = λ j l. h.best j (omega (arith, l, whole)) tt; first = λ j l. h.first j l tt }

-- ---- the commodity whose greatest share is least

module _ (family : Family) (shares : List (List Rational)) where
  -- a commodity with several paths, and the place of its greatest share
  pub record HasTop (k : ℕ) : Type 0 where
    pub several : HasSeveral family k
    pub place : ℕ
    pub top : IsFirstGreatest (shares_at shares k) place

  -- whatever the places of the greatest shares of both
  abbrev pub NoLess : ℕ → ℕ → Type 0
  NoLess l k = (i j : ℕ) → IsFirstGreatest (shares_at shares l) i → IsFirstGreatest (shares_at shares k) j → at (shares_at shares k) j ≤ℚ at (shares_at shares l) i

  abbrev pub Lesser : ℕ → ℕ → Type 0
  Lesser l k = (i j : ℕ) → IsFirstGreatest (shares_at shares l) i → IsFirstGreatest (shares_at shares k) j → at (shares_at shares k) j <ℚ at (shares_at shares l) i

  abbrev pub HasLeastBelow : ℕ → ℕ → Type 0
  HasLeastBelow n k = IsFirstBest HasTop NoLess Lesser n k

  share_itself : (a : ℕ) → HasTop a → NoLess a a
  share_itself a h i j e f = e.greatest j f.in_range

  share_weaker : (a b : ℕ) → Lesser a b → NoLess a b
  share_weaker a b h i j e f = ≤ℚ_of_<ℚ (h i j e f)

  share_goes_on : (a b c : ℕ) → HasTop b → NoLess a b → Lesser b c → Lesser a c
  share_goes_on a b c h k l i j e f = <ℚ_of_<ℚ-≤ℚ (l h.place j h.top f) (k i h.place e h.top)

  pub least_begins : (k : ℕ) → HasTop k → ((j : ℕ) → j < k → HasTop j → ⊥) → HasLeastBelow (k + 1) k
  least_begins k top none = scan_begins HasTop NoLess Lesser share_itself share_weaker share_goes_on k top none

  pub least_takes : (n k : ℕ) → HasLeastBelow n k → HasTop n → Lesser k n → HasLeastBelow (n + 1) n
  least_takes n k h top less = scan_takes HasTop NoLess Lesser share_itself share_weaker share_goes_on n k h top less

  pub least_keeps : (n k : ℕ) → HasLeastBelow n k → (HasTop n → NoLess n k) → HasLeastBelow (n + 1) k
  least_keeps n k h no_less = scan_keeps HasTop NoLess Lesser share_itself share_weaker share_goes_on n k h no_less

  -- two greatest shares of one commodity are the same number: what holds of one comparison holds of all
  pub lesser_by : (l k i j : ℕ) → IsFirstGreatest (shares_at shares l) i → IsFirstGreatest (shares_at shares k) j → at (shares_at shares k) j <ℚ at (shares_at shares l) i → Lesser l k
  lesser_by l k i j e f less a b g h = <ℚ_of_≤ℚ-<ℚ (f.greatest b h.in_range) (<ℚ_of_<ℚ-≤ℚ less (g.greatest i e.in_range))

  pub no_less_by : (l k i j : ℕ) → IsFirstGreatest (shares_at shares l) i → IsFirstGreatest (shares_at shares k) j → at (shares_at shares k) j ≤ℚ at (shares_at shares l) i → NoLess l k
  no_less_by l k i j e f less a b g h = ≤ℚ_trans (f.greatest b h.in_range) (≤ℚ_trans less (g.greatest i e.in_range))

  -- at the end no commodity with several paths has a lesser one
  pub is_by_shares : (n k place path : ℕ) → HasLeastBelow n k → length family ≤ n → IsFirstGreatest (shares_at shares k) place → path ≡ slice_index (part_at family k) place
      → IsByShares family shares (division_by k path)
  is_by_shares n k place path h whole top same = record {
    several = h.counts.several;
    place = place;
    greatest = top;
    part = ap (λ q. q ∷ []) same;
    least = λ l i several e. h.best l (omega (arith, several.in_range, whole)) (record { several = several; place = i; top = e }) i place e top;
    first = λ l i lt several e. h.first l lt (record { several = several; place = i; top = e }) i place e top;
  }

-- ---- by what the code reads

several_at : (family : Family) (k : ℕ) (part : List ℕ) → k < length family → part ≡ get_or family k part → 2 ≤ length part → HasSeveral family k
several_at family k part lt is more = record { in_range = lt; several = (let same : length part ≡ length (part_at family k) = ap length (get_or_read family k part lt is []) in omega (arith, same, more)) }

few_at : (family : Family) (k : ℕ) (part : List ℕ) → k < length family → part ≡ get_or family k part → (2 ≤ length part → ⊥) → HasSeveral family k → ⊥
few_at family k part lt is few has = few (let same : length part ≡ length (part_at family k) = ap length (get_or_read family k part lt is []) in let more = has.several in omega (arith, same, more))

module _ {N : Type 0} (value : N → Rational) where
  number_at : (xs : List N) (i : ℕ) (x : N) → i < length xs → x ≡ get_or xs i x → at (map value xs) i ≡ value x
  number_at xs i x lt is = get_or-map value xs i x zero_ℚ lt ∙ ap value (sym is)

  module _ (xs : List N) (n i : ℕ) (best here : N) (lt : i < length xs) (lt' : n < length xs) (is_best : best ≡ get_or xs i best) (is_here : here ≡ get_or xs n here)
      (h : HasGreatestBelow (map value xs) n i) (next : ℕ) where
    pub turn_takes : is_less (value best) (value here) ≡ true → next ≡ n → (next < length xs) × HasGreatestBelow (map value xs) (n + 1) next
    turn_takes less same =
        let more : LessThan (map value xs) i n =
        subst (λ (q : Rational). q <ℚ at (map value xs) n) (sym (number_at xs i best lt is_best)) (subst (λ (q : Rational). value best <ℚ q) (sym (number_at xs n here lt' is_here)) (is_less_yes (value best) (value here) less)) in
        subst (λ (j : ℕ). (j < length xs) × HasGreatestBelow (map value xs) (n + 1) j) (sym same) (lt', greatest_takes (map value xs) n i h more)

    pub turn_keeps : is_less (value best) (value here) ≡ false → next ≡ i → (next < length xs) × HasGreatestBelow (map value xs) (n + 1) next
    turn_keeps less same =
        let no_more : NoGreater (map value xs) n i =
        subst (λ (q : Rational). q ≤ℚ at (map value xs) i) (sym (number_at xs n here lt' is_here)) (subst (λ (q : Rational). value here ≤ℚ q) (sym (number_at xs i best lt is_best)) (is_less_no (value best) (value here) less)) in
        subst (λ (j : ℕ). (j < length xs) × HasGreatestBelow (map value xs) (n + 1) j) (sym same) (lt, greatest_keeps (map value xs) n i h no_more)

  module _ (family : Family) (shares : List (List Rational)) (n : ℕ) (least : Candidate N) (h : HasLeastBelow family shares n least.commodity) (is : IsCandidate value shares least.commodity least) (new : Candidate N) where
    abbrev IsNext : Candidate N → Type 0
    IsNext c = HasLeastBelow family shares (n + 1) c.commodity × IsCandidate value shares c.commodity c

    pub shares_pass : (part : List ℕ) → n < length family → part ≡ get_or family n part → (2 ≤ length part → ⊥) → new ≡ least → HasLeastBelow family shares (n + 1) new.commodity × IsCandidate value shares new.commodity new
    shares_pass part lt at_n few same =
        subst (λ (c : Candidate N). IsNext c) (sym same) (least_keeps family shares n least.commodity h (λ top. absurd (few_at family n part lt at_n few top.several)), is)

    module _ (next : Candidate N) (found : IsCandidate value shares n next) (part : List ℕ) (lt : n < length family) (at_n : part ≡ get_or family n part) (more : 2 ≤ length part) where
      pub shares_take : is_less (value next.share) (value least.share) ≡ true → new ≡ next → HasLeastBelow family shares (n + 1) new.commodity × IsCandidate value shares new.commodity new
      shares_take less same =
          let below : at (shares_at shares n) next.place <ℚ at (shares_at shares least.commodity) least.place =
          subst (λ (q : Rational). q <ℚ at (shares_at shares least.commodity) least.place) found.share (subst (λ (q : Rational). value next.share <ℚ q) is.share (is_less_yes (value next.share) (value least.share) less)) in
          let top : HasTop family shares n = record { several = several_at family n part lt at_n more; place = next.place; top = found.greatest } in
          let takes = least_takes family shares n least.commodity h top (lesser_by family shares least.commodity n least.place next.place is.greatest found.greatest below) in
          subst (λ (c : Candidate N). IsNext c) (sym same)
          (subst (λ (j : ℕ). HasLeastBelow family shares (n + 1) j) (sym found.commodity) takes, subst (λ (j : ℕ). IsCandidate value shares j next) (sym found.commodity) found)

      pub shares_keep : is_less (value next.share) (value least.share) ≡ false → new ≡ least → HasLeastBelow family shares (n + 1) new.commodity × IsCandidate value shares new.commodity new
      shares_keep less same =
          let above : at (shares_at shares least.commodity) least.place ≤ℚ at (shares_at shares n) next.place =
          subst (λ (q : Rational). at (shares_at shares least.commodity) least.place ≤ℚ q) found.share (subst (λ (q : Rational). q ≤ℚ value next.share) is.share (is_less_no (value next.share) (value least.share) less)) in
          subst (λ (c : Candidate N). IsNext c) (sym same)
          (least_keeps family shares n least.commodity h (λ top. no_less_by family shares n least.commodity next.place least.place found.greatest is.greatest above), is)
