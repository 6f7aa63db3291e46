-- What the code finds of a pair: cuts that are conflicts, marks of choices, and the row that they give.
use Rattle.std.proofs.Common.{◌≡◌, ◌≢◌, ℕ, ◌+◌, ◌<◌, ◌≤◌, Bool, true, false, cond, List, [], ◌∷◌, ◌++◌, length, map, set, get_or, take, filter, Option, Some, None, Ok, Err, All, Ordering, Less, Equal, Greater, is_eq, refl, sym, ap, ap₂, ◌∙◌, arith, eq-eqb, ltb-true}
use Rattle.std.specs.Prelude.{◌&&◌, ◌==◌, nat_lt, not, replicate}
use Rattle.std.specs.Ordering.{MatchOrdering}
use Rattle.std.specs.List.{range_with_len, list_all}
use Rattle.std.proofs.lemmas.Bool.{false_from_ne_true}
use Rattle.std.proofs.lemmas.List.{length-map, get_or-map, take_all, append_assoc, map-append}
use Rattle.std.proofs.lemmas.List.Elements.{All-cons, All-nil}
use Rattle.std.proofs.lemmas.List.FromFn.{length-map-range_with_len}
use Rattle.npp_frac.specs.Rational.{Rational, rational_cmp, ◌<ℚ◌}
use Rattle.npp_frac.specs.Order.{rational_ranks, not-≤ℚ_of_<ℚ, ≤ℚ_of_≡}
use Rattle.npp_lp.specs.Verdict.{unless, or_else}
use Rattle.npp_rows.specs.declared.cut.CutTerm.{CutTerm}
use Rattle.npp_rows.specs.declared.cut.CutRow.{CutRow}
use Rattle.npp_rows.specs.declared.cut.CutFault.{CutFault}
use Rattle.npp_rows.specs.declared.cut.CutFault.TheVariants.{BadName, BadOrder, NotAConflict}
use Rattle.npp_rows.specs.PathModel.{PathModel, path_count, paths}
use Rattle.npp_rows.specs.Cuts.{Cut, IsCut, cut_at, no_cut, conflict_cut, exclusion, share_of, conflict_choices, is_same_cut, are_same_terms, is_same_term, is_same_number}
use Rattle.npp_rows.specs.Derivations.{fault_if, is_path, are_pair_names, are_pair_cuts, strange_cut, pair_fault}
use Rattle.npp_rows.specs.Marks.{is_choice}
use Rattle.npp_rows.specs.Meaning.{cut_term_value, cut_value}
use Rattle.npp_rows.proofs.ListLaws.{filter_range_push}
use Rattle.npp_rows.proofs.DerivationLaws.{number_same, both, each_passes}
use Rattle.npp_rows.proofs.ConflictLaws.{exclusion_is_cut}
use Rattle.npp_rows.proofs.PairLaws.{number_itself, cut_itself, is_conflict, is_no_conflict, strange_here, strange_later, no_marks, marks_more, choices_rise, choices_inside}
use Rattle.npp_rows.proofs.FaultLaws.{refused_here, judged_later}

-- ---- one number, one term, one cut

same_at : (x y : Rational) (o : Ordering) → MatchOrdering o (x <ℚ y) (x ≡ y) (y <ℚ x) → is_eq o ≡ is_same_number x y
same_at x y Less m = sym (false_from_ne_true (is_same_number x y) (λ e. not-≤ℚ_of_<ℚ m (≤ℚ_of_≡ (sym (number_same x y e)))))
same_at x y Equal m = sym (ap (λ z. is_same_number z y) m ∙ number_itself y)
same_at x y Greater m = sym (false_from_ne_true (is_same_number x y) (λ e. not-≤ℚ_of_<ℚ m (≤ℚ_of_≡ (number_same x y e))))

-- two numbers are one where neither is below the other
pub same_by_order : (x y : Rational) → is_eq (rational_cmp x y) ≡ is_same_number x y
same_by_order x y = same_at x y (rational_cmp x y) (rational_ranks x y)

and_true : (a b : Bool) → (a && (b && true)) ≡ (a && b)
and_true true true = refl
and_true true false = refl
and_true false b = refl

and_false : (a : Bool) → (a && false) ≡ false
and_false true = refl
and_false false = refl

and_turned : (a b : Bool) → (a && b) ≡ (b && a)
and_turned true true = refl
and_turned true false = refl
and_turned false true = refl
and_turned false false = refl

module _ {N : Type 0} (value : N → Rational) where
  -- two terms against two others
  two_same : (ts : List (CutTerm N)) (a b : CutTerm N) (s t : CutTerm Rational) → length ts ≡ 2 → a ≡ get_or ts 0 a → b ≡ get_or ts 1 b
      → (is_same_term (cut_term_value value a) s && is_same_term (cut_term_value value b) t) ≡ are_same_terms (map (cut_term_value value) ts) (s ∷ t ∷ [])
  two_same [] a b s t n e f = absurd (omega (arith, n))
  two_same (x ∷ []) a b s t n e f = absurd (omega (arith, n))
  two_same (x ∷ y ∷ []) a b s t n e f =
      ap₂ (λ (c d : CutTerm N). is_same_term (cut_term_value value c) s && is_same_term (cut_term_value value d) t) e f
      ∙ sym (and_true (is_same_term (cut_term_value value x) s) (is_same_term (cut_term_value value y) t))
  two_same (x ∷ y ∷ z ∷ rest) a b s t n e f = absurd (omega (arith, n))

  -- no other number of terms is the same as two
  not_two_same : (ts : List (CutTerm N)) (s t : CutTerm Rational) → (length ts ≡ 2 → ⊥) → false ≡ are_same_terms (map (cut_term_value value) ts) (s ∷ t ∷ [])
  not_two_same [] s t n = refl
  not_two_same (x ∷ []) s t n = sym (and_false (is_same_term (cut_term_value value x) s))
  not_two_same (x ∷ y ∷ []) s t n = absurd (n refl)
  not_two_same (x ∷ y ∷ z ∷ rest) s t n =
      sym (ap (λ b. is_same_term (cut_term_value value x) s && b) (and_false (is_same_term (cut_term_value value y) t)) ∙ and_false (is_same_term (cut_term_value value x) s))

  module _ (ts : List (CutTerm N)) (k p l q : ℕ) where
    against : (b : Bool) → nat_lt k l ≡ b → are_same_terms (map (cut_term_value value) ts) (conflict_cut k p l q).terms
        ≡ are_same_terms (map (cut_term_value value) ts) (cond b (share_of k p ∷ share_of l q ∷ []) (share_of l q ∷ share_of k p ∷ []))
    against b e = ap (λ c. are_same_terms (map (cut_term_value value) ts) (cond c (share_of k p ∷ share_of l q ∷ []) (share_of l q ∷ share_of k p ∷ []))) e

    pub other_terms : (length ts ≡ 2 → ⊥) → false ≡ are_same_terms (map (cut_term_value value) ts) (conflict_cut k p l q).terms
    other_terms n = by (nat_lt k l) refl
      where
        by : (b : Bool) → nat_lt k l ≡ b → false ≡ are_same_terms (map (cut_term_value value) ts) (conflict_cut k p l q).terms
        by true e = not_two_same ts (share_of k p) (share_of l q) n ∙ sym (against true e)
        by false e = not_two_same ts (share_of l q) (share_of k p) n ∙ sym (against false e)

    pub terms_in_order : (a b : CutTerm N) → length ts ≡ 2 → a ≡ get_or ts 0 a → b ≡ get_or ts 1 b → nat_lt k l ≡ true
        → (is_same_term (cut_term_value value a) (share_of k p) && is_same_term (cut_term_value value b) (share_of l q)) ≡ are_same_terms (map (cut_term_value value) ts) (conflict_cut k p l q).terms
    terms_in_order a b n e f less = two_same ts a b (share_of k p) (share_of l q) n e f ∙ sym (against true less)

    pub terms_turned : (a b : CutTerm N) → length ts ≡ 2 → a ≡ get_or ts 0 a → b ≡ get_or ts 1 b → nat_lt k l ≡ false
        → (is_same_term (cut_term_value value b) (share_of k p) && is_same_term (cut_term_value value a) (share_of l q)) ≡ are_same_terms (map (cut_term_value value) ts) (conflict_cut k p l q).terms
    terms_turned a b n e f less =
        and_turned (is_same_term (cut_term_value value b) (share_of k p)) (is_same_term (cut_term_value value a) (share_of l q))
        ∙ two_same ts a b (share_of l q) (share_of k p) n e f ∙ sym (against false less)

  -- ---- the path of the other commodity that the terms of a conflict name

  conflict_size : (k p l q : ℕ) → length (conflict_cut k p l q).terms ≡ 2
  conflict_size k p l q = by (nat_lt k l)
    where
      by : (b : Bool) → length (cond b (share_of k p ∷ share_of l q ∷ []) (share_of l q ∷ share_of k p ∷ [])) ≡ 2
      by true = refl
      by false = refl

  module _ (ts : List (CutTerm N)) (k p l : ℕ) where
    pub too_few : {o : Option ℕ} → (length ts ≡ 2 → ⊥) → (q : ℕ) → map (cut_term_value value) ts ≡ (conflict_cut k p l q).terms → o ≡ Some q
    too_few n q e = absurd (n (sym (length-map ts (cut_term_value value)) ∙ ap length e ∙ conflict_size k p l q))

    pub second_named : (b : CutTerm N) → length ts ≡ 2 → b ≡ get_or ts 1 b → nat_lt k l ≡ true → (q : ℕ) → map (cut_term_value value) ts ≡ (conflict_cut k p l q).terms → Some b.path ≡ Some q
    second_named b n f less q e =
        let here : map (cut_term_value value) ts ≡ share_of k p ∷ share_of l q ∷ [] = e ∙ ap (λ c. cond c (share_of k p ∷ share_of l q ∷ []) (share_of l q ∷ share_of k p ∷ [])) less in
        let inside : 1 < length ts = omega (arith, n) in
        ap Some (ap (λ (t : CutTerm N). t.path) f ∙ ap (λ (t : CutTerm Rational). t.path) (sym (get_or-map (cut_term_value value) ts 1 b (share_of 0 0) inside))
        ∙ ap (λ (xs : List (CutTerm Rational)). (get_or xs 1 (share_of 0 0)).path) here)

    pub first_named : (a : CutTerm N) → length ts ≡ 2 → a ≡ get_or ts 0 a → nat_lt k l ≡ false → (q : ℕ) → map (cut_term_value value) ts ≡ (conflict_cut k p l q).terms → Some a.path ≡ Some q
    first_named a n f less q e =
        let here : map (cut_term_value value) ts ≡ share_of l q ∷ share_of k p ∷ [] = e ∙ ap (λ c. cond c (share_of k p ∷ share_of l q ∷ []) (share_of l q ∷ share_of k p ∷ [])) less in
        let inside : 0 < length ts = omega (arith, n) in
        ap Some (ap (λ (t : CutTerm N). t.path) f ∙ ap (λ (t : CutTerm Rational). t.path) (sym (get_or-map (cut_term_value value) ts 0 a (share_of 0 0) inside))
        ∙ ap (λ (xs : List (CutTerm Rational)). (get_or xs 0 (share_of 0 0)).path) here)

  -- ---- the path that a cut names

  module _ (cut : CutRow N) (ts : List (CutTerm N)) (same : ts ≡ cut.terms) (k p l count : ℕ) (o : Option ℕ) (told : (q : ℕ) → map (cut_term_value value) ts ≡ (conflict_cut k p l q).terms → o ≡ Some q) where
    named : (q : ℕ) → cut_value value cut ≡ conflict_cut k p l q → o ≡ Some q
    named q e = told q (ap (map (cut_term_value value)) same ∙ ap (λ (c : Cut). c.terms) e)

    pub no_partner : o ≡ None → (q : ℕ) → q < count → cut_value value cut ≡ conflict_cut k p l q → ⊥
    no_partner none q h e = let t = named q e in cc

    pub partner_outside : (r : ℕ) → o ≡ Some r → count ≤ r → (q : ℕ) → q < count → cut_value value cut ≡ conflict_cut k p l q → ⊥
    partner_outside r some above q h e =
        let t = named q e in
        let s : r ≡ q = cc in
        omega (arith, s, above, h)

    pub partner_strange : (r : ℕ) → o ≡ Some r → is_same_cut (cut_value value cut) (conflict_cut k p l r) ≡ false → (q : ℕ) → q < count → cut_value value cut ≡ conflict_cut k p l q → ⊥
    partner_strange r some other q h e =
        let t = named q e in
        let s : r ≡ q = cc in
        let yes : is_same_cut (cut_value value cut) (conflict_cut k p l r) ≡ true = cut_itself (cut_value value cut) (conflict_cut k p l r) (e ∙ ap (conflict_cut k p l) (sym s)) in
        cc

  -- ---- cuts in a row

  module _ (m : PathModel) (earlier : List (CutRow N)) (k p l : ℕ) (cuts : List ℕ) where
    -- so far each cut is a conflict, and these choices are marked
    abbrev pub MarkedTo : List Bool → ℕ → Type 0
    MarkedTo marks i = (marks ≡ map (is_choice (map (cut_value value) earlier) k p l (take i cuts)) (paths m l)) × (strange_cut m (map (cut_value value) earlier) k p l (take i cuts) ≡ None)

    -- none of them is marked at first
    pub marks_start : (marks : List Bool) (n : ℕ) → marks ≡ replicate n false → n ≡ path_count m l → MarkedTo marks 0
    marks_start marks n e size = (e ∙ ap (λ k. replicate k false) size ∙ no_marks m (map (cut_value value) earlier) k p l (path_count m l), refl)

    -- there is a mark for each path
    pub marks_size : (marks : List Bool) (i : ℕ) → MarkedTo marks i → length marks ≡ path_count m l
    marks_size marks i before = ap length before.0 ∙ length-map-range_with_len (is_choice (map (cut_value value) earlier) k p l (take i cuts)) 0 (path_count m l)

    module _ (i x : ℕ) (inside : i < length cuts) (is : x ≡ get_or cuts i x) (cut : CutRow N) (known : x < length earlier) (here : cut ≡ get_or earlier x cut) where
      cut_here : cut_at (map (cut_value value) earlier) x ≡ cut_value value cut
      cut_here = get_or-map (cut_value value) earlier x cut no_cut known ∙ ap (cut_value value) (sym here)

      pub marked_more : (marks : List Bool) (q : ℕ) → q < path_count m l → cut_value value cut ≡ conflict_cut k p l q → MarkedTo marks i → MarkedTo (set marks q true) (i + 1)
      marked_more marks q h e before = (
        marks_more m (map (cut_value value) earlier) k p l cuts i x inside is (path_count m l) q marks h (cut_here ∙ e) before.0,
        strange_later m (map (cut_value value) earlier) k p l cuts i x inside is before.1 (is_conflict m (map (cut_value value) earlier) k p l (cut_at (map (cut_value value) earlier) x) q h (cut_here ∙ e)),
      )

      pub strange_found : (marks : List Bool) → ((q : ℕ) → q < path_count m l → cut_value value cut ≡ conflict_cut k p l q → ⊥) → MarkedTo marks i → strange_cut m (map (cut_value value) earlier) k p l cuts ≡ Some (NotAConflict x)
      strange_found marks none before =
          strange_here m (map (cut_value value) earlier) k p l cuts i x inside is before.1
          (is_no_conflict m (map (cut_value value) earlier) k p l (cut_at (map (cut_value value) earlier) x) (λ q h e. none q h (sym cut_here ∙ e)))

    pub all_marked : (marks : List Bool) (i : ℕ) → length cuts ≤ i → MarkedTo marks i → (marks ≡ map (is_choice (map (cut_value value) earlier) k p l cuts) (paths m l)) × (strange_cut m (map (cut_value value) earlier) k p l cuts ≡ None)
    all_marked marks i all before =
        let whole : take i cuts ≡ cuts = take_all i cuts all in
        (before.0 ∙ ap (λ cs. map (is_choice (map (cut_value value) earlier) k p l cs) (paths m l)) whole, sym (ap (strange_cut m (map (cut_value value) earlier) k p l) whole) ∙ before.1)

-- ---- the shares of marked paths

pub shares_more : (l q : ℕ) (marks : List Bool) (b : Bool) (old now next : List (CutTerm Rational)) → b ≡ get_or marks q false
    → now ≡ old ++ map (share_of l) (filter (λ j. get_or marks j false) (range_with_len 0 q)) → next ≡ now ++ map (share_of l) (cond b (q ∷ []) [])
    → next ≡ old ++ map (share_of l) (filter (λ j. get_or marks j false) (range_with_len 0 (q + 1)))
shares_more l q marks b old now next is before e =
    let front : List ℕ = filter (λ j. get_or marks j false) (range_with_len 0 q) in
    let more : filter (λ j. get_or marks j false) (range_with_len 0 (q + 1)) ≡ filter (λ j. get_or marks j false) (range_with_len 0 q) ++ cond b (q ∷ []) [] =
    filter_range_push (λ j. get_or marks j false) q ∙ ap (λ c. filter (λ j. get_or marks j false) (range_with_len 0 q) ++ cond c (q ∷ []) []) (sym is) in
    e ∙ ap (λ t. t ++ map (share_of l) (cond b (q ∷ []) [])) before
    ∙ append_assoc old (map (share_of l) front) (map (share_of l) (cond b (q ∷ []) []))
    ∙ ap (λ t. old ++ t) (sym (ap (map (share_of l)) more ∙ map-append (share_of l) front (cond b (q ∷ []) [])))

-- the share of the path stands in front of the others, or behind them
pub exclusion_front : (k p l : ℕ) (qs : List ℕ) (start one all : List (CutTerm Rational)) → start ≡ [] → one ≡ start ++ share_of k p ∷ [] → all ≡ one ++ map (share_of l) qs → nat_lt k l ≡ true
    → all ≡ (exclusion k p l qs).terms
exclusion_front k p l qs start one all none first last less =
    last ∙ ap (λ t. t ++ map (share_of l) qs) (first ∙ ap (λ t. t ++ share_of k p ∷ []) none)
    ∙ sym (ap (λ b. cond b (share_of k p ∷ map (share_of l) qs) (map (share_of l) qs ++ share_of k p ∷ [])) less)

pub exclusion_back : (k p l : ℕ) (qs : List ℕ) (start others all : List (CutTerm Rational)) → start ≡ [] → others ≡ start ++ map (share_of l) qs → all ≡ others ++ share_of k p ∷ [] → nat_lt k l ≡ false
    → all ≡ (exclusion k p l qs).terms
exclusion_back k p l qs start others all none first last less =
    last ∙ ap (λ t. t ++ share_of k p ∷ []) (first ∙ ap (λ t. t ++ map (share_of l) qs) none)
    ∙ sym (ap (λ b. cond b (share_of k p ∷ map (share_of l) qs) (map (share_of l) qs ++ share_of k p ∷ [])) less)

-- ---- the verdict of a pair

module _ (m : PathModel) (earlier : List Cut) (k p l : ℕ) (cuts : List ℕ) where
  pub pair_bad_names : are_pair_names m earlier k p l cuts ≡ false → Err BadName ≡ unless (pair_fault m earlier k p l cuts) (Ok (exclusion k p l (conflict_choices m earlier k p l cuts)))
  pair_bad_names e = refused_here (are_pair_names m earlier k p l cuts) BadName (or_else (fault_if (not (are_pair_cuts cuts)) BadOrder) (strange_cut m earlier k p l cuts)) (Ok (exclusion k p l (conflict_choices m earlier k p l cuts))) e

  module _ (names : are_pair_names m earlier k p l cuts ≡ true) where
    after_names : unless (pair_fault m earlier k p l cuts) (Ok (exclusion k p l (conflict_choices m earlier k p l cuts)))
        ≡ unless (or_else (fault_if (not (are_pair_cuts cuts)) BadOrder) (strange_cut m earlier k p l cuts)) (Ok (exclusion k p l (conflict_choices m earlier k p l cuts)))
    after_names = judged_later (are_pair_names m earlier k p l cuts) BadName (or_else (fault_if (not (are_pair_cuts cuts)) BadOrder) (strange_cut m earlier k p l cuts)) (Ok (exclusion k p l (conflict_choices m earlier k p l cuts))) names

    pub pair_bad_cuts : are_pair_cuts cuts ≡ false → Err BadOrder ≡ unless (pair_fault m earlier k p l cuts) (Ok (exclusion k p l (conflict_choices m earlier k p l cuts)))
    pair_bad_cuts e = refused_here (are_pair_cuts cuts) BadOrder (strange_cut m earlier k p l cuts) (Ok (exclusion k p l (conflict_choices m earlier k p l cuts))) e ∙ sym after_names

    module _ (rising : are_pair_cuts cuts ≡ true) where
      after_cuts : unless (pair_fault m earlier k p l cuts) (Ok (exclusion k p l (conflict_choices m earlier k p l cuts)))
          ≡ unless (strange_cut m earlier k p l cuts) (Ok (exclusion k p l (conflict_choices m earlier k p l cuts)))
      after_cuts = after_names ∙ judged_later (are_pair_cuts cuts) BadOrder (strange_cut m earlier k p l cuts) (Ok (exclusion k p l (conflict_choices m earlier k p l cuts))) rising

      pub pair_strange : (f : CutFault Rational) → strange_cut m earlier k p l cuts ≡ Some f → Err f ≡ unless (pair_fault m earlier k p l cuts) (Ok (exclusion k p l (conflict_choices m earlier k p l cuts)))
      pair_strange f e = sym (after_cuts ∙ ap (λ (o : Option (CutFault Rational)). unless o (Ok (exclusion k p l (conflict_choices m earlier k p l cuts)))) e)

      pub pair_proved : strange_cut m earlier k p l cuts ≡ None → unless (pair_fault m earlier k p l cuts) (Ok (exclusion k p l (conflict_choices m earlier k p l cuts))) ≡ Ok (exclusion k p l (conflict_choices m earlier k p l cuts))
      pair_proved e = after_cuts ∙ ap (λ (o : Option (CutFault Rational)). unless o (Ok (exclusion k p l (conflict_choices m earlier k p l cuts)))) e

    -- what the names say
    names_hold : (is_path m k p ≡ true) × (nat_lt l (length m.covers) ≡ true) × (not (k == l) ≡ true) × (list_all (λ i. nat_lt i (length earlier)) cuts ≡ true)
    names_hold =
        let in_range = both (is_path m k p && nat_lt l (length m.covers) && not (k == l)) (list_all (λ i. nat_lt i (length earlier)) cuts) names in
        let apart = both (is_path m k p && nat_lt l (length m.covers)) (not (k == l)) in_range.0 in
        let two = both (is_path m k p) (nat_lt l (length m.covers)) apart.0 in
        (two.0, two.1, apart.1, in_range.1)

    pub other_is_there : l < length m.covers
    other_is_there = ltb-true l (length m.covers) names_hold.1

    pub cuts_are_there : All (λ i. i < length earlier) cuts
    cuts_are_there = λ i d u. ltb-true (get_or cuts i d) (length earlier) (each_passes (λ j. nat_lt j (length earlier)) cuts i d names_hold.3 u)

    pub pair_is_cut : IsCut m (exclusion k p l (conflict_choices m earlier k p l cuts))
    pair_is_cut =
        let first = both (nat_lt k (length m.covers)) (nat_lt p (path_count m k)) names_hold.0 in
        let other : k ≢ l = λ e. (let same : (k == l) ≡ true = eq-eqb k l e in let no : not (k == l) ≡ false = ap not same in let yes = names_hold.2 in cc) in
        exclusion_is_cut m k p l (conflict_choices m earlier k p l cuts) (ltb-true k (length m.covers) first.0) (ltb-true p (path_count m k) first.1) other_is_there other
        (choices_inside m earlier k p l cuts) (choices_rise m earlier k p l cuts)

-- names among the cuts of the code
pub names_meant : {N : Type 0} (value : N → Rational) (m : PathModel) (earlier : List (CutRow N)) (k p l : ℕ) (cuts : List ℕ) (b : Bool)
    → b ≡ (is_path m k p && nat_lt l (length m.covers) && not (k == l) && list_all (λ i. nat_lt i (length earlier)) cuts) → b ≡ are_pair_names m (map (cut_value value) earlier) k p l cuts
names_meant value m earlier k p l cuts b e =
    e ∙ ap (λ n. is_path m k p && nat_lt l (length m.covers) && not (k == l) && list_all (λ i. nat_lt i n) cuts) (sym (length-map earlier (cut_value value)))

-- the row of a conflict is a cut row
pub conflict_is_cut : (m : PathModel) (k p l q : ℕ) → (nat_lt k l && is_path m k p && is_path m l q) ≡ true → IsCut m (conflict_cut k p l q)
conflict_is_cut m k p l q names =
    let outer = both (nat_lt k l && is_path m k p) (is_path m l q) names in
    let front = both (nat_lt k l) (is_path m k p) outer.0 in
    let first = both (nat_lt k (length m.covers)) (nat_lt p (path_count m k)) front.1 in
    let second = both (nat_lt l (length m.covers)) (nat_lt q (path_count m l)) outer.1 in
    let below : k < l = ltb-true k l front.0 in
    exclusion_is_cut m k p l (q ∷ []) (ltb-true k (length m.covers) first.0) (ltb-true p (path_count m k) first.1) (ltb-true l (length m.covers) second.0) (λ e. omega (arith, e, below))
    (All-cons (λ r. r < path_count m l) q [] (ltb-true q (path_count m l) second.1) (All-nil (λ r. r < path_count m l))) (λ i j d a b. absurd (omega (arith, a, b)))
