-- What the cuts of a pair say, path by path.
use Rattle.std.proofs.Common.{◌≡◌, ℕ, zero, suc, ◌+◌, ◌<◌, ◌≤◌, Bool, true, false, cond, List, [], ◌∷◌, ◌++◌, length, map, set, get_or, take, drop, filter, Option, Some, None, All, refl, sym, ap, ap₂, ◌∙◌, arith, inl, inr, eq-eqb}
use Rattle.std.specs.Prelude.{◌&&◌, ◌||◌, ◌==◌, nat_lt, not, replicate}
use Rattle.std.specs.List.{AllPairs, range_with_len}
use Rattle.std.specs.Ordering.{int_eq}
use Rattle.std.proofs.lemmas.Bool.{and_from, cases_eq, false_from_ne_true}
use Rattle.std.proofs.lemmas.Bool.Decides.{Decides-int_eq}
use Rattle.std.proofs.lemmas.List.{length-set, same_lists, get_or-set_same, get_or-set_other, take_more, take-append-drop, drop_more, length-replicate, get_or-replicate}
use Rattle.std.proofs.lemmas.List.Elements.{All-filter}
use Rattle.std.proofs.lemmas.List.Kept.{AllPairs-filter}
use Rattle.std.proofs.lemmas.List.Folds.{list_any_none, list_any_at, list_any-append}
use Rattle.std.proofs.lemmas.List.FromFn.{length-range_with_len, get_or-range_with_len, length-map-range_with_len, get_or-map-range_with_len}
use Rattle.npp_frac.specs.Rational.{Rational}
use Rattle.npp_lp.specs.Verdict.{or_else}
use Rattle.npp_rows.specs.declared.cut.CutTerm.{CutTerm}
use Rattle.npp_rows.specs.declared.cut.CutFault.TheVariants.{NotAConflict}
use Rattle.npp_rows.specs.PathModel.{PathModel, path_count, paths}
use Rattle.npp_rows.specs.Cuts.{Cut, cut_at, conflict_cut, share_of, conflict_choices, is_conflict_with, is_same_cut, are_same_terms, is_same_term, is_same_number}
use Rattle.npp_rows.specs.Derivations.{fault_if, strange_cut}
use Rattle.npp_rows.specs.Marks.{is_choice, marked}
use Rattle.npp_rows.proofs.ValueLaws.{range_rises}
use Rattle.npp_rows.proofs.RelaxationLaws.{all_range}
use Rattle.npp_rows.proofs.DerivationLaws.{cut_same}

-- ---- a cut is itself

pub number_itself : (x : Rational) → is_same_number x x ≡ true
number_itself x = and_from (int_eq x.num x.num) (x.den == x.den) ((Decides-int_eq x.num x.num).1 refl) (eq-eqb x.den x.den refl)

term_itself : (t : CutTerm Rational) → is_same_term t t ≡ true
term_itself t = and_from ((t.commodity == t.commodity) && (t.path == t.path)) (is_same_number t.value t.value) (and_from (t.commodity == t.commodity) (t.path == t.path) (eq-eqb t.commodity t.commodity refl) (eq-eqb t.path t.path refl)) (number_itself t.value)

terms_themselves : (ts : List (CutTerm Rational)) → are_same_terms ts ts ≡ true
terms_themselves [] = refl
terms_themselves (t ∷ ts) = and_from (is_same_term t t) (are_same_terms ts ts) (term_itself t) (terms_themselves ts)

pub cut_itself : (c d : Cut) → c ≡ d → is_same_cut c d ≡ true
cut_itself c d e = ap (λ x. is_same_cut x d) e ∙ and_from (are_same_terms d.terms d.terms) (is_same_number d.right d.right) (terms_themselves d.terms) (number_itself d.right)

other_cut : (c d : Cut) → (c ≡ d → ⊥) → is_same_cut c d ≡ false
other_cut c d h = false_from_ne_true (is_same_cut c d) (λ e. h (cut_same c d e))

-- ---- the path of the other commodity that a conflict names

other_share : (k p l q r : ℕ) (b : Bool) → cond b (share_of k p ∷ share_of l q ∷ []) (share_of l q ∷ share_of k p ∷ []) ≡ cond b (share_of k p ∷ share_of l r ∷ []) (share_of l r ∷ share_of k p ∷ []) → q ≡ r
other_share k p l q r true e = ap (λ (ts : List (CutTerm Rational)). (get_or ts 1 (share_of 0 0)).path) e
other_share k p l q r false e = ap (λ (ts : List (CutTerm Rational)). (get_or ts 0 (share_of 0 0)).path) e

one_partner : (k p l q r : ℕ) → conflict_cut k p l q ≡ conflict_cut k p l r → q ≡ r
one_partner k p l q r e = other_share k p l q r (nat_lt k l) (ap (λ (c : Cut). c.terms) e)

module _ (m : PathModel) (earlier : List Cut) (k p l : ℕ) where
  -- ---- whether a cut is a conflict

  pub is_conflict : (c : Cut) (q : ℕ) → q < path_count m l → c ≡ conflict_cut k p l q → is_conflict_with m k p l c ≡ true
  is_conflict c q h e =
      list_any_at (λ r. is_same_cut c (conflict_cut k p l r)) (paths m l) q q (rw (length-range_with_len 0 (path_count m l)) h)
      (let here : get_or (paths m l) q q ≡ q = get_or-range_with_len 0 (path_count m l) q q h ∙ omega arith in rw here (cut_itself c (conflict_cut k p l q) e))

  pub is_no_conflict : (c : Cut) → ((q : ℕ) → q < path_count m l → c ≡ conflict_cut k p l q → ⊥) → is_conflict_with m k p l c ≡ false
  is_no_conflict c h =
      list_any_none (λ r. is_same_cut c (conflict_cut k p l r)) (paths m l)
      (all_range (λ r. is_same_cut c (conflict_cut k p l r) ≡ false) (path_count m l) (λ r u. other_cut c (conflict_cut k p l r) (h r u)))

  -- ---- the first cut that is none

  else_assoc : {F : Type 0} (a b c : Option F) → or_else a (or_else b c) ≡ or_else (or_else a b) c
  else_assoc None b c = refl
  else_assoc (Some x) b c = refl

  strange_append : (xs ys : List ℕ) → strange_cut m earlier k p l (xs ++ ys) ≡ or_else (strange_cut m earlier k p l xs) (strange_cut m earlier k p l ys)
  strange_append [] ys = refl
  strange_append (x ∷ xs) ys =
      ap (or_else (fault_if (not (is_conflict_with m k p l (cut_at earlier x))) (NotAConflict x))) (strange_append xs ys)
      ∙ else_assoc (fault_if (not (is_conflict_with m k p l (cut_at earlier x))) (NotAConflict x)) (strange_cut m earlier k p l xs) (strange_cut m earlier k p l ys)

  module _ (cuts : List ℕ) (i x : ℕ) (inside : i < length cuts) (is : x ≡ get_or cuts i x) where
    taken : take (i + 1) cuts ≡ take i cuts ++ x ∷ []
    taken = take_more cuts i x inside ∙ ap (λ y. take i cuts ++ y ∷ []) (sym is)

    parted : cuts ≡ take i cuts ++ (x ∷ drop (i + 1) cuts)
    parted = sym (take-append-drop i cuts) ∙ ap (λ t. take i cuts ++ t) (drop_more cuts i x inside ∙ ap (λ y. y ∷ drop (i + 1) cuts) (sym is))

    pub strange_here : strange_cut m earlier k p l (take i cuts) ≡ None → is_conflict_with m k p l (cut_at earlier x) ≡ false → strange_cut m earlier k p l cuts ≡ Some (NotAConflict x)
    strange_here none other = ap (strange_cut m earlier k p l) parted ∙ strange_append (take i cuts) (x ∷ drop (i + 1) cuts) ∙ rw (none, other) refl

    pub strange_later : strange_cut m earlier k p l (take i cuts) ≡ None → is_conflict_with m k p l (cut_at earlier x) ≡ true → strange_cut m earlier k p l (take (i + 1) cuts) ≡ None
    strange_later none yes_here = ap (strange_cut m earlier k p l) taken ∙ strange_append (take i cuts) (x ∷ []) ∙ rw (none, yes_here) refl

    -- ---- marks

    choice_push : (q : ℕ) → is_choice earlier k p l (take (i + 1) cuts) q ≡ (is_choice earlier k p l (take i cuts) q || is_same_cut (cut_at earlier x) (conflict_cut k p l q))
    choice_push q =
        ap (λ cs. is_choice earlier k p l cs q) taken ∙ list_any-append (λ j. is_same_cut (cut_at earlier j) (conflict_cut k p l q)) (take i cuts) (x ∷ [])
        ∙ ap (λ b. is_choice earlier k p l (take i cuts) q || b) (or_no (is_same_cut (cut_at earlier x) (conflict_cut k p l q)))
      where
        or_no : (b : Bool) → (b || false) ≡ b
        or_no true = refl
        or_no false = refl

    or_yes : (a b : Bool) → b ≡ true → (a || b) ≡ true
    or_yes true b e = refl
    or_yes false b e = e

    or_same : (a b : Bool) → b ≡ false → (a || b) ≡ a
    or_same true b e = refl
    or_same false b e = e

    pub marks_more : (n q : ℕ) (marks : List Bool) → q < n → cut_at earlier x ≡ conflict_cut k p l q → marks ≡ map (is_choice earlier k p l (take i cuts)) (range_with_len 0 n)
        → set marks q true ≡ map (is_choice earlier k p l (take (i + 1) cuts)) (range_with_len 0 n)
    marks_more n q marks h e before =
        let size : length marks ≡ n = ap length before ∙ length-map-range_with_len (is_choice earlier k p l (take i cuts)) 0 n in
        same_lists (set marks q true) (map (is_choice earlier k p l (take (i + 1) cuts)) (range_with_len 0 n))
        (length-set marks q true ∙ size ∙ sym (length-map-range_with_len (is_choice earlier k p l (take (i + 1) cuts)) 0 n))
        (λ j d u. let v : j < n = omega (arith, u, length-set marks q true, size) in
        elim (cases_eq j q) [
          | inl same ↦
              ap (λ a. get_or (set marks q true) a d) same ∙ get_or-set_same marks q true d (omega (arith, size, h))
              ∙ sym (get_or-map-range_with_len (is_choice earlier k p l (take (i + 1) cuts)) 0 n j j d v (omega arith)
              ∙ choice_push j ∙ or_yes (is_choice earlier k p l (take i cuts) j) (is_same_cut (cut_at earlier x) (conflict_cut k p l j)) (cut_itself (cut_at earlier x) (conflict_cut k p l j) (e ∙ ap (conflict_cut k p l) (sym same))))
          | inr other ↦
              get_or-set_other marks q j true d other ∙ ap (λ ms. get_or ms j d) before
              ∙ get_or-map-range_with_len (is_choice earlier k p l (take i cuts)) 0 n j j d v (omega arith)
              ∙ sym (get_or-map-range_with_len (is_choice earlier k p l (take (i + 1) cuts)) 0 n j j d v (omega arith)
              ∙ choice_push j ∙ or_same (is_choice earlier k p l (take i cuts) j) (is_same_cut (cut_at earlier x) (conflict_cut k p l j)) (other_cut (cut_at earlier x) (conflict_cut k p l j) (λ f. other (sym (one_partner k p l q j (sym e ∙ f))))))
        ])

  -- no marks at first
  pub no_marks : (n : ℕ) → replicate n false ≡ map (is_choice earlier k p l []) (range_with_len 0 n)
  no_marks n =
      same_lists (replicate n false) (map (is_choice earlier k p l []) (range_with_len 0 n)) (length-replicate n false ∙ sym (length-map-range_with_len (is_choice earlier k p l []) 0 n))
      (λ j d u. let v : j < n = rw (length-replicate n false) at u in get_or-replicate n j false d v ∙ sym (get_or-map-range_with_len (is_choice earlier k p l []) 0 n j j d v (omega arith)))

  filter_on : (f g : ℕ → Bool) (a n : ℕ) → ((j : ℕ) → a ≤ j → j < a + n → f j ≡ g j) → filter f (range_with_len a n) ≡ filter g (range_with_len a n)
  filter_on f g a zero h = refl
  filter_on f g a (suc n) h = ap₂ (λ b t. cond b (a ∷ t) t) (h a (omega arith) (omega arith)) (filter_on f g (a + 1) n (λ j u v. h j (omega (arith, u)) (omega (arith, v))))

  -- the marked paths are the choices
  pub marked_are_choices : (cuts : List ℕ) (marks : List Bool) → marks ≡ map (is_choice earlier k p l cuts) (paths m l) → marked marks ≡ conflict_choices m earlier k p l cuts
  marked_are_choices cuts marks e =
      let size : length marks ≡ path_count m l = ap length e ∙ length-map-range_with_len (is_choice earlier k p l cuts) 0 (path_count m l) in
      ap (λ n. filter (λ q. get_or marks q false) (range_with_len 0 n)) size
      ∙ filter_on (λ q. get_or marks q false) (is_choice earlier k p l cuts) 0 (path_count m l) (λ j u v.
      ap (λ ms. get_or ms j false) e ∙ get_or-map-range_with_len (is_choice earlier k p l cuts) 0 (path_count m l) j j false (omega (arith, v)) (omega arith))

  pub choices_rise : (cuts : List ℕ) → AllPairs (λ a b. a < b) (conflict_choices m earlier k p l cuts)
  choices_rise cuts = AllPairs-filter (λ a b. a < b) (is_choice earlier k p l cuts) (paths m l) (range_rises 0 (path_count m l))

  pub choices_inside : (cuts : List ℕ) → All (λ q. q < path_count m l) (conflict_choices m earlier k p l cuts)
  choices_inside cuts = All-filter (is_choice earlier k p l cuts) (λ q. q < path_count m l) (paths m l) (all_range (λ q. q < path_count m l) (path_count m l) (λ q u. u))
