-- A node that is no full choice can be split, and one path taken from several divides what is allowed.
use Rattle.std.proofs.Common.{◌≡◌, ◌≢◌, inl, inr, ℕ, zero, suc, ◌<◌, ◌≤◌, false, not, nat_eq, List, [], ◌∷◌, length, slice_index, sym, ◌∙◌, subst, ap, arith, Contains}
use Rattle.std.specs.Prelude.{◌||◌, ◌&&◌}
use Rattle.std.specs.List.{list_any, AllPairs}
use Rattle.std.proofs.lemmas.Bool.{cases_Bool, cases_eq, ne_eqb, true≢false}
use Rattle.std.proofs.lemmas.List.Elements.{Contains-get_or}
use Rattle.npp_rows.specs.PathModel.{PathModel}
use Rattle.npp_tree.specs.Family.{Family, Divides, rest_of}
use Rattle.npp_rows.specs.Parts.{IsAllowed, is_full, part_at}
use Rattle.npp_search.specs.Rule.{HasSeveral}
use Rattle.npp_tree.proofs.CountLaws.{in_cases}
use Rattle.npp_tree.proofs.FamilyLaws.{is_kept}

some_element : {X : Type 0} (xs : List X) (x : X) → Contains xs x → 0 < length xs
some_element xs x c = let lt = c.1 in omega arith

-- a path that differs from the one taken is left
left_over : (whole : List ℕ) (q r : ℕ) → Contains whole r → r ≢ q → 0 < length (rest_of (q ∷ []) whole)
left_over whole q r c apart =
    let other : (nat_eq r q || false) ≡ false = ap (λ b. b || false) (ne_eqb r q apart) in
    some_element (rest_of (q ∷ []) whole) r (is_kept (λ p. not (list_any (nat_eq p) (q ∷ []))) whole r c (ap not other))

alone : (q : ℕ) → AllPairs (λ p q. p < q) (q ∷ [])
alone q i j d lt k = absurd (omega (arith, lt, k))

one_of : (q r : ℕ) (whole : List ℕ) → Contains whole q → Contains (q ∷ []) r → Contains whole r
one_of q r whole c d = elim (in_cases q r [] d) [
  | inl same ↦ subst (λ (s : ℕ). Contains whole s) same c
  | inr none ↦ (let lt = none.1 in absurd (omega arith))
]

-- one of several paths in rising order divides them
pub one_divides : (family : Family) (k q : ℕ) → HasSeveral family k → AllPairs (λ p q. p < q) (part_at family k) → Contains (part_at family k) q
    → Divides family (record { commodity = k; part = q ∷ [] })
one_divides family k q has rising c =
    let whole : List ℕ = part_at family k in
    let several = has.several in
    let first : Contains whole (slice_index whole 0) = Contains-get_or whole 0 0 (omega arith) in
    let second : Contains whole (slice_index whole 1) = Contains-get_or whole 1 0 (omega arith) in
    let less : slice_index whole 0 < slice_index whole 1 = rising 0 1 0 (omega arith) (omega arith) in
    record {
      commodity = has.in_range;
      rising = alone q;
      within = λ r d. one_of q r whole c d;
      some = omega arith;
      rest = elim (cases_eq (slice_index whole 0) q) [
        | inr apart ↦ left_over whole q (slice_index whole 0) first apart
        | inl same ↦ left_over whole q (slice_index whole 1) second (λ e. absurd (omega (arith, less, same, e)))
      ];
    }

-- ---- a node that is no full choice has such a commodity

not_one : (n : ℕ) → 0 < n → nat_eq n 1 ≡ false → 2 ≤ n
not_one zero some e = absurd (omega arith)
not_one (suc zero) some e = absurd (true≢false e)
not_one (suc (suc n)) some e = omega arith

several_in : (family : Family) → ((k : ℕ) → k < length family → 0 < length (part_at family k)) → is_full family ≡ false → (k : ℕ) × HasSeveral family k
several_in [] some e = absurd (true≢false e)
several_in (part ∷ family) some e = elim (cases_Bool (nat_eq (length part) 1)) [
  | inr more ↦ (0, record { in_range = omega arith; several = not_one (length part) (some 0 (omega arith)) more })
  | inl one ↦ (let rest = several_in family (λ k lt. some (suc k) (omega (arith, lt))) (sym (ap (λ b. b && is_full family) one) ∙ e) in
      (suc rest.0, record { in_range = (let lt = rest.1.in_range in omega arith); several = rest.1.several }))
]

pub has_several : (m : PathModel) (family : Family) → IsAllowed m family → is_full family ≡ false → (k : ℕ) × HasSeveral family k
has_several m family is e = several_in family (λ k lt. (is.each k lt).some) e
