-- What the toll lines and the path lines say, and that the printed walks are cheapest among all walks.
use Rattle.std.specs.Prelude.{◌≡◌, ℕ, zero, suc, ◌+◌, ◌*◌, ◌<◌, ◌≤◌, pos, Bool, true, false, not, ◌&&◌, ◌==◌, nat_lt, List, [], ◌∷◌, length, slice_index, slice_index_or, Option, Some, None, Result, Ok, Err, cond}
use Rattle.std.proofs.Common.{arith, ap, sym, ◌∙◌, subst, eqb-true, ltb-true}
use Rattle.std.proofs.lemmas.List.FromFn.{length-range_with_len, get_or-range_with_len}
use Rattle.npp_frac.specs.Rational.{Rational, zero_ℚ, whole, is_less, ◌≤ℚ◌, ◌+ℚ◌, Is-whole, le-Is}
use Rattle.npp_frac.specs.Order.{is_less_no}
use Rattle.npp_frac.specs.Fits.{fits_add}
use Rattle.npp_lp.specs.Programs.{at}
use Rattle.npp_net.specs.declared.types.ArcId.{ArcId}
use Rattle.npp_net.specs.declared.types.NetArc.{NetArc}
use Rattle.npp_net.specs.Network.{Network, arc_at, toll_count, ceiling_of}
use Rattle.npp_net.specs.Walk.{IsWalk}
use Rattle.npp_net.specs.Toll.{TollVector, IsTollVector, KeepsCeilings, price}
use Rattle.npp_cover.specs.Useful.{commodity_at}
use Rattle.npp_rows.specs.PathModel.{PathModel, paths, path_count}
use Rattle.npp_rows.specs.Response.{path_price, path_fits}
use Rattle.npp_tree.specs.declared.item.Item.{Item}
use Rattle.npp_tree.specs.declared.item.Item.TheVariants as item
use Rattle.npp_rows.specs.TollVectors.{HasTolls}
use Rattle.npp_tree.specs.declared.outcome.PathLine.{PathLine}
use Rattle.npp_check.specs.declared.refusal.Rule.{Rule}
use Rattle.npp_check.specs.declared.refusal.Rule.TheVariants as rule
use Rattle.npp_check.specs.Rules.{same, whole_number, sum_of}
use Rattle.npp_check.specs.TollLines.{is_above, toll_line}
use Rattle.npp_check.specs.PathLines.{is_walk, is_walk_of, toll_of_walk, path_rules, path_line}
use Rattle.npp_check.specs.Prices.{printed_price, useful_price, none_cheaper, walks_are_cheapest}
use Rattle.npp_check.proofs.RuleLemmas.{true_of, both, neither_test, same_is, same_ok, unbroken, both_said}
use Rattle.npp_check.proofs.ExactLemmas.{toll_is}

-- ---- walks

pub walk_is : (arcs : List NetArc) (u v : ℕ) (walk : List ArcId) → is_walk arcs u v walk ≡ true → IsWalk arcs u v walk
walk_is arcs u v [] e = eqb-true u v e
walk_is arcs u v (a ∷ rest) e =
    let two = both (nat_lt a.0 (length arcs) && ((arc_at arcs a).tail.0 == u)) (is_walk arcs (arc_at arcs a).head.0 v rest) e in
    let one = both (nat_lt a.0 (length arcs)) ((arc_at arcs a).tail.0 == u) two.0 in
    (ltb-true a.0 (length arcs) one.0, eqb-true (arc_at arcs a).tail.0 u one.1, walk_is arcs (arc_at arcs a).head.0 v rest two.1)

-- ---- tolls

-- a toll that is neither negative nor above its ceiling
pub record IsToll (net : Network) (a : ℕ) (v : Rational) : Type 0 where
  pub least : is_less v zero_ℚ ≡ false
  pub most : is_above v (ceiling_of net.arcs a) ≡ false

pub toll_says : (net : Network) (a : ℕ) (i : Item Rational) (v : Rational) → toll_line net a i ≡ Ok v → IsToll net a v
toll_says net a (item.Toll b w) v e =
    let named = unbroken (not (b == a)) rule.Order _ v e in
    let allowed = unbroken _ rule.Tolls (Ok w) v named.1 in
    let both_no = neither_test (is_less w zero_ℚ) (is_above w (ceiling_of net.arcs a)) allowed.0 in
    subst (IsToll net a) (same_ok w v allowed.1) (record { least = both_no.0; most = both_no.1 })
toll_says net a other v e = cc

-- tolls that are printed so, over a common denominator, are a toll vector that keeps the ceilings
module _ (net : Network) (tolls : List Rational) (t : TollVector) (has : HasTolls tolls t) (size : length tolls ≡ toll_count net.arcs)
    (each : (a : ℕ) → a < length tolls → IsToll net a (at tolls a)) where
  pub tolls_are : IsTollVector net.arcs t
  tolls_are = record { positive = omega (arith, has.positive); count = has.size ∙ size }

  below_ceiling : (a u : ℕ) (ceiling : Option ℕ) → a < length tolls → is_above (at tolls a) ceiling ≡ false → ceiling ≡ Some u → slice_index t.numerators a ≤ u * t.denominator
  below_ceiling a u None lt e is = cc
  below_ceiling a u (Some w) lt e is =
      let below : at tolls a ≤ℚ whole (pos w) = is_less_no (whole (pos w)) (at tolls a) e in
      let cross = le-Is (toll_is tolls t has a lt) (Is-whole (pos w)) below in
      let same_ceiling : w ≡ u = cc in
      omega (arith, cross, ap (λ z. z * t.denominator) same_ceiling)

  pub ceilings_kept : KeepsCeilings net.arcs t
  ceilings_kept a u lt is = below_ceiling a u (ceiling_of net.arcs a) (omega (arith, lt, size)) (each a (omega (arith, lt, size))).most is

-- ---- walks and what they pay

-- a walk of commodity k with its cost and the toll that it pays
pub record IsPrinted (limit : ℕ) (net : Network) (tolls : List Rational) (k : ℕ) (p : PathLine Rational) : Type 0 where
  pub walk : is_walk_of net.arcs (commodity_at net k) p.cost p.arcs ≡ true
  pub paid : (q : Rational) × (toll_of_walk limit net.arcs tolls p.arcs ≡ Ok q) × (q ≡ p.paid)

path_says_rules : (limit : ℕ) (net : Network) (tolls : List Rational) (k : ℕ) (p x : PathLine Rational) → path_rules limit net tolls k p ≡ Ok x → IsPrinted limit net tolls k x
path_says_rules limit net tolls k p x e =
    let walk = unbroken (not (is_walk_of net.arcs (commodity_at net k) p.cost p.arcs)) rule.Path _ x e in
    let paid = both_said (toll_of_walk limit net.arcs tolls p.arcs) _ x walk.1 in
    let equal = unbroken (not (same paid.0 p.paid)) rule.Path (Ok p) x paid.2 in
    subst (IsPrinted limit net tolls k) (same_ok p x equal.1)
    (record { walk = true_of _ walk.0; paid = (paid.0, paid.1, same_is paid.0 p.paid (true_of (same paid.0 p.paid) equal.0)) })

pub rules_keep : (limit : ℕ) (net : Network) (tolls : List Rational) (k : ℕ) (p x : PathLine Rational) → path_rules limit net tolls k p ≡ Ok x → p ≡ x
rules_keep limit net tolls k p x e =
    let walk = unbroken (not (is_walk_of net.arcs (commodity_at net k) p.cost p.arcs)) rule.Path _ x e in
    let paid = both_said (toll_of_walk limit net.arcs tolls p.arcs) _ x walk.1 in
    let equal = unbroken (not (same paid.0 p.paid)) rule.Path (Ok p) x paid.2 in
    same_ok p x equal.1

pub path_says : (limit : ℕ) (net : Network) (tolls : List Rational) (k : ℕ) (i : Item Rational) (x : PathLine Rational) → path_line limit net tolls k i ≡ Ok x → IsPrinted limit net tolls k x
path_says limit net tolls k (item.Path l cost paid arcs) x e =
    let named = unbroken (not (l == k)) rule.Order _ x e in
    path_says_rules limit net tolls k (record { cost = cost; paid = paid; arcs = arcs }) x named.1
path_says limit net tolls k other x e = cc

-- ---- prices

number_says : (limit n : ℕ) (q : Rational) → whole_number limit n ≡ Ok q → whole (pos n) ≡ q
number_says limit n q e = by_test (nat_lt n limit) e
  where
    by_test : (b : Bool) → (let r : Result Rational Rule = cond b (Ok (whole (pos n))) (Err rule.Overflow) in r ≡ Ok q) → whole (pos n) ≡ q
    by_test true d = same_ok (whole (pos n)) q d
    by_test false d = cc

sum_says : (limit : ℕ) (a b q : Rational) → sum_of limit a b ≡ Ok q → a +ℚ b ≡ q
sum_says limit a b q e = by_test (fits_add limit a b) e
  where
    by_test : (fits : Bool) → (let r : Result Rational Rule = cond fits (Ok (a +ℚ b)) (Err rule.Overflow) in r ≡ Ok q) → a +ℚ b ≡ q
    by_test true d = same_ok (a +ℚ b) q d
    by_test false d = cc

printed_says : (limit : ℕ) (p : PathLine Rational) (q : Rational) → printed_price limit p ≡ Ok q → whole (pos p.cost) +ℚ p.paid ≡ q
printed_says limit p q e =
    let cost = both_said (whole_number limit p.cost) (λ cost. sum_of limit cost p.paid) q e in
    ap (λ z. z +ℚ p.paid) (number_says limit p.cost cost.0 cost.1) ∙ sum_says limit cost.0 p.paid q cost.2

useful_says : (limit : ℕ) (m : PathModel) (tolls : List Rational) (k q : ℕ) (price : Rational) → useful_price limit m tolls k q ≡ Ok price → path_price m tolls k q ≡ price
useful_says limit m tolls k q price e = by_test (path_fits limit m tolls k q) e
  where
    by_test : (fits : Bool) → (let r : Result Rational Rule = cond fits (Ok (path_price m tolls k q)) (Err rule.Overflow) in r ≡ Ok price) → path_price m tolls k q ≡ price
    by_test true d = same_ok (path_price m tolls k q) price d
    by_test false d = cc

none_says : (limit : ℕ) (m : PathModel) (tolls : List Rational) (k : ℕ) (printed : Rational) (qs : List ℕ) (u : Unit {0}) → none_cheaper limit m tolls k printed qs ≡ Ok u
    → (i : ℕ) → i < length qs → printed ≤ℚ path_price m tolls k (slice_index qs i)
none_says limit m tolls k printed [] u e i lt = absurd (omega (arith, lt))
none_says limit m tolls k printed (q ∷ qs) u e zero lt =
    let first = both_said (useful_price limit m tolls k q) _ u e in
    let less = unbroken (is_less first.0 printed) rule.Path (none_cheaper limit m tolls k printed qs) u first.2 in
    subst (λ z. printed ≤ℚ z) (sym (useful_says limit m tolls k q first.0 first.1)) (is_less_no first.0 printed less.0)
none_says limit m tolls k printed (q ∷ qs) u e (suc i) lt =
    let first = both_said (useful_price limit m tolls k q) _ u e in
    let less = unbroken (is_less first.0 printed) rule.Path (none_cheaper limit m tolls k printed qs) u first.2 in
    none_says limit m tolls k printed qs u less.1 i (omega (arith, lt))

-- no useful path of commodity k is cheaper than what is printed
pub record IsNoDearer (m : PathModel) (tolls : List Rational) (k : ℕ) (p : PathLine Rational) : Type 0 where
  pub least : (q : ℕ) → q < path_count m k → (whole (pos p.cost) +ℚ p.paid) ≤ℚ path_price m tolls k q

one_no_dearer : (limit : ℕ) (m : PathModel) (tolls : List Rational) (k : ℕ) (p : PathLine Rational) (printed : Rational) (u : Unit {0}) → printed_price limit p ≡ Ok printed
    → none_cheaper limit m tolls k printed (paths m k) ≡ Ok u → IsNoDearer m tolls k p
one_no_dearer limit m tolls k p printed u e f = record {
  least = λ q lt.
      let number : slice_index (paths m k) q ≡ 0 + q = get_or-range_with_len 0 (path_count m k) q 0 lt in
      let size : length (paths m k) ≡ path_count m k = length-range_with_len 0 (path_count m k) in
      let same_number : slice_index (paths m k) q ≡ q = omega (arith, number) in
      let below = none_says limit m tolls k printed (paths m k) u f q (omega (arith, lt, size)) in
      subst (λ z. z ≤ℚ path_price m tolls k q) (sym (printed_says limit p printed e)) (subst (λ z. printed ≤ℚ path_price m tolls k z) same_number below);
}

-- so of each path line, the first of which is that of commodity k
pub none_dearer : (limit : ℕ) (m : PathModel) (tolls : List Rational) (k : ℕ) (lines : List (PathLine Rational)) (u : Unit {0}) → walks_are_cheapest limit m tolls k lines ≡ Ok u
    → (i : ℕ) (d : PathLine Rational) → i < length lines → IsNoDearer m tolls (k + i) (slice_index_or lines i d)
none_dearer limit m tolls k [] u e i d lt = absurd (omega (arith, lt))
none_dearer limit m tolls k (p ∷ lines) u e zero d lt =
    let printed = both_said (printed_price limit p) _ u e in
    let none = both_said (none_cheaper limit m tolls k printed.0 (paths m k)) _ u printed.2 in
    let first : k ≡ k + 0 = omega arith in
    subst (λ z. IsNoDearer m tolls z p) first (one_no_dearer limit m tolls k p printed.0 none.0 printed.1 none.1)
none_dearer limit m tolls k (p ∷ lines) u e (suc i) d lt =
    let printed = both_said (printed_price limit p) _ u e in
    let none = both_said (none_cheaper limit m tolls k printed.0 (paths m k)) _ u printed.2 in
    let next : k + 1 + i ≡ k + suc i = omega arith in
    subst (λ z. IsNoDearer m tolls z (slice_index_or lines i d)) next (none_dearer limit m tolls (k + 1) lines u none.2 i d (omega (arith, lt)))
