-- The reply of the first commodities.
use Rattle.std.proofs.Common.{◌≡◌, ℕ, suc, ◌+◌, ◌<◌, true, false, cond, List, [], ◌∷◌, ◌++◌, length, map, Option, Some, None, refl, sym, ap, ◌∙◌, subst, arith}
use Rattle.std.specs.List.{range_with_len}
use Rattle.std.proofs.lemmas.List.FromFn.{map-range_with_len_more}
use Rattle.npp_frac.specs.Rational.{Rational, zero_ℚ, ◌+ℚ◌, ◌*ℚ◌}
use Rattle.npp_frac.specs.Sums.{sum_to}
use Rattle.npp_lp.specs.Verdict.{first_below}
use Rattle.npp_lp.specs.VerdictLaws.{first_below_more, first_below_found}
use Rattle.npp_rows.specs.PathModel.{PathModel}
use Rattle.npp_rows.specs.Response.{commodity_fits, demand, revenue_below, reply, Reply, reply_stop, taken_path, taken_toll}

-- the first commodity below n of which a sum does not fit
abbrev pub stop_below : ℕ → PathModel → List Rational → ℕ → Option ℕ
stop_below limit m T n = first_below n (λ k. cond (commodity_fits limit m T k) None (Some k))

-- the reply of the first n commodities
pub record IsReplyBelow (limit : ℕ) (m : PathModel) (T : List Rational) (n : ℕ) (paths : List ℕ) (paid : List Rational) (revenue : Rational) : Type 0 where
  pub fits : stop_below limit m T n ≡ None
  pub taken : paths ≡ map (taken_path m T) (range_with_len 0 n)
  pub pays : paid ≡ map (taken_toll m T) (range_with_len 0 n)
  pub earns : revenue ≡ revenue_below m T n

module _ (limit : ℕ) (m : PathModel) (T : List Rational) where
  pub more_revenue : (k : ℕ) (revenue payment total : Rational) → revenue ≡ revenue_below m T k → payment ≡ demand m k *ℚ taken_toll m T k → total ≡ revenue +ℚ payment
      → total ≡ revenue_below m T (k + 1)
  unfolding sum_to
  more_revenue k revenue payment total r p t =
      let e : k + 1 ≡ suc k = omega arith in
      rw e (t ∙ ap (λ q. q +ℚ payment) r ∙ ap (λ q. revenue_below m T k +ℚ q) p)

  pub nothing_yet : (paths : List ℕ) (paid : List Rational) (revenue : Rational) → paths ≡ [] → paid ≡ [] → revenue ≡ zero_ℚ → IsReplyBelow limit m T 0 paths paid revenue
  unfolding sum_to
  nothing_yet paths paid revenue e f g = rw (e, f, g) (record { fits = refl; taken = refl; pays = refl; earns = refl })

  pub one_more : (k path : ℕ) (paths : List ℕ) (toll : Rational) (paid : List Rational) (revenue total : Rational) → IsReplyBelow limit m T k paths paid revenue
      → true ≡ commodity_fits limit m T k → path ≡ taken_path m T k → toll ≡ taken_toll m T k → total ≡ revenue_below m T (k + 1)
      → IsReplyBelow limit m T (k + 1) (paths ++ path ∷ []) (paid ++ toll ∷ []) total
  one_more k path paths toll paid revenue total h fits p t r = record {
    fits = first_below_more (λ i. cond (commodity_fits limit m T i) None (Some i)) k h.fits (ap (λ b. cond b None (Some k)) (sym fits));
    taken = rw (map-range_with_len_more (taken_path m T) 0 k k (omega arith), h.taken, p) refl;
    pays = rw (map-range_with_len_more (taken_toll m T) 0 k k (omega arith), h.pays, t) refl;
    earns = r;
  }

  pub stops_here : (n k : ℕ) → k < n → stop_below limit m T k ≡ None → false ≡ commodity_fits limit m T k → stop_below limit m T n ≡ Some k
  stops_here n k l h fits = first_below_found (λ i. cond (commodity_fits limit m T i) None (Some i)) n k k l h (ap (λ b. cond b None (Some k)) (sym fits))

  pub whole_reply : (n : ℕ) (paths : List ℕ) (paid : List Rational) (revenue : Rational) → IsReplyBelow limit m T n paths paid revenue → n ≡ length m.covers
      → (reply_stop limit m T ≡ None) × (let r : Reply = record { paths = paths; paid = paid; revenue = revenue } in r ≡ reply m T)
  whole_reply n paths paid revenue h e =
      let all : IsReplyBelow limit m T (length m.covers) paths paid revenue = subst (λ (i : ℕ). IsReplyBelow limit m T i paths paid revenue) e h in
      (all.fits, rw (all.taken, all.pays, all.earns) refl)
