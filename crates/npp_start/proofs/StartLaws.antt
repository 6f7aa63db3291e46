-- The tolls of a start are allowed.
use Rattle.std.proofs.Common.{◌≡◌, ℕ, zero, suc, ◌+◌, ◌<◌, ◌≤◌, min, List, [], ◌∷◌, ◌++◌, length, map, pos, replicate, refl, sym, ap, ◌∙◌, subst, arith}
use Rattle.std.specs.Prelude.{slice_index, Bool, true, false, Option, Some, None, if◌then◌else◌}
use Rattle.std.proofs.lemmas.List.{get_or-replicate, length-replicate}
use Rattle.std.proofs.lemmas.List.FromFn.{get_or-map-range_with_len}
use Rattle.std.proofs.lemmas.Int.{ints}
use Rattle.npp_frac.specs.Rational.{Rational, zero_ℚ, whole, ◌≤ℚ◌}
use Rattle.npp_frac.specs.Order.{≤ℚ_refl, ≤ℚ_trans, whole_mono}
use Rattle.npp_net.specs.Network.{Network, toll_count, ceiling_of}
use Rattle.npp_cover.specs.Caps.{within_ceiling}
use Rattle.npp_cover.specs.Replaces.{CoverValue}
use Rattle.npp_lp.specs.Programs.{at}
use Rattle.npp_rows.specs.declared.mark.Mark.TheVariants as mark
use Rattle.npp_rows.specs.PathModel.{PathModel, cap_at}
use Rattle.npp_rows.specs.Named.{numbered}
use Rattle.npp_rows.specs.Inverse.{inverse}
use Rattle.npp_rows.specs.Rows.{IsChoice}
use Rattle.npp_rows.specs.Response.{is_whole_reply, reply_fits, reply_stop}
use Rattle.npp_rows.specs.Caps.{path_model, toll_cap, greatest_gap}
use Rattle.npp_rows.specs.Lowering.{AreClosedCovers}
use Rattle.npp_inverse.specs.Best.{AreWithinCaps}
use Rattle.npp_inverse.specs.Offers.{HasUsefulPaths}
use Rattle.npp_inverse.specs.Work.{Ending, AtPoint, WithoutPoint, AtMark, program_work, with_reply, inverse_work}
use Rattle.npp_inverse.proofs.CoverLaws.{caps_size}
use Rattle.npp_start.specs.Allowed.{AreAllowed}
use Rattle.npp_start.specs.Start.{zero_choice, no_tolls, tolls_found, start_tolls}

one_more : {X : Type 0} (n : ℕ) (x : X) → replicate (suc n) x ≡ replicate n x ++ x ∷ []
one_more zero x = refl
one_more (suc n) x = ap (λ ys. x ∷ ys) (one_more n x)

pub replicate_more : {X : Type 0} (n : ℕ) (x : X) → replicate (n + 1) x ≡ replicate n x ++ x ∷ []
replicate_more n x = let e : n + 1 ≡ suc n = omega arith in rw e (one_more n x)

is_point : Ending → Bool
is_point (AtPoint x y v) = true
is_point (WithoutPoint y) = false
is_point (AtMark k) = false

pub found_tolls : (limit : ℕ) (m : PathModel) (choice : List ℕ) (e : Ending) → choice ≡ zero_choice m → e ≡ inverse_work limit m choice → tolls_found m e ≡ start_tolls limit m
unfolding start_tolls
found_tolls limit m choice e same work = ap (tolls_found m) (work ∙ ap (inverse_work limit m) same)

pub zero_is_choice : (m : PathModel) → HasUsefulPaths m → IsChoice m (zero_choice m)
zero_is_choice m useful = record {
  size = length-replicate {A = ℕ} (length m.covers) 0;
  each = λ k l. let e : slice_index (zero_choice m) k ≡ 0 = get_or-replicate (length m.covers) k 0 0 l in rw e (useful.some k l);
}

-- a found point is one to whose tolls the reply fits
-- a reply that is whole stops at no commodity
pub whole_of : (o : Option ℕ) → is_whole_reply o ≡ true → o ≡ None
whole_of None e = refl
whole_of (Some k) e = cc

at_point : (limit : ℕ) (m : PathModel) (T x : List Rational) (y z : List Rational) (v w : Rational) (b : Bool) → reply_fits limit m x ≡ b
    → AtPoint T y v ≡ (if b then AtPoint x z w else AtMark mark.Sum) → reply_stop limit m T ≡ None
unfolding is_point
at_point limit m T x y z v w true fits e =
    let same : T ≡ x = ap (tolls_found m) e in
    whole_of (reply_stop limit m T) (ap (reply_fits limit m) same ∙ fits)
at_point limit m T x y z v w false fits e = absurd (let clash : true ≡ false = ap is_point e in cc)

with_fits : (limit : ℕ) (m : PathModel) (T y : List Rational) (v : Rational) (e : Ending) → AtPoint T y v ≡ with_reply limit m e → reply_stop limit m T ≡ None
unfolding is_point
with_fits limit m T y v (AtPoint x z w) e = at_point limit m T x y z v w (reply_fits limit m x) refl e
with_fits limit m T y v (WithoutPoint z) e = absurd (let clash : true ≡ false = ap is_point e in cc)
with_fits limit m T y v (AtMark k) e = absurd (let clash : true ≡ false = ap is_point e in cc)

pub found_fits : (limit : ℕ) (m : PathModel) (choice : List ℕ) (T y : List Rational) (v : Rational) → AtPoint T y v ≡ inverse_work limit m choice → reply_stop limit m T ≡ None
unfolding inverse_work
found_fits limit m choice T y v e = with_fits limit m T y v (program_work limit (numbered (inverse m choice))) e

pub zero_capped : (m : PathModel) → AreWithinCaps m (no_tolls m)
zero_capped m a l =
    let e : at (no_tolls m) a ≡ zero_ℚ = get_or-replicate (length m.caps) a zero_ℚ zero_ℚ l in
    let Between : Rational → Type 0 = λ q. (zero_ℚ ≤ℚ q) × (q ≤ℚ whole (pos (cap_at m a))) in
    subst Between (sym e) (≤ℚ_refl zero_ℚ, whole_mono (omega (arith, ints)))

-- a cap is no greater than the ceiling
below_ceiling : (o : Option ℕ) (u n : ℕ) → o ≡ Some u → within_ceiling o n ≤ u
below_ceiling None u n is = cc
below_ceiling (Some v) u n is = let e : v ≡ u = cc in omega (arith, e)

cap_below : (net : Network) (covers : List CoverValue) (a u : ℕ) → a < toll_count net.arcs → ceiling_of net.arcs a ≡ Some u → cap_at (path_model net covers) a ≤ u
cap_below net covers a u l is =
    let e : cap_at (path_model net covers) a ≡ toll_cap net covers a = get_or-map-range_with_len (toll_cap net covers) 0 (toll_count net.arcs) a a 0 l (omega arith) in
    let below = below_ceiling (ceiling_of net.arcs a) u (greatest_gap covers a) is in
    omega (arith, e, below)

pub capped_allowed : (net : Network) (covers : List CoverValue) (T : List Rational) → AreClosedCovers net covers → length T ≡ length (path_model net covers).caps
    → AreWithinCaps (path_model net covers) T → AreAllowed net T
capped_allowed net covers T closed size capped = record {
  size = size ∙ caps_size net covers closed;
  not_negative = λ a l. (capped a (omega (arith, l, size))).0;
  ceilings = λ a u l is.
      let inside : a < toll_count net.arcs = omega (arith, l, size, caps_size net covers closed) in
      let below = cap_below net covers a u inside is in
      ≤ℚ_trans (capped a (omega (arith, l, size))).1 (whole_mono (omega (arith, ints, below)));
}
