-- The walks of the reply to allowed tolls are what they are said to be.
use Rattle.std.proofs.Common.{◌≡◌, ℕ, suc, ◌+◌, ◌*◌, ◌<◌, ◌≤◌, ℤ, pos, negsuc, ◌*ℤ◌, List, [], ◌∷◌, length, map, All, refl, sym, ap, ◌∙◌, subst, arith}
use Rattle.std.specs.Prelude.{slice_index, slice_index_or, Some}
use Rattle.std.specs.List.{AllZip, range_with_len}
use Rattle.std.proofs.lemmas.List.Elements.{All-map}
use Rattle.std.proofs.lemmas.List.FromFn.{get_or-range_with_len, length-range_with_len}
use borrow.Author.Differences.{up, down}
use Rattle.npp_frac.specs.Rational.{Rational, whole, ratio, ◌≤ℚ◌, Is, Is-same, Is-ratio, Is-whole, le-Is}
use Rattle.npp_net.specs.declared.types.ArcId.{ArcId}
use Rattle.npp_net.specs.declared.types.NetArc.{NetArc}
use Rattle.npp_net.specs.declared.types.Commodity.{Commodity}
use Rattle.npp_net.specs.Network.{Network, no_commodity, toll_count, ceiling_of}
use Rattle.npp_net.specs.Walk.{RepeatsNoNode}
use Rattle.npp_net.specs.Toll.{TollVector, KeepsCeilings, toll_paid}
use Rattle.npp_net.specs.Outcome.{IsOutcome, IsEarned, revenue}
use Rattle.npp_cover.specs.Replaces.{CoverValue, IsPath, no_path}
use Rattle.npp_lp.specs.Programs.{at}
use Rattle.npp_labels.specs.Covers.{IsUsefulCover, AreUsefulCovers}
use Rattle.npp_rows.specs.PathModel.{PathModel, no_cover, useful_path, commodities}
use Rattle.npp_rows.specs.Parts.{chosen}
use Rattle.npp_rows.specs.Caps.{path_model}
use Rattle.npp_rows.specs.Piece.{toll_value, walks_of as arcs_of}
use Rattle.npp_rows.specs.Response.{Reply, reply, path_toll}
use Rattle.npp_rows.specs.declared.response.Response.{Response}
use Rattle.npp_rows.specs.Meaning.{reply_value}
use Rattle.npp_rows.specs.Promises.{IsModelOf}
use Rattle.npp_rows.proofs.ListLaws.{zip_size, zip_at, map_twice}
use Rattle.npp_inverse.specs.Offers.{HasUsefulPaths}
use Rattle.npp_rows.specs.TollVectors.{HasTolls}
use Rattle.npp_inverse.specs.Replies.{IsBestReply}
use Rattle.npp_rows.proofs.PriceLaws.{toll_is}
use Rattle.npp_inverse.proofs.BestReplies.{best_reply}
use Rattle.npp_inverse.proofs.CoverLaws.{caps_size, has_useful_paths, is_model}
use Rattle.npp_tree.specs.declared.outcome.PathLine.{PathLine}
use Rattle.npp_start.specs.Allowed.{AreAllowed}
use Rattle.npp_start.specs.Walks.{taken_line, reply_lines, walks_of, EarnMost, IsReply, IsPriced, IsReplyOver, AreSimple, IsReplyTo}
use Rattle.npp_rows.proofs.CommonTolls.{common_tolls, has_common}
use Rattle.npp_start.proofs.CoverShape.{are_closed}
use Rattle.npp_start.proofs.ReplyShape.{path_is, paid_is, path_in_range}

pub same_walks : (m : PathModel) (r : Reply) → walks_of (reply_lines m r) ≡ arcs_of m r.paths
same_walks m r = sym (map_twice (λ p. p.arcs) (taken_line m r) (commodities m))

-- a revenue over a denominator, as a fraction
value_cross : (z : ℤ) (n d den : ℕ) → 0 < d → up z * d + 0 * den ≡ n * den + down z * d → pos (n * den) ≡ z *ℤ pos d
value_cross (pos a) n d den l h = ap pos (omega (arith, h))
value_cross (negsuc a) n d den l h = absurd (omega (arith, h, l))

is_value : (q : Rational) (n d : ℕ) → 0 < d → ratio (pos n) d ≡ q → pos (n * q.den) ≡ q.num *ℤ pos d
is_value q n d l e =
    let is : Is q n 0 d = subst (λ (p : Rational). Is p n 0 d) e (Is-ratio (pos n) d l) in
    value_cross q.num n d q.den l is.cross

keeps_ceilings : (net : Network) (T : List Rational) (t : TollVector) → AreAllowed net T → HasTolls T t → KeepsCeilings net.arcs t
keeps_ceilings net T t allowed has a u inside is =
    let l : a < length T = omega (arith, inside, allowed.size) in
    let below : toll_value t a ≤ℚ whole (pos u) = subst (λ (q : Rational). q ≤ℚ whole (pos u)) (has.each a l) (allowed.ceilings a u l is) in
    let cross = le-Is (Is-ratio (pos (slice_index t.numerators a)) t.denominator has.positive) (Is-whole (pos u)) below in
    omega (arith, cross)

-- a fact of each commodity with its walk
zip_range : (R : Commodity → List ArcId → Type 0) (f : ℕ → List ArcId) (ks : List Commodity) (a : ℕ)
    → ((k : ℕ) → k < length ks → R (slice_index_or ks k no_commodity) (f (a + k))) → AllZip R ks (map f (range_with_len a (length ks)))
zip_range R f [] a h = tt
zip_range R f (c ∷ ks) a h =
    let e : a + 0 ≡ a = omega arith in
    (rw e at (h 0 (omega arith)), zip_range R f ks (a + 1) (λ k l. let e : a + 1 + k ≡ a + suc k = omega arith in rw e (h (suc k) (omega (arith, l)))))

module _ (net : Network) (m : PathModel) (T : List Rational) (model : IsModelOf net m) (covers : AreUsefulCovers net.arcs net.commodities m.covers)
    (paths : HasUsefulPaths m) (size : length T ≡ length m.caps) (allowed : AreAllowed net T) where
  abbrev is : IsReply m (reply m T)
  is = record { tolls = T; same = refl }

  count : length net.commodities ≡ length m.covers
  count = zip_size (IsUsefulCover net.arcs) net.commodities m.covers covers

  useful_cover : (k : ℕ) → k < length m.covers → IsUsefulCover net.arcs (slice_index_or net.commodities k no_commodity) (slice_index_or m.covers k no_cover)
  useful_cover k l = zip_at (IsUsefulCover net.arcs) net.commodities m.covers no_commodity no_cover k covers l

  taken_arcs : ℕ → List ArcId
  taken_arcs k = (useful_path m k (chosen (reply m T).paths k)).arcs

  walks_are : walks_of (reply_lines m (reply m T)) ≡ map taken_arcs (range_with_len 0 (length net.commodities))
  unfolding taken_arcs
  walks_are = same_walks m (reply m T) ∙ ap (λ n. map taken_arcs (range_with_len 0 n)) (sym count)

  simple : AreSimple net (walks_of (reply_lines m (reply m T)))
  unfolding taken_arcs
  simple =
      subst (λ (ws : List (List ArcId)). AreSimple net ws) (sym walks_are)
      (zip_range (λ k walk. RepeatsNoNode net.arcs k.origin.0 walk) taken_arcs net.commodities 0
      (λ k l.
      let u : k < length m.covers = omega (arith, l, count) in
      let e : 0 + k ≡ k = omega arith in
      rw e ((useful_cover k u).simple.paths (chosen (reply m T).paths k) no_path (path_in_range m (reply m T) is paths k u))))

  module _ (t : TollVector) (has : HasTolls T t) where
    best : IsBestReply net m t (reply m T)
    best = best_reply net m T t model size has paths

    outcome : IsOutcome net t (arcs_of m (reply m T).paths)
    outcome = record {
      vector = record { positive = omega (arith, has.positive); count = has.size ∙ allowed.size };
      ceilings = keeps_ceilings net T t allowed has;
      cheapest = best.cheapest;
    }

    -- what is said of the path that a commodity takes
    line_priced : (k : ℕ) → k < length m.covers → IsPriced net.arcs t (taken_line m (reply m T) k)
    line_priced k l =
        let path : IsPath net.arcs (slice_index_or net.commodities k no_commodity) (useful_path m k (chosen (reply m T).paths k)) =
        (useful_cover k l).cover.each (chosen (reply m T).paths k) no_path (path_in_range m (reply m T) is paths k l) in
        let pays : at (reply m T).paid k ≡ path_toll m T k (chosen (reply m T).paths k) =
        paid_is m (reply m T) is k l ∙ ap (path_toll m T k) (sym (path_is m (reply m T) is k l)) in
        record {
          cost = sym path.costs;
          paid = pays
              ∙ Is-same (toll_is net m T t model size has k (chosen (reply m T).paths k))
              (Is-ratio (pos (toll_paid net.arcs t (useful_path m k (chosen (reply m T).paths k)).arcs)) t.denominator has.positive)
              (omega (arith, ap (λ z. z * t.denominator) (path.pays t)));
        }

    lines_priced : All (IsPriced net.arcs t) (reply_lines m (reply m T))
    lines_priced =
        All-map (IsPriced net.arcs t) (taken_line m (reply m T)) (commodities m)
        (λ i d l.
        let u : i < length m.covers = omega (arith, l, length-range_with_len 0 (length m.covers)) in
        let e : slice_index_or (commodities m) i d ≡ i = get_or-range_with_len 0 (length m.covers) i d u ∙ omega arith in
        subst (λ (k : ℕ). IsPriced net.arcs t (taken_line m (reply m T) k)) (sym e) (line_priced i u))

    reply_over : IsReplyOver net t (reply_lines m (reply m T)) (reply m T).revenue
    reply_over =
        let R : List (List ArcId) → ℕ = revenue net.arcs t net.commodities in
        let earned = (reply m T).revenue in
        let OfWalks : List (List ArcId) → Type 0 = λ ws. IsEarned net t ws earned.num earned.den in
        let MostOf : List (List ArcId) → Type 0 = λ ws. EarnMost net t ws in
        record {
          earned = subst OfWalks (sym (same_walks m (reply m T)))
              (record { positive = omega (arith, earned.positive); outcome = outcome; value = is_value earned (R (arcs_of m (reply m T).paths)) t.denominator has.positive best.earned });
          most = subst MostOf (sym (same_walks m (reply m T))) (λ others other. best.most others other.cheapest);
          priced = lines_priced;
        }

  pub is_reply_to : IsReplyTo net T (reply_lines m (reply m T)) (reply m T).revenue
  is_reply_to = record { common = (common_tolls T, has_common T allowed.not_negative); over = reply_over; simple = simple }

-- whatever the code's numbers
pub answers_as : {N : Type 0} (value : N → Rational) (net : Network) (covers : List CoverValue) (response : Response N) (lines : List (PathLine Rational))
    → AreUsefulCovers net.arcs net.commodities covers → lines ≡ reply_lines (path_model net covers) (reply_value value response)
    → (T : List Rational) → AreAllowed net T → reply_value value response ≡ reply (path_model net covers) T → IsReplyTo net T lines (value response.revenue)
answers_as value net covers response lines useful are T allowed same =
    let closed = are_closed net covers useful in
    let said = is_reply_to net (path_model net covers) T (is_model net covers closed) useful (has_useful_paths net covers closed) (allowed.size ∙ sym (caps_size net covers closed)) allowed in
    let OfLines : List (PathLine Rational) → Type 0 = λ lines. IsReplyTo net T lines (value response.revenue) in
    let OfReply : Reply → Type 0 = λ x. IsReplyTo net T (reply_lines (path_model net covers) x) x.revenue in
    subst OfLines (sym are) (subst OfReply (sym same) said)
