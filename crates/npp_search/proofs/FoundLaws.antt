-- What the work on a node finds is the evidence that a grown tree owes, and what it offers is what the node earns.
use Rattle.std.proofs.Common.{◌≡◌, ℕ, ◌≤◌, Bool, true, false, cond, List, [], length, refl, sym, ◌∙◌, subst, ap, arith, Option, Some, None}
use Rattle.std.specs.Prelude.{option_map}
use Rattle.std.proofs.lemmas.List.{take_all, length-take-le}
use Rattle.npp_frac.specs.Rational.{Rational}
use Rattle.npp_rows.specs.declared.mark.Mark.{Mark}
use Rattle.npp_rows.specs.declared.mark.Mark.TheVariants as mark
use Rattle.npp_rows.specs.PathModel.{PathModel}
use Rattle.npp_rows.specs.Parts.{is_full, first_choice, IsAllowed}
use Rattle.npp_rows.specs.Rows.{IsChoice}
use Rattle.npp_rows.specs.Named.{NamedProgram, numbered}
use Rattle.npp_rows.specs.Relax.{relaxation, relaxation_columns}
use Rattle.npp_rows.specs.Inverse.{inverse}
use Rattle.npp_rows.specs.Response.{Reply, reply, reply_fits, fitting_reply}
use Rattle.npp_rows.proofs.PointLaws.{columns_are}
use Rattle.npp_inverse.specs.Work.{Ending, AtPoint, WithoutPoint, AtMark, program_work, with_reply, inverse_work, relaxation_work}
use Rattle.npp_inverse.specs.Offers.{HasUsefulPaths}
use Rattle.npp_inverse.specs.Best.{AreWithinCaps}
use Rattle.npp_inverse.proofs.BestLaws.{best_tolls_are}
use Rattle.npp_tree.specs.declared.node.Evidence.TheVariants.{Basic}
use Rattle.npp_tree.specs.Evidence.{IsOfKind, is_opened}
use Rattle.npp_tree.specs.Family.{Family}
use Rattle.npp_tree.specs.Points.{tolls_of}
use Rattle.npp_leaf.specs.Found.{Found, BestTolls, relaxation_found, choice_found}
use Rattle.npp_leaf.specs.Work.{choice_work, family_work, leaf_work}
use Rattle.npp_leaf.proofs.AnswerLaws.{program_is}
use Rattle.npp_leaf.proofs.WorkLaws.{IsAnswered, inverse_answered, relaxation_answered}
use Rattle.npp_leaf.proofs.LeafLaws.{leaf_passes, leaf_optimum}
use Rattle.npp_leaf.proofs.PointLaws.{columns_hold, tolls_capped}
use Rattle.npp_leaf.proofs.TollLaws.{choice_of_family}
use Rattle.npp_search.specs.Problem.{Problem, work_on, reply_to}
use Rattle.npp_search.specs.Offer.{offer_of, offer_at}
use Rattle.npp_search.specs.Grown.{IsEvidence, EarnsBy, Earns}

-- ---- the evidence

-- the kind and the mark of what is found, and that the node is opened
pub record IsOfWork (full : Bool) (e : Ending) (f : Found) : Type 0 where
  pub opened : is_opened f.evidence ≡ true
  pub kind : IsOfKind full f.evidence
  pub marked : (k : Mark) → f.evidence ≡ Basic k → e ≡ AtMark k
  pub loud : (k : Mark) → e ≡ AtMark k → f.evidence ≡ Basic k

relaxation_is : (m : PathModel) (parts : Family) (p : NamedProgram) (e : Ending) → IsOfWork false e (relaxation_found m parts p.rows e)
relaxation_is m parts p (AtPoint x y v) = record { opened = refl; kind = refl; marked = λ k h. cc; loud = λ k h. cc }
relaxation_is m parts p (WithoutPoint y) = record { opened = refl; kind = refl; marked = λ k h. cc; loud = λ k h. cc }
relaxation_is m parts p (AtMark mark) = record { opened = refl; kind = tt; marked = λ k h. cc; loud = λ k h. cc }

choice_is : (m : PathModel) (p : NamedProgram) (e : Ending) → IsOfWork true e (choice_found m p.rows e)
choice_is m p (AtPoint x y v) = record { opened = refl; kind = refl; marked = λ k h. cc; loud = λ k h. cc }
choice_is m p (WithoutPoint y) = record { opened = refl; kind = refl; marked = λ k h. cc; loud = λ k h. cc }
choice_is m p (AtMark mark) = record { opened = refl; kind = tt; marked = λ k h. cc; loud = λ k h. cc }

-- what is found of allowed paths
abbrev pub found_of : Problem → Family → Found
found_of P family = leaf_work P.limit P.paths family []

pub found_is : (P : Problem) (family : Family) → IsOfWork (is_full family) (work_on P family) (found_of P family)
found_is P family = by (is_full family)
  where
    by : (b : Bool) → IsOfWork b (cond b (inverse_work P.limit P.paths (first_choice family)) (relaxation_work P.limit (relaxation P.paths family [])))
        (cond b (choice_work P.limit P.paths (first_choice family)) (family_work P.limit P.paths family []))
    by true = choice_is P.paths (inverse P.paths (first_choice family)) (inverse_work P.limit P.paths (first_choice family))
    by false = relaxation_is P.paths family (relaxation P.paths family []) (relaxation_work P.limit (relaxation P.paths family []))

pub found_evidence : (P : Problem) (family : Family) → IsEvidence P family (found_of P family).evidence (found_of P family).value
found_evidence P family =
    let is = found_is P family in
    record {
      kind = is.kind;
      marked = λ k. (is.marked k, is.loud k);
      passes = leaf_passes P.limit P.paths family [];
      optimum = leaf_optimum P.limit P.paths family [];
    }

-- ---- the reply to the tolls of a point

-- the tolls of a point have a reply that fits
abbrev pub HasReply : ℕ → PathModel → Ending → Type 0
HasReply limit m (AtPoint x y v) = reply_fits limit m x ≡ true
HasReply limit m (WithoutPoint y) = Unit {0}
HasReply limit m (AtMark k) = Unit {0}

with_reply_has : (limit : ℕ) (m : PathModel) (e : Ending) → HasReply limit m (with_reply limit m e)
with_reply_has limit m (AtPoint x y v) = by (reply_fits limit m x) refl
  where
    by : (b : Bool) → reply_fits limit m x ≡ b → HasReply limit m (cond b (AtPoint x y v) (AtMark mark.Sum))
    by true e = e
    by false e = tt
with_reply_has limit m (WithoutPoint y) = tt
with_reply_has limit m (AtMark k) = tt

pub inverse_has_reply : (limit : ℕ) (m : PathModel) (choice : List ℕ) → HasReply limit m (inverse_work limit m choice)
unfolding inverse_work
inverse_has_reply limit m choice = with_reply_has limit m (program_work limit (numbered (inverse m choice)))

pub reply_there : (limit : ℕ) (m : PathModel) (x : List Rational) → reply_fits limit m x ≡ true → fitting_reply limit m x ≡ Some (reply m x)
reply_there limit m x fits = ap (λ b. cond b (Some (reply m x)) None) fits

-- the columns of an inverse program are the tolls
pub choice_tolls : (m : PathModel) (x : List Rational) → length x ≡ length m.caps → tolls_of m x ≡ x
choice_tolls m x size = take_all (length m.caps) x (omega (arith, size))

-- ---- what is offered

-- what is offered is what is earned
pub record AreOffers (P : Problem) (e : Ending) (f : Found) : Type 0 where
  pub earned : (b : BestTolls) → offer_of P f ≡ Some b → EarnsBy P e b.reply.revenue × Earns P b.reply.revenue b
  pub offered : (v : Rational) → EarnsBy P e v → (b : BestTolls) × (offer_of P f ≡ Some b) × (b.reply.revenue ≡ v)

-- work without a point earns nothing
no_offers : (P : Problem) (e : Ending) (f : Found) → offer_of P f ≡ None → ((x y : List Rational) (g : Rational) → e ≡ AtPoint x y g → ⊥) → AreOffers P e f
no_offers P e f nothing none = record {
  earned = λ b h. absurd (let clash : Some b ≡ None = sym h ∙ nothing in cc);
  offered = λ v earns. absurd (none earns.columns earns.multipliers earns.goal earns.ends);
}

same_columns : (x y : List Rational) (v : Rational) (x' y' : List Rational) (g : Rational) → AtPoint x y v ≡ AtPoint x' y' g → x ≡ x'
same_columns x y v x' y' g h = cc

module _ (P : Problem) (x y : List Rational) (v : Rational) where
  -- tolls of a point with the reply to them
  offered_by : (T : List Rational) → tolls_of P.paths x ≡ T → length T ≡ length P.paths.caps → AreWithinCaps P.paths T → (o : Option Reply) → reply_to P T ≡ o → (b : BestTolls)
      → option_map (λ r. record { tolls = T; reply = r }) o ≡ Some b → EarnsBy P (AtPoint x y v) b.reply.revenue × Earns P b.reply.revenue b
  offered_by T same size capped None replied b h = absurd (let clash : None ≡ Some b = h in cc)
  offered_by T same size capped (Some r) replied b h =
      let c : BestTolls = record { tolls = T; reply = r } in
      let is : c ≡ b = cc in
      subst (λ (d : BestTolls). EarnsBy P (AtPoint x y v) d.reply.revenue × Earns P d.reply.revenue d) is (
        record { columns = x; multipliers = y; goal = v; ends = refl; response = r; replied = ap (reply_to P) same ∙ replied; revenue = refl },
        record { size = size; capped = capped; replied = replied; revenue = refl },
      )

  -- and the reply that an earning speaks of
  same_reply : (w : Rational) → EarnsBy P (AtPoint x y v) w → (r : Reply) × (reply_to P (tolls_of P.paths x) ≡ Some r) × (r.revenue ≡ w)
  same_reply w earns =
      (earns.response, ap (λ t. reply_to P (tolls_of P.paths t)) (same_columns x y v earns.columns earns.multipliers earns.goal earns.ends) ∙ earns.replied, sym earns.revenue)

  point_offers : (T : List Rational) (f : Found) → tolls_of P.paths x ≡ T → length T ≡ length P.paths.caps → AreWithinCaps P.paths T → offer_of P f ≡ offer_at P T
      → AreOffers P (AtPoint x y v) f
  point_offers T f same size capped is = record {
    earned = λ b h. offered_by T same size capped (reply_to P T) refl b (sym is ∙ h);
    offered = λ w earns.
        (let r = same_reply w earns in
        (record { tolls = T; reply = r.0 }, is ∙ ap (option_map (λ q. record { tolls = T; reply = q })) (ap (reply_to P) (sym same) ∙ r.1), r.2));
  }

relaxation_offers : (P : Problem) (parts : Family) (e : Ending) → IsAllowed P.paths parts → IsAnswered P.limit (numbered (relaxation P.paths parts [])) e
    → AreOffers P e (relaxation_found P.paths parts (relaxation P.paths parts []).rows e)
relaxation_offers P parts (AtPoint x y v) allowed h =
    let point = h.proved.point in
    let columns : length x ≡ length (relaxation_columns P.paths parts) = point.size in
    let long : length P.paths.caps ≤ length x = omega (arith, columns_hold P.paths parts allowed, columns) in
    point_offers P x y v (tolls_of P.paths x) (relaxation_found P.paths parts (relaxation P.paths parts []).rows (AtPoint x y v)) refl
    (length-take-le (length P.paths.caps) x long) (tolls_capped P.paths parts [] x point) refl
relaxation_offers P parts (WithoutPoint y) allowed h = no_offers P (WithoutPoint y) (relaxation_found P.paths parts (relaxation P.paths parts []).rows (WithoutPoint y)) refl (λ x z g e. cc)
relaxation_offers P parts (AtMark k) allowed h = no_offers P (AtMark k) (relaxation_found P.paths parts (relaxation P.paths parts []).rows (AtMark k)) refl (λ x z g e. cc)

choice_offers : (P : Problem) (choice : List ℕ) (e : Ending) → HasUsefulPaths P.paths → IsChoice P.paths choice → IsAnswered P.limit (numbered (inverse P.paths choice)) e
    → HasReply P.limit P.paths e → AreOffers P e (choice_found P.paths (inverse P.paths choice).rows e)
choice_offers P choice (AtPoint x y v) useful picks h fits =
    let best = best_tolls_are P.paths choice x y v (reply P.paths x) useful picks h.proved refl in
    let size : length x ≡ length P.paths.caps = h.proved.point.size ∙ columns_are P.paths choice in
    point_offers P x y v x (choice_found P.paths (inverse P.paths choice).rows (AtPoint x y v)) (choice_tolls P.paths x size) size best.capped
    (ap (option_map (λ r. record { tolls = x; reply = r })) (sym (reply_there P.limit P.paths x fits)))
choice_offers P choice (WithoutPoint y) useful picks h fits = no_offers P (WithoutPoint y) (choice_found P.paths (inverse P.paths choice).rows (WithoutPoint y)) refl (λ x z g e. cc)
choice_offers P choice (AtMark k) useful picks h fits = no_offers P (AtMark k) (choice_found P.paths (inverse P.paths choice).rows (AtMark k)) refl (λ x z g e. cc)

pub found_offers : (P : Problem) (family : Family) → HasUsefulPaths P.paths → IsAllowed P.paths family → AreOffers P (work_on P family) (found_of P family)
found_offers P family useful allowed = by (is_full family)
  where
    by : (b : Bool) → AreOffers P (cond b (inverse_work P.limit P.paths (first_choice family)) (relaxation_work P.limit (relaxation P.paths family [])))
        (cond b (choice_work P.limit P.paths (first_choice family)) (family_work P.limit P.paths family []))
    by true =
        choice_offers P (first_choice family) (inverse_work P.limit P.paths (first_choice family)) useful (choice_of_family P.paths family allowed)
        (inverse_answered P.limit P.paths (first_choice family) (program_is (inverse P.paths (first_choice family))))
        (inverse_has_reply P.limit P.paths (first_choice family))
    by false =
        relaxation_offers P family (relaxation_work P.limit (relaxation P.paths family [])) allowed
        (relaxation_answered P.limit (relaxation P.paths family []) (program_is (relaxation P.paths family [])))
