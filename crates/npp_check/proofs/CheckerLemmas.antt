-- What the calls of a checker owe to the verdict follows from what a line does at its stage.
use Rattle.std.specs.Prelude.{◌≡◌, ℕ, ◌+◌, ◌≤◌, List, [], ◌∷◌, ◌++◌, length, Option, Some, None, Result, Ok, Err, refl}
use Rattle.std.specs.Global.{Box}
use Rattle.std.proofs.Common.{arith, ap, sym, ◌∙◌, subst, inl, inr, append_assoc}
use Rattle.std.proofs.lemmas.List.{length-append}
use Rattle.npp_frac.specs.Rational.{Rational}
use Rattle.npp_net.specs.Network.{Network}
use Rattle.npp_tree.specs.declared.item.Item.{Item}
use Rattle.npp_tree.specs.declared.outcome.Pair.{Pair}
use Rattle.npp_check.specs.declared.descent.Descent.{Descent}
use Rattle.npp_check.specs.declared.refusal.Rule.{Rule}
use Rattle.npp_check.specs.declared.refusal.Rule.TheVariants.{Order}
use Rattle.npp_check.specs.declared.refusal.CheckRefusal.{CheckRefusal}
use Rattle.npp_check.specs.declared.refusal.CheckRefusal.TheVariants.{Broken, Memory}
use Rattle.npp_check.specs.declared.refusal.CheckedRefusal.TheVariants as checked
use Rattle.npp_check.specs.declared.stage.Stage.{Stage as CodeStage}
use Rattle.npp_check.specs.declared.stage.Stage.TheVariants as code
use Rattle.npp_check.specs.declared.stop.Stop.{Stop}
use Rattle.npp_check.specs.declared.stop.Stop.TheVariants as stop
use Rattle.npp_check.specs.Measures.{AreMeasures}
use Rattle.npp_check.specs.Start.{IsBrokenLine, IsCheckedRefusal}
use Rattle.npp_check.specs.Verdict.{PairValue, Verdict, pair_value, whole, verdict, IsVerdict}
use Rattle.npp_check.specs.Stages.{Case, Stage, AtHeader, from_stage}
use Rattle.npp_check.specs.StageValue.{pair_of, stage_value}
use Rattle.npp_check.specs.Checking.{Checking, unless_refused, verdict_with, HasTaken, IsNew, Takes, Refuses, IsRefusalOf, IsEndRefusal}
use Rattle.npp_check.specs.Steps.{IsStageOf, Goes, Steps, refusal_at}
use Rattle.npp_check.specs.Reads.{Reads, Lines}
use Rattle.npp_check.proofs.OrderLemmas.{Orderly, named_behind, same_refusal}
use Rattle.npp_check.proofs.StageLemmas.{starts}
use Rattle.npp_check.proofs.StageOrder.{IsOpen, stage_missing}

abbrev pub standing : Case → ℕ → Stage → Option CheckRefusal → Checking
standing m n s r = record { on = m; number = n; stage = s; refused = r }

-- ---- a new checker

pub is_new : (limit : ℕ) (net : Network) (m : Case) → m.net ≡ net → AreMeasures m.net m.measures → IsNew limit net (standing m 1 AtHeader None)
is_new limit net m e measures = record {
  instance = e;
  unrefused = refl;
  taken = record {
    measures = measures;
    number = omega arith;
    verdict = λ items. ap whole (sym (starts limit m.net m.measures (record { number = 1; items = items })));
  };
}

-- ---- a line that is taken

module _ (r : Reads PairValue) (ahead : Orderly 0 0 r) (lines : Lines) (number : ℕ) (rule : Rule) where
  by_reading : (v : Result (PairValue × Lines) CheckRefusal) → r lines ≡ v → whole v ≡ Err (Broken number rule) → lines.number ≤ number
  by_reading (Ok read) d w =
      let n : (read.1.number ≡ number) × (1 ≤ length read.1.items) = named_behind read.0 read.1.number read.1.items number rule w in
      let a : lines.number + 0 ≤ read.1.number = ahead.ahead lines read.1 read.0 d in
      omega (arith, a, n.0)
  by_reading (Err refusal) d w =
      let a : lines.number ≤ number + 0 = ahead.late lines number rule (d ∙ same_refusal {X = PairValue} {T = PairValue} refusal number rule w) in
      omega (arith, a)

  -- no line above these is broken
  pub not_above : whole (r lines) ≡ Err (Broken number rule) → lines.number ≤ number
  not_above w = by_reading (r lines) refl w

module _ (limit : ℕ) (m : Case) (n : ℕ) (s : Stage) (r : Option CheckRefusal) (i : Item Rational) (none : r ≡ None) where
  moved : (next : Stage) → Goes limit m s i next → (items : List (Item Rational)) → verdict_with limit (standing m (n + 1) next r) items ≡ verdict_with limit (standing m n s r) (i ∷ items)
  moved next goes items = ap (λ v. unless_refused r (whole v)) (sym (goes n items))

  pub takes : (next : Stage) → Goes limit m s i next → Orderly 0 0 (from_stage limit m next) → Takes limit (standing m n s r) i (standing m (n + 1) next r)
  takes next goes ahead = record {
    on = refl;
    number = refl;
    before = none;
    behind = none;
    verdict = moved next goes;
    taken = λ items h. record {
      measures = h.measures;
      number = omega (arith, h.number, length-append items (i ∷ []));
      verdict = λ rest. moved next goes rest ∙ h.verdict (i ∷ rest) ∙ ap (verdict limit m.net m.measures) (sym (append_assoc items (i ∷ []) rest));
    };
    clear = λ items number rule h.
        not_above (from_stage limit m next) ahead (record { number = n + 1; items = items }) number rule
        (sym (ap (λ o. unless_refused o (whole (from_stage limit m next (record { number = n + 1; items = items })))) none) ∙ h);
  }

  -- ---- a line that is refused

  cause : (stopped : Stop) → Steps limit m s i (Err stopped) → IsRefusalOf limit None (standing m n s r) i (refusal_at n stopped)
  cause stop.Memory holds = inl refl
  cause (stop.Broken rule) holds = inr (rule, refl, λ items. ap (λ o. unless_refused o (whole (from_stage limit m s (record { number = n; items = i ∷ items })))) none ∙ holds n items)

  pub refuses : (stopped : Stop) (other : Stage) → Steps limit m s i (Err stopped) → Refuses limit (standing m n s r) i (refusal_at n stopped) (standing m n other (Some (refusal_at n stopped)))
  refuses stopped other holds = record {
    cause = subst (λ o. IsRefusalOf limit o (standing m n s r) i (refusal_at n stopped)) (sym none) (cause stopped holds);
    failed = refl;
  }

-- ---- the end

open_of : {N : Type 0} (value : N → Rational) (net : Network) (s : CodeStage N) → ((tree : Box (Descent N)) → s ≡ code.Behind tree → ⊥) → IsOpen (stage_value value net s)
open_of value net (code.Behind tree) h = h tree refl
open_of value net other h = tt

pub finishes : {N : Type 0} (value : N → Rational) (limit : ℕ) (m : Case) (n : ℕ) (s : CodeStage N) (r : Option CheckRefusal) → r ≡ None → IsStageOf m (stage_value value m.net s)
    → ((tree : Box (Descent N)) → s ≡ code.Behind tree → ⊥) → verdict_with limit (standing m n (stage_value value m.net s) r) [] ≡ Err (Broken n Order)
finishes value limit m n s r none is not_behind =
    ap (λ o. unless_refused o (whole (from_stage limit m (stage_value value m.net s) (record { number = n; items = [] })))) none
    ∙ ap whole (stage_missing limit m (stage_value value m.net s) n is (open_of value m.net s not_behind))

pub finishes_well : {N : Type 0} (value : N → Rational) (limit : ℕ) (m : Case) (n : ℕ) (s : CodeStage N) (r : Option CheckRefusal) (tree : Box (Descent N)) → r ≡ None → s ≡ code.Behind tree
    → verdict_with limit (standing m n (stage_value value m.net s) r) [] ≡ Ok (pair_of value tree.value.known.head)
finishes_well value limit m n s r tree none is =
    ap (λ o. unless_refused o (whole (from_stage limit m (stage_value value m.net s) (record { number = n; items = [] })))) none
    ∙ ap (λ x. whole (from_stage limit m (stage_value value m.net x) (record { number = n; items = [] }))) is

-- ---- a check of all items

abbrev refusing : CheckRefusal → Verdict
refusing e = Err e

abbrev refused_line : ℕ → Rule → Verdict
refused_line number rule = Err (Broken number rule)

-- the first of all items were taken without a refusal, and the rest is to come
pub record IsUnderWay (limit : ℕ) (net : Network) (c : Checking) (rest all : List (Item Rational)) : Type 0 where
  pub instance : c.on.net ≡ net
  pub unrefused : c.refused ≡ None
  pub above : List (Item Rational)
  pub parts : all ≡ above ++ rest
  pub taken : HasTaken limit c above

pub begins : (limit : ℕ) (net : Network) (c : Checking) (all : List (Item Rational)) → IsNew limit net c → IsUnderWay limit net c all all
begins limit net c all new = record { instance = new.instance; unrefused = new.unrefused; above = []; parts = refl; taken = new.taken }

pub goes_on : (limit : ℕ) (net : Network) (c next : Checking) (i : Item Rational) (rest all : List (Item Rational)) → IsUnderWay limit net c (i ∷ rest) all → Takes limit c i next
    → IsUnderWay limit net next rest all
goes_on limit net c next i rest all h takes = record {
  instance = ap (λ (on : Case). on.net) takes.on ∙ h.instance;
  unrefused = takes.behind;
  above = h.above ++ i ∷ [];
  parts = h.parts ∙ sym (append_assoc h.above (i ∷ []) rest);
  taken = takes.taken h.above h.taken;
}

module _ (limit : ℕ) (net : Network) (c : Checking) (rest all : List (Item Rational)) (h : IsUnderWay limit net c rest all) where
  measures_are : AreMeasures net c.on.measures
  measures_are = subst (λ (n : Network). AreMeasures n c.on.measures) h.instance h.taken.measures

  -- the verdict on those that were taken, with whatever comes
  verdict_on : (items : List (Item Rational)) → verdict limit net c.on.measures (h.above ++ items) ≡ verdict_with limit c items
  verdict_on items = ap (λ (n : Network). verdict limit n c.on.measures (h.above ++ items)) (sym h.instance) ∙ sym (h.taken.verdict items)

  all_verdict : verdict limit net c.on.measures all ≡ verdict_with limit c rest
  all_verdict = ap (verdict limit net c.on.measures) h.parts ∙ verdict_on rest

same_number : (a b : ℕ) (x y : Rule) → Broken a x ≡ Broken b y → a ≡ b
same_number a b x y e = cc

pub stops : (limit : ℕ) (net : Network) (c next : Checking) (i : Item Rational) (rest all : List (Item Rational)) (e : CheckRefusal) → IsUnderWay limit net c (i ∷ rest) all → Refuses limit c i e next
    → IsCheckedRefusal limit net all (checked.Check e)
stops limit net c next i rest all e h refused = by_cause e (subst (λ o. IsRefusalOf limit o c i e) h.unrefused refused.cause)
  where
    by_cause : (e : CheckRefusal) → IsRefusalOf limit None c i e → IsBrokenLine limit net all e
    by_cause Memory k = tt
    by_cause (Broken number rule) (inl k) = cc
    by_cause (Broken number rule) (inr k) =
        let here : number ≡ length h.above + 1 = same_number number c.number rule k.0 k.1 ∙ h.taken.number in (
          c.on.measures,
          measures_are limit net c (i ∷ rest) all h,
          all_verdict limit net c (i ∷ rest) all h ∙ k.2 rest,
          inl (record {
            above = h.above;
            item = i;
            behind = rest;
            parts = h.parts;
            number = here;
            breaks = λ behind. verdict_on limit net c (i ∷ rest) all h (i ∷ behind) ∙ k.2 behind ∙ ap (λ (n : ℕ). refused_line n rule) here;
          }),
        )

pub ends_well : (limit : ℕ) (net : Network) (c : Checking) (rest all : List (Item Rational)) (p : Pair) → rest ≡ [] → IsUnderWay limit net c rest all → verdict_with limit c [] ≡ Ok (pair_value p)
    → IsVerdict limit net all (Ok (pair_value p))
ends_well limit net c rest all p none h e = (c.on.measures, measures_are limit net c rest all h, all_verdict limit net c rest all h ∙ ap (verdict_with limit c) none ∙ e)

pub ends_badly : (limit : ℕ) (net : Network) (c : Checking) (rest all : List (Item Rational)) (e : CheckRefusal) → rest ≡ [] → IsUnderWay limit net c rest all → verdict_with limit c [] ≡ Err e
    → IsEndRefusal c.refused c e → IsCheckedRefusal limit net all (checked.Check e)
ends_badly limit net c rest all e none h refused cause =
    let missing : e ≡ Broken c.number Order = subst (λ o. IsEndRefusal o c e) h.unrefused cause in
    let named : verdict limit net c.on.measures all ≡ Err (Broken c.number Order) = all_verdict limit net c rest all h ∙ ap (verdict_with limit c) none ∙ refused ∙ ap refusing missing in
    subst (IsBrokenLine limit net all) (sym missing) (
      c.on.measures,
      measures_are limit net c rest all h,
      named,
      inr (record { number = omega (arith, h.taken.number, ap length h.parts, length-append h.above rest, ap length none); order = refl }),
    )

pub none_left : {X : Type 0} (xs : List X) → length xs ≡ 0 → xs ≡ []
none_left [] e = refl
none_left (x ∷ xs) e = absurd (omega (arith, e))
