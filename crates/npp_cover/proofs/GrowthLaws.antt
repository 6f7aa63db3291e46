-- How the labels of a draft grow step by step: the first fault that is met on the way is that of the whole draft.
use Rattle.std.proofs.Common.{◌≡◌, ℕ, ◌+◌, ◌<◌, ◌≤◌, Bool, true, false, cond, List, [], ◌∷◌, ◌++◌, length, Option, Some, None, sym, ◌∙◌, ap, drop, get_or, arith, nat_lt}
use Rattle.std.proofs.lemmas.Bool.Decides.{nat_tests}
use Rattle.std.proofs.lemmas.List.{drop_more, drop_all, length-append}
use Rattle.std.specs.Option.{option_or}
use Rattle.npp_net.specs.declared.types.NodeId.{NodeId}
use Rattle.npp_net.specs.declared.types.NetArc.{NetArc}
use Rattle.npp_net.specs.declared.types.Commodity.{Commodity}
use Rattle.npp_net.specs.declared.types.Span.{Span}
use Rattle.npp_cover.specs.declared.label.Label.{Label}
use Rattle.npp_cover.specs.declared.label.StepDraft.{StepDraft}
use Rattle.npp_cover.specs.declared.label.CoverDraft.{CoverDraft}
use Rattle.npp_cover.specs.declared.fault.CoverFault.{CoverFault}
use Rattle.npp_cover.specs.declared.fault.CoverFault.TheVariants.{TooManyLabels}
use Rattle.npp_cover.specs.Labels.{step_label, first_labels, labels_after, labels_of}
use Rattle.npp_cover.specs.Fault.{label_count, start_fault, step_fault, steps_fault, labels_fault, closing_fault, cover_fault}

-- what is left of the steps decides, after the labels so far
pub record IsJudged (arcs : List NetArc) (onward : ℕ → Option ℕ) (free : ℕ) (origin : NodeId) (started : Bool) (steps : List StepDraft) (i : ℕ) (labels : List Label) : Type 0 where
  pub count : length labels ≡ cond started 1 0 + i
  pub fault : labels_fault arcs onward free origin started steps ≡ steps_fault arcs onward free labels (drop i steps)
  pub made : labels_of arcs origin started steps ≡ labels_after arcs labels (drop i steps)

module _ (arcs : List NetArc) (onward : ℕ → Option ℕ) (free : ℕ) (origin : NodeId) (steps : List StepDraft) where
  -- before the first step
  pub judged_start : (labels : List Label) → labels ≡ first_labels origin true → start_fault onward free origin ≡ None
      → IsJudged arcs onward free origin true steps 0 labels
  judged_start labels is none = record {
    count = ap length is;
    fault = ap (λ (f : Option CoverFault). option_or f (steps_fault arcs onward free (first_labels origin true) steps)) none
        ∙ ap (λ (xs : List Label). steps_fault arcs onward free xs steps) (sym is);
    made = ap (λ (xs : List Label). labels_after arcs xs steps) (sym is);
  }

  pub judged_none : (labels : List Label) → labels ≡ first_labels origin false → IsJudged arcs onward free origin false steps 0 labels
  judged_none labels is = record {
    count = ap length is;
    fault = ap (λ (xs : List Label). steps_fault arcs onward free xs steps) (sym is);
    made = ap (λ (xs : List Label). labels_after arcs xs steps) (sym is);
  }

  module _ (started : Bool) (i : ℕ) (labels : List Label) (s : StepDraft) (lt : i < length steps) (is : s ≡ get_or steps i s)
      (j : IsJudged arcs onward free origin started steps i labels) where
    front : drop i steps ≡ s ∷ drop (i + 1) steps
    front = drop_more steps i s lt ∙ ap (λ (x : StepDraft). x ∷ drop (i + 1) steps) (sym is)

    -- one more step without fault
    pub judged_more : (all : List Label) → step_fault arcs onward free labels s ≡ None → all ≡ labels ++ step_label arcs labels s ∷ []
        → IsJudged arcs onward free origin started steps (i + 1) all
    judged_more all none made = record {
      count = ap length made ∙ (length-append labels (step_label arcs labels s ∷ []) ∙ (ap (λ (n : ℕ). n + 1) j.count ∙ add_one_more (cond started 1 0)));
      fault = j.fault ∙ (ap (λ (r : List StepDraft). steps_fault arcs onward free labels r) front
          ∙ (ap (λ (f : Option CoverFault). option_or f (steps_fault arcs onward free (labels ++ step_label arcs labels s ∷ []) (drop (i + 1) steps))) none
          ∙ ap (λ (xs : List Label). steps_fault arcs onward free xs (drop (i + 1) steps)) (sym made)));
      made = j.made ∙ (ap (λ (r : List StepDraft). labels_after arcs labels r) front
          ∙ ap (λ (xs : List Label). labels_after arcs xs (drop (i + 1) steps)) (sym made));
    }
      where
        add_one_more : (n : ℕ) → n + i + 1 ≡ n + (i + 1)
        add_one_more n = omega arith

    -- where a step is faulty, that is the fault
    pub judged_fault : (e : CoverFault) → step_fault arcs onward free labels s ≡ Some e → labels_fault arcs onward free origin started steps ≡ Some e
    judged_fault e some =
        j.fault ∙ (ap (λ (r : List StepDraft). steps_fault arcs onward free labels r) front
        ∙ ap (λ (f : Option CoverFault). option_or f (steps_fault arcs onward free (labels ++ step_label arcs labels s ∷ []) (drop (i + 1) steps))) some)

-- ---- the whole draft, where it does not have too many labels

module _ (arcs : List NetArc) (onward : ℕ → Option ℕ) (k : Commodity) (span : Span) (d : CoverDraft) (few : label_count d ≤ 65536) where
  by_parts : cover_fault arcs onward k span d
      ≡ option_or (labels_fault arcs onward span.free k.origin d.started d.steps.items) (closing_fault arcs onward k span (labels_of arcs k.origin d.started d.steps.items) d.free.arcs.items)
  by_parts =
      let no : nat_lt 65536 (label_count d) ≡ false = grind (arith, nat_tests) in
      ap (λ (b : Bool). cond b (Some TooManyLabels)
      (option_or (labels_fault arcs onward span.free k.origin d.started d.steps.items) (closing_fault arcs onward k span (labels_of arcs k.origin d.started d.steps.items) d.free.arcs.items))) no

  of_labels : (e : CoverFault) → labels_fault arcs onward span.free k.origin d.started d.steps.items ≡ Some e → cover_fault arcs onward k span d ≡ Some e
  of_labels e is =
      by_parts
      ∙ ap (λ (f : Option CoverFault). option_or f (closing_fault arcs onward k span (labels_of arcs k.origin d.started d.steps.items) d.free.arcs.items)) is

  -- the fault of the start
  pub fault_at_start : (e : CoverFault) → d.started ≡ true → start_fault onward span.free k.origin ≡ Some e → cover_fault arcs onward k span d ≡ Some e
  fault_at_start e started is =
      of_labels e
      (ap (λ (b : Bool). labels_fault arcs onward span.free k.origin b d.steps.items) started
      ∙ ap (λ (f : Option CoverFault). option_or f (steps_fault arcs onward span.free (first_labels k.origin true) d.steps.items)) is)

  -- the fault of a step, where those before it have none
  pub fault_at_step : (i : ℕ) (labels : List Label) (s : StepDraft) (e : CoverFault) → i < length d.steps.items → s ≡ get_or d.steps.items i s
      → IsJudged arcs onward span.free k.origin d.started d.steps.items i labels → step_fault arcs onward span.free labels s ≡ Some e → cover_fault arcs onward k span d ≡ Some e
  fault_at_step i labels s e lt at judged is =
      of_labels e (judged_fault arcs onward span.free k.origin d.steps.items d.started i labels s lt at judged e is)

  -- and what is wrong at the end, where no label has a fault
  pub fault_at_close : (labels : List Label) → IsJudged arcs onward span.free k.origin d.started d.steps.items (length d.steps.items) labels
      → cover_fault arcs onward k span d ≡ closing_fault arcs onward k span labels d.free.arcs.items
  fault_at_close labels judged =
      let past : drop (length d.steps.items) d.steps.items ≡ [] = drop_all (length d.steps.items) d.steps.items (omega arith) in
      by_parts
      ∙ (ap (λ (f : Option CoverFault). option_or f (closing_fault arcs onward k span (labels_of arcs k.origin d.started d.steps.items) d.free.arcs.items))
      (judged.fault ∙ ap (λ (steps : List StepDraft). steps_fault arcs onward span.free labels steps) past)
      ∙ ap (λ (xs : List Label). closing_fault arcs onward k span xs d.free.arcs.items)
      (judged.made ∙ ap (λ (steps : List StepDraft). labels_after arcs labels steps) past))
