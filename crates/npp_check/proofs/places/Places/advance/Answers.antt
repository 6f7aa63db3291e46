use Rattle.std.proofs.Common.{◌≡◌, ◌∙◌, ℕ, List, length, All, sym, ap, subst, arith}
use Rattle.std.specs.Prelude.{slice_set}
use Rattle.std.proofs.lemmas.List.{length-set}
use Rattle.npp_tree.specs.Family.{Family}
use Rattle.npp_check.specs.declared.later.Later.{Later}
use Rattle.npp_check.specs.PlaceStack.{PlaceList, undone, later_places, IsInRange}
use Rattle.npp_check.proofs.PlaceLemmas.{advanced, all_but_last, nothing_left}
use Rattle.npp_check.proofs.places.Places.advance.Goals as goal

pub returns-in_default-clause-none : goal.returns-in_default-clause-none
returns-in_default-clause-none c = λ _.
    let none = nothing_left c.pop.result c.self.inside.later.items c.in_default.is (λ lt. c.pop.ensures.variant.1 (omega (arith, lt, c.self.inside.later.ok.0))) in
    sym (ap (λ (p : PlaceList). p.later) c.self.view_is) ∙ ap (λ (ls : List Later). later_places ls c.self.inside.allowed.parts) none

pub returns-clause-next : goal.returns-clause-next
returns-clause-next c = λ _.
    let family : Family = c.self.inside.allowed.parts in
    let l : Later = c.in-Some.next in
    let into = c.into_entries-parts.ensures ∙ c.replace-allowed.ensures.value in
    let undid = c.undo.ensures.family in
    let parts : c.of-2.result ≡ slice_set (undone l.changes.items family) l.commodity l.rest = c.of-2.ensures ∙ ap (λ (f : Family). slice_set f l.commodity l.rest) (undid ∙ ap (undone l.changes.items) into) in
    sym (ap (λ (p : PlaceList). p.later) c.self.view_is)
    ∙ advanced c.pop.new.self.items c.self.inside.later.items c.note.new.later.items l family c.of-2.result c.in-Some.ensures.items parts c.in_ok-note.ensures.places

pub invariant_of-self-2 : goal.invariant_of-self-2
invariant_of-self-2 c =
    let family : Family = c.self.inside.allowed.parts in
    let l : Later = c.in-Some.next in
    let size : length c.of-2.result ≡ length family =
    ap length c.of-2.ensures ∙ length-set c.undo.new.parts.items l.commodity l.rest ∙ c.undo.ensures.size ∙ ap length (c.into_entries-parts.ensures ∙ c.replace-allowed.ensures.value) in
    let all = all_but_last (IsInRange (length family)) c.pop.new.self.items l (subst (λ (ls : List Later). All (IsInRange (length c.self.inside.allowed.parts)) ls) c.in-Some.ensures.items c.self.invariant) in
    c.in_ok-note.ensures.range (length c.of-2.result) (omega (arith, size, all.1.commodity)) (subst (λ (n : ℕ). All (IsInRange n) c.pop.new.self.items) (sym size) all.0)

pub invariant_of-self-in_err-note : goal.invariant_of-self-in_err-note
invariant_of-self-in_err-note c =
    let family : Family = c.self.inside.allowed.parts in
    let l : Later = c.in-Some.next in
    let size : length c.of-2.result ≡ length family =
    ap length c.of-2.ensures ∙ length-set c.undo.new.parts.items l.commodity l.rest ∙ c.undo.ensures.size ∙ ap length (c.into_entries-parts.ensures ∙ c.replace-allowed.ensures.value) in
    let all = all_but_last (IsInRange (length family)) c.pop.new.self.items l (subst (λ (ls : List Later). All (IsInRange (length c.self.inside.allowed.parts)) ls) c.in-Some.ensures.items c.self.invariant) in
    c.in_err-note.ensures.range (length c.of-2.result) (omega (arith, size, all.1.commodity)) (subst (λ (n : ℕ). All (IsInRange n) c.pop.new.self.items) (sym size) all.0)
