use Rattle.std.proofs.Common.{◌≡◌, ◌+◌, suc, Some, Ok, ap, ap₂, sym, ◌∙◌, subst, arith}
use Rattle.std.specs.Prelude.{slice_set}
use Rattle.std.proofs.lemmas.List.{length-set, get_or_default}
use Rattle.npp_frac.specs.Fits.{limit_of}
use Rattle.npp_simplex.specs.Ratio.{candidates, leaving}
use Rattle.npp_simplex.specs.Places.{pivot_row}
use Rattle.npp_simplex.specs.Run.{State, Overflow, run_from}
use Rattle.npp_simplex.specs.Standing.{IsRoom, IsReadyFor}
use Rattle.npp_simplex.proofs.Ready.{ready_after}
use Rattle.npp_simplex.proofs.Turning.{next_by, row_chosen, stop_chosen, same_rows, same_columns, state_is, run_goes_on, run_stops}
use Rattle.npp_simplex.proofs.run.State.turn.Goals as goal

pub invariant_of-result : goal.invariant_of-result
invariant_of-result g c =
    let s = c.self.inside.stage in
    let t = c.self.inside.tableau in
    let b = c.self.inside.basis.items in
    let r = c.in-Ok-Some.row in
    let k = c.in-Some.column in
    let n = c.stage_after-next.result in
    let u = c.hand_on.new.self in
    let pivots = rw c.in-Ok-Some.field-0-is at c.in-Ok-Some.ensures.tableau in
    let inside = rw c.in-Ok-Some.field-0-is at c.in-Ok-Some.ensures.within in
    let leaves = c.index.ensures ∙ get_or_default b r c.index.result.now 0 (omega (arith, inside, c.self.invariant.basis)) in
    let extra = ap₂ ◌+◌ c.shape.ensures.columns c.shape.ensures.rows in
    let after = state_is s n t c.pivot_on.new.tableau u b r k pivots c.hand_on.ensures _ c.index.result.now c.stage_after-next.ensures extra leaves in
    record {
      ready = subst (λ z. IsReadyFor z.stage z.tableau) (sym after) (ready_after (record { stage = s; tableau = t; basis = b }) r k c.self.invariant.ready);
      basis = length-set b r k ∙ c.self.invariant.basis ∙ same_rows s n t c.pivot_on.new.tableau u b r k pivots c.hand_on.ensures;
      room = subst (λ z. IsRoom z u.columns c.pivot_on.new.room) (same_rows s n t c.pivot_on.new.tableau u b r k pivots c.hand_on.ensures) (subst (λ z. IsRoom t.rows z c.pivot_on.new.room) (same_columns s n t c.pivot_on.new.tableau u b r k pivots c.hand_on.ensures) c.pivot_on.ensures.room);
    }

pub returns-in-Ok-Some : goal.returns-in-Ok-Some
returns-in-Ok-Some g c = λ left.
    let m = Some (limit_of g.N.Exact.WIDTH) in
    let s = c.self.inside.stage in
    let t = c.self.inside.tableau in
    let b = c.self.inside.basis.items in
    let r = c.in-Ok-Some.row in
    let k = c.in-Some.column in
    let n = c.stage_after-next.result in
    let u = c.hand_on.new.self in
    let x : State = record { stage = s; tableau = t; basis = b } in
    let y : State = record { stage = n; tableau = u; basis = slice_set b r k } in
    let pivots = rw c.in-Ok-Some.field-0-is at c.in-Ok-Some.ensures.tableau in
    let inside = rw c.in-Ok-Some.field-0-is at c.in-Ok-Some.ensures.within in
    let leaves = c.index.ensures ∙ get_or_default b r c.index.result.now 0 (omega (arith, inside, c.self.invariant.basis)) in
    let extra = ap₂ ◌+◌ c.shape.ensures.columns c.shape.ensures.rows in
    let after = state_is s n t c.pivot_on.new.tableau u b r k pivots c.hand_on.ensures _ c.index.result.now c.stage_after-next.ensures extra leaves in
    let answer : Ok (Some r) ≡ pivot_row m s t k (candidates s t k) = ap Ok (sym c.in-Ok-Some.field-0-is) ∙ c.in-Ok-Some.ensures.row in
    let (chosen, fits) = row_chosen m s t k (candidates s t k) r answer in
    subst (λ z. run_from m (suc left) c.args.made z ≡ run_from m left (c.args.made + 1) y) c.self.view_is
    (run_goes_on m x c.args.made r k left y (next_by m x c.args.made k (sym c.entering.ensures.column ∙ c.in-Some.is) ∙ chosen) fits after)

pub returns-in-Err : goal.returns-in-Err
returns-in-Err g c = λ left.
    let m = Some (limit_of g.N.Exact.WIDTH) in
    let s = c.self.inside.stage in
    let t = c.self.inside.tableau in
    let k = c.in-Some.column in
    let x : State = record { stage = s; tableau = t; basis = c.self.inside.basis.items } in
    let (chosen, found) = stop_chosen m s t k (candidates s t k) c.in-Err.place c.in-Err.ensures.row in
    subst (λ z. run_from m (suc left) c.args.made z ≡ Overflow (c.args.made + 1) c.in-Err.place) c.self.view_is
    (run_stops m x c.args.made (leaving s t k) k left c.in-Err.place (next_by m x c.args.made k (sym c.entering.ensures.column ∙ c.in-Some.is) ∙ chosen) found)
