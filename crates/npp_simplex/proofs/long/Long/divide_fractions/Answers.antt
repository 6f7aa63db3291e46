use Rattle.std.proofs.Common.{◌≡◌, ◌<◌, map, length, ap, ap₂, sym, ◌∙◌, arith}
use Rattle.std.proofs.lemmas.List.{with_items_is, length-map}
use Rattle.npp_frac.specs.Fits.{limit_of}
use Rattle.npp_simplex.specs.CommonForm.{line_of}
use Rattle.npp_simplex.proofs.LinePivots.{divisor_nonzero, quotients_stop, quotients_are}
use Rattle.npp_simplex.proofs.long.Long.divide_fractions.Goals as goal

pub spread_long-requires-clause-form : goal.spread_long-requires-clause-form
spread_long-requires-clause-form g c = λ e. rw c.as_slice-words.ensures.value ((c.self.invariant e).form e)

pub spread_long-requires-clause-room : goal.spread_long-requires-clause-room
spread_long-requires-clause-room g c = λ e.
    let room = (c.self.invariant e).room in
    omega (arith, room, ap length c.as_mut_slice-fractions.ensures.value, ap length c.as_slice-words.ensures.value, length-map c.self.inside.fractions.items g.N.Exact.rational)

pub divide-requires-clause-divisor : goal.divide-requires-clause-divisor
divide-requires-clause-divisor g c =
    let v = g.N.Exact.rational in
    let is : map v c.spread_long.new.fractions ≡ c.args.self.now = c.spread_long.ensures ∙ ap₂ (λ ws fs. line_of c.self.inside.is_whole c.self.inside.denominator ws (map v fs)) c.as_slice-words.ensures.value c.as_mut_slice-fractions.ensures.value ∙ c.self.view_is in
    let within : c.args.column < length c.spread_long.new.fractions = omega (arith, c.requires.column, sym (length-map c.spread_long.new.fractions v), ap length is) in
    divisor_nonzero v (limit_of g.N.Exact.WIDTH) c.args.self.now c.spread_long.new.fractions c.args.column c.index-fractions-column.result is within c.index-fractions-column.is c.requires.divisor

pub returns-clause-stop : goal.returns-clause-stop
returns-clause-stop g c =
    let v = g.N.Exact.rational in
    let is : map v c.spread_long.new.fractions ≡ c.args.self.now = c.spread_long.ensures ∙ ap₂ (λ ws fs. line_of c.self.inside.is_whole c.self.inside.denominator ws (map v fs)) c.as_slice-words.ensures.value c.as_mut_slice-fractions.ensures.value ∙ c.self.view_is in
    let within : c.args.column < length c.spread_long.new.fractions = omega (arith, c.requires.column, sym (length-map c.spread_long.new.fractions v), ap length is) in
    c.divide.ensures.stop ∙ quotients_stop v (limit_of g.N.Exact.WIDTH) c.args.self.now c.spread_long.new.fractions c.args.column c.index-fractions-column.result is within c.index-fractions-column.is

pub returns-clause-divided : goal.returns-clause-divided
returns-clause-divided g c =
    let v = g.N.Exact.rational in
    let is : map v c.spread_long.new.fractions ≡ c.args.self.now = c.spread_long.ensures ∙ ap₂ (λ ws fs. line_of c.self.inside.is_whole c.self.inside.denominator ws (map v fs)) c.as_slice-words.ensures.value c.as_mut_slice-fractions.ensures.value ∙ c.self.view_is in
    let within : c.args.column < length c.spread_long.new.fractions = omega (arith, c.requires.column, sym (length-map c.spread_long.new.fractions v), ap length is) in
    let ys = c.divide.new.row in
    let written = with_items_is c.self.inside.fractions ys (omega (arith, c.divide.auto.row, c.spread_long.auto.fractions, ap length c.as_mut_slice-fractions.ensures.value, c.self.inside.fractions.ok.0)) in
    rw written (quotients_are v (limit_of g.N.Exact.WIDTH) c.args.self.now c.spread_long.new.fractions c.args.column c.index-fractions-column.result is within c.index-fractions-column.is c.divide.result ys c.divide.ensures.divided)
