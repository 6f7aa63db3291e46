use Rattle.std.proofs.Common.{◌≡◌, ◌<◌, map, length, ap, ap₂, sym, ◌∙◌, arith}
use Rattle.std.proofs.lemmas.List.{with_items_is, length-map}
use Rattle.npp_frac.specs.Fits.{limit_of}
use Rattle.npp_lp.specs.Programs.{at}
use Rattle.npp_simplex.specs.Steps.{nonzero_columns}
use Rattle.npp_simplex.specs.CommonForm.{line_of}
use Rattle.npp_simplex.proofs.LinePivots.{fractions_length, fractions_stop, fractions_reduced}
use Rattle.npp_simplex.proofs.long.Long.reduce_fractions.Goals as goal

pub spread_long-requires-clause-form : goal.spread_long-requires-clause-form
spread_long-requires-clause-form g c = λ e. rw c.as_slice-words.ensures.value ((c.self.invariant e).form e)

pub spread_long-requires-clause-room : goal.spread_long-requires-clause-room
spread_long-requires-clause-room g c = λ e.
    let room = (c.self.invariant e).room in
    omega (arith, room, ap length c.as_mut_slice-fractions.ensures.value, ap length c.as_slice-words.ensures.value, length-map c.self.inside.fractions.items g.N.Exact.rational)

pub eliminate-requires-clause-lengths : goal.eliminate-requires-clause-lengths
eliminate-requires-clause-lengths g c =
    let v = g.N.Exact.rational in
    let is : map v c.spread_long.new.fractions ≡ c.args.self.now = c.spread_long.ensures ∙ ap₂ (λ ws fs. line_of c.self.inside.is_whole c.self.inside.denominator ws (map v fs)) c.as_slice-words.ensures.value c.as_mut_slice-fractions.ensures.value ∙ c.self.view_is in
    let within : c.args.column < length c.spread_long.new.fractions = omega (arith, c.requires.column, sym (length-map c.spread_long.new.fractions v), ap length is) in
    c.requires.other ∙ sym (fractions_length v (limit_of g.N.Exact.WIDTH) c.args.self.now c.spread_long.new.fractions c.args.column c.index-fractions-column.result is within c.index-fractions-column.is)

pub eliminate-requires-clause-columns : goal.eliminate-requires-clause-columns
eliminate-requires-clause-columns g c =
    let v = g.N.Exact.rational in
    let is : map v c.spread_long.new.fractions ≡ c.args.self.now = c.spread_long.ensures ∙ ap₂ (λ ws fs. line_of c.self.inside.is_whole c.self.inside.denominator ws (map v fs)) c.as_slice-words.ensures.value c.as_mut_slice-fractions.ensures.value ∙ c.self.view_is in
    let within : c.args.column < length c.spread_long.new.fractions = omega (arith, c.requires.column, sym (length-map c.spread_long.new.fractions v), ap length is) in
    c.requires.columns ∙ ap (nonzero_columns (at c.args.other.now)) (sym (fractions_length v (limit_of g.N.Exact.WIDTH) c.args.self.now c.spread_long.new.fractions c.args.column c.index-fractions-column.result is within c.index-fractions-column.is))

pub returns-clause-stop : goal.returns-clause-stop
returns-clause-stop g c =
    let v = g.N.Exact.rational in
    let is : map v c.spread_long.new.fractions ≡ c.args.self.now = c.spread_long.ensures ∙ ap₂ (λ ws fs. line_of c.self.inside.is_whole c.self.inside.denominator ws (map v fs)) c.as_slice-words.ensures.value c.as_mut_slice-fractions.ensures.value ∙ c.self.view_is in
    let within : c.args.column < length c.spread_long.new.fractions = omega (arith, c.requires.column, sym (length-map c.spread_long.new.fractions v), ap length is) in
    c.eliminate.ensures.stop ∙ fractions_stop v (limit_of g.N.Exact.WIDTH) c.args.self.now c.spread_long.new.fractions c.args.column c.index-fractions-column.result is within c.index-fractions-column.is c.args.other.now

pub returns-clause-reduced : goal.returns-clause-reduced
returns-clause-reduced g c =
    let v = g.N.Exact.rational in
    let is : map v c.spread_long.new.fractions ≡ c.args.self.now = c.spread_long.ensures ∙ ap₂ (λ ws fs. line_of c.self.inside.is_whole c.self.inside.denominator ws (map v fs)) c.as_slice-words.ensures.value c.as_mut_slice-fractions.ensures.value ∙ c.self.view_is in
    let within : c.args.column < length c.spread_long.new.fractions = omega (arith, c.requires.column, sym (length-map c.spread_long.new.fractions v), ap length is) in
    let ys = c.eliminate.new.row in
    let written = with_items_is c.self.inside.fractions ys (omega (arith, c.eliminate.auto.row, c.spread_long.auto.fractions, ap length c.as_mut_slice-fractions.ensures.value, c.self.inside.fractions.ok.0)) in
    rw written (fractions_reduced v (limit_of g.N.Exact.WIDTH) c.args.self.now c.spread_long.new.fractions c.args.column c.index-fractions-column.result is within c.index-fractions-column.is c.args.other.now c.eliminate.result ys c.eliminate.ensures.reduced)
