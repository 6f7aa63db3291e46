use Rattle.std.proofs.Common.{◌∙◌, ◌<◌, subst, ℕ, List, length, Option, Ok, Err, arith}
use Rattle.npp_outside.specs.Shelf.{Files, GivesPiece}
use Rattle.npp_stream.specs.declared.refusal.FileRefusal.TheVariants as file
use Rattle.npp_stream.specs.TextVerdicts.{certificate_limit}
use Rattle.npp_stream.proofs.FileLemmas.{goes_on, stops, ended, file_refused, passes_limit, is_measured}
use Rattle.npp_stream.proofs.file.check_file.Goals as goal

pub returns-in_err-finish-clause-answer : goal.returns-in_err-finish-clause-answer
returns-in_err-finish-clause-answer g c =
    let piece : List ℕ = c.piece.new.into in
    let given = subst (λ (h : Option Files). GivesPiece h c.args.name.now c.loop-taken.taken (length piece) piece (Ok c.in_ok-count.count)) c.loop-taken.invariant.held c.in_ok-count.ensures.bytes in
    let none = subst (λ (n : ℕ). GivesPiece (g.S.Shelf.held c.args.shelf.now) c.args.name.now c.loop-taken.taken (length piece) piece (Ok n)) c.if-count-eq0.true given in
    let room : 0 < length piece = omega (arith, c.piece.auto.into) in
    file_refused c.args.instance.now (g.S.Shelf.held c.args.shelf.now) c.args.name.now c.in_err-finish.field-0.0 c.from_residual-in_err-finish.result c.from_residual-in_err-finish.ensures.1
    (ended c.args.instance.now (g.S.Shelf.held c.args.shelf.now) c.args.name.now c.loop-taken.taken piece c.loop-taken.check (Err c.in_err-finish.field-0.0) c.loop-taken-test.true room
    c.loop-taken.invariant.under_way none c.in_err-finish.ensures)

pub returns-then-count-eq0-clause-answer : goal.returns-then-count-eq0-clause-answer
returns-then-count-eq0-clause-answer g c =
    let piece : List ℕ = c.piece.new.into in
    let given = subst (λ (h : Option Files). GivesPiece h c.args.name.now c.loop-taken.taken (length piece) piece (Ok c.in_ok-count.count)) c.loop-taken.invariant.held c.in_ok-count.ensures.bytes in
    let none = subst (λ (n : ℕ). GivesPiece (g.S.Shelf.held c.args.shelf.now) c.args.name.now c.loop-taken.taken (length piece) piece (Ok n)) c.if-count-eq0.true given in
    let room : 0 < length piece = omega (arith, c.piece.auto.into) in
    ended c.args.instance.now (g.S.Shelf.held c.args.shelf.now) c.args.name.now c.loop-taken.taken piece c.loop-taken.check (Ok c.in_ok-finish.field-0) c.loop-taken-test.true room
    c.loop-taken.invariant.under_way none c.in_ok-finish.ensures

pub returns-then-count-eq0-clause-proves : goal.returns-then-count-eq0-clause-proves
returns-then-count-eq0-clause-proves g c =
    let way = c.loop-taken.invariant.under_way in
    (way.front, c.in_ok-finish.ensures c.args.instance.now way.measures way.front way.judged)

pub returns-in_err-take-clause-answer : goal.returns-in_err-take-clause-answer
returns-in_err-take-clause-answer g c =
    let piece : List ℕ = c.piece.new.into in
    let given = subst (λ (h : Option Files). GivesPiece h c.args.name.now c.loop-taken.taken (length piece) piece (Ok c.in_ok-count.count)) c.loop-taken.invariant.held c.in_ok-count.ensures.bytes in
    file_refused c.args.instance.now (g.S.Shelf.held c.args.shelf.now) c.args.name.now c.in_err-take.field-0.0 c.from_residual-in_err-take.result c.from_residual-in_err-take.ensures.1
    (stops certificate_limit c.args.instance.now c.args.name.now c.loop-taken.taken c.in_ok-count.count c.min-within.result piece c.loop-taken-test.true c.min-within.ensures c.in_ok-count.ensures.count
    (g.S.Shelf.held c.args.shelf.now) c.loop-taken.check c.take.new.self c.in_err-take.field-0.0 c.loop-taken.invariant.under_way given c.in_err-take.ensures)

pub loop-taken-preserved : goal.loop-taken-preserved
loop-taken-preserved g c =
    let piece : List ℕ = c.piece.new.into in
    let given = subst (λ (h : Option Files). GivesPiece h c.args.name.now c.loop-taken.taken (length piece) piece (Ok c.in_ok-count.count)) c.loop-taken.invariant.held c.in_ok-count.ensures.bytes in
    record {
      held = c.in_ok-count.ensures.held ∙ c.loop-taken.invariant.held;
      under_way = goes_on certificate_limit c.args.instance.now c.args.name.now c.loop-taken.taken c.in_ok-count.count c.min-within.result piece c.loop-taken-test.true c.min-within.ensures
          c.in_ok-count.ensures.count (g.S.Shelf.held c.args.shelf.now) c.loop-taken.check c.take.new.self c.loop-taken.invariant.under_way given c.in_ok-take.ensures;
      faults = omega (arith, c.loop-taken.invariant.faults, c.in_ok-count.ensures.cause.faults_stay);
      misses = omega (arith, c.loop-taken.invariant.misses, c.in_ok-count.ensures.cause.misses_stay);
    }

pub returns-clause-answer : goal.returns-clause-answer
returns-clause-answer g c = passes_limit c.args.instance.now (g.S.Shelf.held c.args.shelf.now) c.args.name.now c.loop-taken.taken c.loop-taken.check c.loop-taken-test.false c.loop-taken.invariant.under_way

pub returns-in_err-count-clause-measured : goal.returns-in_err-count-clause-measured
returns-in_err-count-clause-measured g c = let way = c.loop-taken.invariant.under_way in is_measured c.args.instance.now way.measures way.judged.measures c.from_residual-in_err-count.result

pub returns-then-count-eq0-clause-measured : goal.returns-then-count-eq0-clause-measured
returns-then-count-eq0-clause-measured g c = let way = c.loop-taken.invariant.under_way in is_measured c.args.instance.now way.measures way.judged.measures (Ok c.in_ok-finish.field-0)

pub returns-in_err-finish-clause-measured : goal.returns-in_err-finish-clause-measured
returns-in_err-finish-clause-measured g c = let way = c.loop-taken.invariant.under_way in is_measured c.args.instance.now way.measures way.judged.measures c.from_residual-in_err-finish.result

pub returns-in_err-take-clause-measured : goal.returns-in_err-take-clause-measured
returns-in_err-take-clause-measured g c = let way = c.loop-taken.invariant.under_way in is_measured c.args.instance.now way.measures way.judged.measures c.from_residual-in_err-take.result

pub returns-clause-measured : goal.returns-clause-measured
returns-clause-measured g c = let way = c.loop-taken.invariant.under_way in is_measured c.args.instance.now way.measures way.judged.measures (Err file.TooLong)
