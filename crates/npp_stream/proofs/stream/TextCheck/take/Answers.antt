use Rattle.std.proofs.Common.{◌≡◌, ◌∙◌, ap, sym, ℕ, ◌+◌, List, [], ◌∷◌, ◌++◌, take, drop, Err, append_assoc}
use Rattle.npp_stream.proofs.PieceLemmas.{Taken, takes_then, refuses_then, takes_same, passed_on, behind_place, IsLineEnd, found, not_found}
use Rattle.npp_stream.proofs.stream.TextCheck.take.Goals as goal

pub end_line-requires : goal.end_line-requires
end_line-requires c = let at : IsLineEnd c.loop-end.rest.now c.in-Some.end = found c.loop-end.rest.now c.in-Some.end (sym c.in-Some.ensures) in at.first

-- the bytes up to a line feed, and those behind it
parts_are : (piece done rest : List ℕ) (end : ℕ) → piece ≡ done ++ rest → IsLineEnd rest end → piece ≡ (done ++ (take end rest ++ 10 ∷ [])) ++ drop (end + 1) rest
parts_are piece done rest end e at = e ∙ ap (λ t. done ++ t) at.parts ∙ sym (append_assoc done (take end rest ++ 10 ∷ []) (drop (end + 1) rest))

pub returns-in_err-end_line : goal.returns-in_err-end_line
returns-in_err-end_line c =
    let rest : List ℕ = c.loop-end.rest.now in
    let line : List ℕ = take c.in-Some.end rest ++ 10 ∷ [] in
    let at : IsLineEnd rest c.in-Some.end = found rest c.in-Some.end (sym c.in-Some.ensures) in
    let done : List ℕ = c.loop-end.invariant.0 in
    let refused = takes_then c.args.self.now c.loop-end.self c.end_line.new.self done line (Err c.in_err-end_line.field-0.0) c.loop-end.invariant.2 c.in_err-end_line.ensures in
    passed_on c.args.self.now c.end_line.new.self c.args.piece.now c.in_err-end_line.field-0.0 c.from_residual.result c.from_residual.ensures.1
    (takes_same c.args.self.now c.end_line.new.self ((done ++ line) ++ drop (c.in-Some.end + 1) rest) c.args.piece.now (Err c.in_err-end_line.field-0.0)
    (sym (parts_are c.args.piece.now done rest c.in-Some.end c.loop-end.invariant.1 at))
    (refuses_then c.args.self.now c.end_line.new.self c.end_line.new.self (done ++ line) (drop (c.in-Some.end + 1) rest) c.in_err-end_line.field-0.0 refused))

pub loop-end-preserved : goal.loop-end-preserved
loop-end-preserved c =
    let rest : List ℕ = c.loop-end.rest.now in
    let line : List ℕ = take c.in-Some.end rest ++ 10 ∷ [] in
    let at : IsLineEnd rest c.in-Some.end = found rest c.in-Some.end (sym c.in-Some.ensures) in
    let done : List ℕ = c.loop-end.invariant.0 in (
      done ++ line,
      parts_are c.args.piece.now done rest c.in-Some.end c.loop-end.invariant.1 at ∙ ap (λ t. (done ++ line) ++ t) (sym (behind_place rest (c.in-Some.end + 1))),
      takes_then c.args.self.now c.loop-end.self c.end_line.new.self done line Taken c.loop-end.invariant.2 c.in_ok-end_line.ensures,
    )

pub go_on-requires : goal.go_on-requires
go_on-requires c = not_found c.loop-end.rest.now (sym c.line_feed.ensures ∙ c.in_default.is)

pub returns : goal.returns
returns c =
    let rest : List ℕ = c.loop-end.rest.now in
    let done : List ℕ = c.loop-end.invariant.0 in
    takes_same c.args.self.now c.go_on.new.self (done ++ rest) c.args.piece.now c.go_on.result (sym c.loop-end.invariant.1)
    (takes_then c.args.self.now c.loop-end.self c.go_on.new.self done rest c.go_on.result c.loop-end.invariant.2 c.go_on.ensures)
