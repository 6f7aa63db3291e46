-- The prices of useful paths, formed step by step.
use Rattle.std.specs.Prelude.{ℕ, pos, List, [], ◌∷◌, length, map, filter, ◌==◌, Result, Ok}
use Rattle.std.specs.Int.{bit_at}
use Rattle.std.specs.List.{range_with_len}
use Rattle.npp_frac.specs.Rational.{Rational, zero_ℚ, whole, is_less}
use Rattle.npp_lp.specs.Programs.{at}
use Rattle.npp_cover.specs.Paths.{PathValue}
use Rattle.npp_cover.specs.Replaces.{CoverValue}
use Rattle.npp_tree.specs.declared.outcome.PathLine.{PathLine}
use Rattle.npp_check.specs.declared.refusal.Rule.{Rule}
use Rattle.npp_check.specs.declared.refusal.Rule.TheVariants.{Path}
use Rattle.npp_check.specs.Rules.{and_then, broken_if, sum_of}
use Rattle.npp_check.specs.Prices.{printed_price}

-- numbers added to a sum, in order
abbrev pub sum_all : ℕ → Rational → List Rational → Result Rational Rule
sum_all limit sum [] = Ok sum
sum_all limit sum (x ∷ xs) = and_then (sum_of limit sum x) (λ more. sum_all limit more xs)

-- the tolls of a set, by rising number
abbrev pub tolls_in : List Rational → ℕ → List Rational
tolls_in tolls set = map (at tolls) (filter (λ a. bit_at set a == 1) (range_with_len 0 (length tolls)))

-- the sum of its tolls, begun at 0, and then the cost and that sum
abbrev pub priced : ℕ → List Rational → PathValue → Result Rational Rule
priced limit tolls p = and_then (sum_all limit zero_ℚ (tolls_in tolls p.tolls)) (λ toll. sum_of limit (whole (pos p.cost)) toll)

-- none of these paths is cheaper than a price
abbrev pub none_below : ℕ → List Rational → Rational → List PathValue → Result (Unit {0}) Rule
none_below limit tolls printed [] = Ok tt
none_below limit tolls printed (p ∷ paths) =
    and_then (priced limit tolls p) (λ price. broken_if (is_less price printed) Path (none_below limit tolls printed paths))

-- no path of a cover is cheaper than the printed walk of its commodity
abbrev pub walk_below : ℕ → List Rational → CoverValue → PathLine Rational → Result (Unit {0}) Rule
walk_below limit tolls c line = and_then (printed_price limit line) (λ printed. none_below limit tolls printed c.paths)

-- so for each commodity
abbrev pub walks_below : ℕ → List Rational → List CoverValue → List (PathLine Rational) → Result (Unit {0}) Rule
walks_below limit tolls covers [] = Ok tt
walks_below limit tolls [] (line ∷ lines) = Ok tt
walks_below limit tolls (c ∷ covers) (line ∷ lines) = and_then (walk_below limit tolls c line) (λ _. walks_below limit tolls covers lines)
