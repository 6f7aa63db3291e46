-- The toll lines are read.
use Rattle.std.specs.Prelude.{◌≡◌, ℕ, pos, false, ◌||◌, List, [], length, Option, Some, None, Ok, refl}
use Rattle.std.proofs.Common.{◌∙◌, subst}
use Rattle.npp_frac.specs.Rational.{Rational, zero_ℚ, whole, is_less, ◌≤ℚ◌}
use Rattle.npp_frac.specs.Order.{is_less_of_≤ℚ}
use Rattle.npp_net.specs.Network.{Network, ceiling_of}
use Rattle.npp_lp.specs.Programs.{at}
use Rattle.npp_tree.specs.declared.item.Item.TheVariants as item
use Rattle.npp_tree.specs.Lines.{numbered}
use Rattle.npp_start.specs.Allowed.{AreAllowed}
use Rattle.npp_check.specs.declared.refusal.Rule.TheVariants.{Order, Tolls}
use Rattle.npp_check.specs.Reads.{line, more}
use Rattle.npp_check.specs.Rules.{broken_if}
use Rattle.npp_check.specs.TollLines.{is_above, toll_line, toll_lines}
use Rattle.npp_accept.proofs.GivesLemmas.{Gives, gives_each}
use Rattle.npp_accept.proofs.Passes.{neither, passes, numbered_so}

not_above : (v : Rational) (ceiling : Option ℕ) → ((u : ℕ) → ceiling ≡ Some u → v ≤ℚ whole (pos u)) → is_above v ceiling ≡ false
not_above v None within = refl
not_above v (Some u) within = is_less_of_≤ℚ (whole (pos u)) v (within u refl)

toll_says : (net : Network) (a : ℕ) (v : Rational) → zero_ℚ ≤ℚ v → ((u : ℕ) → ceiling_of net.arcs a ≡ Some u → v ≤ℚ whole (pos u)) → toll_line net a (item.Toll a v) ≡ Ok v
toll_says net a v least within =
    numbered_so a Order (broken_if (is_less v zero_ℚ || is_above v (ceiling_of net.arcs a)) Tolls (Ok v))
    ∙ passes (is_less v zero_ℚ || is_above v (ceiling_of net.arcs a)) Tolls (Ok v)
    (neither (is_less v zero_ℚ) (is_above v (ceiling_of net.arcs a)) (is_less_of_≤ℚ v zero_ℚ least) (not_above v (ceiling_of net.arcs a) within))

-- tolls that the leader may set
pub gives_tolls : (net : Network) (tolls : List Rational) → AreAllowed net tolls → Gives (toll_lines net) (numbered (λ a v. item.Toll a v) 0 tolls) tolls
gives_tolls net tolls allowed =
    subst (λ (n : ℕ). Gives (more (λ above. line (toll_line net (length above))) n []) (numbered (λ a v. item.Toll a v) 0 tolls) tolls) allowed.size
    (gives_each (toll_line net) (λ a v. item.Toll a v) zero_ℚ tolls (λ i lt. toll_says net i (at tolls i) (allowed.not_negative i lt) (λ u is. allowed.ceilings i u lt is)))
