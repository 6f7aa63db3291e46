-- The cap of a toll is one number, with a small example.
use Rattle.std.proofs.Common.{◌≡◌, inl, inr, ℕ, zero, suc, ◌+◌, ◌<◌, ◌≤◌, List, [], ◌∷◌, get_or, Contains, Option, Some, None, true, refl, sym, ◌∙◌, subst, ap, arith}
use Rattle.npp_net.specs.declared.types.NetArc.{NetArc}
use Rattle.npp_net.specs.Network.{ceiling_of}
use Rattle.npp_net.specs.TollSets.{Has}
use Rattle.npp_cover.specs.Paths.{PathValue}
use Rattle.npp_cover.specs.Replaces.{CoverValue}
use Rattle.npp_cover.specs.Caps.{IsGap, IsGreatestGap, within_ceiling, IsCap}

not_above : (covers : List CoverValue) (a m n : ℕ) → IsGreatestGap covers a m → IsGreatestGap covers a n → m ≤ n
not_above covers a m n first second = elim first.attained [
  | inl gap ↦ second.bounds m gap
  | inr none ↦ omega (arith, none)
]

one_gap : (covers : List CoverValue) (a m n : ℕ) → IsGreatestGap covers a m → IsGreatestGap covers a n → m ≡ n
one_gap covers a m n first second = omega (arith, not_above covers a m n first second, not_above covers a n m second first)

pub one_cap : (arcs : List NetArc) (covers : List CoverValue) (a m n : ℕ) → IsCap arcs covers a m → IsCap arcs covers a n → m ≡ n
one_cap arcs covers a m n first second =
    first.2 ∙ (ap (λ (gap : ℕ). within_ceiling (ceiling_of arcs a) gap) (one_gap covers a first.0 second.0 first.1 second.1) ∙ sym second.2)

-- ---- an example: a path with toll 0 that costs 2, and the toll-free path, which costs 10

abbrev by_toll : PathValue
by_toll = record { tolls = 1; cost = 2; arcs = [] }

abbrev toll_free : PathValue
toll_free = record { tolls = 0; cost = 10; arcs = [] }

abbrev detour : CoverValue
detour = record { labels = []; paths = by_toll ∷ toll_free ∷ []; free = 10 }

-- no path of the cover with this toll has a greater difference
abbrev GapsAtMost : ℕ → ℕ → ℕ → CoverValue → Type 0
GapsAtMost a most gap c = (p : PathValue) → Contains c.paths p → Has p.tolls a → p.cost + gap ≡ c.free → gap ≤ most

of_path : (a most gap : ℕ) → (Has 1 a → 8 ≤ most) → (Has 0 a → ⊥) → (p : PathValue) (i : ℕ) → i < 2 → get_or detour.paths i p ≡ p
    → Has p.tolls a → p.cost + gap ≡ 10 → gap ≤ most
of_path a most gap first second p zero lt is has costs =
    omega (arith, first (subst (λ (q : PathValue). Has q.tolls a) (sym is) has), ap (λ (q : PathValue). q.cost) is)
of_path a most gap first second p (suc zero) lt is has costs = absurd (second (subst (λ (q : PathValue). Has q.tolls a) (sym is) has))
of_path a most gap first second p (suc (suc i)) lt is has costs = absurd (omega arith)

of_cover : (a most gap : ℕ) → (Has 1 a → 8 ≤ most) → (Has 0 a → ⊥) → (c : CoverValue) (i : ℕ) → i < 1 → get_or (detour ∷ []) i c ≡ c → GapsAtMost a most gap c
of_cover a most gap first second c zero lt is =
    subst (GapsAtMost a most gap) is (λ p there has costs. of_path a most gap first second p there.0 there.1 there.2 has costs)
of_cover a most gap first second c (suc i) lt is = absurd (omega arith)

bounded : (a most : ℕ) → (Has 1 a → 8 ≤ most) → (Has 0 a → ⊥) → (gap : ℕ) → IsGap (detour ∷ []) a gap → gap ≤ most
bounded a most first second gap is = of_cover a most gap first second is.0 is.2.0 is.2.1 is.2.2 is.1 is.3 is.4 is.5

gap_of_toll : IsGreatestGap (detour ∷ []) 0 8
gap_of_toll = record {
  bounds = bounded 0 8 (λ has. omega arith) (λ has. absurd (omega arith));
  attained = inl (detour, by_toll, (0, omega arith, refl), (0, omega arith, refl), refl, refl);
}

gap_of_no_toll : IsGreatestGap (detour ∷ []) 1 0
gap_of_no_toll = record {
  bounds = bounded 1 0 (λ has. absurd (omega arith)) (λ has. absurd (omega arith));
  attained = inr refl;
}

-- two toll arcs, of which the first may have a ceiling
abbrev toll_arc : Option ℕ → NetArc
toll_arc ceiling = record { tail = record { 0 = 0 }; head = record { 0 = 1 }; cost = 2; toll = true; ceiling = ceiling }

abbrev tolls_with : Option ℕ → List NetArc
tolls_with ceiling = toll_arc ceiling ∷ toll_arc None ∷ []

pub cap_without_ceiling : IsCap (tolls_with None) (detour ∷ []) 0 8
cap_without_ceiling = (8, gap_of_toll, refl)

pub cap_below_ceiling : IsCap (tolls_with (Some 9)) (detour ∷ []) 0 8
cap_below_ceiling = (8, gap_of_toll, refl)

pub cap_at_ceiling : IsCap (tolls_with (Some 5)) (detour ∷ []) 0 5
cap_at_ceiling = (8, gap_of_toll, refl)

pub cap_of_no_toll : IsCap (tolls_with (Some 5)) (detour ∷ []) 1 0
cap_of_no_toll = (0, gap_of_no_toll, refl)
