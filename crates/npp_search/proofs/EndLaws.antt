-- What holds where a search ends: a leaf above the lower value is a full choice that is not quiet.
use Rattle.std.proofs.Common.{◌≡◌, inl, inr, ℕ, Bool, true, List, refl, sym, ◌∙◌, subst, ap, Option, Some, None}
use Rattle.std.specs.Prelude.{IfSome, IfNone, MatchBool}
use Rattle.std.proofs.lemmas.Bool.{cases_Bool, true≢false}
use Rattle.npp_frac.specs.Rational.{Rational, ◌≤ℚ◌}
use Rattle.npp_frac.specs.Order.{≤ℚ_trans}
use Rattle.npp_lp.specs.Programs.{IsInfeasible, IsOptimum}
use Rattle.npp_rows.specs.declared.mark.Mark.{Mark}
use Rattle.npp_tree.specs.Bounds.{BoundValue, Empty, At, IsAbove, IsUpTo, IsAtMost}
use Rattle.npp_tree.specs.Family.{Family, Division}
use Rattle.npp_rows.specs.Parts.{IsAllowed, is_full}
use Rattle.npp_tree.specs.declared.node.Evidence.{Evidence}
use Rattle.npp_tree.specs.declared.node.Evidence.TheVariants.{Unopened, Basic, Dual, Farkas, Inverse, NoInverse}
use Rattle.npp_tree.specs.Evidence.{is_opened, IsOfKind}
use Rattle.npp_leaf.specs.Passes.{Passes}
use Rattle.npp_rows.specs.Named.{NamedProgram, numbered}
use Rattle.npp_rows.specs.Response.{Reply}
use Rattle.npp_leaf.specs.Passes.{IsOptimal}
use Rattle.npp_search.specs.Problem.{Problem, program_of, work_on, reply_to}
use Rattle.npp_inverse.specs.Work.{Ending, AtPoint, WithoutPoint, AtMark, IsQuiet}
use Rattle.npp_tree.specs.Points.{tolls_of}
use Rattle.npp_tree.specs.Tree.{Node, Placed, bound_after, was_opened}
use Rattle.npp_search.specs.Grown.{Task, Growth, IsGrowing, IsOpenedNode, IsUnopenedNode, IsSettled, NoneIsLive, Earned, nodes_of}
use Rattle.npp_search.specs.Outcome.{IsLoudChoice, LeavesAreLoud}
use Rattle.npp_tree.proofs.FamilyLaws.{families}
use Rattle.npp_search.proofs.TurnLaws.{are_divided}
use Rattle.npp_tree.proofs.BoundLaws.{lesser_right, not_above_up_to, up_to_from, up_to_more}

-- what the crates below have to show of a full choice
pub record IsFaithful (P : Problem) : Type 0 where
  pub solved : (family : Family) (x y : List Rational) (v : Rational) → is_full family ≡ true → work_on P family ≡ AtPoint x y v
      → IsOptimum (numbered (program_of P family)) v
  pub no_point : (family : Family) (y : List Rational) → is_full family ≡ true → work_on P family ≡ WithoutPoint y → IsInfeasible (numbered (program_of P family))
  -- the reply to the tolls of the point is there, and earns no less than the optimum
  pub earns : (family : Family) (x y : List Rational) (v : Rational) → IsAllowed P.paths family → is_full family ≡ true → work_on P family ≡ AtPoint x y v
      → (r : Reply) × (reply_to P (tolls_of P.paths x) ≡ Some r) × (v ≤ℚ r.revenue)

-- a program with a mark is not quiet
pub loud_or_quiet : (e : Ending) (m : Mark) → IsQuiet e → e ≡ AtMark m → ⊥
loud_or_quiet e m quiet loud = let none : Some m ≡ None = subst IsQuiet loud quiet in cc

-- an opened node without a mark has a value
valued : (limit : ℕ) (prog : NamedProgram) (full : Bool) (e : Evidence Rational) (value : Option BoundValue) → full ≡ true → is_opened e ≡ true → IsOfKind full e
    → ((m : Mark) → e ≡ Basic m → ⊥) → Passes limit prog e value → (b : BoundValue) × (value ≡ Some b)
valued limit prog full Unopened value one opened kind unmarked a = absurd a
valued limit prog full (Basic m) value one opened kind unmarked a = absurd (unmarked m refl)
valued limit prog full (Dual ys) value one opened kind unmarked a = absurd (true≢false (sym one ∙ kind))
valued limit prog full (Farkas ys) value one opened kind unmarked a = absurd (true≢false (sym one ∙ kind))
valued limit prog full (Inverse ys) value one opened kind unmarked a = (At a.0, a.1)
valued limit prog full (NoInverse ys) value one opened kind unmarked a = (Empty, a.0)

-- an optimum is at most a bound of all points
optimum_below : (prog : NamedProgram) (b : BoundValue) (v : Rational) → IsOptimal (numbered prog) b → IsOptimum (numbered prog) v → IsUpTo b v
optimum_below prog Empty v best optimum = tt
optimum_below prog (At w) v best optimum = let a = best.attained in subst (λ (q : Rational). q ≤ℚ v) a.2 (optimum.bound a.0 a.1)

up_to_none : (prog : NamedProgram) (b : BoundValue) (q : Rational) → IsOptimal (numbered prog) b → IsInfeasible (numbered prog) → IsUpTo b q
up_to_none prog Empty q best none = tt
up_to_none prog (At w) q best none = let a = best.attained in absurd (none a.0 a.1)

module _ (P : Problem) (faithful : IsFaithful P) (task : Task) (lower : Rational) (p : Placed Node) (opened : was_opened p ≡ true)
    (node : IsOpenedNode P task lower p) (allowed : IsAllowed P.paths p.family) (full : is_full p.family ≡ true) (earned : (v : Rational) → Earned P p v → v ≤ℚ lower) where
  -- its bound is at most the lower value, where that is so of the optimum of its program
  bound_within : ((m : Mark) → work_on P p.family ≡ AtMark m → ⊥) → ((b : BoundValue) → IsOptimal (numbered (program_of P p.family)) b → IsUpTo b lower)
      → IsUpTo p.node.bound lower
  bound_within quiet best =
      let e = node.evidence in
      let v = valued P.limit (program_of P p.family) (is_full p.family) p.node.evidence node.value full opened e.kind
      (λ m same. quiet m ((e.marked m).0 same)) e.passes in
      let exact : IsOptimal (numbered (program_of P p.family)) v.0 = subst (λ (o : Option BoundValue). IfSome o (IsOptimal (numbered (program_of P p.family)))) v.1 e.optimum in
      let bound : IsAtMost p.node.bound v.0 = subst (λ (b : BoundValue). IsAtMost b v.0) (sym (node.bound ∙ ap (bound_after p.before) v.1)) (lesser_right p.before v.0) in
      up_to_from p.node.bound v.0 lower bound (best v.0 exact)

  by_work : (w : Ending) → work_on P p.family ≡ w → IsAbove p.node.bound lower → IsLoudChoice P p
  by_work (AtMark m) same above = record { full = full; mark = m; marked = (node.evidence.marked m).1 same; loud = same }
  by_work (WithoutPoint y) same above =
      absurd (not_above_up_to p.node.bound lower above (bound_within (λ m loud. loud_or_quiet (WithoutPoint y) m refl (sym same ∙ loud))
      (λ b best. up_to_none (program_of P p.family) b lower best (faithful.no_point p.family y full same))))
  by_work (AtPoint x y v) same above =
      let r = faithful.earns p.family x y v allowed full same in
      let less : r.0.revenue ≤ℚ lower = earned r.0.revenue (record { opened = opened; work = record { columns = x; goal = v; multipliers = y; ends = same; response = r.0; replied = r.1; revenue = refl } }) in
      let within : v ≤ℚ lower = ≤ℚ_trans r.2 less in
      absurd (not_above_up_to p.node.bound lower above (bound_within (λ m loud. loud_or_quiet (AtPoint x y v) m refl (sym same ∙ loud))
      (λ b best. up_to_more b v lower within (optimum_below (program_of P p.family) b v best (faithful.solved p.family x y v full same)))))

settled_cases : (lower : Rational) (p : Placed Node) → IsAbove p.node.bound lower → IsSettled lower p → is_full p.family ≡ true
settled_cases lower p above (inl up_to) = absurd (not_above_up_to p.node.bound lower above up_to)
settled_cases lower p above (inr full) = full

pub leaves_are_loud : (P : Problem) → IsFaithful P → (task : Task) (g : Growth) → IsAllowed P.paths task.family → IsGrowing P task g → NoneIsLive (nodes_of P task g) g.lower
    → LeavesAreLoud P (nodes_of P task g) g.lower
leaves_are_loud P faithful task g allowed growing none p c leaf above = elim (cases_Bool (was_opened p)) [
  | inr closed ↦ absurd (none p c (record { unopened = closed; above = above }))
  | inl opened ↦
      let node : IsOpenedNode P task g.lower p = subst (λ (b : Bool). MatchBool b (IsOpenedNode P task g.lower p) (IsUnopenedNode p)) opened (growing.nodes p c) in
      let settled : IsSettled g.lower p = subst (λ (o : Option Division). IfNone o (IsSettled g.lower p)) leaf node.leaf in
      by_work P faithful task g.lower p opened node
      (families (λ n. n.bound) P.paths task.family task.bound g.tree allowed (are_divided P task g growing) p c) (settled_cases g.lower p above settled) (λ v e. growing.lower.nodes_less p v c e)
      (work_on P p.family) refl above
]
