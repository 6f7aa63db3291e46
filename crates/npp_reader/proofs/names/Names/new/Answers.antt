use Rattle.std.proofs.Common.{◌≡◌, ◌++◌, ◌∷◌, false, List, String, sym, ◌∙◌, ap, append_assoc, arith}
use Rattle.std.specs.List.{list_any}
use Rattle.std.proofs.lemmas.List.{length_push}
use Rattle.std.specs.String.{string_eq}
use Rattle.std.specs.Vec.Iter.{into_iter_items}
use Rattle.std.specs.declared.alloc.Global.{Global}
use Rattle.npp_reader.proofs.NameLemmas.{not_before, put_keys, whole_list}
use Rattle.npp_reader.proofs.names.Names.new.Goals as goal

pub loop-name-preserved : goal.loop-name-preserved
loop-name-preserved c =
    let rest = into_iter_items c.next.new.self in
    let split : c.loop-name.yielded ++ c.in-Some.name ∷ rest ≡ c.args.names.items
    = ap (λ (xs : List (String Global)). c.loop-name.yielded ++ xs) (sym c.in-Some.ensures.steps.0) ∙ c.loop-name.invariant.1 in
    let absent : list_any (string_eq c.in-Some.name) c.loop-name.index.keys ≡ false
    = rw c.loop-name.invariant.0 (not_before c.loop-name.yielded c.in-Some.name rest c.args.names.items split c.requires) in (
      put_keys c.loop-name.index.keys c.in-Some.name c.insert.new.self.keys c.in_ok-insert.ensures.keys absent ∙ rw c.loop-name.invariant.0,
      rw append_assoc split,
      omega (arith, length_push c.loop-name.yielded c.in-Some.name, c.in-Some.ensures.steps.1, c.loop-name.invariant.2),
    )

pub invariant_of-result : goal.invariant_of-result
invariant_of-result c =
    let whole : c.loop-name.yielded ≡ c.args.names.items = whole_list c.loop-name.yielded (into_iter_items c.loop-name.name-iterator) c.args.names.items c.loop-name.invariant.1 (omega (arith, c.in-None.ensures.steps.0, c.loop-name.invariant.2)) in
    rw (c.loop-name.invariant.0, whole) c.requires
