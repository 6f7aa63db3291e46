use Rattle.std.proofs.Common.{◌≡◌, ◌<◌, ◌∙◌, ◌∷◌, [], length, get_or, refl, ap, arith}
use Rattle.std.specs.Prelude.{slice_set}
use Rattle.std.proofs.lemmas.List.{get_or_default}
use Rattle.npp_rows.specs.Parts.{part_at}
use Rattle.npp_tree.specs.Bounds.{bound_value}
use Rattle.npp_tree.specs.Family.{Family}
use Rattle.npp_check.specs.declared.later.Later.{Later}
use Rattle.npp_check.specs.PlaceStack.{PlaceList, later_places}
use Rattle.npp_check.proofs.PlaceLemmas.{split_later}
use Rattle.npp_check.proofs.places.Places.split.Goals as goal

pub index_mut-requires : goal.index_mut-requires
index_mut-requires c =
    omega (arith, c.requires, ap (λ (p : PlaceList). length p.first.parts) c.self.view_is, ap length (c.into_entries-parts.ensures ∙ c.replace-allowed.ensures.value), c.into_entries-parts.result.ok.0)

pub returns : goal.returns
returns c =
    let family : Family = c.self.inside.allowed.parts in
    let k = c.args.commodity in
    let into = c.into_entries-parts.ensures ∙ c.replace-allowed.ensures.value in
    let inside : k < length c.into_entries-parts.result.items = omega (arith, c.requires, ap (λ (p : PlaceList). length p.first.parts) c.self.view_is, ap length (c.into_entries-parts.ensures ∙ c.replace-allowed.ensures.value)) in
    let after = c.replace-whole.ensures.after in
    let parts : c.of-2.result ≡ slice_set family k c.args.part = c.of-2.ensures ∙ (λ i. slice_set (into i) k (after i)) in
    let whole : c.replace-whole.result ≡ part_at family k =
    c.replace-whole.ensures.value ∙ c.index_mut.ensures.value ∙ get_or_default c.into_entries-parts.result.items k c.index_mut.result.now [] inside ∙ ap (λ (f : Family). get_or f k []) into in
    let l : Later = record { commodity = k; whole = c.replace-whole.result; rest = c.args.rest; parent = c.args.bound; changes = c.new-2.result } in
    let later = ap (later_places c.push.new.self.items) parts ∙ split_later c.self.inside.later.items c.push.new.self.items l family k c.args.part c.in_ok-push.ensures.items refl whole c.new-2.ensures.items in
    let split : PlaceList → PlaceList = λ p. record {
      first = record { parts = slice_set p.first.parts k c.args.part; parent = bound_value c.args.bound };
      later = record { parts = slice_set p.first.parts k c.args.rest; parent = bound_value c.args.bound } ∷ p.later;
    } in
    (λ i. record { first = record { parts = parts i; parent = bound_value c.args.bound }; later = later i }) ∙ ap split c.self.view_is
