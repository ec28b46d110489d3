use Rattle.std.proofs.Common.{◌≡◌, ap, sym, subst, ◌∙◌, get_or, false}
use Rattle.std.specs.Prelude.{IsTrue}
use borrow.Author.Count.{below_more}
use Rattle.std.proofs.lemmas.List.{get_or-map}
use Rattle.shade_values.specs.Kept.{types_of}
use Rattle.shade_values.proofs.layouts.place_of.Goals as goal

pub loop-place-preserved : goal.loop-place-preserved
loop-place-preserved c =
    let entries = c.args.entries.now in
    let entry = c.index-entries-place.result in
    let here : get_or (types_of entries) c.loop-place.place c.args.ty ≡ entry.ty =
    get_or-map (λ e. e.ty) entries c.loop-place.place entry c.args.ty c.loop-place-test.true ∙ ap (λ e. e.ty) (sym c.index-entries-place.is) in
    below_more (λ k. get_or (types_of entries) k c.args.ty ≡ c.args.ty → ⊥) c.loop-place.place c.loop-place.invariant
    (λ e. let no : IsTrue false = subst IsTrue c.if-is_type.false (c.is_type.ensures.1 (sym here ∙ e)) in cc)
