use Rattle.std.proofs.Common.{sym, ap, subst, ◌∙◌, length, arith}
use Rattle.std.specs.Prelude.{All}
use Rattle.std.proofs.lemmas.List.{take_all}
use Rattle.shade_values.specs.Shape.{member_shapes, shape_of, shapes}
use Rattle.shade_values.specs.Table.{members_at}
use Rattle.shade_values.specs.Typed.{AreValuesOf, IsValueOf}
use Rattle.shade_shape.proofs.Tells.{refutes, confirms}
use Rattle.shade_shape.proofs.ValueLaws.{all_with, members_long, member_there, member_next, none_at}
use Rattle.shade_shape.proofs.values.+values.Goals as goal

pub are_elements-parts-preserved : goal.are_elements-parts-preserved
are_elements-parts-preserved t c =
    let one = subst (λ s. IsValueOf s c.part-item.result) (sym c.in-Some.ensures.shape) (c.is_spelled.ensures.0 c.if-not-is_spelled.false) in
    all_with (IsValueOf (shape_of c.args.types.now c.args.id)) c.as_slice-part-items.result.now c.parts.part-index c.part-item.result c.parts-test.true c.part-item.is c.parts.invariant one

pub are_elements-returns : goal.are_elements-returns
are_elements-returns t c =
    let P = IsValueOf (shape_of c.args.types.now c.args.id) in
    let items = c.as_slice-part-items.result.now in
    confirms (
      omega (arith, c.len.ensures, c.if-len-count.false),
      subst (All P) c.as_slice-part-items.ensures (subst (All P) (take_all c.parts.part-index items (omega (arith, c.parts-test.false))) c.parts.invariant),
    )

pub are_members-returns-then-members-len : goal.are_members-returns-then-members-len
are_members-returns-then-members-len t c =
    let ms = rw c.table.ensures at c.members-members.ensures in
    refutes (λ h. absurd (omega (arith, members_long _ _ _ h, ap length ms, c.len.ensures, c.if-members-len.true)))

pub are_members-returns-in_default : goal.are_members-returns-in_default
are_members-returns-in_default t c =
    absurd (member_there c.members-members.result.now c.parts.place (omega (arith, c.parts.invariant.at, c.parts-test.true, ap length c.as_slice-part-items.ensures, c.len.ensures, c.if-members-len.false)) (sym c.in_default.ensures))

pub are_members-returns-in_default-spelled_at : goal.are_members-returns-in_default-spelled_at
are_members-returns-in_default-spelled_at t c =
    let known = shapes c.args.types.now in
    let ms = c.members-members.result.now in
    let ps = c.as_slice-part-items.result.now in
    let next = member_next known ms ps c.parts.place c.parts.part-index c.part-item.result c.in-Some.id c.parts.invariant.at c.parts-test.true c.part-item.is c.in-Some.ensures in
    let own = rw c.table.ensures at c.members-members.ensures in
    refutes (λ h.
    let told = subst (λ l. AreValuesOf (member_shapes known l) ps) (sym own) (subst (λ l. AreValuesOf (member_shapes known (members_at c.args.types.now.structs c.args.number)) l) (sym c.as_slice-part-items.ensures) h) in
    none_at (shape_of c.args.types.now c.in-Some.id) c.part-item.result c.in_default-spelled_at.ensures.none (next.0 (c.parts.invariant.from told)).0)

pub are_members-returns-then-not-is_spelled : goal.are_members-returns-then-not-is_spelled
are_members-returns-then-not-is_spelled t c =
    let known = shapes c.args.types.now in
    let ms = c.members-members.result.now in
    let ps = c.as_slice-part-items.result.now in
    let next = member_next known ms ps c.parts.place c.parts.part-index c.part-item.result c.in-Some.id c.parts.invariant.at c.parts-test.true c.part-item.is c.in-Some.ensures in
    let own = rw c.table.ensures at c.members-members.ensures in
    refutes (λ h.
    let told = subst (λ l. AreValuesOf (member_shapes known l) ps) (sym own) (subst (λ l. AreValuesOf (member_shapes known (members_at c.args.types.now.structs c.args.number)) l) (sym c.as_slice-part-items.ensures) h) in
    let f = c.is_spelled.ensures.1 (subst (λ s. IsValueOf s c.part-item.result) c.in-Some-spelled_at.ensures.shape (next.0 (c.parts.invariant.from told)).0) in
    absurd (cc (f, c.if-not-is_spelled.true)))

pub are_members-parts-preserved : goal.are_members-parts-preserved
are_members-parts-preserved t c =
    let known = shapes c.args.types.now in
    let ms = c.members-members.result.now in
    let ps = c.as_slice-part-items.result.now in
    let next = member_next known ms ps c.parts.place c.parts.part-index c.part-item.result c.in-Some.id c.parts.invariant.at c.parts-test.true c.part-item.is c.in-Some.ensures in
    let one = subst (λ s. IsValueOf s c.part-item.result) (sym c.in-Some-spelled_at.ensures.shape) (c.is_spelled.ensures.0 c.if-not-is_spelled.false) in
    record {
      at = omega (arith, c.parts.invariant.at);
      to = λ m. c.parts.invariant.to (next.1 (one, m));
      from = λ w. (next.0 (c.parts.invariant.from w)).1;
    }
