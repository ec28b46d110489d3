use Rattle.std.proofs.Common.{◌≡◌, ◌≤◌, ◌<◌, sym, ap, subst, ◌∙◌, arith, get_or, length}
use Rattle.shade_values.specs.Shape.{shapes}
use Rattle.shade_values.specs.Table.{members_at}
use Rattle.shade_words.specs.Types.{members_lay}
use Rattle.shade_words.specs.Ways.{field_offset}
use Rattle.shade_words.proofs.MemberLaws.{walking_begins, next_fits, stepped, begins_at, end_fits, field_past, count_members}
use Rattle.shade_words.proofs.members.member_offset.Goals as goal

pub members-init : goal.members-init
members-init c = record { walking = walking_begins _ _; left = omega arith }

pub next_multiple_of-offset-requires-clause-fits :
    goal.next_multiple_of-offset-requires-clause-fits
next_multiple_of-offset-requires-clause-fits c =
    let t = c.args.types.now in
    let m = c.members-item.result in
    let lt : c.members.id-index < length (members_at t.structs c.args.number) = subst (λ ms. c.members.id-index < length ms) c.members-id-items.ensures c.members-test.true in
    let is : m ≡ get_or (members_at t.structs c.args.number) c.members.id-index m = subst (λ ms. m ≡ get_or ms c.members.id-index m) c.members-id-items.ensures c.members-item.is in
    omega (arith, next_fits (shapes t) (members_at t.structs c.args.number) c.members.id-index c.members.end m c.layout_of-member.result lt is c.members.invariant.walking c.layout_of-member.ensures.layout _ c.requires.small)

pub returns-then-left-eq0 : goal.returns-then-left-eq0
returns-then-left-eq0 c =
    let t = c.args.types.now in
    let m = c.members-item.result in
    let lt : c.members.id-index < length (members_at t.structs c.args.number) = subst (λ ms. c.members.id-index < length ms) c.members-id-items.ensures c.members-test.true in
    let is : m ≡ get_or (members_at t.structs c.args.number) c.members.id-index m = subst (λ ms. m ≡ get_or ms c.members.id-index m) c.members-id-items.ensures c.members-item.is in
    let here : c.members.id-index ≡ c.args.k = omega (arith, c.members.invariant.left, c.if-left-eq0.true) in
    c.words_of.ensures
    ∙ (sym (begins_at (shapes t) (members_at t.structs c.args.number) c.members.id-index c.members.end m c.layout_of-member.result lt is c.members.invariant.walking c.layout_of-member.ensures.layout c.next_multiple_of-offset.result c.next_multiple_of-offset.ensures.value)
    ∙ ap (field_offset (members_lay t c.args.number)) here)

pub overflow_add-end : goal.overflow_add-end
overflow_add-end c =
    let t = c.args.types.now in
    let m = c.members-item.result in
    let lt : c.members.id-index < length (members_at t.structs c.args.number) = subst (λ ms. c.members.id-index < length ms) c.members-id-items.ensures c.members-test.true in
    let is : m ≡ get_or (members_at t.structs c.args.number) c.members.id-index m = subst (λ ms. m ≡ get_or ms c.members.id-index m) c.members-id-items.ensures c.members-item.is in
    omega (arith, end_fits (shapes t) (members_at t.structs c.args.number) c.members.id-index c.members.end m c.layout_of-member.result lt is c.members.invariant.walking c.layout_of-member.ensures.layout c.next_multiple_of-offset.result c.next_multiple_of-offset.ensures.value _ c.requires.small)

pub members-preserved : goal.members-preserved
members-preserved c =
    let t = c.args.types.now in
    let m = c.members-item.result in
    let lt : c.members.id-index < length (members_at t.structs c.args.number) = subst (λ ms. c.members.id-index < length ms) c.members-id-items.ensures c.members-test.true in
    let is : m ≡ get_or (members_at t.structs c.args.number) c.members.id-index m = subst (λ ms. m ≡ get_or ms c.members.id-index m) c.members-id-items.ensures c.members-item.is in
    record {
      walking = stepped (shapes t) (members_at t.structs c.args.number) c.members.id-index c.members.end m c.layout_of-member.result lt is c.members.invariant.walking c.layout_of-member.ensures.layout c.next_multiple_of-offset.result c.next_multiple_of-offset.ensures.value;
      left = omega (arith, c.members.invariant.left, c.if-left-eq0.false);
    }

pub returns : goal.returns
returns c =
    let t = c.args.types.now in
    let past : length (members_at t.structs c.args.number) ≤ c.members.id-index = subst (λ ms. length ms ≤ c.members.id-index) c.members-id-items.ensures c.members-test.false in
    field_past (members_lay t c.args.number) c.args.k (omega (arith, past, c.members.invariant.left, count_members (shapes t) (members_at t.structs c.args.number) 0))
