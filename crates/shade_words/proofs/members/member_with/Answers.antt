use Rattle.std.proofs.Common.{◌≡◌, ◌+◌, ◌-◌, ◌/◌, ◌≤◌, ◌<◌, inl, inr, sym, ap, subst, ◌∙◌, arith, get_or, length, below_more}
use Rattle.shade_values.specs.Shape.{shapes}
use Rattle.shade_values.specs.Table.{members_at}
use Rattle.shade_words.specs.Lays.{size, Covers}
use Rattle.shade_words.specs.Types.{members_lay, lay}
use Rattle.shade_words.specs.Ways.{field_offset, field_lay, field_count}
use Rattle.shade_words.proofs.MemberLaws.{walking_begins, next_fits, stepped, begins_at, end_fits, member_lies, none_covers, member_covers, IsOutside, count_members}
use Rattle.shade_words.proofs.TypeLaws.{lay_lies}
use Rattle.shade_words.proofs.PlaceLaws.{members_ascend_all}
use Rattle.shade_words.proofs.members.member_with.Goals as goal
use Rattle.shade_words.proofs.members.member_with.Goals.{else-first-word-via-then-first-word+else-word-first, else-first-word-via-else-first-word}

pub members-init : goal.members-init
members-init c = record { walking = walking_begins _ _; outside = λ k lt. absurd (omega (arith, lt)) }

pub next_multiple_of-offset-requires-clause-fits :
    goal.next_multiple_of-offset-requires-clause-fits
next_multiple_of-offset-requires-clause-fits c =
    let t = c.args.types.now in
    let m = c.members-item.result in
    let lt : c.members.id-index < length (members_at t.structs c.args.number) = subst (λ ms. c.members.id-index < length ms) c.members-id-items.ensures c.members-test.true in
    let is : m ≡ get_or (members_at t.structs c.args.number) c.members.id-index m = subst (λ ms. m ≡ get_or ms c.members.id-index m) c.members-id-items.ensures c.members-item.is in
    omega (arith, next_fits (shapes t) (members_at t.structs c.args.number) c.members.id-index c.members.end m c.layout_of-member.result lt is c.members.invariant.walking c.layout_of-member.ensures.layout _ c.requires.small)

pub returns-then-word-first-clause-some : goal.returns-then-word-first-clause-some
returns-then-word-first-clause-some c =
    let t = c.args.types.now in
    let m = c.members-item.result in
    let i = c.members.id-index in
    let ms = members_at t.structs c.args.number in
    let lt : i < length ms = subst (λ xs. i < length xs) c.members-id-items.ensures c.members-test.true in
    let is : m ≡ get_or ms i m = subst (λ xs. m ≡ get_or xs i m) c.members-id-items.ensures c.members-item.is in
    let begins : field_offset (members_lay t c.args.number) i ≡ c.next_multiple_of-offset.result / 4 =
    begins_at (shapes t) ms i c.members.end m c.layout_of-member.result lt is c.members.invariant.walking c.layout_of-member.ensures.layout c.next_multiple_of-offset.result c.next_multiple_of-offset.ensures.value in
    let lies : field_lay (members_lay t c.args.number) i ≡ lay t m.1 = member_lies (shapes t) ms i c.members.end m lt is c.members.invariant.walking in
    let words : size (lay t m.1) ≡ c.layout_of-member.result.size / 4 =
    (lay_lies t c.layout_of-member.ensures.sound m.1).words ∙ ap (λ x. x.size / 4) (sym c.layout_of-member.ensures.layout) in
    let low : i < field_count (members_lay t c.args.number) = omega (arith, lt, count_members (shapes t) ms 0) in
    let at : c.args.word ≡ field_offset (members_lay t c.args.number) i + (c.args.word - c.words_of-first.result) =
    omega (arith, begins, c.words_of-first.ensures, c.if-first-word.true) in
    let short : c.args.word - c.words_of-first.result < size (field_lay (members_lay t c.args.number) i) =
    subst (λ l. c.args.word - c.words_of-first.result < size l) (sym lies) (omega (arith, words, c.words_of.ensures, c.if-word-first.true)) in
    let ascends = members_ascend_all t c.layout_of-member.ensures.sound c.args.number c.requires.known in
    let both = member_covers ascends.0 (members_lay t c.args.number) ascends.1 c.args.word i (c.args.word - c.words_of-first.result) low at short in (
      λ x. both.0 (subst (λ l. Covers l (c.args.word - c.words_of-first.result)) (sym lies) x),
      λ x. subst (λ l. Covers l (c.args.word - c.words_of-first.result)) lies (both.1 x),
    )

pub overflow_add-end : goal.overflow_add-end
overflow_add-end c =
    let t = c.args.types.now in
    let m = c.members-item.result in
    let lt : c.members.id-index < length (members_at t.structs c.args.number) = subst (λ ms. c.members.id-index < length ms) c.members-id-items.ensures c.members-test.true in
    let is : m ≡ get_or (members_at t.structs c.args.number) c.members.id-index m = subst (λ ms. m ≡ get_or ms c.members.id-index m) c.members-id-items.ensures c.members-item.is in
    omega (arith, end_fits (shapes t) (members_at t.structs c.args.number) c.members.id-index c.members.end m c.layout_of-member.result lt is c.members.invariant.walking c.layout_of-member.ensures.layout c.next_multiple_of-offset.result c.next_multiple_of-offset.ensures.value _ c.requires.small)

pub members-preserved : goal.members-preserved
members-preserved c =
    let t = c.args.types.now in
    let m = c.members-item.result in
    let i = c.members.id-index in
    let ms = members_at t.structs c.args.number in
    let lt : i < length ms = subst (λ xs. i < length xs) c.members-id-items.ensures c.members-test.true in
    let is : m ≡ get_or ms i m = subst (λ xs. m ≡ get_or xs i m) c.members-id-items.ensures c.members-item.is in
    let begins : field_offset (members_lay t c.args.number) i ≡ c.next_multiple_of-offset.result / 4 =
    begins_at (shapes t) ms i c.members.end m c.layout_of-member.result lt is c.members.invariant.walking c.layout_of-member.ensures.layout c.next_multiple_of-offset.result c.next_multiple_of-offset.ensures.value in
    let lies : field_lay (members_lay t c.args.number) i ≡ lay t m.1 = member_lies (shapes t) ms i c.members.end m lt is c.members.invariant.walking in
    let words : size (field_lay (members_lay t c.args.number) i) ≡ c.layout_of-member.result.size / 4 =
    ap size lies ∙ ((lay_lies t c.layout_of-member.ensures.sound m.1).words ∙ ap (λ x. x.size / 4) (sym c.layout_of-member.ensures.layout)) in
    let out : IsOutside (members_lay t c.args.number) c.args.word i = elim c.else-first-word.branch as (λ _. IsOutside (members_lay t c.args.number) c.args.word i) [
      | else-first-word-via-then-first-word+else-word-first w ↦ inr (omega (arith, begins, words, c.words_of-first.ensures, w.if-first-word.true, w.words_of.ensures, w.if-word-first.false))
      | else-first-word-via-else-first-word w ↦ inl (omega (arith, begins, c.words_of-first.ensures, w.if-first-word.false))
    ] in
    record {
      walking = stepped (shapes t) ms i c.members.end m c.layout_of-member.result lt is c.members.invariant.walking c.layout_of-member.ensures.layout c.next_multiple_of-offset.result c.next_multiple_of-offset.ensures.value;
      outside = below_more (λ k. IsOutside (members_lay t c.args.number) c.args.word k) i c.members.invariant.outside out;
    }

pub returns-clause-none : goal.returns-clause-none
returns-clause-none c =
    let t = c.args.types.now in
    let past : length (members_at t.structs c.args.number) ≤ c.members.id-index = subst (λ ms. length ms ≤ c.members.id-index) c.members-id-items.ensures c.members-test.false in
    let ascends = members_ascend_all t c.requires.sound c.args.number c.requires.known in
    none_covers ascends.0 (members_lay t c.args.number) ascends.1 c.args.word
    (λ k lt. c.members.invariant.outside k (omega (arith, lt, past, count_members (shapes t) (members_at t.structs c.args.number) 0)))
