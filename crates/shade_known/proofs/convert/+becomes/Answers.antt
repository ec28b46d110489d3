use Rattle.shade_known.proofs.Becoming.{same_types, scalars_become, vectors_become, arrays_become, others_become, unlike}
use Rattle.shade_known.proofs.convert.+becomes.Goals as goal

pub returns-then-are_alike : goal.returns-then-are_alike
returns-then-are_alike t c = same_types c.args.table.now c.args.from c.args.to (c.are_alike.ensures.0 c.if-are_alike.true)

pub returns-in-Plain-Plain : goal.returns-in-Plain-Plain
returns-in-Plain-Plain t c =
    scalars_become c.args.table.now c.args.from c.args.to c.in-Plain-Plain.from c.in-Plain-Plain.to c.scalar_conversion.result c.in-Plain-Plain.is-0 c.in-Plain-Plain.is-1 (unlike c.are_alike.ensures c.if-are_alike.false) c.scalar_conversion.ensures

pub returns-else-m-n : goal.returns-else-m-n
returns-else-m-n t c =
    vectors_become c.args.table.now c.args.from c.args.to c.in-Vector-Vector.m c.in-Vector-Vector.n c.in-Vector-Vector.from c.in-Vector-Vector.to c.scalar_conversion-in-Vector-Vector.result
    c.in-Vector-Vector.is-0 c.in-Vector-Vector.is-1 c.if-m-n.false (unlike c.are_alike.ensures c.if-are_alike.false) c.scalar_conversion-in-Vector-Vector.ensures

pub returns-in-Some-type_by_id : goal.returns-in-Some-type_by_id
returns-in-Some-type_by_id t c =
    arrays_become c.args.table.now c.args.from c.args.to c.in-Array-Array.from c.in-Array-Array.to c.in-Array-Array.m c.in-Array-Array.n c.in-Some.from c.in-Some-type_by_id.to c.becomes.result c.in_arrays.result
    c.in-Array-Array.is-0 c.in-Array-Array.is-1 c.if-m-n-2.false (unlike c.are_alike.ensures c.if-are_alike.false) c.in-Some.ensures.ty c.in-Some-type_by_id.ensures.ty c.becomes.ensures c.in_arrays.ensures

pub returns-in_default-4 : goal.returns-in_default-4
returns-in_default-4 t c =
    others_become c.args.table.now c.args.from c.args.to c.in_default.not-Plain-0 c.in_default.not-Vector-0 c.in_default.not-Array-0 (unlike c.are_alike.ensures c.if-are_alike.false)
