use Rattle.std.proofs.Common.{sym, ◌∙◌}
use Rattle.shade_tasks.proofs.Leading.{leads_on, leads_left, leads_fault, leads_large, taken_back, leads_end}
use Rattle.shade_tasks.proofs.taking.take.Goals as goal

pub loop-taken-init : goal.loop-taken-init
loop-taken-init c = record { takes = λ last r p. p; begins = λ last p. p }

pub loop-taken-preserved : goal.loop-taken-preserved
loop-taken-preserved c =
    leads_on c.args.uses.now c.args.names.now c.args.steps.now c.args.known.now c.loop-taken.taken c.loop-taken.known c.index-steps-taken.result c.loop-taken.invariant c.loop-taken-test.true c.index-steps-taken.is
    c.in_ok-found.found c.keep.new.known c.in_ok-found.ensures.answer c.in_ok-keep.ensures.small c.in_ok-keep.ensures.kept

pub returns-then-not-is_asked : goal.returns-then-not-is_asked
returns-then-not-is_asked c =
    leads_left c.args.uses.now c.args.names.now c.args.steps.now c.args.known.now c.loop-taken.taken c.loop-taken.known c.index-steps-taken.result c.loop-taken.invariant c.loop-taken-test.true c.index-steps-taken.is
    (sym c.is_asked.ensures ∙ c.if-not-is_asked.true)

pub returns-in_err-found : goal.returns-in_err-found
returns-in_err-found c =
    taken_back _ c.in_err-found.field-0.0 _ _ _ _ _ c.from_residual.ensures.1
    (leads_fault c.args.uses.now c.args.names.now c.args.steps.now c.args.known.now c.loop-taken.taken c.loop-taken.known c.index-steps-taken.result c.loop-taken.invariant c.loop-taken-test.true c.index-steps-taken.is
    c.in_err-found.field-0.0 c.in_err-found.ensures.answer)

pub returns-in_err-keep : goal.returns-in_err-keep
returns-in_err-keep c =
    taken_back _ c.in_err-keep.field-0.0 _ _ _ _ _ c.from_residual-in_err-keep.ensures.1
    (leads_large c.args.uses.now c.args.names.now c.args.steps.now c.args.known.now c.loop-taken.taken c.loop-taken.known c.index-steps-taken.result c.loop-taken.invariant c.loop-taken-test.true c.index-steps-taken.is
    c.keep.new.known c.in_ok-found.found c.in_err-keep.field-0.0 c.in_err-keep.ensures.same c.in_ok-found.ensures.answer (rw c.size_place-place.ensures at c.in_err-keep.ensures.refused))

pub returns : goal.returns
returns c =
    leads_end c.args.uses.now c.args.names.now c.args.steps.now c.args.known.now c.loop-taken.taken c.loop-taken.known c.loop-taken.invariant c.loop-taken-test.false
