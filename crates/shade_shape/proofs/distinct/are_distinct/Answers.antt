use Rattle.std.proofs.Common.{refl, arith, map}
use Rattle.std.proofs.lemmas.List.{length-map}
use Rattle.shade_shape.proofs.DistinctLaws.{lent_new, lent_old, lent_seen, differ_all, texts}
use Rattle.shade_shape.proofs.Tells.{refutes, confirms}
use Rattle.shade_shape.proofs.distinct.are_distinct.Goals as goal

pub returns-then-not-branch : goal.returns-then-not-branch
returns-then-not-branch c =
    refutes (lent_old c.args.names.now c.names.name-index _ _ c.names.seen _ c.names-test.true refl c.in_ok-insert.ensures.added c.if-not-branch.true c.names.invariant.seen)

pub names-preserved : goal.names-preserved
names-preserved c = record {
  differ = lent_new c.args.names.now c.names.name-index _ _ c.names.seen _ c.names-test.true refl c.in_ok-insert.ensures.added c.if-not-branch.false c.names.invariant.seen c.names.invariant.differ;
  seen = λ q. lent_seen c.args.names.now c.names.name-index _ _ c.names.seen c.insert.new.self q c.names-test.true refl (c.in_ok-insert.ensures.updates.0 q) (c.names.invariant.seen q);
}

pub returns : goal.returns
returns c = confirms (differ_all (texts c.args.names.now) c.names.name-index (omega (arith, c.names-test.false, length-map c.args.names.now (λ n. n.now))) c.names.invariant.differ)
