use Rattle.std.proofs.Common.{◌∙◌, sym, ap, map, is_some, arith, below_more}
use Rattle.std.proofs.lemmas.List.{length-map}
use Rattle.serde_json.specs.View.{view}
use Rattle.shade_job.specs.declared.numbers.NumberRange.TheVariants.{Word}
use Rattle.shade_job.specs.Json.{number_of}
use Rattle.shade_job.proofs.ListLaws.{stated_at, stated_length}
use Rattle.shade_job.proofs.BufferLaws.{words_all}
use Rattle.shade_job.proofs.buffers.first_no_word.Goals as goal

pub returns-in_default : goal.returns-in_default
returns-in_default c = record {
  within = omega (arith, stated_length view (number_of Word) c.args.items.now);
  here = stated_at view (number_of Word) c.args.items.now c.loop-index.index c.index-items-index.result c.loop-index-test.true c.index-items-index.is ∙ sym c.in_default.ensures;
  before = c.loop-index.invariant;
}

pub loop-index-preserved : goal.loop-index-preserved
loop-index-preserved c =
    below_more _ _ c.loop-index.invariant
    (ap is_some (stated_at view (number_of Word) c.args.items.now c.loop-index.index c.index-items-index.result c.loop-index-test.true c.index-items-index.is) ∙ ap is_some (sym c.in-Some.ensures))

pub returns : goal.returns
returns c = words_all (map view c.args.items.now) (λ k lt. c.loop-index.invariant k (omega (arith, length-map c.args.items.now view)))
