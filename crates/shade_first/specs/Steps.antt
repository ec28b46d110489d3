-- The tokens that the form fixes.
use Rattle.shade_first.specs.declared.token.Kind.{Kind}
use Rattle.shade_first.specs.declared.token.Kind.TheVariants as kind
use Rattle.shade_first.specs.declared.step.Step.{Step}
use Rattle.shade_first.specs.declared.step.Step.TheVariants as step

abbrev pub kind_of : Step → Kind
kind_of (step.Mark m) = kind.Mark m
kind_of (step.Word w) = kind.Word w.now
