use Rattle.std.proofs.Common.{length, subst}
use Rattle.shade_words.specs.Spans.{CanApply}
use Rattle.shade_words.proofs.TakeLaws.{make_takes}
use Rattle.shade_words.proofs.apply.apply_words.Goals as goal

pub make-requires : goal.make-requires
make-requires c =
    make_takes c.args.types.now c.table_is_sound.ensures c.in-Make.field-0 c.args.args.now (length c.args.words.now) c.args.place
    (subst (λ op. CanApply c.args.types.now op c.args.args.now (length c.args.words.now) c.args.place) c.in-Make.is c.requires)
