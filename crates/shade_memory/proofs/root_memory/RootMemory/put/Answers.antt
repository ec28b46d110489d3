use Rattle.std.proofs.Common.{◌≡◌, ◌∙◌, ap, subst, length, List, ℕ}
use Rattle.std.specs.Prelude.{slice_index}
use Rattle.std.proofs.lemmas.List.{with_items_is}
use Rattle.shade_values.specs.Shape.{shape_of}
use Rattle.shade_words.specs.Lays.{decode}
use Rattle.shade_words.specs.Types.{lay}
use Rattle.shade_words.specs.Written.{Put}
use Rattle.shade_words.proofs.TypeLaws.{lay_lies}
use Rattle.shade_memory.proofs.PutLaws.{put_changes}
use Rattle.shade_memory.proofs.root_memory.RootMemory.put.Goals as goal

pub returns : goal.returns
returns c =
    let value = decode (lay c.args.types.now c.args.ty) (slice_index c.args.from.now) 0 in
    let same : c.as_mut_slice.result.now ≡ c.args.self.now = c.as_mut_slice.ensures.value ∙ c.self.view_is in
    let put : Put (lay c.args.types.now c.args.ty) value c.args.self.now c.put_value.new.words c.args.first =
    subst (λ (old : List ℕ). Put (lay c.args.types.now c.args.ty) value old c.put_value.new.words c.args.first) same c.put_value.ensures.put in
    with_items_is c.self.inside.words c.put_value.new.words (c.put_value.ensures.length ∙ c.as_mut_slice.ensures.len)
    ∙ put_changes (shape_of c.args.types.now c.args.ty) value c.args.self.now c.put_value.new.words c.args.first
    (lay_lies c.args.types.now c.table_is_sound.ensures c.args.ty).lies c.requires.concrete (c.put_value.ensures.fit c.requires.fit) c.put_value.ensures.small put
    (c.put_value.ensures.length ∙ ap length same)
