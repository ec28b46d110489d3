use Rattle.std.specs.Prelude.{slice_index}
use Rattle.shade_group.proofs.SizeLaws.{sizes_of, entry_is, global_small}
use Rattle.shade_group.proofs.begin.entry_lanes.Goals as goal

pub lanes_of-requires-clause-flat : goal.lanes_of-requires-clause-flat
lanes_of-requires-clause-flat c = (sizes_of (slice_index c.in-Some-entry.size 0) (slice_index c.in-Some-entry.size 1) (slice_index c.in-Some-entry.size 2) (entry_is c.args.module.now c.args.inputs.now.entry c.in-Some.function.now c.in-Some-entry.size c.in-Some.ensures.value c.in-Some-entry.is c.requires.runs).0 (entry_is c.args.module.now c.args.inputs.now.entry c.in-Some.function.now c.in-Some-entry.size c.in-Some.ensures.value c.in-Some-entry.is c.requires.runs).1).flat

pub lanes_of-requires-clause-first : goal.lanes_of-requires-clause-first
lanes_of-requires-clause-first c = (sizes_of (slice_index c.in-Some-entry.size 0) (slice_index c.in-Some-entry.size 1) (slice_index c.in-Some-entry.size 2) (entry_is c.args.module.now c.args.inputs.now.entry c.in-Some.function.now c.in-Some-entry.size c.in-Some.ensures.value c.in-Some-entry.is c.requires.runs).0 (entry_is c.args.module.now c.args.inputs.now.entry c.in-Some.function.now c.in-Some-entry.size c.in-Some.ensures.value c.in-Some-entry.is c.requires.runs).1).first

pub lanes_of-requires-clause-second : goal.lanes_of-requires-clause-second
lanes_of-requires-clause-second c = (sizes_of (slice_index c.in-Some-entry.size 0) (slice_index c.in-Some-entry.size 1) (slice_index c.in-Some-entry.size 2) (entry_is c.args.module.now c.args.inputs.now.entry c.in-Some.function.now c.in-Some-entry.size c.in-Some.ensures.value c.in-Some-entry.is c.requires.runs).0 (entry_is c.args.module.now c.args.inputs.now.entry c.in-Some.function.now c.in-Some-entry.size c.in-Some.ensures.value c.in-Some-entry.is c.requires.runs).1).second

pub lanes_of-requires-clause-both : goal.lanes_of-requires-clause-both
lanes_of-requires-clause-both c = (sizes_of (slice_index c.in-Some-entry.size 0) (slice_index c.in-Some-entry.size 1) (slice_index c.in-Some-entry.size 2) (entry_is c.args.module.now c.args.inputs.now.entry c.in-Some.function.now c.in-Some-entry.size c.in-Some.ensures.value c.in-Some-entry.is c.requires.runs).0 (entry_is c.args.module.now c.args.inputs.now.entry c.in-Some.function.now c.in-Some-entry.size c.in-Some.ensures.value c.in-Some-entry.is c.requires.runs).1).both

pub lanes_of-requires-clause-most : goal.lanes_of-requires-clause-most
lanes_of-requires-clause-most c = (entry_is c.args.module.now c.args.inputs.now.entry c.in-Some.function.now c.in-Some-entry.size c.in-Some.ensures.value c.in-Some-entry.is c.requires.runs).1

pub lanes_of-requires-clause-parts : goal.lanes_of-requires-clause-parts
lanes_of-requires-clause-parts c = global_small c.args.module.now c.args.inputs.now c.in-Some-entry.size c.requires.allowed (sizes_of (slice_index c.in-Some-entry.size 0) (slice_index c.in-Some-entry.size 1) (slice_index c.in-Some-entry.size 2) (entry_is c.args.module.now c.args.inputs.now.entry c.in-Some.function.now c.in-Some-entry.size c.in-Some.ensures.value c.in-Some-entry.is c.requires.runs).0 (entry_is c.args.module.now c.args.inputs.now.entry c.in-Some.function.now c.in-Some-entry.size c.in-Some.ensures.value c.in-Some-entry.is c.requires.runs).1) (entry_is c.args.module.now c.args.inputs.now.entry c.in-Some.function.now c.in-Some-entry.size c.in-Some.ensures.value c.in-Some-entry.is c.requires.runs).1

pub lanes_of-requires-clause-rules : goal.lanes_of-requires-clause-rules
lanes_of-requires-clause-rules c = (entry_is c.args.module.now c.args.inputs.now.entry c.in-Some.function.now c.in-Some-entry.size c.in-Some.ensures.value c.in-Some-entry.is c.requires.runs).2
