use Rattle.std.proofs.Common.{◌≡◌, ◌++◌, drop}
use Rattle.std.specs.List.{flat_map}
use Rattle.shade_events.specs.Events.{decl_events}
use Rattle.shade_events.proofs.declarations.add_decls.Given as goal

abbrev pub invariant-loop-decl : goal.invariant-loop-decl
invariant-loop-decl l = l.out ++ flat_map (decl_events l.names) (drop l.decl-index l.decls) ≡ l.initial.out ++ flat_map (decl_events l.names) l.decls
