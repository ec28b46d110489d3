use Rattle.std.proofs.Common.{◌≡◌, ◌++◌, codes, drop}
use Rattle.std.specs.Fmt.{decimal}
use Rattle.std.specs.List.{flat_map}
use Rattle.shade_report.proofs.instance.add_turns.Given as goal

abbrev pub invariant-loop-turn : goal.invariant-loop-turn
invariant-loop-turn l =
    l.out.items ++ flat_map (λ turn. codes "," ++ decimal turn) (drop l.turn-index l.others) ≡ l.initial.out.items ++ flat_map (λ turn. codes "," ++ decimal turn) l.others
