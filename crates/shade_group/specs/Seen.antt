-- The machine that a group stands for.
use Rattle.shade_group.specs.declared.group.Group.{Group}
use Rattle.shade_group.specs.Group.{Machine}
use Rattle.shade_group.specs.Inside.{inside}

abbrev pub machine_of : Group → Machine
machine_of g = inside g.workgroup
