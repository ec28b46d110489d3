use Rattle.shade_known.proofs.Becoming.{rank}
use Rattle.shade_known.proofs.convert.+becomes.Given as goal

abbrev pub decreases-becomes : goal.decreases-becomes
decreases-becomes l = rank l.from
