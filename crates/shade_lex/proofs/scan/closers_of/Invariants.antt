use Rattle.shade_lex.proofs.ScanLaws.{IsScan}
use Rattle.shade_lex.proofs.scan.closers_of.Given as goal

abbrev pub invariant-loop-at : goal.invariant-loop-at
invariant-loop-at l = IsScan l.roles l.at l.scan
