-- What a call may answer where a rule gives one thing: that, or that there is no memory for it.
use Rattle.std.specs.Prelude.{Result, Ok, Err}
use Rattle.shade_known.specs.declared.fault.TypingFault.{TypingFault}
use Rattle.shade_known.specs.declared.fault.TypingFault.TheVariants as fault

abbrev pub Answers : {A : Type 0} → (Result A TypingFault → Type 0) → Result A TypingFault → Type 0
Answers Gives (Ok a) = Gives (Ok a)
Answers Gives (Err (fault.Rule place rule)) = Gives (Err (fault.Rule place rule))
Answers Gives (Err (fault.OutOfProfile place word)) = Gives (Err (fault.OutOfProfile place word))
Answers Gives (Err (fault.Constant f)) = Gives (Err (fault.Constant f))
Answers Gives (Err fault.NoMemory) = Unit {0}
