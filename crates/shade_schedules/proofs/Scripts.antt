-- The laws of lanes that are told by scripts.
use Rattle.shade_schedules.specs.System.{Laws}
use Rattle.shade_schedules.specs.Words.{Space}
use Rattle.std.specs.Prelude.{List}
use Rattle.shade_schedules.specs.Scripts.{Script, answered, scripts, ScriptsCommute, ScriptsAreIndependent, ScriptsLeaveOne, ScriptsTellRaces}
use Rattle.shade_schedules.proofs.Words.{words_laws}
use Rattle.shade_schedules.proofs.Law.{commutes}
use Rattle.shade_schedules.proofs.Orders.{independent}
use Rattle.shade_schedules.proofs.Wholes.{leaves_one}
use Rattle.shade_schedules.proofs.Records.{lists_tell}

scripts_laws : (spaces : List Space) → Laws (scripts spaces)
scripts_laws spaces = words_laws Script (λ s. s.asks s.answers) answered (λ s. s.ends s.answers) (λ site. answered) spaces

pub scripts_commute : ScriptsCommute
scripts_commute spaces = commutes (scripts spaces) (scripts_laws spaces)

pub scripts_independent : ScriptsAreIndependent
scripts_independent spaces = independent (scripts spaces) (scripts_laws spaces)

pub scripts_leave_one : ScriptsLeaveOne
scripts_leave_one spaces = leaves_one Script (λ s. s.asks s.answers) answered (λ s. s.ends s.answers) (λ site. answered) spaces

pub scripts_tell_races : ScriptsTellRaces
scripts_tell_races spaces = lists_tell (scripts spaces)
