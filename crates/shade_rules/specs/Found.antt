-- On the way to the proof: what is found in a call, a list of statements and a function, by what is known of all functions.
use Rattle.std.specs.Prelude.{◌≡◌, List, take, All, Option, None, Some, slice_get, IfSome, IfNone}
use Rattle.shade_core.specs.declared.module.CoreFunction.{CoreFunction}
use Rattle.shade_core.specs.Standing.{Standing, Head, calls}
use Rattle.shade_rules.specs.declared.aliasing.AliasPair.{AliasPair}
use Rattle.shade_rules.specs.declared.calls.CallAlias.{CallAlias}
use Rattle.shade_rules.specs.declared.aliasing.AliasFault.{AliasFault}
use Rattle.shade_rules.specs.Aliases.{AreFree, IsFirstAliasIn}
use Rattle.shade_rules.specs.Gathered.{Rows, AreUsages}
use Rattle.shade_rules.specs.Scans.{KnownAt, IsFirstAmong}

-- the first alias of a statement that is a call, if there is one, and none of any other
abbrev pub IsAliasIn : Rows → Head → Option AliasPair → Type 0
IsAliasIn rows (calls g args) found = IsFirstAmong (KnownAt rows g) args found
IsAliasIn rows _ found = found ≡ None

abbrev pub HasNoneAt : Rows → Standing → Type 0
HasNoneAt rows s = IsAliasIn rows s.head None

-- the first alias of a list
pub record IsCallAt (rows : Rows) (list : List Standing) (found : CallAlias) : Type 0 where
  pub statement : Standing
  pub at : slice_get list found.call ≡ Some statement
  pub before : All (HasNoneAt rows) (take found.call list)
  pub alias : IsAliasIn rows statement.head (Some found.pair)

pub record IsFirstCall (rows : Rows) (list : List Standing) (found : Option CallAlias) : Type 0 where
  pub some : IfSome found (IsCallAt rows list)
  pub none : IfNone found (All (HasNoneAt rows) list)

-- the first alias of a function, for each module of which this is known
pub record IsFoundIn (rows : Rows) (function : CoreFunction) (found : Option AliasFault) : Type 0 where
  pub some : IfSome found (λ fault. (functions : List CoreFunction) → AreUsages functions rows → IsFirstAliasIn functions function fault)
  pub none : IfNone found ((functions : List CoreFunction) → AreUsages functions rows → AreFree functions function)
