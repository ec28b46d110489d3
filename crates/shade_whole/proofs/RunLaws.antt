-- What the shape of a module gives: numbers of statements, and entries that can be started.
use Rattle.std.proofs.Common.{◌≡◌, refl, sym, ap, subst, ◌∙◌, true, false, ℕ, List, [], ◌∷◌, Option, None, Some, IsSome, true≢false}
use Rattle.std.proofs.lemmas.Option.{slice_get_within}
use Rattle.shade_core.specs.declared.statement.Act.{Act, Act-F, out-Act}
use Rattle.shade_core.specs.declared.statement.Act.TheOpen as act
use Rattle.shade_core.specs.declared.statement.CoreStatement.{CoreStatement}
use Rattle.shade_core.specs.declared.statement.SwitchPart.{SwitchPart}
use Rattle.shade_core.specs.declared.statement.Operand.{Operand}
use Rattle.shade_core.specs.Code.{Return, Code, done, plain, jump, call, branch, switch, loop, no_part, part, act_before, statement_code, code_of}
use Rattle.shade_core.specs.HasShape.{is_return, ends_with_return}
use Rattle.shade_core.specs.Rules.{have_rules}
use Rattle.shade_core.specs.Standing.{act_head}
use Rattle.shade_core.proofs.CodeLaws.{layer, act_is, statement_is}
use Rattle.shade_core.proofs.RuleLaws.{body_rules, rule_parts}
use Rattle.shade_lane.specs.Lane.{ends_in_return}
use Rattle.shade_group.specs.Group.{entry_runs, sized_runs}
use Rattle.shade_shape.specs.Laws.{EntriesStart}
use Rattle.shade_whole.specs.Laws.{EntriesRun, Starts, StatementsAreNumbered}

pub numbered : StatementsAreNumbered
numbered shader shape k f at = (shape.bodies k f at).numbered

-- ---- the last statement of a list that has rules

-- a statement before others
before_is : (s : CoreStatement) (rest : Code) → statement_code s rest ≡ act_before (layer (out-Act s.act)) s.number rest
before_is s rest = ap (λ f. f rest) (statement_is s) ∙ ap (λ f. f s.number rest) (act_is s.act)

last_layer : (y : Act-F Act CoreStatement SwitchPart) (n : ℕ) → is_return (act_head y) ≡ true → ends_in_return (act_before (layer y) n done) ≡ true
last_layer (act.Return value) n e = refl
last_layer _ n e = absurd (true≢false (sym e))

behind_return : (n : ℕ) (value : Option Operand) (rest : Code) → ends_in_return rest ≡ true → ends_in_return (jump n (Return value) rest) ≡ true
behind_return n value done e = refl
behind_return n value (plain m a rest) e = e
behind_return n value (jump m a rest) e = e
behind_return n value (branch m cond one two rest) e = e
behind_return n value (call m g args rest) e = e
behind_return n value (switch m selector parts rest) e = e
behind_return n value (loop m body continuing leave rest) e = e
behind_return n value no_part e = e
behind_return n value (part m which keys fallback body others) e = e

behind_layer : (y : Act-F Act CoreStatement SwitchPart) (n : ℕ) (rest : Code) → have_rules (act_before (layer y) n rest) ≡ true → ends_in_return rest ≡ true → ends_in_return (act_before (layer y) n rest) ≡ true
behind_layer (act.Set op args) n rest r e = e
behind_layer (act.Barrier in_space severity) n rest r e = e
behind_layer (act.If cond one two) n rest r e = e
behind_layer (act.Return value) n rest r e = behind_return n value rest e
behind_layer _ n rest r e = absurd (true≢false (sym r))

rest_layer : (y : Act-F Act CoreStatement SwitchPart) (n : ℕ) (rest : Code) → have_rules (act_before (layer y) n rest) ≡ true → have_rules rest ≡ true
rest_layer (act.Set op args) n rest r = (rule_parts (act_before (layer (act.Set op args)) n rest) r).1
rest_layer (act.Barrier in_space severity) n rest r = (rule_parts (act_before (layer (act.Barrier in_space severity)) n rest) r).1
rest_layer (act.If cond one two) n rest r = (rule_parts (act_before (layer (act.If cond one two)) n rest) r).2
rest_layer (act.Return value) n rest r = (rule_parts (act_before (layer (act.Return value)) n rest) r).1
rest_layer _ n rest r = absurd (true≢false (sym r))

-- a list that has rules and ends with a Return does so for the machine
ends_so : (list : List CoreStatement) → have_rules (code_of list) ≡ true → ends_with_return list ≡ true → ends_in_return (code_of list) ≡ true
ends_so [] r e = absurd (true≢false (sym e))
ends_so (s ∷ []) r e = ap ends_in_return (before_is s done) ∙ last_layer (out-Act s.act) s.number e
ends_so (s ∷ (t ∷ rest)) r e =
    let layered : have_rules (act_before (layer (out-Act s.act)) s.number (code_of (t ∷ rest))) ≡ true = ap have_rules (sym (before_is s (code_of (t ∷ rest)))) ∙ r in
    let behind : have_rules (code_of (t ∷ rest)) ≡ true = rest_layer (out-Act s.act) s.number (code_of (t ∷ rest)) layered in
    ap ends_in_return (before_is s (code_of (t ∷ rest))) ∙ behind_layer (out-Act s.act) s.number (code_of (t ∷ rest)) layered (ends_so (t ∷ rest) behind e)

-- ---- entries

-- a function that is an entry of this size runs where it can be started
pub runs : EntriesStart → EntriesRun
runs start shader shape k f at is_entry rules = by_size f.entry refl is_entry
  where
    by_size : (entry : Option (List ℕ)) → f.entry ≡ entry → IsSome entry → Starts shader k
    by_size None is some = absurd (true≢false (sym some))
    by_size (Some size) is some =
        let started = start shader shape k f size at is in
        let sized : sized_runs f f.entry = subst (sized_runs f) (sym is) (started.some, started.most, rules, ends_so f.body (body_rules f rules) started.ends) in
        record {
          known = slice_get_within shader.functions k f at;
          runs = record { body = subst entry_runs (sym at) sized };
        }
