-- There is one first alias of a module at most.
use Rattle.std.proofs.Common.{◌≡◌, sym, ap, subst, ◌∙◌, ℕ, ◌<◌, ◌⊎◌, inl, inr, List, length, arith}
use Rattle.std.proofs.lemmas.Bool.{cases_lt}
use Rattle.std.proofs.lemmas.List.Elements.{All-get_or}
use Rattle.std.proofs.lemmas.Option.{slice_get_within, get_or_from_slice_get}
use Rattle.shade_core.specs.declared.statement.Argument.{Argument}
use Rattle.shade_core.specs.declared.module.CoreFunction.{CoreFunction}
use Rattle.shade_core.specs.Code.{code_of}
use Rattle.shade_core.specs.Places.{list_places}
use Rattle.shade_core.specs.Standing.{Standing, calls, statements}
use Rattle.shade_rules.specs.declared.aliasing.AliasOther.{AliasOther}
use Rattle.shade_rules.specs.declared.aliasing.AliasOther.TheVariants as other
use Rattle.shade_rules.specs.declared.aliasing.AliasFault.{AliasFault}
use Rattle.shade_rules.specs.declared.aliasing.AliasFault.TheVariants.{Alias}
use Rattle.shade_rules.specs.declared.usage.Seen.{Seen}
use Rattle.shade_rules.specs.Aliases.{Conflict, OtherBefore, IsFirstOf, HasNoAlias, AreFree, IsFirstAliasIn}
use Rattle.shade_rules.specs.Laws.{OneAlias}
use Rattle.shade_rules.proofs.FaultLaws.{one_place, same_at}

-- one of two comes first, or they are one
other_cases : (o p : AliasOther) → OtherBefore o p ⊎ ((o ≡ p) ⊎ OtherBefore p o)
other_cases (other.Argument j) (other.Argument k) = elim (cases_lt j k) [
  | inl less ↦ inl less
  | inr le ↦ elim (cases_lt k j) [ inl more ↦ inr (inr more) | inr ge ↦ let e : j ≡ k = omega (arith, le, ge) in inr (inl (ap other.Argument e)) ]
]
other_cases (other.Argument j) (other.Variable r) = inl tt
other_cases (other.Variable r) (other.Argument j) = inr (inr tt)
other_cases (other.Variable r) (other.Variable s) = elim (cases_lt r s) [
  | inl less ↦ inl less
  | inr le ↦ elim (cases_lt s r) [ inl more ↦ inr (inr more) | inr ge ↦ let e : r ≡ s = omega (arith, le, ge) in inr (inl (ap other.Variable e)) ]
]

module _ (Conflicts : Seen → Seen → Type 0) (args : List Argument) where
  same_first : (i k : ℕ) (o p : AliasOther) → IsFirstOf Conflicts args i o → IsFirstOf Conflicts args k p → i ≡ k
  same_first i k o p a b = elim (cases_lt i k) [
    | inl less ↦ absurd (b.lesser i o less a.clash)
    | inr le ↦ elim (cases_lt k i) [ inl more ↦ absurd (a.lesser k p more b.clash) | inr ge ↦ omega (arith, le, ge) ]
  ]

  same_second : (i : ℕ) (o p : AliasOther) → IsFirstOf Conflicts args i o → IsFirstOf Conflicts args i p → o ≡ p
  same_second i o p a b = elim (other_cases o p) [
    | inl before ↦ absurd (b.before o before a.clash)
    | inr more ↦ elim more [ inl e ↦ e | inr after ↦ absurd (a.before p after b.clash) ]
  ]

module _ (functions : List CoreFunction) where
  -- a call with an alias is not free of them
  refuses : (f : CoreFunction) (fault : AliasFault) (a : IsFirstAliasIn functions f fault) → HasNoAlias functions a.statement → ⊥
  refuses f fault a h = h a.callee a.args a.is_call a.first a.second a.clash.clash

  same_callee : (f g : ℕ) (xs ys : List Argument) → calls f xs ≡ calls g ys → f ≡ g
  same_callee f g xs ys e = cc

  same_args : (f g : ℕ) (xs ys : List Argument) → calls f xs ≡ calls g ys → xs ≡ ys
  same_args f g xs ys e = cc

  one_in : (f : CoreFunction) (fault another : AliasFault) → IsFirstAliasIn functions f fault → IsFirstAliasIn functions f another → fault ≡ another
  one_in f fault another a b =
      let number : a.number ≡ b.number = one_place (HasNoAlias functions) (statements (code_of f.body)) a.number b.number a.statement b.statement a.at b.at a.before b.before (refuses f fault a) (refuses f another b) in
      let statement : a.statement ≡ b.statement = same_at (statements (code_of f.body)) a.number b.number a.statement b.statement a.at b.at number in
      let call : calls a.callee a.args ≡ calls b.callee b.args = sym a.is_call ∙ (ap (λ (s : Standing). s.head) statement ∙ b.is_call) in
      let callee : a.callee ≡ b.callee = same_callee a.callee b.callee a.args b.args call in
      let args : a.args ≡ b.args = same_args a.callee b.callee a.args b.args call in
      let moved : IsFirstOf (Conflict functions b.callee) b.args a.first a.second =
      subst (λ (xs : List Argument). IsFirstOf (Conflict functions b.callee) xs a.first a.second) args (subst (λ (g : ℕ). IsFirstOf (Conflict functions g) a.args a.first a.second) callee a.clash) in
      let first : a.first ≡ b.first = same_first (Conflict functions b.callee) b.args a.first b.first a.second b.second moved b.clash in
      let second : a.second ≡ b.second =
      same_second (Conflict functions b.callee) b.args b.first a.second b.second (subst (λ (i : ℕ). IsFirstOf (Conflict functions b.callee) b.args i a.second) first moved) b.clash in
      let place : a.place ≡ b.place = same_at (list_places f.body) a.number b.number a.place b.place a.stands b.stands number in
      let same : Alias a.place a.first a.second ≡ Alias b.place b.first b.second = λ i. Alias (place i) (first i) (second i) in
      a.is ∙ (same ∙ sym b.is)

  -- a function with an alias is not free of them
  not_free : (f : CoreFunction) (fault : AliasFault) → IsFirstAliasIn functions f fault → AreFree functions f → ⊥
  not_free f fault a h =
      let list = statements (code_of f.body) in
      let within : a.number < length list = slice_get_within list a.number a.statement a.at in
      refuses f fault a (subst (HasNoAlias functions) (get_or_from_slice_get list a.number a.statement a.statement a.at) (All-get_or (HasNoAlias functions) list a.number a.statement within h))

pub one_alias : OneAlias
one_alias = record {
  one = λ functions fault another a b.
      (let number : a.number ≡ b.number =
      one_place (AreFree functions) functions a.number b.number a.function b.function a.at b.at a.before b.before (not_free functions a.function fault a.first) (not_free functions b.function another b.first) in
      let function : a.function ≡ b.function = same_at functions a.number b.number a.function b.function a.at b.at number in
      one_in functions b.function fault another (subst (λ (f : CoreFunction). IsFirstAliasIn functions f fault) function a.first) b.first);
  none = λ functions fault free a.
      (let within : a.number < length functions = slice_get_within functions a.number a.function a.at in
      not_free functions a.function fault a.first
      (subst (AreFree functions) (get_or_from_slice_get functions a.number a.function a.function a.at) (All-get_or (AreFree functions) functions a.number a.function within free)));
}
