-- What is told of an operator is told of the assignment that asks for it.
use Rattle.std.proofs.Common.{◌≡◌, sym, subst, refl, [], ◌∷◌, true, false, Option, Ok, Err}
use Rattle.std.specs.Prelude.{IsErrAnd}
use Rattle.shade_base.specs.declared.place.Place.{Place}
use Rattle.shade_ast.specs.declared.stmt.OpAssign.{OpAssign}
use Rattle.shade_values.specs.declared.types.ShadeType.{ShadeType}
use Rattle.shade_known.specs.declared.known.Found.{Found}
use Rattle.shade_known.specs.declared.known.Known.{Known}
use Rattle.shade_known.specs.declared.known.Operand.{Operand}
use Rattle.shade_known.specs.declared.operation.Application.{Application}
use Rattle.shade_known.specs.declared.fault.TypingFault.{TypingFault}
use Rattle.shade_known.specs.declared.fault.TypingFault.TheVariants as fault
use Rattle.shade_known.specs.Answers.{Answers}
use Rattle.shade_known.specs.Lookups.{type_of_node}
use Rattle.shade_known.specs.Operates.{Operates}
use Rattle.shade_known.proofs.Answering.{answers_by}
use Rattle.shade_typing.specs.Values.{Answer}
use Rattle.shade_typing.specs.Operators.{applied}
use Rattle.shade_tasks.specs.Compounds.{compound_builtin, AfterOperator, unless_fault, IsCompound}

module _ (k : Known) (operator : OpAssign) (at : Place) (target value : Operand) where
  abbrev Typed : Answer → Type 0
  Typed = Operates k (applied (compound_builtin operator) at true) (target ∷ value ∷ [])

  abbrev Asked : Answer → Type 0
  Asked = Operates k (applied (compound_builtin operator) at false) (target ∷ value ∷ [])

  abbrev After : Answer → Answer → Type 0
  After typed told = AfterOperator (type_of_node k target.node) value typed told

  abbrev Compound : Answer → Type 0
  Compound = IsCompound k operator at target value

  abbrev ok : Found → Answer
  ok u = Ok u

  -- what is wrong with types
  wrong : (typed : Answer) (f : TypingFault) → Answers Typed typed → After typed (Err f) → Answers Compound (Err f)
  wrong (Ok t) f h after = answers_by Compound (Err f) (Ok t, Err f, h, after, refl)
  wrong (Err (fault.Rule place broken)) f h after = answers_by Compound (Err f) (Err (fault.Rule place broken), Err f, h, after, refl)
  wrong (Err (fault.OutOfProfile place word)) f h after = answers_by Compound (Err f) (Err (fault.OutOfProfile place word), Err f, h, after, refl)
  wrong (Err (fault.Constant c)) f h after = answers_by Compound (Err f) (Err (fault.Constant c), Err f, h, after, refl)
  wrong (Err fault.NoMemory) f h after = subst (Answers Compound) (sym after) tt

  -- the types are right
  asked : (t u : Found) (given r : Answer) → Typed (Ok t) → After (Ok t) (Ok u) → Answers Asked given → r ≡ unless_fault given → Answers Compound r
  asked t u (Ok f) r h after p is = answers_by Compound r (Ok t, Ok u, h, after, (Ok f, p, is))
  asked t u (Err (fault.Rule place broken)) r h after p is = answers_by Compound r (Ok t, Ok u, h, after, (Err (fault.Rule place broken), p, is))
  asked t u (Err (fault.OutOfProfile place word)) r h after p is = answers_by Compound r (Ok t, Ok u, h, after, (Err (fault.OutOfProfile place word), p, is))
  asked t u (Err (fault.Constant c)) r h after p is = answers_by Compound r (Ok t, Ok u, h, after, (Err (fault.Constant c), p, is))
  asked t u (Err fault.NoMemory) r h after p is = subst (Answers Compound) (sym is) tt

  -- the rest of `compound` by what is told of types
  right : (typed : Answer) (u : Found) (given r : Answer) → Answers Typed typed → After typed (Ok u) → Answers Asked given → r ≡ unless_fault given → Answers Compound r
  right (Ok t) u given r h after p is = asked t u given r h after p is
  right (Err f) u given r h after p is = absurd (let e : ok u ≡ Err f = after in cc)

  answer_back : (r : Answer) (f : TypingFault) → IsErrAnd r (λ x. x ≡ f) → Answers Compound (Err f) → Answers Compound r
  answer_back (Ok u) f is h = absurd is
  answer_back (Err x) f is h = subst (λ (z : TypingFault). Answers Compound (Err z)) (sym is) h

  module _ (typing : Application) (ty : Option ShadeType) (typed : Answer) (is : typing ≡ applied (compound_builtin operator) at true)
      (typed_is : ty ≡ type_of_node k target.node) (h : Answers (Operates k typing (target ∷ value ∷ [])) typed) where
    typed_so : Answers Typed typed
    typed_so = subst (λ z. Answers (Operates k z (target ∷ value ∷ [])) typed) is h

    after_so : (told : Answer) → AfterOperator ty value typed told → After typed told
    after_so told after = subst (λ z. AfterOperator z value typed told) typed_is after

    pub compound_wrong : (f : TypingFault) (r : Answer) → AfterOperator ty value typed (Err f) → IsErrAnd r (λ x. x ≡ f) → Answers Compound r
    compound_wrong f r after back = answer_back r f back (wrong typed f typed_so (after_so (Err f) after))

    pub compound_right : (u : Found) (asking : Application) (given r : Answer) → AfterOperator ty value typed (Ok u)
        → asking ≡ applied (compound_builtin operator) at false → Answers (Operates k asking (target ∷ value ∷ [])) given → r ≡ unless_fault given → Answers Compound r
    compound_right u asking given r after asks p told =
        right typed u given r typed_so (after_so (Ok u) after) (subst (λ z. Answers (Operates k z (target ∷ value ∷ [])) given) asks p) told
