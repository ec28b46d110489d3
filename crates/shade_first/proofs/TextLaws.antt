-- Laws of texts.
use Rattle.std.proofs.Common.{◌≡◌, refl, sym, ap, ◌∙◌, subst, ℕ, zero, suc, ◌+◌, ◌≤◌, inl, inr, List, [], ◌∷◌, ◌++◌, length, take, drop, arith, append_assoc, Some, slice_get}
use Rattle.std.proofs.lemmas.Bool.{cases_order, cases_lt}
use Rattle.std.proofs.lemmas.List.{take-append-drop}
use Rattle.shade_core.specs.declared.module.CoreFunction.{CoreFunction}
use Rattle.shade_first.specs.declared.token.Token.{Token}
use Rattle.shade_first.specs.declared.tree.FirstShader.{FirstShader}
use Rattle.shade_first.specs.Form.{Shader}
use Rattle.shade_first.specs.Lowering.{function_of}
use Rattle.shade_first.specs.FirstForm.{Begins, Leaves, at_token, behind, LeavesWithin, Spells}
use Rattle.shade_first.specs.Laws.{OneModule, OnePlace, NeverBoth, FewStatements}
use Rattle.shade_first.proofs.LexLaws.{lexes_once}
use Rattle.shade_first.proofs.Lowered.{lowers_count}
use Rattle.shade_first.proofs.Once.{shader_once, lowers_once}
use Rattle.shade_first.proofs.Counts.{few}

-- one tree
one_shader : (text : List ℕ) (s t : FirstShader) → Spells text s → Spells text t → s ≡ t
one_shader text s t a b = shader_once s t a.tokens [] b.tokens [] a.spelled b.spelled (lexes_once text 0 a.tokens b.tokens (length text) (length text) a.lexed b.lexed).tokens

pub one_module : OneModule
one_module text m n a b =
    let trees : a.shader ≡ b.shader = one_shader text a.shader b.shader a.spells b.spells in
    let low = lowers_once a.shader.items b.shader.items 0 0 a.stands.statements b.stands.statements a.stands.next b.stands.next a.stands.lowered b.stands.lowered (ap (λ (s : FirstShader). s.items) trees) refl in
    let f : CoreFunction = function_of a.shader a.stands.statements a.stands.next in
    let g : CoreFunction = function_of b.shader b.stands.statements b.stands.next in
    let functions : f ≡ g = λ i. function_of (trees i) (low.statements i) (low.next i) in
    let all : m.functions ≡ n.functions = a.stands.functions ∙ ap (λ (x : CoreFunction). x ∷ []) functions ∙ sym b.stands.functions in
    let types = a.stands.types ∙ sym b.stands.types in
    let roots = a.stands.roots ∙ sym b.stands.roots in
    λ i. record { types = types i; roots = roots i; functions = all i }

pub never_both : NeverBoth
never_both text m at s l = l.none s.shader s.spells

pub few_statements : FewStatements
few_statements text m s = let n = lowers_count s.shader.items 0 s.stands.statements s.stands.next s.stands.lowered in let h = few text s.shader s.spells in omega arith

-- a beginning of a beginning
shorter : (ts us : List Token) → Begins (ts ++ us) → Begins ts
shorter ts us b = (b.0, us ++ b.1, subst (λ x. Shader b.0 x []) (append_assoc ts us b.1) b.2)

take_take : (i j : ℕ) (ts : List Token) → i ≤ j → take i (take j ts) ≡ take i ts
take_take zero j ts h = refl
take_take (suc i) zero ts h = absurd (omega arith)
take_take (suc i) (suc j) [] h = refl
take_take (suc i) (suc j) (t ∷ ts) h = ap (λ us. t ∷ us) (take_take i j ts (omega arith))

shorter_take : (ts : List Token) (k j : ℕ) → k ≤ j → Begins (take j ts) → Begins (take k ts)
shorter_take ts k j le b = shorter (take k ts) (drop k (take j ts)) (subst Begins (sym (take-append-drop k (take j ts)) ∙ ap (λ x. x ++ drop k (take j ts)) (take_take k j ts le)) b)

shorter_all : (ts : List Token) (k : ℕ) → Begins ts → Begins (take k ts)
shorter_all ts k b = shorter (take k ts) (drop k ts) (subst Begins (sym (take-append-drop k ts)) b)

offsets : (ts : List Token) (k j : ℕ) (t u : Token) → slice_get ts k ≡ Some t → slice_get ts j ≡ Some u → k ≡ j → t.place.offset ≡ u.place.offset
offsets ts k j t u is was e =
    let both : Some t ≡ Some u = sym is ∙ ap (slice_get ts) e ∙ was in
    let same : t ≡ u = cc in
    ap (λ (x : Token). x.place.offset) same

places_once : (ts : List Token) (stop : ℕ) (a b : ℕ) → Leaves ts stop a → Leaves ts stop b → a ≡ b
places_once ts stop a b (at_token k t is begun never) (at_token j u was begun' never') =
    elim (cases_order k j) [
      | inl same ↦ offsets ts k j t u is was same
      | inr other ↦ elim other [
        | inl before ↦ absurd (never (shorter_take ts (k + 1) j (omega arith) begun'))
        | inr after ↦ absurd (never' (shorter_take ts (j + 1) k (omega arith) begun))
      ]
    ]
places_once ts stop a b (at_token k t is begun never) (behind whole) = absurd (never (shorter_all ts (k + 1) whole))
places_once ts stop a b (behind whole) (at_token k t is begun never) = absurd (never (shorter_all ts (k + 1) whole))
places_once ts stop a b (behind whole) (behind whole') = refl

pub one_place : OnePlace
one_place text a b l m = elim (cases_lt 4096 (length text)) [
  | inl long ↦ l.long long ∙ sym (m.long long)
  | inr short ↦ (let p : LeavesWithin text a = l.short short in let q : LeavesWithin text b = m.short short in let e = lexes_once text 0 p.tokens q.tokens p.stop q.stop p.lexed q.lexed in
      places_once q.tokens q.stop a b (subst (λ k. Leaves q.tokens k a) e.ends (subst (λ ts. Leaves ts p.stop a) e.tokens p.leaves)) q.leaves)
]
