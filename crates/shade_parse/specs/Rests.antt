-- What may still stand behind the first words of a phrase.
use Rattle.std.specs.Prelude.{Bool, List, ◌∷◌, Option}
use Rattle.shade_ast.specs.declared.lexeme.Sign.{Sign}
use Rattle.shade_ast.specs.declared.lexeme.Sign.TheVariants as sign
use Rattle.shade_ast.specs.declared.lexeme.Keyword.TheVariants as word
use Rattle.shade_ast.specs.Lexemes.{Lexeme, Key, Mark}
use Rattle.shade_ast.specs.Shapes.{NameShape, DirectiveShape, diagnostic_directive, requires_directive, enable_directive, ExprShape, MemberShape, ResultShape, BlockShape, DeclShape, empty_decl, alias_decl, const_decl, assert_decl, struct_decl}
use Rattle.shade_ast.specs.Repeats.{Maybe, Listed, MaybeListed}
use Rattle.shade_ast.specs.Chains.{After, Ends, Placed}
use Rattle.shade_ast.specs.Declarations.{RuleOf, MemberOf, ResultOf}
use Rattle.shade_ast.specs.Expressions.{TypeName, Expression}
use Rattle.shade_ast.specs.Statements.{Name, OfType, HasValue, Block}
use Rattle.shade_base.specs.declared.place.Place.{Place}
use Rattle.shade_parse_simple.specs.Rests.{Bound, Ending}

-- a list and the mark that closes it, with the place of that
pub data Enclosed {R : Type 0} (L : List R × Bool → List Lexeme → List Lexeme → Type 0) (closer : Sign) : (List R × Bool) × Place → List Lexeme → List Lexeme → Type 0 where
  enclosed : {l : List R × Bool} (p : Place) {ts us : List Lexeme} → L l ts (Mark closer p ∷ us) → Enclosed L closer (l, p) ts us

-- `diagnostic` behind its keyword: '(' NAME ',' rule ','? ')' ';'
abbrev pub DiagnosticRest : Place → DirectiveShape → List Lexeme → List Lexeme → Type 0
DiagnosticRest p = After (Placed (Mark sign.Open)) (λ q. After Name (λ n. After (Placed (Mark sign.Comma)) (λ o. After RuleOf (λ r. After (Ending sign.Close) (λ t. After (Placed (Mark sign.Semicolon)) (λ x. Ends (diagnostic_directive p n r t)))))))

-- a directive behind its keyword
abbrev pub DirectiveAt : Lexeme → DirectiveShape → List Lexeme → List Lexeme → Type 0
DirectiveAt (Key word.Diagnostic p) = DiagnosticRest p
DirectiveAt (Key word.Requires p) = After (Enclosed (Listed Name) sign.Semicolon) (λ l. Ends (requires_directive p l.0.0 l.0.1))
DirectiveAt (Key word.Enable p) = After (Enclosed (Listed Name) sign.Semicolon) (λ l. Ends (enable_directive p l.0.0 l.0.1))
DirectiveAt _ = λ r us w. ⊥

-- declarations that begin with no attribute, behind their keywords
abbrev pub AliasRest : Place → DeclShape → List Lexeme → List Lexeme → Type 0
AliasRest p = After Name (λ n. After (Placed (Mark sign.Equal)) (λ q. After TypeName (λ e. After (Placed (Mark sign.Semicolon)) (λ x. Ends (alias_decl p n e)))))

abbrev pub ConstRest : Place → DeclShape → List Lexeme → List Lexeme → Type 0
ConstRest p = After (Bound p) (λ b. After (Placed (Mark sign.Semicolon)) (λ x. Ends (const_decl p b)))

abbrev pub AssertRest : Place → DeclShape → List Lexeme → List Lexeme → Type 0
AssertRest p = After Expression (λ e. After (Placed (Mark sign.Semicolon)) (λ x. Ends (assert_decl p e)))

abbrev pub StructRest : Place → DeclShape → List Lexeme → List Lexeme → Type 0
StructRest p = After Name (λ n. After (Placed (Mark sign.OpenBrace)) (λ q. After (Enclosed (Listed MemberOf) sign.CloseBrace) (λ l. Ends (struct_decl p n l.0.0 l.0.1 l.1))))

abbrev pub PlainAt : Lexeme → DeclShape → List Lexeme → List Lexeme → Type 0
PlainAt (Mark sign.Semicolon p) = Ends (empty_decl p)
PlainAt (Key word.Alias p) = AliasRest p
PlainAt (Key word.Const p) = ConstRest p
PlainAt (Key word.ConstAssert p) = AssertRest p
PlainAt (Key word.Struct p) = StructRest p
PlainAt _ = λ r us w. ⊥

-- an `override` behind its keyword: NAME (':' type)? ('=' expr)? ';'
pub record OverrideShape : Type 0 where
  pub name : NameShape
  pub ty : Option ExprShape
  pub value : Option ExprShape

abbrev pub OverrideRest : OverrideShape → List Lexeme → List Lexeme → Type 0
OverrideRest = After Name (λ n. After (Maybe OfType) (λ t. After (Maybe HasValue) (λ v. After (Placed (Mark sign.Semicolon)) (λ x. Ends (record { name = n; ty = t; value = v })))))

-- a `fn` behind its keyword: NAME '(' member,* ')' ('->' attr* type)? block
pub record FnShape : Type 0 where
  pub name : NameShape
  pub params : List MemberShape
  pub trailing : Bool
  pub result : Option ResultShape
  pub body : BlockShape

abbrev pub FnRest : FnShape → List Lexeme → List Lexeme → Type 0
FnRest = After Name (λ n. After (Placed (Mark sign.Open)) (λ q. After (Enclosed (MaybeListed MemberOf) sign.Close) (λ l. After (Maybe ResultOf) (λ r. After Block (λ b. Ends (record { name = n; params = l.0.0; trailing = l.0.1; result = r; body = b }))))))
