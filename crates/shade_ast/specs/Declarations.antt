-- Directives, declarations and whole texts (WGSL, "Directives", "Declaration and Scope", "Modules"), in the form of
-- `Expressions`, and what a tree spells.
use Rattle.std.specs.Prelude.{Bool, List, ◌∷◌, Option}
use Rattle.shade_base.specs.declared.place.Place.{Place}
use Rattle.shade_ast.specs.declared.lexeme.Keyword.TheVariants as word
use Rattle.shade_ast.specs.declared.lexeme.Sign.TheVariants as sign
use Rattle.shade_ast.specs.Lexemes.{Lexeme, Word, Key, Mark}
use Rattle.shade_ast.specs.Shapes.{NameShape, ExprShape, AttrShape, first_place, VarShape, BindingShape, BlockShape, MemberShape, ResultShape, DeclShape, empty_decl, alias_decl, const_decl, assert_decl, struct_decl, var_decl, override_decl, fn_decl}
use Rattle.shade_ast.specs.Shapes.{RuleShape, plain_rule, scoped_rule, DirectiveShape, diagnostic_directive, requires_directive, enable_directive, TreeShape}
use Rattle.shade_ast.specs.Repeats.{Many, Maybe, Listed, MaybeListed}
use Rattle.shade_ast.specs.Expressions.{TypeName, Expression}
use Rattle.shade_ast.specs.Statements.{Name, Attribute, OfType, HasValue, Const, Var, MaybeMark, Block}

-- rule : NAME | NAME '.' NAME
pub data RuleOf : RuleShape → List Lexeme → List Lexeme → Type 0 where
  rule : (n : NameShape) {ts : List Lexeme} → RuleOf (plain_rule n) (Word n.text n.place ∷ ts) ts
  dotted_rule : (m : NameShape) (p : Place) (n : NameShape) {ts : List Lexeme} → RuleOf (scoped_rule m p n) (Word m.text m.place ∷ (Mark sign.Dot p ∷ (Word n.text n.place ∷ ts))) ts

-- directive : 'diagnostic' '(' NAME ',' rule ','? ')' ';' | 'requires' NAME,+ ';' | 'enable' NAME,+ ';'
pub data DirectiveOf : DirectiveShape → List Lexeme → List Lexeme → Type 0 where
  diagnostic : (n : NameShape) {r : RuleShape} {trailing : Bool} (p q o s x : Place) {ts us vs : List Lexeme} → RuleOf r ts us → MaybeMark sign.Comma trailing us (Mark sign.Close s ∷ (Mark sign.Semicolon x ∷ vs)) → DirectiveOf (diagnostic_directive p n r trailing) (Key word.Diagnostic p ∷ (Mark sign.Open q ∷ (Word n.text n.place ∷ (Mark sign.Comma o ∷ ts)))) vs
  requires_names : {ns : List NameShape} {trailing : Bool} (p q : Place) {ts us : List Lexeme} → Listed Name (ns, trailing) ts (Mark sign.Semicolon q ∷ us) → DirectiveOf (requires_directive p ns trailing) (Key word.Requires p ∷ ts) us
  enables_names : {ns : List NameShape} {trailing : Bool} (p q : Place) {ts us : List Lexeme} → Listed Name (ns, trailing) ts (Mark sign.Semicolon q ∷ us) → DirectiveOf (enable_directive p ns trailing) (Key word.Enable p ∷ ts) us

-- member : attr* NAME ':' type
pub data MemberOf : MemberShape → List Lexeme → List Lexeme → Type 0 where
  a_member : (attrs : List AttrShape) (n : NameShape) {e : ExprShape} {ts us vs : List Lexeme} → Many Attribute attrs ts (Word n.text n.place ∷ us) → OfType e us vs → MemberOf (record { place = first_place attrs n.place; attrs = attrs; name = n; ty = e }) ts vs

-- '->' attr* type
pub data ResultOf : ResultShape → List Lexeme → List Lexeme → Type 0 where
  result : (r : ResultShape) (p : Place) {ts us vs : List Lexeme} → Many Attribute r.attrs ts us → TypeName r.ty us vs → ResultOf r (Mark sign.Arrow p ∷ ts) vs

-- decl : ';' | 'alias' NAME '=' type ';' | const ';' | 'const_assert' expr ';'
--      | 'struct' NAME '{' member,+ '}' | attr* var ';'
--      | attr* 'override' NAME (':' type)? ('=' expr)? ';'
--      | attr* 'fn' NAME '(' member,* ')' ('->' attr* type)? block
pub data Declaration : DeclShape → List Lexeme → List Lexeme → Type 0 where
  no_declaration : (p : Place) {ts : List Lexeme} → Declaration (empty_decl p) (Mark sign.Semicolon p ∷ ts) ts
  alias : (n : NameShape) {e : ExprShape} (p q r : Place) {ts us : List Lexeme} → TypeName e ts (Mark sign.Semicolon r ∷ us) → Declaration (alias_decl p n e) (Key word.Alias p ∷ (Word n.text n.place ∷ (Mark sign.Equal q ∷ ts))) us
  constant : (b : BindingShape) (p : Place) {ts us : List Lexeme} → Const b ts (Mark sign.Semicolon p ∷ us) → Declaration (const_decl b.place b) ts us
  assertion : {e : ExprShape} (p q : Place) {ts us : List Lexeme} → Expression e ts (Mark sign.Semicolon q ∷ us) → Declaration (assert_decl p e) (Key word.ConstAssert p ∷ ts) us
  struct : (n : NameShape) {members : List MemberShape} {trailing : Bool} (p q r : Place) {ts us : List Lexeme} → Listed MemberOf (members, trailing) ts (Mark sign.CloseBrace r ∷ us) → Declaration (struct_decl p n members trailing r) (Key word.Struct p ∷ (Word n.text n.place ∷ (Mark sign.OpenBrace q ∷ ts))) us
  variable : (attrs : List AttrShape) (v : VarShape) (p : Place) {ts us vs : List Lexeme} → Many Attribute attrs ts us → Var v us (Mark sign.Semicolon p ∷ vs) → Declaration (var_decl (first_place attrs v.place) attrs v) ts vs
  overridable : (attrs : List AttrShape) (n : NameShape) {ty value : Option ExprShape} (p q : Place) {ts us vs ws : List Lexeme} → Many Attribute attrs ts (Key word.Override p ∷ (Word n.text n.place ∷ us)) → Maybe OfType ty us vs → Maybe HasValue value vs (Mark sign.Semicolon q ∷ ws) → Declaration (override_decl (first_place attrs p) attrs p n ty value) ts ws
  function : (attrs : List AttrShape) (n : NameShape) {params : List MemberShape} {trailing : Bool} {r : Option ResultShape} {b : BlockShape} (p q o : Place) {ts us vs ws xs : List Lexeme} → Many Attribute attrs ts (Key word.Fn p ∷ (Word n.text n.place ∷ (Mark sign.Open q ∷ us))) → MaybeListed MemberOf (params, trailing) us (Mark sign.Close o ∷ vs) → Maybe ResultOf r vs ws → Block b ws xs → Declaration (fn_decl (first_place attrs p) attrs p n params trailing r b) ts xs

-- module : directive* decl*
pub data Module : TreeShape → List Lexeme → List Lexeme → Type 0 where
  whole : (t : TreeShape) {ts us vs : List Lexeme} → Many DirectiveOf t.directives ts us → Many Declaration t.decls us vs → Module t ts vs
