-- What a beginning of a list of tokens says of texts.
use Rattle.std.specs.Prelude.{◌≡◌, ℕ, List, [], ◌++◌, ◌↔◌, length, map}
use Rattle.shade_first.specs.declared.token.Kind.{Kind}
use Rattle.shade_first.specs.declared.token.Token.{Token}
use Rattle.shade_first.specs.declared.tree.FirstShader.{FirstShader}
use Rattle.shade_first.specs.Form.{Shader}
use Rattle.shade_first.specs.Tokens.{Lexes}
use Rattle.shade_first.specs.FirstForm.{Begins}

abbrev pub kinds : List Token → List Kind
kinds = map (λ (t : Token). t.kind)

-- some text of the form, its number of bytes left free, begins with tokens of the kinds of these
pub record BeginsText (us : List Token) : Type 0 where
  pub text : List ℕ
  pub tokens : List Token
  pub lexed : Lexes text 0 tokens (length text)
  pub shader : FirstShader
  pub spelled : Shader shader tokens []
  pub others : List Kind
  pub front : kinds tokens ≡ kinds us ++ others

-- tokens with which some shader begins are those with which some text of the form begins
abbrev pub BeginningsAreTexts : Type 0
BeginningsAreTexts = (us : List Token) → Begins us ↔ BeginsText us
