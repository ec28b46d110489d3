-- Texts of the first form, and where a text leaves it.
use Rattle.std.specs.Prelude.{◌≡◌, ℕ, ◌+◌, ◌<◌, ◌≤◌, Some, List, [], ◌++◌, length, take, slice_get}
use Rattle.shade_core.specs.declared.module.CoreModule.{CoreModule}
use Rattle.shade_first.specs.declared.token.Token.{Token}
use Rattle.shade_first.specs.declared.tree.FirstShader.{FirstShader}
use Rattle.shade_first.specs.declared.FirstFault.{FirstFault}
use Rattle.shade_first.specs.declared.FirstFault.TheVariants.{NotYet, NoMemory}
use Rattle.shade_first.specs.Form.{Shader}
use Rattle.shade_first.specs.Lowering.{Stands}
use Rattle.shade_first.specs.Tokens.{Lexes}

-- a text of the first form, and its tree: at most 4,096 bytes, all of them in tokens that spell the tree or between them
pub record Spells (text : List ℕ) (s : FirstShader) : Type 0 where
  pub short : length text ≤ 4096
  pub tokens : List Token
  pub lexed : Lexes text 0 tokens (length text)
  pub spelled : Shader s tokens []

-- a text of the first form, and the core module that its tree stands for
pub record StandsFor (text : List ℕ) (m : CoreModule) : Type 0 where
  pub shader : FirstShader
  pub spells : Spells text shader
  pub stands : Stands shader m

-- some shader begins with these tokens
abbrev pub Begins : List Token → Type 0
Begins us = (s : FirstShader) × (more : List Token) × Shader s (us ++ more) []

-- Where tokens leave the form: at the first token up to which no shader begins with them; or, where one begins with all
-- of them, behind them.
pub data Leaves (tokens : List Token) (stop : ℕ) : ℕ → Type 0 where
  at_token : (k : ℕ) (t : Token) → slice_get tokens k ≡ Some t → Begins (take k tokens) → (Begins (take (k + 1) tokens) → ⊥) → Leaves tokens stop t.place.offset
  behind : Begins tokens → Leaves tokens stop stop

-- where a text of at most 4,096 bytes leaves it; behind its tokens is the first byte that begins none, or its end
pub record LeavesWithin (text : List ℕ) (at : ℕ) : Type 0 where
  pub tokens : List Token
  pub stop : ℕ
  pub lexed : Lexes text 0 tokens stop
  pub leaves : Leaves tokens stop at

-- a text that is not of the form, and its place: 4096 for a longer text, else where it leaves the form
pub record LeavesAt (text : List ℕ) (at : ℕ) : Type 0 where
  pub none : (s : FirstShader) → Spells text s → ⊥
  pub long : 4096 < length text → at ≡ 4096
  pub short : length text ≤ 4096 → LeavesWithin text at

-- a refusal; one for want of memory says nothing
abbrev pub Refuses : List ℕ → FirstFault → Type 0
Refuses text (NotYet at) = LeavesAt text at
Refuses text NoMemory = Unit {0}
