-- The first form of shaders: which tree a list of tokens spells.
--
--   @compute @workgroup_size(N)
--   fn NAME(@builtin(local_invocation_index) NAME: u32) { ITEM* }
--
--   ITEM is  workgroupBarrier();  or  if (NAME < LIMIT) { ITEM* }
--
-- N is a decimal from 1 to 256. LIMIT is a decimal up to 4,294,967,295 with `u`. Neither has a leading zero. A declared
-- NAME is no keyword and no predeclared name; that of a condition is the parameter. At most 127 braces are open at once.
-- Function and parameter stand in different scopes, so they may have one name.
--
-- Each relation below has what is read, then the tokens from its first one on, then the tokens behind its last one.
use Rattle.std.specs.Prelude.{◌≡◌, ℕ, ◌+◌, ◌<◌, ◌≤◌, ◌^◌, false, List, [], ◌∷◌, ◌++◌, codes}
use Rattle.std.specs.Fmt.{decimal}
use Rattle.shade_base.specs.declared.place.Place.{Place}
use Rattle.shade_first.specs.declared.token.Mark.TheVariants.{At, Open, Close, OpenBrace, CloseBrace, Colon, Semicolon, Less}
use Rattle.shade_first.specs.declared.token.Kind.{Kind}
use Rattle.shade_first.specs.declared.token.Kind.TheVariants as kind
use Rattle.shade_first.specs.declared.token.Token.{Token}
use Rattle.shade_first.specs.declared.tree.FirstItem.{FirstItem}
use Rattle.shade_first.specs.declared.tree.FirstItem.TheVariants as item
use Rattle.shade_first.specs.declared.tree.FirstShader.{FirstShader}
use Rattle.shade_first.specs.Reserved.{is_reserved}
use Rattle.shade_first.specs.Tokens.{IsWord}

abbrev pub token_of : Kind → Place → Token
token_of k p = record { kind = k; place = p }

-- one token of this kind
pub record Placed (k : Kind) (p : Place) (ts rest : List Token) : Type 0 where
  pub is : ts ≡ token_of k p ∷ rest

-- tokens of these kinds, one after another
pub data Fixed : List Kind → List Token → List Token → Type 0 where
  done : (ts : List Token) → Fixed [] ts ts
  more : (k : Kind) (p : Place) {ks : List Kind} {ts us rest : List Token} → Placed k p ts us → Fixed ks us rest → Fixed (k ∷ ks) ts rest

abbrev pub Sequence : List Kind → Unit {0} → List Token → List Token → Type 0
Sequence ks u ts rest = Fixed ks ts rest

-- a number of lanes
pub record Lanes (n : ℕ) (ts rest : List Token) : Type 0 where
  pub place : Place
  pub is : ts ≡ token_of (kind.Number (decimal n)) place ∷ rest
  pub least : 1 ≤ n
  pub most : n ≤ 256

-- a limit of a condition
pub record Limit (n : ℕ) (ts rest : List Token) : Type 0 where
  pub place : Place
  pub is : ts ≡ token_of (kind.Number (decimal n ++ codes "u")) place ∷ rest
  pub most : n < 2 ^ 32

-- a declared name, which is a word
pub record Declared (name : List ℕ) (p : Place) (ts rest : List Token) : Type 0 where
  pub is : ts ≡ token_of (kind.Word name) p ∷ rest
  pub word : IsWord name
  pub free : is_reserved name ≡ false

abbrev pub Name : List ℕ × Place → List Token → List Token → Type 0
Name d ts rest = Declared d.0 d.1 ts rest

abbrev pub if_word : Kind
if_word = kind.Word (codes "if")

abbrev pub barrier_word : Kind
barrier_word = kind.Word (codes "workgroupBarrier")

abbrev pub barrier_end : List Kind
barrier_end = kind.Mark Open ∷ (kind.Mark Close ∷ (kind.Mark Semicolon ∷ []))

abbrev pub condition_begin : List ℕ → List Kind
condition_begin parameter = kind.Mark Open ∷ (kind.Word parameter ∷ [])

abbrev pub condition_end : List Kind
condition_end = kind.Mark Close ∷ (kind.Mark OpenBrace ∷ [])

mutual
  -- one statement, where so many braces are open
  pub data Item (parameter : List ℕ) : ℕ → FirstItem → List Token → List Token → Type 0 where
    barrier : (braces : ℕ) (p : Place) {ts us rest : List Token} → Placed barrier_word p ts us → Fixed barrier_end us rest → Item parameter braces (item.Barrier p) ts rest
    branch : (braces : ℕ) (p q : Place) (n : ℕ) {is : List FirstItem} (e : Place) {ts us vs ws xs ys rest : List Token} → braces < 127 → Placed if_word p ts us → Fixed (condition_begin parameter) us vs → Placed (kind.Mark Less) q vs ws → Limit n ws xs → Fixed condition_end xs ys → Block parameter (braces + 1) is e ys rest → Item parameter braces (item.If p q n is) ts rest

  -- statements and their closing brace
  pub data Block (parameter : List ℕ) : ℕ → List FirstItem → Place → List Token → List Token → Type 0 where
    ends : (braces : ℕ) (e : Place) {ts rest : List Token} → Placed (kind.Mark CloseBrace) e ts rest → Block parameter braces [] e ts rest
    next : (braces : ℕ) (i : FirstItem) {is : List FirstItem} (e : Place) {ts us rest : List Token} → Item parameter braces i ts us → Block parameter braces is e us rest → Block parameter braces (i ∷ is) e ts rest

abbrev pub Body : List ℕ → ℕ → List FirstItem × Place → List Token → List Token → Type 0
Body parameter braces b ts rest = Block parameter braces b.0 b.1 ts rest

-- @compute @workgroup_size(
abbrev pub opening : List Kind
opening = kind.Mark At ∷ (kind.Word (codes "compute") ∷ (kind.Mark At ∷ (kind.Word (codes "workgroup_size") ∷ (kind.Mark Open ∷ []))))

-- ) fn
abbrev pub before_name : List Kind
before_name = kind.Mark Close ∷ (kind.Word (codes "fn") ∷ [])

-- ( @builtin(local_invocation_index)
abbrev pub before_parameter : List Kind
before_parameter = kind.Mark Open ∷ (kind.Mark At ∷ (kind.Word (codes "builtin") ∷ (kind.Mark Open ∷ (kind.Word (codes "local_invocation_index") ∷ (kind.Mark Close ∷ [])))))

-- : u32) {
abbrev pub before_body : List Kind
before_body = kind.Mark Colon ∷ (kind.Word (codes "u32") ∷ (kind.Mark Close ∷ (kind.Mark OpenBrace ∷ [])))

-- the whole
pub record Shader (s : FirstShader) (t0 t8 : List Token) : Type 0 where
  pub t1 : List Token
  pub t2 : List Token
  pub t3 : List Token
  pub t4 : List Token
  pub t5 : List Token
  pub t6 : List Token
  pub t7 : List Token
  pub q : Place
  pub opens : Fixed opening t0 t1
  pub lanes : Lanes s.size t1 t2
  pub named : Fixed before_name t2 t3
  pub name : Declared s.name s.place t3 t4
  pub taking : Fixed before_parameter t4 t5
  pub parameter : Declared s.parameter q t5 t6
  pub typed : Fixed before_body t6 t7
  pub body : Block s.parameter 1 s.items s.end t7 t8
