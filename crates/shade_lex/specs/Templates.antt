-- Template lists (WGSL, "Template Lists"): which `<` and `>` are brackets. This definition counts, and keeps no stack.
use Rattle.std.specs.Prelude.{◌≡◌, ℕ, zero, suc, ◌+◌, ◌-◌, ◌<◌, ◌≤◌, Bool, true, false, ◌&&◌, ◌||◌, ◌==◌, nat_lt, nat_le, List, [], ◌∷◌, ◌++◌, Option, None, Some, slice_get, slice_index, slice_index_or, length, if◌then◌else◌}
use Rattle.shade_lex.specs.declared.token.TokenKind.{TokenKind}
use Rattle.shade_lex.specs.declared.token.TokenKind.TheVariants as kind
use Rattle.shade_lex.specs.declared.token.Token.{Token}
use Rattle.shade_lex.specs.declared.role.Role.{Role}
use Rattle.shade_lex.specs.declared.role.Role.TheVariants.{Word, Less, Greater, Raise, Lower, Cut, Reset, Joined, Other}

-- What a mark of one character is for template lists, but `=`: `( [` raise the depth, `) ]` lower it, and `; { :` reset it.
abbrev pub single_role : ℕ → Role
single_role c =
    if c == 60 then Less else (if c == 62 then Greater
    else (if c == 40 || c == 91 then Raise else (if c == 41 || c == 93 then Lower
    else (if c == 59 || (c == 123 || c == 58) then Reset else Other))))

-- By its first and last character, its length, and whether it stands directly after a `>`: marks that end in `=` reset the depth, but `==`, `!=` and `<=`; `&&` and `||` cut.
abbrev pub mark_role : ℕ → ℕ → ℕ → Bool → Role
mark_role first last length joined =
    if last == 61 then (if length == 1 then (if joined then Joined else Reset) else (if length == 2 && (first == 61 || (first == 33 || first == 60)) then Other else Reset))
    else (if length == 1 then single_role first else (if first == last && (first == 38 || first == 124) then Cut else Other))

-- a `>` ends where a token begins
abbrev pub is_directly_after : List ℕ → Option Token → Token → Bool
is_directly_after text None token = false
is_directly_after text (Some previous) token = slice_index text previous.place.offset == 62 && previous.place.offset + 1 == token.place.offset

abbrev pub role_by : TokenKind → Role → Role
role_by kind.Word role = Word
role_by (kind.Number value suffix) role = Other
role_by kind.Mark role = role

abbrev pub role_of : List ℕ → Option Token → Token → Role
role_of text previous token =
    role_by token.kind (mark_role (slice_index text token.place.offset) (slice_index text (token.place.offset + token.length - 1)) token.length (is_directly_after text previous token))

abbrev pub roles_from : List ℕ → Option Token → List Token → List Role
roles_from text previous [] = []
roles_from text previous (token ∷ tokens) = role_of text previous token ∷ roles_from text (Some token) tokens

abbrev pub is_word_role : Role → Bool
is_word_role Word = true
is_word_role _ = false

abbrev pub is_less : Role → Bool
is_less Less = true
is_less _ = false

abbrev pub is_greater : Role → Bool
is_greater Greater = true
is_greater _ = false

abbrev pub is_reset_role : Role → Bool
is_reset_role Reset = true
is_reset_role _ = false

abbrev pub is_joined : Role → Bool
is_joined Joined = true
is_joined _ = false

-- `)`, `]`, `&&` and `||`
abbrev pub drops : Role → Bool
drops Lower = true
drops Cut = true
drops _ = false

abbrev pub role_at : List Role → ℕ → Role
role_at roles k = slice_index_or roles k Other

-- an opener is a `<` after a word
abbrev pub is_opener : List Role → ℕ → Bool
is_opener roles zero = false
is_opener roles (suc k) = is_less (role_at roles (suc k)) && is_word_role (role_at roles k)

-- A token that sets the depth to 0; `closed` tells the tokens that close a list, and an `=` directly after a `>` resets only where that closes one.
abbrev pub is_reset : List Role → (ℕ → Bool) → ℕ → Bool
is_reset roles closed zero = is_reset_role (role_at roles zero)
is_reset roles closed (suc k) = is_reset_role (role_at roles (suc k)) || (is_joined (role_at roles (suc k)) && closed k)

abbrev pub depth_after : Role → ℕ → ℕ
depth_after Raise depth = depth + 1
depth_after Lower depth = depth - 1
depth_after _ depth = depth

-- the depth before a token
abbrev pub depth : List Role → (ℕ → Bool) → ℕ → ℕ
depth roles closed zero = 0
depth roles closed (suc k) = if is_reset roles closed k then 0 else depth_after (role_at roles k) (depth roles closed k)

-- a token ends the lists of a depth that are open
abbrev pub cuts : List Role → (ℕ → Bool) → ℕ → ℕ → Bool
cuts roles closed k level = is_reset roles closed k || (drops (role_at roles k) && nat_le (depth roles closed k) level)

-- the openers, and the `>`, of a depth that stand after one token and before another
abbrev pub openers : List Role → (ℕ → Bool) → ℕ → ℕ → ℕ → ℕ
openers roles closed i level zero = 0
openers roles closed i level (suc k) = openers roles closed i level k + (if nat_lt i k && (is_opener roles k && depth roles closed k == level) then 1 else 0)

abbrev pub greaters : List Role → (ℕ → Bool) → ℕ → ℕ → ℕ → ℕ
greaters roles closed i level zero = 0
greaters roles closed i level (suc k) = greaters roles closed i level k + (if nat_lt i k && (is_greater (role_at roles k) && depth roles closed k == level) then 1 else 0)

-- The list that a token opens is not ended before another: nothing between cuts its depth, and up to each place between stand as many openers as `>`, or more.
pub record IsOpen (roles : List Role) (closed : ℕ → Bool) (i end : ℕ) : Type 0 where
  pub opens : is_opener roles i ≡ true
  pub before : i < end
  pub uncut : (k : ℕ) → i < k → k < end → cuts roles closed k (depth roles closed i) ≡ false
  pub kept : (k : ℕ) → k ≤ end → greaters roles closed i (depth roles closed i) k ≤ openers roles closed i (depth roles closed i) k

-- a `<` and the `>` of its depth that closes its list
pub record IsPair (roles : List Role) (closed : ℕ → Bool) (i j : ℕ) : Type 0 where
  pub open_before : IsOpen roles closed i j
  pub closer : is_greater (role_at roles j) ≡ true
  pub level : depth roles closed j ≡ depth roles closed i
  pub even : greaters roles closed i (depth roles closed i) j ≡ openers roles closed i (depth roles closed i) j

-- some token is closed by this one
abbrev pub closes : List (Option ℕ) → ℕ → Bool
closes [] j = false
closes (None ∷ closers) j = closes closers j
closes (Some k ∷ closers) j = k == j || closes closers j

-- For each token the one that closes its list: the pairs, where the tokens that close are those of the pairs.
pub record AreClosers (roles : List Role) (closers : List (Option ℕ)) : Type 0 where
  pub sound : (i j : ℕ) → slice_get closers i ≡ Some (Some j) → IsPair roles (closes closers) i j
  pub complete : (i j : ℕ) → IsPair roles (closes closers) i j → j < length roles → slice_get closers i ≡ Some (Some j)

-- where a token begins
abbrev pub offset_of : Option Token → ℕ
offset_of None = 0
offset_of (Some token) = token.place.offset

abbrev pub offset_at : List Token → ℕ → ℕ
offset_at tokens i = offset_of (slice_get tokens i)

-- the offsets of a token and of the one that closes its list
abbrev pub pair_of : List Token → ℕ → Option ℕ → List (ℕ × ℕ)
pair_of tokens i None = []
pair_of tokens i (Some j) = (offset_at tokens i, offset_at tokens j) ∷ []

abbrev pub pairs_from : List Token → ℕ → List (Option ℕ) → List (ℕ × ℕ)
pairs_from tokens i [] = []
pairs_from tokens i (closer ∷ closers) = pair_of tokens i closer ++ pairs_from tokens (i + 1) closers

-- The template lists of a text, each by the offsets of its `<` and its `>`, in the order in which they begin.
pub record AreTemplates (text : List ℕ) (tokens : List Token) (pairs : List (ℕ × ℕ)) : Type 0 where
  pub closers : List (Option ℕ)
  pub exact : AreClosers (roles_from text None tokens) closers
  pub are : pairs ≡ pairs_from tokens 0 closers

-- Tokens have at most one list of template lists.
abbrev pub HaveOneReading : List ℕ → List Token → Type 0
HaveOneReading text tokens = (pairs others : List (ℕ × ℕ)) → AreTemplates text tokens pairs → AreTemplates text tokens others → pairs ≡ others
