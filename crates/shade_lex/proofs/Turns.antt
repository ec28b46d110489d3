-- One turn of a loop that adds something for each item: what was added and what is still to come are all.
use Rattle.std.proofs.Common.{◌≡◌, sym, ap, ◌∙◌, ℕ, ◌+◌, ◌<◌, List, [], ◌∷◌, ◌++◌, Option, Some, length, drop, get_or, append_assoc}
use Rattle.std.proofs.lemmas.List.{drop_more}
use Rattle.shade_lex.specs.declared.role.Role.{Role}
use Rattle.shade_lex.specs.declared.token.Token.{Token}
use Rattle.shade_lex.specs.Templates.{role_of, roles_from, pair_of, pairs_from}

-- of what one item gives, and what those behind it give
turn : {A : Type 0} (made more one rest left all : List A) → more ≡ made ++ one → left ≡ one ++ rest → made ++ left ≡ all → more ++ rest ≡ all
turn made more one rest left all pushed here h = ap (λ x. x ++ rest) pushed ∙ append_assoc made one rest ∙ ap (λ x. made ++ x) (sym here) ∙ h

pub roles_turn : (text : List ℕ) (previous : Option Token) (tokens : List Token) (i : ℕ) (d : Token) (made more all : List Role) → i < length tokens
    → more ≡ made ++ role_of text previous (get_or tokens i d) ∷ [] → made ++ roles_from text previous (drop i tokens) ≡ all
    → more ++ roles_from text (Some (get_or tokens i d)) (drop (i + 1) tokens) ≡ all
roles_turn text previous tokens i d made more all within pushed h =
    let token = get_or tokens i d in
    turn made more (role_of text previous token ∷ []) (roles_from text (Some token) (drop (i + 1) tokens)) (roles_from text previous (drop i tokens)) all pushed
    (ap (roles_from text previous) (drop_more tokens i d within)) h

pub pairs_turn : (tokens : List Token) (closers : List (Option ℕ)) (i : ℕ) (d : Option ℕ) (made more all : List (ℕ × ℕ)) → i < length closers
    → more ≡ made ++ pair_of tokens i (get_or closers i d) → made ++ pairs_from tokens i (drop i closers) ≡ all → more ++ pairs_from tokens (i + 1) (drop (i + 1) closers) ≡ all
pairs_turn tokens closers i d made more all within pushed h =
    turn made more (pair_of tokens i (get_or closers i d)) (pairs_from tokens (i + 1) (drop (i + 1) closers)) (pairs_from tokens i (drop i closers)) all pushed
    (ap (pairs_from tokens i) (drop_more closers i d within)) h
