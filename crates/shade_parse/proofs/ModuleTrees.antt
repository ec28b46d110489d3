-- Trees of whole texts, one directive and one declaration at a time.
use Rattle.std.proofs.Common.{◌≡◌, refl, sym, ap, ◌∙◌, subst, ℕ, ◌+◌, ◌<◌, ◌≤◌, List, [], ◌∷◌, ◌++◌, length, map, arith}
use Rattle.shade_ast.specs.declared.tree.Decl.{Decl}
use Rattle.shade_ast.specs.declared.tree.Directive.{Directive}
use Rattle.shade_ast.specs.Lexemes.{Lexeme}
use Rattle.shade_ast.specs.Names.{Grows}
use Rattle.shade_ast.specs.Shaped.{directive_shape, decl_shape}
use Rattle.shade_ast.specs.Needs.{most_of, directive_needs, decl_needs}
use Rattle.shade_ast.specs.Nodes.{joined_of, directive_nodes, decl_nodes, CountFrom}
use Rattle.shade_ast.specs.Declarations.{Declaration, DirectiveOf, Module}
use Rattle.shade_ast.specs.Places.{IsOnly}
use Rattle.shade_ast.proofs.Stages.{Stage}
use Rattle.shade_ast.proofs.PlaceLaws.{only_all}
use Rattle.shade_ast.proofs.ShapeLaws.{list_grows, length_grows, grows_here, grows_trans}
use Rattle.shade_cursor.specs.declared.part.Fault.{Fault}
use Rattle.shade_cursor.specs.declared.part.Fault.TheVariants as fault
use Rattle.shade_parse_expr.specs.Parts.{Faults}
use Rattle.shade_parse_expr.proofs.Trees.{count_join}
use Rattle.shade_parse_simple.specs.declared.read.Read.{Read}
use Rattle.shade_parse_simple.specs.Readings.{ReadsOf}
use Rattle.shade_parse.specs.Parts.{directive_seen, decl_seen}
use Rattle.shade_parse.specs.Wholes.{DirectiveStands, Refused}
use Rattle.shade_parse_simple.proofs.Turns.{Turn, turn_first, turn_shapes, turn_more, map_one, most_one, joined_one}
use Rattle.shade_parse.proofs.DirectiveTrees.{directive_keeps}
use Rattle.shade_parse.proofs.DeclarationTrees.{decl_keeps}
use Rattle.shade_parse.proofs.ModuleLaws.{tree, DirectiveRun, DeclRun, module_begin, directives_end, directives_more, directives_fail, module_ends, decls_more, module_stops, fails_stops}

-- directives so far
abbrev pub DirectiveTurn : List Lexeme → ℕ → List (List ℕ) → List (List ℕ) → List Directive → ℕ → ℕ → Type 0
DirectiveTurn tokens size first names directives at node = Turn directive_seen Module 9 DirectiveRun tokens size first names 0 0 directives at node

-- all directives, and declarations so far
pub record DeclTurn (tokens : List Lexeme) (size : ℕ) (first names : List (List ℕ)) (directives : List Directive) (decls : List Decl) (start at node : ℕ) : Type 0 where
  pub stage : Stage Module 9 tokens 0 at (DeclRun (map (directive_shape names) directives) (map (decl_shape names) decls))
  pub heads_known : most_of directive_needs directives ≤ length names
  pub known : most_of decl_needs decls ≤ length names
  pub heads : CountFrom 0 (joined_of directive_nodes directives) start
  pub nodes : CountFrom start (joined_of decl_nodes decls) node
  pub within : at ≤ size
  pub numbered : node ≤ at
  pub few : length names ≤ size + at
  pub grows : Grows first names

pub count_is : (a : ℕ) (xs : List ℕ) (b : ℕ) → CountFrom a xs b → b ≡ a + length xs
count_is a [] b h = let e : a ≡ b = h in omega arith
count_is a (x ∷ xs) b h = let e : b ≡ a + 1 + length xs = count_is (a + 1) xs b h.1 in omega arith

module _ {tokens : List Lexeme} {size : ℕ} where
  pub directives_first : (names : List (List ℕ)) {directives : List Directive} → directives ≡ [] → DirectiveTurn tokens size names names directives 0 0
  directives_first names is = turn_first is (grows_here names) (omega arith) (omega arith) (omega arith) module_begin

  module _ {first mid : List (List ℕ)} {directives : List Directive} {at node : ℕ} (t : DirectiveTurn tokens size first mid directives at node) where
    pub directive_turn : {new : List (List ℕ)} {r : Read Directive} (more : List Directive) → Grows mid new → DirectiveStands tokens at →
        ReadsOf directive_seen DirectiveOf 0 tokens new at node r → more ≡ directives ++ r.tree ∷ [] → at < r.end → r.end ≤ size → r.node + at ≤ node + r.end →
        length new + at ≤ length mid + r.end → DirectiveTurn tokens size first new more r.end r.node
    directive_turn {r = r} more g stands x same further high numbered few = turn_more directive_keeps t g x same r.end (omega arith) high further numbered few (directives_more (map (directive_shape mid) directives) t.stage stands _ (turn_shapes directive_keeps t g x same) further x.reads)

    pub directive_fault : (new : List (List ℕ)) (f : Fault) → DirectiveStands tokens at → Faults DirectiveOf 0 tokens mid new at f → Refused tokens f
    directive_fault new (fault.Unexpected to) stands x = fails_stops (directives_fail (map (directive_shape mid) directives) t.stage stands x.fails)
    directive_fault new fault.NoMemory stands x = tt

    pub decls_first : {decls : List Decl} → decls ≡ [] → (DirectiveStands tokens at → ⊥) → length first ≤ size → DeclTurn tokens size mid mid directives decls node at node
    decls_first {decls = decls} is never low =
        let numbered : node + 0 ≤ 0 + at = t.numbered in
        let few : length mid + 0 ≤ length first + at = t.few in
        subst (λ l. DeclTurn tokens size mid mid directives l node at node) (sym is)
        (record {
          stage = directives_end (map (directive_shape mid) directives) t.stage never;
          heads_known = t.known;
          known = omega arith;
          heads = t.nodes;
          nodes = refl;
          within = t.within;
          numbered = omega arith;
          few = omega arith;
          grows = grows_here mid;
        })

  module _ {first mid : List (List ℕ)} {directives : List Directive} {decls : List Decl} {start at node : ℕ} (t : DeclTurn tokens size first mid directives decls start at node) where
    pub decl_turn : {new : List (List ℕ)} {r : Read Decl} (more : List Decl) → Grows mid new → ReadsOf decl_seen Declaration 0 tokens new at node r → more ≡ decls ++ r.tree ∷ [] →
        r.end ≤ size → r.node + at ≤ node + r.end → length new + at ≤ length mid + r.end → DeclTurn tokens size first new directives more start r.end r.node
    decl_turn {new = new} {r = r} more g x same high numbered few =
        let le : length mid ≤ length new = length_grows mid new g in
        let a : most_of directive_needs directives ≤ length mid = t.heads_known in
        let b : most_of decl_needs decls ≤ length mid = t.known in
        let c : node ≤ at = t.numbered in
        let d : length mid ≤ size + at = t.few in
        let heads : map (directive_shape new) directives ≡ map (directive_shape mid) directives = list_grows directive_needs directive_shape directive_keeps mid new directives t.heads_known g in
        let shapes : map (decl_shape new) more ≡ map (decl_shape mid) decls ++ decl_shape new r.tree ∷ [] = ap (map (decl_shape new)) same ∙ map_one (decl_shape new) decls r.tree ∙ ap (λ l. l ++ decl_shape new r.tree ∷ []) (list_grows decl_needs decl_shape decl_keeps mid new decls t.known g) in
        record {
          stage = subst (λ ds. Stage Module 9 tokens 0 r.end (DeclRun ds (map (decl_shape new) more))) (sym heads) (decls_more (map (directive_shape mid) directives) (map (decl_shape mid) decls) t.stage (map (decl_shape new) more) shapes x.reads);
          heads_known = omega arith;
          known = subst (λ l. most_of decl_needs l ≤ length new) (sym same) (most_one decl_needs decls r.tree (length new) (omega arith) x.known);
          heads = t.heads;
          nodes = subst (λ l. CountFrom start l r.node) (sym (ap (joined_of decl_nodes) same ∙ joined_one decl_nodes decls r.tree)) (count_join (joined_of decl_nodes decls) (decl_nodes r.tree) start node r.node t.nodes x.nodes);
          within = high;
          numbered = omega arith;
          few = omega arith;
          grows = grows_trans first mid new t.grows g;
        }

    pub decl_fault : (new : List (List ℕ)) (f : Fault) → at < length tokens → Faults Declaration 0 tokens mid new at f → Refused tokens f
    decl_fault new (fault.Unexpected to) lt x = module_stops (map (directive_shape mid) directives) (map (decl_shape mid) decls) t.stage x.fails lt
    decl_fault new fault.NoMemory lt x = tt

    pub whole_only : length tokens ≤ at → IsOnly Module (tree (map (directive_shape mid) directives) (map (decl_shape mid) decls)) tokens
    whole_only le = only_all Module 9 (omega arith) tokens (tree (map (directive_shape mid) directives) (map (decl_shape mid) decls)) at le (module_ends (map (directive_shape mid) directives) (map (decl_shape mid) decls) t.stage le)

    pub whole_nodes : CountFrom 0 (joined_of directive_nodes directives ++ joined_of decl_nodes decls) (length (joined_of directive_nodes directives ++ joined_of decl_nodes decls))
    whole_nodes =
        let all : CountFrom 0 (joined_of directive_nodes directives ++ joined_of decl_nodes decls) node = count_join (joined_of directive_nodes directives) (joined_of decl_nodes decls) 0 start node t.heads t.nodes in
        let last : node ≡ length (joined_of directive_nodes directives ++ joined_of decl_nodes decls) = omega (arith, count_is 0 (joined_of directive_nodes directives ++ joined_of decl_nodes decls) node all) in
        subst (CountFrom 0 (joined_of directive_nodes directives ++ joined_of decl_nodes decls)) last all

    pub whole_few : length (joined_of directive_nodes directives ++ joined_of decl_nodes decls) ≤ size
    whole_few =
        let all : CountFrom 0 (joined_of directive_nodes directives ++ joined_of decl_nodes decls) node = count_join (joined_of directive_nodes directives) (joined_of decl_nodes decls) 0 start node t.heads t.nodes in
        let within : at ≤ size = t.within in
        let numbered : node ≤ at = t.numbered in
        omega (arith, count_is 0 (joined_of directive_nodes directives ++ joined_of decl_nodes decls) node all)
