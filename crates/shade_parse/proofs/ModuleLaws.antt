-- Whole texts: directives, and then declarations.
use Rattle.std.proofs.Common.{◌≡◌, refl, sym, ap, ◌∙◌, subst, ℕ, ◌<◌, ◌≤◌, inl, inr, List, [], ◌∷◌, ◌++◌, length, length-drop, drop, arith, zero, suc, false, Some, slice_get}
use Rattle.shade_ast.specs.declared.lexeme.Keyword.TheVariants as word
use Rattle.shade_ast.specs.declared.lexeme.Sign.TheVariants as sign
use Rattle.shade_ast.specs.Lexemes.{Lexeme, Word, Key, Mark}
use Rattle.shade_ast.specs.Shapes.{DeclShape, plain_rule, DirectiveShape, diagnostic_directive, requires_directive, enable_directive, TreeShape}
use Rattle.shade_ast.specs.Repeats.{Many, no_more, more, last}
use Rattle.shade_ast.specs.Statements.{name, no_mark}
use Rattle.shade_ast.specs.Declarations.{Declaration, DirectiveOf, diagnostic, requires_names, enables_names, rule, Module, whole}
use Rattle.shade_ast.specs.Reads.{Near, Reads, Fails, rank, rank_of}
use Rattle.shade_ast.specs.Places.{IsStop}
use Rattle.shade_ast.proofs.Stages.{Stage, Closes, near_get, begin, change, closes_end}
use Rattle.shade_ast.specs.Chains.{After, Ends}
use Rattle.shade_ast.proofs.Manys.{first_read}
use Rattle.shade_ast.proofs.PlaceLaws.{stop_of_reads, stop_of_fails, none_of_all, none_past}
use Rattle.shade_ast.proofs.Placed.{some_name}
use Rattle.shade_parse.specs.Rests.{DirectiveAt}
use Rattle.shade_parse.specs.Wholes.{BeginsDirective, DirectiveStands}
use Rattle.shade_parse_simple.proofs.Steps.{Stops, reached, nothing_read, fails_later, end_stops, ended}
use Rattle.shade_parse.proofs.Runs.{Run, run_begin, run_stops, run_ends, run_more, run_fails}
use Rattle.shade_parse.proofs.DirectiveLaws.{directive_there}
use Rattle.shade_parse.proofs.DeclarationLaws.{decl_first, decl_no_directive}

abbrev pub tree : List DirectiveShape → List DeclShape → TreeShape
tree ds es = record { directives = ds; decls = es }

abbrev pub DeclRun : List DirectiveShape → List DeclShape → TreeShape → List Lexeme → List Lexeme → Type 0
DeclRun ds = Run Declaration (λ es. Ends (tree ds es))

abbrev pub Decls : List DirectiveShape → TreeShape → List Lexeme → List Lexeme → Type 0
Decls ds = After (Many Declaration) (λ es. Ends (tree ds es))

abbrev pub DirectiveRun : List DirectiveShape → TreeShape → List Lexeme → List Lexeme → Type 0
DirectiveRun = Run DirectiveOf Decls

decl_rank : (r : DeclShape) (ts w : List Lexeme) → Declaration r ts w → 0 < rank ts
decl_rank r ts w g = let f = decl_first r ts w g in subst (λ l. 0 < rank l) (sym f.2) (omega (arith, f.3))

directive_first : (r : DirectiveShape) (ts w : List Lexeme) → DirectiveOf r ts w → (t : Lexeme) × (us : List Lexeme) × (ts ≡ t ∷ us) × BeginsDirective t
directive_first r ts w g = let k = directive_there r ts w g in (k.first, k.others, k.split, by k.first r k.others w k.at)
  where
    by : (t : Lexeme) (r : DirectiveShape) (us w : List Lexeme) → DirectiveAt t r us w → BeginsDirective t
    by (Key word.Diagnostic p) r us w d = tt
    by (Key word.Requires p) r us w d = tt
    by (Key word.Enable p) r us w d = tt
    by _ r us w d = absurd d

directive_rank_of : (t : Lexeme) → BeginsDirective t → rank_of t ≡ 9
directive_rank_of (Key word.Diagnostic p) b = refl
directive_rank_of (Key word.Requires p) b = refl
directive_rank_of (Key word.Enable p) b = refl
directive_rank_of _ b = absurd b

directive_rank : (r : DirectiveShape) (ts w : List Lexeme) → DirectiveOf r ts w → 0 < rank ts
directive_rank r ts w g = let f = directive_first r ts w g in let is : rank_of f.0 ≡ 9 = directive_rank_of f.0 f.3 in subst (λ l. 0 < rank l) (sym f.2) (omega arith)

many_decls_stop : (es : List DeclShape) (ts us : List Lexeme) → 0 < rank us → Many Declaration es ts us → 0 < rank ts
many_decls_stop es ts us stop no_more = stop
many_decls_stop es ts us stop (more {r = r} {us = vs} g l) = decl_rank r ts vs g

decls_stop : (ds : List DirectiveShape) → Stops 9 0 (Decls ds)
decls_stop ds r zs w stop a = many_decls_stop a.part zs a.others (subst (λ l. 0 < rank l) (sym a.rest.left) (omega arith)) a.phrase

decl_run_stops : (ds : List DirectiveShape) (es : List DeclShape) → Stops 9 0 (DeclRun ds es)
decl_run_stops ds = run_stops Declaration (λ es. Ends (tree ds es)) 9 0 decl_rank (λ es. end_stops 9 0 (omega arith))

directive_run_stops : (ds : List DirectiveShape) → Stops 9 0 (DirectiveRun ds)
directive_run_stops = run_stops DirectiveOf Decls 9 0 directive_rank decls_stop

decls_close : (ds : List DirectiveShape) → Closes (Decls ds)
decls_close ds = record { tree = tree ds []; more = []; closed = λ w. record { part = []; others = w; phrase = no_more; rest = record { same = refl; left = refl } } }

module_there : (r : TreeShape) (ts w : List Lexeme) → Module r ts w → After (Many DirectiveOf) Decls r ts w
module_there r ts w (whole t {us = us} d e) = record { part = r.directives; others = us; phrase = d; rest = record { part = r.decls; others = w; phrase = e; rest = record { same = refl; left = refl } } }

module_back : (r : TreeShape) (ts w : List Lexeme) → After (Many DirectiveOf) Decls r ts w → Module r ts w
module_back r ts w a = let e = a.rest in subst (λ x. Module x ts w) (sym e.rest.same) (subst (λ l. Module (tree a.part e.part) ts l) e.rest.left (whole (tree a.part e.part) a.phrase e.phrase))

-- a directive's first token begins no declaration, and ends no text
decls_avoid : (ds : List DirectiveShape) (t : Lexeme) (us : List Lexeme) (r : TreeShape) (w : List Lexeme) → BeginsDirective t → 9 < rank w → Decls ds r (t ∷ us) w → ⊥
decls_avoid ds t us r w b stop a = by a.part (t ∷ us) a.others a.phrase refl a.rest.left
  where
    by : (es : List DeclShape) (ts vs : List Lexeme) → Many Declaration es ts vs → ts ≡ t ∷ us → vs ≡ w → ⊥
    by es ts vs no_more e left = let is : rank_of t ≡ 9 = directive_rank_of t b in let bad : 9 < rank_of t = subst (λ l. 9 < rank l) (sym left ∙ e) stop in omega arith
    by es ts vs (more {r = d} {us = xs} g l) e left = decl_no_directive t d us xs b (subst (λ l. Declaration d l xs) e g)

all_dropped : (l : List Lexeme) (i : ℕ) → length l ≤ i → drop i l ≡ []
all_dropped [] zero h = refl
all_dropped [] (suc i) h = refl
all_dropped (x ∷ l) zero h = absurd (omega arith)
all_dropped (x ∷ l) (suc i) h = all_dropped l i (omega arith)

shorter : (l : List Lexeme) (i j : ℕ) → i < j → j ≤ length l → drop i l ≡ drop j l → ⊥
shorter l i j lt high e = let a : length (drop i l) ≡ length (drop j l) = ap length e in omega (arith, a, length-drop i l, length-drop j l)

module _ {tokens : List Lexeme} where
  pub module_begin : Stage Module 9 tokens 0 0 (DirectiveRun [])
  module_begin = run_begin DirectiveOf Decls (change Module 9 tokens 0 0 Module (After (Many DirectiveOf) Decls) (λ r ys w stop near g. module_there r ys w g) module_back (begin Module 9 tokens 0 (omega arith)))

  module _ {at : ℕ} (ds : List DirectiveShape) (s : Stage Module 9 tokens 0 at (DirectiveRun ds)) where
    pub directives_end : (DirectiveStands tokens at → ⊥) → Stage Module 9 tokens 0 at (DeclRun ds [])
    directives_end never =
        run_begin Declaration (λ es. Ends (tree ds es))
        (run_ends DirectiveOf Decls ds s (λ x. directive_run_stops (ds ++ x ∷ []))
        (λ x ys w g low near. let f = directive_first x ys w g in never (f.0, near_get tokens at f.0 f.1 (subst (λ l. Near l (drop at tokens)) f.2 near), f.3)))

    module _ (t : DirectiveStands tokens at) {to : ℕ} where
      avoided : at < to → to ≤ length tokens → (us : List Lexeme) → drop at tokens ≡ us ++ drop to tokens → (r : TreeShape) (ys w : List Lexeme) → 9 < rank w → Decls ds r (us ++ ys) w → ⊥
      avoided lt high us spelled r ys w stop c =
          let f : (vs : List Lexeme) × (us ≡ t.0 ∷ vs) = first_read tokens us at to t.0 lt high spelled t.1 in
          decls_avoid ds t.0 (f.0 ++ ys) r w t.2 stop (subst (λ l. Decls ds r (l ++ ys) w) f.1 c)

      pub directives_more : {d : DirectiveShape} (es : List DirectiveShape) → es ≡ ds ++ d ∷ [] → at < to → Reads DirectiveOf 0 tokens at d to → Stage Module 9 tokens 0 to (DirectiveRun es)
      directives_more es same lt p = run_more DirectiveOf Decls ds s (λ x. directive_run_stops (ds ++ x ∷ [])) es same p (avoided lt p.high p.us p.spelled)

      pub directives_fail : Fails DirectiveOf 0 tokens at to → Fails Module 9 tokens 0 to
      directives_fail f = run_fails DirectiveOf Decls ds s (λ x. directive_run_stops (ds ++ x ∷ [])) (λ x. decls_close (ds ++ x ∷ [])) f (avoided (later t.0 t.1 t.2) f.high f.us f.spelled)
        where
          later : (t : Lexeme) → slice_get tokens at ≡ Some t → BeginsDirective t → at < to
          later (Key word.Diagnostic p) is b = fails_later (diagnostic_directive p some_name (plain_rule some_name) false)
              (Mark sign.Open p ∷ (Word some_name.text some_name.place ∷ (Mark sign.Comma p ∷ (Word some_name.text some_name.place ∷ (Mark sign.Close p ∷ (Mark sign.Semicolon p ∷ []))))))
              (omega arith) is (diagnostic some_name p p p p p (rule some_name) no_mark) f
          later (Key word.Requires p) is b = fails_later (requires_directive p (some_name ∷ []) false) (Word some_name.text some_name.place ∷ (Mark sign.Semicolon p ∷ [])) (omega arith) is (requires_names p p (last (name some_name))) f
          later (Key word.Enable p) is b = fails_later (enable_directive p (some_name ∷ []) false) (Word some_name.text some_name.place ∷ (Mark sign.Semicolon p ∷ [])) (omega arith) is (enables_names p p (last (name some_name))) f
          later _ is b = absurd b

  module _ {at : ℕ} (ds : List DirectiveShape) (es : List DeclShape) (s : Stage Module 9 tokens 0 at (DeclRun ds es)) where
    -- the tokens have ended
    pub module_ends : length tokens ≤ at → Reads Module 9 tokens 0 (tree ds es) at
    module_ends le = ended (run_ends Declaration (λ es. Ends (tree ds es)) es s (λ x. decl_run_stops ds (es ++ x ∷ [])) (λ x ys w g low near. let f = decl_first x ys w g in subst (λ l. Near (f.0 ∷ f.1) l) (all_dropped tokens at le) (subst (λ l. Near l (drop at tokens)) f.2 near)))

    -- a declaration begins with a token that ends no text
    begins : (us : List Lexeme) (d : DeclShape) (vs xs : List Lexeme) → (us ≡ [] → ⊥) → Declaration d (us ++ vs) xs → (r : TreeShape) (ys w : List Lexeme) → 9 < rank w → Ends (tree ds es) r (us ++ ys) w → ⊥
    begins [] d vs xs some g r ys w stop e = some refl
    begins (u ∷ us) d vs xs some g r ys w stop e =
        let f = decl_first d ((u ∷ us) ++ vs) xs g in
        let split : u ∷ (us ++ vs) ≡ f.0 ∷ f.1 = f.2 in
        let same : f.0 ≡ u = cc in
        let low : rank_of u < 10 = subst (λ x. rank_of x < 10) same f.4 in
        let bad : 9 < rank_of u = subst (λ l. 9 < rank l) (sym e.left) stop in
        omega arith

    pub decls_more : {d : DeclShape} {to : ℕ} (fs : List DeclShape) → fs ≡ es ++ d ∷ [] → Reads Declaration 0 tokens at d to → Stage Module 9 tokens 0 to (DeclRun ds fs)
    decls_more {d = d} fs same p = run_more Declaration (λ es. Ends (tree ds es)) es s (λ x. decl_run_stops ds (es ++ x ∷ [])) fs same p
        (begins p.us d [] [] (λ none. let f = decl_first d (p.us ++ []) [] (p.phrase []) in let bad : [] ≡ f.0 ∷ f.1 = ap (λ l. l ++ []) (sym none) ∙ f.2 in cc) (p.phrase []))

    -- a declaration fails behind its first token, or none begins here
    module _ {to : ℕ} (f : Fails Declaration 0 tokens at to) where
      fails_on : at < to → Fails Module 9 tokens 0 to
      fails_on lt =
          run_fails Declaration (λ es. Ends (tree ds es)) es s (λ x. decl_run_stops ds (es ++ x ∷ [])) (λ x. closes_end (tree ds (es ++ x ∷ []))) f
          (begins f.us f.begun.0 (f.begun.1 ++ []) [] (λ none. shorter tokens at to lt f.high (f.spelled ∙ ap (λ l. l ++ drop to tokens) none)) (f.begun.2 []))

      none_here : at ≡ to → Reads Module 9 tokens 0 (tree ds es) at
      none_here same =
          ended
          (run_ends Declaration (λ es. Ends (tree ds es)) es s (λ x. decl_run_stops ds (es ++ x ∷ []))
          (λ x ys w g low near.
          let none : f.us ≡ [] = nothing_read f.us (drop to tokens) (ap (λ i. drop i tokens) (sym same) ∙ f.spelled) in
          f.none x ys w (subst (λ l. Declaration x (l ++ ys) w) (sym none) g) low (subst (λ i. Near ys (drop i tokens)) same near)))

      pub module_stops : at < length tokens → IsStop Module tokens 0 to × ((t : TreeShape) → Module t tokens [] → ⊥)
      module_stops lt =
          elim (reached at to f.low) [
            | inl e ↦ (let p = none_here e in (subst (λ i. IsStop Module tokens 0 i) e (stop_of_reads Module 9 (omega arith) tokens 0 at (tree ds es) p), λ t g. none_past Module 9 (omega arith) tokens (tree ds es) t at lt p g))
            | inr l ↦ (let p = fails_on l in (stop_of_fails Module 9 (omega arith) tokens 0 to p, λ t g. none_of_all Module 9 (omega arith) tokens to p t g))
          ]

  pub fails_stops : {to : ℕ} → Fails Module 9 tokens 0 to → IsStop Module tokens 0 to × ((t : TreeShape) → Module t tokens [] → ⊥)
  fails_stops {to = to} p = (stop_of_fails Module 9 (omega arith) tokens 0 to p, λ t g. none_of_all Module 9 (omega arith) tokens to p t g)
