-- What the answers of the parser say of a text.
use Rattle.std.proofs.Common.{◌≡◌, refl, sym, ap, ◌∙◌, subst, ℕ, zero, suc, ◌+◌, ◌<◌, ◌≤◌, List, [], ◌∷◌, ◌++◌, length, take, drop, arith, append_assoc, length-append, length-drop, Option, Some, None, MatchOption, slice_get}
use Rattle.std.proofs.Math.Seq.{take-append_seam}
use Rattle.std.proofs.Math.ListN.{drop_of_length-le}
use Rattle.shade_first.specs.declared.token.Token.{Token}
use Rattle.shade_first.specs.declared.tree.FirstShader.{FirstShader}
use Rattle.shade_first.specs.Form.{Shader}
use Rattle.shade_first.specs.Reads.{Near, Reads, Fails}
use Rattle.shade_first.specs.FirstForm.{Begins, Leaves, at_token, behind, LeavesAt, Spells}
use Rattle.shade_first.specs.Tokens.{Lexes}
use Rattle.shade_first.proofs.LexLaws.{lexes_once}
use Rattle.shade_first.proofs.Stages.{one_token, append-nil}

near_itself : (ys : List Token) → Near ys ys
near_itself [] = tt
near_itself (y ∷ ys) = refl

module _ (tokens us : List Token) (at : ℕ) (high : at ≤ length tokens) (spelled : tokens ≡ us ++ drop at tokens) where
  us_long : length us ≡ at
  us_long = omega (arith, ap length spelled, length-append us (drop at tokens), length-drop at tokens)

  front_is : take at tokens ≡ us
  front_is = ap (λ k. take k tokens) (sym us_long) ∙ ap (λ x. take (length us) x) spelled ∙ take-append_seam us (drop at tokens)

  front_more : (t : Token) → slice_get tokens at ≡ Some t → take (at + 1) tokens ≡ us ++ t ∷ []
  front_more t is =
      let split : tokens ≡ (us ++ t ∷ []) ++ drop (at + 1) tokens = spelled ∙ ap (λ x. us ++ x) (one_token tokens at t is) ∙ sym (append_assoc us (t ∷ []) (drop (at + 1) tokens)) in
      let long : at + 1 ≡ length (us ++ t ∷ []) = omega (arith, us_long, length-append us (t ∷ [])) in
      ap (λ k. take k tokens) long ∙ ap (λ x. take (length (us ++ t ∷ [])) x) split ∙ take-append_seam (us ++ t ∷ []) (drop (at + 1) tokens)

  front_all : length tokens ≤ at → tokens ≡ us
  front_all all = spelled ∙ ap (λ x. us ++ x) (drop_of_length-le tokens all) ∙ append-nil us

  -- the place of a token, or the end
  leaves_from : (stop n : ℕ) → Begins us → ((s : FirstShader) (t : Token) (more : List Token) → slice_get tokens at ≡ Some t → Shader s (us ++ t ∷ more) [] → ⊥) → MatchOption (slice_get tokens at) (n ≡ stop) (λ t. n ≡ t.place.offset) → Leaves tokens stop n
  leaves_from stop n begun never offset = cases (slice_get tokens at) refl offset
    where
      cases : (o : Option Token) → slice_get tokens at ≡ o → MatchOption o (n ≡ stop) (λ t. n ≡ t.place.offset) → Leaves tokens stop n
      cases (Some t) is e =
          subst (Leaves tokens stop) (sym e)
          (at_token at t is (subst Begins (sym front_is) begun)
          (λ b. never b.0 t b.1 is (subst (λ x. Shader b.0 x []) (ap (λ x. x ++ b.1) (front_more t is) ∙ append_assoc us (t ∷ []) b.1) b.2)))
      cases None is e = subst (Leaves tokens stop) (sym e) (behind (subst Begins (sym (front_all (ended tokens at is))) begun))
        where
          ended : (ts : List Token) (i : ℕ) → slice_get ts i ≡ None → length ts ≤ i
          ended [] i h = omega arith
          ended (t ∷ ts) zero h = let bad : Some t ≡ None = h in absurd (cc)
          ended (t ∷ ts) (suc i) h = let l : length ts ≤ i = ended ts i h in omega arith

module _ (text : List ℕ) (tokens : List Token) (stop : ℕ) (short : length text ≤ 4096) (lexed : Lexes text 0 tokens stop) where
  -- what else the text spells, its tokens spell
  other : (s : FirstShader) → Spells text s → Shader s tokens []
  other s p = subst (λ ts. Shader s ts []) (sym (lexes_once text 0 tokens p.tokens stop (length text) lexed p.lexed).tokens) p.spelled

  no_shader : (at n : ℕ) → ((s : FirstShader) → Spells text s → ⊥) → Leaves tokens stop n → LeavesAt text n
  no_shader at n none leaves = record { none = none; long = λ h. absurd (omega arith); short = λ h. record { tokens = tokens; stop = stop; lexed = lexed; leaves = leaves } }

  pub text_fails : (at n : ℕ) → Fails Shader tokens 0 at → MatchOption (slice_get tokens at) (n ≡ stop) (λ t. n ≡ t.place.offset) → LeavesAt text n
  text_fails at n f offset =
      no_shader at n
      (λ s p. f.none s (drop at tokens) [] (subst (λ ts. Shader s ts []) f.spelled (other s p)) (near_itself (drop at tokens)))
      (leaves_from tokens f.us at f.high f.spelled stop n
      (f.begun.0, f.begun.1 ++ [], f.begun.2 [])
      (λ s t more is g. f.none s (t ∷ more) [] g (subst (Near (t ∷ more)) (sym (one_token tokens at t is)) refl))
      offset)

  module _ (r : FirstShader) (end : ℕ) (p : Reads Shader tokens 0 r end) where
    begun : Begins p.us
    begun = (r, [], subst (λ x. Shader r x []) (refl) (p.phrase []))

    pub text_longer : (n : ℕ) → end < length tokens → MatchOption (slice_get tokens end) (n ≡ stop) (λ t. n ≡ t.place.offset) → LeavesAt text n
    text_longer n more offset =
        no_shader end n
        (λ s q. let o = p.only s (drop end tokens) [] (subst (λ ts. Shader s ts []) p.spelled (other s q)) (near_itself (drop end tokens)) in let none : length (drop end tokens) ≡ 0 = ap length o.1 in omega (arith, none, length-drop end tokens))
        (leaves_from tokens p.us end p.high p.spelled stop n begun
        (λ s t more is g. let o = p.only s (t ∷ more) [] g (subst (Near (t ∷ more)) (sym (one_token tokens end t is)) refl) in let bad : t ∷ more ≡ [] = o.1 in cc)
        offset)

    pub text_stops : length tokens ≤ end → stop < length text → LeavesAt text stop
    text_stops all early =
        no_shader end stop
        (λ s q. let e : stop ≡ length text = (lexes_once text 0 tokens q.tokens stop (length text) lexed q.lexed).ends in omega arith)
        (behind (subst Begins (sym (front_all tokens p.us end p.high p.spelled all)) begun))

    pub text_spells : length tokens ≤ end → stop ≡ length text → Spells text r
    text_spells all whole = record {
      short = short;
      tokens = tokens;
      lexed = subst (λ k. Lexes text 0 tokens k) whole lexed;
      spelled = subst (λ x. Shader r x []) (append-nil p.us ∙ sym (front_all tokens p.us end p.high p.spelled all)) (p.phrase []);
    }

pub too_long : (text : List ℕ) → 4096 < length text → LeavesAt text 4096
too_long text h = record { none = λ s p. absurd (omega (arith, p.short)); long = λ l. refl; short = λ l. absurd (omega arith) }
