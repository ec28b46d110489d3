-- Tokens of the form stand in some text.
use Rattle.std.proofs.Common.{◌≡◌, refl, sym, ap, ◌∙◌, subst, ℕ, ◌+◌, ◌≤◌, List, [], ◌∷◌, ◌++◌, length, drop, length-append, append_assoc, codes, arith}
use Rattle.std.specs.Fmt.{decimal}
use Rattle.std.proofs.Math.Seq.{drop-append_seam}
use Rattle.std.proofs.lemmas.List.{map-append, drop-map}
use Rattle.shade_base.specs.declared.place.Place.{Place}
use Rattle.shade_first.specs.declared.token.Mark.TheVariants.{At, Open, Close, OpenBrace, CloseBrace, Colon, Semicolon, Less}
use Rattle.shade_first.specs.declared.token.Kind.{Kind}
use Rattle.shade_first.specs.declared.token.Kind.TheVariants as kind
use Rattle.shade_first.specs.declared.token.Token.{Token}
use Rattle.shade_first.specs.declared.tree.FirstItem.{FirstItem}
use Rattle.shade_first.specs.declared.tree.FirstShader.{FirstShader}
use Rattle.shade_first.specs.Lines.{place_of}
use Rattle.shade_first.specs.Tokens.{IsWord, front_of, size_of, Lexes, stops, blank, token}
use Rattle.shade_first.specs.Form.{token_of, Fixed, done, more, if_word, barrier_word, barrier_end, condition_begin, condition_end, opening, before_name, before_parameter, before_body, Item, Block, barrier, branch, ends, next, Shader}
use Rattle.shade_first.specs.FirstForm.{Begins}
use Rattle.shade_first.specs.Continuations.{kinds, BeginsText, BeginningsAreTexts}
use Rattle.shade_first.proofs.Printing.{spelling, Printable, mark_printable, size_spelling, word_printable, decimal_printable, unsigned_printable}
use Rattle.shade_first.proofs.Again.{ShaderAgain, shader_again}

abbrev AllPrintable : List Kind → Type 0
AllPrintable [] = Unit {0}
AllPrintable (k ∷ ks) = Printable k × AllPrintable ks

placed_all : (k : Kind) (p : Place) (ts us : List Token) → Printable k → ts ≡ token_of k p ∷ us → AllPrintable (kinds us) → AllPrintable (kinds ts)
placed_all k p ts us one is all = subst (λ x. AllPrintable (kinds x)) (sym is) (one, all)

fixed_all : (ks : List Kind) (ts us : List Token) → AllPrintable ks → Fixed ks ts us → AllPrintable (kinds us) → AllPrintable (kinds ts)
fixed_all ks ts us each (done xs) all = all
fixed_all ks ts us each (more k p {us = vs} g f) all = placed_all k p ts vs each.0 g.is (fixed_all _ vs us each.1 f all)

fixed_word : (w : List ℕ) → IsWord w → Printable (kind.Word w)
fixed_word w is = word_printable w is

mutual
  item_all : (parameter : List ℕ) (braces : ℕ) (i : FirstItem) (ts us : List Token) → Printable (kind.Word parameter) → Item parameter braces i ts us → AllPrintable (kinds us) → AllPrintable (kinds ts)
  item_all parameter braces i ts us name (barrier b p {us = vs} g f) all =
      placed_all barrier_word p ts vs (fixed_word (codes "workgroupBarrier") refl) g.is (fixed_all barrier_end vs us (mark_printable Open, (mark_printable Close, (mark_printable Semicolon, tt))) f all)
  item_all parameter braces i ts us name (branch b p q n {is = is} o {us = u1} {vs = u2} {ws = u3} {xs = u4} {ys = u5} lt g f l m r s) all =
      placed_all if_word p ts u1 (fixed_word (codes "if") refl) g.is
      (fixed_all (condition_begin parameter) u1 u2 (mark_printable Open, (name, tt)) f
      (placed_all (kind.Mark Less) q u2 u3 (mark_printable Less) l.is
      (placed_all (kind.Number (decimal n ++ codes "u")) m.place u3 u4 (unsigned_printable n m.most) m.is
      (fixed_all condition_end u4 u5 (mark_printable Close, (mark_printable OpenBrace, tt)) r
      (block_all parameter (b + 1) is o u5 us name s all)))))

  block_all : (parameter : List ℕ) (braces : ℕ) (is : List FirstItem) (e : Place) (ts us : List Token) → Printable (kind.Word parameter) → Block parameter braces is e ts us → AllPrintable (kinds us) → AllPrintable (kinds ts)
  block_all parameter braces is e ts us name (ends b p g) all = placed_all (kind.Mark CloseBrace) e ts us (mark_printable CloseBrace) g.is all
  block_all parameter braces is e ts us name (next b i {is = js} p {us = vs} g f) all = item_all parameter b i ts vs name g (block_all parameter b js e vs us name f all)

shader_all : (s : FirstShader) (ts : List Token) → Shader s ts [] → AllPrintable (kinds ts)
shader_all s ts g =
    let size : s.size ≤ 256 = g.lanes.most in
    let name : Printable (kind.Word s.name) = fixed_word s.name g.name.word in
    let parameter : Printable (kind.Word s.parameter) = fixed_word s.parameter g.parameter.word in
    fixed_all opening ts g.t1 (mark_printable At, (fixed_word (codes "compute") refl, (mark_printable At, (fixed_word (codes "workgroup_size") refl, (mark_printable Open, tt))))) g.opens
    (placed_all (kind.Number (decimal s.size)) g.lanes.place g.t1 g.t2 (decimal_printable s.size (omega arith)) g.lanes.is
    (fixed_all before_name g.t2 g.t3 (mark_printable Close, (fixed_word (codes "fn") refl, tt)) g.named
    (placed_all (kind.Word s.name) s.place g.t3 g.t4 name g.name.is
    (fixed_all before_parameter g.t4 g.t5 (mark_printable Open, (mark_printable At, (fixed_word (codes "builtin") refl, (mark_printable Open, (fixed_word (codes "local_invocation_index") refl, (mark_printable Close, tt)))))) g.taking
    (placed_all (kind.Word s.parameter) g.q g.t5 g.t6 parameter g.parameter.is
    (fixed_all before_body g.t6 g.t7 (mark_printable Colon, (fixed_word (codes "u32") refl, (mark_printable Close, (mark_printable OpenBrace, tt)))) g.typed
    (block_all s.parameter 1 s.items s.end g.t7 [] parameter g.body tt)))))))

-- a blank behind each
print : List Kind → List ℕ
print [] = []
print (k ∷ ks) = spelling k ++ 32 ∷ print ks

record Printed (text : List ℕ) (at : ℕ) (ks : List Kind) : Type 0 where
  tokens : List Token
  lexed : Lexes text at tokens (length text)
  same : kinds tokens ≡ ks

print_lexes : (ks : List Kind) → AllPrintable ks → (text before : List ℕ) → text ≡ before ++ print ks → Printed text (length before) ks
unfolding print
print_lexes [] each text before is = record {
  tokens = [];
  lexed =
      let none : drop (length before) text ≡ [] = ap (drop (length before)) is ∙ drop-append_seam before [] in
      let long : length before ≡ length text = omega (arith, ap length is, length-append before []) in
      subst (λ k. Lexes text (length before) [] k) long (stops (length before) (ap front_of none));
  same = refl;
}
print_lexes (k ∷ ks) each text before is =
    let word : List ℕ = before ++ spelling k in
    let whole : text ≡ word ++ 32 ∷ print ks = is ∙ sym (append_assoc before (spelling k) (32 ∷ print ks)) in
    let next : List ℕ = word ++ 32 ∷ [] in
    let further : text ≡ next ++ print ks = whole ∙ sym (append_assoc word (32 ∷ []) (print ks)) in
    let rest : Printed text (length next) ks = print_lexes ks each.1 text next further in
    let here : drop (length before) text ≡ spelling k ++ 32 ∷ print ks = ap (drop (length before)) is ∙ drop-append_seam before (spelling k ++ 32 ∷ print ks) in
    let at_blank : length word ≡ length before + size_of k = omega (arith, length-append before (spelling k), size_spelling k) in
    let behind : length next ≡ length before + size_of k + 1 = omega (arith, length-append word (32 ∷ []), at_blank) in
    let there : drop (length before + size_of k) text ≡ 32 ∷ print ks = ap (λ n. drop n text) (sym at_blank) ∙ ap (drop (length word)) whole ∙ drop-append_seam word (32 ∷ print ks) in
    record {
      tokens = token_of k (place_of text (length before)) ∷ rest.tokens;
      lexed =
          token (length before) k (ap front_of here ∙ each.0.front (print ks))
          (blank (length before + size_of k) (ap front_of there) (subst (λ n. Lexes text n rest.tokens (length text)) behind rest.lexed));
      same = ap (λ x. k ∷ x) rest.same;
    }

to_text : (us : List Token) → Begins us → BeginsText us
to_text us b =
    let ts : List Token = us ++ b.1 in
    let printed : Printed (print (kinds ts)) 0 (kinds ts) = print_lexes (kinds ts) (shader_all b.0 ts b.2) (print (kinds ts)) [] refl in
    let again : ShaderAgain printed.tokens [] = shader_again b.0 ts printed.tokens [] b.2 printed.same in
    record {
      text = print (kinds ts);
      tokens = printed.tokens;
      lexed = printed.lexed;
      shader = again.shader;
      spelled = subst (λ x. Shader again.shader printed.tokens x) (empty again.left again.same) again.phrase;
      others = kinds b.1;
      front = printed.same ∙ map-append (λ (t : Token). t.kind) us b.1;
    }
  where
    empty : (ts : List Token) → kinds ts ≡ [] → ts ≡ []
    empty [] e = refl
    empty (t ∷ ts) e = let bad : t.kind ∷ kinds ts ≡ [] = e in absurd (cc)

from_text : (us : List Token) → BeginsText us → Begins us
from_text us b =
    let ws : List Token = drop (length us) b.tokens in
    let behind : kinds ws ≡ b.others = sym (drop-map (λ (t : Token). t.kind) (length us) b.tokens) ∙ ap (drop (length us)) b.front ∙ ap (λ n. drop n (kinds us ++ b.others)) (sym (length-kinds us)) ∙ drop-append_seam (kinds us) b.others in
    let all : kinds (us ++ ws) ≡ kinds b.tokens = map-append (λ (t : Token). t.kind) us ws ∙ ap (λ x. kinds us ++ x) behind ∙ sym b.front in
    let again : ShaderAgain (us ++ ws) [] = shader_again b.shader b.tokens (us ++ ws) [] b.spelled all in
    (again.shader, ws, subst (λ x. Shader again.shader (us ++ ws) x) (empty again.left again.same) again.phrase)
  where
    empty : (ts : List Token) → kinds ts ≡ [] → ts ≡ []
    empty [] e = refl
    empty (t ∷ ts) e = let bad : t.kind ∷ kinds ts ≡ [] = e in absurd (cc)

    length-kinds : (ts : List Token) → length (kinds ts) ≡ length ts
    length-kinds [] = refl
    length-kinds (t ∷ ts) = let h : length (kinds ts) ≡ length ts = length-kinds ts in omega arith

pub beginnings_are_texts : BeginningsAreTexts
beginnings_are_texts us = (to_text us, from_text us)
