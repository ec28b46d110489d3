-- The whole.
use Rattle.std.proofs.Common.{refl, sym, subst, ℕ, ◌≤◌, List, length}
use Rattle.shade_base.specs.declared.place.Place.{Place}
use Rattle.shade_first.specs.declared.token.Token.{Token}
use Rattle.shade_first.specs.declared.tree.FirstItem.{FirstItem}
use Rattle.shade_first.specs.declared.tree.FirstShader.{FirstShader}
use Rattle.shade_first.specs.Reads.{Reads, Fails}
use Rattle.shade_first.specs.Form.{Sequence, Lanes, Name, Block, Body, opening, before_name, before_parameter, before_body, Shader}
use Rattle.shade_first.proofs.Stages.{After, Ends, Closes, Stage, closes_end, closes_after, begin, change, phrase, phrase_fails, finish}
use Rattle.shade_first.proofs.Tokens.{lanes_closes, name_closes, sequence_closes}
use Rattle.shade_first.proofs.Blocks.{body_closes}

abbrev pub shader_of : ℕ → List ℕ × Place → List ℕ → List FirstItem × Place → FirstShader
shader_of n d parameter b = record { size = n; name = d.0; place = d.1; parameter = parameter; items = b.0; end = b.1 }

-- what follows, from its last part backwards
abbrev C7 : ℕ → List ℕ × Place → List ℕ × Place → FirstShader → List Token → List Token → Type 0
C7 n d e = After (Body e.0 1) (λ b. Ends (shader_of n d e.0 b))

abbrev C6 : ℕ → List ℕ × Place → List ℕ × Place → FirstShader → List Token → List Token → Type 0
C6 n d e = After (Sequence before_body) (λ u. C7 n d e)

abbrev C5 : ℕ → List ℕ × Place → FirstShader → List Token → List Token → Type 0
C5 n d = After Name (C6 n d)

abbrev C4 : ℕ → List ℕ × Place → FirstShader → List Token → List Token → Type 0
C4 n d = After (Sequence before_parameter) (λ u. C5 n d)

abbrev C3 : ℕ → FirstShader → List Token → List Token → Type 0
C3 n = After Name (C4 n)

abbrev C2 : ℕ → FirstShader → List Token → List Token → Type 0
C2 n = After (Sequence before_name) (λ u. C3 n)

abbrev C1 : FirstShader → List Token → List Token → Type 0
C1 = After Lanes C2

abbrev C0 : FirstShader → List Token → List Token → Type 0
C0 = After (Sequence opening) (λ u. C1)

closes7 : (n : ℕ) (d e : List ℕ × Place) → Closes (C7 n d e)
closes7 n d e = closes_after (Body e.0 1) (λ b. Ends (shader_of n d e.0 b)) (body_closes e.0 1) (λ b. closes_end (shader_of n d e.0 b))

closes6 : (n : ℕ) (d e : List ℕ × Place) → Closes (C6 n d e)
closes6 n d e = closes_after (Sequence before_body) (λ u. C7 n d e) (sequence_closes before_body) (λ u. closes7 n d e)

closes5 : (n : ℕ) (d : List ℕ × Place) → Closes (C5 n d)
closes5 n d = closes_after Name (C6 n d) name_closes (closes6 n d)

closes4 : (n : ℕ) (d : List ℕ × Place) → Closes (C4 n d)
closes4 n d = closes_after (Sequence before_parameter) (λ u. C5 n d) (sequence_closes before_parameter) (λ u. closes5 n d)

closes3 : (n : ℕ) → Closes (C3 n)
closes3 n = closes_after Name (C4 n) name_closes (closes4 n)

closes2 : (n : ℕ) → Closes (C2 n)
closes2 n = closes_after (Sequence before_name) (λ u. C3 n) (sequence_closes before_name) (λ u. closes3 n)

closes1 : Closes C1
closes1 = closes_after Lanes C2 lanes_closes closes2

forth : (s : FirstShader) (ys w : List Token) → Shader s ys w → C0 s ys w
forth s ys w g = record {
  part = tt;
  others = g.t1;
  phrase = g.opens;
  rest = record {
    part = s.size;
    others = g.t2;
    phrase = g.lanes;
    rest = record {
      part = tt;
      others = g.t3;
      phrase = g.named;
      rest = record {
        part = (s.name, s.place);
        others = g.t4;
        phrase = g.name;
        rest = record {
          part = tt;
          others = g.t5;
          phrase = g.taking;
          rest = record {
            part = (s.parameter, g.q);
            others = g.t6;
            phrase = g.parameter;
            rest = record {
              part = tt;
              others = g.t7;
              phrase = g.typed;
              rest = record {
                part = (s.items, s.end);
                others = w;
                phrase = g.body;
                rest = record { same = refl; left = refl };
              };
            };
          };
        };
      };
    };
  };
}

back : (s : FirstShader) (ys w : List Token) → C0 s ys w → Shader s ys w
back s ys w a =
    let b = a.rest in
    let c = b.rest in
    let d = c.rest in
    let e = d.rest in
    let f = e.rest in
    let g = f.rest in
    let h = g.rest in
    let k = h.rest in
    let r : FirstShader = shader_of b.part d.part f.part.0 h.part in
    let whole : Shader r ys w = record {
      t1 = a.others;
      t2 = b.others;
      t3 = c.others;
      t4 = d.others;
      t5 = e.others;
      t6 = f.others;
      t7 = g.others;
      q = f.part.1;
      opens = a.phrase;
      lanes = b.phrase;
      named = c.phrase;
      name = d.phrase;
      taking = e.phrase;
      parameter = f.phrase;
      typed = g.phrase;
      body = subst (λ x. Block f.part.0 1 h.part.0 h.part.1 g.others x) k.left h.phrase;
    } in
    subst (λ x. Shader x ys w) (sym k.same) whole

module _ (tokens : List Token) (from : ℕ) (h : from ≤ length tokens) where
  stage0 : Stage Shader tokens from from C0
  stage0 = change Shader tokens from from Shader C0 (λ s ys w g near. forth s ys w g) back (begin Shader tokens from h)

  pub opening_fails : (to : ℕ) → Fails (Sequence opening) tokens from to → Fails Shader tokens from to
  opening_fails to f = phrase_fails Shader tokens from (Sequence opening) (λ u. C1) from to (λ u. closes1) stage0 f

  module _ (a1 : ℕ) (r1 : Reads (Sequence opening) tokens from tt a1) where
    stage1 : Stage Shader tokens from a1 C1
    stage1 = phrase Shader tokens from (Sequence opening) (λ u. C1) from a1 tt stage0 r1

    pub lanes_fail : (to : ℕ) → Fails Lanes tokens a1 to → Fails Shader tokens from to
    lanes_fail to f = phrase_fails Shader tokens from Lanes C2 a1 to closes2 stage1 f

    module _ (n a2 : ℕ) (r2 : Reads Lanes tokens a1 n a2) where
      stage2 : Stage Shader tokens from a2 (C2 n)
      stage2 = phrase Shader tokens from Lanes C2 a1 a2 n stage1 r2

      pub before_name_fails : (to : ℕ) → Fails (Sequence before_name) tokens a2 to → Fails Shader tokens from to
      before_name_fails to f = phrase_fails Shader tokens from (Sequence before_name) (λ u. C3 n) a2 to (λ u. closes3 n) stage2 f

      module _ (a3 : ℕ) (r3 : Reads (Sequence before_name) tokens a2 tt a3) where
        stage3 : Stage Shader tokens from a3 (C3 n)
        stage3 = phrase Shader tokens from (Sequence before_name) (λ u. C3 n) a2 a3 tt stage2 r3

        pub name_fail : (to : ℕ) → Fails Name tokens a3 to → Fails Shader tokens from to
        name_fail to f = phrase_fails Shader tokens from Name (C4 n) a3 to (closes4 n) stage3 f

        module _ (name : List ℕ) (p : Place) (a4 : ℕ) (r4 : Reads Name tokens a3 (name, p) a4) where
          stage4 : Stage Shader tokens from a4 (C4 n (name, p))
          stage4 = phrase Shader tokens from Name (C4 n) a3 a4 (name, p) stage3 r4

          pub before_parameter_fails : (to : ℕ) → Fails (Sequence before_parameter) tokens a4 to → Fails Shader tokens from to
          before_parameter_fails to f = phrase_fails Shader tokens from (Sequence before_parameter) (λ u. C5 n (name, p)) a4 to (λ u. closes5 n (name, p)) stage4 f

          module _ (a5 : ℕ) (r5 : Reads (Sequence before_parameter) tokens a4 tt a5) where
            stage5 : Stage Shader tokens from a5 (C5 n (name, p))
            stage5 = phrase Shader tokens from (Sequence before_parameter) (λ u. C5 n (name, p)) a4 a5 tt stage4 r5

            pub parameter_fails : (to : ℕ) → Fails Name tokens a5 to → Fails Shader tokens from to
            parameter_fails to f = phrase_fails Shader tokens from Name (C6 n (name, p)) a5 to (closes6 n (name, p)) stage5 f

            module _ (parameter : List ℕ) (q : Place) (a6 : ℕ) (r6 : Reads Name tokens a5 (parameter, q) a6) where
              stage6 : Stage Shader tokens from a6 (C6 n (name, p) (parameter, q))
              stage6 = phrase Shader tokens from Name (C6 n (name, p)) a5 a6 (parameter, q) stage5 r6

              pub before_body_fails : (to : ℕ) → Fails (Sequence before_body) tokens a6 to → Fails Shader tokens from to
              before_body_fails to f = phrase_fails Shader tokens from (Sequence before_body) (λ u. C7 n (name, p) (parameter, q)) a6 to (λ u. closes7 n (name, p) (parameter, q)) stage6 f

              module _ (a7 : ℕ) (r7 : Reads (Sequence before_body) tokens a6 tt a7) where
                stage7 : Stage Shader tokens from a7 (C7 n (name, p) (parameter, q))
                stage7 = phrase Shader tokens from (Sequence before_body) (λ u. C7 n (name, p) (parameter, q)) a6 a7 tt stage6 r7

                pub body_fail : (to : ℕ) → Fails (Body parameter 1) tokens a7 to → Fails Shader tokens from to
                body_fail to f = phrase_fails Shader tokens from (Body parameter 1) (λ b. Ends (shader_of n (name, p) parameter b)) a7 to (λ b. closes_end (shader_of n (name, p) parameter b)) stage7 f

                pub shader_reads : (items : List FirstItem) (end : Place) (to : ℕ) → Reads (Body parameter 1) tokens a7 (items, end) to → Reads Shader tokens from (shader_of n (name, p) parameter (items, end)) to
                shader_reads items end to r =
                    finish Shader tokens from to (shader_of n (name, p) parameter (items, end)) (shader_of n (name, p) parameter (items, end)) refl
                    (phrase Shader tokens from (Body parameter 1) (λ b. Ends (shader_of n (name, p) parameter b)) a7 to (items, end) stage7 r)
