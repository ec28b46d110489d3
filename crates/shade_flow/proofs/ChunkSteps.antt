-- One more chunk of a function's definitions.
use Rattle.std.proofs.Common.{◌≡◌, true, ℕ, zero, suc, ◌-◌, ◌^◌, ◌≤◌, List, [], ◌∷◌, ◌++◌, length, refl, ap, sym, ◌∙◌, arith, subst, inl, inr, append_assoc}
use Rattle.std.specs.Prelude.{All, replicate}
use Rattle.std.specs.Bool.{◌==◌}
use Rattle.std.proofs.lemmas.Bool.{true≢false}
use Rattle.std.proofs.lemmas.Bool.Decides.{eqb_tells}
use Rattle.std.proofs.lemmas.List.{append-nil}
use Rattle.std.proofs.lemmas.List.Elements.{All-append}
use Rattle.shade_flow.specs.declared.definition.Defined.{Defined}
use Rattle.shade_flow.specs.declared.chunk.Chunk.{Chunk}
use Rattle.shade_flow.specs.declared.routes.Routes.{Routes}
use Rattle.shade_flow.specs.Bits.{AreReached}
use Rattle.shade_flow.specs.Tables.{made_at, begun_at, AreBits, AreStopped}
use Rattle.shade_flow.specs.Routes.{IsSearched, defined_in}

-- a chunk of what the search gave for the tables of some definitions
pub searched : (routes : Routes) (definitions : List Defined) (chunk : Chunk) (starts makes ones passes : List ℕ) → chunk.definitions.items ≡ definitions → length definitions ≤ 64
    → AreReached routes.graph.edges starts makes passes chunk.rows.items → AreBits (begun_at routes.first) definitions (length definitions) routes.nodes starts → AreBits made_at definitions (length definitions) routes.nodes makes
    → ones ≡ replicate routes.nodes (2 ^ 64 - 1) → AreStopped definitions routes.writes.items ones passes → IsSearched routes chunk
searched routes definitions chunk starts makes ones passes e few reached begun made all stopped = record {
  few = subst (λ (l : List Defined). length l ≤ 64) (sym e) few;
  starts = starts;
  makes = makes;
  passes = passes;
  reached = reached;
  begun = subst (λ (l : List Defined). AreBits (begun_at routes.first) l (length l) routes.nodes starts) (sym e) begun;
  made = subst (λ (l : List Defined). AreBits made_at l (length l) routes.nodes makes) (sym e) made;
  stopped = subst (λ (l : List Defined). AreStopped l routes.writes.items (replicate routes.nodes (2 ^ 64 - 1)) passes) (sym e) (subst (λ (o : List ℕ). AreStopped definitions routes.writes.items o passes) all stopped);
}

defined_more : (chunks : List Chunk) (chunk : Chunk) → defined_in (chunks ++ chunk ∷ []) ≡ defined_in chunks ++ chunk.definitions.items
defined_more [] chunk = append-nil chunk.definitions.items
defined_more (first ∷ chunks) chunk = ap (λ (l : List Defined). first.definitions.items ++ l) (defined_more chunks chunk) ∙ sym (append_assoc first.definitions.items (defined_in chunks) chunk.definitions.items)

pub chunk_added : (chunks new : List Chunk) (chunk : Chunk) (rest now later all : List Defined) → new ≡ chunks ++ chunk ∷ [] → rest ≡ now ++ later → chunk.definitions.items ≡ now → defined_in chunks ++ rest ≡ all → defined_in new ++ later ≡ all
chunk_added chunks new chunk rest now later all e split is h =
    ap (λ (cs : List Chunk). defined_in cs ++ later) e
    ∙ (ap (λ (l : List Defined). l ++ later) (defined_more chunks chunk ∙ ap (λ (l : List Defined). defined_in chunks ++ l) is)
    ∙ (append_assoc (defined_in chunks) now later ∙ (ap (λ (l : List Defined). defined_in chunks ++ l) (sym split) ∙ h)))

pub rows_added : (routes : Routes) (chunks new : List Chunk) (chunk : Chunk) → new ≡ chunks ++ chunk ∷ [] → All (IsSearched routes) chunks → IsSearched routes chunk → All (IsSearched routes) new
rows_added routes chunks new chunk e all one = subst (λ (cs : List Chunk). All (IsSearched routes) cs) (sym e) (All-append (IsSearched routes) chunks (chunk ∷ []) all single)
  where
    single : All (IsSearched routes) (chunk ∷ [])
    single zero d lt = one
    single (suc k) d lt = absurd (omega (arith, lt))

nothing_left : (rest : List Defined) → true ≡ (length rest == 0) → rest ≡ []
nothing_left [] e = refl
nothing_left (d ∷ rest) e = elim (eqb_tells (length (d ∷ rest)) 0) [ inl s ↦ absurd (omega (arith, s.1)) | inr o ↦ absurd (true≢false (e ∙ o.0)) ]

pub all_added : (chunks : List Chunk) (rest all : List Defined) → true ≡ (length rest == 0) → defined_in chunks ++ rest ≡ all → defined_in chunks ≡ all
all_added chunks rest all empty h = sym (append-nil (defined_in chunks)) ∙ (ap (λ (l : List Defined). defined_in chunks ++ l) (sym (nothing_left rest empty)) ∙ h)
