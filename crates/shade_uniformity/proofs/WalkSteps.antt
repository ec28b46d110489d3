-- One turn of the walk: one more statement of a list, and one more part of a switch.
use Rattle.std.proofs.Common.{◌≡◌, refl, sym, ap, ap₂, ◌∙◌, ℕ, ◌+◌, ◌<◌, Bool, true, false, not, List, [], ◌∷◌, ◌++◌, length, map, drop, get_or, append_assoc}
use Rattle.std.specs.Prelude.{if◌then◌else◌}
use Rattle.std.proofs.lemmas.List.{append-nil, map-append}
use Rattle.shade_core.specs.declared.behaviour.Behaviour.{Behaviour}
use Rattle.shade_core.specs.declared.statement.Act.{out-Act}
use Rattle.shade_core.specs.declared.statement.Act.TheOpen as act
use Rattle.shade_core.specs.declared.statement.CoreStatement.{CoreStatement}
use Rattle.shade_core.specs.declared.statement.SwitchPart.{SwitchPart, out-SwitchPart, fold_out-SwitchPart}
use Rattle.shade_core.specs.Code.{Code, done, parts_from, act_before, statement_before, part_before, act_code, statement_code, part_code, code_of}
use Rattle.shade_core.specs.Behaviour.{after_switch, behaviour, branch_behaviour, switch_behaviour, loop_behaviour}
use Rattle.shade_core.specs.Standing.{Case, standing, switches, act_head}
use Rattle.shade_core.proofs.CodeLaws.{layer, act_is, statement_is, turn_next, parts_same, drop_here}
use Rattle.shade_graph.specs.declared.node.Node.{Node}
use Rattle.shade_graph.specs.declared.node.Node.TheVariants.{Start, After, Part}
use Rattle.shade_graph.specs.Graph.{end_of}
use Rattle.shade_graph.proofs.Turns.{turn}
use Rattle.shade_uniformity.specs.declared.walk.PartSpan.{PartSpan}
use Rattle.shade_uniformity.specs.declared.walk.Spot.{Spot}
use Rattle.shade_uniformity.specs.Visits.{Layer, Visit, visit, visits, part_visits, span, spans_of, visit_of, AreAnalysed, layer_inner, layer_spans, statement_visits}
use Rattle.shade_uniformity.proofs.FewLaws.{cases_are}
use Rattle.shade_uniformity.proofs.VisitLaws.{listed_visit, visit_listed}

-- what follows, where control goes on
abbrev on : Bool → List Visit → List Visit
on goes rest = if goes then rest else []

-- the statement of a layer for itself, behind which control goes on like this
abbrev own : Node → ℕ → Layer → Behaviour → List Visit
own a n y b = layer_inner n y ++ visit (standing n (act_head y)) a b (layer_spans n y) ∷ []

layer_visits : (y : Layer) (a : Node) (n : ℕ) (rest : Code) → visits a (act_before (layer y) n rest) ≡ own a n y (behaviour (act_before (layer y) 0 done)) ++ on (behaviour (act_before (layer y) 0 done)).next (visits (After n) rest)
layer_visits (act.If cond one two) a n rest =
    ap (λ (b : Behaviour). own a n (act.If cond one two) b ++ on b.next (visits (After n) rest)) (sym (turn_next (branch_behaviour (code_of one) (code_of two))))
layer_visits (act.Switch selector parts) a n rest =
    let ways : switch_behaviour (parts_from n 0 (map part_code parts)) ≡ behaviour (act_before (layer (act.Switch selector parts)) 0 done) =
    ap after_switch (parts_same parts n 0 0 0) ∙ sym (turn_next (after_switch (behaviour (parts_from 0 0 (map part_code parts))))) in
    ap₂ (λ (cs : List Case) (b : Behaviour). (part_visits (parts_from n 0 (map part_code parts)) ++ visit (standing n (switches selector cs)) a b (spans_of (parts_from n 0 (map part_code parts))) ∷ []) ++ on b.next (visits (After n) rest))
    (cases_are parts n 0) ways
layer_visits (act.Loop body continuing leave) a n rest =
    ap (λ (b : Behaviour). own a n (act.Loop body continuing leave) b ++ on b.next (visits (After n) rest)) (sym (turn_next (loop_behaviour (code_of body) (code_of continuing) leave)))
layer_visits (act.Set op args) a n rest = refl
layer_visits (act.Load view) a n rest = refl
layer_visits (act.Declare local value) a n rest = refl
layer_visits (act.Store view value) a n rest = refl
layer_visits (act.Atomic op view args) a n rest = refl
layer_visits (act.Call function args) a n rest = refl
layer_visits (act.Barrier space severity) a n rest = refl
layer_visits (act.UniformLoad view severity) a n rest = refl
layer_visits (act.Length view) a n rest = refl
layer_visits act.Break a n rest = refl
layer_visits act.Continue a n rest = refl
layer_visits (act.Return value) a n rest = refl

first_visits : (s : CoreStatement) (a : Node) (rest : Code) → visits a (statement_code s rest) ≡ statement_visits a s ++ on (behaviour (act_code s.act 0 done)).next (visits (After s.number) rest)
first_visits s a rest =
    ap (λ f. visits a (f rest)) (statement_is s)
    ∙ (ap (λ f. visits a (f s.number rest)) (act_is s.act)
    ∙ (layer_visits (out-Act s.act) a s.number rest
    ∙ ap (λ f. own a s.number (out-Act s.act) (behaviour (f 0 done)) ++ on (behaviour (f 0 done)).next (visits (After s.number) rest)) (sym (act_is s.act))))

-- ---- one more statement

module _ (xs : List CoreStatement) (i : ℕ) (x : CoreStatement) (b : Behaviour) (lt : i < length xs) (is : x ≡ get_or xs i x) (e : b ≡ behaviour (act_code x.act 0 done)) where
  visits_here : (a : Node) → visits a (code_of (drop i xs)) ≡ statement_visits a x ++ on b.next (visits (After x.number) (code_of (drop (i + 1) xs)))
  visits_here a =
      ap (λ ys. visits a (code_of ys)) (drop_here xs i x lt is)
      ∙ (first_visits x a (code_of (drop (i + 1) xs)) ∙ ap (λ (c : Behaviour). statement_visits a x ++ on c.next (visits (After x.number) (code_of (drop (i + 1) xs)))) (sym e))

  goes : (next : Bool) → not next ≡ false → (rest : List Visit) → on next rest ≡ rest
  goes true h rest = refl
  goes false h rest = cc

  stops : (next : Bool) → not next ≡ true → (rest : List Visit) → on next rest ≡ []
  stops true h rest = cc
  stops false h rest = refl

  pub visits_on : (a : Node) (made more all : List Visit) → not b.next ≡ false → more ≡ made ++ statement_visits a x → made ++ visits a (code_of (drop i xs)) ≡ all → more ++ visits (After x.number) (code_of (drop (i + 1) xs)) ≡ all
  visits_on a made more all next pushed h =
      turn made more (statement_visits a x) (visits (After x.number) (code_of (drop (i + 1) xs))) (visits a (code_of (drop i xs))) all pushed
      (visits_here a ∙ ap (λ l. statement_visits a x ++ l) (goes b.next next (visits (After x.number) (code_of (drop (i + 1) xs))))) h

  pub visits_stop : (a : Node) (made more all : List Visit) → not b.next ≡ true → more ≡ made ++ statement_visits a x → made ++ visits a (code_of (drop i xs)) ≡ all → more ≡ all
  visits_stop a made more all next pushed h =
      pushed
      ∙ (ap (λ l. made ++ l) (sym (visits_here a ∙ (ap (λ l. statement_visits a x ++ l) (stops b.next next (visits (After x.number) (code_of (drop (i + 1) xs)))) ∙ append-nil (statement_visits a x)))) ∙ h)

-- a statement behind those of its parts
pub pushed : (old walked after : List Spot) (spot : Spot) (inner : List Visit) (v : Visit) → after ≡ walked ++ spot ∷ [] → map visit_of walked ≡ map visit_of old ++ inner → visit_of spot ≡ v → map visit_of after ≡ map visit_of old ++ (inner ++ v ∷ [])
pushed old walked after spot inner v p w is =
    ap (map visit_of) p ∙ (map-append visit_of walked (spot ∷ []) ∙ (ap₂ (λ l x. l ++ x ∷ []) w is ∙ append_assoc (map visit_of old) inner (v ∷ [])))

-- ---- one more part

part_is : (q : SwitchPart) (n which : ℕ) (others : Code) → part_visits (part_code q n which others) ≡ visits (Part n which) (code_of (out-SwitchPart q).body) ++ part_visits others
part_is q n which others =
    ap (λ f. part_visits (f n which others)) (fold_out-SwitchPart (ℕ → Code → Code) (Code → Code) (ℕ → ℕ → Code → Code) act_before statement_before part_before q)

span_is : (q : SwitchPart) (n which : ℕ) (others : Code) → spans_of (part_code q n which others) ≡ span n which (end_of (Part n which) (code_of (out-SwitchPart q).body)) ∷ spans_of others
span_is q n which others =
    ap (λ f. spans_of (f n which others)) (fold_out-SwitchPart (ℕ → Code → Code) (Code → Code) (ℕ → ℕ → Code → Code) act_before statement_before part_before q)

pub part_on : (n which : ℕ) (xs : List SwitchPart) (i : ℕ) (x : SwitchPart) (made more all : List Visit) → i < length xs → x ≡ get_or xs i x → more ≡ made ++ visits (Part n which) (code_of (out-SwitchPart x).body)
    → made ++ part_visits (parts_from n which (map part_code (drop i xs))) ≡ all → more ++ part_visits (parts_from n (which + 1) (map part_code (drop (i + 1) xs))) ≡ all
part_on n which xs i x made more all lt is pushed_ h =
    turn made more (visits (Part n which) (code_of (out-SwitchPart x).body)) (part_visits (parts_from n (which + 1) (map part_code (drop (i + 1) xs)))) (part_visits (parts_from n which (map part_code (drop i xs)))) all pushed_
    (ap (λ ys. part_visits (parts_from n which (map part_code ys))) (drop_here xs i x lt is) ∙ part_is x n which (parts_from n (which + 1) (map part_code (drop (i + 1) xs)))) h

pub span_on : (n which : ℕ) (xs : List SwitchPart) (i : ℕ) (x : SwitchPart) (last : Node) (made more all : List PartSpan) → i < length xs → x ≡ get_or xs i x → last ≡ end_of (Part n which) (code_of (out-SwitchPart x).body)
    → more ≡ made ++ span n which last ∷ [] → made ++ spans_of (parts_from n which (map part_code (drop i xs))) ≡ all → more ++ spans_of (parts_from n (which + 1) (map part_code (drop (i + 1) xs))) ≡ all
span_on n which xs i x last made more all lt is e pushed_ h =
    turn made more (span n which last ∷ []) (spans_of (parts_from n (which + 1) (map part_code (drop (i + 1) xs)))) (spans_of (parts_from n which (map part_code (drop i xs)))) all pushed_
    (ap (λ ys. spans_of (parts_from n which (map part_code ys))) (drop_here xs i x lt is)
    ∙ (span_is x n which (parts_from n (which + 1) (map part_code (drop (i + 1) xs))) ∙ ap (λ (z : Node). span n which z ∷ spans_of (parts_from n (which + 1) (map part_code (drop (i + 1) xs)))) (sym e))) h

-- ---- the whole body

pub are_analysed : (body : List CoreStatement) (spots : List Spot) → map visit_of spots ≡ visits Start (code_of body) → AreAnalysed body spots
are_analysed body spots e v = (λ h. listed_visit Start (code_of body) v (rw e at h), λ w. rw e (visit_listed Start (code_of body) v w))
