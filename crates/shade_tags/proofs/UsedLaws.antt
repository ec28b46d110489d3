-- Used tags are tags.
use Rattle.std.proofs.Common.{◌≡◌, refl, sym, ap, subst, ◌∙◌, ℕ, ◌⊎◌, inl, inr, List, [], ◌∷◌, Option, None, Some}
use Rattle.std.specs.Prelude.{slice_get}
use Rattle.shade_core.specs.declared.module.CoreFunction.{CoreFunction}
use Rattle.shade_core.specs.declared.module.CoreModule.{CoreModule}
use Rattle.shade_graph.specs.declared.node.Node.{Node}
use Rattle.shade_graph.specs.declared.node.Node.TheVariants.{Required}
use Rattle.shade_graph.specs.declared.node.Tag.{Tag}
use Rattle.shade_graph.specs.declared.node.Via.{Via}
use Rattle.shade_graph.specs.Graph.{Among, here, later}
use Rattle.shade_uniformity.specs.Edges.{GivesByTag, IsVia}
use Rattle.shade_verdict.specs.declared.violation.PathStep.{PathStep}
use Rattle.shade_verdict.specs.declared.violation.Violation.{Violation}
use Rattle.shade_verdict.specs.Violations.{plain_step}
use Rattle.shade_tags.specs.Tags.{IsTag, IsTable}
use Rattle.shade_tags.specs.Violations.{IsReason, by_rule, by_call, AreReasons, IsTold, Shows}
use Rattle.shade_tags.specs.Used.{Names, ShowsTag, IsUsed, on_violation, on_tag}
use Rattle.shade_tags.specs.Laws.{UsedAreTags}
use Rattle.shade_tags.proofs.TagLaws.{given_tag}

abbrev Cases : PathStep → List PathStep → Type 0
Cases x [] = ⊥
Cases x (y ∷ ys) = (x ≡ y) ⊎ Among x ys

among_cases : {x : PathStep} {zs : List PathStep} → Among x zs → Cases x zs
among_cases here = inl refl
among_cases (later h) = inr h

module _ (shader : CoreModule) (function : CoreFunction) (tags : List (List Tag)) where
  -- the reason of an edge, where a call gives it
  reason_via : (u v : Node) (reason : Option Via) (via : Via) → IsReason shader function tags u v reason → reason ≡ Some via → IsVia shader function tags u v via
  reason_via u v reason via (by_rule o) e = cc
  reason_via u v reason via (by_call {via = w} i) e = let same : w ≡ via = cc in subst (λ (x : Via). IsVia shader function tags u v x) same i

  -- what gives the edge into a step
  abbrev ViaInto : Via → Type 0
  ViaInto via = (u : Node) × (v : Node) × IsVia shader function tags u v via

  reason_named : (from : Node) (nodes : List Node) (steps : List PathStep) → AreReasons shader function tags from nodes steps → (step : PathStep) → Among step steps → (via : Via) → step.via ≡ Some via → ViaInto via
  reason_named from [] steps told step h via e = absurd (among_cases (subst (λ (xs : List PathStep). Among step xs) told h))
  reason_named from (node ∷ nodes) [] told step h via e = absurd told
  reason_named from (node ∷ nodes) (first ∷ steps) told step h via e = elim (among_cases h) [
    | inl same ↦ (from, node, reason_via from node first.via via told.1 (ap (λ (s : PathStep). s.via) (sym same) ∙ e))
    | inr more ↦ reason_named node nodes steps told.2 step more via e
  ]

  told_named : (path : List Node) (steps : List PathStep) → IsTold shader function tags path steps → (step : PathStep) → Among step steps → (via : Via) → step.via ≡ Some via → ViaInto via
  told_named [] steps told step h via e = absurd (among_cases (subst (λ (xs : List PathStep). Among step xs) told h))
  told_named (first ∷ nodes) steps told step h via e = elim (among_cases (subst (λ (xs : List PathStep). Among step xs) told.1 h)) [
    | inl same ↦ (let none : step.via ≡ None = ap (λ (s : PathStep). s.via) same in let clash : None ≡ Some via = sym none ∙ e in cc)
    | inr more ↦ reason_named first nodes told.0 told.2 step more via e
  ]

  -- what a path names is a tag
  named_tag : IsTable shader tags → (path : List Node) (steps : List PathStep) → IsTold shader function tags path steps → (g : ℕ) (tag : Tag) → Names steps g tag → IsTag shader g tag
  named_tag table path steps told g tag names =
      let r = told_named path steps told names.step names.stands names.via names.reason in
      let it : IsTag shader names.via.callee names.via.tag = given_tag shader function tags names.via r.0 r.1 table r.2.gives in
      subst (λ (t : Tag). IsTag shader g t) names.of_tag (subst (λ (k : ℕ). IsTag shader k names.via.tag) names.of_callee it)

pub used_are_tags : UsedAreTags
used_are_tags shader tags table g tag (on_violation {violation} shows names) = named_tag shader shows.function tags table (Required violation.severity ∷ shows.path) violation.path shows.told g tag names
used_are_tags shader tags table g tag (on_tag {steps} used shows names) = named_tag shader shows.function tags table shows.path steps shows.told g tag names
