-- One more event.
use Rattle.std.proofs.Common.{◌≡◌, refl, sym, ap, ◌∙◌, ℕ, ◌+◌, ◌<◌, List, [], ◌∷◌, ◌++◌, length, get_or, drop, Option, None, add-one, drop-cons}
use Rattle.std.proofs.lemmas.List.{append_assoc}
use Rattle.std.specs.List.{flat_map}
use Rattle.shade_events.specs.declared.event.Event.{Event}
use Rattle.shade_scope.specs.declared.bound.Bound.{Bound}
use Rattle.shade_scope.specs.declared.fault.ScopeFault.{ScopeFault}
use Rattle.shade_scope.specs.declared.naming.OpenLoop.{OpenLoop}
use Rattle.shade_scope.specs.declared.naming.State.{State}
use Rattle.shade_scope.specs.declared.scoped.Meaning.{Meaning}
use Rattle.shade_scope.specs.InForce.{Context}
use Rattle.shade_scope.specs.Scopes.{after, noted, resolved, faults_of, told, link_of, links, start}
use Rattle.shade_scope.specs.Seen.{faults, next, seen, skip}
use Rattle.shade_scope.specs.Faults.{earlier, least_of}
use Rattle.shade_scope.specs.Grades.{blank}
use Rattle.shade_scope.proofs.FaultLaws.{least_turn}
use Rattle.shade_scope.proofs.SeenLaws.{faults_seen, next_seen}

pub drop_next : {A : Type 0} → (xs : List A) (i : ℕ) (d : A) → i < length xs → drop i xs ≡ get_or xs i d ∷ drop (i + 1) xs
drop_next xs i d lt = rw add-one (drop-cons xs i d lt)

-- what is known of a text after so many of its events
pub record IsNamed (p : List (List ℕ)) (events : List Event) (i : ℕ) (state : State) (uses : List (Option Meaning)) (found : List (ℕ × ℕ)) (least : Option ScopeFault) : Type 0 where
  pub context : Context
  pub is : state ≡ seen context
  pub used : resolved p context (drop i events) uses ≡ resolved p start events (blank None events)
  pub linked : found ++ links context (drop i events) ≡ links start events
  pub first : earlier least (least_of (told p context (drop i events))) ≡ least_of (told p start events)

pub begun : (p : List (List ℕ)) (events : List Event) (state : State) (uses : List (Option Meaning)) (found : List (ℕ × ℕ))
    → state ≡ seen start → uses ≡ blank None events → found ≡ [] → IsNamed p events 0 state uses found None
begun p events state uses found is blank_is none = record {
  context = start;
  is = is;
  used = ap (resolved p start events) blank_is;
  linked = ap (λ l. l ++ links start events) none;
  first = refl;
}

pub named_turn : (p : List (List ℕ)) (events : List Event) (i : ℕ) (d : Event) → i < length events
    → (old new : State) (uses more : List (Option Meaning)) (found joined : List (ℕ × ℕ)) (least f later : Option ScopeFault)
    → new ≡ next old (get_or events i d) → more ≡ noted p old.scopes (get_or events i d) uses → joined ≡ found ++ link_of old.within old.scopes (get_or events i d)
    → f ≡ least_of (faults p old (get_or events i d)) → later ≡ earlier least f
    → IsNamed p events i old uses found least → IsNamed p events (i + 1) new more joined later
named_turn p events i d lt old new uses more found joined least f later is_new is_more is_joined is_f is_later h =
    let c : Context = h.context in
    let e : Event = get_or events i d in
    let rest : List Event = drop (i + 1) events in
    let at : drop i events ≡ e ∷ rest = drop_next events i d lt in
    record {
      context = after c e;
      is = is_new ∙ ap (λ s. next s e) h.is ∙ next_seen c e;
      used =
          ap (resolved p (after c e) rest) (is_more ∙ ap (λ s. noted p s.scopes e uses) h.is)
          ∙ ap (λ es. resolved p c es uses) (sym at) ∙ h.used;
      linked =
          ap (λ z. z ++ links (after c e) rest) (is_joined ∙ ap (λ s. found ++ link_of s.within s.scopes e) h.is)
          ∙ append_assoc found (link_of c.within c.scopes e) (links (after c e) rest)
          ∙ ap (λ es. found ++ links c es) (sym at) ∙ h.linked;
      first = least_turn least f later (faults_of p c e) (told p (after c e) rest) (is_f ∙ ap (λ s. least_of (faults p s e)) h.is ∙ faults_seen p c e) is_later
          (ap (λ es. earlier least (least_of (told p c es))) (sym at) ∙ h.first);
    }

pub skips_turn : (b : Bound) (loops : List OpenLoop) (i : ℕ) (d : OpenLoop) → i < length loops → (old f new : Option ScopeFault) {all : Option ScopeFault}
    → f ≡ least_of (skip b (get_or loops i d)) → new ≡ earlier old f → earlier old (least_of (flat_map (skip b) (drop i loops))) ≡ all
    → earlier new (least_of (flat_map (skip b) (drop (i + 1) loops))) ≡ all
skips_turn b loops i d lt old f new is_f is_new h =
    least_turn old f new (skip b (get_or loops i d)) (flat_map (skip b) (drop (i + 1) loops)) is_f is_new
    (ap (λ l. earlier old (least_of (flat_map (skip b) l))) (sym (drop_next loops i d lt)) ∙ h)
