-- How a group stands between two releases, against lanes that run by themselves from the last release on.
use Rattle.std.proofs.Common.{◌≡◌, ℕ, zero, true, List, Option, refl, ap, sym, ◌∙◌, subst}
use Rattle.shade_schedules.specs.System.{Kind, Read, Write, Atomic, System, Laws}
use Rattle.shade_schedules.specs.Machine.{Member, Touch, Access}
use Rattle.shade_schedules.specs.Races.{Among, IsOrderly, collide}
use Rattle.shade_schedules.proofs.Lists.{none_among}
use Rattle.shade_schedules.proofs.Solo.{Alone, solo, touches, is_stopped, stops_once, touches_once}

module _ (K : System) where
  -- these touches write nothing at an address
  abbrev pub Spares : K.Address → List (Touch K) → Type 0
  Spares a ts = (t : Touch K) → Among t ts → t.kind ≡ Write → K.covers t.spot a ≡ true → ⊥

  abbrev pub access : ℕ → K.Epochs → Touch K → Access K
  access i e t = record { lane = i; touch = t; epochs = e }

  -- the lane with a number at the last release
  abbrev pub start : K.Memory → (ℕ → Option (Member K)) → ℕ → Alone K
  start M base i = record { member = base i; memory = M }

  -- Each lane is as it would be by itself after as many steps, from the last release on; so is the word at an address, but for those that
  -- other lanes wrote; and what was touched is among the accesses of a run.
  pub record Stands (H : List (Access K)) (e : K.Epochs) (M : K.Memory) (base : ℕ → Option (Member K)) (S : K.Memory) (lanes : ℕ → Option (Member K)) : Type 0 where
    pub count : ℕ → ℕ
    pub members : (i : ℕ) → lanes i ≡ (solo K (count i) (start M base i)).member
    pub memory : (i : ℕ) (a : K.Address) → ((j : ℕ) → (j ≡ i → ⊥) → Spares a (touches K (count j) (start M base j))) → K.word_at S a ≡ K.word_at (solo K (count i) (start M base i)).memory a
    pub noted : (i : ℕ) (t : Touch K) → Among t (touches K (count i) (start M base i)) → Among (access i e t) H

  -- At a release each lane has taken no step.
  pub released_stands : (H : List (Access K)) (e : K.Epochs) (M : K.Memory) (base : ℕ → Option (Member K)) (S : K.Memory) (lanes : ℕ → Option (Member K))
      → ((a : K.Address) → K.word_at S a ≡ K.word_at M a) → ((i : ℕ) → lanes i ≡ base i) → Stands H e M base S lanes
  released_stands H e M base S lanes memory members = record { count = λ i. zero; members = members; memory = λ i a spared. memory a; noted = λ i t h. none_among h }

  write_collides : (k : Kind) {one : Kind} → (k ≡ Atomic → ⊥) → one ≡ Write → collide one k ≡ true
  write_collides Read never w = rw w refl
  write_collides Write never w = rw w refl
  write_collides Atomic never w = absurd (never refl)

  -- two lanes touched no word that one of them wrote
  pub no_clash : (H : List (Access K)) → IsOrderly K H → (e : K.Epochs) (i j : ℕ) (t u : Touch K) (a : K.Address) → (i ≡ j → ⊥) → Among (access i e t) H → Among (access j e u) H
      → t.kind ≡ Write → K.covers t.spot a ≡ true → K.covers u.spot a ≡ true → ⊥
  no_clash H orderly e i j t u a apart one other writes covers also =
      orderly.race_free (access i e t) (access j e u) one other
      (record { lanes = apart; address = a; one = covers; other = also; epoch = refl; kinds = write_collides u.kind (orderly.no_atomic (access j e u) other) writes })

  module _ (laws : Laws K) (H : List (Access K)) (orderly : IsOrderly K H) (e : K.Epochs) (M : K.Memory) (base : ℕ → Option (Member K)) where
    -- Where all lanes stopped, two ways to stand are one.
    pub one_stop : {S N : K.Memory} {lanes others : ℕ → Option (Member K)} → Stands H e M base S lanes → Stands H e M base N others
        → (i : ℕ) → is_stopped K (lanes i) ≡ true → is_stopped K (others i) ≡ true → lanes i ≡ others i
    one_stop s o i h g =
        s.members i
        ∙ (ap (λ (x : Alone K). x.member) (stops_once K (s.count i) (o.count i) (start M base i) (subst (λ x. is_stopped K x ≡ true) (s.members i) h) (subst (λ x. is_stopped K x ≡ true) (o.members i) g))
        ∙ sym (o.members i))

    pub one_memory : {S N : K.Memory} {lanes others : ℕ → Option (Member K)} → Stands H e M base S lanes → Stands H e M base N others
        → ((i : ℕ) → is_stopped K (lanes i) ≡ true) → ((i : ℕ) → is_stopped K (others i) ≡ true) → (a : K.Address) → K.word_at S a ≡ K.word_at N a
    one_memory {S} {N} s o h g a = laws.stable (K.word_at S a) (K.word_at N a) (λ differ. differ (at 0 (λ j apart t among w covers. differ (at j (alone j t among w covers)))))
      where
        stopped_s : (i : ℕ) → is_stopped K (solo K (s.count i) (start M base i)).member ≡ true
        stopped_s i = subst (λ x. is_stopped K x ≡ true) (s.members i) (h i)

        stopped_o : (i : ℕ) → is_stopped K (solo K (o.count i) (start M base i)).member ≡ true
        stopped_o i = subst (λ x. is_stopped K x ≡ true) (o.members i) (g i)

        -- whoever wrote there did so alone
        alone : (i : ℕ) (t : Touch K) → Among t (touches K (s.count i) (start M base i)) → t.kind ≡ Write → K.covers t.spot a ≡ true
            → (j : ℕ) → (j ≡ i → ⊥) → Spares a (touches K (s.count j) (start M base j))
        alone i t among w covers j apart u also v covers_also = no_clash H orderly e j i u t a apart (s.noted j u also) (s.noted i t among) v covers_also covers

        at : (i : ℕ) → ((j : ℕ) → (j ≡ i → ⊥) → Spares a (touches K (s.count j) (start M base j))) → K.word_at S a ≡ K.word_at N a
        at i spared =
            s.memory i a spared
            ∙ (ap (λ (x : Alone K). K.word_at x.memory a) (stops_once K (s.count i) (o.count i) (start M base i) (stopped_s i) (stopped_o i))
            ∙ sym (o.memory i a (λ j apart. subst (λ xs. Spares a xs) (touches_once K (s.count j) (o.count j) (start M base j) (stopped_s j) (stopped_o j)) (spared j apart))))
