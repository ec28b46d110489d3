-- A step of one lane, and how the group stands after it.
use Rattle.std.proofs.Common.{◌≡◌, ℕ, suc, Bool, true, false, List, [], ◌++◌, Option, Some, refl, ap, sym, ◌∙◌, subst, inl, inr}
use Rattle.std.specs.Prelude.{◌==◌}
use Rattle.std.proofs.lemmas.Bool.{eqb-true, eq-eqb}
use Rattle.shade_schedules.specs.System.{Read, Write, Atomic, Request, Works, Reads, Writes, Changes, Waits, System, Laws}
use Rattle.shade_schedules.specs.Machine.{Member, Touch, Access, touched, touch_unless, answered, stored, moved, status_by, is_able}
use Rattle.shade_schedules.specs.Races.{Among, here, IsOrderly}
use Rattle.shade_schedules.proofs.Lists.{same_number, not_true, among_left, among_right, among_either}
use Rattle.shade_schedules.proofs.Solo.{Alone, alone_by, alone_of, solo, touches_by, touches, touches_of}
use Rattle.shade_schedules.proofs.Stands.{Spares, access, start, Stands, no_clash}

-- one more at a place
abbrev pub more_by : Bool → ℕ → ℕ
more_by true c = suc c
more_by false c = c

abbrev pub one_more : ℕ → (ℕ → ℕ) → ℕ → ℕ
one_more n count j = more_by (j == n) (count j)

pub more_same : (n : ℕ) (count : ℕ → ℕ) → one_more n count n ≡ suc (count n)
more_same n count = rw (eq-eqb n n refl) refl

pub more_other : (n j : ℕ) (count : ℕ → ℕ) → (j ≡ n → ⊥) → one_more n count j ≡ count j
more_other n j count apart = by (j == n) refl
  where
    by : (b : Bool) → (j == n) ≡ b → more_by b (count j) ≡ count j
    by true e = absurd (apart (eqb-true j n e))
    by false e = refl

module _ (K : System) (laws : Laws K) where
  -- what a step reads is what it would read by itself
  pub same_answer : (S N : K.Memory) (r : Request K.Spot K.Data K.Site) → ((s : K.Spot) → r ≡ Reads s → (a : K.Address) → K.covers s a ≡ true → K.word_at S a ≡ K.word_at N a)
      → ((s : K.Spot) (d : K.Data) → r ≡ Changes s d → ⊥) → answered K S r ≡ answered K N r
  same_answer S N Works same never = refl
  same_answer S N (Reads s) same never = laws.read_same S N s (same s refl)
  same_answer S N (Writes s d) same never = refl
  same_answer S N (Changes s d) same never = absurd (never s d refl)
  same_answer S N (Waits site) same never = refl

  pub same_store : (S N : K.Memory) (r : Request K.Spot K.Data K.Site) (a : K.Address) → K.word_at S a ≡ K.word_at N a → K.word_at (stored K S r) a ≡ K.word_at (stored K N r) a
  same_store S N Works a e = e
  same_store S N (Reads s) a e = e
  same_store S N (Writes s d) a e = laws.written_same S N s d a e
  same_store S N (Changes s d) a e = laws.written_same S N s d a e
  same_store S N (Waits site) a e = e

  -- a step that spares an address leaves it
  pub store_spares : (S : K.Memory) (r : Request K.Spot K.Data K.Site) (a : K.Address) → Spares K a (touched K r) → ((s : K.Spot) (d : K.Data) → r ≡ Changes s d → ⊥)
      → K.word_at (stored K S r) a ≡ K.word_at S a
  store_spares S Works a h never = refl
  store_spares S (Reads s) a h never = refl
  store_spares S (Writes s d) a h never = laws.written_other S s d a (not_true (K.covers s a) (λ c. h (record { spot = s; kind = Write }) here refl c))
  store_spares S (Changes s d) a h never = absurd (never s d refl)
  store_spares S (Waits site) a h never = refl

  module _ (H : List (Access K)) (orderly : IsOrderly K H) (e : K.Epochs) (M : K.Memory) (base : ℕ → Option (Member K)) where
    module _ (S : K.Memory) (lanes : ℕ → Option (Member K)) (s : Stands K H e M base S lanes) (n : ℕ) (m : Member K) (is : lanes n ≡ Some m) (able : is_able K m.state ≡ true)
        (next : (t : Touch K) → Among t (touched K (K.does m.lane)) → Among (access K n e t) H) where
      abbrev own : K.Memory
      own = (solo K (s.count n) (start K M base n)).memory

      not_atomic : (p : K.Spot) (d : K.Data) → K.does m.lane ≡ Changes p d → ⊥
      not_atomic p d r =
          let t : Touch K = record { spot = p; kind = Atomic } in
          orderly.no_atomic (access K n e t) (next t (subst (λ x. Among t (touched K x)) (sym r) (here {rest = []}))) refl

      -- no other lane wrote what this step reads
      read_alone : (p : K.Spot) → K.does m.lane ≡ Reads p → (a : K.Address) → K.covers p a ≡ true → (j : ℕ) → (j ≡ n → ⊥) → Spares K a (touches K (s.count j) (start K M base j))
      read_alone p r a covers j apart t among w also = by (K.is_fixed p) refl
        where
          by : (b : Bool) → K.is_fixed p ≡ b → ⊥
          by true f = orderly.fixed (access K j e t) p a (s.noted j t among) w f covers also
          by false f =
              let u : Touch K = record { spot = p; kind = Read } in
              no_clash K H orderly e j n t u a apart (s.noted j t among)
              (next u (subst (λ x. Among u (touched K x)) (sym r) (subst (λ b. Among u (touch_unless K b p)) (sym f) (here {rest = []})))) w also covers

      answers : answered K S (K.does m.lane) ≡ answered K own (K.does m.lane)
      answers = same_answer S own (K.does m.lane) (λ p r a covers. s.memory n a (read_alone p r a covers)) not_atomic

      moved_alone : moved K S m ≡ moved K own m
      moved_alone = ap (λ x. record { lane = K.after m.lane x; state = status_by K (K.does m.lane) (K.is_over (K.after m.lane x)) }) answers

      stood : (solo K (s.count n) (start K M base n)).member ≡ Some m
      stood = sym (s.members n) ∙ is

      alone_step : solo K (suc (s.count n)) (start K M base n) ≡ record { member = Some (moved K own m); memory = stored K own (K.does m.lane) }
      alone_step = ap (λ o. alone_of K o own) stood ∙ ap (λ b. alone_by K b m own) able

      alone_touches : touches K (suc (s.count n)) (start K M base n) ≡ touches K (s.count n) (start K M base n) ++ touched K (K.does m.lane)
      alone_touches = ap (λ o. touches K (s.count n) (start K M base n) ++ touches_of K o) stood ∙ ap (λ b. touches K (s.count n) (start K M base n) ++ touches_by K b m) able

      -- A step keeps how the group stands.
      pub moved_stands : (lanes_after : ℕ → Option (Member K)) → lanes_after n ≡ Some (moved K S m) → ((j : ℕ) → (j ≡ n → ⊥) → lanes_after j ≡ lanes j)
          → Stands K H e M base (stored K S (K.does m.lane)) lanes_after
      moved_stands lanes_after own_lane others = record { count = one_more n s.count; members = members; memory = memory; noted = noted }
        where
          counted : (i : ℕ) → (i ≡ n → ⊥) → one_more n s.count i ≡ s.count i
          counted i apart = more_other n i s.count apart

          members : (i : ℕ) → lanes_after i ≡ (solo K (one_more n s.count i) (start K M base i)).member
          members i = elim (same_number i n) [
            | inl same ↦ subst (λ z. lanes_after z ≡ (solo K (one_more n s.count z) (start K M base z)).member) (sym same)
                (own_lane ∙ (ap Some moved_alone ∙ (ap (λ (x : Alone K). x.member) (sym alone_step) ∙ ap (λ c. (solo K c (start K M base n)).member) (sym (more_same n s.count)))))
            | inr apart ↦ others i apart ∙ (s.members i ∙ ap (λ c. (solo K c (start K M base i)).member) (sym (counted i apart)))
          ]

          before : (a : K.Address) (j : ℕ) → Spares K a (touches K (one_more n s.count j) (start K M base j)) → Spares K a (touches K (s.count j) (start K M base j))
          before a j spared = elim (same_number j n) [
            | inl same ↦ λ t among. spared t (subst (λ z. Among t (touches K (one_more n s.count z) (start K M base z))) (sym same)
                (subst (λ c. Among t (touches K c (start K M base n))) (sym (more_same n s.count))
                (subst (λ xs. Among t xs) (sym alone_touches) (among_left (touched K (K.does m.lane)) (subst (λ z. Among t (touches K (s.count z) (start K M base z))) same among)))))
            | inr apart ↦ subst (λ c. Spares K a (touches K c (start K M base j))) (counted j apart) spared
          ]

          this : (a : K.Address) → Spares K a (touches K (one_more n s.count n) (start K M base n)) → Spares K a (touched K (K.does m.lane))
          this a spared t among = spared t
              (subst (λ c. Among t (touches K c (start K M base n))) (sym (more_same n s.count))
              (subst (λ xs. Among t xs) (sym alone_touches) (among_right (touches K (s.count n) (start K M base n)) among)))

          memory : (i : ℕ) (a : K.Address) → ((j : ℕ) → (j ≡ i → ⊥) → Spares K a (touches K (one_more n s.count j) (start K M base j)))
              → K.word_at (stored K S (K.does m.lane)) a ≡ K.word_at (solo K (one_more n s.count i) (start K M base i)).memory a
          memory i a spared = elim (same_number i n) [
            | inl same ↦ subst (λ z. K.word_at (stored K S (K.does m.lane)) a ≡ K.word_at (solo K (one_more n s.count z) (start K M base z)).memory a) (sym same)
                (same_store S own (K.does m.lane) a (s.memory n a (λ j apart. before a j (spared j (λ is_i. apart (is_i ∙ same)))))
                ∙ (ap (λ (x : Alone K). K.word_at x.memory a) (sym alone_step) ∙ ap (λ c. K.word_at (solo K c (start K M base n)).memory a) (sym (more_same n s.count))))
            | inr apart ↦ store_spares S (K.does m.lane) a (this a (spared n (λ is_i. apart (sym is_i)))) not_atomic
                ∙ (s.memory i a (λ j other. before a j (spared j other)) ∙ ap (λ c. K.word_at (solo K c (start K M base i)).memory a) (sym (counted i apart)))
          ]

          noted : (i : ℕ) (t : Touch K) → Among t (touches K (one_more n s.count i) (start K M base i)) → Among (access K i e t) H
          noted i t among = elim (same_number i n) [
            | inl same ↦ subst (λ z. Among (access K z e t) H) (sym same)
                (elim (among_either (touches K (s.count n) (start K M base n)) (touched K (K.does m.lane))
                (subst (λ xs. Among t xs) alone_touches (subst (λ c. Among t (touches K c (start K M base n))) (more_same n s.count) (subst (λ z. Among t (touches K (one_more n s.count z) (start K M base z))) same among)))) [
                  | inl old ↦ s.noted n t old
                  | inr new ↦ next t new
                ])
            | inr apart ↦ s.noted i t (subst (λ c. Among t (touches K c (start K M base i))) (counted i apart) among)
          ]
