-- Sets of what is read and written, by the sets of numbers that they are made of.
use Rattle.std.proofs.Common.{◌≡◌, sym, ap, ℕ, true, inl, inr}
use Rattle.std.specs.Prelude.{◌⊎◌}
use Rattle.shade_rules.specs.declared.number_set.NumberSet.{NumberSet}
use Rattle.shade_rules.specs.declared.usage.Row.{Row}
use Rattle.shade_rules.specs.declared.usage.Seen.{Seen}
use Rattle.shade_rules.specs.declared.usage.Seen.TheVariants.{Parameter, Variable}
use Rattle.shade_rules.specs.declared.usage.SeenSet.{SeenSet}
use Rattle.shade_rules.specs.declared.usage.UsageKind.{UsageKind}
use Rattle.shade_rules.specs.declared.usage.UsageKind.TheVariants.{Read, Write}
use Rattle.shade_rules.specs.Gathered.{IsVariable, SeesVariable, HasVariable}
use Rattle.shade_rules.specs.Sets.{HasSeen, HasUsage, has, IsIn, SetAdds, AddsSeen, Adds}
use Rattle.shade_rules.specs.Usages.{Usage, usage}

-- ---- what is seen

pub empty_seen : (set : SeenSet) → ((n : ℕ) → IsIn set.parameters n → ⊥) → ((n : ℕ) → IsIn set.variables n → ⊥) → (s : Seen) → HasSeen set s → ⊥
empty_seen set parameters variables (Parameter i) h = parameters i h
empty_seen set parameters variables (Variable r) h = variables r h

parameter_one : (i p : ℕ) → Parameter i ≡ Parameter p → i ≡ p
parameter_one i p e = cc

variable_one : (r v : ℕ) → Variable r ≡ Variable v → r ≡ v
variable_one r v e = cc

apart : {A : Type 0} (i r : ℕ) → Parameter i ≡ Variable r → A
apart i r e = let no_one : ⊥ = cc e in absurd no_one

pub parameter_in : (parameters variables more : NumberSet) (p : ℕ) → SetAdds parameters more (λ n. n ≡ p)
    → AddsSeen (record { parameters = parameters; variables = variables }) (record { parameters = more; variables = variables }) (λ s. s ≡ Parameter p)
parameter_in parameters variables more p g = record { from = from_; keeps = keeps_; adds = adds_ }
  where
    from_ : (s : Seen) → HasSeen (record { parameters = more; variables = variables }) s → HasSeen (record { parameters = parameters; variables = variables }) s ⊎ (s ≡ Parameter p)
    from_ (Parameter i) h = elim (g.from i h) [ inl o ↦ inl o | inr e ↦ inr (ap Parameter e) ]
    from_ (Variable r) h = inl h

    keeps_ : (s : Seen) → HasSeen (record { parameters = parameters; variables = variables }) s → HasSeen (record { parameters = more; variables = variables }) s
    keeps_ (Parameter i) h = g.keeps i h
    keeps_ (Variable r) h = h

    adds_ : (s : Seen) → s ≡ Parameter p → HasSeen (record { parameters = more; variables = variables }) s
    adds_ (Parameter i) e = g.adds i (parameter_one i p e)
    adds_ (Variable r) e = apart p r (sym e)

pub variable_in : (parameters variables more : NumberSet) (v : ℕ) → SetAdds variables more (λ n. n ≡ v)
    → AddsSeen (record { parameters = parameters; variables = variables }) (record { parameters = parameters; variables = more }) (λ s. s ≡ Variable v)
variable_in parameters variables more v g = record { from = from_; keeps = keeps_; adds = adds_ }
  where
    from_ : (s : Seen) → HasSeen (record { parameters = parameters; variables = more }) s → HasSeen (record { parameters = parameters; variables = variables }) s ⊎ (s ≡ Variable v)
    from_ (Parameter i) h = inl h
    from_ (Variable r) h = elim (g.from r h) [ inl o ↦ inl o | inr e ↦ inr (ap Variable e) ]

    keeps_ : (s : Seen) → HasSeen (record { parameters = parameters; variables = variables }) s → HasSeen (record { parameters = parameters; variables = more }) s
    keeps_ (Parameter i) h = h
    keeps_ (Variable r) h = g.keeps r h

    adds_ : (s : Seen) → s ≡ Variable v → HasSeen (record { parameters = parameters; variables = more }) s
    adds_ (Parameter i) e = apart i v e
    adds_ (Variable r) e = g.adds r (variable_one r v e)

pub variables_in : (parameters variables more : NumberSet) (other : SeenSet) → SetAdds variables more (IsIn other.variables)
    → AddsSeen (record { parameters = parameters; variables = variables }) (record { parameters = parameters; variables = more }) (SeesVariable other)
variables_in parameters variables more other g = record { from = from_; keeps = keeps_; adds = adds_ }
  where
    from_ : (s : Seen) → HasSeen (record { parameters = parameters; variables = more }) s → HasSeen (record { parameters = parameters; variables = variables }) s ⊎ (IsVariable s × HasSeen other s)
    from_ (Parameter i) h = inl h
    from_ (Variable r) h = elim (g.from r h) [ inl o ↦ inl o | inr m ↦ inr (tt, m) ]

    keeps_ : (s : Seen) → HasSeen (record { parameters = parameters; variables = variables }) s → HasSeen (record { parameters = parameters; variables = more }) s
    keeps_ (Parameter i) h = h
    keeps_ (Variable r) h = g.keeps r h

    adds_ : (s : Seen) → IsVariable s × HasSeen other s → HasSeen (record { parameters = parameters; variables = more }) s
    adds_ (Parameter i) h = absurd h.0
    adds_ (Variable r) h = g.adds r h.1

-- ---- reads and writes

pub empty_row : (row : Row) → ((s : Seen) → HasSeen row.read s → ⊥) → ((s : Seen) → HasSeen row.written s → ⊥) → (u : Usage) → HasUsage row u → ⊥
empty_row row read written u h = by u.kind h
  where
    by : (kind : UsageKind) → has row kind u.target ≡ true → ⊥
    by Read h = read u.target h
    by Write h = written u.target h

same_target : (u v : Usage) → u ≡ v → u.target ≡ v.target
same_target u v e = ap (λ (w : Usage). w.target) e

other_kind : {A : Type 0} (s t : Seen) → usage Read s ≡ usage Write t → A
other_kind s t e = let kinds : Read ≡ Write = ap (λ (w : Usage). w.kind) e in let no_one : ⊥ = cc kinds in absurd no_one

pub read_in : (read written more : SeenSet) (seen : Seen) → AddsSeen read more (λ s. s ≡ seen)
    → Adds (record { read = read; written = written }) (record { read = more; written = written }) (λ u. u ≡ usage Read seen)
read_in read written more seen g = record { from = λ u h. from_ u.kind u.target h; keeps = λ u h. keeps_ u.kind u.target h; adds = λ u e. adds_ u.kind u.target e }
  where
    from_ : (kind : UsageKind) (s : Seen) → HasUsage (record { read = more; written = written }) (usage kind s) → HasUsage (record { read = read; written = written }) (usage kind s) ⊎ (usage kind s ≡ usage Read seen)
    from_ Read s h = elim (g.from s h) [ inl o ↦ inl o | inr e ↦ inr (ap (usage Read) e) ]
    from_ Write s h = inl h

    keeps_ : (kind : UsageKind) (s : Seen) → HasUsage (record { read = read; written = written }) (usage kind s) → HasUsage (record { read = more; written = written }) (usage kind s)
    keeps_ Read s h = g.keeps s h
    keeps_ Write s h = h

    adds_ : (kind : UsageKind) (s : Seen) → usage kind s ≡ usage Read seen → HasUsage (record { read = more; written = written }) (usage kind s)
    adds_ Read s e = g.adds s (same_target (usage Read s) (usage Read seen) e)
    adds_ Write s e = other_kind seen s (sym e)

pub written_in : (read written more : SeenSet) (seen : Seen) → AddsSeen written more (λ s. s ≡ seen)
    → Adds (record { read = read; written = written }) (record { read = read; written = more }) (λ u. u ≡ usage Write seen)
written_in read written more seen g = record { from = λ u h. from_ u.kind u.target h; keeps = λ u h. keeps_ u.kind u.target h; adds = λ u e. adds_ u.kind u.target e }
  where
    from_ : (kind : UsageKind) (s : Seen) → HasUsage (record { read = read; written = more }) (usage kind s) → HasUsage (record { read = read; written = written }) (usage kind s) ⊎ (usage kind s ≡ usage Write seen)
    from_ Read s h = inl h
    from_ Write s h = elim (g.from s h) [ inl o ↦ inl o | inr e ↦ inr (ap (usage Write) e) ]

    keeps_ : (kind : UsageKind) (s : Seen) → HasUsage (record { read = read; written = written }) (usage kind s) → HasUsage (record { read = read; written = more }) (usage kind s)
    keeps_ Read s h = h
    keeps_ Write s h = g.keeps s h

    adds_ : (kind : UsageKind) (s : Seen) → usage kind s ≡ usage Write seen → HasUsage (record { read = read; written = more }) (usage kind s)
    adds_ Read s e = other_kind s seen e
    adds_ Write s e = g.adds s (same_target (usage Write s) (usage Write seen) e)

pub rows_joined : (old new other : Row) → AddsSeen old.read new.read (SeesVariable other.read) → AddsSeen old.written new.written (SeesVariable other.written)
    → Adds old new (HasVariable other)
rows_joined old new other g h = record { from = λ u x. from_ u.kind u.target x; keeps = λ u x. keeps_ u.kind u.target x; adds = λ u x. adds_ u.kind u.target x }
  where
    from_ : (kind : UsageKind) (s : Seen) → HasUsage new (usage kind s) → HasUsage old (usage kind s) ⊎ (IsVariable s × HasUsage other (usage kind s))
    from_ Read s x = g.from s x
    from_ Write s x = h.from s x

    keeps_ : (kind : UsageKind) (s : Seen) → HasUsage old (usage kind s) → HasUsage new (usage kind s)
    keeps_ Read s x = g.keeps s x
    keeps_ Write s x = h.keeps s x

    adds_ : (kind : UsageKind) (s : Seen) → IsVariable s × HasUsage other (usage kind s) → HasUsage new (usage kind s)
    adds_ Read s x = g.adds s x
    adds_ Write s x = h.adds s x
