-- Events in the order of a text as the pieces that they tell, each range from its beginning to its end.
use Rattle.std.proofs.Common.{◌≡◌, refl, sym, ◌∙◌, subst, ℕ, ◌≤◌, Bool, true, false, List, [], ◌∷◌, ◌++◌, length, map, append_assoc, Option, Some, None}
use Rattle.std.specs.Prelude.{Contains, IsTrue}
use Rattle.std.proofs.lemmas.List.Elements.{Contains-append_left, Contains-append_right}
use Rattle.std.specs.List.{flat_map}
use Rattle.shade_ast.specs.Nodes.{joined, joined_of, maybe_of}
use Rattle.shade_events.specs.declared.event.Event.{Event}
use Rattle.shade_events.specs.declared.event.Event.TheVariants as event
use Rattle.shade_events.specs.declared.filters.Filter.{Filter}
use Rattle.shade_events.specs.Events.{Es}
use Rattle.shade_events.specs.Events.{joined as all_events, maybe as maybe_events}
use Rattle.shade_scope.specs.Ranges.{Piece, both, covering, own, plain, row}

-- what is neither a node nor of a range
abbrev pub is_other : Event → Bool
is_other (event.Node n) = false
is_other event.Covers = false
is_other (event.Filters f) = false
is_other event.Uncovers = false
is_other _ = true

-- what a text declares has a number of which something is known
abbrev pub known : (ℕ → Type 0) → Event → Type 0
known K (event.Declares n entry) = K n.node
known K (event.Enters n) = K n
known K _ = Unit {0}

abbrev pub AllKnown : (ℕ → Type 0) → List ℕ → Type 0
AllKnown K ns = (n : ℕ) → Contains ns n → K n

-- what is told from some events on up to those that are behind it
pub data Walk (K : ℕ → Type 0) : Es → Es → Piece → Type 0 where
  none : {w : Es} → Walk K w w (plain [])
  at : (n : ℕ) {w : Es} → Walk K (event.Node n ∷ w) w (own n)
  next : {a b c : Es} {p q : Piece} → Walk K a b p → Walk K b c q → Walk K a c (both p q)
  drop : {a b : Es} {p : Piece} (e : Event) → IsTrue (is_other e) → known K e → Walk K a (e ∷ b) p → Walk K a b p
  within : {a b c d : Es} {p : Piece} (ns : List ℕ) (fs : List Filter) → length fs ≤ length ns → Walk K a (event.Covers ∷ b) (plain ns)
      → b ≡ map event.Filters fs ++ c → Walk K c (event.Uncovers ∷ d) p → Walk K a d (both (plain ns) (covering fs p))

pub all_left : {K : ℕ → Type 0} (ns ms : List ℕ) → AllKnown K (ns ++ ms) → AllKnown K ns
all_left ns ms all n c = all n (Contains-append_left ns ms n c)

pub all_right : {K : ℕ → Type 0} (ns ms : List ℕ) → AllKnown K (ns ++ ms) → AllKnown K ms
all_right ns ms all n c = all n (Contains-append_right ns ms n c)

-- events that tell a piece with these nodes, and then others, where all of them are known
pub record Told (K : ℕ → Type 0) (es others : Es) (p : Piece) (ns : List ℕ) : Type 0 where
  pub walk : AllKnown K ns → (w : Es) → Walk K (es ++ w) (others ++ w) p
  pub nodes : p.nodes ≡ ns

abbrev pub Plain : (ℕ → Type 0) → Es → List ℕ → Type 0
Plain K es ns = Told K es [] (plain ns) ns

pub told_none : {K : ℕ → Type 0} (es : Es) → Told K es es (plain []) []
told_none es = record { walk = λ all w. none; nodes = refl }

pub told_own : {K : ℕ → Type 0} (n : ℕ) → Plain K (event.Node n ∷ []) (n ∷ [])
told_own n = record { walk = λ all w. at n; nodes = refl }

pub told_seq : {K : ℕ → Type 0} {a b t : Es} {p q : Piece} {ns ms : List ℕ} → Told K a [] p ns → Told K b t q ms → Told K (a ++ b) t (both p q) (ns ++ ms)
told_seq {K = K} {a = a} {b = b} {p = p} {ns = ns} {ms = ms} x y = record {
  walk =
      λ all w.
      next (subst (λ (z : Es). Walk K z (b ++ w) p) (sym (append_assoc a b w)) (x.walk (all_left ns ms all) (b ++ w))) (y.walk (all_right ns ms all) w);
  nodes = λ i. x.nodes i ++ y.nodes i;
}

-- the others are left as they are
pub told_onto : {K : ℕ → Type 0} {a b : Es} {p : Piece} {ns : List ℕ} → Told K a [] p ns → Told K (a ++ b) b p ns
told_onto {K = K} {a = a} {b = b} {p = p} x = record {
  walk = λ all w. subst (λ (z : Es). Walk K z (b ++ w) p) (sym (append_assoc a b w)) (x.walk all (b ++ w));
  nodes = x.nodes;
}

pub told_chain : {K : ℕ → Type 0} {a b c : Es} {p q : Piece} {ns ms : List ℕ} → Told K a b p ns → Told K b c q ms → Told K a c (both p q) (ns ++ ms)
told_chain {ns = ns} {ms = ms} x y = record { walk = λ all w. next (x.walk (all_left ns ms all) w) (y.walk (all_right ns ms all) w); nodes = λ i. x.nodes i ++ y.nodes i }

pub told_as : {K : ℕ → Type 0} {a t : Es} {p : Piece} {ns ms : List ℕ} → ns ≡ ms → Told K a t p ns → Told K a t p ms
told_as {K = K} e x = record { walk = λ all. x.walk (subst (AllKnown K) (sym e) all); nodes = x.nodes ∙ e }

-- what its own nodes are known for may be asked
pub plain_given : {K : ℕ → Type 0} {a : Es} {ns : List ℕ} → (AllKnown K ns → Plain K a ns) → Plain K a ns
plain_given f = record { walk = λ all. (f all).walk all; nodes = refl }

pub plain_as : {K : ℕ → Type 0} {a : Es} {ns ms : List ℕ} → ns ≡ ms → Plain K a ns → Plain K a ms
plain_as {K = K} {a = a} e x = subst (λ (l : List ℕ). Plain K a l) e x

-- ---- events that are put together to the left, and the same to the right

abbrev pub left : Es → List Es → Es
left a [] = a
left a (b ∷ bs) = left (a ++ b) bs

abbrev pub right : Es → List Es → Es
right a [] = a
right a (b ∷ bs) = a ++ right b bs

grouped : (a b : Es) (bs : List Es) → right (a ++ b) bs ≡ a ++ right b bs
grouped a b [] = refl
grouped a b (c ∷ cs) = append_assoc a b (right c cs)

left_is : (a : Es) (bs : List Es) → left a bs ≡ right a bs
left_is a [] = refl
left_is a (b ∷ bs) = left_is (a ++ b) bs ∙ grouped a b bs

pub told_left : {K : ℕ → Type 0} {t : Es} {p : Piece} {ns : List ℕ} (a : Es) (bs : List Es) → Told K (right a bs) t p ns → Told K (left a bs) t p ns
told_left {K = K} {t = t} {p = p} {ns = ns} a bs x = subst (λ (z : Es). Told K z t p ns) (sym (left_is a bs)) x

-- ---- an event that is neither a node nor of a range

pub told_behind : {K : ℕ → Type 0} {a t : Es} {p : Piece} {ns : List ℕ} (e : Event) → IsTrue (is_other e) → known K e → Told K a t p ns → Told K (e ∷ a) t p ns
told_behind e ok k x = record { walk = λ all w. next (drop e ok k none) (x.walk all w); nodes = x.nodes }

pub told_before : {K : ℕ → Type 0} {a t : Es} {p : Piece} {ns : List ℕ} (e : Event) → IsTrue (is_other e) → known K e → Told K a (e ∷ t) p ns → Told K a t p ns
told_before e ok k x = record { walk = λ all w. drop e ok k (x.walk all w); nodes = x.nodes }

pub told_other : {K : ℕ → Type 0} (e : Event) → IsTrue (is_other e) → known K e → Plain K (e ∷ []) []
told_other e ok k = told_behind e ok k (told_none [])

-- ---- lists and options

-- of what each has with that fact
pub told_list : {K : ℕ → Type 0} {A : Type 0} (f : A → Es) (g : A → Piece) (h : A → List ℕ) (l : List ((a : A) × Told K (f a) [] (g a) (h a)))
    → Told K (all_events (map f (map (λ a. a.0) l))) [] (row (map g (map (λ a. a.0) l))) (joined (map h (map (λ a. a.0) l)))
told_list f g h [] = told_none []
told_list f g h (a ∷ l) = told_seq a.1 (told_list f g h l)

-- of what each has by itself
pub told_all : {K : ℕ → Type 0} {A : Type 0} (f : A → Es) (g : A → Piece) (h : A → List ℕ) → ((a : A) → Told K (f a) [] (g a) (h a)) → (l : List A) → Told K (flat_map f l) [] (row (map g l)) (joined_of h l)
told_all f g h told [] = told_none []
told_all f g h told (a ∷ l) = told_seq (told a) (told_all f g h told l)

pub plain_all : {K : ℕ → Type 0} {A : Type 0} (f : A → Es) (h : A → List ℕ) → ((a : A) → Plain K (f a) (h a)) → (l : List A) → Plain K (flat_map f l) (joined_of h l)
plain_all f h told [] = told_none []
plain_all f h told (a ∷ l) = told_seq (told a) (plain_all f h told l)

pub plain_none : {K : ℕ → Type 0} {A : Type 0} (f : A → Es) → ((a : A) → Plain K (f a) []) → (l : List A) → Plain K (flat_map f l) []
plain_none f told [] = told_none []
plain_none f told (a ∷ l) = told_seq (told a) (plain_none f told l)

pub plain_maybe : {K : ℕ → Type 0} {A : Type 0} (f : A → Es) (h : A → List ℕ) → ((a : A) → Plain K (f a) (h a)) → (o : Option A) → Plain K (maybe_events f o) (maybe_of h o)
plain_maybe f h told None = told_none []
plain_maybe f h told (Some a) = told a
