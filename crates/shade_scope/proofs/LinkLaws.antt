-- The ends of the links of a tree are numbers of its nodes, so what is known of those holds of them.
use Rattle.std.proofs.Common.{◌≡◌, sym, ap, ◌∙◌, subst, ℕ, zero, suc, ◌+◌, ◌<◌, ◌^◌, Bool, true, false, List, [], ◌∷◌, ◌++◌, length, map, take, arith, Option, Some, None}
use Rattle.std.proofs.lemmas.List.{append-nil}
use Rattle.std.specs.Prelude.{All, ◌==◌, if◌then◌else◌}
use Rattle.std.proofs.lemmas.List.Elements.{All-append, All-nil, All-push}
use Rattle.shade_ast.specs.declared.tree.Tree.{Tree}
use Rattle.shade_ast.specs.Nodes.{tree_nodes}
use Rattle.shade_events.specs.declared.event.Event.{Event}
use Rattle.shade_events.specs.declared.event.Event.TheVariants as event
use Rattle.shade_events.specs.declared.filters.Filter.{Filter}
use Rattle.shade_events.specs.Events.{Es, tree_events}
use Rattle.shade_scope.specs.declared.bound.Bound.{Bound}
use Rattle.shade_scope.specs.InForce.{Context, InForce}
use Rattle.shade_scope.specs.Scopes.{after, bound, found, is_declared, last_or, link_of, linked, links, newest, one_if, or_else, start}
use Rattle.shade_scope.specs.Ranges.{IsNumbered, Piece, tree_piece}
use Rattle.shade_scope.specs.Cycles.{AreSmall}
use Rattle.shade_scope.specs.Resolved.{tree_links}
use Rattle.shade_scope.proofs.GradeLaws.{count_high}
use Rattle.shade_scope.proofs.Walks.{AllKnown, Told, Walk, at, drop, known, next, none, within}
use Rattle.shade_scope.proofs.TreeWalks.{tree_told}

module _ (K : ℕ → Type 0) where
  -- what some events declare is known
  abbrev Fine : Es → Type 0
  Fine [] = Unit {0}
  Fine (e ∷ es) = known K e × Fine es

  filters_fine : (fs : List Filter) (es : Es) → Fine es → Fine (map event.Filters fs ++ es)
  filters_fine [] es f = f
  filters_fine (x ∷ fs) es f = (tt, filters_fine fs es f)

  fine : {a b : Es} {p : Piece} → Walk K a b p → Fine b → Fine a
  fine none f = f
  fine (at n) f = (tt, f)
  fine (next x y) f = fine x (fine y f)
  fine (drop e ok k x) f = fine x (k, f)
  fine (within {c = c} ns fs few x is y) f = fine x (tt, subst Fine (sym is) (filters_fine fs c (fine y (tt, f))))

  fine_front : (xs ys : Es) → Fine (xs ++ ys) → Fine xs
  fine_front [] ys f = tt
  fine_front (x ∷ xs) ys f = (f.0, fine_front xs ys f.1)

  abbrev KnownBound : Bound → Type 0
  KnownBound b = K b.node

  abbrev MaybeKnown : Option Bound → Type 0
  MaybeKnown None = Unit {0}
  MaybeKnown (Some b) = K b.node

  abbrev KnownBounds : List Bound → Type 0
  KnownBounds [] = Unit {0}
  KnownBounds (b ∷ bs) = K b.node × KnownBounds bs

  bounds_more : (bs : List Bound) (b : Bound) → KnownBounds bs → K b.node → KnownBounds (bs ++ b ∷ [])
  bounds_more [] b g k = (k, tt)
  bounds_more (x ∷ bs) b g k = (g.0, bounds_more bs b g.1 k)

  bounds_take : (n : ℕ) (bs : List Bound) → KnownBounds bs → KnownBounds (take n bs)
  bounds_take zero bs g = tt
  bounds_take (suc n) [] g = tt
  bounds_take (suc n) (b ∷ bs) g = (g.0, bounds_take n bs g.1)

  chosen_known : (o : Option Bound) (b : Bound) (same : Bool) → MaybeKnown o → K b.node → MaybeKnown (or_else o (one_if same b))
  chosen_known (Some x) b same h k = h
  chosen_known None b true h k = k
  chosen_known None b false h k = tt

  newest_known : (bs : List Bound) (name : ℕ) → KnownBounds bs → MaybeKnown (newest bs name)
  newest_known [] name g = tt
  newest_known (b ∷ bs) name g = chosen_known (newest bs name) b (b.name == name) (newest_known bs name g.1) g.0

  record Good (c : Context) : Type 0 where
    inside : K c.within
    bounds : KnownBounds c.scopes.bounds

  declared_known : (x : Bool) (s t : InForce) → KnownBounds s.bounds → KnownBounds t.bounds → (let r : InForce = if x then s else t in KnownBounds r.bounds)
  declared_known true s t g h = g
  declared_known false s t g h = h

  after_good : (c : Context) (e : Event) → known K e → Good c → Good (after c e)
  after_good c event.Opens k g = record { inside = g.inside; bounds = g.bounds }
  after_good c event.Closes k g = record { inside = g.inside; bounds = bounds_take (last_or (length c.scopes.bounds) c.scopes.opened) c.scopes.bounds g.bounds }
  after_good c (event.Declares n entry) k g =
      let more : InForce = record { opened = c.scopes.opened; bounds = c.scopes.bounds ++ bound c.scopes n entry ∷ [] } in
      record { inside = g.inside; bounds = declared_known (is_declared c.scopes n.name) c.scopes more g.bounds (bounds_more c.scopes.bounds (bound c.scopes n entry) g.bounds k) }
  after_good c (event.Enters node) k g = record { inside = k; bounds = g.bounds }
  after_good c _ k g = record { inside = g.inside; bounds = g.bounds }

  abbrev KnownEnds : ℕ × ℕ → Type 0
  KnownEnds l = K l.0 × K l.1

  linked_known : (inside : ℕ) (o : Option Bound) → K inside → MaybeKnown o → All KnownEnds (linked inside o)
  linked_known inside None k h = All-nil KnownEnds
  linked_known inside (Some b) k h = by_depth (b.depth == 0)
    where
      by_depth : (x : Bool) → All KnownEnds (if x then (inside, b.node) ∷ [] else [])
      by_depth true = All-push KnownEnds [] (inside, b.node) (All-nil KnownEnds) (k, h)
      by_depth false = All-nil KnownEnds

  link_known : (c : Context) (e : Event) → Good c → All KnownEnds (link_of c.within c.scopes e)
  link_known c (event.Uses n called) g = linked_known c.within (found c.scopes n.name) g.inside (newest_known c.scopes.bounds n.name g.bounds)
  link_known c _ g = All-nil KnownEnds

  links_known : (es : Es) (c : Context) → Fine es → Good c → All KnownEnds (links c es)
  links_known [] c f g = All-nil KnownEnds
  links_known (e ∷ es) c f g = All-append KnownEnds (link_of c.within c.scopes e) (links (after c e) es) (link_known c e g) (links_known es (after c e) f.1 (after_good c e f.0 g))

  tree_links_known : (t : Tree) → K 0 → AllKnown K (tree_nodes t) → All KnownEnds (tree_links t)
  tree_links_known t zero_known all =
      let told : Told K (tree_events t ++ event.Uncovers ∷ []) [] (tree_piece t) (tree_nodes t) = tree_told K t all in
      let whole : Fine (tree_events t ++ event.Uncovers ∷ []) = subst Fine (append-nil (tree_events t ++ event.Uncovers ∷ [])) (fine (told.walk all []) tt) in
      links_known (tree_events t) start (fine_front (tree_events t) (event.Uncovers ∷ []) whole) (record { inside = zero_known; bounds = tt })

-- so they are small enough to be counted where the nodes of the tree are
pub small_links : (t : Tree) (row : Es) (ls : List (ℕ × ℕ)) → IsNumbered t → row ≡ tree_events t → ls ≡ links start row → AreSmall ls
small_links t row ls n is_row is_links =
    let small : ℕ → Type 0 = λ k. k + 1 < 2 ^ 32 in
    subst AreSmall (sym (is_links ∙ ap (links start) is_row))
    (tree_links_known small t (omega arith) (λ k c. omega (arith, count_high (tree_nodes t) 0 n.count k n.numbered c, n.few)))
