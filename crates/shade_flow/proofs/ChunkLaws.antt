-- What is kept of a function is right: each definition of a chunk has its bits, and what is read at a point is exact.
use Rattle.std.proofs.Common.{◌≡◌, ℕ, zero, suc, ◌+◌, ◌*◌, ◌-◌, ◌^◌, ◌<◌, Bool, true, false, None, Some, List, [], ◌∷◌, length, refl, ap, sym, ◌∙◌, arith, subst, inl, inr}
use Rattle.std.specs.Prelude.{slice_get, replicate, All}
use Rattle.std.proofs.lemmas.Bool.{false≢true}
use Rattle.std.proofs.lemmas.Option.{slice_get_within}
use Rattle.std.proofs.lemmas.Nat.Bits.{bit_at_ones}
use Rattle.shade_core.specs.declared.module.CoreFunction.{CoreFunction}
use Rattle.shade_core.specs.declared.statement.Base.{Base}
use Rattle.shade_core.specs.declared.statement.Base.TheVariants.{Pointee}
use Rattle.shade_core.specs.Code.{Code, code_of}
use Rattle.shade_flow.proofs.Counts.{IsNumbered, is_numbered}
use Rattle.shade_flow.specs.declared.definition.Definition.{Definition}
use Rattle.shade_flow.specs.declared.definition.Definition.TheVariants as definition
use Rattle.shade_flow.specs.declared.definition.Defined.{Defined}
use Rattle.shade_flow.specs.declared.definition.Write.{Write}
use Rattle.shade_flow.specs.declared.point.Point.{Point}
use Rattle.shade_flow.specs.declared.point.Point.TheVariants.{At, Past}
use Rattle.shade_flow.specs.declared.chunk.Chunk.{Chunk}
use Rattle.shade_flow.specs.declared.routes.Routes.{Routes}
use Rattle.shade_flow.specs.Lists.{In}
use Rattle.shade_flow.specs.Bits.{Has, at}
use Rattle.shade_flow.specs.Flow.{Mark, entry, Ways, Makes, stops, Reaches}
use Rattle.shade_flow.specs.Chosen.{before_of, DefinedAscend}
use Rattle.shade_flow.specs.Tables.{number, made_at, begun_at, IsBitOf, IsStop}
use Rattle.shade_flow.specs.Writes.{defined, writes_of, statement_of}
use Rattle.shade_flow.specs.Definitions.{tracked, all_kept, definitions_of}
use Rattle.shade_flow.specs.Routes.{IsRoutesOf, IsSearched, defined_in}
use Rattle.shade_flow.specs.Exact as exact
use Rattle.shade_flow.specs.Exact.{IsChunkOf, AreChunksOf, AreKeptOf, IsBefore}
use Rattle.shade_flow.proofs.Members.{in_left, in_right, in_slice}
use Rattle.shade_flow.proofs.TableLaws.{same_point}
use Rattle.shade_flow.proofs.Marks.{marks_of, writes_are, marks_own, way_makes, way_made, way_stops, way_stopped}
use Rattle.shade_flow.proofs.DefinitionLaws.{StandsIn, all_stand, reaching_there, definitions_ascend, write_has}
use Rattle.shade_flow.proofs.ExactLaws.{all_sound, all_complete, before_ascends}

made_of : (by : Definition) (n : ℕ) → statement_of by ≡ Some n → made_at by ≡ Some (2 * n + 1)
made_of (definition.Entry i) n e = cc
made_of (definition.At m) n e = let same : m ≡ n = cc in ap (λ (k : ℕ). Some (2 * k + 1)) same
made_of (definition.Argument m j) n e = let same : m ≡ n = cc in ap (λ (k : ℕ). Some (2 * k + 1)) same

made_back : (by : Definition) (p : ℕ) → made_at by ≡ Some p → (n : ℕ) × (statement_of by ≡ Some n) × (p ≡ 2 * n + 1)
made_back (definition.Entry i) p e = cc
made_back (definition.At n) p e = (n, refl, cc)
made_back (definition.Argument n j) p e = (n, refl, cc)

begun_back : (first : ℕ) (by : Definition) (p : ℕ) → begun_at first by ≡ Some p → (k : ℕ) × (by ≡ definition.Entry k) × (first ≡ p)
begun_back first (definition.Entry k) p e = (k, refl, cc)
begun_back first (definition.At n) p e = cc
begun_back first (definition.Argument n j) p e = cc

at_ones : (count point word : ℕ) → point < count → at (replicate count word) point ≡ word
at_ones zero point word lt = absurd (omega (arith, lt))
at_ones (suc count) zero word lt = refl
at_ones (suc count) (suc point) word lt = at_ones count point word (omega (arith, lt))

module _ (body : Code) (numbered : IsNumbered body) (routes : Routes) (r : IsRoutesOf body routes) where
  has_statement : (w : Write) → In w (writes_of body) → (n : ℕ) × (statement_of w.defined.by ≡ Some n)
  has_statement w m =
      let x = write_has (marks_of body) (marks_own body) w (subst (λ (l : List Write). In w l) (writes_are body) m) in
      (x.0.0, x.2)

  below : (u v : Point) (m : Mark) → Ways body u m v → number u < routes.nodes
  below u v m f = (r.joined.ends (number u) (number v) (r.ways.there u v m f)).0

  of_routes : (w : Write) → In w (writes_of body) → In w routes.writes.items
  of_routes w m = subst (λ (l : List Write). In w l) (sym r.writes) m

  module _ (chunk : Chunk) (s : IsSearched routes chunk) (stand : (d : Defined) → In d chunk.definitions.items → StandsIn (writes_of body) d) (place : ℕ) (d : Defined) (there : slice_get chunk.definitions.items place ≡ Some d) where
    within : place < length chunk.definitions.items
    within = slice_get_within chunk.definitions.items place d there

    is_here : (other : Defined) → slice_get chunk.definitions.items place ≡ Some other → other ≡ d
    is_here other e = cc (e, there)

    standing : StandsIn (writes_of body) d
    standing = stand d (in_slice chunk.definitions.items place d there)

    starts_there : (k : ℕ) → d.variable ≡ Pointee k → d.by ≡ definition.Entry k → Has (at s.starts (number (entry body Past))) place
    starts_there k v b =
        let is : begun_at routes.first d.by ≡ Some (number (entry body Past)) = ap (λ (x : Definition). begun_at routes.first x) b ∙ ap (λ (x : ℕ). Some x) r.first in
        s.begun.there place (number (entry body Past)) d within there is (omega (arith, r.within, r.first))

    starts_back : (i : ℕ) → Has (at s.starts i) place → (k : ℕ) × (d.variable ≡ Pointee k) × (d.by ≡ definition.Entry k) × (i ≡ number (entry body Past))
    starts_back i h =
        let b = s.begun.back place i h in
        let e : begun_at routes.first d.by ≡ Some i = ap (λ (x : Defined). begun_at routes.first x.by) (sym (is_here b.0 b.2)) ∙ b.3 in
        let k : (k : ℕ) × (d.by ≡ definition.Entry k) × (routes.first ≡ i) = begun_back routes.first d.by i e in
        by k standing
      where
        by : (k : ℕ) × (d.by ≡ definition.Entry k) × (routes.first ≡ i) → StandsIn (writes_of body) d → (j : ℕ) × (d.variable ≡ Pointee j) × (d.by ≡ definition.Entry j) × (i ≡ number (entry body Past))
        by k (inl e) = (e.0, ap (λ (x : Defined). x.variable) e.1, ap (λ (x : Defined). x.by) e.1, sym k.2 ∙ r.first)
        by k (inr w) =
            let n : (n : ℕ) × (statement_of w.0.defined.by ≡ Some n) = has_statement w.0 w.1 in
            let is : w.0.defined.by ≡ definition.Entry k.0 = ap (λ (x : Defined). x.by) w.2 ∙ k.1 in
            let none : statement_of w.0.defined.by ≡ None = ap statement_of is in
            cc (none, n.1)

    makes_there : (u v : Point) (m : Mark) → Ways body u m v → Makes m d.variable d.by → Has (at s.makes (number u)) place
    makes_there u v m f h =
        let x = way_makes body numbered u v m f d.variable d.by h in
        let is : made_at d.by ≡ Some (number u) = made_of d.by x.0 x.3 ∙ ap (λ (p : Point). Some (number p)) (sym x.2) in
        s.made.there place (number u) d within there is (below u v m f)

    -- the statement of a point where a definition is made
    made_here : (u : Point) (by : Definition) → made_at by ≡ Some (number u) → (n : ℕ) × (statement_of by ≡ Some n) × (u ≡ At n)
    made_here u by e = let b : (n : ℕ) × (statement_of by ≡ Some n) × (number u ≡ 2 * n + 1) = made_back by (number u) e in (b.0, b.1, same_point u (At b.0) b.2)

    makes_back : (u v : Point) (m : Mark) → Ways body u m v → Has (at s.makes (number u)) place → Makes m d.variable d.by
    makes_back u v m f h =
        let b = s.made.back place (number u) h in
        let e : made_at d.by ≡ Some (number u) = ap (λ (x : Defined). made_at x.by) (sym (is_here b.0 b.2)) ∙ b.3 in
        by (made_here u d.by e) standing
      where
        by : (n : ℕ) × (statement_of d.by ≡ Some n) × (u ≡ At n) → StandsIn (writes_of body) d → Makes m d.variable d.by
        by n (inl e) = let none : statement_of d.by ≡ None = ap (λ (x : Defined). statement_of x.by) e.1 in cc (none, n.1)
        by n (inr w) =
            let way : Ways body (At n.0) m v = subst (λ (p : Point). Ways body p m v) n.2 f in
            let is : statement_of w.0.defined.by ≡ Some n.0 = ap (λ (x : Defined). statement_of x.by) w.2 ∙ n.1 in
            subst (λ (x : Defined). Makes m x.variable x.by) w.2 (way_made body numbered n.0 v m way w.0 w.1 is)

    passes_there : (u v : Point) (m : Mark) → Ways body u m v → stops m d.variable ≡ false → Has (at s.passes (number u)) place
    passes_there u v m f lets = s.stopped.complete place (number u) d there all (λ w here stop. none w here stop)
      where
        all : Has (at (replicate routes.nodes (2 ^ 64 - 1)) (number u)) place
        all = rw (at_ones routes.nodes (number u) (2 ^ 64 - 1) (below u v m f)) (bit_at_ones 64 place (omega (arith, within, s.few)))

        none : (w : Write) → In w routes.writes.items → IsStop w (number u) d.variable → ⊥
        none w here stop =
            let n : (n : ℕ) × (statement_of w.defined.by ≡ Some n) × (u ≡ At n) = made_here u w.defined.by stop.place in
            let way : Ways body (At n.0) m v = subst (λ (p : Point). Ways body p m v) n.2 f in
            let stopped : stops m w.defined.variable ≡ true = way_stopped body numbered n.0 v m way w (subst (λ (l : List Write). In w l) r.writes here) n.1 stop.whole in
            false≢true (sym lets ∙ subst (λ (x : Base). stops m x ≡ true) stop.same stopped)

    passes_back : (u v : Point) (m : Mark) → Ways body u m v → Has (at s.passes (number u)) place → stops m d.variable ≡ false
    passes_back u v m f h = by (stops m d.variable) refl
      where
        by : (b : Bool) → stops m d.variable ≡ b → stops m d.variable ≡ false
        by false e = e
        by true e =
            let x = way_stops body numbered u v m f d.variable e in
            let is : made_at x.1.defined.by ≡ Some (number u) = made_of x.1.defined.by x.0 x.3 ∙ ap (λ (p : Point). Some (number p)) (sym x.2) in
            absurd ((s.stopped.sound place (number u) d there h).1 x.1 (of_routes x.1 x.4) (record { whole = x.5; place = is; same = x.6 }))

    bits : IsBitOf body d.variable d.by place s.starts s.makes s.passes
    bits = record { starts_there = starts_there; starts_back = starts_back; makes_there = makes_there; makes_back = makes_back; passes_there = passes_there; passes_back = passes_back }

  chunks_right : (chunks : List Chunk) → All (IsSearched routes) chunks → ((d : Defined) → In d (defined_in chunks) → StandsIn (writes_of body) d) → AreChunksOf body routes.graph.edges chunks
  chunks_right [] all stand = tt
  chunks_right (chunk ∷ later) all stand = (one, chunks_right later (λ k d lt. all (suc k) d (omega (arith, lt))) (λ d m. stand d (in_right d chunk.definitions.items (defined_in later) m)))
    where
      s : IsSearched routes chunk
      s = all 0 chunk (omega arith)

      one : IsChunkOf body routes.graph.edges chunk
      one = record { starts = s.starts; makes = s.makes; passes = s.passes; reached = s.reached; bits = bits chunk s (λ d m. stand d (in_left d chunk.definitions.items (defined_in later) m)) }

pub are_kept : (function : CoreFunction) (routes : Routes) (definitions : List Defined) (chunks : List Chunk) → IsRoutesOf (code_of function.body) routes
    → definitions ≡ all_kept function routes.writes.items → defined_in chunks ≡ definitions → All (IsSearched routes) chunks → AreKeptOf function chunks
are_kept function routes definitions chunks r e f all = record { edges = routes.graph.edges; ways = r.ways; right = λ numbered. chunks_right (code_of function.body) (is_numbered (code_of function.body) numbered) routes r chunks all stand; all = is }
  where
    is : defined_in chunks ≡ definitions_of function
    is = f ∙ (e ∙ ap (λ (ws : List Write). all_kept function ws) r.writes)

    stand : (d : Defined) → In d (defined_in chunks) → StandsIn (writes_of (code_of function.body)) d
    stand d m = all_stand function (writes_of (code_of function.body)) d (subst (λ (l : List Defined). In d l) is m)

pub is_before : (statement : ℕ) (variable : Base) (chunks : List Chunk) (found : List Definition) (point : ℕ) → point ≡ number (At statement) → found ≡ before_of point variable chunks
    → (function : CoreFunction) → AreKeptOf function chunks → exact.IsNumbered (code_of function.body) → tracked function variable ≡ true → IsBefore function statement variable found
is_before statement variable chunks found point p e function k numbered t = subst (λ (l : List Definition). IsBefore function statement variable l) (sym (e ∙ ap (λ (n : ℕ). before_of n variable chunks) p)) (record {
  exact = λ by. (
    all_sound (code_of function.body) k.edges k.ways (At statement) variable chunks (k.right numbered) by,
    λ r. all_complete (code_of function.body) k.edges k.ways (At statement) variable chunks (k.right numbered) by (there by r) r,
  );
  ascends = before_ascends (number (At statement)) variable chunks (subst DefinedAscend (sym k.all) (definitions_ascend function (is_numbered (code_of function.body) numbered)));
})
  where
    there : (by : Definition) → Reaches (code_of function.body) variable by (At statement) → In (defined variable by) (defined_in chunks)
    there by r = subst (λ (l : List Defined). In (defined variable by) l) (sym k.all) (reaching_there function (is_numbered (code_of function.body) numbered) variable t by (At statement) r)
