-- The tags of a function are those that its paths join over the tags of the functions that it calls.
use Rattle.std.proofs.Common.{◌≡◌, refl, sym, ap, subst, ◌∙◌, ℕ, zero, suc, ◌<◌, List, [], ◌∷◌, length, Option, Some, arith}
use Rattle.std.specs.Prelude.{◌↔◌, slice_get}
use Rattle.shade_core.specs.declared.module.CoreFunction.{CoreFunction}
use Rattle.shade_core.specs.declared.module.CoreModule.{CoreModule}
use Rattle.shade_core.specs.Code.{Code, call}
use Rattle.shade_core.specs.Chains.{Calls, calls_in}
use Rattle.shade_graph.specs.declared.node.Node.{Node}
use Rattle.shade_graph.specs.declared.node.Tag.{Tag}
use Rattle.shade_graph.specs.declared.node.Via.{Via}
use Rattle.shade_graph.specs.Graph.{Among}
use Rattle.shade_reach.specs.Paths.{Walk}
use Rattle.shade_uniformity.specs.Rows.{TagRow, SourceAt, TargetAt}
use Rattle.shade_uniformity.specs.Rows as rows
use Rattle.shade_uniformity.specs.Edges.{GivesByTag, Edge, own, by_tag}
use Rattle.shade_tags.specs.Tags.{IsPair, IsTag, joins, IsTable, Leads}
use Rattle.shade_tags.specs.Laws.{JoinsPair, IsListed, ByCallees, ByPaths, CallsDescend, IsClosed, ClosedIsTable}
use Rattle.shade_tags.proofs.CallLaws.{contains_first, analysed_called}

-- what a tag row says of the call that it stands at
abbrev RowCases : CoreFunction → List (List Tag) → Code → Tag → Node → Node → Type 0
RowCases function tags (call n g args rest) tag u v = (of : List Tag) × (slice_get tags g ≡ Some of) × Among tag of × SourceAt n tag.source u × TargetAt function n args tag.target v
RowCases function tags _ tag u v = ⊥

row_cases : {function : CoreFunction} {tags : List (List Tag)} {c : Code} {tag : Tag} {u v : Node} → TagRow function tags c tag u v → RowCases function tags c tag u v
row_cases (rows.by_tag {of} at among from to) = (of, at, among, from, to)

-- a tag that gives an edge is a tag
pub given_tag : (shader : CoreModule) (function : CoreFunction) (tags : List (List Tag)) (via : Via) (u v : Node) → IsTable shader tags → GivesByTag shader function tags via u v → IsTag shader via.callee via.tag
given_tag shader function tags via u v table gives = let cases = row_cases gives.row in (table.members via.callee cases.0 cases.1 via.tag).0 cases.2

-- a call that gives an edge is a call of the function
given_call : (shader : CoreModule) (k : ℕ) (function : CoreFunction) (tags : List (List Tag)) (via : Via) (u v : Node) → slice_get shader.functions k ≡ Some function → GivesByTag shader function tags via u v
    → Calls shader k via.callee
given_call shader k function tags via u v at gives =
    let c = analysed_called 0 via.callee gives.stands (λ l. (l, contains_first (via.callee, l) (calls_in l gives.rest))) in
    record { loops = c.0; stands = record { function = function; at = at; stands = c.1 } }

-- edges over a table are edges over another that lists as many tags of what is called
edge_grows : (shader : CoreModule) (k : ℕ) (function : CoreFunction) (tags other : List (List Tag)) → slice_get shader.functions k ≡ Some function
    → ((g : ℕ) (tag : Tag) → Calls shader k g → IsListed tags g tag → IsListed other g tag) → (u v : Node) → Edge shader function tags u v → Edge shader function other u v
edge_grows shader k function tags other at more u v (own e) = own e
edge_grows shader k function tags other at more u v (by_tag {via} gives) =
    let cases = row_cases gives.row in
    let listed = more via.callee via.tag (given_call shader k function tags via u v at gives) (cases.0, cases.1, cases.2) in
    by_tag (record { ends = gives.ends; under = gives.under; args = gives.args; rest = gives.rest; stands = gives.stands; row = rows.by_tag listed.1 listed.2 cases.3 cases.4 })

walk_grows : (E F : Node → Node → Type 0) → ((u v : Node) → E u v → F u v) → (from to : Node) (rest : List Node) → Walk E from to rest → Walk F from to rest
walk_grows E F more from to [] w = w
walk_grows E F more from to (next ∷ rest) w = (more from next w.0, walk_grows E F more next to rest w.1)

leads_grows : (E F : Node → Node → Type 0) → ((u v : Node) → E u v → F u v) → (from to : Node) → Leads E from to → Leads F from to
leads_grows E F more from to ([], p) = absurd p
leads_grows E F more from to (first ∷ rest, p) = (first ∷ rest, (p.0, walk_grows E F more from to rest p.1))

some_one : (found : Option CoreFunction) (f g : CoreFunction) → found ≡ Some f → found ≡ Some g → f ≡ g
some_one found f g a b = let e : Some f ≡ Some g = sym a ∙ b in cc

-- a function and a table for the functions that it calls
abbrev Exact : CoreModule → List (List Tag) → ℕ → Type 0
Exact shader tags k = (g : ℕ) (tag : Tag) → Calls shader k g → IsListed tags g tag ↔ IsTag shader g tag

tag_joined : (shader : CoreModule) (tags : List (List Tag)) (k : ℕ) (function : CoreFunction) → slice_get shader.functions k ≡ Some function → Exact shader tags k → (tag : Tag) → IsTag shader k tag
    → JoinsPair shader function tags tag
tag_joined shader tags k function at exact tag (joins {function = f} {tags = mine} stands pair all leads) =
    let same : f ≡ function = some_one (slice_get shader.functions k) f function stands at in
    let over : Leads (Edge shader function mine) tag.source tag.target = subst (λ (h : CoreFunction). Leads (Edge shader h mine) tag.source tag.target) same leads in
    (pair, leads_grows (Edge shader function mine) (Edge shader function tags) (edge_grows shader k function mine tags at (λ g t c l. (exact g t c).1 (all g l.0 t c l.1 l.2))) tag.source tag.target over)

pub by_callees : ByCallees
by_callees shader tags k function at exact tag = (λ j. joins at j.0 (λ g of t c e h. (exact g t c).0 (of, e, h)) j.1, λ t. tag_joined shader tags k function at exact tag t)

-- lists as long as each other have an item at the same places
other_at : {A B : Type 0} (xs : List A) (ys : List B) (k : ℕ) (y : B) → length xs ≡ length ys → slice_get ys k ≡ Some y → (x : A) × (slice_get xs k ≡ Some x)
other_at xs [] k y l e = cc
other_at [] (z ∷ ys) k y l e = absurd (omega (arith, l))
other_at (x ∷ xs) (z ∷ ys) zero y l e = (x, refl)
other_at (x ∷ xs) (z ∷ ys) (suc k) y l e = other_at xs ys k y (omega (arith, l)) e

tag_stands : (shader : CoreModule) (k : ℕ) (tag : Tag) → IsTag shader k tag → (function : CoreFunction) × (slice_get shader.functions k ≡ Some function)
tag_stands shader k tag (joins {function = f} stands pair all leads) = (f, stands)

table_exact : (shader : CoreModule) (tags : List (List Tag)) → IsTable shader tags → (g : ℕ) (tag : Tag) → IsListed tags g tag ↔ IsTag shader g tag
table_exact shader tags table g tag = (λ l. (table.members g l.0 l.1 tag).0 l.2, λ t. (let f = tag_stands shader g tag t in let of = other_at tags shader.functions g f.0 table.long f.1 in (of.0, of.1, (table.members g of.0 of.1 tag).1 t)))

pub by_paths : ByPaths
by_paths shader tags table k function of at listed tag =
    let both = by_callees shader tags k function at (λ g t c. table_exact shader tags table g t) tag in
    (λ h. both.1 ((table.members k of listed tag).0 h), λ j. (table.members k of listed tag).1 (both.0 j))

some_list : (found : Option (List Tag)) (of other : List Tag) → found ≡ Some of → found ≡ Some other → of ≡ other
some_list found of other a b = let e : Some of ≡ Some other = sym a ∙ b in cc

-- a table that is closed is exact at functions of little depth
closed_exact : (shader : CoreModule) (tags : List (List Tag)) (down : CallsDescend shader) → length tags ≡ length shader.functions → IsClosed shader tags → (n k : ℕ) → down.depth k < n → (tag : Tag)
    → IsListed tags k tag ↔ IsTag shader k tag
closed_exact shader tags down long closed zero k l tag = absurd (omega (arith, l))
closed_exact shader tags down long closed (suc n) k l tag = (
  λ listed. (let f = other_at shader.functions tags k listed.0 (sym long) listed.1 in
      (by_callees shader tags k f.0 f.1 (λ g t c. closed_exact shader tags down long closed n g (omega (arith, l, down.falls k g c)) t) tag).0 ((closed k f.0 listed.0 f.1 listed.1 tag).0 listed.2)),
  λ t. (let f = tag_stands shader k tag t in
      let of = other_at tags shader.functions k f.0 long f.1 in
      (of.0, of.1, (closed k f.0 of.0 f.1 of.1 tag).1 ((by_callees shader tags k f.0 f.1 (λ g t c. closed_exact shader tags down long closed n g (omega (arith, l, down.falls k g c)) t) tag).1 t))),
)

pub closed_is_table : ClosedIsTable
closed_is_table shader tags down long closed ordered = record {
  long = long;
  members = λ k of at tag. (let both = closed_exact shader tags down long closed (suc (down.depth k)) k (omega arith) tag in
      (λ h. both.0 (of, at, h), λ t. (let l = both.1 t in subst (λ (xs : List Tag). Among tag xs) (some_list (slice_get tags k) l.0 of l.1 at) l.2)));
  ordered = ordered;
}
