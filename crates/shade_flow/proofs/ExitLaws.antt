-- Walks from point to point are walks by exits: each way passes the exits on to the next point, and each exit leads to one point.
use Rattle.std.proofs.Common.{◌≡◌, ℕ, ◌+◌, ◌≤◌, false, Some, List, [], ◌∷◌, ◌++◌, map, refl, ap, sym, ◌∙◌, arith, subst, inl, inr}
use Rattle.std.proofs.lemmas.List.{map-append}
use Rattle.shade_core.specs.declared.statement.Base.{Base}
use Rattle.shade_core.specs.Code.{Jump, Break, Continue, Return, Code, done, plain, jump, call, branch, switch, loop, no_part, part}
use Rattle.shade_flow.specs.declared.definition.Definition.{Definition}
use Rattle.shade_flow.specs.declared.point.Point.{Point}
use Rattle.shade_flow.specs.declared.point.Point.TheVariants.{Turn, Past}
use Rattle.shade_flow.specs.Lists.{In}
use Rattle.shade_flow.specs.Flow.{Mark, Nothing, entry, jump_to, Makes, stops, Flow, Ways, Reaches}
use Rattle.shade_flow.specs.Flow as flow
use Rattle.shade_flow.specs.Exits.{Way, ByNext, ByBreak, ByContinue, ByReturn, Place, Stands, Exit, begin, Out, leads, behind, branch_exits, switch_exits, body_exits, continuing_exits, function_exits, way_of, Joined, ReachesByExits}
use Rattle.shade_flow.specs.Exits as exits
use Rattle.shade_flow.specs.Laws.{ReachesAlike}
use Rattle.shade_flow.proofs.Counts.{numbers_of, CountFrom, is_numbered}
use Rattle.shade_flow.proofs.Members.{in_left, in_right}

abbrev Joins : Type 1
Joins = Place → Mark → Place → Type 0

abbrev Leads : Type 1
Leads = Point → Mark → Point → Type 0

-- from point to point: over exits, on which nothing is done to variables

-- a walk on which nothing is done
data Silent (J : Joins) : Place → Place → Type 0 where
  stays : {p : Place} → Silent J p p
  goes_on : {p q r : Place} → J p Nothing q → Silent J q r → Silent J p r

begin_silent : (J : Joins) (code : Code) (p : Place) (next : Point) → Silent J p (Stands next) → Silent J (begin code p) (Stands (entry code next))
begin_silent J done p next s = s
begin_silent J (plain n act rest) p next s = stays
begin_silent J (jump n act rest) p next s = stays
begin_silent J (call n g args rest) p next s = stays
begin_silent J (branch n cond one two rest) p next s = stays
begin_silent J (switch n selector parts rest) p next s = stays
begin_silent J (loop n body continuing leave rest) p next s = stays
begin_silent J no_part p next s = s
begin_silent J (part n which keys fallback body others) p next s = s

-- the ways out of a list lead to these points
record Ends (J : Joins) (out : Out) (next break continue : Point) : Type 0 where
  next_ends : Silent J out.next (Stands next)
  breaks_end : Silent J out.breaks (Stands break)
  continues_end : Silent J out.continues (Stands continue)
  returns_end : Silent J out.returns (Stands Past)

-- out of a part of a statement with a number, whose exits are joined to what is behind it
abbrev AreLed : Joins → ℕ → Out → Type 0
AreLed J n out = (way : Way) → J (Exit n way) Nothing (leads out way)

behind_ends : (J : Joins) (rest : Code) (out : Out) (next break continue : Point) → Ends J out next break continue → Ends J (behind rest out) (entry rest next) break continue
behind_ends J rest out next break continue e = record { next_ends = begin_silent J rest out.next next e.next_ends; breaks_end = e.breaks_end; continues_end = e.continues_end; returns_end = e.returns_end }

branch_ends : (J : Joins) (n : ℕ) (out : Out) (next break continue : Point) → AreLed J n out → Ends J out next break continue → Ends J (branch_exits n) next break continue
branch_ends J n out next break continue led e = record {
  next_ends = goes_on (led ByNext) e.next_ends;
  breaks_end = goes_on (led ByBreak) e.breaks_end;
  continues_end = goes_on (led ByContinue) e.continues_end;
  returns_end = goes_on (led ByReturn) e.returns_end;
}

switch_ends : (J : Joins) (n : ℕ) (out : Out) (next break continue : Point) → AreLed J n out → Ends J out next break continue → Ends J (switch_exits n) next next continue
switch_ends J n out next break continue led e = record {
  next_ends = goes_on (led ByNext) e.next_ends;
  breaks_end = goes_on (led ByNext) e.next_ends;
  continues_end = goes_on (led ByContinue) e.continues_end;
  returns_end = goes_on (led ByReturn) e.returns_end;
}

body_ends : (J : Joins) (n : ℕ) (continuing : Code) (out : Out) (next break continue : Point) → AreLed J n out → Ends J out next break continue
    → Ends J (body_exits n continuing) (entry continuing (Turn n)) next (entry continuing (Turn n))
body_ends J n continuing out next break continue led e = record {
  next_ends = begin_silent J continuing (Stands (Turn n)) (Turn n) stays;
  breaks_end = goes_on (led ByNext) e.next_ends;
  continues_end = begin_silent J continuing (Stands (Turn n)) (Turn n) stays;
  returns_end = goes_on (led ByReturn) e.returns_end;
}

continuing_ends : (J : Joins) (n : ℕ) (out : Out) (next break continue : Point) → AreLed J n out → Ends J out next break continue → Ends J (continuing_exits n) (Turn n) next (Turn n)
continuing_ends J n out next break continue led e = record {
  next_ends = stays;
  breaks_end = goes_on (led ByNext) e.next_ends;
  continues_end = stays;
  returns_end = goes_on (led ByReturn) e.returns_end;
}

jump_silent : (J : Joins) (out : Out) (next break continue : Point) (n : ℕ) (rest : Code) (act : Jump) → AreLed J n (behind rest out) → Ends J out next break continue → Silent J (Exit n (way_of act)) (Stands (jump_to break continue act))
jump_silent J out next break continue n rest Break led e = goes_on (led ByBreak) e.breaks_end
jump_silent J out next break continue n rest Continue led e = goes_on (led ByContinue) e.continues_end
jump_silent J out next break continue n rest (Return value) led e = goes_on (led ByReturn) e.returns_end

-- what joins the places of a list is among what joins places
abbrev Within : Joins → Out → Code → Type 0
Within J out code = (u : Place) (m : Mark) (v : Place) → Joined out code u m v → J u m v

-- what is done on a way is done on the first step by exits, and nothing after it
abbrev Passed : Joins → Point → Mark → Point → Type 0
Passed J u m v = (w : Place) × J (Stands u) m w × Silent J w (Stands v)

way_passed : (J : Joins) (out : Out) (next break continue : Point) (code : Code) → Within J out code → Ends J out next break continue → (u v : Point) (m : Mark) → Flow next break continue code u m v → Passed J u m v
way_passed J out next break continue done i e u v m f = elim f [ ]
way_passed J out next break continue no_part i e u v m f = elim f [ ]
way_passed J out next break continue (plain n act rest) i e _ _ _ flow.plain_step =
    (Exit n ByNext, i _ _ _ exits.plain_passes, goes_on (i _ _ _ (exits.plain_leads ByNext)) (begin_silent J rest out.next next e.next_ends))
way_passed J out next break continue (plain n act rest) i e u v m (flow.plain_rest f) = way_passed J out next break continue rest (λ a k b j. i a k b (exits.plain_rest j)) e u v m f
way_passed J out next break continue (jump n act rest) i e _ _ _ flow.jump_step =
    (Exit n (way_of act), i _ _ _ exits.jump_passes, jump_silent J out next break continue n rest act (λ way. i _ _ _ (exits.jump_leads way)) e)
way_passed J out next break continue (jump n act rest) i e u v m (flow.jump_rest f) = way_passed J out next break continue rest (λ a k b j. i a k b (exits.jump_rest j)) e u v m f
way_passed J out next break continue (call n g args rest) i e _ _ _ flow.call_step =
    (Exit n ByNext, i _ _ _ exits.call_passes, goes_on (i _ _ _ (exits.call_leads ByNext)) (begin_silent J rest out.next next e.next_ends))
way_passed J out next break continue (call n g args rest) i e u v m (flow.call_rest f) = way_passed J out next break continue rest (λ a k b j. i a k b (exits.call_rest j)) e u v m f
way_passed J out next break continue (branch n cond one two rest) i e _ _ _ flow.branch_one =
    (begin one (Exit n ByNext), i _ _ _ exits.branch_one, begin_silent J one (Exit n ByNext) (entry rest next) (goes_on (i _ _ _ (exits.branch_leads ByNext)) (begin_silent J rest out.next next e.next_ends)))
way_passed J out next break continue (branch n cond one two rest) i e _ _ _ flow.branch_two =
    (begin two (Exit n ByNext), i _ _ _ exits.branch_two, begin_silent J two (Exit n ByNext) (entry rest next) (goes_on (i _ _ _ (exits.branch_leads ByNext)) (begin_silent J rest out.next next e.next_ends)))
way_passed J out next break continue (branch n cond one two rest) i e u v m (flow.branch_in_one f) =
    way_passed J (branch_exits n) (entry rest next) break continue one (λ a k b j. i a k b (exits.branch_in_one j))
    (branch_ends J n (behind rest out) (entry rest next) break continue (λ way. i _ _ _ (exits.branch_leads way)) (behind_ends J rest out next break continue e)) u v m f
way_passed J out next break continue (branch n cond one two rest) i e u v m (flow.branch_in_two f) =
    way_passed J (branch_exits n) (entry rest next) break continue two (λ a k b j. i a k b (exits.branch_in_two j))
    (branch_ends J n (behind rest out) (entry rest next) break continue (λ way. i _ _ _ (exits.branch_leads way)) (behind_ends J rest out next break continue e)) u v m f
way_passed J out next break continue (branch n cond one two rest) i e u v m (flow.branch_rest f) = way_passed J out next break continue rest (λ a k b j. i a k b (exits.branch_rest j)) e u v m f
way_passed J out next break continue (switch n selector parts rest) i e _ _ _ (flow.switch_begin {body = body} h) =
    (begin body (Exit n ByNext), i _ _ _ (exits.switch_begin h), begin_silent J body (Exit n ByNext) (entry rest next) (goes_on (i _ _ _ (exits.switch_leads ByNext)) (begin_silent J rest out.next next e.next_ends)))
way_passed J out next break continue (switch n selector parts rest) i e u v m (flow.switch_in_parts f) =
    way_passed J (switch_exits n) (entry rest next) (entry rest next) continue parts (λ a k b j. i a k b (exits.switch_in_parts j))
    (switch_ends J n (behind rest out) (entry rest next) break continue (λ way. i _ _ _ (exits.switch_leads way)) (behind_ends J rest out next break continue e)) u v m f
way_passed J out next break continue (switch n selector parts rest) i e u v m (flow.switch_rest f) = way_passed J out next break continue rest (λ a k b j. i a k b (exits.switch_rest j)) e u v m f
way_passed J out next break continue (part n which keys fallback body others) i e u v m (flow.part_in_body f) = way_passed J out next break continue body (λ a k b j. i a k b (exits.part_in_body j)) e u v m f
way_passed J out next break continue (part n which keys fallback body others) i e u v m (flow.part_others f) = way_passed J out next break continue others (λ a k b j. i a k b (exits.part_others j)) e u v m f
way_passed J out next break continue (loop n body continuing leave rest) i e _ _ _ flow.loop_begin =
    (begin body (begin continuing (Stands (Turn n))), i _ _ _ exits.loop_begin, begin_silent J body _ (entry continuing (Turn n)) (begin_silent J continuing (Stands (Turn n)) (Turn n) stays))
way_passed J out next break continue (loop n body continuing leave rest) i e _ _ _ flow.loop_turn =
    (begin body (begin continuing (Stands (Turn n))), i _ _ _ exits.loop_turn, begin_silent J body _ (entry continuing (Turn n)) (begin_silent J continuing (Stands (Turn n)) (Turn n) stays))
way_passed J out next break continue (loop n body continuing (Some operand) rest) i e _ _ _ flow.loop_leave =
    (Exit n ByNext, i _ _ _ exits.loop_leave, goes_on (i _ _ _ (exits.loop_leads ByNext)) (begin_silent J rest out.next next e.next_ends))
way_passed J out next break continue (loop n body continuing leave rest) i e u v m (flow.loop_in_body f) =
    way_passed J (body_exits n continuing) (entry continuing (Turn n)) (entry rest next) (entry continuing (Turn n)) body (λ a k b j. i a k b (exits.loop_in_body j))
    (body_ends J n continuing (behind rest out) (entry rest next) break continue (λ way. i _ _ _ (exits.loop_leads way)) (behind_ends J rest out next break continue e)) u v m f
way_passed J out next break continue (loop n body continuing leave rest) i e u v m (flow.loop_in_continuing f) =
    way_passed J (continuing_exits n) (Turn n) (entry rest next) (Turn n) continuing (λ a k b j. i a k b (exits.loop_in_continuing j))
    (continuing_ends J n (behind rest out) (entry rest next) break continue (λ way. i _ _ _ (exits.loop_leads way)) (behind_ends J rest out next break continue e)) u v m f
way_passed J out next break continue (loop n body continuing leave rest) i e u v m (flow.loop_rest f) = way_passed J out next break continue rest (λ a k b j. i a k b (exits.loop_rest j)) e u v m f

-- the way of a function by exits
function_passed : (body : Code) (u v : Point) (m : Mark) → Ways body u m v → Passed (Joined function_exits body) u m v
function_passed body u v m f =
    way_passed (Joined function_exits body) function_exits Past Past Past body (λ a k b j. j) (record { next_ends = stays; breaks_end = stays; continues_end = stays; returns_end = stays }) u v m f

silent_reach : (body : Code) (variable : Base) (by : Definition) (p q : Place) → Silent (Joined function_exits body) p q → ReachesByExits body variable by p → ReachesByExits body variable by q
silent_reach body variable by p _ stays r = r
silent_reach body variable by p q (goes_on j s) r = silent_reach body variable by _ q s (exits.goes_by r j refl)

pub reach_exits : (body : Code) (variable : Base) (by : Definition) (point : Point) → Reaches body variable by point → ReachesByExits body variable by (Stands point)
reach_exits body variable by _ (flow.entered is at) = silent_reach body variable by _ _ (begin_silent (Joined function_exits body) body (Stands Past) Past stays) (exits.entered is at)
reach_exits body variable by point (flow.made_by {u = u} {m = m} way makes) =
    let p : Passed (Joined function_exits body) u m point = function_passed body u point m way in silent_reach body variable by p.0 (Stands point) p.2 (exits.made_by p.1 makes)
reach_exits body variable by point (flow.goes_by {u = u} {m = m} r way lets) =
    let p : Passed (Joined function_exits body) u m point = function_passed body u point m way in silent_reach body variable by p.0 (Stands point) p.2 (exits.goes_by (reach_exits body variable by u r) p.1 lets)

-- from exits to points: each exit leads to one point

-- where the exits of a statement lead; by Return past the function
record Target : Type 0 where
  next : Point
  break : Point
  continue : Point

abbrev target : Point → Point → Point → Target
target next break continue = record { next = next; break = break; continue = continue }

abbrev settled : Target → Way → Point
settled t ByNext = t.next
settled t ByBreak = t.break
settled t ByContinue = t.continue
settled t ByReturn = Past

-- each statement in structure order, with where its exits lead
abbrev targets_of : Point → Point → Point → Code → List (ℕ × Target)
targets_of next break continue done = []
targets_of next break continue (plain n act rest) = (n, target (entry rest next) break continue) ∷ targets_of next break continue rest
targets_of next break continue (jump n act rest) = (n, target (entry rest next) break continue) ∷ targets_of next break continue rest
targets_of next break continue (call n g args rest) = (n, target (entry rest next) break continue) ∷ targets_of next break continue rest
targets_of next break continue (branch n cond one two rest) =
    (n, target (entry rest next) break continue) ∷ (targets_of (entry rest next) break continue one ++ (targets_of (entry rest next) break continue two ++ targets_of next break continue rest))
targets_of next break continue (switch n selector parts rest) =
    (n, target (entry rest next) break continue) ∷ (targets_of (entry rest next) (entry rest next) continue parts ++ targets_of next break continue rest)
targets_of next break continue (loop n body continuing leave rest) =
    (n, target (entry rest next) break continue)
    ∷ (targets_of (entry continuing (Turn n)) (entry rest next) (entry continuing (Turn n)) body ++ (targets_of (Turn n) (entry rest next) (Turn n) continuing ++ targets_of next break continue rest))
targets_of next break continue no_part = []
targets_of next break continue (part n which keys fallback body others) = targets_of next break continue body ++ targets_of next break continue others

abbrev own : ℕ × Target → ℕ
own x = x.0

two_lists : (xs ys : List (ℕ × Target)) (a b : List ℕ) → map own xs ≡ a → map own ys ≡ b → map own (xs ++ ys) ≡ a ++ b
two_lists xs ys a b e f = map-append own xs ys ∙ (ap (λ (l : List ℕ). l ++ map own ys) e ∙ ap (λ (l : List ℕ). a ++ l) f)

targets_numbers : (next break continue : Point) (code : Code) → map own (targets_of next break continue code) ≡ numbers_of code
targets_numbers next break continue done = refl
targets_numbers next break continue (plain n act rest) = ap (λ (l : List ℕ). n ∷ l) (targets_numbers next break continue rest)
targets_numbers next break continue (jump n act rest) = ap (λ (l : List ℕ). n ∷ l) (targets_numbers next break continue rest)
targets_numbers next break continue (call n g args rest) = ap (λ (l : List ℕ). n ∷ l) (targets_numbers next break continue rest)
targets_numbers next break continue (branch n cond one two rest) =
    ap (λ (l : List ℕ). n ∷ l)
    (two_lists (targets_of (entry rest next) break continue one) _ _ _ (targets_numbers (entry rest next) break continue one)
    (two_lists (targets_of (entry rest next) break continue two) _ _ _ (targets_numbers (entry rest next) break continue two) (targets_numbers next break continue rest)))
targets_numbers next break continue (switch n selector parts rest) =
    ap (λ (l : List ℕ). n ∷ l) (two_lists (targets_of (entry rest next) (entry rest next) continue parts) _ _ _ (targets_numbers (entry rest next) (entry rest next) continue parts) (targets_numbers next break continue rest))
targets_numbers next break continue (loop n body continuing leave rest) =
    ap (λ (l : List ℕ). n ∷ l)
    (two_lists (targets_of (entry continuing (Turn n)) (entry rest next) (entry continuing (Turn n)) body) _ _ _ (targets_numbers (entry continuing (Turn n)) (entry rest next) (entry continuing (Turn n)) body)
    (two_lists (targets_of (Turn n) (entry rest next) (Turn n) continuing) _ _ _ (targets_numbers (Turn n) (entry rest next) (Turn n) continuing) (targets_numbers next break continue rest)))
targets_numbers next break continue no_part = refl
targets_numbers next break continue (part n which keys fallback body others) = two_lists (targets_of next break continue body) _ _ _ (targets_numbers next break continue body) (targets_numbers next break continue others)

no_less : (n : ℕ) (ts : List (ℕ × Target)) → CountFrom n (map own ts) → (k : ℕ) (t : Target) → In (k, t) ts → n ≤ k
no_less n [] c k t h = absurd h
no_less n (x ∷ ts) c k t (inl e) = let is : k ≡ x.0 = ap own e in omega (arith, is, c.0)
no_less n (x ∷ ts) c k t (inr h) = omega (arith, no_less (n + 1) ts c.1 k t h)

one_target : (n : ℕ) (ts : List (ℕ × Target)) → CountFrom n (map own ts) → (k : ℕ) (t other : Target) → In (k, t) ts → In (k, other) ts → t ≡ other
one_target n [] c k t other h g = absurd h
one_target n (x ∷ ts) c k t other (inl e) (inl f) = ap (λ (p : ℕ × Target). p.1) (e ∙ sym f)
one_target n (x ∷ ts) c k t other (inl e) (inr g) = let is : k ≡ x.0 = ap own e in absurd (omega (arith, is, c.0, no_less (n + 1) ts c.1 k other g))
one_target n (x ∷ ts) c k t other (inr h) (inl f) = let is : k ≡ x.0 = ap own f in absurd (omega (arith, is, c.0, no_less (n + 1) ts c.1 k t h))
one_target n (x ∷ ts) c k t other (inr h) (inr g) = one_target (n + 1) ts c.1 k t other h g

-- the point to which a place leads
abbrev Settles : List (ℕ × Target) → Place → Point → Type 0
Settles ts (Stands p) q = p ≡ q
Settles ts (Exit n way) q = (t : Target) × In (n, t) ts × (settled t way ≡ q)

begin_settles : (ts : List (ℕ × Target)) (code : Code) (p : Place) (next : Point) → Settles ts p next → Settles ts (begin code p) (entry code next)
begin_settles ts done p next s = s
begin_settles ts (plain n act rest) p next s = refl
begin_settles ts (jump n act rest) p next s = refl
begin_settles ts (call n g args rest) p next s = refl
begin_settles ts (branch n cond one two rest) p next s = refl
begin_settles ts (switch n selector parts rest) p next s = refl
begin_settles ts (loop n body continuing leave rest) p next s = refl
begin_settles ts no_part p next s = s
begin_settles ts (part n which keys fallback body others) p next s = s

-- the ways out of a list lead to these points
record Lands (ts : List (ℕ × Target)) (out : Out) (next break continue : Point) : Type 0 where
  next_lands : Settles ts out.next next
  breaks_land : Settles ts out.breaks break
  continues_land : Settles ts out.continues continue
  returns_land : Settles ts out.returns Past

behind_lands : (ts : List (ℕ × Target)) (rest : Code) (out : Out) (next break continue : Point) → Lands ts out next break continue → Lands ts (behind rest out) (entry rest next) break continue
behind_lands ts rest out next break continue l = record { next_lands = begin_settles ts rest out.next next l.next_lands; breaks_land = l.breaks_land; continues_land = l.continues_land; returns_land = l.returns_land }

branch_lands : (ts : List (ℕ × Target)) (n : ℕ) (next break continue : Point) → In (n, target next break continue) ts → Lands ts (branch_exits n) next break continue
branch_lands ts n next break continue h = record {
  next_lands = (target next break continue, h, refl);
  breaks_land = (target next break continue, h, refl);
  continues_land = (target next break continue, h, refl);
  returns_land = (target next break continue, h, refl);
}

switch_lands : (ts : List (ℕ × Target)) (n : ℕ) (next break continue : Point) → In (n, target next break continue) ts → Lands ts (switch_exits n) next next continue
switch_lands ts n next break continue h = record {
  next_lands = (target next break continue, h, refl);
  breaks_land = (target next break continue, h, refl);
  continues_land = (target next break continue, h, refl);
  returns_land = (target next break continue, h, refl);
}

body_lands : (ts : List (ℕ × Target)) (n : ℕ) (continuing : Code) (next break continue : Point) → In (n, target next break continue) ts → Lands ts (body_exits n continuing) (entry continuing (Turn n)) next (entry continuing (Turn n))
body_lands ts n continuing next break continue h = record {
  next_lands = begin_settles ts continuing (Stands (Turn n)) (Turn n) refl;
  breaks_land = (target next break continue, h, refl);
  continues_land = begin_settles ts continuing (Stands (Turn n)) (Turn n) refl;
  returns_land = (target next break continue, h, refl);
}

continuing_lands : (ts : List (ℕ × Target)) (n : ℕ) (next break continue : Point) → In (n, target next break continue) ts → Lands ts (continuing_exits n) (Turn n) next (Turn n)
continuing_lands ts n next break continue h = record {
  next_lands = refl;
  breaks_land = (target next break continue, h, refl);
  continues_land = refl;
  returns_land = (target next break continue, h, refl);
}

leads_land : (ts : List (ℕ × Target)) (out : Out) (next break continue : Point) → Lands ts out next break continue → (way : Way) → Settles ts (leads out way) (settled (target next break continue) way)
leads_land ts out next break continue l ByNext = l.next_lands
leads_land ts out next break continue l ByBreak = l.breaks_land
leads_land ts out next break continue l ByContinue = l.continues_land
leads_land ts out next break continue l ByReturn = l.returns_land

-- what joins a place to one that leads to a point: a way from the first, or nothing, where that is an exit which leads there too
abbrev Stepped : List (ℕ × Target) → Leads → Place → Mark → Point → Type 0
Stepped ts F (Stands p) m q = F p m q
Stepped ts F (Exit n way) m q = (m ≡ Nothing) × Settles ts (Exit n way) q

abbrev Joining : List (ℕ × Target) → Leads → Place → Mark → Place → Type 0
Joining ts F u m v = (q : Point) × Settles ts v q × Stepped ts F u m q

-- an exit of a statement in a list, and what is behind it
exit_leads : (ts : List (ℕ × Target)) (F : Leads) (out : Out) (next break continue : Point) (n : ℕ) (rest : Code) → In (n, target (entry rest next) break continue) ts → Lands ts out next break continue
    → (way : Way) → Joining ts F (Exit n way) Nothing (leads (behind rest out) way)
exit_leads ts F out next break continue n rest h l way =
    (settled (target (entry rest next) break continue) way, leads_land ts (behind rest out) (entry rest next) break continue (behind_lands ts rest out next break continue l) way, (refl, (target (entry rest next) break continue, h, refl)))

jump_settles : (ts : List (ℕ × Target)) (next break continue : Point) (n : ℕ) (act : Jump) → In (n, target next break continue) ts → Settles ts (Exit n (way_of act)) (jump_to break continue act)
jump_settles ts next break continue n Break h = (target next break continue, h, refl)
jump_settles ts next break continue n Continue h = (target next break continue, h, refl)
jump_settles ts next break continue n (Return value) h = (target next break continue, h, refl)

abbrev Holds : List (ℕ × Target) → List (ℕ × Target) → Type 0
Holds ts some = (x : ℕ × Target) → In x some → In x ts

joined_lands : (ts : List (ℕ × Target)) (F : Leads) (out : Out) (next break continue : Point) (code : Code) → ((u : Point) (m : Mark) (v : Point) → Flow next break continue code u m v → F u m v)
    → Holds ts (targets_of next break continue code) → Lands ts out next break continue → (u v : Place) (m : Mark) → Joined out code u m v → Joining ts F u m v
joined_lands ts F out next break continue done f i l u v m j = elim j [ ]
joined_lands ts F out next break continue no_part f i l u v m j = elim j [ ]
joined_lands ts F out next break continue (plain n act rest) f i l _ _ _ exits.plain_passes = (entry rest next, (target (entry rest next) break continue, i _ (inl refl), refl), f _ _ _ flow.plain_step)
joined_lands ts F out next break continue (plain n act rest) f i l _ _ _ (exits.plain_leads way) = exit_leads ts F out next break continue n rest (i _ (inl refl)) l way
joined_lands ts F out next break continue (plain n act rest) f i l u v m (exits.plain_rest j) = joined_lands ts F out next break continue rest (λ a k b w. f a k b (flow.plain_rest w)) (λ x h. i x (inr h)) l u v m j
joined_lands ts F out next break continue (jump n act rest) f i l _ _ _ exits.jump_passes = (jump_to break continue act, jump_settles ts (entry rest next) break continue n act (i _ (inl refl)), f _ _ _ flow.jump_step)
joined_lands ts F out next break continue (jump n act rest) f i l _ _ _ (exits.jump_leads way) = exit_leads ts F out next break continue n rest (i _ (inl refl)) l way
joined_lands ts F out next break continue (jump n act rest) f i l u v m (exits.jump_rest j) = joined_lands ts F out next break continue rest (λ a k b w. f a k b (flow.jump_rest w)) (λ x h. i x (inr h)) l u v m j
joined_lands ts F out next break continue (call n g args rest) f i l _ _ _ exits.call_passes = (entry rest next, (target (entry rest next) break continue, i _ (inl refl), refl), f _ _ _ flow.call_step)
joined_lands ts F out next break continue (call n g args rest) f i l _ _ _ (exits.call_leads way) = exit_leads ts F out next break continue n rest (i _ (inl refl)) l way
joined_lands ts F out next break continue (call n g args rest) f i l u v m (exits.call_rest j) = joined_lands ts F out next break continue rest (λ a k b w. f a k b (flow.call_rest w)) (λ x h. i x (inr h)) l u v m j
joined_lands ts F out next break continue (branch n cond one two rest) f i l _ _ _ exits.branch_one =
    (entry one (entry rest next), begin_settles ts one (Exit n ByNext) (entry rest next) (target (entry rest next) break continue, i _ (inl refl), refl), f _ _ _ flow.branch_one)
joined_lands ts F out next break continue (branch n cond one two rest) f i l _ _ _ exits.branch_two =
    (entry two (entry rest next), begin_settles ts two (Exit n ByNext) (entry rest next) (target (entry rest next) break continue, i _ (inl refl), refl), f _ _ _ flow.branch_two)
joined_lands ts F out next break continue (branch n cond one two rest) f i l u v m (exits.branch_in_one j) =
    joined_lands ts F (branch_exits n) (entry rest next) break continue one (λ a k b w. f a k b (flow.branch_in_one w)) (λ x h. i x (inr (in_left x _ _ h))) (branch_lands ts n (entry rest next) break continue (i _ (inl refl))) u v m j
joined_lands ts F out next break continue (branch n cond one two rest) f i l u v m (exits.branch_in_two j) =
    joined_lands ts F (branch_exits n) (entry rest next) break continue two (λ a k b w. f a k b (flow.branch_in_two w))
    (λ x h. i x (inr (in_right x (targets_of (entry rest next) break continue one) _ (in_left x _ _ h)))) (branch_lands ts n (entry rest next) break continue (i _ (inl refl))) u v m j
joined_lands ts F out next break continue (branch n cond one two rest) f i l _ _ _ (exits.branch_leads way) = exit_leads ts F out next break continue n rest (i _ (inl refl)) l way
joined_lands ts F out next break continue (branch n cond one two rest) f i l u v m (exits.branch_rest j) =
    joined_lands ts F out next break continue rest (λ a k b w. f a k b (flow.branch_rest w))
    (λ x h. i x (inr (in_right x (targets_of (entry rest next) break continue one) _ (in_right x (targets_of (entry rest next) break continue two) _ h)))) l u v m j
joined_lands ts F out next break continue (switch n selector parts rest) f i l _ _ _ (exits.switch_begin {body = body} h) =
    (entry body (entry rest next), begin_settles ts body (Exit n ByNext) (entry rest next) (target (entry rest next) break continue, i _ (inl refl), refl), f _ _ _ (flow.switch_begin h))
joined_lands ts F out next break continue (switch n selector parts rest) f i l u v m (exits.switch_in_parts j) =
    joined_lands ts F (switch_exits n) (entry rest next) (entry rest next) continue parts (λ a k b w. f a k b (flow.switch_in_parts w)) (λ x h. i x (inr (in_left x _ _ h)))
    (switch_lands ts n (entry rest next) break continue (i _ (inl refl))) u v m j
joined_lands ts F out next break continue (switch n selector parts rest) f i l _ _ _ (exits.switch_leads way) = exit_leads ts F out next break continue n rest (i _ (inl refl)) l way
joined_lands ts F out next break continue (switch n selector parts rest) f i l u v m (exits.switch_rest j) =
    joined_lands ts F out next break continue rest (λ a k b w. f a k b (flow.switch_rest w)) (λ x h. i x (inr (in_right x (targets_of (entry rest next) (entry rest next) continue parts) _ h))) l u v m j
joined_lands ts F out next break continue (part n which keys fallback body others) f i l u v m (exits.part_in_body j) =
    joined_lands ts F out next break continue body (λ a k b w. f a k b (flow.part_in_body w)) (λ x h. i x (in_left x _ _ h)) l u v m j
joined_lands ts F out next break continue (part n which keys fallback body others) f i l u v m (exits.part_others j) =
    joined_lands ts F out next break continue others (λ a k b w. f a k b (flow.part_others w)) (λ x h. i x (in_right x (targets_of next break continue body) _ h)) l u v m j
joined_lands ts F out next break continue (loop n body continuing leave rest) f i l _ _ _ exits.loop_begin =
    (entry body (entry continuing (Turn n)), begin_settles ts body _ (entry continuing (Turn n)) (begin_settles ts continuing (Stands (Turn n)) (Turn n) refl), f _ _ _ flow.loop_begin)
joined_lands ts F out next break continue (loop n body continuing leave rest) f i l _ _ _ exits.loop_turn =
    (entry body (entry continuing (Turn n)), begin_settles ts body _ (entry continuing (Turn n)) (begin_settles ts continuing (Stands (Turn n)) (Turn n) refl), f _ _ _ flow.loop_turn)
joined_lands ts F out next break continue (loop n body continuing (Some operand) rest) f i l _ _ _ exits.loop_leave = (entry rest next, (target (entry rest next) break continue, i _ (inl refl), refl), f _ _ _ flow.loop_leave)
joined_lands ts F out next break continue (loop n body continuing leave rest) f i l u v m (exits.loop_in_body j) =
    joined_lands ts F (body_exits n continuing) (entry continuing (Turn n)) (entry rest next) (entry continuing (Turn n)) body (λ a k b w. f a k b (flow.loop_in_body w)) (λ x h. i x (inr (in_left x _ _ h)))
    (body_lands ts n continuing (entry rest next) break continue (i _ (inl refl))) u v m j
joined_lands ts F out next break continue (loop n body continuing leave rest) f i l u v m (exits.loop_in_continuing j) =
    joined_lands ts F (continuing_exits n) (Turn n) (entry rest next) (Turn n) continuing (λ a k b w. f a k b (flow.loop_in_continuing w))
    (λ x h. i x (inr (in_right x (targets_of (entry continuing (Turn n)) (entry rest next) (entry continuing (Turn n)) body) _ (in_left x _ _ h)))) (continuing_lands ts n (entry rest next) break continue (i _ (inl refl))) u v m j
joined_lands ts F out next break continue (loop n body continuing leave rest) f i l _ _ _ (exits.loop_leads way) = exit_leads ts F out next break continue n rest (i _ (inl refl)) l way
joined_lands ts F out next break continue (loop n body continuing leave rest) f i l u v m (exits.loop_rest j) =
    joined_lands ts F out next break continue rest (λ a k b w. f a k b (flow.loop_rest w))
    (λ x h. i x (inr (in_right x (targets_of (entry continuing (Turn n)) (entry rest next) (entry continuing (Turn n)) body) _ (in_right x (targets_of (Turn n) (entry rest next) (Turn n) continuing) _ h)))) l u v m j

abbrev all_targets : Code → List (ℕ × Target)
all_targets body = targets_of Past Past Past body

function_lands : (body : Code) (u v : Place) (m : Mark) → Joined function_exits body u m v → Joining (all_targets body) (Ways body) u m v
function_lands body u v m j =
    joined_lands (all_targets body) (Ways body) function_exits Past Past Past body (λ a k b w. w) (λ x h. h) (record { next_lands = refl; breaks_land = refl; continues_land = refl; returns_land = refl }) u v m j

-- a definition that reaches a place by exits reaches the point to which that leads
abbrev ReachesFrom : Code → Base → Definition → Place → Type 0
ReachesFrom body variable by p = (q : Point) × Settles (all_targets body) p q × Reaches body variable by q

-- nothing is made where nothing is done
makes_at : (body : Code) (variable : Base) (by : Definition) (u v : Place) (m : Mark) → Makes m variable by → Joining (all_targets body) (Ways body) u m v → ReachesFrom body variable by v
makes_at body variable by (Stands p) v m makes j = (j.0, j.1, flow.made_by j.2 makes)
makes_at body variable by (Exit n way) v m makes j = absurd (subst (λ (k : Mark). Makes k variable by) j.2.0 makes)

goes_from : (body : Code) (variable : Base) (by : Definition) → CountFrom 0 (map own (all_targets body)) → (u v : Place) (m : Mark) → ReachesFrom body variable by u → stops m variable ≡ false → Joining (all_targets body) (Ways body) u m v
    → ReachesFrom body variable by v
goes_from body variable by c (Stands p) v m r lets j = (j.0, j.1, flow.goes_by (subst (λ (q : Point). Reaches body variable by q) (sym r.1) r.2) j.2 lets)
goes_from body variable by c (Exit n way) v m r lets j =
    let one : r.1.0 ≡ j.2.1.0 = one_target 0 (all_targets body) c n r.1.0 j.2.1.0 r.1.1 j.2.1.1 in
    let same : r.0 ≡ j.0 = sym r.1.2 ∙ (ap (λ (t : Target). settled t way) one ∙ j.2.1.2) in (j.0, j.1, subst (λ (q : Point). Reaches body variable by q) same r.2)

exits_reach : (body : Code) (variable : Base) (by : Definition) → CountFrom 0 (map own (all_targets body)) → (p : Place) → ReachesByExits body variable by p → ReachesFrom body variable by p
exits_reach body variable by c _ (exits.entered is at) = (entry body Past, begin_settles (all_targets body) body (Stands Past) Past refl, flow.entered is at)
exits_reach body variable by c p (exits.made_by {u = u} {m = m} j makes) = makes_at body variable by u p m makes (function_lands body u p m j)
exits_reach body variable by c p (exits.goes_by {u = u} {m = m} r j lets) = goes_from body variable by c u p m (exits_reach body variable by c u r) lets (function_lands body u p m j)

pub reaches_alike : ReachesAlike
reaches_alike body variable by point numbered = (λ r. reach_exits body variable by point r, λ r. back (exits_reach body variable by counts (Stands point) r))
  where
    counts : CountFrom 0 (map own (all_targets body))
    counts = subst (λ (l : List ℕ). CountFrom 0 l) (sym (targets_numbers Past Past Past body)) (is_numbered body numbered)

    back : ReachesFrom body variable by (Stands point) → Reaches body variable by point
    back r = subst (λ (q : Point). Reaches body variable by q) (sym r.1) r.2
