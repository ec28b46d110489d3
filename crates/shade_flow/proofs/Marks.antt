-- Each statement with what it does to variables: what ways bear, and what the list of writes holds.
use Rattle.std.proofs.Common.{◌≡◌, ℕ, zero, suc, ◌+◌, ◌≤◌, Bool, true, false, ◌&&◌, ◌||◌, Some, List, [], ◌∷◌, ◌++◌, map, refl, ap, sym, ◌∙◌, arith, subst, inl, inr, append_assoc}
use Rattle.std.specs.Prelude.{slice_get, ◌⊎◌}
use Rattle.std.proofs.lemmas.List.{map-append}
use Rattle.std.proofs.lemmas.Bool.{false≢true}
use Rattle.shade_core.specs.declared.statement.Base.{Base}
use Rattle.shade_core.specs.declared.statement.View.{View}
use Rattle.shade_core.specs.declared.statement.Argument.{Argument}
use Rattle.shade_core.specs.declared.statement.Argument.TheVariants as argument
use Rattle.shade_core.specs.Code.{Plain, Set, Load, Declare, Store, Atomic, Barrier, UniformLoad, Length, Code, done, plain, jump, call, branch, switch, loop, no_part, part}
use Rattle.shade_flow.proofs.Counts.{numbers_of, CountFrom, IsNumbered}
use Rattle.shade_flow.specs.declared.definition.Definition.{Definition}
use Rattle.shade_flow.specs.declared.definition.Definition.TheVariants as definition
use Rattle.shade_flow.specs.declared.definition.Defined.{Defined}
use Rattle.shade_flow.specs.declared.definition.Write.{Write}
use Rattle.shade_flow.specs.declared.point.Point.{Point}
use Rattle.shade_flow.specs.declared.point.Point.TheVariants.{At, Turn, Past}
use Rattle.shade_flow.specs.Lists.{In}
use Rattle.shade_flow.specs.Flow.{Mark, Nothing, Stores, Hands, mark_of, is_whole, same_var, hands, handed, Touches, Makes, stops, Flow, Ways}
use Rattle.shade_flow.specs.Flow as flow
use Rattle.shade_flow.specs.Writes.{defined, write, writes_through, call_writes, mark_writes, writes_of, statement_of}
use Rattle.shade_flow.proofs.Members.{in_left, in_right, in_split}
use Rattle.shade_flow.proofs.Variables.{same_is, same_self}

-- each statement in structure order, with its mark
abbrev pub marks_of : Code → List (ℕ × Mark)
marks_of done = []
marks_of (plain n act rest) = (n, mark_of n act) ∷ marks_of rest
marks_of (jump n act rest) = (n, Nothing) ∷ marks_of rest
marks_of (call n g args rest) = (n, Hands n args) ∷ marks_of rest
marks_of (branch n cond one two rest) = (n, Nothing) ∷ (marks_of one ++ (marks_of two ++ marks_of rest))
marks_of (switch n selector parts rest) = (n, Nothing) ∷ (marks_of parts ++ marks_of rest)
marks_of (loop n body continuing leave rest) = (n, Nothing) ∷ (marks_of body ++ (marks_of continuing ++ marks_of rest))
marks_of no_part = []
marks_of (part n which keys fallback body others) = marks_of body ++ marks_of others

abbrev pub number : ℕ × Mark → ℕ
number x = x.0

two_lists : (xs ys : List (ℕ × Mark)) (a b : List ℕ) → map number xs ≡ a → map number ys ≡ b → map number (xs ++ ys) ≡ a ++ b
two_lists xs ys a b e f = map-append number xs ys ∙ (ap (λ (l : List ℕ). l ++ map number ys) e ∙ ap (λ (l : List ℕ). a ++ l) f)

pub marks_numbers : (code : Code) → map number (marks_of code) ≡ numbers_of code
marks_numbers done = refl
marks_numbers (plain n act rest) = ap (λ (l : List ℕ). n ∷ l) (marks_numbers rest)
marks_numbers (jump n act rest) = ap (λ (l : List ℕ). n ∷ l) (marks_numbers rest)
marks_numbers (call n g args rest) = ap (λ (l : List ℕ). n ∷ l) (marks_numbers rest)
marks_numbers (branch n cond one two rest) = ap (λ (l : List ℕ). n ∷ l) (two_lists (marks_of one) _ _ _ (marks_numbers one) (two_lists (marks_of two) _ _ _ (marks_numbers two) (marks_numbers rest)))
marks_numbers (switch n selector parts rest) = ap (λ (l : List ℕ). n ∷ l) (two_lists (marks_of parts) _ _ _ (marks_numbers parts) (marks_numbers rest))
marks_numbers (loop n body continuing leave rest) =
    ap (λ (l : List ℕ). n ∷ l) (two_lists (marks_of body) _ _ _ (marks_numbers body) (two_lists (marks_of continuing) _ _ _ (marks_numbers continuing) (marks_numbers rest)))
marks_numbers no_part = refl
marks_numbers (part n which keys fallback body others) = two_lists (marks_of body) _ _ _ (marks_numbers body) (marks_numbers others)

-- numbers that count from one on are no less, and a number stands with one mark
pub no_less : (n : ℕ) (ms : List (ℕ × Mark)) → CountFrom n (map number ms) → (k : ℕ) (m : Mark) → In (k, m) ms → n ≤ k
no_less n [] c k m h = absurd h
no_less n (x ∷ ms) c k m (inl e) = let is : k ≡ x.0 = ap number e in omega (arith, is, c.0)
no_less n (x ∷ ms) c k m (inr h) = omega (arith, no_less (n + 1) ms c.1 k m h)

pub one_mark : (n : ℕ) (ms : List (ℕ × Mark)) → CountFrom n (map number ms) → (k : ℕ) (m other : Mark) → In (k, m) ms → In (k, other) ms → m ≡ other
one_mark n [] c k m other h g = absurd h
one_mark n (x ∷ ms) c k m other (inl e) (inl f) = ap (λ (p : ℕ × Mark). p.1) (e ∙ sym f)
one_mark n (x ∷ ms) c k m other (inl e) (inr g) = let is : k ≡ x.0 = ap number e in absurd (omega (arith, is, c.0, no_less (n + 1) ms c.1 k other g))
one_mark n (x ∷ ms) c k m other (inr h) (inl f) = let is : k ≡ x.0 = ap number f in absurd (omega (arith, is, c.0, no_less (n + 1) ms c.1 k m h))
one_mark n (x ∷ ms) c k m other (inr h) (inr g) = one_mark (n + 1) ms c.1 k m other h g

-- a way begins before a statement, whose mark it bears, or at the turn of a loop
abbrev pub Comes : List (ℕ × Mark) → Point → Mark → Type 0
Comes ms (At n) m = In (n, m) ms
Comes ms (Turn n) m = m ≡ Nothing
Comes ms Past m = ⊥

later : (x : ℕ × Mark) (ms : List (ℕ × Mark)) (u : Point) (m : Mark) → Comes ms u m → Comes (x ∷ ms) u m
later x ms (At n) m h = inr h
later x ms (Turn n) m h = h
later x ms Past m h = absurd h

left : (ms others : List (ℕ × Mark)) (u : Point) (m : Mark) → Comes ms u m → Comes (ms ++ others) u m
left ms others (At n) m h = in_left (n, m) ms others h
left ms others (Turn n) m h = h
left ms others Past m h = absurd h

right : (ms others : List (ℕ × Mark)) (u : Point) (m : Mark) → Comes others u m → Comes (ms ++ others) u m
right ms others (At n) m h = in_right (n, m) ms others h
right ms others (Turn n) m h = h
right ms others Past m h = absurd h

pub way_comes : (next break continue : Point) (code : Code) (u v : Point) (m : Mark) → Flow next break continue code u m v → Comes (marks_of code) u m
way_comes next break continue done u v m f = elim f [ ]
way_comes next break continue no_part u v m f = elim f [ ]
way_comes next break continue (plain n act rest) _ _ _ flow.plain_step = inl refl
way_comes next break continue (plain n act rest) u v m (flow.plain_rest f) = later _ _ u m (way_comes next break continue rest u v m f)
way_comes next break continue (jump n act rest) _ _ _ flow.jump_step = inl refl
way_comes next break continue (jump n act rest) u v m (flow.jump_rest f) = later _ _ u m (way_comes next break continue rest u v m f)
way_comes next break continue (call n g args rest) _ _ _ flow.call_step = inl refl
way_comes next break continue (call n g args rest) u v m (flow.call_rest f) = later _ _ u m (way_comes next break continue rest u v m f)
way_comes next break continue (branch n cond one two rest) _ _ _ flow.branch_one = inl refl
way_comes next break continue (branch n cond one two rest) _ _ _ flow.branch_two = inl refl
way_comes next break continue (branch n cond one two rest) u v m (flow.branch_in_one f) = later _ _ u m (left (marks_of one) _ u m (way_comes _ _ _ one u v m f))
way_comes next break continue (branch n cond one two rest) u v m (flow.branch_in_two f) = later _ _ u m (right (marks_of one) _ u m (left (marks_of two) _ u m (way_comes _ _ _ two u v m f)))
way_comes next break continue (branch n cond one two rest) u v m (flow.branch_rest f) = later _ _ u m (right (marks_of one) _ u m (right (marks_of two) _ u m (way_comes next break continue rest u v m f)))
way_comes next break continue (switch n selector parts rest) _ _ _ (flow.switch_begin b) = inl refl
way_comes next break continue (switch n selector parts rest) u v m (flow.switch_in_parts f) = later _ _ u m (left (marks_of parts) _ u m (way_comes _ _ _ parts u v m f))
way_comes next break continue (switch n selector parts rest) u v m (flow.switch_rest f) = later _ _ u m (right (marks_of parts) _ u m (way_comes next break continue rest u v m f))
way_comes next break continue (part n which keys fallback body others) u v m (flow.part_in_body f) = left (marks_of body) _ u m (way_comes _ _ _ body u v m f)
way_comes next break continue (part n which keys fallback body others) u v m (flow.part_others f) = right (marks_of body) _ u m (way_comes _ _ _ others u v m f)
way_comes next break continue (loop n body continuing leave rest) _ _ _ flow.loop_begin = inl refl
way_comes next break continue (loop n body continuing leave rest) _ _ _ flow.loop_turn = refl
way_comes next break continue (loop n body continuing (Some operand) rest) _ _ _ flow.loop_leave = refl
way_comes next break continue (loop n body continuing leave rest) u v m (flow.loop_in_body f) = later _ _ u m (left (marks_of body) _ u m (way_comes _ _ _ body u v m f))
way_comes next break continue (loop n body continuing leave rest) u v m (flow.loop_in_continuing f) = later _ _ u m (right (marks_of body) _ u m (left (marks_of continuing) _ u m (way_comes _ _ _ continuing u v m f)))
way_comes next break continue (loop n body continuing leave rest) u v m (flow.loop_rest f) = later _ _ u m (right (marks_of body) _ u m (right (marks_of continuing) _ u m (way_comes next break continue rest u v m f)))

-- the writes of some marks
abbrev pub all_writes : List (ℕ × Mark) → List Write
all_writes [] = []
all_writes (x ∷ ms) = mark_writes x.1 ++ all_writes ms

all_append : (ms others : List (ℕ × Mark)) → all_writes (ms ++ others) ≡ all_writes ms ++ all_writes others
all_append [] others = refl
all_append (x ∷ ms) others = ap (λ (l : List Write). mark_writes x.1 ++ l) (all_append ms others) ∙ sym (append_assoc (mark_writes x.1) (all_writes ms) (all_writes others))

two_writes : (ms others : List (ℕ × Mark)) (a b : List Write) → a ≡ all_writes ms → b ≡ all_writes others → a ++ b ≡ all_writes (ms ++ others)
two_writes ms others a b e f = ap (λ (l : List Write). l ++ b) e ∙ (ap (λ (l : List Write). all_writes ms ++ l) f ∙ sym (all_append ms others))

-- the list of writes is that of the statements in order
pub writes_are : (code : Code) → writes_of code ≡ all_writes (marks_of code)
writes_are done = refl
writes_are (plain n act rest) = ap (λ (l : List Write). mark_writes (mark_of n act) ++ l) (writes_are rest)
writes_are (jump n act rest) = writes_are rest
writes_are (call n g args rest) = ap (λ (l : List Write). call_writes n 0 args ++ l) (writes_are rest)
writes_are (branch n cond one two rest) = two_writes (marks_of one) _ _ _ (writes_are one) (two_writes (marks_of two) _ _ _ (writes_are two) (writes_are rest))
writes_are (switch n selector parts rest) = two_writes (marks_of parts) _ _ _ (writes_are parts) (writes_are rest)
writes_are (loop n body continuing leave rest) = two_writes (marks_of body) _ _ _ (writes_are body) (two_writes (marks_of continuing) _ _ _ (writes_are continuing) (writes_are rest))
writes_are no_part = refl
writes_are (part n which keys fallback body others) = two_writes (marks_of body) _ _ _ (writes_are body) (writes_are others)

pub all_of : (ms : List (ℕ × Mark)) (w : Write) → In w (all_writes ms) → (x : ℕ × Mark) × In x ms × In w (mark_writes x.1)
all_of [] w h = absurd h
all_of (y ∷ ms) w h = elim (in_split w (mark_writes y.1) (all_writes ms) h) [
  | inl here ↦ (y, inl refl, here)
  | inr after ↦ (let r : (x : ℕ × Mark) × In x ms × In w (mark_writes x.1) = all_of ms w after in (r.0, inr r.1, r.2))
]

pub of_all : (ms : List (ℕ × Mark)) (w : Write) (x : ℕ × Mark) → In x ms → In w (mark_writes x.1) → In w (all_writes ms)
of_all [] w x m h = absurd m
of_all (y ∷ ms) w x (inl e) h = in_left w (mark_writes y.1) (all_writes ms) (subst (λ (p : ℕ × Mark). In w (mark_writes p.1)) e h)
of_all (y ∷ ms) w x (inr m) h = in_right w (mark_writes y.1) (all_writes ms) (of_all ms w x m h)

-- a call, whose arguments are numbered from j on, writes this through one of them
abbrev pub Written : ℕ → ℕ → List Argument → Write → Type 0
Written n j args w = (k : ℕ) × (view : View) × (slice_get args k ≡ Some (argument.Pointer view)) × (w ≡ write view.base (definition.Argument n (j + k)) (is_whole view.steps))

-- what a call writes, argument by argument
pub call_made : (n j : ℕ) (args : List Argument) (w : Write) → In w (call_writes n j args) → Written n j args w
call_made n j [] w h = absurd h
call_made n j (arg ∷ args) w h = by arg (λ after. call_made n (j + 1) args w after) (in_split w (writes_through (definition.Argument n j) arg) (call_writes n (j + 1) args) h)
  where
    by : (arg : Argument) → (In w (call_writes n (j + 1) args) → Written n (j + 1) args w) → In w (writes_through (definition.Argument n j) arg) ⊎ In w (call_writes n (j + 1) args) → Written n j (arg ∷ args) w
    by (argument.Plain operand) more (inl here) = absurd here
    by (argument.Pointer view) more (inl (inl e)) = let same : j ≡ j + 0 = omega arith in (0, view, refl, e ∙ ap (λ (i : ℕ). write view.base (definition.Argument n i) (is_whole view.steps)) same)
    by (argument.Pointer view) more (inl (inr h)) = absurd h
    by arg more (inr after) =
        let r : Written n (j + 1) args w = more after in
        let same : (j + 1) + r.0 ≡ j + suc r.0 = omega arith in
        (suc r.0, r.1, r.2, r.3 ∙ ap (λ (i : ℕ). write r.1.base (definition.Argument n i) (is_whole r.1.steps)) same)

pub call_makes : (n j : ℕ) (args : List Argument) (k : ℕ) (view : View) → slice_get args k ≡ Some (argument.Pointer view) → In (write view.base (definition.Argument n (j + k)) (is_whole view.steps)) (call_writes n j args)
call_makes n j [] k view e = cc
call_makes n j (arg ∷ args) zero view e =
    let is : arg ≡ argument.Pointer view = cc in
    let same : j ≡ j + 0 = omega arith in
    subst (λ (a : Argument). In (write view.base (definition.Argument n (j + 0)) (is_whole view.steps)) (writes_through (definition.Argument n j) a ++ call_writes n (j + 1) args)) (sym is)
    (inl (ap (λ (i : ℕ). write view.base (definition.Argument n i) (is_whole view.steps)) (sym same)))
call_makes n j (arg ∷ args) (suc k) view e =
    let same : (j + 1) + k ≡ j + suc k = omega arith in
    in_right _ (writes_through (definition.Argument n j) arg) (call_writes n (j + 1) args)
    (subst (λ (i : ℕ). In (write view.base (definition.Argument n i) (is_whole view.steps)) (call_writes n (j + 1) args)) same (call_makes n (j + 1) args k view e))

-- one of the arguments points to the whole of a variable
abbrev Handed : List Argument → Base → Type 0
Handed args variable = (k : ℕ) × (view : View) × (slice_get args k ≡ Some (argument.Pointer view)) × (is_whole view.steps ≡ true) × (view.base ≡ variable)

pub call_hands : (args : List Argument) (variable : Base) → handed args variable ≡ true → Handed args variable
call_hands [] variable e = cc
call_hands (argument.Plain operand ∷ args) variable e =
    let r : Handed args variable = call_hands args variable e in (suc r.0, r.1, r.2, r.3, r.4)
call_hands (argument.Pointer view ∷ args) variable e = by (is_whole view.steps) (same_var view.base variable) (λ g. call_hands args variable g) refl refl e
  where
    by : (a b : Bool) → (handed args variable ≡ true → Handed args variable) → a ≡ is_whole view.steps → b ≡ same_var view.base variable → ((a && b) || handed args variable) ≡ true → Handed (argument.Pointer view ∷ args) variable
    by true true more whole same e = (0, view, refl, sym whole, same_is view.base variable (sym same))
    by true false more whole same e = let r : Handed args variable = more e in (suc r.0, r.1, r.2, r.3, r.4)
    by false b more whole same e = let r : Handed args variable = more e in (suc r.0, r.1, r.2, r.3, r.4)

pub hands_call : (args : List Argument) (variable : Base) (k : ℕ) (view : View) → slice_get args k ≡ Some (argument.Pointer view) → is_whole view.steps ≡ true → view.base ≡ variable → handed args variable ≡ true
hands_call [] variable k view e whole same = cc
hands_call (arg ∷ args) variable zero view e whole same =
    let is : arg ≡ argument.Pointer view = cc in
    let both : (is_whole view.steps && same_var view.base variable) ≡ true = rw (whole, same) (same_self variable) in
    subst (λ (a : Argument). (hands a variable || handed args variable) ≡ true) (sym is) (rw both refl)
hands_call (arg ∷ args) variable (suc k) view e whole same = by (hands arg variable) (hands_call args variable k view e whole same)
  where
    by : (a : Bool) → handed args variable ≡ true → (a || handed args variable) ≡ true
    by true h = refl
    by false h = h

both_true : (a b : Bool) → (a && b) ≡ true → (a ≡ true) × (b ≡ true)
both_true true true e = (refl, refl)
both_true true false e = cc
both_true false b e = cc

-- a mark makes the definitions that it writes, and stops those of the variables that it writes whole
pub mark_makes : (m : Mark) (variable : Base) (by : Definition) → Makes m variable by → (w : Write) × In w (mark_writes m) × (w.defined ≡ defined variable by)
mark_makes Nothing variable by h = absurd h
mark_makes (Stores n other steps) variable by h = (write other (definition.At n) (is_whole steps), inl refl, λ i. defined (h.0 i) (sym h.1 i))
mark_makes (Hands n args) variable by h = of h.1 h.2 h.3
  where
    of : (arg : Argument) → slice_get args h.0 ≡ Some arg → Touches arg variable → (w : Write) × In w (call_writes n 0 args) × (w.defined ≡ defined variable by)
    of (argument.Plain operand) e t = absurd t
    of (argument.Pointer view) e t =
        let same : 0 + h.0 ≡ h.0 = omega arith in
        (write view.base (definition.Argument n (0 + h.0)) (is_whole view.steps), call_makes n 0 args h.0 view e, λ i. defined (t i) ((ap (λ (k : ℕ). definition.Argument n k) same ∙ sym h.4) i))

pub mark_made : (m : Mark) (w : Write) → In w (mark_writes m) → Makes m w.defined.variable w.defined.by
mark_made Nothing w h = absurd h
mark_made (Stores n other steps) w (inl e) = (ap (λ (x : Write). x.defined.variable) (sym e), ap (λ (x : Write). x.defined.by) e)
mark_made (Stores n other steps) w (inr h) = absurd h
mark_made (Hands n args) w h =
    let r : Written n 0 args w = call_made n 0 args w h in
    let same : 0 + r.0 ≡ r.0 = omega arith in
    (r.0, argument.Pointer r.1, r.2, ap (λ (x : Write). x.defined.variable) (sym r.3), ap (λ (x : Write). x.defined.by) r.3 ∙ ap (λ (k : ℕ). definition.Argument n k) same)

pub mark_stops : (m : Mark) (variable : Base) → stops m variable ≡ true → (w : Write) × In w (mark_writes m) × (w.whole ≡ true) × (w.defined.variable ≡ variable)
mark_stops Nothing variable e = cc
mark_stops (Stores n other steps) variable e =
    let b : (is_whole steps ≡ true) × (same_var other variable ≡ true) = both_true (is_whole steps) (same_var other variable) e in
    (write other (definition.At n) (is_whole steps), inl refl, b.0, same_is other variable b.1)
mark_stops (Hands n args) variable e =
    let r : Handed args variable = call_hands args variable e in
    (write r.1.base (definition.Argument n (0 + r.0)) (is_whole r.1.steps), call_makes n 0 args r.0 r.1 r.2, r.3, r.4)

pub mark_stopped : (m : Mark) (w : Write) → In w (mark_writes m) → w.whole ≡ true → stops m w.defined.variable ≡ true
mark_stopped Nothing w h whole = absurd h
mark_stopped (Stores n other steps) w (inl e) whole =
    let all : is_whole steps ≡ true = ap (λ (x : Write). x.whole) (sym e) ∙ whole in
    let one : w.defined.variable ≡ other = ap (λ (x : Write). x.defined.variable) e in
    rw (all, one) (same_self other)
mark_stopped (Stores n other steps) w (inr h) whole = absurd h
mark_stopped (Hands n args) w h whole =
    let r : Written n 0 args w = call_made n 0 args w h in
    hands_call args w.defined.variable r.0 r.1 r.2 (ap (λ (x : Write). x.whole) (sym r.3) ∙ whole) (ap (λ (x : Write). x.defined.variable) (sym r.3))

-- the mark is that of the statement with the number
abbrev pub Own : ℕ × Mark → Type 0
Own x = (w : Write) → In w (mark_writes x.1) → statement_of w.defined.by ≡ Some x.0

act_own : (n : ℕ) (act : Plain) → Own (n, mark_of n act)
act_own n (Set op args) w h = absurd h
act_own n (Load view) w h = absurd h
act_own n (Declare local value) w (inl e) = ap (λ (x : Write). statement_of x.defined.by) e
act_own n (Declare local value) w (inr h) = absurd h
act_own n (Store view value) w (inl e) = ap (λ (x : Write). statement_of x.defined.by) e
act_own n (Store view value) w (inr h) = absurd h
act_own n (Atomic op view args) w h = absurd h
act_own n (Barrier space severity) w h = absurd h
act_own n (UniformLoad view severity) w h = absurd h
act_own n (Length view) w h = absurd h

call_own : (n : ℕ) (args : List Argument) → Own (n, Hands n args)
call_own n args w h =
    let r : Written n 0 args w = call_made n 0 args w h in
    ap (λ (x : Write). statement_of x.defined.by) r.3

at_is : (x y : ℕ × Mark) → x ≡ y → Own y → Own x
at_is x y e o = subst Own (sym e) o

none_own : (n : ℕ) → Own (n, Nothing)
none_own n w h = absurd h

by_split : (ms others : List (ℕ × Mark)) → ((x : ℕ × Mark) → In x ms → Own x) → ((x : ℕ × Mark) → In x others → Own x) → (x : ℕ × Mark) → In x (ms ++ others) → Own x
by_split ms others f g x h = elim (in_split x ms others h) [ inl l ↦ f x l | inr r ↦ g x r ]

pub marks_own : (code : Code) (x : ℕ × Mark) → In x (marks_of code) → Own x
marks_own done x h = absurd h
marks_own (plain n act rest) x (inl e) = at_is x _ e (act_own n act)
marks_own (plain n act rest) x (inr h) = marks_own rest x h
marks_own (jump n act rest) x (inl e) = at_is x _ e (none_own n)
marks_own (jump n act rest) x (inr h) = marks_own rest x h
marks_own (call n g args rest) x (inl e) = at_is x _ e (call_own n args)
marks_own (call n g args rest) x (inr h) = marks_own rest x h
marks_own (branch n cond one two rest) x (inl e) = at_is x _ e (none_own n)
marks_own (branch n cond one two rest) x (inr h) = by_split (marks_of one) _ (marks_own one) (by_split (marks_of two) _ (marks_own two) (marks_own rest)) x h
marks_own (switch n selector parts rest) x (inl e) = at_is x _ e (none_own n)
marks_own (switch n selector parts rest) x (inr h) = by_split (marks_of parts) _ (marks_own parts) (marks_own rest) x h
marks_own (loop n body continuing leave rest) x (inl e) = at_is x _ e (none_own n)
marks_own (loop n body continuing leave rest) x (inr h) = by_split (marks_of body) _ (marks_own body) (by_split (marks_of continuing) _ (marks_own continuing) (marks_own rest)) x h
marks_own no_part x h = absurd h
marks_own (part n which keys fallback body others) x h = by_split (marks_of body) _ (marks_own body) (marks_own others) x h

-- What a way does is what the list of writes says of the statement before which it begins.
module _ (body : Code) (numbered : IsNumbered body) where
  one_here : (n : ℕ) (m other : Mark) → In (n, m) (marks_of body) → In (n, other) (marks_of body) → m ≡ other
  one_here n m other h g = one_mark 0 (marks_of body) (subst (λ (l : List ℕ). CountFrom 0 l) (sym (marks_numbers body)) numbered) n m other h g

  listed : (w : Write) → In w (writes_of body) → (x : ℕ × Mark) × In x (marks_of body) × In w (mark_writes x.1)
  listed w h = all_of (marks_of body) w (subst (λ (l : List Write). In w l) (writes_are body) h)

  is_listed : (n : ℕ) (m : Mark) (w : Write) → In (n, m) (marks_of body) → In w (mark_writes m) → In w (writes_of body)
  is_listed n m w h g = subst (λ (l : List Write). In w l) (sym (writes_are body)) (of_all (marks_of body) w (n, m) h g)

  -- a write of the statement is one of the mark
  at_mark : (n : ℕ) (m : Mark) (w : Write) → In (n, m) (marks_of body) → In w (writes_of body) → statement_of w.defined.by ≡ Some n → In w (mark_writes m)
  at_mark n m w h g e =
      let x : (x : ℕ × Mark) × In x (marks_of body) × In w (mark_writes x.1) = listed w g in
      let own : statement_of w.defined.by ≡ Some x.0.0 = marks_own body x.0 x.1 w x.2 in
      let same : x.0.0 ≡ n = cc in
      let there : In (n, x.0.1) (marks_of body) = subst (λ (k : ℕ). In (k, x.0.1) (marks_of body)) same x.1 in
      subst (λ (k : Mark). In w (mark_writes k)) (one_here n x.0.1 m there h) x.2

  pub way_makes : (u v : Point) (m : Mark) → Ways body u m v → (variable : Base) (by : Definition) → Makes m variable by → (n : ℕ) × (w : Write) × (u ≡ At n) × (statement_of by ≡ Some n) × In w (writes_of body) × (w.defined ≡ defined variable by)
  way_makes u v m f variable by h = of u (way_comes Past Past Past body u v m f)
    where
      of : (p : Point) → Comes (marks_of body) p m → (n : ℕ) × (w : Write) × (p ≡ At n) × (statement_of by ≡ Some n) × In w (writes_of body) × (w.defined ≡ defined variable by)
      of (At n) c =
          let r : (w : Write) × In w (mark_writes m) × (w.defined ≡ defined variable by) = mark_makes m variable by h in
          (n, r.0, refl, ap (λ (d : Defined). statement_of d.by) (sym r.2) ∙ marks_own body (n, m) c r.0 r.1, is_listed n m r.0 c r.1, r.2)
      of (Turn n) c = absurd (subst (λ (k : Mark). Makes k variable by) c h)
      of Past c = absurd c

  pub way_made : (n : ℕ) (v : Point) (m : Mark) → Ways body (At n) m v → (w : Write) → In w (writes_of body) → statement_of w.defined.by ≡ Some n → Makes m w.defined.variable w.defined.by
  way_made n v m f w h e = mark_made m w (at_mark n m w (way_comes Past Past Past body (At n) v m f) h e)

  pub way_stops : (u v : Point) (m : Mark) → Ways body u m v → (variable : Base) → stops m variable ≡ true → (n : ℕ) × (w : Write) × (u ≡ At n) × (statement_of w.defined.by ≡ Some n) × In w (writes_of body) × (w.whole ≡ true) × (w.defined.variable ≡ variable)
  way_stops u v m f variable s = of u (way_comes Past Past Past body u v m f)
    where
      of : (p : Point) → Comes (marks_of body) p m → (n : ℕ) × (w : Write) × (p ≡ At n) × (statement_of w.defined.by ≡ Some n) × In w (writes_of body) × (w.whole ≡ true) × (w.defined.variable ≡ variable)
      of (At n) c =
          let r : (w : Write) × In w (mark_writes m) × (w.whole ≡ true) × (w.defined.variable ≡ variable) = mark_stops m variable s in
          (n, r.0, refl, marks_own body (n, m) c r.0 r.1, is_listed n m r.0 c r.1, r.2, r.3)
      of (Turn n) c = absurd (false≢true (subst (λ (k : Mark). stops k variable ≡ true) c s))
      of Past c = absurd c

  pub way_stopped : (n : ℕ) (v : Point) (m : Mark) → Ways body (At n) m v → (w : Write) → In w (writes_of body) → statement_of w.defined.by ≡ Some n → w.whole ≡ true → stops m w.defined.variable ≡ true
  way_stopped n v m f w h e whole = mark_stopped m w (at_mark n m w (way_comes Past Past Past body (At n) v m f) h e) whole
