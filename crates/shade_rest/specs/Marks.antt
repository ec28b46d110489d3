-- Rules: what a lane has left, as a stack of marks.
use Rattle.std.specs.Prelude.{◌≡◌, ℕ, ◌+◌, Bool, true, false, List, [], ◌∷◌, reverse}
use Rattle.std.specs.Option.{option_map}
use Rattle.shade_core.specs.declared.statement.Argument.{Argument}
use Rattle.shade_core.specs.declared.statement.CoreStatement.{CoreStatement}
use Rattle.shade_core.specs.Code.{code_of}
use Rattle.shade_frames.specs.Control.{OpenLoop as Loop, Rest, halt, seq, in_body, in_continuing, in_switch, back, Place, next, turned}
use Rattle.shade_rest.specs.declared.mark.OpenLoop.{OpenLoop}
use Rattle.shade_rest.specs.declared.mark.Mark.{Mark}
use Rattle.shade_rest.specs.declared.mark.Mark.TheVariants as mark
use Rattle.shade_rest.specs.declared.mark.Here.{Here}
use Rattle.shade_rest.specs.declared.mark.Here.TheVariants as here

abbrev pub loop_of : OpenLoop → Loop
loop_of o = record { number = o.number; body = code_of o.body.now; continuing = code_of o.continuing.now; leave = option_map (λ operand. operand.now) o.leave }

-- what is left by marks, the innermost first
abbrev pub rest_of : List Mark → Rest
rest_of [] = halt
rest_of (mark.List list ∷ marks) = seq (code_of list.now) (rest_of marks)
rest_of (mark.Body body turn ∷ marks) = in_body (loop_of body) turn (rest_of marks)
rest_of (mark.Continuing body turn ∷ marks) = in_continuing (loop_of body) turn (rest_of marks)
rest_of (mark.Switch ∷ marks) = in_switch (rest_of marks)
rest_of (mark.Call number function args ∷ marks) = back number function args.now (rest_of marks)

-- what is left by a stack of marks, the innermost last
abbrev pub left : List Mark → Rest
left stack = rest_of (reverse stack)

-- where a lane stands that has this left
abbrev pub place : List Mark → Place
place stack = next (left stack)

-- how many things are open
abbrev pub depth : Rest → ℕ
depth halt = 0
depth (seq c k) = depth k + 1
depth (in_body m turn k) = depth k + 1
depth (in_continuing m turn k) = depth k + 1
depth (in_switch k) = depth k + 1
depth (back n g args k) = depth k + 1

-- ---- before a statement

-- the innermost list, where marks begin with one
abbrev pub list_in : List Mark → List CoreStatement
list_in [] = []
list_in (mark.List list ∷ marks) = list.now
list_in (mark.Body body turn ∷ marks) = []
list_in (mark.Continuing body turn ∷ marks) = []
list_in (mark.Switch ∷ marks) = []
list_in (mark.Call number function args ∷ marks) = []

abbrev pub tail_of : List CoreStatement → List CoreStatement
tail_of [] = []
tail_of (s ∷ statements) = statements

abbrev pub outside : List Mark → List Mark
outside [] = []
outside (m ∷ marks) = marks

-- a statement is the first one left
abbrev pub HasFirst : CoreStatement → List Mark → Type 0
HasFirst s stack = list_in (reverse stack) ≡ s ∷ tail_of (list_in (reverse stack))

abbrev pub is_some_list : List CoreStatement → Bool
is_some_list [] = false
is_some_list (s ∷ statements) = true

-- a statement is left, in the innermost list
abbrev pub has_first : List Mark → Bool
has_first stack = is_some_list (list_in (reverse stack))

-- what is left behind the first statement
abbrev pub behind : List Mark → Rest
behind stack = seq (code_of (tail_of (list_in (reverse stack)))) (rest_of (outside (reverse stack)))

-- ---- at the end of a turn

-- what is left where a loop is left, or its next turn begins
abbrev pub turn_of : Bool → Rest → Rest
turn_of leaves halt = halt
turn_of leaves (seq c k) = seq c k
turn_of leaves (in_body m turn k) = in_body m turn k
turn_of leaves (in_continuing m turn k) = turned leaves m turn k
turn_of leaves (in_switch k) = in_switch k
turn_of leaves (back n g args k) = back n g args k

-- what stands innermost where a lane stands there
abbrev pub Stands : Here → List Mark → Type 0
Stands here.Over stack = left stack ≡ halt
Stands (here.First s) stack = HasFirst s.now stack
Stands (here.Turning body turn) stack = left stack ≡ in_continuing (loop_of body) turn (rest_of (outside (reverse stack)))
Stands here.Falling stack = (number : ℕ) × (function : ℕ) × (args : List Argument) × (left stack ≡ back number function args (rest_of (outside (reverse stack))))
