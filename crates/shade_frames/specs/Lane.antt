-- Rules: a lane, what its next step asks of the memory that lanes share, and the lane after the answer. (WGSL, "Program Order Within an
-- Invocation", "Memory Access Operation", "Synchronization Built-in Functions".)
--
-- A step accesses shared memory at most once: it reads a piece, writes one, or changes one by an atomic operation, which has the words from
-- before as its answer. A lane that comes to a barrier or a uniform load waits; it stands behind that statement already, and the value of a
-- uniform load comes to it as it is released.
use Rattle.std.specs.Prelude.{ℕ, ◌+◌, ◌==◌, ◌&&◌, Bool, false, List, [], ◌∷◌, map, Option, Some, None, if◌then◌else◌, ℤ, pos, slice_index}
use Rattle.shade_schedules.specs.System.{Request, Works, Reads, Writes, Changes, Waits}
use Rattle.shade_values.specs.declared.op.Op.{Op}
use Rattle.shade_values.specs.declared.types.Space.{Space}
use Rattle.shade_values.specs.declared.types.Space.TheVariants as space
use Rattle.shade_values.specs.declared.value.Value.{Value}
use Rattle.shade_values.specs.Apply.{Apply}
use Rattle.shade_words.specs.Lays.{size, decode}
use Rattle.shade_words.specs.Types.{lay_of}
use Rattle.shade_core.specs.declared.statement.Argument.{Argument}
use Rattle.shade_core.specs.declared.statement.Base.TheVariants as base
use Rattle.shade_core.specs.declared.statement.Operand.{Operand}
use Rattle.shade_core.specs.Code.{Plain, Set, Load, Declare, Store, Atomic, Barrier, UniformLoad, Length, Jump, Break, Continue, Return, Code, plain, jump, call}
use Rattle.shade_spots.specs.Changes.{Change, value_change, own_change, zero_change, atomic_leaf, atomic_given, atomic_change}
use Rattle.shade_spots.specs.Memory.{word_after}
use Rattle.shade_spots.specs.Roots.{private_word}
use Rattle.shade_spots.specs.Spots.{Variable, shared, private, local, Spot, Piece, piece_of, part_total}
use Rattle.shade_frames.specs.Control.{Rest, halt, seq, Place, Over, First, Turning, Falling, next, go, asks, caller_of}
use Rattle.shade_frames.specs.Frames.{Setting, Frame, body_of, value_shape, put_value, operand_value, number_of, base_spot, view_spot, enter, entry_frame, u32_value}
use Rattle.shade_frames.specs.Instances.{function_in, instance}
use Rattle.shade_frames.specs.declared.builtins.Builtins.{Builtins}

-- the words of the variables that a lane has for itself: private ones, and the local ones of each open call
abbrev pub Own : Type 0
Own = Variable → ℕ → ℕ

-- where a lane stands, its open calls, the innermost first, and the memory of its own
pub record Lane : Type 0 where
  pub place : Place
  pub frames : List Frame
  pub own : Own

-- What a lane waits at: the space that the barrier orders, the function and the number of the statement, the instance, and what a uniform
-- load reads.
pub record Site : Type 0 where
  pub space : Space
  pub function : ℕ
  pub number : ℕ
  pub instance : List ℕ
  pub piece : Option Piece

-- ---- memory of a lane's own

abbrev pub same_variable : Variable → Variable → Bool
same_variable (shared a) (shared b) = a == b
same_variable (private a) (private b) = a == b
same_variable (local d a) (local e b) = (d == e) && (a == b)
same_variable _ _ = false

-- the words of a spot are changed
abbrev pub own_put : Own → Spot → Change → Own
own_put own s change variable i =
    if same_variable variable s.variable then word_after s.first (size (lay_of s.shape)) change i (own variable i) else own variable i

-- the local variables of the call at this depth are zero
abbrev pub fresh : Own → ℕ → Own
fresh own depth (local d number) i = if d == depth then 0 else own (local d number) i
fresh own depth variable i = own variable i

-- ---- what a step does

-- a statement without parts, with its number; a call; a return, with the number of the call that it answers
pub data Does : Type 0 where
  Moves : Does
  Acts : (number : ℕ) → Plain → Does
  Calls : (function : ℕ) → List Argument → Does
  Returns : Option Operand → Option ℕ → Does

abbrev pub jump_does : Jump → Rest → Does
jump_does Break k = Moves
jump_does Continue k = Moves
jump_does (Return value) k = Returns value (caller_of k)

abbrev pub code_does : Code → Rest → Does
code_does (plain n act rest) k = Acts n act
code_does (jump n act rest) k = jump_does act k
code_does (call n g args rest) k = Calls g args
code_does _ k = Moves

abbrev pub does : Place → Does
does Over = Moves
does (First c k) = code_does c k
does (Turning m turn k) = Moves
does (Falling n g args k) = Moves

-- ---- what a step asks

abbrev pub Asked : Type 0
Asked = Request Piece Change Site

abbrev pub reads : Option Piece → Asked
reads None = Works
reads (Some p) = Reads p

abbrev pub writes : Option Piece → Change → Asked
writes None change = Works
writes (Some p) change = Writes p change

abbrev pub changes : Option Piece → Change → Asked
changes None change = Works
changes (Some p) change = Changes p change

abbrev pub waits : Setting → Space → ℕ → Rest → Option Piece → Asked
waits s in_space n k piece = Waits (record { space = in_space; function = function_in s.entry k; number = n; instance = instance s.entry n k; piece = piece })

-- A store through a view, and an atomic operation on what it names.
abbrev pub stores : Spot → Value → Asked
stores spot v = writes (piece_of spot) (value_change spot.shape v)

abbrev pub operates : Spot → Op → List Value → Asked
operates spot op args = changes (piece_of spot) (atomic_change spot.shape op args)

abbrev pub act_request : Setting → Rest → Frame → ℕ → Plain → Asked
act_request s k f n (Set op args) = Works
act_request s k f n (Load view) = reads (piece_of (view_spot s f view))
act_request s k f n (Declare number value) = Works
act_request s k f n (Store view value) = stores (view_spot s f view) (operand_value f value)
act_request s k f n (Atomic op view args) = operates (view_spot s f view) op (map (operand_value f) args)
act_request s k f n (Barrier in_space severity) = waits s in_space n k None
act_request s k f n (UniformLoad view severity) = waits s space.Workgroup n k (piece_of (view_spot s f view))
act_request s k f n (Length view) = Works

abbrev pub code_request : Setting → Rest → Frame → Code → Asked
code_request s k f (plain n act rest) = act_request s k f n act
code_request s k f _ = Works

abbrev pub place_request : Setting → List Frame → Place → Asked
place_request s (f ∷ frames) (First c k) = code_request s k f c
place_request s frames place = Works

-- what the next step of a lane asks
abbrev pub request : Setting → Lane → Asked
request s lane = place_request s lane.frames lane.place

-- ---- a lane after a step

-- the value that a load gives: of the words that were read, or of the lane's own
abbrev pub loaded_by : Option Piece → Own → Spot → List ℕ → Value
loaded_by None own spot words = decode (lay_of spot.shape) (own spot.variable) spot.first
loaded_by (Some p) own spot words = decode (lay_of spot.shape) (slice_index words) 0

abbrev pub loaded : Own → Spot → List ℕ → Value
loaded own spot words = loaded_by (piece_of spot) own spot words

abbrev pub put_some : Frame → ℕ → Option Value → Frame
put_some f n None = f
put_some f n (Some v) = put_value f n v

-- the frame after a statement without parts, by the words that were read
abbrev pub act_frame : Setting → Own → List ℕ → Frame → ℕ → Plain → Frame
act_frame s own words f n (Set op args) = put_value f n (Apply op (map (operand_value f) args))
act_frame s own words f n (Load view) = put_value f n (loaded own (view_spot s f view) words)
act_frame s own words f n (Declare number value) = f
act_frame s own words f n (Store view value) = f
act_frame s own words f n (Atomic op view args) =
    put_some f n (atomic_given op (atomic_leaf (view_spot s f view).shape (slice_index words 0)) (map (operand_value f) args))
act_frame s own words f n (Barrier in_space severity) = f
act_frame s own words f n (UniformLoad view severity) = f
act_frame s own words f n (Length view) = put_value f n (u32_value (part_total s.lengths (view_spot s f view)))

abbrev pub put_own_by : Option Piece → Own → Spot → Change → Own
put_own_by None own spot change = own_put own spot change
put_own_by (Some p) own spot change = own

abbrev pub declared_change : Frame → Spot → Option Operand → Change
declared_change f spot None = zero_change
declared_change f spot (Some value) = own_change spot.shape (operand_value f value)

-- the memory of a lane's own after a statement without parts
abbrev pub act_own : Setting → Own → Frame → Plain → Own
act_own s own f (Declare number value) =
    own_put own (base_spot s f (base.Local number)) (declared_change f (base_spot s f (base.Local number)) value)
act_own s own f (Store view value) =
    put_own_by (piece_of (view_spot s f view)) own (view_spot s f view) (own_change (view_spot s f view).shape (operand_value f value))
act_own s own f _ = own

abbrev pub result_by : Frame → Option Operand → ℕ → Frame → Frame
result_by f None n caller = caller
result_by f (Some value) n caller = put_value caller n (operand_value f value)

-- a call is closed, and its value given to the one outside; that of the entry stays
abbrev pub returned : Option Operand → Option ℕ → Frame → List Frame → List Frame
returned value None f frames = f ∷ frames
returned value (Some n) f [] = []
returned value (Some n) f (caller ∷ frames) = result_by f value n caller ∷ frames

abbrev pub frames_after : Setting → Own → List ℕ → List Frame → Does → List Frame
frames_after s own words [] d = []
frames_after s own words (f ∷ frames) Moves = f ∷ frames
frames_after s own words (f ∷ frames) (Acts n act) = act_frame s own words f n act ∷ frames
frames_after s own words (f ∷ frames) (Calls g args) = enter s g args f ∷ f ∷ frames
frames_after s own words (f ∷ frames) (Returns value to) = returned value to f frames

-- the local variables of a call that is closed are gone
abbrev pub closed : Own → ℕ → Option ℕ → Own
closed own depth None = own
closed own depth (Some n) = fresh own depth

abbrev pub own_after : Setting → Own → List Frame → Does → Own
own_after s own [] d = own
own_after s own (f ∷ frames) Moves = own
own_after s own (f ∷ frames) (Acts n act) = act_own s own f act
own_after s own (f ∷ frames) (Calls g args) = fresh own (f.depth + 1)
own_after s own (f ∷ frames) (Returns value to) = closed own f.depth to

-- the number that a step asks for
abbrev pub found : List Frame → Option Operand → ℤ
found [] operand = pos 0
found (f ∷ frames) operand = number_of f operand

-- a lane after its next step, which was answered by these words
abbrev pub after : Setting → Lane → List ℕ → Lane
after s lane words = record {
  place = next (go (body_of s) (found lane.frames (asks lane.place)) lane.place);
  frames = frames_after s lane.own words lane.frames (does lane.place);
  own = own_after s lane.own lane.frames (does lane.place);
}

-- ---- the start, and a release

abbrev pub begin_own : Setting → Own
begin_own s (private root) i = private_word s.shader root i
begin_own s (shared root) i = 0
begin_own s (local depth number) i = 0

-- a lane of the entry at its start
abbrev pub begin : Setting → Builtins → Lane
begin s b = record { place = next (seq (body_of s s.entry) halt); frames = entry_frame s b ∷ []; own = begin_own s }

-- the value of a uniform load, of the words that were read
abbrev pub loaded_at : Setting → Site → List ℕ → Value
loaded_at s site words = decode (lay_of (value_shape s site.function site.number)) (slice_index words) 0

abbrev pub given : Setting → Site → Option Piece → List ℕ → List Frame → List Frame
given s site None words frames = frames
given s site (Some p) words [] = []
given s site (Some p) words (f ∷ frames) = put_value f site.number (loaded_at s site words) ∷ frames

-- a lane that waited at a site, released with the words that were read there
abbrev pub resumed : Setting → Site → Lane → List ℕ → Lane
resumed s site lane words = record lane { frames = given s site site.piece words lane.frames }
