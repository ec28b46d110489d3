-- The first statement that is left, and what a step makes of it.
use Rattle.std.proofs.Common.{◌≡◌, ℕ, zero, suc, ◌<◌, Bool, true, false, List, [], ◌∷◌, ◌++◌, Option, None, refl, ap, sym, ◌∙◌, map, length, arith}
use Rattle.std.proofs.Math.Path.{fun_ext}
use Rattle.std.proofs.Math.Dec.{eqb-suc-zero, eqb-zero-suc, eqb-suc-suc}
use Rattle.std.specs.Prelude.{slice_set}
use Rattle.shade_values.specs.declared.value.Value.{Value}
use Rattle.shade_values.specs.declared.types.Space.{Space}
use Rattle.shade_core.specs.declared.statement.Operand.{Operand}
use Rattle.shade_core.specs.declared.statement.CoreStatement.{CoreStatement, fold_out-CoreStatement}
use Rattle.shade_core.specs.declared.statement.SwitchPart.{SwitchPart}
use Rattle.shade_core.specs.declared.statement.Act.{Act, Act-F, out-Act, map-Act, fold_out-Act}
use Rattle.shade_core.specs.declared.statement.Act.TheOpen as act
use Rattle.shade_core.specs.declared.statement.Act.TheVariants as variant
use Rattle.shade_core.specs.Code.{Code, act_before, statement_before, part_before, act_code, statement_code, part_code, code_of}
use Rattle.shade_base.specs.declared.severity.Severity.{Severity}
use Rattle.shade_values.specs.declared.op.Op.{Op}
use Rattle.shade_lane.specs.declared.state.LaneState.{LaneState}
use Rattle.shade_lane.specs.declared.state.LaneState.TheVariants.{Able, Waiting, Ended}
use Rattle.shade_lane.specs.Lane.{Rest, halt, seq, Place, First, next, next_code, put, go, tested, does, test_value, values_after, applied, operand_value, is_true, chosen, counts}
use Rattle.shade_lane.specs.Members.{Member, arrival, state_by, is_able}
use Rattle.shade_lane.specs.Seen.{Seen, rest_of, place_of, slot_value, member_of, later_of, below_of, HasFirst, taken, went, part_of}

-- ---- the values of statements

slot_push : (slots : List (Option Value)) (n : ℕ) → slot_value (slots ++ None ∷ []) n ≡ slot_value slots n
slot_push [] zero = refl
slot_push [] (suc n) = refl
slot_push (v ∷ slots) zero = refl
slot_push (v ∷ slots) (suc n) = slot_push slots n

-- a place without a value changes nothing
pub grown : (slots : List (Option Value)) → slot_value (slots ++ None ∷ []) ≡ slot_value slots
grown slots = fun_ext (slot_push slots)

slot_set : (slots : List (Option Value)) (n : ℕ) (v : Option Value) (m : ℕ) → n < length slots → slot_value (slice_set slots n v) m ≡ put (slot_value slots) n v m
slot_set [] n v m h = absurd (omega arith)
slot_set (w ∷ slots) zero v zero h = refl
slot_set (w ∷ slots) zero v (suc m) h = rw (eqb-suc-zero m) refl
slot_set (w ∷ slots) (suc n) v zero h = rw (eqb-zero-suc n) refl
slot_set (w ∷ slots) (suc n) v (suc m) h = rw (eqb-suc-suc m n) (slot_set slots n v m (omega arith))

-- a value put in its place
pub placed : (slots : List (Option Value)) (n : ℕ) (v : Option Value) → n < length slots → slot_value (slice_set slots n v) ≡ put (slot_value slots) n v
placed slots n v h = fun_ext (λ m. slot_set slots n v m h)

-- ---- where a lane stands

abbrev layer : Act-F Act CoreStatement SwitchPart → Act-F (ℕ → Code → Code) (Code → Code) (ℕ → ℕ → Code → Code)
layer y = map-Act Act CoreStatement SwitchPart (ℕ → Code → Code) (Code → Code) (ℕ → ℕ → Code → Code) act_code statement_code part_code y

head_is : (s : CoreStatement) (rest : Code) → statement_code s rest ≡ act_before (layer (out-Act s.act)) s.number rest
head_is s rest =
    ap (λ f. f rest) (fold_out-CoreStatement (ℕ → Code → Code) (Code → Code) (ℕ → ℕ → Code → Code) act_before statement_before part_before s)
    ∙ ap (λ f. f s.number rest) (fold_out-Act (ℕ → Code → Code) (Code → Code) (ℕ → ℕ → Code → Code) act_before statement_before part_before s.act)

stands : (y : Act-F (ℕ → Code → Code) (Code → Code) (ℕ → ℕ → Code → Code)) (n : ℕ) (rest : Code) (k : Rest) (later : Place) → next_code (act_before y n rest) k later ≡ First (act_before y n rest) k
stands (act.Set op args) n rest k later = refl
stands (act.Load view) n rest k later = refl
stands (act.Declare local value) n rest k later = refl
stands (act.Store view value) n rest k later = refl
stands (act.Atomic op view args) n rest k later = refl
stands (act.Call function args) n rest k later = refl
stands (act.Barrier space severity) n rest k later = refl
stands (act.UniformLoad view severity) n rest k later = refl
stands (act.Length view) n rest k later = refl
stands (act.If cond first second) n rest k later = refl
stands (act.Switch selector parts) n rest k later = refl
stands (act.Loop body continuing leave) n rest k later = refl
stands act.Break n rest k later = refl
stands act.Continue n rest k later = refl
stands (act.Return value) n rest k later = refl

-- before a statement whose act is this
pub place_at : (s : CoreStatement) (lists : List (List CoreStatement)) (y : Act-F Act CoreStatement SwitchPart) → HasFirst s lists → out-Act s.act ≡ y
    → place_of lists ≡ First (act_before (layer y) s.number (code_of (later_of lists))) (rest_of (below_of lists))
place_at s lists y first e =
    ap place_of first
    ∙ (ap (λ c. next_code c (rest_of (below_of lists)) (place_of (below_of lists))) (head_is s (code_of (later_of lists)))
    ∙ (stands (layer (out-Act s.act)) s.number (code_of (later_of lists)) (rest_of (below_of lists)) (place_of (below_of lists))
    ∙ ap (λ x. First (act_before (layer x) s.number (code_of (later_of lists))) (rest_of (below_of lists))) e))

-- a lane that stands here after a step, but for its end
abbrev pub taken_at : Seen → Place → Member
taken_at l p = record {
  entry = l.entry;
  params = l.params;
  lane = record { place = next (go (test_value l.params (slot_value l.slots) (tested p)) p); values = values_after l.params (slot_value l.slots) (does p) };
  state = state_by (arrival l.entry p) false;
}

pub taken_from : (l : Seen) (s : CoreStatement) (y : Act-F Act CoreStatement SwitchPart) → HasFirst s l.lists → out-Act s.act ≡ y
    → taken_at l (First (act_before (layer y) s.number (code_of (later_of l.lists))) (rest_of (below_of l.lists))) ≡ taken (member_of l)
taken_from l s y first e = ap (taken_at l) (sym (place_at s l.lists y first e))

able_is : (state : LaneState) → is_able state ≡ true → state ≡ Able
able_is Able e = refl
able_is (Waiting space instance) e = cc
able_is Ended e = cc

counts_none : (k : Rest) → counts k ≡ []
counts_none halt = refl
counts_none (seq c k) = counts_none k

-- a lane in a state, with these open lists and values
abbrev went_at : Seen → List (List CoreStatement) → (ℕ → Option Value) → LaneState → Member
went_at l lists values state = record { entry = l.entry; params = l.params; lane = record { place = place_of lists; values = values }; state = state }

went_able : (l : Seen) (lists : List (List CoreStatement)) (values : ℕ → Option Value) → is_able l.state ≡ true → went lists values (member_of l) ≡ went_at l lists values Able
went_able l lists values able = ap (went_at l lists values) (able_is l.state able)

pub set_taken : (l : Seen) (s : CoreStatement) (op : Op) (args : List Operand) → HasFirst s l.lists → s.act ≡ variant.Set op args → is_able l.state ≡ true
    → went (later_of l.lists ∷ below_of l.lists) (put (slot_value l.slots) s.number (applied op (map (operand_value l.params (slot_value l.slots)) args))) (member_of l) ≡ taken (member_of l)
set_taken l s op args first e able =
    went_able l (later_of l.lists ∷ below_of l.lists) (put (slot_value l.slots) s.number (applied op (map (operand_value l.params (slot_value l.slots)) args))) able
    ∙ taken_from l s (act.Set op args) first (ap out-Act e ∙ variant.outs-Set op args)

pub barrier_taken : (l : Seen) (s : CoreStatement) (space : Space) (severity : Severity) → HasFirst s l.lists → s.act ≡ variant.Barrier space severity
    → member_of (record l { lists = later_of l.lists ∷ below_of l.lists; state = Waiting space (l.entry ∷ s.number ∷ 0 ∷ []) }) ≡ taken (member_of l)
barrier_taken l s space severity first e =
    ap (λ turns. went_at l (later_of l.lists ∷ below_of l.lists) (slot_value l.slots) (Waiting space (l.entry ∷ s.number ∷ length turns ∷ turns))) (sym (counts_none (rest_of (below_of l.lists))))
    ∙ taken_from l s (act.Barrier space severity) first (ap out-Act e ∙ variant.outs-Barrier space severity)

chosen_is : (l : Seen) (s : CoreStatement) (cond : Operand) (first second : List CoreStatement) (test : Bool)
    → place_of (part_of test first second ∷ later_of l.lists ∷ below_of l.lists) ≡ next (chosen test (code_of first) (code_of second) (seq (code_of (later_of l.lists)) (rest_of (below_of l.lists))))
chosen_is l s cond first second true = refl
chosen_is l s cond first second false = refl

pub if_taken : (l : Seen) (s : CoreStatement) (cond : Operand) (a b : List CoreStatement) → HasFirst s l.lists → s.act ≡ variant.If cond a b → is_able l.state ≡ true
    → member_of (record l { lists = part_of (is_true (operand_value l.params (slot_value l.slots) cond)) a b ∷ later_of l.lists ∷ below_of l.lists }) ≡ taken (member_of l)
if_taken l s cond a b first e able =
    went_able l (part_of (is_true (operand_value l.params (slot_value l.slots) cond)) a b ∷ later_of l.lists ∷ below_of l.lists) (slot_value l.slots) able
    ∙ (ap (λ p. record { entry = l.entry; params = l.params; lane = record { place = p; values = slot_value l.slots }; state = Able }) (chosen_is l s cond a b (is_true (operand_value l.params (slot_value l.slots) cond)))
    ∙ taken_from l s (act.If cond a b) first (ap out-Act e ∙ variant.outs-If cond a b))

pub return_taken : (l : Seen) (s : CoreStatement) (value : Option Operand) → HasFirst s l.lists → s.act ≡ variant.Return value → is_able l.state ≡ true
    → member_of (record l { lists = [] }) ≡ taken (member_of l)
return_taken l s value first e able =
    went_able l [] (slot_value l.slots) able ∙ taken_from l s (act.Return value) first (ap out-Act e ∙ variant.outs-Return value)

-- an act that has no case
abbrev pub passes : Act-F Act CoreStatement SwitchPart → Bool
passes (act.Set op args) = false
passes (act.Barrier space severity) = false
passes (act.If cond first second) = false
passes (act.Return value) = false
passes _ = true

passes_at : (l : Seen) (n : ℕ) (y : Act-F Act CoreStatement SwitchPart) → passes y ≡ true
    → went_at l (later_of l.lists ∷ below_of l.lists) (slot_value l.slots) Able ≡ taken_at l (First (act_before (layer y) n (code_of (later_of l.lists))) (rest_of (below_of l.lists)))
passes_at l n (act.Set op args) e = cc
passes_at l n (act.Load view) e = refl
passes_at l n (act.Declare local value) e = refl
passes_at l n (act.Store view value) e = refl
passes_at l n (act.Atomic op view args) e = refl
passes_at l n (act.Call function args) e = refl
passes_at l n (act.Barrier space severity) e = cc
passes_at l n (act.UniformLoad view severity) e = refl
passes_at l n (act.Length view) e = refl
passes_at l n (act.If cond first second) e = cc
passes_at l n (act.Switch selector parts) e = refl
passes_at l n (act.Loop body continuing leave) e = refl
passes_at l n act.Break e = refl
passes_at l n act.Continue e = refl
passes_at l n (act.Return value) e = cc

pub pass_taken : (l : Seen) (s : CoreStatement) → HasFirst s l.lists → passes (out-Act s.act) ≡ true → is_able l.state ≡ true
    → member_of (record l { lists = later_of l.lists ∷ below_of l.lists }) ≡ taken (member_of l)
pass_taken l s first e able =
    went_able l (later_of l.lists ∷ below_of l.lists) (slot_value l.slots) able ∙ (passes_at l s.number (out-Act s.act) e ∙ taken_from l s (out-Act s.act) first refl)
