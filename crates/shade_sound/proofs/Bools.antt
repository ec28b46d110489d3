-- Sets of ways on, and tests.
use Rattle.std.proofs.Common.{◌≡◌, Bool, true, false, not, ◌&&◌, ◌||◌, refl, ap, sym, ◌∙◌}
use Rattle.shade_core.specs.declared.behaviour.Behaviour.{Behaviour}
use Rattle.shade_core.specs.Behaviour.{set_of, joined, in_turn_by, in_turn, next_only, goes_on}

pub false_true : {A : Type 0} (x : Bool) → x ≡ false → x ≡ true → A
false_true x f t = let no_one : ⊥ = cc (f, t) in absurd no_one

pub contra : (x y : Bool) → (x ≡ true → y ≡ true) → y ≡ false → x ≡ false
contra true y h e = false_true y e (h refl)
contra false y h e = refl

pub and_parts : (a b : Bool) → (a && b) ≡ true → (a ≡ true) × (b ≡ true)
and_parts true b e = (refl, e)
and_parts false b e = false_true false refl e

or_left : (a b : Bool) → a ≡ true → (a || b) ≡ true
or_left true b e = refl
or_left false b e = false_true false refl e

or_right : (a b : Bool) → b ≡ true → (a || b) ≡ true
or_right true b e = refl
or_right false b e = e

or_map : (a b c : Bool) → (a ≡ true → b ≡ true) → (a || c) ≡ true → (b || c) ≡ true
or_map true b c h e = or_left b c (h refl)
or_map false b c h e = or_right b c e

and_off : (a b : Bool) → b ≡ false → (a && b) ≡ false
and_off true b e = e
and_off false b e = refl

-- of one set, Next and Return are in another
pub record Sub (a b : Behaviour) : Type 0 where
  pub next : a.next ≡ true → b.next ≡ true
  pub returns : a.returns ≡ true → b.returns ≡ true

turn_sub_by : (n m : Bool) (a b c : Behaviour) → a.next ≡ n → (n ≡ true → m ≡ true) → Sub a b → Sub (in_turn_by n a c) (in_turn_by m b c)
turn_sub_by true true a b c e h s = record { next = λ x. x; returns = or_map a.returns b.returns c.returns s.returns }
turn_sub_by true false a b c e h s = false_true false refl (h refl)
turn_sub_by false true a b c e h s = record { next = λ x. false_true a.next e x; returns = λ x. or_left b.returns c.returns (s.returns x) }
turn_sub_by false false a b c e h s = s

pub turn_sub : (a b c : Behaviour) → Sub a b → Sub (in_turn a c) (in_turn b c)
turn_sub a b c s = turn_sub_by a.next b.next a b c refl s.next s

pub sub_left : (a b : Behaviour) → Sub a (joined a b)
sub_left a b = record { next = or_left a.next b.next; returns = or_left a.returns b.returns }

pub sub_right : (a b : Behaviour) → Sub b (joined a b)
sub_right a b = record { next = or_right a.next b.next; returns = or_right a.returns b.returns }

-- who returns in the first, returns in both in turn
turn_returns_by : (n : Bool) (a b : Behaviour) → a.returns ≡ true → (in_turn_by n a b).returns ≡ true
turn_returns_by true a b e = or_left a.returns b.returns e
turn_returns_by false a b e = e

pub turn_returns : (a b : Behaviour) → a.returns ≡ true → (in_turn a b).returns ≡ true
turn_returns a b e = turn_returns_by a.next a b e

-- who returns in the second, where the first goes on
turn_second_by : (n : Bool) (a b : Behaviour) → n ≡ true → b.returns ≡ true → (in_turn_by n a b).returns ≡ true
turn_second_by true a b e r = or_right a.returns b.returns r
turn_second_by false a b e r = false_true false refl e

pub turn_second : (a b : Behaviour) → a.next ≡ true → b.returns ≡ true → (in_turn a b).returns ≡ true
turn_second a b e r = turn_second_by a.next a b e r

-- what returns does not just go on
off : (n b c r : Bool) → (b || (c || r)) ≡ true → (n && not (b || (c || r))) ≡ false
off n b c r e = and_off n (not (b || (c || r))) (ap not e)

pub off_returns : (a : Behaviour) → a.returns ≡ true → goes_on a ≡ false
off_returns a e = off a.next a.breaks a.continues a.returns (or_right a.breaks (a.continues || a.returns) (or_right a.continues a.returns e))
