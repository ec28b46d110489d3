-- However what is left to do is done, the whole is done with what was taken so far.
use Rattle.std.proofs.Common.{◌≡◌, refl, sym, ap, subst, ◌∙◌, ℕ, suc, Bool, true, false, List, [], ◌∷◌, ◌++◌, length, map, get_or, set, replicate, reverse, append_assoc, arith}
use Rattle.std.proofs.lemmas.List.{reverse-append}
use Rattle.shade_declared.specs.declared.taking.Turn.{Turn}
use Rattle.shade_declared.specs.declared.taking.Turn.TheVariants as turn
use Rattle.shade_declared.specs.Order.{IsOrder, numbers}
use Rattle.shade_declared.proofs.Marked.{Wanted, One, Each, Marked, begun, unbegun, none, more, marked_order}
use Rattle.shade_declared.specs.Turns.{marked, turns_by, marks_after, turns_after, taken_by}

pub record Parted (named : List (List ℕ)) (marks : List Bool) (w : Wanted) (Rest : List Bool → List ℕ → Type 0) (order : List ℕ) : Type 0 where
  pub first : List ℕ
  pub between : List Bool
  pub rest : List ℕ
  pub takes : Marked named marks w first between
  pub others : Rest between rest
  pub joined : order ≡ first ++ rest

pub record Taken (d : ℕ) (Rest : List ℕ → Type 0) (order : List ℕ) : Type 0 where
  pub rest : List ℕ
  pub others : Rest rest
  pub joined : order ≡ d ∷ rest

-- some turns give these declarations in this order
abbrev pub Gives : List (List ℕ) → List Turn → List Bool → List ℕ → List Bool → Type 0
Gives named [] marks order after = (order ≡ []) × (after ≡ marks)
Gives named (turn.Begin d ∷ turns) marks order after = Parted named marks (One d) (λ between rest. Gives named turns between rest after) order
Gives named (turn.Take d ∷ turns) marks order after = Taken d (λ rest. Gives named turns marks rest after) order

module _ (named : List (List ℕ)) where
  pub split : (ds : List ℕ) (turns : List Turn) (marks : List Bool) (order : List ℕ) (after : List Bool) → Gives named (map turn.Begin ds ++ turns) marks order after
      → Parted named marks (Each ds) (λ between rest. Gives named turns between rest after) order
  split [] turns marks order after g = record { first = []; between = marks; rest = order; takes = none marks; others = g; joined = refl }
  split (d ∷ ds) turns marks order after g =
      let s : Parted named g.between (Each ds) (λ between rest. Gives named turns between rest after) g.rest = split ds turns g.between g.rest after g.others in
      record {
        first = g.first ++ s.first;
        between = s.between;
        rest = s.rest;
        takes = more marks g.between s.between d ds g.first s.first g.takes s.takes;
        others = s.others;
        joined = g.joined ∙ ap (λ x. g.first ++ x) s.joined ∙ sym (append_assoc g.first s.first s.rest);
      }

  -- a turn, and what is left behind it
  begun_gives : (b : Bool) (d : ℕ) (turns : List Turn) (marks : List Bool) (order : List ℕ) (after : List Bool) → get_or marks d true ≡ b
      → Gives named (turns_by b named d ++ turns) (marked b marks d) order after → Gives named (turn.Begin d ∷ turns) marks order after
  begun_gives true d turns marks order after is g = record { first = []; between = marks; rest = order; takes = begun marks d is; others = g; joined = refl }
  begun_gives false d turns marks order after is g =
      let s : Parted named (set marks d true) (Each (get_or named d [])) (λ between rest. Gives named (turn.Take d ∷ turns) between rest after) order =
      split (get_or named d []) (turn.Take d ∷ turns) (set marks d true) order after
      (subst (λ z. Gives named z (set marks d true) order after) (append_assoc (map turn.Begin (get_or named d [])) (turn.Take d ∷ []) turns) g) in
      record {
        first = s.first ++ d ∷ [];
        between = s.between;
        rest = s.others.rest;
        takes = unbegun marks s.between d s.first is s.takes;
        others = s.others.others;
        joined = s.joined ∙ ap (λ x. s.first ++ x) s.others.joined ∙ sym (append_assoc s.first (d ∷ []) s.others.rest);
      }

  -- what is left leads to the whole
  abbrev pub Leads : List Bool → List Turn → List Bool → List Turn → List ℕ → Type 0
  Leads first_marks all marks turns out = (order : List ℕ) (after : List Bool) → Gives named turns marks order after → Gives named all first_marks (out ++ order) after

  module _ (first_marks : List Bool) (all : List Turn) where
    pub leads_on : (t : Turn) (turns : List Turn) (marks : List Bool) (out : List ℕ) → Leads first_marks all marks (t ∷ turns) out
        → Leads first_marks all (marks_after t marks) (turns_after named t marks ++ turns) (out ++ taken_by t)
    leads_on (turn.Begin d) turns marks out leads order after g =
        subst (λ z. Gives named all first_marks z after) (sym (append_assoc out [] order)) (leads order after (begun_gives (get_or marks d true) d turns marks order after refl g))
    leads_on (turn.Take d) turns marks out leads order after g =
        subst (λ z. Gives named all first_marks z after) (sym (append_assoc out (d ∷ []) order))
        (leads (d ∷ order) after (record { rest = order; others = g; joined = refl }))

pub leads_begin : (named : List (List ℕ)) (marks : List Bool) (turns : List Turn) → Leads named marks turns marks turns []
leads_begin named marks turns order after g = g

append_none : (xs : List ℕ) → xs ++ [] ≡ xs
append_none [] = refl
append_none (x ∷ xs) = ap (λ l. x ∷ l) (append_none xs)

-- all of the turns of some declarations
pub all_taken : (named : List (List ℕ)) (first_marks : List Bool) (ds : List ℕ) (marks : List Bool) (out : List ℕ)
    → Leads named first_marks (map turn.Begin ds ++ []) marks [] out → Marked named first_marks (Each ds) out marks
all_taken named first_marks ds marks out leads =
    let s : Parted named first_marks (Each ds) (λ between rest. Gives named [] between rest marks) (out ++ []) =
    split named ds [] first_marks (out ++ []) marks (leads [] marks (refl, refl)) in
    let whole : out ≡ s.first = sym (append_none out) ∙ s.joined ∙ ap (λ x. s.first ++ x) s.others.0 ∙ append_none s.first in
    subst (λ z. Marked named first_marks (Each ds) z marks) (sym whole) (subst (λ z. Marked named first_marks (Each ds) s.first z) (sym s.others.1) s.takes)

pub order_is : (named : List (List ℕ)) (marks : List Bool) (out : List ℕ)
    → Leads named (replicate (length named) false) (map turn.Begin (numbers (length named)) ++ []) marks [] out → IsOrder named out
order_is named marks out leads = marked_order named out marks (all_taken named (replicate (length named) false) (numbers (length named)) marks out leads)

-- ---- a turn of the code, whose list of turns ends with the next

pub next_leads : (named : List (List ℕ)) (first_marks marks new_marks : List Bool) (all old rest turns : List Turn) (t : Turn) (out new_out : List ℕ)
    → old ≡ rest ++ t ∷ [] → new_marks ≡ marks_after t marks → reverse turns ≡ turns_after named t marks ++ reverse rest → new_out ≡ out ++ taken_by t
    → Leads named first_marks all marks (reverse old) out → Leads named first_marks all new_marks (reverse turns) new_out
next_leads named first_marks marks new_marks all old rest turns t out new_out is is_marks is_turns is_out leads =
    let now : Leads named first_marks all marks (t ∷ reverse rest) out = subst (λ z. Leads named first_marks all marks z out) (ap reverse is ∙ reverse-append rest (t ∷ [])) leads in
    let then : Leads named first_marks all (marks_after t marks) (turns_after named t marks ++ reverse rest) (out ++ taken_by t) =
    leads_on named first_marks all t (reverse rest) marks out now in
    subst (λ z. Leads named first_marks all z (reverse turns) new_out) (sym is_marks)
    (subst (λ z. Leads named first_marks all (marks_after t marks) z new_out) (sym is_turns)
    (subst (λ z. Leads named first_marks all (marks_after t marks) (turns_after named t marks ++ reverse rest) z) (sym is_out) then))

none_left : (turns : List Turn) → length turns ≡ 0 → turns ≡ []
none_left [] is = refl
none_left (t ∷ turns) is = absurd (omega (arith, is))

pub last_leads : (named : List (List ℕ)) (marks : List Bool) (turns : List Turn) (out : List ℕ) → length turns ≡ 0
    → Leads named (replicate (length named) false) (map turn.Begin (numbers (length named)) ++ []) marks (reverse turns) out → IsOrder named out
last_leads named marks turns out is leads =
    order_is named marks out
    (subst (λ z. Leads named (replicate (length named) false) (map turn.Begin (numbers (length named)) ++ []) marks (reverse z) out) (none_left turns is) leads)
