use Rattle.std.proofs.Common.{◌≡◌, sym, ap, ◌∙◌, subst, ℕ, ◌+◌, ◌-◌, ◌<◌, ◌≤◌, List, length, take, drop, arith, length-drop}
use Rattle.shade_base.specs.declared.place.Place.{Place}
use Rattle.shade_first.specs.declared.lex.Front.{Front}
use Rattle.shade_first.specs.Lines.{place_of}
use Rattle.shade_first.specs.Tokens.{front_of, size_of, HasRoom}
use Rattle.shade_first.proofs.LexLaws.{rest_of, LexesSoFar, lex_blank, lex_token, lex_end}
use Rattle.shade_first.proofs.lex.lex.Goals as goal

pub text-preserved-in-Blank : goal.text-preserved-in-Blank
text-preserved-in-Blank c =
    let text = c.args.text.now in
    let at = c.text.place.offset in
    let all = rest_of text at in
    let room : 0 < length (drop at text) = subst (λ (xs : List ℕ). 0 < length xs) all (subst (λ (f : Front). HasRoom f (take (length text - at) (drop at text))) c.in-Blank.is c.in_ok-read_front.ensures.room) in
    let further : c.past-place.result.offset ≡ at + 1 = ap (λ (p : Place). p.offset) c.past-place.ensures in
    record {
      placed = c.past-place.ensures ∙ ap (place_of text) (sym further);
      within = omega (arith, room, further, length-drop at text);
      so_far = subst (λ k. LexesSoFar text k c.text.tokens) (sym further) (lex_blank text at c.text.tokens (ap front_of (sym all) ∙ sym c.in_ok-read_front.ensures.front ∙ c.in-Blank.is) c.text.invariant.so_far);
    }

pub text-preserved : goal.text-preserved
text-preserved c =
    let text = c.args.text.now in
    let at = c.text.place.offset in
    let kind = c.in-Token.kind in
    let all = rest_of text at in
    let room : (0 < size_of kind) × (size_of kind ≤ length (drop at text)) = subst (λ (xs : List ℕ). (0 < size_of kind) × (size_of kind ≤ length xs)) all (subst (λ (f : Front). HasRoom f (take (length text - at) (drop at text))) c.in-Token.is c.in_ok-read_front.ensures.room) in
    let further : c.past-next.result.offset ≡ at + size_of kind = ap (λ (p : Place). p.offset) c.past-next.ensures ∙ ap (λ k. at + k) c.size.ensures in
    record {
      placed = c.past-next.ensures ∙ ap (place_of text) (sym (ap (λ (p : Place). p.offset) c.past-next.ensures));
      within = omega (arith, room.0, room.1, further, length-drop at text);
      so_far = subst (λ k. LexesSoFar text k c.push.new.self) (sym further) (lex_token text at c.text.tokens c.push.new.self kind c.text.place (ap front_of (sym all) ∙ sym c.in_ok-read_front.ensures.front ∙ c.in-Token.is) c.text.invariant.placed c.in_ok-push-in-Token.ensures.ok c.text.invariant.so_far);
    }

pub returns-in-Nothing-clause-lexed : goal.returns-in-Nothing-clause-lexed
returns-in-Nothing-clause-lexed c = lex_end c.args.text.now c.text.place.offset c.text.tokens (ap front_of (sym (rest_of c.args.text.now c.text.place.offset)) ∙ sym c.in_ok-read_front.ensures.front ∙ c.in-Nothing.is) c.text.invariant.so_far
