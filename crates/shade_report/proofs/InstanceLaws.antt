-- Reading the frames of an instance.
use Rattle.std.proofs.Common.{◌≡◌, refl, zero, suc, sym, ap, ap₂, ◌∙◌, ℕ, ◌+◌, ◌-◌, ◌<◌, ◌≤◌, List, [], ◌∷◌, ◌++◌, length, take, drop, arith, add-one, drop-cons, get_or, codes, slice_get, slice_index_or, Some}
use Rattle.std.specs.Fmt.{decimal}
use Rattle.std.specs.List.{flat_map}
use Rattle.std.proofs.lemmas.List.{append_assoc, length-append, length-drop}
use Rattle.std.proofs.Math.Seq.{take-append_seam, drop-append_seam, take-length}
use Rattle.shade_core.specs.declared.module.CoreFunction.{CoreFunction}
use Rattle.shade_core.specs.Frames.{Frame, frame_words}
use Rattle.shade_report.specs.RunReport.{OfTurn, frames_from, frames_of, release_line, release_lines}
use Rattle.shade_report.specs.Frames.{FramesAreRead}

-- counts that are all there
turns_read : (f s n : ℕ) (turns words : List ℕ) → n < length words → frames_from (OfTurn f s n turns) words ≡ record { function = f; statement = s; turns = turns ++ take (suc n) words } ∷ frames_of (drop (suc n) words)
turns_read f s n turns [] lt = absurd (omega arith)
turns_read f s zero turns (w ∷ words) lt = refl
turns_read f s (suc n) turns (w ∷ words) lt =
    turns_read f s n (turns ++ w ∷ []) words (omega arith) ∙ ap (λ ts. record { function = f; statement = s; turns = ts } ∷ frames_of (drop (suc n) words)) (append_assoc turns (w ∷ []) (take (suc n) words))

-- counts that are not all there
turns_short : (f s n : ℕ) (turns words : List ℕ) → length words ≤ n → frames_from (OfTurn f s n turns) words ≡ []
turns_short f s n turns [] le = refl
turns_short f s zero turns (w ∷ words) le = absurd (omega arith)
turns_short f s (suc n) turns (w ∷ words) le = turns_short f s n (turns ++ w ∷ []) words (omega arith)

-- a frame whose counts are all there
pub frame_read : (f s n : ℕ) (words : List ℕ) → n ≤ length words → frames_of (f ∷ s ∷ n ∷ words) ≡ record { function = f; statement = s; turns = take n words } ∷ frames_of (drop n words)
frame_read f s zero words le = refl
frame_read f s (suc n) words le = turns_read f s n [] words (omega arith)

-- a frame whose counts are not all there
pub frame_short : (f s n : ℕ) (words : List ℕ) → length words < n → frames_of (f ∷ s ∷ n ∷ words) ≡ []
frame_short f s zero words lt = absurd (omega arith)
frame_short f s (suc n) words lt = turns_short f s n [] words (omega arith)

pub few_words : (words : List ℕ) → length words < 3 → frames_of words ≡ []
few_words [] lt = refl
few_words (f ∷ []) lt = refl
few_words (f ∷ s ∷ []) lt = refl
few_words (f ∷ s ∷ n ∷ words) lt = absurd (omega arith)

-- words whose first frame lacks counts
pub words_short : (words : List ℕ) → 3 ≤ length words → length (drop 3 words) < slice_index_or words 2 0 → frames_of words ≡ []
words_short [] le lt = absurd (omega arith)
words_short (f ∷ []) le lt = absurd (omega arith)
words_short (f ∷ s ∷ []) le lt = absurd (omega arith)
words_short (f ∷ s ∷ n ∷ words) le lt = frame_short f s n words lt

behind_three : (words : List ℕ) → take (length words - 3) (drop 3 words) ≡ drop 3 words
behind_three words = ap (λ i. take i (drop 3 words)) (sym (length-drop 3 words)) ∙ take-length (drop 3 words)

frame_first : (words turns others : List ℕ) → 3 ≤ length words → slice_index_or words 2 0 ≤ length (drop 3 words) → turns ≡ take (slice_index_or words 2 0) (drop 3 words) → others ≡ drop (slice_index_or words 2 0) (drop 3 words)
    → (frames_of words ≡ record { function = slice_index_or words 0 0; statement = slice_index_or words 1 0; turns = turns } ∷ frames_of others) × (length others < length words)
frame_first [] turns others le within front back = absurd (omega arith)
frame_first (f ∷ []) turns others le within front back = absurd (omega arith)
frame_first (f ∷ s ∷ []) turns others le within front back = absurd (omega arith)
frame_first (f ∷ s ∷ n ∷ words) turns others le within front back =
    (frame_read f s n words within ∙ ap₂ (λ ts ws. record { function = f; statement = s; turns = ts } ∷ frames_of ws) (sym front) (sym back), later) where
      later : length others < length (f ∷ s ∷ n ∷ words)
      later = let is : length others ≡ length words - n = ap length back ∙ length-drop n words in omega arith

-- words that begin with a frame
pub words_read : (words turns others : List ℕ) → 3 ≤ length words → slice_index_or words 2 0 ≤ length (drop 3 words) → turns ≡ take (slice_index_or words 2 0) (take (length words - 3) (drop 3 words)) → others ≡ drop (slice_index_or words 2 0) (take (length words - 3) (drop 3 words))
    → (frames_of words ≡ record { function = slice_index_or words 0 0; statement = slice_index_or words 1 0; turns = turns } ∷ frames_of others) × (length others < length words)
words_read words turns others le within front back =
    frame_first words turns others le within (front ∙ ap (take (slice_index_or words 2 0)) (behind_three words)) (back ∙ ap (drop (slice_index_or words 2 0)) (behind_three words))

front_fits : (turns words : List ℕ) → length turns ≤ length (turns ++ words)
front_fits turns words = let total : length (turns ++ words) ≡ length turns + length words = length-append turns words in omega arith

-- the words of a frame before others
frame_front : (f : Frame) (words : List ℕ) → frames_of (frame_words f ++ words) ≡ f ∷ frames_of words
frame_front f words =
    frame_read f.function f.statement (length f.turns) (f.turns ++ words) (front_fits f.turns words)
    ∙ ap₂ (λ ts ws. record { function = f.function; statement = f.statement; turns = ts } ∷ frames_of ws) (take-append_seam f.turns words) (drop-append_seam f.turns words)

read_frames : (frames : List Frame) → frames_of (flat_map frame_words frames) ≡ frames
read_frames [] = refl
read_frames (f ∷ frames) = frame_front f (flat_map frame_words frames) ∙ ap (λ fs. f ∷ fs) (read_frames frames)

pub frames_are_read : FramesAreRead
frames_are_read = record { read = read_frames; one = λ frames others e. sym (read_frames frames) ∙ (ap frames_of e ∙ read_frames others); lengths = λ f. omega arith }

releases_from : (functions : List CoreFunction) (instances : List (List ℕ)) (k number : ℕ) (instance : List ℕ) → slice_get instances k ≡ Some instance → release_lines functions number (drop k instances) ≡ release_line functions number instance ++ release_lines functions (number + 1) (drop (suc k) instances)
releases_from functions [] k number instance is = absurd (cc)
releases_from functions (x ∷ instances) zero number instance is = let same : x ≡ instance = cc in ap (λ y. release_line functions number y ++ release_lines functions (number + 1) instances) same
releases_from functions (x ∷ instances) (suc k) number instance is = releases_from functions instances k number instance is

-- one more released instance in a report
pub one_release : (functions : List CoreFunction) (instances : List (List ℕ)) (k : ℕ) (instance : List ℕ) (old new whole : List ℕ)
    → slice_get instances k ≡ Some instance → new ≡ old ++ release_line functions k instance → old ++ release_lines functions k (drop k instances) ≡ whole
    → new ++ release_lines functions (k + 1) (drop (k + 1) instances) ≡ whole
one_release functions instances k instance old new whole is added before =
    let later : List ℕ = release_lines functions (k + 1) (drop (k + 1) instances) in
    ap (λ xs. xs ++ later) added ∙ (append_assoc old (release_line functions k instance) later ∙ (ap (λ xs. old ++ xs) (sym (releases_from functions instances k k instance is ∙ ap (λ j. release_line functions k instance ++ release_lines functions (k + 1) (drop j instances)) (sym (add-one k)))) ∙ before))

abbrev turn_text : ℕ → List ℕ
turn_text turn = codes "," ++ decimal turn

drop_turn : (turns : List ℕ) (i : ℕ) → i < length turns → drop i turns ≡ get_or turns i 0 ∷ drop (i + 1) turns
drop_turn turns i lt = drop-cons turns i 0 lt ∙ ap (λ j. get_or turns i 0 ∷ drop j turns) (sym (add-one i))

-- one more count in a frame
pub one_turn : (turns : List ℕ) (i turn : ℕ) (old new whole : List ℕ) → i < length turns → turn ≡ get_or turns i 0 → new ≡ old ++ turn_text turn
    → old ++ flat_map turn_text (drop i turns) ≡ whole → new ++ flat_map turn_text (drop (i + 1) turns) ≡ whole
one_turn turns i turn old new whole lt is added before =
    let later : List ℕ = flat_map turn_text (drop (i + 1) turns) in
    ap (λ xs. xs ++ later) (added ∙ ap (λ t. old ++ turn_text t) is) ∙ (append_assoc old (turn_text (get_or turns i 0)) later ∙ (ap (λ ts. old ++ flat_map turn_text ts) (sym (drop_turn turns i lt)) ∙ before))
