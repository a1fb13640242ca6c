-- Sheet lines one after the other, from the front of the sheet on. Assumes nothing.
use Rattle.std.proofs.Common.{◌≡◌, ℕ, ◌+◌, ◌*◌, ◌≤◌, List, [], ◌∷◌, ◌++◌, length, take, drop, Option, sym, refl, ap, ◌∙◌, arith}
use Rattle.std.proofs.lemmas.List.{append-nil, append_assoc, take-append-drop, drop-drop, length-append, length-take-le, take_at, drop_at}
use Rattle.protocol.specs.Machine.{Setup, State}
use Rattle.protocol.specs.Tasks.{running}
use Rattle.protocol.specs.declared.words.Answer.{Answer}
use Rattle.tape.specs.Tapes.{Entry}
use Rattle.sheets.specs.Sheets.{Put, sheet_line}
use Rattle.player.specs.Playing.{outcome, play_sheet}

-- the front of the sheet is what was played so far, the rest of it is as it was, and there is room for what is to come
pub record Filling (setup : Setup) (before sheet : List ℕ) (at : ℕ) (s : State) (left : List Entry) (all : List ℕ) : Type 0 where
  pub played : take at sheet ++ play_sheet setup s left ≡ all
  pub stays : drop at sheet ≡ drop at before
  pub room : at + 32 * length left ≤ length sheet

pub fill_none : (setup : Setup) (before : List ℕ) (s : State) (es : List Entry) → 32 * length es ≤ length before → Filling setup before before 0 s es (play_sheet setup s es)
fill_none setup before s es room = record { played = refl; stays = refl; room = omega arith }

-- what a text behind the front leaves
take_put : (before text after : List ℕ) (at end : ℕ) → at + length text ≤ length before → Put before at text after end → take end after ≡ take at before ++ text
take_put before text after at end room put =
    let front = length-append (take at before) text in
    ap (take end) (put.bytes ∙ sym (append_assoc (take at before) text _)) ∙ take_at (take at before ++ text) _ end (omega (arith, front, length-take-le at before (omega arith), put.behind))

drop_put : (before text after : List ℕ) (at end : ℕ) → at + length text ≤ length before → Put before at text after end → drop end after ≡ drop end before
drop_put before text after at end room put =
    let front = length-append (take at before) text in
    ap (drop end) (put.bytes ∙ sym (append_assoc (take at before) text _)) ∙ drop_at (take at before ++ text) _ end (omega (arith, front, length-take-le at before (omega arith), put.behind)) ∙ ap (λ n. drop n before) (sym put.behind)

-- one entry more
pub fill_more : (setup : Setup) (before sheet after : List ℕ) (at end : ℕ) (s t : State) (e : Entry) (left : List Entry) (all : List ℕ) (answer : Answer) (runs : Option ℕ) →
    Filling setup before sheet at s (e ∷ left) all → answer ≡ (outcome setup s e).answer → t ≡ (outcome setup s e).left → runs ≡ running t.tasks →
    length (sheet_line answer runs) ≤ 32 → Put sheet at (sheet_line answer runs) after end → length after ≡ length sheet → Filling setup before after end t left all
fill_more setup before sheet after at end s t e left all answer runs so_far answered leaves run short put same =
    let line = sheet_line answer runs in
    let o = outcome setup s e in
    let fits : at + length line ≤ length sheet = omega (arith, so_far.room) in
    let line_is : line ≡ sheet_line o.answer (running o.left.tasks) = ap (λ a. sheet_line a runs) answered ∙ ap (λ r. sheet_line o.answer r) (run ∙ ap (λ (x : State). running x.tasks) leaves) in
    record {
      played =
          ap (λ front. front ++ play_sheet setup t left) (take_put sheet line after at end fits put)
          ∙ append_assoc (take at sheet) line (play_sheet setup t left)
          ∙ ap (λ more. take at sheet ++ (line ++ play_sheet setup more left)) leaves
          ∙ ap (λ text. take at sheet ++ (text ++ play_sheet setup o.left left)) line_is
          ∙ so_far.played;
      stays =
          drop_put sheet line after at end fits put ∙ ap (λ n. drop n sheet) put.behind ∙ sym (drop-drop (length line) at sheet)
          ∙ ap (drop (length line)) so_far.stays ∙ drop-drop (length line) at before ∙ ap (λ n. drop n before) (sym put.behind);
      room = omega (arith, so_far.room, put.behind);
    }

-- nothing is to come
pub fill_all : (setup : Setup) (before sheet : List ℕ) (at : ℕ) (s : State) (all : List ℕ) → Filling setup before sheet at s [] all → Put before 0 all sheet at
fill_all setup before sheet at s all done =
    let front : take at sheet ≡ all = sym (append-nil (take at sheet)) ∙ done.played in
    let size : length all ≡ at = ap length (sym front) ∙ length-take-le at sheet (omega (arith, done.room)) in
    record {
      bytes = sym (take-append-drop at sheet) ∙ ap (λ text. text ++ drop at sheet) front ∙ ap (λ rest. all ++ rest) (done.stays ∙ ap (λ n. drop n before) (omega (arith, size)));
      behind = omega (arith, size);
    }
