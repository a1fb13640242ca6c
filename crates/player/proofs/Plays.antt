-- The laws hold of the line of calls that a tape makes, and what is played or refused. Assumes nothing.
use Rattle.std.proofs.Common.{◌≡◌, ℕ, ◌≤◌, List, [], ◌∷◌, length, take, replicate, ℤ, pos, Ok, Err, Result, refl, ap, ◌∙◌, arith}
use lib.ListN.{length-replicate}
use Rattle.std.proofs.lemmas.List.{length-append}
use Rattle.rules.specs.Meaning.{Meaning, Lawful}
use Rattle.plans.specs.Written.{AcceptedExactly}
use Rattle.plans.specs.declared.refusal.Refusal.{Refusal}
use Rattle.plans.proofs.Chains.{Bytes}
use Rattle.plans.proofs.Written.{accepted_exactly}
use Rattle.protocol.specs.Laws.{LawsHold}
use Rattle.protocol.specs.Lines.{Event, Line, none, more}
use Rattle.protocol.specs.Machine.{Setup, State, made, step}
use Rattle.protocol.proofs.AllLaws.{laws_hold}
use Rattle.tape.specs.Tapes.{Entry, call, unreadable, entries, lines}
use Rattle.player.specs.Playing.{play_sheet, play_state, play_line, player_setup, player_start, PlayLaws, Plays}

-- entries go on with a line
played : (setup : Setup) (start s : State) (line : List Event) → Line setup start line s → (es : List Entry) → Line setup start (play_line setup s line es) (play_state setup s es)
played setup start s line so_far [] = so_far
played setup start s line so_far (call c ∷ es) = played setup start (step setup s c).left _ (more so_far c) es
played setup start s line so_far (unreadable text place ∷ es) = played setup start s line so_far es

pub play_laws : (m : Meaning) (input : List ℕ) → LawsHold m → AcceptedExactly m input → PlayLaws m input
play_laws m input hold exact plan tape e n =
    hold (player_setup m plan) (replicate 128 (pos 0)) (player_start m plan) _ _ refl
    (record { limits = ((exact plan tape).0 e).1; enough = omega (arith, length-replicate 128 (pos 0)); left = refl })
    (played (player_setup m plan) (player_start m plan) (player_start m plan) [] none (take n (entries 0 (lines tape))))

-- the same setup and start play the same
pub same_play : (st setup : Setup) (s : State) (cells : List ℤ) (es : List Entry) → st ≡ setup → s ≡ made st cells → play_sheet st s es ≡ play_sheet setup (made setup cells) es
same_play st setup s cells es same start = ap (λ from. play_sheet st from es) start ∙ ap (λ (x : Setup). play_sheet x (made x cells) es) same

-- the laws hold of what is played under a lawful rule
pub laws_of : (m : Meaning) → Lawful m → (input : List ℕ) → Bytes input → PlayLaws m input
laws_of m lawful input are = play_laws m input (laws_hold m lawful) (accepted_exactly m input are)

-- what was written is no longer than the sheet
pub plays_within : (o : Result (List ℕ) Refusal) (before after : List ℕ) (n : ℕ) → Plays o before after (Ok n) → n ≤ length after
plays_within (Ok text) before after n put = omega (arith, put.behind, ap length put.bytes ∙ length-append text _)
plays_within (Err why) before after n never = absurd never
