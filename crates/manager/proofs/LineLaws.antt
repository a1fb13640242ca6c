-- Calls make a line longer, and the laws hold of it. Assumes nothing.
use Rattle.std.proofs.Common.{◌≡◌, ℕ, ◌+◌, ◌<◌, List, [], ◌∷◌, ◌++◌, length, get_or, take, drop, set, refl, ◌∙◌, arith}
use Rattle.std.proofs.lemmas.List.{append_assoc, take_more, drop_more, length-take-le, set_at}
use Rattle.rules.specs.Meaning.{Meaning, Lawful}
use Rattle.protocol.specs.Lines.{Event, Line}
use Rattle.protocol.specs.Machine.{Setup, State, step}
use Rattle.protocol.specs.declared.words.Answer.{Answer}
use Rattle.protocol.specs.declared.words.Call.{Call}
use Rattle.protocol.proofs.AllLaws.{laws_hold}
use Rattle.manager.specs.Runs.{LeadsOn, final, answers_to, line_with}

-- a line goes on with one call, and with several
pub line_more : (setup : Setup) (start : State) (cs : List Call) (s : State) (line : List Event) → Line setup start line s → Line setup start (line_with setup s cs line) (final setup s cs)
line_more setup start [] s line to = to
line_more setup start (c ∷ cs) s line to = line_more setup start cs (step setup s c).left (record { call = c; answer = (step setup s c).answer } ∷ line) (Line.more to c)

pub leads_on_all : (m : Meaning) → Lawful m → (setup : Setup) → setup.rule ≡ m → (s after : State) (cs : List Call) → after ≡ final setup s cs → LeadsOn setup s after (line_with setup s cs)
leads_on_all m lawful setup rule s after cs left cells start line made to =
    let next = line_more setup start cs s line to in
    rw left (next, laws_hold m lawful setup cells start (final setup s cs) (line_with setup s cs line) rule made next)

pub leads_on : (m : Meaning) → Lawful m → (setup : Setup) → setup.rule ≡ m → (s after : State) (c : Call) (answer : Answer) → answer ≡ (step setup s c).answer → after ≡ (step setup s c).left → LeadsOn setup s after (λ line. record { call = c; answer = answer } ∷ line)
leads_on m lawful setup rule s after c answer said left cells start line made to = rw said (leads_on_all m lawful setup rule s after (c ∷ []) left cells start line made to)

-- ---- one call more at the end

final_push : (setup : Setup) (cs : List Call) (c : Call) (s : State) → final setup s (cs ++ (c ∷ [])) ≡ (step setup (final setup s cs) c).left
final_push setup [] c s = refl
final_push setup (b ∷ cs) c s = final_push setup cs c (step setup s b).left

answers_push : (setup : Setup) (cs : List Call) (c : Call) (s : State) → answers_to setup s (cs ++ (c ∷ [])) ≡ answers_to setup s cs ++ ((step setup (final setup s cs) c).answer ∷ [])
answers_push setup [] c s = refl
answers_push setup (b ∷ cs) c s = rw (answers_push setup cs c (step setup s b).left)

length_answers : (setup : Setup) (cs : List Call) (s : State) → length (answers_to setup s cs) ≡ length cs
length_answers setup [] s = refl
length_answers setup (c ∷ cs) s = rw (length_answers setup cs (step setup s c).left)

module _ (setup : Setup) (s now : State) (calls : List Call) (i : ℕ) (d : Call) (l : i < length calls) (so_far : now ≡ final setup s (take i calls)) where
  pub final_more : (step setup now (get_or calls i d)).left ≡ final setup s (take (i + 1) calls)
  final_more = rw (take_more calls i d l, final_push setup (take i calls) (get_or calls i d) s, so_far)

  pub answers_more : (old answers : List Answer) → i < length old → answers ≡ answers_to setup s (take i calls) ++ drop i old → (a : Answer) → a ≡ (step setup now (get_or calls i d)).answer → set answers i a ≡ answers_to setup s (take (i + 1) calls) ++ drop (i + 1) old
  answers_more old answers inside e a said =
      let front = answers_to setup s (take i calls) in
      let long : length front ≡ i = length_answers setup (take i calls) s ∙ length-take-le i calls (omega arith) in
      let put = set_at front (get_or old i a) (drop (i + 1) old) a i long in
      rw (e, drop_more old i a inside, put, take_more calls i d l, answers_push setup (take i calls) (get_or calls i d) s, append_assoc front ((step setup (final setup s (take i calls)) (get_or calls i d)).answer ∷ []) (drop (i + 1) old), said, so_far)
