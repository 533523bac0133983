-- Where all that was sent is over, an open call stands at a server; and a host without one comes to its end.
use Rattle.std.proofs.Common.{Bool, List, [], ap, arith, false, inl, inr, length, refl, subst, sym, true, ℕ}
use Rattle.std.proofs.Common.{◌&&◌, ◌+◌, ◌<◌, ◌==◌, ◌∙◌, ◌∷◌, ◌≡◌, ◌≤◌, ◌⊎◌}
use Rattle.std.proofs.lemmas.Bool.{and_from, and_parts, eq-eqb, eqb-true, false≢true}
use Rattle.std.proofs.lemmas.Option.{slice_get_cases, slice_get_within}
use Rattle.base_types.specs.declared.ids.HostId.{HostId}
use Rattle.base_types.specs.declared.ids.Node.TheVariants.{Host}
use Rattle.base_types.specs.declared.ids.ServerId.{ServerId}
use Rattle.script_lines.specs.declared.script.Line.{Line}
use Rattle.script_lines.specs.declared.script.Script.{Script}
use Rattle.message_types.specs.declared.message.Body.{Body}
use Rattle.message_types.specs.declared.message.Body.TheVariants.{Bye, Change, Fetch, GiveBack, Hello}
use Rattle.message_types.specs.declared.message.Message.{Message}
use Rattle.run_rules.specs.HostDue.{IsUnanswered}
use Rattle.run_rules.specs.HostMay.{HostMay}
use Rattle.run_rules.specs.Messages.{HasSaid, HasStopped}
use Rattle.run_rules.specs.Past.{Always, In}
use Rattle.run_rules.specs.Runs.{HostIsDone, TakesPart, firsts_of, past_of}
use Rattle.run_rules.specs.Steps.{goes_with, lines_gone, lines_of, setup, steps_of_host}
use Rattle.run_rules.specs.Tokens.{NoneOpen}
use Rattle.run_rules.specs.declared.journal.Journal.{Journal}
use Rattle.run_rules.specs.declared.step.Cause.{Cause}
use Rattle.run_rules.specs.declared.step.Cause.TheVariants.{End, Evict, Flushed, Freight}
use Rattle.run_rules.specs.declared.step.Cause.TheVariants.{Lapse, Line as LineOf, Message as Came}
use Rattle.run_rules.specs.declared.step.Cause.TheVariants.{Restart}
use Rattle.run_rules.specs.declared.step.Step.{Step}
use Rattle.run_goes_on.proofs.Arriving.{what_waits_has_come}
use Rattle.run_goes_on.proofs.Calls.{open_calls_await_answers}
use Rattle.run_goes_on.proofs.Giving.{gives_are_known}
use Rattle.run_goes_on.proofs.Positions.{own_run}
use Rattle.run_goes_on.specs.Rest.{HasToEnd, IsFree, RunRests}
use Rattle.run_goes_on.specs.Resting.{HasComeToItsEnd, HostsComeToTheirEnd, NoneAwaits, OpenCallsStandAtServers}
use Rattle.run_goes_on.specs.Resting.{StandsAtServer}
use Rattle.run_goes_on.specs.Waiting.{IsForCall, IsQuiet}

-- # An open call

module _ (script : Script) (journal : Journal) (q : IsQuiet script journal) (host : HostId)
    (live : HasStopped (steps_of_host host (past_of journal)) → ⊥) where
  stands : (server : ServerId) (n : ℕ) (b : Body) → IsForCall b
      → IsUnanswered (steps_of_host host (past_of journal)) server n b → StandsAtServer journal host
  stands server n Hello is x = record {
    server = server;
    moves = n;
    body = Hello;
    asked = tt;
    unanswered = x;
    came = what_waits_has_come script journal q host live server n Hello x;
  }
  stands server n (Fetch f) is x = record {
    server = server;
    moves = n;
    body = Fetch f;
    asked = tt;
    unanswered = x;
    came = what_waits_has_come script journal q host live server n (Fetch f) x;
  }
  stands server n (Change c) is x = record {
    server = server;
    moves = n;
    body = Change c;
    asked = tt;
    unanswered = x;
    came = what_waits_has_come script journal q host live server n (Change c) x;
  }
  stands server n (GiveBack g) is x =
      absurd (x.0.unknown (gives_are_known script journal q host live g x.0.made))
  stands server n _ is x = elim is [ ]

pub open_calls_stand_at_servers : OpenCallsStandAtServers
open_calls_stand_at_servers script journal q host call live o =
    let a = open_calls_await_answers script journal q.run (past_of journal) [] refl host call o live in
    stands script journal q host live a.server a.moves a.body a.for_call a.unanswered

-- # Whether a host has said Bye

is_bye : Body → Bool
is_bye Bye = true
is_bye _ = false

bye_of : (b : Body) → is_bye b ≡ true → b ≡ Bye
unfolding is_bye
bye_of Bye e = refl
bye_of _ e = absurd (false≢true e)

of_bye : (b : Body) → b ≡ Bye → is_bye b ≡ true
unfolding is_bye
of_bye b e = ap is_bye e

module _ (v : ServerId) where
  abbrev pub IsBye : Message → Type 0
  IsBye m = (m.server ≡ v) × (m.body ≡ Bye)

  pub one : (m : Message) → IsBye m ⊎ (IsBye m → ⊥)
  one m = go (is_bye m.body && (m.server.0 == v.0)) refl
    where
      go : (b : Bool) → (is_bye m.body && (m.server.0 == v.0)) ≡ b → IsBye m ⊎ (IsBye m → ⊥)
      go true e =
          let p = and_parts (is_bye m.body) (m.server.0 == v.0) e in
          inl (ap (λ (n : ℕ). record { 0 = n }) (eqb-true m.server.0 v.0 p.1), bye_of m.body p.0)
      go false e = inr (λ k. false≢true (sym e ∙ and_from (is_bye m.body) (m.server.0 == v.0) (of_bye m.body k.1)
          (eq-eqb m.server.0 v.0 (ap (λ (y : ServerId). y.0) k.0))))

  abbrev SomeBye : List Message → Type 0
  SomeBye ms = (m : Message) × In m ms × IsBye m

  some : (ms : List Message) → SomeBye ms ⊎ (SomeBye ms → ⊥)
  some [] = inr (λ k. (let i = k.1 in elim i [ ]))
  some (x ∷ ms) = elim (one x) [
    | inl is ↦ inl (x, inl refl, is)
    | inr isnt ↦ elim (some ms) [
      | inl k ↦ inl (k.0, inr k.1, k.2)
      | inr none ↦ inr (λ k. elim k.1 [
        | inl e ↦ isnt (subst IsBye e k.2)
        | inr i ↦ none (k.0, i, k.2)
      ])
    ]
  ]

  said : (A : List Step) → HasSaid A v Bye ⊎ (HasSaid A v Bye → ⊥)
  said [] = inr (λ k. (let o = k.2 in elim o [ ]))
  said (s ∷ A) = elim (some s.sent) [
    | inl k ↦ (let is = k.2 in inl (k.0.epoch, k.0.moves, inl (k.0, k.1, is.0, refl, refl, is.1)))
    | inr isnt ↦ elim (said A) [
      | inl k ↦ inl (k.0, k.1, inr k.2)
      | inr none ↦ inr (λ k. elim k.2 [
        | inl sends ↦ isnt (sends.0, sends.1, (sends.2, sends.5))
        | inr o ↦ none (k.0, k.1, o)
      ])
    ]
  ]

-- # No more lines have gone than there are
module _ (script : Script) (host : HostId) where
  gone_by : (A : List Step) (s : Step) → HostMay script host A s → (c : Cause) → s.cause ≡ c
      → lines_gone A ≤ length (lines_of script (Host host))
      → goes_with c + lines_gone A ≤ length (lines_of script (Host host))
  gone_by A s m (LineOf n) e le =
      let next = m.lines.next n e in
      let within : lines_gone A < length (lines_of script (Host host)) =
      slice_get_within (lines_of script (Host host)) (lines_gone A) next.0 next.1.0 in
      let goal : 1 + lines_gone A ≤ length (lines_of script (Host host)) = omega (arith, within) in goal
  gone_by A s m (Restart n) e le = absurd (m.lines.no_server.0 n e)
  gone_by A s m Flushed e le = absurd (m.lines.no_server.1 e)
  gone_by A s m (Came x) e le =
      let goal : 0 + lines_gone A ≤ length (lines_of script (Host host)) = omega (arith, le) in goal
  gone_by A s m Lapse e le =
      let goal : 0 + lines_gone A ≤ length (lines_of script (Host host)) = omega (arith, le) in goal
  gone_by A s m Evict e le =
      let goal : 0 + lines_gone A ≤ length (lines_of script (Host host)) = omega (arith, le) in goal
  gone_by A s m (Freight freight) e le =
      let goal : 0 + lines_gone A ≤ length (lines_of script (Host host)) = omega (arith, le) in goal
  gone_by A s m End e le =
      let goal : 0 + lines_gone A ≤ length (lines_of script (Host host)) = omega (arith, le) in goal

  gone_at_most : (A : List Step) → Always (HostMay script host) A
      → lines_gone A ≤ length (lines_of script (Host host))
  gone_at_most [] run = omega arith
  gone_at_most (s ∷ A) run = gone_by A s run.1 s.cause refl (gone_at_most A run.0)

-- # A host that may go on
module _ (script : Script) (journal : Journal) (q : IsQuiet script journal) (rests : RunRests script journal)
    (awaits : NoneAwaits script (past_of journal)) (host : HostId) (part : TakesPart script (Host host))
    (live : HasStopped (steps_of_host host (past_of journal)) → ⊥)
    (shut : NoneOpen (steps_of_host host (past_of journal)))
    (done : (host ≡ setup → ⊥) → HostIsDone script setup (past_of journal)) where
  abbrev A : List Step
  A = steps_of_host host (past_of journal)

  abbrev lines : List Line
  lines = lines_of script (Host host)

  free : IsFree script host A
  free = record { live = live; none_open = shut; none_left = rests.evictions host part live }

  is_gone : lines_gone A ≡ length lines
  is_gone = elim (slice_get_cases lines (lines_gone A)).1 [
    | inl next ↦ (
        let line : Line = next.0 in
        absurd (rests.lines (Host host) line part (record {
          next = (next.2, refl);
          met = λ flag is. awaits (Host host) line flag part (next.2, refl) is;
          free = λ h same. (
              let at : host ≡ h = cc in
              (subst (λ (k : HostId). IsFree script k A) at free, λ other. done (λ is. other (sym at ∙ is)))
              );
        }))
        )
    | inr past ↦ (
        let over = past.0 in
        let most = gone_at_most script host A
        (own_run script q.run.start (firsts_of journal) (past_of journal) q.run.steps host) in
        omega (arith, over, most)
        )
  ]

  none_left : HasToEnd A → ⊥
  none_left left = rests.ends host part (record { gone = is_gone; free = free; left = left })

  ended : HasComeToItsEnd script host A
  ended = record {
    gone = is_gone;
    unused = λ usage i. none_left (inl (usage, i));
    none_held = λ token held. none_left (inr (inl (token, held)));
    known = λ give made. gives_are_known script journal q host live give made;
    byes = λ server greeted. elim (said server A) [
      | inl is ↦ is
      | inr isnt ↦ absurd (none_left (inr (inr (
        λ give made. gives_are_known script journal q host live give made,
        (server, greeted, isnt),
      ))))
    ];
  }

pub hosts_come_to_their_end : HostsComeToTheirEnd
hosts_come_to_their_end script journal q rests awaits host part live shut done =
    ended script journal q rests awaits host part live shut done
