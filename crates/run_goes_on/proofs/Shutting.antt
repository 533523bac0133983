-- In a run that rests no call is open, but of hosts that have stopped.
use Rattle.std.proofs.Common.{[], inl, inr, refl, ℕ}
use Rattle.base_types.specs.declared.ids.HostId.{HostId}
use Rattle.base_types.specs.declared.ids.ServerId.{ServerId}
use Rattle.script_lines.specs.Sound.{IsSound}
use Rattle.script_lines.specs.declared.script.Script.{Script}
use Rattle.message_types.specs.declared.message.Body.{Body}
use Rattle.message_types.specs.declared.message.Body.TheVariants.{Change, Fetch, Hello}
use Rattle.run_rules.specs.Doings.{HasGoneAway, doings_of}
use Rattle.run_rules.specs.HostDue.{IsUnanswered}
use Rattle.run_rules.specs.Messages.{HasStopped}
use Rattle.run_rules.specs.Runs.{firsts_of, past_of}
use Rattle.run_rules.specs.Steps.{steps_of_host}
use Rattle.run_rules.specs.declared.journal.Journal.{Journal}
use Rattle.run_tokens.proofs.Law.{Whole}
use Rattle.run_goes_on.proofs.Arriving.{due_of, from_one, whole_at}
use Rattle.run_goes_on.proofs.Calling.{welcome_of_bye}
use Rattle.run_goes_on.proofs.Resting.{open_calls_stand_at_servers}
use Rattle.run_goes_on.proofs.Standing.{requests_stand_as_wants}
use Rattle.run_goes_on.proofs.Unblocking.{no_wants_wait}
use Rattle.run_goes_on.proofs.Welcoming.{greetings_are_answered}
use Rattle.run_goes_on.specs.Ended.{LocksBytes, NoCallsAreOpen, NoMoveWaits}
use Rattle.run_goes_on.specs.Rest.{RunRests}
use Rattle.run_goes_on.specs.Resting.{IsAsked}
use Rattle.run_goes_on.specs.Waiting.{IsQuiet}

module _ (script : Script) (journal : Journal) (q : IsQuiet script journal)
    (rests : RunRests script journal) (still : NoMoveWaits journal) (sound : IsSound script)
    (locks : LocksBytes script) (host : HostId) (live : HasStopped (steps_of_host host (past_of journal)) → ⊥) where
  -- a host whose greeting waits hasn't gone away there
  stays : (v : ServerId) (n : ℕ) → IsUnanswered (steps_of_host host (past_of journal)) v n Hello
      → HasGoneAway (doings_of (firsts_of journal v) v (past_of journal)) host → ⊥
  stays v n x away = elim (((all.at v).link host).away away) [
    | inl stopped ↦ live stopped
    | inr said ↦ x.1 (welcome_of_bye script q.run.start (firsts_of journal) (past_of journal) q.run.steps
        (due_of script journal q.run q.dutiful) host v said)
  ]
    where
      all : Whole (λ h. steps_of_host h (past_of journal)) (λ u. doings_of (firsts_of journal u) u (past_of journal))
      all =
          whole_at script q.run.start (firsts_of journal) (λ u. from_one _) (past_of journal) q.run.steps
          (due_of script journal q.run q.dutiful) q.over q.none_held [] (past_of journal) refl

  none_stands : (v : ServerId) (n : ℕ) (b : Body) → IsAsked b
      → IsUnanswered (steps_of_host host (past_of journal)) v n b → ⊥
  none_stands v n Hello is x = greetings_are_answered script journal q host live v n (stays v n x) x
  none_stands v n (Fetch f) is x =
      requests_stand_as_wants script journal q sound locks host live v n (Fetch f) tt x
      (λ w. no_wants_wait script journal q rests still v w.0 w.1)
  none_stands v n (Change c) is x =
      requests_stand_as_wants script journal q sound locks host live v n (Change c) tt x
      (λ w. no_wants_wait script journal q rests still v w.0 w.1)
  none_stands v n _ is x = elim is [ ]

pub no_calls_are_open : NoCallsAreOpen
no_calls_are_open script journal q rests still sound locks host live call o =
    let k = open_calls_stand_at_servers script journal q host call live o in
    none_stands script journal q rests still sound locks host live k.server k.moves k.body k.asked k.unanswered
