-- In an ended run the calls of each host are answered.
use Rattle.run_history.proofs.UseHostLaw.{from_one}
use Rattle.run_contents.proofs.Runs.{own_run}
use Rattle.run_contents.proofs.Words.{any_in}
use Rattle.std.proofs.Common.{Bool, List, ap, append-nil, append_assoc, arith, inl, inr, length, map, refl, subst}
use Rattle.std.proofs.Common.{sym, take, take_all, true, ℕ, ◌++◌, ◌+◌, ◌<◌, ◌∙◌, ◌∷◌, ◌≡◌}
use Rattle.std.proofs.Common.{leb-true, nat_le, ◌&&◌}
use Rattle.std.proofs.lemmas.Bool.{and_parts, false≢true}
use Rattle.std.specs.List.{enumerate_from}
use Rattle.std.specs.Prelude.{[]}
use Rattle.base_types.specs.declared.ids.Node.TheVariants.{Host}
use Rattle.base_types.specs.declared.ids.ServerId.{ServerId}
use Rattle.base_types.specs.declared.limits.TheConstants.{SERVERS_MAX}
use Rattle.tree_calls.specs.Limits.{is_between, keeps_limits}
use Rattle.tree_calls.specs.declared.roster.Roster.{Roster}
use Rattle.tree_calls.specs.declared.call.Call.{Call as CallOf}
use Rattle.script_lines.specs.declared.script.Deed.{Deed}
use Rattle.script_lines.specs.declared.script.Deed.TheVariants.{Await, Call, Raise, Restart, Stop}
use Rattle.script_lines.specs.declared.script.Line.{Line}
use Rattle.run_answered.proofs.Greeting.{ended_runs_leave_none_open}
use Rattle.run_answered.proofs.Arounds.{AppliedBy, WroteBy}
use Rattle.run_answered.proofs.Stopping.{stop_gone}
use Rattle.run_due.proofs.Beginning.{ended_runs}
use Rattle.message_types.specs.Soundness.{Each, IsEnd}
use Rattle.run_rules.specs.Messages.{HasStopped}
use Rattle.run_rules.specs.Past.{Always, In, appended}
use Rattle.run_rules.specs.Runs.{StepsMeet, entries_of, firsts_of, history_of, past_of}
use Rattle.run_tokens.specs.Pasts.{history}
use Rattle.run_rules.specs.Steps.{lines_gone, lines_of, steps_of_host}
use Rattle.run_answered.proofs.Law.{all_entered, all_states}
use Rattle.run_answered.proofs.State.{State}
use Rattle.run_answered.proofs.State.State.{Waits, Whole}
use Rattle.script_lines.specs.Sound.{is_stop}
use Rattle.run_answered.specs.Answered.{CallsAreAnswered, CallsHaveEntries, HasEntries}
use Rattle.run_answered.specs.Entries.{entered}
use Rattle.run_due.specs.Begun.{NumberedFrom, begun_by, calls_of}
use Rattle.run_rules.specs.declared.step.Asked.{Asked}
use Rattle.run_rules.specs.declared.step.Step.{Step}

is_stop_stops : (d : Deed) → is_stop d ≡ true → d ≡ Stop
is_stop_stops Stop e = refl
is_stop_stops (Call call) e = absurd (false≢true e)
is_stop_stops (Raise flag) e = absurd (false≢true e)
is_stop_stops (Await flag) e = absurd (false≢true e)
is_stop_stops Restart e = absurd (false≢true e)

a_server : (xs : List ℕ) → 0 < length xs
    → (v : ServerId) × In v (map (λ (at, capacity). let server : ServerId = record { 0 = at + 1 } in server)
    (enumerate_from 0 xs))
a_server [] lt = absurd (let k : 0 < 0 = lt in omega (arith, k))
a_server (x ∷ xs) lt = (record { 0 = 0 + 1 }, inl refl)

-- a roster within the limits has a server
leading : (a b c d e : Bool) → (a && b && c && d && e) ≡ true → a ≡ true
leading a b c d e q =
    (and_parts a b (and_parts (a && b) c (and_parts (a && b && c) d (and_parts (a && b && c && d) e q).0).0).0).0

has_servers : (roster : Roster) → keeps_limits roster ≡ true → 0 < length roster.capacity
has_servers roster q =
    let k = leading (is_between 1 SERVERS_MAX (length roster.capacity)) _ _ _ _ q in
    let l = (and_parts (nat_le 1 (length roster.capacity)) (nat_le (length roster.capacity) SERVERS_MAX) k).0 in
    leb-true 1 (length roster.capacity) l

-- the history of a journal
history_on : (xs past : List Step) → history (appended xs past) ≡ history past ++ history_of xs
history_on [] past = sym (append-nil (history past))
history_on (x ∷ xs) past =
    history_on xs (x ∷ past) ∙ append_assoc (history past) (entries_of x) (history_of xs)

-- what is so of a run is so of its earlier part
always_before : (P : List Step → Step → Type 0) (more past : List Step) → Always P (appended more past) → Always P past
always_before P [] past all = all
always_before P (x ∷ more) past all = (always_before P more (x ∷ past) all).0

pub calls_have_entries : CallsHaveEntries
calls_have_entries script journal run past more e host = go states
  where
    states : State (steps_of_host host past) host (WroteBy (firsts_of journal) past)
        (AppliedBy (firsts_of journal) past host)
        (entered host (history past))
    states =
        all_states script run.start (firsts_of journal) (λ v. from_one _) host past
        (always_before _ more past (subst (StepsMeet script run.start (firsts_of journal)) (sym e) run.steps))

    go : State (steps_of_host host past) host (WroteBy (firsts_of journal) past)
        (AppliedBy (firsts_of journal) past host)
        (entered host (history past)) → HasEntries past host
    go (Whole q reasons) = inl q
    go (Waits x o q none_written none_given) = inr (x, o, q)

pub calls_are_answered : CallsAreAnswered
calls_are_answered script journal run ended host part = record {
  numbers = subst (NumberedFrom 1) (sym entries) begun.2;
  implied = begun.0;
  calls = ap (map (λ (a : Asked). a.call)) entries ∙ begun.1;
  ends = begun.3;
  stopped = λ e. (
      let line = any_in (λ (line : Line). is_stop line.deed) (lines_of script (Host host)) e in
      let v = a_server script.roster.capacity
      (subst (λ (r : Roster). 0 < length r.capacity) run.roster
      (has_servers run.start.roster run.valid.well_formed.roster)) in
      begun.4 (stop_gone script host (steps_of_host host (past_of journal))
      (own_run script run.start (firsts_of journal) (past_of journal) run.steps host) line.0
      (subst (λ (xs : List Line). In line.0 xs) (sym all_gone) line.1) (is_stop_stops line.0.deed line.2) v.0 v.1)
      );
}
  where
    begun : (implied : List CallOf)
        × (map (λ (a : Asked). a.call) (begun_by (steps_of_host host (past_of journal)))
        ≡ calls_of (lines_of script (Host host)) ++ implied)
        × NumberedFrom 1 (begun_by (steps_of_host host (past_of journal))) × Each IsEnd implied
        × (HasStopped (steps_of_host host (past_of journal)) → implied ≡ [])
    begun = ended_runs script journal host run ended part

    all_gone : take (lines_gone (steps_of_host host (past_of journal))) (lines_of script (Host host))
        ≡ lines_of script (Host host)
    all_gone =
        ap (λ n. take n (lines_of script (Host host))) (ended.hosts host part).0
        ∙ take_all (length (lines_of script (Host host))) (lines_of script (Host host)) (omega arith)

    entries : entered host (history_of journal.steps) ≡ begun_by (steps_of_host host (past_of journal))
    entries =
        ap (entered host) (sym (history_on journal.steps []))
        ∙ all_entered script run.start (firsts_of journal) (λ v. from_one _) host (past_of journal) run.steps
        (ended_runs_leave_none_open script journal run ended host part)
