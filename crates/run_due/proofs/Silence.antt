-- Where something is due, something is said.
use Rattle.std.proofs.Common.{subst, inl, inr}
use Rattle.run_rules.specs.Doings.{IsLive}
use Rattle.run_rules.specs.Past.{In}
use Rattle.run_due.specs.Due.{HostsSpeak, ServersSpeak, AskedForIdle, AskedForUsed, AskedForGiven, LapsesOwing}
use Rattle.run_due.specs.Due.{LapsesClaimed, HearsRestart, ReclaimedOwing, EndsIdly}
use Rattle.run_due.specs.Due.{HearsHello, HearsBye, HearsLate, RestartsKnown, LapsesKnown, TakesGive, WritesDown, ComesAgain, FetchWaits, LapsesOwed, ClaimsAgain}
use Rattle.run_due.proofs.Steps.{silent, silent_at, unsent, untold}

pub hosts_speak : HostsSpeak
hosts_speak = record {
  idle = silent AskedForIdle (λ script host past s due none d.
      let x = (due.revokes d.r d.i d.about d.named).returns d.fid d.answers d.unused d.clean d.known in
      unsent s _ _ _ _ none x.4);
  used = silent AskedForUsed (λ script host past s due none d.
      let x = (due.revokes d.r d.i d.about d.named).keeps d.held d.used in unsent s _ _ _ _ none x.4);
  given = silent AskedForGiven (λ script host past s due none d.
      let x = (due.revokes d.r d.i d.about d.named).gives_again d.g d.outstanding d.given in
      unsent s _ _ _ _ none x.1);
  lapse = silent LapsesOwing (λ script host past s due none d.
      unsent s _ _ _ _ none (due.repeats.lapse_all d.v d.n d.b d.lapse d.owed));
  claim = silent LapsesClaimed (λ script host past s due none d.
      let x = due.repeats.lapse_claims d.0 d.1 d.2 in unsent s _ _ _ _ none x.3);
  restarted = silent HearsRestart (λ script host past s due none d.
      let x = due.repeats.restarted_claims d.0 d.1 in unsent s _ _ _ _ none x.3);
  reclaimed = silent ReclaimedOwing (λ script host past s due none d.
      unsent s _ _ _ _ none (due.repeats.reclaimed_all d.v d.n d.answer d.b d.comes d.other d.owed d.owing));
  ends = silent EndsIdly (λ script host past s due none d. elim (due.leaves.ends d.ends) [
    | inl x ↦ d.begins x.0 x.1 x.2
    | inr (inl x) ↦ subst (In x.0) d.drops x.1
    | inr (inr x) ↦ unsent s _ _ _ _ none x.1.2
  ]);
}

pub servers_speak : ServersSpeak
servers_speak = record {
  hello = silent_at HearsHello (λ script start v steps past s due none d.
      let no_live : IsLive past d.0 → ⊥ =
      λ live. untold s _ _ none (due.answers.hello_old d.0 d.1 live
      (λ listed. untold s _ _ none (due.answers.hello d.0 d.1 d.2 (inr listed)))) in
      untold s _ _ none (due.answers.hello d.0 d.1 d.2 (inl no_live)));
  bye = silent_at HearsBye (λ script start v steps past s due none d.
      let t = d.2.0 in
      untold s _ _ none (due.answers.bye d.0 (t.0, t.1, t.2, t.5) d.3 (inr (d.1, d.2))));
  late = silent_at HearsLate (λ script start v steps past s due none d.
      untold s _ _ none (due.answers.late d.0 d.1 d.2 d.3 d.4 d.5 d.6 d.7));
  restart = silent_at RestartsKnown (λ script start v steps past s due none d.
      untold s _ _ none (due.answers.restarted d.1 d.0 d.2 d.3));
  lapse = silent_at LapsesKnown (λ script start v steps past s due none d.
      untold s _ _ none (due.answers.restarted_again d.0 d.1 d.2 d.3));
  give = silent_at TakesGive (λ script start v steps past s due none d.
      untold s _ _ none (due.answers.gone d.0 d.1 d.2 d.3 d.4));
  written = silent_at WritesDown (λ script start v steps past s due none d.
      untold s _ _ none (due.sent.written d.0 d.1).1);
  again = silent_at ComesAgain (λ script start v steps past s due none d.
      untold s _ _ none
      (due.sent.repeats d.h d.n d.c d.d d.taken d.here d.fileset d.number d.last (inr (d.m, d.answered))).1);
  fetch = silent_at FetchWaits (λ script start v steps past s due none d. due.sent.grants d.0 d.1 d.2 d.3 d.4);
  owed = silent_at LapsesOwed (λ script start v steps past s due none d.
      untold s _ _ none (let x = due.sent.revokes_again d.0 d.1 d.2 in x.1));
  claim = silent_at ClaimsAgain (λ script start v steps past s due none d.
      let x = due.answers.claim_again d.0 d.1 d.2 d.3 d.4 in untold s _ _ none x.3);
}
