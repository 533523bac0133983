-- What is due is done.
use Rattle.std.proofs.Common.{[], ℕ, ◌≡◌, ◌∙◌, ◌∷◌, ◌⊎◌, List, ap, map, subst, sym, refl, inl, inr, length, suc, arith}
use Rattle.std.specs.Prelude.{◌≢◌}
use Rattle.base_types.specs.declared.ids.Node.TheVariants.{Host}
use Rattle.message_types.specs.declared.message.Body.TheVariants.{Fetch}
use Rattle.run_rules.specs.Past.{In, appended}
use Rattle.run_rules.specs.Steps.{lines_gone, lines_of, steps_of_host}
use Rattle.run_rules.specs.declared.applied.Leave.{Leave}
use Rattle.run_due.specs.HostsDo.{HostsDo, LeftAlone, AsksEarly, GreetsAgain, LapsesMore, LapsesBusily, FetchesAgain, KeepsGive}
use Rattle.run_due.specs.HostsDo.{ClaimsIdly, HoldsBack, FreesNothing, EvictsOther, DropsOther, EndsPartly, SaysByeHolding, SaysByeAgain, DoesServersWork, SyncsNothing, EvictsEarly}
use Rattle.run_due.specs.HostsDo.{GivesKnown, ListsTwice}
use Rattle.run_due.specs.ServersDo.{ServersDo, LeavesUndecided, LeavesUngranted, RestartsByOther}
use Rattle.run_due.specs.ServersDo.{ForgetsRequest, LeavesBlocked, RevokesTwice, LeavesClaim, WelcomesOld, TellsStranger, TellsAgain, GivesUnasked, WelcomesUnasked, EndsUnasked, SettlesUnasked, LineDoes}
use Rattle.run_due.specs.Dutiful.{SaysTwice}
use Rattle.base_types.specs.declared.ids.HostId.{HostId}
use Rattle.message_types.specs.declared.message.Body.TheVariants.{Hello}
use Rattle.message_types.specs.declared.message.Message.{Message}
use Rattle.run_rules.specs.Doings.{Doing, HasReclaimed, epoch}
use Rattle.run_rules.specs.Past.{EachOnce}
use Rattle.run_rules.specs.ServerDue.{HearsOfRestart}
use Rattle.run_rules.specs.declared.step.Cause.TheVariants.{Lapse, Message as Came, Restart}
use Rattle.run_rules.specs.declared.step.Step.{Step}
use Rattle.run_due.specs.RunsGoOn.{RunsGoOn}
use Rattle.run_due.proofs.Steps.{lapse_came, never, never_at, never_from, never_in, said_once, untold}

two_left : (xs ys : List Leave) (l k x : Leave) → xs ≡ x ∷ [] → xs ≡ l ∷ k ∷ ys → ⊥
two_left xs ys l k x e q =
    let r : x ∷ [] ≡ l ∷ k ∷ ys = sym e ∙ q in
    let n : 1 ≡ suc (suc (length ys)) = ap length r in
    omega (arith, n)

came_once : (s : Step) (m k : Message) → s.cause ≡ Came m → s.cause ≡ Came k → k ≡ m
came_once s m k c d = let p : Came k ≡ Came m = sym d ∙ c in cc

restart_came : (s : Step) (m : Message) (line : ℕ) → s.cause ≡ Came m → s.cause ≡ Restart line → ⊥
restart_came s m line c d = let p : Came m ≡ Restart line = sym c ∙ d in cc

lapse_restart : (s : Step) (line : ℕ) → s.cause ≡ Lapse → s.cause ≡ Restart line → ⊥
lapse_restart s line c d = let p : Lapse ≡ Restart line = sym c ∙ d in cc

-- a host hears of a restart for no message of the present epoch but a Hello, and at no lapse once it has reclaimed
tells_again : (past : List Doing) (s : Step) (h : HostId) → HearsOfRestart past s h
    → ((m : Message) × (s.cause ≡ Came m) × (m.epoch ≡ epoch past) × (m.body ≢ Hello))
    ⊎ ((s.cause ≡ Lapse) × HasReclaimed past h) → ⊥
tells_again past s h (inl (x, old)) (inl (m, c, at, other)) =
    other (ap (λ (k : Message). k.body) (sym (came_once s m x.0 c x.1)) ∙ x.3)
tells_again past s h (inl (x, old)) (inr (l, _)) = lapse_came s x.0 l x.1
tells_again past s h (inr (inl x)) (inl (m, c, at, other)) =
    x.3 (ap (λ (k : Message). k.epoch) (came_once s m x.0 c x.1) ∙ at)
tells_again past s h (inr (inl x)) (inr (l, _)) = lapse_came s x.0 l x.1
tells_again past s h (inr (inr (inl x))) (inl (m, c, at, other)) = restart_came s m x.0 c x.1
tells_again past s h (inr (inr (inl x))) (inr (l, _)) = lapse_restart s x.0 l x.1
tells_again past s h (inr (inr (inr x))) (inl (m, c, at, other)) = lapse_came s m x.0 c
tells_again past s h (inr (inr (inr x))) (inr (l, reclaimed)) = x.1 reclaimed

pub hosts_do : HostsDo
hosts_do = record {
  left_alone = never LeftAlone (λ script host past s may due d. elim (may.asks.asks d.call d.open_is d.live) [
    | inl x ↦ d.none_asked x.0 x.1 x.2
    | inr (inl x) ↦ d.none_changed x.0 x.1 x.2 x.3
    | inr (inr (inl (inl x))) ↦ x.2.3 (d.none_given x.2.0 x.2.1)
    | inr (inr (inl (inr x))) ↦ x.1.2 (d.none_given x.1.0 x.1.1)
    | inr (inr (inr x)) ↦ x.3 (d.welcome x.0 x.2)
  ]);
  early = never AsksEarly (λ script host past s may due d. elim d.4 [
    | inl f ↦ d.3 (may.asks.fetches_welcome d.0 d.1 d.2 f.0 f.1)
    | inr c ↦ d.3 (may.asks.changes_welcome d.0 d.1 d.2 c.0 c.1)
  ]);
  greets = never GreetsAgain (λ script host past s may due d.
      let g = due.calls.greets d.0 d.1 d.2 d.3 in
      elim d.4 [
        | inl x ↦ elim g.1 [ inl l ↦ x.0 l.0 | inr l ↦ l.0 x.1 ]
        | inr (inl w) ↦ g.0 w
        | inr (inr x) ↦ elim g.1 [ inl l ↦ x.0 l.0 | inr l ↦ x.1 l.1.0 l.1.1 ]
      ]);
  twice = never SaysTwice (λ script host past s may due d. said_once past s due.once d);
  lapse_more = never LapsesMore (λ script host past s may due d. elim (due.repeats.lapse_only d.0 d.1 d.2 d.3 d.4 d.5) [
    | inl owed ↦ d.6 owed
    | inr x ↦ d.7 x.1.0 x.1.1
  ]);
  lapse_busy = never LapsesBusily (λ script host past s may due d.
      let q = due.repeats.lapse_quiet d.0 in
      elim d.1 [ inl a ↦ subst (In a.0) q.1 a.1 | inr g ↦ subst (In g.0) q.4 g.1 ]);
  fetches_again = never FetchesAgain (λ script host past s may due d. elim (due.repeats.again_only d.0 d.1 d.2 (Fetch d.3) d.4 d.5) [
    | inl l ↦ d.6 l
    | inr x ↦ d.7 x.0 x.1
  ]);
  keeps_give = never KeepsGive (λ script host past s may due d. d.5 (due.repeats.restarted_gives d.0 d.1 d.2 d.3 d.4));
  claims_idly = never ClaimsIdly (λ script host past s may due d. elim (may.resends.claims_only d.0 d.1) [
    | inl x ↦ d.2 x
    | inr x ↦ d.3 x.0
  ]);
  holds_back = never HoldsBack (λ script host past s may due d.
      let x = (due.revokes d.r d.t.id d.about d.named).gives d.t d.held refl d.dirty in subst (In x.0) d.none x.1);
  syncs = never_in SyncsNothing (λ script host past s may due d.
      let x = due.calls.syncs d.k d.place d.fid d.t d.turn (d.finds due.stance) d.at d.file d.dirty in
      subst (In x.0) d.none x.1);
  frees = never FreesNothing (λ script host past s may due d.
      let x = due.calls.frees d.0 d.1 d.2 d.3 in subst (In x.0) d.4 x.1);
  evicts = never EvictsOther (λ script host past s may due d.
      let x = (due.leaves.evicts d.0).1 in
      elim d.1 [
        | inl none ↦ subst (In x.0) (sym x.1 ∙ none) (inl refl)
        | inr two ↦ two_left s.dropped two.2 two.0 two.1 x.0 x.1 two.3
      ]);
  evicts_early = never_in EvictsEarly (λ script host past s may due d. d.1 (due.leaves.evicts d.0).0);
  drops = never DropsOther (λ script host past s may due d. d.2 (due.leaves.held d.0 d.1));
  ends_partly = never EndsPartly (λ script host past s may due d.
      let x = due.leaves.ends_all d.0 d.1 d.2 d.3 in
      elim d.4 [ inl t ↦ t.2 (x.1 t.0 t.1) | inr used ↦ used x.0 ]);
  bye = never SaysByeHolding (λ script host past s may due d.
      let b = may.ends.bye d.0 d.1 in elim d.2 [ inl t ↦ b.1 t.0 t.1 | inr none ↦ none b.0 ]);
  bye_again = never SaysByeAgain (λ script host past s may due d. due.repeats.bye_again d.0 d.1 d.2 d.3);
  gives_known = never GivesKnown (λ script host past s may due d.
      (due.repeats.gives_only d.0 d.1 d.2 d.3 d.4).unknown d.5);
  lists = never ListsTwice (λ script host past s may due d. elim d [
    | inl x ↦ (subst EachOnce x.2 due.once_taken).0 (inl refl)
    | inr (inl x) ↦ (subst (λ (ls : List Leave). EachOnce (map (λ l. l.token) ls)) x.3 due.once_dropped).0 (inl x.4)
    | inr (inr x) ↦ (subst EachOnce x.2 due.once_made).0 (inl refl)
  ]);
  servers_work = never DoesServersWork (λ script host past s may due d. elim d [
    | inl x ↦ may.lines.no_server.0 x.0 x.1
    | inr x ↦ may.lines.no_server.1 x
  ]);
}

pub servers_do : ServersDo
servers_do = record {
  news = never_at ForgetsRequest (λ script start v steps past s may due d.
      let x = due.decided.news d.0 d.1 d.2 d.3 in subst (In _) d.4 x.1);
  undecided = never_from LeavesUndecided (λ script start v steps past s may due d. elim d.due [
    | inl (ready, inl x) ↦ due.decided.refused d.w d.c x.0 d.waits d.request x.1 (inl ready)
    | inl (ready, inr x) ↦ due.decided.effects d.w d.c d.waits d.request x.0 x.1 ready
    | inr x ↦ due.decided.pinned d.w d.c d.waits d.request x.1 x.2 x.0
  ]);
  ungranted = never_from LeavesUngranted (λ script start v steps past s may due d. elim d.due [
    | inl (can, inl is_it) ↦ due.sent.uses d.w d.c d.waits d.request is_it d.accepted can
    | inl (can, inr enter) ↦ due.sent.enters d.w d.c d.waits d.request enter d.accepted can
    | inr x ↦ due.sent.others d.w d.c d.waits d.request x.0 d.accepted x.2 x.1
  ]);
  blocked = never_at LeavesBlocked (λ script start v steps past s may due d. d.2 (due.sent.revokes d.0 d.1));
  revokes_twice = never_at RevokesTwice (λ script start v steps past s may due d.
      d.8 (due.sent.revokes_once d.0 d.1 d.2 d.3 d.4 d.5 d.6 d.7));
  claims = never_at LeavesClaim (λ script start v steps past s may due d.
      let x = due.answers.claim_now d.h d.n d.claim d.took d.first d.live d.whole in
      elim d.none [ inl none ↦ subst (In x.0.0) none x.0.1 | inr none ↦ untold s _ _ none x.1.1 ]);
  welcomes_old = never_at WelcomesOld (λ script start v steps past s may due d. d.4 (due.answers.hello_old d.0 d.1 d.2 d.3));
  twice = never_at (λ v past s. SaysTwice past s) (λ script start v steps past s may due d. said_once past s due.sent.once d);
  restarted = never_at TellsStranger (λ script start v steps past s may due d. d.2 (due.answers.restarted_only d.0 d.1).0);
  restarted_again = never_at TellsAgain (λ script start v steps past s may due d.
      tells_again past s d.0 (due.answers.restarted_only d.0 d.1).1 d.2);
  gones = never_at GivesUnasked (λ script start v steps past s may due d.
      let x = due.answers.gone_only d.0 d.1 d.2 in lapse_came s x.2.0.0 d.3 x.2.0.1);
  reclaimed = never_at WelcomesUnasked (λ script start v steps past s may due d. elim (may.answers.reclaimed_only d.0 d.1 d.2) [
    | inl x ↦ lapse_came s x.0.0 d.3 x.0.1
    | inr (inl x) ↦ subst (In x.0) d.4 x.1
    | inr (inr x) ↦ lapse_came s x.2.0.0 d.3 x.2.0.1
  ]);
  byes = never_at EndsUnasked (λ script start v steps past s may due d.
      let x = (may.answers.bye_only d.0 d.1).0 in lapse_came s x.0 d.2 x.1);
  dones = never_at SettlesUnasked (λ script start v steps past s may due d. elim (due.sent.dones_only d.0 d.1 d.2).2 [
    | inl x ↦ lapse_came s x.1.0.0 d.3 x.1.0.1
    | inr x ↦ d.4 x.0 x.1
  ]);
  lines = never_at LineDoes (λ script start v steps past s may due d. d.2 (due.lines.bare d.0 d.1).0);
  restarts = never_from RestartsByOther (λ script start v steps past s may due d.
      let x = due.lines.restarts d.0 d.1 in d.2 x.0 x.1 x.2);
}

pub runs_go_on : RunsGoOn
runs_go_on = record {
  host = λ script journal host part left ended. left (ended.hosts host part).0;
  silent = λ script journal host part none some ended.
      let gone = (ended.hosts host part).0 in
      let zero_gone : 0 ≡ length (lines_of script (Host host)) =
      subst (λ xs. lines_gone (steps_of_host host (appended xs [])) ≡ length (lines_of script (Host host))) none gone in
      omega (arith, zero_gone, some);
  server = λ script journal server part left ended. left (ended.lines server part);
  known = λ script journal server host part listed stays ended. stays (ended.servers server host part listed);
  awaits = λ script past s n line flag f c l d none. none (f.awaits n line flag c l d);
  setup = λ script past s h n f node other c none. none (f.setup_first h n node other c);
}
