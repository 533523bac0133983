-- A host rests where its open call lacks a token, asks a server, or was given back for.
use Rattle.base_types.specs.Outcomes.{either}
use Rattle.base_types.specs.declared.ids.Fid.{Fid}
use Rattle.base_types.specs.declared.ids.FilesetId.{FilesetId}
use Rattle.base_types.specs.declared.ids.HostId.{HostId}
use Rattle.base_types.specs.declared.user.User.{User}
use Rattle.host_tables.specs.Resting.{AskRests, GiveRests, IdleRests, LackRests}
use Rattle.host_tables.specs.Stands.{IsAtRest, IsLack, IsWaiting, needs_from, verdict_from}
use Rattle.host_tables.specs.Stands.IsWaiting.{ForGone}
use Rattle.host_tables.specs.Tables.{content, held_of, home_of, own_of}
use Rattle.host_tables.specs.declared.tables.Tables.{Tables}
use Rattle.need_host.proofs.Looking.{lacks_are_first, outcome_on}
use Rattle.need_host.specs.Calls.{Own, call_look, from_root, judged, refuse, reply_now, sync_look, sync_verdict}
use Rattle.need_host.specs.Calls.Verdict.{Asks, Frees, Gives, Replies}
use Rattle.need_host.specs.Looks.{CoverAll, IsCovered, View, needs_of, outcome}
use Rattle.need_host.specs.Looks.Look.{Ends}
use Rattle.need_host.specs.Questions.{Question}
use Rattle.need_host.specs.Walks.{file_look, root_of}
use Rattle.run_rules.specs.Tokens.{end_call, end_of}
use Rattle.run_rules.specs.declared.step.Asked.{Asked}
use Rattle.run_rules.specs.declared.step.Labelled.{Labelled}
use Rattle.run_rules.specs.declared.step.Step.{Step}
use Rattle.std.proofs.Common.{Bool, Err, List, None, Ok, Option, Result, Some, [], ap, false, if◌then◌else◌, not}
use Rattle.std.proofs.Common.{refl, subst, sym, true, ℕ, ◌∙◌, ◌≡◌}
use Rattle.token_types.specs.declared.token.Kind.{Kind}
use Rattle.token_types.specs.declared.token.Kind.TheVariants.{Bytes, Lock as LockKind, Opening, Status as StatusKind}
use Rattle.token_types.specs.declared.token.Need.{Need}
use Rattle.tree_answers.specs.Locks.{has_lock}
use Rattle.tree_answers.specs.Opens.{has_open}
use Rattle.tree_calls.specs.declared.call.Call.{Call}
use Rattle.tree_calls.specs.declared.call.Call.TheVariants.{CloseFile, Sync, Unlock}
use Rattle.tree_calls.specs.declared.place.Place.{Place as NamedPlace}
use Rattle.tree_calls.specs.declared.reply.Refusal.{Refusal}
use Rattle.tree_calls.specs.declared.reply.Refusal.TheVariants.{NotLocked, NotOpened}
use Rattle.tree_calls.specs.declared.reply.Reply.TheVariants.{Ok as Fine, Refused}
use Rattle.tree_laws.specs.Parts.{Nature}
use Rattle.host_tables.proofs.Ending as ending

same_call : (c d : Asked) → Some c ≡ Some d → c ≡ d
same_call c d e = cc

module _ (m : Tables) (past : List Step) (c : Asked) (need : Need) (open_is : m.call ≡ Some c)
    (lack : IsLack m c.call need)
    (waiting : IsWaiting m past c.call) where
  none_lacks : (needs : List Need) → CoverAll (held_of m) needs → needs_from m c.call ≡ needs → ⊥
  none_lacks needs all e = (lacks_are_first (held_of m) (needs_from m c.call)).none
      (subst (CoverAll (held_of m)) (sym e) all) need lack

  its : (d : Asked) → m.call ≡ Some d → c ≡ d
  its d e = same_call c d (sym open_is ∙ e)

  call_is : (d : Asked) → m.call ≡ Some d → c.call ≡ d.call
  call_is d e = ap (λ (z : Asked). z.call) (its d e)

  no_sync : (place : NamedPlace) (id : FilesetId) → Sync place ≡ c.call
      → home_of m.homes place.server place.fileset ≡ Some id
      → IsCovered (held_of m) (content m.cache) (file_look m.user (root_of id) place.path) → ⊥
  no_sync place id e seen covered =
      none_lacks (needs_of (content m.cache) (file_look m.user (root_of id) place.path)) covered
      (ap (needs_from m) (sym e) ∙ ending.sync_needs m place id seen)

  no_end : (u : Labelled) → end_of u ≡ c.call → ⊥
  no_end u e = none_lacks [] tt (ap (needs_from m) (sym e) ∙ ending.end_needs m u)

  pub lacking : IsAtRest m past
  lacking = record {
    stuck = λ d e can. none_lacks (needs_from m d.call) can.covered (ap (needs_from m) (call_is d e));
    synced = λ d place fid t e is finds i at x. no_sync place finds.id (sym is ∙ sym (call_is d e)) finds.seen
        finds.covered;
    freed = λ d u e is p. no_end u (sym is ∙ sym (call_is d e));
    waits = λ d e. subst (λ (z : Asked). IsWaiting m past z.call) (its d e) waiting;
    alone = λ e. absurd (let p = sym open_is ∙ e in cc);
  }

pub lack_rests : LackRests
lack_rests m past c need open_is lack waiting = lacking m past c need open_is lack waiting

-- the end of a label isn't asked of a server
if_asks : (r : Refusal) (has gives : Bool) (view : View) (q : Question)
    → outcome view (if not has then refuse r else Ends (if gives then Gives else Frees)) ≡ Asks q → ⊥
if_asks r true true view q e = absurd (cc)
if_asks r true false view q e = absurd (cc)
if_asks r false gives view q e = absurd (cc)

unlock_asks : (view : View) (own : Own) (host : HostId) (user : User) (label : List ℕ) (q : Question)
    → outcome view (call_look own host user (Unlock label)) ≡ Asks q → ⊥
unfolding call_look
unlock_asks view own host user label q e = if_asks NotLocked (has_lock own.locks host label)
    (own.gives_lock label) view q e

close_asks : (view : View) (own : Own) (host : HostId) (user : User) (label : List ℕ) (q : Question)
    → outcome view (call_look own host user (CloseFile label)) ≡ Asks q → ⊥
unfolding call_look
close_asks view own host user label q e = if_asks NotOpened (has_open own.opens host label)
    (own.gives_open label) view q e

end_asks : (view : View) (own : Own) (host : HostId) (user : User) (kind : Kind) (label : List ℕ) (q : Question)
    → outcome view (call_look own host user (end_call kind label)) ≡ Asks q → ⊥
end_asks view own host user (Bytes update span) label q e = unlock_asks view own host user label q e
end_asks view own host user (StatusKind update) label q e = unlock_asks view own host user label q e
end_asks view own host user (LockKind writing span) label q e = unlock_asks view own host user label q e
end_asks view own host user (Opening kind) label q e = close_asks view own host user label q e

-- nor is a Sync whose fileset was entered
verdict_asks : (b : Bool) (q : Question) → (if b then Replies Fine else Gives) ≡ Asks q → ⊥
verdict_asks true q e = absurd (cc)
verdict_asks false q e = absurd (cc)

either_asks : (own : Own) (f : Result (Fid × Nature) Refusal) (q : Question)
    → either f (sync_verdict own) (λ refusal. Replies (Refused refusal)) ≡ Asks q → ⊥
either_asks own (Ok found) q e = verdict_asks (own.is_clean found.0) q e
either_asks own (Err refusal) q e = absurd (cc)

sync_asks : (view : View) (own : Own) (host : HostId) (user : User) (place : NamedPlace) (id : FilesetId) (q : Question)
    → own.seen place.server place.fileset ≡ Some id → outcome view (call_look own host user (Sync place)) ≡ Asks q → ⊥
unfolding call_look sync_look
sync_asks view own host user place id q seen e =
    either_asks own (outcome view (file_look user (root_of id) place.path)) q
    (sym (ap (λ (o : Option FilesetId). outcome view (from_root place.server o
    (λ root. judged (file_look user root place.path) (sync_verdict own)))) seen
    ∙ outcome_on view (file_look user (root_of id) place.path)
    (λ found. Ends (either found (sync_verdict own) (λ refusal. Replies (Refused refusal))))) ∙ e)

module _ (m : Tables) (past : List Step) (c : Asked) (question : Question) (open_is : m.call ≡ Some c)
    (verdict : verdict_from m c.call ≡ Asks question) (waiting : IsWaiting m past c.call) where
  it_is : (d : Asked) → m.call ≡ Some d → c ≡ d
  it_is d e = same_call c d (sym open_is ∙ e)

  that_call : (d : Asked) → m.call ≡ Some d → c.call ≡ d.call
  that_call d e = ap (λ (z : Asked). z.call) (it_is d e)

  verdict_of : (d : Asked) → m.call ≡ Some d → (call : Call) → d.call ≡ call → verdict_from m call ≡ Asks question
  verdict_of d e call is = ap (verdict_from m) (sym (that_call d e ∙ is)) ∙ verdict

  pub asking : IsAtRest m past
  asking = record {
    stuck = λ d e can.
        let p : None ≡ Some can.reply = sym (ap reply_now (verdict_of d e d.call refl)) ∙ can.settled in absurd (cc);
    synced = λ d place fid t e is finds i at x.
        sync_asks (content m.cache) (own_of m) m.host m.user place finds.id question finds.seen
        (verdict_of d e (Sync place) is);
    freed = λ d u e is p. end_asks (content m.cache) (own_of m) m.host m.user u.token.kind u.label question
        (verdict_of d e (end_of u) is);
    waits = λ d e. subst (λ (z : Asked). IsWaiting m past z.call) (it_is d e) waiting;
    alone = λ e. absurd (let p = sym open_is ∙ e in cc);
  }

pub ask_rests : AskRests
ask_rests m past c question open_is verdict waiting = asking m past c question open_is verdict waiting

pub give_rests : GiveRests
give_rests m past c g open_is verdict covered made unknown synced freed = record {
  stuck = λ d e can.
      let p : None ≡ Some can.reply = sym (ap reply_now (ap (verdict_from m) (sym (ap (λ (z : Asked). z.call)
      (same_call c d (sym open_is ∙ e)))) ∙ verdict)) ∙ can.settled in absurd (cc);
  synced = λ d place fid t e is finds i at x.
      synced place fid t (ap (λ (z : Asked). z.call) (same_call c d (sym open_is ∙ e)) ∙ is) finds i at x;
  freed = λ d u e is p. freed u (ap (λ (z : Asked). z.call) (same_call c d (sym open_is ∙ e)) ∙ is) p;
  waits = λ d e. subst (λ (z : Asked). IsWaiting m past z.call) (same_call c d (sym open_is ∙ e))
      (ForGone g covered verdict made unknown);
  alone = λ e. absurd (let p = sym open_is ∙ e in cc);
}

pub idle_rests : IdleRests
idle_rests m past free idle = record {
  stuck = λ d e. absurd (let p = sym free ∙ e in cc);
  synced = λ d place fid t e. absurd (let p = sym free ∙ e in cc);
  freed = λ d u e. absurd (let p = sym free ∙ e in cc);
  waits = λ d e. absurd (let p = sym free ∙ e in cc);
  alone = λ e. idle;
}
