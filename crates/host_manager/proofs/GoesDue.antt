-- What is due of a step in which a call whose turn it is goes on, whatever becomes of it.
use Rattle.base_types.specs.declared.ids.Fid.{Fid}
use Rattle.base_types.specs.declared.ids.FilesetId.{FilesetId}
use Rattle.base_types.specs.declared.ids.Node.TheVariants.{Host}
use Rattle.host_asks.specs.Asking.{Doing, asking_question, doing, server_of}
use Rattle.host_asks.specs.Going.{Goes, MarksWhere, Settles}
use Rattle.host_asks.specs.Going.Goes.{Ends as EndsEarly, Finds, IsRefused, LacksIt, Waits}
use Rattle.host_asks.specs.Going.Settles.{AnswersIt, AsksIt, GivesIt, SyncsIt}
use Rattle.host_calls.specs.Looking.{AreUses, EndsSo, IsPathless, IsVerdictOf, LeadsSo, Walked, WalksSo, asked_by}
use Rattle.host_calls.specs.Looking.{is_settled, meant, path_look}
use Rattle.host_calls.specs.declared.looking.Question.{Question}
use Rattle.host_calls.specs.declared.looking.Question.TheVariants.{At as AtServer, Enter, In as Within}
use Rattle.host_calls.specs.declared.looking.Verdict.{Verdict}
use Rattle.host_calls.specs.declared.looking.Verdict.TheVariants.{Syncs}
use Rattle.host_gives.specs.Giving.{IsSound as IsSoundGives}
use Rattle.host_labels.specs.Labels.{IsSound as IsSoundUses}
use Rattle.host_leaves.specs.Giving.{LeavesDirty}
use Rattle.host_leaves.specs.Sending.{sending_due}
use Rattle.host_manager.proofs.AnsweredDue.{answered_due}
use Rattle.host_manager.proofs.AskedDue.{asks_due, lacks_due}
use Rattle.host_manager.proofs.GivesNow.{use_due}
use Rattle.host_manager.proofs.Homely.{seen_declared}
use Rattle.host_manager.proofs.Running.{uses_are}
use Rattle.host_manager.proofs.SyncCall.{sync_due}
use Rattle.host_manager.proofs.ComesOut.{comes_out}
use Rattle.host_manager.proofs.TurnDue.{IsTurnDue}
use Rattle.host_manager.proofs.Turned.{goes_asked, stays_is, stays_open}
use Rattle.host_manager.proofs.Turns.{IsTurn, at_turn, turn_draft}
use Rattle.host_manager.specs.Running.{RunsOn}
use Rattle.host_tables.proofs.Declared.{home_is}
use Rattle.host_tables.specs.Drafts.{step_of}
use Rattle.host_tables.specs.Half.{learning}
use Rattle.host_tables.specs.Saying.{IsFirst}
use Rattle.host_tables.specs.Stands.{IsCoveredFrom, IsLack, look_from, verdict_from}
use Rattle.host_tables.specs.Tables.{content, held_of, own_of}
use Rattle.host_tables.specs.declared.draft.Draft.{Draft}
use Rattle.host_tables.specs.declared.tables.Tables.{Tables}
use Rattle.host_walk.specs.declared.sight.Stop.{Stop}
use Rattle.host_walk.specs.declared.sight.Stop.TheVariants.{Refused}
use Rattle.message_types.specs.declared.giving.Give.{Give}
use Rattle.message_types.specs.declared.giving.Reclaimed.{Reclaimed as ReclaimedOf}
use Rattle.message_types.specs.declared.message.Body.TheVariants.{Reclaimed, Restarted, Revoke}
use Rattle.message_types.specs.declared.message.Message.{Message}
use Rattle.message_types.specs.declared.tokens.Revoke.{Revoke as RevokeOf}
use Rattle.need_host.proofs.Asking.{questions_are_about_filesets}
use Rattle.need_host.specs.Calls.{Verdict as Meant}
use Rattle.need_host.specs.Calls.Verdict.{Asks as AsksOf}
use Rattle.need_host.specs.Looks.{CoverAll, IsCovered, IsFirstLack, Look, needs_of, outcome}
use Rattle.need_host.specs.Looks.Look.{Ends as EndsOf}
use Rattle.need_host.specs.Questions.Question.{ChangeIn}
use Rattle.run_rules.specs.HostDue.{HostDue}
use Rattle.run_rules.specs.Past.{EachOnce, In}
use Rattle.run_rules.specs.Tokens.{IsOutstanding}
use Rattle.run_rules.specs.Views.{stay_asked}
use Rattle.run_rules.specs.declared.step.Asked.{Asked}
use Rattle.run_rules.specs.declared.step.Cause.{Cause}
use Rattle.run_rules.specs.declared.step.Cause.TheVariants.{End, Line as LineOf, Message as Came}
use Rattle.run_rules.specs.declared.step.Step.{Step}
use Rattle.script_lines.specs.declared.script.Script.{Script}
use Rattle.std.proofs.Common.{Bool, Err, List, None, Ok, Result, Some, [], ap, false, if◌then◌else◌, refl, subst, sym}
use Rattle.std.proofs.Common.{true, ℕ, ◌∙◌, ◌∷◌, ◌≡◌}
use Rattle.token_types.specs.declared.token.Token.{Token}
use Rattle.tree_calls.specs.declared.call.Call.{Call}
use Rattle.tree_calls.specs.declared.call.Call.TheVariants.{Sync}
use Rattle.tree_calls.specs.declared.place.Place.{Place as NamedPlace}
use Rattle.tree_calls.specs.declared.reply.Refusal.{Refusal}

-- a line, and an implied call of the end, teach nothing
pub by_line : (m : Tables) (past : List Step) (line : ℕ) → IsTurnDue m past (LineOf line) [] [] true
by_line m past line = record {
  no_lapse = λ e. cc;
  no_evict = λ e. cc;
  ends_first = λ e. refl;
  no_restart = λ v l. (let p = l.2.2.1 in cc);
  no_revoke = λ r a. (let p = a.1 in cc);
  reclaimed = λ s is v n a b comes plain was still. (let p = sym is ∙ comes.1 in cc);
  fresh = λ g one i o. elim i [ ];
  once_came = tt;
  once_dues = tt;
}

pub by_end : (m : Tables) (past : List Step) → IsTurnDue m past End [] [] true
by_end m past = record {
  no_lapse = λ e. cc;
  no_evict = λ e. cc;
  ends_first = λ e. refl;
  no_restart = λ v l. (let p = l.2.2.1 in cc);
  no_revoke = λ r a. (let p = a.1 in cc);
  reclaimed = λ s is v n a b comes plain was still. (let p = sym is ∙ comes.1 in cc);
  fresh = λ g one i o. elim i [ ];
  once_came = tt;
  once_dues = tt;
}

-- a message that teaches neither a restart nor a revoke, and answers no claim
pub by_message : (m : Tables) (past : List Step) (message : Message) (came : List Token) (dues : List FilesetId)
    → (message.body ≡ Restarted → ⊥) → ((r : RevokeOf) → message.body ≡ Revoke r → ⊥)
    → ((a : ReclaimedOf) → message.body ≡ Reclaimed a → ⊥)
    → ((g : Give) → IsFirst m.gives g → In g.fid.fileset dues → IsOutstanding past g → ⊥)
    → EachOnce came → EachOnce dues → IsTurnDue m past (Came message) came dues false
by_message m past message came dues restarted revoke reclaimed fresh once_came once_dues = record {
  no_lapse = λ e. cc;
  no_evict = λ e. cc;
  ends_first = λ e. absurd (cc);
  no_restart = λ v l. restarted (body_is l.2.2.0 l.2.2.1 ∙ l.2.2.5);
  no_revoke = λ r a. revoke r (body_is a.0 a.1 ∙ a.5);
  reclaimed = λ s is v n a b comes plain was still. reclaimed a (body_is comes.0 (sym is ∙ comes.1) ∙ comes.5);
  fresh = fresh;
  once_came = once_came;
  once_dues = once_dues;
}
  where
    body_is : (y : Message) → Came message ≡ Came y → message.body ≡ y.body
    body_is y e = let same : message ≡ y = cc in ap (λ (z : Message). z.body) same

module _ (script : Script) (old m : Tables) (past : List Step) (cause : Cause) (came : List Token)
    (dues : List FilesetId) (c : Asked) (first : Bool) (turn : IsTurn script old m past cause came dues c first)
    (sound_m : IsSoundGives m.gives) (sound : IsSoundUses m.uses) (by : IsTurnDue m past cause came dues first) where
  abbrev call : Call
  call = c.call

  abbrev k : ℕ
  k = c.k

  abbrev h : Step
  h = learning m.host cause came

  abbrev begun : Tables
  begun = at_turn m first

  abbrev draft_0 : Draft
  draft_0 = turn_draft came dues

  abbrev at : Doing
  at = doing begun draft_0

  abbrev pub Goal : Tables → Draft → Type 0
  Goal new after = RunsOn script old new past (step_of (Host m.host) cause after)

  abbrev pub Due : Draft → Type 0
  Due after = HostDue script old.host past (step_of (Host m.host) cause after)

  abbrev opened : Doing → Doing
  opened gone = doing (record gone.tables { call = Some c })
      (record gone.draft { asked = if first then Some c else None })

  abbrev pub OpensDue : Doing → Type 0
  OpensDue gone = Due (sending_due (opened gone).tables (opened gone).draft)

  uses_m : AreUses m
  uses_m = uses_are script m (h ∷ past) turn.learnt

  uses_b : AreUses begun
  uses_b = record { labels = uses_m.labels; ending = uses_m.ending }

  -- # The looks
  look_early : (v : Result Verdict Refusal) → EndsSo begun call v → look_from m call ≡ EndsOf (meant m call v)
  look_early v so = so uses_b

  covered_early : (v : Result Verdict Refusal) → EndsSo begun call v → IsCoveredFrom m call
  covered_early v so = subst (CoverAll (held_of m)) (sym (ap (needs_of (content m.cache)) (look_early v so))) tt

  comes : (root : Fid) (path : List (List ℕ)) → WalksSo begun call root path → (made : Result Verdict Stop)
      → Walked begun call root path made → (v : Result Verdict Refusal) → IsVerdictOf made v
      → IsCoveredFrom m call × (verdict_from m call ≡ meant m call v)
  comes root path walks made walked v is =
      let r = comes_out m call root path turn.tidy.sizes made walked v is in
      let e : look_from m call ≡ path_look m call root path = walks uses_b in (
        subst (IsCovered (held_of m) (content m.cache)) (sym e) r.0,
        ap (outcome (content m.cache)) e ∙ r.1,
      )

  -- the server of a question
  server_is : (question : Question) → verdict_from m call ≡ AsksOf (asked_by question) → (p : List Step)
      → (stay_asked p (asked_by question)).server ≡ server_of question
  server_is (Enter server) e p = refl
  server_is (AtServer server) e p = refl
  server_is (Within fs) e p =
      let about = questions_are_about_filesets (own_of m) m.host m.user call (content m.cache) (ChangeIn fs) e in
      sym (home_is script.roster m turn.tidy fs (seen_declared script.roster m turn.tidy about.0 about.1 fs about.3))

  -- what gives back is another matter
  module _ (new : Tables) (draft after : Draft) (sends : after ≡ sending_due new draft) (runs : Goal new after)
      (sound_new : IsSoundGives new.gives)
      -- no token leaves twice by a Sync
      (once : (place : NamedPlace) → call ≡ Sync place → (fid : Fid) (gone : Doing)
      (leaves : LeavesDirty begun draft_0 fid gone.tables gone.draft) → EachOnce leaves.tokens) where
    -- by what the code says
    by_code : (gone : Doing) → doing new draft ≡ gone
        → (Goal gone.tables (sending_due gone.tables gone.draft) → Due (sending_due gone.tables gone.draft))
        → Due after
    by_code gone is due =
        let same : after ≡ sending_due gone.tables gone.draft =
        sends ∙ (λ i. sending_due (is i).tables (is i).draft) in
        subst Due (sym same) (due (subst (λ (q : Tables × Draft). Goal q.0 q.1) (λ i. ((is i).tables, same i)) runs))

    asks_question : (question : Question) → verdict_from m call ≡ AsksOf (asked_by question) → IsCoveredFrom m call
        → (gone : Doing) → gone ≡ asking_question question k call at → doing new draft ≡ opened gone → Due after
    asks_question question verdict covered gone is opens_it =
        by_code (opened (asking_question question k call at)) (opens_it ∙ ap opened is)
        (asks_due script old m past cause came dues c first turn sound_m by question verdict covered
        (server_is question verdict))

    settles_open : (gone : Doing) (v : Result Verdict Refusal) (b : Bool) → b ≡ false → IsCoveredFrom m call
        → verdict_from m call ≡ meant m call v
        → ((fid : Fid) → v ≡ Ok (Syncs fid) → LeavesDirty begun draft_0 fid gone.tables gone.draft → Due after)
        → Settles k call first at gone v b → doing new draft ≡ opened gone → Due after
    settles_open gone _ _ e covered verdict sync (SyncsIt fid leaves) opens_it = sync fid refl leaves
    settles_open gone _ _ e covered verdict sync (GivesIt gives) opens_it =
        use_due script old m past cause came dues c first turn sound_m sound by verdict gone gives new draft after
        opens_it sends sound_new runs
    settles_open gone _ _ e covered verdict sync (AsksIt question is) opens_it =
        asks_question question verdict covered gone is opens_it
    settles_open gone _ _ e covered verdict sync (AnswersIt v answered) opens_it = absurd (cc)

    settles_answer : (v : Result Verdict Refusal) (marked : Tables) → marked.gives ≡ m.gives
        → verdict_from m call ≡ meant m call v → (gone : Doing) (b : Bool) → b ≡ true
        → Settles k call first (doing marked draft_0) gone v b → doing new draft ≡ gone → Due after
    settles_answer _ marked same verdict gone _ e (SyncsIt fid leaves) is = absurd (cc)
    settles_answer _ marked same verdict gone _ e (GivesIt gives) is = absurd (cc)
    settles_answer _ marked same verdict gone _ e (AsksIt question asks) is = absurd (cc)
    settles_answer _ marked same verdict gone _ e (AnswersIt v answered) is =
        by_code gone is (answered_due script old m past cause came dues c first turn sound_m by v marked same verdict
        gone.tables gone.draft answered)

    -- what is settled is marked
    marked_gives : (b : Bool) (root : Fid) (path : List (List ℕ)) (v : Result Verdict Refusal) (marked : Tables)
        → MarksWhere b begun call root path v marked → marked.gives ≡ m.gives
    marked_gives true root path v marked marks = ap (λ (x : Tables). x.gives) marks.tables
    marked_gives false root path v marked same = ap (λ (x : Tables). x.gives) same

    open_unmarked : (gone : Doing) (v : Verdict) (b : Bool) → b ≡ false → (marked : Tables)
        → Settles k call first (doing marked draft_0) gone (Ok v) b → is_settled (Ok v) ≡ false
    open_unmarked gone _ _ e marked (SyncsIt fid leaves) = refl
    open_unmarked gone _ _ e marked (GivesIt gives) = refl
    open_unmarked gone _ _ e marked (AsksIt question is) = refl
    open_unmarked gone _ _ e marked (AnswersIt v answered) = absurd (cc)

    goes_open : (gone : Doing) (b : Bool) → b ≡ false → Goes k call first at gone b → doing new draft ≡ opened gone
        → Due after
    goes_open gone _ e (Waits busy is) opens_it = absurd (busy turn.idle)
    goes_open gone _ e (EndsEarly idle v so early answered settles) opens_it =
        settles_open gone v answered e (covered_early v so) (ap (outcome (content m.cache)) (look_early v so))
        (λ fid q leaves. elim (subst IsPathless q early) [ ]) settles opens_it
    goes_open gone _ e (LacksIt idle root path walks need lack asks) opens_it =
        let in_call : IsLack m call need =
        subst (λ (l : Look Meant). IsFirstLack (held_of m) (needs_of (content m.cache) l) need)
        (sym (walks uses_b)) lack in
        by_code (opened gone) opens_it
        (lacks_due script old m past cause came dues c first turn sound_m by need in_call gone asks)
    goes_open gone _ e (Finds idle root path walks v walked leads marked marks answered settles) opens_it =
        let both = comes root path walks (Ok v) walked (Ok v) refl in
        let same : marked ≡ begun = subst (λ (b : Bool). MarksWhere b begun call root path (Ok v) marked)
        (open_unmarked gone v answered e marked settles) marks in
        settles_open gone (Ok v) answered e both.0 both.1
        (λ fid q leaves.
        let is_sync : v ≡ Syncs fid = cc in
        sync_due script old m past cause came dues c first turn sound_m sound by root path walks fid
        (subst (λ (z : Result Verdict Stop). Walked begun call root path z) (ap Ok is_sync) walked)
        (subst (LeadsSo begun call root path) is_sync leads) gone leaves (λ place is. once place is fid gone leaves)
        new draft after opens_it
        sends sound_new runs)
        (subst (λ (z : Tables). Settles k call first (doing z draft_0) gone (Ok v) answered) same settles) opens_it
    goes_open gone _ e (IsRefused idle root path walks refusal walked marked marks settles) opens_it = absurd (cc)

    goes_answered : (gone : Doing) (b : Bool) → b ≡ true → Goes k call first at gone b → doing new draft ≡ gone
        → Due after
    goes_answered gone _ e (Waits busy is) same = absurd (cc)
    goes_answered gone _ e (EndsEarly idle v so early answered settles) same =
        settles_answer v begun refl (ap (outcome (content m.cache)) (look_early v so)) gone answered e settles same
    goes_answered gone _ e (LacksIt idle root path walks need lack asks) same = absurd (cc)
    goes_answered gone _ e (Finds idle root path walks v walked leads marked marks answered settles) same =
        settles_answer (Ok v) marked (marked_gives (is_settled (Ok v)) root path (Ok v) marked marks)
        (comes root path walks (Ok v) walked (Ok v) refl).1 gone answered e settles same
    goes_answered gone _ e (IsRefused idle root path walks refusal walked marked marks settles) same =
        settles_answer (Err refusal) marked (ap (λ (x : Tables). x.gives) marks.tables)
        (comes root path walks (Err (Refused refusal)) walked (Err refusal) refl).1 gone true refl settles same

    pub goes_due : (gone : Doing) (answered : Bool) → Goes k call first at gone answered
        → doing new draft ≡ (if answered then gone else stays_open c first gone) → Due after
    goes_due gone answered goes is = by_answered answered refl
      where
        by_answered : (b : Bool) → answered ≡ b → Due after
        by_answered true e = goes_answered gone answered e goes
            (is ∙ ap (λ (b : Bool). if b then gone else stays_open c first gone) e)
        by_answered false e = goes_open gone answered e goes
            (is ∙ ap (λ (b : Bool). if b then gone else stays_open c first gone) e
            ∙ stays_is c first gone (goes_asked k call first at gone answered e goes))
