-- A host goes on with a call whose turn it is, whatever becomes of it: the machine runs on.
use Rattle.base_types.specs.declared.ids.Fid.{Fid}
use Rattle.base_types.specs.declared.ids.FilesetId.{FilesetId}
use Rattle.base_types.specs.declared.ids.Node.TheVariants.{Host}
use Rattle.base_types.specs.declared.ids.ServerId.{ServerId}
use Rattle.host_asks.specs.Asking.{AsksFor, Doing, asking_question, changing, coming_to, doing, fileset_of, greeting}
use Rattle.host_asks.specs.Asking.{is_entering, may_ask, next_change, server_of}
use Rattle.host_asks.specs.Asking.AsksFor.{Changes, Comes, FetchesIt, Waits as WaitsGive}
use Rattle.host_asks.specs.Going.{GivesUse, Goes, MarksWhere, Settles, left_open}
use Rattle.host_asks.specs.Going.GivesUse.{EndsIt, HasEnded, IsLost, IsUnused}
use Rattle.host_asks.specs.Going.Goes.{Ends as EndsEarly, Finds, IsRefused, LacksIt, Waits}
use Rattle.host_asks.specs.Going.Settles.{AnswersIt, AsksIt, GivesIt, SyncsIt}
use Rattle.host_calls.specs.Answering.{Answered}
use Rattle.host_calls.specs.Looking.{AreUses, EndsSo, IsPathless, LeadsSo, Walked, WalksSo, asked_by, ending_of}
use Rattle.host_calls.specs.Looking.{is_settled, meant, path_look}
use Rattle.host_calls.specs.declared.looking.Question.{Question}
use Rattle.host_calls.specs.declared.looking.Verdict.{Verdict}
use Rattle.host_calls.specs.declared.looking.Verdict.TheVariants.{Asks, Frees, Gives}
use Rattle.host_gives.specs.Giving.{IsSound as IsSoundGives, outstanding}
use Rattle.host_labels.specs.Labels.{IsSound as IsSoundUses}
use Rattle.host_leaves.specs.Giving.{LeavesDirty, LeavesGiven, LeavesWhere}
use Rattle.host_leaves.specs.Sending.{sending_due, with_once}
use Rattle.host_manager.proofs.CallRuns.{goes_answered}
use Rattle.host_manager.proofs.FreesNow.{frees_now}
use Rattle.host_manager.proofs.GivesNow.{gives_now}
use Rattle.host_manager.proofs.Opened.{Opens, asks_question, changes_for, comes_for, fetches_for, waits_give}
use Rattle.host_manager.proofs.Running.{uses_are}
use Rattle.host_manager.proofs.SyncCall.{sync_now}
use Rattle.host_manager.proofs.ComesOut.{comes_out}
use Rattle.host_manager.proofs.Turns.{IsTurn, at_turn, turn_draft}
use Rattle.host_tables.specs.Drafts.{step_of}
use Rattle.host_tables.specs.Half.{learning}
use Rattle.host_manager.specs.Running.{RunsOn}
use Rattle.host_tables.specs.Stands.{IsCoveredFrom, IsLack, Stands, look_from, verdict_from}
use Rattle.host_tables.specs.Tables.{content, held_of, labelled, site_at}
use Rattle.host_tables.specs.Updates.{home_at}
use Rattle.host_tables.specs.declared.draft.Draft.{Draft}
use Rattle.host_tables.specs.declared.tables.Tables.{Tables}
use Rattle.message_types.specs.Soundness.{no_fid}
use Rattle.message_types.specs.declared.giving.Ends.{Ends}
use Rattle.need_host.specs.Calls.{Verdict as Meant}
use Rattle.need_host.specs.Calls.Verdict.{Asks as AsksOf, Gives as GivesOf}
use Rattle.need_host.specs.Looks.{CoverAll, IsCovered, IsFirstLack, Look, needs_of, outcome}
use Rattle.need_host.specs.Looks.Look.{Ends as EndsOf}
use Rattle.need_host.specs.Questions.Question.{ChangeIn}
use Rattle.run_rules.specs.declared.step.Asked.{Asked}
use Rattle.run_rules.specs.declared.step.Cause.{Cause}
use Rattle.run_rules.specs.declared.step.Step.{Step}
use Rattle.script_lines.specs.declared.script.Script.{Script}
use Rattle.std.proofs.Common.{Bool, List, None, Ok, Option, Result, Some, [], ap, false, if◌then◌else◌, is_none, refl}
use Rattle.std.proofs.Common.{subst, sym, true, ℕ, ◌∙◌, ◌∷◌, ◌≡◌}
use Rattle.token_types.specs.declared.token.Need.{Need}
use Rattle.token_types.specs.declared.token.Token.{Token}
use Rattle.tree_calls.specs.declared.call.Call.{Call}
use Rattle.tree_calls.specs.declared.reply.Refusal.{Refusal}

-- # A call that is left open is answered later: the step asks nothing else
given_asked : (m : Tables) (draft : Draft) (fid : Fid) (tokens : List Token) (ends : Option Ends) (new : Tables)
    (after : Draft) → LeavesGiven m draft fid tokens ends new after → after.asked ≡ draft.asked
given_asked m draft fid tokens ends new after it =
    ap (λ (d : Draft). d.asked) it.drops.draft_is ∙ ap (λ (d : Draft). d.asked) it.gives.draft_is
    ∙ by_due (is_none (outstanding m.gives it.gives.give.fid.fileset))
  where
    by_due : (b : Bool) → (if b then record draft { due = with_once draft.due it.gives.give.fid.fileset }
        else draft).asked ≡ draft.asked
    by_due true = refl
    by_due false = refl

dirty_asked : (m : Tables) (draft : Draft) (fid : Fid) (tokens : List Token) (new : Tables) (after : Draft)
    → LeavesWhere m draft fid tokens new after → after.asked ≡ draft.asked
dirty_asked m draft fid [] new after it = ap (λ (d : Draft). d.asked) it.1
dirty_asked m draft fid (t ∷ ts) new after it = given_asked m draft fid (t ∷ ts) None new after it

gives_asked : (lock : Bool) (label : List ℕ) (k : ℕ) (at gone : Doing) → GivesUse lock label k at gone
    → gone.draft.asked ≡ at.draft.asked
gives_asked lock label k at gone (HasEnded busy same) = ap (λ (d : Doing). d.draft.asked) same
gives_asked lock label k at gone (IsUnused none same) = ap (λ (d : Doing). d.draft.asked) same
gives_asked lock label k at gone (IsLost idle used found lost ended ends same) = ap (λ (d : Doing). d.draft.asked) same
gives_asked lock label k at gone (EndsIt idle used found ended ends leaves) =
    given_asked (record ended { ending = Some (labelled used) }) at.draft used.token.fid (used.token ∷ [])
    (Some (record { k = k; call = ending_of lock label })) gone.tables gone.draft leaves

coming_asked : (v : ServerId) (at : Doing) → (coming_to v at).draft.asked ≡ at.draft.asked
coming_asked v at = by_greeted (site_at at.tables.sites v).greeted
  where
    by_greeted : (b : Bool) → (if b then at else greeting v at).draft.asked ≡ at.draft.asked
    by_greeted true = refl
    by_greeted false = refl

question_asked : (question : Question) (k : ℕ) (call : Call) (at : Doing)
    → (asking_question question k call at).draft.asked ≡ at.draft.asked
question_asked question k call at = by_may (may_ask (server_of question) at)
  where
    by_may : (b : Bool) → (if b then changing (server_of question)
        (next_change at.tables (server_of question) (fileset_of question) no_fid (is_entering question) k call) at
        else coming_to (server_of question) at).draft.asked ≡ at.draft.asked
    by_may true = refl
    by_may false = coming_asked (server_of question) at

lack_asked : (need : Need) (k : ℕ) (call : Call) (old new : Doing) → AsksFor need k call old new
    → new.draft.asked ≡ old.draft.asked
lack_asked need k call old new (WaitsGive plain gives is) = ap (λ (d : Doing). d.draft.asked) is
lack_asked need k call old new (Comes may not_yet is) =
    ap (λ (d : Doing). d.draft.asked) is ∙ coming_asked (home_at need.fid.fileset) old
lack_asked need k call old new (Changes used may is) = ap (λ (d : Doing). d.draft.asked) is
lack_asked need k call old new (FetchesIt plain free may it) = ap (λ (d : Doing). d.draft.asked) it.after

settle_asked : (k : ℕ) (call : Call) (first : Bool) (at gone : Doing) (v : Result Verdict Refusal) (b : Bool)
    → b ≡ false → Settles k call first at gone v b → gone.draft.asked ≡ at.draft.asked
settle_asked k call first at gone _ _ e (SyncsIt fid leaves) =
    dirty_asked at.tables at.draft fid leaves.tokens gone.tables gone.draft leaves.leaves
settle_asked k call first at gone _ _ e (GivesIt gives) = gives_asked gives.lock gives.label k at gone gives.gives
settle_asked k call first at gone _ _ e (AsksIt question is) =
    ap (λ (d : Doing). d.draft.asked) is ∙ question_asked question k call at
settle_asked k call first at gone _ _ e (AnswersIt v it) = absurd (cc)

pub goes_asked : (k : ℕ) (call : Call) (first : Bool) (at gone : Doing) (b : Bool) → b ≡ false
    → Goes k call first at gone b → gone.draft.asked ≡ at.draft.asked
goes_asked k call first at gone _ e (Waits busy is) = ap (λ (d : Doing). d.draft.asked) is
goes_asked k call first at gone _ e (EndsEarly idle v so early answered settles) =
    settle_asked k call first at gone v answered e settles
goes_asked k call first at gone _ e (LacksIt idle root path walks need lack asks) =
    lack_asked need k call at gone asks
goes_asked k call first at gone _ e (Finds idle root path walks v walked leads marked marks answered settles) =
    settle_asked k call first (doing marked at.draft) gone (Ok v) answered e settles
goes_asked k call first at gone _ e (IsRefused idle root path walks refusal walked marked marks settles) =
    absurd (cc)

-- the code's words for a call that is left open: it is asked where it begins
abbrev pub stays_open : Asked → Bool → Doing → Doing
stays_open c first gone =
    if first then left_open c gone else doing (record gone.tables { call = Some c }) gone.draft

pub stays_is : (c : Asked) (b : Bool) (gone : Doing) → gone.draft.asked ≡ None
    → stays_open c b gone ≡ doing (record gone.tables { call = Some c })
    (record gone.draft { asked = if b then Some c else None })
stays_is c true gone e = refl
stays_is c false gone e = λ i. doing (record gone.tables { call = Some c }) (record gone.draft { asked = e i })

module _ (script : Script) (old m : Tables) (past : List Step) (cause : Cause) (came : List Token)
    (dues : List FilesetId) (c : Asked) (first : Bool) (turn : IsTurn script old m past cause came dues c first)
    (sound_m : IsSoundGives m.gives) (sound : IsSoundUses m.uses) where
  abbrev call : Call
  call = c.call

  abbrev k : ℕ
  k = c.k

  abbrev h : Step
  h = learning m.host cause came

  abbrev begun : Tables
  begun = at_turn m first

  abbrev draft_0 : Draft
  draft_0 = turn_draft came dues

  abbrev at : Doing
  at = doing begun draft_0

  abbrev Goal : Tables → Draft → Type 0
  Goal new after = RunsOn script old new past (step_of (Host m.host) cause after)

  -- it is left open
  abbrev opened : Doing → Doing
  opened gone = doing (record gone.tables { call = Some c })
      (record gone.draft { asked = if first then Some c else None })

  stands : Stands script m (h ∷ past)
  stands = turn.learnt

  uses_m : AreUses m
  uses_m = uses_are script m (h ∷ past) stands

  uses_b : AreUses begun
  uses_b = record { labels = uses_m.labels; ending = uses_m.ending }

  -- # The looks
  look_early : (v : Result Verdict Refusal) → EndsSo begun call v → look_from m call ≡ EndsOf (meant m call v)
  look_early v so = so uses_b

  covered_early : (v : Result Verdict Refusal) → EndsSo begun call v → IsCoveredFrom m call
  covered_early v so =
      subst (CoverAll (held_of m)) (sym (ap (needs_of (content m.cache)) (look_early v so))) tt

  look_along : (root : Fid) (path : List (List ℕ)) → WalksSo begun call root path
      → look_from m call ≡ path_look m call root path
  look_along root path walks = walks uses_b

  comes : (root : Fid) (path : List (List ℕ)) → WalksSo begun call root path → (v : Verdict)
      → Walked begun call root path (Ok v) → IsCoveredFrom m call × (verdict_from m call ≡ meant m call (Ok v))
  comes root path walks v walked =
      let r = comes_out m call root path turn.tidy.sizes (Ok v) walked (Ok v) refl in
      let e = look_along root path walks in (
        subst (IsCovered (held_of m) (content m.cache)) (sym e) r.0,
        ap (outcome (content m.cache)) e ∙ r.1,
      )

  -- by what the code says
  by_code : (gone : Doing) → RunsOn script old gone.tables past
      (step_of (Host m.host) cause (sending_due gone.tables gone.draft))
      → (new : Tables) (draft after : Draft) → doing new draft ≡ gone → after ≡ sending_due new draft → Goal new after
  by_code gone runs new draft after is sends =
      subst (λ (q : Tables × Draft). Goal q.0 q.1)
      (λ i. (
        (sym (ap (λ (d : Doing). d.tables) is)) i,
        (sym (sends ∙ (λ j. sending_due (is j).tables (is j).draft))) i,
      )) runs

  -- # A lacked token
  lacks_open : (need : Need) → IsLack m call need → (gone : Doing) → AsksFor need k call at gone → Opens script old m
      past cause came dues c first turn sound_m gone
  lacks_open need lack gone (WaitsGive plain gives is) =
      subst (λ (d : Doing). Opens script old m past cause came dues c first turn sound_m d) (sym is)
      (waits_give script old m past cause came dues c first turn sound_m need lack gives)
  lacks_open need lack gone (Comes may not_yet is) =
      subst (λ (d : Doing). Opens script old m past cause came dues c first turn sound_m d) (sym is)
      (comes_for script old m past cause came dues c first turn sound_m need lack not_yet)
  lacks_open need lack gone (Changes used may is) =
      subst (λ (d : Doing). Opens script old m past cause came dues c first turn sound_m d) (sym is)
      (changes_for script old m past cause came dues c first turn sound_m need lack used may)
  lacks_open need lack gone (FetchesIt plain no_give may it) =
      fetches_for script old m past cause came dues c first turn sound_m need lack gone it it.room it.count plain
      no_give may

  module _ (new : Tables) (draft after : Draft) (sends : after ≡ sending_due new draft)
      (sound_new : IsSoundGives new.gives) where
    frees_it : (x : Tables) (d : Draft) → EndsSo begun call (Ok Frees)
        → Answered k call first (Ok Frees) begun draft_0 x d
        → RunsOn script old x past (step_of (Host m.host) cause (sending_due x d))
    frees_it x d so it = frees_now script old m past cause came dues c first turn sound_m sound so x d it

    asks_open : (question : Question) → verdict_from m call ≡ AsksOf (asked_by question) → IsCoveredFrom m call
        → (gone : Doing) → gone ≡ asking_question question k call at → doing new draft ≡ opened gone → Goal new after
    asks_open question verdict covered gone is opens_it =
        by_code (opened gone) (subst (λ (d : Doing). Opens script old m past cause came dues c first turn sound_m d)
        (sym is)
        (asks_question script old m past cause came dues c first turn sound_m question verdict covered)) new draft
        after opens_it sends

    early_open : (v : Result Verdict Refusal) → EndsSo begun call v → IsPathless v → (gone : Doing) (b : Bool)
        → b ≡ false → Settles k call first at gone v b → doing new draft ≡ opened gone → Goal new after
    early_open _ so early gone _ e (SyncsIt fid leaves) opens_it = elim early [ ]
    early_open _ so early gone _ e (GivesIt gives) opens_it =
        gives_now script old m past cause came dues c first turn sound_m sound
        (ap (outcome (content m.cache)) (look_early (Ok Gives) so)) gone gives new draft after
        opens_it sends sound_new
    early_open _ so early gone _ e (AsksIt question is) opens_it =
        asks_open question (ap (outcome (content m.cache)) (look_early (Ok (Asks question)) so))
        (covered_early (Ok (Asks question)) so) gone is opens_it
    early_open _ so early gone _ e (AnswersIt v it) opens_it = absurd (cc)

    found_open : (root : Fid) (path : List (List ℕ)) → WalksSo begun call root path → (v : Verdict)
        → Walked begun call root path (Ok v) → LeadsSo begun call root path v → (marked : Tables)
        → MarksWhere (is_settled (Ok v)) begun call root path (Ok v) marked → (gone : Doing) (b : Bool) → b ≡ false
        → Settles k call first (doing marked draft_0) gone (Ok v) b → doing new draft ≡ opened gone → Goal new after
    found_open root path walks _ walked leads marked marks gone _ e (SyncsIt fid leaves) opens_it =
        sync_now script old m past cause came dues c first turn sound_m sound root path walks fid walked leads gone
        (subst (λ (x : Tables). LeavesDirty x draft_0 fid gone.tables gone.draft) marks leaves) new draft after opens_it
        sends sound_new
    found_open root path walks _ walked leads marked marks gone _ e (GivesIt gives) opens_it =
        absurd (no_gives gives.lock gives.label gives.call_is)
      where
        no_gives : (lock : Bool) (label : List ℕ) → call ≡ ending_of lock label → ⊥
        no_gives lock label is =
            let p : GivesOf ≡ AsksOf (ChangeIn root.fileset) =
            sym (comes root path walks Gives walked).1 ∙ ap (outcome (content m.cache)) (look_along root path walks)
            ∙ ap (λ (x : Call). outcome (content m.cache) (path_look m x root path)) is ∙ asks lock in cc
          where
            asks : (b : Bool) → outcome (content m.cache) (path_look m (ending_of b label) root path)
                ≡ AsksOf (ChangeIn root.fileset)
            asks true = refl
            asks false = refl
    found_open root path walks _ walked leads marked marks gone _ e (AsksIt question is) opens_it =
        let r = comes root path walks (Asks question) walked in
        asks_open question r.1 r.0 gone
        (is ∙ ap (λ (x : Tables). asking_question question k call (doing x draft_0)) marks) opens_it
    found_open root path walks _ walked leads marked marks gone _ e (AnswersIt v it) opens_it = absurd (cc)

    goes_open : (gone : Doing) (b : Bool) → b ≡ false → Goes k call first at gone b → doing new draft ≡ opened gone
        → Goal new after
    goes_open gone _ e (Waits busy is) opens_it = absurd (busy turn.idle)
    goes_open gone _ e (EndsEarly idle v so early answered settles) opens_it =
        early_open v so early gone answered e settles opens_it
    goes_open gone _ e (LacksIt idle root path walks need lack asks) opens_it =
        let in_call : IsLack m call need =
        subst (λ (l : Look Meant). IsFirstLack (held_of m) (needs_of (content m.cache) l) need)
        (sym (look_along root path walks)) lack in
        by_code (opened gone) (lacks_open need in_call gone asks) new draft after opens_it sends
    goes_open gone _ e (Finds idle root path walks v walked leads marked marks answered settles) opens_it =
        found_open root path walks v walked leads marked marks gone answered e settles opens_it
    goes_open gone _ e (IsRefused idle root path walks refusal walked marked marks settles) opens_it = absurd (cc)

    -- whatever becomes of it the machine runs on
    pub turn_runs : (gone : Doing) (answered : Bool) → Goes k call first at gone answered
        → doing new draft ≡ (if answered then gone else stays_open c first gone) → Goal new after
    turn_runs gone answered goes is = by_answered answered refl
      where
        by_answered : (b : Bool) → answered ≡ b → Goal new after
        by_answered true e =
            by_code gone (goes_answered script old m past cause came dues c first turn sound_m sound frees_it gone
            answered e goes) new draft after
            (is ∙ ap (λ (b : Bool). if b then gone else stays_open c first gone) e) sends
        by_answered false e =
            goes_open gone answered e goes
            (is ∙ ap (λ (b : Bool). if b then gone else stays_open c first gone) e
            ∙ stays_is c first gone (goes_asked k call first at gone answered e goes))
