-- A call whose turn it is ends the last use of a pinned token, by what the code tells.
use Rattle.base_types.specs.Ids.{same_fid}
use Rattle.base_types.specs.declared.ids.Fid.{Fid}
use Rattle.base_types.specs.declared.ids.FilesetId.{FilesetId}
use Rattle.base_types.specs.declared.ids.Node.TheVariants.{Host}
use Rattle.host_asks.specs.Asking.{Doing, doing}
use Rattle.host_asks.specs.Going.{GivesLabel, GivesUse as GivesUseOf}
use Rattle.host_asks.specs.Going.GivesUse.{EndsIt, HasEnded, IsLost, IsUnused}
use Rattle.host_cache.specs.Seen.{after_drop, seen}
use Rattle.host_calls.specs.Answering.{EndsUse as EndsUseOf, still_used}
use Rattle.host_calls.specs.Looking.{ending_of}
use Rattle.host_dirty.specs.Dirtiness.{is_dirty as is_dirty_in}
use Rattle.host_gives.specs.Counters.{last_of as last_counter}
use Rattle.host_gives.specs.Giving.{IsSound as IsSoundGives, outstanding}
use Rattle.host_labels.specs.Labels.{IsSound as IsSoundUses, after_drop as without_use, is_lock, use_of}
use Rattle.host_labels.specs.declared.uses.Labelled.{Labelled as UseOf}
use Rattle.host_leaves.specs.Giving.{LeavesGiven, given_tables, leaves_by, making}
use Rattle.host_leaves.specs.Sending.{message_to, sending_due, with_once}
use Rattle.host_manager.proofs.CallDue.{syncs_given}
use Rattle.host_manager.proofs.Freed.{end_is}
use Rattle.host_manager.proofs.GivenUp.{covers_none, drop_marked, left_by_use, marked_size, marked_tokens, same_dirty}
use Rattle.host_manager.proofs.GivesStep.{no_sync}
use Rattle.host_manager.proofs.NewGive.{all_fresh, all_once}
use Rattle.host_manager.proofs.OneFile.{IsGiven}
use Rattle.host_manager.proofs.Repeated.{with_once_has, with_once_keeps}
use Rattle.host_manager.proofs.TurnDue.{IsTurnDue, draft_due, opens_it}
use Rattle.host_manager.proofs.Turns.{IsTurn, at_turn, turn_draft}
use Rattle.host_manager.specs.Running.{RunsOn}
use Rattle.host_tables.specs.Answering.{GivesForCall}
use Rattle.host_tables.specs.Drafts.{step_of}
use Rattle.host_tables.specs.Half.{learning}
use Rattle.host_tables.specs.Stands.{Stands, verdict_from}
use Rattle.host_tables.specs.Tables.{held_of, is_last_pinned, labelled}
use Rattle.host_tables.specs.Updates.{home_at}
use Rattle.host_tables.specs.declared.draft.Draft.{Draft}
use Rattle.host_tables.specs.declared.tables.Tables.{Tables}
use Rattle.message_types.specs.declared.giving.Ends.{Ends}
use Rattle.message_types.specs.declared.giving.Give.{Give}
use Rattle.message_types.specs.declared.message.Body.TheVariants.{GiveBack}
use Rattle.message_types.specs.declared.message.Message.{Message}
use Rattle.need_host.specs.Calls.Verdict.{Gives as GivesOf}
use Rattle.run_rules.specs.HostDue.{HostDue}
use Rattle.run_rules.specs.Past.{In}
use Rattle.run_rules.specs.Tokens.{AtHand, FreesPinned, GivesUse, IsOutstanding, end_of}
use Rattle.run_rules.specs.declared.applied.Leave.{Leave}
use Rattle.run_rules.specs.declared.applied.Why.TheVariants.{Ended as AtEnd, ForCall}
use Rattle.run_rules.specs.declared.step.Asked.{Asked}
use Rattle.run_rules.specs.declared.step.Cause.{Cause}
use Rattle.run_rules.specs.declared.step.Labelled.{Labelled}
use Rattle.run_rules.specs.declared.step.Step.{Step}
use Rattle.script_lines.specs.declared.script.Script.{Script}
use Rattle.std.proofs.Common.{Bool, List, None, Option, Some, [], ap, arith, false, if◌then◌else◌, inl, inr, is_none}
use Rattle.std.proofs.Common.{not, refl, subst, sym, true, ℕ, ◌&&◌, ◌++◌, ◌+◌, ◌∙◌, ◌∷◌, ◌≡◌}
use Rattle.token_types.specs.declared.token.Token.{Token}
use Rattle.tree_calls.specs.declared.call.Call.{Call}
use Rattle.host_manager.proofs.GivesStep as gives_step
use Rattle.host_manager.proofs.GivesUp as gives_up
use Rattle.host_manager.proofs.Turns as turns
use Rattle.host_tables.proofs.Standing as standing

-- the label by its call
pub end_label : (a b : Bool) (x y : List ℕ) → ending_of a x ≡ ending_of b y → (a ≡ b) × (x ≡ y)
end_label true true x y e = (refl, let q = e in cc)
end_label true false x y e = absurd (cc)
end_label false true x y e = absurd (cc)
end_label false false x y e = (refl, let q = e in cc)

module _ (script : Script) (old m : Tables) (past : List Step) (cause : Cause) (came : List Token)
    (dues : List FilesetId) (c : Asked) (first : Bool) (turn : IsTurn script old m past cause came dues c first)
    (sound_m : IsSoundGives m.gives) (sound : IsSoundUses m.uses) (used : UseOf) (within : In used m.uses.labels)
    (found : use_of m.uses (is_lock used.token.kind) used.label ≡ Some used)
    (last : is_last_pinned m.uses used ≡ true) (none_ending : m.ending ≡ None)
    (call_c : c.call ≡ end_of (labelled used)) (verdict : verdict_from m c.call ≡ GivesOf) where
  abbrev lock : Bool
  lock = is_lock used.token.kind

  abbrev label : List ℕ
  label = used.label

  abbrev k : ℕ
  k = c.k

  abbrev t : Token
  t = used.token

  abbrev begun : Tables
  begun = at_turn m first

  abbrev draft_0 : Draft
  draft_0 = turn_draft came dues

  -- it is left open
  abbrev pub opened : Doing → Doing
  opened gone = doing (record gone.tables { call = Some c })
      (record gone.draft { asked = if first then Some c else None })

  stands : Stands script m (learning m.host cause came ∷ past)
  stands = turn.learnt

  call_is : ending_of lock label ≡ end_of (labelled used)
  call_is = sym (end_is t.kind label (stands.uses.kinds (labelled used) (stands.uses.used used within)))

  t_held : In t (held_of m)
  t_held = stands.cache.cached t (stands.uses.held (labelled used) (stands.uses.used used within))

  abbrev Ended : Tables → Type 0
  Ended ended = EndsUseOf begun lock label used ended

  abbrev Left : Tables → Doing → Type 0
  Left ended gone = LeavesGiven (record ended { ending = Some (labelled used) }) draft_0 t.fid (t ∷ [])
      (Some (record { k = c.k; call = end_of (labelled used) })) gone.tables gone.draft

  -- the use ends, and the token leaves
  pub it_ends : (gone : Doing) → GivesLabel k (ending_of lock label) (doing begun draft_0) gone
      → (ended : Tables) × Ended ended × Left ended gone
  it_ends gone it = by_case (subst (λ (q : Bool × List ℕ). GivesUseOf q.0 q.1 k (doing begun draft_0) gone)
      (λ i. (sym same.0 i, sym same.1 i)) it.gives)
    where
      same : (lock ≡ it.lock) × (label ≡ it.label)
      same = end_label lock it.lock label it.label it.call_is

      is_used : (v : UseOf) → use_of m.uses lock label ≡ Some v → v ≡ used
      is_used v e = let p : Some v ≡ Some used = sym e ∙ found in cc

      by_case : GivesUseOf lock label k (doing begun draft_0) gone → (ended : Tables) × Ended ended × Left ended gone
      by_case (HasEnded busy is) = absurd (busy none_ending)
      by_case (IsUnused none is) = absurd (let p = sym none ∙ found in cc)
      by_case (IsLost idle v e lost ended ends is) =
          absurd (lost (subst (λ (z : UseOf). In z.token (held_of m)) (sym (is_used v e)) t_held))
      by_case (EndsIt idle v e ended ends leaves) =
          let is = is_used v e in (
            ended,
            subst (λ (z : UseOf). EndsUseOf begun lock label z ended) is ends,
            subst (λ (z : Call). LeavesGiven (record ended { ending = Some (labelled used) }) draft_0 t.fid (t ∷ [])
                (Some (record { k = c.k; call = z })) gone.tables gone.draft) call_is
                (subst (λ (z : UseOf). LeavesGiven (record ended { ending = Some (labelled z) }) draft_0 z.token.fid
                (z.token ∷ []) (Some (record { k = c.k; call = ending_of lock label })) gone.tables gone.draft)
                is leaves),
          )

  module _ (gone : Doing) (ended : Tables) (ends : Ended ended) (leaves : Left ended gone) where
    abbrev mid : Tables
    mid = record ended { ending = Some (labelled used) }

    abbrev mid_by : Tables
    mid_by = record begun {
      uses = without_use m.uses lock label;
      cache = ended.cache;
      ending = Some (labelled used);
    }

    mid_is : mid ≡ mid_by
    mid_is = ap (λ (z : Tables). record z { ending = Some (labelled used) }) ends.tables

    abbrev still : Bool
    still = still_used m lock label used

    abbrev E : Ends
    E = record { k = c.k; call = end_of (labelled used) }

    abbrev g : Give
    g = record leaves.gives.give { ends = Some E }

    given : IsGiven m t.fid (t ∷ []) (t ∷ []) g
    given = record {
      number = leaves.gives.so.number
          ∙ ap (λ (z : Tables). last_counter z.gives.counters t.fid.fileset + 1) mid_is;
      file = leaves.gives.so.file;
      ids = leaves.gives.so.ids;
      pieces = left_by_use m mid t g.pieces (stands.uses.kinds (labelled used) (stands.uses.used used within))
          leaves.gives.so.pieces;
      length = leaves.gives.so.length
          ∙ same_dirty m mid t.fid (marked_tokens m.cache ended.cache t.id still ends.shown)
          (ap (λ (z : Tables). z.lengths) mid_is) (marked_size m.cache ended.cache t.id still t.fid ends.shown);
    }

    cleans : (other : Fid) (at : ℕ) → is_dirty_in leaves.given.dirty other at ≡ is_dirty_in m.dirty other at
    cleans other at =
        leaves.gives.cleans.bytes other at
        ∙ ap (λ (b : Bool). is_dirty_in mid.dirty other at && not (same_fid t.fid other && b))
        (covers_none mid t at (stands.uses.kinds (labelled used) (stands.uses.used used within)))
        ∙ by_both (is_dirty_in mid.dirty other at) (same_fid t.fid other)
        ∙ ap (λ (z : Tables). is_dirty_in z.dirty other at) mid_is
      where
        by_both : (b c : Bool) → (b && not (c && false)) ≡ b
        by_both true true = refl
        by_both true false = refl
        by_both false c = refl

    given_cache : seen leaves.given.cache ≡ seen ended.cache
    given_cache = ap (λ (z : Tables). seen z.cache) leaves.gives.tables

    shown : seen gone.tables.cache ≡ after_drop (seen m.cache) t.id
    shown = drop_marked m.cache ended.cache gone.tables.cache t.id still ends.shown
        (leaves.drops.shown ∙ ap (λ s. after_drop s t.id) given_cache)

    abbrev dues_by : Bool → List FilesetId
    dues_by b = if b then with_once dues g.fid.fileset else dues

    abbrev all : List FilesetId
    all = dues_by (is_none (outstanding m.gives g.fid.fileset))

    more : (fs : FilesetId) → In fs dues → In fs all
    more fs i = by_one (is_none (outstanding m.gives g.fid.fileset))
      where
        by_one : (b : Bool) → In fs (dues_by b)
        by_one true = with_once_keeps dues g.fid.fileset fs i
        by_one false = i

    has_due : outstanding m.gives g.fid.fileset ≡ None → In g.fid.fileset all
    has_due e = subst (λ (b : Bool). In g.fid.fileset (dues_by b)) (sym (ap (λ (o : Option Message). is_none o) e))
        (with_once_has dues g.fid.fileset)

    abbrev x : Tables
    x = gives_step.x script old m past cause came dues c first turn sound_m sound used within last none_ending call_c
        verdict gone.tables.cache
        leaves.given.dirty g given refl cleans shown all more has_due

    tables_is : record gone.tables { call = Some c } ≡ x
    tables_is =
        ap (λ (z : Tables). record z { call = Some c }) leaves.drops.tables
        ∙ ap (λ (z : Tables). record z {
          cache = gone.tables.cache;
          call = Some c;
        })
        leaves.gives.tables
        ∙ ap (λ (z : Tables). record (given_tables z g (t ∷ []) leaves.given) {
          cache = gone.tables.cache;
          call = Some c;
        }) mid_is

    abbrev start : Draft
    start = record draft_0 {
      asked = if first then Some c else None;
      made = g ∷ [];
      dropped = leaves_by ForCall t ∷ [];
      due = all;
    }

    made_is : (b : Bool) → record (if b then record draft_0 { due = with_once dues g.fid.fileset } else draft_0) {
      made = [] ++ g ∷ [];
    } ≡ record draft_0 { made = g ∷ []; due = dues_by b }
    made_is true = refl
    made_is false = refl

    draft_is : record gone.draft { asked = if first then Some c else None } ≡ start
    draft_is =
        ap (λ (d : Draft). record d { asked = if first then Some c else None }) leaves.drops.draft_is
        ∙ ap (λ (d : Draft). record d {
          asked = if first then Some c else None;
          dropped = d.dropped ++ leaves_by ForCall t ∷ [];
        }) (leaves.gives.draft_is ∙ ap (λ (z : Tables). making z g draft_0) mid_is
        ∙ made_is (is_none (outstanding m.gives g.fid.fileset)))

    begins_it : turns.BeginsTurn script old m past cause came dues c first turn start
    begins_it = opens_it script old m past cause came dues c first turn start refl refl

    pub given_runs : (new : Tables) (draft after : Draft) → doing new draft ≡ opened gone
        → after ≡ sending_due new draft → IsSoundGives new.gives
        → RunsOn script old new past (step_of (Host m.host) cause after)
    given_runs new draft after is sends sound_new =
        let tables : new ≡ x = ap (λ (z : Doing). z.tables) is ∙ tables_is in
        let drafts : draft ≡ start = ap (λ (z : Doing). z.draft) is ∙ draft_is in
        let sound_l = subst (λ (z : Tables). IsSoundGives z.gives) tables sound_new in
        let done : Step = gives_step.s script old m past cause came dues c first turn sound_m sound used within last
        none_ending call_c verdict gone.tables.cache
        leaves.given.dirty g given refl cleans shown all more has_due sound_l in
        let step : step_of (Host m.host) cause after ≡ done =
        ap (step_of (Host m.host) cause) (sends ∙ (λ i. sending_due (tables i) (drafts i)))
        ∙ gives_step.step_is script old m past cause came dues c first turn sound_m sound used within last none_ending
        call_c verdict gone.tables.cache
        leaves.given.dirty g given refl cleans shown all more has_due sound_l in
        subst (λ (q : Tables × Step). RunsOn script old q.0 past q.1) (λ i. (sym tables i, sym step i))
        (gives_step.runs script old m past cause came dues c first turn sound_m sound used within last none_ending
        call_c verdict gone.tables.cache
        leaves.given.dirty g given refl cleans shown all more has_due sound_l)

    -- # What is due of it
    -- its call gives the use back, and is no Sync
    gives_for : GivesForCall m past (turns.by script old m past cause came dues c first turn start)
    gives_for = syncs_given script m past cause came stands c.call
        (turns.by script old m past cause came dues c first turn start)
        (λ n other has. (turns.only_it script old m past cause came dues c first turn start begins_it n other has).1)
        (λ place fid w is. absurd (no_sync t.kind label place (sym call_c ∙ is))) frees
      where
        frees : (w : Labelled) → c.call ≡ end_of w → FreesPinned past w → (k : Give) × In k (g ∷ []) × GivesUse k w
        frees w is f =
            let v : UseOf = record { label = w.label; token = w.token } in
            let i = stands.uses.labels w
            (standing.used_after script m past (learning m.host cause came) stands w f.0.0) in
            let e = gives_up.end_same script m past cause came stands sound used within last w (sym call_c ∙ is) in
            let same : v ≡ used = gives_up.the_label script m past cause came stands sound used within last v i
            (gives_up.labelled_by script m past cause came stands sound used within last v i e) in (
              g,
              inl refl,
              subst (GivesUse g) (sym (ap labelled same)) (gives_up.gives_use script m past cause came stands sound used
                  within last c.k none_ending gone.tables.cache leaves.given.dirty g given refl cleans shown
                  (message_to m (home_at g.fid.fileset) (GiveBack g)) refl),
            )

    -- it is new
    new_give : IsOutstanding past g → ⊥
    new_give o =
        let low = stands.gives.last g (inr o.made) in
        let number = given.number in
        let at = ap (λ (f : Fid). last_counter m.gives.counters f.fileset) given.file in
        omega (arith, low, number, at)

    module _ (by : IsTurnDue m past cause came dues first) where
      abbrev back : Message
      back = message_to m (home_at g.fid.fileset) (GiveBack g)

      pub given_due : (new : Tables) (draft after : Draft) → doing new draft ≡ opened gone
          → after ≡ sending_due new draft → IsSoundGives new.gives
          → RunsOn script old new past (step_of (Host m.host) cause after)
          → HostDue script old.host past (step_of (Host m.host) cause after)
      given_due new draft after is sends sound_new runs =
          let tables : new ≡ x = ap (λ (z : Doing). z.tables) is ∙ tables_is in
          let drafts : draft ≡ start = ap (λ (z : Doing). z.draft) is ∙ draft_is in
          let whole : after ≡ sending_due x start = sends ∙ (λ i. sending_due (tables i) (drafts i)) in
          subst (λ (d : Draft). HostDue script old.host past (step_of (Host m.host) cause d)) (sym whole)
          (draft_due script old m past cause came dues c first turn by x
          (subst (λ (z : Tables). IsSoundGives z.gives) tables sound_new) start refl begins_it
          (subst (λ (q : Tables × Draft). RunsOn script old q.0 past (step_of (Host m.host) cause q.1))
          (λ i. (tables i, whole i)) runs) gives_for (λ y i. elim i [ ]) tt
          (all_fresh m past dues g back refl new_give by.fresh)
          (all_once m past dues g back refl new_give by.fresh by.once_dues)
          (λ w i. elim i [
            | inl e ↦ (
              subst (λ (z : Leave).
                  AtHand (turns.by script old m past cause came dues c first turn start) past z.token)
                  (sym e) (standing.hand_of script m past (learning m.host cause came) stands t t_held),
              λ q. let p : ForCall ≡ AtEnd = ap (λ (z : Leave). z.why) (sym e) ∙ q in cc,
            )
            | inr n ↦ elim n [ ]
          ]) ((λ i. i), tt) ((λ i. i), tt) (λ y i e. elim i [ ]))
