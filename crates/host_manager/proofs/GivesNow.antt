-- A call whose turn it is ends the last use of a pinned token: that is given back, and the call is left open.
use Rattle.base_types.specs.Name.{same_name}
use Rattle.base_types.specs.declared.ids.FilesetId.{FilesetId}
use Rattle.base_types.specs.declared.ids.Node.TheVariants.{Host}
use Rattle.host_asks.specs.Asking.{Doing, doing}
use Rattle.host_asks.specs.Going.{GivesLabel, GivesUse as GivesUseOf}
use Rattle.host_asks.specs.Going.GivesUse.{EndsIt, HasEnded, IsLost, IsUnused}
use Rattle.host_calls.proofs.Starting.{starts_close, starts_unlock}
use Rattle.host_calls.specs.Looking.{AreUses, ending_of, freed_by, meant}
use Rattle.host_calls.specs.declared.looking.Verdict.TheVariants.{Frees, Gives}
use Rattle.host_gives.specs.Giving.{IsSound as IsSoundGives}
use Rattle.host_labels.specs.Labels.{IsSound as IsSoundUses, is_labelled, is_lock, use_of}
use Rattle.host_labels.specs.declared.uses.Labelled.{Labelled as UseOf}
use Rattle.host_leaves.specs.Owning.{has_label}
use Rattle.host_leaves.specs.Sending.{sending_due}
use Rattle.host_manager.proofs.CallDue.{syncs_given}
use Rattle.host_manager.proofs.EndsIt.{verdict_so}
use Rattle.host_manager.proofs.Freed.{end_is, modes, one_only}
use Rattle.host_manager.proofs.GivesStep.{no_sync}
use Rattle.host_manager.proofs.Running.{uses_are}
use Rattle.host_manager.proofs.Tests.{none_found}
use Rattle.host_manager.proofs.TurnDue.{IsTurnDue, draft_due, opens_it}
use Rattle.host_manager.proofs.TurnOpens.{IsAsked}
use Rattle.host_manager.proofs.Turns.{IsTurn, at_turn, turn_draft}
use Rattle.host_manager.proofs.UpsIt.{given_due, given_runs, it_ends}
use Rattle.host_manager.specs.Running.{RunsOn}
use Rattle.host_tables.proofs.Lists.{by_test, filter_in, in_any, names_are}
use Rattle.host_tables.proofs.Outstanding.{found_in}
use Rattle.host_tables.proofs.Resting.{give_rests}
use Rattle.host_tables.specs.Answering.{GivesForCall}
use Rattle.host_tables.specs.Drafts.{step_of}
use Rattle.host_tables.specs.Half.{learning}
use Rattle.host_tables.specs.Quiet.{with_moved}
use Rattle.host_tables.specs.Stands.{IsAtRest, IsCoveredFrom, Stands, look_from, needs_from, verdict_from}
use Rattle.host_tables.specs.Tables.{content, ends_label, gives_label, held_of, is_last_pinned, labelled}
use Rattle.host_tables.specs.declared.draft.Draft.{Draft}
use Rattle.host_tables.specs.declared.tables.Tables.{Tables}
use Rattle.message_types.specs.declared.giving.Give.{Give}
use Rattle.message_types.specs.declared.message.Message.{Message}
use Rattle.need_host.specs.Calls.Verdict.{Frees as FreesOf, Gives as GivesOf}
use Rattle.need_host.specs.Looks.{CoverAll, outcome}
use Rattle.need_host.specs.Looks.Look.{Ends as EndsOf}
use Rattle.run_rules.specs.HostDue.{HostDue}
use Rattle.run_rules.specs.Messages.{HasKeptToken}
use Rattle.run_rules.specs.Past.{In}
use Rattle.run_rules.specs.Tokens.{FreesPinned, HasEndedUse, LabelInUse, Made, end_of}
use Rattle.run_rules.specs.declared.step.Asked.{Asked}
use Rattle.run_rules.specs.declared.step.Cause.{Cause}
use Rattle.run_rules.specs.declared.step.Labelled.{Labelled}
use Rattle.run_rules.specs.declared.step.Step.{Step}
use Rattle.script_lines.specs.declared.script.Script.{Script}
use Rattle.std.proofs.Common.{Bool, Err, List, None, Ok, Option, Some, [], ap, false, filter, if◌then◌else◌}
use Rattle.std.proofs.Common.{inl, inr, not, refl, subst, sym, true, ℕ, ◌&&◌, ◌||◌, ◌∙◌, ◌∷◌, ◌≡◌}
use Rattle.std.proofs.lemmas.Bool.{and_parts}
use Rattle.std.specs.Bool.{beq}
use Rattle.std.specs.List.{list_any}
use Rattle.token_types.specs.declared.token.Token.{Token}
use Rattle.token_types.specs.declared.token.TokenId.{TokenId}
use Rattle.tree_calls.specs.declared.call.Call.{Call}
use Rattle.tree_calls.specs.declared.reply.Refusal.TheVariants.{NotLocked, NotOpened}
use Rattle.host_manager.proofs.TurnOpens as opens
use Rattle.host_manager.proofs.Turns as turns
use Rattle.host_tables.proofs.Ending as ending

-- a give-back that ended a use was made
ended_made : (past : List Step) (g : Give) (u : Labelled) → HasEndedUse past g u → Made past g
ended_made [] g u o = elim o [ ]
ended_made (s ∷ past) g u (inl o) = inl o.0
ended_made (s ∷ past) g u (inr o) = inr (ended_made past g u o)

or_none : (b : Bool) → (b || false) ≡ true → b ≡ true
or_none true e = refl
or_none false e = e

module _ (script : Script) (old m : Tables) (past : List Step) (cause : Cause) (came : List Token)
    (dues : List FilesetId) (c : Asked) (first : Bool) (turn : IsTurn script old m past cause came dues c first)
    (sound_m : IsSoundGives m.gives) (sound : IsSoundUses m.uses) where
  abbrev call : Call
  call = c.call

  abbrev k : ℕ
  k = c.k

  abbrev h : Step
  h = learning m.host cause came

  abbrev begun : Tables
  begun = at_turn m first

  abbrev draft_0 : Draft
  draft_0 = turn_draft came dues

  -- it is left open
  abbrev pub opened : Doing → Doing
  opened gone = doing (record gone.tables { call = Some c })
      (record gone.draft { asked = if first then Some c else None })

  abbrev Goal : Tables → Draft → Type 0
  Goal new after = RunsOn script old new past (step_of (Host m.host) cause after)

  stands : Stands script m (h ∷ past)
  stands = turn.learnt

  abbrev draft_s : Draft
  draft_s = record draft_0 { asked = if first then Some c else None }

  begins_s : turns.BeginsTurn script old m past cause came dues c first turn draft_s
  begins_s = opens_it script old m past cause came dues c first turn draft_s refl refl

  uses_m : AreUses m
  uses_m = uses_are script m (h ∷ past) stands

  -- a host that has no such label refuses
  refused_so : (lock : Bool) (label : List ℕ) → has_label m lock label ≡ false
      → verdict_from m (ending_of lock label) ≡ GivesOf → ⊥
  refused_so lock label none verdict =
      by_lock lock (sym (ap (λ (b : Bool). meant m (ending_of lock label)
      (if not b then Err (if lock then NotLocked else NotOpened)
      else Ok (if gives_label m lock label then Gives else Frees))) none)
      ∙ sym (ap (outcome (content m.cache)) (starts lock)) ∙ verdict)
    where
      starts : (b : Bool) → look_from m (ending_of b label) ≡ EndsOf (meant m (ending_of b label) (freed_by m b label))
      starts true = starts_unlock m label uses_m
      starts false = starts_close m label uses_m

      by_lock : (b : Bool) → meant m (ending_of lock label) (Err (if b then NotLocked else NotOpened)) ≡ GivesOf → ⊥
      by_lock true e = cc
      by_lock false e = cc

  -- # The use that ends
  module _ (lock : Bool) (label : List ℕ) (call_of : call ≡ ending_of lock label)
      (verdict : verdict_from m call ≡ GivesOf) (none_ends : m.ending ≡ None) where
    verdict_l : verdict_from m (ending_of lock label) ≡ GivesOf
    verdict_l = ap (verdict_from m) (sym call_of) ∙ verdict

    has : has_label m lock label ≡ true
    has = elim (by_test (has_label m lock label)) [
      | inl t ↦ t
      | inr n ↦ absurd (refused_so lock label n verdict_l)
    ]

    gives : gives_label m lock label ≡ true
    gives = elim (by_test (gives_label m lock label)) [
      | inl t ↦ t
      | inr n ↦
          let p : GivesOf ≡ FreesOf = sym verdict_l ∙ verdict_so m uses_m lock label has
          ∙ ap (λ (b : Bool). if b then GivesOf else FreesOf) n in absurd (cc)
    ]

    in_labels : list_any (is_labelled lock label) m.uses.labels ≡ true
    in_labels =
        or_none (list_any (is_labelled lock label) m.uses.labels)
        (ap (λ (o : Option Labelled). list_any (is_labelled lock label) m.uses.labels || ends_label lock label o)
        (sym none_ends) ∙ has)

    some_use : use_of m.uses lock label ≡ None → ⊥
    some_use none =
        let r = in_any (is_labelled lock label) m.uses.labels in_labels in
        none_found (is_labelled lock label) m.uses.labels none r.0 r.1 r.2

    module _ (used : UseOf) (found : use_of m.uses lock label ≡ Some used) where
      there : In used m.uses.labels × (is_labelled lock label used ≡ true)
      there = found_in (is_labelled lock label) m.uses.labels used found

      same_label : (lock ≡ is_lock used.token.kind) × (label ≡ used.label)
      same_label =
          let p = and_parts (beq (is_lock used.token.kind) lock) (same_name used.label label) there.1 in
          (sym (modes (is_lock used.token.kind) lock p.0), sym (names_are used.label label p.1))

      call_is : call ≡ end_of (labelled used)
      call_is = call_of ∙ (λ i. ending_of (same_label.0 i) (same_label.1 i))
          ∙ sym (end_is used.token.kind used.label (stands.uses.kinds (labelled used)
          (stands.uses.used used there.0)))

      the_label : (w : UseOf) → In w m.uses.labels → is_labelled lock label w ≡ true → w ≡ used
      the_label w i e = one_only (filter (is_labelled lock label) m.uses.labels) w used (sound.once lock label)
          (filter_in (is_labelled lock label) m.uses.labels w i e)
          (filter_in (is_labelled lock label) m.uses.labels used there.0 there.1)

      last : is_last_pinned m.uses used ≡ true
      last =
          let p : (list_any (λ w. is_labelled lock label w && is_last_pinned m.uses w) m.uses.labels || false) ≡ true =
          ap (λ (o : Option Labelled). list_any (λ w. is_labelled lock label w && is_last_pinned m.uses w) m.uses.labels
          || ends_label lock label o) (sym none_ends) ∙ gives in
          let r = in_any (λ w. is_labelled lock label w && is_last_pinned m.uses w) m.uses.labels
          (or_none (list_any (λ w. is_labelled lock label w && is_last_pinned m.uses w) m.uses.labels) p) in
          let q = and_parts (is_labelled lock label r.0) (is_last_pinned m.uses r.0) r.2 in
          subst (λ (w : UseOf). is_last_pinned m.uses w ≡ true) (the_label r.0 r.1 q.0) q.1

      found_used : use_of m.uses (is_lock used.token.kind) used.label ≡ Some used
      found_used = (λ i. use_of m.uses (sym same_label.0 i) (sym same_label.1 i)) ∙ found

      label_is : call ≡ ending_of (is_lock used.token.kind) used.label
      label_is = call_of ∙ (λ i. ending_of (same_label.0 i) (same_label.1 i))

      pub gives_used : (gone : Doing) → GivesLabel k call (doing begun draft_0) gone
          → (new : Tables) (draft after : Draft) → doing new draft ≡ opened gone
          → after ≡ sending_due new draft → IsSoundGives new.gives → Goal new after
      gives_used gone it new draft after is sends sound_new =
          let it_u = subst (λ (x : Call). GivesLabel k x (doing begun draft_0) gone) label_is it in
          let r = it_ends script old m past cause came dues c first turn sound_m sound used there.0 found_used last
          none_ends call_is verdict gone it_u in
          given_runs script old m past cause came dues c first turn sound_m sound used there.0 found_used last
          none_ends call_is verdict gone r.0 r.1 r.2 new draft after
          is sends sound_new

      pub used_due : IsTurnDue m past cause came dues first → (gone : Doing)
          → GivesLabel k call (doing begun draft_0) gone → (new : Tables) (draft after : Draft)
          → doing new draft ≡ opened gone → after ≡ sending_due new draft → IsSoundGives new.gives → Goal new after
          → HostDue script old.host past (step_of (Host m.host) cause after)
      used_due by gone it new draft after is sends sound_new runs =
          let it_u = subst (λ (x : Call). GivesLabel k x (doing begun draft_0) gone) label_is it in
          let r = it_ends script old m past cause came dues c first turn sound_m sound used there.0 found_used last
          none_ends call_is verdict gone it_u in
          given_due script old m past cause came dues c first turn sound_m sound used there.0 found_used last
          none_ends call_is verdict gone r.0 r.1 r.2 by new draft after is sends sound_new runs

  -- # It was ended, and waits on
  module _ (u : Labelled) (ends : m.ending ≡ Some u) (verdict : verdict_from m call ≡ GivesOf) where
    abbrev silent : Tables
    silent = with_moved m (opens.with_open script old m past cause came dues c first turn sound_m m.sites m.request
        m.fetched m.changed)

    none_own : (y : Message) → In y [] → IsAsked y.body
    none_own y i = elim i [ ]

    abbrev sent_0 : List Message
    sent_0 = opens.sent_by script old m past cause came dues c first turn sound_m silent refl refl (λ v. refl) []
        none_own

    with_0 : turns.SaysWith script old m past cause came dues c first turn [] sent_0
    with_0 = opens.with_by script old m past cause came dues c first turn sound_m silent refl refl (λ v. refl) []
        none_own

    abbrev s_0 : Step
    s_0 = opens.s_0 script old m past cause came dues c first turn sound_m sent_0 with_0

    still : (g : Give) → Made (h ∷ past) g → Made (s_0 ∷ past) g
    still g (inl i) = elim i [ ]
    still g (inr i) = inr i

    call_is_u : call ≡ end_of u
    call_is_u = (turn.ending u ends).1

    covered : IsCoveredFrom m call
    covered = subst (CoverAll (held_of m)) (sym (ap (needs_from m) call_is_u ∙ ending.end_needs m u)) tt

    none_kept : (i : TokenId) → HasKeptToken (s_0 ∷ past) i → HasKeptToken past i
    none_kept i (inl k) = elim (with_0.said k.4.0 k.4.1) [
      | inl j ↦ elim j [ ]
      | inr due ↦ (let p = sym due.body ∙ k.4.5 in absurd (cc))
    ]
    none_kept i (inr k) = k.0

    -- the host rested before with this call open: no label that it ends was the last use of a pinned token
    none_frees : (w : Labelled) → call ≡ end_of w → FreesPinned (s_0 ∷ past) w → ⊥
    none_frees w e f =
        turn.running.rests.rest.freed c w
        (turns.was_open script old m past cause came dues c first turn (turn.ending u ends).0) e (
          (use_before w f.0.0, λ other o q. f.0.1 other (inr (o, (λ x. elim x.1 [ ]), λ g i. elim i [ ])) q),
          none_kept w.token.id f.1,
        )
      where
        use_before : (x : Labelled) → LabelInUse (s_0 ∷ past) x → LabelInUse past x
        use_before x (inl b) = elim b [ ]
        use_before x (inr b) = b.0

    rest : IsAtRest silent (s_0 ∷ past)
    rest =
        let r = (stands.leaving.ends u ends).1 in
        give_rests silent (s_0 ∷ past) c r.0 refl verdict covered (still r.0 (made_by r.0 r.1)) r.2
        (λ place fid w e. absurd (no_sync u.token.kind u.label place (sym call_is_u ∙ e)))
        (λ w e f. none_frees w e f)
      where
        made_by : (g : Give) → HasEndedUse (h ∷ past) g u → Made (h ∷ past) g
        made_by g o = ended_made (h ∷ past) g u o

    pub waits_still : (gone : Doing) → gone ≡ doing begun draft_0 → (new : Tables) (draft after : Draft)
        → doing new draft ≡ opened gone → after ≡ sending_due new draft → Goal new after
    waits_still gone same new draft after is sends =
        let whole = is ∙ ap opened same in
        subst (λ (q : Tables × Draft). Goal q.0 q.1)
        (λ i. (
          (sym (ap (λ (z : Doing). z.tables) whole)) i,
          (sym (sends ∙ (λ j. sending_due (whole j).tables (whole j).draft))) i,
        ))
        (opens.by_code script old m past cause came dues c first turn sound_m silent refl refl (λ v. refl) [] none_own
        (opens.waits_now script old m past cause came dues c first turn sound_m sent_0 with_0 rest))

    -- nothing is due of it
    gives_still : GivesForCall m past (turns.by script old m past cause came dues c first turn draft_s)
    gives_still = syncs_given script m past cause came stands call
        (turns.by script old m past cause came dues c first turn draft_s)
        (λ n other has. (turns.only_it script old m past cause came dues c first turn draft_s begins_s n other has).1)
        (λ place fid w is. absurd (no_sync u.token.kind u.label place (sym call_is_u ∙ is)))
        (λ w e f. absurd (turn.running.rests.rest.freed c w
        (turns.was_open script old m past cause came dues c first turn (turn.ending u ends).0) e f))

    pub waits_due : IsTurnDue m past cause came dues first → (gone : Doing) → gone ≡ doing begun draft_0
        → (new : Tables) (draft after : Draft) → doing new draft ≡ opened gone → after ≡ sending_due new draft
        → Goal new after → HostDue script old.host past (step_of (Host m.host) cause after)
    waits_due by gone same new draft after is sends runs =
        let whole : doing new draft ≡ doing (record begun { call = Some c }) draft_s = is ∙ ap opened same in
        let all : after ≡ sending_due (record begun { call = Some c }) draft_s =
        sends ∙ (λ i. sending_due (whole i).tables (whole i).draft) in
        subst (λ (d : Draft). HostDue script old.host past (step_of (Host m.host) cause d)) (sym all)
        (draft_due script old m past cause came dues c first turn by (record begun { call = Some c }) sound_m draft_s
        refl
        begins_s (subst (λ (q : Tables × Draft). Goal q.0 q.1) (λ i. ((whole i).tables, all i)) runs) gives_still
        (λ y i. elim i [ ]) tt by.fresh by.once_dues (λ l i. elim i [ ]) tt tt (λ y i e. elim i [ ]))

  pub gives_now : verdict_from m call ≡ GivesOf → (gone : Doing) → GivesLabel k call (doing begun draft_0) gone
      → (new : Tables) (draft after : Draft) → doing new draft ≡ opened gone
      → after ≡ sending_due new draft → IsSoundGives new.gives → Goal new after
  gives_now verdict gone it new draft after is sends sound_new = by_case it.gives
    where
      by_used : m.ending ≡ None → (used : UseOf) → use_of m.uses it.lock it.label ≡ Some used → Goal new after
      by_used none used found = gives_used it.lock it.label it.call_is verdict none used found gone it new draft after
          is sends sound_new

      by_ending : (o : Option Labelled) → m.ending ≡ o → (o ≡ None → ⊥) → gone ≡ doing begun draft_0 → Goal new after
      by_ending None e busy same = absurd (busy refl)
      by_ending (Some u) e busy same = waits_still u e verdict gone same new draft after is sends

      by_unused : (o : Option Labelled) → m.ending ≡ o → use_of m.uses it.lock it.label ≡ None
          → gone ≡ doing begun draft_0 → Goal new after
      by_unused None e none same = absurd (some_use it.lock it.label it.call_is verdict e none)
      by_unused (Some u) e none same = waits_still u e verdict gone same new draft after is sends

      by_case : GivesUseOf it.lock it.label k (doing begun draft_0) gone → Goal new after
      by_case (HasEnded busy same) = by_ending m.ending refl busy same
      by_case (IsUnused none same) = by_unused m.ending refl none same
      by_case (IsLost idle used found lost ended ends same) = by_used idle used found
      by_case (EndsIt idle used found ended ends leaves) = by_used idle used found

  -- what is due of it
  abbrev pub DueOf : Draft → Type 0
  DueOf after = HostDue script old.host past (step_of (Host m.host) cause after)

  pub use_due : IsTurnDue m past cause came dues first → verdict_from m call ≡ GivesOf → (gone : Doing)
      → GivesLabel k call (doing begun draft_0) gone → (new : Tables) (draft after : Draft)
      → doing new draft ≡ opened gone → after ≡ sending_due new draft → IsSoundGives new.gives → Goal new after
      → HostDue script old.host past (step_of (Host m.host) cause after)
  use_due by verdict gone it new draft after is sends sound_new runs = by_case it.gives
    where
      by_used : m.ending ≡ None → (used : UseOf) → use_of m.uses it.lock it.label ≡ Some used → DueOf after
      by_used none used found = used_due it.lock it.label it.call_is verdict none used found by gone it new draft after
          is sends sound_new runs

      by_ending : (o : Option Labelled) → m.ending ≡ o → (o ≡ None → ⊥) → gone ≡ doing begun draft_0 → DueOf after
      by_ending None e busy same = absurd (busy refl)
      by_ending (Some u) e busy same = waits_due u e verdict by gone same new draft after is sends runs

      by_unused : (o : Option Labelled) → m.ending ≡ o → use_of m.uses it.lock it.label ≡ None
          → gone ≡ doing begun draft_0 → DueOf after
      by_unused None e none same = absurd (some_use it.lock it.label it.call_is verdict e none)
      by_unused (Some u) e none same = waits_due u e verdict by gone same new draft after is sends runs

      by_case : GivesUseOf it.lock it.label k (doing begun draft_0) gone → DueOf after
      by_case (HasEnded busy same) = by_ending m.ending refl busy same
      by_case (IsUnused none same) = by_unused m.ending refl none same
      by_case (IsLost idle used found lost ended ends same) = by_used idle used found
      by_case (EndsIt idle used found ended ends leaves) = by_used idle used found
