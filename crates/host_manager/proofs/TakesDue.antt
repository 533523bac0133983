-- What is due of the step of a message, whatever is open.
use Rattle.base_types.specs.declared.ids.FilesetId.{FilesetId}
use Rattle.base_types.specs.declared.ids.HostId.{HostId}
use Rattle.base_types.specs.declared.ids.Node.TheVariants.{Host}
use Rattle.host_asks.specs.Asking.{Doing, doing}
use Rattle.host_asks.specs.Going.{GoesOn}
use Rattle.host_cache.specs.Holding.{IsOnce}
use Rattle.host_gives.specs.Giving.{IsSound as IsSoundGives, is_of_file}
use Rattle.host_labels.specs.Labels.{IsSound as IsSoundUses}
use Rattle.host_leaves.specs.Sending.{filesets_given, sending_due, sending_give}
use Rattle.host_manager.proofs.AnswerDue.{answer_is_due, answer_turn}
use Rattle.host_manager.proofs.BringsIt.{done_after, done_takes, grant_after, grant_brings}
use Rattle.host_manager.proofs.Folding.{OnlySends, fold_only, giving_only, sends_on}
use Rattle.host_manager.proofs.GoneDue.{gone_is_due, gone_turn}
use Rattle.host_manager.proofs.GrantedOn.{not_used}
use Rattle.host_manager.proofs.HeardDue.{IsHeardDue}
use Rattle.host_manager.proofs.HeardGoes.{heard_all_due}
use Rattle.host_manager.proofs.HeardOn.{HasHeard}
use Rattle.host_manager.proofs.Heard.{done_of_server, half_by, hears_is, renewed_changes}
use Rattle.host_manager.proofs.LeftOnce.{left_once}
use Rattle.host_manager.proofs.QuietDue.{ignored_due, late_due, others_due}
use Rattle.host_manager.proofs.ReclaimedDue.{first_is_due, first_turn, reclaimed_is_due, reclaimed_turn}
use Rattle.host_manager.proofs.RestartedDue.{restarted_due}
use Rattle.host_manager.proofs.RevokesDue.{revoked_due}
use Rattle.host_manager.proofs.RevokesIt.{revoked_runs}
use Rattle.host_manager.proofs.SitesDue.{bye_due, renewed_due}
use Rattle.host_manager.proofs.TakenOnce.{held_once, taken_once}
use Rattle.host_manager.proofs.TurnDue.{IsTurnDue}
use Rattle.host_manager.proofs.Turns.{at_turn, turn_draft}
use Rattle.host_manager.specs.Due.{TakeDue}
use Rattle.host_manager.specs.Learning.{HasTaken, UsesBring, brings_uses, learning_given, may_use, renewed, taking}
use Rattle.host_manager.specs.Learning.{taking_from, with_floor_by}
use Rattle.host_manager.specs.Learning.UsesBring.{MayNot, UsesIt}
use Rattle.host_manager.specs.Running.{IsRunning}
use Rattle.host_manager.specs.Taking.{HearsMessage, IsHeard, IsOfStay, Takes, TakesBody, answers_change, answers_fetch}
use Rattle.host_manager.specs.Taking.{claimed_at, hearing, is_present, restarting, sending_to, told_by}
use Rattle.host_manager.specs.Taking.Takes.{HadRestarted, HasParted, HasRestarted, Hears, IsOld, Passes, TakesIt}
use Rattle.host_manager.specs.Taking.TakesBody.{IsDone, IsGone, IsGrant, IsLateDone, IsLateGrant, IsOther, IsRevoke}
use Rattle.host_tables.proofs.HeardDone.{unasked_done_stands}
use Rattle.host_tables.proofs.Heeding.{unasked_grant_stands}
use Rattle.host_tables.proofs.Lists.{by_test, true_false}
use Rattle.host_tables.specs.Drafts.{no_draft, step_of}
use Rattle.host_tables.specs.Heeding.{AnswersNoChange, AnswersNoFetch, IsForOthers, IsIgnored}
use Rattle.host_tables.specs.Heeding.IsIgnored.{OfOld, OfOther, OfOthers}
use Rattle.host_tables.specs.Hearing.{hears}
use Rattle.host_tables.specs.Stands.{CacheStands, IsAtRest, Stands}
use Rattle.host_tables.specs.Tables.{floor_of, site_at}
use Rattle.host_tables.specs.Updates.{home_at}
use Rattle.host_tables.specs.declared.draft.Draft.{Draft}
use Rattle.host_tables.specs.declared.sites.Site.{Site}
use Rattle.host_tables.specs.declared.tables.Tables.{Tables}
use Rattle.message_types.specs.Soundness.{IsSound}
use Rattle.message_types.specs.declared.giving.AppliedGive.{AppliedGive}
use Rattle.message_types.specs.declared.giving.Reclaimed.{Reclaimed as ReclaimedOf}
use Rattle.message_types.specs.declared.message.Body.{Body}
use Rattle.message_types.specs.declared.message.Body.TheVariants.{Done, Gone, Grant, Reclaimed, Restarted, Revoke}
use Rattle.message_types.specs.declared.message.Direction.TheVariants.{ToHost}
use Rattle.message_types.specs.declared.message.Message.{Message}
use Rattle.message_types.specs.declared.telling.Done.{Done as DoneOf}
use Rattle.message_types.specs.declared.telling.Grant.{Grant as GrantOf}
use Rattle.message_types.specs.declared.tokens.Revoke.{Revoke as RevokeOf}
use Rattle.run_rules.specs.HostDue.{HostDue}
use Rattle.run_rules.specs.Past.{EachOnce}
use Rattle.run_rules.specs.Tokens.{BringsUses}
use Rattle.run_rules.specs.declared.step.Asked.{Asked}
use Rattle.run_rules.specs.declared.step.Cause.TheVariants.{Message as Came}
use Rattle.run_rules.specs.declared.step.Step.{Step}
use Rattle.script_lines.specs.declared.script.Script.{Script}
use Rattle.std.proofs.Common.{Bool, List, None, Some, [], ap, arith, eq-eqb, eqb-true, false, fold, if◌then◌else◌, inl}
use Rattle.std.proofs.Common.{inr, ltb-true, refl, subst, sym, true, ◌<◌, ◌==◌, ◌∙◌, ◌∷◌, ◌≡◌}
use Rattle.std.proofs.lemmas.Bool.{and_from, and_parts, ltb-false}
use Rattle.std.specs.List.{list_any}
use Rattle.host_manager.proofs.Closed as closed_of
use Rattle.host_manager.proofs.DoneOn as done_of
use Rattle.host_manager.proofs.GoneOn as gone_of
use Rattle.host_manager.proofs.GrantedOn as granted_of
use Rattle.host_manager.proofs.ReclaimedOn as reclaimed_of
use Rattle.host_manager.proofs.TakeRuns as answers_of

-- what is due of a step that a message makes
abbrev pub DueOf : Script → Tables → List Step → Message → Doing → Type 0
DueOf script m past message at =
    HostDue script m.host past (step_of (Host m.host) (Came message) (sending_due at.tables at.draft))

module _ (script : Script) (m : Tables) (past : List Step) (message : Message) (running : IsRunning script m past)
    (sound : IsSound script.roster message) (host_is : message.host ≡ m.host) (way : message.direction ≡ ToHost)
    (gives : IsSoundGives m.gives) (uses : IsSoundUses m.uses) (held : IsOnce m.cache.held) where
  abbrev pub Goal : Doing → Type 0
  Goal at = DueOf script m past message at

  -- nothing changes
  abbrev same : Doing
  same = doing m no_draft

  stands : Stands script m past
  stands = running.rests.stands

  cached : CacheStands m.cache.held past
  cached = stands.cache

  parts_of : is_present message m ≡ true
      → ((site_at m.sites message.server).epoch ≡ message.epoch) × (message.moves ≡ 0)
  parts_of e =
      let p = and_parts ((site_at m.sites message.server).epoch == message.epoch) (message.moves == 0) e in
      (eqb-true (site_at m.sites message.server).epoch message.epoch p.0, eqb-true message.moves 0 p.1)

  ignored : IsIgnored m message.server message.epoch message.moves message.body → Goal same
  ignored is = ignored_due script m past message running host_is way is

  passes : (body : Body) → message.body ≡ body → IsOfStay body → is_present message m ≡ false → Goal same
  passes body b of_stay other = ignored (OfOther message.body
      (λ e z. true_false (is_present message m)
      (and_from ((site_at m.sites message.server).epoch == message.epoch) (message.moves == 0)
      (eq-eqb (site_at m.sites message.server).epoch message.epoch e) (eq-eqb message.moves 0 z)) other)
      (λ e. subst IsOfStay (sym b ∙ e) of_stay) (λ e. subst IsOfStay (sym b ∙ e) of_stay)
      (λ a e. subst IsOfStay (sym b ∙ e) of_stay))

  -- # A Restarted
  restart : message.body ≡ Restarted → (site_at m.sites message.server).epoch < message.epoch
      → Goal (restarting message.server message.epoch same)
  restart b up = by_greeted (site_at (renewed message.server message.epoch m).sites message.server).greeted refl
    where
      one : (x : Tables) (d : Draft) (fs : FilesetId) → OnlySends d (sending_to x message.server d fs)
      one x d fs = by_home ((home_at fs).0 == message.server.0)
        where
          by_home : (t : Bool) → OnlySends d (if t then sending_give x d fs else d)
          by_home true = giving_only x d fs
          by_home false = refl

      not_greeted : (site_at (renewed message.server message.epoch m).sites message.server).greeted ≡ false
          → (site_at m.sites message.server).greeted ≡ false
      not_greeted e = sym (ap (λ (z : Site). z.greeted)
          (renewed_changes script m past message running sound host_is way b up).here) ∙ e

      by_greeted : (t : Bool) → (site_at (renewed message.server message.epoch m).sites message.server).greeted ≡ t
          → Goal (if t then claimed_at message.server (renewed message.server message.epoch m) no_draft
          else doing (renewed message.server message.epoch m) no_draft)
      by_greeted false e =
          renewed_due script m past message running sound host_is way gives b up (not_greeted e)
      by_greeted true e =
          let at = claimed_at message.server (renewed message.server message.epoch m) no_draft in
          let given = fold (sending_to at.tables message.server) no_draft (filesets_given m.gives.gives) in
          let only : OnlySends no_draft at.draft = sends_on no_draft given at.draft
          (fold_only (sending_to at.tables message.server) (one at.tables) no_draft (filesets_given m.gives.gives))
          refl in
          subst (λ (d : Draft). HostDue script m.host past (step_of (Host m.host) (Came message)
          (sending_due at.tables d))) (sym only)
          (restarted_due script m past message running sound host_is way b up gives e)

  -- # What answers nothing
  late_grant : (g : GrantOf) → message.body ≡ Grant g → AnswersNoFetch m g → Goal same
  late_grant g b unasked =
      let is : half_by m.host message ≡ hears m.host message.server message.epoch message.moves (Grant g) =
      hears_is m.host message host_is way ∙ ap (hears m.host message.server message.epoch message.moves) b in
      late_due script m past message running host_is way
      (subst (λ (s : Step). Stands script m (s ∷ past)) (sym is)
      (unasked_grant_stands script m past message.server message.epoch message.moves g stands unasked))
      (λ q. absurd (let p = sym b ∙ q in cc)) (λ r q. absurd (let p = sym b ∙ q in cc))
      (λ a q. absurd (let p = sym b ∙ q in cc))

  late_done : (d : DoneOf) → message.body ≡ Done d → message.moves ≡ 0 → AnswersNoChange m message.server d → Goal same
  late_done d b none_moved unasked =
      let is : half_by m.host message ≡ hears m.host message.server message.epoch message.moves (Done d) =
      hears_is m.host message host_is way ∙ ap (hears m.host message.server message.epoch message.moves) b in
      late_due script m past message running host_is way
      (subst (λ (s : Step). Stands script m (s ∷ past)) (sym is)
      (unasked_done_stands script m past message.server message.epoch message.moves d stands
      (done_of_server script.roster message d sound b none_moved) unasked))
      (λ q. absurd (let p = sym b ∙ q in cc)) (λ r q. absurd (let p = sym b ∙ q in cc))
      (λ a q. absurd (let p = sym b ∙ q in cc))

  -- # Any message
  module _ (at : Doing) (left : IsSoundGives at.tables.gives) where
    heard_goes : (x : Tables) (d : Draft) → HasHeard script m x past message d
        → (IsAtRest x past → IsHeardDue x past message d)
        → ((c : Asked) → x.call ≡ Some c → x.request ≡ None → IsTurnDue x past (Came message) d.taken d.due false)
        → IsSoundUses x.uses → IsOnce x.cache.held → GoesOn (doing x d) at → Goal at
    heard_goes x d it due by uses_x once_x goes =
        subst (λ (h : HostId). HostDue script m.host past (step_of (Host h) (Came message)
        (sending_due at.tables at.draft))) (sym it.host)
        (heard_all_due script m x past message d it due by uses_x
        (λ fid gone leaves. left_once (at_turn x false) (turn_draft d.taken d.due) fid gone leaves once_x) at left
        goes)

    -- where it answers a request
    answer_goes : (x : Tables) (d : Draft) → HasHeard script m x past message d → d.sent ≡ [] → d.due ≡ []
        → EachOnce d.taken → (message.body ≡ Restarted → ⊥) → ((r : RevokeOf) → message.body ≡ Revoke r → ⊥)
        → ((a : ReclaimedOf) → message.body ≡ Reclaimed a → ⊥) → IsSoundUses x.uses → IsOnce x.cache.held
        → GoesOn (doing x d) at → Goal at
    answer_goes x d it none_sent none_due once no_restart no_revoke no_reclaimed uses_x once_x goes =
        heard_goes x d it
        (answer_is_due x past message d none_sent none_due once no_restart no_revoke no_reclaimed)
        (λ c q r. answer_turn x past message d none_sent none_due once no_restart no_revoke no_reclaimed)
        uses_x once_x goes

    gone_all : (n : AppliedGive) → message.body ≡ Gone n → is_present message m ≡ true
        → GoesOn (learning_given n same) at → Goal at
    gone_all n b present goes =
        let p = parts_of present in
        let x : Tables = (learning_given n same).tables in
        let e : Draft = (learning_given n same).draft in
        let it = gone_of.it script m past message running sound host_is way n b p.0 p.1 gives in
        heard_goes x (record no_draft { due = e.due })
        (gone_of.has_heard script m past message running sound host_is way n b p.0 p.1 gives)
        (gone_is_due script m past message running sound host_is way n b p.0 p.1 gives)
        (λ c q r. gone_turn script m past message running sound host_is way n b p.0 p.1 gives)
        (subst IsSoundUses (sym (ap (λ (z : Tables). z.uses) it.tables)) uses)
        (subst IsOnce (sym (ap (λ (z : Tables). z.cache.held) it.tables)) held)
        (subst (λ (z : Draft). GoesOn (doing x z) at) it.draft goes)

    module _ (a : ReclaimedOf) (b : message.body ≡ Reclaimed a) (goes : GoesOn (hearing message a same) at) where
      present_all : (message.epoch == (site_at m.sites message.server).epoch) ≡ true → Goal at
      present_all t =
          let it = reclaimed_of.it_p script m past message running sound host_is way a b gives t in
          let x_p : Tables = reclaimed_of.x_p script m past message running sound host_is way a b gives t in
          let e_p : Draft = reclaimed_of.e_p script m past message running sound host_is way a b gives t in
          let d_b : Draft = reclaimed_of.d_b script m past message running sound host_is way a b gives t in
          let x : Tables = reclaimed_of.x_2 script m past message running sound host_is way a b gives t in
          let floors_are = reclaimed_of.floors_are script m past message running sound host_is way a b gives t in
          let draft_is = reclaimed_of.draft_is script m past message running sound host_is way a b gives t in
          heard_goes x (record no_draft { sent = d_b.sent; due = e_p.due })
          (reclaimed_of.heard_p script m past message running sound host_is way a b gives t)
          (reclaimed_is_due script m past message running sound host_is way a b gives t)
          (λ c q r. reclaimed_turn script m past message running sound host_is way a b gives t c
          (closed_of.open_was script m past running no_draft a.applied x_p e_p it c q)
          (sym (closed_of.request_is script m past running no_draft a.applied x_p e_p it x refl) ∙ r))
          (subst IsSoundUses (sym (ap (λ (z : Tables). z.uses) it.tables)) uses)
          (subst IsOnce (sym (ap (λ (z : Tables). z.cache.held) it.tables)) held)
          (subst (λ (z : Doing). GoesOn z at)
          (reclaimed_of.heard_is script m past message running sound host_is way a b gives t
          ∙ (λ i. doing (record x_p { sites = x.sites; floors = floors_are i }) (draft_is i))) goes)

      first_all : (site_at m.sites message.server).epoch ≡ 0
          → (message.epoch == (site_at m.sites message.server).epoch) ≡ false → Goal at
      first_all unknown f =
          let x : Tables = record m {
            sites = reclaimed_of.sites_f script m past message running sound host_is way a b gives unknown f;
            floors = reclaimed_of.floors_f script m past message running sound host_is way a b gives unknown f;
          } in
          heard_goes x no_draft
          (reclaimed_of.heard_f script m past message running sound host_is way a b gives unknown f)
          (first_is_due script m past message running sound host_is way a b gives unknown f)
          (λ c q r. first_turn script m past message running sound host_is way a b gives unknown f)
          uses held
          (subst (λ (z : Doing). GoesOn z at)
          (reclaimed_of.heard_first script m past message running sound host_is way a b gives unknown f) goes)

      reclaimed_all : IsHeard message m → Goal at
      reclaimed_all heard = elim (by_test (message.epoch == (site_at m.sites message.server).epoch)) [
        | inl t ↦ present_all t
        | inr f ↦ elim heard [
          | inl unknown ↦ first_all unknown f
          | inr same_epoch ↦ absurd (true_false (message.epoch == (site_at m.sites message.server).epoch)
              (eq-eqb message.epoch (site_at m.sites message.server).epoch (sym same_epoch)) f)
        ]
      ]

    -- # A Grant, or a Done, that answers
    grant_all : (g : GrantOf) → message.body ≡ Grant g → is_present message m ≡ true
        → answers_fetch g m.request ≡ true → (used : Doing)
        → UsesBring g.bring (Some g) (record m { request = None }) no_draft used.tables used.draft
        → GoesOn used at → Goal at
    grant_all g b present answers used (MayNot may tables draft) goes =
        let p = parts_of present in
        answer_goes (record m { request = None }) no_draft
        (granted_of.heard_u script m past message running sound host_is way g b p.0 p.1 gives answers may) refl refl
        tt
        (λ q. absurd (let k = sym b ∙ q in cc)) (λ r q. absurd (let k = sym b ∙ q in cc))
        (λ a q. absurd (let k = sym b ∙ q in cc)) uses held
        (subst (λ (z : Doing). GoesOn z at) (λ i. doing (tables i) (draft i)) goes)
    grant_all g b present answers used (UsesIt may its) goes =
        let p = parts_of present in
        let after = grant_after m used.tables past cached script.roster message g sound b used.draft its
        message.server message.epoch message.moves in
        answer_goes used.tables used.draft
        (granted_of.heard_n script m past message running sound host_is way g b p.0 p.1 gives answers may used.tables
        used.draft its (grant_brings m used.tables past cached script.roster message g sound b used.draft its) after)
        (ap (λ (x : Draft). x.sent) its.draft_is) (ap (λ (x : Draft). x.due) its.draft_is)
        (taken_once (Some g) g.bring.tokens (with_floor_by g.bring (record m { request = None }))
        (record m { request = None }) no_draft used.tables used.draft refl held its)
        (λ q. absurd (let k = sym b ∙ q in cc)) (λ r q. absurd (let k = sym b ∙ q in cc))
        (λ a q. absurd (let k = sym b ∙ q in cc)) (subst IsSoundUses (sym after.uses) uses)
        (held_once (Some g) g.bring.tokens (with_floor_by g.bring (record m { request = None }))
        (record m { request = None }) no_draft used.tables used.draft refl held its) goes

    done_all : (d : DoneOf) → message.body ≡ Done d → is_present message m ≡ true
        → answers_change message.server d m.request ≡ true → (used : Doing)
        → (brings_uses d.bring ≡ true → UsesBring d.bring None (told_by d.outcome m) no_draft used.tables used.draft)
        → (brings_uses d.bring ≡ false → used ≡ doing (told_by d.outcome m) no_draft) → GoesOn used at → Goal at
    done_all d b present answers used takes leaves goes = elim (by_test (brings_uses d.bring)) [
      | inr f ↦ unused (λ kinds above none. done_of.no_kinds d.bring f kinds)
          (subst (λ (z : Doing). GoesOn z at) (leaves f) goes)
      | inl t ↦ by_use t (takes t)
    ]
      where
        unused : (BringsUses d.bring → floor_of m.floors d.bring.fid < d.bring.stamp
            → list_any (is_of_file d.bring.fid) m.gives.gives ≡ false → ⊥)
            → GoesOn (doing (told_by d.outcome m) no_draft) at → Goal at
        unused nothing its =
            let p = parts_of present in
            answer_goes (done_of.told_so m d.outcome) no_draft
            (done_of.heard_d script m past message running sound host_is way d b p.0 p.1 gives answers nothing) refl
            refl tt
            (λ q. absurd (let k = sym b ∙ q in cc)) (λ r q. absurd (let k = sym b ∙ q in cc))
            (λ a q. absurd (let k = sym b ∙ q in cc)) uses held
            (subst (λ (z : Tables). GoesOn (doing z no_draft) at) (done_of.told_is m d.outcome) its)

        by_use : brings_uses d.bring ≡ true
            → UsesBring d.bring None (told_by d.outcome m) no_draft used.tables used.draft → Goal at
        by_use t (MayNot may tables draft) =
            unused (λ kinds above none. elim (not_used (done_of.told_so m d.outcome) d.bring
            (subst (λ (z : Tables). may_use z d.bring ≡ false) (done_of.told_is m d.outcome) may)) [
              | inl low ↦ omega (arith, low, above)
              | inr given ↦ true_false (list_any (is_of_file d.bring.fid) m.gives.gives) given none
            ])
            (subst (λ (z : Doing). GoesOn z at) (λ i. doing (tables i) (draft i)) goes)
        by_use t (UsesIt may told) =
            let p = parts_of present in
            let kinds = done_of.brings_kinds d.bring t in
            let m_d : Tables = done_of.told_so m d.outcome in
            let its : HasTaken (with_floor_by d.bring m_d) no_draft
            (taking None d.bring.tokens (taking_from m_d no_draft)) used.tables used.draft =
            subst (λ (z : Tables). HasTaken (with_floor_by d.bring z) no_draft
            (taking None d.bring.tokens (taking_from z no_draft)) used.tables used.draft) (done_of.told_is m d.outcome)
            told in
            let after = done_after m used.tables past cached script.roster message d sound b kinds used.draft told in
            answer_goes used.tables used.draft
            (done_of.heard_n script m past message running sound host_is way d b p.0 p.1 gives answers t
            (subst (λ (z : Tables). may_use z d.bring ≡ true) (done_of.told_is m d.outcome) may) used.tables used.draft
            its (done_takes m used.tables past cached script.roster message d sound b kinds used.draft told) after)
            (ap (λ (x : Draft). x.sent) its.draft_is) (ap (λ (x : Draft). x.due) its.draft_is)
            (taken_once None d.bring.tokens (with_floor_by d.bring m_d) m_d no_draft used.tables used.draft refl held
            its)
            (λ q. absurd (let k = sym b ∙ q in cc)) (λ r q. absurd (let k = sym b ∙ q in cc))
            (λ a q. absurd (let k = sym b ∙ q in cc)) (subst IsSoundUses (sym after.uses) uses)
            (held_once None d.bring.tokens (with_floor_by d.bring m_d) m_d no_draft used.tables used.draft refl held
            its) goes

    -- # All of them
    body_due : (body : Body) → message.body ≡ body → is_present message m ≡ true
        → TakesBody message.server same at body → Goal at
    body_due _ b present (IsGone n goes) = gone_all n b present goes
    body_due _ b present (IsGrant g e used takes goes) = grant_all g b present e used takes goes
    body_due _ b present (IsDone d e used takes leaves goes) = done_all d b present e used takes leaves goes
    body_due _ b present (IsRevoke r revoked its sound_r goes) =
        let p = parts_of present in
        revoked_due script m past message running sound host_is way r b p.0 p.1 gives revoked its sound_r at
        (revoked_runs script m past message running sound host_is way r b p.0 p.1 gives revoked its sound_r at goes)
        goes
    body_due _ b present (IsLateGrant g e is) = subst Goal (sym is)
        (late_grant g b (answers_of.no_fetch script m past message running sound host_is way gives uses g e))
    body_due _ b present (IsLateDone d e is) =
        subst Goal (sym is) (late_done d b (parts_of present).1
        (answers_of.no_change script m past message running sound host_is way gives uses d e))
    body_due _ b present (IsOther body for_others is) = subst Goal (sym is)
        (others_due script m past message running host_is way (subst IsForOthers (sym b) for_others))

    taken_due : (body : Body) → message.body ≡ body → Takes message same at body → Goal at
    taken_due _ b (HasParted is) =
        subst Goal (sym is) (bye_due script m past message running sound host_is way gives b)
    taken_due _ b (HasRestarted e is) = subst Goal (sym is)
        (restart b (ltb-true (site_at m.sites message.server).epoch message.epoch e))
    taken_due _ b (HadRestarted e is) = subst Goal (sym is)
        (ignored (subst (IsIgnored m message.server message.epoch message.moves) (sym b)
        (OfOld (ltb-false (site_at m.sites message.server).epoch message.epoch e))))
    taken_due _ b (Hears a heard goes) = reclaimed_all a b goes heard
    taken_due _ b (IsOld a not_heard is) = subst Goal (sym is)
        (ignored (subst (IsIgnored m message.server message.epoch message.moves) (sym b)
        (OfOthers a (λ e. not_heard (inl e)) (λ e. not_heard (inr e)))))
    taken_due _ b (TakesIt body of_stay present takes) = body_due body b present takes
    taken_due _ b (Passes body of_stay other is) = subst Goal (sym is) (passes body b of_stay other)

    pub takes_due : Takes message same at message.body → Goal at
    takes_due takes = taken_due message.body refl takes

pub take_due : (m new : Tables) (after : Draft) (message : Message) → IsSoundUses m.uses → IsSoundGives m.gives
    → IsSoundGives new.gives → IsOnce m.cache.held
    → HearsMessage message m no_draft new after → TakeDue m message (step_of (Host m.host) (Came message) after)
take_due m new after message uses gives left held it script past running sound host_is way =
    subst (λ (d : Draft). HostDue script m.host past (step_of (Host m.host) (Came message) d)) (sym it.sends)
    (takes_due script m past message running sound host_is way gives uses held
    (doing new it.heard) left it.takes)
