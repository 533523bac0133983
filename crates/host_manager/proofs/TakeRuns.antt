-- What the step of a message owes, whatever is open.
use Rattle.base_types.specs.declared.ids.FilesetId.{FilesetId}
use Rattle.base_types.specs.declared.ids.Node.TheVariants.{Host}
use Rattle.base_types.specs.declared.ids.ServerId.{ServerId}
use Rattle.host_asks.specs.Asking.{Doing, doing}
use Rattle.host_asks.specs.Going.{GoesOn}
use Rattle.host_gives.specs.Giving.{IsSound as IsSoundGives, is_of_file}
use Rattle.host_labels.specs.Labels.{IsSound as IsSoundUses}
use Rattle.host_leaves.specs.Sending.{filesets_given, sending_due, sending_give}
use Rattle.host_manager.proofs.BringsIt.{done_after, done_takes, grant_after, grant_brings}
use Rattle.host_manager.proofs.Folding.{OnlySends, fold_only, giving_only, sends_on}
use Rattle.host_manager.proofs.GoneOn.{gone_goes}
use Rattle.host_manager.proofs.GrantedOn.{not_used}
use Rattle.host_manager.proofs.Heard.{bye_runs, ignored_runs, late_done_runs, late_grant_runs, others_run}
use Rattle.host_manager.proofs.Heard.{renewed_runs}
use Rattle.host_manager.proofs.ReclaimedOn.{reclaimed_goes}
use Rattle.host_manager.proofs.RevokesIt.{revoked_runs}
use Rattle.host_manager.specs.Learning.{HasTaken, UsesBring, brings_uses, may_use, renewed, taking, taking_from}
use Rattle.host_manager.specs.Learning.{with_floor_by}
use Rattle.host_manager.specs.Learning.UsesBring.{MayNot, UsesIt}
use Rattle.host_manager.specs.Running.{IsRunning, RunsOn, TakeRight}
use Rattle.host_manager.specs.Taking.{HearsMessage, IsOfStay, Takes, TakesBody, answers_change, answers_fetch}
use Rattle.host_manager.specs.Taking.{claimed_at, is_present, restarting, sending_to, told_by}
use Rattle.host_manager.specs.Taking.Takes.{HadRestarted, HasParted, HasRestarted, Hears, IsOld, Passes, TakesIt}
use Rattle.host_manager.specs.Taking.TakesBody.{IsDone, IsGone, IsGrant, IsLateDone, IsLateGrant, IsOther, IsRevoke}
use Rattle.host_tables.proofs.Lists.{by_test, true_false}
use Rattle.host_tables.specs.Drafts.{no_draft, step_of}
use Rattle.host_tables.specs.Heeding.{AnswersNoChange, AnswersNoFetch, IsForOthers, IsIgnored}
use Rattle.host_tables.specs.Heeding.IsIgnored.{OfOld, OfOther, OfOthers}
use Rattle.host_tables.specs.Tables.{floor_of, site_at}
use Rattle.host_tables.specs.Updates.{home_at}
use Rattle.host_tables.specs.declared.draft.Draft.{Draft}
use Rattle.host_tables.specs.declared.tables.Tables.{Tables}
use Rattle.message_types.specs.Soundness.{IsSound}
use Rattle.message_types.specs.declared.message.Body.{Body}
use Rattle.message_types.specs.declared.message.Body.TheVariants.{Done, Grant, Restarted}
use Rattle.message_types.specs.declared.message.Direction.TheVariants.{ToHost}
use Rattle.message_types.specs.declared.message.Message.{Message}
use Rattle.message_types.specs.declared.telling.Done.{Done as DoneOf}
use Rattle.message_types.specs.declared.telling.Grant.{Grant as GrantOf}
use Rattle.run_rules.specs.Tokens.{BringsUses}
use Rattle.run_rules.specs.declared.step.Cause.TheVariants.{Message as Came}
use Rattle.run_rules.specs.declared.step.Step.{Step}
use Rattle.script_lines.specs.declared.script.Script.{Script}
use Rattle.std.proofs.Common.{Bool, List, None, Some, ap, arith, eq-eqb, eqb-true, false, fold, if◌then◌else◌, inl}
use Rattle.std.proofs.Common.{inr, ltb-true, refl, subst, sym, true, ◌&&◌, ◌<◌, ◌==◌, ◌∙◌, ◌≡◌}
use Rattle.std.proofs.lemmas.Bool.{and_from, and_parts, ltb-false}
use Rattle.std.specs.List.{list_any}
use Rattle.host_manager.proofs.DoneOn as done_of
use Rattle.host_manager.proofs.GrantedOn as granted_of
use Rattle.host_manager.proofs.Restarted as restarted_of

module _ (script : Script) (m : Tables) (past : List Step) (message : Message) (running : IsRunning script m past)
    (sound : IsSound script.roster message) (host_is : message.host ≡ m.host) (way : message.direction ≡ ToHost)
    (gives : IsSoundGives m.gives) (uses : IsSoundUses m.uses) where
  abbrev pub Goal : Doing → Type 0
  Goal at = RunsOn script m at.tables past (step_of (Host m.host) (Came message) (sending_due at.tables at.draft))

  -- nothing changes
  abbrev same : Doing
  same = doing m no_draft

  passes : (body : Body) → message.body ≡ body → IsOfStay body → is_present message m ≡ false → Goal same
  passes body b of_stay other = ignored_runs script m past message running host_is way
      (OfOther message.body
      (λ e z. true_false (is_present message m)
      (and_from ((site_at m.sites message.server).epoch == message.epoch) (message.moves == 0)
      (eq-eqb (site_at m.sites message.server).epoch message.epoch e) (eq-eqb message.moves 0 z)) other)
      (λ e. subst IsOfStay (sym b ∙ e) of_stay) (λ e. subst IsOfStay (sym b ∙ e) of_stay)
      (λ a e. subst IsOfStay (sym b ∙ e) of_stay))

  parts_of : is_present message m ≡ true
      → ((site_at m.sites message.server).epoch ≡ message.epoch) × (message.moves ≡ 0)
  parts_of e =
      let p = and_parts ((site_at m.sites message.server).epoch == message.epoch) (message.moves == 0) e in
      (eqb-true (site_at m.sites message.server).epoch message.epoch p.0, eqb-true message.moves 0 p.1)

  -- # What answers nothing
  pub no_fetch : (g : GrantOf) → answers_fetch g m.request ≡ false → AnswersNoFetch m g
  no_fetch g e f asked at number =
      let so : answers_fetch g m.request ≡ true =
      ap (answers_fetch g) asked
      ∙ and_from (f.number == g.bring.number) (f.fid.fileset.0 == g.bring.fid.fileset.0)
      (eq-eqb f.number g.bring.number number)
      (eq-eqb f.fid.fileset.0 g.bring.fid.fileset.0 (ap (λ (x : FilesetId). x.0) at)) in
      true_false (answers_fetch g m.request) so e

  pub no_change : (d : DoneOf) → answers_change message.server d m.request ≡ false → AnswersNoChange m message.server d
  no_change d e v c asked at fs number =
      let so : answers_change message.server d m.request ≡ true =
      ap (answers_change message.server d) asked
      ∙ and_from (v.0 == message.server.0) ((c.number == d.bring.number) && (c.fileset.0 == d.fileset.0))
      (eq-eqb v.0 message.server.0 (ap (λ (w : ServerId). w.0) at))
      (and_from (c.number == d.bring.number) (c.fileset.0 == d.fileset.0) (eq-eqb c.number d.bring.number number)
      (eq-eqb c.fileset.0 d.fileset.0 (ap (λ (x : FilesetId). x.0) fs))) in
      true_false (answers_change message.server d m.request) so e

  -- # A Restarted
  restart : message.body ≡ Restarted → (site_at m.sites message.server).epoch < message.epoch
      → Goal (restarting message.server message.epoch same)
  restart b up = by_greeted (site_at (renewed message.server message.epoch m).sites message.server).greeted refl
    where
      one : (x : Tables) (d : Draft) (fs : FilesetId) → OnlySends d (sending_to x message.server d fs)
      one x d fs = by_home ((home_at fs).0 == message.server.0)
        where
          by_home : (t : Bool) → OnlySends d (if t then sending_give x d fs else d)
          by_home true = giving_only x d fs
          by_home false = refl

      by_greeted : (t : Bool) → (site_at (renewed message.server message.epoch m).sites message.server).greeted ≡ t
          → Goal (if t then claimed_at message.server (renewed message.server message.epoch m) no_draft
          else doing (renewed message.server message.epoch m) no_draft)
      by_greeted false e = renewed_runs script m past message running sound host_is way b up
      by_greeted true e =
          let at = claimed_at message.server (renewed message.server message.epoch m) no_draft in
          let given = fold (sending_to at.tables message.server) no_draft (filesets_given m.gives.gives) in
          let only : OnlySends no_draft at.draft = sends_on no_draft given at.draft
          (fold_only (sending_to at.tables message.server) (one at.tables) no_draft (filesets_given m.gives.gives))
          refl in
          subst (λ (d : Draft). RunsOn script m at.tables past (step_of (Host m.host) (Came message)
          (sending_due at.tables d))) (sym only)
          (restarted_of.restarted_runs script m past message running sound host_is way b up gives e)

  -- # A Grant, or a Done, that answers
  grant_goes : (g : GrantOf) → message.body ≡ Grant g → is_present message m ≡ true
      → answers_fetch g m.request ≡ true → (used : Doing)
      → UsesBring g.bring (Some g) (record m { request = None }) no_draft used.tables used.draft → (at : Doing)
      → GoesOn used at → IsSoundGives at.tables.gives → Goal at
  grant_goes g b present answers used (MayNot may tables draft) at goes left =
      let p = parts_of present in
      granted_of.unused_goes script m past message running sound host_is way g b p.0 p.1 gives answers may uses at
      (subst (λ (z : Doing). GoesOn z at) (λ i. doing (tables i) (draft i)) goes) left
  grant_goes g b present answers used (UsesIt may its) at goes left =
      let p = parts_of present in
      let stands = running.rests.stands.cache in
      granted_of.used_goes script m past message running sound host_is way g b p.0 p.1 gives answers may used.tables
      used.draft its
      (grant_brings m used.tables past stands script.roster message g sound b used.draft its)
      (grant_after m used.tables past stands script.roster message g sound b used.draft its message.server message.epoch
      message.moves) uses at goes left

  done_goes : (d : DoneOf) → message.body ≡ Done d → is_present message m ≡ true
      → answers_change message.server d m.request ≡ true → (used : Doing)
      → (brings_uses d.bring ≡ true → UsesBring d.bring None (told_by d.outcome m) no_draft used.tables used.draft)
      → (brings_uses d.bring ≡ false → used ≡ doing (told_by d.outcome m) no_draft) → (at : Doing) → GoesOn used at
      → IsSoundGives at.tables.gives → Goal at
  done_goes d b present answers used takes leaves at goes left = elim (by_test (brings_uses d.bring)) [
    | inr f ↦ unused (λ kinds above none. done_of.no_kinds d.bring f kinds)
        (subst (λ (z : Doing). GoesOn z at) (leaves f) goes)
    | inl t ↦ by_use t (takes t)
  ]
    where
      unused : (BringsUses d.bring → floor_of m.floors d.bring.fid < d.bring.stamp
          → list_any (is_of_file d.bring.fid) m.gives.gives ≡ false → ⊥)
          → GoesOn (doing (told_by d.outcome m) no_draft) at → Goal at
      unused nothing its =
          let p = parts_of present in
          done_of.unused_goes script m past message running sound host_is way d b p.0 p.1 gives answers nothing uses at
          (subst (λ (z : Tables). GoesOn (doing z no_draft) at) (done_of.told_is m d.outcome) its) left

      by_use : brings_uses d.bring ≡ true
          → UsesBring d.bring None (told_by d.outcome m) no_draft used.tables used.draft → Goal at
      by_use t (MayNot may tables draft) =
          unused (λ kinds above none. elim (not_used (done_of.told_so m d.outcome) d.bring
          (subst (λ (z : Tables). may_use z d.bring ≡ false) (done_of.told_is m d.outcome) may)) [
            | inl low ↦ omega (arith, low, above)
            | inr given ↦ true_false (list_any (is_of_file d.bring.fid) m.gives.gives) given none
          ])
          (subst (λ (z : Doing). GoesOn z at) (λ i. doing (tables i) (draft i)) goes)
      by_use t (UsesIt may its) =
          let p = parts_of present in
          let stands = running.rests.stands.cache in
          let kinds = done_of.brings_kinds d.bring t in
          done_of.used_goes script m past message running sound host_is way d b p.0 p.1 gives answers t
          (subst (λ (z : Tables). may_use z d.bring ≡ true) (done_of.told_is m d.outcome) may) used.tables used.draft
          (subst (λ (z : Tables). HasTaken (with_floor_by d.bring z) no_draft
          (taking None d.bring.tokens (taking_from z no_draft)) used.tables used.draft) (done_of.told_is m d.outcome)
          its)
          (done_takes m used.tables past stands script.roster message d sound b kinds used.draft its)
          (done_after m used.tables past stands script.roster message d sound b kinds used.draft its) uses at goes left

  -- # Any message
  module _ (at : Doing) (left : IsSoundGives at.tables.gives) where
    body_runs : (body : Body) → message.body ≡ body → is_present message m ≡ true
        → TakesBody message.server same at body → Goal at
    body_runs _ b present (IsGone n goes) =
        let p = parts_of present in
        gone_goes script m past message running sound host_is way n b p.0 p.1 gives uses at goes left
    body_runs _ b present (IsGrant g e used takes goes) = grant_goes g b present e used takes at goes left
    body_runs _ b present (IsDone d e used takes leaves goes) = done_goes d b present e used takes leaves at goes left
    body_runs _ b present (IsRevoke r revoked its sound_r goes) =
        let p = parts_of present in
        revoked_runs script m past message running sound host_is way r b p.0 p.1 gives revoked its sound_r at goes
    body_runs _ b present (IsLateGrant g e is) = subst Goal (sym is)
        (late_grant_runs script m past message g running host_is way b (no_fetch g e))
    body_runs _ b present (IsLateDone d e is) = subst Goal (sym is)
        (late_done_runs script m past message d running sound host_is way b (parts_of present).1 (no_change d e))
    body_runs _ b present (IsOther body for_others is) = subst Goal (sym is)
        (others_run script m past message running host_is way (subst IsForOthers (sym b) for_others))

    taken_runs : (body : Body) → message.body ≡ body → Takes message same at body → Goal at
    taken_runs _ b (HasParted is) = subst Goal (sym is) (bye_runs script m past message running sound host_is way b)
    taken_runs _ b (HasRestarted e is) = subst Goal (sym is)
        (restart b (ltb-true (site_at m.sites message.server).epoch message.epoch e))
    taken_runs _ b (HadRestarted e is) = subst Goal (sym is)
        (ignored_runs script m past message running host_is way
        (subst (IsIgnored m message.server message.epoch message.moves) (sym b)
        (OfOld (ltb-false (site_at m.sites message.server).epoch message.epoch e))))
    taken_runs _ b (Hears a heard goes) =
        reclaimed_goes script m past message running sound host_is way a b gives heard uses at goes left
    taken_runs _ b (IsOld a not_heard is) = subst Goal (sym is)
        (ignored_runs script m past message running host_is way
        (subst (IsIgnored m message.server message.epoch message.moves) (sym b)
        (OfOthers a (λ e. not_heard (inl e)) (λ e. not_heard (inr e)))))
    taken_runs _ b (TakesIt body of_stay present takes) = body_runs body b present takes
    taken_runs _ b (Passes body of_stay other is) = subst Goal (sym is) (passes body b of_stay other)

    pub takes_runs : Takes message same at message.body → Goal at
    takes_runs takes = taken_runs message.body refl takes

pub take_right : (m new : Tables) (after : Draft) (message : Message) → IsSoundUses m.uses → IsSoundGives m.gives
    → IsSoundGives new.gives → HearsMessage message m no_draft new after
    → TakeRight m new message (step_of (Host m.host) (Came message) after)
take_right m new after message uses gives left it script past running sound host_is way = (
  subst (λ (d : Draft). RunsOn script m new past (step_of (Host m.host) (Came message) d)) (sym it.sends)
      (takes_runs script m past message running sound host_is way gives uses (doing new it.heard) left it.takes),
  refl,
)
