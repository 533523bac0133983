-- A host has heard a message: what it has learnt and taken by then, and how it goes on with its open call, if it may.
use Rattle.std.proofs.Common.{◌∙◌, ◌∷◌, ◌≡◌, ◌≤◌}
use Rattle.base_types.specs.declared.ids.FilesetId.{FilesetId}
use Rattle.base_types.specs.declared.ids.HostId.{HostId}
use Rattle.base_types.specs.declared.ids.Node.TheVariants.{Host}
use Rattle.base_types.specs.declared.ids.ServerId.{ServerId}
use Rattle.host_asks.specs.Asking.{Doing, doing}
use Rattle.host_asks.specs.Going.{Goes, GoesOn}
use Rattle.host_asks.specs.Going.Goes.{Ends as EndsEarly, Finds, IsRefused, LacksIt, Waits}
use Rattle.host_asks.specs.Going.GoesOn.{IsNone, IsOpen}
use Rattle.host_gives.specs.Giving.{IsSound as IsSoundGives, outstanding}
use Rattle.host_labels.specs.Labels.{IsSound as IsSoundUses}
use Rattle.host_leaves.specs.Sending.{message_to, sending_due, sending_give}
use Rattle.host_manager.proofs.Again.{SaidAgain, again_is_sound, give_again}
use Rattle.host_manager.proofs.Folding.{OnlySends, fold_only, fold_said, fold_says, giving_keeps, giving_only}
use Rattle.host_manager.proofs.Folding.{giving_said, giving_says}
use Rattle.host_manager.proofs.Outlasts.{waits_rest}
use Rattle.host_manager.proofs.Running.{AsksWhy, gone_on, runs_on}
use Rattle.host_manager.proofs.Turned.{turn_runs}
use Rattle.host_manager.proofs.TurnOf.{message_turn}
use Rattle.host_manager.proofs.Turns.{IsTurn, turn_draft}
use Rattle.host_tables.proofs.Declared.{home_is}
use Rattle.host_tables.proofs.Outstanding.{first_outstanding, outstanding_is}
use Rattle.host_tables.proofs.Resting.{idle_rests}
use Rattle.host_tables.proofs.WholeSteps.{heard_right}
use Rattle.host_tables.specs.Drafts.{no_draft, step_of}
use Rattle.host_tables.specs.Half.{learning}
use Rattle.host_tables.specs.Machine.{StepRight}
use Rattle.host_manager.specs.Running.{AsksForCall, EndsOpen, IsRunning, RunsOn}
use Rattle.host_tables.specs.Saying.{IsFirst}
use Rattle.host_tables.specs.Stands.{IsAtRest, Stands}
use Rattle.host_tables.specs.Tables.{last_change, last_fetch, site_at}
use Rattle.host_tables.specs.Tidy.{IsTidy}
use Rattle.host_tables.specs.Updates.{home_at}
use Rattle.host_tables.specs.WholeSteps.{TakesRight, hears_says}
use Rattle.host_tables.specs.declared.calls.Request.{Request}
use Rattle.host_tables.specs.declared.draft.Draft.{Draft}
use Rattle.host_tables.specs.declared.tables.Tables.{Tables}
use Rattle.message_types.specs.declared.giving.Give.{Give}
use Rattle.message_types.specs.declared.giving.Reclaim.{Reclaim as ReclaimOf}
use Rattle.message_types.specs.declared.message.Body.TheVariants.{GiveBack, Grant, Reclaim}
use Rattle.message_types.specs.declared.message.Message.{Message}
use Rattle.message_types.specs.declared.telling.Done.{Done as DoneOf}
use Rattle.message_types.specs.declared.telling.Grant.{Grant as GrantOf}
use Rattle.run_rules.specs.Messages.{About, DoneComes, SendsTo, stay_of}
use Rattle.run_rules.specs.Past.{In}
use Rattle.run_rules.specs.Steps.{lines_gone, lines_of}
use Rattle.run_rules.specs.declared.step.Asked.{Asked}
use Rattle.run_rules.specs.declared.step.Cause.TheVariants.{Message as Came}
use Rattle.run_rules.specs.declared.step.Step.{Step}
use Rattle.script_lines.specs.declared.script.Script.{Script}
use Rattle.std.proofs.Common.{Bool, List, None, Option, Some, [], ap, false, if◌then◌else◌, inl, inr}
use Rattle.std.proofs.Common.{length}
use Rattle.std.proofs.Common.{refl, subst, sym, true, ◌∙◌, ◌∷◌, ◌≡◌, ◌≤◌}

-- The tables `m` have learnt and taken what came, and the step in the making says again what is outstanding, and knows
-- which give-backs are to be sent.
pub record HasHeard (script : Script) (old m : Tables) (past : List Step) (message : Message) (d : Draft) : Type 0
  where
    pub running : IsRunning script old past
    pub host : old.host ≡ m.host
    pub learnt : Stands script m (learning m.host (Came message) d.taken ∷ past)
    pub tidy : IsTidy script.roster m
    pub gives : IsSoundGives m.gives
    pub draft : d ≡ record no_draft { taken = d.taken; sent = d.sent; due = d.due }
    pub takes : TakesRight past (learning m.host (Came message) d.taken)
    pub byes : (v : ServerId) → (site_at m.sites v).said_bye ≡ (site_at old.sites v).said_bye
    pub grants : (fs : FilesetId) (g : GrantOf) → About past (learning m.host (Came message) d.taken) fs (Grant g)
        → g.bring.fid.fileset ≡ fs → g.bring.number ≤ last_fetch m.fetched fs
    pub changes : (v : ServerId) (c : DoneOf) → DoneComes past (learning m.host (Came message) d.taken) v c
        → c.bring.number ≤ last_change m.changed v c.fileset
    -- a claim isn't said again by it
    pub says : (s : Step) (y : Message) → In y d.sent
        → SaidAgain script.roster m past s y × ((c : ReclaimOf) → y.body ≡ Reclaim c → ⊥)
    pub due : (g : Give) → IsFirst m.gives g → (IsFirst old.gives g → ⊥) → In g.fid.fileset d.due
    -- the call
    pub ending : EndsOpen m
    pub asking : AsksForCall m
    pub idle : m.call ≡ None → m.request ≡ None
    pub silent : (c : Asked) → m.call ≡ Some c → m.request ≡ None → d.sent ≡ []

module _ (script : Script) (old m : Tables) (past : List Step) (message : Message) (d : Draft)
    (it : HasHeard script old m past message d) where
  abbrev d2 : Draft
  d2 = sending_due m d

  abbrev s : Step
  s = hears_says m.host message d.taken d2.sent

  abbrev pub Goal : Doing → Type 0
  Goal at = RunsOn script old at.tables past (step_of (Host m.host) (Came message) (sending_due at.tables at.draft))

  only : OnlySends d d2
  only = fold_only (sending_give m) (λ d fs. giving_only m d fs) d d.due

  pub step_is : step_of (Host m.host) (Came message) d2 ≡ s
  step_is = ap (step_of (Host m.host) (Came message)) (only ∙ ap (λ (z : Draft). record z { sent = d2.sent }) it.draft)

  said : (y : Message) → In y d2.sent
      → SaidAgain script.roster m past s y × ((c : ReclaimOf) → y.body ≡ Reclaim c → ⊥)
  said y i = elim (fold_says (sending_give m) (λ fs z. (o : Message) × (outstanding m.gives fs ≡ Some o)
      × (z ≡ message_to m (home_at fs) o.body)) (λ e fs z j. giving_says m e fs z j) d d.due y i) [
        | inl j ↦ it.says s y j
        | inr r ↦
            let k = outstanding_is m.gives it.gives r.0 r.2.0 r.2.1 in (
              subst (SaidAgain script.roster m past s) (sym r.2.2)
                  (give_again script.roster m it.tidy past s it.gives r.0 r.2.0 r.2.1),
              λ c e. absurd (let p = sym (ap (λ (z : Message). z.body) r.2.2 ∙ k.1) ∙ e in cc),
            )
      ]

  due : (g : Give) → IsFirst m.gives g → (IsFirst old.gives g → ⊥)
      → SendsTo s (stay_of (s ∷ past) g.fid.fileset) (GiveBack g)
  due g first fresh =
      let fs : FilesetId = g.fid.fileset in
      let z = first_outstanding m.gives it.gives g first in
      let there : In (message_to m (home_at fs) z.0.body) d2.sent =
      fold_said (sending_give m) (λ e x y j. giving_keeps m e x y j) fs (message_to m (home_at fs) z.0.body)
      (λ e. giving_said m e fs z.0 z.1) d d.due (it.due g first fresh) in
      let declared = (it.tidy.gives first.message g first.within first.body).declared in (
        (site_at m.sites (home_at fs)).epoch,
        (
          message_to m (home_at fs) z.0.body,
          there,
          home_is script.roster m it.tidy fs declared,
          refl,
          refl,
          z.2,
        ),
      )

  -- # Nothing is made of the call
  module _ (rest : IsAtRest m (s ∷ past)) where
    right : StepRight script old m past s
    right = heard_right script old m past message d.taken d2.sent it.running.rests.stands it.host it.learnt
        (record {
          takes = it.takes.takes;
          takes_all = record { all = it.takes.takes_all.all; once = it.takes.takes_all.once };
        })
        (λ y i. (said y i).0.repeats) (λ y i c e. (said y i).1 c e) due rest

    gone : (v : ServerId) → (site_at m.sites v).said_bye ≡ true
        → lines_gone (s ∷ past) ≡ length (lines_of script (Host m.host))
    gone v e = gone_on script old past s it.running refl v (sym (it.byes v) ∙ e)
        ∙ ap (λ (h : HostId). length (lines_of script (Host h))) it.host

    pub heard_runs : Goal (doing m d)
    heard_runs = subst (λ (z : Step). RunsOn script old m past z) (sym step_is)
        (runs_on script old m past s right (sym it.host) it.tidy it.ending it.asking gone
        (λ y i. again_is_sound script.roster m it.tidy past s y (said y i).0))

  -- # The call is gone on with
  module _ (c : Asked) (open_is : m.call ≡ Some c) (idle : m.request ≡ None) where
    pub turn : IsTurn script old m past (Came message) d.taken d.due c false
    turn = message_turn script old m past message d.taken d.due c it.running it.host it.learnt it.tidy idle open_is
        it.ending it.takes it.grants it.changes it.due

    pub draft_is : d ≡ turn_draft d.taken d.due
    draft_is = it.draft ∙ (λ i. record no_draft {
      taken = d.taken;
      sent = it.silent c open_is idle i;
      due = d.due;
    })

    pub goes_runs : IsSoundUses m.uses → (gone : Doing) (answered : Bool)
        → Goes c.k c.call false (doing (record m { call = None }) d) gone answered → (at : Doing)
        → at ≡ (if answered then gone else record gone { tables = record gone.tables { call = Some c } })
        → IsSoundGives at.tables.gives → Goal at
    goes_runs uses gone answered goes at is sound = turn_runs script old m past (Came message) d.taken d.due c false
        turn
        it.gives uses at.tables at.draft (sending_due at.tables at.draft) refl sound gone answered
        (subst (λ (z : Draft). Goes c.k c.call false (doing (record m { call = None }) z) gone answered) draft_is goes)
        is

  -- while a request is outstanding nothing is made of it
  pub waits_same : (c : Asked) → m.call ≡ Some c → (m.request ≡ None → ⊥) → (gone : Doing) (answered : Bool)
      → Goes c.k c.call false (doing (record m { call = None }) d) gone answered
      → (if answered then gone else record gone { tables = record gone.tables { call = Some c } }) ≡ doing m d
  waits_same c open_is busy gone _ (Waits outstanding is) =
      ap (λ (z : Doing). record z { tables = record z.tables { call = Some c } }) is
      ∙ ap (λ (o : Option Asked). doing (record m { call = o }) d) (sym open_is)
  waits_same c open_is busy gone _ (EndsEarly idle verdict so early answered settles) = absurd (busy idle)
  waits_same c open_is busy gone _ (LacksIt idle root path walks need walked asks) = absurd (busy idle)
  waits_same c open_is busy gone _ (Finds idle root path walks v walked leads marked marks answered settles) =
      absurd (busy idle)
  waits_same c open_is busy gone _ (IsRefused idle root path walks refusal walked marked marks settles) =
      absurd (busy idle)

  why : (c : Asked) → m.call ≡ Some c → (m.request ≡ None → ⊥) → AsksWhy m c.call
  why c open_is busy = it.asking c open_is busy

  pub heard_on : IsSoundUses m.uses → (at : Doing) → GoesOn (doing m d) at → IsSoundGives at.tables.gives → Goal at
  heard_on uses at (IsNone none is) sound =
      subst Goal (sym is) (heard_runs (idle_rests m (s ∷ past) none (it.idle none)))
  heard_on uses at (IsOpen c open_is gone answered goes is) sound = by_request m.request refl
    where
      by_request : (r : Option Request) → m.request ≡ r → Goal at
      by_request None e = goes_runs c open_is e uses gone answered goes at is sound
      by_request (Some r) e =
          let busy : m.request ≡ None → ⊥ = λ q. absurd (let p = sym e ∙ q in cc) in
          subst Goal (sym (is ∙ waits_same c open_is busy gone answered goes))
          (heard_runs (waits_rest m (s ∷ past) c open_is busy (why c open_is busy)))
