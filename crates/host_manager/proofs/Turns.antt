-- A call whose turn it is: a line begins it, or the end does, or it was open and a message came. What the host knows
-- and
-- has by then, and what a step for it may be.
use Rattle.host_labels.specs.declared.uses.Labelled.{Labelled as UseOf}
use Rattle.host_tables.specs.Tables.{labelled}
use Rattle.std.proofs.Common.{◌&&◌, ◌+◌, ◌∙◌, ◌∷◌, ◌≡◌, ◌≤◌, ◌⊎◌}
use Rattle.base_types.specs.Name.{same_name}
use Rattle.base_types.specs.declared.ids.Fid.{Fid}
use Rattle.base_types.specs.declared.ids.FilesetId.{FilesetId}
use Rattle.base_types.specs.declared.ids.Node.TheVariants.{Host}
use Rattle.base_types.specs.declared.ids.ServerId.{ServerId}
use Rattle.host_calls.specs.Looking.{AreUses, ending_of}
use Rattle.host_gives.specs.Giving.{IsSound as IsSoundGives, outstanding}
use Rattle.host_labels.specs.Labels.{is_labelled, is_lock}
use Rattle.host_leaves.specs.Owning.{has_label}
use Rattle.host_leaves.specs.Sending.{message_to, sending_give}
use Rattle.host_manager.proofs.EndsIt.{verdict_so}
use Rattle.host_manager.proofs.Folding.{OnlySends, fold_keeps, fold_only, fold_said, fold_says, giving_keeps}
use Rattle.host_manager.proofs.Folding.{giving_only, giving_said, giving_says}
use Rattle.host_manager.proofs.Freed.{end_is, mode_same}
use Rattle.host_manager.proofs.Running.{uses_are}
use Rattle.host_tables.proofs.Declared.{home_is}
use Rattle.host_tables.proofs.Lists.{name_same, none_in, or_right}
use Rattle.host_tables.proofs.Outstanding.{first_outstanding, outstanding_is}
use Rattle.host_tables.proofs.Saying.{first_out, out_first}
use Rattle.host_tables.proofs.Tidy.{again_sound}
use Rattle.host_tables.specs.Causes.{CauseMay}
use Rattle.host_tables.specs.Drafts.{no_draft, step_of}
use Rattle.host_tables.specs.Half.{learning}
use Rattle.host_manager.specs.Running.{IsRunning}
use Rattle.host_tables.specs.Saying.{IsFirst, SaysAgain}
use Rattle.host_tables.specs.Saying.SaysAgain.{OfGive}
use Rattle.host_tables.specs.Sending.{LinesMay, MayGive, MaySay, MaySend}
use Rattle.host_tables.specs.Stands.{GivesStand, Stands, verdict_from}
use Rattle.host_tables.specs.Tables.{ends_label, gives_label, is_last_pinned, last_change, last_fetch, site_at}
use Rattle.host_tables.specs.Tidy.{IsTidy}
use Rattle.host_tables.specs.Updates.{home_at}
use Rattle.host_tables.specs.WholeSteps.{TakesRight, moved_of}
use Rattle.host_tables.specs.declared.draft.Draft.{Draft}
use Rattle.host_tables.specs.declared.tables.Tables.{Tables}
use Rattle.message_types.specs.Soundness.{IsCall, IsServer, IsSound}
use Rattle.message_types.specs.declared.giving.Give.{Give}
use Rattle.message_types.specs.declared.message.Body.{Body}
use Rattle.message_types.specs.declared.message.Body.TheVariants.{Bye, GiveBack, Grant}
use Rattle.message_types.specs.declared.message.Direction.TheVariants.{ToServer}
use Rattle.message_types.specs.declared.message.Message.{Message}
use Rattle.message_types.specs.declared.telling.Done.{Done as DoneOf}
use Rattle.message_types.specs.declared.telling.Grant.{Grant as GrantOf}
use Rattle.need_host.specs.Calls.Verdict.{Frees as FreesOf, Gives as GivesOf}
use Rattle.run_rules.specs.HostTokens.{OwnsUpdate}
use Rattle.run_rules.specs.Messages.{About, DoneComes, HasSaid, HasStopped, SendsTo, home, stay_of}
use Rattle.run_rules.specs.Past.{In}
use Rattle.run_rules.specs.Steps.{limit_of, lines_of, servers_of}
use Rattle.run_rules.specs.Tokens.{BeginsCall, CallGoesOn, HasCall, IsOutstanding, Made, end_of}
use Rattle.run_rules.specs.Views.{Stance, is_dirty}
use Rattle.run_rules.specs.declared.step.Asked.{Asked}
use Rattle.run_rules.specs.declared.step.Cause.{Cause}
use Rattle.run_rules.specs.declared.step.Labelled.{Labelled}
use Rattle.run_rules.specs.declared.step.Step.{Step}
use Rattle.script_lines.specs.declared.script.Script.{Script}
use Rattle.std.proofs.Common.{Bool, List, None, Option, Some, [], ap, false, fold, if◌then◌else◌, inl, inr, refl}
use Rattle.std.proofs.Common.{subst, sym, true, ℕ, ◌&&◌, ◌+◌, ◌∙◌, ◌∷◌, ◌≡◌, ◌≤◌, ◌⊎◌}
use Rattle.std.proofs.lemmas.Bool.{and_from}
use Rattle.std.specs.Bool.{beq}
use Rattle.std.specs.List.{list_any}
use Rattle.token_types.specs.declared.token.Token.{Token}
use Rattle.tree_calls.specs.declared.call.Call.{Call}

-- the tables and the step in the making when it is gone on with: it isn't open by them
abbrev pub at_turn : Tables → Bool → Tables
at_turn m first = record m {
  call = None;
  begun = if first then m.begun + 1 else m.begun;
  lost = if first then [] else m.lost;
}

abbrev pub turn_draft : List Token → List FilesetId → Draft
turn_draft taken dues = record no_draft { taken = taken; due = dues }

-- it begins now, and none was open; or it was open
abbrev pub HasTurn : Tables → Asked → Bool → Type 0
HasTurn m c true = (m.call ≡ None) × (c.k ≡ m.begun + 1)
HasTurn m c false = m.call ≡ Some c

-- what steps owe to lines and the end by their cause, where this call alone begins in them, or none
abbrev pub KeepsLines : Script → Tables → List Step → Cause → Asked → Bool → Type 0
KeepsLines script m past cause c first = (s : Step) → s.cause ≡ cause
    → (s.applied ≡ []) × (s.admitted ≡ []) × (s.reserved ≡ [])
    → ((k : ℕ) (call : Call) → BeginsCall s k call → (first ≡ true) × (k ≡ c.k) × (call ≡ c.call))
    → (first ≡ true → BeginsCall s c.k c.call)
    → LinesMay (lines_of script (Host m.host)) (limit_of script.roster m.host) (servers_of script.roster) past s

-- The tables `m` have learnt and taken what the cause brings, and no request is outstanding. Before that the host
-- ran by
-- `old`; the give-backs that became the first of their filesets since are due.
pub record IsTurn (script : Script) (old m : Tables) (past : List Step) (cause : Cause) (taken : List Token)
    (dues : List FilesetId) (c : Asked) (first : Bool) : Type 0 where
  pub running : IsRunning script old past
  pub host : old.host ≡ m.host
  pub learnt : Stands script m (learning m.host cause taken ∷ past)
  pub tidy : IsTidy script.roster m
  pub idle : m.request ≡ None
  pub turn : HasTurn m c first
  pub askable : IsCall script.roster c.call
  -- a use that is being ended is ended by this call, which was open
  pub ending : (u : Labelled) → m.ending ≡ Some u → (first ≡ false) × (c.call ≡ end_of u)
      × ((w : UseOf) → In w m.uses.labels → end_of (labelled w) ≡ end_of u → ⊥)
  pub no_bye : (v : ServerId) → (site_at m.sites v).said_bye ≡ true → ⊥
  pub lines : KeepsLines script m past cause c first
  -- what came: its tokens are taken, and its number isn't a new one
  pub takes : TakesRight past (learning m.host cause taken)
  pub grants : (fs : FilesetId) (g : GrantOf) → About past (learning m.host cause taken) fs (Grant g)
      → g.bring.fid.fileset ≡ fs → g.bring.number ≤ last_fetch m.fetched fs
  pub changes : (v : ServerId) (d : DoneOf) → DoneComes past (learning m.host cause taken) v d
      → d.bring.number ≤ last_change m.changed v d.fileset
  pub due : (g : Give) → IsFirst m.gives g → (IsFirst old.gives g → ⊥) → In g.fid.fileset dues
  pub silent : first ≡ true → dues ≡ []

module _ (script : Script) (old m : Tables) (past : List Step) (cause : Cause) (taken : List Token)
    (dues : List FilesetId) (c : Asked) (first : Bool) (it : IsTurn script old m past cause taken dues c first) where
  abbrev pub h : Step
  h = learning m.host cause taken

  -- a step of it
  abbrev pub by : Draft → Step
  by d = step_of (Host m.host) cause (record d { taken = taken })

  pub turn_at : (b : Bool) → first ≡ b → HasTurn m c b
  turn_at b e = subst (HasTurn m c) e it.turn

  -- # Whose turn it is
  -- a call that was open goes on
  pub goes_on : first ≡ false → CallGoesOn past h c.k c.call
  goes_on e = elim (it.learnt.call.is_open c (turn_at false e)) [
    | inl p ↦ absurd (cc)
    | inr o ↦ (o.0, o.1)
  ]

  open_still : (k : ℕ) (call : Call) → CallGoesOn past h k call → m.call ≡ Some (record { k = k; call = call })
  open_still k call g = it.learnt.call.asked (record { k = k; call = call }) (inr (g.0, g.1, λ a i. elim i [ ]))

  none_goes_on : first ≡ true → (k : ℕ) (call : Call) → CallGoesOn past h k call → ⊥
  none_goes_on e k call g = let p = sym (turn_at true e).0 ∙ open_still k call g in cc

  same_goes_on : first ≡ false → (k : ℕ) (call : Call) → CallGoesOn past h k call → (k ≡ c.k) × (call ≡ c.call)
  same_goes_on e k call g =
      let p : Some c ≡ Some (record { k = k; call = call }) = sym (turn_at false e) ∙ open_still k call g in
      let q : c ≡ record { k = k; call = call } = cc in
      (sym (ap (λ (a : Asked). a.k) q), sym (ap (λ (a : Asked). a.call) q))

  -- it was open by the tables before
  pub was_open : first ≡ false → old.call ≡ Some c
  was_open e = it.running.rests.stands.call.asked c (goes_on e).0

  -- it alone begins in a step
  pub record BeginsTurn (d : Draft) : Type 0 where
    pub only : (k : ℕ) (call : Call) → BeginsCall (by d) k call → (first ≡ true) × (k ≡ c.k) × (call ≡ c.call)
    pub there : first ≡ true → BeginsCall (by d) c.k c.call

  pub has_it : (d : Draft) → BeginsTurn d → HasCall past (by d) c.k c.call
  has_it d begins = by_first first refl
    where
      by_first : (b : Bool) → first ≡ b → HasCall past (by d) c.k c.call
      by_first true e = inl (begins.there e)
      by_first false e = inr (goes_on e)

  pub only_it : (d : Draft) → BeginsTurn d → (k : ℕ) (call : Call) → HasCall past (by d) k call
      → (k ≡ c.k) × (call ≡ c.call)
  only_it d begins k call (inl b) = let r = begins.only k call b in (r.1, r.2)
  only_it d begins k call (inr g) = by_first first refl
    where
      by_first : (b : Bool) → first ≡ b → (k ≡ c.k) × (call ≡ c.call)
      by_first true e = absurd (none_goes_on e k call g)
      by_first false e = same_goes_on e k call g

  -- what it may do by its cause
  pub cause_may : (d : Draft) → BeginsTurn d
      → ((g : Give) → IsOutstanding (by d ∷ past) g → (IsOutstanding past g → ⊥) → (HasStopped (by d ∷ past) → ⊥)
      → SendsTo (by d) (stay_of (by d ∷ past) g.fid.fileset) (GiveBack g)) → CauseMay script m.host past (by d)
  cause_may d begins sends = record {
    live = it.running.rests.stands.live;
    takes = it.takes.takes;
    takes_all = record { all = it.takes.takes_all.all; once = it.takes.takes_all.once };
    new_gives = sends;
    lines = it.lines (by d) refl (refl, refl, refl) begins.only begins.there;
  }

  pub under : (fid : Fid) (at : ℕ) → is_dirty past fid at ≡ true → OwnsUpdate past fid at
  under = it.running.rests.stands.dirty.under

  -- # The use that is being ended
  pub uses_m : AreUses m
  uses_m = uses_are script m (h ∷ past) it.learnt

  -- its call gives back
  pub ending_gives : (u : Labelled) → m.ending ≡ Some u → verdict_from m c.call ≡ GivesOf
  ending_gives u e =
      let lock : Bool = is_lock u.token.kind in
      let is : c.call ≡ ending_of lock u.label = (it.ending u e).1 ∙ end_is u.token.kind u.label
      (it.learnt.leaving.ends u e).0 in
      let here : ends_label lock u.label (Some u) ≡ true = and_from (beq lock lock) (same_name u.label u.label)
      (mode_same lock lock refl) (name_same u.label) in
      let there : ends_label lock u.label m.ending ≡ true =
      ap (λ (o : Option Labelled). ends_label lock u.label o) e ∙ here in
      let has : has_label m lock u.label ≡ true =
      or_right (list_any (is_labelled lock u.label) m.uses.labels) (ends_label lock u.label m.ending) there in
      let gives : gives_label m lock u.label ≡ true =
      or_right (list_any (λ v. is_labelled lock u.label v && is_last_pinned m.uses v) m.uses.labels)
      (ends_label lock u.label m.ending) there in
      ap (verdict_from m) is ∙ verdict_so m uses_m lock u.label has
      ∙ ap (λ (b : Bool). if b then GivesOf else FreesOf) gives

  -- so nothing is being ended where it doesn't
  pub none_ends : (verdict_from m c.call ≡ GivesOf → ⊥) → (u : Labelled) → m.ending ≡ Some u → ⊥
  none_ends other u e = other (ending_gives u e)

  pub no_bye_said : (v : ServerId) → HasSaid past v Bye → ⊥
  no_bye_said v b = it.no_bye v ((it.learnt.sites v).said_bye.1 (b.0, b.1, inr b.2))

  -- # What is due
  -- a message of the host in the present epoch of a server
  pub record IsOutward (y : Message) : Type 0 where
    pub way : y.direction ≡ ToServer
    pub host_is : y.host ≡ m.host
    pub epoch_is : y.epoch ≡ (site_at m.sites y.server).epoch
    pub no_moves : y.moves ≡ 0

  pub record IsDue (y : Message) : Type 0 where
    pub plain : IsOutward y
    pub give : Give
    pub one : IsFirst m.gives give
    pub body : y.body ≡ GiveBack give
    pub place : home give.fid.fileset ≡ y.server

  -- each that is due is said
  abbrev pub SaysDues : List Message → Type 0
  SaysDues sent = (g : Give) → IsFirst m.gives g → In g.fid.fileset dues
      → SendsTo (record h { sent = sent }) (stay_of past g.fid.fileset) (GiveBack g)

  -- and nothing else
  pub record DuesAlone (sent : List Message) : Type 0 where
    pub due : (y : Message) → In y sent → IsDue y
    pub says : SaysDues sent
    pub quiet : first ≡ true → sent ≡ []

  -- of its own, and what is due
  pub record SaysWith (own sent : List Message) : Type 0 where
    pub said : (y : Message) → In y sent → In y own ⊎ IsDue y
    pub keeps : (y : Message) → In y own → In y sent
    pub says : SaysDues sent

  -- by the code's words
  module _ (sound : IsSoundGives m.gives) (new : Tables) (host_new : new.host ≡ m.host)
      (gives_new : new.gives ≡ m.gives)
      (epochs : (v : ServerId) → (site_at new.sites v).epoch ≡ (site_at m.sites v).epoch) (start : Draft) where
    abbrev pub sending : Draft
    sending = fold (sending_give new) start dues

    pub sends_only : OnlySends start sending
    sends_only = fold_only (sending_give new) (λ d fs. giving_only new d fs) start dues

    pub plain_new : (v : ServerId) (b : Body) → IsOutward (message_to new v b)
    plain_new v b = record { way = refl; host_is = host_new; epoch_is = epochs v; no_moves = refl }

    at_home : (g : Give) → IsFirst m.gives g → home_at g.fid.fileset ≡ home g.fid.fileset
    at_home g one = home_is script.roster m it.tidy g.fid.fileset
        (it.tidy.gives one.message g one.within one.body).declared

    pub said_dues : (y : Message) → In y sending.sent → In y start.sent ⊎ IsDue y
    said_dues y i = elim (fold_says (sending_give new) (λ fs z. (o : Message) × (outstanding new.gives fs ≡ Some o)
        × (z ≡ message_to new (home_at fs) o.body)) (λ d fs z j. giving_says new d fs z j) start dues y i) [
          | inl j ↦ inl j
          | inr r ↦
              let e = sym (ap (λ z. outstanding z r.0) gives_new) ∙ r.2.1 in
              let k = outstanding_is m.gives sound r.0 r.2.0 e in
              inr (record {
                plain = subst IsOutward (sym r.2.2) (plain_new (home_at r.0) r.2.0.body);
                give = k.0;
                one = k.3;
                body = ap (λ (z : Message). z.body) r.2.2 ∙ k.1;
                place = sym (at_home k.0 k.3) ∙ ap home_at k.2 ∙ sym (ap (λ (z : Message). z.server) r.2.2);
              })
        ]

    pub keeps_said : (y : Message) → In y start.sent → In y sending.sent
    keeps_said y i = fold_keeps (sending_give new) (λ d fs z j. giving_keeps new d fs z j) start dues y i

    pub says_dues : SaysDues sending.sent
    says_dues g one due =
        let fs : FilesetId = g.fid.fileset in
        let r = first_outstanding m.gives sound g one in
        let y : Message = message_to new (home_at fs) r.0.body in
        let there = fold_said (sending_give new) (λ d z w j. giving_keeps new d z w j) fs y
        (λ d. giving_said new d fs r.0 (ap (λ z. outstanding z fs) gives_new ∙ r.1)) start dues due in
        (y.epoch, (y, there, at_home g one, refl, refl, r.2))

    pub says_with : SaysWith start.sent sending.sent
    says_with = record { said = said_dues; keeps = keeps_said; says = says_dues }

    pub dues_alone : start.sent ≡ [] → DuesAlone sending.sent
    dues_alone silent = record {
      due = λ y i. elim (said_dues y i) [
        | inl j ↦ absurd (none_in start.sent silent y j)
        | inr due ↦ due
      ];
      says = says_dues;
      quiet = λ e. ap (λ (fss : List FilesetId). (fold (sending_give new) start fss).sent) (it.silent e) ∙ silent;
    }

  -- a step that makes no give-back
  module _ (d : Draft) (none_made : d.made ≡ []) where
    made_half : (g : Give) → Made (by d ∷ past) g → Made (h ∷ past) g
    made_half g (inl i) = absurd (none_in d.made none_made g i)
    made_half g (inr i) = inr i

    half_made : (g : Give) → Made (h ∷ past) g → Made (by d ∷ past) g
    half_made g (inl i) = elim i [ ]
    half_made g (inr i) = inr i

    pub gives_now : GivesStand m.gives (by d ∷ past)
    gives_now = record {
      made = λ y i. let r = it.learnt.gives.made y i in (r.0, r.1, half_made r.0 r.2, r.3);
      all = λ g i. it.learnt.gives.all g (made_half g i);
      one = λ g k a b. it.learnt.gives.one g k (made_half g a) (made_half k b);
      last = λ g i. it.learnt.gives.last g (made_half g i);
      counted = λ fs. elim (it.learnt.gives.counted fs) [
        | inl e ↦ inl e
        | inr r ↦ inr (r.0, half_made r.0 r.1, r.2, r.3)
      ];
    }

    pub sends_new : SaysDues d.sent → (g : Give) → IsOutstanding (by d ∷ past) g → (IsOutstanding past g → ⊥)
        → (HasStopped (by d ∷ past) → ⊥) → SendsTo (by d) (stay_of (by d ∷ past) g.fid.fileset) (GiveBack g)
    sends_new says g o fresh going =
        let one = out_first m.gives (by d ∷ past) gives_now g o in
        says g one (it.due g one (λ f. fresh (first_out old.gives past it.running.rests.stands.gives g f)))

    -- what is due may be sent
    pub due_may : (stance : Stance script.roster m.host past (by d)) (y : Message) → IsDue y
        → MaySend script.roster m.host past (by d) stance y
    due_may stance y due = record {
      epoch_is = due.plain.epoch_is ∙ (it.learnt.sites y.server).epoch;
      says = subst (λ (q : ℕ × Body). MaySay script.roster m.host past (by d) stance y.server q.0 q.1)
          (λ i. (sym due.plain.no_moves i, sym due.body i)) may;
    }
      where
        may : MayGive script.roster m.host past (by d) stance y.server 0 due.give
        may =
            let o = first_out m.gives (by d ∷ past) gives_now due.give due.one in
            record {
              made = o.made;
              place = λ i. record { server = due.place i; moves = 0 };
              first = λ k made same less. elim (gives_now.all k made) [
                | inl q ↦ q
                | inr z ↦ absurd (due.one.least z.0 k z.1 z.2 same less)
              ];
            }

  -- and is sound
  pub due_sound : (y : Message) → IsDue y → IsSound script.roster y
  due_sound y due =
      let t = it.tidy.gives due.one.message due.give due.one.within due.one.body in
      again_sound script.roster m (moved_of m) past h y it.tidy (record {
        way = due.plain.way;
        host_is = due.plain.host_is;
        no_moves = due.plain.no_moves;
        epoch_is = due.plain.epoch_is;
      }) (subst (IsServer script.roster) due.place t.declared)
      (subst (SaysAgain m (moved_of m) past h y.server) (sym due.body) (OfGive due.give due.one due.place))
