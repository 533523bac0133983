-- A message is taken, in a step of its own: the step meets the rules, and the tables stand for it.
use Rattle.std.proofs.Common.{◌≡◌, Bool, true, List, [], ◌∷◌, Option, None, Some, inl, inr, refl, sym, subst}
use Rattle.std.specs.Prelude.{Err, IfOk, Ok, OnOk, Result, is_some}
use Rattle.base_types.specs.declared.user.User.{User}
use Rattle.tree_answers.specs.declared.tree.Tree.{Tree}
use Rattle.tree_calls.specs.Rosters.{user_of}
use Rattle.script_lines.specs.declared.script.Script.{Script}
use Rattle.message_types.specs.declared.message.Body.{Body}
use Rattle.message_types.specs.declared.message.Body.TheVariants.{GiveBack, Done}
use Rattle.message_types.specs.declared.message.Message.{Message}
use Rattle.run_rules.specs.Doings.{Doing, after_step}
use Rattle.run_rules.specs.Kept.{filesets_kept}
use Rattle.run_rules.specs.declared.step.Cause.TheVariants.{Message as Came}
use Rattle.run_rules.specs.declared.step.Step.{Step}
use Rattle.run_tokens.specs.ServerRest.{ServerMeets}
use Rattle.store_state.specs.declared.state.StoreState.{StoreState}
use Rattle.server_decides.specs.ExporterFault.{ExporterFault}
use Rattle.server_tables.specs.declared.tables.Tables.{Tables}
use Rattle.server_decides.specs.Drafts.{no_draft, step_of, word}
use Rattle.server_decides.specs.Messages.{IsFor, IsStored}
use Rattle.server_decides.specs.Draft.{Draft}
use Rattle.server_decides.specs.Finishing.{IsFinished, IsTakenAndFinished}
use Rattle.server_decides.specs.Running.{Making, making}
use Rattle.server_decides.specs.Serving.{IsServed}
use Rattle.server_exporter.specs.Machines.{Follows, IsAt, Keeps, Meets}
use Rattle.server_exporter.specs.declared.exporter.Exporter.{Exporter}
use Rattle.server_exporter.proofs.Ending.{end_follows, end_meets, ends_follows, ends_meets}
use Rattle.server_exporter.proofs.Gifts.{give_again}
use Rattle.server_exporter.proofs.Repeating.{again_cause, again_granted, again_mid}
use Rattle.server_exporter.proofs.Taken.{Begins, IsAgainSaid, took_opens}

some_user : (o : Option User) → is_some o ≡ true → (u : User) × (o ≡ Some u)
some_user None e = absurd (cc)
some_user (Some u) e = (u, refl)

module _ (x : Exporter) (m : Message) (y : Tables) (e : Draft) (st next : StoreState)
    (came : IsFor x.tables.server x.tables.roster m) (rests : x.rested ≡ true) (served : IsServed x.tables st)
    (after : IsServed y next) (b : Bool) (f : IsTakenAndFinished x.tables no_draft m st y e next b)
    (start : Tree) (steps : List Step) (past : List Doing)
    (z : IsAt past (filesets_kept start x.tables.server steps) x)
    (k : Keeps x.tables (filesets_kept start x.tables.server steps) st) where
  abbrev tree : Tree
  tree = filesets_kept start x.tables.server steps

  -- the store may be given twice what it is given
  is_stored : (c : Body) → m.body ≡ c → IsStored m st c
  is_stored (GiveBack g) is = give_again tree past x z m st k served came g is
  is_stored _ is = tt

  begins_so : Begins tree past x z m st k served came f.laws f.between f.served
  begins_so =
      let u = some_user (user_of x.tables.roster m.host) (served.users m.host came.sound.host) in
      took_opens tree past x z m st k served came f.laws f.between f.served u.0 u.1 (f.taken u.0 u.1)
      (f.stored (is_stored m.body refl))

  abbrev Again : Type 0
  Again = IsAgainSaid tree past x z m st k served came f.laws f.between f.served

  module _ (r : Again) where
    abbrev said : Making
    said = making x.tables (record no_draft { sent = word x.tables m.host (Done r.done) ∷ [] }) st

    ended : IsFinished said.tables said.draft said.state y e next b
    ended = subst (λ (v : Making). IsFinished v.tables v.draft v.state y e next b) r.is_so f.finished

    again_meets : (script : Script) → ServerMeets script start x.tables.server steps past
        (step_of x.tables.server (Came m) e)
    again_meets = end_meets start x.tables.server steps past (Came m) said y e next b
        (again_cause tree past x z m st k served r.change r.is r.live r.current r.here r.old r.done r.found rests) ended
        after
        (again_mid tree past x z m st k served r.change r.is r.live r.current r.here r.old r.done r.found rests
        ended.decided ended.decides)
        (again_granted tree past x z m st k served r.change r.is r.live r.current r.here r.old r.done r.found rests
        ended.decided ended.decides ended.admitted ended.admits)

    again_follows : IsAt (after_step (step_of x.tables.server (Came m) e) past)
        (filesets_kept start x.tables.server (step_of x.tables.server (Came m) e ∷ steps))
        (record { tables = y; rested = b })
        × Keeps y (filesets_kept start x.tables.server (step_of x.tables.server (Came m) e ∷ steps)) next
    again_follows = end_follows start x.tables.server steps past (Came m) said y e next b
        (again_cause tree past x z m st k served r.change r.is r.live r.current r.here r.old r.done r.found rests) ended
        after
        (again_mid tree past x z m st k served r.change r.is r.live r.current r.here r.old r.done r.found rests
        ended.decided ended.decides)
        (again_granted tree past x z m st k served r.change r.is r.live r.current r.here r.old r.done r.found rests
        ended.decided ended.decides ended.admitted ended.admits)

  pub took_meets : (script : Script) → ServerMeets script start x.tables.server steps past
      (step_of x.tables.server (Came m) e)
  took_meets script = elim begins_so [
    | inl h ↦ ends_meets start x.tables.server steps past (Came m) f.between y e next b h f.finished after script
    | inr r ↦ again_meets r script
  ]

  pub took_follows : IsAt (after_step (step_of x.tables.server (Came m) e) past)
      (filesets_kept start x.tables.server (step_of x.tables.server (Came m) e ∷ steps))
      (record { tables = y; rested = b })
      × Keeps y (filesets_kept start x.tables.server (step_of x.tables.server (Came m) e ∷ steps)) next
  took_follows = elim begins_so [
    | inl h ↦ ends_follows start x.tables.server steps past (Came m) f.between y e next b h f.finished after
    | inr r ↦ again_follows r
  ]

-- # The step

module _ (x : Exporter) (m : Message) (y : Tables) (e : Draft) (st next : StoreState) (s : Step)
    (is : s ≡ step_of x.tables.server (Came m) e) (came : IsFor x.tables.server x.tables.roster m)
    (rests : x.rested ≡ true) (served : IsServed x.tables st) (after : IsServed y next) (b : Bool)
    (f : IsTakenAndFinished x.tables no_draft m st y e next b) where
  step_meets : Meets st x s
  unfolding Meets
  step_meets = subst (Meets st x) (sym is) (λ script start steps past z k.
      took_meets x m y e st next came rests served after b f start steps past z k script)

  step_follows : Follows st x s next (record { tables = y; rested = b })
  unfolding Follows
  step_follows = subst (λ (u : Step). Follows st x u next (record { tables = y; rested = b })) (sym is)
      (λ start steps past z k. took_follows x m y e st next came rests served after b f start steps past z k)

pub take_meets : (made : Result Bool ExporterFault) (x : Exporter) (m : Message) (y : Tables) (d e : Draft)
    (st next : StoreState) (s : Step) → d ≡ no_draft → s ≡ step_of x.tables.server (Came m) e
    → IsFor x.tables.server x.tables.roster m → x.rested ≡ true → IsServed x.tables st
    → IfOk made (IsTakenAndFinished x.tables d m st y e next) → OnOk made (IsServed y next)
    → OnOk made (Meets st x s)
take_meets (Err error) x m y d e st next s none is came rests served f after = tt
take_meets (Ok b) x m y d e st next s none is came rests served f after =
    step_meets x m y e st next s is came rests served after b
    (subst (λ (a : Draft). IsTakenAndFinished x.tables a m st y e next b) none f)

pub take_follows : (made : Result Bool ExporterFault) (x : Exporter) (m : Message) (y : Tables) (rested : Bool)
    (d e : Draft) (st next : StoreState) (s : Step) → d ≡ no_draft → s ≡ step_of x.tables.server (Came m) e
    → IsFor x.tables.server x.tables.roster m → x.rested ≡ true → IsServed x.tables st
    → IfOk made (IsTakenAndFinished x.tables d m st y e next) → OnOk made (IsServed y next)
    → IfOk made (λ b. rested ≡ b) → OnOk made (Follows st x s next (record { tables = y; rested = rested }))
take_follows (Err error) x m y rested d e st next s none is came rests served f after r = tt
take_follows (Ok b) x m y rested d e st next s none is came rests served f after r =
    subst (λ (q : Bool). Follows st x s next (record { tables = y; rested = q })) (sym r)
    (step_follows x m y e st next s is came rests served after b
    (subst (λ (a : Draft). IsTakenAndFinished x.tables a m st y e next b) none f))
