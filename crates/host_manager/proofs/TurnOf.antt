-- Whose turn it is: the call that a line begins, one that the end implies, and the open call when a message has come.
use Rattle.host_manager.proofs.News.{none_is_open}
use Rattle.host_manager.specs.Running.{EndsOpen}
use Rattle.std.proofs.Common.{ap, ◌+◌, ◌∙◌, ◌∷◌, ◌≡◌, ◌≤◌}
use Rattle.base_types.specs.declared.ids.FilesetId.{FilesetId}
use Rattle.base_types.specs.declared.ids.Node.TheVariants.{Host}
use Rattle.base_types.specs.declared.ids.ServerId.{ServerId}
use Rattle.host_manager.proofs.GivesStep.{end_sound}
use Rattle.host_manager.proofs.Running.{line_left}
use Rattle.host_manager.proofs.Turns.{IsTurn, KeepsLines}
use Rattle.host_tables.specs.AtOnce.{IsFree, IsNextCall}
use Rattle.host_tables.specs.Half.{learning}
use Rattle.host_tables.specs.Learning.{TeachesNothing}
use Rattle.host_manager.specs.Running.{IsRunning}
use Rattle.host_tables.specs.Saying.{IsFirst}
use Rattle.host_tables.specs.Stands.{Stands}
use Rattle.host_tables.specs.Tables.{last_change, last_fetch}
use Rattle.host_tables.specs.Tidy.{IsTidy}
use Rattle.host_tables.specs.WholeSteps.{TakesRight}
use Rattle.host_tables.specs.declared.tables.Tables.{Tables}
use Rattle.message_types.specs.Soundness.{IsCall}
use Rattle.message_types.specs.declared.giving.Give.{Give}
use Rattle.message_types.specs.declared.message.Body.TheVariants.{Grant}
use Rattle.message_types.specs.declared.message.Message.{Message}
use Rattle.message_types.specs.declared.telling.Done.{Done as DoneOf}
use Rattle.message_types.specs.declared.telling.Grant.{Grant as GrantOf}
use Rattle.run_rules.specs.HostMay.{DoesLine, TakenBefore}
use Rattle.run_rules.specs.Messages.{About, DoneComes}
use Rattle.run_rules.specs.Past.{In}
use Rattle.run_rules.specs.Steps.{lines_gone, lines_of, servers_of}
use Rattle.run_rules.specs.Tokens.{BeginsCall, LabelInUse, calls_begun, end_of}
use Rattle.run_rules.specs.declared.step.Asked.{Asked}
use Rattle.run_rules.specs.declared.step.Cause.TheVariants.{End, Line as LineOf, Message as Came}
use Rattle.run_rules.specs.declared.step.Labelled.{Labelled}
use Rattle.run_rules.specs.declared.step.Step.{Step}
use Rattle.script_lines.specs.declared.script.Script.{Script}
use Rattle.std.proofs.Common.{List, None, Some, [], arith, false, inl, inr, length, refl, subst, suc, sym, true, ℕ}
use Rattle.std.proofs.Common.{◌+◌, ◌∙◌, ◌∷◌, ◌≡◌, ◌≤◌}
use Rattle.token_types.specs.declared.token.Token.{Token}
use Rattle.tree_calls.specs.declared.call.Call.{Call}
use Rattle.host_tables.proofs.AtOnce as at_once
use Rattle.host_tables.proofs.Learning as learning_of

-- # By a line
module _ (script : Script) (m : Tables) (past : List Step) (line : ℕ) (call : Call) (running : IsRunning script m past)
    (free : IsFree m) (next : IsNextCall script m.host past line call) (askable : IsCall script.roster call) where
  stands_l : Stands script m past
  stands_l = running.rests.stands

  teaches_l : TeachesNothing past (learning m.host (LineOf line) [])
  teaches_l = learning_of.teaches_nothing past (learning m.host (LineOf line) []) tt

  lines_l : KeepsLines script m past (LineOf line) (record { k = m.begun + 1; call = call }) true
  lines_l s cause applies only there = record {
    next = λ n e. (
      next.line,
      (next.next.0, next.next.1 ∙ (let p = sym cause ∙ e in cc)),
      subst (DoesLine (servers_of script.roster) past s) (sym next.deed) begins_it,
    );
    free = λ n e. (
      none_is_open script m past stands_l free.none_open,
      at_once.not_many script m past stands_l free.few,
    );
    begins = λ k d b. inl (line, cause);
    no_server = ((λ n e. let p = sym cause ∙ e in cc), λ e. let p = sym cause ∙ e in cc);
    applies_none = applies;
    after = λ e. absurd (let p = sym cause ∙ e in cc);
    implied = λ k d e. absurd (let p = sym cause ∙ e in cc);
  }
    where
      begins_it : BeginsCall s (suc (calls_begun past)) call
      begins_it =
          let a = stands_l.call.begun in
          let e : m.begun + 1 ≡ suc (calls_begun past) = omega (arith, a) in
          subst (λ (k : ℕ). BeginsCall s k call) e (there refl)

  pub line_turn : IsTurn script m m past (LineOf line) [] [] (record { k = m.begun + 1; call = call }) true
  line_turn = record {
    running = running;
    host = refl;
    learnt = learning_of.unmoved m.host (LineOf line) past teaches_l script m refl stands_l;
    tidy = running.tidy;
    idle = running.rests.rest.alone free.none_open;
    turn = (free.none_open, refl);
    askable = askable;
    ending = λ u e. let r = running.ending u e in let p = sym free.none_open ∙ r.1 in absurd (cc);
    no_bye = λ v e. line_left script m past line next.line running next.next v e;
    lines = lines_l;
    takes = record {
      takes = λ t i. elim i [ ];
      takes_all = record { all = λ w t u. absurd (teaches_l.none_used w u.0); once = λ t u i. elim i [ ] };
    };
    grants = λ fs g about. absurd (teaches_l.none_granted fs g about);
    changes = λ v d comes. absurd (teaches_l.none_settled v d comes);
    due = λ g one fresh. absurd (fresh one);
    silent = λ e. refl;
  }

-- # At the end
module _ (script : Script) (m : Tables) (past : List Step) (running : IsRunning script m past) (free : IsFree m)
    (gone : lines_gone past ≡ length (lines_of script (Host m.host))) (u : Labelled) (used : LabelInUse past u)
    (taken_first : (other : Labelled) → LabelInUse past other → TakenBefore past other u → ⊥) where
  stands_e : Stands script m past
  stands_e = running.rests.stands

  teaches_e : TeachesNothing past (learning m.host End [])
  teaches_e = learning_of.teaches_nothing past (learning m.host End []) tt

  lines_e : KeepsLines script m past End (record { k = m.begun + 1; call = end_of u }) true
  lines_e s cause applies only there = record {
    next = λ n e. absurd (let p = sym cause ∙ e in cc);
    free = λ n e. absurd (let p = sym cause ∙ e in cc);
    begins = λ k d b. inr cause;
    no_server = ((λ n e. let p = sym cause ∙ e in cc), λ e. let p = sym cause ∙ e in cc);
    applies_none = applies;
    after = λ e. (
      gone,
      none_is_open script m past stands_e free.none_open,
      at_once.not_many script m past stands_e free.few,
    );
    implied = λ k d e b.
        let r = only k d b in
        let a = stands_e.call.begun in
        let n = r.1 in (omega (arith, a, n), (u, used, r.2, taken_first));
  }

  pub end_turn : IsTurn script m m past End [] [] (record { k = m.begun + 1; call = end_of u }) true
  end_turn = record {
    running = running;
    host = refl;
    learnt = learning_of.unmoved m.host End past teaches_e script m refl stands_e;
    tidy = running.tidy;
    idle = running.rests.rest.alone free.none_open;
    turn = (free.none_open, refl);
    askable = end_sound script.roster u.token.kind u.label;
    ending = λ w e. let r = running.ending w e in let p = sym free.none_open ∙ r.1 in absurd (cc);
    no_bye = λ v e. (stands_e.parted v ((stands_e.sites v).said_bye.0 e)).none_owned u.token
        (stands_e.cache.owned u.token (stands_e.cache.cached u.token (stands_e.uses.held u used)));
    lines = lines_e;
    takes = record {
      takes = λ t i. elim i [ ];
      takes_all = record { all = λ w t x. absurd (teaches_e.none_used w x.0); once = λ t x i. elim i [ ] };
    };
    grants = λ fs g about. absurd (teaches_e.none_granted fs g about);
    changes = λ v d comes. absurd (teaches_e.none_settled v d comes);
    due = λ g one fresh. absurd (fresh one);
    silent = λ e. refl;
  }

-- # By a message
module _ (script : Script) (old m : Tables) (past : List Step) (message : Message) (taken : List Token)
    (dues : List FilesetId) (c : Asked) (running : IsRunning script old past) (host : old.host ≡ m.host)
    (learnt : Stands script m (learning m.host (Came message) taken ∷ past)) (tidy : IsTidy script.roster m)
    (idle : m.request ≡ None) (open_is : m.call ≡ Some c)
    (ending : EndsOpen m)
    (takes : TakesRight past (learning m.host (Came message) taken))
    (grants : (fs : FilesetId) (g : GrantOf) → About past (learning m.host (Came message) taken) fs (Grant g)
    → g.bring.fid.fileset ≡ fs → g.bring.number ≤ last_fetch m.fetched fs)
    (changes : (v : ServerId) (d : DoneOf) → DoneComes past (learning m.host (Came message) taken) v d
    → d.bring.number ≤ last_change m.changed v d.fileset)
    (due : (g : Give) → IsFirst m.gives g → (IsFirst old.gives g → ⊥) → In g.fid.fileset dues) where
  lines_m : KeepsLines script m past (Came message) c false
  lines_m s cause applies only there = record {
    next = λ n e. absurd (let p = sym cause ∙ e in cc);
    free = λ n e. absurd (let p = sym cause ∙ e in cc);
    begins = λ k d b. absurd (let p = (only k d b).0 in cc);
    no_server = ((λ n e. let p = sym cause ∙ e in cc), λ e. let p = sym cause ∙ e in cc);
    applies_none = applies;
    after = λ e. absurd (let p = sym cause ∙ e in cc);
    implied = λ k d e. absurd (let p = sym cause ∙ e in cc);
  }

  pub message_turn : IsTurn script old m past (Came message) taken dues c false
  message_turn = record {
    running = running;
    host = host;
    learnt = learnt;
    tidy = tidy;
    idle = idle;
    turn = open_is;
    askable = tidy.call c open_is;
    ending = λ u e.
        let r = ending u e in
        let p : Some r.0 ≡ Some c = sym r.1 ∙ open_is in
        let same : r.0 ≡ c = cc in (refl, ap (λ (a : Asked). a.call) (sym same) ∙ r.2, r.4);
    no_bye = λ v e.
        let p = sym open_is ∙ (learnt.parted v ((learnt.sites v).said_bye.0 e)).none_open in absurd (cc);
    lines = lines_m;
    takes = takes;
    grants = grants;
    changes = changes;
    due = due;
    silent = λ e. absurd (cc);
  }
