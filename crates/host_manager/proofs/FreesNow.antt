-- A call whose turn it is ends the use of a label at once, as the code tells.
use Rattle.base_types.specs.Name.{same_name}
use Rattle.base_types.specs.declared.ids.FilesetId.{FilesetId}
use Rattle.base_types.specs.declared.ids.Node.TheVariants.{Host}
use Rattle.host_calls.specs.Answering.{Answered, ChangesOwn, EndsUse as EndsUseOf, FreesUse, changes_nothing}
use Rattle.host_calls.specs.Answering.ChangesOwn.{FreesIt, KeepsAll, UsesIt, WritesIt}
use Rattle.host_calls.specs.Looking.{AreUses, EndsSo, ending_of}
use Rattle.host_calls.specs.declared.looking.Verdict.{Verdict}
use Rattle.host_calls.specs.declared.looking.Verdict.TheVariants.{Frees}
use Rattle.host_gives.specs.Giving.{IsSound as IsSoundGives}
use Rattle.host_labels.specs.Labels.{IsSound as IsSoundUses, after_drop, is_labelled, is_lock}
use Rattle.host_labels.specs.declared.uses.Labelled.{Labelled as UseOf}
use Rattle.host_leaves.specs.Sending.{sending_due}
use Rattle.host_manager.proofs.EndsIt.{verdict_so}
use Rattle.host_manager.proofs.Freed.{end_is, modes}
use Rattle.host_manager.proofs.Running.{uses_are}
use Rattle.host_manager.proofs.Turns.{IsTurn, at_turn, turn_draft}
use Rattle.host_tables.proofs.Lists.{any_in, by_test, names_are, or_left, true_false}
use Rattle.host_tables.proofs.Outstanding.{found_in}
use Rattle.host_tables.specs.AnswerSteps.{AnsweredBy}
use Rattle.host_tables.specs.Drafts.{step_of}
use Rattle.host_tables.specs.Half.{learning}
use Rattle.host_manager.specs.Running.{RunsOn}
use Rattle.host_tables.specs.Stands.{look_from, verdict_from}
use Rattle.host_tables.specs.Tables.{content, ends_label, gives_label, is_last_pinned, labelled}
use Rattle.host_tables.specs.declared.draft.Draft.{Draft}
use Rattle.host_tables.specs.declared.tables.Tables.{Tables}
use Rattle.need_host.specs.Calls.Verdict.{Frees as FreesOf, Gives as GivesOf}
use Rattle.need_host.specs.Looks.{outcome}
use Rattle.need_host.specs.Looks.Look.{Ends as EndsOf}
use Rattle.run_rules.specs.Past.{In}
use Rattle.run_rules.specs.Tokens.{end_of}
use Rattle.run_rules.specs.declared.step.Asked.{Asked}
use Rattle.run_rules.specs.declared.step.Cause.{Cause}
use Rattle.run_rules.specs.declared.step.Step.{Step}
use Rattle.script_lines.specs.declared.script.Script.{Script}
use Rattle.std.proofs.Common.{Bool, List, None, Ok, Result, Some, [], ap, false, if◌then◌else◌, inl, inr, refl, subst}
use Rattle.std.proofs.Common.{sym, true, ℕ, ◌&&◌, ◌∙◌, ◌∷◌, ◌≡◌}
use Rattle.std.proofs.lemmas.Bool.{and_from, and_parts}
use Rattle.std.specs.Bool.{beq}
use Rattle.std.specs.List.{list_any}
use Rattle.token_types.specs.declared.token.Token.{Token}
use Rattle.tree_calls.specs.declared.call.Call.{Call}
use Rattle.tree_calls.specs.declared.reply.Refusal.{Refusal}
use Rattle.tree_calls.specs.declared.reply.Reply.TheVariants.{Ok as Fine}
use Rattle.host_manager.proofs.TurnAnswers as answers
use Rattle.host_manager.proofs.TurnFrees as turn_frees

-- an answer that frees frees a label
pub frees_of : (call : Call) (m : Tables) (draft : Draft) (new : Tables) (own : Draft) (v : Result Verdict Refusal)
    → v ≡ Ok Frees → ChangesOwn call m draft new own v → FreesUse call m new × (own ≡ draft)
frees_of call m draft new own _ e (WritesIt fid from to it is) = absurd (cc)
frees_of call m draft new own _ e (UsesIt fid kind label taken it) = absurd (cc)
frees_of call m draft new own _ e (FreesIt it is) = (it, is)
frees_of call m draft new own _ e (KeepsAll verdict plain same is) =
    absurd (let p : false ≡ true = sym (ap changes_nothing e) ∙ plain in cc)

module _ (script : Script) (old m : Tables) (past : List Step) (cause : Cause) (came : List Token)
    (dues : List FilesetId) (c : Asked) (first : Bool) (turn : IsTurn script old m past cause came dues c first)
    (sound_m : IsSoundGives m.gives) (sound : IsSoundUses m.uses) where
  abbrev call : Call
  call = c.call

  abbrev k : ℕ
  k = c.k

  abbrev begun : Tables
  begun = at_turn m first

  abbrev draft_0 : Draft
  draft_0 = turn_draft came dues

  uses_m : AreUses m
  uses_m = uses_are script m (learning m.host cause came ∷ past) turn.learnt

  uses_b : AreUses begun
  uses_b = record { labels = uses_m.labels; ending = uses_m.ending }

  -- # By the answer
  module _ (so : EndsSo begun call (Ok Frees)) (new : Tables) (after : Draft)
      (it : Answered k call first (Ok Frees) begun draft_0 new after) where
    its : FreesUse call begun new × (it.own ≡ draft_0)
    its = frees_of call begun draft_0 new it.own (Ok Frees) refl it.changes

    abbrev lock : Bool
    lock = its.0.lock

    abbrev label : List ℕ
    label = its.0.label

    abbrev used : UseOf
    used = its.0.used

    there : In used m.uses.labels × (is_labelled lock label used ≡ true)
    there = found_in (is_labelled lock label) m.uses.labels used its.0.in_use

    same_label : (lock ≡ is_lock used.token.kind) × (label ≡ used.label)
    same_label =
        let p = and_parts (beq (is_lock used.token.kind) lock) (same_name used.label label) there.1 in
        (sym (modes (is_lock used.token.kind) lock p.0), sym (names_are used.label label p.1))

    call_is : call ≡ end_of (labelled used)
    call_is = its.0.call_is ∙ (λ i. ending_of (same_label.0 i) (same_label.1 i))
        ∙ sym (end_is used.token.kind used.label (turn.learnt.uses.kinds (labelled used)
        (turn.learnt.uses.used used there.0)))

    look_call : look_from m call ≡ EndsOf FreesOf
    look_call = so uses_b

    -- the server hasn't to take its end
    not_gives : gives_label m lock label ≡ false
    not_gives = elim (by_test (gives_label m lock label)) [
      | inr n ↦ n
      | inl y ↦
          let p : verdict_from m (ending_of lock label) ≡ GivesOf = verdict_so m uses_m lock label
          (or_left (list_any (is_labelled lock label) m.uses.labels) (ends_label lock label m.ending)
          (any_in (is_labelled lock label) m.uses.labels used there.0 there.1))
          ∙ ap (λ (b : Bool). if b then GivesOf else FreesOf) y in
          let q : verdict_from m (ending_of lock label) ≡ FreesOf = ap (verdict_from m) (sym its.0.call_is)
          ∙ ap (outcome (content m.cache)) look_call in
          let r : GivesOf ≡ FreesOf = sym p ∙ q in cc
    ]

    not_last : is_last_pinned m.uses used ≡ false
    not_last = elim (by_test (is_last_pinned m.uses used)) [
      | inr n ↦ n
      | inl y ↦ absurd (true_false (gives_label m lock label)
          (or_left (list_any (λ v. is_labelled lock label v && is_last_pinned m.uses v) m.uses.labels)
          (ends_label lock label m.ending)
          (any_in (λ v. is_labelled lock label v && is_last_pinned m.uses v) m.uses.labels used there.0
          (and_from (is_labelled lock label used) (is_last_pinned m.uses used) there.1 y))) not_gives)
    ]

    reply_is : it.reply ≡ Fine
    reply_is = let p : Some Fine ≡ Some it.reply = it.right in let q : Fine ≡ it.reply = cc in sym q

    draft_is : after ≡ record draft_0
        { answers = answers.answer script old m past cause came dues c first turn Fine ∷ [] }
    draft_is = it.draft_is
        ∙ (λ i. record (its.1 i) {
          answers = record {
            host = m.host;
            k = k;
            call = call;
            reply = reply_is i;
            first = first;
          } ∷ [];
        })

    ends_l : EndsUseOf begun (is_lock used.token.kind) used.label used new
    ends_l = subst (λ (q : Bool × List ℕ). EndsUseOf begun q.0 q.1 used new)
        (λ i. (same_label.0 i, same_label.1 i)) its.0.ends

    verdict : verdict_from m call ≡ FreesOf
    verdict = ap (outcome (content m.cache)) look_call

    abbrev w : AnsweredBy
    w = record {
      cache = new.cache;
      dirty = m.dirty;
      uses = after_drop m.uses (is_lock used.token.kind) used.label;
    }

    pub frees_now : RunsOn script old new past (step_of (Host m.host) cause (sending_due new after))
    frees_now = subst (λ (q : Tables × Draft). RunsOn script old q.0 past
        (step_of (Host m.host) cause (sending_due q.0 q.1)))
        (λ i. (sym ends_l.tables i, sym draft_is i))
        (answers.by_code script old m past cause came dues c first turn sound_m Fine None [] w
        (turn_frees.freed_runs script old m past cause came dues c first turn sound_m
        (answers.sent script old m past cause came dues c first turn sound_m Fine None [] w)
        (answers.alone_in script old m past cause came dues c first turn sound_m Fine None [] w) sound used
        there.0 not_last new.cache ends_l.shown call_is verdict))
