-- What is due of a step that answers a call: nothing is given back for it.
use Rattle.base_types.specs.declared.ids.Fid.{Fid}
use Rattle.base_types.specs.declared.ids.FilesetId.{FilesetId}
use Rattle.base_types.specs.declared.ids.HostId.{HostId}
use Rattle.base_types.specs.declared.ids.Node.TheVariants.{Host}
use Rattle.host_calls.specs.Answering.{Answered, ChangesOwn}
use Rattle.host_calls.specs.Answering.ChangesOwn.{FreesIt, KeepsAll, UsesIt, WritesIt}
use Rattle.host_calls.specs.Looking.{meant, used_by}
use Rattle.host_calls.specs.declared.looking.Verdict.{Verdict}
use Rattle.host_calls.specs.declared.looking.Verdict.TheVariants.{Asks, Does, Frees, Gives, Lists, Reads, Shows}
use Rattle.host_calls.specs.declared.looking.Verdict.TheVariants.{Syncs, Tells, Uses, Writes}
use Rattle.host_gives.specs.Giving.{Giving, IsSound as IsSoundGives}
use Rattle.host_leaves.specs.Sending.{sending_due}
use Rattle.host_manager.proofs.CallDue.{none_given}
use Rattle.host_manager.proofs.TurnDue.{IsTurnDue, draft_due}
use Rattle.host_manager.proofs.Turns.{IsTurn, at_turn, turn_draft}
use Rattle.host_manager.specs.Running.{RunsOn}
use Rattle.host_tables.specs.Drafts.{step_of}
use Rattle.host_tables.specs.Saying.{IsFirst}
use Rattle.host_tables.specs.Stands.{verdict_from}
use Rattle.host_tables.specs.declared.draft.Draft.{Draft}
use Rattle.host_tables.specs.declared.tables.Tables.{Tables}
use Rattle.need_host.specs.Calls.{reply_now}
use Rattle.need_host.specs.Calls.Verdict.{Gives as GivesOf}
use Rattle.run_rules.specs.HostDue.{HostDue}
use Rattle.run_rules.specs.Past.{In}
use Rattle.run_rules.specs.Tokens.{HasCall}
use Rattle.run_rules.specs.declared.applied.Answer.{Answer as AnswerOf}
use Rattle.run_rules.specs.declared.step.Asked.{Asked}
use Rattle.run_rules.specs.declared.step.Cause.{Cause}
use Rattle.run_rules.specs.declared.step.Labelled.{Labelled}
use Rattle.run_rules.specs.declared.step.Step.{Step}
use Rattle.script_lines.specs.declared.script.Script.{Script}
use Rattle.std.proofs.Common.{Bool, Err, List, None, Ok, Option, Result, Some, [], ap, inl, inr, refl, subst, sym, ℕ}
use Rattle.std.proofs.Common.{◌∙◌, ◌∷◌, ◌≡◌}
use Rattle.token_types.specs.declared.token.Kind.{Kind}
use Rattle.token_types.specs.declared.token.Kind.TheVariants.{Bytes, Lock, Opening, Status}
use Rattle.token_types.specs.declared.token.Token.{Token}
use Rattle.tree_calls.specs.declared.call.Call.{Call}
use Rattle.tree_calls.specs.declared.reply.Refusal.{Refusal}
use Rattle.tree_calls.specs.declared.reply.Reply.{Reply}
use Rattle.host_manager.proofs.Turns as turns

-- what gives back isn't answered
uses_no_give : (fid : Fid) (kind : Kind) → used_by fid kind ≡ GivesOf → ⊥
uses_no_give fid (Lock writing span) e = cc
uses_no_give fid (Opening opening) e = cc
uses_no_give fid (Bytes update span) e = cc
uses_no_give fid (Status update) e = cc

not_given : (x y : Tables) (call : Call) (v : Result Verdict Refusal) (reply : Reply)
    → reply_now (meant y call v) ≡ Some reply → meant x call v ≡ GivesOf → ⊥
not_given x y call (Err refusal) reply says e = cc
not_given x y call (Ok Does) reply says e = cc
not_given x y call (Ok (Reads fid span)) reply says e = cc
not_given x y call (Ok (Lists fid)) reply says e = cc
not_given x y call (Ok (Tells fid)) reply says e = cc
not_given x y call (Ok (Shows fid which)) reply says e = cc
not_given x y call (Ok (Writes fid from to)) reply says e = cc
not_given x y call (Ok (Uses fid kind)) reply says e = uses_no_give fid kind e
not_given x y call (Ok Frees) reply says e = cc
not_given x y call (Ok (Syncs fid)) reply says e = let p : None ≡ Some reply = says in cc
not_given x y call (Ok Gives) reply says e = let p : None ≡ Some reply = says in cc
not_given x y call (Ok (Asks question)) reply says e = cc

module _ (script : Script) (old m : Tables) (past : List Step) (cause : Cause) (came : List Token)
    (dues : List FilesetId) (c : Asked) (first : Bool) (turn : IsTurn script old m past cause came dues c first)
    (sound_m : IsSoundGives m.gives) (by : IsTurnDue m past cause came dues first) where
  abbrev call : Call
  call = c.call

  abbrev begun_at : Tables
  begun_at = at_turn m first

  abbrev draft_0 : Draft
  draft_0 = turn_draft came dues

  -- # The step
  module _ (host : HostId) (reply : Reply) (wrote : Option Fid) (begun : List Labelled) where
    abbrev answer : AnswerOf
    answer = record { host = host; k = c.k; call = call; reply = reply; first = first }

    abbrev draft_a : Draft
    draft_a = record draft_0 { answers = answer ∷ []; wrote = wrote; begun = begun }

    abbrev by_a : Step
    by_a = turns.by script old m past cause came dues c first turn draft_a

    the_answer : (a : AnswerOf) → In a (answer ∷ []) → a ≡ answer
    the_answer a (inl e) = e
    the_answer a (inr n) = elim n [ ]

    begins : turns.BeginsTurn script old m past cause came dues c first turn draft_a
    begins = record {
      only = λ n other b. elim b [
        | inl e ↦ absurd (cc)
        | inr a ↦
            let is = the_answer a.0 a.1 in (
              sym (ap (λ (z : AnswerOf). z.first) is) ∙ a.2,
              sym a.3 ∙ ap (λ (z : AnswerOf). z.k) is,
              sym a.4 ∙ ap (λ (z : AnswerOf). z.call) is,
            )
      ];
      there = λ e. inr (answer, inl refl, e, refl, refl);
    }

    only_call : (n : ℕ) (other : Call) → HasCall past by_a n other → other ≡ call
    only_call n other has = (turns.only_it script old m past cause came dues c first turn draft_a begins n other has).1

    module _ (z : Tables) (gives_z : z.gives ≡ m.gives) (none : verdict_from m call ≡ GivesOf → ⊥)
        (runs : RunsOn script old z past (step_of (Host m.host) cause (sending_due z draft_a))) where
      pub reply_due : HostDue script old.host past (step_of (Host m.host) cause (sending_due z draft_a))
      reply_due = draft_due script old m past cause came dues c first turn by z
          (subst (λ (g : Giving). IsSoundGives g) (sym gives_z) sound_m) draft_a refl begins runs
          (none_given script m past cause came turn.learnt call by_a only_call (λ v all. none v)) (λ y i. elim i [ ]) tt
          (λ g one i o. by.fresh g (subst (λ (q : Giving). IsFirst q g) gives_z one) i o) by.once_dues
          (λ l i. elim i [ ]) tt tt (λ y i e. elim i [ ])

  -- # Whatever changes of the host's own
  record ChangesTo (marked z : Tables) (own : Draft) : Type 0 where
    gives : z.gives ≡ marked.gives
    wrote : Option Fid
    begun : List Labelled
    draft : own ≡ record draft_0 { wrote = wrote; begun = begun }

  changes_own : (v : Result Verdict Refusal) (marked z : Tables) (own : Draft)
      → ChangesOwn call marked draft_0 z own v → ChangesTo marked z own
  changes_own _ marked z own (WritesIt fid from to writes is) = record {
    gives = ap (λ (x : Tables). x.gives) writes.tables;
    wrote = Some fid;
    begun = [];
    draft = is;
  }
  changes_own _ marked z own (UsesIt fid kind label taken begins_it) = record {
    gives = ap (λ (x : Tables). x.gives) begins_it.takes.tables;
    wrote = None;
    begun = begins_it.begun ∷ [];
    draft = begins_it.draft_is;
  }
  changes_own _ marked z own (FreesIt frees is) = record {
    gives = ap (λ (x : Tables). x.gives) frees.ends.tables;
    wrote = None;
    begun = [];
    draft = is;
  }
  changes_own _ marked z own (KeepsAll v nothing same is) = record {
    gives = ap (λ (x : Tables). x.gives) same;
    wrote = None;
    begun = [];
    draft = is;
  }

  pub answered_due : (v : Result Verdict Refusal) (marked : Tables) → marked.gives ≡ m.gives
      → verdict_from m call ≡ meant m call v → (z : Tables) (after : Draft)
      → Answered c.k call first v marked draft_0 z after
      → RunsOn script old z past (step_of (Host m.host) cause (sending_due z after))
      → HostDue script old.host past (step_of (Host m.host) cause (sending_due z after))
  answered_due v marked gives_m verdict z after answered runs =
      let own = changes_own v marked z answered.own answered.changes in
      let whole : after ≡ draft_a marked.host answered.reply own.wrote own.begun = answered.draft_is
      ∙ (λ i. record (own.draft i) {
        answers = answer marked.host answered.reply own.wrote own.begun ∷ [];
      }) in
      subst (λ (d : Draft). HostDue script old.host past (step_of (Host m.host) cause (sending_due z d))) (sym whole)
      (reply_due marked.host answered.reply own.wrote own.begun z (own.gives ∙ gives_m)
      (λ e. not_given m marked call v answered.reply answered.right (sym verdict ∙ e))
      (subst (λ (d : Draft). RunsOn script old z past (step_of (Host m.host) cause (sending_due z d))) whole runs))
