-- A step in which a call whose turn it is is answered.
use Rattle.base_types.specs.declared.ids.Fid.{Fid}
use Rattle.base_types.specs.declared.ids.FilesetId.{FilesetId}
use Rattle.base_types.specs.declared.ids.Node.TheVariants.{Host}
use Rattle.base_types.specs.declared.ids.ServerId.{ServerId}
use Rattle.base_types.specs.declared.limits.TheConstants.{FILE_BYTES_MAX}
use Rattle.host_cache.specs.Holding.{tokens_of}
use Rattle.host_cache.specs.declared.held.Held.{Held}
use Rattle.host_gives.specs.Giving.{IsSound as IsSoundGives}
use Rattle.host_leaves.specs.Sending.{sending_due}
use Rattle.host_manager.proofs.Running.{runs_on}
use Rattle.host_manager.proofs.Turns.{HasTurn, IsTurn, turn_draft}
use Rattle.host_tables.proofs.AnswerSteps.{answer_step_right}
use Rattle.host_tables.proofs.Lists.{in_map, map_in}
use Rattle.host_tables.proofs.Moving.{request_moves_right}
use Rattle.host_tables.proofs.Replying.{replies_may}
use Rattle.host_tables.proofs.Tidy.{tidy_stays}
use Rattle.host_tables.specs.AnswerSteps.{AnswerRight, AnsweredBy, IsCallOf, SaysMove, with_answered}
use Rattle.host_tables.specs.AnswerSteps.IsCallOf.{AtOnce, Later}
use Rattle.host_tables.specs.Answering.{AnswersCall, BegunBy, wrote_by}
use Rattle.host_tables.specs.Drafts.{no_draft, step_of}
use Rattle.host_tables.specs.Half.{half}
use Rattle.host_tables.specs.Moving.{IsNoRequest}
use Rattle.host_tables.specs.Quiet.{Moved, with_moved}
use Rattle.host_manager.specs.Running.{RunsOn}
use Rattle.host_tables.specs.Stands.{CanReply, NumbersStand, RequestStands, Stands, verdict_from}
use Rattle.host_tables.specs.Tables.{content, held_of}
use Rattle.host_tables.specs.Tidy.{IsTidy}
use Rattle.host_tables.specs.WholeSteps.{moved_of}
use Rattle.host_tables.specs.declared.calls.Request.{Request}
use Rattle.host_tables.specs.declared.calls.Request.TheVariants.{Change as AChange, Fetch as AFetch}
use Rattle.host_tables.specs.declared.draft.Draft.{Draft}
use Rattle.host_tables.specs.declared.tables.Tables.{Tables}
use Rattle.message_types.specs.declared.asking.Change.{Change as ChangeOf}
use Rattle.message_types.specs.declared.asking.Fetch.{Fetch as FetchOf}
use Rattle.message_types.specs.declared.giving.Give.{Give}
use Rattle.message_types.specs.declared.message.Body.{Body}
use Rattle.message_types.specs.declared.message.Body.TheVariants.{Bye, Change, Down, Fetch, GiveBack, Hello}
use Rattle.message_types.specs.declared.message.Body.TheVariants.{Kept as KeptBody, Reclaim, Returned}
use Rattle.message_types.specs.declared.message.Message.{Message}
use Rattle.need_host.specs.Calls.{reply_now}
use Rattle.need_host.specs.Calls.Verdict.{Gives as GivesOf}
use Rattle.run_rules.specs.HostMay.{HostMay}
use Rattle.run_rules.specs.Messages.{HasSaid, KeepsToken, Sends, SendsChange, SendsFetch, Stops}
use Rattle.run_rules.specs.Past.{In}
use Rattle.run_rules.specs.declared.applied.Answer.{Answer as AnswerOf}
use Rattle.run_rules.specs.declared.step.Asked.{Asked}
use Rattle.run_rules.specs.declared.step.Cause.{Cause}
use Rattle.run_rules.specs.declared.step.Labelled.{Labelled}
use Rattle.run_rules.specs.declared.step.Step.{Step}
use Rattle.script_lines.specs.declared.script.Script.{Script}
use Rattle.std.proofs.Common.{Bool, List, None, Option, Some, [], ap, false, if◌then◌else◌, inl, inr, refl, subst}
use Rattle.std.proofs.Common.{sym, true, ℕ, ◌+◌, ◌∙◌, ◌∷◌, ◌≡◌, ◌≤◌, ◌⊎◌}
use Rattle.token_types.specs.declared.token.Token.{Token}
use Rattle.token_types.specs.declared.token.TokenId.{TokenId}
use Rattle.tree_calls.specs.declared.reply.Reply.{Reply}
use Rattle.tree_laws.specs.Parts.Part.{Size}
use Rattle.host_manager.proofs.Turns as turns

module _ (script : Script) (old m : Tables) (past : List Step) (cause : Cause) (came : List Token)
    (dues : List FilesetId) (c : Asked) (first : Bool) (it : IsTurn script old m past cause came dues c first)
  where
    -- what the step makes of calls, beside what is asked
    abbrev pub moved : Moved
    moved = record (moved_of m) {
      call = None;
      begun = if first then m.begun + 1 else m.begun;
      lost = if first then [] else m.lost;
    }

    abbrev pub answer : Reply → AnswerOf
    answer reply = record { host = m.host; k = c.k; call = c.call; reply = reply; first = first }

    turn_at : (b : Bool) → first ≡ b → HasTurn m c b
    turn_at b e = subst (HasTurn m c) e it.turn

    module _ (reply : Reply) (wrote : Option Fid) (begun : List Labelled) (sent : List Message) where
      abbrev pub d : Draft
      d = record no_draft {
        taken = came;
        answers = answer reply ∷ [];
        wrote = wrote;
        begun = begun;
        sent = sent;
      }

      abbrev pub s : Step
      s = turns.by script old m past cause came dues c first it d

      pub learnt : Stands script m (half s ∷ past)
      learnt = it.learnt

      the_answer : (a : AnswerOf) → In a (answer reply ∷ []) → a ≡ answer reply
      the_answer a (inl e) = e
      the_answer a (inr n) = elim n [ ]

      begins : turns.BeginsTurn script old m past cause came dues c first it d
      begins = record {
        only = λ k call b. elim b [
          | inl e ↦ absurd (cc)
          | inr a ↦
              let is = the_answer a.0 a.1 in (
                sym (ap (λ (z : AnswerOf). z.first) is) ∙ a.2,
                sym a.3 ∙ ap (λ (z : AnswerOf). z.k) is,
                sym a.4 ∙ ap (λ (z : AnswerOf). z.call) is,
              )
        ];
        there = λ e. inr (answer reply, inl refl, e, refl, refl);
      }

      -- the step is the answer's of a call that can be answered, and else says what is due
      module _ (alone : turns.DuesAlone script old m past cause came dues c first it sent) where
        body_is : (v : ServerId) (e n : ℕ) (b : Body) → Sends s v e n b → (g : Give) × (GiveBack g ≡ b)
        body_is v e n b p = let r = alone.due p.0 p.1 in (r.give, sym r.body ∙ p.5)

        no_fetch : (f : FetchOf) → SendsFetch s f → ⊥
        no_fetch f p = let q = (body_is p.0 p.1 p.2 (Fetch f) p.3).1 in cc

        no_change : (v : ServerId) (x : ChangeOf) → SendsChange s v x → ⊥
        no_change v x p = let q = (body_is p.0 p.1 p.2 (Change x) p.3).1 in cc

        pub none_kept : (i : TokenId) → KeepsToken s i → ⊥
        none_kept i k = let p = (body_is k.0 k.1 k.2 (KeptBody k.3) k.4).1 in cc

        pub no_stop : Stops s → ⊥
        no_stop k = let p = (body_is k.0 k.1 k.2 Down k.3).1 in cc

        pub no_bye : (v : ServerId) → HasSaid (s ∷ past) v Bye → ⊥
        no_bye v (e, n, inl p) = let q = (body_is v e n Bye p).1 in cc
        no_bye v (e, n, inr p) = turns.no_bye_said script old m past cause came dues c first it v (e, n, p)

        no_request : (r : Request) → m.request ≡ Some r → ⊥
        no_request r e = let p = sym it.idle ∙ e in cc

        requests : RequestStands m.request (s ∷ past) × NumbersStand m.fetched m.changed (s ∷ past)
        requests = request_moves_right script m past s learnt (record {
          only = λ y i. let r = alone.due y i in inl (subst IsNoRequest (sym r.body) tt);
        })

        says_moved : SaysMove m moved past s
        says_moved = record {
          sites = record {
            epoch = λ v. refl;
            welcome = λ v. refl;
            has_bye = λ v. refl;
            greeted = λ v. (
              (λ e. inl e),
              λ z. elim z [
                | inl e ↦ e
                | inr p ↦ absurd (let q = (body_is v p.0 p.1 Hello p.2).1 in cc)
              ],
            );
            said_bye = λ v. (
              (λ e. inl e),
              λ z. elim z [
                | inl e ↦ e
                | inr p ↦ absurd (let q = (body_is v p.0 p.1 Bye p.2).1 in cc)
              ],
            );
            claimed = λ v. (
              (λ e. inl e),
              λ z. elim z [
                | inl e ↦ e
                | inr p ↦ absurd (let q = (body_is v p.0 p.1 (Reclaim p.2) p.3).1 in cc)
              ],
            );
            claims_apart = λ v a p. absurd (let q = (body_is v p.0 p.1 (Reclaim p.2) p.3).1 in cc);
            bye_again = λ v p. absurd (let q = (body_is v p.0 p.1 Bye p.2).1 in cc);
            bye_idle = λ v e. it.idle;
          };
          request = requests.0;
          numbers = requests.1;
        }

        pub is_call : IsCallOf m moved (answer reply)
        is_call = by_first first refl
          where
            by_first : (b : Bool) → first ≡ b → IsCallOf m moved (answer reply)
            by_first true e =
                AtOnce (turn_at true e).0 e refl (ap (λ (z : Bool). if z then m.begun + 1 else m.begun) e)
            by_first false e =
                Later c (turn_at false e) refl e refl (ap (λ (z : Bool). if z then m.begun + 1 else m.begun) e)

        module _ (can : CanReply m c.call) (reply_is : reply ≡ can.reply)
            (wrote_is : wrote ≡ wrote_by (verdict_from m c.call))
            (takes : BegunBy (held_of m) c.call (verdict_from m c.call) begun) where
          so : AnswersCall m past s c.k c.call first
          so = record {
            turn = turns.has_it script old m past cause came dues c first it d begins;
            only = turns.only_it script old m past cause came dues c first it d begins;
            can = can;
            answers = ap (λ (r : Reply). answer r ∷ []) reply_is;
            asked = refl;
            made = refl;
            dropped = refl;
            begins = alone.quiet;
            goes_on = turns.goes_on script old m past cause came dues c first it;
            wrote = wrote_is;
            begun = takes;
            none_asked = λ fs n a. elim a.0 [
              | inl f ↦ no_fetch f.0 f.1
              | inr x ↦ (let r = it.learnt.request.asking fs n (inr x, a.1) in no_request (AFetch r.0) r.1)
            ];
            none_changing = λ v fs n a. elim a.0 [
              | inl x ↦ no_change v x.0 x.1
              | inr x ↦ (let r = it.learnt.request.changing v fs n (inr x, a.1) in no_request (AChange r.0 r.1) r.2)
            ];
          }

          pub meets : HostMay script m.host past s
          meets = replies_may script m past s learnt c.k c.call first so
              (turns.cause_may script old m past cause came dues c first it d begins
              (turns.sends_new script old m past cause came dues c first it d refl alone.says))
              (λ w v e n p. let q = (body_is v e n (Returned w) p).1 in cc)
              (λ stance y i. turns.due_may script old m past cause came dues c first it d refl stance y (alone.due y i))

          -- what is answered gives nothing back
          no_gives : verdict_from m c.call ≡ GivesOf → ⊥
          no_gives e = let p : None ≡ Some can.reply = sym (ap reply_now e) ∙ can.settled in cc

          module _ (w : AnsweredBy) (right : AnswerRight script m w moved past s (answer reply))
              (sizes : (fid : Fid) → (content w.cache fid Size ≡ content m.cache fid Size)
              ⊎ (content w.cache fid Size ≤ FILE_BYTES_MAX)) where
            abbrev pub after : Tables
            after = with_moved (with_answered m w) moved

            fewer : (u : Token) → In u (tokens_of w.cache.held) → In u (held_of m)
            fewer u i =
                let r = in_map (λ (h : Held). h.token) w.cache.held u i in
                let q = right.held_from r.0 r.1 in
                subst (λ (z : Token). In z (held_of m)) (q.2 ∙ sym r.2)
                (map_in (λ (h : Held). h.token) m.cache.held q.0 q.1)

            tidy_after : IsTidy script.roster after
            tidy_after = tidy_stays script.roster m after it.tidy (record {
              host_is = refl;
              servers = refl;
              held = λ u i. inl (fewer u i);
              sizes = sizes;
              leaving = λ y i. inl i;
              gives = λ y g i e. inl i;
              fetch = λ f e. inl e;
              change = λ v x e. inl e;
              call = λ x e. absurd (cc);
              homes = λ h i. inl i;
              floors = λ f i. inl i;
            })

            pub answered_runs : RunsOn script old after past s
            answered_runs = runs_on script old after past s
                (answer_step_right script old m w moved past s (answer reply) it.host
                (turns.under script old m past cause came dues c first it) learnt meets right says_moved it.idle)
                (sym it.host) tidy_after
                (λ u e. absurd (turns.none_ends script old m past cause came dues c first it no_gives u e))
                (λ x e busy. absurd (cc)) (λ v e. absurd (it.no_bye v e))
                (λ y i. turns.due_sound script old m past cause came dues c first it y (alone.due y i))

    abbrev pub new : AnsweredBy → Tables
    new w = with_moved (with_answered m w) moved

    -- by the code's words
    module _ (sound : IsSoundGives m.gives) (reply : Reply) (wrote : Option Fid) (begun : List Labelled)
        (w : AnsweredBy) where
      abbrev pub start : Draft
      start = record (turn_draft came dues) { answers = answer reply ∷ []; wrote = wrote; begun = begun }

      abbrev pub sent : List Message
      sent = (turns.sending script old m past cause came dues c first it sound (new w) refl refl (λ v. refl) start).sent

      pub alone_in : turns.DuesAlone script old m past cause came dues c first it sent
      alone_in = turns.dues_alone script old m past cause came dues c first it sound (new w) refl refl (λ v. refl)
          start refl

      pub by_code : RunsOn script old (new w) past (s reply wrote begun sent)
          → RunsOn script old (new w) past (step_of (Host m.host) cause (sending_due (new w) start))
      by_code runs = subst (RunsOn script old (new w) past) (sym (ap (step_of (Host m.host) cause)
          (turns.sends_only script old m past cause came dues c first it sound (new w) refl refl (λ v. refl) start)))
          runs
