-- What is due of a step of a line in which no call is made: of a flag, and of the stop.
use Rattle.base_types.specs.declared.ids.HostId.{HostId}
use Rattle.base_types.specs.declared.ids.Node.TheVariants.{Host}
use Rattle.base_types.specs.declared.ids.ServerId.{ServerId}
use Rattle.host_manager.specs.Due.{LineDue}
use Rattle.host_manager.specs.Running.{LineRight}
use Rattle.host_tables.specs.declared.tables.Tables.{Tables}
use Rattle.message_types.specs.declared.message.Body.{Body}
use Rattle.message_types.specs.declared.message.Body.TheVariants.{Bye, Down, GiveBack, Hello}
use Rattle.message_types.specs.declared.message.Message.{Message}
use Rattle.run_rules.specs.HostDue.{HostDue, IsUnanswered}
use Rattle.run_rules.specs.HostMay.{HostMay}
use Rattle.run_rules.specs.Messages.{Sends}
use Rattle.run_rules.specs.Past.{EachOnce, In}
use Rattle.run_rules.specs.Steps.{bare}
use Rattle.run_rules.specs.Tokens.{AtHand, HasCall, NoneOpen, end_of}
use Rattle.run_rules.specs.Views.{Stance}
use Rattle.run_rules.specs.declared.applied.Leave.{Leave}
use Rattle.run_rules.specs.declared.applied.Answer.{Answer}
use Rattle.run_rules.specs.declared.step.Cause.TheVariants.{End, Evict, Lapse, Line as LineOf, Message as Came}
use Rattle.run_rules.specs.declared.step.Step.{Step}
use Rattle.script_lines.specs.declared.script.Deed.{Deed}
use Rattle.script_lines.specs.declared.script.Script.{Script}
use Rattle.std.proofs.Common.{List, None, [], inl, inr, map, refl, subst, sym, ℕ, ◌∙◌, ◌≡◌}
use Rattle.token_types.specs.declared.token.Token.{Token}
use Rattle.tree_calls.specs.declared.call.Call.{Call}
use Rattle.tree_calls.specs.declared.call.Call.TheVariants.{Sync}

-- No call is open, and the step makes, answers and takes nothing; what it says is Down, to each server once; and what
-- it
-- drops is at hand, each once.
module _ (script : Script) (host : HostId) (past : List Step) (s : Step) (number : ℕ) (by : s.cause ≡ LineOf number)
    (none_open : NoneOpen past) (asked : s.asked ≡ None) (answers : s.answers ≡ []) (made : s.made ≡ [])
    (taken : s.taken ≡ []) (says : (y : Message) → In y s.sent → y.body ≡ Down) (sent_once : EachOnce s.sent)
    (held : (l : Leave) → In l s.dropped → AtHand s past l.token)
    (dropped_once : EachOnce (map (λ (l : Leave). l.token) s.dropped))
    (stance : Stance script.roster host past s) where
  no_call : (k : ℕ) (call : Call) → HasCall past s k call → ⊥
  no_call k call (inl (inl e)) = let p = sym asked ∙ e in absurd (cc)
  no_call k call (inl (inr b)) = subst (λ (l : List Answer). In b.0 l) answers b.1
  no_call k call (inr g) = none_open _ g.0

  no_message : (m : Message) → s.cause ≡ Came m → ⊥
  no_message m e = let p = sym by ∙ e in absurd (cc)

  no_lapse : s.cause ≡ Lapse → ⊥
  no_lapse e = let p = sym by ∙ e in absurd (cc)

  no_evict : s.cause ≡ Evict → ⊥
  no_evict e = let p = sym by ∙ e in absurd (cc)

  no_end : s.cause ≡ End → ⊥
  no_end e = let p = sym by ∙ e in absurd (cc)

  is_down : (v : ServerId) (e n : ℕ) (b : Body) → Sends s v e n b → b ≡ Down
  is_down v e n b x = sym x.5 ∙ says x.0 x.1

  no_down : (v : ServerId) (n : ℕ) (b : Body) → b ≡ Down → IsUnanswered past v n b → ⊥
  no_down v n b e u = subst (IsUnanswered past v n) e u

  pub line_due : HostDue script host past s
  line_due = record {
    stance = stance;
    calls = record {
      syncs = λ k place fid t has. absurd (no_call k (Sync place) has);
      frees = λ k u has. absurd (no_call k (end_of u) has);
      greets = λ v e n x. let p = is_down v e n Hello x in absurd (cc);
    };
    revokes = λ r i a. absurd (no_message a.0 a.1);
    repeats = record {
      lapse_all = λ v n b e. absurd (no_lapse e);
      lapse_claims = λ v e. absurd (no_lapse e);
      lapse_only = λ v e n b c. absurd (no_lapse c);
      lapse_quiet = λ c. absurd (no_lapse c);
      restarted_gives = λ v n g l. absurd (no_message l.2.2.0 l.2.2.1);
      restarted_claims = λ v l. absurd (no_message l.2.2.0 l.2.2.1);
      reclaimed_all = λ v n answer b c. absurd (no_message c.0 c.1);
      again_only = λ v e n b x u. absurd (no_down v n b (is_down v e n b x) u);
      bye_again = λ v x said had. let p = is_down v x.0 x.1 Bye x.2 in absurd (cc);
      gives_only = λ v e n g x. let p = is_down v e n (GiveBack g) x in absurd (cc);
    };
    leaves = record {
      held = held;
      evicts = λ e. absurd (no_evict e);
      ends = λ e. absurd (no_end e);
      ends_all = λ l e. absurd (no_end e);
    };
    once = sent_once;
    once_taken = subst (λ (l : List Token). EachOnce l) (sym taken) tt;
    once_dropped = dropped_once;
    once_made = subst EachOnce (sym made) tt;
  }

-- a flag
pub bare_due : (m : Tables) (number : ℕ) (d : Deed)
    → LineRight m m number d (bare (Host m.host) (LineOf number))
    → LineDue m number d (bare (Host m.host) (LineOf number))
bare_due m number d right script past running line next deed askable =
    let may : HostMay script m.host past (bare (Host m.host) (LineOf number)) =
    (right script past running line next deed askable).0.may in
    line_due script m.host past (bare (Host m.host) (LineOf number)) number refl (may.lines.free number refl).0 refl
    refl
    refl refl (λ y i. elim i [ ]) tt (λ l i. elim i [ ]) tt may.stance
