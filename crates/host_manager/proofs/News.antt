-- What is due of a step that a host makes by itself or by a line, with no call open: nothing is said again.
use Rattle.base_types.specs.declared.ids.ServerId.{ServerId}
use Rattle.host_gives.specs.Giving.{given_in, is_of, outstanding}
use Rattle.host_tables.proofs.Outstanding.{found_some}
use Rattle.host_manager.specs.Running.{IsRunning, RunsOn}
use Rattle.host_tables.specs.Stands.{Stands}
use Rattle.host_tables.specs.Tables.{site_at}
use Rattle.host_tables.specs.declared.tables.Tables.{Tables}
use Rattle.message_types.specs.declared.giving.Give.{Give}
use Rattle.message_types.specs.declared.message.Body.{Body}
use Rattle.message_types.specs.declared.message.Body.TheVariants.{Bye, Change, Done, Down, Fetch, GiveBack, Gone, Grant}
use Rattle.message_types.specs.declared.message.Body.TheVariants.{Hello, Kept, NotHere, Reclaim, Reclaimed, Restarted}
use Rattle.message_types.specs.declared.message.Body.TheVariants.{Returned, Revoke, Ship, Shipped}
use Rattle.message_types.specs.declared.message.Message.{Message}
use Rattle.run_rules.specs.HostDue.{CallsDue, IsUnanswered, RepeatsDue}
use Rattle.run_rules.specs.Messages.{Sends}
use Rattle.run_rules.specs.Past.{In}
use Rattle.run_rules.specs.Tokens.{HasCall, IsKnown, IsOutstanding, NoneOpen, end_of}
use Rattle.run_rules.specs.Views.{Stance}
use Rattle.run_rules.specs.declared.applied.Answer.{Answer}
use Rattle.run_rules.specs.declared.step.Cause.TheVariants.{Lapse, Message as Came}
use Rattle.run_rules.specs.declared.step.Step.{Step}
use Rattle.script_lines.specs.declared.script.Script.{Script}
use Rattle.std.proofs.Common.{List, None, [], ap, eq-eqb, false, inl, inr, refl, subst, sym, true, ℕ}
use Rattle.std.proofs.Common.{◌==◌, ◌∙◌, ◌∷◌, ◌≡◌}
use Rattle.std.specs.Option.{option_map_or}
use Rattle.tree_calls.specs.declared.call.Call.{Call}
use Rattle.tree_calls.specs.declared.call.Call.TheVariants.{Sync}

-- What is said wasn't said before: a Hello, a Bye where none was, and a give-back of a fileset of which none was
-- outstanding.
abbrev pub IsNews : Tables → Tables → ServerId → Body → Type 0
IsNews m new v Hello = (site_at m.sites v).greeted ≡ false
IsNews m new v Bye = (site_at m.sites v).said_bye ≡ false
IsNews m new v (GiveBack g) = (outstanding m.gives g.fid.fileset ≡ None)
    × ((y : Message) × In y new.gives.gives × (y.body ≡ GiveBack g))
IsNews m new v _ = Unit {0}

-- no call is open
pub none_is_open : (script : Script) (m : Tables) (past : List Step) → Stands script m past → m.call ≡ None
    → NoneOpen past
none_is_open script m past stands none c o = let p = sym none ∙ stands.call.asked c o in absurd (cc)

-- and none is begun: nothing is due of a call
pub no_call : (past : List Step) (s : Step) → NoneOpen past → s.asked ≡ None → s.answers ≡ [] → (k : ℕ) (call : Call)
    → HasCall past s k call → ⊥
no_call past s none asked answers k call (inl (inl e)) = let p = sym asked ∙ e in absurd (cc)
no_call past s none asked answers k call (inl (inr b)) = subst (λ (l : List Answer). In b.0 l) answers b.1
no_call past s none asked answers k call (inr g) = none _ g.0

pub silent_calls : (script : Script) (m : Tables) (past : List Step) (s : Step)
    (stance : Stance script.roster m.host past s) → NoneOpen past → s.asked ≡ None → s.answers ≡ []
    → ((y : Message) → In y s.sent → y.body ≡ Hello → ⊥) → CallsDue script.roster m.host past s stance
silent_calls script m past s stance none asked answers hello = record {
  syncs = λ k place fid t has. absurd (no_call past s none asked answers k (Sync place) has);
  frees = λ k u has. absurd (no_call past s none asked answers k (end_of u) has);
  greets = λ v e n x. absurd (hello x.0 x.1 x.5);
}

module _ (script : Script) (m new : Tables) (past : List Step) (s : Step) (running : IsRunning script m past)
    (runs : RunsOn script m new past s) (no_message : (y : Message) → s.cause ≡ Came y → ⊥)
    (no_lapse : s.cause ≡ Lapse → ⊥) (none_open : m.call ≡ None)
    (says : (y : Message) → In y s.sent → IsNews m new y.server y.body) where
  stands : Stands script m past
  stands = running.rests.stands

  news : (v : ServerId) (e n : ℕ) (b : Body) → Sends s v e n b → IsNews m new v b
  news v e n b x = subst (λ (q : ServerId × Body). IsNews m new q.0 q.1) (λ i. (x.2 i, x.5 i)) (says x.0 x.1)

  none_asked : m.request ≡ None
  none_asked = running.rests.rest.alone none_open

  of_fileset : (y : Message) (g : Give) → y.body ≡ GiveBack g → is_of g.fid.fileset y ≡ true
  of_fileset y g e =
      ap (λ (b : Body). option_map_or (λ (give : Give). give.fid.fileset.0 == g.fid.fileset.0) (given_in b) false) e
      ∙ eq-eqb g.fid.fileset.0 g.fid.fileset.0 refl

  none_given : (g : Give) → outstanding m.gives g.fid.fileset ≡ None → IsOutstanding past g → ⊥
  none_given g none o = elim (stands.gives.all g o.made) [
    | inl known ↦ o.unknown known
    | inr y ↦
        let r = found_some (is_of g.fid.fileset) m.gives.gives y.0 y.1 (of_fileset y.0 g y.2) in
        let p = sym none ∙ r.1 in absurd (cc)
  ]

  is_answered : (v : ServerId) (n : ℕ) (b : Body) → IsNews m new v b → IsUnanswered past v n b → ⊥
  is_answered v n Hello x u = let p = sym x ∙ (stands.sites v).greeted.1 u.0 in absurd (cc)
  is_answered v n (Fetch f) x u =
      let r = stands.request.asking f.fid.fileset f.number u.1 in let p = sym none_asked ∙ r.1 in absurd (cc)
  is_answered v n (Change c) x u =
      let r = stands.request.changing v c.fileset c.number u.1 in let p = sym none_asked ∙ r.2 in absurd (cc)
  is_answered v n (GiveBack g) x u = none_given g x.0 u.0
  is_answered v n Bye x u = let p = sym x ∙ (stands.sites v).said_bye.1 u.0 in absurd (cc)
  is_answered v n (Grant g) x u = u
  is_answered v n (Done d) x u = u
  is_answered v n (Revoke r) x u = u
  is_answered v n (Returned w) x u = u
  is_answered v n (Kept w) x u = u
  is_answered v n (Gone a) x u = u
  is_answered v n (Reclaim c) x u = u
  is_answered v n (Reclaimed a) x u = u
  is_answered v n Restarted x u = u
  is_answered v n Down x u = u
  is_answered v n (NotHere a) x u = u
  is_answered v n (Ship a) x u = u
  is_answered v n (Shipped a) x u = u

  is_due : (v : ServerId) (e n : ℕ) (g : Give) → Sends s v e n (GiveBack g) → IsOutstanding (s ∷ past) g
  is_due v e n g x =
      let may = runs.may.tokens in
      let made = (may.gives g v e n x).0 in
      let y = (news v e n (GiveBack g) x).1 in
      let z = runs.runs.rests.stands.gives.made y.0 y.1 in
      let p : GiveBack z.0 ≡ GiveBack g = sym z.1 ∙ y.2 in
      let same : z.0 ≡ g = cc in record {
        made = made;
        unknown = λ k. z.3 (subst (IsKnown (s ∷ past)) (sym same) k);
        first = λ w. w.4 (may.gives_first g w.0 v e n x w.1 w.2 w.3);
      }

  pub news_only : RepeatsDue past s
  news_only = record {
    lapse_all = λ v n b e. absurd (no_lapse e);
    lapse_claims = λ v e. absurd (no_lapse e);
    lapse_only = λ v e n b c. absurd (no_lapse c);
    lapse_quiet = λ c. absurd (no_lapse c);
    restarted_gives = λ v n g l. absurd (no_message l.2.2.0 l.2.2.1);
    restarted_claims = λ v l. absurd (no_message l.2.2.0 l.2.2.1);
    reclaimed_all = λ v n answer b c. absurd (no_message c.0 c.1);
    again_only = λ v e n b x u. absurd (is_answered v n b (news v e n b x) u);
    bye_again = λ v x said had.
        let p = sym (news v x.0 x.1 Bye x.2) ∙ (stands.sites v).said_bye.1 said in absurd (cc);
    gives_only = is_due;
  }
