-- A step in which a call is answered.
use Rattle.base_types.specs.declared.ids.ServerId.{ServerId}
use Rattle.host_tables.proofs.Assembling.{may_assembled}
use Rattle.host_tables.proofs.Lists.{none_in}
use Rattle.host_tables.specs.Answering.{AnswersCall}
use Rattle.host_tables.specs.Causes.{CauseMay, RepliesMay}
use Rattle.host_tables.specs.Half.{half}
use Rattle.host_tables.specs.Sending.{MaySend, Moderate}
use Rattle.host_tables.specs.Stands.{Stands}
use Rattle.host_tables.specs.Tables.{held_of}
use Rattle.host_tables.specs.declared.tables.Tables.{Tables}
use Rattle.message_types.specs.declared.giving.Give.{Give}
use Rattle.message_types.specs.declared.message.Body.TheVariants.{Returned}
use Rattle.message_types.specs.declared.message.Message.{Message}
use Rattle.message_types.specs.declared.tokens.Named.{Named}
use Rattle.run_rules.specs.Messages.{Sends}
use Rattle.run_rules.specs.HostMay.{HostMay}
use Rattle.run_rules.specs.Past.{In}
use Rattle.run_rules.specs.Tokens.{Drops, Held as HeldBy, IsOpen, LeavesHost}
use Rattle.run_rules.specs.Views.{Stance}
use Rattle.run_rules.specs.declared.applied.Answer.{Answer as AnswerOf}
use Rattle.run_rules.specs.declared.step.Asked.{Asked}
use Rattle.run_rules.specs.declared.step.Step.{Step}
use Rattle.script_lines.specs.declared.script.Script.{Script}
use Rattle.std.proofs.Common.{Bool, List, inl, inr, refl, subst, sym, ℕ, ◌∙◌, ◌∷◌}
use Rattle.token_types.specs.declared.token.Token.{Token}
use Rattle.token_types.specs.declared.token.TokenId.{TokenId}
use Rattle.tree_calls.specs.declared.call.Call.{Call}
use Rattle.host_tables.proofs.Answered as answered
use Rattle.host_tables.proofs.Standing as standing
use Rattle.host_tables.proofs.Unanswered as unanswered

module _ (script : Script) (m : Tables) (past : List Step) (s : Step) (learnt : Stands script m (half s ∷ past))
    (k : ℕ) (call : Call) (first : Bool) (so : AnswersCall m past s k call first)
    (cause : CauseMay script m.host past s)
    (none_returned : (w : Named) (v : ServerId) (e n : ℕ) → Sends s v e n (Returned w) → ⊥)
    (may : (stance : Stance script.roster m.host past s) (x : Message) → In x s.sent
    → MaySend script.roster m.host past s stance x) where
  none_dropped : (t : Token) → Drops s t → ⊥
  none_dropped t d = none_in s.dropped so.dropped d.0 d.1

  keeps : (t : Token) → In t (held_of m) → HeldBy (s ∷ past) t
  keeps t i = (standing.hand_of script m past s learnt t i, none_dropped t)

  cached : (t : Token) → HeldBy (s ∷ past) t → In t (held_of m)
  cached t h = standing.of_hand script m past s learnt t h.0

  abbrev its : Stance script.roster m.host past s
  its = standing.stance script m past s learnt (held_of m) keeps cached

  none_made : (g : Give) → In g s.made → ⊥
  none_made g i = none_in s.made so.made g i

  no_leaves : (i : TokenId) → LeavesHost s i → ⊥
  no_leaves i (inl x) = none_made x.0 x.1
  no_leaves i (inr r) = none_returned r.3 r.0 r.1 r.2 r.4

  -- no call is left open
  none_open : (c : Asked) → IsOpen (s ∷ past) c → ⊥
  none_open c (inl e) = let p = sym so.asked ∙ e in absurd (cc)
  none_open c (inr o) =
      let q = so.only c.k c.call (inr (o.0, o.1)) in
      let answer : AnswerOf = record { host = m.host; k = k; call = call; reply = so.can.reply; first = first } in
      o.2 answer (subst (In answer) (sym so.answers) (inl refl)) (sym q.0)

  moderate : Moderate script.roster m.host past s its
  moderate = record {
    live = cause.live;
    sends = may its;
    asks = λ c o. absurd (none_open c o);
    takes = cause.takes;
    drops = λ t h l. absurd (no_leaves t.id l);
    drops_only = λ t d. absurd (none_dropped t d);
    makes = λ g i j. absurd (none_made g j);
    makes_once = λ g k i j. absurd (none_made g j);
    makes_from = λ g j. absurd (none_made g j);
    makes_apart = λ g k j. absurd (none_made g j);
    makes_new = λ g k j. absurd (none_made g j);
    one_fetch = λ fs gs n k a. absurd (so.none_asked fs n a);
    one_change = λ v w fs gs n k a. absurd (so.none_changing v fs n a);
    one_of_both = λ v fs gs n k a. absurd (so.none_asked fs n a);
  }

  pub meets : HostMay script m.host past s
  meets = may_assembled script m.host past s its moderate cause.takes_all
      (answered.answers script m past s learnt (held_of m) keeps cached k call first so)
      (unanswered.gives_none past s so.made (λ t o. (inr o, no_leaves t.id)) cause.new_gives)
      (record { leaves = λ l i. absurd (none_in s.dropped so.dropped l i) })
      cause.lines

pub replies_may : RepliesMay
replies_may script m past s learnt k call first so cause none_returned may = meets script m past s learnt k call first
    so cause none_returned may
