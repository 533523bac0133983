-- A host that waits for the answer to a claim is on the list, and came on it in no later epoch than its own.
use Rattle.std.proofs.Common.{List, [], ap, arith, inl, inr, subst, sym, ℕ, ◌<◌, ◌∙◌, ◌∷◌, ◌≡◌, ◌≤◌}
use Rattle.base_types.specs.declared.ids.HostId.{HostId}
use Rattle.base_types.specs.declared.ids.Node.{Node}
use Rattle.base_types.specs.declared.ids.Node.TheVariants.{Host, Server}
use Rattle.base_types.specs.declared.ids.ServerId.{ServerId}
use Rattle.tree_answers.specs.declared.tree.Tree.{Tree}
use Rattle.script_lines.specs.declared.script.Script.{Script}
use Rattle.message_types.specs.declared.message.Body.{Body}
use Rattle.message_types.specs.declared.message.Body.TheVariants.{Restarted}
use Rattle.message_types.specs.declared.message.Message.{Message}
use Rattle.run_rules.specs.Doings.{Doing, SentTo, after_step, doings_of, epoch}
use Rattle.run_rules.specs.HostMay.{AwaitsReclaimed, HostMay, LearnsRestart}
use Rattle.run_rules.specs.Messages.{epoch_at}
use Rattle.run_rules.specs.Past.{Always}
use Rattle.run_rules.specs.Runs.{CameToHost, StepDue, StepMeets, StepsMeet}
use Rattle.run_rules.specs.ServerDue.{ServerDue}
use Rattle.run_rules.specs.ServerMay.{ServerMay}
use Rattle.run_rules.specs.Steps.{steps_of_host, steps_of_server}
use Rattle.run_rules.specs.declared.step.Cause.TheVariants.{Message as Came}
use Rattle.run_rules.specs.declared.step.Step.{Step}
use Rattle.run_tokens.proofs.Words.{acts_after, epoch_grows, if_host, if_server, own_after, raised_cases}
use Rattle.run_goes_on.proofs.Doings.{epoch_step, sent_so}
use Rattle.run_goes_on.proofs.Grown.{ListedBy, listed_by_step, sent_split}

-- it came on the list in no later epoch than the host's
pub record IsOnList (host : HostId) (v : ServerId) (A : List Step) (S : List Doing) : Type 0 where
  pub listed : ListedBy S host (epoch_at A v)
  pub above : 0 < epoch_at A v

later_by : (S : List Doing) (h : HostId) (e d : ℕ) → e ≤ d → ListedBy S h e → ListedBy S h d
later_by S h e d le k = (k.0, λ l. (let q = k.1 l in omega (arith, q, le)))

-- it stays so
pub own_later : (host : HostId) (v : ServerId) (A : List Step) (S : List Doing) (s : Step) → IsOnList host v A S
    → IsOnList host v (s ∷ A) S
own_later host v A S s k =
    let le = epoch_grows A s v in
    let up = k.above in
    record {
      listed = later_by S host (epoch_at A v) (epoch_at (s ∷ A) v) le k.listed;
      above = omega (arith, le, up);
    }

pub acts_later : (host : HostId) (v : ServerId) (A : List Step) (S : List Doing) (s : Step) → IsOnList host v A S
    → IsOnList host v A (after_step s S)
acts_later host v A S s k =
    record { listed = listed_by_step host (epoch_at A v) s S k.listed; above = k.above }

-- # A host that waits for the answer to a claim was told of the restart: it is on the list, and came on it in no later
-- epoch
module _ (script : Script) (start : Tree) (firsts : ServerId → ℕ) (host : HostId) (v : ServerId) where
  abbrev IsToldBy : List Doing → Type 0
  IsToldBy S = (e n : ℕ) → SentTo S host e n Restarted → ListedBy S host e

  told_step : (steps : List Step) (S : List Doing) (s : Step) → ServerMay script start v steps S s
      → ServerDue script start v steps S s → IsToldBy S → IsToldBy (after_step s S)
  told_step steps S s may due old e n sent = elim (sent_split host e n Restarted s S sent) [
    | inl was ↦ listed_by_step host e s S (old e n was)
    | inr (m, i, is, at, moves, body) ↦ (
        let on_list = (due.answers.restarted_only host (m, i, is, body)).0.0 in
        let same = epoch_step s S in
        let sent_at = (sent_so v s S may.tokens m i).2 in
        let is_e : m.epoch ≡ e = at in
        let above : ListedBy S host (epoch S) = (on_list, λ l. omega arith) in
        ((listed_by_step host (epoch S) s S above).0, λ l. omega (arith, same, sent_at, is_e))
        )
  ]

  told_at : (k : Node) (past : List Step) (s : Step) → StepMeets script start firsts k past s
      → StepDue script start firsts k past s → IsToldBy (doings_of (firsts v) v past)
      → IsToldBy (acts_after v k s (doings_of (firsts v) v past))
  told_at (Host k) past s m d old = old
  told_at (Server k) past s m d old =
      if_server IsToldBy k v (after_step s (doings_of (firsts v) v past)) (doings_of (firsts v) v past)
      (λ e. told_step (steps_of_server v past) (doings_of (firsts v) v past) s
      (subst (λ (w : ServerId). ServerMay script start w (steps_of_server w past) (doings_of
      (firsts w) w past) s) e m.0)
      (subst (λ (w : ServerId). ServerDue script start w (steps_of_server w past) (doings_of (firsts w) w past) s) e d)
      old) old

  pub told : (past : List Step) → StepsMeet script start firsts past
      → Always (λ before s. StepDue script start firsts s.node before s) past → IsToldBy (doings_of (firsts v) v past)
  told [] run due = λ e n sent. elim sent [
    | inl q ↦ absurd (cc)
    | inr o ↦ elim o [ ]
  ]
  told (s ∷ past) run due = told_at s.node past s run.1.0 due.1 (told past run.0 due.0)

  -- so it is of a host that waits
  abbrev own : List Step → List Step
  own past = steps_of_host host past

  abbrev acts : List Step → List Doing
  acts past = doings_of (firsts v) v past

  waits_step : (past : List Step) (s : Step) → HostMay script host (own past) s → CameToHost firsts host past s
      → IsToldBy (acts past) → (AwaitsReclaimed (own past) v → IsOnList host v (own past) (acts past))
      → AwaitsReclaimed (s ∷ own past) v → IsOnList host v (s ∷ own past) (acts past)
  waits_step past s may came is_told old aw = elim aw.0 [
    | inl claims ↦ elim (may.resends.claims_only v claims) [
      | inl learns ↦ learnt learns
      | inr lapse ↦ own_later host v (own past) (acts past) s (old lapse.1)
    ]
    | inr was ↦ own_later host v (own past) (acts past) s (old was.0)
  ]
    where
      learnt : LearnsRestart (own past) s v → IsOnList host v (s ∷ own past) (acts past)
      learnt (greeted, up, (e, n, (m, cause, server, at, moves, body))) =
          elim (raised_cases s.cause v (epoch_at (own past) v)) [
            | inl same ↦ absurd (omega (arith, same, up))
            | inr f ↦ (
                let both : Came f.by ≡ Came m = sym f.cause ∙ cause in
                let one : f.by ≡ m = cc in
                let is : epoch_at (s ∷ own past) v ≡ m.epoch =
                f.epoch ∙ ap (λ (y : Message). y.epoch) one in
                let sent : SentTo (acts past) host m.epoch m.moves Restarted =
                subst (λ (y : ServerId × Body). SentTo (doings_of (firsts y.0) y.0 past) host m.epoch m.moves y.1)
                (λ i. (server i, body i)) (came m cause).2 in
                record {
                  listed = subst (ListedBy (acts past) host) (sym is) (is_told m.epoch m.moves sent);
                  above = omega (arith, up);
                }
                )
          ]

  waits_at : (k : Node) (past : List Step) (s : Step) → StepMeets script start firsts k past s
      → IsToldBy (acts past) → (AwaitsReclaimed (own past) v → IsOnList host v (own past) (acts past))
      → AwaitsReclaimed (own_after host k s (own past)) v
      → IsOnList host v (own_after host k s (own past)) (acts_after v k s (acts past))
  waits_at (Host k) past s m is_told old aw =
      if_host (λ (L : List Step). AwaitsReclaimed L v → IsOnList host v L (acts past)) k host (s ∷ own past)
      (own past)
      (λ same now. waits_step past s
      (subst (λ (h : HostId). HostMay script h (steps_of_host h past) s) same m.0)
      (subst (λ (h : HostId). CameToHost firsts h past s) same m.1) is_told old now) old aw
  waits_at (Server k) past s m is_told old aw =
      if_server (λ (S : List Doing). IsOnList host v (own past) S) k v (after_step s (acts past)) (acts past)
      (λ same. acts_later host v (own past) (acts past) s (old aw)) (old aw)

  pub waiting : (past : List Step) → StepsMeet script start firsts past
      → Always (λ before s. StepDue script start firsts s.node before s) past → AwaitsReclaimed (own past) v
      → IsOnList host v (own past) (acts past)
  waiting [] run due aw = elim aw [ ]
  waiting (s ∷ past) run due aw =
      waits_at s.node past s run.1.0 (told past run.0 due.0) (waiting past run.0 due.0) aw
