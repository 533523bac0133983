-- A message that changes nothing is answered by a word: that the server has restarted, a welcome again, a Bye again.
use Rattle.std.proofs.Common.{◌≡◌, ◌≢◌, ℕ, List, [], ◌∷◌, inl, inr, refl, sym, ◌∙◌, ap, subst}
use Rattle.base_types.specs.declared.ids.HostId.{HostId}
use Rattle.base_types.specs.declared.ids.ServerId.{ServerId}
use Rattle.tree_answers.specs.declared.tree.Tree.{Tree}
use Rattle.message_types.specs.declared.giving.Reclaim.{Reclaim as ReclaimOf}
use Rattle.message_types.specs.declared.message.Body.{Body}
use Rattle.message_types.specs.declared.message.Body.TheVariants.{Bye, Down, GiveBack, Gone, Hello, Reclaim}
use Rattle.message_types.specs.declared.message.Body.TheVariants.{Reclaimed, Restarted}
use Rattle.message_types.specs.declared.message.Message.{Message}
use Rattle.script_lines.specs.declared.script.Script.{Script}
use Rattle.run_rules.specs.Doings.{Doing, GoesAway, HasReclaimed, HeardNow, IsLive, SentNow}
use Rattle.run_rules.specs.Doings.{TakenNow, TookNow, after_step, epoch}
use Rattle.run_rules.specs.Doings.Doing.{Reserves, Sent, Took}
use Rattle.run_rules.specs.ServerDue.{ServerAnswers}
use Rattle.run_rules.specs.ServerMay.{OnlyAnswers}
use Rattle.run_rules.specs.Wants.{IsQueued, body_of}
use Rattle.run_rules.specs.declared.applied.Request.{Request}
use Rattle.run_rules.specs.declared.applied.Wanted.{Wanted}
use Rattle.run_rules.specs.declared.step.Step.{Step}
use Rattle.run_tokens.specs.ServerRest.{ServerMeets}
use Rattle.server_tables.specs.declared.recovering.Answered.{Answered}
use Rattle.server_tables.specs.declared.tables.Tables.{Tables}
use Rattle.server_tables.specs.Standing.{AnsweredStand, IsSettled, Stands}
use Rattle.server_tables.specs.Steps.{taking, to_host}
use Rattle.server_tables.proofs.Still.{IsStill, answered_still, reclaimed_back, still}
use Rattle.server_tables.proofs.Idle.{IsMild, IsMute, mute}
use Rattle.server_tables.proofs.Resting.{still_settled}
use Rattle.server_tables.proofs.Quiet.{IsBlank, IsQuiet, TellsSo, blank_may, quiet_meets, the_cause, word_tokens}
use Rattle.server_tables.proofs.Worded.{heard_hears, kept_still, only, sent_still, settled_worded, stands_worded}
use Rattle.server_tables.proofs.Worded.{taken_takes}

pub tells_restarted : (server : ServerId) (past : List Doing) (h : HostId) (n : ℕ) → TellsSo server past h n Restarted
tells_restarted server past h n = record {
  blank = record { grant = λ g p. cc; done = λ d p. cc; revoke = λ r p. cc };
  gone = λ g p. cc;
  reclaimed = λ r p. absurd (cc);
}

pub tells_bye : (server : ServerId) (past : List Doing) (h : HostId) (n : ℕ) → TellsSo server past h n Bye
tells_bye server past h n = record {
  blank = record { grant = λ g p. cc; done = λ d p. cc; revoke = λ r p. cc };
  gone = λ g p. cc;
  reclaimed = λ r p. absurd (cc);
}

-- it is mute, and answered by this word
module _ (past : List Doing) (x : Tables) (m : Message) (s : Stands past x) (z : IsSettled x.server past)
    (is_mute : IsMute past m.host m.epoch m.moves m.body) (waiting : (w : Wanted) → IsQueued past w → GoesAway past
    (Took m.host m.epoch m.moves m.body) w.host → ⊥)
    (b : Body) (tells : TellsSo x.server past m.host 0 b) where
  abbrev a : Doing
  a = Took m.host m.epoch m.moves m.body

  pub took_still : IsStill x.server x.stamp past a
  took_still = mute x.server x.stamp past m.host m.epoch m.moves m.body is_mute waiting

  abbrev begun : List Doing
  begun = a ∷ past

  pub stands_begun : Stands begun x
  stands_begun = still past a x took_still s

  pub settled_begun : IsSettled x.server begun
  settled_begun = still_settled past a x s took_still z

  abbrev answer : Message
  answer = to_host x.server m.host x.hosts.epoch 0 b

  abbrev step : Step
  step = taking x.server m (answer ∷ [])

  pub stands_said : Stands (after_step step past) x
  stands_said = stands_worded past x m stands_begun settled_begun m.host 0 b tells

  pub settled_said : IsSettled x.server (after_step step past)
  settled_said = settled_worded past x m stands_begun settled_begun m.host 0 b tells

  pub answered_said : {answers : List Answered} → AnsweredStand past answers → AnsweredStand
      (after_step step past) answers
  answered_said w = answered_still (Sent m.host x.hosts.epoch 0 b ∷ begun) (Reserves [])
      (kept_still past x m stands_begun settled_begun m.host 0 b tells).hosts
      (answered_still begun (Sent m.host x.hosts.epoch 0 b) (sent_still past x m stands_begun settled_begun m.host 0
      b tells).hosts (answered_still past a took_still.hosts w))

  pub no_claim : (h : HostId) (n : ℕ) (claim : ReclaimOf) → TookNow begun h n (Reclaim claim) → (HasReclaimed past h
      → ⊥) → TookNow begun h n (Reclaim claim) × (HasReclaimed begun h → ⊥)
  no_claim h n claim took never = (took, λ r. never (reclaimed_back past a took_still.hosts h r))

  -- none of these is taken
  pub not_taken : (h : HostId) (n : ℕ) (d : Body) → (IsMild d → ⊥) → TakenNow past step h n d → ⊥
  not_taken h n d not t = not (is_mute.light.taken h n d (taken_takes past x.server m (answer ∷ []) h n d t))

  pub said_quiet : ServerAnswers x.server past step → OnlyAnswers past step
      → ((h : HostId) (n : ℕ) (r : Request) → TakenNow past step h n (body_of r) → ⊥)
      → IsQuiet x.server past m (answer ∷ [])
  said_quiet answers says_only asks = record {
    given = λ h g f. not_taken h f.0.0 (GiveBack g) (λ p. p) f.0.1;
    down = λ h f. f.1 (is_mute.down h (
      m.epoch,
      m.moves,
      (let p = heard_hears past x.server m (answer ∷ []) h Down f.0 in let q = p.0 in let r = p.1 in cc),
    ));
    asks = asks;
    settled = settled_begun;
    rests = settled_said;
    tokens = (word_tokens x.server begun m.host x.hosts.epoch 0 b stands_begun.hosts.epoch_is tells_on, tt);
    blank = λ n i. elim i [ inl p ↦ subst (λ (y : Message). IsBlank y.body) (sym p) tells.blank | inr p ↦ elim p [ ] ];
    sends = λ tree. (blank_may x.server tree step begun m.host x.hosts.epoch 0 b tells.blank, tt);
    once = (λ i. elim i [ ], tt);
    only = says_only;
    answers = answers;
  }
    where
      tells_on : TellsSo x.server begun m.host 0 b
      tells_on = record { blank = tells.blank; gone = tells.gone; reclaimed = tells.reclaimed }

  pub meets_said : ServerAnswers x.server past step → OnlyAnswers past step → ((h : HostId) (n : ℕ) (r : Request)
      → TakenNow past step h n (body_of r) → ⊥)
      → (script : Script) (start : Tree) (steps : List Step) → ServerMeets script start x.server steps past step
  meets_said answers says_only asks script start steps = quiet_meets script start x.server steps past m (answer ∷ [])
      (said_quiet answers says_only asks)

-- A message of a live host and another epoch, but for a Hello and a Down: the server says that it has restarted.
pub record IsLate (past : List Doing) (m : Message) : Type 0 where
  pub live : IsLive past m.host
  pub other : m.epoch ≢ epoch past
  pub not_hello : m.body ≢ Hello
  pub not_down : m.body ≢ Down

module _ (past : List Doing) (x : Tables) (m : Message) (s : Stands past x) (z : IsSettled x.server past)
    (c : IsLate past m) where
  abbrev late : Doing
  late = Took m.host m.epoch m.moves m.body

  its_epoch : (k : HostId) (e n : ℕ) (d : Body) → late ≡ Took k e n d → m.epoch ≡ e
  its_epoch k e n d p = cc

  its_body : (k : HostId) (e n : ℕ) (d : Body) → late ≡ Took k e n d → m.body ≡ d
  its_body k e n d p = cc

  late_goes : (k : HostId) → GoesAway past late k → ⊥
  late_goes k (inl p) = c.not_down (its_body k p.0 p.1 Down p.2)
  late_goes k (inr p) = c.other (its_epoch k (epoch past) p.0.0 Bye p.0.1)

  late_mute : IsMute past m.host m.epoch m.moves m.body
  late_mute = record {
    light = record {
      taken = λ k n d p. absurd (c.other (its_epoch k (epoch past) n d p.0));
      away =
          λ k g. absurd (late_goes k g);
    };
    hello = λ k p l o. c.not_hello (its_body k p.0 p.1 Hello p.2);
    down = λ k p. absurd (c.not_down (its_body k p.0 p.1 Down p.2));
  }

  late_waiting : (w : Wanted) → IsQueued past w → GoesAway past late w.host → ⊥
  late_waiting w q g = late_goes w.host g

  abbrev late_answer : Message
  late_answer = to_host x.server m.host x.hosts.epoch 0 Restarted

  abbrev late_step : Step
  late_step = taking x.server m (late_answer ∷ [])

  none_taken : (h : HostId) (n : ℕ) (d : Body) → TakenNow past late_step h n d → ⊥
  none_taken h n d t = c.other (ap (λ (y : Message). y.epoch) (the_cause m t.0.0 t.0.1) ∙ t.0.3)

  heard : (h : HostId) (d : Body) → HeardNow late_step h d → (m.host ≡ h) × (m.body ≡ d)
  heard h d w = heard_hears past x.server m (late_answer ∷ []) h d w

  says : (h : HostId) (d : Body) → SentNow late_step h d → (m.host ≡ h) × (Restarted ≡ d)
  says h d w = only x.server m m.host h x.hosts.epoch 0 Restarted d w

  late_answers : ServerAnswers x.server past late_step
  late_answers = record {
    hello_old = λ h w l. absurd (c.not_hello (heard h Hello w).1);
    hello = λ h w d. absurd (c.not_hello (heard h Hello w).1);
    bye = λ h w d o. absurd (elim o [
      | inl dead ↦ dead (subst (IsLive past) (heard h Bye w).0 c.live)
      | inr t ↦ none_taken h t.0 Bye t.1
    ]);
    late = λ h n p is l differs q r. (late_answer, inl refl, ap (λ (y : Message). y.host) (the_cause m n p) ∙ is, refl);
    restarted = λ line h p. absurd (cc);
    restarted_again = λ h p. absurd (cc);
    restarted_only = λ h w. let p = (says h Restarted w).0 in
        (subst (IsLive past) p c.live, inr (inl (m, refl, p, c.other, c.not_hello, c.not_down)));
    gone = λ h n g t. absurd (none_taken h n (GiveBack g) t);
    gone_only = λ h n w. absurd (let p = (says h (Gone n) w).1 in cc);
    claim_now = λ h n claim took never l all.
        let p = no_claim past x m s z late_mute late_waiting Restarted (tells_restarted x.server past m.host 0) h n
        claim took never in
        absurd ((settled_begun past x m s z late_mute late_waiting Restarted
        (tells_restarted x.server past m.host 0)).claims h n claim p.0 p.1 l all);
    claim_again = λ h n claim t. absurd (none_taken h n (Reclaim claim) t);
  }

  late_only : OnlyAnswers past late_step
  late_only = record {
    bye_only = λ h w. absurd (let p = (says h Bye w).1 in cc);
    reclaimed_only = λ h r w. absurd (let p = (says h (Reclaimed r) w).1 in cc);
  }

  pub stands_late : Stands (after_step late_step past) x
  stands_late = stands_said past x m s z late_mute late_waiting Restarted (tells_restarted x.server past m.host 0)

  pub settled_late : IsSettled x.server (after_step late_step past)
  settled_late = settled_said past x m s z late_mute late_waiting Restarted (tells_restarted x.server past m.host 0)

  pub answered_late : {answers : List Answered} → AnsweredStand past answers → AnsweredStand
      (after_step late_step past) answers
  answered_late w = answered_said past x m s z late_mute late_waiting Restarted
      (tells_restarted x.server past m.host 0) w

  pub meets_late : (script : Script) (start : Tree) (steps : List Step) → ServerMeets script start x.server steps
      past late_step
  meets_late script start steps = meets_said past x m s z late_mute late_waiting Restarted
      (tells_restarted x.server past m.host 0) late_answers late_only
      (λ h n r t. none_taken h n (body_of r) t) script start steps
