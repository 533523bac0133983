-- A message that is dropped: its host isn't live, and it is none that is answered nevertheless.
use Rattle.std.proofs.Common.{◌≡◌, ◌≢◌, ◌⊎◌, ℕ, List, [], ◌∷◌, inl, inr, refl, sym, ◌∙◌, ap, subst}
use Rattle.base_types.specs.declared.ids.HostId.{HostId}
use Rattle.tree_answers.specs.declared.tree.Tree.{Tree}
use Rattle.message_types.specs.declared.message.Body.{Body}
use Rattle.message_types.specs.declared.message.Body.TheVariants.{Hello, Gone, Reclaimed, Restarted, Down, Bye}
use Rattle.message_types.specs.declared.message.Message.{Message}
use Rattle.script_lines.specs.declared.script.Script.{Script}
use Rattle.run_rules.specs.Doings.{Doing, GoesAway, HasGoneAway, HasGoneDown, HeardNow, IsLive, SentNow}
use Rattle.run_rules.specs.Doings.{after_step, epoch}
use Rattle.run_rules.specs.Doings.Doing.{Reserves, Took}
use Rattle.run_rules.specs.ServerDue.{ServerAnswers}
use Rattle.run_rules.specs.ServerMay.{OnlyAnswers}
use Rattle.run_tokens.specs.ServerRest.{ServerMeets}
use Rattle.run_rules.specs.declared.step.Cause.TheVariants.{Message as Came}
use Rattle.run_rules.specs.declared.step.Step.{Step}
use Rattle.server_tables.specs.declared.tables.Tables.{Tables}
use Rattle.server_tables.specs.declared.recovering.Answered.{Answered}
use Rattle.server_tables.specs.Standing.{AnsweredStand, IsSettled, Stands}
use Rattle.server_tables.specs.Steps.{taking}
use Rattle.server_tables.proofs.Still.{IsStill, answered_still, reclaimed_back, still}
use Rattle.server_tables.proofs.Idle.{no_words, IsMute, idle, mute, reserves_nothing, took_host}
use Rattle.server_tables.proofs.Resting.{still_settled}
use Rattle.server_tables.proofs.Quiet.{IsQuiet, quiet_meets, the_cause}

pub record IsVain (past : List Doing) (m : Message) : Type 0 where
  pub dead : IsLive past m.host → ⊥
  pub silent : HasGoneDown past m.host ⊎ ((m.body ≢ Hello) × (m.body ≢ Bye) × (m.body ≢ Down))

pub down_away : (past : List Doing) (h : HostId) → HasGoneDown past h → HasGoneAway past h
down_away [] h d = d
down_away (a ∷ past) h (inl p) = inl (inl p)
down_away (a ∷ past) h (inr d) = inr (down_away past h d)

module _ (past : List Doing) (x : Tables) (m : Message) (s : Stands past x) (z : IsSettled x.server past)
    (c : IsVain past m) where
  abbrev a : Doing
  a = Took m.host m.epoch m.moves m.body

  same : (k : HostId) (e n : ℕ) (b : Body) → a ≡ Took k e n b → m.host ≡ k
  same k e n b p = took_host m.host k m.epoch e m.moves n m.body b p

  dead : (k : HostId) (e n : ℕ) (b : Body) → a ≡ Took k e n b → IsLive past k → ⊥
  dead k e n b p = subst (λ (h : HostId). IsLive past h → ⊥) (same k e n b p) c.dead

  said : (k : HostId) (e n : ℕ) (b : Body) → a ≡ Took k e n b → HasGoneDown past k ⊎ ((b ≢ Hello) × (b ≢ Bye) ×
      (b ≢ Down))
  said k e n b p = subst (λ (y : HostId × Body). HasGoneDown past y.0 ⊎ ((y.1 ≢ Hello) × (y.1 ≢ Bye) × (y.1 ≢ Down)))
      (λ i. (same k e n b p i, (let q : m.body ≡ b = cc in q i))) c.silent

  goes : (k : HostId) → GoesAway past a k → HasGoneAway past k
  goes k (inl p) = elim (said k p.0 p.1 Down p.2) [ inl d ↦ down_away past k d | inr q ↦ absurd (q.2 refl) ]
  goes k (inr p) = elim (said k (epoch past) p.0.0 Bye p.0.1) [ inl d ↦ absurd (p.2 d) | inr q ↦ absurd (q.1 refl) ]

  is_mute : IsMute past m.host m.epoch m.moves m.body
  is_mute = record {
    light = record { taken = λ k n d p. absurd (dead k (epoch past) n d p.0 p.1); away = goes };
    hello = λ k p l d. elim (said k p.0 p.1 Hello p.2) [ inl w ↦ d w | inr q ↦ q.0 refl ];
    down = λ k p. elim (said k p.0 p.1 Down p.2) [ inl d ↦ d | inr q ↦ absurd (q.2 refl) ];
  }

  pub took_still : IsStill x.server x.stamp past a
  took_still = mute x.server x.stamp past m.host m.epoch m.moves m.body is_mute
      (λ w u g. (s.wants.live w u).1 (goes w.host g))

  abbrev begun : List Doing
  begun = a ∷ past

  stands_begun : Stands begun x
  stands_begun = still past a x took_still s

  settled_begun : IsSettled x.server begun
  settled_begun = still_settled past a x s took_still z

  kept_still : IsStill x.server x.stamp begun (Reserves [])
  kept_still = idle x.server x.stamp begun (Reserves []) reserves_nothing (no_words begun)

  pub stands_dropped : Stands (after_step (taking x.server m []) past) x
  stands_dropped = still begun (Reserves []) x kept_still stands_begun

  pub settled_dropped : IsSettled x.server (after_step (taking x.server m []) past)
  settled_dropped = still_settled begun (Reserves []) x stands_begun kept_still settled_begun

  pub answered_dropped : {answers : List Answered} → AnsweredStand past answers → AnsweredStand (after_step
      (taking x.server m []) past) answers
  answered_dropped s0 = answered_still begun (Reserves []) kept_still.hosts (answered_still past a took_still.hosts s0)

  heard : (h : HostId) (b : Body) → HeardNow (taking x.server m []) h b → HasGoneDown past h ⊎ ((b ≢ Hello) ×
      (b ≢ Bye) × (b ≢ Down))
  heard h b w = let e = the_cause m w.0 w.1 in said h m.epoch m.moves b (let p = ap (λ (y : Message). y.host) e
      ∙ w.2 in let q = ap (λ (y : Message). y.body) e ∙ w.3 in cc)

  unheard : (n : Message) → (taking x.server m []).cause ≡ Came n → IsLive past n.host → ⊥
  unheard n p = subst (λ (y : Message). IsLive past y.host → ⊥) (the_cause m n p) c.dead

  none_sent : (h : HostId) (b : Body) → SentNow (taking x.server m []) h b → ⊥
  none_sent h b w = elim w.1 [ ]

  answers : ServerAnswers x.server past (taking x.server m [])
  answers = record {
    hello_old = λ h w l. absurd (unheard w.0 w.1 (subst (IsLive past) (sym w.2) l));
    hello = λ h w d o. absurd (elim (heard h Hello w) [ inl p ↦ d p | inr q ↦ q.0 refl ]);
    bye = λ h w d o. absurd (elim (heard h Bye w) [ inl p ↦ d p | inr q ↦ q.1 refl ]);
    late = λ h n p is l. absurd (unheard n p (subst (IsLive past) (sym is) l));
    restarted = λ line h p. absurd (cc);
    restarted_again = λ h p. absurd (cc);
    restarted_only = λ h w. absurd (none_sent h Restarted w);
    gone = λ h n g w. absurd (unheard w.0.0 w.0.1 (subst (IsLive past) (sym w.0.2) w.1));
    gone_only = λ h n w. absurd (none_sent h (Gone n) w);
    claim_now = λ h n claim took no l all. absurd (settled_begun.claims h n claim took (λ r. no
        (reclaimed_back past a took_still.hosts h r)) l all);
    claim_again = λ h n claim w. absurd (unheard w.0.0 w.0.1 (subst (IsLive past) (sym w.0.2) w.1));
  }

  only : OnlyAnswers past (taking x.server m [])
  only = record {
    bye_only = λ h w. absurd (none_sent h Bye w);
    reclaimed_only = λ h r w. absurd (none_sent h (Reclaimed r) w);
  }

  quiet : IsQuiet x.server past m []
  quiet = record {
    given = λ h g f. unheard f.0.1.0.0 f.0.1.0.1 (subst (IsLive past) (sym f.0.1.0.2) f.0.1.1);
    down = λ h f. elim (heard h Down f.0) [ inl p ↦ f.1 p | inr q ↦ q.2 refl ];
    asks = λ h n r f. unheard f.0.0 f.0.1 (subst (IsLive past) (sym f.0.2) f.1);
    settled = settled_begun;
    rests = settled_dropped;
    tokens = tt;
    blank = λ n i. elim i [ ];
    sends = λ tree. tt;
    once = tt;
    only = only;
    answers = answers;
  }

  pub meets_dropped : (script : Script) (start : Tree) (steps : List Step) → ServerMeets script start x.server steps
      past (taking x.server m [])
  meets_dropped script start steps = quiet_meets script start x.server steps past m [] quiet
