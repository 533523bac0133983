-- A step that takes a message, decides nothing and sends words alone.
use Rattle.std.proofs.Common.{◌≡◌, ℕ, None, List, [], ◌∷◌, inl, inr, refl, sym, ◌∙◌, subst}
use Rattle.base_types.specs.declared.ids.HostId.{HostId}
use Rattle.base_types.specs.declared.ids.ServerId.{ServerId}
use Rattle.base_types.specs.declared.ids.Node.TheVariants.{Server}
use Rattle.tree_answers.specs.declared.tree.Tree.{Tree}
use Rattle.message_types.specs.declared.giving.AppliedGive.{AppliedGive}
use Rattle.message_types.specs.declared.giving.Give.{Give}
use Rattle.message_types.specs.declared.giving.Reclaimed.{Reclaimed as ReclaimedOf}
use Rattle.message_types.specs.declared.message.Body.{Body}
use Rattle.message_types.specs.declared.message.Body.TheVariants.{Grant, Done, Revoke, Gone, Reclaimed}
use Rattle.message_types.specs.declared.message.Message.{Message}
use Rattle.message_types.specs.declared.telling.Done.{Done as DoneOf}
use Rattle.message_types.specs.declared.telling.Grant.{Grant as GrantOf}
use Rattle.message_types.specs.declared.tokens.Revoke.{Revoke as RevokeOf}
use Rattle.script_lines.specs.declared.script.Line.{Line}
use Rattle.script_lines.specs.declared.script.Script.{Script}
use Rattle.run_rules.specs.Doings.{Doing, TakenNow, after_step, epoch, sending}
use Rattle.run_rules.specs.Doings.Doing.{Reserves, Sent, Took}
use Rattle.run_rules.specs.Kept.{filesets_kept}
use Rattle.run_rules.specs.Past.{EachInTurn, EachOnce, In, appended}
use Rattle.run_rules.specs.ServerDecides.{FirstDown, FirstGiven}
use Rattle.run_rules.specs.ServerDue.{ServerAnswers, ServerDue, ServerLines}
use Rattle.run_tokens.specs.ServerRest.{ServerMeets}
use Rattle.run_rules.specs.ServerMay.{MaySend, NoHostStep, OnlyAnswers, ServerMay}
use Rattle.run_rules.specs.ServerTokens.{ServerTokens}
use Rattle.run_rules.specs.Steps.{lines_of}
use Rattle.run_rules.specs.Wants.{body_of}
use Rattle.run_rules.specs.declared.applied.Request.TheVariants.{Change as Changes}
use Rattle.run_rules.specs.declared.applied.Request.{Request}
use Rattle.run_rules.specs.declared.step.Cause.TheVariants.{Message as Came}
use Rattle.run_rules.specs.declared.step.Step.{Step}
use Rattle.server_tables.specs.Standing.{IsSettled}
use Rattle.server_tables.specs.Steps.{taking}
use Rattle.server_tables.proofs.Idle.{IsWord, reserves_nothing}

pub the_cause : (m n : Message) → Came m ≡ Came n → m ≡ n
the_cause m n p = cc

-- what a server sends without granting, deciding, or telling of give-backs and tokens
pub record IsBlank (b : Body) : Type 0 where
  pub grant : (g : GrantOf) → b ≡ Grant g → ⊥
  pub done : (d : DoneOf) → b ≡ Done d → ⊥
  pub revoke : (r : RevokeOf) → b ≡ Revoke r → ⊥

pub blank_word : (b : Body) → IsBlank b → IsWord b
blank_word b c = record {
  brings = λ h k e f m n w p. elim p [
    | inl q ↦ (let r = q.1 in c.grant q.0 (cc))
    | inr q ↦
        (let r = q.1 in c.done q.0 (cc))
  ];
  revokes = c.revoke;
}

its_body : (h k : HostId) (e f m n : ℕ) (b d : Body) → Sent h e m b ≡ Sent k f n d → b ≡ d
its_body h k e f m n b d p = cc

pub blank_may : (server : ServerId) (tree : Tree) (s : Step) (past : List Doing) (h : HostId) (e n : ℕ) (b : Body)
    → IsBlank b
    → MaySend server tree s past (Sent h e n b)
blank_may server tree s past h e n b c = record {
  grant_for = λ k f m g p. absurd (c.grant g (its_body h k e f n m b (Grant g) p));
  done_for = λ k f m d p. absurd (c.done d (its_body h k e f n m b (Done d) p));
  revoke_for = λ k f m r i p. absurd (c.revoke r (its_body h k e f n m b (Revoke r) p));
}

-- and says no more than that
pub record TellsSo (server : ServerId) (past : List Doing) (h : HostId) (n : ℕ) (b : Body) : Type 0 where
  pub blank : IsBlank b
  pub gone : (g : AppliedGive) → b ≡ Gone g → ⊥
  pub reclaimed : (r : ReclaimedOf) → b ≡ Reclaimed r → (r.applied ≡ []) × (r.left_out ≡ [])

its_epoch : (h k : HostId) (e f m n : ℕ) (b d : Body) → Sent h e m b ≡ Sent k f n d → e ≡ f
its_epoch h k e f m n b d p = cc

pub word_tokens : (server : ServerId) (past : List Doing) (h : HostId) (e n : ℕ) (b : Body) → e ≡ epoch past
    → TellsSo server past h n b → ServerTokens server past (Sent h e n b)
word_tokens server past h e n b now c = record {
  epochs = λ k f m d p. sym (its_epoch h k e f n m b d p) ∙ now;
  grants = λ k f m w p. absurd (c.blank.grant w (its_body h k e f n m b (Grant w) p));
  dones = λ k f m w p. absurd (c.blank.done w (its_body h k e f n m b (Done w) p));
  revokes = λ k f m r i p. absurd (c.blank.revoke r (its_body h k e f n m b (Revoke r) p));
  revokes_here = λ k f m r p. absurd (c.blank.revoke r (its_body h k e f n m b (Revoke r) p));
  stamps = λ k f m y r p. absurd (c.blank.revoke r (its_body h k e f n m b (Revoke r) p));
  gones = λ k f m g p. absurd (c.gone g (its_body h k e f n m b (Gone g) p));
  reclaimed = λ k f m r g p i. absurd (let q = (c.reclaimed r (its_body h k e f n m b (Reclaimed r) p)).0 in
      let none : In g [] = subst (In g) q i in elim none [ ]);
  left_out = λ k f m r i p j. absurd (let q = (c.reclaimed r (its_body h k e f n m b (Reclaimed r) p)).1 in
      let none : In i [] = subst (In i) q j in elim none [ ]);
  admits = λ k ts p. absurd (cc);
  writes = λ w p. absurd (cc);
  writes_once = λ w p. absurd (cc);
  reserves = λ ts t u p. absurd (cc);
}

pub reserves_may : (server : ServerId) (past : List Doing) → ServerTokens server past (Reserves [])
reserves_may server past = record {
  epochs = λ h e n b p. absurd (cc);
  grants = λ h e n w p. absurd (cc);
  dones = λ h e n w p. absurd (cc);
  revokes = λ h e n r i p. absurd (cc);
  revokes_here = λ h e n r p. absurd (cc);
  stamps = λ h e n y r p. absurd (cc);
  gones = λ h e n g p. absurd (cc);
  reclaimed = λ h e n r g p. absurd (cc);
  left_out = λ h e n r i p. absurd (cc);
  admits = λ h ts p. absurd (cc);
  writes = λ w p. absurd (cc);
  writes_once = λ w p. absurd (cc);
  reserves = λ ts t u p m. absurd (reserves_nothing.reserves t ts p m);
}

pub lines_may : (lines : List Line) (steps : List Step) (s : Step) (m : Message) → s.cause ≡ Came m
    → ServerLines lines steps s
lines_may lines steps s m c = record {
  bare = λ n p. absurd (let q = sym c ∙ p in cc);
  restarts = λ n p. absurd (let q = sym c ∙ p in cc);
}

pub no_host_may : (s : Step) (m : Message) → s.cause ≡ Came m
    → (s.asked ≡ None) × (s.taken ≡ []) × (s.answers ≡ []) × (s.wrote ≡ None) × (s.begun ≡ []) × (s.made ≡ []) ×
    (s.dropped ≡ [])
    → NoHostStep s
no_host_may s m c none = record {
  causes = (λ p. let q = sym c ∙ p in cc, λ p. let q = sym c ∙ p in cc);
  does_none = none;
}

-- what such a step takes is no request, applies nothing, and what it sends is blank
pub record IsQuiet (server : ServerId) (past : List Doing) (m : Message) (ms : List Message) : Type 0 where
  pub given : (h : HostId) (g : Give) → FirstGiven server past (taking server m ms) h g → ⊥
  pub down : (h : HostId) → FirstDown past (taking server m ms) h → ⊥
  pub asks : (h : HostId) (n : ℕ) (r : Request) → TakenNow past (taking server m ms) h n (body_of r) → ⊥
  pub settled : IsSettled server (Took m.host m.epoch m.moves m.body ∷ past)
  pub rests : IsSettled server (after_step (taking server m ms) past)
  pub tokens : EachInTurn (ServerTokens server) (sending ms) (Took m.host m.epoch m.moves m.body ∷ past)
  pub blank : (n : Message) → In n ms → IsBlank n.body
  pub sends : (tree : Tree) → EachInTurn (MaySend server tree (taking server m ms)) (sending ms)
      (Took m.host m.epoch m.moves m.body ∷ past)
  pub once : EachOnce ms
  pub only : OnlyAnswers past (taking server m ms)
  pub answers : ServerAnswers server past (taking server m ms)

pub quiet_may : (script : Script) (start : Tree) (server : ServerId) (steps : List Step) (past : List Doing)
    (m : Message)
    (ms : List Message) → IsQuiet server past m ms → ServerMay script start server steps past (taking server m ms)
quiet_may script start server steps past m ms q = record {
  tokens = record {
    writes = tt;
    admits = tt;
    sends = q.tokens;
    reserves = reserves_may server (appended (sending ms)
        (Took m.host m.epoch m.moves m.body ∷ past));
  };
  no_host = no_host_may (taking server m ms) m refl (refl, refl, refl, refl, refl, refl, refl);
  answers = q.only;
  works = record {
    applies = record {
      given = λ h g f. absurd (q.given h g f);
      down = λ h f. absurd (q.down h f);
      else_none = λ a b. refl;
      decided = refl;
      reserves = λ t i. elim i [ ];
    };
    decides = tt;
    sends = q.sends (filesets_kept start server steps);
  };
}

pub quiet_due : (script : Script) (start : Tree) (server : ServerId) (steps : List Step) (past : List Doing)
    (m : Message)
    (ms : List Message) → IsQuiet server past m ms → ServerDue script start server steps past (taking server m ms)
quiet_due script start server steps past m ms q = record {
  lines = lines_may (lines_of script (Server server)) steps (taking server m ms) m refl;
  answers = q.answers;
  decided = record {
    news = λ h n r f. absurd (q.asks h n r f.taken);
    refused = λ w c refusal waits is so f. elim f [
      | inl r ↦ q.settled.rested w waits r
      | inr g ↦
          q.asks w.host w.moves w.request g.1.taken
    ];
    effects = λ w c waits is effect accepted r. q.settled.rested w waits r;
    pinned = λ w c waits is row accepted r. q.settled.rested w waits (inr r);
  };
  sent = record {
    once = q.once;
    revokes_once = λ h r o i told. absurd ((q.blank told.0 told.1).revoke r told.3);
    written = λ w i. elim i [ ];
    repeats = λ h n c d f. absurd (q.asks h n (Changes c) f);
    dones_only = λ h d told. absurd ((q.blank told.0 told.1).done d told.3);
    grants = λ w f waits is g. q.rests.rested w waits (inl g);
    uses = λ w c waits is uses accepted g. q.rests.rested w waits (inl g);
    others = λ w c waits is uses accepted row r. q.rests.rested w waits r;
    enters = λ w c waits is enter accepted g. q.rests.rested w waits (inl g);
    revokes = q.rests.asked;
    revokes_again = λ t c. absurd (cc);
  };
}

pub quiet_meets : (script : Script) (start : Tree) (server : ServerId) (steps : List Step) (past : List Doing)
    (m : Message)
    (ms : List Message) → IsQuiet server past m ms → ServerMeets script start server steps past (taking server m ms)
quiet_meets script start server steps past m ms q = record {
  may = quiet_may script start server steps past m ms q;
  due = quiet_due script start server steps past m ms q;
}
