-- A request of a live host is taken.
use Rattle.std.proofs.Common.{◌≡◌, List, ◌∷◌, inl, inr, sym, ◌∙◌, ap, subst}
use Rattle.base_types.specs.declared.ids.HostId.{HostId}
use Rattle.base_types.specs.declared.ids.ServerId.{ServerId}
use Rattle.base_types.specs.declared.ids.Node.TheVariants.{Server}
use Rattle.message_types.specs.declared.giving.Give.{Give}
use Rattle.message_types.specs.declared.message.Body.{Body}
use Rattle.message_types.specs.declared.message.Body.TheVariants.{Hello, Grant, Done, Revoke, Gone, GiveBack, Reclaim}
use Rattle.message_types.specs.declared.message.Body.TheVariants.{Reclaimed, Restarted, Down, Bye}
use Rattle.message_types.specs.declared.message.Message.{Message}
use Rattle.run_rules.specs.Doings.{Doing, GoesAway, IsLive, SentNow, epoch}
use Rattle.run_rules.specs.Doings.Doing.{MakesWant, Took}
use Rattle.run_rules.specs.Past.{In}
use Rattle.run_rules.specs.ServerDecides.{FirstDown, FirstGiven}
use Rattle.run_rules.specs.ServerDue.{ServerAnswers}
use Rattle.run_rules.specs.ServerMay.{OnlyAnswers}
use Rattle.run_rules.specs.ServerTokens.{ServerTokens}
use Rattle.run_rules.specs.Steps.{bare}
use Rattle.run_rules.specs.declared.applied.Applied.{Applied}
use Rattle.run_rules.specs.declared.applied.Wanted.{Wanted}
use Rattle.run_rules.specs.declared.step.Cause.TheVariants.{Message as Came}
use Rattle.run_rules.specs.declared.step.Step.{Step}
use Rattle.server_tables.specs.declared.tables.Tables.{Tables}
use Rattle.server_tables.specs.Standing.{IsSettled, Stands}
use Rattle.server_tables.proofs.Still.{IsStill, reclaimed_back, still}
use Rattle.server_tables.proofs.Idle.{ask_mild, IsAsk, IsMute, mute}
use Rattle.server_tables.proofs.Resting.{still_settled}
use Rattle.server_tables.proofs.Quiet.{the_cause}

-- what answers requests
abbrev pub IsTelling : Body → Type 0
IsTelling (Grant g) = Unit {0}
IsTelling (Done d) = Unit {0}
IsTelling (Revoke r) = Unit {0}
IsTelling _ = ⊥

-- it takes a message, applies this and sends that
abbrev pub asking : ServerId → Message → List Applied → List Message → Step
asking server m applied sent = record (bare (Server server) (Came m)) { applied = applied; sent = sent }

pub makes_may : (server : ServerId) (past : List Doing) (w : Wanted) → ServerTokens server past (MakesWant w)
makes_may server past w = record {
  epochs = λ h e n b p. absurd (cc);
  grants = λ h e n g p. absurd (cc);
  dones = λ h e n d p. absurd (cc);
  revokes = λ h e n r i p. absurd (cc);
  revokes_here = λ h e n r p. absurd (cc);
  stamps = λ h e n y r p. absurd (cc);
  gones = λ h e n g p. absurd (cc);
  reclaimed = λ h e n r g p. absurd (cc);
  left_out = λ h e n r i p. absurd (cc);
  admits = λ h ts p. absurd (cc);
  writes = λ v p. absurd (cc);
  writes_once = λ v p. absurd (cc);
  reserves = λ ts t u p. absurd (cc);
}

-- a message of a live host and the present epoch, with a request
pub record IsAsked (past : List Doing) (m : Message) : Type 0 where
  pub asks : IsAsk m.body
  pub now : m.epoch ≡ epoch past
  pub live : IsLive past m.host

module _ (past : List Doing) (x : Tables) (m : Message) (s : Stands past x) (c : IsAsked past m) where
  abbrev came : Doing
  came = Took m.host m.epoch m.moves m.body

  not_body : (b : Body) → (IsAsk b → ⊥) → m.body ≡ b → ⊥
  not_body b not p = not (subst IsAsk p c.asks)

  pub goes : (h : HostId) → GoesAway past came h → ⊥
  goes h (inl p) = not_body Down (λ a. a) (let q = p.2 in cc)
  goes h (inr p) = not_body Bye (λ a. a) (let q = p.0.1 in cc)

  is_mute : IsMute past m.host m.epoch m.moves m.body
  is_mute = record {
    light = record {
      taken = λ k n d p. ask_mild d (subst IsAsk (let q = p.0 in let r : m.body ≡ d = cc in r) c.asks);
      away = λ h g. absurd (goes h g);
    };
    hello = λ k p l d. not_body Hello (λ a. a) (let q = p.2 in cc);
    down = λ k p. absurd (not_body Down (λ a. a) (let q = p.2 in cc));
  }

  pub took_still : IsStill x.server x.stamp past came
  took_still = mute x.server x.stamp past m.host m.epoch m.moves m.body is_mute (λ w p g. goes w.host g)

  pub stands_begun : Stands (came ∷ past) x
  stands_begun = still past came x took_still s

  pub live_begun : IsLive (came ∷ past) m.host
  live_begun = (inr c.live.0, λ w. elim w [ inl g ↦ goes m.host g | inr g ↦ c.live.1 g ])

  module _ (z : IsSettled x.server past) where
    pub settled_begun : IsSettled x.server (came ∷ past)
    settled_begun = still_settled past came x s took_still z

    module _ (applied : List Applied) (ms : List Message) (tells : (n : Message) → In n ms → IsTelling n.body) where
      abbrev step : Step
      step = asking x.server m applied ms

      its_body : (n : Message) (b : Body) → (IsAsk b → ⊥) → step.cause ≡ Came n → n.body ≡ b → ⊥
      its_body n b not p q = not_body b not (ap (λ (y : Message). y.body) (the_cause m n p) ∙ q)

      not_sent : (h : HostId) (b : Body) → (IsTelling b → ⊥) → SentNow step h b → ⊥
      not_sent h b not w = not (subst IsTelling w.3 (tells w.0 w.1))

      pub not_given : (h : HostId) (g : Give) → FirstGiven x.server past step h g → ⊥
      not_given h g f = its_body f.0.1.0.0 (GiveBack g) (λ a. a) f.0.1.0.1 f.0.1.0.5

      pub not_down : (h : HostId) → FirstDown past step h → ⊥
      not_down h f = its_body f.0.0 Down (λ a. a) f.0.1 f.0.3

      pub answers_asked : ServerAnswers x.server past step
      answers_asked = record {
        hello_old = λ h w l. absurd (its_body w.0 Hello (λ a. a) w.1 w.3);
        hello = λ h w d. absurd (its_body w.0 Hello (λ a. a) w.1 w.3);
        bye = λ h w d. absurd (its_body w.0 Bye (λ a. a) w.1 w.3);
        late = λ h n p is l other. absurd (other (ap (λ (y : Message). y.epoch) (sym (the_cause m n p)) ∙ c.now));
        restarted = λ line h p. absurd (cc);
        restarted_again = λ h p. absurd (cc);
        restarted_only = λ h w. absurd (not_sent h Restarted (λ a. a) w);
        gone = λ h n g w. absurd (its_body w.0.0 (GiveBack g) (λ a. a) w.0.1 w.0.5);
        gone_only = λ h n w. absurd (not_sent h (Gone n) (λ a. a) w);
        claim_now = λ h n claim took never l all. absurd (settled_begun.claims h n claim took (λ r. never
            (reclaimed_back past came took_still.hosts h r)) l all);
        claim_again = λ h n claim w. absurd (its_body w.0.0 (Reclaim claim) (λ a. a) w.0.1 w.0.5);
      }

      pub only_asked : OnlyAnswers past step
      only_asked = record {
        bye_only = λ h w. absurd (not_sent h Bye (λ a. a) w);
        reclaimed_only = λ h r w. absurd (not_sent h (Reclaimed r) (λ a. a) w);
      }
