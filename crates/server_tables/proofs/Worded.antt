-- A message that is answered by one word.
use Rattle.std.proofs.Common.{◌≡◌, ℕ, List, [], ◌∷◌, inl, inr, sym, ◌∙◌, ap}
use Rattle.base_types.specs.declared.ids.HostId.{HostId}
use Rattle.base_types.specs.declared.ids.ServerId.{ServerId}
use Rattle.message_types.specs.declared.message.Body.{Body}
use Rattle.message_types.specs.declared.message.Message.{Message}
use Rattle.run_rules.specs.Doings.{Doing, HeardNow, SentNow, TakenNow, TakesFrom, after_step, epoch}
use Rattle.run_rules.specs.Doings.Doing.{Reserves, Sent, Took}
use Rattle.run_rules.specs.declared.step.Step.{Step}
use Rattle.server_tables.specs.declared.tables.Tables.{Tables}
use Rattle.server_tables.specs.Standing.{IsSettled, Stands}
use Rattle.server_tables.specs.Steps.{taking, to_host}
use Rattle.server_tables.proofs.Still.{IsStill, still}
use Rattle.server_tables.proofs.Idle.{no_words, up_to, idle, reserves_nothing, says}
use Rattle.server_tables.proofs.Resting.{still_settled}
use Rattle.server_tables.proofs.Quiet.{TellsSo, blank_word, the_cause}

-- what the cause of a step is, the doing takes
pub taken_takes : (past : List Doing) (v : ServerId) (m : Message) (ms : List Message) (h : HostId) (n : ℕ) (b : Body)
    → TakenNow past (taking v m ms) h n b → TakesFrom past (Took m.host m.epoch m.moves m.body) h n b
taken_takes past v m ms h n b t =
    let e = the_cause m t.0.0 t.0.1 in
    let p = ap (λ (y : Message). y.host) e ∙ t.0.2 in
    let q = ap (λ (y : Message). y.epoch) e ∙ t.0.3 in
    let r = ap (λ (y : Message). y.moves) e ∙ t.0.4 in
    let u = ap (λ (y : Message). y.body) e ∙ t.0.5 in
    ((let w : Took m.host m.epoch m.moves m.body ≡ Took h (epoch past) n b = cc in w), t.1)

pub heard_hears : (past : List Doing) (v : ServerId) (m : Message) (ms : List Message) (h : HostId) (b : Body)
    → HeardNow (taking v m ms) h b → (m.host ≡ h) × (m.body ≡ b)
heard_hears past v m ms h b t = let e = the_cause m t.0 t.1 in
    (ap (λ (y : Message). y.host) e ∙ t.2, ap (λ (y : Message). y.body) e ∙ t.3)

-- the one message of a step
pub only : (v : ServerId) (m : Message) (h k : HostId) (e n : ℕ) (b d : Body) → SentNow (taking v m
    (to_host v h e n b ∷ [])) k d
    → (h ≡ k) × (b ≡ d)
only v m h k e n b d (y, inl p, q, r) = (
  ap (λ (z : Message). z.host) (sym p) ∙ q,
  ap (λ (z : Message). z.body)
      (sym p) ∙ r,
)
only v m h k e n b d (y, inr p, q, r) = elim p [ ]

-- `y` are the tables once the message is taken
module _ (past : List Doing) (y : Tables) (m : Message) (s : Stands (Took m.host m.epoch m.moves m.body ∷ past) y)
    (z : IsSettled y.server (Took m.host m.epoch m.moves m.body ∷ past)) (h : HostId) (n : ℕ) (b : Body)
    (tells : TellsSo y.server past h n b) where
  abbrev begun : List Doing
  begun = Took m.host m.epoch m.moves m.body ∷ past

  abbrev a : Doing
  a = Sent h y.hosts.epoch n b

  abbrev step : Step
  step = taking y.server m (to_host y.server h y.hosts.epoch n b ∷ [])

  pub sent_still : IsStill y.server y.stamp begun a
  sent_still = idle y.server y.stamp begun a (says h y.hosts.epoch n b (blank_word b tells.blank))
      (up_to begun h y.hosts.epoch n b s.hosts.epoch_is)

  stands_sent : Stands (a ∷ begun) y
  stands_sent = still begun a y sent_still s

  pub kept_still : IsStill y.server y.stamp (a ∷ begun) (Reserves [])
  kept_still = idle y.server y.stamp (a ∷ begun) (Reserves []) reserves_nothing (no_words (a ∷ begun))

  pub stands_worded : Stands (after_step step past) y
  stands_worded = still (a ∷ begun) (Reserves []) y kept_still stands_sent

  pub settled_worded : IsSettled y.server (after_step step past)
  settled_worded = still_settled (a ∷ begun) (Reserves []) y stands_sent kept_still
      (still_settled begun a y s sent_still z)
