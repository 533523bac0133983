-- What a step says is sound, by what its parts answer.
use Rattle.std.proofs.Common.{◌≡◌, ◌∙◌, ℕ, List, [], true, sym, ap, subst}
use Rattle.std.specs.Prelude.{OnOk, Result, Ok, Err}
use Rattle.base_types.specs.declared.ids.Node.TheVariants.{Server}
use Rattle.message_types.specs.declared.message.Message.{Message}
use Rattle.run_rules.specs.declared.step.Cause.{Cause}
use Rattle.run_rules.specs.declared.step.Step.{Step}
use Rattle.server_tables.specs.Sound.{AreSaid, AreSound, IsSaid}
use Rattle.server_tables.specs.Updates.{begun}
use Rattle.server_tables.specs.declared.tables.Tables.{Tables}
use Rattle.server_tables.proofs.Eaches.{of_each}
use Rattle.server_tables.proofs.SoundTables.{begun_sound}
use Rattle.server_decides.specs.Drafts.{no_draft, step_of}
use Rattle.server_decides.specs.Draft.{Draft}
use Rattle.server_decides.specs.Hailing.{restarting}
use Rattle.server_decides.specs.Revoking.{lapse_step, lapsing}
use Rattle.server_decides.specs.Saying.{SaysOn}
use Rattle.server_decides.proofs.SoundSaid.{lapse_said, lapse_sound, restart_said}
use Rattle.server_exporter.specs.Machines.{Says}
use Rattle.server_exporter.specs.declared.exporter.Exporter.{Exporter}

says_all : (x : Tables) (s : Step) → s.node ≡ Server x.server → AreSaid x.server x.roster s.sent → Says x s
says_all x s node said = record {
  node = node;
  from = λ m i. (of_each (IsSaid x.server x.roster) s.sent said m i).from;
  sound = λ m i. (of_each (IsSaid x.server x.roster) s.sent said m i).sound;
}

-- the step of a draft
pub says_step : (x y : Tables) (d e : Draft) (cause : Cause) (s : Step) → d ≡ no_draft → s ≡ step_of x.server cause e
    → SaysOn x d y e → Says x s
says_step x y d e cause s none is so =
    says_all x s (ap (λ (z : Step). z.node) is)
    (subst (λ (ms : List Message). AreSaid x.server x.roster ms) (sym (ap (λ (z : Step). z.sent) is))
    (so.said (subst (λ (z : Draft). AreSaid x.server x.roster z.sent) (sym none) tt)))

-- one in which nothing is sent
pub says_none : (x : Tables) (s t : Step) → t.node ≡ Server x.server → t.sent ≡ [] → s ≡ t → Says x s
says_none x s t node none is =
    says_all x s (ap (λ (z : Step). z.node) is ∙ node)
    (subst (λ (ms : List Message). AreSaid x.server x.roster ms) (sym (ap (λ (z : Step). z.sent) is ∙ none)) tt)

pub says_lapse : (x : Tables) (s : Step) → AreSound x → s ≡ lapse_step x → Says x s
says_lapse x s sound is =
    says_all x s (ap (λ (z : Step). z.node) is)
    (subst (λ (ms : List Message). AreSaid x.server x.roster ms) (sym (ap (λ (z : Step). z.sent) is))
    (lapse_said x sound))

pub says_restart : (x : Tables) (line : ℕ) (s : Step) → AreSound x → s ≡ restarting x line → Says x s
says_restart x line s sound is =
    says_all x s (ap (λ (z : Step). z.node) is)
    (subst (λ (ms : List Message). AreSaid x.server x.roster ms) (sym (ap (λ (z : Step). z.sent) is))
    (restart_said x sound line))

-- the tables after a lapse, and after a restart
module _ {T E : Type 0} (r : Result T E) where
  pub lapse_sound_all : (x t : Tables) → OnOk r (t ≡ (lapsing x).tables) → AreSound x → OnOk r (AreSound t)
  lapse_sound_all x t f sound = by r f
    where
      by : (r : Result T E) → OnOk r (t ≡ (lapsing x).tables) → OnOk r (AreSound t)
      by (Ok value) f = subst AreSound (sym f) (lapse_sound x sound)
      by (Err error) f = tt

  pub begun_sound_all : (x y : Exporter) → OnOk r (y ≡ record { tables = begun x.tables; rested = true })
      → AreSound x.tables → OnOk r (AreSound y.tables)
  begun_sound_all x y f sound = by r f
    where
      by : (r : Result T E) → OnOk r (y ≡ record { tables = begun x.tables; rested = true })
          → OnOk r (AreSound y.tables)
      by (Ok value) f = subst (λ (w : Exporter). AreSound w.tables) (sym f) (begun_sound x.tables sound)
      by (Err error) f = tt
