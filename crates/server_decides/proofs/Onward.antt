-- What is said beside what is decided and answered is sound: to a message that comes, where claims are granted, and
-- where tokens are asked back.
use Rattle.std.proofs.Common.{◌≡◌, subst, sym}
use Rattle.message_types.specs.declared.message.Message.{Message}
use Rattle.token_manager.specs.Managers.{wanted}
use Rattle.server_tables.specs.Sound.{AreSound}
use Rattle.server_tables.specs.declared.tables.Tables.{Tables}
use Rattle.server_says.specs.Messages.{IsFor, IsHeard}
use Rattle.server_says.specs.Taking.{made}
use Rattle.server_says.specs.Draft.{Draft}
use Rattle.server_says.proofs.SoundTaken.{GoesOn, heard_goes}
use Rattle.server_says.specs.Claiming.{AdmitsOne}
use Rattle.server_says.specs.Revoking.{asking_back, not_asked}
use Rattle.server_says.specs.Running.{GoesTo}
use Rattle.server_says.proofs.SoundSaid.{all_admit_goes, asks_goes}
use Rattle.server_decides.specs.Saying.{SaysOn}

says_so : (x y : Tables) (d e : Draft) (s : AreSound x) → GoesOn x d s y e → SaysOn x d y e
says_so x y d e s g = record { server = g.server; roster = g.roster; sound = g.sound; said = g.said }

-- a message that comes
pub heard_says : (x y : Tables) (d e : Draft) (m : Message) → AreSound x → IsFor x.server x.roster m
    → IsHeard x d m y e → SaysOn x d y e
heard_says x y d e m s is h = says_so x y d e s (heard_goes x d s m is y e h)

-- claims that are granted
pub admits_says : (x y : Tables) (d e : Draft) → GoesTo AdmitsOne (made x d) (made y e) → AreSound x → SaysOn x d y e
admits_says x y d e goes s = says_so x y d e s (all_admit_goes x y d e s goes)

-- tokens that are asked back
pub back_says : (x y : Tables) (d e : Draft) → y ≡ (asking_back x d (not_asked (wanted x.tokens))).tables
    → e ≡ (asking_back x d (not_asked (wanted x.tokens))).draft → AreSound x → SaysOn x d y e
back_says x y d e a b s =
    let both = asking_back x d (not_asked (wanted x.tokens)) in
    subst (λ (z : Tables). SaysOn x d z e) (sym a) (subst (SaysOn x d both.tables) (sym b)
    (says_so x both.tables d both.draft s (asks_goes x d s)))
