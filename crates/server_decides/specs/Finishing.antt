-- What each step ends with, once its cause was taken.
use Rattle.std.specs.Prelude.{◌≡◌, Bool, true, None, Some}
use Rattle.base_types.specs.declared.user.User.{User}
use Rattle.tree_calls.specs.Rosters.{user_of}
use Rattle.message_types.specs.declared.message.Message.{Message}
use Rattle.store_state.specs.declared.state.StoreState.{StoreState}
use Rattle.token_manager.specs.Laws.{KeepsLaws}
use Rattle.token_manager.specs.Managers.{wanted}
use Rattle.server_tables.specs.Judging.{first_ripe}
use Rattle.server_tables.specs.declared.tables.Tables.{Tables}
use Rattle.server_says.specs.Messages.{IsStored, IsTakenOf, state_taken}
use Rattle.server_says.specs.Taking.{IsMadeOf, Made, made}
use Rattle.server_says.specs.Draft.{Draft}
use Rattle.server_says.specs.Claiming.{AdmitsOne}
use Rattle.server_decides.specs.Deciding.{Decides, NoneDue}
use Rattle.server_says.specs.Revoking.{asking_back, not_asked}
use Rattle.server_decides.specs.Serving.{IsServed}
use Rattle.server_decides.specs.Running.{Making, making}
use Rattle.server_says.specs.Running.{GoesTo}
use Rattle.server_decides.specs.Sending.{HasSentAll}

-- Changes are decided until nothing is due of any, claims are granted until none could be, each request is answered
-- that can be, and what is in the way of those that are left is asked back. `rested`: nothing is due then.
pub record IsFinished (x : Tables) (d : Draft) (state : StoreState) (y : Tables) (e : Draft) (next : StoreState)
    (rested : Bool)
    : Type 0 where
  pub decided : Making
  pub decides : GoesTo Decides (making x d state) decided
  pub none_due : NoneDue decided.tables decided.state decided.draft.fresh decided.tables.pending
  pub admitted : Made
  pub admits : GoesTo AdmitsOne (made decided.tables decided.draft) admitted
  pub none_ripe : first_ripe admitted.tables.recovering admitted.tables.server ≡ None
  pub served : IsServed admitted.tables decided.state
  pub sent : Made
  pub sends : HasSentAll decided.state admitted.tables admitted.draft sent.tables sent.draft
  pub laws : KeepsLaws sent.tables.tokens
  pub asks : IsMadeOf sent.tables sent.draft y e
      (asking_back sent.tables sent.draft (not_asked (wanted sent.tables.tokens)))
  pub stored : next ≡ decided.state
  pub rests : rested ≡ true → NoneDue y next None y.pending

-- A message is taken first; of a host that is a user's.
pub record IsTakenAndFinished (x : Tables) (d : Draft) (m : Message) (state : StoreState) (y : Tables) (e : Draft)
    (next : StoreState) (rested : Bool)
    : Type 0 where
  pub laws : KeepsLaws x.tokens
  pub between : Making
  pub taken : (user : User) → user_of x.roster m.host ≡ Some user
      → IsTakenOf x d m user state between.tables between.draft
  pub stored : IsStored m state m.body → between.state ≡ state_taken x m state
  pub served : IsServed between.tables between.state
  pub finished : IsFinished between.tables between.draft between.state y e next rested
