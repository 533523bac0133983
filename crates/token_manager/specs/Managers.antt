-- What a token manager is seen as, its answers, and what they leave.
use Rattle.std.specs.Prelude.{ℕ, ◌+◌, ◌==◌, Bool, ◌&&◌, ◌||◌, not, is_some}
use Rattle.std.specs.Prelude.{is_none, if◌then◌else◌, nat_lt, List, [], ◌∷◌, ◌++◌}
use Rattle.std.specs.Prelude.{Option, Some, None}
use Rattle.std.specs.List.{find}
use Rattle.std.specs.Option.{option_map}
use Rattle.base_types.specs.declared.ids.FilesetId.{FilesetId}
use Rattle.base_types.specs.declared.ids.HostId.{HostId}
use Rattle.base_types.specs.declared.ids.ServerId.{ServerId}
use Rattle.token_types.specs.declared.token.Token.{Token}
use Rattle.token_types.specs.declared.token.TokenId.{TokenId}
use Rattle.token_table.specs.Tables.{next_tokens}
use Rattle.token_manager.specs.declared.grants.Grants.{Grants}
use Rattle.token_manager.specs.declared.want.Want.{Want}
use Rattle.token_manager.specs.declared.want.Asked.{Asked}
use Rattle.token_manager.specs.declared.want.Asked.TheVariants.{Granted, Waits}
use Rattle.token_manager.specs.declared.want.Outlook.{Outlook}
use Rattle.token_manager.specs.declared.want.Outlook.TheVariants.{Waits as HasToWait}
use Rattle.token_manager.specs.declared.want.Ready.{Ready}
use Rattle.token_manager.specs.declared.want.Ready.TheVariants.{Granted as GrantedLater, Refused}
use Rattle.token_manager.specs.declared.want.Wanted.{Wanted}
use Rattle.token_manager.specs.Grants.{is_blocked, pinned_in_the_way, to_revoke, with_grant}
use Rattle.token_manager.specs.Grants.{with_claims, holds, can_keep}
use Rattle.token_manager.specs.Grants.{no_grants, outlook_with, pinned_grants, revoked_grants}
use Rattle.token_manager.specs.Grants.{without_token, without_host, wanted_from}
use Rattle.token_manager.specs.Wants.{first_ahead, without_want, not_wants_of, not_wants_in}

pub record Manager : Type 0 where
  pub grants : Grants
  -- the wants that aren't decided, in the order in which they were asked
  pub queue : List Want
  -- how many wants were asked
  pub asked : ℕ
  -- the number of the last want that was asked
  pub latest : Option ℕ

-- the manager of a server in an epoch, which has granted nothing
abbrev pub new_manager : ServerId → ℕ → Manager
new_manager server epoch =
    record {
      grants = no_grants server epoch;
      queue = [];
      asked = 0;
      latest = None;
    }

-- after a restart in a later epoch nothing is granted and nothing waits; an epoch that isn't later changes nothing
abbrev pub is_later : Manager → ℕ → Bool
is_later manager epoch = nat_lt manager.grants.table.epoch epoch

unfoldable pub grants_forgotten : Manager → ℕ → Grants
grants_forgotten manager epoch =
    if is_later manager epoch then no_grants manager.grants.table.server epoch else manager.grants

unfoldable pub queue_forgotten : Manager → ℕ → List Want
queue_forgotten manager epoch = if is_later manager epoch then [] else manager.queue

abbrev pub after_forget : Manager → ℕ → Manager
after_forget manager epoch =
    record manager { grants = grants_forgotten manager epoch; queue = queue_forgotten manager epoch }

-- whether a want has to wait: a granted token of another host or an earlier queued want conflicts with it
abbrev pub has_to_wait : Manager → Want → Bool
has_to_wait manager want = is_blocked manager.grants want || is_some (first_ahead manager.queue want)

unfoldable pub ask_answer : Manager → Want → Asked
ask_answer manager want =
    if has_to_wait manager want
    then Waits (to_revoke manager.grants want) (option_map (λ other. other.number) (first_ahead manager.queue want))
    else Granted (next_tokens manager.grants.table want.host want.needs)

unfoldable pub grants_asked : Manager → Want → Grants
grants_asked manager want = if has_to_wait manager want then manager.grants else with_grant manager.grants want

unfoldable pub queue_asked : Manager → Want → List Want
queue_asked manager want = if has_to_wait manager want then manager.queue ++ want ∷ [] else manager.queue

abbrev pub after_ask : Manager → Want → Manager
after_ask manager want =
    record {
      grants = grants_asked manager want;
      queue = queue_asked manager want;
      asked = manager.asked + 1;
      latest = Some want.number;
    }

-- whether a queued want can be decided: no earlier one conflicts with it, and either no granted token of another host
-- does or one does that is pinned
abbrev pub can_decide : Grants → List Want → Want → Bool
can_decide grants queue want =
    is_none (first_ahead queue want) && (not (is_blocked grants want) || is_some (pinned_in_the_way grants want))

-- the first of the queued wants that can be decided
abbrev pub first_ready : Manager → Option Want
first_ready manager = find (can_decide manager.grants manager.queue) manager.queue

-- a want that can be decided is refused where a pinned token conflicts with it, and else granted
abbrev pub decision : Grants → Want → Option Token → Ready
decision grants want (Some token) = Refused want.number token
decision grants want None = GrantedLater want.number (next_tokens grants.table want.host want.needs)

abbrev pub after_decision : Grants → Want → Option Token → Grants
after_decision grants want (Some token) = grants
after_decision grants want None = with_grant grants want

-- the decision on a want, where there is one, and what it leaves
abbrev pub ready_of : Grants → Option Want → Option Ready
ready_of grants None = None
ready_of grants (Some want) = Some (decision grants want (pinned_in_the_way grants want))

abbrev pub grants_after : Grants → Option Want → Grants
grants_after grants None = grants
grants_after grants (Some want) = after_decision grants want (pinned_in_the_way grants want)

abbrev pub queue_after : List Want → Option Want → List Want
queue_after queue None = queue
queue_after queue (Some want) = without_want queue want.number

unfoldable pub ready_answer : Manager → Option Ready
ready_answer manager = ready_of manager.grants (first_ready manager)

unfoldable pub grants_ready : Manager → Grants
grants_ready manager = grants_after manager.grants (first_ready manager)

unfoldable pub queue_ready : Manager → List Want
queue_ready manager = queue_after manager.queue (first_ready manager)

abbrev pub after_ready : Manager → Manager
after_ready manager = record manager { grants = grants_ready manager; queue = queue_ready manager }

-- the queued want with a number, if it can be decided
abbrev pub is_ready_at : Grants → List Want → ℕ → Want → Bool
is_ready_at grants queue number want = (want.number == number) && can_decide grants queue want

abbrev pub ready_at : Manager → ℕ → Option Want
ready_at manager number = find (is_ready_at manager.grants manager.queue number) manager.queue

-- what can become of it; one that can't be decided waits
abbrev pub outlook_of : Grants → Option Want → Outlook
outlook_of grants None = HasToWait
outlook_of grants (Some want) = outlook_with (pinned_in_the_way grants want)

unfoldable pub decide_answer : Manager → ℕ → Option Ready
decide_answer manager number = ready_of manager.grants (ready_at manager number)

unfoldable pub grants_decided : Manager → ℕ → Grants
grants_decided manager number = grants_after manager.grants (ready_at manager number)

unfoldable pub queue_decided : Manager → ℕ → List Want
queue_decided manager number = queue_after manager.queue (ready_at manager number)

abbrev pub after_decide : Manager → ℕ → Manager
after_decide manager number =
    record manager { grants = grants_decided manager number; queue = queue_decided manager number }

-- a want stands behind all that are queued
abbrev pub after_enqueue : Manager → Want → Manager
after_enqueue manager want =
    record {
      grants = manager.grants;
      queue = manager.queue ++ want ∷ [];
      asked = manager.asked + 1;
      latest = Some want.number;
    }

unfoldable pub grants_returned : Grants → HostId → TokenId → Grants
grants_returned grants host id = if holds grants host id then without_token grants id else grants

abbrev pub after_returned : Manager → HostId → TokenId → Manager
after_returned manager host id = record manager { grants = grants_returned manager.grants host id }

unfoldable pub grants_kept : Grants → HostId → TokenId → Grants
grants_kept grants host id = if can_keep grants host id then pinned_grants grants id else grants

abbrev pub after_kept : Manager → HostId → TokenId → Manager
after_kept manager host id = record manager { grants = grants_kept manager.grants host id }

abbrev pub after_revoked : Manager → TokenId → Manager
after_revoked manager id = record manager { grants = revoked_grants manager.grants id }

abbrev pub after_admit : Manager → List Token → Manager
after_admit manager tokens = record manager { grants = with_claims manager.grants tokens }

-- the tokens that queued wants ask back, each with whether it was asked back before
abbrev pub wanted : Manager → List Wanted
wanted manager = wanted_from manager.grants [] manager.queue

abbrev pub after_down : Manager → HostId → Manager
after_down manager host =
    record manager { grants = without_host manager.grants host; queue = not_wants_of manager.queue host }

abbrev pub after_given_up : Manager → ℕ → Manager
after_given_up manager number = record manager { queue = without_want manager.queue number }

abbrev pub after_drop_fileset : Manager → FilesetId → Manager
after_drop_fileset manager fileset = record manager { queue = not_wants_in manager.queue fileset }
