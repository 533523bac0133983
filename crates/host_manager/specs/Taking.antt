-- What a host makes of a message, by its tables.
use Rattle.std.specs.Prelude.{Bool, List, None, Option, Some, false, fold, if◌then◌else◌, nat_lt, not, true, ℕ}
use Rattle.std.specs.Prelude.{◌&&◌, ◌==◌, ◌||◌, ◌≡◌, ◌⊎◌}
use Rattle.std.specs.Option.{option_map_or}
use Rattle.base_types.specs.declared.ids.FilesetId.{FilesetId}
use Rattle.base_types.specs.declared.ids.ServerId.{ServerId}
use Rattle.host_asks.specs.Asking.{Doing, doing}
use Rattle.host_asks.specs.Claiming.{claiming}
use Rattle.host_asks.specs.Going.{GoesOn}
use Rattle.host_gives.specs.Giving.{IsSound}
use Rattle.host_leaves.specs.Revoking.{Revokes}
use Rattle.host_leaves.specs.Sending.{asked_server, filesets_given, saying, sending_due, sending_give, sending_request}
use Rattle.host_manager.specs.Learning.{UsesBring, brings_uses, learning_given, renewed}
use Rattle.host_tables.specs.Heeding.{IsForOthers}
use Rattle.host_tables.specs.Tables.{site_at}
use Rattle.host_tables.specs.Updates.{home_at, with_home, with_site}
use Rattle.host_tables.specs.declared.calls.Home.{Home}
use Rattle.host_tables.specs.declared.calls.Request.{Request}
use Rattle.host_tables.specs.declared.calls.Request.TheVariants.{Change as AChange, Fetch as AFetch}
use Rattle.host_tables.specs.declared.draft.Draft.{Draft}
use Rattle.host_tables.specs.declared.sites.Site.{Site}
use Rattle.host_tables.specs.declared.tables.Tables.{Tables}
use Rattle.message_types.specs.declared.asking.Change.{Change}
use Rattle.message_types.specs.declared.giving.AppliedGive.{AppliedGive}
use Rattle.message_types.specs.declared.giving.Reclaimed.{Reclaimed as ReclaimedOf}
use Rattle.message_types.specs.declared.tokens.Revoke.{Revoke as RevokeOf}
use Rattle.message_types.specs.declared.message.Body.{Body}
use Rattle.message_types.specs.declared.message.Body.TheVariants.{Bye, Done, Gone, Grant, Reclaimed, Restarted, Revoke}
use Rattle.message_types.specs.declared.message.Message.{Message}
use Rattle.message_types.specs.declared.telling.Done.{Done as DoneOf}
use Rattle.message_types.specs.declared.telling.DoneIs.{DoneIs}
use Rattle.message_types.specs.declared.telling.DoneIs.TheVariants.{Known, Reply as HasReply}
use Rattle.message_types.specs.declared.telling.Grant.{Grant as GrantOf}
use Rattle.need_host.specs.Questions.{fileset_of}
use Rattle.tree_calls.specs.declared.call.Call.{Call}

abbrev pub put_site_in : Site → Tables → Tables
put_site_in site m = record m { sites = with_site site m.sites }

-- a Bye comes
abbrev pub parted_by : ServerId → Tables → Tables
parted_by server m = put_site_in (record (site_at m.sites server) { has_bye = true }) m

-- a server has restarted: what is on its way is sent again, and a claim
abbrev pub sending_to : Tables → ServerId → Draft → FilesetId → Draft
sending_to m server draft fileset = if (home_at fileset).0 == server.0 then sending_give m draft fileset else draft

abbrev pub sending_each : Tables → ServerId → Draft → Draft
sending_each m server draft = fold (sending_to m server) draft (filesets_given m.gives.gives)

abbrev pub claimed_at : ServerId → Tables → Draft → Doing
claimed_at server m draft =
    let new = put_site_in (record (site_at m.sites server) { claimed = true }) m in
    doing new (claiming new (sending_each new server draft) server)

abbrev pub restarting : ServerId → ℕ → Doing → Doing
restarting server epoch at =
    let new = renewed server epoch at.tables in
    if (site_at new.sites server).greeted then claimed_at server new at.draft else doing new at.draft

-- a claim is answered: what else is outstanding is sent again
abbrev pub is_asked_at : ServerId → Option Request → Bool
is_asked_at server request = option_map_or (λ (asked : ServerId). asked.0 == server.0) (asked_server request) false

abbrev pub request_again : ServerId → Doing → Doing
request_again server at = if is_asked_at server at.tables.request
    then doing at.tables (sending_request at.tables at.tables.request at.draft) else at

abbrev pub bye_again : Site → Doing → Doing
bye_again site at = if site.said_bye && not site.has_bye
    then doing at.tables (saying at.tables site.server Bye at.draft) else at

abbrev pub reclaiming : Site → ReclaimedOf → Doing → Doing
reclaiming site reclaimed at = bye_again site (request_again site.server
    (fold (λ now applied. learning_given applied now)
    (doing (put_site_in (record site { claimed = false }) at.tables) at.draft) reclaimed.applied))

-- a site whose server has welcomed the host, where it was greeted
abbrev pub with_welcome : Site → Site
with_welcome site = record site { welcome = site.welcome || site.greeted }

-- a server hears the host
abbrev pub welcomed : ServerId → Doing → Doing
welcomed server at = let site = site_at at.tables.sites server in
    doing (put_site_in (record site { welcome = site.welcome || site.greeted }) at.tables) at.draft

-- of a server of which nothing was known the epoch is learnt; in the present one the claim is answered
abbrev pub hearing_epoch : Message → ReclaimedOf → Doing → Doing
hearing_epoch message reclaimed at = let site = site_at at.tables.sites message.server in
    if message.epoch == site.epoch then reclaiming site reclaimed at
    else doing (renewed message.server message.epoch at.tables) at.draft

abbrev pub hearing : Message → ReclaimedOf → Doing → Doing
hearing message reclaimed at = welcomed message.server (hearing_epoch message reclaimed at)

-- whether a Grant, or a Done, answers the outstanding request
abbrev pub answers_fetch : GrantOf → Option Request → Bool
answers_fetch grant (Some (AFetch fetch)) =
    (fetch.number == grant.bring.number) && (fetch.fid.fileset.0 == grant.bring.fid.fileset.0)
answers_fetch grant _ = false

abbrev pub answers_change : ServerId → DoneOf → Option Request → Bool
answers_change server done (Some (AChange asked change)) = (asked.0 == server.0)
    && ((change.number == done.bring.number) && (change.fileset.0 == done.fileset.0))
answers_change server done _ = false

-- what a Done tells
abbrev pub homes_named : Call → FilesetId → List Home → List Home
homes_named call id homes =
    option_map_or (λ (server, name). with_home server name id homes) (fileset_of call) homes

abbrev pub homes_entered : Change → FilesetId → List Home → List Home
homes_entered change id homes = if change.enter then homes_named change.call id homes else homes

abbrev pub homes_by : Option Request → FilesetId → List Home → List Home
homes_by (Some (AChange server change)) id homes = homes_entered change id homes
homes_by _ id homes = homes

abbrev pub told_by : DoneIs → Tables → Tables
told_by (Known id) m = record m { homes = homes_by m.request id m.homes; request = None }
told_by (HasReply reply) m = record m { request = None; call = None }
told_by _ m = record m { request = None }

-- a message of the present epoch
pub data TakesBody (server : ServerId) (old new : Doing) : Body → Type 0 where
  IsGone : (applied : AppliedGive) → GoesOn (learning_given applied old) new → TakesBody server old new (Gone applied)
  IsGrant : (grant : GrantOf) → answers_fetch grant old.tables.request ≡ true → (used : Doing)
      → UsesBring grant.bring (Some grant) (record old.tables { request = None }) old.draft used.tables used.draft
      → GoesOn used new → TakesBody server old new (Grant grant)
  IsDone : (done : DoneOf) → answers_change server done old.tables.request ≡ true → (used : Doing)
      → (brings_uses done.bring ≡ true → UsesBring done.bring None
      (told_by done.outcome old.tables) old.draft used.tables used.draft)
      → (brings_uses done.bring ≡ false → used ≡ doing (told_by done.outcome old.tables) old.draft)
      → GoesOn used new → TakesBody server old new (Done done)
  IsRevoke : (revoke : RevokeOf) (revoked : Doing) → Revokes revoke old.tables old.draft revoked.tables revoked.draft
      → IsSound revoked.tables.gives → GoesOn revoked new → TakesBody server old new (Revoke revoke)
  IsLateGrant : (grant : GrantOf) → answers_fetch grant old.tables.request ≡ false → new ≡ old
      → TakesBody server old new (Grant grant)
  IsLateDone : (done : DoneOf) → answers_change server done old.tables.request ≡ false → new ≡ old
      → TakesBody server old new (Done done)
  -- what no server says to a host changes nothing
  IsOther : (body : Body) → IsForOthers body → new ≡ old → TakesBody server old new body

-- a message that counts in the present epoch alone, of a fileset that hasn't moved
abbrev pub IsOfStay : Body → Type 0
IsOfStay Bye = ⊥
IsOfStay Restarted = ⊥
IsOfStay (Reclaimed reclaimed) = ⊥
IsOfStay _ = Unit {0}

-- any message
abbrev pub is_present : Message → Tables → Bool
is_present message m = ((site_at m.sites message.server).epoch == message.epoch) && (message.moves == 0)

abbrev pub IsHeard : Message → Tables → Type 0
IsHeard message m =
    ((site_at m.sites message.server).epoch ≡ 0) ⊎ ((site_at m.sites message.server).epoch ≡ message.epoch)

pub data Takes (message : Message) (old new : Doing) : Body → Type 0 where
  HasParted : new ≡ doing (parted_by message.server old.tables) old.draft → Takes message old new Bye
  HasRestarted : nat_lt (site_at old.tables.sites message.server).epoch message.epoch ≡ true
      → new ≡ restarting message.server message.epoch old → Takes message old new Restarted
  HadRestarted : nat_lt (site_at old.tables.sites message.server).epoch message.epoch ≡ false → new ≡ old
      → Takes message old new Restarted
  Hears : (reclaimed : ReclaimedOf) → IsHeard message old.tables → GoesOn (hearing message reclaimed old) new
      → Takes message old new (Reclaimed reclaimed)
  IsOld : (reclaimed : ReclaimedOf) → (IsHeard message old.tables → ⊥) → new ≡ old
      → Takes message old new (Reclaimed reclaimed)
  TakesIt : (body : Body) → IsOfStay body → is_present message old.tables ≡ true → TakesBody message.server old new body
      → Takes message old new body
  Passes : (body : Body) → IsOfStay body → is_present message old.tables ≡ false → new ≡ old
      → Takes message old new body

-- a message is taken, and each give-back that became outstanding is sent
pub record HearsMessage (message : Message) (m : Tables) (draft : Draft) (new : Tables) (after : Draft) : Type 0 where
  pub heard : Draft
  pub takes : Takes message (doing m draft) (doing new heard) message.body
  pub sends : after ≡ sending_due new heard
