-- What a server may do with tokens: conditions on a doing, and on the server's own earlier doings.
use Rattle.std.specs.Prelude.{List, [], true, ℕ, ◌<◌, ◌≡◌, ◌⊎◌}
use Rattle.base_types.specs.declared.ids.HostId.{HostId}
use Rattle.base_types.specs.declared.ids.ServerId.{ServerId}
use Rattle.token_types.specs.Conflicts.{conflict}
use Rattle.token_types.specs.declared.token.Token.{Token}
use Rattle.token_types.specs.declared.token.TokenId.{TokenId}
use Rattle.message_types.specs.declared.asking.Change.{Change as ChangeOf}
use Rattle.message_types.specs.declared.asking.Fetch.{Fetch as FetchOf}
use Rattle.message_types.specs.declared.giving.AppliedGive.{AppliedGive}
use Rattle.message_types.specs.declared.giving.Give.{Give}
use Rattle.message_types.specs.declared.giving.Outstanding.{Outstanding}
use Rattle.message_types.specs.declared.giving.Reclaim.{Reclaim as ReclaimOf}
use Rattle.message_types.specs.declared.giving.Reclaimed.{Reclaimed as ReclaimedOf}
use Rattle.message_types.specs.declared.message.Body.{Body}
use Rattle.message_types.specs.declared.message.Body.TheVariants.{Change, Done, Fetch, GiveBack, Gone, Grant, Reclaim}
use Rattle.message_types.specs.declared.message.Body.TheVariants.{Reclaimed, Revoke}
use Rattle.message_types.specs.declared.telling.Bring.{Bring}
use Rattle.message_types.specs.declared.telling.Done.{Done as DoneOf}
use Rattle.message_types.specs.declared.telling.Grant.{Grant as GrantOf}
use Rattle.message_types.specs.declared.tokens.Revoke.{Revoke as RevokeOf}
use Rattle.run_rules.specs.Doings.{Doing, GivenUp, Granted, HasReclaimed, HasUsedStamp, Here, IsApplied, IsDurable}
use Rattle.run_rules.specs.Doings.{IsLive, Issued, NoGrace, Reserved, SentTo, StayStamp, TookNow, TookOf, admitting}
use Rattle.run_rules.specs.Doings.{after_admitting, after_cause, after_deciding, after_shipping, deciding, epoch}
use Rattle.run_rules.specs.Doings.{sending}
use Rattle.run_rules.specs.Doings.Doing.{Admits, Reserves, Sent, WritesDown}
use Rattle.run_rules.specs.Past.{EachInTurn, In}
use Rattle.run_rules.specs.declared.applied.Written.{Written}
use Rattle.run_rules.specs.declared.step.Step.{Step}

-- new tokens for a host, in a message with this number of moves
pub record MayBring (server : ServerId) (past : List Doing) (host : HostId) (moves : ℕ) (bring : Bring) : Type 0 where
  -- until the grace period ends no want is granted; the host is live
  pub over : NoGrace past
  pub live : IsLive past host
  -- the file's fileset is here, in this stay; the stamp is above 0 and all earlier ones of the file and the epoch
  pub home : Here server past bring.fid.fileset moves
  pub stamp : (0 < bring.stamp) × ((x : ℕ) → HasUsedStamp past bring.fid x → x < bring.stamp)
  -- the tokens are the host's, on the file
  pub host_is : (t : Token) → In t bring.tokens → t.host ≡ host
  pub file : (t : Token) → In t bring.tokens → t.fid ≡ bring.fid
  -- their numbers are new: of this server and epoch, with rising sequence numbers
  pub id : (t : Token) → In t bring.tokens → t.id.server ≡ server
  pub now : (t : Token) → In t bring.tokens → t.id.epoch ≡ epoch past
  pub new : (t u : Token) (k : StayStamp) → In t bring.tokens → Issued past u k → u.id.epoch ≡ epoch past
      → u.id.seq < t.id.seq
  pub apart : (t u : Token) → In t bring.tokens → In u bring.tokens → t.id ≡ u.id → t ≡ u
  -- no granted token of another host conflicts, nor one of the exporter
  pub free : (t u : Token) → In t bring.tokens → Granted server past u ⊎ Reserved past u → conflict t u ≡ true → ⊥

-- the host asked for what the Grant brings, in this epoch and stay
abbrev pub AskedFetch : List Doing → HostId → ℕ → GrantOf → Type 0
AskedFetch past host moves grant = (fetch : FetchOf) × TookNow past host moves (Fetch fetch)
    × (fetch.number ≡ grant.bring.number) × (fetch.fid ≡ grant.bring.fid)

-- the host asked for what the Done brings, in this epoch and stay
abbrev pub AskedChange : List Doing → HostId → ℕ → DoneOf → Type 0
AskedChange past host moves done = (change : ChangeOf) × TookNow past host moves (Change change)
    × (change.number ≡ done.bring.number) × (change.fileset ≡ done.fileset) × (done.fileset ≡ done.bring.fid.fileset)

-- the claim says of the token's fileset how often it has moved, and it is here in that stay
abbrev pub ClaimsHere : ServerId → List Doing → ReclaimOf → Token → Type 0
ClaimsHere server past claim token =
    (o : Outstanding) × In o claim.numbers × (o.fileset ≡ token.fid.fileset) × Here server past o.fileset o.moves

-- each give-back that the claim names as outstanding, of a fileset that is here in the stay that it names, was taken in
-- this epoch
abbrev pub HasTakenGives : ServerId → List Doing → HostId → ReclaimOf → Type 0
HasTakenGives server past host claim =
    (o : Outstanding) → In o claim.numbers → 0 < o.give → Here server past o.fileset o.moves
    → (g : Give) × TookOf server past host o.fileset (GiveBack g) × (g.fid.fileset ≡ o.fileset) × (g.number ≡ o.give)

-- a token of this number is granted
abbrev pub IsGrantedId : ServerId → List Doing → TokenId → Type 0
IsGrantedId server past id = (token : Token) × Granted server past token × (token.id ≡ id)

-- what becomes of a host's first claim of the epoch
pub record MayAdmit (server : ServerId) (past : List Doing) (host : HostId) (tokens : List Token) : Type 0 where
  pub first : HasReclaimed past host → ⊥
  pub live : IsLive past host
  pub claim : ReclaimOf
  pub moves : ℕ
  pub took : TookNow past host moves (Reclaim claim)
  -- it waited for the give-backs that it names
  pub waited : HasTakenGives server past host claim
  -- All its tokens are granted but these: those whose fileset isn't here in the stay that it names; those that a
  -- give-back or a Returned names that was taken in this epoch; and those whose number is granted already, or stands
  -- earlier in it.
  pub sound : (t : Token) → In t tokens → In t claim.tokens × (t.host ≡ host) × ClaimsHere server past claim t
      × (GivenUp server past host t.id → ⊥) × (IsGrantedId server past t.id → ⊥)
  pub whole : (t : Token) → In t claim.tokens → ClaimsHere server past claim t → (GivenUp server past host t.id → ⊥)
      → (IsGrantedId server past t.id → ⊥) → (u : Token) × In u tokens × (u.id ≡ t.id)
  pub apart : (t u : Token) → In t tokens → In u tokens → t.id ≡ u.id → t ≡ u

-- what the server may do next with tokens
pub record ServerTokens (server : ServerId) (past : List Doing) (a : Doing) : Type 0 where
  -- its messages carry its epoch
  pub epochs : (h : HostId) (e n : ℕ) (b : Body) → a ≡ Sent h e n b → e ≡ epoch past
  -- a Grant brings new tokens
  pub grants : (h : HostId) (e n : ℕ) (w : GrantOf) → a ≡ Sent h e n (Grant w)
      → MayBring server past h n w.bring × AskedFetch past h n w
  -- a Done brings none, or new ones, or it is a repeat and its tokens are granted still
  pub dones : (h : HostId) (e n : ℕ) (w : DoneOf) → a ≡ Sent h e n (Done w)
      → (w.bring.tokens ≡ []) ⊎ ((MayBring server past h n w.bring × AskedChange past h n w)
      ⊎ (SentTo past h e n (Done w) × ((t : Token) → In t w.bring.tokens → Granted server past t)))
  -- a Revoke is of one host and one file, and names granted tokens of these; its stamp is above all earlier ones of the
  -- file and the epoch
  pub revokes : (h : HostId) (e n : ℕ) (r : RevokeOf) (i : TokenId) → a ≡ Sent h e n (Revoke r) → In i r.ids
      → (t : Token) × Granted server past t × (t.id ≡ i) × (t.host ≡ h) × (t.fid ≡ r.fid)
  pub revokes_here : (h : HostId) (e n : ℕ) (r : RevokeOf) → a ≡ Sent h e n (Revoke r)
      → Here server past r.fid.fileset n
  pub stamps : (h : HostId) (e n x : ℕ) (r : RevokeOf) → a ≡ Sent h e n (Revoke r) → HasUsedStamp past r.fid x
      → x < r.stamp
  -- Gone and Reclaimed name give-backs that were applied; Reclaimed leaves out what the host has given up in this epoch
  pub gones : (h : HostId) (e n : ℕ) (g : AppliedGive) → a ≡ Sent h e n (Gone g)
      → Here server past g.fileset n × IsApplied server past h g
  pub reclaimed : (h : HostId) (e n : ℕ) (r : ReclaimedOf) (g : AppliedGive) → a ≡ Sent h e n (Reclaimed r)
      → In g r.applied → IsApplied server past h g
  pub left_out : (h : HostId) (e n : ℕ) (r : ReclaimedOf) (i : TokenId) → a ≡ Sent h e n (Reclaimed r) → In i r.left_out
      → GivenUp server past h i
  -- a claim counts as said above
  pub admits : (h : HostId) (tokens : List Token) → a ≡ Admits h tokens → MayAdmit server past h tokens
  -- A Change is written down once, and after no later one of its host and fileset, over all epochs; and in the epoch in
  -- which it was taken, so nothing decided stays unwritten over a restart.
  pub writes : (w : Written) → a ≡ WritesDown w → (c : ChangeOf) × (n : ℕ) × TookNow past w.answer.host n (Change c)
      × (c.fileset ≡ w.fileset) × (c.number ≡ w.number) × (c.k ≡ w.answer.k) × (c.call ≡ w.answer.call)
  pub writes_once : (w : Written) → a ≡ WritesDown w → IsDurable past w.answer.host w.fileset w.number → ⊥
  -- what the exporter keeps conflicts with no granted token, and is kept in no grace period
  pub reserves : (tokens : List Token) (t u : Token) → a ≡ Reserves tokens → In t tokens
      → NoGrace past × (Granted server past u → conflict t u ≡ true → ⊥)

-- what a server may do with tokens in a step: each of its doings, one after the other, after its earlier ones
pub record ServerStep (server : ServerId) (past : List Doing) (s : Step) : Type 0 where
  pub writes : EachInTurn (ServerTokens server) (deciding s.applied) (after_cause s.cause past)
  pub admits : EachInTurn (ServerTokens server) (admitting s.admitted) (after_deciding s past)
  pub sends : EachInTurn (ServerTokens server) (sending s.sent) (after_admitting s past)
  pub reserves : ServerTokens server (after_shipping s past) (Reserves s.reserved)
