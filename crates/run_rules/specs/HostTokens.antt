-- What a host may do with tokens and give-backs: conditions on a step, and on the host's own earlier steps.
use Rattle.std.specs.Prelude.{Bool, IsTrue, List, Some, [], length, suc, true, ℕ, ◌&&◌, ◌<◌, ◌∷◌, ◌≡◌, ◌≤◌, ◌⊎◌}
use Rattle.base_types.specs.Ids.{same_fid}
use Rattle.base_types.specs.Spans.{overlap}
use Rattle.base_types.specs.declared.ids.Fid.{Fid}
use Rattle.base_types.specs.declared.ids.FilesetId.{FilesetId}
use Rattle.base_types.specs.declared.ids.HostId.{HostId}
use Rattle.base_types.specs.declared.ids.ServerId.{ServerId}
use Rattle.tree_calls.specs.declared.call.Call.TheVariants.{Sync}
use Rattle.tree_calls.specs.declared.place.Place.{Place}
use Rattle.tree_calls.specs.declared.roster.Roster.{Roster}
use Rattle.tree_laws.specs.Parts.Part.{ByteAt, Size}
use Rattle.token_types.specs.Covers.{does_for, kind_covers}
use Rattle.token_types.specs.declared.token.Kind.{Kind}
use Rattle.token_types.specs.declared.token.Kind.TheVariants.{Bytes}
use Rattle.token_types.specs.declared.token.Need.{Need}
use Rattle.token_types.specs.declared.token.Token.{Token}
use Rattle.token_types.specs.declared.token.TokenId.{TokenId}
use Rattle.message_types.specs.Soundness.{PiecesRise}
use Rattle.message_types.specs.declared.asking.Change.{Change as ChangeOf}
use Rattle.message_types.specs.declared.asking.Fetch.{Fetch as FetchOf}
use Rattle.message_types.specs.declared.giving.Ends.{Ends}
use Rattle.message_types.specs.declared.giving.Give.{Give}
use Rattle.message_types.specs.declared.giving.Outstanding.{Outstanding}
use Rattle.message_types.specs.declared.giving.Reclaim.{Reclaim as ReclaimOf}
use Rattle.message_types.specs.declared.message.Body.{Body}
use Rattle.message_types.specs.declared.message.Body.TheVariants.{Bye, Change, Down, Fetch, GiveBack, Kept, Reclaim}
use Rattle.message_types.specs.declared.message.Body.TheVariants.{Returned, Revoke}
use Rattle.message_types.specs.declared.telling.Bring.{Bring}
use Rattle.message_types.specs.declared.tokens.Named.{Named}
use Rattle.message_types.specs.declared.tokens.Revoke.{Revoke as RevokeOf}
use Rattle.run_rules.specs.Messages.{About, Asking, Changing, HasSaid, HasStopped, IsDecidedAt, KeepsToken}
use Rattle.run_rules.specs.Messages.{ReturnsToken, Sends, SendsTo, StaysAt, Stops, epoch_at, stay_of}
use Rattle.run_rules.specs.Past.{EachOnce, In, Since}
use Rattle.run_rules.specs.Tokens.{AtHand, Drops, EverHeld, FreesPinned, GivesUse, HasCall, Held, HoldsId, IsKnown}
use Rattle.run_rules.specs.Tokens.{IsOpen, IsOutstanding, LabelInUse, LeavesHost, Made, NamesGive, NoneOpen, NoneUsed}
use Rattle.run_rules.specs.Tokens.{Owns, TokenInUse, Uses, WaitsBehind, end_of, number_of}
use Rattle.run_rules.specs.Views.{ByteIsDirty, FindsFile, IsDirtyUnder, LengthIsDirty, Stance, UpdatesByte, byte_of}
use Rattle.run_rules.specs.Views.{is_dirty, needs_in, sees}
use Rattle.run_rules.specs.declared.applied.Answer.{Answer}
use Rattle.run_rules.specs.declared.applied.Leave.{Leave}
use Rattle.run_rules.specs.declared.applied.Why.{Why}
use Rattle.run_rules.specs.declared.applied.Why.TheVariants.{Ended, Evicted, ForCall, Revoked, Stopped}
use Rattle.run_rules.specs.declared.step.Cause.TheVariants.{End, Evict}
use Rattle.run_rules.specs.declared.step.Labelled.{Labelled}
use Rattle.run_rules.specs.declared.step.Step.{Step}

-- # Tokens: what may be taken, claimed and given back

-- what a Reclaim may name: tokens that the server issued, in epochs before the host's present one
abbrev pub IsClaimable : List Step → ServerId → TokenId → Type 0
IsClaimable past server id = (id.server ≡ server) × (id.epoch < epoch_at past server)

-- the token is in a give-back that isn't known as applied, and that the claim names as outstanding, or that waits
abbrev pub IsInGive : List Step → ReclaimOf → Token → Type 0
IsInGive past claim token = (give : Give) × Made past give × (give.fid ≡ token.fid) × In token.id give.ids
    × (NamesGive claim.numbers give ⊎ WaitsBehind past give)

-- A Reclaim to a server is the claim of the moment in which it is sent.
pub record Claims (past : List Step) (server : ServerId) (claim : ReclaimOf) : Type 0 where
  -- it names the tokens of that server, and of earlier epochs, that the host holds
  pub held : (t : Token) → Held past t → IsClaimable past server t.id → In t claim.tokens
  -- and those of all give-backs that aren't known as applied
  pub given : (g : Give) (i : TokenId) → Made past g → In i g.ids → IsClaimable past server i → (IsKnown past g → ⊥)
      → (t : Token) × In t claim.tokens × (t.id ≡ i)
  -- and no others
  pub only : (t : Token) → In t claim.tokens
      → EverHeld past t × IsClaimable past server t.id × (Held past t ⊎ IsInGive past claim t)
  -- it says of each of their filesets how often it has moved, and which give-back and which Change are outstanding:
  -- their numbers, 0 for none
  pub numbers : (t : Token) → In t claim.tokens → (o : Outstanding) × In o claim.numbers × (o.fileset ≡ t.fid.fileset)
  pub moves : (o : Outstanding) → In o claim.numbers → o.moves ≡ (stay_of past o.fileset).moves
  pub gives : (o : Outstanding) → In o claim.numbers → 0 < o.give
      → (g : Give) × IsOutstanding past g × (number_of g ≡ record { fileset = o.fileset; number = o.give })
  pub gives_all : (o : Outstanding) (g : Give) → In o claim.numbers → IsOutstanding past g → g.fid.fileset ≡ o.fileset
      → o.give ≡ g.number
  pub changes : (o : Outstanding) → In o claim.numbers → 0 < o.change → Changing past server o.fileset o.change
  pub changes_all : (o : Outstanding) (n : ℕ) → In o claim.numbers → Changing past server o.fileset n → o.change ≡ n

-- what a host may do with tokens in a step
pub record HostTokens (past : List Step) (s : Step) : Type 0 where
  -- its stop was its last step, and says Down and nothing else
  pub live : HasStopped past → ⊥
  pub stops_alone : (v : ServerId) (e n : ℕ) (b : Body) → Stops s → Sends s v e n b → b ≡ Down
  -- its messages carry its present epoch
  pub epochs : (v : ServerId) (e n : ℕ) (b : Body) → Sends s v e n b → e ≡ epoch_at (s ∷ past) v
  -- it takes tokens of the Grant or Done that it uses, and none whose number it holds
  pub takes : (t : Token) → In t s.taken
      → (w : Bring) × Uses past s w × In t w.tokens × (t.fid ≡ w.fid) × (HoldsId past t.id → ⊥)
  -- what its Returneds and give-backs name leaves it; nothing else does but by its stop
  pub drops : (t : Token) → AtHand s past t → LeavesHost s t.id → Drops s t
  pub drops_only : (t : Token) → Drops s t → LeavesHost s t.id ⊎ Stops s
  -- a Returned names tokens that it had, or that a Revoke names
  pub returns : (i : TokenId) → ReturnsToken s i → ((t : Token) × AtHand s past t × (t.id ≡ i))
      ⊎ ((r : RevokeOf) × About past s r.fid.fileset (Revoke r) × In i r.ids)
  -- and none that is named in a give-back that isn't known as applied
  pub returns_free : (i : TokenId) (g : Give) → ReturnsToken s i → Made (s ∷ past) g → In i g.ids → IsKnown (s ∷ past) g
  -- a Returned and a Kept go to where their file's fileset is, and of what it had they name tokens of that file alone
  pub answers : (w : Named) (v : ServerId) (e n : ℕ) → Sends s v e n (Returned w) ⊎ Sends s v e n (Kept w)
      → StaysAt (s ∷ past) w.fid.fileset v n
  pub answers_file : (w : Named) (v : ServerId) (e n : ℕ) (t : Token)
      → Sends s v e n (Returned w) ⊎ Sends s v e n (Kept w) → AtHand s past t → In t.id w.ids → t.fid ≡ w.fid
  -- a give-back names tokens of its file that it had, and no token stands in two
  pub makes : (g : Give) (i : TokenId) → In g s.made → In i g.ids
      → (t : Token) × AtHand s past t × (t.id ≡ i) × (t.fid ≡ g.fid)
  pub makes_once : (g k : Give) (i : TokenId) → In g s.made → In k s.made → In i g.ids → In i k.ids → g ≡ k
  -- give-backs are numbered per fileset, from 1, and no number comes twice
  pub makes_from : (g : Give) → In g s.made → 0 < g.number
  pub makes_apart : (g k : Give) → In g s.made → In k s.made → number_of g ≡ number_of k → g ≡ k
  pub makes_new : (g k : Give) → In g s.made → Made past k → k.fid.fileset ≡ g.fid.fileset → k.number < g.number
  -- a give-back that is sent was made, goes to where its fileset is, and follows none that isn't known as applied
  pub gives : (g : Give) (v : ServerId) (e n : ℕ) → Sends s v e n (GiveBack g)
      → Made (s ∷ past) g × StaysAt (s ∷ past) g.fid.fileset v n
  pub gives_first : (g k : Give) (v : ServerId) (e n : ℕ) → Sends s v e n (GiveBack g)
      → Made (s ∷ past) k → k.fid.fileset ≡ g.fid.fileset → k.number < g.number → IsKnown (s ∷ past) k
  -- what it asks goes to where its fileset is; under fileset 0 it has no moves; and after its Bye it asks for nothing
  pub fetches : (f : FetchOf) (v : ServerId) (e n : ℕ) → Sends s v e n (Fetch f)
      → StaysAt (s ∷ past) f.fid.fileset v n × ((w : ServerId) → HasSaid past w Bye → ⊥)
  pub changes : (c : ChangeOf) (v : ServerId) (e n : ℕ) → Sends s v e n (Change c)
      → IsDecidedAt (s ∷ past) c.fileset v n × ((w : ServerId) → HasSaid past w Bye → ⊥)
  -- a Reclaim is the claim of the moment
  pub claims : (v : ServerId) (e n : ℕ) (claim : ReclaimOf) → Sends s v e n (Reclaim claim) → Claims (s ∷ past) v claim
  -- with its Bye it owns nothing, asks for nothing, and each give-back is known as applied: at any server
  pub bye_held : (v : ServerId) (e n : ℕ) (t : Token) → Sends s v e n Bye → Owns (s ∷ past) t → ⊥
  pub bye_gives : (v : ServerId) (e n : ℕ) (g : Give) → Sends s v e n Bye → Made (s ∷ past) g → IsKnown (s ∷ past) g
  pub bye_asking : (v : ServerId) (e n : ℕ) (fs : FilesetId) (k : ℕ) → Sends s v e n Bye → Asking (s ∷ past) fs k → ⊥
  pub bye_changing : (v w : ServerId) (e n : ℕ) (fs : FilesetId) (k : ℕ) → Sends s v e n Bye
      → Changing (s ∷ past) w fs k → ⊥

-- # Which tokens are taken: of the Grant or Done that is used, all whose numbers aren't held

pub record HostTakes (past : List Step) (s : Step) : Type 0 where
  pub all : (w : Bring) (t : Token) → Uses past s w → In t w.tokens → (HoldsId past t.id → ⊥)
      → (u : Token) × In u s.taken × (u.id ≡ t.id)
  -- of several with one number one
  pub once : (t u : Token) → In t s.taken → In u s.taken → t.id ≡ u.id → t ≡ u

-- # Why tokens leave

-- whether a token of one kind covers a need of another kind, or helps to cover it
abbrev pub helps : Kind → Kind → Bool
helps (Bytes update span) (Bytes needed other) = does_for update needed && overlap span other
helps kind needed = kind_covers kind needed

abbrev pub helps_cover : Token → Need → Bool
helps_cover token need = same_fid token.fid need.fid && helps token.kind need.kind

-- the step uses the token: it takes it, or the token covers or helps to cover a need of a call that it answers
abbrev pub UsesToken : Roster → HostId → List Step → Step → Token → Type 0
UsesToken roster host past s token =
    In token s.taken
    ⊎ ((stance : Stance roster host past s) × (a : Answer) × (need : Need)
    × In a s.answers × In need (needs_in stance a.call) × IsTrue (helps_cover token need))

-- the token was last used when the host had made so many steps
abbrev pub LastUsed : Roster → HostId → List Step → Token → ℕ → Type 0
LastUsed roster host past token n = Since (λ before s. UsesToken roster host before s token × (n ≡ suc (length before)))
    (λ before s. UsesToken roster host before s token) past

-- the token is held and isn't in use
abbrev pub IsUnused : List Step → Token → Type 0
IsUnused past token = Held past token × (TokenInUse past token.id → ⊥)

-- there are so many unused tokens, or more
abbrev pub HasUnused : List Step → ℕ → Type 0
HasUnused past n =
    (tokens : List Token) × EachOnce tokens × (length tokens ≡ n) × ((t : Token) → In t tokens → IsUnused past t)

-- the host may evict: no call is open, and it holds more tokens that aren't in use than its limit
abbrev pub MayEvict : List Step → ℕ → Type 0
MayEvict past limit = NoneOpen past × HasUnused past (suc limit)

-- of the tokens that are held and not in use none was last used earlier
abbrev pub IsOldest : Roster → HostId → List Step → Token → Type 0
IsOldest roster host past t =
    (u : Token) (n m : ℕ) → IsUnused past u → LastUsed roster host past t n → LastUsed roster host past u m → n ≤ m

-- why a token may leave
abbrev pub MayLeave : Roster → HostId → ℕ → List Step → Step → Why → Token → Type 0
-- a Revoke names it, and it isn't in use
MayLeave roster host limit past s Revoked t =
    ((r : RevokeOf) × About past s r.fid.fileset (Revoke r) × In t.id r.ids) × (TokenInUse past t.id → ⊥)
-- the host caches too many, and this one is the oldest
MayLeave roster host limit past s Evicted t =
    (s.cause ≡ Evict) × MayEvict past limit × IsUnused past t × IsOldest roster host past t
-- a Sync has to give back what is dirty under it, or the end of the open call is the last use of it, which is pinned
MayLeave roster host limit past s ForCall t =
    ((k : ℕ) × (place : Place) × (stance : Stance roster host past s) × HasCall past s k (Sync place)
    × FindsFile stance place t.fid × IsDirtyUnder past s t)
    ⊎ ((k : ℕ) × (u : Labelled) × HasCall past s k (end_of u) × FreesPinned past u × (u.token ≡ t))
-- the host ends, and has no label in use
MayLeave roster host limit past s Ended t = (s.cause ≡ End) × NoneUsed past
-- it stops
MayLeave roster host limit past s Stopped t = Stops s

pub record HostLeaves (roster : Roster) (host : HostId) (limit : ℕ) (past : List Step) (s : Step) : Type 0 where
  -- a token leaves with cause
  pub leaves : (l : Leave) → In l s.dropped → MayLeave roster host limit past s l.why l.token

-- # What is given back, and how a Revoke is answered

-- a token for update over the byte is left after the step
abbrev pub OwnsUpdate : List Step → Fid → ℕ → Type 0
OwnsUpdate past fid at = (token : Token) × Owns past token × UpdatesByte token fid at

-- the give-back is of the file, and has the byte
abbrev pub GivesByte : Give → Fid → ℕ → Type 0
GivesByte give fid at = (give.fid ≡ fid) × ((x : ℕ) × (byte_of give.pieces at ≡ Some x))

-- a token of the file for update of the status is at hand, and dirty
abbrev pub DirtyLength : List Step → Step → Fid → Type 0
DirtyLength past s fid = (token : Token) × AtHand s past token × (token.fid ≡ fid) × LengthIsDirty past s token

pub record HostGives (past : List Step) (s : Step) : Type 0 where
  -- a give-back names a token, and its pieces rise and don't overlap
  pub names : (g : Give) → In g s.made → g.ids ≡ [] → ⊥
  pub rise : (g : Give) → In g s.made → PiecesRise g.pieces
  -- a step makes one give-back a file; they are numbered one by one
  pub one_a_file : (g k : Give) → In g s.made → In k s.made → g.fid ≡ k.fid → g ≡ k
  pub next : (g : Give) → In g s.made
      → (g.number ≡ 1) ⊎ ((k : Give) × Made (s ∷ past) k × (k.fid.fileset ≡ g.fid.fileset) × (suc k.number ≡ g.number))
  -- it has dirty bytes as the host sees them, each under a token that it names and under none that is left
  pub bytes : (g : Give) (at x : ℕ) → In g s.made → byte_of g.pieces at ≡ Some x
      → ((t : Token) × AtHand s past t × In t.id g.ids × (t.fid ≡ g.fid) × ByteIsDirty past t at)
      × (sees past s g.fid (ByteAt at) ≡ x) × (OwnsUpdate (s ∷ past) g.fid at → ⊥)
  -- a dirty byte stays under a token for update, or a give-back has it
  pub bytes_saved : (fid : Fid) (at : ℕ) → is_dirty past fid at ≡ true → OwnsUpdate past fid at
      → OwnsUpdate (s ∷ past) fid at ⊎ ((g : Give) × In g s.made × GivesByte g fid at)
  -- it has the length as the host sees it exactly where that is dirty
  pub length : (g : Give) (n : ℕ) → In g s.made → g.length ≡ Some n
      → DirtyLength past s g.fid × (sees past s g.fid Size ≡ n)
  pub length_too : (g : Give) → In g s.made → DirtyLength past s g.fid → g.length ≡ Some (sees past s g.fid Size)
  -- a dirty length stays under its token, or leaves in the give-back that names the token
  pub length_saved : (t : Token) → Owns past t → LengthIsDirty past s t → Owns (s ∷ past) t
      ⊎ ((g : Give) × In g s.made × (g.fid ≡ t.fid) × (g.length ≡ Some (sees past s t.fid Size)) × In t.id g.ids)
  -- a give-back of a token in use ends its last use, for the open call
  pub ends : (g : Give) (ends : Ends) → In g s.made → g.ends ≡ Some ends
      → ((u : Labelled) × FreesPinned past u × (ends.call ≡ end_of u) × In u.token.id g.ids)
      × IsOpen (s ∷ past) (record { k = ends.k; call = ends.call })
  pub ends_used : (g : Give) (u : Labelled) → In g s.made → LabelInUse past u → In u.token.id g.ids → GivesUse g u
  -- what becomes outstanding is sent in the step
  pub sends : (g : Give) → IsOutstanding (s ∷ past) g → (IsOutstanding past g → ⊥) → (HasStopped (s ∷ past) → ⊥)
      → SendsTo s (stay_of (s ∷ past) g.fid.fileset) (GiveBack g)

pub record HostRevoked (past : List Step) (s : Step) : Type 0 where
  -- Kept answers a Revoke, and names held tokens in use
  pub keeps : (i : TokenId) → KeepsToken s i → HoldsId (s ∷ past) i × TokenInUse (s ∷ past) i
      × ((r : RevokeOf) × About past s r.fid.fileset (Revoke r) × In i r.ids)
  -- no Returned names a token in use
  pub returns_idle : (i : TokenId) → ReturnsToken s i → TokenInUse past i → ⊥
