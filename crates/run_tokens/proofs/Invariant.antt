-- What every run keeps.
use Rattle.message_types.specs.declared.message.Body.TheVariants.{Bye}
use Rattle.run_rules.specs.Doings.{Doing, Granted, HasGoneAway, HasReclaimed, HasUsedStamp, Here, IsApplied, IsLive}
use Rattle.run_rules.specs.Doings.{Issued, NoGrace, Reserved, SentTo, StayStamp, TookNow, TookOf, epoch}
use Rattle.run_rules.specs.Messages.{Asking, Changing, HasSaid, HasStopped, Said, epoch_at, home, stay_of}
use Rattle.run_rules.specs.Past.{In}
use Rattle.run_rules.specs.Tokens.{AboveFloor, EverHeld, Held, IsKnown, IsKnownNumber, Made, NamesGive, Owns}
use Rattle.run_rules.specs.Tokens.{number_of}
use Rattle.run_tokens.specs.TokenLaws.{HasLeftHost, HasReturnedToken, TookEver}
use Rattle.std.proofs.Common.{◌≡◌, ℕ, ◌<◌, ◌≤◌, ◌⊎◌, true, List}
use Rattle.base_types.specs.declared.ids.HostId.{HostId}
use Rattle.base_types.specs.declared.ids.ServerId.{ServerId}
use Rattle.base_types.specs.declared.ids.FilesetId.{FilesetId}
use Rattle.base_types.specs.declared.ids.Fid.{Fid}
use Rattle.token_types.specs.declared.token.TokenId.{TokenId}
use Rattle.token_types.specs.declared.token.Token.{Token}
use Rattle.token_types.specs.Conflicts.{conflict}
use Rattle.message_types.specs.declared.message.Body.{Body}
use Rattle.message_types.specs.declared.message.Body.TheVariants.{Grant, Done, Revoke, GiveBack, Gone, Reclaim, Reclaimed}
use Rattle.message_types.specs.declared.telling.Bring.{Bring}
use Rattle.message_types.specs.declared.telling.Grant.{Grant as GrantOf}
use Rattle.message_types.specs.declared.telling.Done.{Done as DoneOf}
use Rattle.message_types.specs.declared.tokens.Revoke.{Revoke as RevokeOf}
use Rattle.message_types.specs.declared.giving.Give.{Give}
use Rattle.message_types.specs.declared.giving.AppliedGive.{AppliedGive}
use Rattle.message_types.specs.declared.giving.Outstanding.{Outstanding}
use Rattle.message_types.specs.declared.giving.Reclaim.{Reclaim as ReclaimOf}
use Rattle.message_types.specs.declared.giving.Reclaimed.{Reclaimed as ReclaimedOf}
use Rattle.run_rules.specs.declared.step.Step.{Step}
use Rattle.run_tokens.specs.Unmoved.{StaysPut}
use Rattle.run_tokens.proofs.Owed.{Owed}

pub record IssuedBelow (S : List Doing) (h : HostId) (f : Fid) (e x : ℕ) (i : TokenId) : Type 0 where
  pub token : Token
  pub mark : StayStamp
  pub issued : Issued S token mark
  pub same : token.id ≡ i
  pub host : token.host ≡ h
  pub file : token.fid ≡ f
  pub below : token.id.epoch ≡ e → mark.stamp < x

pub record OwedId (v : ServerId) (S : List Doing) (h : HostId) (i : TokenId) : Type 0 where
  pub token : Token
  pub owed : Owed v S token
  pub same : token.id ≡ i
  pub host : token.host ≡ h

-- no message that brings the token under the mark is used any more
abbrev pub Passed : ServerId → List Step → Token → StayStamp → Type 0
Passed v now t k = t.id.epoch ≡ epoch_at now v → AboveFloor now t.fid k.stamp → ⊥

-- a token that a host owns
pub record Good (v : ServerId) (S : List Doing) (h : HostId) (A now : List Step) (t : Token) : Type 0 where
  pub mark : StayStamp
  pub issued : Issued S t mark
  pub host : t.host ≡ h
  pub passed : Passed v now t mark
  pub stays : HasLeftHost A t.id → ⊥
  pub owed : (HasGoneAway S h → ⊥) → Owed v S t

-- a token that left its host, or that a Revoke asked for
pub record Spent (v : ServerId) (S : List Doing) (h : HostId) (A : List Step) (i : TokenId) : Type 0 where
  pub token : Token
  pub mark : StayStamp
  pub issued : Issued S token mark
  pub same : token.id ≡ i
  pub host : token.host ≡ h
  pub passed : Passed v A token mark

-- what a message brought
pub record Brought (S : List Doing) (h : HostId) (e : ℕ) (w : Bring) (n : ℕ) (t : Token) : Type 0 where
  pub issued : Issued S t (record { moves = n; stamp = w.stamp })
  pub host : t.host ≡ h
  pub file : t.fid ≡ w.fid
  pub epoch_is : t.id.epoch ≡ e

-- of the server v alone, with the doings S
pub record Served (v : ServerId) (S : List Doing) : Type 0 where
  -- no fileset has moved
  pub put : StaysPut S
  pub unique : (t u : Token) (x y : StayStamp) → Issued S t x → Issued S u y → t.id ≡ u.id → (t ≡ u) × (x ≡ y)
  pub told : (t : Token) (x : StayStamp) → Issued S t x → t.id.epoch ≡ epoch S → HasUsedStamp S t.fid x.stamp
  pub id : (t : Token) (x : StayStamp) → Issued S t x → t.id.server ≡ v
  pub at : (t : Token) (x : StayStamp) → Issued S t x → Here v S t.fid.fileset x.moves
  pub issued_epoch : (t : Token) (x : StayStamp) → Issued S t x → t.id.epoch ≤ epoch S
  -- nothing is issued to a host in an epoch before it has reclaimed
  pub issued_now : (t : Token) (x : StayStamp) → Issued S t x → t.id.epoch ≡ epoch S → HasReclaimed S t.host
  pub owed_issued : (t : Token) → Owed v S t → (x : StayStamp) × Issued S t x
  pub owed_live : (t : Token) → Owed v S t → IsLive S t.host
  pub owed_granted : (t : Token) → Owed v S t → HasReclaimed S t.host → Granted v S t
  pub granted_reclaimed : (t : Token) → Granted v S t → HasReclaimed S t.host
  pub revokes : (h : HostId) (e n : ℕ) (r : RevokeOf) (i : TokenId) → SentTo S h e n (Revoke r) → In i r.ids → IssuedBelow S h r.fid e r.stamp i
  pub grants : (h : HostId) (e n : ℕ) (w : GrantOf) (t : Token) → SentTo S h e n (Grant w) → In t w.bring.tokens → Brought S h e w.bring n t
  pub dones : (h : HostId) (e n : ℕ) (w : DoneOf) (t : Token) → SentTo S h e n (Done w) → In t w.bring.tokens → Brought S h e w.bring n t
  pub gones : (h : HostId) (e n : ℕ) (g : AppliedGive) → SentTo S h e n (Gone g) → IsApplied v S h g
  pub reclaimed : (h : HostId) (e n : ℕ) (r : ReclaimedOf) (g : AppliedGive) → SentTo S h e n (Reclaimed r) → In g r.applied → IsApplied v S h g
  pub sent_epoch : (h : HostId) (e n : ℕ) (b : Body) → SentTo S h e n b → e ≤ epoch S
  pub apart : (t u : Token) → Owed v S t → Owed v S u → conflict t u ≡ true → ⊥
  -- what the exporter keeps is kept in no grace period, and conflicts with nothing owed
  pub reserved : (r : Token) → Reserved S r → NoGrace S × ((t : Token) → Owed v S t → conflict t r ≡ true → ⊥)

-- of a host alone, with the steps A
pub record Alone (A : List Step) : Type 0 where
  pub said_made : (g : Give) (v : ServerId) (e n : ℕ) → Said A v e n (GiveBack g) → Made A g × (stay_of A g.fid.fileset ≡ record { server = v; moves = n })
  pub said_epoch : (v : ServerId) (e n : ℕ) (b : Body) → Said A v e n b → e ≤ epoch_at A v
  pub said_first : (g k : Give) (v : ServerId) (e n : ℕ) → Said A v e n (GiveBack g) → Made A k → k.fid.fileset ≡ g.fid.fileset → k.number < g.number → IsKnown A k
  pub claim_ever : (v : ServerId) (e n : ℕ) (c : ReclaimOf) (t : Token) → Said A v e n (Reclaim c) → In t c.tokens → EverHeld A t × (t.id.server ≡ v)
  pub claim_numbers : (v : ServerId) (e n : ℕ) (c : ReclaimOf) (t : Token) → Said A v e n (Reclaim c) → In t c.tokens → (o : Outstanding) × In o c.numbers × (o.fileset ≡ t.fid.fileset)
  pub claim_moves : (v : ServerId) (e n : ℕ) (c : ReclaimOf) (o : Outstanding) → Said A v e n (Reclaim c) → In o c.numbers → o.moves ≡ (stay_of A o.fileset).moves
  pub numbers : (g k : Give) → Made A g → Made A k → g.fid.fileset ≡ k.fid.fileset → g.number ≡ k.number → g ≡ k
  pub from_one : (g : Give) → Made A g → 0 < g.number
  pub bye_asking : (v : ServerId) (fs : FilesetId) (n : ℕ) → HasSaid A v Bye → Asking A fs n → ⊥
  pub bye_changing : (v w : ServerId) (fs : FilesetId) (n : ℕ) → HasSaid A v Bye → Changing A w fs n → ⊥
  pub bye_held : (t : Token) (v : ServerId) → HasSaid A v Bye → Owns A t → ⊥
  pub owns : (t : Token) → Held A t → Owns A t
  pub holds : (HasStopped A → ⊥) → (t : Token) → Owns A t → Held A t

-- a claim of this epoch that hasn't counted yet
pub record Claiming (v : ServerId) (S : List Doing) (h : HostId) (A : List Step) (c : ReclaimOf) : Type 0 where
  pub epoch_is : ℕ
  pub moves : ℕ
  pub said : Said A v epoch_is moves (Reclaim c)
  pub now : epoch_is ≡ epoch S
  pub first : HasReclaimed S h → ⊥

-- of a host h with the steps A, and the server v with the doings S; tokens go by the server that issued them
pub record Link (h : HostId) (v : ServerId) (A : List Step) (S : List Doing) : Type 0 where
  pub behind : epoch_at A v ≤ epoch S
  pub asked : (t : Token) (x : StayStamp) → Issued S t x → t.host ≡ h → t.id.epoch ≤ epoch_at A v
  pub took : (n : ℕ) (b : Body) → TookNow S h n b → Said A v (epoch S) n b
  pub took_of : (fs : FilesetId) (b : Body) → TookOf v S h fs b → (n : ℕ) × Said A v (epoch S) n b
  pub took_ever : (fs : FilesetId) (b : Body) → TookEver v S h fs b → (e : ℕ) × (n : ℕ) × Said A v e n b
  pub known : (n : AppliedGive) → home n.fileset ≡ v → IsKnownNumber A n → IsApplied v S h n
  pub in_flight : (t : Token) (x : StayStamp) → Issued S t x → t.host ≡ h → t.id.epoch ≡ epoch_at A v → AboveFloor A t.fid x.stamp → (HasGoneAway S h → ⊥) → Owed v S t
  pub held : (t : Token) → t.id.server ≡ v → Owns A t → Good v S h A A t
  pub ever : (t : Token) → t.id.server ≡ v → EverHeld A t → (x : StayStamp) × Issued S t x × (t.host ≡ h)
  pub left : (i : TokenId) → i.server ≡ v → HasLeftHost A i → Spent v S h A i
  pub made_id : (g : Give) (i : TokenId) → Made A g → In i g.ids → i.server ≡ v → home g.fid.fileset ≡ v
  pub given : (g : Give) (i : TokenId) → i.server ≡ v → Made A g → In i g.ids → (IsApplied v S h (number_of g) → ⊥) → (HasGoneAway S h → ⊥) → OwedId v S h i
  pub returned : (i : TokenId) (g : Give) → i.server ≡ v → HasReturnedToken A i → Made A g → In i g.ids → IsApplied v S h (number_of g)
  pub made_once : (g k : Give) (i : TokenId) → i.server ≡ v → Made A g → Made A k → In i g.ids → In i k.ids → g ≡ k
  pub applied_made : (n : AppliedGive) → IsApplied v S h n → (g : Give) × Made A g × (g.fid.fileset ≡ n.fileset) × (n.number ≤ g.number)
  pub applied_taken : (g : Give) → Made A g → IsApplied v S h (number_of g) → TookEver v S h g.fid.fileset (GiveBack g)
  pub taken : (g : Give) (t : Token) → Made A g → In t.id g.ids → t.host ≡ h → IsApplied v S h (number_of g) → Granted v S t → ⊥
  -- it names what an applied give-back names only where it calls that one outstanding, or where that one was taken in this epoch
  pub claim_spent : (c : ReclaimOf) (g : Give) (t : Token) → Claiming v S h A c → In t c.tokens → Made A g → In t.id g.ids → IsApplied v S h (number_of g) → NamesGive c.numbers g ⊎ TookOf v S h g.fid.fileset (GiveBack g)
  -- a claim that hasn't counted yet names what is owned, and what is in a give-back that isn't applied
  pub claim_held : (c : ReclaimOf) (t : Token) → Claiming v S h A c → t.id.server ≡ v → Owns A t → In t c.tokens
  pub claim_given : (c : ReclaimOf) (g : Give) (i : TokenId) → Claiming v S h A c → i.server ≡ v → Made A g → In i g.ids → (IsApplied v S h (number_of g) → ⊥) → (t : Token) × In t c.tokens × (t.id ≡ i)
  -- what it names is owed, or a give-back names it that the claim calls outstanding
  pub claim_owed : (c : ReclaimOf) (t : Token) → Claiming v S h A c → (HasGoneAway S h → ⊥) → In t c.tokens → Owed v S t ⊎ ((g : Give) × Made A g × In t.id g.ids × NamesGive c.numbers g)
  pub granted_owed : (t : Token) → t.host ≡ h → Granted v S t → Owed v S t
  pub left_out : (e n : ℕ) (r : ReclaimedOf) (i : TokenId) → SentTo S h e n (Reclaimed r) → In i r.left_out → HasLeftHost A i
  pub away : HasGoneAway S h → HasStopped A ⊎ HasSaid A v Bye
