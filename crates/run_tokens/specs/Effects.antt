-- What a doing of a server changes at once, and what a Revoke changes at a host.
use Rattle.std.specs.Prelude.{◌≡◌, ℕ, ◌<◌, List, ◌∷◌}
use Rattle.base_types.specs.declared.ids.HostId.{HostId}
use Rattle.base_types.specs.declared.ids.ServerId.{ServerId}
use Rattle.token_types.specs.declared.token.Token.{Token}
use Rattle.message_types.specs.declared.message.Body.{Body}
use Rattle.message_types.specs.declared.message.Body.TheVariants.{Grant, Revoke, Returned, Kept, GiveBack, Down}
use Rattle.message_types.specs.declared.telling.Grant.{Grant as GrantOf}
use Rattle.message_types.specs.declared.tokens.Revoke.{Revoke as RevokeOf}
use Rattle.message_types.specs.declared.tokens.Named.{Named}
use Rattle.message_types.specs.declared.giving.Give.{Give}
use Rattle.run_rules.specs.declared.applied.Written.{Written}
use Rattle.run_rules.specs.declared.step.Step.{Step}
use Rattle.run_rules.specs.Doings.{Doing, Granted, Here, IsApplied, IsLive, Pinned, Reserved, WasWritten, epoch}
use Rattle.run_rules.specs.Doings.Doing.{Admits, Reserves, Sent, Took, WritesDown}
use Rattle.run_rules.specs.Messages.{About}
use Rattle.run_rules.specs.Past.{In}
use Rattle.run_rules.specs.Tokens.{AboveFloor, IsUseKind, number_of}

-- the server takes this from a live host, of its epoch, and of the stay in which the fileset is here
abbrev pub takes : List Doing → HostId → ℕ → Body → List Doing
takes past host moves body = Took host (epoch past) moves body ∷ past

pub record Effects : Type 0 where
  -- what a Grant brings, and a claim that counts names, is granted
  pub brought : (v : ServerId) (past : List Doing) (h : HostId) (e n : ℕ) (g : GrantOf) (t : Token)
      → In t g.bring.tokens
      → Granted v (Sent h e n (Grant g) ∷ past) t
  pub claimed : (v : ServerId) (past : List Doing) (h : HostId) (ts : List Token) (t : Token) → In t ts → t.host ≡ h
      → Granted v (Admits h ts ∷ past) t
  -- what a Returned or a give-back names isn't granted any more, and the give-back is applied
  pub returned : (v : ServerId) (past : List Doing) (h : HostId) (n : ℕ) (w : Named) (t : Token)
      → Here v past w.fid.fileset n → IsLive past h → t.host ≡ h → In t.id w.ids
      → Granted v (takes past h n (Returned w)) t → ⊥
  pub given : (v : ServerId) (past : List Doing) (h : HostId) (n : ℕ) (g : Give) (t : Token)
      → Here v past g.fid.fileset n → IsLive past h → t.host ≡ h → In t.id g.ids
      → Granted v (takes past h n (GiveBack g)) t → ⊥
  pub applied : (v : ServerId) (past : List Doing) (h : HostId) (n : ℕ) (g : Give)
      → Here v past g.fid.fileset n → IsLive past h → IsApplied v (takes past h n (GiveBack g)) h (number_of g)
  -- a Kept pins the granted lock and open tokens that it names
  pub kept : (v : ServerId) (past : List Doing) (n : ℕ) (w : Named) (t : Token)
      → Here v past w.fid.fileset n → IsLive past t.host → In t.id w.ids → IsUseKind t.kind → Granted v past t
      → Pinned v (takes past t.host n (Kept w)) t
  -- nothing of a host that is down is granted
  pub down : (v : ServerId) (past : List Doing) (e n : ℕ) (t : Token) → Granted v (Took t.host e n Down ∷ past) t → ⊥
  -- what the exporter takes it keeps, and a Change that is written down counts
  pub reserved : (past : List Doing) (ts : List Token) (t : Token) → In t ts → Reserved (Reserves ts ∷ past) t
  pub written : (past : List Doing) (w : Written) → WasWritten (WritesDown w ∷ past) w.answer.host w.fileset w.number
  -- at a host, a Revoke raises the floor of its file
  pub floor : (past : List Step) (s : Step) (r : RevokeOf) (x : ℕ) → About past s r.fid.fileset (Revoke r)
      → AboveFloor (s ∷ past) r.fid x → r.stamp < x
