-- What is answered to wants, so that it is sound, whatever a store tells.
use Rattle.std.specs.List.{list_all}
use Rattle.std.specs.Prelude.{◌≡◌, ◌⊎◌, ℕ, ◌==◌, nat_lt, Bool, true, ◌&&◌, List, Option, Some, None}
use Rattle.base_types.specs.Ids.{same_fid}
use Rattle.base_types.specs.declared.ids.Fid.{Fid}
use Rattle.base_types.specs.declared.ids.FilesetId.{FilesetId}
use Rattle.base_types.specs.declared.ids.HostId.{HostId}
use Rattle.base_types.specs.declared.ids.ServerId.{ServerId}
use Rattle.message_types.specs.declared.telling.DoneIs.{DoneIs}
use Rattle.message_types.specs.declared.telling.DoneIs.TheVariants.{Again, Known}
use Rattle.token_types.specs.declared.token.Kind.{Kind}
use Rattle.token_types.specs.declared.token.Kind.TheVariants.{Bytes, Lock}
use Rattle.token_types.specs.declared.token.Token.{Token}
use Rattle.server_tables.specs.Places.{is_of}
use Rattle.server_tables.specs.Sound.{AreSaid, AreSound, CanHear}
use Rattle.server_tables.specs.declared.pending.Pending.{Pending}
use Rattle.server_tables.specs.declared.tables.Tables.{Tables}
use Rattle.server_says.specs.Draft.{Draft}
use Rattle.server_decides.specs.Sending.{file_of, granted_tokens}
use Rattle.server_decides.specs.declared.sending.Sending.{Sending}
use Rattle.server_decides.specs.declared.sending.Sending.TheVariants.{Grant, Say, Use}

-- a Change is of filesets themselves, or of one that is here
abbrev pub IsOfHere : ServerId → FilesetId → Type 0
IsOfHere server fileset = (fileset.0 ≡ 0) ⊎ (is_of server fileset ≡ true)

-- what is answered to a Change that brings no token: that its call starts anew, or a fileset that is here
abbrev pub IsKnownHere : ServerId → DoneIs → Type 0
IsKnownHere server Again = Unit {0}
IsKnownHere server (Known fileset) = is_of server fileset ≡ true
IsKnownHere server _ = ⊥

-- what becomes of a want of a server may be said
abbrev pub IsSayable : ServerId → Sending → Type 0
IsSayable server (Grant fetch) = is_of server fetch.fid.fileset ≡ true
IsSayable server (Use fileset number) = IsOfHere server fileset
IsSayable server (Say fileset number outcome) = IsOfHere server fileset × IsKnownHere server outcome

-- a span isn't empty
abbrev pub has_room : Kind → Bool
has_room (Bytes update span) = nat_lt span.from span.to
has_room (Lock writing span) = nat_lt span.from span.to
has_room _ = true

-- a token of a host and a file that was granted by a server in an epoch
abbrev pub is_brought : ServerId → ℕ → HostId → Fid → Token → Bool
is_brought server epoch host fid token =
    ((((token.id.server.0 == server.0) && (token.id.epoch == epoch)) && (token.host.0 == host.0))
    && same_fid token.fid fid) && has_room token.kind

-- tokens that an answer may bring: those of one file that is here
abbrev pub are_brought : ServerId → ℕ → HostId → Fid → List Token → Bool
are_brought server epoch host fid tokens =
    is_of server fid.fileset && list_all (is_brought server epoch host fid) tokens

-- the file that was asked for, or that of the tokens
abbrev pub file_for : Option Fid → List Token → Fid
file_for (Some fid) tokens = fid
file_for None tokens = file_of tokens

-- the tokens that a want is granted may be brought
abbrev pub AreGranted : Tables → Pending → Option Fid → Type 0
AreGranted x p fid = let tokens = granted_tokens x.tokens p.number in
    are_brought x.server x.hosts.epoch p.wanted.host (file_for fid tokens) tokens ≡ true

-- a want may be answered so
pub record MaySay (x : Tables) (p : Pending) (sending : Sending) : Type 0 where
  pub sound : AreSound x
  pub hears : CanHear x.server x.roster p.wanted.host
  pub sayable : IsSayable x.server sending

-- What is said beside what was said before is sound, and so are the tables.
pub record SaysOn (x : Tables) (d : Draft) (y : Tables) (e : Draft) : Type 0 where
  pub server : y.server ≡ x.server
  pub roster : y.roster ≡ x.roster
  pub sound : AreSound y
  pub said : AreSaid x.server x.roster d.sent → AreSaid x.server x.roster e.sent
