-- Replies.
use Rattle.std.specs.Prelude.{ℕ, ◌==◌, if◌then◌else◌, List, Ok}
use Rattle.tree_calls.specs.declared.reply.Facts.{Facts}
use Rattle.tree_calls.specs.declared.reply.Refusal.{Refusal}
use Rattle.tree_calls.specs.declared.reply.Refusal.TheVariants.{
  NoEntry,
  NotDir,
  IsDir,
  Exists,
  NotEmpty,
  Denied,
  TooBig,
  TooMany,
  NoRoom,
  ReadOnly,
  Locked,
  OpenConflict,
  InUse,
  Loop,
  NoFileset,
  CrossFileset,
  NotLocked,
  NotOpened,
  AlreadyLocked,
  AlreadyOpened,
  NotHome,
}
use Rattle.tree_calls.specs.declared.reply.Reply.{Reply}
use Rattle.tree_calls.specs.declared.reply.Reply.TheVariants.{
  Ok as ReplyOk,
  Bytes,
  Names,
  Facts as FactsOf,
  Access,
  Refused,
}
use Rattle.message_parts.specs.Spelled.{Spelled, ◌&◌, number, nothing}
use Rattle.message_parts.specs.Reading.{Reading, ◌>>=◌, number_at}
use Rattle.message_parts.specs.Words.{
  spell_u32,
  u32_at,
  spell_flag,
  flag_at,
  short,
  short_at,
  spell_name,
  name_at,
  spell_bytes,
  bytes_at,
}
use Rattle.message_parts.specs.Places.{spell_rights, rights_at}
use Rattle.message_parts.specs.Access.{spell_access, access_at}

unfoldable pub spell_facts : Facts → Spelled
spell_facts x = spell_flag x.dir & spell_u32 x.length & spell_name x.owner & spell_rights x.rights

unfoldable pub facts_at : List ℕ → Reading Facts
facts_at rest =
    flag_at rest >>= λ dir rest. u32_at rest >>= λ length rest. name_at rest >>= λ owner rest.
    rights_at rest >>= λ rights rest. Ok (record { dir = dir; length = length; owner = owner; rights = rights }, rest)

abbrev pub refusal_tag : Refusal → ℕ
refusal_tag NoEntry = 1
refusal_tag NotDir = 2
refusal_tag IsDir = 3
refusal_tag Exists = 4
refusal_tag NotEmpty = 5
refusal_tag (Denied rights) = 6
refusal_tag TooBig = 7
refusal_tag TooMany = 8
refusal_tag NoRoom = 9
refusal_tag ReadOnly = 10
refusal_tag Locked = 11
refusal_tag OpenConflict = 12
refusal_tag InUse = 13
refusal_tag Loop = 14
refusal_tag NoFileset = 15
refusal_tag CrossFileset = 16
refusal_tag NotLocked = 17
refusal_tag NotOpened = 18
refusal_tag AlreadyLocked = 19
refusal_tag AlreadyOpened = 20
refusal_tag NotHome = 21

unfoldable pub refusal_fields : Refusal → Spelled
refusal_fields NoEntry = nothing
refusal_fields NotDir = nothing
refusal_fields IsDir = nothing
refusal_fields Exists = nothing
refusal_fields NotEmpty = nothing
refusal_fields (Denied rights) = spell_rights rights
refusal_fields TooBig = nothing
refusal_fields TooMany = nothing
refusal_fields NoRoom = nothing
refusal_fields ReadOnly = nothing
refusal_fields Locked = nothing
refusal_fields OpenConflict = nothing
refusal_fields InUse = nothing
refusal_fields Loop = nothing
refusal_fields NoFileset = nothing
refusal_fields CrossFileset = nothing
refusal_fields NotLocked = nothing
refusal_fields NotOpened = nothing
refusal_fields AlreadyLocked = nothing
refusal_fields AlreadyOpened = nothing
refusal_fields NotHome = nothing

unfoldable pub refusal_denied_at : List ℕ → Reading Refusal
refusal_denied_at rest =
    rights_at rest >>= λ rights rest. Ok (Denied rights, rest)

unfoldable pub refusal_of : ℕ → List ℕ → Reading Refusal
refusal_of tag rest =
    if tag == 1 then Ok (NoEntry, rest)
    else if tag == 2 then Ok (NotDir, rest)
    else if tag == 3 then Ok (IsDir, rest)
    else if tag == 4 then Ok (Exists, rest)
    else if tag == 5 then Ok (NotEmpty, rest)
    else if tag == 6 then refusal_denied_at rest
    else if tag == 7 then Ok (TooBig, rest)
    else if tag == 8 then Ok (TooMany, rest)
    else if tag == 9 then Ok (NoRoom, rest)
    else if tag == 10 then Ok (ReadOnly, rest)
    else if tag == 11 then Ok (Locked, rest)
    else if tag == 12 then Ok (OpenConflict, rest)
    else if tag == 13 then Ok (InUse, rest)
    else if tag == 14 then Ok (Loop, rest)
    else if tag == 15 then Ok (NoFileset, rest)
    else if tag == 16 then Ok (CrossFileset, rest)
    else if tag == 17 then Ok (NotLocked, rest)
    else if tag == 18 then Ok (NotOpened, rest)
    else if tag == 19 then Ok (AlreadyLocked, rest)
    else if tag == 20 then Ok (AlreadyOpened, rest)
    else Ok (NotHome, rest)

unfoldable pub spell_refusal : Refusal → Spelled
spell_refusal x = number 1 1 21 (refusal_tag x) & refusal_fields x

unfoldable pub refusal_at : List ℕ → Reading Refusal
refusal_at rest = number_at 1 1 21 rest >>= λ tag rest. refusal_of tag rest

abbrev pub reply_tag : Reply → ℕ
reply_tag ReplyOk = 0
reply_tag (Bytes bytes) = 1
reply_tag (Names names) = 2
reply_tag (FactsOf facts) = 3
reply_tag (Access list) = 4
reply_tag (Refused refusal) = 5

unfoldable pub reply_fields : Reply → Spelled
reply_fields ReplyOk = nothing
reply_fields (Bytes bytes) = spell_bytes 4294967295 bytes
reply_fields (Names names) = short spell_name names
reply_fields (FactsOf facts) = spell_facts facts
reply_fields (Access list) = spell_access list
reply_fields (Refused refusal) = spell_refusal refusal

unfoldable pub reply_bytes_at : List ℕ → Reading Reply
reply_bytes_at rest =
    bytes_at 4294967295 rest >>= λ bytes rest. Ok (Bytes bytes, rest)

unfoldable pub reply_names_at : List ℕ → Reading Reply
reply_names_at rest =
    short_at name_at rest >>= λ names rest. Ok (Names names, rest)

unfoldable pub reply_facts_of_at : List ℕ → Reading Reply
reply_facts_of_at rest =
    facts_at rest >>= λ facts rest. Ok (FactsOf facts, rest)

unfoldable pub reply_access_at : List ℕ → Reading Reply
reply_access_at rest =
    access_at rest >>= λ list rest. Ok (Access list, rest)

unfoldable pub reply_refused_at : List ℕ → Reading Reply
reply_refused_at rest =
    refusal_at rest >>= λ refusal rest. Ok (Refused refusal, rest)

unfoldable pub reply_of : ℕ → List ℕ → Reading Reply
reply_of tag rest =
    if tag == 0 then Ok (ReplyOk, rest)
    else if tag == 1 then reply_bytes_at rest
    else if tag == 2 then reply_names_at rest
    else if tag == 3 then reply_facts_of_at rest
    else if tag == 4 then reply_access_at rest
    else reply_refused_at rest

unfoldable pub spell_reply : Reply → Spelled
spell_reply x = number 1 0 5 (reply_tag x) & reply_fields x

unfoldable pub reply_at : List ℕ → Reading Reply
reply_at rest = number_at 1 0 5 rest >>= λ tag rest. reply_of tag rest
