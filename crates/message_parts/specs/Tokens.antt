-- Files, tokens and needs.
use Rattle.std.specs.Prelude.{ℕ, ◌==◌, min, if◌then◌else◌, List, Ok}
use Rattle.std.proofs.Math.Nat.{min-le_right}
use Rattle.base_types.specs.declared.ids.Fid.{Fid}
use Rattle.base_types.specs.declared.ids.OpenKind.{OpenKind}
use Rattle.base_types.specs.declared.ids.OpenKind.TheVariants.{
  Reading as ForReading,
  Writing,
  Executing,
  Shared,
  Exclusive,
}
use Rattle.base_types.specs.declared.span.Span.{Span}
use Rattle.token_types.specs.declared.token.TokenId.{TokenId}
use Rattle.token_types.specs.declared.token.Kind.{Kind}
use Rattle.token_types.specs.declared.token.Kind.TheVariants.{Bytes, Status, Lock, Opening}
use Rattle.token_types.specs.declared.token.Token.{Token}
use Rattle.token_types.specs.declared.token.Need.{Need}
use Rattle.message_parts.specs.Spelled.{Spelled, ◌&◌, number}
use Rattle.message_parts.specs.Reading.{Reading, ◌>>=◌, number_at}
use Rattle.message_parts.specs.Words.{
  spell_u32,
  u32_at,
  spell_u64,
  u64_at,
  coded,
  coded_at,
  spell_flag,
  flag_at,
  spell_host,
  host_at,
  spell_server,
  server_at,
  spell_fileset,
  fileset_at,
}

unfoldable pub spell_fid : Fid → Spelled
spell_fid x = spell_fileset x.fileset & spell_u32 x.anode & spell_u32 x.unique

unfoldable pub fid_at : List ℕ → Reading Fid
fid_at rest =
    fileset_at rest >>= λ fileset rest. u32_at rest >>= λ anode rest. u32_at rest >>= λ unique rest.
    Ok (record { fileset = fileset; anode = anode; unique = unique }, rest)

unfoldable pub spell_id : TokenId → Spelled
spell_id x = spell_server x.server & spell_u64 x.epoch & spell_u64 x.seq

unfoldable pub id_at : List ℕ → Reading TokenId
id_at rest =
    server_at rest >>= λ server rest. u64_at rest >>= λ epoch rest. u64_at rest >>= λ seq rest.
    Ok (record { server = server; epoch = epoch; seq = seq }, rest)

-- the bytes from a position on and before another, none of them behind the last byte that a file can have
abbrev pub span_between : ℕ → ℕ → Span
span_between from to = record {
  from = min from (min to 65536);
  to = min to 65536;
  ordered = min-le_right from (min to 65536);
  within = min-le_right to 65536;
}

-- from 0 to 65,536, and from there on
unfoldable pub spell_span : Span → Spelled
spell_span span = number 4 0 65536 span.from & number 4 span.from 65536 span.to

unfoldable pub span_at : List ℕ → Reading Span
span_at rest =
    number_at 4 0 65536 rest >>= λ from rest. number_at 4 from 65536 rest >>= λ to rest. Ok (span_between from to, rest)

abbrev pub open_code : OpenKind → ℕ
open_code ForReading = 0
open_code Writing = 1
open_code Executing = 2
open_code Shared = 3
open_code Exclusive = 4

abbrev pub open_of : ℕ → OpenKind
open_of n =
    if n == 0 then ForReading
    else if n == 1 then Writing
    else if n == 2 then Executing
    else if n == 3 then Shared
    else Exclusive

abbrev pub spell_open : OpenKind → Spelled
spell_open = coded 0 4 open_code

abbrev pub open_at : List ℕ → Reading OpenKind
open_at = coded_at 0 4 open_of

abbrev pub kind_tag : Kind → ℕ
kind_tag (Bytes update span) = 1
kind_tag (Status update) = 2
kind_tag (Lock writing span) = 3
kind_tag (Opening how) = 4

unfoldable pub kind_fields : Kind → Spelled
kind_fields (Bytes update span) = spell_flag update & spell_span span
kind_fields (Status update) = spell_flag update
kind_fields (Lock writing span) = spell_flag writing & spell_span span
kind_fields (Opening how) = spell_open how

unfoldable pub kind_bytes_at : List ℕ → Reading Kind
kind_bytes_at rest =
    flag_at rest >>= λ update rest. span_at rest >>= λ span rest. Ok (Bytes update span, rest)

unfoldable pub kind_status_at : List ℕ → Reading Kind
kind_status_at rest =
    flag_at rest >>= λ update rest. Ok (Status update, rest)

unfoldable pub kind_lock_at : List ℕ → Reading Kind
kind_lock_at rest =
    flag_at rest >>= λ writing rest. span_at rest >>= λ span rest. Ok (Lock writing span, rest)

unfoldable pub kind_opening_at : List ℕ → Reading Kind
kind_opening_at rest =
    open_at rest >>= λ how rest. Ok (Opening how, rest)

unfoldable pub kind_of : ℕ → List ℕ → Reading Kind
kind_of tag rest =
    if tag == 1 then kind_bytes_at rest
    else if tag == 2 then kind_status_at rest
    else if tag == 3 then kind_lock_at rest
    else kind_opening_at rest

unfoldable pub spell_kind : Kind → Spelled
spell_kind x = number 1 1 4 (kind_tag x) & kind_fields x

unfoldable pub kind_at : List ℕ → Reading Kind
kind_at rest = number_at 1 1 4 rest >>= λ tag rest. kind_of tag rest

unfoldable pub spell_need : Need → Spelled
spell_need x = spell_fid x.fid & spell_kind x.kind

unfoldable pub need_at : List ℕ → Reading Need
need_at rest =
    fid_at rest >>= λ fid rest. kind_at rest >>= λ kind rest. Ok (record { fid = fid; kind = kind }, rest)

unfoldable pub spell_token : Token → Spelled
spell_token x = spell_id x.id & spell_host x.host & spell_fid x.fid & spell_kind x.kind

unfoldable pub token_at : List ℕ → Reading Token
token_at rest =
    id_at rest >>= λ id rest. host_at rest >>= λ host rest. fid_at rest >>= λ fid rest. kind_at rest >>= λ kind rest.
    Ok (record { id = id; host = host; fid = fid; kind = kind }, rest)
