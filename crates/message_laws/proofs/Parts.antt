-- The parts of a sound message of a program fit.
use Rattle.std.proofs.Common.{
  ◌≡◌,
  ◌≤◌,
  ◌+◌,
  ℕ,
  Bool,
  true,
  false,
  ◌&&◌,
  List,
  [],
  ◌∷◌,
  length,
  refl,
  sym,
  ◌∙◌,
  ap,
  arith,
}
use Rattle.std.specs.Prelude.{not, nat_le, sum_by, ◌||◌}
use Rattle.std.specs.List.{list_any}
use Rattle.std.proofs.lemmas.Bool.{and_parts, le-leb, leb-true, lt-ltb, eq-eqb}
use Rattle.std.proofs.lemmas.List.Sums.{sum_by-cons}
use Rattle.base_types.specs.Name.{is_separator}
use Rattle.base_types.specs.declared.access.AccessEntry.{AccessEntry}
use Rattle.base_types.specs.declared.access.Who.{Who}
use Rattle.base_types.specs.declared.access.Who.TheVariants.{UserObj, User, GroupObj, Group, OtherObj, MaskObj}
use Rattle.base_types.specs.declared.ids.Fid.{Fid}
use Rattle.base_types.specs.declared.ids.FilesetId.{FilesetId}
use Rattle.base_types.specs.declared.ids.HostId.{HostId}
use Rattle.base_types.specs.declared.ids.ServerId.{ServerId}
use Rattle.base_types.specs.declared.ids.OpenKind.{OpenKind}
use Rattle.base_types.specs.declared.ids.OpenKind.TheVariants.{Reading, Writing, Executing, Shared, Exclusive}
use Rattle.base_types.specs.declared.span.Span.{Span}
use Rattle.base_types.specs.declared.user.User.{User as UserOf}
use Rattle.tree_calls.specs.declared.part.DirEntry.{DirEntry}
use Rattle.tree_calls.specs.declared.part.Piece.{Piece}
use Rattle.tree_calls.specs.declared.part.Status.{Status as StatusOf}
use Rattle.tree_calls.specs.declared.place.Place.{Place}
use Rattle.tree_calls.specs.declared.ship.Record.{Record}
use Rattle.token_types.specs.declared.token.Kind.{Kind}
use Rattle.token_types.specs.declared.token.Kind.TheVariants.{Bytes, Status, Lock, Opening}
use Rattle.token_types.specs.declared.token.Need.{Need}
use Rattle.token_types.specs.declared.token.Token.{Token}
use Rattle.token_types.specs.declared.token.TokenId.{TokenId}
use Rattle.message_types.specs.Soundness.{Each, IsShort, AreFileBytes, IsKept}
use Rattle.message_types.specs.declared.giving.AppliedGive.{AppliedGive}
use Rattle.message_types.specs.declared.giving.Outstanding.{Outstanding}
use Rattle.message_parts.specs.Spelled.{number, items, one_byte}
use Rattle.message_parts.specs.Words.{
  coded,
  spell_u8,
  spell_u32,
  spell_u64,
  spell_host,
  spell_server,
  spell_fileset,
  spell_name,
  spell_bytes,
  is_plain,
  any_byte,
}
use Rattle.message_parts.specs.Tokens.{
  spell_fid,
  spell_id,
  spell_span,
  spell_open,
  kind_tag,
  kind_fields,
  spell_kind,
  spell_need,
  spell_token,
}
use Rattle.message_parts.specs.Places.{spell_place, spell_user, spell_rights}
use Rattle.message_parts.specs.Access.{who_tag, spell_who_name, spell_access_entry, spell_access}
use Rattle.message_parts.specs.Objects.{
  spell_piece_in,
  spell_piece,
  bytes_in,
  spell_pieces,
  spell_entry,
  list_count,
  spell_lists,
  spell_status,
}
use Rattle.message_parts.specs.Requests.{spell_outstanding, spell_applied, spell_record}
use Rattle.message_parts.proofs.Access.{list_parts, missing_left}
use Rattle.message_laws.specs.Typed.{
  IsU8,
  IsU32,
  IsU64,
  IsRights,
  IsName,
  TypedWho,
  IsAccess,
  TypedFid,
  TypedId,
  TypedToken,
  TypedNeed,
  TypedPlace,
  TypedPiece,
  TypedEntry,
  TypedStatus,
  TypedRecord,
  TypedApplied,
  TypedOutstanding,
}
use Rattle.message_laws.proofs.Fits.{both, number_in, flag_in, each_both, items_in, short_in}

-- a server that can be declared
abbrev pub InRange : ServerId → Type 0
InRange server = (1 ≤ server.0) × (server.0 ≤ 4)

pub u8_in : (n : ℕ) → IsU8 n → (spell_u8 n).fits ≡ true
unfolding spell_u8
u8_in n h = number_in 1 0 255 n (omega arith) (omega (arith, h))

pub u32_in : (n : ℕ) → IsU32 n → (spell_u32 n).fits ≡ true
unfolding spell_u32
u32_in n h = number_in 4 0 4294967295 n (omega arith) (omega (arith, h))

pub u64_in : (n : ℕ) → IsU64 n → (spell_u64 n).fits ≡ true
unfolding spell_u64
u64_in n h = number_in 8 0 18446744073709551615 n (omega arith) (omega (arith, h))

pub rights_in : (n : ℕ) → IsRights n → (spell_rights n).fits ≡ true
rights_in n h = number_in 1 0 63 n (omega arith) (omega (arith, h))

pub host_in : (h : HostId) → h.0 ≤ 16 → (spell_host h).fits ≡ true
unfolding coded
host_in h few = number_in 1 0 17 h.0 (omega arith) (omega (arith, few))

pub server_in : (s : ServerId) → InRange s → (spell_server s).fits ≡ true
unfolding coded
server_in s h = number_in 1 1 4 s.0 h.0 h.1

pub fileset_in : (x : FilesetId) → IsU32 x.0 → (spell_fileset x).fits ≡ true
unfolding spell_fileset
fileset_in x h = u32_in x.0 h

pub fid_in : (x : Fid) → TypedFid x → (spell_fid x).fits ≡ true
unfolding spell_fid
fid_in x h = both (fileset_in x.fileset h.0) (both (u32_in x.anode h.1) (u32_in x.unique h.2))

byte_in : (test : ℕ → Bool) (b : ℕ) → test b ≡ true → IsU8 b → (one_byte test b).fits ≡ true
byte_in test b t h = both (lt-ltb b 256 (omega (arith, h))) t

pub bytes_fit : (most : ℕ) (bytes : List ℕ) → length bytes ≤ most → Each IsU8 bytes
    → (spell_bytes most bytes).fits ≡ true
unfolding spell_bytes
bytes_fit most bytes few h =
    both (number_in 4 0 most (length bytes) (omega arith) few)
    (items_in IsU8 (one_byte any_byte) (λ b t. byte_in any_byte b refl t) bytes h)

neither : (a b : Bool) → not (a || b) ≡ true → (not a ≡ true) × (not b ≡ true)
neither true b e = absurd (cc)
neither false b e = (refl, e)

plain_in : (name : List ℕ) → not (list_any is_separator name) ≡ true → Each IsU8 name
    → (items (one_byte is_plain) name).fits ≡ true
unfolding items
plain_in [] e h = refl
plain_in (b ∷ name) e h =
    let p = neither (is_separator b) (list_any is_separator name) e in
    both (byte_in is_plain b p.0 h.0) (plain_in name p.1 h.1)

pub name_in : (name : List ℕ) → IsName name → (spell_name name).fits ≡ true
unfolding spell_name
name_in name h =
    let l = length name in
    let p = and_parts (nat_le 1 l && nat_le l 60) (not (list_any is_separator name)) h.0 in
    let q = and_parts (nat_le 1 l) (nat_le l 60) p.0 in
    both (number_in 1 1 60 l (leb-true 1 l q.0) (leb-true l 60 q.1)) (plain_in name p.1 h.1)

pub id_in : (x : TokenId) → InRange x.server → TypedId x → (spell_id x).fits ≡ true
unfolding spell_id
id_in x near h = both (server_in x.server near) (both (u64_in x.epoch h.0) (u64_in x.seq h.1))

pub open_in : (how : OpenKind) → (spell_open how).fits ≡ true
unfolding coded number
open_in Reading = refl
open_in Writing = refl
open_in Executing = refl
open_in Shared = refl
open_in Exclusive = refl

pub span_in : (x : Span) → (spell_span x).fits ≡ true
unfolding spell_span
span_in x =
    let o : x.from ≤ x.to = x.ordered in
    let w : x.to ≤ 65536 = x.within in
    both (number_in 4 0 65536 x.from (omega arith) (omega (arith, o, w))) (number_in 4 x.from 65536 x.to o w)

fields_in : (x : Kind) → (kind_fields x).fits ≡ true
unfolding kind_fields
fields_in (Bytes update span) = both (flag_in update) (span_in span)
fields_in (Status update) = flag_in update
fields_in (Lock writing span) = both (flag_in writing) (span_in span)
fields_in (Opening how) = open_in how

tag_in : (x : Kind) → (number 1 1 4 (kind_tag x)).fits ≡ true
unfolding number
tag_in (Bytes update span) = refl
tag_in (Status update) = refl
tag_in (Lock writing span) = refl
tag_in (Opening how) = refl

pub kind_in : (x : Kind) → (spell_kind x).fits ≡ true
unfolding spell_kind
kind_in x = both (tag_in x) (fields_in x)

pub need_in : (x : Need) → TypedNeed x → (spell_need x).fits ≡ true
unfolding spell_need
need_in x h = both (fid_in x.fid h) (kind_in x.kind)

pub token_in : (x : Token) → InRange x.id.server × (x.host.0 ≤ 16) → TypedToken x → (spell_token x).fits ≡ true
unfolding spell_token
token_in x near h =
    both (id_in x.id near.0 h.0) (both (host_in x.host near.1) (both (fid_in x.fid h.1) (kind_in x.kind)))

pub place_in : (x : Place) → InRange x.server → IsShort x.path → TypedPlace x → (spell_place x).fits ≡ true
unfolding spell_place
place_in x near few h =
    both (server_in x.server near) (both (name_in x.fileset h.0) (short_in IsName spell_name name_in x.path few h.1))

pub user_in : (x : UserOf) → length x.groups ≤ 65535 → IsName x.name → Each IsName x.groups → (spell_user x).fits ≡ true
unfolding spell_user
user_in x few n g = both (name_in x.name n) (short_in IsName spell_name name_in x.groups few g)

who_in : (x : Who) → TypedWho x → (spell_who_name x).fits ≡ true
who_in UserObj h = refl
who_in (User name) h = name_in name h
who_in GroupObj h = refl
who_in (Group name) h = name_in name h
who_in OtherObj h = refl
who_in MaskObj h = refl

who_tag_in : (x : Who) → (number 1 1 6 (who_tag x)).fits ≡ true
unfolding number
who_tag_in UserObj = refl
who_tag_in (User name) = refl
who_tag_in GroupObj = refl
who_tag_in (Group name) = refl
who_tag_in OtherObj = refl
who_tag_in MaskObj = refl

access_entry_in : (x : AccessEntry) → TypedWho x.who × IsRights x.rights → (spell_access_entry x).fits ≡ true
unfolding spell_access_entry
access_entry_in x h = both (who_tag_in x.who) (both (who_in x.who h.0) (rights_in x.rights h.1))

pub access_in : (xs : List AccessEntry) → IsAccess xs → (spell_access xs).fits ≡ true
unfolding spell_access
access_in xs h =
    let l = list_parts xs h.0 in
    let three : 3 ≤ length xs = missing_left [] xs l in
    both h.0 (both (number_in 1 3 16 (length xs) three l.few)
    (items_in (λ entry. TypedWho entry.who × IsRights entry.rights) spell_access_entry access_entry_in xs h.1))

pub piece_in : (x : Piece) → (x.from + length x.bytes ≤ 65536) × TypedPiece x → (spell_piece x).fits ≡ true
unfolding spell_piece_in
piece_in x h = let e = h.0 in both (u32_in x.from h.1.0) (bytes_fit 65536 x.bytes (omega (arith, e)) h.1.1)

bytes_sum : (xs : List Piece) → bytes_in xs ≡ sum_by (λ piece. length piece.bytes) xs
bytes_sum [] = refl
bytes_sum (x ∷ xs) = ap (λ n. length x.bytes + n) (bytes_sum xs) ∙ sym (sum_by-cons (λ piece. length piece.bytes) x xs)

pub pieces_in : (xs : List Piece) → AreFileBytes xs → Each TypedPiece xs → (spell_pieces xs).fits ≡ true
unfolding spell_pieces
pieces_in xs s h =
    let together : bytes_in xs ≤ 65536 = let t = s.together in let e = bytes_sum xs in omega (arith, t, e) in
    both (le-leb (bytes_in xs) 65536 together)
    (short_in (λ piece. (piece.from + length piece.bytes ≤ 65536) × TypedPiece piece) spell_piece piece_in xs s.count
    (each_both (λ piece. piece.from + length piece.bytes ≤ 65536) TypedPiece xs s.ends h))

pub entry_in : (x : DirEntry) → TypedEntry x → (spell_entry x).fits ≡ true
unfolding spell_entry
entry_in x h = both (name_in x.name h.0) (both (u32_in x.anode h.1) (u32_in x.unique h.2))

pub status_in : (x : StatusOf) → length x.lists ≡ list_count x.dir → TypedStatus x → (spell_status x).fits ≡ true
unfolding spell_status spell_lists
status_in x count h =
    both (flag_in x.dir) (both (flag_in x.read_only) (both (u32_in x.length h.0) (both (name_in x.owner h.1)
    (both (name_in x.group h.2)
    (both (eq-eqb (length x.lists) (list_count x.dir) count) (items_in IsAccess spell_access access_in x.lists h.3))))))

pub record_in : (x : Record) → IsKept x × TypedRecord x → (spell_record x).fits ≡ true
unfolding spell_record
record_in x h =
    both (u64_in x.change h.1.0) (both (u64_in x.give h.1.1) (both (u8_in x.code h.1.2) (rights_in x.right h.0.rights)))

pub applied_in : (x : AppliedGive) → TypedApplied x → (spell_applied x).fits ≡ true
unfolding spell_applied
applied_in x h = both (fileset_in x.fileset h.0) (u64_in x.number h.1)

pub outstanding_in : (x : Outstanding) → TypedOutstanding x → (spell_outstanding x).fits ≡ true
unfolding spell_outstanding
outstanding_in x h =
    both (fileset_in x.fileset h.0) (both (u32_in x.moves h.1) (both (u64_in x.give h.2) (u64_in x.change h.3)))
