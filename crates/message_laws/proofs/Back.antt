-- What is spellable is a message of a program.
use Rattle.std.proofs.Common.{◌≡◌, ◌≤◌, ℕ, Bool, true, false, ◌&&◌, List, [], ◌∷◌, length, Some, None, refl, arith}
use Rattle.std.specs.Prelude.{not, Option, IfSome, nat_le, ◌||◌}
use Rattle.std.specs.List.{list_any}
use Rattle.std.proofs.lemmas.Bool.{and_parts, le-leb, leb-true, ltb-true}
use Rattle.base_types.specs.Name.{is_separator}
use Rattle.base_types.specs.declared.access.AccessEntry.{AccessEntry}
use Rattle.base_types.specs.declared.access.Who.{Who}
use Rattle.base_types.specs.declared.access.Who.TheVariants.{UserObj, User, GroupObj, Group, OtherObj, MaskObj}
use Rattle.base_types.specs.declared.ids.Fid.{Fid}
use Rattle.base_types.specs.declared.ids.FilesetId.{FilesetId}
use Rattle.base_types.specs.declared.user.User.{User as UserOf}
use Rattle.tree_calls.specs.declared.part.DirEntry.{DirEntry}
use Rattle.tree_calls.specs.declared.part.Piece.{Piece}
use Rattle.tree_calls.specs.declared.part.Status.{Status as StatusOf}
use Rattle.tree_calls.specs.declared.place.Place.{Place}
use Rattle.tree_calls.specs.declared.ship.Record.{Record}
use Rattle.token_types.specs.declared.token.Need.{Need}
use Rattle.token_types.specs.declared.token.Token.{Token}
use Rattle.token_types.specs.declared.token.TokenId.{TokenId}
use Rattle.message_types.specs.Soundness.{Each}
use Rattle.message_types.specs.declared.giving.AppliedGive.{AppliedGive}
use Rattle.message_types.specs.declared.giving.Outstanding.{Outstanding}
use Rattle.message_parts.specs.Spelled.{Spelled, number, items, one_byte}
use Rattle.message_parts.specs.Words.{
  spell_u8,
  spell_u32,
  spell_u64,
  spell_fileset,
  spell_name,
  spell_bytes,
  is_plain,
  any_byte,
  short,
  long,
  spell_optional,
}
use Rattle.message_parts.specs.Tokens.{spell_fid, spell_id, spell_need, spell_token}
use Rattle.message_parts.specs.Places.{spell_place, spell_user, spell_rights}
use Rattle.message_parts.specs.Access.{spell_who_name, spell_access_entry, spell_access}
use Rattle.message_parts.specs.Objects.{spell_piece_in, spell_piece, spell_pieces, spell_entry, spell_lists, spell_status}
use Rattle.message_parts.specs.Requests.{spell_outstanding, spell_applied, spell_record}
use Rattle.message_laws.specs.Typed.{
  IsU8,
  IsU32,
  IsU64,
  IsRights,
  IsListOf,
  IsName,
  TypedWho,
  IsAccess,
  TypedFid,
  TypedId,
  TypedToken,
  TypedNeed,
  TypedPlace,
  TypedPiece,
  TypedEntry,
  TypedStatus,
  TypedRecord,
  TypedApplied,
  TypedOutstanding,
}
use Rattle.message_laws.proofs.Fits.{both}

pub parts : {a b : Bool} → (a && b) ≡ true → (a ≡ true) × (b ≡ true)
parts {a} {b} f = and_parts a b f

pub number_of : (width least most n : ℕ) → (number width least most n).fits ≡ true → (least ≤ n) × (n ≤ most)
unfolding number
number_of width least most n f =
    let p = and_parts (nat_le least n) (nat_le n most) f in
    (leb-true least n p.0, leb-true n most p.1)

u8_of : (n : ℕ) → (spell_u8 n).fits ≡ true → IsU8 n
unfolding spell_u8
u8_of n f = let h = (number_of 1 0 255 n f).1 in omega (arith, h)

pub u32_of : (n : ℕ) → (spell_u32 n).fits ≡ true → IsU32 n
unfolding spell_u32
u32_of n f = let h = (number_of 4 0 4294967295 n f).1 in omega (arith, h)

pub u64_of : (n : ℕ) → (spell_u64 n).fits ≡ true → IsU64 n
unfolding spell_u64
u64_of n f = let h = (number_of 8 0 18446744073709551615 n f).1 in omega (arith, h)

pub rights_of : (n : ℕ) → (spell_rights n).fits ≡ true → IsRights n
rights_of n f = let h = (number_of 1 0 63 n f).1 in omega (arith, h)

pub fileset_of : (x : FilesetId) → (spell_fileset x).fits ≡ true → IsU32 x.0
unfolding spell_fileset
fileset_of x f = u32_of x.0 f

pub fid_of : (x : Fid) → (spell_fid x).fits ≡ true → TypedFid x
unfolding spell_fid
fid_of x f = let p = parts f in let q = parts p.1 in (fileset_of x.fileset p.0, u32_of x.anode q.0, u32_of x.unique q.1)

items_of : {A : Type 0} (P : A → Type 0) (one : A → Spelled) → ((x : A) → (one x).fits ≡ true → P x)
    → (xs : List A) → (items one xs).fits ≡ true → Each P xs
unfolding items
items_of P one kept [] f = tt
items_of P one kept (x ∷ xs) f = let p = parts f in (kept x p.0, items_of P one kept xs p.1)

pub short_of : {A : Type 0} (P : A → Type 0) (one : A → Spelled) → ((x : A) → (one x).fits ≡ true → P x)
    → (xs : List A) → (short one xs).fits ≡ true → Each P xs
short_of P one kept xs f = items_of P one kept xs ((parts f).1)

pub long_of : {A : Type 0} (P : A → Type 0) (one : A → Spelled) → ((x : A) → (one x).fits ≡ true → P x)
    → (xs : List A) → (long one xs).fits ≡ true → IsListOf P xs
long_of P one kept xs f =
    let p = parts f in
    let n = (number_of 8 0 18446744073709551615 (length xs) p.0).1 in
    (omega (arith, n), items_of P one kept xs p.1)

pub optional_of : {A : Type 0} (P : A → Type 0) (one : A → Spelled) → ((x : A) → (one x).fits ≡ true → P x)
    → (o : Option A) → (spell_optional one o).fits ≡ true → IfSome o P
unfolding spell_optional
optional_of P one kept None f = tt
optional_of P one kept (Some x) f = kept x ((parts f).1)

byte_of : (test : ℕ → Bool) (b : ℕ) → (one_byte test b).fits ≡ true → IsU8 b
byte_of test b f = let p = parts f in let h = ltb-true b 256 p.0 in omega (arith, h)

pub bytes_of : (most : ℕ) (bytes : List ℕ) → (spell_bytes most bytes).fits ≡ true → Each IsU8 bytes
unfolding spell_bytes
bytes_of most bytes f = items_of IsU8 (one_byte any_byte) (byte_of any_byte) bytes ((parts f).1)

no_or : (a b : Bool) → not a ≡ true → not b ≡ true → not (a || b) ≡ true
no_or true b p q = p
no_or false b p q = q

plain_of : (name : List ℕ) → (items (one_byte is_plain) name).fits ≡ true → not (list_any is_separator name) ≡ true
unfolding items
plain_of [] f = refl
plain_of (b ∷ name) f =
    let p = parts f in
    no_or (is_separator b) (list_any is_separator name) ((parts p.0).1) (plain_of name p.1)

pub name_of : (name : List ℕ) → (spell_name name).fits ≡ true → IsName name
unfolding spell_name
name_of name f =
    let p = parts f in
    let n = number_of 1 1 60 (length name) p.0 in (
      both (both (le-leb 1 (length name) n.0) (le-leb (length name) 60 n.1)) (plain_of name p.1),
      items_of IsU8 (one_byte is_plain) (byte_of is_plain) name p.1,
    )

pub id_of : (x : TokenId) → (spell_id x).fits ≡ true → TypedId x
unfolding spell_id
id_of x f = let p = parts f in let q = parts p.1 in (u64_of x.epoch q.0, u64_of x.seq q.1)

pub need_of : (x : Need) → (spell_need x).fits ≡ true → TypedNeed x
unfolding spell_need
need_of x f = fid_of x.fid ((parts f).0)

pub token_of : (x : Token) → (spell_token x).fits ≡ true → TypedToken x
unfolding spell_token
token_of x f =
    let p = parts f in let q = parts p.1 in let r = parts q.1 in
    (id_of x.id p.0, fid_of x.fid r.0)

pub place_of : (x : Place) → (spell_place x).fits ≡ true → TypedPlace x
unfolding spell_place
place_of x f =
    let p = parts f in let q = parts p.1 in
    (name_of x.fileset q.0, short_of IsName spell_name name_of x.path q.1)

pub user_of : (x : UserOf) → (spell_user x).fits ≡ true → IsName x.name × Each IsName x.groups
unfolding spell_user
user_of x f = let p = parts f in (name_of x.name p.0, short_of IsName spell_name name_of x.groups p.1)

who_of : (x : Who) → (spell_who_name x).fits ≡ true → TypedWho x
who_of UserObj f = tt
who_of (User name) f = name_of name f
who_of GroupObj f = tt
who_of (Group name) f = name_of name f
who_of OtherObj f = tt
who_of MaskObj f = tt

access_entry_of : (x : AccessEntry) → (spell_access_entry x).fits ≡ true → TypedWho x.who × IsRights x.rights
unfolding spell_access_entry
access_entry_of x f = let p = parts f in let q = parts p.1 in (who_of x.who q.0, rights_of x.rights q.1)

pub access_of : (xs : List AccessEntry) → (spell_access xs).fits ≡ true → IsAccess xs
unfolding spell_access
access_of xs f =
    let p = parts f in let q = parts p.1 in
    (p.0, items_of (λ entry. TypedWho entry.who × IsRights entry.rights) spell_access_entry access_entry_of xs q.1)

piece_of : (x : Piece) → (spell_piece x).fits ≡ true → TypedPiece x
unfolding spell_piece_in
piece_of x f = let p = parts f in (u32_of x.from p.0, bytes_of 65536 x.bytes p.1)

pub pieces_of : (xs : List Piece) → (spell_pieces xs).fits ≡ true → Each TypedPiece xs
unfolding spell_pieces
pieces_of xs f = short_of TypedPiece spell_piece piece_of xs ((parts f).1)

pub entry_of : (x : DirEntry) → (spell_entry x).fits ≡ true → TypedEntry x
unfolding spell_entry
entry_of x f =
    let p = parts f in let q = parts p.1 in
    (name_of x.name p.0, u32_of x.anode q.0, u32_of x.unique q.1)

pub status_of : (x : StatusOf) → (spell_status x).fits ≡ true → TypedStatus x
unfolding spell_status spell_lists
status_of x f =
    let p = parts ((parts ((parts f).1)).1) in let q = parts p.1 in let r = parts q.1 in (
      u32_of x.length p.0,
      name_of x.owner q.0,
      name_of x.group r.0,
      items_of IsAccess spell_access access_of x.lists ((parts r.1).1),
    )

pub record_of : (x : Record) → (spell_record x).fits ≡ true → TypedRecord x
unfolding spell_record
record_of x f =
    let p = parts f in let q = parts p.1 in let r = parts q.1 in
    (u64_of x.change p.0, u64_of x.give q.0, u8_of x.code r.0)

pub applied_of : (x : AppliedGive) → (spell_applied x).fits ≡ true → TypedApplied x
unfolding spell_applied
applied_of x f = let p = parts f in (fileset_of x.fileset p.0, u64_of x.number p.1)

pub outstanding_of : (x : Outstanding) → (spell_outstanding x).fits ≡ true → TypedOutstanding x
unfolding spell_outstanding
outstanding_of x f =
    let p = parts f in let q = parts p.1 in let r = parts q.1 in
    (fileset_of x.fileset p.0, u32_of x.moves q.0, u64_of x.give r.0, u64_of x.change r.1)
