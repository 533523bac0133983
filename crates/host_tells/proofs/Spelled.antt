-- The spelling of what is put.
use Rattle.std.proofs.Common.{◌≡◌, ◌<◌, ◌+◌, ◌%◌, ◌∙◌, ◌∷◌, ◌++◌, Bool, List, None, Option, Some, []}
use Rattle.std.proofs.Common.{ap, arith, false, if◌then◌else◌, length, min, refl, slice_get, suc, sym}
use Rattle.std.proofs.Common.{true, zero, ℕ}
use Rattle.std.proofs.lemmas.List.{length-map}
use Rattle.std.specs.List.{flat_map}
use Rattle.std.specs.Option.{option_map, option_map_or}
use Rattle.std.specs.Prelude.{unwrap_or}
use Rattle.base_types.specs.Outcomes.{either}
use Rattle.base_types.specs.declared.access.AccessEntry.{AccessEntry}
use Rattle.base_types.specs.declared.ids.Fid.{Fid}
use Rattle.base_types.specs.declared.user.User.{User}
use Rattle.host_cache.specs.Seen.{Kept, seen}
use Rattle.host_calls.specs.Looking.{access_of, facts_of, of_seen}
use Rattle.host_tables.specs.Tables.{content}
use Rattle.host_tells.proofs.Room.{byte_is, last_byte}
use Rattle.host_tells.specs.Spoken.{facts_told}
use Rattle.host_walk.specs.Bytes.{bytes_seen}
use Rattle.host_walk.specs.Views.{nature_told}
use Rattle.message_calls.specs.Replies.{refusal_fields, refusal_tag, reply_fields}
use Rattle.message_calls.specs.Replies.{spell_facts, spell_refusal, spell_reply}
use Rattle.message_parts.proofs.Plain.{one_bytes}
use Rattle.message_parts.specs.Access.{spell_access, spell_access_entry, spell_who_name, who_tag}
use Rattle.message_parts.specs.Places.{spell_rights}
use Rattle.message_parts.specs.Spelled.{big_endian, items, number}
use Rattle.message_parts.specs.Words.{any_byte, coded, is_plain, short, spell_bytes, spell_flag, spell_name, spell_u32}
use Rattle.need_host.specs.Looks.{View}
use Rattle.need_host.specs.Walks.{rights_on}
use Rattle.tree_calls.specs.declared.part.DirEntry.{DirEntry}
use Rattle.tree_calls.specs.declared.part.Status.{Status}
use Rattle.tree_calls.specs.declared.place.Which.{Which}
use Rattle.tree_calls.specs.declared.reply.Facts.{Facts}
use Rattle.tree_calls.specs.declared.reply.Refusal.{Refusal}
use Rattle.tree_calls.specs.declared.reply.Refusal.TheVariants.{Denied, NoEntry, NotDir}
use Rattle.tree_calls.specs.declared.reply.Reply.{Reply}
use Rattle.tree_calls.specs.declared.reply.Reply.TheVariants.{Access, Bytes, Facts as FactsOf, Names, Ok as Done}
use Rattle.tree_calls.specs.declared.reply.Reply.TheVariants.{Refused}
use Rattle.tree_laws.specs.Parts.{Nature}
use Rattle.tree_laws.specs.Parts.Part.{ByteAt}
use Rattle.tree_objects.specs.Entries.{names_of}
use Rattle.tree_objects.specs.Objects.{list_index, list_or_refused}

pub name_is : (name : List ℕ) → (length name % 256) ∷ name ≡ (spell_name name).bytes
unfolding spell_name number
name_is name =
    ap (λ bytes. bytes ++ name) (last_byte (length name))
    ∙ ap (λ bytes. big_endian 1 (length name) ++ bytes) (sym (one_bytes is_plain name))

-- names behind their count
pub names_each : (entries : List DirEntry) →
    flat_map (λ (entry : DirEntry). (spell_name entry.name).bytes) entries ≡ (items spell_name (names_of entries)).bytes
unfolding items
names_each [] = refl
names_each (entry ∷ entries) = ap (λ bytes. (spell_name entry.name).bytes ++ bytes) (names_each entries)

pub names_are : (entries : List DirEntry) →
    big_endian 2 (length entries) ++ (items spell_name (names_of entries)).bytes
    ≡ (short spell_name (names_of entries)).bytes
unfolding number
names_are entries =
    ap (λ n. big_endian 2 n ++ (items spell_name (names_of entries)).bytes)
    (sym (length-map entries (λ (entry : DirEntry). entry.name)))

-- facts
pub flag_is : (b : Bool) → (if b then 1 else 0) ∷ [] ≡ (spell_flag b).bytes
unfolding coded number
flag_is true = refl
flag_is false = refl

pub long_is : (n : ℕ) → big_endian 4 n ≡ (spell_u32 n).bytes
unfolding spell_u32 number
long_is n = refl

pub long_min : (n length : ℕ) → n ≡ length → n < 4294967296 → n ≡ min length 4294967295
long_min n length is low = omega (arith, is, low)

pub rights_are : (rights : ℕ) → rights < 256 → rights ∷ [] ≡ (spell_rights rights).bytes
unfolding number
rights_are rights low = byte_is rights low

-- access lists
pub entry_is : (entry : AccessEntry) →
    big_endian 1 (who_tag entry.who) ++ ((spell_who_name entry.who).bytes ++ (spell_rights entry.rights).bytes)
    ≡ (spell_access_entry entry).bytes
unfolding spell_access_entry number
entry_is entry = refl

pub entries_each : (entries : List AccessEntry) →
    flat_map (λ (entry : AccessEntry). (spell_access_entry entry).bytes) entries
    ≡ (items spell_access_entry entries).bytes
unfolding items
entries_each entries = refl

pub access_is : (entries : List AccessEntry) →
    big_endian 1 (length entries) ++ (items spell_access_entry entries).bytes ≡ (spell_access entries).bytes
unfolding spell_access number
access_is entries = refl

-- refusals
pub refusal_is : (refusal : Refusal) →
    big_endian 1 (refusal_tag refusal) ++ (refusal_fields refusal).bytes ≡ (spell_refusal refusal).bytes
unfolding spell_refusal number
refusal_is refusal = refl

pub denied_is : (rights : ℕ) → (spell_rights rights).bytes ≡ (refusal_fields (Denied rights)).bytes
unfolding refusal_fields
denied_is rights = refl

pub no_fields : (refusal : Refusal) → ((rights : ℕ) → refusal ≡ Denied rights → ⊥) →
    [] ≡ (refusal_fields refusal).bytes
unfolding refusal_fields
no_fields (Denied rights) none = absurd (none rights refl)
no_fields refusal none = refl

-- replies
pub done_is : 0 ∷ [] ≡ (spell_reply Done).bytes
unfolding spell_reply reply_fields number
done_is = refl

pub refused_is : (refusal : Refusal) → 5 ∷ (spell_refusal refusal).bytes ≡ (spell_reply (Refused refusal)).bytes
unfolding spell_reply reply_fields number
refused_is refusal = refl

pub bytes_are : (bytes : List ℕ) →
    1 ∷ (big_endian 4 (length bytes) ++ bytes) ≡ (spell_reply (Bytes bytes)).bytes
unfolding spell_reply reply_fields number spell_bytes
bytes_are bytes = ap (λ xs. 1 ∷ (big_endian 4 (length bytes) ++ xs)) (sym (one_bytes any_byte bytes))

pub listed_is : (names : List (List ℕ)) → 2 ∷ (short spell_name names).bytes ≡ (spell_reply (Names names)).bytes
unfolding spell_reply reply_fields number
listed_is names = refl

pub facts_are : (facts : Facts) →
    3 ∷ ((spell_flag facts.dir).bytes ++ ((spell_u32 facts.length).bytes ++ ((spell_name facts.owner).bytes
    ++ (spell_rights facts.rights).bytes))) ≡ (spell_reply (FactsOf facts)).bytes
unfolding spell_reply reply_fields number spell_facts
facts_are facts = refl

pub shown_is : (entries : List AccessEntry) →
    4 ∷ (spell_access entries).bytes ≡ (spell_reply (Access entries)).bytes
unfolding spell_reply reply_fields number
shown_is entries = refl

-- so many bytes are seen
pub seen_length : (view : View) (fid : Fid) (at n : ℕ) → length (bytes_seen view fid at n) ≡ n
seen_length view fid at zero = refl
seen_length view fid at (suc n) = ap suc (seen_length view fid (suc at) n)

pub bytes_told : (view : View) (fid : Fid) (from n : ℕ) →
    1 ∷ ((spell_u32 n).bytes ++ bytes_seen view fid from n) ≡ (spell_reply (Bytes (bytes_seen view fid from n))).bytes
bytes_told view fid from n =
    let bytes = bytes_seen view fid from n in
    ap (λ (front : List ℕ). 1 ∷ (front ++ bytes))
    (sym (long_is n) ∙ ap (big_endian 4) (sym (seen_length view fid from n))) ∙ bytes_are bytes

-- bytes that are what the cache shows
pub shown_are : (kept : Kept) (fid : Fid) (bytes : List ℕ) (from n : ℕ) → length bytes ≡ n →
    ((at : ℕ) → at < n → slice_get bytes at ≡ (seen kept).bytes fid (from + at)) →
    bytes ≡ bytes_seen (content kept) fid from n
shown_are kept fid [] from zero e h = refl
shown_are kept fid [] from (suc n) e h = absurd (omega (arith, e))
shown_are kept fid (x ∷ xs) from zero e h = absurd (omega (arith, e))
shown_are kept fid (x ∷ xs) from (suc n) e h =
    let first : Some x ≡ (seen kept).bytes fid (from + 0) = h 0 (omega arith) in
    let here : from + 0 ≡ from = omega arith in
    let one : x ≡ content kept fid (ByteAt from) =
    ap (λ o. unwrap_or o 0) first ∙ ap (λ k. content kept fid (ByteAt k)) here in
    let rest = shown_are kept fid xs (suc from) n (omega (arith, e)) (λ at low. h (suc at) (omega (arith, low))
    ∙ ap ((seen kept).bytes fid) (sum from at)) in
    λ i. one i ∷ rest i
  where
    sum : (a b : ℕ) → a + suc b ≡ suc a + b
    sum a b = omega arith

-- what is told of an object that is seen, or isn't
module _ (kept : Kept) (fid : Fid) where
  pub unseen : (tell : Nature → Reply) → None ≡ (seen kept).status fid →
      Refused NoEntry ≡ of_seen (content kept) fid tell
  unseen tell none =
      ap (λ (s : Option Status). option_map_or tell (option_map nature_told s) (Refused NoEntry)) none

  pub facts_seen : (user : User) (status : Status) → Some status ≡ (seen kept).status fid →
      FactsOf (facts_told status user) ≡ of_seen (content kept) fid (facts_of (content kept) user fid)
  facts_seen user status shown =
      ap (λ (s : Option Status). option_map_or (λ (nature : Nature). FactsOf (record {
        dir = nature.dir;
        length = min (option_map_or (λ (x : Status). x.length) s 0) 4294967295;
        owner = nature.owner;
        rights = rights_on nature user;
      })) (option_map nature_told s) (Refused NoEntry)) shown

  pub list_seen : (which : Which) (status : Status) → Some status ≡ (seen kept).status fid →
      access_of which (nature_told status) ≡ of_seen (content kept) fid (access_of which)
  list_seen which status shown =
      ap (λ (s : Option Status). option_map_or (access_of which) (option_map nature_told s) (Refused NoEntry)) shown

pub access_told : (which : Which) (status : Status) (list : List AccessEntry) →
    Some list ≡ slice_get status.lists (list_index which) → Access list ≡ access_of which (nature_told status)
access_told which status list e =
    ap (λ (o : Option (List AccessEntry)). either (list_or_refused o) Access Refused) e

pub access_none : (which : Which) (status : Status) → None ≡ slice_get status.lists (list_index which) →
    Refused NotDir ≡ access_of which (nature_told status)
access_none which status e =
    ap (λ (o : Option (List AccessEntry)). either (list_or_refused o) Access Refused) e
