-- Which replies have a spelling that can be read back.
use Rattle.std.proofs.Common.{◌≡◌, ◌≤◌, ◌∙◌, ◌&&◌, ◌∷◌, ◌==◌, Bool, IfSome, List, None, Option, Some, []}
use Rattle.std.proofs.Common.{ap, arith, false, inl, length, min, refl, suc, sym, true, ℕ}
use Rattle.std.proofs.lemmas.Bool.{and_parts, le-leb, leb-true, ne_eqb}
use Rattle.std.proofs.lemmas.List.{length-map}
use Rattle.std.specs.List.{list_all, list_any}
use Rattle.std.specs.Prelude.{nat_le, not}
use Rattle.base_types.specs.Access.{is_access_list}
use Rattle.base_types.specs.Image.{AreBytes}
use Rattle.base_types.specs.Name.{is_name, is_separator}
use Rattle.base_types.specs.declared.access.AccessEntry.{AccessEntry}
use Rattle.base_types.specs.declared.access.Who.{Who}
use Rattle.base_types.specs.declared.access.Who.TheVariants.{Group, GroupObj, MaskObj, OtherObj, User, UserObj}
use Rattle.host_tells.specs.Spoken.{Puts, Spells}
use Rattle.message_calls.specs.Replies.{refusal_fields, reply_fields}
use Rattle.message_calls.specs.Replies.{spell_facts, spell_refusal, spell_reply}
use Rattle.message_laws.proofs.Fits.{flag_in, number_in}
use Rattle.message_laws.proofs.Parts.{bytes_fit, name_in, u32_in}
use Rattle.message_laws.specs.Typed.{IsU8}
use Rattle.message_parts.proofs.Access.{list_parts, missing_left}
use Rattle.message_parts.specs.Access.{spell_access, spell_access_entry, spell_who_name, who_tag}
use Rattle.message_parts.specs.Places.{spell_rights}
use Rattle.message_parts.specs.Spelled.{items, number}
use Rattle.message_parts.specs.Words.{short, spell_bytes, spell_flag, spell_name, spell_u32}
use Rattle.message_types.specs.Soundness.{Each}
use Rattle.tree_calls.specs.declared.part.DirEntry.{DirEntry}
use Rattle.tree_calls.specs.declared.reply.Facts.{Facts}
use Rattle.tree_calls.specs.declared.reply.Refusal.{Refusal}
use Rattle.tree_calls.specs.declared.reply.Refusal.TheVariants.{Denied}
use Rattle.tree_calls.specs.declared.reply.Reply.{Reply}
use Rattle.tree_calls.specs.declared.reply.Reply.TheVariants.{Access, Bytes, Facts as FactsOf, Names, Ok as Done}
use Rattle.tree_calls.specs.declared.reply.Reply.TheVariants.{Refused}
use Rattle.tree_objects.specs.Entries.{names_of}

-- what holds anyway is left out
pub holds_too : (a b : Bool) → a ≡ true → b ≡ (a && b)
holds_too true b e = refl
holds_too false b e = absurd (cc)

-- names
each_small : (bytes : List ℕ) → AreBytes bytes → Each IsU8 bytes
each_small [] h = tt
each_small (b ∷ bytes) h = (let e = h 0 in omega (arith, e), each_small bytes (λ k. h (suc k)))

pub name_fits : (name : List ℕ) → is_name name ≡ true → AreBytes name → true ≡ (spell_name name).fits
name_fits name is small = sym (name_in name (is, each_small name small))

pub name_long : (name : List ℕ) → is_name name ≡ true → 1 ≤ length name
name_long name is =
    let l = length name in
    let p = and_parts (nat_le 1 l && nat_le l 60) (not (list_any is_separator name)) is in
    let q = and_parts (nat_le 1 l) (nat_le l 60) p.0 in leb-true 1 l q.0

pub some_bytes : (bytes : List ℕ) → 1 ≤ length bytes → not (length bytes == 0) ≡ true
some_bytes [] low = absurd (omega (arith, low))
some_bytes (b ∷ bytes) low = ap not (ne_eqb (length (b ∷ bytes)) 0 (λ e. omega (arith, e)))

each_named : (entries : List DirEntry) → list_all (λ (entry : DirEntry). (spell_name entry.name).fits) entries
    ≡ (items spell_name (names_of entries)).fits
unfolding items
each_named [] = refl
each_named (entry ∷ entries) = ap (λ b. (spell_name entry.name).fits && b) (each_named entries)

pub names_fit : (entries : List DirEntry) →
    (nat_le (length entries) 65535 && list_all (λ (entry : DirEntry). (spell_name entry.name).fits) entries)
    ≡ (short spell_name (names_of entries)).fits
unfolding number
names_fit entries =
    let names = names_of entries in
    (λ i. nat_le (sym (length-map entries (λ (entry : DirEntry). entry.name)) i) 65535 && each_named entries i)
    ∙ ap (λ (b : Bool). b && (items spell_name names).fits)
    (holds_too (nat_le 0 (length names)) (nat_le (length names) 65535) (le-leb 0 (length names) (omega arith)))

-- rights, and what is told of an object
pub rights_fit : (rights : ℕ) → nat_le rights 63 ≡ (spell_rights rights).fits
unfolding number
rights_fit rights = holds_too (nat_le 0 rights) (nat_le rights 63) (le-leb 0 rights (omega arith))

pub facts_fit : (facts : Facts) → facts.length ≤ 4294967295 →
    ((spell_name facts.owner).fits && (spell_rights facts.rights).fits) ≡ (spell_facts facts).fits
unfolding spell_facts
facts_fit facts low =
    let rest = (spell_name facts.owner).fits && (spell_rights facts.rights).fits in
    let long = (spell_u32 facts.length).fits in
    holds_too long rest (u32_in facts.length (omega (arith, low)))
    ∙ holds_too (spell_flag facts.dir).fits (long && rest) (flag_in facts.dir)

pub shortened : (n : ℕ) → min n 4294967295 ≤ 4294967295
shortened n = omega arith

-- access lists
tag_fits : (who : Who) → (number 1 1 6 (who_tag who)).fits ≡ true
unfolding number
tag_fits UserObj = refl
tag_fits (User name) = refl
tag_fits GroupObj = refl
tag_fits (Group name) = refl
tag_fits OtherObj = refl
tag_fits MaskObj = refl

pub nameless_fits : (who : Who) → ((name : List ℕ) → who ≡ User name → ⊥) → ((name : List ℕ) → who ≡ Group name → ⊥) →
    true ≡ (spell_who_name who).fits
nameless_fits (User name) u g = absurd (u name refl)
nameless_fits (Group name) u g = absurd (g name refl)
nameless_fits UserObj u g = refl
nameless_fits GroupObj u g = refl
nameless_fits OtherObj u g = refl
nameless_fits MaskObj u g = refl

pub entry_fits : (entry : AccessEntry) →
    ((spell_who_name entry.who).fits && (spell_rights entry.rights).fits) ≡ (spell_access_entry entry).fits
unfolding spell_access_entry
entry_fits entry =
    holds_too (number 1 1 6 (who_tag entry.who)).fits
    ((spell_who_name entry.who).fits && (spell_rights entry.rights).fits) (tag_fits entry.who)

pub list_fits : (entries : List AccessEntry) → is_access_list entries ≡ true →
    list_all (λ (entry : AccessEntry). (spell_access_entry entry).fits) entries ≡ (spell_access entries).fits
unfolding spell_access items
list_fits entries is =
    let l = list_parts entries is in
    let three : 3 ≤ length entries = missing_left [] entries l in
    let all = list_all (λ (entry : AccessEntry). (spell_access_entry entry).fits) entries in
    let count = (number 1 3 16 (length entries)).fits in
    holds_too count all (number_in 1 3 16 (length entries) three l.few)
    ∙ holds_too (is_access_list entries) (count && all) is

-- refusals
pub denied_fits : (rights : ℕ) → (spell_rights rights).fits ≡ (spell_refusal (Denied rights)).fits
unfolding spell_refusal refusal_fields number
denied_fits rights = refl

pub plain_fits : (refusal : Refusal) → ((rights : ℕ) → refusal ≡ Denied rights → ⊥) →
    true ≡ (spell_refusal refusal).fits
unfolding spell_refusal refusal_fields number
plain_fits (Denied rights) none = absurd (none rights refl)
plain_fits refusal none = refl

-- replies
pub done_fits : (spell_reply Done).fits ≡ true
unfolding spell_reply reply_fields number
done_fits = refl

pub refused_fits : (refusal : Refusal) → (spell_refusal refusal).fits ≡ (spell_reply (Refused refusal)).fits
unfolding spell_reply reply_fields number
refused_fits refusal = refl

pub listed_fits : (names : List (List ℕ)) → (short spell_name names).fits ≡ (spell_reply (Names names)).fits
unfolding spell_reply reply_fields number
listed_fits names = refl

pub told_fits : (facts : Facts) → (spell_facts facts).fits ≡ (spell_reply (FactsOf facts)).fits
unfolding spell_reply reply_fields number
told_fits facts = refl

pub shown_fits : (entries : List AccessEntry) → (spell_access entries).fits ≡ (spell_reply (Access entries)).fits
unfolding spell_reply reply_fields number
shown_fits entries = refl

pub small_fits : (bytes : List ℕ) → length bytes ≤ 4294967295 → (result : Option ℕ) →
    IfSome result (λ end. AreBytes bytes) → IfSome result (λ end. (spell_bytes 4294967295 bytes).fits ≡ true)
small_fits bytes few None small = tt
small_fits bytes few (Some end) small = bytes_fit 4294967295 bytes few (each_small bytes small)

pub read_fits : (bytes : List ℕ) → (spell_bytes 4294967295 bytes).fits ≡ (spell_reply (Bytes bytes)).fits
unfolding spell_reply reply_fields number
read_fits bytes = refl

-- what is put can be read back
pub spelled : (reply : Reply) (old new : List ℕ) (result : Option ℕ) →
    Puts (spell_reply reply).bytes 0 old new result → (spell_reply reply).fits ≡ true →
    Spells (Some reply) old new result
spelled reply old new None p fits = inl p
spelled reply old new (Some count) p fits = (p, fits)

pub bytes_spelled : (bytes old new : List ℕ) (result : Option ℕ) →
    Puts (spell_reply (Bytes bytes)).bytes 0 old new result →
    IfSome result (λ end. (spell_bytes 4294967295 bytes).fits ≡ true) → Spells (Some (Bytes bytes)) old new result
bytes_spelled bytes old new None p fits = inl p
bytes_spelled bytes old new (Some count) p fits = (p, sym (read_fits bytes) ∙ fits)
