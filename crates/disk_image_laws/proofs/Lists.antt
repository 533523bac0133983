-- The bytes of an access list are those that it is spelled with in messages.
use Rattle.std.proofs.Common.{◌≡◌, ◌<◌, ◌≤◌, ℕ, zero, suc, ◌+◌, ◌-◌, ◌/◌, ◌%◌, ◌^◌, Bool, true, false, ◌&&◌, List, [], ◌∷◌, ◌++◌, length, Ok, Err, Some, None, refl, sym, ◌∙◌, ap, subst, arith, take, drop, get_or, inl, inr}
use Rattle.std.specs.Prelude.{not, ◌||◌, ◌==◌, nat_le, nat_lt, if◌then◌else◌, unwrap_or}
use Rattle.std.specs.List.{list_all, list_any}
use Rattle.std.proofs.lemmas.Bool.{and_parts, and_from, le-leb, lt-ltb, leb-true, eqb-true, eq-eqb, not-true, cases_lt}
use Rattle.std.proofs.lemmas.List.{take-append-drop, get_or_past, get_or-drop, get_or_append_left, get_or-append-add}
use Rattle.base_types.specs.Image.{AreBytes, byte_at}
use Rattle.base_types.specs.Name.{is_name, is_separator}
use Rattle.base_types.specs.Access.{is_access_list}
use Rattle.base_types.specs.declared.access.AccessEntry.{AccessEntry}
use Rattle.base_types.specs.declared.access.Who.{Who}
use Rattle.base_types.specs.declared.access.Who.TheVariants.{UserObj, User, GroupObj, Group, OtherObj, MaskObj}
use Rattle.message_parts.specs.Spelled.{one_byte, number, items, big_endian}
use Rattle.message_parts.specs.Reading.{Reading}
use Rattle.message_parts.specs.Words.{is_plain, spell_name}
use Rattle.message_parts.specs.Access.{who_tag, spell_who_name, spell_access_entry, spell_access, access_at}
use Rattle.message_parts.proofs.Plain.{one_bytes}
use Rattle.message_parts.proofs.Access.{access_right, missing_left, list_parts}
use Rattle.message_parts.proofs.Right.{are_bytes, AreBytes as EachByte}
use Rattle.disk_lists.specs.Lists.{
  who_bytes,
  entry_bytes,
  entries_bytes,
  list_bytes,
  FitsWho,
  FitsEntry,
  EachFits,
  HoldsList,
}
use Rattle.disk_lists.proofs.AclLaid.{name_short, entries_few, list_few, starts_take}
use Rattle.disk_image.specs.Lists.{list_before, list_in}
use Rattle.disk_image_laws.specs.Lists.{SavedIsRead, ReadIsSaved}

-- a number below 256 in one byte
one_digit : (n : ℕ) → n < 256 → big_endian 1 n ≡ n ∷ []
one_digit n lt = let e : n / 256 ^ 0 % 256 ≡ n = omega (arith, lt) in ap (λ v. v ∷ []) e

name_spelled : (name : List ℕ) → length name ≤ 60 → (spell_name name).bytes ≡ length name ∷ name
unfolding spell_name number
name_spelled name short =
    ap (λ v. v ++ (items (one_byte is_plain) name).bytes) (one_digit (length name) (omega (arith, short)))
    ∙ ap (λ v. length name ∷ v) (one_bytes is_plain name)

who_spelled : (who : Who) → FitsWho who → who_tag who ∷ (spell_who_name who).bytes ≡ who_bytes who
who_spelled UserObj fits = refl
who_spelled (User name) fits = ap (λ v. 2 ∷ v) (name_spelled name (name_short name fits))
who_spelled GroupObj fits = refl
who_spelled (Group name) fits = ap (λ v. 4 ∷ v) (name_spelled name (name_short name fits))
who_spelled OtherObj fits = refl
who_spelled MaskObj fits = refl

tag_small : (who : Who) → who_tag who < 256
tag_small UserObj = omega arith
tag_small (User name) = omega arith
tag_small GroupObj = omega arith
tag_small (Group name) = omega arith
tag_small OtherObj = omega arith
tag_small MaskObj = omega arith

entry_spelled : (entry : AccessEntry) → FitsEntry entry → (spell_access_entry entry).bytes ≡ entry_bytes entry
unfolding spell_access_entry number
entry_spelled entry fits =
    let named = (spell_who_name entry.who).bytes in
    let low = fits.1 in
    ap (λ v. v ++ (named ++ big_endian 1 entry.rights)) (one_digit (who_tag entry.who) (tag_small entry.who))
    ∙ ap (λ v. who_tag entry.who ∷ (named ++ v)) (one_digit entry.rights (omega (arith, low)))
    ∙ ap (λ v. v ++ entry.rights ∷ []) (who_spelled entry.who fits.0)

items_spelled : (entries : List AccessEntry) → EachFits entries
    → (items spell_access_entry entries).bytes ≡ entries_bytes entries
unfolding items
items_spelled [] fits = refl
items_spelled (entry ∷ entries) fits =
    ap (λ v. v ++ (items spell_access_entry entries).bytes) (entry_spelled entry fits.0)
    ∙ ap (λ v. entry_bytes entry ++ v) (items_spelled entries fits.1)

list_spelled : (entries : List AccessEntry) → EachFits entries → length entries ≤ 16
    → (spell_access entries).bytes ≡ list_bytes entries
unfolding spell_access number
list_spelled entries fits few =
    ap (λ v. v ++ (items spell_access_entry entries).bytes) (one_digit (length entries) (omega (arith, few)))
    ∙ ap (λ v. length entries ∷ v) (items_spelled entries fits)

-- what is saved fits
bytes_parts : (xs ys : List ℕ) → EachByte (xs ++ ys) → EachByte xs × EachByte ys
bytes_parts [] ys bytes = (tt, bytes)
bytes_parts (x ∷ xs) ys bytes = let parts = bytes_parts xs ys bytes.1 in ((bytes.0, parts.0), parts.1)

none_parts : (a b : Bool) → (a || b) ≡ false → (a ≡ false) × (b ≡ false)
none_parts true b is = absurd (cc)
none_parts false b is = (refl, is)

plain_fits : (name : List ℕ) → EachByte name → list_any is_separator name ≡ false
    → (items (one_byte is_plain) name).fits ≡ true
unfolding items
plain_fits [] bytes none = refl
plain_fits (b ∷ name) bytes none =
    let parts = none_parts (is_separator b) (list_any is_separator name) none in
    let plain : is_plain b ≡ true = ap not parts.0 in
    and_from (nat_lt b 256 && is_plain b) (items (one_byte is_plain) name).fits
    (and_from (nat_lt b 256) (is_plain b) (lt-ltb b 256 bytes.0) plain) (plain_fits name bytes.1 parts.1)

name_fits : (name : List ℕ) → EachByte name → is_name name ≡ true → (spell_name name).fits ≡ true
unfolding spell_name number
name_fits name bytes is =
    let size = nat_le 1 (length name) && nat_le (length name) 60 in
    let parts = and_parts size (not (list_any is_separator name)) is in
    and_from size (items (one_byte is_plain) name).fits parts.0
    (plain_fits name bytes (not-true (list_any is_separator name) parts.1))

who_fits : (who : Who) → EachByte (who_bytes who) → FitsWho who
    → ((nat_le 1 (who_tag who) && nat_le (who_tag who) 6) ≡ true) × ((spell_who_name who).fits ≡ true)
who_fits UserObj bytes fits = (refl, refl)
who_fits (User name) bytes fits = (refl, name_fits name bytes.1.1 fits)
who_fits GroupObj bytes fits = (refl, refl)
who_fits (Group name) bytes fits = (refl, name_fits name bytes.1.1 fits)
who_fits OtherObj bytes fits = (refl, refl)
who_fits MaskObj bytes fits = (refl, refl)

entry_fits : (entry : AccessEntry) → EachByte (entry_bytes entry) → FitsEntry entry
    → (spell_access_entry entry).fits ≡ true
unfolding spell_access_entry number
entry_fits entry bytes fits =
    let rights = entry.rights in
    let low = fits.1 in
    let who = who_fits entry.who (bytes_parts (who_bytes entry.who) (rights ∷ []) bytes).0 fits.0 in
    and_from (nat_le 1 (who_tag entry.who) && nat_le (who_tag entry.who) 6)
    ((spell_who_name entry.who).fits && (nat_le 0 rights && nat_le rights 63)) who.0
    (and_from (spell_who_name entry.who).fits (nat_le 0 rights && nat_le rights 63) who.1
    (and_from (nat_le 0 rights) (nat_le rights 63) (le-leb 0 rights (omega arith))
    (le-leb rights 63 (omega (arith, low)))))

items_fit : (entries : List AccessEntry) → EachByte (entries_bytes entries) → EachFits entries
    → (items spell_access_entry entries).fits ≡ true
unfolding items
items_fit [] bytes fits = refl
items_fit (entry ∷ entries) bytes fits =
    let parts = bytes_parts (entry_bytes entry) (entries_bytes entries) bytes in
    and_from (spell_access_entry entry).fits (items spell_access_entry entries).fits
    (entry_fits entry parts.0 fits.0) (items_fit entries parts.1 fits.1)

list_fits : (entries : List AccessEntry) → EachByte (entries_bytes entries) → EachFits entries
    → is_access_list entries ≡ true → (spell_access entries).fits ≡ true
unfolding spell_access number
list_fits entries bytes fits is =
    let few = list_few entries is in
    let many = missing_left [] entries (list_parts entries is) in
    let n = length entries in
    and_from (is_access_list entries) ((nat_le 3 n && nat_le n 16) && (items spell_access_entry entries).fits) is
    (and_from (nat_le 3 n && nat_le n 16) (items spell_access_entry entries).fits
    (and_from (nat_le 3 n) (nat_le n 16) (le-leb 3 n (omega (arith, many))) (le-leb n 16 few))
    (items_fit entries bytes fits))

-- zeros
zeros_pass : (bytes : List ℕ) → ((k : ℕ) → get_or bytes k 0 ≡ 0) → list_all (λ (byte : ℕ). byte == 0) bytes ≡ true
zeros_pass [] zeros = refl
zeros_pass (b ∷ bytes) zeros =
    and_from (b == 0) (list_all (λ (byte : ℕ). byte == 0) bytes) (eq-eqb b 0 (zeros 0))
    (zeros_pass bytes (λ k. zeros (suc k)))

passing_zeros : (bytes : List ℕ) → list_all (λ (byte : ℕ). byte == 0) bytes ≡ true → (k : ℕ) → get_or bytes k 0 ≡ 0
passing_zeros [] all k = get_or_past [] k 0 (omega arith)
passing_zeros (b ∷ bytes) all zero =
    eqb-true b 0 (and_parts (b == 0) (list_all (λ (byte : ℕ). byte == 0) bytes) all).0
passing_zeros (b ∷ bytes) all (suc k) =
    passing_zeros bytes (and_parts (b == 0) (list_all (λ (byte : ℕ). byte == 0) bytes) all).1 k

list_size : (entries : List AccessEntry) → EachFits entries → length entries ≤ 16 → length (list_bytes entries) ≤ 1009
list_size entries fits few = let e = entries_few entries fits in omega (arith, e, few)

zeros_behind : (entries : List AccessEntry) (block : List ℕ) → length block ≡ 1024
    → HoldsList entries (byte_at block) → (k : ℕ) → get_or (drop (length (list_bytes entries)) block) k 0 ≡ 0
zeros_behind entries block size held k =
    let n = length (list_bytes entries) in
    get_or-drop n block k 0 ∙ elim (cases_lt (n + k) 1024) [
      | inl lt ↦ held.bytes (n + k) lt ∙ get_or_past (list_bytes entries) (n + k) 0 (omega arith)
      | inr le ↦ get_or_past block (n + k) 0 (omega (arith, size, le))
    ]

pub saved_is_read : SavedIsRead
unfolding list_in
saved_is_read entries block size bytes held =
    let few = list_few entries held.list in
    let n = length (list_bytes entries) in
    let short = list_size entries held.each few in
    let front : take n block ≡ list_bytes entries =
    starts_take block 0 (list_bytes entries) (omega (arith, short, size)) (λ k lt.
    let e : 0 + k ≡ k = omega arith in
    ap (λ (j : ℕ). get_or block j 0) e ∙ held.bytes k (omega (arith, lt, short))) in
    let split : list_bytes entries ++ drop n block ≡ block =
    ap (λ v. v ++ drop n block) (sym front) ∙ take-append-drop n block in
    let each = are_bytes block bytes in
    let own = (bytes_parts (list_bytes entries) (drop n block) (subst EachByte (sym split) each)).0 in
    let spelled = list_spelled entries held.each few in
    let read : access_at block ≡ Ok (entries, drop n block) =
    ap access_at (sym split)
    ∙ access_right.again entries (list_bytes entries) (drop n block)
    (record { chosen = tt; fits = list_fits entries own.1 held.each held.list; whole = sym spelled }) in
    let zeros = zeros_pass (drop n block) (zeros_behind entries block size held) in
    ap list_before read ∙ ap (λ (b : Bool). if b then Some entries else None) zeros

-- what is read was saved
plain_names : (name : List ℕ) → (items (one_byte is_plain) name).fits ≡ true → list_any is_separator name ≡ false
unfolding items
plain_names [] fits = refl
plain_names (b ∷ name) fits =
    let parts = and_parts (nat_lt b 256 && is_plain b) (items (one_byte is_plain) name).fits fits in
    let plain = and_parts (nat_lt b 256) (is_plain b) parts.0 in
    rw (not-true (is_separator b) plain.1) (plain_names name parts.1)

name_named : (name : List ℕ) → (spell_name name).fits ≡ true → is_name name ≡ true
unfolding spell_name number
name_named name fits =
    let size = nat_le 1 (length name) && nat_le (length name) 60 in
    let parts = and_parts size (items (one_byte is_plain) name).fits fits in
    and_from size (not (list_any is_separator name)) parts.0 (ap not (plain_names name parts.1))

who_named : (who : Who) → (spell_who_name who).fits ≡ true → FitsWho who
who_named UserObj fits = tt
who_named (User name) fits = name_named name fits
who_named GroupObj fits = tt
who_named (Group name) fits = name_named name fits
who_named OtherObj fits = tt
who_named MaskObj fits = tt

entry_named : (entry : AccessEntry) → (spell_access_entry entry).fits ≡ true → FitsEntry entry
unfolding spell_access_entry number
entry_named entry fits =
    let rights = entry.rights in
    let parts = and_parts (nat_le 1 (who_tag entry.who) && nat_le (who_tag entry.who) 6)
    ((spell_who_name entry.who).fits && (nat_le 0 rights && nat_le rights 63)) fits in
    let back = and_parts (spell_who_name entry.who).fits (nat_le 0 rights && nat_le rights 63) parts.1 in
    let low = leb-true rights 63 (and_parts (nat_le 0 rights) (nat_le rights 63) back.1).1 in
    (who_named entry.who back.0, omega (arith, low))

each_named : (entries : List AccessEntry) → (items spell_access_entry entries).fits ≡ true → EachFits entries
unfolding items
each_named [] fits = tt
each_named (entry ∷ entries) fits =
    let parts = and_parts (spell_access_entry entry).fits (items spell_access_entry entries).fits fits in
    (entry_named entry parts.0, each_named entries parts.1)

list_named : (entries : List AccessEntry) → (spell_access entries).fits ≡ true
    → (is_access_list entries ≡ true) × EachFits entries
unfolding spell_access number
list_named entries fits =
    let n = length entries in
    let parts = and_parts (is_access_list entries)
    ((nat_le 3 n && nat_le n 16) && (items spell_access_entry entries).fits) fits in
    let back = and_parts (nat_le 3 n && nat_le n 16) (items spell_access_entry entries).fits parts.1 in
    (parts.0, each_named entries back.1)

-- bytes with zeros behind
padded : (front rest : List ℕ) → ((k : ℕ) → get_or rest k 0 ≡ 0) → (k : ℕ)
    → get_or (front ++ rest) k 0 ≡ get_or front k 0
padded front rest zeros k = elim (cases_lt k (length front)) [
  | inl lt ↦ get_or_append_left front rest 0 k lt
  | inr le ↦
      let e : k ≡ length front + (k - length front) = omega (arith, le) in
      ap (λ (j : ℕ). get_or (front ++ rest) j 0) e ∙ get_or-append-add front rest (k - length front) 0
      ∙ zeros (k - length front) ∙ sym (get_or_past front k 0 le)
]

read_holds : (entries : List AccessEntry) (block rest : List ℕ) → AreBytes block
    → access_at block ≡ Ok (entries, rest) → list_all (λ (byte : ℕ). byte == 0) rest ≡ true
    → HoldsList entries (byte_at block)
read_holds entries block rest bytes read zeros =
    let found = access_right.found block entries rest (are_bytes block bytes) read in
    let spells = subst (λ (es : List AccessEntry). ((spell_access es).fits ≡ true) × (found.front ≡ (spell_access es).bytes))
    (sym found.is) (found.spells.fits, found.spells.whole) in
    let named = list_named entries spells.0 in
    let few = list_few entries named.0 in
    let laid : block ≡ list_bytes entries ++ rest =
    found.split ∙ ap (λ v. v ++ rest) (spells.1 ∙ list_spelled entries named.1 few) in
    record {
      bytes = λ k lt. ap (λ v. get_or v k 0) laid ∙ padded (list_bytes entries) rest (passing_zeros rest zeros) k;
      list = named.0;
      each = named.1;
    }

some_same : {A : Type 0} (x y : A) → Some x ≡ Some y → x ≡ y
some_same x y is = ap (λ v. unwrap_or v x) is

pub read_is_saved : ReadIsSaved
unfolding list_in
read_is_saved entries block size bytes is = by (access_at block) refl is
  where
    by_zeros : (found : List AccessEntry) (rest : List ℕ) (b : Bool) → list_all (λ (byte : ℕ). byte == 0) rest ≡ b
        → access_at block ≡ Ok (found, rest) → (if b then Some found else None) ≡ Some entries
        → HoldsList entries (byte_at block)
    by_zeros found rest true zeros read is =
        let same = some_same found entries is in
        subst (λ (es : List AccessEntry). HoldsList es (byte_at block)) same
        (read_holds found block rest bytes read zeros)
    by_zeros found rest false zeros read is = absurd (cc)

    by : (read : Reading (List AccessEntry)) → access_at block ≡ read → list_before read ≡ Some entries
        → HoldsList entries (byte_at block)
    by (Ok (found, rest)) read is =
        by_zeros found rest (list_all (λ (byte : ℕ). byte == 0) rest) refl read is
    by (Err left) read is = absurd (cc)
