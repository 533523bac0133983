-- Where the parts of a list stand among bytes.
use Rattle.std.proofs.Common.{◌≡◌, ◌≤◌, ◌<◌, ℕ, zero, suc, ◌+◌, ◌*◌, List, [], ◌∷◌, ◌++◌, length, take, drop, get_or, ◌-◌, refl, sym, subst, ap, ◌∙◌, append_assoc, arith}
use Rattle.std.specs.Prelude.{bit_and}
use Rattle.std.proofs.Math.Nat.{mod-eq_of_lt}
use Rattle.std.proofs.lemmas.Nat.{and_mask}
use Rattle.std.specs.Prelude.{◌⊎◌, nat_lt, Bool, true, false, ◌&&◌, IsTrue, nat_le}
use Rattle.std.proofs.lemmas.List.{length-append, length-take-le, length-drop, get_or_append_left, get_or-append-add, get_or-append_right, get_or-take, get_or-drop, get_or_past, ext_get_or, append-nil}
use Rattle.std.proofs.lemmas.Bool.Decides.{nat_tests}
use Rattle.base_types.specs.Access.{is_access_list}
use Rattle.base_types.specs.Name.{is_name}
use Rattle.base_types.specs.declared.access.AccessEntry.{AccessEntry}
use Rattle.base_types.specs.declared.access.Who.{Who}
use Rattle.base_types.specs.declared.access.Who.TheVariants.{UserObj, User, GroupObj, Group, OtherObj, MaskObj}
use Rattle.std.specs.Prelude.{◌==◌, ◌↔◌, if◌then◌else◌, Result, Ok, Err, IfOk, IsErrOf}
use Rattle.disk_log.specs.State.{State}
use Rattle.disk_anode.specs.Anode.{Anode, anode_in, with_list}
use Rattle.disk_anode.specs.Changes.{Changed}
use Rattle.base_types.specs.declared.access.ListRefused.{ListRefused}
use Rattle.base_types.specs.declared.access.ListRefused.TheVariants.{BadList, Memory}
use Rattle.disk_lists.specs.Lists.{IsReadAs, who_bytes, entry_bytes, entries_bytes, list_bytes, FitsWho, FitsEntry, EachFits, HoldsList, StartsAt, NameStands, WhoStands, EntryStands}

-- the front of what stands at a place, and what is behind it
pub starts_front : (bytes : List ℕ) (at : ℕ) (xs ys : List ℕ) → StartsAt bytes at (xs ++ ys) → StartsAt bytes at xs
starts_front bytes at xs ys is = λ k lt.
    is k (let size = length-append xs ys in omega (arith, size, lt)) ∙ get_or_append_left xs ys 0 k lt

pub starts_behind : (bytes : List ℕ) (at : ℕ) (xs ys : List ℕ)
    → StartsAt bytes at (xs ++ ys) → StartsAt bytes (at + length xs) ys
starts_behind bytes at xs ys is = λ k lt.
    let e : at + length xs + k ≡ at + (length xs + k) = omega arith in
    let size = length-append xs ys in
    (λ j. get_or bytes (e j) 0) ∙ is (length xs + k) (omega (arith, size, lt)) ∙ get_or-append-add xs ys k 0

pub starts_first : (bytes : List ℕ) (at x : ℕ) (xs : List ℕ) → StartsAt bytes at (x ∷ xs) → get_or bytes at 0 ≡ x
starts_first bytes at x xs is =
    let e : at ≡ at + 0 = omega arith in (λ j. get_or bytes (e j) 0) ∙ is 0 (omega arith)

pub starts_next : (bytes : List ℕ) (at x : ℕ) (xs : List ℕ) → StartsAt bytes at (x ∷ xs) → StartsAt bytes (at + 1) xs
starts_next bytes at x xs is = starts_behind bytes at (x ∷ []) xs is

pub starts_take : (bytes : List ℕ) (at : ℕ) (piece : List ℕ)
    → at + length piece ≤ length bytes → StartsAt bytes at piece → take (length piece) (drop at bytes) ≡ piece
starts_take bytes at piece within is =
    let left = length-drop at bytes in
    let size = length-take-le (length piece) (drop at bytes) (omega (arith, left, within)) in
    ext_get_or 0 (take (length piece) (drop at bytes)) piece size (λ i lt.
    let low : i < length piece = omega (arith, size, lt) in
    get_or-take (length piece) (drop at bytes) i 0 low ∙ get_or-drop at bytes i 0 ∙ is i low)

-- a name has 1 to 60 bytes, so an entry has 63 at most
both_left : (a b c : Bool) → (a && b && c) ≡ true → b ≡ true
both_left true true c is = refl
both_left true false c is = absurd (grind (arith, is))
both_left false b c is = absurd (grind (arith, is))

pub name_short : (name : List ℕ) → IsTrue (is_name name) → length name ≤ 60
name_short name is = by (nat_le (length name) 60) refl (both_left _ _ _ is)
  where
    by : (b : Bool) → nat_le (length name) 60 ≡ b → b ≡ true → length name ≤ 60
    by true e f = grind (arith, nat_tests)
    by false e f = absurd (grind (arith, f))

pub who_short : (who : Who) → FitsWho who → length (who_bytes who) ≤ 62
who_short UserObj fits = omega arith
who_short (User name) fits = let le = name_short name fits in omega (arith, le)
who_short GroupObj fits = omega arith
who_short (Group name) fits = let le = name_short name fits in omega (arith, le)
who_short OtherObj fits = omega arith
who_short MaskObj fits = omega arith

pub entry_size : (entry : AccessEntry) → length (entry_bytes entry) ≡ length (who_bytes entry.who) + 1
entry_size entry = length-append (who_bytes entry.who) (entry.rights ∷ [])

-- parts that stand one behind another
pub starts_cons : (bytes : List ℕ) (at x : ℕ) (xs : List ℕ) → get_or bytes at 0 ≡ x → StartsAt bytes (at + 1) xs → StartsAt bytes at (x ∷ xs)
starts_cons bytes at x xs first is = by
  where
    by : StartsAt bytes at (x ∷ xs)
    by zero lt = let e : at + 0 ≡ at = omega arith in (λ j. get_or bytes (e j) 0) ∙ first
    by (suc k) lt = let e : at + suc k ≡ at + 1 + k = omega arith in (λ j. get_or bytes (e j) 0) ∙ is k (omega (arith, lt))

pub starts_one : (bytes : List ℕ) (at x : ℕ) → get_or bytes at 0 ≡ x → StartsAt bytes at (x ∷ [])
starts_one bytes at x first = starts_cons bytes at x [] first (λ k lt. absurd (omega (arith, lt)))

pub starts_both : (bytes : List ℕ) (at : ℕ) (xs ys : List ℕ) → StartsAt bytes at xs → StartsAt bytes (at + length xs) ys → StartsAt bytes at (xs ++ ys)
starts_both bytes at xs ys front behind = λ k lt. by k lt (nat_lt k (length xs)) refl
  where
    by : (k : ℕ) → k < length (xs ++ ys) → (b : Bool) → nat_lt k (length xs) ≡ b → get_or bytes (at + k) 0 ≡ get_or (xs ++ ys) k 0
    by k lt true e =
        let low : k < length xs = grind (arith, nat_tests, e) in
        front k low ∙ sym (get_or_append_left xs ys 0 k low)
    by k lt false e =
        let high : length xs ≤ k = grind (arith, nat_tests, e) in
        let size = length-append xs ys in
        let there : at + k ≡ at + length xs + (k - length xs) = omega (arith, high) in
        (λ j. get_or bytes (there j) 0) ∙ behind (k - length xs) (omega (arith, size, lt, high)) ∙ sym (get_or-append_right xs ys (length xs) k 0 refl high)

pub starts_name : (bytes : List ℕ) (at : ℕ) (name : List ℕ) → get_or bytes at 0 ≡ length name → name ≡ take (length name) (drop (at + 1) bytes) → StartsAt bytes at (length name ∷ name)
starts_name bytes at name size is = starts_cons bytes at (length name) name size (λ k lt.
    sym (get_or-drop (at + 1) bytes k 0) ∙ sym (get_or-take (length name) (drop (at + 1) bytes) k 0 lt) ∙ (λ j. get_or (sym is j) k 0))

pub starts_entry : (bytes : List ℕ) (at size : ℕ) (who : Who) (rights : ℕ) → size ≡ length (who_bytes who) → WhoStands bytes at who → get_or bytes (at + size) 0 ≡ rights → rights < 64
    → EntryStands bytes at (record { who = who; rights = rights })
starts_entry bytes at size who rights size_is stands is lt =
    ((stands.0, lt), starts_both bytes at (who_bytes who) (rights ∷ []) stands.1 (starts_one bytes (at + length (who_bytes who)) rights ((λ j. get_or bytes (at + sym size_is j) 0) ∙ is)))

-- the entries of a list together
pub entries_few : (entries : List AccessEntry) → EachFits entries → length (entries_bytes entries) ≤ 63 * length entries
entries_few [] each = omega arith
entries_few (entry ∷ entries) each =
    let a = length-append (entry_bytes entry) (entries_bytes entries) in
    let b = entry_size entry in
    let c = who_short entry.who each.0.0 in
    let d = entries_few entries each.1 in
    omega (arith, a, b, c, d)

first_left : (a b c d e : Bool) → (a && b && c && d && e) ≡ true → a ≡ true
first_left true b c d e is = refl
first_left false b c d e is = absurd (grind (arith, is))

pub list_few : (entries : List AccessEntry) → IsTrue (is_access_list entries) → length entries ≤ 16
list_few entries is = by (nat_le (length entries) 16) refl (first_left _ _ _ _ _ is)
  where
    by : (b : Bool) → nat_le (length entries) 16 ≡ b → b ≡ true → length entries ≤ 16
    by true e f = grind (arith, nat_tests)
    by false e f = absurd (grind (arith, f))

pub entries_last : (made : List AccessEntry) (entry : AccessEntry) → entries_bytes (made ++ entry ∷ []) ≡ entries_bytes made ++ entry_bytes entry
entries_last [] entry = append-nil (entry_bytes entry)
entries_last (first ∷ made) entry = ap (λ (l : List ℕ). entry_bytes first ++ l) (entries_last made entry) ∙ sym (append_assoc (entry_bytes first) (entries_bytes made) (entry_bytes entry))

pub each_last : (made : List AccessEntry) (entry : AccessEntry) → EachFits made → FitsEntry entry → EachFits (made ++ entry ∷ [])
each_last [] entry each fits = (fits, tt)
each_last (first ∷ made) entry each fits = (each.0, each_last made entry each.1 fits)

-- a list as far as it was read: its first entries stand from 1 on, up to a place
pub record Stands (bytes : List ℕ) (made : List AccessEntry) (at : ℕ) : Type 0 where
  pub each : EachFits made
  pub size : at ≡ 1 + length (entries_bytes made)
  pub starts : StartsAt bytes 1 (entries_bytes made)

pub stands_next : (bytes : List ℕ) (made new : List AccessEntry) (at size : ℕ) (entry : AccessEntry)
    → Stands bytes made at → EntryStands bytes at entry → new ≡ made ++ entry ∷ [] → size ≡ length (who_bytes entry.who) → Stands bytes new (at + (size + 1))
stands_next bytes made new at size entry stands is push size_is = subst (λ (l : List AccessEntry). Stands bytes l (at + (size + 1))) (sym push) (record {
  each = each_last made entry stands.each is.0;
  size = (let a = stands.size in let b = ap length whole in let c = length-append (entries_bytes made) (entry_bytes entry) in let d = entry_size entry in omega (arith, a, b, c, d, size_is));
  starts = subst (λ (l : List ℕ). StartsAt bytes 1 l) (sym whole) (starts_both bytes 1 (entries_bytes made) (entry_bytes entry) stands.starts (subst (λ (n : ℕ). StartsAt bytes n (entry_bytes entry)) stands.size is.1));
})
  where
    whole : entries_bytes (made ++ entry ∷ []) ≡ entries_bytes made ++ entry_bytes entry
    whole = entries_last made entry

pub stands_none : (bytes : List ℕ) → Stands bytes [] 1
stands_none bytes = record { each = tt; size = refl; starts = λ k lt. absurd (omega (arith, lt)) }

-- what is left of a list stands behind that
pub record Left (bytes : List ℕ) (entries made : List AccessEntry) (at : ℕ) : Type 0 where
  pub rest : List AccessEntry
  pub whole : entries ≡ made ++ rest
  pub each : EachFits rest
  pub starts : StartsAt bytes at (entries_bytes rest)

abbrev pub block_of : List ℕ → ℕ → ℕ
block_of bytes k = get_or bytes k 0

pub count_is : (bytes : List ℕ) (entries : List AccessEntry) → HoldsList entries (block_of bytes) → get_or bytes 0 0 ≡ length entries
count_is bytes entries is = is.bytes 0 (omega arith)

pub left_first : (bytes : List ℕ) (entries : List AccessEntry) → HoldsList entries (block_of bytes) → Left bytes entries [] 1
left_first bytes entries is = record {
  rest = entries;
  whole = refl;
  each = is.each;
  starts = (λ k lt.
      let e : 1 + k ≡ suc k = omega arith in
      let few = entries_few entries is.each in
      let most = list_few entries is.list in
      (λ j. get_or bytes (e j) 0) ∙ is.bytes (suc k) (omega (arith, lt, few, most)));
}

left_next : (bytes : List ℕ) (entries made : List AccessEntry) (at : ℕ) (entry : AccessEntry) (rest : List AccessEntry)
    → entries ≡ made ++ entry ∷ rest → EachFits (entry ∷ rest) → StartsAt bytes at (entries_bytes (entry ∷ rest))
    → Left bytes entries (made ++ entry ∷ []) (at + length (who_bytes entry.who) + 1)
left_next bytes entries made at entry rest whole each is =
    let size = entry_size entry in
    let e : at + length (entry_bytes entry) ≡ at + length (who_bytes entry.who) + 1 = omega (arith, size) in
    record {
      rest = rest;
      whole = whole ∙ sym (append_assoc made (entry ∷ []) rest);
      each = each.1;
      starts = subst (λ (n : ℕ). StartsAt bytes n (entries_bytes rest)) e
          (starts_behind bytes at (entry_bytes entry) (entries_bytes rest) is);
    }

-- where a list goes on, an entry stands
pub left_entry : (bytes : List ℕ) (entries made : List AccessEntry) (at : ℕ)
    → Left bytes entries made at → length made < length entries → (entry : AccessEntry) × (rest : List AccessEntry) × (entries ≡ made ++ entry ∷ rest) × EachFits (entry ∷ rest) × StartsAt bytes at (entries_bytes (entry ∷ rest))
left_entry bytes entries made at left lt = by left.rest left.whole left.each left.starts
  where
    by : (rest : List AccessEntry) → entries ≡ made ++ rest → EachFits rest → StartsAt bytes at (entries_bytes rest)
        → (entry : AccessEntry) × (others : List AccessEntry) × (entries ≡ made ++ entry ∷ others) × EachFits (entry ∷ others) × StartsAt bytes at (entries_bytes (entry ∷ others))
    by [] whole each is = absurd (let a = ap length whole in let b = length-append made [] in omega (arith, a, b, lt))
    by (e ∷ rest) whole each is = (e, rest, whole, each, is)

pub left_stands : (bytes : List ℕ) (entries made : List AccessEntry) (at : ℕ)
    → Left bytes entries made at → length made < length entries → (entry : AccessEntry) × EntryStands bytes at entry
left_stands bytes entries made at left lt =
    let next = left_entry bytes entries made at left lt in
    (next.0, (next.3.0, starts_front bytes at (entry_bytes next.0) (entries_bytes next.1) next.4))

pub left_step : (bytes : List ℕ) (entries made new : List AccessEntry) (at size : ℕ) (entry : AccessEntry)
    → Left bytes entries made at → length made < length entries
    → ((e : AccessEntry) → EntryStands bytes at e → entry ≡ e)
    → new ≡ made ++ entry ∷ [] → size ≡ length (who_bytes entry.who) → Left bytes entries new (at + (size + 1))
left_step bytes entries made new at size entry left lt reads push size_is =
    let next = left_entry bytes entries made at left lt in
    let e = next.0 in
    let same : entry ≡ e = reads e (next.3.0, starts_front bytes at (entry_bytes e) (entries_bytes next.1) next.4) in
    let s = ap (λ (x : AccessEntry). length (who_bytes x.who)) same in
    let there : at + length (who_bytes e.who) + 1 ≡ at + (size + 1) = omega (arith, s, size_is) in
    let now : made ++ e ∷ [] ≡ new = sym (push ∙ (λ j. made ++ same j ∷ [])) in
    subst (λ (n : ℕ). Left bytes entries new n) there
    (subst (λ (l : List AccessEntry). Left bytes entries l (at + length (who_bytes e.who) + 1)) now
    (left_next bytes entries made at e next.1 next.2 next.3 next.4))

pub left_none : (bytes : List ℕ) (entries made : List AccessEntry) (at : ℕ) → Left bytes entries made at → length made ≡ length entries → made ≡ entries
left_none bytes entries made at left same = by left.rest left.whole
  where
    by : (rest : List AccessEntry) → entries ≡ made ++ rest → made ≡ entries
    by [] whole = sym (whole ∙ append-nil made)
    by (e ∷ rest) whole = absurd (let a = ap length whole in let b = length-append made (e ∷ rest) in omega (arith, a, b, same))

-- the block of a list that was read whole
pub holds_list : (bytes : List ℕ) (made : List AccessEntry) (at : ℕ) → Stands bytes made at → get_or bytes 0 0 ≡ length made
    → ((k : ℕ) → at ≤ k → k < 1024 → get_or bytes k 0 ≡ 0) → IsTrue (is_access_list made) → HoldsList made (block_of bytes)
holds_list bytes made at stands count zeros list = record { bytes = by; list = list; each = stands.each }
  where
    behind : (m : ℕ) → suc m < 1024 → (b : Bool) → nat_lt m (length (entries_bytes made)) ≡ b → get_or bytes (suc m) 0 ≡ get_or (entries_bytes made) m 0
    behind m lt true e = let there : suc m ≡ 1 + m = omega arith in (λ j. get_or bytes (there j) 0) ∙ stands.starts m (grind (arith, nat_tests, e))
    behind m lt false e =
        let high : length (entries_bytes made) ≤ m = grind (arith, nat_tests, e) in
        let size = stands.size in
        zeros (suc m) (omega (arith, size, high)) lt ∙ sym (get_or_past (entries_bytes made) m 0 high)

    by : (k : ℕ) → k < 1024 → block_of bytes k ≡ get_or (list_bytes made) k 0
    by zero lt = count
    by (suc m) lt = behind m lt (nat_lt m (length (entries_bytes made))) refl

pub zeros_behind : (bytes : List ℕ) (entries made : List AccessEntry) (at : ℕ) → Stands bytes made at → HoldsList entries (block_of bytes) → made ≡ entries
    → (k : ℕ) → at ≤ k → k < 1024 → get_or bytes k 0 ≡ 0
zeros_behind bytes entries made at stands is same = λ k le lt.
    let size = stands.size in
    let e = ap (λ (l : List AccessEntry). length (entries_bytes l)) same in
    is.bytes k lt ∙ get_or_past (list_bytes entries) k 0 (omega (arith, size, e, le))

-- rights have six bits
pub rights_kept : (n : ℕ) → n < 64 → bit_and n 63 ≡ n
rights_kept n lt = and_mask n 6 ∙ mod-eq_of_lt lt

-- a list that was laid in a block of zeros
pub laid_list : (block bytes : List ℕ) (entries : List AccessEntry) → bytes ≡ list_bytes entries → length bytes ≤ 1024
    → ((k : ℕ) → k < length bytes → get_or block k 0 ≡ get_or bytes k 0) → ((k : ℕ) → length bytes ≤ k → k < 1024 → get_or block k 0 ≡ 0)
    → (k : ℕ) → k < 1024 → get_or block k 0 ≡ get_or (list_bytes entries) k 0
laid_list block bytes entries is few inside outside k lt = by (nat_lt k (length bytes)) refl
  where
    by : (b : Bool) → nat_lt k (length bytes) ≡ b → get_or block k 0 ≡ get_or (list_bytes entries) k 0
    by true e = inside k (grind (arith, nat_tests, e)) ∙ (λ j. get_or (is j) k 0)
    by false e =
        let high : length bytes ≤ k = grind (arith, nat_tests, e) in
        outside k high lt ∙ sym (get_or_past (list_bytes entries) k 0 (let s = ap length is in omega (arith, s, high)))

-- whom an entry with a name speaks of
module _ (bytes : List ℕ) (at : ℕ) (name : List ℕ)
    (reads : (other : List ℕ) → NameStands bytes (at + 1) other → name ≡ other) where
  other_kind : (x y : ℕ) (xs : List ℕ) → get_or bytes at 0 ≡ x → StartsAt bytes at (y ∷ xs) → x ≡ y
  other_kind x y xs is starts = sym is ∙ starts_first bytes at y xs starts

  pub user_read : get_or bytes at 0 ≡ 2 → (who : Who) → FitsWho who → StartsAt bytes at (who_bytes who) → User name ≡ who
  user_read is UserObj fits s = absurd (let e = other_kind 2 1 [] is s in omega (arith, e))
  user_read is (User other) fits s = ap User (reads other (fits, starts_next bytes at 2 (length other ∷ other) s))
  user_read is GroupObj fits s = absurd (let e = other_kind 2 3 [] is s in omega (arith, e))
  user_read is (Group other) fits s = absurd (let e = other_kind 2 4 (length other ∷ other) is s in omega (arith, e))
  user_read is OtherObj fits s = absurd (let e = other_kind 2 5 [] is s in omega (arith, e))
  user_read is MaskObj fits s = absurd (let e = other_kind 2 6 [] is s in omega (arith, e))

  pub group_read : get_or bytes at 0 ≡ 4 → (who : Who) → FitsWho who → StartsAt bytes at (who_bytes who) → Group name ≡ who
  group_read is UserObj fits s = absurd (let e = other_kind 4 1 [] is s in omega (arith, e))
  group_read is (User other) fits s = absurd (let e = other_kind 4 2 (length other ∷ other) is s in omega (arith, e))
  group_read is GroupObj fits s = absurd (let e = other_kind 4 3 [] is s in omega (arith, e))
  group_read is (Group other) fits s = ap Group (reads other (fits, starts_next bytes at 4 (length other ∷ other) s))
  group_read is OtherObj fits s = absurd (let e = other_kind 4 5 [] is s in omega (arith, e))
  group_read is MaskObj fits s = absurd (let e = other_kind 4 6 [] is s in omega (arith, e))

-- where an entry speaks so, a name stands
pub kinds_named : (bytes : List ℕ) (at : ℕ) → (get_or bytes at 0 ≡ 2) ⊎ (get_or bytes at 0 ≡ 4) → (who : Who) → WhoStands bytes at who → (name : List ℕ) × NameStands bytes (at + 1) name
kinds_named bytes at is UserObj stands = absurd (let e = starts_first bytes at 1 [] stands.1 in omega (arith, e, is))
kinds_named bytes at is (User name) stands = (name, (stands.0, starts_next bytes at 2 (length name ∷ name) stands.1))
kinds_named bytes at is GroupObj stands = absurd (let e = starts_first bytes at 3 [] stands.1 in omega (arith, e, is))
kinds_named bytes at is (Group name) stands = (name, (stands.0, starts_next bytes at 4 (length name ∷ name) stands.1))
kinds_named bytes at is OtherObj stands = absurd (let e = starts_first bytes at 5 [] stands.1 in omega (arith, e, is))
kinds_named bytes at is MaskObj stands = absurd (let e = starts_first bytes at 6 [] stands.1 in omega (arith, e, is))

-- what is read of one thing where another one stands
pub read_err : {A B : Type 0} (a : A) (b : B) (fault : ListRefused) → IsReadAs {A = A} a (Err fault) → IsReadAs {A = B} b (Err fault)
read_err a b Memory is = tt
read_err a b BadList is = is

pub read_weaker : {A : Type 0} (list : A) (result : Result A ListRefused) → IsReadAs list result → IfOk result (λ made. made ≡ list)
read_weaker list (Ok made) is = is
read_weaker list (Err fault) is = tt

-- a list that was read of a block
pub holds_as : (bytes : List ℕ) (block : ℕ → ℕ) (entries : List AccessEntry) → ((k : ℕ) → k < 1024 → get_or bytes k 0 ≡ block k) → HoldsList entries (block_of bytes) → HoldsList entries block
holds_as bytes block entries same is = record { bytes = λ k lt. sym (same k lt) ∙ is.bytes k lt; list = is.list; each = is.each }

pub as_holds : (bytes : List ℕ) (block : ℕ → ℕ) (entries : List AccessEntry) → ((k : ℕ) → k < 1024 → get_or bytes k 0 ≡ block k) → HoldsList entries block → HoldsList entries (block_of bytes)
as_holds bytes block entries same is = record { bytes = λ k lt. same k lt ∙ is.bytes k lt; list = is.list; each = is.each }

-- a list that was made of entries that were read
pub new_holds : (result : Result (List AccessEntry) ListRefused) (slice made : List AccessEntry) (block : ℕ → ℕ) → IfOk result (λ list. list ≡ slice) → slice ≡ made
    → (IsErrOf result BadList ↔ (is_access_list slice ≡ false)) → (IsTrue (is_access_list made) → HoldsList made block) → IfOk result (λ list. HoldsList list block)
new_holds (Err fault) slice made block ok same bad holds = tt
new_holds (Ok list) slice made block ok same bad holds = by (is_access_list slice) refl
  where
    by : (b : Bool) → is_access_list slice ≡ b → HoldsList list block
    by true e = subst (λ (l : List AccessEntry). HoldsList l block) (sym (ok ∙ same)) (holds ((λ j. is_access_list (sym same j)) ∙ e))
    by false e = absurd (let no = bad.1 e in grind (arith, no))

-- an anode's list that was written as a block
list_same : (which : ℕ) (block : List ℕ) (entries : List AccessEntry) (anode : Anode) → ((k : ℕ) → k < 1024 → get_or block k 0 ≡ get_or (list_bytes entries) k 0) → with_list which block anode ≡ with_list which (list_bytes entries) anode
list_same which block entries anode same = λ j. record anode { lists = λ w k. if w == which then by k (nat_lt k 1024) refl j else anode.lists w k }
  where
    by : (k : ℕ) → (b : Bool) → nat_lt k 1024 ≡ b → (if b then get_or block k 0 else 0) ≡ (if b then get_or (list_bytes entries) k 0 else 0)
    by k true e = same k (grind (arith, nat_tests, e))
    by k false e = refl

pub changed_list : (page which : ℕ) (block : List ℕ) (entries : List AccessEntry) (old new : State) (before after : List ℕ) → ((k : ℕ) → k < 1024 → get_or block k 0 ≡ get_or (list_bytes entries) k 0)
    → Changed page (with_list which block) old before new after → Changed page (with_list which (list_bytes entries)) old before new after
changed_list page which block entries old new before after same changed = record {
  turns = changed.turns;
  anode = changed.anode ∙ list_same which block entries (anode_in old before page) same;
  tidy = changed.tidy;
  trimmed = changed.trimmed;
  renewed = changed.renewed;
}

pub changed_holds : (page which : ℕ) (entries : List AccessEntry) (old new : State) (before after : List ℕ) → IsTrue (is_access_list entries) → EachFits entries
    → Changed page (with_list which (list_bytes entries)) old before new after → HoldsList entries ((anode_in new after page).lists which)
changed_holds page which entries old new before after list each changed = record {
  bytes = λ k lt. (λ j. (changed.anode j).lists which k)
      ∙ (let a : (which == which) ≡ true = grind (arith, nat_tests) in let b : nat_lt k 1024 ≡ true = grind (arith, nat_tests, lt) in
      λ j. if a j then (if b j then get_or (list_bytes entries) k 0 else 0) else (anode_in old before page).lists which k);
  list = list;
  each = each;
}
