-- Directories before and after a change.
use Rattle.std.proofs.Common.{◌≡◌, ◌<◌, ◌≤◌, ℕ, zero, suc, ◌+◌, ◌*◌, List, [], ◌∷◌, ◌++◌, length, take, drop, get_or, refl, sym, ◌∙◌, ap, subst, inl, arith}
use Rattle.std.specs.Prelude.{Bool, true, false, filter, if◌then◌else◌, nat_lt}
use Rattle.std.proofs.lemmas.List.{length-append, length-take-le, get_or-take, get_or_append_left, get_or-append_right, get_or_past}
use Rattle.std.proofs.lemmas.Bool.Decides.{nat_tests}
use Rattle.tree_calls.specs.declared.part.DirEntry.{DirEntry}
use Rattle.tree_objects.specs.Sound.{names_rise}
use Rattle.disk_log.specs.State.{State}
use Rattle.disk_anode.specs.Anode.{Anode, anode_in, length_for, over, ended}
use Rattle.disk_anode.specs.Changes.{Changed}
use Rattle.disk_anode.proofs.Laid.{over_inside, over_outside}
use Rattle.disk_lists.specs.Entries.{bytes_of, with_entries, IsEntry, EachFits, IsDirectory}
use Rattle.disk_lists.proofs.Laid.{length-bytes_of}

-- bytes that end with a piece are those of other entries
module _ (anode : Anode) (entries made : List DirEntry) (at : ℕ) (piece : List ℕ) (is : IsDirectory entries anode) (each : EachFits made) (le : at ≤ length (bytes_of entries))
    (bytes : bytes_of made ≡ take at (bytes_of entries) ++ piece) where
  front : length (take at (bytes_of entries)) ≡ at
  front = length-take-le at (bytes_of entries) le

  whole : 72 * length made ≡ at + length piece
  whole = sym (length-bytes_of made each) ∙ ap length bytes ∙ length-append (take at (bytes_of entries)) piece ∙ (λ j. front j + length piece)

  length_is : length_for anode.kind (at + length piece) ≡ length made
  length_is = (let e = is.kind in λ j. length_for (e j) (at + length piece)) ∙ (let w = whole in omega (arith, w))

  content_is : (k : ℕ) → (if nat_lt k (at + length piece) then over at piece anode.content k else 0) ≡ get_or (bytes_of made) k 0
  content_is k = by (nat_lt k (at + length piece)) refl (nat_lt k at) refl
    where
      by : (a : Bool) → nat_lt k (at + length piece) ≡ a → (b : Bool) → nat_lt k at ≡ b → (if a then over at piece anode.content k else 0) ≡ get_or (bytes_of made) k 0
      by true a true b =
          let low : k < at = grind (arith, nat_tests) in
          over_outside at piece anode.content k (inl low) ∙ is.content k
          ∙ sym (get_or-take at (bytes_of entries) k 0 low) ∙ sym (get_or_append_left (take at (bytes_of entries)) piece 0 k (omega (arith, front, low))) ∙ (λ j. get_or (sym bytes j) k 0)
      by true a false b =
          let high : at ≤ k = grind (arith, nat_tests) in
          let lt : k < at + length piece = grind (arith, nat_tests) in
          over_inside at piece anode.content k high lt
          ∙ sym (get_or-append_right (take at (bytes_of entries)) piece at k 0 front high) ∙ (λ j. get_or (sym bytes j) k 0)
      by false a b e =
          let high : at + length piece ≤ k = grind (arith, nat_tests) in
          sym (get_or_past (bytes_of made) k 0 (let w = whole in let l = length-bytes_of made each in omega (arith, w, l, high)))

  pub ended_is : ended at piece anode ≡ with_entries made anode
  ended_is = λ j. record anode { length = length_is j; content = λ k. content_is k j }

-- a change, said of the pages before a quiet run
pub changed_as : (page : ℕ) (update other : Anode → Anode) (old mid new : State) (before middle after : List ℕ) → mid ≡ old → middle ≡ before → update (anode_in old before page) ≡ other (anode_in old before page)
    → Changed page update mid middle new after → Changed page other old before new after
changed_as page update other old mid new before middle after same quiet is changed = by (subst (λ (s : State). Changed page update s before new after) same (subst (λ (l : List ℕ). Changed page update mid l new after) quiet changed))
  where
    by : Changed page update old before new after → Changed page other old before new after
    by there = record { turns = there.turns; anode = there.anode ∙ is; tidy = there.tidy; trimmed = there.trimmed; renewed = there.renewed }

pub changed_none : (page : ℕ) (update : Anode → Anode) (old new : State) (before after : List ℕ) → new ≡ old → after ≡ before → anode_in old before page ≡ update (anode_in old before page) → Changed page update old before new after
changed_none page update old new before after same quiet is = subst (λ (s : State). Changed page update old before s after) (sym same) (subst (λ (l : List ℕ). Changed page update old before old l) (sym quiet)
    (record {
      turns = record { counts = λ b lt. refl; settled = λ b lt. refl; tail = λ b spare. refl; pages = λ p low apart. refl };
      anode = is;
      tidy = λ tidy. tidy;
      trimmed = λ trimmed. trimmed;
      renewed = inl (refl, refl);
    }))

-- the directory then
pub directory_with : (anode : Anode) (entries made : List DirEntry) → IsDirectory entries anode → length made ≤ 64 → EachFits made → names_rise made ≡ true → IsDirectory made (with_entries made anode)
directory_with anode entries made is few each rise = record { kind = is.kind; length_is = refl; few = few; content = λ k. refl; each = each; rise = rise }

pub same_entries : (anode : Anode) (entries : List DirEntry) → IsDirectory entries anode → anode ≡ with_entries entries anode
same_entries anode entries is = λ j. record anode { length = is.length_is j; content = λ k. is.content k j }

-- entries that are left fit
pub fits_filter : (test : DirEntry → Bool) (entries : List DirEntry) → EachFits entries → EachFits (filter test entries)
fits_filter test [] each = tt
fits_filter test (entry ∷ entries) each = by (test entry) (fits_filter test entries each.1)
  where
    by : (b : Bool) → EachFits (filter test entries) → EachFits (if b then entry ∷ filter test entries else filter test entries)
    by true rest = (each.0, rest)
    by false rest = rest

pub fits_insert : (place : ℕ) (entry : DirEntry) (entries : List DirEntry) → IsEntry entry → EachFits entries → EachFits (take place entries ++ entry ∷ drop place entries)
fits_insert zero entry entries is each = (is, each)
fits_insert (suc place) entry [] is each = (is, tt)
fits_insert (suc place) entry (first ∷ entries) is each = (each.0, fits_insert place entry entries is each.1)

pub length-filter : (test : DirEntry → Bool) (entries : List DirEntry) → length (filter test entries) ≤ length entries
length-filter test [] = omega arith
length-filter test (entry ∷ entries) = by (test entry) (length-filter test entries)
  where
    by : (b : Bool) → length (filter test entries) ≤ length entries → length (if b then entry ∷ filter test entries else filter test entries) ≤ suc (length entries)
    by true rest = omega (arith, rest)
    by false rest = omega (arith, rest)

-- other entries in place of all
pub ended_all : (anode : Anode) (entries made : List DirEntry) (piece : List ℕ) → IsDirectory entries anode → EachFits made → piece ≡ bytes_of made → ended 0 piece anode ≡ with_entries made anode
ended_all anode entries made piece is each laid = ended_is anode entries made 0 piece is each (omega arith) (sym laid)
