-- The cache writes as the rules do.
use Rattle.base_types.specs.Ids.{same_fid}
use Rattle.base_types.specs.Image.{byte_at}
use Rattle.base_types.specs.declared.ids.Fid.{Fid}
use Rattle.host_cache.specs.Bytes.{is_within}
use Rattle.host_cache.specs.Seen.{Kept, Seen, after_length, after_write, seen}
use Rattle.host_tables.proofs.Lists.{by_test, same_fid_is}
use Rattle.host_tables.specs.Tables.{content}
use Rattle.host_tables.specs.Writing.{WritesAlike, written_cache}
use Rattle.need_host.specs.Calls.{written_value}
use Rattle.need_host.specs.Looks.{View}
use Rattle.run_rules.specs.Views.{nature_told}
use Rattle.std.proofs.Common.{Bool, List, None, Option, Some, ap, if◌then◌else◌, inl, inr, is_some, length, nat_lt}
use Rattle.std.proofs.Common.{refl, subst, sym, true, unwrap_or, ℕ, ◌&&◌, ◌+◌, ◌-◌, ◌∙◌, ◌≡◌}
use Rattle.std.specs.Option.{option_map, option_map_or}
use Rattle.std.specs.Prelude.{false}
use Rattle.tree_calls.specs.declared.part.Status.{Status}
use Rattle.tree_laws.specs.Parts.{Nature, Part, Seen as SeenPart}
use Rattle.tree_laws.specs.Parts.Part.{ByteAt, Entries, Size, Traits}

-- what a view of the cache shows, by what is seen
abbrev shown : Seen → View
shown s fid (ByteAt at) = unwrap_or (s.bytes fid at) 0
shown s fid Size = option_map_or (λ status. status.length) (s.status fid) 0
shown s fid Traits = option_map nature_told (s.status fid)
shown s fid Entries = s.entries fid

content_shown : (kept : Kept) (fid : Fid) (part : Part) → content kept fid part ≡ shown (seen kept) fid part
content_shown kept fid (ByteAt at) = refl
content_shown kept fid Size = refl
content_shown kept fid Traits = refl
content_shown kept fid Entries = refl

abbrev written_to : Bool → ℕ → List ℕ → (part : Part) → SeenPart part → SeenPart part
written_to same from bytes part x = if same then written_value from bytes part x else x

byte_written : (same within : Bool) (value : ℕ) (before : Option ℕ)
    → unwrap_or (if same && within then Some value else before) 0
    ≡ (if same then (if within then value else unwrap_or before 0) else unwrap_or before 0)
byte_written true true value before = refl
byte_written true false value before = refl
byte_written false within value before = refl

size_grown : (same : Bool) (status : Option Status) (n : ℕ) (b : Bool) → b ≡ true
    → (same ≡ true → is_some status ≡ true)
    → option_map_or (λ (status : Status). status.length) (if same
    then option_map (λ (status : Status). record status { length = n }) status else status) 0
    ≡ (if same then (if b then n else option_map_or (λ (status : Status). status.length) status 0)
    else option_map_or (λ (status : Status). status.length) status 0)
size_grown false status n b e some = refl
size_grown true (Some status) n true e some = refl
size_grown true (Some status) n false e some = absurd (cc)
size_grown true None n b e some = let p = some refl in absurd (cc)

size_kept : (same : Bool) (x n : ℕ) (b : Bool) → b ≡ false → x ≡ (if same then (if b then n else x) else x)
size_kept false x n b e = refl
size_kept true x n false e = refl
size_kept true x n true e = absurd (cc)

nature_same : (same : Bool) (status : Option Status) (n : ℕ)
    → option_map nature_told (if same then option_map (λ (status : Status). record status { length = n }) status
    else status) ≡ option_map nature_told status
nature_same true (Some status) n = refl
nature_same true None n = refl
nature_same false status n = refl

same_both : {A : Type 0} (b : Bool) (x : A) → x ≡ (if b then x else x)
same_both true x = refl
same_both false x = refl

module _ (old : Seen) (fid : Fid) (from : ℕ) (bytes : List ℕ) (status : is_some (old.status fid) ≡ true) where
  abbrev end : ℕ
  end = from + length bytes

  has_status : (other : Fid) → same_fid fid other ≡ true → is_some (old.status other) ≡ true
  has_status other e = subst (λ (x : Fid). is_some (old.status x) ≡ true) (same_fid_is fid other e) status

  sizes : (other : Fid) → same_fid fid other ≡ true → shown old fid Size ≡ shown old other Size
  sizes other e = ap (λ (x : Fid). shown old x Size) (same_fid_is fid other e)

  by_growth : (b : Bool) → nat_lt (shown old fid Size) end ≡ b → (other : Fid) (part : Part)
      → shown (if b then after_length (after_write old fid from bytes) fid end else after_write old fid from bytes)
      other part
      ≡ written_to (same_fid fid other) from bytes part (shown old other part)
  by_growth true g other (ByteAt at) = byte_written (same_fid fid other) (is_within from (length bytes) at)
      (byte_at bytes (at - from)) (old.bytes other at)
  by_growth false g other (ByteAt at) = byte_written (same_fid fid other) (is_within from (length bytes) at)
      (byte_at bytes (at - from)) (old.bytes other at)
  by_growth true g other Entries = same_both (same_fid fid other) (old.entries other)
  by_growth false g other Entries = same_both (same_fid fid other) (old.entries other)
  by_growth true g other Traits = nature_same (same_fid fid other) (old.status other) end
      ∙ same_both (same_fid fid other) (option_map nature_told (old.status other))
  by_growth false g other Traits = same_both (same_fid fid other) (option_map nature_told (old.status other))
  by_growth true g other Size = elim (by_test (same_fid fid other)) [
    | inl e ↦ size_grown (same_fid fid other) (old.status other) end (nat_lt (shown old other Size) end)
        (ap (λ (x : ℕ). nat_lt x end) (sym (sizes other e)) ∙ g) (has_status other)
    | inr e ↦ apart (same_fid fid other) e (old.status other) (nat_lt (shown old other Size) end)
  ]
    where
      apart : (same : Bool) → same ≡ false → (status : Option Status) (b : Bool)
          → option_map_or (λ (status : Status). status.length) (if same
          then option_map (λ (status : Status). record status { length = end }) status else status) 0
          ≡ (if same then (if b then end else option_map_or (λ (status : Status). status.length) status 0)
          else option_map_or (λ (status : Status). status.length) status 0)
      apart false e status b = refl
      apart true e status b = absurd (cc)
  by_growth false g other Size = elim (by_test (same_fid fid other)) [
    | inl e ↦ size_kept (same_fid fid other) (shown old other Size) end (nat_lt (shown old other Size) end)
        (ap (λ (x : ℕ). nat_lt x end) (sym (sizes other e)) ∙ g)
    | inr e ↦ apart (same_fid fid other) e (shown old other Size) (nat_lt (shown old other Size) end)
  ]
    where
      apart : (same : Bool) → same ≡ false → (x : ℕ) (b : Bool) → x ≡ (if same then (if b then end else x) else x)
      apart false e x b = refl
      apart true e x b = absurd (cc)

  pub written : (other : Fid) (part : Part) → shown (written_cache old fid from bytes (shown old fid Size)) other part
      ≡ written_to (same_fid fid other) from bytes part (shown old other part)
  written other part = by_growth (nat_lt (shown old fid Size) end) refl other part

some_of : (o : Option Status) (nature : Nature) → option_map nature_told o ≡ Some nature → is_some o ≡ true
some_of (Some x) nature e = refl
some_of None nature e = absurd (cc)

pub writes_alike : WritesAlike
writes_alike old new host line k place fid from bytes nature known told other part =
    content_shown new other part
    ∙ (ap (λ (x : Seen). shown x other part) told
    ∙ (written (seen old) fid from bytes (some_of ((seen old).status fid) nature known) other part
    ∙ ap (λ x. if same_fid fid other then written_value from bytes part x else x) (sym (content_shown old other part))))
