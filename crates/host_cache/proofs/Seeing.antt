-- What a cache shows, where the held tokens or what is kept of a file change.
use Rattle.std.proofs.Common.{◌≡◌, ◌↔◌, ◌≤◌, ◌<◌, ℕ, ◌+◌, ◌-◌, Bool, true}
use Rattle.std.proofs.Common.{false, ◌&&◌, ◌||◌, List, [], ◌∷◌, map, length, Option}
use Rattle.std.proofs.Common.{Some, None, refl, sym, ap, ◌∙◌, subst, arith}
use Rattle.std.proofs.Common.{if◌then◌else◌, All, option_map, inl, inr, take, drop, slice_get, length-drop}
use Rattle.std.specs.Bool.{IsTrue}
use Rattle.std.specs.List.{filter, list_any}
use Rattle.std.proofs.lemmas.Bool.{and_parts, or_cases, or_left, or_right, cases_lt, cond-false, and_right}
use Rattle.std.proofs.lemmas.Bool.Decides.{nat_tests}
use Rattle.std.proofs.lemmas.Grind.{common_steps}
use Rattle.std.proofs.lemmas.List.Elements.{All-head, All-tail}
use Rattle.std.proofs.lemmas.List.{length-take-le, get_or-take, get_or-drop}
use Rattle.std.proofs.lemmas.Option.{slice_get-get_or}
use Rattle.base_types.specs.Image.{byte_at}
use Rattle.base_types.specs.Ids.{same_fid}
use Rattle.base_types.specs.Spans.{has_byte}
use Rattle.base_types.specs.declared.ids.Fid.{Fid}
use Rattle.tree_calls.specs.declared.part.Status.{Status as StatusOf}
use Rattle.token_types.specs.Covers.{does_for, kind_covers_byte, covers_byte}
use Rattle.token_types.specs.Covers.{covers_alone, kind_covers, CoversBetween, CoversKind}
use Rattle.token_types.specs.declared.token.Kind.{Kind}
use Rattle.token_types.specs.declared.token.Kind.TheVariants.{Bytes, Status, Lock, Opening}
use Rattle.token_types.specs.declared.token.Token.{Token}
use Rattle.token_types.specs.declared.token.TokenId.{TokenId}
use Rattle.host_cache.specs.declared.held.Held.{Held}
use Rattle.host_cache.specs.Bytes.{is_within}
use Rattle.host_cache.specs.Holding.{is_id, tokens_of, with_use, kind_has_byte, shows_byte, tells_of}
use Rattle.host_cache.specs.Files.{FileKey, file_key, same_key, nothing, parts_at}
use Rattle.host_cache.specs.Files.{Puts, HasRoom, Grows, Writes, with_length, IsRoomy}
use Rattle.host_cache.specs.Parts.{Parts}
use Rattle.host_cache.specs.Seen.{Kept, Seen, seen, tells, shows}
use Rattle.host_cache.specs.Seen.{after_write, after_length, after_set_use, of_key, IsKept}
use Rattle.host_cache.proofs.Writing.{not_within_low, not_within_high}
use Rattle.host_cache.proofs.Filing.{puts_same, key_same, put_here, put_elsewhere, each_key, grows_roomy, writes_roomy}
use Rattle.host_cache.proofs.Lists.{any_kept, any_filter, any-map, filter-map}

abbrev pub Files : Type 0
Files = List (FileKey × Parts)

abbrev pub kept : List Held → Files → Kept
kept held files = record { held = held; files = files }

pub seen_is : (a b : Seen) → a.held ≡ b.held → ((fid : Fid) → a.status fid ≡ b.status fid) →
    ((fid : Fid) → a.entries fid ≡ b.entries fid) → ((fid : Fid) (at : ℕ) → a.bytes fid at ≡ b.bytes fid at) → a ≡ b
seen_is a b h s e y = λ i. record {
  held = h i;
  status = λ fid. s fid i;
  entries = λ fid. e fid i;
  bytes = λ fid at. y fid at i;
}

-- two files of which the same is kept beside the tokens
pub record AreAlike (a : Parts) (b : Parts) : Type 0 where
  pub status : a.status ≡ b.status
  pub entries : a.entries ≡ b.entries
  pub bytes : (at : ℕ) → byte_at a.bytes at ≡ byte_at b.bytes at

pub alike_same : (a b : Parts) → a ≡ b → AreAlike a b
alike_same a b e = record {
  status = ap (λ (p : Parts). p.status) e;
  entries = ap (λ (p : Parts). p.entries) e;
  bytes = λ at. ap (λ (p : Parts). byte_at p.bytes at) e;
}

-- tokens that show the same, of files of which the same is kept
pub seen_alike : (held held' : List Held) (files files' : Files) →
    ((fid : Fid) → tells held' fid ≡ tells held fid) → ((fid : Fid) (at : ℕ) → shows held' fid at ≡ shows held fid at) →
    ((key : FileKey) → AreAlike (parts_at files' key) (parts_at files key)) →
    seen (kept held' files') ≡ record (seen (kept held files)) { held = held' }
seen_alike held held' files files' t s alike =
    seen_is (seen (kept held' files')) (record (seen (kept held files)) { held = held' }) refl
    (λ fid i. if t fid i then (alike (file_key fid)).status i else None)
    (λ fid i. if s fid 0 i then (alike (file_key fid)).entries i else [])
    (λ fid at i. if s fid at i then Some ((alike (file_key fid)).bytes at i) else None)

-- ---- growth of room
pub grown : (held : List Held) (files files' : Files) → IsKept held files →
    ((key : FileKey) → Grows (parts_at files key) (parts_at files' key)) →
    IsKept held files' × (seen (kept held files') ≡ seen (kept held files))
grown held files files' inv grows = (
  record {
    tokens = λ key. (grows key).tokens ∙ inv.tokens key;
    room = λ key. grows_roomy (parts_at files key) (parts_at files' key) (grows key) (inv.room key);
    told = λ fid e. (grows (file_key fid)).status ∙ inv.told fid e;
  },
  seen_alike held held files files' (λ fid. refl) (λ fid at. refl)
      (λ key. record { status = (grows key).status; entries = (grows key).entries; bytes = (grows key).bytes }),
)

-- ---- what is covered
any_holds : {X : Type 0} (p q : X → Bool) → ((x : X) → p x ≡ true → q x ≡ true) → (xs : List X) →
    list_any p xs ≡ true → list_any q xs ≡ true
any_holds p q h [] e = e
any_holds p q h (x ∷ xs) e = elim (or_cases (p x) (list_any p xs) e) [
  | inl here ↦ or_left (q x) (list_any q xs) (h x here)
  | inr there ↦ or_right (q x) (list_any q xs) (any_holds p q h xs there)
]

any_all : {X : Type 0} (p : X → Bool) (P : X → Type 0) (R : Type 0) → ((x : X) → p x ≡ true → P x → R) → (xs : List X) →
    list_any p xs ≡ true → All P xs → R
any_all p P R h [] e all = absurd (grind (arith, e))
any_all p P R h (x ∷ xs) e all = elim (or_cases (p x) (list_any p xs) e) [
  | inl here ↦ h x here (All-head P x xs all)
  | inr there ↦ any_all p P R h xs there (All-tail P x xs all)
]

-- a test that only tokens of a file pass
module _ (fid : Fid) (test : Token → Bool) (own : (t : Token) → test t ≡ true → same_fid t.fid fid ≡ true) where
  pub any_own : (held : List Held) →
      list_any test (tokens_of (of_key (file_key fid) held)) ≡ list_any test (tokens_of held)
  any_own held =
      any-map test (λ (h : Held). h.token) (of_key (file_key fid) held)
      ∙ any_kept (λ h. test h.token) (λ h. same_key (file_key h.token.fid) (file_key fid)) (λ h e. own h.token e) held
      ∙ sym (any-map test (λ (h : Held). h.token) held)

own_byte : (fid : Fid) (update : Bool) (at : ℕ) (t : Token) → covers_byte fid update at t ≡ true →
    same_fid t.fid fid ≡ true
own_byte fid update at t e = (and_parts (same_fid t.fid fid) (kind_covers_byte update at t.kind) e).0

own_alone : (fid : Fid) (kind : Kind) (t : Token) → covers_alone fid kind t ≡ true → same_fid t.fid fid ≡ true
own_alone fid kind t e = (and_parts (same_fid t.fid fid) (kind_covers t.kind kind) e).0

-- what the tokens of a file cover of it is what all cover
module _ (held : List Held) (fid : Fid) where
  abbrev own : List Token
  own = tokens_of (of_key (file_key fid) held)

  byte_same : (update : Bool) (at : ℕ) →
      list_any (covers_byte fid update at) own ≡ list_any (covers_byte fid update at) (tokens_of held)
  byte_same update at = any_own fid (covers_byte fid update at) (own_byte fid update at) held

  alone_same : (kind : Kind) →
      list_any (covers_alone fid kind) own ≡ list_any (covers_alone fid kind) (tokens_of held)
  alone_same kind = any_own fid (covers_alone fid kind) (own_alone fid kind) held

  pub covers_all : (kind : Kind) → CoversKind own fid kind → CoversKind (tokens_of held) fid kind
  covers_all (Bytes update span) c = λ at low high. subst IsTrue (byte_same update at) (c at low high)
  covers_all (Status update) c = subst IsTrue (alone_same (Status update)) c
  covers_all (Lock writing span) c = subst IsTrue (alone_same (Lock writing span)) c
  covers_all (Opening kind) c = subst IsTrue (alone_same (Opening kind)) c

  pub covers_own : (kind : Kind) → CoversKind (tokens_of held) fid kind → CoversKind own fid kind
  covers_own (Bytes update span) c = λ at low high. subst IsTrue (sym (byte_same update at)) (c at low high)
  covers_own (Status update) c = subst IsTrue (sym (alone_same (Status update))) c
  covers_own (Lock writing span) c = subst IsTrue (sym (alone_same (Lock writing span))) c
  covers_own (Opening kind) c = subst IsTrue (sym (alone_same (Opening kind))) c

  pub covers_same : (tokens : List Token) → tokens ≡ own → (kind : Kind) →
      CoversKind tokens fid kind ↔ CoversKind (tokens_of held) fid kind
  covers_same tokens e kind = (
    λ c. covers_all kind (subst (λ ts. CoversKind ts fid kind) e c),
    λ c. subst (λ ts. CoversKind ts fid kind) (sym e) (covers_own kind c),
  )

-- a token that covers a byte has it
kind_has : (update : Bool) (at : ℕ) (kind : Kind) → kind_covers_byte update at kind ≡ true →
    kind_has_byte at kind ≡ true
kind_has update at (Bytes held span) e = (and_parts (does_for held update) (has_byte span at) e).1
kind_has update at (Status held) e = e
kind_has update at (Lock writing span) e = e
kind_has update at (Opening kind) e = e

-- what is covered is shown
pub covered_shown : (held : List Held) (fid : Fid) (update : Bool) (from to : ℕ) →
    CoversBetween (tokens_of held) fid update from to → (at : ℕ) → from ≤ at → at < to → shows held fid at ≡ true
covered_shown held fid update from to c at low high =
    any_holds (λ h. covers_byte fid update at h.token) (shows_byte fid at)
    (λ h e. let both = and_parts (same_fid h.token.fid fid) (kind_covers_byte update at h.token.kind) e in
    (λ i. both.0 i && kind_has update at h.token.kind both.1 i)) held
    (sym (any-map (covers_byte fid update at) (λ (h : Held). h.token) held) ∙ c at low high)

room_of : (at : ℕ) (kind : Kind) (bytes : List ℕ) → kind_has_byte at kind ≡ true → HasRoom kind bytes →
    at < length bytes
room_of at (Bytes update span) bytes e room =
    let below : at < span.to = grind (arith, nat_tests, common_steps, e) in omega (arith, below, room)
room_of at (Status update) bytes e room = absurd (grind (arith, e))
room_of at (Lock writing span) bytes e room = absurd (grind (arith, e))
room_of at (Opening kind) bytes e room = absurd (grind (arith, e))

-- there is room for what is covered
pub covered_room : (held : List Held) (files : Files) → IsKept held files → (fid : Fid) (update : Bool) (from to : ℕ) →
    CoversBetween (tokens_of held) fid update from to → from < to →
    to ≤ length (parts_at files (file_key fid)).bytes
covered_room held files inv fid update from to c lt =
    let parts = parts_at files (file_key fid) in
    let at = to - 1 in
    let any : list_any (covers_byte fid update at) parts.tokens ≡ true =
    ap (list_any (covers_byte fid update at)) (inv.tokens (file_key fid)) ∙ byte_same held fid update at
    ∙ c at (omega arith) (omega arith) in
    any_all (covers_byte fid update at) (λ t. HasRoom t.kind parts.bytes) (to ≤ length parts.bytes)
    (λ t e room. let both = and_parts (same_fid t.fid fid) (kind_covers_byte update at t.kind) e in
    let below : at < length parts.bytes = room_of at t.kind parts.bytes (kind_has update at t.kind both.1) room in
    omega (arith, below)) parts.tokens any (inv.room (file_key fid))

-- ---- bytes that are written
module _ (held : List Held) (files files' : Files) (inv : IsKept held files) (file : Fid) (from : ℕ) (piece : List ℕ)
    (covered : CoversBetween (tokens_of held) file true from (from + length piece)) (w : Parts)
    (put : Puts files (file_key file) w files') (writes : Writes from piece (parts_at files (file_key file)) w) where
  pub written_kept : IsKept held files'
  written_kept = record {
    tokens = each_key files files' (file_key file) w put (λ key parts. parts.tokens ≡ tokens_of (of_key key held))
        (writes.tokens ∙ inv.tokens (file_key file)) (λ other apart. inv.tokens other);
    room = each_key files files' (file_key file) w put (λ key parts. IsRoomy parts)
        (writes_roomy (parts_at files (file_key file)) w from piece writes (inv.room (file_key file)))
        (λ other apart. inv.room other);
    told = λ fid e. each_key files files' (file_key file) w put
        (λ key parts. (parts_at files key).status ≡ None → parts.status ≡ None)
        (λ none. writes.status ∙ none) (λ other apart none. none) (file_key fid) (inv.told fid e);
  }

  byte_written : (fid : Fid) (at : ℕ) → same_fid file fid ≡ true →
      (if shows held fid at then Some (byte_at w.bytes at) else None)
      ≡ (if is_within from (length piece) at then Some (byte_at piece (at - from))
      else if shows held fid at then Some (byte_at (parts_at files (file_key file)).bytes at) else None)
  byte_written fid at e =
      let n = length piece in
      let raw = byte_at (parts_at files (file_key file)).bytes at in
      (λ i. if shows held fid at then Some (writes.bytes at i) else None)
      ∙ (elim (is_within from n at) as (λ b. is_within from n at ≡ b →
      (if shows held fid at then Some (if b then byte_at piece (at - from) else raw) else None)
      ≡ (if b then Some (byte_at piece (at - from)) else if shows held fid at then Some raw else None)) [
        | true ↦ λ h.
            let low : from ≤ at = grind (arith, nat_tests, common_steps, h) in
            let high : at < from + n = grind (arith, nat_tests, common_steps, h) in
            let there = covered_shown held file true from (from + n) covered at low high in
            let same : shows held fid at ≡ true = moved e ∙ there in
            ap (λ b. if b then Some (byte_at piece (at - from)) else None) same
        | false ↦ λ h. refl
      ] refl)
    where
      moved : same_fid file fid ≡ true → shows held fid at ≡ shows held file at
      moved h = let k = key_same (file_key file) (file_key fid) h in
          ap (λ (key : FileKey). list_any (λ h. same_key (file_key h.token.fid) key && kind_has_byte at h.token.kind)
          held)
          (sym k)

  pub written_seen : seen (kept held files') ≡ after_write (seen (kept held files)) file from piece
  written_seen =
      seen_is (seen (kept held files')) (after_write (seen (kept held files)) file from piece) refl
      (λ fid. ap (λ s. if tells held fid then s else None) (status (file_key fid)))
      (λ fid. ap (λ s. if shows held fid 0 then s else []) (entries (file_key fid)))
      bytes
    where
      status : (key : FileKey) → (parts_at files' key).status ≡ (parts_at files key).status
      status = each_key files files' (file_key file) w put (λ key parts. parts.status ≡ (parts_at files key).status)
          writes.status (λ other apart. refl)

      entries : (key : FileKey) → (parts_at files' key).entries ≡ (parts_at files key).entries
      entries = each_key files files' (file_key file) w put (λ key parts. parts.entries ≡ (parts_at files key).entries)
          writes.entries (λ other apart. refl)

      bytes : (fid : Fid) (at : ℕ) →
          (seen (kept held files')).bytes fid at ≡ (after_write (seen (kept held files)) file from piece).bytes fid at
      bytes fid at = elim (same_fid file fid) as (λ b. same_fid file fid ≡ b →
          (if shows held fid at then Some (byte_at (parts_at files' (file_key fid)).bytes at) else None)
          ≡ (if b && is_within from (length piece) at then Some (byte_at piece (at - from))
          else if shows held fid at then Some (byte_at (parts_at files (file_key fid)).bytes at) else None)) [
            | true ↦ λ e.
                let k = key_same (file_key file) (file_key fid) e in
                let here : parts_at files' (file_key fid) ≡ w = ap (parts_at files') (sym k)
                ∙ put_here files files' (file_key file) w put in
                ap (λ (p : Parts). if shows held fid at then Some (byte_at p.bytes at) else None) here
                ∙ byte_written fid at e
                ∙ ap (λ (p : Parts). if is_within from (length piece) at then Some (byte_at piece (at - from))
                else if shows held fid at then Some (byte_at p.bytes at) else None) (ap (parts_at files) k)
            | false ↦ λ e. ap (λ (p : Parts). if shows held fid at then Some (byte_at p.bytes at) else None)
                (put_elsewhere files files' (file_key file) w put (file_key fid) e)
          ] refl

-- ---- a length
module _ (held : List Held) (files files' : Files) (inv : IsKept held files) (file : Fid) (long : ℕ)
    (put : Puts files (file_key file) (with_length long (parts_at files (file_key file))) files') where
  abbrev w : Parts
  w = with_length long (parts_at files (file_key file))

  abbrev longer : StatusOf → StatusOf
  longer status = record status { length = long }

  pub longer_kept : IsKept held files'
  longer_kept = record {
    tokens = each_key files files' (file_key file) w put (λ key parts. parts.tokens ≡ tokens_of (of_key key held))
        (inv.tokens (file_key file)) (λ other apart. inv.tokens other);
    room = each_key files files' (file_key file) w put (λ key parts. IsRoomy parts)
        (inv.room (file_key file)) (λ other apart. inv.room other);
    told = λ fid e. each_key files files' (file_key file) w put
        (λ key parts. (parts_at files key).status ≡ None → parts.status ≡ None)
        (λ none. ap (option_map longer) none) (λ other apart none. none) (file_key fid) (inv.told fid e);
  }

  told_longer : (b : Bool) (s : Option StatusOf) →
      (if b then option_map longer s else None) ≡ option_map longer (if b then s else None)
  told_longer true s = refl
  told_longer false s = refl

  pub longer_seen : seen (kept held files') ≡ after_length (seen (kept held files)) file long
  longer_seen =
      seen_is (seen (kept held files')) (after_length (seen (kept held files)) file long) refl status
      (λ fid. ap (λ s. if shows held fid 0 then s else []) (entries (file_key fid)))
      (λ fid at. ap (λ s. if shows held fid at then Some (byte_at s at) else None) (bytes (file_key fid)))
    where
      entries : (key : FileKey) → (parts_at files' key).entries ≡ (parts_at files key).entries
      entries = each_key files files' (file_key file) w put (λ key parts. parts.entries ≡ (parts_at files key).entries)
          refl (λ other apart. refl)

      bytes : (key : FileKey) → (parts_at files' key).bytes ≡ (parts_at files key).bytes
      bytes = each_key files files' (file_key file) w put (λ key parts. parts.bytes ≡ (parts_at files key).bytes)
          refl (λ other apart. refl)

      status : (fid : Fid) →
          (seen (kept held files')).status fid ≡ (after_length (seen (kept held files)) file long).status fid
      status fid = elim (same_fid file fid) as (λ b. same_fid file fid ≡ b →
          (if tells held fid then (parts_at files' (file_key fid)).status else None)
          ≡ (if b then option_map longer (if tells held fid then (parts_at files (file_key fid)).status else None)
          else if tells held fid then (parts_at files (file_key fid)).status else None)) [
            | true ↦ λ e.
                let k = key_same (file_key file) (file_key fid) e in
                let here : parts_at files' (file_key fid) ≡ w = ap (parts_at files') (sym k)
                ∙ put_here files files' (file_key file) w put in
                ap (λ (p : Parts). if tells held fid then p.status else None) here
                ∙ ap (λ (key : FileKey). if tells held fid then option_map longer (parts_at files key).status else
                None) k
                ∙ told_longer (tells held fid) (parts_at files (file_key fid)).status
            | false ↦ λ e. ap (λ (p : Parts). if tells held fid then p.status else None)
                (put_elsewhere files files' (file_key file) w put (file_key fid) e)
          ] refl

-- ---- what changes nothing
pub nothing_written : (s : Seen) (file : Fid) (from : ℕ) (piece : List ℕ) → length piece ≡ 0 →
    s ≡ after_write s file from piece
nothing_written s file from piece none =
    seen_is s (after_write s file from piece) refl (λ fid. refl) (λ fid. refl)
    (λ fid at. elim (cases_lt at from) [
      | inl lt ↦ sym (cond-false (same_fid file fid && is_within from (length piece) at) (Some (byte_at piece (at -
          from)))
          (s.bytes fid at) (and_right (same_fid file fid) (is_within from (length piece) at)
          (not_within_low from (length piece) at lt)))
      | inr le ↦ sym (cond-false (same_fid file fid && is_within from (length piece) at) (Some (byte_at piece (at -
          from)))
          (s.bytes fid at) (and_right (same_fid file fid) (is_within from (length piece) at)
          (not_within_high from (length piece) at (omega (arith, le, none)))))
    ])

-- a file of which nothing is kept has no length
pub longer_absent : (held : List Held) (files : Files) → IsKept held files → (file : Fid) (long : ℕ) →
    parts_at files (file_key file) ≡ nothing →
    seen (kept held files) ≡ after_length (seen (kept held files)) file long
longer_absent held files inv file long none =
    longer_seen held files files inv file long
    (subst (λ (p : Parts). Puts files (file_key file) (with_length long p) files) (sym none)
    (subst (λ (p : Parts). Puts files (file_key file) p files) none (puts_same files (file_key file))))

-- something is kept of a file of which bytes are covered
pub covered_there : (held : List Held) (files : Files) → IsKept held files → (fid : Fid) (update : Bool) (from to : ℕ) →
    CoversBetween (tokens_of held) fid update from to → from < to → parts_at files (file_key fid) ≡ nothing → ⊥
covered_there held files inv fid update from to c lt none =
    let room = covered_room held files inv fid update from to c lt in
    let empty : length (parts_at files (file_key fid)).bytes ≡ 0 = ap (λ (p : Parts). length p.bytes) none in
    omega (arith, room, empty, lt)

-- ---- what is read
pub read_seen : (held : List Held) (files : Files) → IsKept held files → (fid : Fid) (from n : ℕ) →
    CoversBetween (tokens_of held) fid false from (from + n) → (out : List ℕ) →
    out ≡ take n (drop from (parts_at files (file_key fid)).bytes) → (at : ℕ) → at < n →
    slice_get out at ≡ (seen (kept held files)).bytes fid (from + at)
read_seen held files inv fid from n covered out is at lt =
    let bytes = (parts_at files (file_key fid)).bytes in
    let room = covered_room held files inv fid false from (from + n) covered (omega (arith, lt)) in
    let some : at < length (take n (drop from bytes)) =
    omega (arith, lt, room, length-take-le n (drop from bytes) (omega (arith, room, length-drop from bytes))) in
    let there = covered_shown held fid false from (from + n) covered (from + at) (omega arith) (omega (arith, lt)) in
    ap (λ (l : List ℕ). slice_get l at) is ∙ slice_get-get_or (take n (drop from bytes)) at 0 some
    ∙ ap (λ (k : ℕ). Some k) (get_or-take n (drop from bytes) at 0 lt ∙ get_or-drop from bytes at 0)
    ∙ ap (λ b. if b then Some (byte_at bytes (from + at)) else None) (sym there)

-- whether one of a file's tokens has byte 0
pub first_told : (held : List Held) (files : Files) → IsKept held files → (fid : Fid) (tokens : List Token) →
    tokens ≡ (parts_at files (file_key fid)).tokens →
    list_any (λ (t : Token). kind_has_byte 0 t.kind) tokens ≡ shows held fid 0
first_told held files inv fid tokens is =
    ap (list_any (λ (t : Token). kind_has_byte 0 t.kind)) (is ∙ inv.tokens (file_key fid))
    ∙ any-map (λ (t : Token). kind_has_byte 0 t.kind) (λ (h : Held). h.token) (of_key (file_key fid) held)
    ∙ any_filter (λ h. kind_has_byte 0 h.token.kind) (λ h. same_key (file_key h.token.fid) (file_key fid)) held

-- of a file of which nothing is kept no token is held
no_own : (held : List Held) (files : Files) → IsKept held files → (fid : Fid) → parts_at files (file_key fid)
    ≡ nothing →
    (p : Held → Bool) → ((h : Held) → p h ≡ true → same_key (file_key h.token.fid) (file_key fid) ≡ true) →
    list_any p held ≡ false
no_own held files inv fid none p own =
    sym (any_kept p (λ h. same_key (file_key h.token.fid) (file_key fid)) own held)
    ∙ ap (list_any p) (no_tokens (of_key (file_key fid) held)
    (sym (inv.tokens (file_key fid)) ∙ ap (λ (q : Parts). q.tokens) none))
  where
    no_tokens : (hs : List Held) → tokens_of hs ≡ [] → hs ≡ []
    no_tokens [] e = refl
    no_tokens (h ∷ hs) e = absurd (grind (arith, e))

pub none_told : (held : List Held) (files : Files) → IsKept held files → (fid : Fid) →
    parts_at files (file_key fid) ≡ nothing → tells held fid ≡ false
none_told held files inv fid none =
    no_own held files inv fid none (tells_of fid) (λ h e. (and_parts (same_fid h.token.fid fid) h.tells e).0)

pub none_shown : (held : List Held) (files : Files) → IsKept held files → (fid : Fid) (at : ℕ) →
    parts_at files (file_key fid) ≡ nothing → shows held fid at ≡ false
none_shown held files inv fid at none =
    no_own held files inv fid none (shows_byte fid at)
    (λ h e. (and_parts (same_fid h.token.fid fid) (kind_has_byte at h.token.kind) e).0)

-- what is kept of a file is what is shown of it
module _ (held : List Held) (files : Files) (inv : IsKept held files) (fid : Fid) where
  abbrev own_parts : Parts
  own_parts = parts_at files (file_key fid)

  pub status_shown : own_parts.status ≡ (seen (kept held files)).status fid
  status_shown =
      elim (tells held fid) as (λ b. tells held fid ≡ b → own_parts.status ≡ (if b then own_parts.status else None)) [
        | true ↦ λ e. refl
        | false ↦ λ e. inv.told fid e
      ] refl

  pub entries_shown :
      (if list_any (λ (t : Token). kind_has_byte 0 t.kind) own_parts.tokens then own_parts.entries else [])
      ≡ (seen (kept held files)).entries fid
  entries_shown =
      ap (λ b. if b then own_parts.entries else []) (first_told held files inv fid own_parts.tokens refl)

-- ---- tokens in use
module _ (id : TokenId) (in_use : Bool) where
  -- what goes by the token alone stays
  used_any : (p : Held → Bool) → ((h : Held) → p (with_use id in_use h) ≡ p h) → (hs : List Held) →
      list_any p (map (with_use id in_use) hs) ≡ list_any p hs
  used_any p same [] = refl
  used_any p same (h ∷ hs) = λ i. same h i || used_any p same hs i

  changed : (A : Type 0) (f : Held → A) → ((h : Held) → f (record h { in_use = in_use }) ≡ f h) → (h : Held) →
      f (with_use id in_use h) ≡ f h
  changed A f same h = elim (is_id id h) as (λ b. f (if b then record h { in_use = in_use } else h) ≡ f h) [
    | true ↦ same h
    | false ↦ refl
  ]

  same_own : (key : FileKey) (hs : List Held) →
      tokens_of (of_key key (map (with_use id in_use) hs)) ≡ tokens_of (of_key key hs)
  same_own key hs =
      sym (filter-map (λ (t : Token). same_key (file_key t.fid) key) (λ (h : Held). h.token) (map (with_use id
      in_use) hs))
      ∙ ap (filter (λ (t : Token). same_key (file_key t.fid) key)) (tokens_same hs)
      ∙ filter-map (λ (t : Token). same_key (file_key t.fid) key) (λ (h : Held). h.token) hs
    where
      tokens_same : (xs : List Held) → tokens_of (map (with_use id in_use) xs) ≡ tokens_of xs
      tokens_same [] = refl
      tokens_same (x ∷ xs) = λ i. changed Token (λ h. h.token) (λ h. refl) x i ∷ tokens_same xs i

  told_same : (fid : Fid) (held : List Held) → tells (map (with_use id in_use) held) fid ≡ tells held fid
  told_same fid held = used_any (tells_of fid) (changed Bool (tells_of fid) (λ h. refl)) held

  pub use_kept : (held : List Held) (files : Files) → IsKept held files → IsKept (map (with_use id in_use) held) files
  use_kept held files inv = record {
    tokens = λ key. inv.tokens key ∙ sym (same_own key held);
    room = inv.room;
    told = λ fid e. inv.told fid (sym (told_same fid held) ∙ e);
  }

  pub use_seen : (held : List Held) (files : Files) →
      seen (kept (map (with_use id in_use) held) files) ≡ after_set_use (seen (kept held files)) id in_use
  use_seen held files =
      seen_alike held (map (with_use id in_use) held) files files
      (λ fid. told_same fid held)
      (λ fid at. used_any (shows_byte fid at) (changed Bool (shows_byte fid at) (λ h. refl)) held)
      (λ key. alike_same (parts_at files key) (parts_at files key) refl)
