-- What an answered call used, as it is marked, is helped by the same tokens as what the call needs.
use Rattle.base_types.specs.Access.{allows}
use Rattle.base_types.specs.Ids.{same_fid}
use Rattle.base_types.specs.Outcomes.{and_then, either}
use Rattle.base_types.specs.Spans.{overlap}
use Rattle.base_types.specs.declared.access.AccessEntry.{AccessEntry}
use Rattle.base_types.specs.declared.ids.Fid.{Fid}
use Rattle.base_types.specs.declared.limits.TheConstants.{FILE_BYTES_MAX}
use Rattle.base_types.specs.declared.span.Span.{Span}
use Rattle.base_types.specs.declared.user.User.{User}
use Rattle.host_calls.specs.Answering.{is_read_only, last_needs, way_of}
use Rattle.host_calls.specs.Looking.{LeadsSo, OnlyTells, UsesKind, access_of, facts_of, meant, path_look, used_by}
use Rattle.host_calls.specs.declared.looking.Verdict.{Verdict}
use Rattle.host_calls.specs.declared.looking.Verdict.TheVariants.{Asks, Does, Frees, Gives, Lists, Reads, Shows}
use Rattle.host_calls.specs.declared.looking.Verdict.TheVariants.{Syncs, Tells, Uses, Writes}
use Rattle.host_tables.proofs.Lists.{in_either, in_left, in_right}
use Rattle.host_tables.specs.Tables.{content, own_of}
use Rattle.host_tables.specs.declared.tables.Tables.{Tables}
use Rattle.host_walk.proofs.Blocks.{needs_end, outcome_end}
use Rattle.host_walk.proofs.MarkedNeeds.{marks_are_needs}
use Rattle.host_walk.specs.Bytes.{byte_need, bytes_seen, read_count, write_needs}
use Rattle.host_walk.specs.Marks.{marks_of}
use Rattle.host_walk.specs.Trying.{length_need, status_need, whole_need}
use Rattle.host_walk.specs.WalkLaws.{IsAmong}
use Rattle.need_host.proofs.Looking.{outcome_checked}
use Rattle.need_host.proofs.Updates.{needs_on}
use Rattle.need_host.specs.Calls.{Verdict as Meant, access_look, bytes_look, entries_for, facts_for, fits_file}
use Rattle.need_host.specs.Calls.{judged, list_for, list_in, list_look, lock_for, lock_look, open_for, open_look}
use Rattle.need_host.specs.Calls.{read_from, read_look, reply_now, stat_look, sync_look, sync_verdict, write_look}
use Rattle.need_host.specs.Calls.{written_look}
use Rattle.need_host.specs.Calls.Verdict.{Gives as GivesOf, Replies, Writes as WritesOf}
use Rattle.need_host.specs.Looks.{Look, View, after_check, checked, needs_of, outcome, refuse_if, rounded}
use Rattle.need_host.specs.Looks.Look.{Ends, Looks, Takes}
use Rattle.need_host.specs.Walks.{fid_in, file_look, nature_look, permitted, permitted_look, rights_on, search_look}
use Rattle.need_host.specs.Walks.{step_look, target_look, use_look, walk_look, writable_look}
use Rattle.run_rules.specs.HostTokens.{helps, helps_cover}
use Rattle.run_rules.specs.Past.{In}
use Rattle.run_rules.specs.Tokens.{IsUseKind}
use Rattle.std.proofs.Common.{Bool, Err, List, None, Ok, Option, Result, Some, [], ap, append-nil, arith, eqb-true}
use Rattle.std.proofs.Common.{false, if◌then◌else◌, inl, inr, length, ltb-true, max, min, nat_lt, not, refl, subst}
use Rattle.std.proofs.Common.{suc, sym, true, zero, ℕ, ◌&&◌, ◌*◌, ◌++◌, ◌+◌, ◌-◌, ◌/◌, ◌<◌, ◌==◌, ◌↔◌, ◌∙◌, ◌∷◌, ◌≡◌}
use Rattle.std.proofs.Common.{◌≤◌, ◌⊎◌}
use Rattle.std.proofs.lemmas.Bool.{and_from, and_parts, eqb-false, lt-ltb}
use Rattle.std.specs.Option.{option_map_or}
use Rattle.token_types.specs.Covers.{does_for}
use Rattle.token_types.specs.declared.token.Kind.{Kind}
use Rattle.token_types.specs.declared.token.Kind.TheVariants.{Bytes as BytesKind, Lock as LockKind}
use Rattle.token_types.specs.declared.token.Kind.TheVariants.{Opening as OpeningKind, Status as StatusKind}
use Rattle.token_types.specs.declared.token.Need.{Need}
use Rattle.token_types.specs.declared.token.Token.{Token}
use Rattle.tree_answers.specs.Finding.{found_or}
use Rattle.tree_answers.specs.Locks.{is_own_locked}
use Rattle.tree_calls.specs.declared.call.Call.{Call}
use Rattle.tree_calls.specs.declared.call.Call.TheVariants.{GetAcl, List as ListNames, Lock, OpenFile, Read, Stat}
use Rattle.tree_calls.specs.declared.call.Call.TheVariants.{Sync, Write}
use Rattle.tree_calls.specs.declared.part.DirEntry.{DirEntry}
use Rattle.tree_calls.specs.declared.place.Place.{Place as NamedPlace}
use Rattle.tree_calls.specs.declared.place.Which.{Which}
use Rattle.tree_calls.specs.declared.reply.Facts.{Facts as FactsOf}
use Rattle.tree_calls.specs.declared.reply.Refusal.{Refusal}
use Rattle.tree_calls.specs.declared.reply.Refusal.TheVariants.{AlreadyLocked, Denied, IsDir, NoEntry, NotDir}
use Rattle.tree_calls.specs.declared.reply.Refusal.TheVariants.{ReadOnly, TooBig}
use Rattle.tree_calls.specs.declared.reply.Reply.{Reply}
use Rattle.tree_calls.specs.declared.reply.Reply.TheVariants.{Access, Bytes, Facts, Names, Ok as Done}
use Rattle.tree_calls.specs.declared.reply.Reply.TheVariants.{Refused as IsRefused}
use Rattle.tree_filesets.specs.Rights.{read_right, write_right}
use Rattle.tree_filesets.specs.Uses.{is_changing, right_to_open}
use Rattle.tree_filesets.specs.Walk.{entry_or_none}
use Rattle.tree_laws.specs.Parts.{Nature}
use Rattle.tree_laws.specs.Parts.Part.{ByteAt, Entries, Size, Traits}
use Rattle.tree_objects.specs.Entries.{entry_named, names_of}
use Rattle.tree_objects.specs.Spans.{span_between}

-- some token helps to cover one of these needs
abbrev pub Helped : List Need → Token → Type 0
Helped needs t = (need : Need) × In need needs × (helps_cover t need ≡ true)

pub among_in : {A : Type 0} (x : A) (xs : List A) → IsAmong x xs → In x xs
among_in x [] h = absurd h
among_in x (y ∷ ys) (inl e) = inl e
among_in x (y ∷ ys) (inr h) = inr (among_in x ys h)

pub in_among : {A : Type 0} (x : A) (xs : List A) → In x xs → IsAmong x xs
in_among x [] h = absurd h
in_among x (y ∷ ys) (inl e) = inl e
in_among x (y ∷ ys) (inr h) = inr (in_among x ys h)

module _ (t : Token) where
  helped_left : (xs ys : List Need) → Helped xs t → Helped (xs ++ ys) t
  helped_left xs ys h = (h.0, in_left xs ys h.0 h.1, h.2)

  helped_right : (xs ys : List Need) → Helped ys t → Helped (xs ++ ys) t
  helped_right xs ys h = (h.0, in_right xs ys h.0 h.1, h.2)

  helped_either : (xs ys : List Need) → Helped (xs ++ ys) t → Helped xs t ⊎ Helped ys t
  helped_either xs ys h = elim (in_either xs ys h.0 h.1) [ inl i ↦ inl (h.0, i, h.2) | inr i ↦ inr (h.0, i, h.2) ]

  helped_none : Helped [] t → ⊥
  helped_none h = h.1

  helped_one : (need : Need) → Helped (need ∷ []) t → helps_cover t need ≡ true
  helped_one need h = elim h.1 [
    | inl e ↦ subst (λ (n : Need). helps_cover t n ≡ true) e h.2
    | inr j ↦ elim j [ ]
  ]

  one_helped : (need : Need) (needs : List Need) → In need needs → Helped (need ∷ []) t → Helped needs t
  one_helped need needs i h = (need, i, helped_one need h)

-- # Looks, one after the other
module _ {A B : Type 0} (view : View) (look : Look (Result A Refusal)) (next : A → Look (Result B Refusal)) where
  -- where the first refuses
  refused_on : (refusal : Refusal) → outcome view look ≡ Err refusal
      → (needs_of view (checked look next) ≡ needs_of view look) × (outcome view (checked look next) ≡ Err refusal)
  refused_on refusal e = (
    needs_on view look (after_check next)
        ∙ ap (λ (r : Result A Refusal). needs_of view look ++ needs_of view (after_check next r)) e
        ∙ append-nil (needs_of view look),
    outcome_checked view look next
        ∙ ap (λ (r : Result A Refusal). and_then r (λ value. outcome view (next value))) e,
  )

  -- where it finds
  found_needs : (value : A) → outcome view look ≡ Ok value
      → needs_of view (checked look next) ≡ needs_of view look ++ needs_of view (next value)
  found_needs value e =
      needs_on view look (after_check next)
      ∙ ap (λ (r : Result A Refusal). needs_of view look ++ needs_of view (after_check next r)) e

  found_outcome : (value : A) → outcome view look ≡ Ok value
      → outcome view (checked look next) ≡ outcome view (next value)
  found_outcome value e =
      outcome_checked view look next
      ∙ ap (λ (r : Result A Refusal). and_then r (λ value. outcome view (next value))) e

  -- where what comes after it needs nothing
  adds_none : ((value : A) → needs_of view (next value) ≡ []) → needs_of view (checked look next) ≡ needs_of view look
  adds_none none =
      needs_on view look (after_check next)
      ∙ ap (λ (ns : List Need). needs_of view look ++ ns) (by_result (outcome view look))
      ∙ append-nil (needs_of view look)
    where
      by_result : (r : Result A Refusal) → needs_of view (after_check next r) ≡ []
      by_result (Ok value) = none value
      by_result (Err refusal) = refl

  -- where it only passes on what was found, or refuses
  pub passes : (f : A → B) → ((a : A) → (outcome view (next a) ≡ Ok (f a)) ⊎ ((r : Refusal) × (outcome view (next a)
      ≡ Err r)))
      → (x : B) → outcome view (checked look next) ≡ Ok x → (a : A) × (outcome view look ≡ Ok a) × (f a ≡ x)
  passes f each x e = by_result (outcome view look) refl (sym (outcome_checked view look next) ∙ e)
    where
      by_result : (r : Result A Refusal) → outcome view look ≡ r
          → and_then r (λ value. outcome view (next value)) ≡ Ok x → (a : A) × (outcome view look ≡ Ok a) × (f a ≡ x)
      by_result (Ok a) is p = elim (each a) [
        | inl q ↦ (let r = sym q ∙ p in let s : f a ≡ x = cc in (a, is, s))
        | inr q ↦ absurd (let r = sym q.1 ∙ p in cc)
      ]
      by_result (Err refusal) is p = absurd (cc)

refuse_none : {A : Type 0} (view : View) (b : Bool) (refusal : Refusal) (next : Look (Result A Refusal))
    → needs_of view next ≡ [] → needs_of view (refuse_if b refusal next) ≡ []
refuse_none view true refusal next e = refl
refuse_none view false refusal next e = e

pub refuse_or : {A : Type 0} (view : View) (b : Bool) (refusal : Refusal) (next : Look (Result A Refusal)) (x : A)
    → (outcome view next ≡ Ok x) ⊎ ((r : Refusal) × (outcome view next ≡ Err r))
    → (outcome view (refuse_if b refusal next) ≡ Ok x) ⊎ ((r : Refusal) × (outcome view (refuse_if b refusal next)
    ≡ Err r))
refuse_or view true refusal next x h = inr (refusal, refl)
refuse_or view false refusal next x h = h

-- # What files need is what their paths need
module _ (view : View) (user : User) (root : Fid) (path : List (List ℕ)) where
  abbrev target : List Need
  target = needs_of view (target_look user root path)

  abbrev pub with_nature : Fid → Look (Result (Fid × Nature) Refusal)
  with_nature fid = checked (nature_look fid) (λ nature. Ends (Ok (fid, nature)))

  abbrev pub if_file : Fid × Nature → Look (Result (Fid × Nature) Refusal)
  if_file (fid, nature) = refuse_if nature.dir IsDir (Ends (Ok (fid, nature)))

  abbrev pub if_permitted : ℕ → Fid × Nature → Look (Result (Fid × Nature) Refusal)
  if_permitted right (fid, nature) = permitted nature user right (Ends (Ok (fid, nature)))

  abbrev used_if : Bool → ℕ → Fid × Nature → Look (Result Fid Refusal)
  used_if changing right (fid, nature) =
      refuse_if (changing && nature.read_only) ReadOnly (permitted nature user right (Ends (Ok fid)))

  pub file_needs : needs_of view (file_look user root path) ≡ target
  file_needs = adds_none view (target_look user root path) if_file
      (λ (fid, nature). refuse_none view nature.dir IsDir (Ends (Ok (fid, nature))) refl)

  pub permitted_needs : (right : ℕ) → needs_of view (permitted_look user root path right) ≡ target
  permitted_needs right =
      adds_none view (file_look user root path) (if_permitted right)
      (λ (fid, nature). refuse_none view (not (allows (rights_on nature user) right)) (Denied right)
      (Ends (Ok (fid, nature))) refl)
      ∙ file_needs

  pub use_needs : (changing : Bool) (right : ℕ) → needs_of view (use_look user root path changing right) ≡ target
  use_needs changing right =
      adds_none view (file_look user root path) (used_if changing right)
      (λ (fid, nature). refuse_none view (changing && nature.read_only) ReadOnly
      (permitted nature user right (Ends (Ok fid)))
      (refuse_none view (not (allows (rights_on nature user) right)) (Denied right) (Ends (Ok fid)) refl))
      ∙ file_needs

  -- where what is found is where the path leads
  pub target_leads : (found : Fid × Nature) → outcome view (target_look user root path) ≡ Ok found
      → outcome view (walk_look user root path) ≡ Ok found.0
  target_leads found e =
      by_walk (outcome view (walk_look user root path)) refl
      (sym (outcome_checked view (walk_look user root path) with_nature) ∙ e)
    where
      by_nature : (fid : Fid) (o : Option Nature)
          → outcome view (after_check {B = Fid × Nature} (λ nature. Ends (Ok (fid, nature))) (found_or o NoEntry))
          ≡ Ok found → fid ≡ found.0
      by_nature fid None p = absurd (cc)
      by_nature fid (Some nature) p =
          let q : (fid, nature) ≡ found = cc in ap (λ (x : Fid × Nature). x.0) q

      by_walk : (r : Result Fid Refusal) → outcome view (walk_look user root path) ≡ r
          → and_then r (λ fid. outcome view (with_nature fid)) ≡ Ok found
          → outcome view (walk_look user root path) ≡ Ok found.0
      by_walk (Ok fid) is p = is ∙ ap Ok (by_nature fid (view fid Traits) p)
      by_walk (Err refusal) is p = absurd (cc)

  pub file_leads : (found : Fid × Nature) → outcome view (file_look user root path) ≡ Ok found
      → outcome view (walk_look user root path) ≡ Ok found.0
  file_leads found e =
      let r = passes view (target_look user root path) if_file (λ x. x)
      (λ (fid, nature). refuse_or view nature.dir IsDir (Ends (Ok (fid, nature))) (fid, nature) (inl refl)) found e in
      target_leads found (r.1 ∙ ap Ok r.2)

  pub permitted_leads : (right : ℕ) (found : Fid × Nature)
      → outcome view (permitted_look user root path right) ≡ Ok found
      → outcome view (walk_look user root path) ≡ Ok found.0
  permitted_leads right found e =
      let r = passes view (file_look user root path) (if_permitted right) (λ x. x)
      (λ (fid, nature). refuse_or view (not (allows (rights_on nature user) right)) (Denied right)
      (Ends (Ok (fid, nature))) (fid, nature) (inl refl)) found e in
      file_leads found (r.1 ∙ ap Ok r.2)

  pub use_leads : (changing : Bool) (right : ℕ) (fid : Fid)
      → outcome view (use_look user root path changing right) ≡ Ok fid
      → outcome view (walk_look user root path) ≡ Ok fid
  use_leads changing right fid e =
      let r = passes view (file_look user root path) (used_if changing right) (λ (x : Fid × Nature). x.0)
      (λ (f, nature). refuse_or view (changing && nature.read_only) ReadOnly
      (permitted nature user right (Ends (Ok f))) f
      (refuse_or view (not (allows (rights_on nature user) right)) (Denied right) (Ends (Ok f)) f (inl refl))) fid e
      in
      file_leads r.0 r.1 ∙ ap Ok r.2

  -- the status of what a path leads to is needed, and that of the root
  pub status_in : (fid : Fid) → outcome view (walk_look user root path) ≡ Ok fid → In (status_need fid) target
  status_in fid e =
      subst (In (status_need fid)) (sym (found_needs view (walk_look user root path) with_nature fid e))
      (in_right (needs_of view (walk_look user root path)) (needs_of view (with_nature fid)) (status_need fid)
      (inl refl))

pub root_in : (view : View) (user : User) (root : Fid) (path : List (List ℕ))
    → In (status_need root) (needs_of view (target_look user root path))
root_in view user root [] = inl refl
root_in view user root (name ∷ names) = inl refl

-- of a root that isn't seen nothing more is needed
pub unseen_root : (view : View) (user : User) (root : Fid) (path : List (List ℕ)) → view root Traits ≡ None
    → needs_of view (target_look user root path) ≡ status_need root ∷ []
unseen_root view user root path none = by_path path
  where
    unseen : outcome view (nature_look root) ≡ Err NoEntry
    unseen = ap (λ (o : Option Nature). found_or o NoEntry) none

    by_path : (path : List (List ℕ)) → needs_of view (target_look user root path) ≡ status_need root ∷ []
    by_path [] = (refused_on {B = Fid × Nature} view (nature_look root) (λ nature. Ends (Ok (root, nature))) NoEntry
        unseen).0
    by_path (name ∷ names) =
        let step = refused_on view (nature_look root)
        (λ nature. checked (search_look user root nature) (λ entries.
        Ends (and_then (entry_or_none (entry_named entries name)) (λ entry. Ok (fid_in root entry))))) NoEntry unseen in
        let walk = refused_on view (step_look user root name) (λ next. walk_look user next names) NoEntry step.1 in
        let all = refused_on view (walk_look user root (name ∷ names)) (with_nature view user root path) NoEntry walk.1
        in
        all.0 ∙ walk.0 ∙ step.0

-- # The bytes of a read
byte_needs : (view : View) (fid : Fid) (n from : ℕ)
    → needs_of view (bytes_look fid from (suc n)) ≡ byte_need fid from ∷ needs_of view (bytes_look fid (suc from) n)
byte_needs view fid n from =
    ap (λ needs. byte_need fid from ∷ needs)
    (needs_end view (λ bytes. view fid (ByteAt from) ∷ bytes) (bytes_look fid (suc from) n))

byte_of : (view : View) (fid : Fid) (n from : ℕ) (need : Need) → In need (needs_of view (bytes_look fid from n))
    → (at : ℕ) × (from ≤ at) × (at < from + n) × (need ≡ byte_need fid at)
byte_of view fid zero from need i = elim i [ ]
byte_of view fid (suc n) from need i = elim (subst (In need) (byte_needs view fid n from) i) [
  | inl e ↦ (from, omega arith, omega arith, e)
  | inr j ↦ (
      let r = byte_of view fid n (suc from) need j in
      let low = r.1 in
      let high = r.2 in (r.0, omega (arith, low), omega (arith, high), r.3))
]

of_byte : (view : View) (fid : Fid) (n from at : ℕ) → from ≤ at → at < from + n
    → In (byte_need fid at) (needs_of view (bytes_look fid from n))
of_byte view fid zero from at low high = absurd (omega (arith, low, high))
of_byte view fid (suc n) from at low high =
    subst (In (byte_need fid at)) (sym (byte_needs view fid n from))
    (by_test (λ more end. of_byte view fid n (suc from) at more end) (at == from) refl)
  where
    other : (at ≡ from → ⊥) → suc from ≤ at
    other ne = omega (arith, low, ne)

    by_test : (suc from ≤ at → at < suc from + n → In (byte_need fid at) (needs_of view (bytes_look fid (suc from) n)))
        → (b : Bool) → (at == from) ≡ b
        → In (byte_need fid at) (byte_need fid from ∷ needs_of view (bytes_look fid (suc from) n))
    by_test below true e = inl (ap (byte_need fid) (eqb-true at from e))
    by_test below false e = inr (below (other (eqb-false at from e)) (omega (arith, high)))

-- ends of a block, cut at the last byte that a file can have
round_parts : (sf st x y : ℕ) → max sf (min x (min y 65536)) < min st (min y 65536)
    → (sf < st) × (sf < y) × (sf < 65536) × (x < st) × (x < y) × (x < 65536)
round_parts sf st x y h = (
  omega (arith, h),
  omega (arith, h),
  omega (arith, h),
  omega (arith, h),
  omega (arith, h),
  omega (arith, h),
)

round_from : (sf st x y : ℕ) → sf < st → sf < y → sf < 65536 → x < st → x < y → x < 65536
    → max sf (min x (min y 65536)) < min st (min y 65536)
round_from sf st x y a b c d e f = omega (arith, a, b, c, d, e, f)

-- a block of a byte among those of some bytes, and one of those that a span meets
up_from : (f at : ℕ) → f ≤ at → f / 1024 * 1024 ≤ at / 1024 * 1024
up_from f at low = omega (arith, low)

up_to : (at t : ℕ) → at < t → (at + 1 + 1023) / 1024 * 1024 ≤ (t + 1023) / 1024 * 1024
up_to at t high = omega (arith, high)

small_at : (at : ℕ) → at / 1024 * 1024 < 65536 → at < 65536
small_at at h = omega (arith, h)

module _ (s : Span) (from n : ℕ) (span : Span) (is : span ≡ span_between from (from + n)) where
  from_is : span.from ≡ min from (min (from + n) 65536)
  from_is = ap (λ (x : Span). x.from) is

  to_is : span.to ≡ min (from + n) 65536
  to_is = ap (λ (x : Span). x.to) is

  pub block_meets : (at : ℕ) → from ≤ at → at < from + n → overlap s (rounded at (at + 1)) ≡ true
      → (nat_lt span.from span.to ≡ true) × (overlap s (rounded span.from span.to) ≡ true)
  block_meets at low high meets =
      let p = round_parts s.from s.to (at / 1024 * 1024) ((at + 1 + 1023) / 1024 * 1024)
      (ltb-true (max s.from (rounded at (at + 1)).from) (min s.to (rounded at (at + 1)).to) meets) in
      let small = small_at at p.5 in
      let a = from_is in
      let b = to_is in
      let f_low : span.from ≤ at = omega (arith, a, low) in
      let t_high : at < span.to = omega (arith, b, high, small) in
      let x = up_from span.from at f_low in
      let y = up_to at span.to t_high in
      let p0 = p.0 in
      let p1 = p.1 in
      let p2 = p.2 in
      let p3 = p.3 in
      let p4 = p.4 in
      let p5 = p.5 in (
        lt-ltb span.from span.to (omega (arith, f_low, t_high)),
        lt-ltb (max s.from (rounded span.from span.to).from) (min s.to (rounded span.from span.to).to)
            (round_from s.from s.to (span.from / 1024 * 1024) ((span.to + 1023) / 1024 * 1024) p0
            (omega (arith, p1, y)) p2 (omega (arith, p3, x)) (omega (arith, p4, x, y)) (omega (arith, p5, x))),
      )

  abbrev AtIt : Type 0
  AtIt = (at : ℕ) × (from ≤ at) × (at < from + n) × (overlap s (rounded at (at + 1)) ≡ true)

  abbrev Parts : Type 0
  Parts = (s.from < s.to) × (s.from < (span.to + 1023) / 1024 * 1024) × (s.from < 65536)
      × (span.from / 1024 * 1024 < s.to) × (span.from / 1024 * 1024 < (span.to + 1023) / 1024 * 1024)
      × (span.from / 1024 * 1024 < 65536)

  there : (at : ℕ) → span.from ≤ at → at < span.to → s.from < s.to → s.from < (at + 1 + 1023) / 1024 * 1024
      → at / 1024 * 1024 < s.to → AtIt
  there at low high a b c =
      let f = from_is in
      let t = to_is in (
        at,
        omega (arith, f, t, low, high),
        omega (arith, f, t, low, high),
        lt-ltb (max s.from (rounded at (at + 1)).from) (min s.to (rounded at (at + 1)).to)
            (round_from s.from s.to (at / 1024 * 1024) ((at + 1 + 1023) / 1024 * 1024) a b
            (omega (arith, t, high, b)) c (omega arith) (omega (arith, t, high))),
      )

  split : (a b : ℕ) → (a < b) ⊎ (b ≤ a)
  split a b = grind arith

  -- the byte is that of the beginning of both, or the last
  by_place : Parts → span.from < span.to → (s.from < span.from) ⊎ (span.from ≤ s.from) → AtIt
  by_place p less (inl h) = there span.from (omega arith) less p.0 (omega (arith, h)) p.3
  by_place p less (inr h) = elim (split s.from span.to) [
    | inl k ↦ (let p0 = p.0 in there s.from h k p.0 (omega arith) (omega (arith, p0)))
    | inr k ↦ (
        let p0 = p.0 in
        let p1 = p.1 in
        there (span.to - 1) (omega (arith, less)) (omega (arith, less)) p.0 (omega (arith, less, p1))
        (omega (arith, k, p0, less)))
  ]

  pub meets_block : nat_lt span.from span.to ≡ true → overlap s (rounded span.from span.to) ≡ true → AtIt
  meets_block some meets =
      by_place
      (round_parts s.from s.to (span.from / 1024 * 1024) ((span.to + 1023) / 1024 * 1024)
      (ltb-true (max s.from (rounded span.from span.to).from) (min s.to (rounded span.from span.to).to) meets))
      (ltb-true span.from span.to some) (split s.from span.from)

-- which tokens help with bytes to be read
bytes_help : (k : Kind) (sp : Span) → helps k (BytesKind false sp) ≡ true
    → (update : Bool) × (s : Span) × (k ≡ BytesKind update s) × (overlap s sp ≡ true)
bytes_help (BytesKind update s) sp h = (update, s, refl, by_mode update h)
  where
    by_mode : (update : Bool) → (does_for update false && overlap s sp) ≡ true → overlap s sp ≡ true
    by_mode true h = h
    by_mode false h = h
bytes_help (StatusKind update) sp h = absurd (cc)
bytes_help (LockKind writing span) sp h = absurd (cc)
bytes_help (OpeningKind kind) sp h = absurd (cc)

help_bytes : (k : Kind) (sp : Span) (update : Bool) (s : Span) → k ≡ BytesKind update s → overlap s sp ≡ true
    → helps k (BytesKind false sp) ≡ true
help_bytes k sp update s is h = ap (λ (x : Kind). helps x (BytesKind false sp)) is ∙ by_mode update
  where
    by_mode : (update : Bool) → (does_for update false && overlap s sp) ≡ true
    by_mode true = h
    by_mode false = h

module _ (t : Token) (fid : Fid) (sp other : Span) where
  -- a token that helps with bytes helps with others that its span meets
  pub bytes_to : ((s : Span) → overlap s sp ≡ true → overlap s other ≡ true)
      → helps_cover t (record { fid = fid; kind = BytesKind false sp }) ≡ true
      → helps_cover t (record { fid = fid; kind = BytesKind false other }) ≡ true
  bytes_to meets h =
      let p = and_parts (same_fid t.fid fid) (helps t.kind (BytesKind false sp)) h in
      let q = bytes_help t.kind sp p.1 in
      and_from (same_fid t.fid fid) (helps t.kind (BytesKind false other)) p.0
      (help_bytes t.kind other q.0 q.1 q.2 (meets q.1 q.3))

-- the span of a token that helps with bytes
span_of : (t : Token) (fid : Fid) (sp : Span) → helps_cover t (record { fid = fid; kind = BytesKind false sp }) ≡ true
    → (s : Span) × (overlap s sp ≡ true) × ((other : Span) → overlap s other ≡ true
    → helps_cover t (record { fid = fid; kind = BytesKind false other }) ≡ true)
span_of t fid sp h =
    let p = and_parts (same_fid t.fid fid) (helps t.kind (BytesKind false sp)) h in
    let q = bytes_help t.kind sp p.1 in (
      q.1,
      q.3,
      λ other m. and_from (same_fid t.fid fid) (helps t.kind (BytesKind false other)) p.0
          (help_bytes t.kind other q.0 q.1 q.2 m),
    )

-- # Marks and needs
module _ (view : View) (user : User) (root : Fid) (path : List (List ℕ)) (needs : List Need) (t : Token) where
  abbrev Marked : Type 0
  Marked = Helped (marks_of view user needs path root) t

  abbrev Walked_to : Type 0
  Walked_to = (fid : Fid) × (outcome view (walk_look user root path) ≡ Ok fid)

  module _ (extra all : List Need) (there : Helped all t → Helped (target view user root path ++ extra) t)
      (back : Helped (target view user root path ++ extra) t → Helped all t)
      (up : Helped needs t → Helped (target view user root path ++ extra) t)
      (down : Helped extra t → Helped (target view user root path) t ⊎ (Helped needs t × Walked_to)) where
    pub marks_alike : Marked ↔ Helped all t
    marks_alike = (to, fro)
      where
        to : Marked → Helped all t
        to h = elim ((marks_are_needs view user needs path root).from h.0
            (in_among h.0 (marks_of view user needs path root) h.1)) [
              | inl a ↦ back (helped_left t (target view user root path) extra
                  (h.0, among_in h.0 (target view user root path) a, h.2))
              | inr b ↦ back (up (h.0, among_in h.0 needs b.0, h.2))
            ]

        walked : Helped (target view user root path) t → Marked
        walked h = (
          h.0,
          among_in h.0 (marks_of view user needs path root)
              ((marks_are_needs view user needs path root).walked h.0
              (in_among h.0 (target view user root path) h.1)),
          h.2,
        )

        last : Helped needs t → Walked_to → Marked
        last h w = (
          h.0,
          among_in h.0 (marks_of view user needs path root)
              ((marks_are_needs view user needs path root).last h.0 w.0 w.1 (in_among h.0 needs h.1)),
          h.2,
        )

        fro : Helped all t → Marked
        fro h = elim (helped_either t (target view user root path) extra (there h)) [
          | inl a ↦ walked a
          | inr b ↦ elim (down b) [ inl a ↦ walked a | inr c ↦ last c.0 c.1 ]
        ]

  -- where nothing more is needed
  pub plain_alike : (all : List Need) → needs ≡ [] → all ≡ target view user root path → Marked ↔ Helped all t
  plain_alike all none is =
      marks_alike [] all
      (λ h. helped_left t (target view user root path) [] (subst (λ (ns : List Need). Helped ns t) is h))
      (λ h. elim (helped_either t (target view user root path) [] h) [
        | inl a ↦ subst (λ (ns : List Need). Helped ns t) (sym is) a
        | inr b ↦ absurd (helped_none t b)
      ])
      (λ h. absurd (helped_none t (subst (λ (ns : List Need). Helped ns t) none h)))
      (λ h. absurd (helped_none t h))

  -- where just those needs are, behind the path
  pub more_alike : (extra all : List Need) → all ≡ target view user root path ++ extra → Walked_to
      → (Helped needs t → Helped (target view user root path ++ extra) t)
      → (Helped extra t → Helped (target view user root path) t ⊎ Helped needs t) → Marked ↔ Helped all t
  more_alike extra all is walk up down =
      marks_alike extra all (λ h. subst (λ (ns : List Need). Helped ns t) is h)
      (λ h. subst (λ (ns : List Need). Helped ns t) (sym is) h) up
      (λ h. elim (down h) [ inl a ↦ inl a | inr b ↦ inr (b, walk) ])

-- # What verdicts mean
abbrev pub LeadsBy : Tables → Call → Fid → List (List ℕ) → Result Verdict Refusal → Type 0
LeadsBy m call root path (Ok verdict) = LeadsSo m call root path verdict
LeadsBy m call root path (Err refusal) = Unit {0}

-- a token that a call uses is of a lock or of an open file
pub uses_kind : (call : Call) (kind : Kind) → UsesKind call kind → IsUseKind kind
uses_kind (Lock label place writing from len) kind e = subst IsUseKind (sym e) tt
uses_kind (OpenFile label place opening) kind e = subst IsUseKind (sym e) tt
uses_kind call kind e = elim e [ ]

module _ (m : Tables) (call : Call) (root : Fid) (path : List (List ℕ)) (reply : Reply) where
  -- a reply of neither bytes nor names used nothing more
  last_none : ((bytes : List ℕ) → reply ≡ Bytes bytes → ⊥) → ((names : List (List ℕ)) → reply ≡ Names names → ⊥)
      → (verdict : Result Verdict Refusal) → LeadsBy m call root path verdict → meant m call verdict ≡ Replies reply
      → last_needs m verdict ≡ []
  last_none no_bytes no_names (Err refusal) leads e = refl
  last_none no_bytes no_names (Ok Does) leads e = refl
  last_none no_bytes no_names (Ok (Reads fid span)) leads e =
      let bytes : List ℕ = bytes_seen (content m.cache) fid span.from (span.to - span.from) in
      let p : Bytes bytes ≡ reply = cc in absurd (no_bytes bytes (sym p))
  last_none no_bytes no_names (Ok (Lists fid)) leads e =
      let names : List (List ℕ) = names_of (content m.cache fid Entries) in
      let p : Names names ≡ reply = cc in absurd (no_names names (sym p))
  last_none no_bytes no_names (Ok (Tells fid)) leads e = refl
  last_none no_bytes no_names (Ok (Shows fid which)) leads e = refl
  last_none no_bytes no_names (Ok (Writes fid from to)) leads e = absurd (cc)
  last_none no_bytes no_names (Ok (Uses fid kind)) leads e = by_kind kind (uses_kind call kind leads) e
    where
      by_kind : (k : Kind) → IsUseKind k → used_by fid k ≡ Replies reply → last_needs m (Ok (Uses fid k)) ≡ []
      by_kind (LockKind writing span) u e = absurd (cc)
      by_kind (OpeningKind kind) u e = absurd (cc)
      by_kind (BytesKind update span) u e = elim u [ ]
      by_kind (StatusKind update) u e = elim u [ ]
  last_none no_bytes no_names (Ok Frees) leads e = refl
  last_none no_bytes no_names (Ok (Syncs fid)) leads e = refl
  last_none no_bytes no_names (Ok Gives) leads e = refl
  last_none no_bytes no_names (Ok (Asks question)) leads e = refl

  -- one of bytes, or of names, is of what is read, or listed
  told_only : ((facts : FactsOf) → Facts facts ≡ reply → ⊥) → ((list : List AccessEntry) → Access list ≡ reply → ⊥)
      → ((refusal : Refusal) → IsRefused refusal ≡ reply → ⊥) → (Done ≡ reply → ⊥)
      → (verdict : Result Verdict Refusal) → LeadsBy m call root path verdict → meant m call verdict ≡ Replies reply
      → ((fid : Fid) × (span : Span) × (verdict ≡ Ok (Reads fid span))) ⊎ ((fid : Fid) × (verdict ≡ Ok (Lists fid)))
  told_only no_facts no_access no_refusal no_done (Err refusal) leads e =
      absurd (no_refusal refusal (let p : IsRefused refusal ≡ reply = cc in p))
  told_only no_facts no_access no_refusal no_done (Ok Does) leads e =
      absurd (no_done (let p : Done ≡ reply = cc in p))
  told_only no_facts no_access no_refusal no_done (Ok (Reads fid span)) leads e = inl (fid, span, refl)
  told_only no_facts no_access no_refusal no_done (Ok (Lists fid)) leads e = inr (fid, refl)
  told_only no_facts no_access no_refusal no_done (Ok (Tells fid)) leads e =
      absurd (by_seen (content m.cache fid Traits) e)
    where
      by_seen : (o : Option Nature)
          → Replies (option_map_or (facts_of (content m.cache) m.user fid) o (IsRefused NoEntry)) ≡ Replies reply → ⊥
      by_seen None e = no_refusal NoEntry (let p : IsRefused NoEntry ≡ reply = cc in p)
      by_seen (Some nature) e =
          let facts : Reply = facts_of (content m.cache) m.user fid nature in
          let p : facts ≡ reply = cc in no_facts (record {
            dir = nature.dir;
            length = min (content m.cache fid Size) 4294967295;
            owner = nature.owner;
            rights = rights_on nature m.user;
          }) p
  told_only no_facts no_access no_refusal no_done (Ok (Shows fid which)) leads e =
      absurd (by_seen (content m.cache fid Traits) e)
    where
      by_list : (r : Result (List AccessEntry) Refusal) → Replies (either r Access IsRefused) ≡ Replies reply → ⊥
      by_list (Ok list) e = no_access list (let p : Access list ≡ reply = cc in p)
      by_list (Err refusal) e = no_refusal refusal (let p : IsRefused refusal ≡ reply = cc in p)

      by_seen : (o : Option Nature) → Replies (option_map_or (access_of which) o (IsRefused NoEntry)) ≡ Replies reply
          → ⊥
      by_seen None e = no_refusal NoEntry (let p : IsRefused NoEntry ≡ reply = cc in p)
      by_seen (Some nature) e = by_list (list_in which nature) e
  told_only no_facts no_access no_refusal no_done (Ok (Writes fid from to)) leads e = absurd (cc)
  told_only no_facts no_access no_refusal no_done (Ok (Uses fid kind)) leads e = absurd
      (by_kind kind (uses_kind call kind leads) e)
    where
      by_kind : (k : Kind) → IsUseKind k → used_by fid k ≡ Replies reply → ⊥
      by_kind (LockKind writing span) u e = cc
      by_kind (OpeningKind kind) u e = cc
      by_kind (BytesKind update span) u e = elim u [ ]
      by_kind (StatusKind update) u e = elim u [ ]
  told_only no_facts no_access no_refusal no_done (Ok Frees) leads e = absurd (cc)
  told_only no_facts no_access no_refusal no_done (Ok (Syncs fid)) leads e = absurd (cc)
  told_only no_facts no_access no_refusal no_done (Ok Gives) leads e = absurd (cc)
  told_only no_facts no_access no_refusal no_done (Ok (Asks question)) leads e = absurd (cc)

-- # A call behind its path
module _ {A B : Type 0} (m : Tables) (call : Call) (root : Fid) (path : List (List ℕ))
    (verdict : Result Verdict Refusal) (leads : LeadsBy m call root path verdict) (t : Token)
    (look : Look (Result A Refusal))
    (look_is : needs_of (content m.cache) look ≡ target (content m.cache) m.user root path)
    (next : A → Look (Result B Refusal)) (judge : B → Meant)
    (out : outcome (content m.cache) (judged (checked look next) judge) ≡ meant m call verdict) where
  abbrev judge_of : Result B Refusal → Meant
  judge_of r = either r judge (λ refusal. Replies (IsRefused refusal))

  abbrev all_needs : List Need
  all_needs = needs_of (content m.cache) (judged (checked look next) judge)

  abbrev Goal : Type 0
  Goal = Helped (marks_of (content m.cache) m.user (last_needs m verdict) path root) t ↔ Helped all_needs t

  all_is : all_needs ≡ needs_of (content m.cache) (checked look next)
  all_is = needs_end (content m.cache) judge_of (checked look next)

  pub meant_is : (r : Result B Refusal) → outcome (content m.cache) (checked look next) ≡ r
      → meant m call verdict ≡ judge_of r
  meant_is r e = sym out ∙ outcome_end (content m.cache) judge_of (checked look next) ∙ ap judge_of e

  -- it is refused, and needs no more than its path
  refused_plain : (refusal : Refusal) → outcome (content m.cache) (checked look next) ≡ Err refusal
      → all_needs ≡ target (content m.cache) m.user root path → Goal
  refused_plain refusal e is =
      plain_alike (content m.cache) m.user root path (last_needs m verdict) t all_needs
      (last_none m call root path (IsRefused refusal) (λ bytes q. absurd (cc)) (λ names q. absurd (cc)) verdict leads
      (meant_is (Err refusal) e)) is

  pub refused_first : (refusal : Refusal) → outcome (content m.cache) look ≡ Err refusal → Goal
  refused_first refusal e =
      let r = refused_on (content m.cache) look next refusal e in
      refused_plain refusal r.1 (all_is ∙ r.0 ∙ look_is)

  module _ (value : A) (e : outcome (content m.cache) look ≡ Ok value) where
    pub all_found : all_needs
        ≡ target (content m.cache) m.user root path ++ needs_of (content m.cache) (next value)
    all_found =
        all_is ∙ found_needs (content m.cache) look next value e
        ∙ ap (λ (ns : List Need). ns ++ needs_of (content m.cache) (next value)) look_is

    pub meant_found : (r : Result B Refusal) → outcome (content m.cache) (next value) ≡ r
        → meant m call verdict ≡ judge_of r
    meant_found r q = meant_is r (found_outcome (content m.cache) look next value e ∙ q)

    pub refused_behind : (refusal : Refusal) → outcome (content m.cache) (next value) ≡ Err refusal
        → needs_of (content m.cache) (next value) ≡ [] → Goal
    refused_behind refusal q none =
        refused_plain refusal (found_outcome (content m.cache) look next value e ∙ q)
        (all_found ∙ ap (λ (ns : List Need). target (content m.cache) m.user root path ++ ns) none
        ∙ append-nil (target (content m.cache) m.user root path))

-- # Read
module _ (m : Tables) (place : NamedPlace) (from len : ℕ) (root : Fid) (path : List (List ℕ))
    (verdict : Result Verdict Refusal) (leads : LeadsBy m (Read place from len) root path verdict) (t : Token) where
  abbrev read_it : Look Meant
  read_it = judged (checked (permitted_look m.user root path read_right) (read_from from len))
      (λ bytes. Replies (Bytes bytes))

  module _ (out : outcome (content m.cache) read_it ≡ meant m (Read place from len) verdict) where
    abbrev look_r : Look (Result (Fid × Nature) Refusal)
    look_r = permitted_look m.user root path read_right

    look_r_is : needs_of (content m.cache) look_r ≡ target (content m.cache) m.user root path
    look_r_is = permitted_needs (content m.cache) m.user root path read_right

    abbrev last_read : Fid → Span → List Need
    last_read fid span = if nat_lt span.from span.to
        then record { fid = fid; kind = BytesKind false (rounded span.from span.to) } ∷ [] else []

    module _ (fid : Fid) (nature : Nature) (e : outcome (content m.cache) look_r ≡ Ok (fid, nature)) (span : Span)
        (is : span ≡ span_between from (from + read_count from len (content m.cache fid Size))) where
      abbrev count : ℕ
      count = read_count from len (content m.cache fid Size)

      abbrev extra_r : List Need
      extra_r = needs_of (content m.cache) (read_from from len (fid, nature))

      extra_is : extra_r ≡ status_need fid ∷ needs_of (content m.cache) (bytes_look fid from count)
      extra_is = ap (λ (ns : List Need). status_need fid ∷ ns)
          (needs_end {B = Result (List ℕ) Refusal} (content m.cache) (λ bytes. Ok bytes) (bytes_look fid from count))

      walk_r : outcome (content m.cache) (walk_look m.user root path) ≡ Ok fid
      walk_r = permitted_leads (content m.cache) m.user root path read_right (fid, nature) e

      up_r : Helped (last_read fid span) t → Helped (target (content m.cache) m.user root path ++ extra_r) t
      up_r = by_some (nat_lt span.from span.to) refl
        where
          by_some : (b : Bool) → nat_lt span.from span.to ≡ b → Helped (if b
              then record { fid = fid; kind = BytesKind false (rounded span.from span.to) } ∷ [] else []) t
              → Helped (target (content m.cache) m.user root path ++ extra_r) t
          by_some true some h =
              let q = span_of t fid (rounded span.from span.to)
              (helped_one t (record { fid = fid; kind = BytesKind false (rounded span.from span.to) }) h) in
              let b = meets_block q.0 from count span is some q.1 in
              helped_right t (target (content m.cache) m.user root path) extra_r (
                byte_need fid b.0,
                subst (In (byte_need fid b.0)) (sym extra_is)
                    (inr (of_byte (content m.cache) fid count from b.0 b.1 b.2)),
                q.2 (rounded b.0 (b.0 + 1)) b.3,
              )
          by_some false some h = absurd (helped_none t h)

      down_r : Helped extra_r t → Helped (target (content m.cache) m.user root path) t ⊎ Helped (last_read fid span) t
      down_r h = elim (subst (In h.0) extra_is h.1) [
        | inl s ↦ inl (
          status_need fid,
          status_in (content m.cache) m.user root path fid walk_r,
          subst (λ (n : Need). helps_cover t n ≡ true) s h.2,
        )
        | inr j ↦
            let b = byte_of (content m.cache) fid count from h.0 j in
            let q = span_of t fid (rounded b.0 (b.0 + 1)) (subst (λ (n : Need). helps_cover t n ≡ true) b.3 h.2) in
            let r = block_meets q.0 from count span is b.0 b.1 b.2 q.1 in
            inr (subst (λ (ns : List Need). Helped ns t) (sym (last_is r.0)) (
              record { fid = fid; kind = BytesKind false (rounded span.from span.to) },
              inl refl,
              q.2 (rounded span.from span.to) r.1,
            ))
      ]
        where
          last_is : nat_lt span.from span.to ≡ true → last_read fid span
              ≡ record { fid = fid; kind = BytesKind false (rounded span.from span.to) } ∷ []
          last_is some = ap (λ (b : Bool). if b
              then record { fid = fid; kind = BytesKind false (rounded span.from span.to) } ∷ [] else []) some

      pub reads_alike : Helped (marks_of (content m.cache) m.user (last_read fid span) path root) t
          ↔ Helped (needs_of (content m.cache) read_it) t
      reads_alike = more_alike (content m.cache) m.user root path (last_read fid span) t extra_r
          (needs_of (content m.cache) read_it)
          (all_found m (Read place from len) root path verdict leads t look_r look_r_is (read_from from len)
          (λ bytes. Replies (Bytes bytes)) out (fid, nature) e)
          (fid, walk_r) up_r down_r

    abbrev Goal_r : Result Verdict Refusal → Type 0
    Goal_r v = Helped (marks_of (content m.cache) m.user (last_needs m v) path root) t
        ↔ Helped (needs_of (content m.cache) read_it) t

    found_read : (fid : Fid) (nature : Nature) → outcome (content m.cache) look_r ≡ Ok (fid, nature) → Goal_r verdict
    found_read fid nature e =
        elim (told_only m (Read place from len) root path (Bytes bytes) (λ facts q. cc) (λ list q. cc)
        (λ refusal q. cc) (λ q. cc) verdict leads
        (meant_found m (Read place from len) root path verdict leads t look_r look_r_is (read_from from len)
        (λ bytes. Replies (Bytes bytes)) out (fid, nature) e (Ok bytes) bytes_are)) [
          | inr l ↦ elim (subst (LeadsBy m (Read place from len) root path) l.1 leads).1 [ ]
          | inl r ↦
              let l = subst (LeadsBy m (Read place from len) root path) r.2 leads in
              let p : Ok r.0 ≡ Ok fid = sym l.0 ∙ permitted_leads (content m.cache) m.user root path read_right
              (fid, nature) e in
              let same : r.0 ≡ fid = cc in
              subst Goal_r (sym r.2)
              (subst (λ (f : Fid). Helped (marks_of (content m.cache) m.user (last_read f r.1) path root) t
              ↔ Helped (needs_of (content m.cache) read_it) t) (sym same)
              (reads_alike fid nature e r.1
              (subst (λ (f : Fid). r.1 ≡ span_between from (from + read_count from len (content m.cache f Size))) same
              l.1)))
        ]
      where
        bytes : List ℕ
        bytes = outcome (content m.cache) (bytes_look fid from (read_count from len (content m.cache fid Size)))

        bytes_are : outcome (content m.cache) (read_from from len (fid, nature)) ≡ Ok bytes
        bytes_are = outcome_end {B = Result (List ℕ) Refusal} (content m.cache) (λ bytes. Ok bytes)
            (bytes_look fid from (read_count from len (content m.cache fid Size)))

    pub read_alike : Goal_r verdict
    read_alike = by_found (outcome (content m.cache) look_r) refl
      where
        by_found : (r : Result (Fid × Nature) Refusal) → outcome (content m.cache) look_r ≡ r → Goal_r verdict
        by_found (Ok found) e = found_read found.0 found.1 e
        by_found (Err refusal) e = refused_first m (Read place from len) root path verdict leads t look_r look_r_is
            (read_from from len) (λ bytes. Replies (Bytes bytes)) out refusal e

-- # List
module _ (m : Tables) (place : NamedPlace) (root : Fid) (path : List (List ℕ)) (verdict : Result Verdict Refusal)
    (leads : LeadsBy m (ListNames place) root path verdict) (t : Token) where
  abbrev list_it : Look Meant
  list_it = judged (checked (target_look m.user root path) (entries_for m.user))
      (λ entries. Replies (Names (names_of entries)))

  module _ (out : outcome (content m.cache) list_it ≡ meant m (ListNames place) verdict) where
    abbrev Goal_l : Result Verdict Refusal → Type 0
    Goal_l v = Helped (marks_of (content m.cache) m.user (last_needs m v) path root) t
        ↔ Helped (needs_of (content m.cache) list_it) t

    module _ (fid : Fid) (nature : Nature)
        (e : outcome (content m.cache) (target_look m.user root path) ≡ Ok (fid, nature)) where
      walk_l : outcome (content m.cache) (walk_look m.user root path) ≡ Ok fid
      walk_l = target_leads (content m.cache) m.user root path (fid, nature) e

      abbrev names : List (List ℕ)
      names = names_of (content m.cache fid Entries)

      listed : needs_of (content m.cache) (entries_for m.user (fid, nature)) ≡ whole_need fid ∷ []
          → outcome (content m.cache) (entries_for m.user (fid, nature)) ≡ Ok (content m.cache fid Entries)
          → Goal_l verdict
      listed need ends =
          elim (told_only m (ListNames place) root path (Names names) (λ facts q. cc) (λ list q. cc)
          (λ refusal q. cc) (λ q. cc) verdict leads
          (meant_found m (ListNames place) root path verdict leads t (target_look m.user root path) refl
          (entries_for m.user) (λ entries. Replies (Names (names_of entries))) out (fid, nature) e
          (Ok (content m.cache fid Entries)) ends)) [
            | inl r ↦ elim (subst (LeadsBy m (ListNames place) root path) r.2 leads).1 [ ]
            | inr r ↦
                let l = subst (LeadsBy m (ListNames place) root path) r.1 leads in
                let p : Ok r.0 ≡ Ok fid = sym l.0 ∙ walk_l in
                let same : r.0 ≡ fid = cc in
                subst Goal_l (sym r.1)
                (subst (λ (f : Fid). Helped (marks_of (content m.cache) m.user (whole_need f ∷ []) path root) t
                ↔ Helped (needs_of (content m.cache) list_it) t) (sym same)
                (more_alike (content m.cache) m.user root path (whole_need fid ∷ []) t (whole_need fid ∷ [])
                (needs_of (content m.cache) list_it)
                (all_found m (ListNames place) root path verdict leads t (target_look m.user root path) refl
                (entries_for m.user) (λ entries. Replies (Names (names_of entries))) out (fid, nature) e
                ∙ ap (λ (ns : List Need). target (content m.cache) m.user root path ++ ns) need)
                (fid, walk_l)
                (λ h. helped_right t (target (content m.cache) m.user root path) (whole_need fid ∷ []) h)
                (λ h. inr h)))
          ]

      refused : (refusal : Refusal) → outcome (content m.cache) (entries_for m.user (fid, nature)) ≡ Err refusal
          → needs_of (content m.cache) (entries_for m.user (fid, nature)) ≡ [] → Goal_l verdict
      refused refusal q none = refused_behind m (ListNames place) root path verdict leads t
          (target_look m.user root path) refl (entries_for m.user) (λ entries. Replies (Names (names_of entries))) out
          (fid, nature) e refusal q none

      abbrev behind : Bool → Bool → Look (Result (List DirEntry) Refusal)
      behind b c = refuse_if b NotDir (refuse_if c (Denied read_right)
          (Looks fid Entries (λ entries. Ends (Ok entries))))

      pub found_list : Goal_l verdict
      found_list = by_tests (not nature.dir) (not (allows (rights_on nature m.user) read_right)) refl
        where
          by_tests : (b c : Bool) → entries_for m.user (fid, nature) ≡ behind b c → Goal_l verdict
          by_tests true c is = refused NotDir (ap (outcome (content m.cache)) is) (ap (needs_of (content m.cache)) is)
          by_tests false true is =
              refused (Denied read_right) (ap (outcome (content m.cache)) is) (ap (needs_of (content m.cache)) is)
          by_tests false false is = listed (ap (needs_of (content m.cache)) is) (ap (outcome (content m.cache)) is)

    pub list_alike : Goal_l verdict
    list_alike = by_found (outcome (content m.cache) (target_look m.user root path)) refl
      where
        by_found : (r : Result (Fid × Nature) Refusal)
            → outcome (content m.cache) (target_look m.user root path) ≡ r → Goal_l verdict
        by_found (Ok found) e = found_list found.0 found.1 e
        by_found (Err refusal) e = refused_first m (ListNames place) root path verdict leads t
            (target_look m.user root path) refl (entries_for m.user) (λ entries. Replies (Names (names_of entries))) out
            refusal e

-- # Stat, GetAcl
module _ (m : Tables) (place : NamedPlace) (root : Fid) (path : List (List ℕ)) (verdict : Result Verdict Refusal)
    (leads : LeadsBy m (Stat place) root path verdict) (t : Token) where
  abbrev stat_it : Look Meant
  stat_it = judged (checked (target_look m.user root path) (facts_for m.user)) (λ facts. Replies (Facts facts))

  module _ (out : outcome (content m.cache) stat_it ≡ meant m (Stat place) verdict) where
    abbrev Goal_s : Type 0
    Goal_s = Helped (marks_of (content m.cache) m.user (last_needs m verdict) path root) t
        ↔ Helped (needs_of (content m.cache) stat_it) t

    found_stat : (fid : Fid) (nature : Nature)
        → outcome (content m.cache) (target_look m.user root path) ≡ Ok (fid, nature) → Goal_s
    found_stat fid nature e =
        more_alike (content m.cache) m.user root path (last_needs m verdict) t (status_need fid ∷ [])
        (needs_of (content m.cache) stat_it)
        (all_found m (Stat place) root path verdict leads t (target_look m.user root path) refl (facts_for m.user)
        (λ facts. Replies (Facts facts)) out (fid, nature) e)
        (fid, walk_s)
        (λ h. absurd (helped_none t (subst (λ (ns : List Need). Helped ns t)
        (last_none m (Stat place) root path (Facts facts) (λ bytes q. absurd (cc)) (λ names q. absurd (cc)) verdict
        leads
        (meant_found m (Stat place) root path verdict leads t (target_look m.user root path) refl (facts_for m.user)
        (λ facts. Replies (Facts facts)) out (fid, nature) e (Ok facts) refl)) h)))
        (λ h. inl (one_helped t (status_need fid) (target (content m.cache) m.user root path)
        (status_in (content m.cache) m.user root path fid walk_s) h))
      where
        walk_s : outcome (content m.cache) (walk_look m.user root path) ≡ Ok fid
        walk_s = target_leads (content m.cache) m.user root path (fid, nature) e

        facts : FactsOf
        facts = record {
          dir = nature.dir;
          length = min (content m.cache fid Size) 4294967295;
          owner = nature.owner;
          rights = rights_on nature m.user;
        }

    pub stat_alike : Goal_s
    stat_alike = by_found (outcome (content m.cache) (target_look m.user root path)) refl
      where
        by_found : (r : Result (Fid × Nature) Refusal)
            → outcome (content m.cache) (target_look m.user root path) ≡ r → Goal_s
        by_found (Ok found) e = found_stat found.0 found.1 e
        by_found (Err refusal) e = refused_first m (Stat place) root path verdict leads t
            (target_look m.user root path) refl (facts_for m.user) (λ facts. Replies (Facts facts)) out refusal e

module _ (m : Tables) (place : NamedPlace) (which : Which) (root : Fid) (path : List (List ℕ))
    (verdict : Result Verdict Refusal) (leads : LeadsBy m (GetAcl place which) root path verdict) (t : Token) where
  abbrev access_it : Look Meant
  access_it = judged (checked (target_look m.user root path) (list_for which)) (λ list. Replies (Access list))

  module _ (out : outcome (content m.cache) access_it ≡ meant m (GetAcl place which) verdict) where
    abbrev Goal_a : Type 0
    Goal_a = Helped (marks_of (content m.cache) m.user (last_needs m verdict) path root) t
        ↔ Helped (needs_of (content m.cache) access_it) t

    listed_a : (found : Fid × Nature) (list : List AccessEntry)
        → outcome (content m.cache) (target_look m.user root path) ≡ Ok found → list_in which found.1 ≡ Ok list → Goal_a
    listed_a found list e is =
        plain_alike (content m.cache) m.user root path (last_needs m verdict) t (needs_of (content m.cache) access_it)
        (last_none m (GetAcl place which) root path (Access list) (λ bytes q. absurd (cc)) (λ names q. absurd (cc))
        verdict leads
        (meant_found m (GetAcl place which) root path verdict leads t (target_look m.user root path) refl
        (list_for which) (λ list. Replies (Access list)) out found e (Ok list) is))
        (all_found m (GetAcl place which) root path verdict leads t (target_look m.user root path) refl
        (list_for which) (λ list. Replies (Access list)) out found e
        ∙ append-nil (target (content m.cache) m.user root path))

    pub access_alike : Goal_a
    access_alike = by_found (outcome (content m.cache) (target_look m.user root path)) refl
      where
        by_list : (found : Fid × Nature) → outcome (content m.cache) (target_look m.user root path) ≡ Ok found
            → (r : Result (List AccessEntry) Refusal) → list_in which found.1 ≡ r → Goal_a
        by_list found e (Ok list) is = listed_a found list e is
        by_list found e (Err refusal) is = refused_behind m (GetAcl place which) root path verdict leads t
            (target_look m.user root path) refl (list_for which) (λ list. Replies (Access list)) out found e refusal is
            refl

        by_found : (r : Result (Fid × Nature) Refusal)
            → outcome (content m.cache) (target_look m.user root path) ≡ r → Goal_a
        by_found (Ok found) e = by_list found e (list_in which found.1) refl
        by_found (Err refusal) e = refused_first m (GetAcl place which) root path verdict leads t
            (target_look m.user root path) refl (list_for which) (λ list. Replies (Access list)) out refusal e

-- # Calls that only tell
pub tells_alike : (m : Tables) (call : Call) (root : Fid) (path : List (List ℕ)) (verdict : Result Verdict Refusal)
    → OnlyTells call → LeadsBy m call root path verdict
    → outcome (content m.cache) (path_look m call root path) ≡ meant m call verdict → (t : Token)
    → Helped (marks_of (content m.cache) m.user (last_needs m verdict) (way_of m call root path) root) t
    ↔ Helped (needs_of (content m.cache) (path_look m call root path)) t
unfolding read_look list_look stat_look access_look
tells_alike m (Read place from len) root path verdict tells leads out t =
    read_alike m place from len root path verdict leads t out
tells_alike m (ListNames place) root path verdict tells leads out t =
    list_alike m place root path verdict leads t out
tells_alike m (Stat place) root path verdict tells leads out t = stat_alike m place root path verdict leads t out
tells_alike m (GetAcl place which) root path verdict tells leads out t =
    access_alike m place which root path verdict leads t out
tells_alike m call root path verdict tells leads out t = elim tells [ ]

-- # A Write looks at the root first
module _ (view : View) (user : User) (root : Fid) (path : List (List ℕ)) (needs : List Need) (t : Token)
    (all : List Need) where
  abbrev with_root : List Need → List Need
  with_root xs = status_need root ∷ xs

  root_there : (xs : List Need) → In (status_need root) xs → Helped (with_root xs) t → Helped xs t
  root_there xs i h = elim h.1 [
    | inl e ↦ (status_need root, i, subst (λ (n : Need). helps_cover t n ≡ true) e h.2)
    | inr j ↦ (h.0, j, h.2)
  ]

  root_back : (xs : List Need) → Helped xs t → Helped (with_root xs) t
  root_back xs h = (h.0, inr h.1, h.2)

  pub root_more : (extra : List Need) → all ≡ with_root (target view user root path ++ extra)
      → (fid : Fid) → outcome view (walk_look user root path) ≡ Ok fid
      → (Helped needs t → Helped (target view user root path ++ extra) t)
      → (Helped extra t → Helped (target view user root path) t ⊎ Helped needs t)
      → Helped (marks_of view user needs path root) t ↔ Helped all t
  root_more extra is fid walk up down =
      marks_alike view user root path needs t extra all
      (λ h. root_there (target view user root path ++ extra)
      (in_left (target view user root path) extra (status_need root) (root_in view user root path))
      (subst (λ (ns : List Need). Helped ns t) is h))
      (λ h. subst (λ (ns : List Need). Helped ns t) (sym is)
      (root_back (target view user root path ++ extra) h)) up
      (λ h. elim (down h) [ inl a ↦ inl a | inr b ↦ inr (b, (fid, walk)) ])

  pub root_plain : needs ≡ [] → all ≡ with_root (target view user root path)
      → Helped (marks_of view user needs path root) t ↔ Helped all t
  root_plain none is =
      marks_alike view user root path needs t [] all
      (λ h. helped_left t (target view user root path) [] (root_there (target view user root path)
      (root_in view user root path) (subst (λ (ns : List Need). Helped ns t) is h)))
      (λ h. subst (λ (ns : List Need). Helped ns t) (sym is) (root_back (target view user root path)
      (elim (helped_either t (target view user root path) [] h) [
        | inl a ↦ a
        | inr b ↦ absurd (helped_none t b)
      ])))
      (λ h. absurd (helped_none t (subst (λ (ns : List Need). Helped ns t) none h)))
      (λ h. absurd (helped_none t h))

-- what is written is what the verdict says
writes_only : (m : Tables) (call : Call) (root : Fid) (path : List (List ℕ)) (fid : Fid) (from : ℕ) (bytes : List ℕ)
    (verdict : Result Verdict Refusal) → LeadsBy m call root path verdict
    → meant m call verdict ≡ WritesOf fid from bytes → (to : ℕ) × (verdict ≡ Ok (Writes fid from to))
writes_only m call root path fid from bytes (Err refusal) leads e = absurd (cc)
writes_only m call root path fid from bytes (Ok Does) leads e = absurd (cc)
writes_only m call root path fid from bytes (Ok (Reads f span)) leads e = absurd (cc)
writes_only m call root path fid from bytes (Ok (Lists f)) leads e = absurd (cc)
writes_only m call root path fid from bytes (Ok (Tells f)) leads e = absurd (cc)
writes_only m call root path fid from bytes (Ok (Shows f which)) leads e = absurd (cc)
writes_only m call root path fid from bytes (Ok (Writes f a to)) leads e =
    let p : f ≡ fid = cc in
    let q : a ≡ from = cc in
    (to, λ i. Ok (Writes (p i) (q i) to))
writes_only m call root path fid from bytes (Ok (Uses f kind)) leads e = absurd
    (by_kind kind (uses_kind call kind leads) e)
  where
    by_kind : (k : Kind) → IsUseKind k → used_by f k ≡ WritesOf fid from bytes → ⊥
    by_kind (LockKind writing span) u e = cc
    by_kind (OpeningKind kind) u e = cc
    by_kind (BytesKind update span) u e = elim u [ ]
    by_kind (StatusKind update) u e = elim u [ ]
writes_only m call root path fid from bytes (Ok Frees) leads e = absurd (cc)
writes_only m call root path fid from bytes (Ok (Syncs f)) leads e = absurd (cc)
writes_only m call root path fid from bytes (Ok Gives) leads e = absurd (cc)
writes_only m call root path fid from bytes (Ok (Asks question)) leads e = absurd (cc)

module _ (view : View) (fid : Fid) (from end size : ℕ) (b : Bool) (result : Result Meant Refusal) where
  abbrev pub takes_it : Look (Result Meant Refusal)
  takes_it = if b
      then Takes (record { fid = fid; kind = StatusKind true })
      (Takes (record { fid = fid; kind = BytesKind true (rounded (min from size) end) }) (Ends result))
      else Takes (record { fid = fid; kind = BytesKind true (rounded from end) }) (Ends result)

  abbrev taken_needs : List Need
  taken_needs = if b
      then length_need fid ∷ record { fid = fid; kind = BytesKind true (rounded (min from size) end) } ∷ []
      else record { fid = fid; kind = BytesKind true (rounded from end) } ∷ []

takes_needs : (view : View) (fid : Fid) (from end size : ℕ) (b : Bool) (result : Result Meant Refusal)
    → (needs_of view (takes_it view fid from end size b result) ≡ taken_needs view fid from end size b result)
    × (outcome view (takes_it view fid from end size b result) ≡ result)
takes_needs view fid from end size true result = (refl, refl)
takes_needs view fid from end size false result = (refl, refl)

module _ (m : Tables) (place : NamedPlace) (from : ℕ) (bytes : List ℕ) (root : Fid) (path : List (List ℕ))
    (verdict : Result Verdict Refusal) (leads : LeadsBy m (Write place from bytes) root path verdict) (t : Token) where
  abbrev end : ℕ
  end = from + length bytes

  abbrev fitting : Look (Result Fid Refusal)
  fitting = checked (permitted_look m.user root path write_right) (fits_file end)

  abbrev write_it : Look Meant
  write_it = judged (checked (writable_look root fitting) (written_look from bytes)) (λ verdict. verdict)

  abbrev judge_w : Result Meant Refusal → Meant
  judge_w r = either r (λ verdict. verdict) (λ refusal. Replies (IsRefused refusal))

  abbrev if_writable : Nature → Look (Result Fid Refusal)
  if_writable nature = refuse_if nature.read_only ReadOnly fitting

  module _ (out : outcome (content m.cache) write_it ≡ meant m (Write place from bytes) verdict) where
    abbrev Goal_w : Type 0
    Goal_w = Helped (marks_of (content m.cache) m.user (last_needs m verdict)
        (way_of m (Write place from bytes) root path) root) t ↔ Helped (needs_of (content m.cache) write_it) t

    abbrev On : List (List ℕ) → Type 0
    On way = Helped (marks_of (content m.cache) m.user (last_needs m verdict) way root) t
        ↔ Helped (needs_of (content m.cache) write_it) t

    all_w : needs_of (content m.cache) write_it
        ≡ needs_of (content m.cache) (checked (writable_look root fitting) (written_look from bytes))
    all_w = needs_end (content m.cache) judge_w (checked (writable_look root fitting) (written_look from bytes))

    meant_w : (r : Result Meant Refusal)
        → outcome (content m.cache) (checked (writable_look root fitting) (written_look from bytes)) ≡ r
        → meant m (Write place from bytes) verdict ≡ judge_w r
    meant_w r e = sym out
        ∙ outcome_end (content m.cache) judge_w (checked (writable_look root fitting) (written_look from bytes))
        ∙ ap judge_w e

    last_refused : (refusal : Refusal)
        → outcome (content m.cache) (checked (writable_look root fitting) (written_look from bytes)) ≡ Err refusal
        → last_needs m verdict ≡ []
    last_refused refusal e =
        last_none m (Write place from bytes) root path (IsRefused refusal) (λ bytes q. absurd (cc))
        (λ names q. absurd (cc)) verdict leads (meant_w (Err refusal) e)

    -- the root isn't seen, or the fileset is a clone
    root_refused : (refusal : Refusal) → outcome (content m.cache) (writable_look root fitting) ≡ Err refusal
        → needs_of (content m.cache) (writable_look root fitting) ≡ status_need root ∷ []
        → (way : List (List ℕ)) → target (content m.cache) m.user root way ≡ status_need root ∷ [] → On way
    root_refused refusal e is way same =
        let r = refused_on (content m.cache) (writable_look root fitting) (written_look from bytes) refusal e in
        plain_alike (content m.cache) m.user root way (last_needs m verdict) t (needs_of (content m.cache) write_it)
        (last_refused refusal r.1) (all_w ∙ r.0 ∙ is ∙ sym same)

    module _ (nature : Nature) (seen_root : outcome (content m.cache) (nature_look root) ≡ Ok nature)
        (free : nature.read_only ≡ false) where
      plain_look : if_writable nature ≡ fitting
      plain_look = ap (λ (b : Bool). refuse_if b ReadOnly fitting) free

      fit_needs : needs_of (content m.cache) (writable_look root fitting)
          ≡ status_need root ∷ needs_of (content m.cache) fitting
      fit_needs =
          found_needs (content m.cache) (nature_look root) if_writable nature seen_root
          ∙ ap (λ (l : Look (Result Fid Refusal)). status_need root ∷ needs_of (content m.cache) l) plain_look

      fit_outcome : outcome (content m.cache) (writable_look root fitting) ≡ outcome (content m.cache) fitting
      fit_outcome =
          found_outcome (content m.cache) (nature_look root) if_writable nature seen_root
          ∙ ap (outcome (content m.cache)) plain_look

      -- the file can't be written
      fit_refused : (refusal : Refusal) → outcome (content m.cache) fitting ≡ Err refusal
          → needs_of (content m.cache) fitting ≡ target (content m.cache) m.user root path → On path
      fit_refused refusal e is =
          let r = refused_on (content m.cache) (writable_look root fitting) (written_look from bytes) refusal
          (fit_outcome ∙ e) in
          root_plain (content m.cache) m.user root path (last_needs m verdict) t (needs_of (content m.cache) write_it)
          (last_refused refusal r.1)
          (all_w ∙ r.0 ∙ fit_needs ∙ ap (λ (ns : List Need). status_need root ∷ ns) is)

      -- it can
      module _ (fid : Fid) (walk : outcome (content m.cache) (walk_look m.user root path) ≡ Ok fid)
          (e : outcome (content m.cache) fitting ≡ Ok fid)
          (is : needs_of (content m.cache) fitting ≡ target (content m.cache) m.user root path) where
        all_f : needs_of (content m.cache) write_it
            ≡ status_need root ∷ (target (content m.cache) m.user root path
            ++ needs_of (content m.cache) (written_look from bytes fid))
        all_f =
            all_w
            ∙ found_needs (content m.cache) (writable_look root fitting) (written_look from bytes) fid (fit_outcome ∙ e)
            ∙ ap (λ (ns : List Need). ns ++ needs_of (content m.cache) (written_look from bytes fid))
            (fit_needs ∙ ap (λ (ns : List Need). status_need root ∷ ns) is)

        meant_f : (r : Result Meant Refusal) → outcome (content m.cache) (written_look from bytes fid) ≡ r
            → meant m (Write place from bytes) verdict ≡ judge_w r
        meant_f r q = meant_w r
            (found_outcome (content m.cache) (writable_look root fitting) (written_look from bytes) fid
            (fit_outcome ∙ e) ∙ q)

        empty : bytes ≡ [] → On path
        empty none =
            root_plain (content m.cache) m.user root path (last_needs m verdict) t
            (needs_of (content m.cache) write_it)
            (last_none m (Write place from bytes) root path Done (λ bytes q. absurd (cc)) (λ names q. absurd (cc))
            verdict leads (meant_f (Ok (Replies Done)) (ap (λ bs. outcome (content m.cache) (written_look from bs fid))
            none)))
            (all_f
            ∙ ap (λ (bs : List ℕ). status_need root ∷ (target (content m.cache) m.user root path
            ++ needs_of (content m.cache) (written_look from bs fid))) none
            ∙ ap (λ (ns : List Need). status_need root ∷ ns)
            (append-nil (target (content m.cache) m.user root path)))

        abbrev size : ℕ
        size = content m.cache fid Size

        abbrev written : List Need
        written = write_needs fid from end size

        some_bytes : (byte : ℕ) (rest : List ℕ) → bytes ≡ byte ∷ rest
            → (needs_of (content m.cache) (written_look from bytes fid) ≡ status_need fid ∷ written)
            × (outcome (content m.cache) (written_look from bytes fid) ≡ Ok (WritesOf fid from bytes))
        some_bytes byte rest some =
            subst (λ (bs : List ℕ). (needs_of (content m.cache) (written_look from bs fid)
            ≡ status_need fid ∷ write_needs fid from (from + length bs) size)
            × (outcome (content m.cache) (written_look from bs fid) ≡ Ok (WritesOf fid from bs))) (sym some)
            (let r = takes_needs (content m.cache) fid from (from + length (byte ∷ rest)) size
            (nat_lt size (from + length (byte ∷ rest))) (Ok (WritesOf fid from (byte ∷ rest))) in
            (ap (λ (ns : List Need). status_need fid ∷ ns) r.0, r.1))

        full : (byte : ℕ) (rest : List ℕ) → bytes ≡ byte ∷ rest → On path
        full byte rest some =
            let so = some_bytes byte rest some in
            let v = writes_only m (Write place from bytes) root path fid from bytes verdict leads
            (meant_f (Ok (WritesOf fid from bytes)) so.1) in
            let l : v.0 ≡ end = (subst (LeadsBy m (Write place from bytes) root path) v.1 leads).1 in
            let last : last_needs m verdict ≡ written =
            ap (last_needs m) v.1 ∙ ap (λ (to : ℕ). write_needs fid from to size) l in
            root_more (content m.cache) m.user root path (last_needs m verdict) t (needs_of (content m.cache) write_it)
            (status_need fid ∷ written)
            (all_f
            ∙ ap (λ (ns : List Need). status_need root ∷ (target (content m.cache) m.user root path ++ ns)) so.0) fid
            walk
            (λ h. helped_right t (target (content m.cache) m.user root path) (status_need fid ∷ written)
            (let k = subst (λ (ns : List Need). Helped ns t) last h in (k.0, inr k.1, k.2)))
            (λ h. elim h.1 [
              | inl s ↦ inl (
                status_need fid,
                status_in (content m.cache) m.user root path fid walk,
                subst (λ (n : Need). helps_cover t n ≡ true) s h.2,
              )
              | inr j ↦ inr (subst (λ (ns : List Need). Helped ns t) (sym last) (h.0, j, h.2))
            ])

        by_bytes : (bs : List ℕ) → bytes ≡ bs → On path
        by_bytes [] is = empty is
        by_bytes (byte ∷ rest) is = full byte rest is

      -- by the file
      by_found : (r : Result (Fid × Nature) Refusal)
          → outcome (content m.cache) (permitted_look m.user root path write_right) ≡ r → On path
      by_found (Err refusal) e =
          let r = refused_on (content m.cache) (permitted_look m.user root path write_right) (fits_file end) refusal
          e in
          fit_refused refusal r.1 (r.0 ∙ permitted_needs (content m.cache) m.user root path write_right)
      by_found (Ok found) e = by_big (nat_lt FILE_BYTES_MAX end) refl
        where
          fitted : (b : Bool) → nat_lt FILE_BYTES_MAX end ≡ b
              → fits_file end found ≡ refuse_if b TooBig (Ends (Ok found.0))
          fitted b is = ap (λ (c : Bool). refuse_if c TooBig (Ends (Ok found.0))) is

          needs_so : (b : Bool) → nat_lt FILE_BYTES_MAX end ≡ b → needs_of (content m.cache) fitting
              ≡ target (content m.cache) m.user root path
          needs_so b is =
              found_needs (content m.cache) (permitted_look m.user root path write_right) (fits_file end) found e
              ∙ ap (λ (l : Look (Result Fid Refusal)).
              needs_of (content m.cache) (permitted_look m.user root path write_right) ++ needs_of (content m.cache) l)
              (fitted b is)
              ∙ ap (λ (ns : List Need).
              needs_of (content m.cache) (permitted_look m.user root path write_right) ++ ns)
              (refuse_none (content m.cache) b TooBig (Ends (Ok found.0)) refl)
              ∙ append-nil (needs_of (content m.cache) (permitted_look m.user root path write_right))
              ∙ permitted_needs (content m.cache) m.user root path write_right

          ends_so : (b : Bool) → nat_lt FILE_BYTES_MAX end ≡ b → outcome (content m.cache) fitting
              ≡ outcome (content m.cache) (refuse_if b TooBig (Ends (Ok found.0)))
          ends_so b is =
              found_outcome (content m.cache) (permitted_look m.user root path write_right) (fits_file end) found e
              ∙ ap (outcome (content m.cache)) (fitted b is)

          by_big : (b : Bool) → nat_lt FILE_BYTES_MAX end ≡ b → On path
          by_big true is = fit_refused TooBig (ends_so true is) (needs_so true is)
          by_big false is =
              by_bytes found.0 (permitted_leads (content m.cache) m.user root path write_right found e)
              (ends_so false is) (needs_so false is) bytes refl

    -- by the root
    pub write_alike : Goal_w
    write_alike = by_root (content m.cache root Traits) refl
      where
        way_is : (o : Option Nature) → content m.cache root Traits ≡ o
            → way_of m (Write place from bytes) root path ≡ (if is_read_only o then [] else path)
        way_is o e = ap (λ (n : Option Nature). if is_read_only n then [] else path) e

        by_clone : (nature : Nature) → content m.cache root Traits ≡ Some nature → (b : Bool) → nature.read_only ≡ b
            → Goal_w
        by_clone nature e true clone =
            let found : outcome (content m.cache) (nature_look root) ≡ Ok nature =
            ap (λ (o : Option Nature). found_or o NoEntry) e in
            let look : if_writable nature ≡ Ends (Err ReadOnly) =
            ap (λ (b : Bool). refuse_if b ReadOnly fitting) clone in
            subst On (sym (way_is (Some nature) e ∙ ap (λ (b : Bool). if b then [] else path) clone))
            (root_refused ReadOnly
            (found_outcome (content m.cache) (nature_look root) if_writable nature found
            ∙ ap (outcome (content m.cache)) look)
            (found_needs (content m.cache) (nature_look root) if_writable nature found
            ∙ ap (λ (l : Look (Result Fid Refusal)). status_need root ∷ needs_of (content m.cache) l) look) []
            (found_needs {B = Fid × Nature} (content m.cache) (nature_look root) (λ n. Ends (Ok (root, n))) nature
            found))
        by_clone nature e false free =
            subst On (sym (way_is (Some nature) e ∙ ap (λ (b : Bool). if b then [] else path) free))
            (by_found nature (ap (λ (o : Option Nature). found_or o NoEntry) e) free
            (outcome (content m.cache) (permitted_look m.user root path write_right)) refl)

        by_root : (o : Option Nature) → content m.cache root Traits ≡ o → Goal_w
        by_root None e =
            let unseen : outcome (content m.cache) (nature_look root) ≡ Err NoEntry =
            ap (λ (o : Option Nature). found_or o NoEntry) e in
            let r = refused_on (content m.cache) (nature_look root) if_writable NoEntry unseen in
            subst On (sym (way_is None e))
            (root_refused NoEntry r.1 r.0 path (unseen_root (content m.cache) m.user root path e))
        by_root (Some nature) e = by_clone nature e nature.read_only refl

-- # Sync
gives_none : (m : Tables) (call : Call) (root : Fid) (path : List (List ℕ)) (verdict : Result Verdict Refusal)
    → LeadsBy m call root path verdict → meant m call verdict ≡ GivesOf → last_needs m verdict ≡ []
gives_none m call root path (Err refusal) leads e = refl
gives_none m call root path (Ok Does) leads e = refl
gives_none m call root path (Ok (Reads f span)) leads e = absurd (cc)
gives_none m call root path (Ok (Lists f)) leads e = absurd (cc)
gives_none m call root path (Ok (Tells f)) leads e = refl
gives_none m call root path (Ok (Shows f which)) leads e = refl
gives_none m call root path (Ok (Writes f a to)) leads e = absurd (cc)
gives_none m call root path (Ok (Uses f kind)) leads e = absurd (by_kind kind (uses_kind call kind leads) e)
  where
    by_kind : (k : Kind) → IsUseKind k → used_by f k ≡ GivesOf → ⊥
    by_kind (LockKind writing span) u e = cc
    by_kind (OpeningKind kind) u e = cc
    by_kind (BytesKind update span) u e = elim u [ ]
    by_kind (StatusKind update) u e = elim u [ ]
gives_none m call root path (Ok Frees) leads e = refl
gives_none m call root path (Ok (Syncs f)) leads e = refl
gives_none m call root path (Ok Gives) leads e = refl
gives_none m call root path (Ok (Asks question)) leads e = refl

module _ (m : Tables) (place : NamedPlace) (root : Fid) (path : List (List ℕ)) (verdict : Result Verdict Refusal)
    (leads : LeadsBy m (Sync place) root path verdict) (t : Token) where
  abbrev sync_it : Look Meant
  sync_it = judged (file_look m.user root path) (sync_verdict (own_of m))

  abbrev judge_y : Result (Fid × Nature) Refusal → Meant
  judge_y r = either r (sync_verdict (own_of m)) (λ refusal. Replies (IsRefused refusal))

  pub sync_alike : outcome (content m.cache) sync_it ≡ meant m (Sync place) verdict
      → Helped (marks_of (content m.cache) m.user (last_needs m verdict) path root) t
      ↔ Helped (needs_of (content m.cache) sync_it) t
  sync_alike out =
      plain_alike (content m.cache) m.user root path (last_needs m verdict) t (needs_of (content m.cache) sync_it)
      (by_file (outcome (content m.cache) (file_look m.user root path)) refl)
      (needs_end (content m.cache) judge_y (file_look m.user root path)
      ∙ file_needs (content m.cache) m.user root path)
    where
      meant_y : (r : Result (Fid × Nature) Refusal)
          → outcome (content m.cache) (file_look m.user root path) ≡ r → meant m (Sync place) verdict ≡ judge_y r
      meant_y r e =
          sym out ∙ outcome_end (content m.cache) judge_y (file_look m.user root path) ∙ ap judge_y e

      by_clean : (b : Bool) → meant m (Sync place) verdict ≡ (if b then Replies Done else GivesOf)
          → last_needs m verdict ≡ []
      by_clean true e = last_none m (Sync place) root path Done (λ bytes q. absurd (cc)) (λ names q. absurd (cc))
          verdict leads e
      by_clean false e = gives_none m (Sync place) root path verdict leads e

      by_file : (r : Result (Fid × Nature) Refusal)
          → outcome (content m.cache) (file_look m.user root path) ≡ r → last_needs m verdict ≡ []
      by_file (Ok found) e = by_clean ((own_of m).is_clean found.0) (meant_y (Ok found) e)
      by_file (Err refusal) e = last_none m (Sync place) root path (IsRefused refusal) (λ bytes q. absurd (cc))
          (λ names q. absurd (cc)) verdict leads (meant_y (Err refusal) e)

-- # Lock, OpenFile
uses_only : (m : Tables) (call : Call) (root : Fid) (path : List (List ℕ)) (fid : Fid) (kind : Kind)
    (verdict : Result Verdict Refusal) → IsUseKind kind → LeadsBy m call root path verdict
    → meant m call verdict ≡ used_by fid kind → last_needs m verdict ≡ record { fid = fid; kind = kind } ∷ []
uses_only m call root path fid kind verdict usable leads e = by_kind kind usable e
  where
    by_verdict : (verdict : Result Verdict Refusal) → LeadsBy m call root path verdict → (k : Kind) → IsUseKind k
        → meant m call verdict ≡ used_by fid k → last_needs m verdict ≡ record { fid = fid; kind = k } ∷ []
    by_verdict (Err refusal) leads (LockKind writing span) u e = absurd (cc)
    by_verdict (Err refusal) leads (OpeningKind kind) u e = absurd (cc)
    by_verdict (Ok Does) leads (LockKind writing span) u e = absurd (cc)
    by_verdict (Ok Does) leads (OpeningKind kind) u e = absurd (cc)
    by_verdict (Ok (Reads f sp)) leads (LockKind writing span) u e = absurd (cc)
    by_verdict (Ok (Reads f sp)) leads (OpeningKind kind) u e = absurd (cc)
    by_verdict (Ok (Lists f)) leads (LockKind writing span) u e = absurd (cc)
    by_verdict (Ok (Lists f)) leads (OpeningKind kind) u e = absurd (cc)
    by_verdict (Ok (Tells f)) leads (LockKind writing span) u e = absurd (cc)
    by_verdict (Ok (Tells f)) leads (OpeningKind kind) u e = absurd (cc)
    by_verdict (Ok (Shows f which)) leads (LockKind writing span) u e = absurd (cc)
    by_verdict (Ok (Shows f which)) leads (OpeningKind kind) u e = absurd (cc)
    by_verdict (Ok (Writes f a to)) leads (LockKind writing span) u e = absurd (cc)
    by_verdict (Ok (Writes f a to)) leads (OpeningKind kind) u e = absurd (cc)
    by_verdict (Ok (Uses f (LockKind other sp))) leads (LockKind writing span) u e =
        let p : f ≡ fid = cc in
        let q : other ≡ writing = cc in
        let r : sp ≡ span = cc in
        λ i. record { fid = p i; kind = LockKind (q i) (r i) } ∷ []
    by_verdict (Ok (Uses f (LockKind other sp))) leads (OpeningKind kind) u e = absurd (cc)
    by_verdict (Ok (Uses f (OpeningKind other))) leads (LockKind writing span) u e = absurd (cc)
    by_verdict (Ok (Uses f (OpeningKind other))) leads (OpeningKind kind) u e =
        let p : f ≡ fid = cc in
        let q : other ≡ kind = cc in
        λ i. record { fid = p i; kind = OpeningKind (q i) } ∷ []
    by_verdict (Ok (Uses f (BytesKind update sp))) leads k u e =
        elim (uses_kind call (BytesKind update sp) leads) [ ]
    by_verdict (Ok (Uses f (StatusKind update))) leads k u e =
        elim (uses_kind call (StatusKind update) leads) [ ]
    by_verdict (Ok Frees) leads (LockKind writing span) u e = absurd (cc)
    by_verdict (Ok Frees) leads (OpeningKind kind) u e = absurd (cc)
    by_verdict (Ok (Syncs f)) leads (LockKind writing span) u e = absurd (cc)
    by_verdict (Ok (Syncs f)) leads (OpeningKind kind) u e = absurd (cc)
    by_verdict (Ok Gives) leads (LockKind writing span) u e = absurd (cc)
    by_verdict (Ok Gives) leads (OpeningKind kind) u e = absurd (cc)
    by_verdict (Ok (Asks question)) leads (LockKind writing span) u e = absurd (cc)
    by_verdict (Ok (Asks question)) leads (OpeningKind kind) u e = absurd (cc)
    by_verdict v leads (BytesKind update span) u e = elim u [ ]
    by_verdict v leads (StatusKind update) u e = elim u [ ]

    by_kind : (k : Kind) → IsUseKind k → meant m call verdict ≡ used_by fid k
        → last_needs m verdict ≡ record { fid = fid; kind = k } ∷ []
    by_kind k u e = by_verdict verdict leads k u e

-- a call that takes a token for use, behind its path
module _ (m : Tables) (call : Call) (root : Fid) (path : List (List ℕ)) (verdict : Result Verdict Refusal)
    (leads : LeadsBy m call root path verdict) (t : Token) (changing : Bool) (right : ℕ)
    (next : Fid → Look (Result Fid Refusal)) (kind : Kind) (usable : IsUseKind kind)
    (each : (fid : Fid)
    → ((needs_of (content m.cache) (next fid) ≡ []) × ((r : Refusal) × (outcome (content m.cache) (next fid) ≡ Err r)))
    ⊎ ((needs_of (content m.cache) (next fid) ≡ record { fid = fid; kind = kind } ∷ [])
    × (outcome (content m.cache) (next fid) ≡ Ok fid))) where
  abbrev look_u : Look (Result Fid Refusal)
  look_u = use_look m.user root path changing right

  abbrev use_it : Look Meant
  use_it = judged (checked look_u next) (λ fid. used_by fid kind)

  module _ (out : outcome (content m.cache) use_it ≡ meant m call verdict) where
    abbrev Goal_u : Type 0
    Goal_u = Helped (marks_of (content m.cache) m.user (last_needs m verdict) path root) t
        ↔ Helped (needs_of (content m.cache) use_it) t

    look_u_is : needs_of (content m.cache) look_u ≡ target (content m.cache) m.user root path
    look_u_is = use_needs (content m.cache) m.user root path changing right

    found_use : (fid : Fid) → outcome (content m.cache) look_u ≡ Ok fid → Goal_u
    found_use fid e = elim (each fid) [
      | inl r ↦ refused_behind m call root path verdict leads t look_u look_u_is next (λ f. used_by f kind) out fid e
          r.1.0 r.1.1 r.0
      | inr r ↦
          let last = uses_only m call root path fid kind verdict usable leads
          (meant_found m call root path verdict leads t look_u look_u_is next (λ f. used_by f kind) out fid e (Ok fid)
          r.1) in
          more_alike (content m.cache) m.user root path (last_needs m verdict) t
          (record { fid = fid; kind = kind } ∷ [])
          (needs_of (content m.cache) use_it)
          (all_found m call root path verdict leads t look_u look_u_is next (λ f. used_by f kind) out fid e
          ∙ ap (λ (ns : List Need). target (content m.cache) m.user root path ++ ns) r.0)
          (fid, use_leads (content m.cache) m.user root path changing right fid e)
          (λ h. helped_right t (target (content m.cache) m.user root path) (record { fid = fid; kind = kind } ∷ [])
          (subst (λ (ns : List Need). Helped ns t) last h))
          (λ h. inr (subst (λ (ns : List Need). Helped ns t) (sym last) h))
    ]

    pub use_alike : Goal_u
    use_alike = by_found (outcome (content m.cache) look_u) refl
      where
        by_found : (r : Result Fid Refusal) → outcome (content m.cache) look_u ≡ r → Goal_u
        by_found (Ok fid) e = found_use fid e
        by_found (Err refusal) e = refused_first m call root path verdict leads t look_u look_u_is next
            (λ f. used_by f kind) out refusal e

-- what a lock takes
lock_takes : (view : View) (b c : Bool) (need : Need) (fid : Fid)
    → let look : Look (Result Fid Refusal) =
    refuse_if b TooBig (refuse_if c AlreadyLocked (Takes need (Ends (Ok fid)))) in
    ((needs_of view look ≡ []) × ((r : Refusal) × (outcome view look ≡ Err r)))
    ⊎ ((needs_of view look ≡ need ∷ []) × (outcome view look ≡ Ok fid))
lock_takes view true c need fid = inl (refl, (TooBig, refl))
lock_takes view false true need fid = inl (refl, (AlreadyLocked, refl))
lock_takes view false false need fid = inr (refl, refl)

-- # All calls that are answered
pub all_alike : (m : Tables) (call : Call) (root : Fid) (path : List (List ℕ)) (verdict : Result Verdict Refusal)
    → LeadsBy m call root path verdict
    → outcome (content m.cache) (path_look m call root path) ≡ meant m call verdict → (reply : Reply)
    → reply_now (meant m call verdict) ≡ Some reply → (t : Token)
    → Helped (marks_of (content m.cache) m.user (last_needs m verdict) (way_of m call root path) root) t
    ↔ Helped (needs_of (content m.cache) (path_look m call root path)) t
unfolding read_look list_look stat_look access_look write_look sync_look lock_look open_look
all_alike m (Read place from len) root path verdict leads out reply settled t =
    read_alike m place from len root path verdict leads t out
all_alike m (ListNames place) root path verdict leads out reply settled t =
    list_alike m place root path verdict leads t out
all_alike m (Stat place) root path verdict leads out reply settled t =
    stat_alike m place root path verdict leads t out
all_alike m (GetAcl place which) root path verdict leads out reply settled t =
    access_alike m place which root path verdict leads t out
all_alike m (Write place from bytes) root path verdict leads out reply settled t =
    write_alike m place from bytes root path verdict leads t out
all_alike m (Sync place) root path verdict leads out reply settled t =
    sync_alike m place root path verdict leads t out
all_alike m (Lock label place writing from len) root path verdict leads out reply settled t =
    use_alike m (Lock label place writing from len) root path verdict leads t writing
    (if writing then write_right else read_right) (lock_for (own_of m) m.host writing from len)
    (LockKind writing (span_between from (from + len))) tt
    (λ fid. lock_takes (content m.cache) (nat_lt FILE_BYTES_MAX (from + len))
    (is_own_locked (own_of m).locks m.host fid (span_between from (from + len)))
    (record { fid = fid; kind = LockKind writing (span_between from (from + len)) }) fid) out
all_alike m (OpenFile label place kind) root path verdict leads out reply settled t =
    use_alike m (OpenFile label place kind) root path verdict leads t (is_changing kind) (right_to_open kind)
    (open_for kind) (OpeningKind kind) tt (λ fid. inr (refl, refl)) out
all_alike m call root path verdict leads out reply settled t =
    absurd (let p : Some reply ≡ None = sym settled ∙ ap reply_now (sym out) in cc)
