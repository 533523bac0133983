-- What is needed on the way to an object: the status of objects, and the entries of directories alone.
use Rattle.std.proofs.Common.{◌≡◌, ◌&&◌, ◌++◌, ◌∙◌, ◌∷◌, ◌⊎◌, Bool, Err, List, None, Ok, Option, Result, Some}
use Rattle.std.proofs.Common.{[]}
use Rattle.std.proofs.Common.{ap, false, inl, inr, nat_lt, not, refl, subst, sym, true, ℕ}
use Rattle.base_types.specs.Access.{allows}
use Rattle.base_types.specs.Outcomes.{and_then}
use Rattle.base_types.specs.declared.ids.Fid.{Fid}
use Rattle.base_types.specs.declared.limits.TheConstants.{FILE_BYTES_MAX}
use Rattle.base_types.specs.declared.span.Span.{Span}
use Rattle.base_types.specs.declared.user.User.{User}
use Rattle.host_tables.specs.Plain.{IsDirIn}
use Rattle.need_host.proofs.Looking.{outcome_checked}
use Rattle.need_host.specs.Calls.{fits_file, write_target_look}
use Rattle.need_host.specs.Looks.{IsFirstLack, Look, View, after_check, checked, look_on, needs_of, outcome, refuse_if}
use Rattle.need_host.specs.Looks.Look.{Ends, Looks, Takes}
use Rattle.need_host.specs.Walks.{fid_in, file_look, nature_look, permitted, permitted_look, rights_on, search_look}
use Rattle.need_host.specs.Walks.{step_look, target_look, use_look, walk_look}
use Rattle.run_rules.specs.Past.{In}
use Rattle.token_types.specs.Covers.{Covers}
use Rattle.token_types.specs.declared.token.Kind.TheVariants.{Bytes, Status}
use Rattle.token_types.specs.declared.token.Need.{Need}
use Rattle.token_types.specs.declared.token.Token.{Token}
use Rattle.tree_answers.specs.Finding.{found_or}
use Rattle.tree_calls.specs.declared.part.DirEntry.{DirEntry}
use Rattle.tree_calls.specs.declared.reply.Refusal.{Refusal}
use Rattle.tree_calls.specs.declared.reply.Refusal.TheVariants.{Denied, IsDir, NoEntry, NotDir, ReadOnly, TooBig}
use Rattle.tree_filesets.specs.Rights.{execute_right, write_right}
use Rattle.tree_filesets.specs.Walk.{entry_or_none}
use Rattle.tree_laws.specs.Parts.{Nature}
use Rattle.tree_laws.specs.Parts.Part.{ByteAt, Entries, Size, Traits}
use Rattle.tree_objects.specs.Entries.{entry_named}
use Rattle.tree_objects.specs.Spans.{whole}

-- kinds apart
pub bytes_status : (update : Bool) (span : Span) (other : Bool) → Bytes update span ≡ Status other → ⊥
bytes_status update span other e = absurd (cc)

pub two_apart : Status true ≡ Status false → ⊥
two_apart e = absurd (cc)

-- only the status of objects is looked at, and the entries of directories
abbrev pub IsFront : {R : Type 0} → View → Look R → Type 0
IsFront view (Ends result) = Unit {0}
IsFront view (Takes need next) = ⊥
IsFront view (Looks fid (ByteAt at) next) = ⊥
IsFront view (Looks fid Size next) = IsFront view (next (view fid Size))
IsFront view (Looks fid Traits next) = IsFront view (next (view fid Traits))
IsFront view (Looks fid Entries next) = IsDirIn view fid × IsFront view (next (view fid Entries))

module _ (view : View) where
  front_on : {A B : Type 0} (look : Look A) (next : A → Look B) → IsFront view look →
      IsFront view (next (outcome view look)) → IsFront view (look_on look next)
  front_on (Ends result) next e k = k
  front_on (Takes need after) next e k = absurd e
  front_on (Looks fid (ByteAt at) after) next e k = absurd e
  front_on (Looks fid Size after) next e k = front_on (after (view fid Size)) next e k
  front_on (Looks fid Traits after) next e k = front_on (after (view fid Traits)) next e k
  front_on (Looks fid Entries after) next e k = (e.0, front_on (after (view fid Entries)) next e.1 k)

  front_then : {A B : Type 0} (look : Look (Result A Refusal)) (next : A → Look (Result B Refusal)) →
      IsFront view look → ((value : A) → outcome view look ≡ Ok value → IsFront view (next value)) →
      IsFront view (checked look next)
  front_then {A = A} look next e k = front_on look (after_check next) e (by_case (outcome view look) refl)
    where
      by_case : (r : Result A Refusal) → outcome view look ≡ r → IsFront view (after_check next r)
      by_case (Ok value) q = k value q
      by_case (Err refusal) q = tt

  front_refuse : {A : Type 0} (b : Bool) (refusal : Refusal) (next : Look (Result A Refusal)) →
      (b ≡ false → IsFront view next) → IsFront view (refuse_if b refusal next)
  front_refuse true refusal next k = tt
  front_refuse false refusal next k = k refl

  told : (o : Option Nature) (nature : Nature) → found_or o NoEntry ≡ Ok nature → o ≡ Some nature
  told None nature e = absurd (cc)
  told (Some x) nature e = let p : x ≡ nature = cc in cc

  dir_of : (b : Bool) → not b ≡ false → b ≡ true
  dir_of true e = refl
  dir_of false e = absurd (cc)

  abbrev entry_in : Fid → List ℕ → List DirEntry → Look (Result Fid Refusal)
  entry_in fid name entries =
      Ends (and_then (entry_or_none (entry_named entries name)) (λ entry. Ok (fid_in fid entry)))

  search_front : (user : User) (fid : Fid) (nature : Nature) → view fid Traits ≡ Some nature →
      IsFront view (search_look user fid nature)
  search_front user fid nature t =
      let next : Look (Result (List DirEntry) Refusal) = Looks fid Entries (λ entries. Ends (Ok entries)) in
      front_refuse (not nature.dir) NotDir (permitted nature user execute_right next) (λ d.
      front_refuse (not (allows (rights_on nature user) execute_right)) (Denied execute_right) next
      (λ q. ((nature, t, dir_of nature.dir d), tt)))

  step_front : (user : User) (fid : Fid) (name : List ℕ) → IsFront view (step_look user fid name)
  step_front user fid name =
      front_then (nature_look fid) (λ nature. checked (search_look user fid nature) (entry_in fid name)) tt
      (λ nature q. front_then (search_look user fid nature) (entry_in fid name)
      (search_front user fid nature (told (view fid Traits) nature q)) (λ entries e. tt))

  walk_front : (user : User) (fid : Fid) (path : List (List ℕ)) → IsFront view (walk_look user fid path)
  walk_front user fid [] = tt
  walk_front user fid (name ∷ names) =
      front_then (step_look user fid name) (λ next. walk_look user next names) (step_front user fid name)
      (λ next e. walk_front user next names)

  abbrev with_nature : Fid → Nature → Look (Result (Fid × Nature) Refusal)
  with_nature fid nature = Ends (Ok (fid, nature))

  abbrev natured : Fid → Look (Result (Fid × Nature) Refusal)
  natured fid = checked (nature_look fid) (with_nature fid)

  natured_front : (fid : Fid) → IsFront view (natured fid)
  natured_front fid = front_then (nature_look fid) (with_nature fid) tt (λ nature e. tt)

  pub target_front : (user : User) (root : Fid) (path : List (List ℕ)) → IsFront view (target_look user root path)
  target_front user root path =
      front_then (walk_look user root path) natured (walk_front user root path) (λ fid e. natured_front fid)

  natured_told : (fid : Fid) (found : Fid × Nature) → outcome view (natured fid) ≡ Ok found →
      view found.0 Traits ≡ Some found.1
  natured_told fid found q =
      by_case (view fid Traits) refl (sym (outcome_checked view (nature_look fid) (with_nature fid)) ∙ q)
    where
      by_case : (o : Option Nature) → view fid Traits ≡ o →
          and_then (found_or o NoEntry) (λ nature. outcome view (with_nature fid nature)) ≡ Ok found →
          view found.0 Traits ≡ Some found.1
      by_case None e p = absurd (cc)
      by_case (Some x) e p =
          let same : (fid, x) ≡ found = cc in
          subst (λ (f : Fid × Nature). view f.0 Traits ≡ Some f.1) same e

  pub target_told : (user : User) (root : Fid) (path : List (List ℕ)) (found : Fid × Nature) →
      outcome view (target_look user root path) ≡ Ok found → view found.0 Traits ≡ Some found.1
  target_told user root path found q =
      by_case (outcome view (walk_look user root path))
      (sym (outcome_checked view (walk_look user root path) natured) ∙ q)
    where
      by_case : (r : Result Fid Refusal) → and_then r (λ fid. outcome view (natured fid)) ≡ Ok found →
          view found.0 Traits ≡ Some found.1
      by_case (Ok fid) p = natured_told fid found p
      by_case (Err refusal) p = absurd (cc)

  abbrev file_of : Fid × Nature → Look (Result (Fid × Nature) Refusal)
  file_of (fid, nature) = refuse_if nature.dir IsDir (Ends (Ok (fid, nature)))

  file_of_front : (found : Fid × Nature) → IsFront view (file_of found)
  file_of_front (fid, nature) = front_refuse nature.dir IsDir (Ends (Ok (fid, nature))) (λ e. tt)

  pub file_front : (user : User) (root : Fid) (path : List (List ℕ)) → IsFront view (file_look user root path)
  file_front user root path =
      front_then (target_look user root path) file_of (target_front user root path) (λ found e. file_of_front found)

  abbrev permitted_of : User → ℕ → Fid × Nature → Look (Result (Fid × Nature) Refusal)
  permitted_of user right (fid, nature) = permitted nature user right (Ends (Ok (fid, nature)))

  permitted_of_front : (user : User) (right : ℕ) (found : Fid × Nature) → IsFront view (permitted_of user right found)
  permitted_of_front user right (fid, nature) =
      front_refuse (not (allows (rights_on nature user) right)) (Denied right) (with_nature fid nature) (λ e. tt)

  pub permitted_front : (user : User) (root : Fid) (path : List (List ℕ)) (right : ℕ) →
      IsFront view (permitted_look user root path right)
  permitted_front user root path right =
      front_then (file_look user root path) (permitted_of user right) (file_front user root path)
      (λ found e. permitted_of_front user right found)

  abbrev used_of : User → Bool → ℕ → Fid × Nature → Look (Result Fid Refusal)
  used_of user changing right (fid, nature) =
      refuse_if (changing && nature.read_only) ReadOnly (permitted nature user right (Ends (Ok fid)))

  used_of_front : (user : User) (changing : Bool) (right : ℕ) (found : Fid × Nature) →
      IsFront view (used_of user changing right found)
  used_of_front user changing right (fid, nature) =
      let end : Look (Result Fid Refusal) = Ends (Ok fid) in
      front_refuse (changing && nature.read_only) ReadOnly (permitted nature user right end)
      (λ e. front_refuse (not (allows (rights_on nature user) right)) (Denied right) end (λ q. tt))

  pub use_front : (user : User) (root : Fid) (path : List (List ℕ)) (changing : Bool) (right : ℕ) →
      IsFront view (use_look user root path changing right)
  use_front user root path changing right =
      front_then (file_look user root path) (used_of user changing right) (file_front user root path)
      (λ found e. used_of_front user changing right found)

  fits_front : (end : ℕ) (found : Fid × Nature) → IsFront view (fits_file end found)
  fits_front end (fid, nature) =
      let done : Look (Result Fid Refusal) = Ends (Ok fid) in
      front_refuse (nat_lt FILE_BYTES_MAX end) TooBig done (λ e. tt)

  pub write_target_front : (user : User) (root : Fid) (path : List (List ℕ)) (end : ℕ) →
      IsFront view (write_target_look user root path end)
  write_target_front user root path end =
      let next : Look (Result Fid Refusal) = checked (permitted_look user root path write_right) (fits_file end) in
      front_then (nature_look root) (λ nature. refuse_if nature.read_only ReadOnly next) tt
      (λ nature e. front_refuse nature.read_only ReadOnly next
      (λ q. front_then (permitted_look user root path write_right) (fits_file end)
      (permitted_front user root path write_right) (λ found k. fits_front end found)))

  -- ---- so what isn't covered of a file whose status is, lacks behind
  module _ (held : List Token) (fid : Fid) (file : IsDirIn view fid → ⊥) where
    pub no_lack : {R : Type 0} (look : Look R) → IsFront view look → (need : Need) → need.fid ≡ fid →
        Covers held (record { fid = fid; kind = Status false }) → IsFirstLack held (needs_of view look) need → ⊥
    no_lack (Ends result) front need is covered l = l
    no_lack (Takes n next) front need is covered l = front
    no_lack (Looks at (ByteAt b) next) front need is covered l = front
    no_lack (Looks at Size next) front need is covered (inl l) =
        l.0 (subst (λ (f : Fid). Covers held (record { fid = f; kind = Status false }))
        (sym (ap (λ (n : Need). n.fid) l.1 ∙ is)) covered)
    no_lack (Looks at Size next) front need is covered (inr l) =
        no_lack (next (view at Size)) front need is covered l.1
    no_lack (Looks at Traits next) front need is covered (inl l) =
        l.0 (subst (λ (f : Fid). Covers held (record { fid = f; kind = Status false }))
        (sym (ap (λ (n : Need). n.fid) l.1 ∙ is)) covered)
    no_lack (Looks at Traits next) front need is covered (inr l) =
        no_lack (next (view at Traits)) front need is covered l.1
    no_lack (Looks at Entries next) front need is covered (inl l) =
        file (subst (IsDirIn view) (ap (λ (n : Need). n.fid) l.1 ∙ is) front.0)
    no_lack (Looks at Entries next) front need is covered (inr l) =
        no_lack (next (view at Entries)) front.1 need is covered l.1

    -- no byte of the file is needed on the way, nor its status for update
    pub no_byte : {R : Type 0} (look : Look R) → IsFront view look → (update : Bool) (span : Span) →
        In (record { fid = fid; kind = Bytes update span }) (needs_of view look) → ⊥
    no_byte (Ends result) front update span i = i
    no_byte (Takes n next) front update span i = front
    no_byte (Looks at (ByteAt b) next) front update span i = front
    no_byte (Looks at Size next) front update span (inl e) = bytes_status update span false (ap (λ (n : Need). n.kind)
        e)
    no_byte (Looks at Size next) front update span (inr i) = no_byte (next (view at Size)) front update span i
    no_byte (Looks at Traits next) front update span (inl e) = bytes_status update span false (ap (λ (n : Need).
        n.kind) e)
    no_byte (Looks at Traits next) front update span (inr i) = no_byte (next (view at Traits)) front update span i
    no_byte (Looks at Entries next) front update span (inl e) =
        file (subst (IsDirIn view) (sym (ap (λ (n : Need). n.fid) e)) front.0)
    no_byte (Looks at Entries next) front update span (inr i) =
        no_byte (next (view at Entries)) front.1 update span i

    pub no_update : {R : Type 0} (look : Look R) → IsFront view look →
        In (record { fid = fid; kind = Status true }) (needs_of view look) → ⊥
    no_update (Ends result) front i = i
    no_update (Takes n next) front i = front
    no_update (Looks at (ByteAt b) next) front i = front
    no_update (Looks at Size next) front (inl e) = two_apart (ap (λ (n : Need). n.kind) e)
    no_update (Looks at Size next) front (inr i) = no_update (next (view at Size)) front i
    no_update (Looks at Traits next) front (inl e) = two_apart (ap (λ (n : Need). n.kind) e)
    no_update (Looks at Traits next) front (inr i) = no_update (next (view at Traits)) front i
    no_update (Looks at Entries next) front (inl e) = bytes_status false whole true (sym (ap (λ (n : Need). n.kind) e))
    no_update (Looks at Entries next) front (inr i) = no_update (next (view at Entries)) front.1 i

-- a first lack of two parts is one of the first, or of the second behind what is covered
pub lack_either : (held : List Token) (xs ys : List Need) (need : Need) → IsFirstLack held (xs ++ ys) need →
    IsFirstLack held xs need ⊎ IsFirstLack held ys need
lack_either held [] ys need l = inr l
lack_either held (x ∷ xs) ys need (inl l) = inl (inl l)
lack_either held (x ∷ xs) ys need (inr (c, l)) = by_case (lack_either held xs ys need l)
  where
    by_case : IsFirstLack held xs need ⊎ IsFirstLack held ys need →
        IsFirstLack held (x ∷ xs) need ⊎ IsFirstLack held ys need
    by_case (inl a) = inl (inr (c, a))
    by_case (inr b) = inr b
