-- What becomes of the walks of looks, step by step.
use Rattle.std.proofs.Common.{◌≡◌, ℕ, Bool, true, false, ◌&&◌, not, cond, List, [], ◌∷◌, length, arith, Option, Some}
use Rattle.std.proofs.Common.{None, Result, Ok, Err, refl, sym, ap, subst, ◌∙◌}
use Rattle.std.specs.Option.{option_map, option_map_or}
use Rattle.base_types.specs.Access.{allows}
use Rattle.base_types.specs.Outcomes.{and_then}
use Rattle.base_types.specs.declared.access.AccessEntry.{AccessEntry}
use Rattle.base_types.specs.declared.ids.Fid.{Fid}
use Rattle.base_types.specs.declared.user.User.{User}
use Rattle.token_types.specs.Covers.{Covers}
use Rattle.token_types.specs.declared.token.Token.{Token}
use Rattle.tree_calls.specs.declared.part.DirEntry.{DirEntry}
use Rattle.tree_calls.specs.declared.part.Status.{Status}
use Rattle.tree_calls.specs.declared.place.Which.{Which}
use Rattle.tree_calls.specs.declared.reply.Refusal.{Refusal}
use Rattle.tree_calls.specs.declared.reply.Refusal.TheVariants.{Denied, IsDir, NoEntry, NotDir, ReadOnly}
use Rattle.tree_filesets.specs.Walk.{entry_or_none}
use Rattle.tree_answers.specs.Finding.{found_or}
use Rattle.tree_laws.specs.Parts.{Nature}
use Rattle.tree_laws.specs.Parts.Part.{Entries, Size, Traits}
use Rattle.tree_objects.specs.Entries.{entry_named}
use Rattle.need_host.specs.Calls.{entries_for, list_for, list_in}
use Rattle.need_host.specs.Looks.{Look, View, checked, outcome, refuse_if}
use Rattle.need_host.specs.Looks.Look.{Ends, Looks}
use Rattle.need_host.specs.Walks.{fid_in, file_look, nature_look, permitted, permitted_look, rights_on, search_look}
use Rattle.need_host.specs.Walks.{step_look, target_look, use_look, walk_look}
use Rattle.host_cache.specs.Seen.{Kept, seen}
use Rattle.host_walk.specs.declared.sight.Stop.{Stop}
use Rattle.host_walk.specs.declared.sight.Stop.TheVariants.{Lacks, Refused}
use Rattle.host_walk.specs.Trying.{Finds, IsStopped, status_need, whole_need}
use Rattle.host_walk.specs.Views.{held_by, nature_told, view_of}
use Rattle.host_walk.specs.Walks.{entries_look}
use Rattle.host_walk.proofs.Trying.{GoesOn, checked_on, ends_refused, ends_with, goes_by, lacks_part, looks_on}
use Rattle.host_walk.proofs.Trying.{passes_on}
use Rattle.host_walk.proofs.Trying.{refused_by, stops_on}

pub none_left : {X : Type 0} (xs : List X) → length xs ≡ 0 → xs ≡ []
none_left [] e = refl
none_left (x ∷ xs) e = absurd (omega (arith, e))

-- ---- the status of an object
module _ (kept : Kept) (fid : Fid) where
  pub nature_found : (status : Status) → Covers (held_by kept) (status_need fid) →
      Some status ≡ (seen kept).status fid →
      Finds (held_by kept) (view_of kept) (nature_look fid) (nature_told status)
  nature_found status covered e = record {
    covered = (covered, tt);
    ends = ap (λ o. found_or (option_map nature_told o) NoEntry) (sym e);
  }

  pub nature_missing : Covers (held_by kept) (status_need fid) → None ≡ (seen kept).status fid →
      IsStopped (held_by kept) (view_of kept) (nature_look fid) (Refused NoEntry)
  nature_missing covered e = ((covered, tt), ap (λ o. found_or (option_map nature_told o) NoEntry) (sym e))

  pub size_found : (status : Status) → (seen kept).status fid ≡ Some status → view_of kept fid Size ≡ status.length
  size_found status e = ap (λ o. option_map_or (λ (s : Status). s.length) o 0) e

module _ (held : List Token) (view : View) (user : User) where
  pub nature_lacks : (fid : Fid) (stop : Stop) →
      (Covers held (status_need fid) → ⊥) × (stop ≡ Lacks (status_need fid)) →
      IsStopped held view (nature_look fid) stop
  nature_lacks fid stop h = lacks_part held view fid Traits (λ found. Ends (found_or found NoEntry)) stop h

  -- ---- a right
  module _ {A : Type 0} (nature : Nature) (right : ℕ) (next : Look (Result A Refusal)) where
    pub allowed_on : allows (rights_on nature user) right ≡ true →
        GoesOn held view next (permitted nature user right next)
    allowed_on e = passes_on held view (not (allows (rights_on nature user) right)) (Denied right) next (ap not e)

    pub denied_by : (stop : Stop) →
        (allows (rights_on nature user) right ≡ false) × (stop ≡ Refused (Denied right)) →
        IsStopped held view (permitted nature user right next) stop
    denied_by stop (e, same) =
        subst (IsStopped held view (permitted nature user right next)) (sym same)
        (refused_by held view (not (allows (rights_on nature user) right)) (Denied right) next (ap not e))

  -- ---- the entries of a directory
  module _ (right : ℕ) (fid : Fid) (nature : Nature) where
    abbrev after_right : Look (Result (List DirEntry) Refusal)
    after_right = Looks fid Entries (λ entries. Ends (Ok entries))

    abbrev after_dir : Look (Result (List DirEntry) Refusal)
    after_dir = permitted nature user right after_right

    pub entries_of_file : nature.dir ≡ false →
        IsStopped held view (entries_look user right fid nature) (Refused NotDir)
    entries_of_file e = refused_by held view (not nature.dir) NotDir after_dir (ap not e)

    pub entries_denied : nature.dir ≡ true → (stop : Stop) →
        (allows (rights_on nature user) right ≡ false) × (stop ≡ Refused (Denied right)) →
        IsStopped held view (entries_look user right fid nature) stop
    entries_denied e stop h =
        (passes_on held view (not nature.dir) NotDir after_dir (ap not e)).stops stop
        (denied_by nature right after_right stop h)

    entries_on : nature.dir ≡ true → allows (rights_on nature user) right ≡ true →
        GoesOn held view after_right (entries_look user right fid nature)
    entries_on e a =
        goes_by held view after_right after_dir (entries_look user right fid nature)
        (allowed_on nature right after_right a)
        (passes_on held view (not nature.dir) NotDir after_dir (ap not e))

    pub entries_lack : nature.dir ≡ true → allows (rights_on nature user) right ≡ true → (stop : Stop) →
        (Covers held (whole_need fid) → ⊥) × (stop ≡ Lacks (whole_need fid)) →
        IsStopped held view (entries_look user right fid nature) stop
    entries_lack e a stop h =
        (entries_on e a).stops stop (lacks_part held view fid Entries (λ entries. Ends (Ok entries)) stop h)

    pub entries_found : nature.dir ≡ true → allows (rights_on nature user) right ≡ true →
        Covers held (whole_need fid) → Finds held view (entries_look user right fid nature) (view fid Entries)
    entries_found e a covered =
        (entries_on e a).finds (view fid Entries) (record { covered = (covered, tt); ends = refl })

  -- ---- one name of a path
  module _ (at : Fid) (name : List ℕ) where
    abbrev after_entries : List DirEntry → Look (Result Fid Refusal)
    after_entries entries =
        Ends (and_then (entry_or_none (entry_named entries name)) (λ entry. Ok (fid_in at entry)))

    abbrev after_nature : Nature → Look (Result Fid Refusal)
    after_nature nature = checked (search_look user at nature) after_entries

    pub step_unseen : (stop : Stop) → IsStopped held view (nature_look at) stop →
        IsStopped held view (step_look user at name) stop
    step_unseen stop h = stops_on held view after_nature (nature_look at) stop h

    pub step_unsearched : (nature : Nature) → Finds held view (nature_look at) nature → (stop : Stop) →
        IsStopped held view (search_look user at nature) stop → IsStopped held view (step_look user at name) stop
    step_unsearched nature found stop h =
        (checked_on held view after_nature (nature_look at) nature found).stops stop
        (stops_on held view after_entries (search_look user at nature) stop h)

    step_on : (nature : Nature) (entries : List DirEntry) → Finds held view (nature_look at) nature →
        Finds held view (search_look user at nature) entries →
        GoesOn held view (after_entries entries) (step_look user at name)
    step_on nature entries found searched =
        goes_by held view (after_entries entries) (after_nature nature) (step_look user at name)
        (checked_on held view after_entries (search_look user at nature) entries searched)
        (checked_on held view after_nature (nature_look at) nature found)

    abbrev entered : DirEntry → Result Fid Refusal
    entered entry = Ok (fid_in at entry)

    named_ok : (fid : Fid) (o : Option DirEntry) → Some fid ≡ option_map (fid_in at) o →
        and_then (entry_or_none o) entered ≡ Ok fid
    named_ok fid None h = cc
    named_ok fid (Some entry) h = cc

    named_none : (o : Option DirEntry) → None ≡ option_map (fid_in at) o →
        and_then (entry_or_none o) entered ≡ Err NoEntry
    named_none None h = refl
    named_none (Some entry) h = cc

    pub step_found : (nature : Nature) (entries : List DirEntry) (fid : Fid) →
        Finds held view (nature_look at) nature → Finds held view (search_look user at nature) entries →
        Some fid ≡ option_map (fid_in at) (entry_named entries name) → Finds held view (step_look user at name) fid
    step_found nature entries fid found searched e =
        (step_on nature entries found searched).finds fid
        (record { covered = tt; ends = named_ok fid (entry_named entries name) e })

    pub step_missing : (nature : Nature) (entries : List DirEntry) →
        Finds held view (nature_look at) nature → Finds held view (search_look user at nature) entries →
        None ≡ option_map (fid_in at) (entry_named entries name) →
        IsStopped held view (step_look user at name) (Refused NoEntry)
    step_missing nature entries found searched e =
        (step_on nature entries found searched).stops (Refused NoEntry)
        (tt, named_none (entry_named entries name) e)

  -- ---- a path
  module _ (at : Fid) (path : List (List ℕ)) where
    pub walk_ends : path ≡ [] → Finds held view (walk_look user at path) at
    walk_ends e =
        subst (λ p. Finds held view (walk_look user at p) at) (sym e) (record { covered = tt; ends = refl })

    module _ (name : List ℕ) (rest : List (List ℕ)) (is : path ≡ name ∷ rest) where
      abbrev behind : Fid → Look (Result Fid Refusal)
      behind next = walk_look user next rest

      pub walk_stops : (stop : Stop) → IsStopped held view (step_look user at name) stop →
          IsStopped held view (walk_look user at path) stop
      walk_stops stop h =
          subst (λ p. IsStopped held view (walk_look user at p) stop) (sym is)
          (stops_on held view behind (step_look user at name) stop h)

      pub walk_on : (next : Fid) → Finds held view (step_look user at name) next →
          GoesOn held view (walk_look user next rest) (walk_look user at path)
      walk_on next found =
          subst (λ p. GoesOn held view (walk_look user next rest) (walk_look user at p)) (sym is)
          (checked_on held view behind (step_look user at name) next found)

  module _ (root : Fid) (path : List (List ℕ)) where
    -- ---- where a path leads
    abbrev with_nature : Fid → Look (Result (Fid × Nature) Refusal)
    with_nature fid = checked (nature_look fid) (λ nature. Ends (Ok (fid, nature)))

    pub target_unwalked : (stop : Stop) → IsStopped held view (walk_look user root path) stop →
        IsStopped held view (target_look user root path) stop
    target_unwalked stop h = stops_on held view with_nature (walk_look user root path) stop h

    pub target_unseen : (fid : Fid) → Finds held view (walk_look user root path) fid → (stop : Stop) →
        IsStopped held view (nature_look fid) stop → IsStopped held view (target_look user root path) stop
    target_unseen fid walked stop h =
        (checked_on held view with_nature (walk_look user root path) fid walked).stops stop
        (stops_on held view (λ nature. Ends (Ok (fid, nature))) (nature_look fid) stop h)

    pub target_found : (fid : Fid) (nature : Nature) → Finds held view (walk_look user root path) fid →
        Finds held view (nature_look fid) nature → Finds held view (target_look user root path) (fid, nature)
    target_found fid nature walked found =
        (checked_on held view with_nature (walk_look user root path) fid walked).finds (fid, nature)
        ((checked_on held view (λ nature. Ends (Ok (fid, nature))) (nature_look fid) nature found).finds (fid, nature)
        (record { covered = tt; ends = refl }))

    -- ---- a file
    abbrev if_file : Fid × Nature → Look (Result (Fid × Nature) Refusal)
    if_file (fid, nature) = refuse_if nature.dir IsDir (Ends (Ok (fid, nature)))

    pub file_unfound : (stop : Stop) → IsStopped held view (target_look user root path) stop →
        IsStopped held view (file_look user root path) stop
    file_unfound stop h = stops_on held view if_file (target_look user root path) stop h

    module _ (fid : Fid) (nature : Nature) (found : Finds held view (target_look user root path) (fid, nature)) where
      pub file_is_dir : nature.dir ≡ true → IsStopped held view (file_look user root path) (Refused IsDir)
      file_is_dir e =
          (checked_on held view if_file (target_look user root path) (fid, nature) found).stops (Refused IsDir)
          (refused_by held view nature.dir IsDir (Ends (Ok (fid, nature))) e)

      pub file_found : nature.dir ≡ false → Finds held view (file_look user root path) (fid, nature)
      file_found e =
          (checked_on held view if_file (target_look user root path) (fid, nature) found).finds (fid, nature)
          ((passes_on held view nature.dir IsDir (Ends (Ok (fid, nature))) e).finds (fid, nature)
          (record { covered = tt; ends = refl }))

    -- ---- a file on which the user has a right
    module _ (right : ℕ) where
      abbrev if_permitted : Fid × Nature → Look (Result (Fid × Nature) Refusal)
      if_permitted (fid, nature) = permitted nature user right (Ends (Ok (fid, nature)))

      pub right_unfound : (stop : Stop) → IsStopped held view (file_look user root path) stop →
          IsStopped held view (permitted_look user root path right) stop
      right_unfound stop h = stops_on held view if_permitted (file_look user root path) stop h

      module _ (fid : Fid) (nature : Nature) (found : Finds held view (file_look user root path) (fid, nature)) where
        pub right_denied : (stop : Stop) →
            (allows (rights_on nature user) right ≡ false) × (stop ≡ Refused (Denied right)) →
            IsStopped held view (permitted_look user root path right) stop
        right_denied stop h =
            (checked_on held view if_permitted (file_look user root path) (fid, nature) found).stops stop
            (denied_by nature right (Ends (Ok (fid, nature))) stop h)

        pub right_found : allows (rights_on nature user) right ≡ true →
            Finds held view (permitted_look user root path right) (fid, nature)
        right_found a =
            (checked_on held view if_permitted (file_look user root path) (fid, nature) found).finds (fid, nature)
            ((allowed_on nature right (Ends (Ok (fid, nature))) a).finds (fid, nature)
            (record { covered = tt; ends = refl }))

    -- ---- a file that is to be used
    module _ (changing : Bool) (right : ℕ) where
      abbrev used_if : Fid × Nature → Look (Result Fid Refusal)
      used_if (fid, nature) =
          refuse_if (changing && nature.read_only) ReadOnly (permitted nature user right (Ends (Ok fid)))

      pub use_unfound : (stop : Stop) → IsStopped held view (file_look user root path) stop →
          IsStopped held view (use_look user root path changing right) stop
      use_unfound stop h = stops_on held view used_if (file_look user root path) stop h

      module _ (fid : Fid) (nature : Nature) (found : Finds held view (file_look user root path) (fid, nature)) where
        use_on : GoesOn held view (used_if (fid, nature)) (use_look user root path changing right)
        use_on = checked_on held view used_if (file_look user root path) (fid, nature) found

        pub use_clone : (changing && nature.read_only) ≡ true →
            IsStopped held view (use_look user root path changing right) (Refused ReadOnly)
        use_clone e =
            use_on.stops (Refused ReadOnly) (refused_by held view (changing && nature.read_only) ReadOnly
            (permitted nature user right (Ends (Ok fid))) e)

        use_behind : (changing && nature.read_only) ≡ false →
            GoesOn held view (permitted nature user right (Ends (Ok fid))) (use_look user root path changing right)
        use_behind e =
            goes_by held view (permitted nature user right (Ends (Ok fid))) (used_if (fid, nature))
            (use_look user root path changing right)
            (passes_on held view (changing && nature.read_only) ReadOnly
            (permitted nature user right (Ends (Ok fid))) e) use_on

        pub use_denied : (changing && nature.read_only) ≡ false → (stop : Stop) →
            (allows (rights_on nature user) right ≡ false) × (stop ≡ Refused (Denied right)) →
            IsStopped held view (use_look user root path changing right) stop
        use_denied e stop h = (use_behind e).stops stop (denied_by nature right (Ends (Ok fid)) stop h)

        pub use_found : (changing && nature.read_only) ≡ false → allows (rights_on nature user) right ≡ true →
            Finds held view (use_look user root path changing right) fid
        use_found e a =
            (use_behind e).finds fid ((allowed_on nature right (Ends (Ok fid)) a).finds fid
            (record { covered = tt; ends = refl }))

    -- ---- the entries, or an access list, of what was found
    pub list_unfound : (stop : Stop) → IsStopped held view (target_look user root path) stop →
        IsStopped held view (checked (target_look user root path) (entries_for user)) stop
    list_unfound stop h = stops_on held view (entries_for user) (target_look user root path) stop h

    pub access_unfound : (which : Which) (stop : Stop) → IsStopped held view (target_look user root path) stop →
        IsStopped held view (checked (target_look user root path) (list_for which)) stop
    access_unfound which stop h = stops_on held view (list_for which) (target_look user root path) stop h

    module _ (fid : Fid) (nature : Nature) (found : Finds held view (target_look user root path) (fid, nature)) where
      pub list_on : GoesOn held view (entries_for user (fid, nature))
          (checked (target_look user root path) (entries_for user))
      list_on = checked_on held view (entries_for user) (target_look user root path) (fid, nature) found

      pub access_missing : (which : Which) → list_in which nature ≡ Err NotDir →
          IsStopped held view (checked (target_look user root path) (list_for which)) (Refused NotDir)
      access_missing which e =
          (checked_on held view (list_for which) (target_look user root path) (fid, nature) found).stops
          (Refused NotDir) (ends_refused held view (list_in which nature) NotDir e)

      pub access_found : (which : Which) (list : List AccessEntry) → list_in which nature ≡ Ok list →
          Finds held view (checked (target_look user root path) (list_for which)) list
      access_found which list e =
          (checked_on held view (list_for which) (target_look user root path) (fid, nature) found).finds list
          (ends_with held view (list_in which nature) list e)
