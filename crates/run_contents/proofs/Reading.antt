-- A Sync needs nothing for update, and the end of a label's use needs nothing: so what is fetched for them.
use Rattle.std.proofs.Common.{◌≡◌, ℕ, Bool, true, false, if◌then◌else◌, Some, None, List, [], ◌∷◌, ◌++◌, Option}
use Rattle.std.proofs.Common.{Result, Ok, Err, inl, inr, sym, ◌∙◌, ap, subst, refl}
use Rattle.std.proofs.lemmas.Bool.{false≢true}
use Rattle.std.specs.Prelude.{not}
use Rattle.base_types.specs.Access.{allows}
use Rattle.base_types.specs.Outcomes.{either, and_then}
use Rattle.base_types.specs.Spans.{has_byte}
use Rattle.base_types.specs.declared.ids.Fid.{Fid}
use Rattle.base_types.specs.declared.ids.FilesetId.{FilesetId}
use Rattle.base_types.specs.declared.ids.HostId.{HostId}
use Rattle.base_types.specs.declared.ids.ServerId.{ServerId}
use Rattle.base_types.specs.declared.span.Span.{Span}
use Rattle.base_types.specs.declared.user.User.{User}
use Rattle.tree_calls.specs.declared.call.Call.{Call}
use Rattle.tree_calls.specs.declared.call.Call.TheVariants.{CloseFile, Sync, Unlock}
use Rattle.tree_calls.specs.declared.place.Place.{Place}
use Rattle.tree_calls.specs.declared.reply.Refusal.{Refusal}
use Rattle.tree_calls.specs.declared.reply.Refusal.TheVariants.{Denied, IsDir, NotDir, NotLocked, NotOpened}
use Rattle.tree_calls.specs.declared.reply.Reply.TheVariants.{Refused}
use Rattle.tree_filesets.specs.Rights.{execute_right}
use Rattle.tree_filesets.specs.Walk.{entry_or_none}
use Rattle.need_host.proofs.Updates.{needs_on}
use Rattle.need_host.specs.Calls.{Own, call_look, from_root, refuse, sync_look, sync_verdict}
use Rattle.need_host.specs.Calls.Verdict.{Replies, Frees, Gives}
use Rattle.need_host.specs.Looks.{outcome, IsFirstLack, Look, View, after_check, checked, kind_for, look_on, needs_of}
use Rattle.need_host.specs.Looks.{refuse_if}
use Rattle.need_host.specs.Looks.Look.{Ends, Looks}
use Rattle.need_host.specs.Shows.{is_update, shows}
use Rattle.need_host.specs.Walks.{fid_in, permitted, rights_on, file_look, nature_look, root_of, search_look}
use Rattle.need_host.specs.Walks.{step_look, target_look, walk_look}
use Rattle.tree_objects.specs.Entries.{entry_named}
use Rattle.tree_objects.specs.Spans.{whole}
use Rattle.tree_answers.specs.Locks.{has_lock}
use Rattle.tree_answers.specs.Opens.{has_open}
use Rattle.message_types.specs.declared.asking.Fetch.{Fetch as FetchOf}
use Rattle.script_lines.specs.declared.script.Script.{Script}
use Rattle.token_types.specs.declared.token.Kind.{Kind}
use Rattle.token_types.specs.declared.token.Kind.TheVariants.{Bytes, Lock, Opening, Status}
use Rattle.token_types.specs.declared.token.Need.{Need}
use Rattle.token_types.specs.declared.token.Token.{Token}
use Rattle.tree_laws.specs.Parts.{Nature, Part}
use Rattle.tree_laws.specs.Parts.Part.{ByteAt, Entries, Size, Traits}
use Rattle.run_rules.specs.HostAsks.{FetchNeeds, FileNeeds, IsNewFetch}
use Rattle.run_rules.specs.HostAsks.FetchNeeds.{OfDirectory, OfFile, OfUnknown}
use Rattle.run_rules.specs.Past.{In}
use Rattle.run_rules.specs.Tokens.{end_call, end_of}
use Rattle.run_rules.specs.Views.{Stance, needs_in, sees as host_sees}
use Rattle.run_contents.proofs.WriteLooks.{file_checks, search_ends, target_ends}
use Rattle.run_rules.specs.declared.step.Labelled.{Labelled}
use Rattle.run_rules.specs.declared.step.Step.{Step}

-- none of these needs shows a part for update
abbrev pub ReadsOnly : List Need → Type 0
ReadsOnly needs = (n : Need) (p : Part) → In n needs → shows n.kind p ≡ true → is_update n.kind ≡ true → ⊥

none_read : ReadsOnly []
none_read n p i a b = elim i [ ]

two_read : (xs ys : List Need) → ReadsOnly xs → ReadsOnly ys → ReadsOnly (xs ++ ys)
two_read [] ys a b n p i = b n p i
two_read (x ∷ xs) ys a b n p (inl e) = a n p (inl e)
two_read (x ∷ xs) ys a b n p (inr i) = two_read xs ys (λ n p i. a n p (inr i)) b n p i

reads : (fid : Fid) (part : Part) → is_update (kind_for part) ≡ false
reads fid (ByteAt at) = refl
reads fid Size = refl
reads fid Traits = refl
reads fid Entries = refl

one_read : (fid : Fid) (part : Part) → ReadsOnly (record { fid = fid; kind = kind_for part } ∷ [])
one_read fid part n p (inl e) a b =
    false≢true (sym (ap (λ (z : Need). is_update z.kind) e ∙ reads fid part) ∙ b)
one_read fid part n p (inr i) a b = elim i [ ]

module _ (view : View) where
  abbrev Reads : {A : Type 0} → Look A → Type 0
  Reads look = ReadsOnly (needs_of view look)

  on_read : {A B : Type 0} (look : Look A) (next : A → Look B) → Reads look → ((x : A) → Reads (next x))
      → Reads (look_on look next)
  on_read look next a b =
      subst ReadsOnly (sym (needs_on view look next))
      (two_read (needs_of view look) (needs_of view (next (outcome view look))) a (b (outcome view look)))

  checked_read : {A B : Type 0} (look : Look (Result A Refusal)) (next : A → Look (Result B Refusal)) → Reads look
      → ((x : A) → Reads (next x)) → Reads (checked look next)
  checked_read {A} look next a b = on_read look (after_check next) a each
    where
      each : (r : Result A Refusal) → Reads (after_check next r)
      each (Ok x) = b x
      each (Err refusal) = none_read

  refuse_read : {A : Type 0} (b : Bool) (refusal : Refusal) (next : Look (Result A Refusal)) → Reads next
      → Reads (refuse_if b refusal next)
  refuse_read true refusal next a = none_read
  refuse_read false refusal next a = a

  search_read : (user : User) (fid : Fid) (nature : Nature) → Reads (search_look user fid nature)
  search_read user fid nature =
      refuse_read (not nature.dir) NotDir (permitted nature user execute_right (
      Looks fid Entries (λ entries. Ends (Ok entries))))
      (refuse_read (not (allows (rights_on nature user) execute_right)) (Denied execute_right)
      (Looks fid Entries (λ entries. Ends (Ok entries))) (one_read fid Entries))

  step_read : (user : User) (fid : Fid) (name : List ℕ) → Reads (step_look user fid name)
  step_read user fid name =
      checked_read (nature_look fid) (search_ends user fid name) (one_read fid Traits)
      (λ nature. checked_read (search_look user fid nature)
      (λ entries. Ends (and_then (entry_or_none (entry_named entries name)) (λ entry. Ok (fid_in fid entry))))
      (search_read user fid nature) (λ entries. none_read))

  walk_read : (user : User) (names : List (List ℕ)) (fid : Fid) → Reads (walk_look user fid names)
  walk_read user [] fid = none_read
  walk_read user (name ∷ names) fid =
      checked_read (step_look user fid name) (λ next. walk_look user next names) (step_read user fid name)
      (λ next. walk_read user names next)

  file_read : (user : User) (root : Fid) (path : List (List ℕ)) → Reads (file_look user root path)
  file_read user root path =
      checked_read (target_look user root path) file_checks
      (checked_read (walk_look user root path) target_ends (walk_read user path root)
      (λ fid. checked_read (nature_look fid) (λ nature. Ends (Ok (fid, nature))) (one_read fid Traits)
      (λ nature. none_read)))
      (λ found. ended found)
    where
      ended : (found : Fid × Nature) → Reads (file_checks found)
      ended (fid, nature) = refuse_read nature.dir IsDir (Ends (Ok (fid, nature))) none_read

  rooted_read : (own : Own) (user : User) (server : ServerId) (o : Option FilesetId) (path : List (List ℕ))
      → Reads (from_root server o (λ root. sync_look own user root path))
  unfolding sync_look
  rooted_read own user server None path = none_read
  rooted_read own user server (Some id) path =
      on_read (file_look user (root_of id) path)
      (λ seen. Ends (either seen (sync_verdict own) (λ refusal. Replies (Refused refusal))))
      (file_read user (root_of id) path) (λ seen. none_read)

  pub sync_read : (own : Own) (host : HostId) (user : User) (place : Place)
      → ReadsOnly (needs_of view (call_look own host user (Sync place)))
  unfolding call_look
  sync_read own host user place = rooted_read own user place.server (own.seen place.server place.fileset) place.path

  freed_none : (used gives : Bool) (refusal : Refusal)
      → needs_of view (if not used then refuse refusal else Ends (if gives then Gives else Frees)) ≡ []
  freed_none true gives refusal = refl
  freed_none false gives refusal = refl

  pub unlock_none : (own : Own) (host : HostId) (user : User) (label : List ℕ)
      → needs_of view (call_look own host user (Unlock label)) ≡ []
  unfolding call_look
  unlock_none own host user label = freed_none (has_lock own.locks host label) (own.gives_lock label) NotLocked

  pub close_none : (own : Own) (host : HostId) (user : User) (label : List ℕ)
      → needs_of view (call_look own host user (CloseFile label)) ≡ []
  unfolding call_look
  close_none own host user label = freed_none (has_open own.opens host label) (own.gives_open label) NotOpened

-- what a Fetch asks for suits the call for which it asks
abbrev pub Suits : Call → FetchOf → Type 0
Suits (Sync place) f = ReadsOnly f.needs
Suits (Unlock label) f = ⊥
Suits (CloseFile label) f = ⊥
Suits _ f = Unit {0}

pub end_suits : (u : Labelled) (f : FetchOf) → Suits (end_of u) f → ⊥
end_suits u f = go u.token.kind
  where
    go : (k : Kind) → Suits (end_call k u.label) f → ⊥
    go (Opening kind) x = x
    go (Bytes update span) x = x
    go (Status update) x = x
    go (Lock writing span) x = x

-- what is asked for is read only where the needs are
module _ (past : List Step) (s : Step) (held : List Token) (needs : List Need) (fid : Fid) (plain : ReadsOnly needs)
  where
    of_file_read : (asked : List Need) → FileNeeds (s ∷ past) held needs fid asked → ReadsOnly asked
    of_file_read asked file n p i cov update = go n.kind p (subst (λ (z : Need). In z asked) its i) cov update
      where
        its : n ≡ record { fid = fid; kind = n.kind }
        its j = record { fid = (file.only n i).0 j; kind = n.kind }

        at : (span : Span) (b : ℕ) → In (record { fid = fid; kind = Bytes true span }) asked → has_byte span b ≡ true
            → ⊥
        at span b i has =
            let (of, named, inside) = (file.bytes true b (span, i, has)).0 in
            plain (record { fid = fid; kind = Bytes true of }) (ByteAt b) named inside refl

        go : (k : Kind) (p : Part) → In (record { fid = fid; kind = k }) asked → shows k p ≡ true → is_update k ≡ true
            → ⊥
        go (Bytes true span) (ByteAt b) i cov e = at span b i cov
        go (Bytes true span) Entries i cov e = at span 0 i cov
        go (Bytes true span) Size i cov e = false≢true cov
        go (Bytes true span) Traits i cov e = false≢true cov
        go (Bytes false span) p i cov e = false≢true e
        go (Status true) p i cov e = plain (record { fid = fid; kind = Status true }) p (file.status true i).0 cov e
        go (Status false) p i cov e = false≢true e
        go (Lock w span) p i cov e = false≢true e
        go (Opening kind) p i cov e = false≢true e

    pub asked_read : (asked : List Need) → FetchNeeds past s held needs fid asked → ReadsOnly asked
    asked_read asked (OfDirectory dir eq) n p i cov update =
        two_read (record { fid = fid; kind = Status false } ∷ []) (record { fid = fid; kind = Bytes false whole } ∷ [])
        (one_read fid Traits) (one_read fid Entries) n p (subst (In n) eq i) cov update
    asked_read asked (OfUnknown never none eq) n p i cov update =
        one_read fid Traits n p (subst (In n) eq i) cov update
    asked_read asked (OfFile never status file) n p i cov update = of_file_read asked file n p i cov update

module _ (script : Script) (host : HostId) (past : List Step) (s : Step) (stance : Stance script.roster host past s) where
  no_lack : (needs : List Need) (need : Need) → needs ≡ [] → IsFirstLack stance.kept needs need → ⊥
  no_lack needs need e l = elim (subst (λ ns. IsFirstLack stance.kept ns need) e l) [ ]

  pub new_suits : (f : FetchOf) (new : IsNewFetch script.roster host past s stance f) → Suits new.call.call f
  new_suits f new = go new.call.call new.first new.needs
    where
      go : (call : Call)
          → IsFirstLack stance.kept (needs_in stance call) new.need
          → FetchNeeds past s stance.kept (needs_in stance call) f.fid f.needs → Suits call f
      go (Sync place) first needs =
          asked_read past s stance.kept (needs_in stance (Sync place)) f.fid
          (sync_read (host_sees past s) stance.own host stance.user place) f.needs needs
      go (Unlock label) first needs =
          no_lack (needs_in stance (Unlock label)) new.need
          (unlock_none (host_sees past s) stance.own host stance.user label) first
      go (CloseFile label) first needs =
          no_lack (needs_in stance (CloseFile label)) new.need
          (close_none (host_sees past s) stance.own host stance.user label) first
      go _ first needs = tt
