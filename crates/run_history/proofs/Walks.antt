-- Which uses a call needs: those of files of the fileset that it names, as its host has seen it.
use Rattle.std.proofs.Common.{Bool, Err, List, None, Ok, Option, Result, Some, [], ap, false, inl, inr, nat_le}
use Rattle.std.proofs.Common.{nat_lt, not, refl, subst, sym, true, ℕ, ◌&&◌, ◌+◌, ◌++◌, ◌∙◌, ◌∷◌, ◌≡◌}
use Rattle.std.specs.Prelude.{if◌then◌else◌}
use Rattle.base_types.specs.Access.{allows}
use Rattle.base_types.specs.Outcomes.{and_then, either}
use Rattle.base_types.specs.declared.ids.Fid.{Fid}
use Rattle.base_types.specs.declared.ids.FilesetId.{FilesetId}
use Rattle.base_types.specs.declared.ids.HostId.{HostId}
use Rattle.base_types.specs.declared.ids.OpenKind.{OpenKind}
use Rattle.base_types.specs.declared.ids.ServerId.{ServerId}
use Rattle.base_types.specs.declared.limits.TheConstants.{FILE_BYTES_MAX, LABELS_MAX}
use Rattle.base_types.specs.declared.user.User.{User}
use Rattle.tree_calls.specs.declared.call.Call.{Call}
use Rattle.tree_calls.specs.declared.call.Call.TheVariants.{CloneFileset, Create, Lock as LockCall, MakeDir}
use Rattle.tree_calls.specs.declared.call.Call.TheVariants.{MoveFileset, NewFileset, OpenFile, Remove, Rename, SetAcl}
use Rattle.tree_calls.specs.declared.call.Call.TheVariants.{Truncate}
use Rattle.tree_calls.specs.declared.part.DirEntry.{DirEntry}
use Rattle.tree_calls.specs.declared.reply.Refusal.{Refusal}
use Rattle.tree_calls.specs.declared.reply.Refusal.TheVariants.{AlreadyLocked, AlreadyOpened, Denied, IsDir, NotDir}
use Rattle.tree_calls.specs.declared.reply.Refusal.TheVariants.{ReadOnly, TooBig, TooMany}
use Rattle.tree_calls.specs.declared.reply.Reply.TheVariants.{Refused}
use Rattle.tree_filesets.specs.Rights.{execute_right, read_right, write_right}
use Rattle.tree_filesets.specs.Uses.{is_changing, right_to_open}
use Rattle.tree_filesets.specs.Walk.{entry_or_none}
use Rattle.need_host.proofs.Updates.{needs_on}
use Rattle.need_host.specs.Calls.{Own, Verdict, call_look, change_look, from_root, lock_for, lock_look, open_for}
use Rattle.need_host.specs.Calls.{open_look, refuse}
use Rattle.need_host.specs.Calls.Verdict.{Locks, Opens, Replies}
use Rattle.need_host.specs.Looks.{Look, View, after_check, checked, kind_for, look_on, needs_of, outcome, refuse_if}
use Rattle.need_host.specs.Looks.Look.{Ends, Looks}
use Rattle.need_host.specs.Questions.{fileset_of, is_change}
use Rattle.need_host.specs.Walks.{fid_in, file_look, nature_look, permitted, rights_on, root_of, search_look}
use Rattle.need_host.specs.Walks.{step_look, target_look, use_look, walk_look}
use Rattle.tree_objects.specs.Entries.{entry_named}
use Rattle.tree_objects.specs.Spans.{span_between}
use Rattle.tree_answers.specs.Locks.{has_lock, is_own_locked, lock_count}
use Rattle.tree_answers.specs.Opens.{has_open, open_count}
use Rattle.message_types.specs.Soundness.{IsDecided}
use Rattle.token_types.specs.declared.token.Kind.TheVariants.{Lock as LockKind, Opening}
use Rattle.token_types.specs.declared.token.Need.{Need}
use Rattle.tree_laws.specs.Parts.{Nature, Part}
use Rattle.tree_laws.specs.Parts.Part.{ByteAt, Entries, Size, Traits}
use Rattle.run_contents.proofs.WriteLooks.{file_checks, passed, search_ends, target_ends, unrefused}
use Rattle.run_rules.specs.Past.{In}
use Rattle.run_rules.specs.Tokens.{IsUseKind}

abbrev use_checks : User → Bool → ℕ → Fid × Nature → Look (Result Fid Refusal)
use_checks user changing right (fid, nature) =
    refuse_if (changing && nature.read_only) ReadOnly (permitted nature user right (Ends (Ok fid)))

ok_same : {A : Type 0} (x y : A) → (let l : Result A Refusal = Ok x in let r : Result A Refusal = Ok y in l ≡ r)
    → x ≡ y
ok_same x y e = cc

-- each need of a lock or an open is so
abbrev NeedsSo : (Need → Type 0) → List Need → Type 0
NeedsSo P needs = (n : Need) → In n needs → IsUseKind n.kind → P n

module _ (P : Need → Type 0) (view : View) where
  none_so : NeedsSo P []
  none_so n i u = elim i [ ]

  two_so : (xs ys : List Need) → NeedsSo P xs → NeedsSo P ys → NeedsSo P (xs ++ ys)
  two_so [] ys a b n i u = b n i u
  two_so (x ∷ xs) ys a b n (inl e) u = a n (inl e) u
  two_so (x ∷ xs) ys a b n (inr i) u = two_so xs ys (λ m j w. a m (inr j) w) b n i u

  plain_kind : (part : Part) → IsUseKind (kind_for part) → ⊥
  plain_kind (ByteAt at) u = u
  plain_kind Size u = u
  plain_kind Traits u = u
  plain_kind Entries u = u

  one_so : (fid : Fid) (part : Part) → NeedsSo P (record { fid = fid; kind = kind_for part } ∷ [])
  one_so fid part n (inl e) u = absurd (plain_kind part (subst (λ (z : Need). IsUseKind z.kind) e u))
  one_so fid part n (inr i) u = elim i [ ]

  taken_so : (need : Need) → P need → NeedsSo P (need ∷ [])
  taken_so need p n (inl e) u = subst P (sym e) p
  taken_so need p n (inr i) u = elim i [ ]

  abbrev Uses : {A : Type 0} → Look A → Type 0
  Uses look = NeedsSo P (needs_of view look)

  on_so : {A B : Type 0} (look : Look A) (next : A → Look B) → Uses look → Uses (next (outcome view look))
      → Uses (look_on look next)
  on_so look next a b =
      subst (NeedsSo P) (sym (needs_on view look next))
      (two_so (needs_of view look) (needs_of view (next (outcome view look))) a b)

  checked_so : {A B : Type 0} (look : Look (Result A Refusal)) (next : A → Look (Result B Refusal)) → Uses look
      → ((x : A) → outcome view look ≡ Ok x → Uses (next x)) → Uses (checked look next)
  checked_so {A} look next a b = on_so look (after_check next) a (each (outcome view look) refl)
    where
      each : (r : Result A Refusal) → outcome view look ≡ r → Uses (after_check next r)
      each (Ok x) e = b x e
      each (Err refusal) e = none_so

  refuse_so : {A : Type 0} (b : Bool) (refusal : Refusal) (next : Look (Result A Refusal)) → Uses next
      → Uses (refuse_if b refusal next)
  refuse_so true refusal next a = none_so
  refuse_so false refusal next a = a

  search_so : (user : User) (fid : Fid) (nature : Nature) → Uses (search_look user fid nature)
  search_so user fid nature =
      refuse_so (not nature.dir) NotDir (permitted nature user execute_right (
      Looks fid Entries (λ entries. Ends (Ok entries))))
      (refuse_so (not (allows (rights_on nature user) execute_right)) (Denied execute_right)
      (Looks fid Entries (λ entries. Ends (Ok entries))) (one_so fid Entries))

  step_so : (user : User) (fid : Fid) (name : List ℕ) → Uses (step_look user fid name)
  step_so user fid name =
      checked_so (nature_look fid) (search_ends user fid name) (one_so fid Traits)
      (λ nature e. checked_so (search_look user fid nature)
      (λ entries. Ends (and_then (entry_or_none (entry_named entries name)) (λ entry. Ok (fid_in fid entry))))
      (search_so user fid nature) (λ entries d. none_so))

  walk_so : (user : User) (names : List (List ℕ)) (fid : Fid) → Uses (walk_look user fid names)
  walk_so user [] fid = none_so
  walk_so user (name ∷ names) fid =
      checked_so (step_look user fid name) (λ next. walk_look user next names) (step_so user fid name)
      (λ next e. walk_so user names next)

  file_so : (user : User) (root : Fid) (path : List (List ℕ)) → Uses (file_look user root path)
  file_so user root path =
      checked_so (target_look user root path) file_checks
      (checked_so (walk_look user root path) target_ends (walk_so user path root)
      (λ fid e. checked_so (nature_look fid) (λ nature. Ends (Ok (fid, nature))) (one_so fid Traits)
      (λ nature d. none_so)))
      (λ found e. ended found)
    where
      ended : (found : Fid × Nature) → Uses (file_checks found)
      ended (fid, nature) = refuse_so nature.dir IsDir (Ends (Ok (fid, nature))) none_so

  use_so : (user : User) (root : Fid) (path : List (List ℕ)) (changing : Bool) (right : ℕ)
      → Uses (use_look user root path changing right)
  use_so user root path changing right =
      checked_so (file_look user root path) (use_checks user changing right) (file_so user root path)
      (λ found e. ended found)
    where
      ended : (found : Fid × Nature) → Uses (use_checks user changing right found)
      ended (fid, nature) =
          refuse_so (changing && nature.read_only) ReadOnly (permitted nature user right (Ends (Ok fid)))
          (refuse_so (not (allows (rights_on nature user) right)) (Denied right) (Ends (Ok fid)) none_so)

  judged_so : {A : Type 0} (look : Look (Result A Refusal)) (judge : A → Verdict) → Uses look
      → Uses (look_on look (λ seen. Ends (either seen judge (λ refusal. Replies (Refused refusal)))))
  judged_so look judge a =
      on_so look (λ seen. Ends (either seen judge (λ refusal. Replies (Refused refusal)))) a none_so

-- a walk stays in its fileset
module _ (view : View) (user : User) where
  walk_stays : (names : List (List ℕ)) (fid to : Fid) → outcome view (walk_look user fid names) ≡ Ok to
      → to.fileset ≡ fid.fileset
  walk_stays [] fid to e = ap (λ (f : Fid). f.fileset) (sym (ok_same fid to e))
  walk_stays (name ∷ names) fid to e =
      let p = passed view (step_look user fid name) (λ next. walk_look user next names) to e in
      walk_stays names p.value to p.rest ∙ step_stays p.value p.first
    where
      entered : (next : Fid) (r : Result DirEntry Refusal) → and_then r (λ entry. Ok (fid_in fid entry)) ≡ Ok next
          → next.fileset ≡ fid.fileset
      entered next (Ok entry) q = ap (λ (f : Fid). f.fileset) (sym (ok_same (fid_in fid entry) next q))
      entered next (Err refusal) q = absurd (let k : Err refusal ≡ Ok next = q in cc)

      step_stays : (next : Fid) → outcome view (step_look user fid name) ≡ Ok next → next.fileset ≡ fid.fileset
      step_stays next q =
          let n = passed view (nature_look fid) (search_ends user fid name) next q in
          let s = passed view (search_look user fid n.value) (λ entries.
          Ends (and_then (entry_or_none (entry_named entries name)) (λ entry. Ok (fid_in fid entry)))) next n.rest in
          entered next (entry_or_none (entry_named s.value name)) s.rest

  pair_first : (fid : Fid) (nature : Nature) (found : Fid × Nature)
      → (let l : Result (Fid × Nature) Refusal = Ok (fid, nature) in let r : Result (Fid × Nature) Refusal = Ok found in
      l ≡ r) → fid ≡ found.0
  pair_first fid nature found e = ap (λ (y : Fid × Nature). y.0) (ok_same (fid, nature) found e)

  target_stays : (root : Fid) (path : List (List ℕ)) (found : Fid × Nature)
      → outcome view (target_look user root path) ≡ Ok found → found.0.fileset ≡ root.fileset
  target_stays root path found e =
      let w = passed view (walk_look user root path) target_ends found e in
      let n = passed view (nature_look w.value) (λ nature. Ends (Ok (w.value, nature))) found w.rest in
      ap (λ (f : Fid). f.fileset) (sym (pair_first w.value n.value found n.rest)) ∙ walk_stays path root w.value w.first

  file_stays : (root : Fid) (path : List (List ℕ)) (found : Fid × Nature)
      → outcome view (file_look user root path) ≡ Ok found → found.0.fileset ≡ root.fileset
  file_stays root path found e =
      let t = passed view (target_look user root path) file_checks found e in
      ap (λ (f : Fid). f.fileset) (sym (at t.value t.rest)) ∙ target_stays root path t.value t.first
    where
      at : (here : Fid × Nature) → outcome view (file_checks here) ≡ Ok found → here.0 ≡ found.0
      at (fid, nature) q =
          pair_first fid nature found (unrefused view nature.dir IsDir (Ends (Ok (fid, nature))) found q).rest

  pub use_stays : (root : Fid) (path : List (List ℕ)) (changing : Bool) (right : ℕ) (fid : Fid)
      → outcome view (use_look user root path changing right) ≡ Ok fid → fid.fileset ≡ root.fileset
  use_stays root path changing right fid e =
      let t = passed view (file_look user root path) (use_checks user changing right) fid e in
      ap (λ (f : Fid). f.fileset) (sym (at t.value t.rest)) ∙ file_stays root path t.value t.first
    where
      at : (here : Fid × Nature) → outcome view (use_checks user changing right here) ≡ Ok fid → here.0 ≡ fid
      at (found, nature) q =
          let u = unrefused view (changing && nature.read_only) ReadOnly
          (permitted nature user right (Ends (Ok found))) fid q in
          let w = unrefused view (not (allows (rights_on nature user) right)) (Denied right) (Ends (Ok found)) fid
          u.rest in ok_same found fid w.rest

-- the fileset of a call, as the host has seen it
pub record UseNeed (own : Own) (call : Call) (need : Need) : Type 0 where
  pub server : ServerId
  pub name : List ℕ
  pub id : FilesetId
  pub of : fileset_of call ≡ Some (server, name)
  pub seen : own.seen server name ≡ Some id
  pub fileset : need.fid.fileset ≡ id
  pub change : is_change call ≡ true

module _ (view : View) (own : Own) (host : HostId) (user : User) where
  abbrev InFileset : FilesetId → Need → Type 0
  InFileset id need = need.fid.fileset ≡ id

  lock_so : (id : FilesetId) (path : List (List ℕ)) (writing : Bool) (from len : ℕ)
      → NeedsSo (InFileset id) (needs_of view (lock_look own host user (root_of id) path writing from len))
  unfolding lock_look
  lock_so id path writing from len =
      judged_so (InFileset id) view
      (checked (use_look user (root_of id) path writing (if writing then write_right else read_right))
      (lock_for own host writing from len)) (λ fid. Locks fid writing (span_between from (from + len)))
      (checked_so (InFileset id) view
      (use_look user (root_of id) path writing (if writing then write_right else read_right))
      (lock_for own host writing from len)
      (use_so (InFileset id) view user (root_of id) path writing (if writing then write_right else read_right))
      (λ fid e. refuse_so (InFileset id) view (nat_lt FILE_BYTES_MAX (from + len)) TooBig _
      (refuse_so (InFileset id) view (is_own_locked own.locks host fid (span_between from (from + len))) AlreadyLocked _
      (taken_so (InFileset id) view (record { fid = fid; kind = LockKind writing (span_between from (from + len)) })
      (use_stays view user (root_of id) path writing (if writing then write_right else read_right) fid e)))))

  open_so : (id : FilesetId) (path : List (List ℕ)) (kind : OpenKind)
      → NeedsSo (InFileset id) (needs_of view (open_look user (root_of id) path kind))
  unfolding open_look
  open_so id path kind =
      judged_so (InFileset id) view (checked (use_look user (root_of id) path (is_changing kind) (right_to_open kind))
      (open_for kind)) (λ fid. Opens fid kind)
      (checked_so (InFileset id) view (use_look user (root_of id) path (is_changing kind) (right_to_open kind))
      (open_for kind) (use_so (InFileset id) view user (root_of id) path (is_changing kind) (right_to_open kind))
      (λ fid e. taken_so (InFileset id) view (record { fid = fid; kind = Opening kind })
      (use_stays view user (root_of id) path (is_changing kind) (right_to_open kind) fid e)))

  rooted : (call : Call) (server : ServerId) (name : List ℕ) (look : Fid → Look Verdict) (need : Need)
      → fileset_of call ≡ Some (server, name) → is_change call ≡ true
      → ((id : FilesetId) → NeedsSo (InFileset id) (needs_of view (look (root_of id)))) → IsUseKind need.kind
      → In need (needs_of view (from_root server (own.seen server name) look)) → UseNeed own call need
  rooted call server name look need of change all u = go (own.seen server name) refl
    where
      go : (o : Option FilesetId) → own.seen server name ≡ o → In need (needs_of view (from_root server o look))
          → UseNeed own call need
      go None e i = elim i [ ]
      go (Some id) e i = record {
        server = server;
        name = name;
        id = id;
        of = of;
        seen = e;
        fileset = all id need i u;
        change = change;
      }

  labelled : (used full : Bool) (refusal : Refusal) (look : Look Verdict) (need : Need)
      → In need (needs_of view (if used then refuse refusal else if full then refuse TooMany else look))
      → In need (needs_of view look)
  labelled true full refusal look need i = elim i [ ]
  labelled false true refusal look need i = elim i [ ]
  labelled false false refusal look need i = i

  unneeded : (server : ServerId) (o : Option FilesetId) (need : Need)
      → In need (needs_of view (from_root server o change_look)) → ⊥
  unneeded server None need i = i
  unneeded server (Some id) need i = i

  -- what is needed of uses, for a call that servers decide, is of the call's fileset
  pub use_needs : (v : ServerId) (call : Call) (need : Need) → IsDecided v call
      → In need (needs_of view (call_look own host user call)) → IsUseKind need.kind → UseNeed own call need
  unfolding call_look
  use_needs v (LockCall label place writing from len) need d i u =
      rooted (LockCall label place writing from len) place.server place.fileset
      (λ root. lock_look own host user root place.path writing from len) need refl refl
      (λ id. lock_so id place.path writing from len) u
      (labelled (has_lock own.locks host label) (nat_le LABELS_MAX (lock_count own.locks host)) AlreadyLocked _ need i)
  use_needs v (OpenFile label place kind) need d i u =
      rooted (OpenFile label place kind) place.server place.fileset
      (λ root. open_look user root place.path kind) need refl refl
      (λ id. open_so id place.path kind) u
      (labelled (has_open own.opens host label) (nat_le LABELS_MAX (open_count own.opens host)) AlreadyOpened _ need i)
  use_needs v (NewFileset server name objects owner) need d i u = elim i [ ]
  use_needs v (CloneFileset server source new) need d i u = elim i [ ]
  use_needs v (Create place) need d i u =
      absurd (unneeded place.server (own.seen place.server place.fileset) need i)
  use_needs v (MakeDir place) need d i u =
      absurd (unneeded place.server (own.seen place.server place.fileset) need i)
  use_needs v (Remove place) need d i u =
      absurd (unneeded place.server (own.seen place.server place.fileset) need i)
  use_needs v (Rename from to) need d i u = absurd (unneeded from.server (own.seen from.server from.fileset) need i)
  use_needs v (Truncate place len) need d i u =
      absurd (unneeded place.server (own.seen place.server place.fileset) need i)
  use_needs v (SetAcl place which list) need d i u =
      absurd (unneeded place.server (own.seen place.server place.fileset) need i)
  use_needs v (MoveFileset server name to) need d i u = absurd (unneeded server (own.seen server name) need i)
  use_needs v _ need d i u = elim d [ ]
