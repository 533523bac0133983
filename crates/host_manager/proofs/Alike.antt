-- A call looks at the same, and asks the same, whatever a host knows of what is clean and of which uses are the last.
use Rattle.base_types.specs.Outcomes.{either}
use Rattle.base_types.specs.declared.ids.Fid.{Fid}
use Rattle.base_types.specs.declared.ids.FilesetId.{FilesetId}
use Rattle.base_types.specs.declared.ids.HostId.{HostId}
use Rattle.base_types.specs.declared.ids.OpenKind.{OpenKind}
use Rattle.base_types.specs.declared.ids.ServerId.{ServerId}
use Rattle.base_types.specs.declared.limits.TheConstants.{LABELS_MAX}
use Rattle.base_types.specs.declared.user.User.{User}
use Rattle.host_manager.proofs.SyncSo.{sync_needs}
use Rattle.need_host.proofs.Rows.{outcome_judged}
use Rattle.need_host.specs.Calls.{Own, Verdict, access_look, call_look, change_look, from_root}
use Rattle.need_host.specs.Calls.{in_place, list_look, lock_look, open_look, read_look, refuse}
use Rattle.need_host.specs.Calls.{stat_look, sync_look, sync_verdict, write_look}
use Rattle.need_host.specs.Calls.Verdict.{Asks, Frees, Gives, Replies}
use Rattle.need_host.specs.Looks.{Look, View, needs_of, outcome}
use Rattle.need_host.specs.Looks.Look.{Ends}
use Rattle.need_host.specs.Questions.{Question}
use Rattle.need_host.specs.Walks.{file_look, root_of}
use Rattle.std.proofs.Common.{Bool, Err, List, None, Ok, Option, Result, Some, [], ap, false, if◌then◌else◌, nat_le}
use Rattle.std.proofs.Common.{not}
use Rattle.std.proofs.Common.{refl, subst, sym, true, ◌∙◌, ◌≡◌, ℕ}
use Rattle.tree_answers.specs.Locks.{has_lock, lock_count}
use Rattle.tree_answers.specs.Opens.{has_open, open_count}
use Rattle.tree_answers.specs.declared.tree.LockUse.{LockUse}
use Rattle.tree_answers.specs.declared.tree.OpenUse.{OpenUse}
use Rattle.tree_calls.specs.declared.call.Call.{Call}
use Rattle.tree_calls.specs.declared.call.Call.TheVariants.{CloneFileset, CloseFile, Create, GetAcl, List as ListNames}
use Rattle.tree_calls.specs.declared.call.Call.TheVariants.{Lock, MakeDir, MoveFileset, NewFileset, OpenFile, Read}
use Rattle.tree_calls.specs.declared.call.Call.TheVariants.{Remove}
use Rattle.tree_calls.specs.declared.call.Call.TheVariants.{Rename, SetAcl, Stat, Sync, Truncate, Unlock, Write}
use Rattle.tree_calls.specs.declared.place.Place.{Place}
use Rattle.tree_calls.specs.declared.reply.Refusal.{Refusal}
use Rattle.tree_calls.specs.declared.reply.Refusal.TheVariants.{AlreadyLocked, AlreadyOpened, NotLocked, NotOpened}
use Rattle.tree_calls.specs.declared.reply.Refusal.TheVariants.{TooMany}
use Rattle.tree_calls.specs.declared.reply.Reply.TheVariants.{Ok as Fine, Refused}
use Rattle.tree_laws.specs.Parts.{Nature}

-- of two looks the second asks what the first does, and needs the same
pub record AsksAlike (view : View) (look other : Look Verdict) : Type 0 where
  pub needs : needs_of view look ≡ needs_of view other
  pub asks : (q : Question) → outcome view look ≡ Asks q → outcome view other ≡ Asks q

-- what gives back by what a host knows does by what it knows then
pub record GivesStill (a b : Own) : Type 0 where
  pub locks : a.locks ≡ b.locks
  pub opens : a.opens ≡ b.opens
  pub seen : (server : ServerId) (name : List ℕ) → a.seen server name ≡ b.seen server name
  pub lock : (label : List ℕ) → a.gives_lock label ≡ true → b.gives_lock label ≡ true
  pub opening : (label : List ℕ) → a.gives_open label ≡ true → b.gives_open label ≡ true
  pub unclean : (fid : Fid) → a.is_clean fid ≡ false → b.is_clean fid ≡ false

module _ (view : View) where
  same_look : (look other : Look Verdict) → look ≡ other → AsksAlike view look other
  same_look look other e = record {
    needs = ap (needs_of view) e;
    asks = λ q f. ap (outcome view) (sym e) ∙ f;
  }

  -- from a root
  root_alike : (server : ServerId) (o p : Option FilesetId) → o ≡ p → (f g : Fid → Look Verdict)
      → ((root : Fid) → AsksAlike view (f root) (g root)) → AsksAlike view (from_root server o f) (from_root server p g)
  root_alike server o p e f g alike =
      subst (λ (z : Option FilesetId). AsksAlike view (from_root server o f) (from_root server z g)) e (by_one o)
    where
      by_one : (z : Option FilesetId) → AsksAlike view (from_root server z f) (from_root server z g)
      by_one None = record { needs = refl; asks = λ q h. h }
      by_one (Some id) = alike (root_of id)

  -- a Sync asks nothing
  clean_asks : (b : Bool) (q : Question) → (if b then Replies Fine else Gives) ≡ Asks q → ⊥
  clean_asks true q e = absurd (cc)
  clean_asks false q e = absurd (cc)

  either_asks : (own : Own) (f : Result (Fid × Nature) Refusal) (q : Question)
      → either f (sync_verdict own) (λ refusal. Replies (Refused refusal)) ≡ Asks q → ⊥
  either_asks own (Ok found) q e = clean_asks (own.is_clean found.0) q e
  either_asks own (Err refusal) q e = absurd (cc)

  sync_alike : (a b : Own) (user : User) (root : Fid) (path : List (List ℕ))
      → AsksAlike view (sync_look a user root path) (sync_look b user root path)
  unfolding sync_look
  sync_alike a b user root path = record {
    needs = sync_needs a user view root path ∙ sym (sync_needs b user view root path);
    asks = λ q e. absurd (either_asks a (outcome view (file_look user root path)) q
        (sym (outcome_judged view (file_look user root path) (sync_verdict a)) ∙ e));
  }

  -- nor does the end of a label
  end_alike : (r : Refusal) (has one other : Bool) → AsksAlike view
      (if not has then refuse r else Ends (if one then Gives else Frees))
      (if not has then refuse r else Ends (if other then Gives else Frees))
  end_alike r false one other = record { needs = refl; asks = λ q e. e }
  end_alike r true true other = record { needs = by_other other; asks = λ q e. absurd (cc) }
    where
      by_other : (b : Bool) → [] ≡ needs_of view (Ends (if b then Gives else Frees))
      by_other true = refl
      by_other false = refl
  end_alike r true false other = record { needs = by_other other; asks = λ q e. absurd (cc) }
    where
      by_other : (b : Bool) → [] ≡ needs_of view (Ends (if b then Gives else Frees))
      by_other true = refl
      by_other false = refl

  -- a label is taken where it is new and few are there
  taken_alike : (had many : Bool) (r : Refusal) (look other : Look Verdict) → AsksAlike view look other
      → AsksAlike view (if had then refuse r else if many then refuse TooMany else look)
      (if had then refuse r else if many then refuse TooMany else other)
  taken_alike true many r look other alike = record { needs = refl; asks = λ q e. e }
  taken_alike false true r look other alike = record { needs = refl; asks = λ q e. e }
  taken_alike false false r look other alike = alike

  module _ (a b : Own) (seen : (server : ServerId) (name : List ℕ) → a.seen server name ≡ b.seen server name)
      (host : HostId) (user : User) where
    place_alike : (place : Place) (f g : Fid → Look Verdict) → ((root : Fid) → AsksAlike view (f root) (g root))
        → AsksAlike view (in_place a place f) (in_place b place g)
    place_alike place f g alike = root_alike place.server (a.seen place.server place.fileset)
        (b.seen place.server place.fileset) (seen place.server place.fileset) f g alike

    same_place : (place : Place) (f : Fid → Look Verdict) → AsksAlike view (in_place a place f) (in_place b place f)
    same_place place f = place_alike place f f (λ root. same_look (f root) (f root) refl)

  lock_alike : (a b : Own) → a.locks ≡ b.locks
      → ((server : ServerId) (name : List ℕ) → a.seen server name ≡ b.seen server name)
      → (host : HostId) (user : User) (label : List ℕ) (place : Place) (writing : Bool) (from len : ℕ)
      → AsksAlike view (call_look a host user (Lock label place writing from len))
      (call_look b host user (Lock label place writing from len))
  unfolding call_look lock_look
  lock_alike a b locks seen host user label place writing from len =
      let c : Own = record a { locks = b.locks } in
      subst (λ (z : Look Verdict). AsksAlike view z (call_look b host user (Lock label place writing from len)))
      (ap (λ (ls : List LockUse). call_look (record a { locks = ls }) host user (Lock label place writing from len))
      (sym locks))
      (taken_alike (has_lock b.locks host label) (nat_le LABELS_MAX (lock_count b.locks host)) AlreadyLocked
      (in_place c place (λ root. lock_look c host user root place.path writing from len))
      (in_place b place (λ root. lock_look b host user root place.path writing from len))
      (place_alike c b seen host user place (λ root. lock_look c host user root place.path writing from len)
      (λ root. lock_look b host user root place.path writing from len)
      (λ root. same_look (lock_look c host user root place.path writing from len)
      (lock_look b host user root place.path writing from len) refl)))

  open_alike : (a b : Own) → a.opens ≡ b.opens
      → ((server : ServerId) (name : List ℕ) → a.seen server name ≡ b.seen server name)
      → (host : HostId) (user : User) (label : List ℕ) (place : Place) (kind : OpenKind)
      → AsksAlike view (call_look a host user (OpenFile label place kind))
      (call_look b host user (OpenFile label place kind))
  unfolding call_look
  open_alike a b opens seen host user label place kind =
      let c : Own = record a { opens = b.opens } in
      subst (λ (z : Look Verdict). AsksAlike view z (call_look b host user (OpenFile label place kind)))
      (ap (λ (os : List OpenUse). call_look (record a { opens = os }) host user (OpenFile label place kind))
      (sym opens))
      (taken_alike (has_open b.opens host label) (nat_le LABELS_MAX (open_count b.opens host)) AlreadyOpened
      (in_place c place (λ root. open_look user root place.path kind))
      (in_place b place (λ root. open_look user root place.path kind))
      (same_place c b seen host user place (λ root. open_look user root place.path kind)))

  unlock_alike : (a b : Own) → a.locks ≡ b.locks → (host : HostId) (user : User) (label : List ℕ)
      → AsksAlike view (call_look a host user (Unlock label)) (call_look b host user (Unlock label))
  unfolding call_look
  unlock_alike a b locks host user label =
      subst (λ (z : Look Verdict). AsksAlike view z (call_look b host user (Unlock label)))
      (ap (λ (ls : List LockUse). call_look (record a { locks = ls }) host user (Unlock label)) (sym locks))
      (end_alike NotLocked (has_lock b.locks host label) (a.gives_lock label) (b.gives_lock label))

  close_alike : (a b : Own) → a.opens ≡ b.opens → (host : HostId) (user : User) (label : List ℕ)
      → AsksAlike view (call_look a host user (CloseFile label)) (call_look b host user (CloseFile label))
  unfolding call_look
  close_alike a b opens host user label =
      subst (λ (z : Look Verdict). AsksAlike view z (call_look b host user (CloseFile label)))
      (ap (λ (os : List OpenUse). call_look (record a { opens = os }) host user (CloseFile label)) (sym opens))
      (end_alike NotOpened (has_open b.opens host label) (a.gives_open label) (b.gives_open label))

  pub call_alike : (a b : Own) → a.locks ≡ b.locks → a.opens ≡ b.opens
      → ((server : ServerId) (name : List ℕ) → a.seen server name ≡ b.seen server name)
      → (host : HostId) (user : User) (call : Call)
      → AsksAlike view (call_look a host user call) (call_look b host user call)
  unfolding call_look
  call_alike a b locks opens seen host user (NewFileset server name objects owner) =
      record { needs = refl; asks = λ q e. e }
  call_alike a b locks opens seen host user (Create place) = same_place a b seen host user place change_look
  call_alike a b locks opens seen host user (MakeDir place) = same_place a b seen host user place change_look
  call_alike a b locks opens seen host user (Remove place) = same_place a b seen host user place change_look
  call_alike a b locks opens seen host user (Rename from to) = same_place a b seen host user from change_look
  call_alike a b locks opens seen host user (Truncate place len) = same_place a b seen host user place change_look
  call_alike a b locks opens seen host user (SetAcl place which list) =
      same_place a b seen host user place change_look
  call_alike a b locks opens seen host user (CloneFileset server source new) =
      record { needs = refl; asks = λ q e. e }
  call_alike a b locks opens seen host user (Read place from len) =
      same_place a b seen host user place (λ root. read_look user root place.path from len)
  call_alike a b locks opens seen host user (Write place from bytes) =
      same_place a b seen host user place (λ root. write_look user root place.path from bytes)
  call_alike a b locks opens seen host user (ListNames place) =
      same_place a b seen host user place (λ root. list_look user root place.path)
  call_alike a b locks opens seen host user (Stat place) =
      same_place a b seen host user place (λ root. stat_look user root place.path)
  call_alike a b locks opens seen host user (GetAcl place which) =
      same_place a b seen host user place (λ root. access_look user root place.path which)
  call_alike a b locks opens seen host user (Sync place) = place_alike a b seen host user place
      (λ root. sync_look a user root place.path) (λ root. sync_look b user root place.path)
      (λ root. sync_alike a b user root place.path)
  call_alike a b locks opens seen host user (Lock label place writing from len) =
      lock_alike a b locks seen host user label place writing from len
  call_alike a b locks opens seen host user (Unlock label) = unlock_alike a b locks host user label
  call_alike a b locks opens seen host user (OpenFile label place kind) =
      open_alike a b opens seen host user label place kind
  call_alike a b locks opens seen host user (CloseFile label) = close_alike a b opens host user label
  call_alike a b locks opens seen host user (MoveFileset server name to) =
      root_alike server (a.seen server name) (b.seen server name) (seen server name) change_look change_look
      (λ root. same_look (change_look root) (change_look root) refl)

  -- # What gives back
  abbrev Still : Look Verdict → Look Verdict → Type 0
  Still look other = outcome view look ≡ Gives → outcome view other ≡ Gives

  root_still : (server : ServerId) (o p : Option FilesetId) → o ≡ p → (f g : Fid → Look Verdict)
      → ((root : Fid) → Still (f root) (g root)) → Still (from_root server o f) (from_root server p g)
  root_still server o p e f g still =
      subst (λ (z : Option FilesetId). Still (from_root server o f) (from_root server z g)) e (by_one o)
    where
      by_one : (z : Option FilesetId) → Still (from_root server z f) (from_root server z g)
      by_one None = λ h. h
      by_one (Some id) = still (root_of id)

  end_still : (r : Refusal) (has one other : Bool) → (one ≡ true → other ≡ true) → Still
      (if not has then refuse r else Ends (if one then Gives else Frees))
      (if not has then refuse r else Ends (if other then Gives else Frees))
  end_still r false one other still e = absurd (cc)
  end_still r true true other still e = ap (λ (b : Bool). if b then Gives else Frees) (still refl)
  end_still r true false other still e = absurd (cc)

  sync_still : (a b : Own) → GivesStill a b → (user : User) (root : Fid) (path : List (List ℕ))
      → Still (sync_look a user root path) (sync_look b user root path)
  unfolding sync_look
  sync_still a b so user root path e =
      outcome_judged view (file_look user root path) (sync_verdict b)
      ∙ by_found (outcome view (file_look user root path))
      (sym (outcome_judged view (file_look user root path) (sync_verdict a)) ∙ e)
    where
      by_clean : (fid : Fid) (t : Bool) → a.is_clean fid ≡ t → (if t then Replies Fine else Gives) ≡ Gives
          → (if b.is_clean fid then Replies Fine else Gives) ≡ Gives
      by_clean fid true q f = absurd (cc)
      by_clean fid false q f = ap (λ (t : Bool). if t then Replies Fine else Gives) (so.unclean fid q)

      by_found : (f : Result (Fid × Nature) Refusal)
          → either f (sync_verdict a) (λ refusal. Replies (Refused refusal)) ≡ Gives
          → either f (sync_verdict b) (λ refusal. Replies (Refused refusal)) ≡ Gives
      by_found (Ok found) q = by_clean found.0 (a.is_clean found.0) refl q
      by_found (Err refusal) q = absurd (cc)

  taken_still : (had many : Bool) (r : Refusal) (look other : Look Verdict) → Still look other
      → Still (if had then refuse r else if many then refuse TooMany else look)
      (if had then refuse r else if many then refuse TooMany else other)
  taken_still true many r look other still e = e
  taken_still false true r look other still e = e
  taken_still false false r look other still e = still e

  lock_still : (a b : Own) → GivesStill a b → (host : HostId) (user : User) (label : List ℕ) (place : Place)
      (writing : Bool) (from len : ℕ) → Still (call_look a host user (Lock label place writing from len))
      (call_look b host user (Lock label place writing from len))
  unfolding call_look lock_look
  lock_still a b so host user label place writing from len =
      let c : Own = record a { locks = b.locks } in
      subst (λ (z : Look Verdict). Still z (call_look b host user (Lock label place writing from len)))
      (ap (λ (ls : List LockUse). call_look (record a { locks = ls }) host user (Lock label place writing from len))
      (sym so.locks))
      (taken_still (has_lock b.locks host label) (nat_le LABELS_MAX (lock_count b.locks host)) AlreadyLocked
      (in_place c place (λ root. lock_look c host user root place.path writing from len))
      (in_place b place (λ root. lock_look b host user root place.path writing from len))
      (root_still place.server (c.seen place.server place.fileset) (b.seen place.server place.fileset)
      (so.seen place.server place.fileset) (λ root. lock_look c host user root place.path writing from len)
      (λ root. lock_look b host user root place.path writing from len) (λ root h. h)))

  open_still : (a b : Own) → GivesStill a b → (host : HostId) (user : User) (label : List ℕ) (place : Place)
      (kind : OpenKind) → Still (call_look a host user (OpenFile label place kind))
      (call_look b host user (OpenFile label place kind))
  unfolding call_look
  open_still a b so host user label place kind =
      let c : Own = record a { opens = b.opens } in
      subst (λ (z : Look Verdict). Still z (call_look b host user (OpenFile label place kind)))
      (ap (λ (os : List OpenUse). call_look (record a { opens = os }) host user (OpenFile label place kind))
      (sym so.opens))
      (taken_still (has_open b.opens host label) (nat_le LABELS_MAX (open_count b.opens host)) AlreadyOpened
      (in_place c place (λ root. open_look user root place.path kind))
      (in_place b place (λ root. open_look user root place.path kind))
      (root_still place.server (c.seen place.server place.fileset) (b.seen place.server place.fileset)
      (so.seen place.server place.fileset) (λ root. open_look user root place.path kind)
      (λ root. open_look user root place.path kind) (λ root h. h)))

  pub gives_still : (a b : Own) → GivesStill a b → (host : HostId) (user : User) (call : Call)
      → outcome view (call_look a host user call) ≡ Gives → outcome view (call_look b host user call) ≡ Gives
  unfolding call_look
  gives_still a b so host user (Sync place) e =
      root_still place.server (a.seen place.server place.fileset) (b.seen place.server place.fileset)
      (so.seen place.server place.fileset) (λ root. sync_look a user root place.path)
      (λ root. sync_look b user root place.path) (λ root. sync_still a b so user root place.path) e
  gives_still a b so host user (Unlock label) e =
      end_still NotLocked (has_lock b.locks host label) (a.gives_lock label) (b.gives_lock label) (so.lock label)
      (ap (λ (ls : List LockUse). outcome view (call_look (record a { locks = ls }) host user (Unlock label)))
      (sym so.locks) ∙ e)
  gives_still a b so host user (CloseFile label) e =
      end_still NotOpened (has_open b.opens host label) (a.gives_open label) (b.gives_open label) (so.opening label)
      (ap (λ (os : List OpenUse). outcome view (call_look (record a { opens = os }) host user (CloseFile label)))
      (sym so.opens) ∙ e)
  gives_still a b so host user (NewFileset server name objects owner) e = absurd (cc)
  gives_still a b so host user (CloneFileset server source new) e = absurd (cc)
  gives_still a b so host user (Create place) e =
      root_still place.server (a.seen place.server place.fileset) (b.seen place.server place.fileset)
      (so.seen place.server place.fileset) change_look change_look (λ root h. h) e
  gives_still a b so host user (MakeDir place) e =
      root_still place.server (a.seen place.server place.fileset) (b.seen place.server place.fileset)
      (so.seen place.server place.fileset) change_look change_look (λ root h. h) e
  gives_still a b so host user (Remove place) e =
      root_still place.server (a.seen place.server place.fileset) (b.seen place.server place.fileset)
      (so.seen place.server place.fileset) change_look change_look (λ root h. h) e
  gives_still a b so host user (Rename from to) e =
      root_still from.server (a.seen from.server from.fileset) (b.seen from.server from.fileset)
      (so.seen from.server from.fileset) change_look change_look (λ root h. h) e
  gives_still a b so host user (Truncate place len) e =
      root_still place.server (a.seen place.server place.fileset) (b.seen place.server place.fileset)
      (so.seen place.server place.fileset) change_look change_look (λ root h. h) e
  gives_still a b so host user (SetAcl place which list) e =
      root_still place.server (a.seen place.server place.fileset) (b.seen place.server place.fileset)
      (so.seen place.server place.fileset) change_look change_look (λ root h. h) e
  gives_still a b so host user (Read place from len) e =
      root_still place.server (a.seen place.server place.fileset) (b.seen place.server place.fileset)
      (so.seen place.server place.fileset) (λ root. read_look user root place.path from len)
      (λ root. read_look user root place.path from len) (λ root h. h) e
  gives_still a b so host user (Write place from bytes) e =
      root_still place.server (a.seen place.server place.fileset) (b.seen place.server place.fileset)
      (so.seen place.server place.fileset) (λ root. write_look user root place.path from bytes)
      (λ root. write_look user root place.path from bytes) (λ root h. h) e
  gives_still a b so host user (ListNames place) e =
      root_still place.server (a.seen place.server place.fileset) (b.seen place.server place.fileset)
      (so.seen place.server place.fileset) (λ root. list_look user root place.path)
      (λ root. list_look user root place.path) (λ root h. h) e
  gives_still a b so host user (Stat place) e =
      root_still place.server (a.seen place.server place.fileset) (b.seen place.server place.fileset)
      (so.seen place.server place.fileset) (λ root. stat_look user root place.path)
      (λ root. stat_look user root place.path) (λ root h. h) e
  gives_still a b so host user (GetAcl place which) e =
      root_still place.server (a.seen place.server place.fileset) (b.seen place.server place.fileset)
      (so.seen place.server place.fileset) (λ root. access_look user root place.path which)
      (λ root. access_look user root place.path which) (λ root h. h) e
  gives_still a b so host user (Lock label place writing from len) e = lock_still a b so host user label place writing
      from len e
  gives_still a b so host user (OpenFile label place kind) e = open_still a b so host user label place kind e
  gives_still a b so host user (MoveFileset server name to) e =
      root_still server (a.seen server name) (b.seen server name) (so.seen server name) change_look change_look
      (λ root h. h) e

  -- the end of a label gives back where its use is the last of a pinned token
  end_gives : (r : Refusal) (has one : Bool)
      → outcome view (if not has then refuse r else Ends (if one then Gives else Frees)) ≡ Gives → one ≡ true
  end_gives r false one e = absurd (cc)
  end_gives r true true e = refl
  end_gives r true false e = absurd (cc)

  pub unlock_gives : (own : Own) (host : HostId) (user : User) (label : List ℕ)
      → outcome view (call_look own host user (Unlock label)) ≡ Gives → own.gives_lock label ≡ true
  unfolding call_look
  unlock_gives own host user label e = end_gives NotLocked (has_lock own.locks host label) (own.gives_lock label) e

  pub close_gives : (own : Own) (host : HostId) (user : User) (label : List ℕ)
      → outcome view (call_look own host user (CloseFile label)) ≡ Gives → own.gives_open label ≡ true
  unfolding call_look
  close_gives own host user label e = end_gives NotOpened (has_open own.opens host label) (own.gives_open label) e
