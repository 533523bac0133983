-- How calls are answered that look at what is in use.
use Rattle.std.proofs.Common.{◌≡◌, ℕ, ◌+◌, nat_lt, nat_le, Bool, true, false, if◌then◌else◌, List, [], ◌∷◌, ◌++◌, Option, Some, Result, Ok, Err, refl, sym, ap, ◌∙◌}
use Rattle.std.specs.Prelude.{slice_get}
use Rattle.std.specs.List.{find}
use Rattle.base_types.specs.Outcomes.{and_then}
use Rattle.base_types.specs.declared.ids.Fid.{Fid}
use Rattle.base_types.specs.declared.ids.HostId.{HostId}
use Rattle.base_types.specs.declared.ids.OpenKind.{OpenKind}
use Rattle.base_types.specs.declared.limits.TheConstants.{FILE_BYTES_MAX, LABELS_MAX}
use Rattle.base_types.specs.declared.span.Span.{Span}
use Rattle.base_types.specs.declared.user.User.{User}
use Rattle.tree_calls.specs.Rosters.{user_of}
use Rattle.tree_calls.specs.declared.call.Call.{Call}
use Rattle.tree_calls.specs.declared.call.Call.TheVariants.{Remove, Lock, OpenFile}
use Rattle.tree_calls.specs.declared.place.Place.{Place}
use Rattle.tree_calls.specs.declared.reply.Refusal.{Refusal}
use Rattle.tree_calls.specs.declared.reply.Refusal.TheVariants.{AlreadyLocked, AlreadyOpened, InUse, Locked, NoFileset, OpenConflict, TooBig, TooMany}
use Rattle.tree_calls.specs.declared.reply.Reply.TheVariants.{Ok as Done, Refused}
use Rattle.tree_objects.specs.Changes.{anode_freed}
use Rattle.tree_objects.specs.Entries.{content_without_entry}
use Rattle.tree_objects.specs.Spans.{span_between}
use Rattle.tree_filesets.specs.declared.fileset.Fileset.{Fileset}
use Rattle.tree_filesets.specs.Answers.{answered}
use Rattle.tree_filesets.specs.Checks.{unless}
use Rattle.tree_filesets.specs.Removal.{remove_answer, remove_target}
use Rattle.tree_filesets.specs.Rows.{fileset_answer}
use Rattle.tree_filesets.specs.Updates.{changed, updated}
use Rattle.tree_filesets.specs.Uses.{lock_target, open_target}
use Rattle.tree_answers.specs.Answers.{answer_for, answer_to, fileset_row, for_user, with_answered}
use Rattle.tree_answers.specs.Finding.{Answer, fileset_named, fileset_place, found_or, leads_to}
use Rattle.tree_answers.specs.Locks.{has_lock, is_excluded, is_own_locked, lock_answer, lock_check, lock_count}
use Rattle.tree_answers.specs.Opens.{has_open, is_barred, open_answer, open_check, open_count}
use Rattle.tree_answers.specs.Uses.{is_used}
use Rattle.tree_answers.specs.WellFormed.{IsWellFormed}
use Rattle.tree_answers.specs.declared.tree.Tree.{Tree}
use Rattle.need_server.proofs.Uses.{uses_refuse_last}
use Rattle.need_server.specs.Wants.{all_of, every_use_of, want, want_for, want_in}
use Rattle.tree_laws.specs.Losses.{use_of}
use Rattle.token_types.specs.declared.token.Kind.TheVariants.{Lock as LockKind, Opening}
use Rattle.token_types.specs.declared.token.Need.{Need}
use Rattle.tree_laws.proofs.Steps.{formed_found}
use Rattle.need_laws.specs.Idle.{idle, idle_answer}
use Rattle.need_laws.specs.Uses.{LockIs, LocksMindUses, OpenIs, OpensMindUses, RemoveIs, RemovesMindUses}
use Rattle.need_laws.specs.Uses.LockIs.{RefusesLock, WantsLock}
use Rattle.need_laws.specs.Uses.OpenIs.{RefusesOpen, WantsOpen}
use Rattle.need_laws.specs.Uses.RemoveIs.{MeetsUse, Refuses, Removes}
use Rattle.need_laws.proofs.Replies.{replied, reply_for}
use Rattle.need_laws.proofs.Rows.{IsPlaced, placed, row, row_refused, row_there}
use Rattle.need_laws.proofs.Rows.IsPlaced.{Nowhere, There}

module _ (tree : Tree) (host : HostId) (user : User) (acts : user_of tree.roster host ≡ Some user) where
  pub for_its : (call : Call) → answer_to tree host call ≡ answer_for tree host call user
  unfolding answer_to
  for_its call = ap (λ (o : Option User). for_user tree o (answer_for tree host call)) acts

  for_idle : (call : Call) → answer_to (idle tree) host call ≡ answer_for (idle tree) host call user
  unfolding answer_to
  for_idle call = ap (λ (o : Option User). for_user (idle tree) o (answer_for (idle tree) host call)) acts

-- Remove
module _ (tree : Tree) (host : HostId) (user : User) (place : Place) (acts : user_of tree.roster host ≡ Some user) where
  idle_place : fileset_place (idle tree) place.server place.fileset ≡ fileset_place tree place.server place.fileset
  unfolding fileset_place
  idle_place = refl

  row_of : answer_to tree host (Remove place) ≡ row (is_used tree.locks tree.opens) host user (Remove place) tree (fileset_place tree place.server place.fileset)
  unfolding answer_for fileset_row
  row_of = for_its tree host user acts (Remove place)

  row_idle : answer_to (idle tree) host (Remove place) ≡ row (λ fid. false) host user (Remove place) (idle tree) (fileset_place tree place.server place.fileset)
  unfolding answer_for fileset_row
  row_idle = for_idle tree host user acts (Remove place) ∙ ap (λ (found : Result ℕ Refusal). row (λ fid. false) host user (Remove place) (idle tree) found) idle_place

  wanted : (fileset : Fileset) → find (leads_to tree place.server place.fileset) tree.filesets ≡ Some fileset → want tree user (Remove place) ≡ want_in fileset user (Remove place)
  unfolding want fileset_named
  wanted fileset h = ap (λ (o : Option Fileset). want_for (found_or o NoFileset) (λ fileset. want_in fileset user (Remove place))) h

  abbrev Removal : Type 0
  Removal = Result (ℕ × List ℕ × ℕ) Refusal

  -- what is answered, and wanted, by what the checks find
  abbrev answer_with : ℕ → Fileset → Tree → Removal → Answer
  answer_with i fileset t target = with_answered t i (answered fileset target (λ (parent, name, anode). updated (changed fileset parent (content_without_entry name)) anode anode_freed))

  abbrev wants_of : Fileset → Removal → List Need
  wants_of fileset target = want_for target (λ (parent, name, anode). all_of true (use_of fileset parent) ++ all_of true (use_of fileset anode) ++ every_use_of (use_of fileset anode))

  -- and if nothing that they find is in use
  abbrev if_unused : Fileset → Removal → Removal
  if_unused fileset target = and_then target (λ (parent, name, anode). unless (is_used tree.locks tree.opens (use_of fileset anode)) InUse (Ok (parent, name, anode)))

  abbrev unless_used : Bool → ℕ → List ℕ → ℕ → Removal
  unless_used used parent name anode = unless used InUse (Ok (parent, name, anode))

  module _ (w : IsWellFormed tree) (i : ℕ) (fileset : Fileset) (e : fileset_place tree place.server place.fileset ≡ Ok i) (g : slice_get tree.filesets i ≡ Some fileset)
      (h : find (leads_to tree place.server place.fileset) tree.filesets ≡ Some fileset) where
    last : remove_target fileset (is_used tree.locks tree.opens) user place.path ≡ if_unused fileset (remove_target fileset (λ fid. false) user place.path)
    last = uses_refuse_last fileset (is_used tree.locks tree.opens) user place.path (formed_found (leads_to tree place.server place.fileset) tree.filesets fileset w.filesets h)

    its : answer_to tree host (Remove place) ≡ answer_with i fileset tree (if_unused fileset (remove_target fileset (λ fid. false) user place.path))
    unfolding fileset_answer remove_answer
    its =
        row_of ∙ row_there (is_used tree.locks tree.opens) host user (Remove place) tree (fileset_place tree place.server place.fileset) i fileset e g
        ∙ ap (answer_with i fileset tree) last

    idles : answer_to (idle tree) host (Remove place) ≡ answer_with i fileset (idle tree) (remove_target fileset (λ fid. false) user place.path)
    unfolding fileset_answer remove_answer
    idles = row_idle ∙ row_there (λ fid. false) host user (Remove place) (idle tree) (fileset_place tree place.server place.fileset) i fileset e g

    its_want : want tree user (Remove place) ≡ wants_of fileset (remove_target fileset (λ fid. false) user place.path)
    unfolding want_in
    its_want = wanted fileset h

    by_use : (parent : ℕ) (name : List ℕ) (anode : ℕ) → remove_target fileset (λ fid. false) user place.path ≡ Ok (parent, name, anode) → (b : Bool) → is_used tree.locks tree.opens (use_of fileset anode) ≡ b
        → RemoveIs tree host user place
    by_use parent name anode t true b = MeetsUse (use_of fileset parent) (use_of fileset anode)
        (its_want ∙ ap (wants_of fileset) t)
        (ap (λ (x : Answer). x.reply) (idles ∙ ap (answer_with i fileset (idle tree)) t)) b
        (ap (λ (x : Answer). x.reply) (its ∙ ap (λ (found : Removal). answer_with i fileset tree (if_unused fileset found)) t ∙ ap (λ (c : Bool). answer_with i fileset tree (unless_used c parent name anode)) b))
    by_use parent name anode t false b = Removes (use_of fileset parent) (use_of fileset anode)
        (its_want ∙ ap (wants_of fileset) t)
        (ap (λ (x : Answer). x.reply) (idles ∙ ap (answer_with i fileset (idle tree)) t)) b
        (idles ∙ ap (answer_with i fileset (idle tree)) t
        ∙ sym (ap idle_answer (its ∙ ap (λ (found : Removal). answer_with i fileset tree (if_unused fileset found)) t ∙ ap (λ (c : Bool). answer_with i fileset tree (unless_used c parent name anode)) b)))

    by_target : (target : Removal) → remove_target fileset (λ fid. false) user place.path ≡ target → RemoveIs tree host user place
    by_target (Err refusal) t = Refuses refusal
        (ap (λ (x : Answer). x.reply) (idles ∙ ap (answer_with i fileset (idle tree)) t))
        (ap (λ (x : Answer). x.reply) (its ∙ ap (λ (found : Removal). answer_with i fileset tree (if_unused fileset found)) t))
    by_target (Ok (parent, name, anode)) t = by_use parent name anode t (is_used tree.locks tree.opens (use_of fileset anode)) refl

    removed : RemoveIs tree host user place
    removed = by_target (remove_target fileset (λ fid. false) user place.path) refl

  pub remove_is : IsWellFormed tree → IsPlaced tree place.server place.fileset → RemoveIs tree host user place
  remove_is w (Nowhere e n) = Refuses NoFileset
      (ap (λ (x : Answer). x.reply) (row_idle ∙ row_refused (λ fid. false) host user (Remove place) (idle tree) (fileset_place tree place.server place.fileset) NoFileset e))
      (ap (λ (x : Answer). x.reply) (row_of ∙ row_refused (is_used tree.locks tree.opens) host user (Remove place) tree (fileset_place tree place.server place.fileset) NoFileset e))
  remove_is w (There i f e p g h) = removed w i f e g h

pub removes_mind_uses : RemovesMindUses
removes_mind_uses tree host user place w acts = remove_is tree host user place acts w (placed tree place.server place.fileset)

-- Lock
module _ (tree : Tree) (host : HostId) (user : User) (label : List ℕ) (place : Place) (writing : Bool) (from len : ℕ) (acts : user_of tree.roster host ≡ Some user) where
  abbrev span : Span
  span = span_between from (from + len)

  -- the checks from the fileset on, with what is in the way
  abbrev rest : (Fid → Bool) → (Fid → Bool) → Result Fileset Refusal → Result (Fid × Span) Refusal
  rest mine others found = and_then found (λ fileset. and_then (lock_target fileset user place.path writing) (λ fid.
      unless (nat_lt FILE_BYTES_MAX (from + len)) TooBig (unless (mine fid) AlreadyLocked (unless (others fid) Locked (Ok (fid, span))))))

  abbrev own : Fid → Bool
  own fid = is_own_locked tree.locks host fid span

  abbrev excluded : Fid → Bool
  excluded fid = is_excluded tree.locks host fid span writing

  -- what is checked of a file
  abbrev tail : (Fid → Bool) → (Fid → Bool) → Bool → Fid → Result (Fid × Span) Refusal
  tail mine others big fid = unless big TooBig (unless (mine fid) AlreadyLocked (unless (others fid) Locked (Ok (fid, span))))

  lock_reply : has_lock tree.locks host label ≡ false → nat_le LABELS_MAX (lock_count tree.locks host) ≡ false →
      (answer_to tree host (Lock label place writing from len)).reply
      ≡ reply_for (rest (λ fid. is_own_locked tree.locks host fid span) (λ fid. is_excluded tree.locks host fid span writing) (fileset_named tree place.server place.fileset))
  unfolding answer_for lock_answer lock_check
  lock_reply free few =
      ap (λ (x : Answer). x.reply) (for_its tree host user acts (Lock label place writing from len))
      ∙ replied tree (lock_check tree host user label place writing from len) _
      ∙ ap (λ (t : Bool). reply_for (unless t AlreadyLocked (unless (nat_le LABELS_MAX (lock_count tree.locks host)) TooMany
      (rest (λ fid. is_own_locked tree.locks host fid span) (λ fid. is_excluded tree.locks host fid span writing) (fileset_named tree place.server place.fileset))))) free
      ∙ ap (λ (t : Bool). reply_for (unless t TooMany (rest (λ fid. is_own_locked tree.locks host fid span) (λ fid. is_excluded tree.locks host fid span writing) (fileset_named tree place.server place.fileset)))) few

  idle_reply : (answer_to (idle tree) host (Lock label place writing from len)).reply ≡ reply_for (rest (λ fid. false) (λ fid. false) (fileset_named tree place.server place.fileset))
  unfolding answer_for lock_answer lock_check fileset_named
  idle_reply =
      ap (λ (x : Answer). x.reply) (for_idle tree host user acts (Lock label place writing from len))
      ∙ replied (idle tree) (lock_check (idle tree) host user label place writing from len) _

  lock_wanted : (found : Result Fileset Refusal) → fileset_named tree place.server place.fileset ≡ found → want tree user (Lock label place writing from len) ≡ want_for found (λ fileset. want_in fileset user (Lock label place writing from len))
  unfolding want
  lock_wanted found e = ap (λ (f : Result Fileset Refusal). want_for f (λ fileset. want_in fileset user (Lock label place writing from len))) e

  pub lock_mind : has_lock tree.locks host label ≡ false → nat_le LABELS_MAX (lock_count tree.locks host) ≡ false → LockIs tree host user label place writing from len
  unfolding want_in
  lock_mind free few = by_found (fileset_named tree place.server place.fileset) refl
    where
      its : (found : Result Fileset Refusal) → fileset_named tree place.server place.fileset ≡ found → (answer_to tree host (Lock label place writing from len)).reply ≡ reply_for (rest own excluded found)
      its found e = lock_reply free few ∙ ap (λ (f : Result Fileset Refusal). reply_for (rest own excluded f)) e

      idles : (found : Result Fileset Refusal) → fileset_named tree place.server place.fileset ≡ found → (answer_to (idle tree) host (Lock label place writing from len)).reply ≡ reply_for (rest (λ fid. false) (λ fid. false) found)
      idles found e = idle_reply ∙ ap (λ (f : Result Fileset Refusal). reply_for (rest (λ fid. false) (λ fid. false) f)) e

      ways : (a b : Bool) (fid : Fid) → reply_for (unless a AlreadyLocked (unless b Locked (let found : Result (Fid × Span) Refusal = Ok (fid, span) in found))) ≡ (if a then Refused AlreadyLocked else if b then Refused Locked else Done)
      ways true b fid = refl
      ways false true fid = refl
      ways false false fid = refl

      by_size : (fileset : Fileset) → fileset_named tree place.server place.fileset ≡ Ok fileset → (fid : Fid) → lock_target fileset user place.path writing ≡ Ok fid → (b : Bool) → nat_lt FILE_BYTES_MAX (from + len) ≡ b → LockIs tree host user label place writing from len
      by_size fileset e fid t true b = RefusesLock TooBig
          (idles (Ok fileset) e ∙ ap (λ (x : Result Fid Refusal). reply_for (and_then x (λ fid. tail (λ fid. false) (λ fid. false) (nat_lt FILE_BYTES_MAX (from + len)) fid))) t ∙ ap (λ (c : Bool). reply_for (tail (λ fid. false) (λ fid. false) c fid)) b)
          (its (Ok fileset) e ∙ ap (λ (x : Result Fid Refusal). reply_for (and_then x (λ fid. tail own excluded (nat_lt FILE_BYTES_MAX (from + len)) fid))) t ∙ ap (λ (c : Bool). reply_for (tail own excluded c fid)) b)
      by_size fileset e fid t false b = WantsLock fid
          (lock_wanted (Ok fileset) e
          ∙ ap (λ (x : Result Fid Refusal). want_for (and_then x (λ fid. unless (nat_lt FILE_BYTES_MAX (from + len)) TooBig (let found : Result Fid Refusal = Ok fid in found))) (λ fid. let need : Need = record { fid = fid; kind = LockKind writing span } in need ∷ [])) t
          ∙ ap (λ (c : Bool). want_for (unless c TooBig (let found : Result Fid Refusal = Ok fid in found)) (λ fid. let need : Need = record { fid = fid; kind = LockKind writing span } in need ∷ [])) b)
          (idles (Ok fileset) e ∙ ap (λ (x : Result Fid Refusal). reply_for (and_then x (λ fid. tail (λ fid. false) (λ fid. false) (nat_lt FILE_BYTES_MAX (from + len)) fid))) t ∙ ap (λ (c : Bool). reply_for (tail (λ fid. false) (λ fid. false) c fid)) b)
          (its (Ok fileset) e ∙ ap (λ (x : Result Fid Refusal). reply_for (and_then x (λ fid. tail own excluded (nat_lt FILE_BYTES_MAX (from + len)) fid))) t ∙ ap (λ (c : Bool). reply_for (tail own excluded c fid)) b ∙ ways (own fid) (excluded fid) fid)

      by_target : (fileset : Fileset) → fileset_named tree place.server place.fileset ≡ Ok fileset → (t : Result Fid Refusal) → lock_target fileset user place.path writing ≡ t → LockIs tree host user label place writing from len
      by_target fileset e (Err refusal) t = RefusesLock refusal
          (idles (Ok fileset) e ∙ ap (λ (x : Result Fid Refusal). reply_for (and_then x (λ fid. tail (λ fid. false) (λ fid. false) (nat_lt FILE_BYTES_MAX (from + len)) fid))) t)
          (its (Ok fileset) e ∙ ap (λ (x : Result Fid Refusal). reply_for (and_then x (λ fid. tail own excluded (nat_lt FILE_BYTES_MAX (from + len)) fid))) t)
      by_target fileset e (Ok fid) t = by_size fileset e fid t (nat_lt FILE_BYTES_MAX (from + len)) refl

      by_found : (found : Result Fileset Refusal) → fileset_named tree place.server place.fileset ≡ found → LockIs tree host user label place writing from len
      by_found (Err refusal) e = RefusesLock refusal (idles (Err refusal) e) (its (Err refusal) e)
      by_found (Ok fileset) e = by_target fileset e (lock_target fileset user place.path writing) refl

pub locks_mind_uses : LocksMindUses
locks_mind_uses tree host user label place writing from len acts free few = lock_mind tree host user label place writing from len acts free few

-- OpenFile
module _ (tree : Tree) (host : HostId) (user : User) (label : List ℕ) (place : Place) (kind : OpenKind) (acts : user_of tree.roster host ≡ Some user) where
  abbrev barred : Fid → Bool
  barred fid = is_barred tree.opens host fid kind

  abbrev onward : (Fid → Bool) → Result Fileset Refusal → Result Fid Refusal
  onward bars found = and_then found (λ fileset. and_then (open_target fileset user place.path kind) (λ fid. unless (bars fid) OpenConflict (Ok fid)))

  open_reply : has_open tree.opens host label ≡ false → nat_le LABELS_MAX (open_count tree.opens host) ≡ false →
      (answer_to tree host (OpenFile label place kind)).reply ≡ reply_for (onward (λ fid. is_barred tree.opens host fid kind) (fileset_named tree place.server place.fileset))
  unfolding answer_for open_answer open_check
  open_reply free few =
      ap (λ (x : Answer). x.reply) (for_its tree host user acts (OpenFile label place kind))
      ∙ replied tree (open_check tree host user label place kind) _
      ∙ ap (λ (t : Bool). reply_for (unless t AlreadyOpened (unless (nat_le LABELS_MAX (open_count tree.opens host)) TooMany (onward (λ fid. is_barred tree.opens host fid kind) (fileset_named tree place.server place.fileset))))) free
      ∙ ap (λ (t : Bool). reply_for (unless t TooMany (onward (λ fid. is_barred tree.opens host fid kind) (fileset_named tree place.server place.fileset)))) few

  idle_open : (answer_to (idle tree) host (OpenFile label place kind)).reply ≡ reply_for (onward (λ fid. false) (fileset_named tree place.server place.fileset))
  unfolding answer_for open_answer open_check fileset_named
  idle_open = ap (λ (x : Answer). x.reply) (for_idle tree host user acts (OpenFile label place kind)) ∙ replied (idle tree) (open_check (idle tree) host user label place kind) _

  open_wanted : (found : Result Fileset Refusal) → fileset_named tree place.server place.fileset ≡ found → want tree user (OpenFile label place kind) ≡ want_for found (λ fileset. want_in fileset user (OpenFile label place kind))
  unfolding want
  open_wanted found e = ap (λ (f : Result Fileset Refusal). want_for f (λ fileset. want_in fileset user (OpenFile label place kind))) e

  pub open_mind : has_open tree.opens host label ≡ false → nat_le LABELS_MAX (open_count tree.opens host) ≡ false → OpenIs tree host user label place kind
  unfolding want_in
  open_mind free few = by_found (fileset_named tree place.server place.fileset) refl
    where
      its : (found : Result Fileset Refusal) → fileset_named tree place.server place.fileset ≡ found → (answer_to tree host (OpenFile label place kind)).reply ≡ reply_for (onward barred found)
      its found e = open_reply free few ∙ ap (λ (f : Result Fileset Refusal). reply_for (onward barred f)) e

      idles : (found : Result Fileset Refusal) → fileset_named tree place.server place.fileset ≡ found → (answer_to (idle tree) host (OpenFile label place kind)).reply ≡ reply_for (onward (λ fid. false) found)
      idles found e = idle_open ∙ ap (λ (f : Result Fileset Refusal). reply_for (onward (λ fid. false) f)) e

      ways : (b : Bool) (fid : Fid) → reply_for (unless b OpenConflict (let found : Result Fid Refusal = Ok fid in found)) ≡ (if b then Refused OpenConflict else Done)
      ways true fid = refl
      ways false fid = refl

      by_target : (fileset : Fileset) → fileset_named tree place.server place.fileset ≡ Ok fileset → (t : Result Fid Refusal) → open_target fileset user place.path kind ≡ t → OpenIs tree host user label place kind
      by_target fileset e (Err refusal) t = RefusesOpen refusal
          (idles (Ok fileset) e ∙ ap (λ (x : Result Fid Refusal). reply_for (and_then x (λ fid. let found : Result Fid Refusal = Ok fid in found))) t)
          (its (Ok fileset) e ∙ ap (λ (x : Result Fid Refusal). reply_for (and_then x (λ fid. unless (barred fid) OpenConflict (let found : Result Fid Refusal = Ok fid in found)))) t)
      by_target fileset e (Ok fid) t = WantsOpen fid
          (open_wanted (Ok fileset) e ∙ ap (λ (x : Result Fid Refusal). want_for x (λ fid. let need : Need = record { fid = fid; kind = Opening kind } in need ∷ [])) t)
          (idles (Ok fileset) e ∙ ap (λ (x : Result Fid Refusal). reply_for (and_then x (λ fid. let found : Result Fid Refusal = Ok fid in found))) t)
          (its (Ok fileset) e ∙ ap (λ (x : Result Fid Refusal). reply_for (and_then x (λ fid. unless (barred fid) OpenConflict (let found : Result Fid Refusal = Ok fid in found)))) t ∙ ways (barred fid) fid)

      by_found : (found : Result Fileset Refusal) → fileset_named tree place.server place.fileset ≡ found → OpenIs tree host user label place kind
      by_found (Err refusal) e = RefusesOpen refusal (idles (Err refusal) e) (its (Err refusal) e)
      by_found (Ok fileset) e = by_target fileset e (open_target fileset user place.path kind) refl

pub opens_mind_uses : OpensMindUses
opens_mind_uses tree host user label place kind acts free few = open_mind tree host user label place kind acts free few
