-- What a store replies, and what the rules reply.
use Rattle.std.proofs.Common.{◌≡◌, ℕ, zero, suc, ◌+◌, ◌<◌, nat_lt, Bool, true, false, ◌&&◌, ◌||◌, not, cond, List, [], ◌∷◌, length, Option, Some, None, Result, Ok, Err, refl, sym, ap, ◌∙◌, subst, arith, inl, inr}
use Rattle.std.specs.Prelude.{slice_get, if◌then◌else◌, option_and_then}
use Rattle.std.specs.List.{find, list_any, position, prefix_len}
use Rattle.std.specs.Option.{option_map_or}
use Rattle.std.proofs.lemmas.Grind.{common_steps}
use Rattle.base_types.specs.Outcomes.{and_then, either}
use Rattle.base_types.specs.declared.ids.Fid.{Fid}
use Rattle.base_types.specs.declared.ids.HostId.{HostId}
use Rattle.base_types.specs.declared.ids.ServerId.{ServerId}
use Rattle.base_types.specs.declared.limits.TheConstants.{FILE_BYTES_MAX}
use Rattle.base_types.specs.declared.span.Span.{Span}
use Rattle.base_types.specs.declared.user.User.{User}
use Rattle.tree_calls.specs.Rosters.{user_of}
use Rattle.tree_calls.specs.declared.call.Call.{Call}
use Rattle.tree_calls.specs.declared.call.Call.TheVariants.{
  NewFileset,
  Create,
  MakeDir,
  Remove,
  Rename,
  Truncate,
  SetAcl,
  CloneFileset,
  Read,
  Write,
  List as ListNames,
  Stat,
  GetAcl,
  Sync,
  Lock,
  Unlock,
  OpenFile,
  CloseFile,
  MoveFileset,
}
use Rattle.base_types.specs.declared.ids.OpenKind.{OpenKind}
use Rattle.tree_calls.specs.declared.place.Place.{Place}
use Rattle.tree_calls.specs.declared.reply.Refusal.{Refusal}
use Rattle.tree_calls.specs.declared.reply.Refusal.TheVariants.{CrossFileset, Denied, NoFileset, NotHome, TooBig}
use Rattle.tree_calls.specs.declared.reply.Reply.TheVariants.{Ok as Accepted}
use Rattle.tree_objects.specs.Spans.{span_between}
use Rattle.tree_filesets.specs.Answers.{Answered}
use Rattle.tree_filesets.specs.Checks.{unless}
use Rattle.tree_filesets.specs.Rows.{fileset_answer}
use Rattle.tree_filesets.specs.Uses.{lock_target, open_target}
use Rattle.tree_filesets.specs.declared.fileset.Fileset.{Fileset}
use Rattle.tree_filesets.proofs.Observations.{get_within}
use Rattle.tree_answers.specs.Answers.{answer_at, answer_for as tree_answer_for, answer_to as tree_answer, deciding_place, fileset_row, for_user}
use Rattle.tree_answers.specs.Away.{away_id, is_away_named}
use Rattle.tree_answers.specs.Finding.{Answer as TreeAnswer, fileset_named, fileset_place, found_or, has_this_id, is_here as has_here, is_named as is_named_at, is_taken, leads_to, refuse as tree_refuse}
use Rattle.tree_answers.specs.Founding.{clone_answer as tree_clone, clone_source, clone_target as tree_clone_target, new_fileset_answer as tree_new}
use Rattle.tree_answers.specs.Locks.{lock_answer, lock_check as tree_lock_check, unlock_answer, with_lock}
use Rattle.tree_answers.specs.Opens.{close_answer, open_answer, open_check as tree_open_check, with_open}
use Rattle.tree_answers.specs.Uses.{is_used}
use Rattle.tree_answers.specs.declared.tree.Away.{Away}
use Rattle.tree_answers.specs.declared.tree.Tree.{Tree}
use Rattle.tree_answers.proofs.Places.{found_by_id, place_found}
use Rattle.need_laws.specs.Known.{IsAt}
use Rattle.store_laws.specs.Founds.{FoundAlike}
use Rattle.store_laws.proofs.Founds.{stores_found_as_trees}
use Rattle.store_state.specs.Founding.{clone_answer, clone_target, new_fileset_answer, source_named, why_absent}
use Rattle.store_state.specs.Outcomes.{Answer, refuse}
use Rattle.store_state.specs.Rows.{answer_for as store_answer_for, answer_to as store_answer, fileset_here, held_reply, lock_check, named_row, nothing_used, open_check, rename_row, same_fileset, use_of}
use Rattle.store_state.specs.Sought.{is_named}
use Rattle.store_state.specs.State.{held_at, held_so, is_gone_as, is_here, is_gone, is_here_as, is_used_so}
use Rattle.store_state.specs.declared.state.Holding.{Holding}
use Rattle.store_state.specs.declared.state.Stay.{Stay}
use Rattle.store_state.specs.declared.state.StoreState.{StoreState}
use Rattle.store_laws.proofs.Called.{led_name}
use Rattle.store_laws.proofs.Exact.{have_room}
use Rattle.store_laws.proofs.KeptRows.{named_slot}
use Rattle.store_laws.proofs.Slots.{found_is}
use Rattle.store_laws.proofs.KeptSteps.{held_here}
use Rattle.run_stores.specs.Changing.{RepliesAreKept}
use Rattle.run_stores.specs.Keeping.{StandsFor}
use Rattle.run_stores.proofs.Gives.{its_own}
use Rattle.run_stores.proofs.Tells.{none_less}

-- the tree with nothing in use
abbrev bare : Tree → Tree
bare tree = record tree { locks = []; opens = [] }

-- where something is found
got_less : {X : Type 0} (xs : List X) (i : ℕ) (x : X) → slice_get xs i ≡ Some x → nat_lt i (length xs) ≡ true
got_less [] i x e = absurd (cc)
got_less (y ∷ xs) zero x e = grind (arith, common_steps)
got_less (y ∷ xs) (suc i) x e = let rest = got_less xs i x e in grind (arith, common_steps, rest)

place_some : {X : Type 0} (p : X → Bool) (xs : List X) (x : X) → find p xs ≡ Some x →
    (position p xs ≡ Some (prefix_len (λ x. not (p x)) xs)) × (slice_get xs (prefix_len (λ x. not (p x)) xs) ≡ Some x)
place_some p xs x e =
    let there = sym (place_found p xs) ∙ e in
    let less = got_less xs (prefix_len (λ x. not (p x)) xs) x there in
    (ap (λ b. cond b (Some (prefix_len (λ x. not (p x)) xs)) None) less, there)

pub place_none : {X : Type 0} (p : X → Bool) (xs : List X) → find p xs ≡ None → position p xs ≡ None
place_none {X} p xs e = by (nat_lt (prefix_len (λ x. not (p x)) xs) (length xs)) refl
  where
    by : (b : Bool) → nat_lt (prefix_len (λ x. not (p x)) xs) (length xs) ≡ b →
        cond b (Some (prefix_len (λ x. not (p x)) xs)) None ≡ None
    by true k =
        let low : prefix_len (λ x. not (p x)) xs < length xs = grind (arith, common_steps, k) in
        let (x, there) = get_within xs (prefix_len (λ x. not (p x)) xs) low in
        let clash : None ≡ Some x = sym e ∙ place_found p xs ∙ there in absurd (cc)
    by false k = refl

any_none : {X : Type 0} (p : X → Bool) (xs : List X) → list_any p xs ≡ false → find p xs ≡ None
any_none p [] h = refl
any_none {X} p (x ∷ xs) h = by (p x) h (any_none p xs)
  where
    by : (b : Bool) → (b || list_any p xs) ≡ false → (list_any p xs ≡ false → find p xs ≡ None) →
        cond b (Some x) (find p xs) ≡ None
    by true k rest = absurd (cc)
    by false k rest = rest k

none_any : {X : Type 0} (p : X → Bool) (xs : List X) → find p xs ≡ None → list_any p xs ≡ false
none_any p [] h = refl
none_any {X} p (x ∷ xs) h = by (p x) h (none_any p xs)
  where
    by : (b : Bool) → cond b (Some x) (find p xs) ≡ None → (find p xs ≡ None → list_any p xs ≡ false) →
        (b || list_any p xs) ≡ false
    by true k rest = absurd (cc)
    by false k rest = rest k

any_less : {X : Type 0} (p q : X → Bool) → ((x : X) → p x ≡ false → q x ≡ false) → (xs : List X) →
    list_any p xs ≡ false → list_any q xs ≡ false
any_less p q k xs h = none_any q xs (none_less p q k xs (any_none p xs h))

-- A name is sought in a server's tree, and in its store.
pub data Sought (tree : Tree) (state : StoreState) (name : List ℕ) : Type 0 where
  Here : (place : ℕ) (fileset : Fileset) (holding : Holding)
      → position (leads_to tree state.server name) tree.filesets ≡ Some place
      → slice_get tree.filesets place ≡ Some fileset
      → find (leads_to tree state.server name) tree.filesets ≡ Some fileset
      → fileset.server ≡ state.server
      → held_so (is_here_as name) state.slots ≡ Some holding → holding.fileset ≡ fileset → Sought tree state name
  Nowhere : position (leads_to tree state.server name) tree.filesets ≡ None
      → find (leads_to tree state.server name) tree.filesets ≡ None
      → held_so (is_here_as name) state.slots ≡ None
      → list_any (is_used_so (is_gone_as name)) state.slots ≡ false → Sought tree state name

less_named : (name : List ℕ) (slot : Option Holding) → is_used_so (is_named name) slot ≡ false →
    is_used_so (is_here_as name) slot ≡ false
less_named name None e = refl
less_named name (Some holding) e = ap (λ b. is_here holding.stay && b) e ∙ none (is_here holding.stay)
  where
    none : (t : Bool) → (t && false) ≡ false
    none true = refl
    none false = refl

less_gone : (name : List ℕ) (slot : Option Holding) → is_used_so (is_named name) slot ≡ false →
    is_used_so (is_gone_as name) slot ≡ false
less_gone name None e = refl
less_gone name (Some holding) e = ap (λ b. is_gone holding.stay && b) e ∙ none (is_gone holding.stay)
  where
    none : (t : Bool) → (t && false) ≡ false
    none true = refl
    none false = refl

not_taken : (tree : Tree) (server : ServerId) (name : List ℕ) → tree.away ≡ [] →
    find (leads_to tree server name) tree.filesets ≡ None → is_taken tree server name ≡ false
not_taken tree server name unmoved none =
    ap (λ (l : List Away). has_here tree.filesets server name || list_any (is_away_named server name) l) unmoved
    ∙ by (has_here tree.filesets server name) refl none
  where
    by : (b : Bool) → has_here tree.filesets server name ≡ b →
        find (leads_to tree server name) tree.filesets ≡ None → (b || false) ≡ false
    by true e h =
        let at : find (is_named_at server name) tree.filesets ≡ None =
        sym (ap (λ b. find (if b then is_named_at server name else has_this_id (away_id tree.away server name))
        tree.filesets) e) ∙ h in
        let no = none_any (is_named_at server name) tree.filesets at in
        let clash : true ≡ false = sym e ∙ no in absurd (cc)
    by false e h = refl

pub sought : (tree : Tree) (state : StoreState) (name : List ℕ) → StandsFor tree state → Sought tree state name
sought tree state name s = by (find (leads_to tree state.server name) tree.filesets) refl
  where
    by : (found : Option Fileset) → find (leads_to tree state.server name) tree.filesets ≡ found →
        Sought tree state name
    by None e =
        let taken = not_taken tree state.server name s.is_of.unmoved e in
        let room = have_room tree state s.formed s.keeps in
        let none : list_any (is_used_so (is_named name)) state.slots ≡ false = sym (room.names name) ∙ taken in
        Nowhere (place_none (leads_to tree state.server name) tree.filesets e) e
        (found_is (is_here_as name) state.slots ∙ ap (option_and_then (λ slot. slot))
        (none_less (is_used_so (is_named name)) (is_used_so (is_here_as name)) (less_named name) state.slots
        (any_none (is_used_so (is_named name)) state.slots none)))
        (any_less (is_used_so (is_named name)) (is_used_so (is_gone_as name)) (less_gone name) state.slots none)
    by (Some fileset) e =
        let (at, there) = place_some (leads_to tree state.server name) tree.filesets fileset e in
        let known = found_by_id (leads_to tree state.server name) tree.filesets fileset e s.formed.ordered in
        let own = its_own state.server tree fileset.id fileset s.is_of known in
        let (holding, h) = held_here tree state fileset s.keeps known own in
        let named = led_name tree state.server name fileset s.formed e in
        let slot = named_slot state fileset holding name s.keeps.storable h named in
        Here _ fileset holding at there e own (ap (held_at state.slots) slot ∙ h.held) h.same

-- a call that one fileset decides
unused_is : (fid : Fid) → is_used [] [] fid ≡ nothing_used fid
unused_is fid = refl

row_reply : (tree : Tree) (state : StoreState) (host : HostId) (user : User) (call : Call) (name : List ℕ) →
    Sought (bare tree) state name →
    deciding_place (bare tree) call ≡ fileset_place (bare tree) state.server name →
    held_reply host user call (held_so (is_here_as name) state.slots)
    ≡ (fileset_row (bare tree) host user call).reply
unfolding fileset_row fileset_place
row_reply tree state host user call name (Here place fileset holding at there led own held same) decides =
    ap (held_reply host user call) held
    ∙ ap (λ (f : Fileset). (fileset_answer f nothing_used host user call).reply) same
    ∙ sym (ap (λ r. (either r (λ place. answer_at (bare tree) place (slice_get tree.filesets place) ask)
    (tree_refuse (bare tree))).reply) (decides ∙ ap (λ o. found_or o NoFileset) at)
    ∙ ap (λ o. (answer_at (bare tree) place o ask).reply) there
    ∙ ap (λ used. (fileset_answer fileset used host user call).reply) (λ i fid. unused_is fid i))
  where
    ask : Fileset → Answered
    ask f = fileset_answer f (is_used [] []) host user call
row_reply tree state host user call name (Nowhere at led held gone) decides =
    ap (held_reply host user call) held
    ∙ sym (ap (λ r. (either r (λ place. answer_at (bare tree) place (slice_get tree.filesets place) ask)
    (tree_refuse (bare tree))).reply) (decides ∙ ap (λ o. found_or o NoFileset) at))
  where
    ask : Fileset → Answered
    ask f = fileset_answer f (is_used [] []) host user call

-- Rename
abbrev one_fileset : Bool → Result (Unit {0}) Refusal
one_fileset same = unless (not same) CrossFileset (Ok tt)

rename_reply : (tree : Tree) (state : StoreState) (host : HostId) (user : User) (from to : Place) →
    Sought (bare tree) state from.fileset → from.server ≡ state.server →
    (rename_row state host user from to).reply ≡ (fileset_row (bare tree) host user (Rename from to)).reply
unfolding rename_row named_row fileset_row fileset_place
rename_reply tree state host user from to (Here place fileset holding at there led own held same) its =
    ap (λ r. (either (and_then r (λ f. one_fileset (same_fileset from to)))
    (λ _. named_row state from.fileset host user (Rename from to)) (refuse state)).reply) here
    ∙ by (same_fileset from to)
    ∙ sym (ap (λ r. (either (and_then r (λ place. unless (not (same_fileset from to)) CrossFileset (Ok place)))
    (λ place. answer_at (bare tree) place (slice_get tree.filesets place) ask) (tree_refuse (bare tree))).reply) place_is)
  where
    ask : Fileset → Answered
    ask f = fileset_answer f (is_used [] []) host user (Rename from to)

    here : fileset_here state from.fileset ≡ Ok holding.fileset
    here = ap (λ o. option_map_or (λ (h : Holding). Ok h.fileset) o (Err NoFileset)) held

    place_is : fileset_place (bare tree) from.server from.fileset ≡ Ok place
    place_is = ap (λ s. fileset_place (bare tree) s from.fileset) its ∙ ap (λ o. found_or o NoFileset) at

    by : (b : Bool) →
        (either (one_fileset b)
        (λ _. named_row state from.fileset host user (Rename from to)) (refuse state)).reply
        ≡ (either (unless (not b) CrossFileset (Ok place))
        (λ place. answer_at (bare tree) place (slice_get tree.filesets place) ask) (tree_refuse (bare tree))).reply
    by true =
        ap (held_reply host user (Rename from to)) held
        ∙ ap (λ (f : Fileset). (fileset_answer f nothing_used host user (Rename from to)).reply) same
        ∙ sym (ap (λ o. (answer_at (bare tree) place o ask).reply) there
        ∙ ap (λ used. (fileset_answer fileset used host user (Rename from to)).reply) (λ i fid. unused_is fid i))
    by false = refl
rename_reply tree state host user from to (Nowhere at led held gone) its =
    ap (λ r. (either (and_then r (λ f. one_fileset (same_fileset from to)))
    (λ _. named_row state from.fileset host user (Rename from to)) (refuse state)).reply) here
    ∙ sym (ap (λ r. (either (and_then r (λ place. unless (not (same_fileset from to)) CrossFileset (Ok place)))
    (λ place. answer_at (bare tree) place (slice_get tree.filesets place) ask) (tree_refuse (bare tree))).reply) place_is)
  where
    ask : Fileset → Answered
    ask f = fileset_answer f (is_used [] []) host user (Rename from to)

    here : fileset_here state from.fileset ≡ Err NoFileset
    here = ap (λ o. option_map_or (λ (h : Holding). Ok h.fileset) o (Err NoFileset)) held

    place_is : fileset_place (bare tree) from.server from.fileset ≡ Err NoFileset
    place_is = ap (λ s. fileset_place (bare tree) s from.fileset) its ∙ ap (λ o. found_or o NoFileset) at

-- the fileset of a name, in both
both_found : (tree : Tree) (state : StoreState) (name : List ℕ) (server : ServerId) → Sought (bare tree) state name →
    server ≡ state.server → fileset_here state name ≡ fileset_named (bare tree) server name
unfolding fileset_named
both_found tree state name server (Here place fileset holding at there led own held same) its =
    ap (λ o. option_map_or (λ (h : Holding). Ok h.fileset) o (Err NoFileset)) held
    ∙ ap (λ (f : Fileset). let r : Result Fileset Refusal = Ok f in r) same
    ∙ sym (ap (λ s. found_or (find (leads_to (bare tree) s name) tree.filesets) NoFileset) its
    ∙ ap (λ o. found_or o NoFileset) led)
both_found tree state name server (Nowhere at led held gone) its =
    ap (λ o. option_map_or (λ (h : Holding). Ok h.fileset) o (Err NoFileset)) held
    ∙ sym (ap (λ s. found_or (find (leads_to (bare tree) s name) tree.filesets) NoFileset) its
    ∙ ap (λ o. found_or o NoFileset) led)

-- Lock
lock_reply : (tree : Tree) (state : StoreState) (host : HostId) (user : User) (label : List ℕ) (place : Place)
    (writing : Bool) (from len : ℕ) → Sought (bare tree) state place.fileset → place.server ≡ state.server →
    use_of (lock_check state user place writing (from + len))
    ≡ (lock_answer (bare tree) host user label place writing from len).reply
unfolding lock_check lock_answer tree_lock_check
lock_reply tree state host user label place writing from len found its =
    ap (λ r. use_of (and_then r (λ fileset. and_then (lock_target fileset user place.path writing) (λ fid.
    unless (nat_lt FILE_BYTES_MAX (from + len)) TooBig (Ok fid)))))
    (both_found tree state place.fileset place.server found its)
    ∙ by (fileset_named (bare tree) place.server place.fileset)
  where
    ends : (x : Result Fid Refusal) (b : Bool) (span : Span) →
        use_of (and_then x (λ fid. unless b TooBig (Ok fid)))
        ≡ (either (and_then x (λ fid. unless b TooBig (Ok (fid, span))))
        (λ (fid, span). (let a : TreeAnswer = record {
          reply = Accepted;
          tree = with_lock (bare tree)
              (record { host = host; label = label; fid = fid; writing = writing; span = span });
        } in a)) (tree_refuse (bare tree))).reply
    ends (Ok fid) true span = refl
    ends (Ok fid) false span = refl
    ends (Err e) b span = refl

    by : (r : Result Fileset Refusal) →
        use_of (and_then r (λ fileset. and_then (lock_target fileset user place.path writing) (λ fid.
        unless (nat_lt FILE_BYTES_MAX (from + len)) TooBig (Ok fid))))
        ≡ (either (and_then r (λ fileset. and_then (lock_target fileset user place.path writing) (λ fid.
        unless (nat_lt FILE_BYTES_MAX (from + len)) TooBig (Ok (fid, span_between from (from + len))))))
        (λ (fid, span). (let a : TreeAnswer = record {
          reply = Accepted;
          tree = with_lock (bare tree)
              (record { host = host; label = label; fid = fid; writing = writing; span = span });
        } in a)) (tree_refuse (bare tree))).reply
    by (Ok fileset) =
        ends (lock_target fileset user place.path writing) (nat_lt FILE_BYTES_MAX (from + len))
        (span_between from (from + len))
    by (Err e) = refl

-- OpenFile
open_reply : (tree : Tree) (state : StoreState) (host : HostId) (user : User) (label : List ℕ) (place : Place)
    (kind : OpenKind) → Sought (bare tree) state place.fileset → place.server ≡ state.server →
    use_of (open_check state user place kind) ≡ (open_answer (bare tree) host user label place kind).reply
unfolding open_check open_answer tree_open_check
open_reply tree state host user label place kind found its =
    ap (λ r. use_of (and_then r (λ fileset. open_target fileset user place.path kind)))
    (both_found tree state place.fileset place.server found its)
    ∙ by (fileset_named (bare tree) place.server place.fileset)
  where
    ends : (x : Result Fid Refusal) → use_of x
        ≡ (either (and_then x (λ fid. Ok fid))
        (λ fid. (let a : TreeAnswer = record {
          reply = Accepted;
          tree = with_open (bare tree) (record { host = host; label = label; fid = fid; kind = kind });
        } in a)) (tree_refuse (bare tree))).reply
    ends (Ok fid) = refl
    ends (Err e) = refl

    by : (r : Result Fileset Refusal) →
        use_of (and_then r (λ fileset. open_target fileset user place.path kind))
        ≡ (either (and_then r (λ fileset. and_then (open_target fileset user place.path kind) (λ fid. Ok fid)))
        (λ fid. (let a : TreeAnswer = record {
          reply = Accepted;
          tree = with_open (bare tree) (record { host = host; label = label; fid = fid; kind = kind });
        } in a)) (tree_refuse (bare tree))).reply
    by (Ok fileset) = ends (open_target fileset user place.path kind)
    by (Err e) = refl

-- both make a fileset, or both refuse it
alike_reply : {tree : Tree} {state : StoreState} {stay : Stay} {fileset : Fileset} (kept : Answer) (told : TreeAnswer) →
    FoundAlike tree state stay fileset kept told → kept.reply ≡ told.reply
alike_reply kept told (inl both) = ap (λ (a : Answer). a.reply) both.in_store ∙ sym (ap (λ (a : TreeAnswer). a.reply) both.in_tree)
alike_reply kept told (inr (refusal, both)) =
    ap (λ (a : Answer). a.reply) both.in_store ∙ sym (ap (λ (a : TreeAnswer). a.reply) both.in_tree)

new_reply : (tree : Tree) (state : StoreState) (server : ServerId) (name : List ℕ) (objects : ℕ) (owner : User) →
    StandsFor tree state → server ≡ state.server →
    (new_fileset_answer state name objects owner).reply ≡ (tree_new tree server name objects owner).reply
new_reply tree state server name objects owner s its =
    alike_reply (new_fileset_answer state name objects owner) (tree_new tree state.server name objects owner)
    (stores_found_as_trees.made tree state name objects owner (have_room tree state s.formed s.keeps))
    ∙ sym (ap (λ v. (tree_new tree v name objects owner).reply) its)

clone_none : (tree : Tree) (state : StoreState) (user : User) (source new : List ℕ) →
    source_named state source ≡ Err NoFileset → fileset_named tree state.server source ≡ Err NoFileset →
    (clone_answer state user source new).reply ≡ (tree_clone tree user state.server source new).reply
unfolding clone_answer clone_target tree_clone tree_clone_target clone_source
clone_none tree state user source new e f = rw e (rw f refl)

clone_reply : (tree : Tree) (state : StoreState) (user : User) (server : ServerId) (source new : List ℕ) →
    StandsFor tree state → Sought tree state source → server ≡ state.server →
    (clone_answer state user source new).reply ≡ (tree_clone tree user server source new).reply
unfolding fileset_named
clone_reply tree state user server source new s (Here place fileset holding at there led own held same) its =
    alike_reply (clone_answer state user source new) (tree_clone tree user state.server source new)
    (stores_found_as_trees.copied tree state user source new fileset (have_room tree state s.formed s.keeps)
    (ap (λ o. option_map_or (λ (h : Holding). Ok h.fileset) o (Err (why_absent state source))) held
    ∙ ap (λ (f : Fileset). let r : Result Fileset Refusal = Ok f in r) same)
    (ap (λ o. found_or o NoFileset) led) own)
    ∙ sym (ap (λ v. (tree_clone tree user v source new).reply) its)
clone_reply tree state user server source new s (Nowhere at led held gone) its =
    clone_none tree state user source new none_here none_named
    ∙ sym (ap (λ v. (tree_clone tree user v source new).reply) its)
  where
    none_here : source_named state source ≡ Err NoFileset
    none_here = ap (λ o. option_map_or (λ (h : Holding). Ok h.fileset) o (Err (why_absent state source))) held
        ∙ ap (λ b. let r : Result Fileset Refusal = Err (if b then NotHome else NoFileset) in r) gone

    none_named : fileset_named tree state.server source ≡ Err NoFileset
    none_named = ap (λ o. found_or o NoFileset) led

-- each call
reply_for : (tree : Tree) (state : StoreState) (host : HostId) (user : User) (call : Call) →
    StandsFor (bare tree) state → IsAt state.server call →
    (store_answer_for state host call user).reply ≡ (tree_answer_for (bare tree) host call user).reply
unfolding store_answer_for tree_answer_for named_row unlock_answer close_answer
reply_for tree state host user (NewFileset at name objects owner) s own =
    new_reply (bare tree) state at name objects owner s own
reply_for tree state host user (CloneFileset at source new) s own =
    clone_reply (bare tree) state user at source new s (sought (bare tree) state source s) own
reply_for tree state host user (Create place) s own =
    row_reply tree state host user (Create place) place.fileset (sought (bare tree) state place.fileset s)
    (ap (λ v. fileset_place (bare tree) v place.fileset) own)
reply_for tree state host user (MakeDir place) s own =
    row_reply tree state host user (MakeDir place) place.fileset (sought (bare tree) state place.fileset s)
    (ap (λ v. fileset_place (bare tree) v place.fileset) own)
reply_for tree state host user (Remove place) s own =
    row_reply tree state host user (Remove place) place.fileset (sought (bare tree) state place.fileset s)
    (ap (λ v. fileset_place (bare tree) v place.fileset) own)
reply_for tree state host user (Rename from to) s own =
    rename_reply tree state host user from to (sought (bare tree) state from.fileset s) own
reply_for tree state host user (Truncate place len) s own =
    row_reply tree state host user (Truncate place len) place.fileset (sought (bare tree) state place.fileset s)
    (ap (λ v. fileset_place (bare tree) v place.fileset) own)
reply_for tree state host user (SetAcl place which list) s own =
    row_reply tree state host user (SetAcl place which list) place.fileset (sought (bare tree) state place.fileset s)
    (ap (λ v. fileset_place (bare tree) v place.fileset) own)
reply_for tree state host user (Read place from len) s own =
    row_reply tree state host user (Read place from len) place.fileset (sought (bare tree) state place.fileset s)
    (ap (λ v. fileset_place (bare tree) v place.fileset) own)
reply_for tree state host user (Write place from bytes) s own =
    row_reply tree state host user (Write place from bytes) place.fileset (sought (bare tree) state place.fileset s)
    (ap (λ v. fileset_place (bare tree) v place.fileset) own)
reply_for tree state host user (ListNames place) s own =
    row_reply tree state host user (ListNames place) place.fileset (sought (bare tree) state place.fileset s)
    (ap (λ v. fileset_place (bare tree) v place.fileset) own)
reply_for tree state host user (Stat place) s own =
    row_reply tree state host user (Stat place) place.fileset (sought (bare tree) state place.fileset s)
    (ap (λ v. fileset_place (bare tree) v place.fileset) own)
reply_for tree state host user (GetAcl place which) s own =
    row_reply tree state host user (GetAcl place which) place.fileset (sought (bare tree) state place.fileset s)
    (ap (λ v. fileset_place (bare tree) v place.fileset) own)
reply_for tree state host user (Sync place) s own =
    row_reply tree state host user (Sync place) place.fileset (sought (bare tree) state place.fileset s)
    (ap (λ v. fileset_place (bare tree) v place.fileset) own)
reply_for tree state host user (Lock label place writing from len) s own =
    lock_reply tree state host user label place writing from len (sought (bare tree) state place.fileset s) own
reply_for tree state host user (OpenFile label place kind) s own =
    open_reply tree state host user label place kind (sought (bare tree) state place.fileset s) own
reply_for tree state host user (Unlock label) s own = refl
reply_for tree state host user (CloseFile label) s own = refl
reply_for tree state host user (MoveFileset server name to) s own = absurd own

reply_bare : (tree : Tree) (state : StoreState) (host : HostId) (call : Call) → StandsFor (bare tree) state →
    IsAt state.server call → (store_answer state host call).reply ≡ (tree_answer (bare tree) host call).reply
unfolding store_answer tree_answer
reply_bare tree state host call s own =
    ap (λ r. (option_map_or (store_answer_for state host call) (user_of r host) (refuse state (Denied 0))).reply)
    s.keeps.roster
    ∙ by (user_of tree.roster host)
  where
    by : (found : Option User) →
        (option_map_or (store_answer_for state host call) found (refuse state (Denied 0))).reply
        ≡ (for_user (bare tree) found (tree_answer_for (bare tree) host call)).reply
    by None = refl
    by (Some user) = reply_for tree state host user call s own

pub replies_are_kept : RepliesAreKept
replies_are_kept tree state host call s own =
    let same : tree ≡ bare tree = λ i. record tree { locks = s.is_of.locks i; opens = s.is_of.opens i } in
    reply_bare tree state host call (subst (λ t. StandsFor t state) same s) own
    ∙ sym (ap (λ t. (tree_answer t host call).reply) same)
