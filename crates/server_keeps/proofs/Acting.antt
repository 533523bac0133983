-- The store of a server keeps what the server keeps while a step is made.
use Rattle.std.proofs.Common.{List, None, Option, Some, [], ap, false, refl, subst, sym, true, ℕ, ◌+◌, ◌++◌, ◌<◌}
use Rattle.std.proofs.Common.{◌∙◌, ◌≡◌, ◌∷◌, arith}
use Rattle.std.specs.List.{fold}
use Rattle.std.specs.Option.{option_map_or}
use Rattle.std.specs.Prelude.{if◌then◌else◌}
use Rattle.base_types.specs.declared.ids.FilesetId.{FilesetId}
use Rattle.base_types.specs.declared.ids.HostId.{HostId}
use Rattle.base_types.specs.declared.ids.ServerId.{ServerId}
use Rattle.base_types.specs.declared.user.User.{User}
use Rattle.tree_calls.specs.Rosters.{user_of}
use Rattle.tree_calls.specs.declared.call.Call.{Call}
use Rattle.tree_calls.specs.declared.call.Call.TheVariants.{CloneFileset, CloseFile, Create, GetAcl, List as ListNames}
use Rattle.tree_calls.specs.declared.call.Call.TheVariants.{Lock, MakeDir, MoveFileset, NewFileset, OpenFile, Read}
use Rattle.tree_calls.specs.declared.call.Call.TheVariants.{Remove, Rename, SetAcl, Stat, Sync, Truncate, Unlock, Write}
use Rattle.tree_calls.specs.declared.reply.Reply.TheVariants.{Ok as Accepted}
use Rattle.tree_calls.specs.declared.ship.Record.{Record}
use Rattle.tree_answers.specs.Answers.{answer_to}
use Rattle.tree_answers.specs.Finding.{fileset_named, fileset_place}
use Rattle.tree_answers.specs.declared.tree.Tree.{Tree}
use Rattle.need_host.specs.Questions.{fileset_of}
use Rattle.need_laws.specs.Known.{IsAt}
use Rattle.store_acts.specs.Acts.{act_done}
use Rattle.store_acts.specs.declared.act.Act.TheVariants.{Do, Give}
use Rattle.store_laws.proofs.HistoryRows.{found_to, row_to}
use Rattle.store_laws.specs.Calls.{IsNewChange}
use Rattle.store_memory.specs.Reading.{last_of}
use Rattle.store_state.specs.Outcomes.{now_done}
use Rattle.store_state.specs.Rows.{found_named, itself, numbered_id, numbered_name}
use Rattle.store_state.specs.State.{record_of}
use Rattle.store_state.specs.declared.state.StoreState.{StoreState}
use Rattle.run_history.proofs.Refusing.{for_none}
use Rattle.run_rules.specs.Kept.{filesets_after, filesets_through, is_refusal, tree_given}
use Rattle.run_rules.specs.ServerDecides.{kept_reply}
use Rattle.run_rules.specs.declared.applied.Applied.{Applied}
use Rattle.run_rules.specs.declared.applied.Applied.TheVariants.{Done, IsDown, Moves as IsMoved, Replied, Stored, Wants}
use Rattle.run_rules.specs.declared.applied.Written.{Written}
use Rattle.run_rules.specs.declared.step.Cause.{Cause}
use Rattle.run_stores.proofs.Changes.{changes_are_kept, refusal_is}
use Rattle.run_stores.proofs.Stands.{acts_stand}
use Rattle.run_stores.specs.Keeping.{StandsFor}
use Rattle.server_keeps.specs.Acting.{DraftsStand, KeepsSo, MayDo, leaves_kept}
use Rattle.server_keeps.proofs.Places.{Named, named, none_named}
use Rattle.server_keeps.proofs.Places.Named.{Gone, There}

-- one thing more is applied
fold_push : {A B : Type 0} (f : B → A → B) (xs : List A) (b : B) (x : A)
    → fold f b (xs ++ x ∷ []) ≡ f (fold f b xs) x
fold_push f [] b x = refl
fold_push f (y ∷ xs) b x = fold_push f xs (f b y) x

pub through_more : (cause : Cause) (applied : List Applied) (tree : Tree) (x : Applied)
    → filesets_through cause (applied ++ x ∷ []) tree ≡ filesets_after cause (filesets_through cause applied tree) x
through_more cause applied tree x = fold_push (filesets_after cause) applied tree x

keeps_more : (cause : Cause) (applied : List Applied) (tree : Tree) (x : Applied) (state : StoreState)
    → StandsFor (filesets_after cause (filesets_through cause applied tree) x) state
    → KeepsSo cause tree (applied ++ x ∷ []) state
keeps_more cause applied tree x state = subst (λ t. StandsFor t state) (sym (through_more cause applied tree x))

pub left_same : (cause : Cause) (tree : Tree) (x : Applied) → leaves_kept x ≡ true → filesets_after cause tree x ≡ tree
left_same cause tree (Done written) e =
    ap (λ b. if b then tree else (answer_to tree written.answer.host written.answer.call).tree) e
left_same cause tree (Stored host fid spans given) e = absurd (cc)
left_same cause tree (Replied answer) e = refl
left_same cause tree (IsDown host) e = refl
left_same cause tree (IsMoved move) e = refl
left_same cause tree (Wants wanted) e = refl

-- the fileset under which an accepted call is numbered
numbered_row : (tree : Tree) (state : StoreState) (host : HostId) (user : User) (call : Call) (server : ServerId)
    (name : List ℕ) → StandsFor tree state → user_of tree.roster host ≡ Some user → fileset_of call
    ≡ Some (server, name)
    → server ≡ state.server → is_refusal (kept_reply tree host call) ≡ false
    → (id : FilesetId) × (found_named state name ≡ Some id)
numbered_row tree state host user call server name s known of its accepted = by (named tree state name s)
  where
    by : Named tree state name → (id : FilesetId) × (found_named state name ≡ Some id)
    by (There i f place_is there name_is found known_at own formed) = (f.id, found)
    by (Gone place_none name_none none) =
        let said = none_named tree host user call server name s.is_of.locks s.is_of.opens known of
        (ap (λ v. fileset_place tree v name) its ∙ place_none) (ap (λ v. fileset_named tree v name) its ∙ name_none) in
        absurd (let clash : true ≡ false = sym (ap is_refusal said) ∙ accepted in cc)

pub numbered_for : (tree : Tree) (state : StoreState) (host : HostId) (user : User) (call : Call) → StandsFor tree state
    → user_of tree.roster host ≡ Some user → IsAt state.server call → is_refusal (kept_reply tree host call) ≡ false
    → (id : FilesetId) × (numbered_id state (numbered_name call) ≡ Some id)
numbered_for tree state host user (NewFileset at name objects owner) s known own accepted = (itself, refl)
numbered_for tree state host user (CloneFileset at source new) s known own accepted = (itself, refl)
numbered_for tree state host user (Unlock label) s known own accepted = (itself, refl)
numbered_for tree state host user (CloseFile label) s known own accepted = (itself, refl)
numbered_for tree state host user (MoveFileset at name to) s known own accepted = absurd own
numbered_for tree state host user (Create place) s known own accepted =
    numbered_row tree state host user (Create place) place.server place.fileset s known refl own accepted
numbered_for tree state host user (MakeDir place) s known own accepted =
    numbered_row tree state host user (MakeDir place) place.server place.fileset s known refl own accepted
numbered_for tree state host user (Remove place) s known own accepted =
    numbered_row tree state host user (Remove place) place.server place.fileset s known refl own accepted
numbered_for tree state host user (Rename from to) s known own accepted =
    numbered_row tree state host user (Rename from to) from.server from.fileset s known refl own accepted
numbered_for tree state host user (Truncate place len) s known own accepted =
    numbered_row tree state host user (Truncate place len) place.server place.fileset s known refl own accepted
numbered_for tree state host user (SetAcl place which list) s known own accepted =
    numbered_row tree state host user (SetAcl place which list) place.server place.fileset s known refl own accepted
numbered_for tree state host user (Read place from len) s known own accepted =
    numbered_row tree state host user (Read place from len) place.server place.fileset s known refl own accepted
numbered_for tree state host user (Write place from bytes) s known own accepted =
    numbered_row tree state host user (Write place from bytes) place.server place.fileset s known refl own accepted
numbered_for tree state host user (ListNames place) s known own accepted =
    numbered_row tree state host user (ListNames place) place.server place.fileset s known refl own accepted
numbered_for tree state host user (Stat place) s known own accepted =
    numbered_row tree state host user (Stat place) place.server place.fileset s known refl own accepted
numbered_for tree state host user (GetAcl place which) s known own accepted =
    numbered_row tree state host user (GetAcl place which) place.server place.fileset s known refl own accepted
numbered_for tree state host user (Sync place) s known own accepted =
    numbered_row tree state host user (Sync place) place.server place.fileset s known refl own accepted
numbered_for tree state host user (Lock label place writing from len) s known own accepted =
    numbered_row tree state host user (Lock label place writing from len) place.server place.fileset s known refl own
    accepted
numbered_for tree state host user (OpenFile label place kind) s known own accepted =
    numbered_row tree state host user (OpenFile label place kind) place.server place.fileset s known refl own accepted

pub numbered : (tree : Tree) (state : StoreState) (host : HostId) (call : Call) → StandsFor tree state
    → IsAt state.server call → is_refusal (kept_reply tree host call) ≡ false
    → (id : FilesetId) × (numbered_id state (numbered_name call) ≡ Some id)
numbered tree state host call s own accepted = by (user_of tree.roster host) refl
  where
    by : (o : Option User) → user_of tree.roster host ≡ o
        → (id : FilesetId) × (numbered_id state (numbered_name call) ≡ Some id)
    by None e =
        absurd (let clash : true ≡ false = sym (ap is_refusal (for_none tree host call e)) ∙ accepted in cc)
    by (Some user) e = numbered_for tree state host user call s e own accepted

-- a number behind the last one
next_new : (state : StoreState) (id : FilesetId) (host : HostId)
    → IsNewChange state id host (last_of state host id (λ kept. kept.change) + 1)
next_new state id host records e =
    let told : last_of state host id (λ kept. kept.change) ≡ (record_of records host).change =
    ap (λ o. option_map_or (λ (found : List Record). (record_of found host).change) o 0) e in
    subst (λ (n : ℕ). (record_of records host).change < n + 1) (sym told) (omega arith)

-- what a call leaves
does : (tree : Tree) (state : StoreState) (host : HostId) (number : ℕ) (call : Call) → StandsFor tree state
    → MayDo tree state host number call
    → StandsFor (answer_to tree host call).tree (act_done state (Do host number call)).state
does tree state host number call s may =
    let (id, e) = numbered tree state host call s may.own may.accepted in
    acts_stand.changed tree state host number call id s may.own may.act may.name e (may.new id e) may.accepted

done_more : (cause : Cause) (tree : Tree) (applied : List Applied) (state : StoreState) (number : ℕ) (written : Written)
    → KeepsSo cause tree applied state
    → MayDo (filesets_through cause applied tree) state written.answer.host number written.answer.call
    → is_refusal written.answer.reply ≡ false
    → KeepsSo cause tree (applied ++ Done written ∷ [])
    (act_done state (Do written.answer.host number written.answer.call)).state
done_more cause tree applied state number written s may accepted =
    let next = (act_done state (Do written.answer.host number written.answer.call)).state in
    let before = filesets_through cause applied tree in
    keeps_more cause applied tree (Done written) next
    (subst (λ b. StandsFor (if b then before else (answer_to before written.answer.host written.answer.call).tree) next)
    (sym accepted) (does before state written.answer.host number written.answer.call s may))

-- a call that isn't refused is accepted
accepted_so : (tree : Tree) (state : StoreState) (host : HostId) (number : ℕ) (call : Call) → StandsFor tree state
    → MayDo tree state host number call → kept_reply tree host call ≡ Accepted
accepted_so tree state host number (NewFileset at name objects owner) s may =
    found_to tree host (NewFileset at name objects owner) state.server (ap Some may.own)
    (sym (refusal_is (kept_reply tree host (NewFileset at name objects owner))) ∙ may.accepted)
accepted_so tree state host number (CloneFileset at source new) s may =
    found_to tree host (CloneFileset at source new) state.server (ap Some may.own)
    (sym (refusal_is (kept_reply tree host (CloneFileset at source new))) ∙ may.accepted)
accepted_so tree state host number (Create place) s may =
    (row_to tree host (Create place) refl
    (sym (refusal_is (kept_reply tree host (Create place))) ∙ may.accepted)).accepted
accepted_so tree state host number (MakeDir place) s may =
    (row_to tree host (MakeDir place) refl
    (sym (refusal_is (kept_reply tree host (MakeDir place))) ∙ may.accepted)).accepted
accepted_so tree state host number (Remove place) s may =
    (row_to tree host (Remove place) refl
    (sym (refusal_is (kept_reply tree host (Remove place))) ∙ may.accepted)).accepted
accepted_so tree state host number (Rename from to) s may =
    (row_to tree host (Rename from to) refl
    (sym (refusal_is (kept_reply tree host (Rename from to))) ∙ may.accepted)).accepted
accepted_so tree state host number (Truncate place len) s may =
    (row_to tree host (Truncate place len) refl
    (sym (refusal_is (kept_reply tree host (Truncate place len))) ∙ may.accepted)).accepted
accepted_so tree state host number (SetAcl place which list) s may =
    (row_to tree host (SetAcl place which list) refl
    (sym (refusal_is (kept_reply tree host (SetAcl place which list))) ∙ may.accepted)).accepted
accepted_so tree state host number (Read place from len) s may = absurd may.act.1
accepted_so tree state host number (Write place from bytes) s may = absurd may.act.1
accepted_so tree state host number (ListNames place) s may = absurd may.act.1
accepted_so tree state host number (Stat place) s may = absurd may.act.1
accepted_so tree state host number (GetAcl place which) s may = absurd may.act.1
accepted_so tree state host number (Sync place) s may = absurd may.act.1
accepted_so tree state host number (Lock label place writing from len) s may = absurd may.act.1
accepted_so tree state host number (Unlock label) s may = absurd may.act.1
accepted_so tree state host number (OpenFile label place kind) s may = absurd may.act.1
accepted_so tree state host number (CloseFile label) s may = absurd may.act.1
accepted_so tree state host number (MoveFileset at name to) s may = absurd may.own

does_so : (tree : Tree) (state : StoreState) (host : HostId) (number : ℕ) (call : Call) → StandsFor tree state
    → MayDo tree state host number call
    → (act_done state (Do host number call)).done ≡ now_done (kept_reply tree host call)
does_so tree state host number call s may =
    let (id, e) = numbered tree state host call s may.own may.accepted in
    let does = changes_are_kept tree state host number call id s may.own may.act may.name e
    (may.new id e) may.accepted in
    does.done ∙ ap now_done (sym (accepted_so tree state host number call s may))

pub drafts_stand : DraftsStand
drafts_stand = record {
  none = λ cause tree state s. s;
  all = λ start server steps step state s. s;
  idle = λ cause tree applied state x left s.
      keeps_more cause applied tree x state
      (subst (λ t. StandsFor t state) (sym (left_same cause (filesets_through cause applied tree) x left)) s);
  done = done_more;
  replied = does_so;
  numbered = numbered;
  next = next_new;
  refused = λ cause tree applied state host id number refusal s act.
      acts_stand.refused (filesets_through cause applied tree) state host id number refusal s act;
  given = λ cause tree applied state host number fid spans pieces given s from rise new act.
      (let next = (act_done state (Give host number fid pieces given)).state in
      let before = filesets_through cause applied tree in
      keeps_more cause applied tree (Stored host fid spans given) next
      (subst (λ ps. StandsFor (tree_given before fid ps given) next) (sym from)
      (acts_stand.given before state host number fid pieces given s new rise act)));
  host = λ cause tree applied state host known s act.
      acts_stand.host (filesets_through cause applied tree) state host known s act;
  epoch = λ cause tree applied state s. acts_stand.epoch (filesets_through cause applied tree) state s;
}
